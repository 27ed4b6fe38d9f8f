use Rattle.std.proofs.Common.{◌≡◌, ◌∙◌, ◌++◌, OnOk, ap, append_assoc, subst}
use Rattle.tool_log.specs.Json.{escape, high_surrogate}
use Rattle.tool_log.proofs.json.put_pair.Goals as goal

pub returns : goal.returns
returns c =
    let old = c.args.out.now.items in
    let new = c.put_escape-2.new.out.items in
    let high = escape (high_surrogate c.args.code) in
    let low = escape c.low_surrogate.result in
    let first = c.in_ok-put_escape.ensures ∙ ap (λ unit. old ++ escape unit) c.high_surrogate.ensures.is in
    let both = subst (λ items. OnOk c.put_escape-2.result (new ≡ items))
    (ap (λ front. front ++ low) first ∙ append_assoc old high low) c.put_escape-2.ensures in
    subst (λ unit. OnOk c.put_escape-2.result (new ≡ old ++ (high ++ escape unit))) c.low_surrogate.ensures.is both
