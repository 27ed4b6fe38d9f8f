use Rattle.std.proofs.Common.{◌≡◌, ◌∙◌, ap, arith, drop, sym}
use Rattle.tool_listing.specs.pattern.Pattern.{matches, some_rest}
use Rattle.tool_listing.proofs.pattern.PatternLemmas.{fits_matches, met_apart, met_fits, met_whole}
use Rattle.tool_listing.proofs.pattern.pattern.matches.Goals as goal

pub returns-in-Whole : goal.returns-in-Whole
returns-in-Whole c = sym (met_whole c.args.pattern.now c.args.text.now 0 (sym c.met.ensures ∙ c.in-Whole.is))

pub returns-in-Apart : goal.returns-in-Apart
returns-in-Apart c = sym (met_apart c.args.pattern.now c.args.text.now 0 (sym c.met.ensures ∙ c.in-Apart.is))

pub returns-in-Star : goal.returns-in-Star
returns-in-Star c =
    let p = c.args.pattern.now in
    let t = c.args.text.now in
    let n = c.in-Star.count in
    let pattern : c.past-in-Star.result.now ≡ drop 1 (drop n p) = c.past-in-Star.ensures ∙ ap (drop 1) c.past.ensures in
    c.floats.ensures ∙ ap (λ q. some_rest (matches q) c.past-in-Star-2.result.now) pattern
    ∙ ap (some_rest (matches (drop 1 (drop n p)))) c.past-in-Star-2.ensures
    ∙ sym (fits_matches n p t (met_fits p t 0 n n (omega arith) (sym c.met.ensures ∙ c.in-Star.is)))
