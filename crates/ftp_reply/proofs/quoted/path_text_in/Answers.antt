use Rattle.std.proofs.Common.{◌≡◌, ◌<◌, true, false, length, sym, ap, ◌∙◌, subst, arith}
use Rattle.std.specs.Option.{unwrap_or}
use Rattle.ftp_path.specs.Path.{IsPathText, text_limit}
use Rattle.ftp_reply.proofs.FirstLemmas.{not_there}
use Rattle.ftp_reply.proofs.PathValueLemmas.{no_path, says_path, says_quoted}
use Rattle.ftp_reply.proofs.QuotedLemmas.{path_text-short, quotes_closes, closed_quotes}
use Rattle.ftp_reply.proofs.quoted.path_text_in.Goals as goal

pub returns-in_default : goal.returns-in_default
returns-in_default c = sym (no_path c.args.text.now (λ path named. not_there 34 c.args.text.now named.quoted.before named.quoted.inside c.in_default.ensures.none named.quoted.text_is))

pub returns-in_default-path_in : goal.returns-in_default-path_in
returns-in_default-path_in c = sym (no_path c.args.text.now (λ path named.
    let cut = c.in-Some.ensures in
    let closes = quotes_closes c.args.text.now c.in-Some.field-0-0.now c.in-Some.inside.now path cut.some cut.first named.quoted in
    let long : text_limit < length path = c.in_default-path_in.ensures.none path closes.0 closes.1 in
    absurd (omega (arith, path_text-short path named.is_path, long))))

pub returns-then-not-is_path_text : goal.returns-then-not-is_path_text
returns-then-not-is_path_text c = sym (no_path c.args.text.now (λ path named.
    let text = c.args.text.now in
    let cut = c.in-Some.ensures in
    let read = c.in-Some-path_in.path.items in
    let closes = c.in-Some-path_in.ensures.some in
    let quoted = says_quoted text read (closed_quotes text c.in-Some.field-0-0.now c.in-Some.inside.now read closes.0 cut.some cut.first closes.1) in
    let same : path ≡ read = ap (λ o. unwrap_or o path) (sym (says_quoted text path named.quoted) ∙ quoted) in
    let yes : c.is_path_text.result ≡ true = c.is_path_text.ensures.1 (subst IsPathText (same ∙ sym c.as_slice.ensures.value) named.is_path) in
    let never : true ≡ false = sym yes ∙ c.if-not-is_path_text.true in
    cc))

pub returns : goal.returns
returns c =
    let text = c.args.text.now in
    let cut = c.in-Some.ensures in
    let read = c.in-Some-path_in.path.items in
    let closes = c.in-Some-path_in.ensures.some in
    let is : IsPathText read = subst IsPathText c.as_slice.ensures.value (c.is_path_text.ensures.0 c.if-not-is_path_text.false) in
    sym (says_path text read (record { quoted = closed_quotes text c.in-Some.field-0-0.now c.in-Some.inside.now read closes.0 cut.some cut.first closes.1; is_path = is }))
