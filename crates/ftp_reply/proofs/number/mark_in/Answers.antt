use Rattle.std.proofs.Common.{◌≡◌, ◌++◌, ℕ, List, true, false, codes, sym, ◌∙◌, subst}
use Rattle.ftp_endpoint.specs.Number.{IsNumber}
use Rattle.ftp_reply.specs.Values.{is_marker}
use Rattle.ftp_reply.proofs.FirstLemmas.{not_there}
use Rattle.ftp_reply.proofs.MarkLemmas.{mark_rest, theirs_once, behind_once}
use Rattle.ftp_reply.proofs.number.mark_in.Goals as goal

pub returns-in_default-cut_at-clause-none : goal.returns-in_default-cut_at-clause-none
returns-in_default-cut_at-clause-none c = λ mark says.
    let rest = mark_rest c.args.text.now c.in-Some.rest.now mark c.in-Some.ensures.some says in
    not_there 32 c.in-Some.rest.now says.theirs (codes "= " ++ says.digits) c.in_default-cut_at.ensures.none rest

pub returns-then-not-is_marker-clause-none : goal.returns-then-not-is_marker-clause-none
returns-then-not-is_marker-clause-none c = λ mark says.
    let rest = mark_rest c.args.text.now c.in-Some.rest.now mark c.in-Some.ensures.some says in
    let cut = c.in-Some-cut_at.ensures in
    let theirs = theirs_once c.in-Some.rest.now c.in-Some-cut_at.theirs.now c.in-Some-cut_at.behind.now says.theirs (codes "= " ++ says.digits) cut.first says.marker cut.some rest in
    let yes : c.is_marker.result ≡ true = c.is_marker.ensures ∙ subst (λ (t : List ℕ). is_marker t ≡ true) theirs says.marker in
    let never : true ≡ false = sym yes ∙ c.if-not-is_marker.true in
    cc

pub returns-in_default-behind_sign-clause-none : goal.returns-in_default-behind_sign-clause-none
returns-in_default-behind_sign-clause-none c = λ mark says.
    let rest = mark_rest c.args.text.now c.in-Some.rest.now mark c.in-Some.ensures.some says in
    let cut = c.in-Some-cut_at.ensures in
    c.in_default-behind_sign.ensures.none says.digits (behind_once c.in-Some.rest.now c.in-Some-cut_at.theirs.now c.in-Some-cut_at.behind.now says.theirs (codes "= " ++ says.digits) cut.first says.marker cut.some rest)

pub returns-in-None-clause-none : goal.returns-in-None-clause-none
returns-in-None-clause-none c = λ mark says.
    let rest = mark_rest c.args.text.now c.in-Some.rest.now mark c.in-Some.ensures.some says in
    let cut = c.in-Some-cut_at.ensures in
    let behind = behind_once c.in-Some.rest.now c.in-Some-cut_at.theirs.now c.in-Some-cut_at.behind.now says.theirs (codes "= " ++ says.digits) cut.first says.marker cut.some rest in
    let both : codes "= " ++ says.digits ≡ codes "= " ++ c.in-Some-behind_sign.digits.now = sym behind ∙ c.in-Some-behind_sign.ensures.some in
    let digits : says.digits ≡ c.in-Some-behind_sign.digits.now = cc in
    c.in-None.ensures.says (subst (λ (t : List ℕ). IsNumber t) digits says.number.0)
