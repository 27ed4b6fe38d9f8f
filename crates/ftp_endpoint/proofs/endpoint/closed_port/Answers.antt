use Rattle.std.proofs.Common.{◌≡◌, ℕ, List, ◌∷◌, ◌∙◌, sym, ap, subst}
use Rattle.std.specs.Str.Parse.{digits_value}
use Rattle.ftp_endpoint.specs.Endpoint.{ClosesWithPort}
use Rattle.ftp_endpoint.specs.Number.{IsPort, behind_digits}
use Rattle.ftp_endpoint.proofs.EndpointLemmas.{closed, closes}
use Rattle.ftp_endpoint.proofs.OutcomeLemmas.{if_none, iff_none, iff_some}
use Rattle.ftp_endpoint.proofs.endpoint.closed_port.Goals as goal

pub returns-in_err-behind-clause-none : goal.returns-in_err-behind-clause-none
returns-in_err-behind-clause-none c =
    let no : (port : ℕ) → ClosesWithPort c.args.d c.args.text.now port → ⊥ = λ port h.
    let parts = closed c.args.d c.args.text.now port c.requires h in
    c.in_err-behind.ensures.none (41 ∷ parts.more) (c.split_digits.ensures.behind ∙ parts.behind) in
    if_none _ _ no

pub returns-in_err-after-clause-none : goal.returns-in_err-after-clause-none
returns-in_err-after-clause-none c =
    let no : (port : ℕ) → ClosesWithPort c.args.d c.args.text.now port → ⊥ = λ port h.
    let parts = closed c.args.d c.args.text.now port c.requires h in
    let whole = sym (c.split_digits.ensures.behind ∙ parts.behind) ∙ c.in_ok-behind.ensures.some in
    c.in_err-after.ensures.none parts.more cc in
    if_none _ _ no

pub returns-clause-some : goal.returns-clause-some
returns-clause-some c =
    let text = c.args.text.now in
    let front = c.split_digits.ensures.front in
    let behind = c.split_digits.ensures.behind in
    let first = c.in_ok-behind.ensures.some in
    let second = c.in_ok-after.ensures.some in
    let whole : behind_digits c.args.text.now ≡ c.args.d ∷ 41 ∷ c.in_ok-after.field-0.now = cc in
    let digits : List ℕ → Type 0 = λ x. IsPort x in
    let value : (n : ℕ) → IsPort c.split_digits.result.0.now → n ≡ digits_value 10 c.split_digits.result.0.now → ClosesWithPort c.args.d c.args.text.now n = λ n is at.
    closes c.args.d text n c.in_ok-after.field-0.now whole (subst digits front is, at ∙ ap (λ x. digits_value 10 x) front) in
    iff_some _ _ _ _ c.port.ensures value

pub returns-clause-none : goal.returns-clause-none
returns-clause-none c =
    let front = c.split_digits.ensures.front in
    let digits : List ℕ → Type 0 = λ x. IsPort x in
    let none : (IsPort c.split_digits.result.0.now → ⊥) → (port : ℕ) → ClosesWithPort c.args.d c.args.text.now port → ⊥ = λ not_port port h.
    let parts = closed c.args.d c.args.text.now port c.requires h in
    not_port (subst digits (sym front) parts.number.0) in
    iff_none _ _ _ _ c.port.ensures none
