use Rattle.std.proofs.Common.{◌≡◌, ℕ, List, ◌∷◌, get_or, subst}
use Rattle.ftp_endpoint.specs.Endpoint.{BeginsWithPort, ClosesWithPort}
use Rattle.ftp_endpoint.proofs.OutcomeLemmas.{none_weaker}
use Rattle.ftp_endpoint.proofs.endpoint.port_in_front.Goals as goal

pub returns-clause-none : goal.returns-clause-none
returns-clause-none c =
    let first : c.args.text.now ≡ 40 ∷ c.in_ok-text.text.now = c.in_ok-text.ensures.some in
    let d : ℕ = get_or c.in_ok-text.text.now 0 0 in
    let second : c.in_ok-text.text.now ≡ d ∷ c.in_ok-text-2.text.now = c.in_ok-text-2.ensures.some in
    let third : c.in_ok-text-2.text.now ≡ d ∷ c.in_ok-text-3.text.now = c.in_ok-text-3.ensures.some in
    let fourth : c.in_ok-text-3.text.now ≡ d ∷ c.in_ok-text-4.text.now = c.in_ok-text-4.ensures.some in
    let none : ((port : ℕ) → ClosesWithPort d c.in_ok-text-4.text.now port → ⊥) → (port : ℕ) → BeginsWithPort c.args.text.now port → ⊥ = λ not_closed port h.
    let whole = h.text_is in
    let same_d : h.d ≡ d = cc in
    let same_rest : h.rest ≡ c.in_ok-text-4.text.now = cc in
    let P : List ℕ → Type 0 = λ x. ClosesWithPort d x port in
    let Q : ℕ → Type 0 = λ x. ClosesWithPort x h.rest port in
    not_closed port (subst P same_rest (subst Q same_d h.closes)) in
    none_weaker _ _ _ c.closed_port.ensures.none none
