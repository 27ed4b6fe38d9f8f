use Rattle.std.proofs.Common.{◌≡◌, ℕ, List, ◌∷◌, ◌∙◌, ap, sym, subst}
use Rattle.ftp_endpoint.specs.Endpoint.{EndsWithPort, HasShape}
use Rattle.ftp_endpoint.specs.Number.{behind_digits}
use Rattle.ftp_endpoint.proofs.OutcomeLemmas.{if_none}
use Rattle.ftp_endpoint.proofs.extended.shape.Goals as goal

pub returns-in_err-address-clause-none : goal.returns-in_err-address-clause-none
returns-in_err-address-clause-none c =
    let first : c.args.text.now ≡ c.in_ok-d.d ∷ c.in_ok-d.rest.now = c.in_ok-d.ensures.some in
    let cut = c.split_digits.ensures.behind in
    let next = c.in_ok-more.ensures.some in
    let none : (proto : ℕ) (address : List ℕ) (port : ℕ) → HasShape c.args.text.now proto address port → ⊥ = λ proto address port h.
    let whole = h.text_is in
    let same_d : h.d ≡ c.in_ok-d.d = cc in
    let same_rest : h.rest ≡ c.in_ok-d.rest.now = cc in
    let behind : h.d ∷ h.more ≡ c.in_ok-d.d ∷ c.in_ok-more.more.now = sym h.behind ∙ (ap behind_digits same_rest ∙ (sym cut ∙ next)) in
    let same_more : h.more ≡ c.in_ok-more.more.now = cc in
    let P : ℕ → Type 0 = λ x. EndsWithPort x h.more address port in
    let Q : List ℕ → Type 0 = λ x. EndsWithPort c.in_ok-d.d x address port in
    c.in_err-address.ensures.none address port (subst Q same_more (subst P same_d h.ends)) in
    if_none _ _ none
