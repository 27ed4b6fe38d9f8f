use Rattle.std.proofs.Common.{ℕ, List, ◌∷◌, ◌++◌, ◌∙◌, sym, subst}
use Rattle.ftp_endpoint.specs.Endpoint.{EndsWithPort}
use Rattle.ftp_endpoint.specs.Number.{IsPort}
use Rattle.ftp_endpoint.proofs.ExtendedLemmas.{at_in, before_is, digits_are, front_of}
use Rattle.ftp_endpoint.proofs.OutcomeLemmas.{if_none}
use Rattle.ftp_endpoint.proofs.extended.port_behind.Goals as goal

pub returns-in_err-front-clause-none : goal.returns-in_err-front-clause-none
returns-in_err-front-clause-none c =
    let none : (address : List ℕ) (port : ℕ) → EndsWithPort c.args.d c.args.text.now address port → ⊥ = λ address port h.
    c.in_err-front.ensures.none (address ++ c.args.d ∷ h.digits) (front_of c.args.d c.args.text.now address port h) in
    if_none _ _ none

pub returns-in_err-address-clause-none : goal.returns-in_err-address-clause-none
returns-in_err-address-clause-none c =
    let front = c.in_ok-front.ensures.some in
    let cut = c.digits_behind-at.ensures in
    let none : (address : List ℕ) (port : ℕ) → EndsWithPort c.args.d c.args.text.now address port → ⊥ = λ address port h.
    let at = at_in c.args.d c.args.text.now address c.in_ok-front.front.now port c.digits_behind-at.result c.requires h front cut.within cut.all cut.stop in
    c.in_err-address.ensures.none address (c.split_at.ensures.front ∙ before_is c.args.d c.args.text.now address c.in_ok-front.front.now port c.digits_behind-at.result h front at) in
    if_none _ _ none

pub returns-in_err-port-clause-none : goal.returns-in_err-port-clause-none
returns-in_err-port-clause-none c =
    let front = c.in_ok-front.ensures.some in
    let cut = c.digits_behind-at.ensures in
    let P : List ℕ → Type 0 = λ x. IsPort x in
    let none : (address : List ℕ) (port : ℕ) → EndsWithPort c.args.d c.args.text.now address port → ⊥ = λ address port h.
    let at = at_in c.args.d c.args.text.now address c.in_ok-front.front.now port c.digits_behind-at.result c.requires h front cut.within cut.all cut.stop in
    let digits = c.split_at.ensures.back ∙ digits_are c.args.d c.args.text.now address c.in_ok-front.front.now port c.digits_behind-at.result h front at in
    c.in_err-port.ensures (subst P (sym digits) h.number.0) in
    if_none _ _ none
