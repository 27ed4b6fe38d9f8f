-- A text that another begins with.
use Rattle.std.proofs.Common.{◌≡◌, ℕ, List, [], ◌∷◌, ◌++◌, Some, refl, ap, ◌∙◌, length, drop}
use Rattle.std.specs.Prelude.{nat_eq}
use Rattle.std.specs.List.{starts_with}
use Rattle.std.proofs.lemmas.Bool.Decides.{Decides-eqb}
use Rattle.std.proofs.lemmas.Slice.Eq.{starts_is}
use Rattle.ftp_facts.proofs.NumberLemmas.{given_is, is_given}
use Rattle.ftp_reply.specs.Values.{behind_text}

pub behind_is : (front text rest : List ℕ) → behind_text front text ≡ Some rest → text ≡ front ++ rest
behind_is front text rest e =
    let g = given_is (starts_with nat_eq text front) (drop (length front) text) rest e in
    (starts_is Decides-eqb text front (starts_with nat_eq text front) refl).0 g.0 ∙ ap (λ l. front ++ l) g.1

pub drop_front : (front rest : List ℕ) → drop (length front) (front ++ rest) ≡ rest
drop_front [] rest = refl
drop_front (c ∷ front) rest = drop_front front rest

pub is_behind : (front rest : List ℕ) → behind_text front (front ++ rest) ≡ Some rest
is_behind front rest =
    let starts = (starts_is Decides-eqb (front ++ rest) front (starts_with nat_eq (front ++ rest) front) refl).1 rest refl in
    is_given (starts_with nat_eq (front ++ rest) front) (drop (length front) (front ++ rest)) starts ∙ ap Some (drop_front front rest)
