-- The mark that a text says, as a value and as a relation.
use Rattle.std.proofs.Common.{◌≡◌, ℕ, ◌⊎◌, inl, inr, List, [], ◌∷◌, ◌++◌, true, Option, Some, None, refl, sym, ap, subst, ◌∙◌, arith, eqb-true, ne_eqb}
use Rattle.std.specs.Prelude.{IsTrue, codes}
use Rattle.std.specs.Bool.{then_some}
use Rattle.std.specs.List.{before_first, after_first, list_all}
use Rattle.ftp_settings.specs.Marker.{is_marker_octet}
use Rattle.ftp_endpoint.specs.Number.{SaysNumber}
use Rattle.ftp_facts.specs.Value.{and_then, is_space, number_value}
use Rattle.ftp_facts.proofs.CutLemmas.{then_is, is_then, Fails, IsCut, cut_first, first_cut}
use Rattle.ftp_facts.proofs.NumberLemmas.{given_is, is_given, both, at_most, number_says, says_number}
use Rattle.ftp_reply.specs.Values.{SaysMark, behind_text, is_marker, mark_behind, mark_value}
use Rattle.ftp_reply.proofs.FrontLemmas.{behind_is, is_behind}

-- a marker has no SP
no_space : (text : List ℕ) → list_all is_marker_octet text ≡ true → Fails is_space text
no_space [] all = tt
no_space (c ∷ text) all =
    let parts = both (is_marker_octet c) (list_all is_marker_octet text) all in
    let least = at_most 33 c (both _ _ parts.0).0 in
    (ne_eqb c 32 (λ e. absurd (omega (arith, e, least))), no_space text parts.1)

mark_read : (rest : List ℕ) (mark : ℕ) → mark_behind rest ≡ Some mark → (theirs digits : List ℕ) × IsTrue (is_marker theirs) × SaysNumber digits mark × (rest ≡ theirs ++ (codes " = " ++ digits))
mark_read rest mark e =
    let step = then_is (then_some (is_marker (before_first is_space rest)) (after_first is_space rest)) (λ more. and_then (behind_text (codes "= ") more) number_value) mark e in
    let first = given_is (is_marker (before_first is_space rest)) (after_first is_space rest) step.0 step.1 in
    let last = then_is (behind_text (codes "= ") step.0) number_value mark step.2 in
    let more : after_first is_space rest ≡ codes "= " ++ last.0 = first.1 ∙ behind_is (codes "= ") step.0 last.0 last.1 in
    let number : SaysNumber last.0 mark = number_says last.0 mark last.2 in
    (before_first is_space rest, last.0, first.0, number, rest_is last.0 more (cut_first is_space rest))
  where
    rest_is : (digits : List ℕ) → after_first is_space rest ≡ codes "= " ++ digits
        → (Fails is_space rest × (after_first is_space rest ≡ [])) ⊎ IsCut is_space rest → rest ≡ before_first is_space rest ++ (codes " = " ++ digits)
    rest_is digits more (inl none) = absurd (let f : [] ≡ 61 ∷ 32 ∷ digits = sym none.1 ∙ more in cc)
    rest_is digits more (inr cut) =
        let space : cut.octet ≡ 32 = eqb-true cut.octet 32 cut.passes in
        cut.text_is ∙ (λ i. before_first is_space rest ++ space i ∷ more i)

pub mark_says : (text : List ℕ) (mark : ℕ) → mark_value text ≡ Some mark → SaysMark text mark
unfolding mark_value
mark_says text mark e =
    let step = then_is (behind_text (codes "MARK ") text) mark_behind mark e in
    let read = mark_read step.0 mark step.2 in
    record {
      theirs = read.0;
      digits = read.1;
      marker = read.2;
      number = read.3;
      text_is = behind_is (codes "MARK ") text step.0 step.1 ∙ ap (λ l. codes "MARK " ++ l) read.4;
    }

pub says_mark : (text : List ℕ) (mark : ℕ) → SaysMark text mark → mark_value text ≡ Some mark
unfolding mark_value
says_mark text mark s =
    let more : List ℕ = codes "= " ++ s.digits in
    let rest : List ℕ = s.theirs ++ 32 ∷ more in
    let cut = first_cut is_space s.theirs 32 more (no_space s.theirs (both _ _ s.marker).1) refl in
    let number : number_value s.digits ≡ Some mark = says_number s.digits mark s.number in
    let last : and_then (behind_text (codes "= ") more) number_value ≡ Some mark = is_then (behind_text (codes "= ") more) number_value s.digits mark (is_behind (codes "= ") s.digits) number in
    let P : List ℕ → Type 0 = λ l. is_marker l ≡ true in
    let marker : is_marker (before_first is_space rest) ≡ true = subst P (sym cut.0) s.marker in
    let found : then_some (is_marker (before_first is_space rest)) (after_first is_space rest) ≡ Some more =
    is_given (is_marker (before_first is_space rest)) (after_first is_space rest) marker ∙ ap Some cut.1 in
    let behind : mark_behind rest ≡ Some mark =
    is_then (then_some (is_marker (before_first is_space rest)) (after_first is_space rest)) (λ l. and_then (behind_text (codes "= ") l) number_value) more mark found last in
    ap mark_value s.text_is ∙ is_then (behind_text (codes "MARK ") (codes "MARK " ++ rest)) mark_behind rest mark (is_behind (codes "MARK ") rest) behind

pub no_mark : (text : List ℕ) → ((mark : ℕ) → ¬ SaysMark text mark) → mark_value text ≡ None
no_mark text none = by_value (mark_value text) refl
  where
    by_value : (value : Option ℕ) → mark_value text ≡ value → value ≡ None
    by_value None e = refl
    by_value (Some mark) e = absurd (none mark (mark_says text mark e))
