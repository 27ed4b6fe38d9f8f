-- A text says one mark, at one place.
use Rattle.std.proofs.Common.{◌≡◌, ◌≢◌, ℕ, [], ◌∷◌, ◌++◌, true, All, IsTrue, codes, sym, ◌∙◌, arith}
use Rattle.std.specs.List.{list_all}
use Rattle.std.proofs.lemmas.List.Elements.{All-nil, All-cons}
use Rattle.ftp_settings.specs.Marker.{is_marker_octet}
use Rattle.ftp_facts.proofs.NumberLemmas.{at_most, both}
use Rattle.ftp_reply.specs.Lines.{Text}
use Rattle.ftp_reply.specs.Values.{SaysMark, is_marker}
use Rattle.ftp_reply.proofs.FirstLemmas.{first_once, before_once}

-- a marker has no SP
pub no_space : (text : Text) → IsTrue (is_marker text) → All (λ x. x ≢ 32) text
no_space text marker = visible text (both _ _ marker).1
  where
    visible : (text : Text) → list_all is_marker_octet text ≡ true → All (λ x. x ≢ 32) text
    visible [] all = All-nil (λ x. x ≢ 32)
    visible (c ∷ text) all =
        let parts = both (is_marker_octet c) (list_all is_marker_octet text) all in
        let least = at_most 33 c (both _ _ parts.0).0 in
        All-cons (λ x. x ≢ 32) c text (λ is. omega (arith, least, is)) (visible text parts.1)

-- what is behind the word and SP
pub mark_rest : (text rest : Text) (mark : ℕ) → text ≡ codes "MARK " ++ rest → (says : SaysMark text mark) → rest ≡ says.theirs ++ 32 ∷ (codes "= " ++ says.digits)
mark_rest text rest mark e says = let f = sym e ∙ says.text_is in cc

pub theirs_once : (rest theirs behind theirs' behind' : Text) → All (λ x. x ≢ 32) theirs → IsTrue (is_marker theirs') → rest ≡ theirs ++ 32 ∷ behind → rest ≡ theirs' ++ 32 ∷ behind' → theirs' ≡ theirs
theirs_once rest theirs behind theirs' behind' first marker e e' = sym (before_once 32 theirs behind theirs' behind' first (no_space theirs' marker) (sym e ∙ e'))

pub behind_once : (rest theirs behind theirs' behind' : Text) → All (λ x. x ≢ 32) theirs → IsTrue (is_marker theirs') → rest ≡ theirs ++ 32 ∷ behind → rest ≡ theirs' ++ 32 ∷ behind' → behind ≡ behind'
behind_once rest theirs behind theirs' behind' first marker e e' = first_once 32 theirs behind theirs' behind' first (no_space theirs' marker) (sym e ∙ e')
