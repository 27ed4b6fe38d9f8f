-- What of an upload is given.
use Rattle.std.proofs.Common.{◌≡◌, ◌∙◌, ◌↔◌, ◌⊎◌, inl, inr, ◌++◌, ℕ, ◌+◌, ◌≤◌, ◌<◌, Bool, true, false, List, [], ◌∷◌, Option, IsTrue, length, min, take, drop, nat_le, refl, sym, ap, arith, append-nil}
use Rattle.std.proofs.Math.Nat.{min-eq_left, min-eq_right}
use Rattle.std.proofs.Math.Seq.{take-append_seam, drop-append_seam}
use Rattle.std.proofs.lemmas.Bool.{leb-true, le-leb}
use Rattle.std.proofs.lemmas.List.{drop-drop, drop_all, length-append, length-drop, length-take-le}
use Rattle.std.specs.Prelude.{if◌then◌else◌}
use Rattle.ftp_client_model.specs.Dialogue.{is_given}
use Rattle.ftp_client_model.specs.Octets.{written}
use Rattle.ftp_client_model.specs.View.{Sending}
use Rattle.ftp_mode.specs.Block.{marked_text}
use Rattle.ftp_mode.specs.Wire.{wire}
use Rattle.ftp_wire.proofs.EncodingLemmas.{nothing_left}
use Rattle.ftp_wire.specs.Encoding.{is_done, still_to_give}
use Rattle.ftp_wire.specs.declared.encoder.Encoder.{Encoder}
use Rattle.ftp_settings.specs.Representation.{form_of}
use Rattle.ftp_settings.specs.declared.representation.Representation.{Representation}

-- with own markers where the settings allow them
pub written_if : (b : Bool) (settings : Representation) (start : ℕ) (octets : List ℕ)
    → (if b then marked_text start octets else wire settings.mode (form_of settings) octets) ≡ written b settings start octets
written_if true settings start octets = refl
written_if false settings start octets = refl

-- all is given where nothing is left
pub given_of : (b : Bool) (left : List ℕ) (mark : Option ℕ) → IsTrue b ↔ (left ≡ []) → b ≡ is_given (Sending left mark)
given_of true [] mark is = refl
given_of true (octet ∷ left) mark is = absurd (cc (is.0 refl))
given_of false [] mark is = is.1 refl
given_of false (octet ∷ left) mark is = refl

-- nothing is left behind the last octet
pub at_end : (octets : List ℕ) (at : ℕ) → IsTrue (nat_le (length octets) at) ↔ (drop at octets ≡ [])
at_end octets at = (
  (λ past. drop_all at octets (omega (arith, leb-true (length octets) at past))),
  (λ none. le-leb (length octets) at (omega (arith, sym (length-drop at octets) ∙ ap length none))),
)

-- the octets from a place on were put, of which so many were taken
pub gives : (old new : List ℕ → List ℕ) (octets rest made : List ℕ) (at taken : ℕ) → rest ≡ drop at octets
    → ((more : List ℕ) → (IsTrue true → more ≡ []) → old (rest ++ more) ≡ made ++ new (drop taken rest ++ more))
    → old (drop at octets) ≡ made ++ new (drop (at + taken) octets)
gives old new octets rest made at taken is puts =
    sym (ap old (append-nil rest ∙ is))
    ∙ puts [] (λ last. refl)
    ∙ ap (λ l. made ++ new l) (append-nil (drop taken rest) ∙ ap (drop taken) is ∙ drop-drop taken at octets)

-- what was made is in front of what was left
pub made_within : (left behind room : List ℕ) (made : ℕ) → made ≤ length room → left ≡ take made room ++ behind → made ≤ length left
made_within left behind room made within is =
    omega (arith, length-take-le made room within, ap length is ∙ length-append (take made room) behind)

pub made_front : (left behind room : List ℕ) (made : ℕ) → made ≤ length room → left ≡ take made room ++ behind → take made room ≡ take made left
made_front left behind room made within is =
    sym (ap (take made) is ∙ ap (λ n. take n (take made room ++ behind)) (sym (length-take-le made room within)) ∙ take-append_seam (take made room) behind)

pub made_behind : (left behind room : List ℕ) (made : ℕ) → made ≤ length room → left ≡ take made room ++ behind → behind ≡ drop made left
made_behind left behind room made within is =
    sym (ap (drop made) is ∙ ap (λ n. drop n (take made room ++ behind)) (sym (length-take-le made room within)) ∙ drop-append_seam (take made room) behind)

-- the room is full or nothing was left, so it was the most
pub made_most : (left behind room : List ℕ) (made wide : ℕ) → length room ≡ wide → made ≤ wide → left ≡ take made room ++ behind
    → (made ≡ wide) ⊎ (behind ≡ []) → made ≡ min wide (length left)
made_most left behind room made wide long within is (inl full) =
    full ∙ sym (min-eq_left (omega (arith, full, made_within left behind room made (omega (arith, long, within)) is)))
made_most left behind room made wide long within is (inr none) =
    let all : length left ≡ made =
    ap length is ∙ length-append (take made room) behind ∙ ap (λ b. length (take made room) + length b) none
    ∙ omega (arith, length-take-le made room (omega (arith, long, within))) in
    sym (min-eq_right (omega (arith, all, within)) ∙ all)

-- the room is full, or behind the last octet of the piece nothing is left
pub all_out : (e : Encoder) (file : List ℕ) (made wide taken piece : ℕ) → (made ≡ wide) ⊎ ((taken ≡ piece) × (IsTrue true → is_done e ≡ true))
    → (made ≡ wide) ⊎ (still_to_give e file ≡ [])
all_out e file made wide taken piece (inl full) = inl full
all_out e file made wide taken piece (inr all) = inr (nothing_left e (all.1 refl) file)
