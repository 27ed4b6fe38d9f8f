-- What is settled of an item, and where it stops.
use Rattle.std.proofs.Common.{◌≡◌, ℕ, zero, suc, inl, inr, ◌⊎◌, ◌+◌, ◌<◌, ◌≤◌, List, [], ◌∷◌, ◌++◌, length, take, drop, refl, ap, sym, ◌∙◌, arith, append_assoc, length-append, length-drop}
use Rattle.std.proofs.Math.Seq.{take-add}
use Rattle.std.proofs.lemmas.List.{take-append-drop}
use Rattle.ftp_pieces.specs.Machine.{after, gives}
use Rattle.ftp_pieces.proofs.MachineLemmas.{after-append, gives-append}
use Rattle.ftp_repr.specs.Signs.{Sign}
use Rattle.ftp_repr.specs.Receiving.{receiving}
use Rattle.ftp_repr.specs.Received.{Lends, lent_octets, comes_with, settled_by, receiver_form, taking_at_stage}
use Rattle.ftp_repr.specs.declared.item.Lent.{Lent}
use Rattle.ftp_repr.specs.declared.receiver.Receiver.{Receiver}
use Rattle.ftp_wire.specs.Decoder.{Decoder}
use Rattle.ftp_wire.specs.Taking.{decoder_at, settled, EndsShort, Stops, StopsBy, HasNoRoom, HasNoRoomBy}
use Rattle.ftp_wire.specs.declared.decoded.Decoded.{Decoded}
use Rattle.ftp_wire.specs.declared.decoded.Decoded.TheVariants.{More, Faulty, Over, NoMemory}
use Rattle.ftp_wire.specs.declared.intake.Stopped.{Stopped}
use Rattle.ftp_wire.specs.declared.intake.Intake.{Intake}
use Rattle.ftp_mode.specs.Said.{file_signs}
use Rattle.ftp_mode.specs.Deframing.{owed}
use Rattle.ftp_wire.proofs.HearLemmas.{same}

pub settled-append : (d : Decoder) (ss ts : List Sign) → settled d (ss ++ ts) ≡ settled (settled d ss) ts
settled-append d ss ts =
    let m = receiving d.form in
    same (settled d (ss ++ ts)) (settled (settled d ss) ts) refl refl (after-append m d.taking ss ts)
    (ap (λ l. d.content ++ l) (gives-append m d.taking ss ts) ∙ sym (append_assoc d.content (gives m d.taking ss) (gives m (after m d.taking ss) ts)))

pub settled_len : (d : Decoder) (ss : List Sign) → length (settled d ss).content ≡ length d.content + length (gives (receiving d.form) d.taking ss)
settled_len d ss = length-append d.content (gives (receiving d.form) d.taking ss)

-- signs of a row that is taken in two goes
pub settled-add : (d : Decoder) (ss : List Sign) (n k : ℕ) → settled d (take (n + k) ss) ≡ settled (settled d (take n ss)) (take k (drop n ss))
settled-add d ss n k = ap (settled d) (take-add n k ss) ∙ settled-append d (take n ss) (take k (drop n ss))

-- what was lent is put, and the receiver goes on
pub settles_on : (d e : Decoder) (r q : Receiver) (ss : List Sign) (lent : Lent) → d.form ≡ receiver_form r → d.taking ≡ taking_at_stage r → Lends r ss lent q
    → e.form ≡ receiver_form q → e.reading ≡ d.reading → e.taking ≡ taking_at_stage q → e.content ≡ d.content ++ lent_octets lent → e ≡ settled d (take lent.taken ss)
settles_on d e r q ss lent form at lends now reading taken content =
    same e (settled d (take lent.taken ss)) (now ∙ lends.form ∙ sym form) reading
    (taken ∙ lends.state ∙ ap (λ f. after (receiving f) (taking_at_stage r) (take lent.taken ss)) (sym form) ∙ ap (λ t. after (receiving d.form) t (take lent.taken ss)) (sym at))
    (content ∙ ap (λ l. d.content ++ l) (lends.settles ∙ ap (λ f. gives (receiving f) (taking_at_stage r) (take lent.taken ss)) (sym form) ∙ ap (λ t. gives (receiving d.form) t (take lent.taken ss)) (sym at)))

all_taken : {A : Type 0} (xs : List A) (n : ℕ) → length xs ≤ n → take n xs ≡ xs
all_taken [] zero few = refl
all_taken [] (suc n) few = refl
all_taken (x ∷ xs) zero few = absurd (omega arith)
all_taken (x ∷ xs) (suc n) few = ap (λ l. x ∷ l) (all_taken xs n (omega arith))

pub lt_or_le : (a b : ℕ) → (a < b) ⊎ (b ≤ a)
lt_or_le a zero = inr (omega arith)
lt_or_le zero (suc b) = inl (omega arith)
lt_or_le (suc a) (suc b) = elim (lt_or_le a b) [ inl x ↦ inl (omega (arith, x)) | inr x ↦ inr (omega (arith, x)) ]

-- the sign that an octet comes with is one of the row
pub lends_place : (r q : Receiver) (ss : List Sign) (lent : Lent) (k : ℕ) → Lends r ss lent q → k < length (lent_octets lent) → comes_with lent k < length ss
lends_place r q ss lent k lends less =
    let s = comes_with lent k in
    elim (lt_or_le s (length ss)) [
      | inl few ↦ few
      | inr many ↦ absurd (
          let a = lends.no_sooner k less in
          let b = lends.no_later k less in
          let c = ap (λ l. length (settled_by r l)) (all_taken ss s many) in
          let e = ap (λ l. length (settled_by r l)) (all_taken ss (s + 1) (omega (arith, many))) in
          omega (arith, a, b, c, e))
    ]

stops_by : (most room done : ℕ) (d : Decoder) (ss : List Sign) (lent : Lent) (at : ℕ) (heard : Decoded) (before : ℕ) (count : ℕ → ℕ)
    → ((k : ℕ) → length (settled d (take (done + k) ss)).content ≡ before + count k) → before + room ≡ most → done ≤ length ss → 0 < length (drop done ss)
    → ((k : ℕ) → k < length (lent_octets lent) → comes_with lent k < length (drop done ss))
    → ((k : ℕ) → k < length (lent_octets lent) → count (comes_with lent k) ≤ k) → ((k : ℕ) → k < length (lent_octets lent) → k < count (comes_with lent k + 1))
    → count 0 ≡ 0 → HasNoRoomBy lent room at heard → Stops most d ss (record { at = done + at; heard = heard })
stops_by most room done d ss lent at Over before count there full within some place sooner later nil none =
    let less = none.0 in
    let left = length-drop done ss in
    let here = none.1 in
    let next : done + at + 1 ≡ done + (comes_with lent room + 1) = omega (arith, here) in
    let now : done + at ≡ done + comes_with lent room = omega (arith, here) in
    let len : (n k : ℕ) → n ≡ done + k → length (settled d (take n ss)).content ≡ before + count k = λ n k e.
    ap (λ x. length (settled d (take x ss)).content) e ∙ there k in
    record {
      within = omega (arith, here, place room less, left, within);
      front = omega (arith, len (done + at) (comes_with lent room) now, sooner room less, full);
      by = omega (arith, len (done + at + 1) (comes_with lent room + 1) next, later room less, full);
    }
stops_by most room done d ss lent at NoMemory before count there full within some place sooner later nil none =
    let left = length-drop done ss in
    let now : done + at ≡ done + 0 = omega (arith, none) in
    record {
      within = omega (arith, none, some, left, within);
      front = omega (arith, ap (λ x. length (settled d (take x ss)).content) now, there 0, nil, full);
      by = tt;
    }
stops_by most room done d ss lent at More before count there full within some place sooner later nil none = absurd none
stops_by most room done d ss lent at (Faulty fault) before count there full within some place sooner later nil none = absurd none

pub settled_front : (d : Decoder) (ss : List Sign) (n : ℕ) → length (settled d (take n ss)).content ≤ length (settled d ss).content
settled_front d ss n =
    let whole = ap (λ l. length (settled d l).content) (take-append-drop n ss) in
    omega (arith, whole, ap (λ x. length x.content) (settled-append d (take n ss) (drop n ss)), settled_len (settled d (take n ss)) (drop n ss))

pub settled_more : (d : Decoder) (ss ts : List Sign) → length (settled d ss).content ≤ length (settled d (ss ++ ts)).content
settled_more d ss ts = omega (arith, ap (λ x. length x.content) (settled-append d ss ts), settled_len (settled d ss) ts)

-- an item stops in the middle of a row
pub stops_at : (most room done : ℕ) (d e : Decoder) (r q : Receiver) (ss : List Sign) (lent : Lent) (stopped : Stopped)
    → e ≡ settled d (take done ss) → done ≤ length ss → 0 < length (drop done ss) → e.form ≡ receiver_form r → e.taking ≡ taking_at_stage r
    → Lends r (drop done ss) lent q → length e.content + room ≡ most → HasNoRoom lent room stopped
    → Stops most d ss (record { at = done + stopped.at; heard = stopped.heard })
stops_at most room done d e r q ss lent stopped is within some form at lends full none =
    let there : (k : ℕ) → length (settled d (take (done + k) ss)).content ≡ length e.content + length (settled_by r (take k (drop done ss))) = λ k.
    ap (λ x. length x.content) (settled-add d ss done k) ∙ ap (λ x. length (settled x (take k (drop done ss))).content) (sym is)
    ∙ settled_len e (take k (drop done ss)) ∙ ap (λ f. length e.content + length (gives (receiving f) e.taking (take k (drop done ss)))) form
    ∙ ap (λ t. length e.content + length (gives (receiving (receiver_form r)) t (take k (drop done ss)))) at in
    stops_by most room done d ss lent stopped.at stopped.heard (length e.content) (λ k. length (settled_by r (take k (drop done ss)))) there full within some
    (λ k less. lends_place r q (drop done ss) lent k lends less) lends.no_sooner lends.no_later refl none

-- ends that are owed stop
pub ends_stop : {S : Type 0} (octets : S → List ℕ) (old new : Intake S) (before room most : ℕ) (heard : Decoded) (d : Decoder) (ss : List Sign)
    → most ≡ length (octets old.sink) + before → StopsBy most d ss heard
    → length (settled d ss).content ≤ length (settled (decoder_at octets old) (file_signs (owed old.deframer))).content → EndsShort octets old before heard new room
ends_stop octets old new before room most Over d ss is stops bound = omega (arith, is, stops, bound)
ends_stop octets old new before room most NoMemory d ss is stops bound = tt
ends_stop octets old new before room most More d ss is stops bound = absurd stops
ends_stop octets old new before room most (Faulty fault) d ss is stops bound = absurd stops
