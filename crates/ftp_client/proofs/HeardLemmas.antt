-- Octets that are heard one after another.
use Rattle.std.proofs.Common.{◌≡◌, ◌∙◌, ℕ, zero, suc, ◌+◌, ◌<◌, ◌≤◌, ◌⊎◌, inl, inr, true, false, List, [], ◌∷◌, ◌++◌, length, take, slice_index, refl, sym, ap, subst, add-one, arith, OnErr, OnOk}
use Rattle.std.specs.Result.{is_err}
use Rattle.std.specs.declared.result.Result.{Result}
use Rattle.std.specs.declared.result.Result.TheVariants.{Ok, Err}
use Rattle.std.proofs.Math.Seq.{take-suc}
use Rattle.std.proofs.lemmas.Grind.{common_steps}
use Rattle.std.specs.Prelude.{IsTrue}
use Rattle.ftp_client_model.specs.Calls.{hears, hears_octet, is_sound, may_hear, MayHearFront}
use Rattle.ftp_client_model.specs.Telling.{last_line_heard, line_with}
use Rattle.ftp_client_model.specs.View.{View}

-- a client that may hear has not failed
pub sound_of : (v : View) → IsTrue (may_hear v) → IsTrue (is_sound v.standing)
sound_of v may = grind (arith, common_steps, may)

pub hears_one : (v : View) (front : List ℕ) (octet : ℕ) → hears v (front ++ octet ∷ []) ≡ hears_octet (hears v front) octet
hears_one v [] octet = refl
hears_one v (c ∷ front) octet = hears_one (hears_octet v c) front octet

at_most : (k n : ℕ) → k ≤ n → (k < n) ⊎ (k ≡ n)
at_most zero zero most = inr refl
at_most zero (suc n) most = inl (omega arith)
at_most (suc k) zero most = absurd (omega (arith, most))
at_most (suc k) (suc n) most = step k n (at_most k n (omega (arith, most)))
  where
    step : (k n : ℕ) → (k < n) ⊎ (k ≡ n) → (suc k < suc n) ⊎ (suc k ≡ suc n)
    step k n (inl less) = inl (omega (arith, less))
    step k n (inr same) = inr (ap suc same)

more_at : (v : View) (piece : List ℕ) (n k : ℕ) → MayHearFront v piece n → IsTrue (may_hear (hears v (take n piece))) → (k < n) ⊎ (k ≡ n)
    → IsTrue (may_hear (hears v (take k piece)))
more_at v piece n k before now (inl less) = before k less
more_at v piece n k before now (inr same) = subst (λ j. IsTrue (may_hear (hears v (take j piece)))) (sym same) now

pub may_more : (v : View) (piece : List ℕ) (n : ℕ) → MayHearFront v piece n → IsTrue (may_hear (hears v (take n piece))) → MayHearFront v piece (n + 1)
may_more v piece n before now k less = more_at v piece n k before now (at_most k n (omega (arith, less)))

pub hears_next : (v : View) (piece : List ℕ) (n : ℕ) → n < length piece
    → hears v (take (n + 1) piece) ≡ hears_octet (hears v (take n piece)) (slice_index piece n)
hears_next v piece n less =
    ap (λ k. hears v (take k piece)) (add-one n)
    ∙ ap (λ xs. hears v xs) (take-suc piece n 0 less)
    ∙ hears_one v (take n piece) (slice_index piece n)

-- the line that was said last, by one octet more
line_one : (v : View) (front : List ℕ) (octet : ℕ) (last : List ℕ)
    → last_line_heard v (front ++ octet ∷ []) last ≡ line_with (hears v front).ear octet (last_line_heard v front last)
line_one v [] octet last = refl
line_one v (c ∷ front) octet last = line_one (hears_octet v c) front octet (line_with v.ear c last)

pub line_next : (v : View) (piece : List ℕ) (n : ℕ) (last : List ℕ) → n < length piece
    → last_line_heard v (take (n + 1) piece) last ≡ line_with (hears v (take n piece)).ear (slice_index piece n) (last_line_heard v (take n piece) last)
line_next v piece n last less =
    ap (λ k. last_line_heard v (take k piece) last) (add-one n)
    ∙ ap (λ xs. last_line_heard v xs last) (take-suc piece n 0 less)
    ∙ line_one v (take n piece) (slice_index piece n) last

-- an octet that was heard behind a front of a piece leaves the line of a longer one
pub line_goes : (v w : View) (piece : List ℕ) (n : ℕ) (first last new : List ℕ) → n < length piece
    → w ≡ hears v (take n piece) → last ≡ last_line_heard v (take n piece) first → new ≡ line_with w.ear (slice_index piece n) last
    → new ≡ last_line_heard v (take (n + 1) piece) first
line_goes v w piece n first last new less now kept is =
    is
    ∙ ap (λ (u : View). line_with u.ear (slice_index piece n) last) now
    ∙ ap (line_with (hears v (take n piece)).ear (slice_index piece n)) kept
    ∙ sym (line_next v piece n first less)

pub ok_at : {X E : Type 0} (result : Result X E) (P : Type 0) → is_err result ≡ false → OnOk result P → P
ok_at (Ok x) P fine is = is
ok_at (Err e) P fine is = absurd (cc fine)

pub err_at : {X E : Type 0} (result : Result X E) (P : Type 0) → is_err result ≡ true → OnErr result P → P
err_at (Ok x) P failed is = absurd (cc failed)
err_at (Err e) P failed is = is
