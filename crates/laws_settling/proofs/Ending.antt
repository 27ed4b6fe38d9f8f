-- Each run of deliveries, openings and ends from a steady world ends: five numbers of which the first that changes is less cannot fall for ever.
use Rattle.std.proofs.Common.{◌≡◌, inl, inr, ℕ, zero, suc, ◌<◌, true, refl, sym, subst, arith}
use mathlib.Core.Path.{ap, fun_ext}
use Rattle.ftp_server_model.specs.Machine.{Reading}
use Rattle.laws_world.specs.Settling.{Falls, Left, left_in}
use Rattle.laws_world.specs.World.{World}
use Rattle.laws_settling.specs.Laws.{SteadyEnds}
use Rattle.laws_settling.specs.Steady.{IsSteadyWorld}
use Rattle.laws_settling.specs.Turns.{Ends, ends}
use Rattle.laws_settling.proofs.EventsFall.{events_fall}
use Rattle.laws_settling.proofs.Steady.{happens_steady}

-- ---- five numbers cannot fall for ever

-- what holds if it holds of all that is less holds below a number
below : (P : ℕ → Type 0) → ((n : ℕ) → ((m : ℕ) → m < n → P m) → P n) → (n m : ℕ) → m < n → P m
below P f zero m less = absurd (omega (arith, less))
below P f (suc n) m less = f m (λ k under. below P f n k (omega (arith, less, under)))

-- and so of every number
strong : (P : ℕ → Type 0) → ((n : ℕ) → ((m : ℕ) → m < n → P m) → P n) → (n : ℕ) → P n
strong P f n = below P f (suc n) n (omega arith)

-- five numbers
abbrev left : ℕ → ℕ → ℕ → ℕ → ℕ → Left
left a b c d e = record { at_client = a; to_server = b; at_server = c; to_client = d; unqueued = e }

-- each run of numbers that fall comes to an end
pub data Descends : Left → Type 0 where
  descends : {l : Left} → ((m : Left) → Falls m l → Descends m) → Descends l

-- by the first number, for each by the second, and so on
each_descends : (a b c d e : ℕ) → Descends (left a b c d e)
each_descends = strong (λ a. (b c d e : ℕ) → Descends (left a b c d e)) (λ a fa.
    strong (λ b. (c d e : ℕ) → Descends (left a b c d e)) (λ b fb.
    strong (λ c. (d e : ℕ) → Descends (left a b c d e)) (λ c fc.
    strong (λ d. (e : ℕ) → Descends (left a b c d e)) (λ d fd.
    strong (λ e. Descends (left a b c d e)) (λ e fe. descends (λ m falls. by_first a b c d e fa fb fc fd fe m falls))))))
  where
    by_first : (a b c d e : ℕ)
        → ((x : ℕ) → x < a → (b c d e : ℕ) → Descends (left x b c d e))
        → ((x : ℕ) → x < b → (c d e : ℕ) → Descends (left a x c d e))
        → ((x : ℕ) → x < c → (d e : ℕ) → Descends (left a b x d e))
        → ((x : ℕ) → x < d → (e : ℕ) → Descends (left a b c x e))
        → ((x : ℕ) → x < e → Descends (left a b c d x))
        → (m : Left) → Falls m (left a b c d e) → Descends m
    by_first a b c d e fa fb fc fd fe m (inl x) = fa m.at_client x m.to_server m.at_server m.to_client m.unqueued
    by_first a b c d e fa fb fc fd fe m (inr (p, inl x)) = subst (λ z. Descends (left z m.to_server m.at_server m.to_client m.unqueued)) (sym p) (fb m.to_server x m.at_server m.to_client m.unqueued)
    by_first a b c d e fa fb fc fd fe m (inr (p, inr (q, inl x))) =
        subst (λ z. Descends (left z m.to_server m.at_server m.to_client m.unqueued)) (sym p)
        (subst (λ z. Descends (left a z m.at_server m.to_client m.unqueued)) (sym q) (fc m.at_server x m.to_client m.unqueued))
    by_first a b c d e fa fb fc fd fe m (inr (p, inr (q, inr (r, inl x)))) =
        subst (λ z. Descends (left z m.to_server m.at_server m.to_client m.unqueued)) (sym p)
        (subst (λ z. Descends (left a z m.at_server m.to_client m.unqueued)) (sym q)
        (subst (λ z. Descends (left a b z m.to_client m.unqueued)) (sym r) (fd m.to_client x m.unqueued)))
    by_first a b c d e fa fb fc fd fe m (inr (p, inr (q, inr (r, inr (s, x))))) =
        subst (λ z. Descends (left z m.to_server m.at_server m.to_client m.unqueued)) (sym p)
        (subst (λ z. Descends (left a z m.at_server m.to_client m.unqueued)) (sym q)
        (subst (λ z. Descends (left a b z m.to_client m.unqueued)) (sym r)
        (subst (λ z. Descends (left a b c z m.unqueued)) (sym s) (fe m.unqueued x))))

-- so it is of all five
pub left_descends : (l : Left) → Descends l
left_descends l = each_descends l.at_client l.to_server l.at_server l.to_client l.unqueued

-- there is one way to say so
pub Descends-prop : (l : Left) → IsProp (Descends l)
Descends-prop l (descends f) (descends g) = ap descends (fun_ext (λ m. fun_ext (λ falls. Descends-prop m (f m falls) (g m falls))))

-- ---- so each run of them ends

-- from a world with so much left
ends_from : (read : Reading) (l : Left) (w : World) → Descends l → left_in w ≡ l → IsSteadyWorld w → Ends read w
ends_from read l w (descends f) is s = ends (λ event next settles happens.
    let falls = events_fall read event w next s.apart s.asks settles happens in
    ends_from read (left_in next) next (f (left_in next) (subst (Falls (left_in next)) is falls)) refl (happens_steady read event true w next s happens))

-- from each world that is steady
pub steady_ends : SteadyEnds
steady_ends read w s = ends_from read (left_in w) w (left_descends (left_in w)) refl s
