-- Five numbers of which the first that differs is less: how such steps follow one another, and what one end changes of them.
use Rattle.std.proofs.Common.{◌≡◌, ℕ, ◌+◌, ◌<◌, ◌≤◌, ◌⊎◌, inl, inr, refl, arith, length}
use Rattle.std.proofs.lemmas.Bool.{cases_lt}
use Rattle.ftp_client_model.specs.Bounds as near_left
use Rattle.ftp_client_model.specs.Calls as near
use Rattle.ftp_client_model.specs.View.{View as Near}
use Rattle.ftp_server_model.specs.Bounds as far_left
use Rattle.ftp_server_model.specs.Calls as far
use Rattle.ftp_server_model.specs.View.{View as Far}
use Rattle.laws_world.specs.Settling.{Left, Falls, left_in}
use Rattle.laws_world.specs.World.{World}
use Rattle.laws_settling.specs.Laws.{AtMost, IsLessInOrder, Then}

-- two such steps, one behind the other, are one
through : {P Q R : Type 0} (a b c : ℕ) → (P → Q → R) → Then b a P → Then c b Q → Then c a R
through a b c f (inl x) (inl y) = inl (omega (arith, x, y))
through a b c f (inl x) (inr y) = inl (omega (arith, x, y.0))
through a b c f (inr x) (inl y) = inl (omega (arith, x.0, y))
through a b c f (inr x) (inr y) = inr (omega (arith, x.0, y.0), f x.1 y.1)

-- and of all five numbers
through_all : {P Q R : Type 0} (a b c : Left) → (P → Q → R) → IsLessInOrder b a P → IsLessInOrder c b Q → IsLessInOrder c a R
through_all a b c f =
    through a.at_client b.at_client c.at_client
    (through a.to_server b.to_server c.to_server (through a.at_server b.at_server c.at_server (through a.to_client b.to_client c.to_client f)))

-- no more, and then no more
pub most_most : (a b c : Left) → AtMost b a → AtMost c b → AtMost c a
most_most a b c = through_all a b c (λ x y. omega (arith, x, y))

-- no more, and then less
pub most_falls : (a b c : Left) → AtMost b a → Falls c b → Falls c a
most_falls a b c = through_all a b c (λ x y. omega (arith, x, y))

-- less, and then no more
pub falls_most : (a b c : Left) → Falls b a → AtMost c b → Falls c a
falls_most a b c = through_all a b c (λ x y. omega (arith, x, y))

-- less, and then less
pub falls_then : (a b c : Left) → Falls b a → Falls c b → Falls c a
falls_then a b c = through_all a b c (λ x y. omega (arith, x, y))

-- what has not changed is no more
pub most_same : (a : Left) → AtMost a a
most_same a = inr (refl, inr (refl, inr (refl, inr (refl, omega arith))))

-- a number that is no more
pub le_then : {R : Type 0} (new old : ℕ) → new ≤ old → (new ≡ old → R) → Then new old R
le_then new old le f = elim (cases_lt new old) [
  | inl less ↦ inl less
  | inr more ↦ (let e : new ≡ old = omega (arith, le, more) in inr (e, f e))
]

-- ---- one end is another

-- what it owes
abbrev pub near_unqueued : Near → ℕ
near_unqueued v = length v.owed + length (near.to_give v)

-- what the server owes and gives
abbrev pub far_unqueued : Far → ℕ
far_unqueued v = length v.owed + length (far.to_give v)

-- a call of the client that makes no more to do
pub record NearLow (old new : Near) : Type 0 where
  pub begins : near_left.to_begin new ≤ near_left.to_begin old
  pub gives : (near_left.to_begin new < near_left.to_begin old) ⊎ ((near_left.still_to_give new ≤ near_left.still_to_give old) × (near_unqueued new ≤ near_unqueued old))

-- of the server
pub record FarLow (old new : Far) : Type 0 where
  pub begins : far_left.to_begin new ≤ far_left.to_begin old
  pub gives : (far_left.to_begin new < far_left.to_begin old) ⊎ ((far_left.still_to_give new ≤ far_left.still_to_give old) × (far_unqueued new ≤ far_unqueued old))

-- a client that has not changed
pub near_same : (v : Near) → NearLow v v
near_same v = record { begins = omega arith; gives = inr (omega arith, omega arith) }

-- a number is not less than one that it equals
pub not_less : {R : Type 0} (a b : ℕ) → a ≡ b → a < b → R
not_less a b e less = absurd (omega (arith, e, less))

-- a world whose client was told something that makes no more to do
pub near_most : (w : World) (n : Near) → NearLow w.near n → AtMost (left_in (record w { near = n })) (left_in w)
near_most w n low = le_then _ _ low.begins (λ e. elim low.gives [
  | inl less ↦ not_less _ _ e less
  | inr few ↦ le_then _ _ (omega (arith, few.0)) (λ f. inr (refl, inr (refl, omega (arith, few.1))))
])

-- a world whose server was
pub far_most : (w : World) (f : Far) → FarLow w.far f → AtMost (left_in (record w { far = f })) (left_in w)
far_most w f low = inr (
  refl,
  inr (
    refl,
    le_then _ _ low.begins (λ e. elim low.gives [
      | inl less ↦ not_less _ _ e less
      | inr few ↦ le_then _ _ (omega (arith, few.0)) (λ f. omega (arith, few.1))
    ]),
  ),
)
