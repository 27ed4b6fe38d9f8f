-- How many turns a run can have: a number that each turn lowers, since each turn is one of finitely many, and lowers the five numbers.
use Rattle.std.proofs.Common.{◌≡◌, ◌⊎◌, inl, inr, ℕ, zero, suc, ◌+◌, ◌<◌, ◌≤◌, List, [], ◌∷◌, length, true, sym, ap, subst, ◌∙◌, arith}
use Rattle.std.specs.Prelude.{max}
use Rattle.std.proofs.lemmas.Bool.{cases_lt}
use Rattle.ftp_server_model.specs.Machine.{Reading}
use Rattle.laws_world.specs.Events.{Queue, ControlToServer, ControlToClient, DataToServer, DataToClient, Event, Happens}
use Rattle.laws_world.specs.Settling.{Falls, Left, left_in}
use Rattle.laws_world.specs.Still.{queue_room}
use Rattle.laws_world.specs.World.{World}
use Rattle.laws_settling.specs.Laws.{HasHeight, Then}
use Rattle.laws_settling.specs.Steady.{IsSteadyWorld}
use Rattle.laws_settling.specs.Turns.{IsTurn}
use Rattle.laws_settling.proofs.Ending.{Descends, descends, Descends-prop, left_descends}
use Rattle.laws_settling.proofs.EventsFall.{events_fall}
use Rattle.laws_settling.proofs.Turning.{AreFew, IsFew, IsTurned, Moves, Offers, Opens, Tells, Turn, most, turn_settles, turned, turned_so}

-- ---- whether five numbers fall

-- either the first does, or it is the same and the rest does, or neither
then_or_not : {R : Type 0} (new old : ℕ) → R ⊎ (R → ⊥) → Then new old R ⊎ (Then new old R → ⊥)
then_or_not new old rest = elim (cases_lt new old) [
  | inl less ↦ inl (inl less)
  | inr ge ↦ elim (cases_lt old new) [
    | inl more ↦ inr (λ t. elim t [
      | inl less ↦ absurd (omega (arith, less, ge))
      | inr same ↦ absurd (omega (arith, same.0, more))
    ])
    | inr le ↦ elim rest [
      | inl r ↦ inl (inr (omega (arith, ge, le), r))
      | inr not ↦ inr (λ t. elim t [
        | inl less ↦ absurd (omega (arith, less, ge))
        | inr same ↦ not same.1
      ])
    ]
  ]
]

-- one number is less, or not
less_or_not : (new old : ℕ) → (new < old) ⊎ (new < old → ⊥)
less_or_not new old = elim (cases_lt new old) [
  | inl less ↦ inl less
  | inr ge ↦ inr (λ less. absurd (omega (arith, less, ge)))
]

-- all five
falls_or_not : (new old : Left) → Falls new old ⊎ (Falls new old → ⊥)
falls_or_not new old =
    then_or_not new.at_client old.at_client
    (then_or_not new.to_server old.to_server
    (then_or_not new.at_server old.at_server (then_or_not new.to_client old.to_client (less_or_not new.unqueued old.unqueued))))

-- a number where they do
abbrev if_so : {P : Type 0} → P ⊎ (P → ⊥) → (P → ℕ) → ℕ
if_so (inl p) h = h p
if_so (inr not) h = 0

-- it is that number, whatever way they are said to
is_if : {P : Type 0} (test : P ⊎ (P → ⊥)) (h : P → ℕ) (p : P) → ((p q : P) → h p ≡ h q) → h p ≡ if_so test h
is_if (inl q) h p same = same p q
is_if (inr not) h p same = absurd (not p)

-- ---- the greatest of some numbers

-- of a function's values up to a bound
unfoldable pub greatest : ℕ → (ℕ → ℕ) → ℕ
greatest zero f = f 0
greatest (suc n) f = max (f (suc n)) (greatest n f)

-- a number below the next is below, or is the last
last_or_less : (k n : ℕ) → k ≤ suc n → (k ≤ n) ⊎ (k ≡ suc n)
last_or_less k n few = grind (arith, few)

-- one value more
greater : (f : ℕ → ℕ) (n k : ℕ) → (k ≤ n → f k ≤ greatest n f) → (k ≤ n) ⊎ (k ≡ suc n) → f k ≤ max (f (suc n)) (greatest n f)
greater f n k on (inl less) = omega (arith, on less)
greater f n k on (inr is) = let same : f k ≡ f (suc n) = ap f is in omega (arith, same)

-- none of them is greater
under_greatest : (n : ℕ) (f : ℕ → ℕ) (k : ℕ) → k ≤ n → f k ≤ greatest n f
unfolding greatest
under_greatest zero f k few = let none : k ≡ 0 = omega (arith, few) in let same : f k ≡ f 0 = ap f none in omega (arith, same)
under_greatest (suc n) f k few = greater f n k (λ less. under_greatest n f k less) (last_or_less k n few)

-- of its values at the rows of so many numbers at most, each up to a bound
unfoldable pub over_rows : (many bound : ℕ) → (List ℕ → ℕ) → ℕ
over_rows zero bound f = f []
over_rows (suc many) bound f = f [] + greatest bound (λ count. over_rows many bound (λ counts. f (count ∷ counts)))

-- none of them is greater
under_rows : (many bound : ℕ) (f : List ℕ → ℕ) (counts : List ℕ) → length counts ≤ many → AreFew bound counts → f counts ≤ over_rows many bound f
unfolding over_rows
under_rows zero bound f [] few each = omega arith
under_rows zero bound f (count ∷ counts) few each = absurd (omega (arith, few))
under_rows (suc many) bound f [] few each = omega arith
under_rows (suc many) bound f (count ∷ counts) few each =
    let rest = under_rows many bound (λ counts. f (count ∷ counts)) counts (omega (arith, few)) each.1 in
    let one = under_greatest bound (λ count. over_rows many bound (λ counts. f (count ∷ counts))) count each.0 in
    omega (arith, rest, one)

-- the sum over the queues
abbrev over_queues : (Queue → ℕ) → ℕ
over_queues f = f ControlToServer + f ControlToClient + f DataToServer + f DataToClient

-- each queue's is no more
under_queues : (f : Queue → ℕ) (queue : Queue) → f queue ≤ over_queues f
under_queues f ControlToServer = omega arith
under_queues f queue = omega arith

-- over the turns that move octets
abbrev over_moves : (Turn → ℕ → ℕ) → ℕ
over_moves f = over_queues (λ queue. greatest queue_room (f (Moves queue)))

-- over the turns that offer them
abbrev over_offers : World → (Turn → ℕ → ℕ) → ℕ
over_offers w f = over_queues (λ queue. over_rows (most queue w) (most queue w) (λ counts. greatest (most queue w) (f (Offers queue counts))))

-- over all turns of a world
abbrev over_turns : World → (Turn → ℕ → ℕ) → ℕ
over_turns w f = over_moves f + over_offers w f + f Opens 0 + over_queues (λ queue. f (Tells queue) 0)

-- each turn's is no more
under_turns : (w : World) (f : Turn → ℕ → ℕ) (turn : Turn) (count : ℕ) → IsFew turn count w → f turn count ≤ over_turns w f
under_turns w f (Moves queue) count few =
    let one = under_greatest queue_room (f (Moves queue)) count few in
    let all = under_queues (λ queue. greatest queue_room (f (Moves queue))) queue in
    omega (arith, one, all)
under_turns w f (Offers queue counts) count few =
    let one = under_greatest (most queue w) (f (Offers queue counts)) count few.0 in
    let row = under_rows (most queue w) (most queue w) (λ counts. greatest (most queue w) (f (Offers queue counts))) counts few.1 few.2 in
    let all = under_queues (λ queue. over_rows (most queue w) (most queue w) (λ counts. greatest (most queue w) (f (Offers queue counts)))) queue in
    omega (arith, one, row, all)
under_turns w f Opens count few = let same : f Opens count ≡ f Opens 0 = ap (f Opens) few in omega (arith, same)
under_turns w f (Tells queue) count few =
    let same : f (Tells queue) count ≡ f (Tells queue) 0 = ap (f (Tells queue)) few in
    let all = under_queues (λ queue. f (Tells queue) 0) queue in
    omega (arith, same, all)

-- ---- the height

-- one more than that of what any turn leads to, where the five numbers fall
pub height_at : (read : Reading) (l : Left) (w : World) → Descends l → ℕ
height_at read l w (descends f) =
    suc (over_turns w (λ turn count.
    if_so (falls_or_not (left_in (turned read turn count w)) l)
    (λ less. height_at read (left_in (turned read turn count w)) (turned read turn count w) (f (left_in (turned read turn count w)) less))))

-- of a world
pub height : Reading → World → ℕ
height read w = height_at read (left_in w) w (left_descends (left_in w))

-- an equation and a bound below the next number
below_next : (a b c : ℕ) → a ≡ b → b ≤ c → a < suc c
below_next a b c is few = omega (arith, is, few)

-- a turn for which the numbers fall lowers it
lower : (read : Reading) (l : Left) (w : World) (d : Descends l) (turn : Turn) (count : ℕ) → IsFew turn count w → Falls (left_in (turned read turn count w)) l
    → (e : Descends (left_in (turned read turn count w))) → height_at read (left_in (turned read turn count w)) (turned read turn count w) e < height_at read l w d
unfolding height_at
lower read l w (descends f) turn count few less e =
    let new : World = turned read turn count w in
    let at : Turn → ℕ → ℕ =
    λ turn count.
    if_so (falls_or_not (left_in (turned read turn count w)) l)
    (λ less. height_at read (left_in (turned read turn count w)) (turned read turn count w) (f (left_in (turned read turn count w)) less)) in
    let one : height_at read (left_in new) new e ≡ at turn count =
    ap (height_at read (left_in new) new) (Descends-prop (left_in new) e (f (left_in new) less))
    ∙ is_if (falls_or_not (left_in new) l) (λ less. height_at read (left_in new) new (f (left_in new) less)) less
    (λ p q. ap (height_at read (left_in new) new) (Descends-prop (left_in new) (f (left_in new) p) (f (left_in new) q))) in
    below_next (height_at read (left_in new) new e) (at turn count) (over_turns w at) one (under_turns w at turn count few)

-- each turn from a steady world does
pub lowers : (read : Reading) (event : Event) (w new : World) → IsSteadyWorld w → IsTurn event w → Happens read event w true new → height read new < height read w
unfolding height
lowers read event w new s turn happens =
    let t : IsTurned read w new = turned_so read event w new turn happens in
    let less = events_fall read event w new s.apart s.asks (turn_settles event w turn) happens in
    let P : World → Type 0 = λ u. height_at read (left_in u) u (left_descends (left_in u)) < height_at read (left_in w) w (left_descends (left_in w)) in
    let there : World = turned read t.turn t.count w in
    let falls : Falls (left_in there) (left_in w) = subst (λ u. Falls (left_in u) (left_in w)) t.is less in
    subst P (sym t.is) (lower read (left_in w) w (left_descends (left_in w)) t.turn t.count t.few falls (left_descends (left_in there)))

-- so there is such a number
pub has_height : HasHeight
has_height read = (height read, lowers read)
