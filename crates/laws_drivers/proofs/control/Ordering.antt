-- Orders in which each action can happen, where neighbours change places.
use Rattle.std.proofs.Common.{◌≡◌, inl, inr, ℕ, Bool, true, false, true≢false, List, [], ◌∷◌, ◌++◌, None, Some, refl, sym, ap, subst, ◌∙◌}
use Rattle.laws_drivers.specs.control.Alone.{ClientAttends, ClientIsCalm, IsAskingAlone, IsServingAlone, ServerAttends, ServerIsCalm}
use Rattle.laws_drivers.specs.control.Between.{Between, Can, CanTurn, Client, Far, Happened, Near, Server, Turn, Who, coming_to, peer, with_coming}
use Rattle.laws_drivers.specs.control.Swaps.{AreOfPeers, AreFree, AreOfSameEnds, ActionsGoBehind, IsApartFrom, IsOfControl, NeighboursChangePlaces, OrdersLeaveOne, OrdersLeaveTheEnds, ReadsWritten}
use Rattle.laws_drivers.specs.control.Touches.{Touch, None_of_it, Says, Reads, Parts, Listens, Dials, Accepts, IsDenied, IsMissed, Writes, Takes, Ends, Resets, ToldEnd, ToldBreak, touch_in}
use Rattle.laws_drivers.proofs.control.Ending.{Goes}
use Rattle.laws_drivers.proofs.control.Mixing.{Changed, change_places}
use Rattle.laws_drivers.proofs.control.Moving.{moving_actions_change_places}
use Rattle.laws_drivers.proofs.control.Swapping.{same_rest}

-- ---- what lies between after an order

-- an action leaves but one thing
can_once : (who : Who) (touch : Touch) (old one other : Between) → Can who touch old one → Can who touch old other → one ≡ other
can_once who None_of_it old one other a b = a ∙ sym b
can_once who (Says octets) old one other a b = a ∙ sym b
can_once who (Reads octets) old one other a b =
    let rest = same_rest octets (coming_to who one.control) (coming_to who other.control) (sym a.0 ∙ b.0) in
    a.1 ∙ ap (λ (l : List ℕ). record old { control = with_coming who l old.control }) rest ∙ sym b.1
can_once who Parts old one other a b = a ∙ sym b
can_once who (Listens None) old one other a b = a ∙ sym b
can_once who (Listens (Some port)) old one other a b = a.1 ∙ sym b.1
can_once who (Dials endpoint) old one other a b = a.2 ∙ sym b.2
can_once who (Accepts host) old one other a b = a.1 ∙ sym b.1
can_once who (IsDenied endpoint) old one other a b = a ∙ sym b
can_once who IsMissed old one other a b = a ∙ sym b
can_once who (Writes octets) old one other a b = a.1 ∙ sym b.1
can_once who (Takes octets) old one other a b =
    let rest = same_rest octets (coming_to who one.data_ways) (coming_to who other.data_ways) (sym a.1 ∙ b.1) in
    a.2 ∙ ap (λ (l : List ℕ). record old { data_ways = with_coming who l old.data_ways }) rest ∙ sym b.2
can_once who Ends old one other a b = a.1 ∙ sym b.1
can_once who Resets old one other a b = a.1 ∙ sym b.1
can_once who ToldEnd old one other a b = a.2 ∙ sym b.2
can_once who ToldBreak old one other a b = a.1 ∙ sym b.1

-- so does a turn
turn_once : (turn : Turn) (old one other : Between) → CanTurn turn old one → CanTurn turn old other → one ≡ other
turn_once (Server action) old one other a b = can_once Far (touch_in action) old one other a b
turn_once (Client action) old one other a b = can_once Near (touch_in action) old one other a b

-- and an order
pub orders_leave_one : OrdersLeaveOne
orders_leave_one [] one other a b = a ∙ sym b
orders_leave_one (turn ∷ before) one other a b =
    let same : a.0 ≡ b.0 = orders_leave_one before a.0 b.0 a.1 b.1 in
    turn_once turn b.0 one other (subst (λ (m : Between). CanTurn turn m one) same a.2) b.2

-- ---- two neighbours

-- what can be read was written
written_by : (who : Who) (touch : Touch) (old new : Between) → IsOfControl touch → Can who touch old new → ReadsWritten who touch old
written_by who None_of_it old new is can = tt
written_by who (Says octets) old new is can = tt
written_by who (Reads octets) old new is can = (coming_to who new.control, can.0)
written_by who touch old new is can = absurd is

-- whatever they are of
either_way : (who : Who) (first second : Touch) → AreFree first second → (old mid new other : Between) → Can who first old mid
    → Can (peer who) second mid new → Can (peer who) second old other → Changed who first second old new
either_way who first second (inl control) old mid new other one two alone =
    change_places who first second control old mid new one two (λ is. written_by (peer who) second old other is alone)
either_way who first second (inr moving) old mid new other one two alone =
    (other, alone, moving_actions_change_places who first second moving.0 moving.1 old mid new other one two alone)

-- whether it is the server
is_far : Who → Bool
is_far Near = false
is_far Far = true

-- in the other order
swapped : (before : List Turn) (first second : Turn) (other now : Between) → AreOfPeers first second → Happened (second ∷ before) other
    → Happened (second ∷ first ∷ before) now → Happened (first ∷ second ∷ before) now
unfolding is_far
swapped before (Server first) (Server second) other now apart alone both = absurd (true≢false (ap is_far apart.ends))
swapped before (Client first) (Client second) other now apart alone both = absurd (true≢false (sym (ap is_far apart.ends)))
swapped before (Server first) (Client second) other now apart alone both =
    let old = both.1.0 in
    let same : alone.0 ≡ old = orders_leave_one before alone.0 old alone.1 both.1.1 in
    let can : Can Near (touch_in second) old other = subst (λ (m : Between). Can Near (touch_in second) m other) same alone.2 in
    let change = either_way Far (touch_in first) (touch_in second) apart.free old both.0 now other both.1.2 both.2 can in
    (change.0, (old, both.1.1, change.1), change.2)
swapped before (Client first) (Server second) other now apart alone both =
    let old = both.1.0 in
    let same : alone.0 ≡ old = orders_leave_one before alone.0 old alone.1 both.1.1 in
    let can : Can Far (touch_in second) old other = subst (λ (m : Between). Can Far (touch_in second) m other) same alone.2 in
    let change = either_way Near (touch_in first) (touch_in second) apart.free old both.0 now other both.1.2 both.2 can in
    (change.0, (old, both.1.1, change.1), change.2)

-- by the same ends
same_ends : (before : List Turn) (first second : Turn) → AreOfPeers first second → AreOfSameEnds (second ∷ first ∷ before) (first ∷ second ∷ before)
unfolding is_far
same_ends before (Server first) (Server second) apart = absurd (true≢false (ap is_far apart.ends))
same_ends before (Client first) (Client second) apart = absurd (true≢false (sym (ap is_far apart.ends)))
same_ends before (Server first) (Client second) apart = record { server = refl; client = refl }
same_ends before (Client first) (Server second) apart = record { server = refl; client = refl }

-- ---- and what comes after

-- one action more of both orders
one_more : (turn : Turn) (one other : List Turn) → AreOfSameEnds one other → AreOfSameEnds (turn ∷ one) (turn ∷ other)
one_more (Server action) one other same = record { server = ap (λ l. action ∷ l) same.server; client = same.client }
one_more (Client action) one other same = record { server = same.server; client = ap (λ l. action ∷ l) same.client }

-- so it is of more
more_ends : (later one other : List Turn) → AreOfSameEnds one other → AreOfSameEnds (later ++ one) (later ++ other)
more_ends [] one other same = same
more_ends (turn ∷ later) one other same = one_more turn (later ++ one) (later ++ other) (more_ends later one other same)

-- what can happen after an order can happen after one that leaves the same
more_happens : (later one other : List Turn) → ((now : Between) → Happened one now → Happened other now) → (now : Between) → Happened (later ++ one) now
    → Happened (later ++ other) now
more_happens [] one other so now happened = so now happened
more_happens (turn ∷ later) one other so now happened = (happened.0, more_happens later one other so happened.0 happened.1, happened.2)

pub neighbours_change_places : NeighboursChangePlaces
neighbours_change_places later before first second other now apart alone happened = (
  more_happens later (second ∷ first ∷ before) (first ∷ second ∷ before) (λ now both. swapped before first second other now apart alone both) now happened,
  more_ends later (second ∷ first ∷ before) (first ∷ second ∷ before) (same_ends before first second apart),
)

-- ---- behind several

-- where they can happen without it
behind : (others before : List Turn) (first : Turn) (other now : Between) → IsApartFrom first others → Happened (others ++ before) other
    → Happened (others ++ first ∷ before) now → Happened (first ∷ (others ++ before)) now
behind [] before first other now apart alone happened = happened
behind (turn ∷ others) before first other now apart alone happened =
    let rest = behind others before first alone.0 happened.0 apart.0 alone.1 happened.1 in
    swapped (others ++ before) first turn other now apart.1 alone (happened.0, rest, happened.2)

-- of the same ends are a third that is of the ends of the second
then_ends : (one mid other : List Turn) → AreOfSameEnds one mid → AreOfSameEnds mid other → AreOfSameEnds one other
then_ends one mid other a b = record { server = b.server ∙ a.server; client = b.client ∙ a.client }

-- by the same ends
behind_ends : (others before : List Turn) (first : Turn) → IsApartFrom first others → AreOfSameEnds (others ++ first ∷ before) (first ∷ (others ++ before))
behind_ends [] before first apart = record { server = refl; client = refl }
behind_ends (turn ∷ others) before first apart =
    then_ends (turn ∷ (others ++ first ∷ before)) (turn ∷ first ∷ (others ++ before)) (first ∷ turn ∷ (others ++ before))
    (one_more turn (others ++ first ∷ before) (first ∷ (others ++ before)) (behind_ends others before first apart.0))
    (same_ends (others ++ before) first turn apart.1)

pub actions_go_behind : ActionsGoBehind
actions_go_behind later others before first other now apart alone happened = (
  more_happens later (others ++ first ∷ before) (first ∷ (others ++ before)) (λ now all. behind others before first other now apart alone all) now happened,
  more_ends later (others ++ first ∷ before) (first ∷ (others ++ before)) (behind_ends others before first apart),
)

-- ---- both ends

pub orders_leave_the_ends : OrdersLeaveTheEnds
orders_leave_the_ends b one other now server client same happened did =
    let far = subst (λ d. Goes IsServingAlone ServerIsCalm ServerAttends d did.server_start server) (sym same.server) (did.server_led, did.serves) in
    let near = subst (λ d. Goes IsAskingAlone ClientIsCalm ClientAttends d did.client_start client) (sym same.client) (did.client_led, did.asks) in
    record {
      server_start = did.server_start;
      client_start = did.client_start;
      begins = did.begins;
      happened = happened;
      server_led = far.0;
      client_led = near.0;
      serves = far.1;
      asks = near.1;
    }
