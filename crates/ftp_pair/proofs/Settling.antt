-- How settling ends: where nothing failed each turn lowers the world's height, and else a count of turns.
use Rattle.std.proofs.Common.{◌≡◌, ◌∙◌, ℕ, ◌+◌, ◌-◌, ◌<◌, Bool, true, false, List, [], ◌∷◌, ◌++◌, refl, sym, ap, subst, arith}
use Rattle.std.specs.Prelude.{if◌then◌else◌}
use Rattle.laws_settling.specs.Steady.{IsSteadyWorld}
use Rattle.laws_settling.specs.Turns.{IsTurn, TurnHappened}
use Rattle.laws_settling.proofs.Looping.{falls, tall}
use Rattle.ftp_server_model.specs.Machine.{Reading}
use Rattle.laws_world.specs.Agreement.{Leads, Order, begun_by_event}
use Rattle.laws_world.specs.Events as events
use Rattle.laws_world.specs.Events.{Event, Happens}
use Rattle.laws_world.specs.World.{World}
use Rattle.ftp_pair_events.specs.events.Happening.{IsSmallDelivery, Progresses}
use Rattle.ftp_pair.specs.Session.{AreSmall, LeadsSmall, Seen}

-- a small event is a turn
small_turn : (event : Event) (w : World) → IsSmallDelivery event → IsTurn event w
small_turn (events.Deliver queue count) w small = omega (arith, small)
small_turn events.Open w small = tt
small_turn (events.End queue) w small = tt
small_turn other w small = absurd small

-- what is left to do, as one number: turns, and the height of a world in which nothing failed
abbrev pub still_to_do : ℕ → Seen → ℕ
still_to_do left s = left + (if s.calm then tall s.world else 0)

-- less is left where nothing failed
calm_less : (left : ℕ) (was : Bool) (old new : World) → was ≡ true → tall new < tall old → left + tall new < left + (if was then tall old else 0)
calm_less left true old new is less = omega (arith, less)
calm_less left false old new is less = absurd (cc (is))

-- and where something did
pub less_by : (left : ℕ) (was calm : Bool) (old new : World) → 0 < left → (was ≡ true → ∥ IsSteadyWorld old ∥₁) → Progresses was calm old new
    → (if calm then left else left - 1) + (if calm then tall new else 0) < left + (if was then tall old else 0)
less_by left was true old new some steady progresses =
    let did = progresses.happened refl in
    let turned : TurnHappened old new = (progresses.event, small_turn progresses.event old progresses.small, did.1) in
    calm_less left was old new did.0 (falls old new turned (steady did.0))
less_by left was false old new some steady progresses = omega (arith, some)

-- ---- turns lead on

-- one more behind some
small_last : (read : Reading) (turns : List Event) (event : Event) (old mid new : World) → AreSmall turns → IsSmallDelivery event → Leads read old turns [] mid → Happens read event mid true new
    → (all : List Event) × AreSmall all × Leads read old all [] new
small_last read [] event old mid new small one leads happens =
    (event ∷ [], (one, tt), (true, new, [], subst (λ w. Happens read event w true new) leads.1 happens, none event one, (refl, refl)))
  where
    none : (event : Event) → IsSmallDelivery event → [] ≡ begun_by_event event true ++ []
    none (events.Deliver queue count) one = refl
    none events.Open one = refl
    none (events.End queue) one = refl
    none other one = absurd one
small_last read (first ∷ turns) event old mid new small one leads happens =
    let later = small_last read turns event leads.1 mid new small.1 one (subst (λ b. Leads read leads.1 turns b mid) (none leads.2 (begun_by_event first leads.0) leads.4) leads.5) happens in
    (first ∷ later.0, (small.0, later.1), (leads.0, leads.1, [], leads.3, none_first first leads.0 small.0, later.2))
  where
    none : (later first : List Order) → [] ≡ first ++ later → later ≡ []
    none later [] is = sym is
    none later (one ∷ first) is = absurd (cc (is))

    none_first : (event : Event) (possible : Bool) → IsSmallDelivery event → [] ≡ begun_by_event event possible ++ []
    none_first (events.Deliver queue count) possible one = refl
    none_first events.Open possible one = refl
    none_first (events.End queue) possible one = refl
    none_first other possible one = absurd one

-- one turn more
pub one_small : (old mid new : Seen) → LeadsSmall old mid → Progresses mid.calm new.calm mid.world new.world → LeadsSmall old new
one_small old mid new leads progresses calm =
    let did = progresses.happened calm in
    let so = leads did.0 in
    (so.0, λ read reads. let before = so.1 read reads in small_last read before.0 progresses.event old.world mid.world new.world before.1 progresses.small before.2 (did.1 read reads))

-- ---- a turn of the loop

-- so many turns are left after one
abbrev left_by : Bool → ℕ → ℕ
left_by calm left = if calm then left else left - 1

-- less is left to do
pub smaller : (left after : ℕ) (told : Bool) (old new : Seen) → 0 < left → (old.calm ≡ true → ∥ IsSteadyWorld old.world ∥₁) → Progresses old.calm new.calm old.world new.world
    → told ≡ new.calm → after ≡ left_by told left → still_to_do after new < still_to_do left old
smaller left after told old new some steady progresses is after_is =
    subst (λ n. n + (if new.calm then tall new.world else 0) < still_to_do left old) (sym (after_is ∙ ap (λ b. left_by b left) is))
    (less_by left old.calm new.calm old.world new.world some steady progresses)

-- where nothing failed no turn is counted
pub none_counted : (left after many : ℕ) (told : Bool) (old new : Seen) → (old.calm ≡ true → left ≡ many) → Progresses old.calm new.calm old.world new.world
    → told ≡ new.calm → after ≡ left_by told left → new.calm ≡ true → after ≡ many
none_counted left after many told old new all progresses is after_is calm = after_is ∙ ap (λ b. left_by b left) (is ∙ calm) ∙ all (progresses.happened calm).0
