-- The operation that was begun last: whether it asks for all, and whether less came of it than was asked for.
use Rattle.std.specs.Prelude.{⊤}
use Rattle.std.proofs.Common.{◌≡◌, inl, ℕ, Bool, true, false, true≢false, List, [], ◌∷◌, ◌++◌, Option, Some, None, refl, sym, ap, subst, ◌∙◌, append-nil}
use Rattle.ftp_ports.specs.Actions.{Action, Led, Other, Stand}
use Rattle.ftp_ports.specs.Machine.{Aside}
use Rattle.ftp_client_driver.specs.Side.{Starting, client_side}
use Rattle.ftp_client_model.specs.Octets.{has_enough, has_settled}
use Rattle.ftp_client_model.specs.Plan.{count_of}
use Rattle.ftp_client_model.specs.View.{Job, Receiving, Transfer, Transferring}
use Rattle.ftp_operation.specs.declared.op.Op.{Op}
use Rattle.ftp_server_driver.specs.alone.Side.{server_side}
use Rattle.laws_drivers.specs.events.Moments.{begun_at, begun_by, number_in}
use Rattle.laws_drivers.specs.control.Between.{Between, Client, Happened, Server, Turn, client_actions, server_actions}
use Rattle.laws_world.specs.Agreement.{Order, Single}
use Rattle.ftp_wire.specs.Decoder.{Decoder}
use Rattle.laws_breaks.specs.downloads.Actions.{AreAfter, AreShort, AsksAll, IsShort}
use Rattle.laws_breaks.proofs.downloads.Late.{IsFew, all_few}

abbrev is_none : List Order → Bool
is_none [] = true
is_none orders = false

abbrev others : List Order → List Order
others [] = []
others (order ∷ orders) = orders

-- it was begun last, after these
pub record IsLast (begun : List Order) (op : Op (List ℕ)) : Type 0 where
  pub done : List Order
  pub moment : ℕ
  pub is : begun ≡ done ++ Single op moment ∷ []

-- it asks for all
abbrev pub LastAll : List Order → Type 0
LastAll begun = (op : Op (List ℕ)) → IsLast begun op → count_of op ≡ None

-- the last one of two rows that are the same
same_last : (one other : List Order) (op second : Op (List ℕ)) (moment at : ℕ) → one ++ Single op moment ∷ [] ≡ other ++ Single second at ∷ []
    → count_of op ≡ count_of second
same_last [] [] op second moment at is = ap (λ l. counts l) is
  where
    counts : List Order → Option ℕ
    counts (Single op moment ∷ orders) = count_of op
    counts orders = None
same_last [] (order ∷ other) op second moment at is = absurd (none_after other (ap others is))
  where
    none_after : (other : List Order) → [] ≡ other ++ Single second at ∷ [] → ⊥
    none_after [] is = true≢false (ap is_none is)
    none_after (order ∷ other) is = true≢false (ap is_none is)
same_last (order ∷ one) [] op second moment at is = absurd (none_after one (ap others is))
  where
    none_after : (one : List Order) → one ++ Single op moment ∷ [] ≡ [] → ⊥
    none_after [] is = true≢false (ap is_none (sym is))
    none_after (order ∷ one) is = true≢false (ap is_none (sym is))
same_last (order ∷ one) (next ∷ other) op second moment at is = same_last one other op second moment at (ap others is)

-- so it is of actions that say so
pub actions_all : (moments : ℕ → ℕ) (actions : List (Action client_side)) → AsksAll actions → LastAll (begun_at moments actions)
actions_all moments [] asks op last = absurd (none_after last.done last.is)
  where
    none_after : (done : List Order) → [] ≡ done ++ Single op last.moment ∷ [] → ⊥
    none_after [] is = true≢false (ap is_none is)
    none_after (order ∷ done) is = true≢false (ap is_none is)
actions_all moments (action ∷ before) asks op last = by action asks last.is (λ rest. actions_all moments before rest op)
  where
    by : (action : Action client_side) → AsksAll (action ∷ before)
        → begun_at moments before ++ begun_by (moments (number_in before)) action ≡ last.done ++ Single op last.moment ∷ []
        → (AsksAll before → IsLast (begun_at moments before) op → count_of op ≡ None) → count_of op ≡ None
    by (Other (Aside (Starting second))) asks is still =
        sym (same_last (begun_at moments before) last.done second op (moments (number_in before)) last.moment is) ∙ asks
    by action asks is still =
        still asks (record { done = last.done; moment = last.moment; is = sym (append-nil (begun_at moments before)) ∙ is })

-- ---- where no Peek is begun

-- each operation asks for all
abbrev pub AsksEach : List (Action client_side) → Type 0
AsksEach [] = ⊤
AsksEach (Other (Aside (Starting op)) ∷ before) = (count_of op ≡ None) × AsksEach before
AsksEach (action ∷ before) = AsksEach before

each_before : (action : Action client_side) (before : List (Action client_side)) → AsksEach (action ∷ before) → AsksEach before
each_before (Other (Aside (Starting op))) before each = each.1
each_before action before each = each

-- so does the last one
pub each_asks : (actions : List (Action client_side)) → AsksEach actions → AsksAll actions
each_asks [] each = tt
each_asks (action ∷ before) each = by action each (each_asks before)
  where
    by : (action : Action client_side) → AsksEach (action ∷ before) → (AsksEach before → AsksAll before) → AsksAll (action ∷ before)
    by (Other (Aside (Starting op))) each still = each.0
    by action each still = still each

-- whatever breaks, no Peek does
pub none_short : (actions : List (Action client_side)) (start now : Stand client_side) (led : Led actions start now) → AsksEach actions → AreShort actions start now led
none_short [] start now led each = tt
none_short (action ∷ before) start now led each =
    let rest = each_before action before each in (none_short before start led.0 led.1 rest, inl (each_asks before rest))

pub none_after : (turns : List Turn) (between : Between) (happened : Happened turns between) (start now : Stand server_side)
    (led : Led (server_actions turns) start now) → AsksEach (client_actions turns) → AreAfter turns between happened start now led
none_after [] between happened start now led each = tt
none_after (Server action ∷ before) between happened start now led each =
    (none_after before happened.0 happened.1 start led.0 led.1 each, inl (each_asks (client_actions before) each))
none_after (Client action ∷ before) between happened start now led each =
    none_after before happened.0 happened.1 start now led (each_before action (client_actions before) each)

-- ---- what came of it

-- less of this operation came than was asked for, if it is under way
abbrev pub FewOf : Op (List ℕ) → Job → Type 0
FewOf op job = (transfer : Transfer) (d : Decoder) (mark : Option ℕ) → job ≡ Transferring op transfer → transfer.flow ≡ Receiving d mark → IsFew op d

-- so it is of one that asks for all
pub all_few_of : (op : Op (List ℕ)) (job : Job) → count_of op ≡ None → FewOf op job
all_few_of op job all transfer d mark is flow = all_few op all d

-- of the operation that was begun last
abbrev pub AreFew : List Order → Job → Type 0
AreFew begun job = (op : Op (List ℕ)) → IsLast begun op → FewOf op job

pub last_few : (begun : List Order) (job : Job) → LastAll begun → AreFew begun job
last_few begun job all op last = all_few_of op job (all op last)

-- and of one that is short
pub short_few_of : (op : Op (List ℕ)) (job : Job) → IsShort job → FewOf op job
short_few_of op job short transfer d mark is flow other =
    few (count_of op) (subst (λ f. has_enough op f ≡ false) flow (subst IsShort is short))
  where
    few : (asked : Option ℕ) → has_settled asked (Receiving d mark) ≡ false → has_settled asked (Receiving d other) ≡ false
    few None e = refl
    few (Some count) e = e

pub short_few : (begun : List Order) (job : Job) → IsShort job → AreFew begun job
short_few begun job short op last = short_few_of op job short
