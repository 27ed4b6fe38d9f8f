-- What a world's reports and its server's map are, after every event: those of what was begun, each operation with an
-- outcome that the marks and the cutoff allow. Without marks and without a cutoff that is the direct run.
use Rattle.std.specs.Prelude.{◌≡◌, ◌⊎◌, ℕ, suc, ◌+◌, ◌<◌, ◌≤◌, Bool, true, List, [], ◌∷◌, ◌++◌, length, flat_map, Option, Some, None, if◌then◌else◌}
use Rattle.std.specs.List.{Contains}
use Rattle.ftp_operation.specs.Answer.{Said}
use Rattle.ftp_direct.specs.Direct.{State, answers}
use Rattle.ftp_operation.specs.declared.op.Op.{Op}
use Rattle.ftp_tree.specs.Tree.{Table}
use Rattle.ftp_server_model.specs.Machine.{Reading}
use Rattle.std.specs.Option.{is_some}
use Rattle.ftp_client_model.specs.Plan.{how_of}
use Rattle.ftp_client_model.specs.Tries.{OverBreaks, Run, run_of, first_try, is_size, next_in, run_at}
use Rattle.laws_world.specs.Events.{Event, Refuse, Break, EndControl, Next, Upload, Happens}
use Rattle.laws_world.specs.Outcome.{Outcome, Whole, Cut, Unopened, Lost, Part, Nothing, All, Front, did, CanBe}
use Rattle.laws_world.specs.World.{World, Mark, Refused, Broken, counted}

-- what was begun, and its moment: an operation, or an upload over breaks
pub data Order : Type 0 where
  Single : (op : Op (List ℕ)) → (moment : ℕ) → Order
  Tries : (upload : OverBreaks) → (moment : ℕ) → Order

-- ---- items

-- an operation that was tried: its outcome, and the marks of its link
pub record Attempt : Type 0 where
  pub op : Op (List ℕ)
  pub outcome : Outcome
  pub marks : List Mark

-- an item: what came of an order at its moment, as a run of attempts with one report, that of the last
pub record Item : Type 0 where
  pub moment : ℕ
  pub first : Attempt
  pub more : List Attempt

-- what an attempt answers, and the state after it
abbrev pub attempt_did : ℕ → State → Attempt → Said × State
attempt_did moment state attempt = did attempt.outcome state attempt.op moment

-- the answer and the state behind a run of attempts; the answer is that of the last
abbrev pub run_from : ℕ → Said × State → List Attempt → Said × State
run_from moment now [] = now
run_from moment now (attempt ∷ attempts) = run_from moment (attempt_did moment now.1 attempt) attempts

-- the answer of an item, and the state after it
abbrev pub item_did : State → Item → Said × State
item_did state item = run_from item.moment (attempt_did item.moment state item.first) item.more

-- the state before the last attempt of a run
abbrev pub before_last : ℕ → State → Attempt → List Attempt → State
before_last moment state attempt [] = state
before_last moment state attempt (next ∷ attempts) = before_last moment (attempt_did moment state attempt).1 next attempts

-- the state that items leave, one after another
abbrev pub state_after : State → List Item → State
state_after state [] = state
state_after state (item ∷ items) = state_after (item_did state item).1 items

-- the state before the last attempt of the last item
abbrev pub state_before : State → List Item → State
state_before state [] = state
state_before state (item ∷ []) = before_last item.moment state item.first item.more
state_before state (item ∷ next ∷ items) = state_before (item_did state item).1 (next ∷ items)

-- ---- which attempts an order makes

-- a run that has come to an operation, with its answer and the state after it: each next attempt is of the operation that follows
abbrev pub GoesOn : ℕ → Run → Op (List ℕ) → Said × State → List Attempt → Type 0
GoesOn moment run op now [] = Unit {0}
GoesOn moment run op now (attempt ∷ attempts) =
    (next_in run op now.0 ≡ Some attempt.op) × GoesOn moment (run_at attempt.op run) attempt.op (attempt_did moment now.1 attempt) attempts

-- nothing follows the last of them
abbrev pub IsOver : ℕ → Run → Op (List ℕ) → Said × State → List Attempt → Type 0
IsOver moment run op now [] = next_in run op now.0 ≡ None
IsOver moment run op now (attempt ∷ attempts) = IsOver moment (run_at attempt.op run) attempt.op (attempt_did moment now.1 attempt) attempts

-- an operation is tried once; of an upload over breaks the attempts are a beginning of its run
abbrev pub IsItemOf : State → Order → Item → Type 0
IsItemOf state (Single op moment) item = (item.moment ≡ moment) × (item.first.op ≡ op) × (item.more ≡ [])
IsItemOf state (Tries upload moment) item =
    (item.moment ≡ moment) × (item.first.op ≡ first_try upload)
    × GoesOn moment (run_of upload) item.first.op (attempt_did moment state item.first) item.more

-- how many of some attempts are a Put or a PutFrom
abbrev pub tries_in : List Attempt → ℕ
tries_in [] = 0
tries_in (attempt ∷ attempts) = (if is_size attempt.op then 0 else 1) + tries_in attempts

-- where it has its report, they are the whole run
abbrev pub IsWholeItemOf : State → Order → Item → Type 0
IsWholeItemOf state (Single op moment) item = Unit {0}
IsWholeItemOf state (Tries upload moment) item = IsOver moment (run_of upload) item.first.op (attempt_did moment state item.first) item.more

-- ---- which outcomes marks and a cutoff allow

-- such a mark was made of the operation
abbrev pub IsAmong : Mark → List Mark → Type 0
IsAmong mark marks = Contains marks mark

-- the operation, counted from 0, was begun before the control connection ended, or it has not ended
abbrev pub IsBefore : Option ℕ → ℕ → Type 0
IsBefore None index = Unit {0}
IsBefore (Some cutoff) index = index < cutoff

-- it was begun last before that
abbrev pub IsLastBefore : Option ℕ → ℕ → Type 0
IsLastBefore None index = ⊥
IsLastBefore (Some cutoff) index = suc index ≡ cutoff

-- it was begun after that
abbrev pub IsBehind : Option ℕ → ℕ → Type 0
IsBehind None index = ⊥
IsBehind (Some cutoff) index = cutoff ≤ index

-- a link of it broke when so many octets had come, as they are counted
abbrev pub HasBroken : List ℕ → List Mark → Type 0
HasBroken wire marks = IsAmong (Broken (counted (length wire))) marks

-- lost, and a part of it done, is only the operation that was begun last before the end; each later one has changed nothing
abbrev pub AllowsPart : Part → List Mark → Option ℕ → ℕ → Type 0
AllowsPart Nothing marks cutoff index = IsLastBefore cutoff index ⊎ IsBehind cutoff index
AllowsPart All marks cutoff index = IsLastBefore cutoff index
AllowsPart (Front wire) marks cutoff index = IsLastBefore cutoff index × HasBroken wire marks

-- cut only by a break, not opened only by a refusal or a break before the first octet, lost only by the end of the control
-- connection; every other operation is whole
abbrev pub Allows : Outcome → List Mark → Option ℕ → ℕ → Type 0
Allows Whole marks cutoff index = IsBefore cutoff index
Allows (Cut wire) marks cutoff index = IsBefore cutoff index × HasBroken wire marks
Allows Unopened marks cutoff index = IsBefore cutoff index × (IsAmong Refused marks ⊎ IsAmong (Broken 0) marks)
Allows (Lost part) marks cutoff index = AllowsPart part marks cutoff index

-- ---- agreement

-- how many links an operation asks for: one, where it has a transfer
abbrev pub links_of : Op (List ℕ) → ℕ
links_of op = if is_some (how_of op) then 1 else 0

-- an attempt can have fared so, in this state; at most one mark is made of a link
pub record AttemptHolds (state : State) (cutoff : Option ℕ) (index : ℕ) (attempt : Attempt) : Type 0 where
  pub can_be : CanBe attempt.outcome state attempt.op
  pub allowed : Allows attempt.outcome attempt.marks cutoff index
  pub few : length attempt.marks ≤ links_of attempt.op

-- each attempt of a run can have fared so, in the state that those before it leave
abbrev pub RunHolds : ℕ → State → Option ℕ → ℕ → List Attempt → Type 0
RunHolds moment state cutoff index [] = Unit {0}
RunHolds moment state cutoff index (attempt ∷ attempts) =
    AttemptHolds state cutoff index attempt × RunHolds moment (attempt_did moment state attempt).1 cutoff index attempts

-- an item can be what came of an order, of which these marks were made, in order
pub record ItemHolds (state : State) (order : Order) (marks : List Mark) (cutoff : Option ℕ) (index : ℕ) (item : Item) : Type 0 where
  pub is_of : IsItemOf state order item
  pub holds : RunHolds item.moment state cutoff index (item.first ∷ item.more)
  pub marked : flat_map (λ attempt. attempt.marks) (item.first ∷ item.more) ≡ marks

-- an item is the whole of what came of an order, and this is its report
abbrev pub IsReported : State → Order → Item → Said → Type 0
IsReported state order item report = IsWholeItemOf state order item × ((item_did state item).0 ≡ report)

-- behind the reports: nothing more was begun, or one order, which has no report yet
abbrev pub RestHolds : State → ℕ → List Order → List (List Mark) → Option ℕ → List Item → Type 0
RestHolds state index [] [] cutoff [] = Unit {0}
RestHolds state index (order ∷ []) (marks ∷ []) cutoff (item ∷ []) = ItemHolds state order marks cutoff index item
RestHolds state index orders marks cutoff items = ⊥

-- an item for each order, with its marks and its report, in order
abbrev pub ItemsHold : State → ℕ → List Order → List (List Mark) → Option ℕ → List Said → List Item → Type 0
ItemsHold state index orders marks cutoff [] items = RestHolds state index orders marks cutoff items
ItemsHold state index (order ∷ orders) (marks ∷ more) cutoff (report ∷ reports) (item ∷ items) =
    ItemHolds state order marks cutoff index item × IsReported state order item report
    × ItemsHold (item_did state item).1 (suc index) orders more cutoff reports items
ItemsHold state index orders marks cutoff reports items = ⊥

-- There are items for all that was begun, with these reports; and the map is that after them all, or, where the last has no report
-- yet, that before its last attempt.
pub record Agrees (from : State) (begun : List Order) (marks : List (List Mark)) (cutoff : Option ℕ) (reports : List Said) (table : Table) : Type 0 where
  pub items : List Item
  pub hold : ItemsHold from 0 begun marks cutoff reports items
  pub map_is : (table ≡ (state_after from items).table)
      ⊎ ((length reports < length begun) × (table ≡ (state_before from items).table))

-- a world agrees with the operations that were begun in it, from a state
abbrev pub WorldAgrees : State → List Order → World → Type 0
WorldAgrees from begun w = Agrees from begun w.marks w.cutoff w.reports w.far.session.table

-- no upload over breaks was begun
abbrev pub AreSingle : List Order → Type 0
AreSingle [] = Unit {0}
AreSingle (Single op moment ∷ orders) = AreSingle orders
AreSingle (Tries upload moment ∷ orders) = ⊥

-- the operations that were begun, each with its moment
abbrev pub operations : List Order → List (Op (List ℕ) × ℕ)
operations [] = []
operations (Single op moment ∷ orders) = (op, moment) ∷ operations orders
operations (Tries upload moment ∷ orders) = operations orders

-- the reports and the map are those of the operations begun, run directly
pub record IsDirect (from : State) (begun : List Order) (w : World) : Type 0 where
  pub reports : w.reports ≡ (answers from (operations begun)).0
  pub table : w.far.session.table ≡ (answers from (operations begun)).1.table

-- ---- runs of a world

-- what an event began, where it was possible
abbrev pub begun_by_event : Event → Bool → List Order
begun_by_event (Next op moment) true = Single op moment ∷ []
begun_by_event (Upload upload moment) true = Tries upload moment ∷ []
begun_by_event event possible = []

-- a list of events leads from a world to another, and began these operations
abbrev pub Leads : Reading → World → List Event → List Order → World → Type 0
Leads read w [] begun new = (begun ≡ []) × (new ≡ w)
Leads read w (event ∷ events) begun new =
    (possible : Bool) × (next : World) × (later : List Order)
    × Happens read event w possible next × (begun ≡ begun_by_event event possible ++ later) × Leads read next events later new

-- no break, refusal or end of the control connection
abbrev pub IsHonest : Event → Type 0
IsHonest Refuse = ⊥
IsHonest Break = ⊥
IsHonest EndControl = ⊥
IsHonest event = Unit {0}

-- none of the events is one of those
abbrev pub AreHonest : List Event → Type 0
AreHonest [] = Unit {0}
AreHonest (event ∷ events) = IsHonest event × AreHonest events
