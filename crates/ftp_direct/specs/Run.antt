-- Operations one after another on a tree whose device may fail.
use Rattle.std.specs.Prelude.{◌≡◌, ◌⊎◌, ℕ, zero, suc, ◌==◌, Bool, false, List, [], ◌∷◌, length, map, if◌then◌else◌}
use Rattle.std.specs.List.{filter}
use Rattle.ftp_facts.specs.declared.moment.Moment.{Moment}
use Rattle.ftp_tree.specs.Tree.{Table}
use Rattle.ftp_tree.specs.Change.{Failures, IsSteady, NoStray, TellsOne, next_count, one_failure_more}
use Rattle.ftp_operation.specs.declared.op.Op.{Op}
use Rattle.ftp_operation.specs.Answer.{Said, Refused}
use Rattle.ftp_direct.specs.declared.refusal.Refusal.TheVariants.{LocalFault}
use Rattle.ftp_direct.specs.Refusal.{code_of}
use Rattle.ftp_direct.specs.Direct.{State, answer}

-- an answer and a state, as they are due
abbrev pub Gives : Said × State → Said → State → Type 0
Gives due said new = (said ≡ due.0) × (new ≡ due.1)

-- What one operation said and left: what was due if the count of device failures did not change, and else 451 and the state as
-- it was, with the count moved on by one. Where the device strayed only the counts are told of.
pub record IsAnswer (before after : Failures) (due : Said × State) (old : State) (said : Said) (new : State) : Type 0 where
  pub steady : after ≡ before → Gives due said new
  pub failed : after ≡ one_failure_more before → Gives (Refused (code_of LocalFault), old) said new
  pub counted : IsSteady before after ⊎ TellsOne before after

-- memory was refused before anything was done: map and counts are as they were, unless the device strayed
pub record IsAsBefore (before after : Failures) (old new : Table) : Type 0 where
  pub table : NoStray before after → new ≡ old
  pub counts : IsSteady before after

-- an operation, its moment, and whether the device fails at it
pub record Turn : Type 0 where
  pub op : Op (List ℕ)
  pub moment : ℕ
  pub fails : Bool

abbrev pub order_of : Turn → Op (List ℕ) × ℕ
order_of turn = (turn.op, turn.moment)

-- its answer and the state after it: where the device fails, 451 and the state as it was
abbrev pub answer_of : State → Turn → Said × State
answer_of state turn = if turn.fails then (Refused (code_of LocalFault), state) else answer state turn.op turn.moment

-- turns one after another: the answers, and the state after the last
abbrev pub run : State → List Turn → List Said × State
run state [] = ([], state)
run state (turn ∷ turns) =
    let now = answer_of state turn in
    let rest = run now.1 turns in
    (now.0 ∷ rest.0, rest.1)

-- at how many of them the device fails
abbrev pub failures_of : List Turn → ℕ
failures_of [] = 0
failures_of (turn ∷ turns) = if turn.fails then suc (failures_of turns) else failures_of turns

-- the count of device failures after so many more
abbrev pub moved_on : ℕ → ℕ → ℕ
moved_on zero count = count
moved_on (suc failures) count = next_count (moved_on failures count)

-- These operations were run, the device failing at some of them, each failure counted, and they said this and left this count of told
-- failures and this map.
pub record Ran (before : ℕ) (old : State) (orders : List (Op (List ℕ) × ℕ)) (said : List Said) (after : ℕ) (table : Table) : Type 0 where
  pub turns : List Turn
  pub ordered : map order_of turns ≡ orders
  pub says : (run old turns).0 ≡ said
  pub leaves : (run old turns).1.table ≡ table
  pub counts : after ≡ moved_on (failures_of turns) before

-- an answer tells a failure of the device
abbrev pub is_local_fault : Said → Bool
is_local_fault (Refused code) = code == code_of LocalFault
is_local_fault other = false

-- how many of them do
abbrev pub faults_told : List Said → ℕ
faults_told said = length (filter is_local_fault said)

-- operations with the seconds of their moments
abbrev pub orders_of : List (Op (List ℕ) × Moment) → List (Op (List ℕ) × ℕ)
orders_of list = map (λ order. (order.0, order.1.seconds)) list
