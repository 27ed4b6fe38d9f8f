-- What an operation without a transfer leads to, from any state of both ends where nothing is on its way: its answer and the map of the
-- direct run.
use Rattle.std.specs.Prelude.{◌≡◌, ℕ, true, List, [], Option}
use Rattle.ftp_operation.specs.Answer.{Said}
use Rattle.ftp_operation.specs.Operation.{can_be_sent}
use Rattle.ftp_operation.specs.declared.op.Op.{Op}
use Rattle.ftp_direct.specs.Direct.{State, answer}
use Rattle.ftp_client_model.specs.Dialogue.{begins}
use Rattle.ftp_client_model.specs.View.{View as Near, Job}
use Rattle.ftp_server_model.specs.Machine.{Reading, IsReading}
use Rattle.ftp_server_model.specs.View.{View as Far}
use Rattle.laws_dialogues.specs.Stage.{calm, line_octets, IsAlone, behind, Leads}
use Rattle.laws_dialogues.specs.Dialogue.{Passes, Stands, Ends, IsSound, HasNoTransfer, resting}

-- the client begins with a line or with nothing, and some turns lead to a goal, with something that holds all along
pub record LeadsBy (read : Reading) (Along Goal : Near → Far → Type 0) (op : Op (List ℕ)) (n : Near) (f : Far) : Type 0 where
  pub near : Near
  pub line : Option (List ℕ)
  pub left : ℕ
  pub begins_so : (job : Job) → begins op (record (calm (resting n)) { job = job }) ≡ record (calm near) { owed = line_octets line }
  pub fine : IsAlone line []
  pub leads : Leads read Along Goal left (behind line []) near f

-- the goal is this answer and this state, with the map before or behind it all along
abbrev pub LeadsToAnswer : Reading → State → Op (List ℕ) → Said × State → Near → Far → Type 0
LeadsToAnswer read state op result n f = LeadsBy read (Passes state.table result.1.table) (Ends result) op n f

-- so it is of every such operation that can be sent, with the answer of the direct run
abbrev pub EachLeadsAsRun : Type 0
EachLeadsAsRun =
    (read : Reading) (state : State) (op : Op (List ℕ)) (moment : ℕ) (n : Near) (f : Far) → IsReading read → HasNoTransfer op
    → can_be_sent op ≡ true → IsSound state → Stands state n f → LeadsToAnswer read state op (answer state op moment) n f

-- and a sound state is left sound
abbrev pub EachStaysSound : Type 0
EachStaysSound = (state : State) (op : Op (List ℕ)) (moment : ℕ) → HasNoTransfer op → can_be_sent op ≡ true → IsSound state → IsSound (answer state op moment).1
