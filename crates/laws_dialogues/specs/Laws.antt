-- What the dialogues lead to.
use Rattle.std.specs.Prelude.{◌≡◌, true, ℕ, List}
use Rattle.ftp_operation.specs.Operation.{can_be_sent}
use Rattle.ftp_operation.specs.declared.op.Op.{Op}
use Rattle.ftp_direct.specs.Direct.{State, answer}
use Rattle.ftp_server_model.specs.Machine.{Reading, IsReading}
use Rattle.laws_dialogues.specs.Dialogue.{IsSound, HasNoTransfer}
use Rattle.laws_dialogues.specs.Login.{AtFree, AtOperation}
use Rattle.laws_dialogues.specs.Stage.{Turns}

-- the login leads to where nothing is under way
abbrev pub LoginLeads : Type 0
LoginLeads = (read : Reading) (state : State) → IsReading read → Turns read (AtFree state)

-- an operation, begun in the login or behind it, leads to its answer
abbrev pub OperationLeads : Type 0
OperationLeads =
    (read : Reading) (state : State) (op : Op (List ℕ)) (moment : ℕ) → IsReading read → HasNoTransfer op → can_be_sent op ≡ true → IsSound state
    → Turns read (AtOperation read state op (answer state op moment))
