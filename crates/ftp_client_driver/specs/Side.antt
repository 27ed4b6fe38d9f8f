-- A client as the end of a session that is driven: what its calls do, as `Near` says it (RFC 959, section 2.3).
use Rattle.std.specs.Prelude.{◌≡◌, ℕ, Bool, true, false, IsTrue, length, List, Option, take}
use Rattle.ftp_ports.specs.Actions.{Stand}
use Rattle.ftp_ports.specs.Machine.{Machine, Call, Aside, Held, rest_by, side_of, stand_of}
use Rattle.ftp_ports.specs.Side.{Side}
use Rattle.ftp_ports.specs.declared.control.Control.{Control}
use Rattle.ftp_ends.specs.declared.link.Wants.TheVariants as Want
use Rattle.ftp_operation.specs.Answer as Answers
use Rattle.ftp_operation.specs.declared.op.Op.{Op}
use Rattle.ftp_client_model.specs.Tries.{OverBreaks}
use Rattle.ftp_client_model.specs.Calls.{control_end, data_closed, data_end, data_fault, data_opened, data_refused, gives_control, gives_data, is_busy, is_sound, listen_refused, may_hear, may_receive, port_told, report_of, reports, starts, to_give, uploads, wants}
use Rattle.ftp_client_model.specs.Counting.{MovesByOneAtMost}
use Rattle.ftp_client_model.specs.View.{Job, Idle, Waiting, Doing, Transferring, Told}
use Rattle.ftp_client_model.specs.Failing.{Client, HearsIfRoom, Holds, HoldsIfRoom, ReceivesIfRoom, data_end_short, data_fault_short, data_opened_short, data_refused_short, listen_refused_short, port_told_short, short, starts_short, uploads_short}

-- its calls that the other end does not have: it is asked for its report; an operation is begun, or an upload that goes on after breaks
pub data ClientOwnCall : Type 0 where
  Reporting : (said : Option Answers.Said) → ClientOwnCall
  Starting : (op : Op (List ℕ)) → ClientOwnCall
  Uploading : (upload : OverBreaks) → ClientOwnCall

abbrev pub Report : (said : Option Answers.Said) → Call ClientOwnCall
Report said = Aside (Reporting said)

-- so several drives of one client, each after the operation that it answers was begun, are one list of actions
abbrev pub Begun : (op : Op (List ℕ)) → Call ClientOwnCall
Begun op = Aside (Starting op)

abbrev pub BegunUpload : (upload : OverBreaks) → Call ClientOwnCall
BegunUpload upload = Aside (Uploading upload)

-- an operation was begun and is not answered
abbrev pub is_operation_under_way : Job → Bool
is_operation_under_way Idle = false
is_operation_under_way (Waiting op) = true
is_operation_under_way (Doing op step) = true
is_operation_under_way (Transferring op transfer) = true
is_operation_under_way (Told answer) = false

-- each of its calls that may take memory tells by its count of refused growths whether it was refused: the count stays, or moves on by one
abbrev pub Counted : Type 0 → (old new : Client) → Type 0
Counted Held old new = Held × MovesByOneAtMost old.refusals new.refusals

-- what each of its own calls does; one is begun only by a client that is not busy
abbrev pub IsOwn : ClientOwnCall → (old new : Client) → Type 0
IsOwn (Reporting said) old new = (said ≡ report_of old.view) × Holds old new (reports old.view)
IsOwn (Starting op) old new = (is_busy old.view ≡ false) × Counted (HoldsIfRoom old new (starts op old.view) (starts_short op old.view)) old new
IsOwn (Uploading upload) old new =
    (is_busy old.view ≡ false) × Counted (HoldsIfRoom old new (uploads upload old.view) (uploads_short upload old.view)) old new

-- it is told of a close only as it wants that, while an operation is under way and it has not failed; it is done with its data connections where
-- none is under way
abbrev pub client_machine : Machine
client_machine = record {
  Here = Client;
  wants = λ client. wants client.view;
  serves = false;
  owed = λ client. client.view.owed;
  may_hear = λ client. may_hear client.view;
  may_receive = λ client. may_receive client.view;
  Hears = λ octets unheard old new. Counted (HearsIfRoom old new unheard (length octets)) old new;
  Gives = λ count old new. Holds old new (gives_control count old.view);
  IsCut = λ old new. Holds old new (control_end old.view);
  Own = ClientOwnCall;
  Owns = IsOwn;
  Listening = λ port old new. Counted (HoldsIfRoom old new (port_told port old.view) (port_told_short port old.view)) old new;
  Opened = λ host old new. Counted (HoldsIfRoom old new (data_opened host old.view) (data_opened_short old.view)) old new;
  Received = λ octets count old new. Counted (ReceivesIfRoom old new octets count) old new;
  Gave = λ count octets rest old new.
      (octets ≡ take count (to_give old.view)) × Counted (HoldsIfRoom old new (gives_data count old.view) (short old.view)) old new × (rest ≡ rest_by (wants new.view));
  NoPort = λ old new. Counted (HoldsIfRoom old new (listen_refused old.view) (listen_refused_short old.view)) old new;
  Refused = λ old new. Counted (HoldsIfRoom old new (data_refused old.view) (data_refused_short old.view)) old new;
  End = λ old new. Counted (HoldsIfRoom old new (data_end old.view) (data_end_short old.view)) old new;
  Break = λ old new. Counted (HoldsIfRoom old new (data_fault old.view) (data_fault_short old.view)) old new;
  Closed = λ old new. Holds old new (data_closed old.view);
  IsCloseDue = λ client. IsTrue (is_sound client.view.standing) → IsTrue (is_operation_under_way client.view.job) → wants client.view ≡ Want.CloseData;
  IsDone = λ client. is_operation_under_way client.view.job ≡ false;
}

abbrev pub client_side : Side
client_side = side_of client_machine

-- it and its data connection beside a control connection, by what its reader has left and what its writer holds
abbrev pub client_beside : {R W : Type 0} → (R → Option (List ℕ)) → (W → Option (List ℕ)) → Held Client → Control R W → Stand client_side
client_beside remaining contents owner control = stand_of client_machine remaining contents owner control
