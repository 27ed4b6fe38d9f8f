-- How many octets a client holds, beside the texts of an operation and what its report brings (own choice of the limits): the sum of the
-- lengths of all else that it stores. What an upload is still to give is the operation's; what came of a download is its report's, and so is what
-- came of one amid which the control connection ended.
use Rattle.std.specs.Prelude.{ℕ, ◌+◌, ◌<◌, ◌≤◌, List, [], ◌∷◌, length, IsTrue, if◌then◌else◌}
use Rattle.ftp_endpoint.specs.declared.host.Host.{Host}
use Rattle.ftp_endpoint.specs.Written.{IsTypedHost}
use Rattle.ftp_operation.specs.Account.{is_user, is_password}
use Rattle.ftp_operation.specs.declared.op.Op.{Op}
use Rattle.ftp_ends.specs.Limits.{held_limit}
use Rattle.ftp_wire.specs.Stored.{encoder_limit}
use Rattle.ftp_reply.specs.Lines.{Text}
use Rattle.ftp_reply.specs.Reader.{Gathered, Between, Begun}
use Rattle.ftp_client_model.specs.Calls.{starts, uploads, is_busy, reports, hears_octet, may_hear, gives_control, control_end, port_told}
use Rattle.ftp_client_model.specs.Calls.{listen_refused, data_opened, data_refused, data_end, data_fault, data_closed, receives_octet, may_receive, gives_data}
use Rattle.ftp_client_model.specs.Failing.{short, starts_short, uploads_short, port_told_short, data_opened_short, data_end_short}
use Rattle.ftp_client_model.specs.Telling.{kept_limit}
use Rattle.ftp_client_model.specs.Tries.{OverBreaks}
use Rattle.ftp_client_model.specs.View.{View, client}

-- the octets of texts
abbrev pub texts_len : List Text → ℕ
texts_len [] = 0
texts_len (text ∷ texts) = length text + texts_len texts

-- the lines of a reply that came
abbrev pub gathered_len : Gathered → ℕ
gathered_len Between = 0
gathered_len (Begun code texts) = texts_len texts

-- the login, the line that is being read, the reply that it is of, and what is owed
abbrev pub talk_len : View → ℕ
talk_len v = length v.user + length v.pass + (length v.ear.line.text + (gathered_len v.gathered + length v.owed))

-- the most octets that a transfer stores: a block as it is filled and written
abbrev pub block_stored_limit : ℕ
block_stored_limit = encoder_limit

-- all of it, where so many octets are stored of a transfer; the line that the server said last has its room at any time
abbrev pub held : ℕ → View → ℕ
held stored v = stored + (talk_len v + kept_limit)

-- ---- after every list of calls

-- a call of a client, octet by octet; `Failing`: the same with a growth refused
pub data ClientCall : Type 0 where
  Start : (op : Op (List ℕ)) → ClientCall
  BeginUpload : (upload : OverBreaks) → ClientCall
  Hear DataHear : (octet : ℕ) → ClientCall
  ControlOut DataOut : (count : ℕ) → ClientCall
  Listening : (port : ℕ) → ClientCall
  DataOpened : (host : Host) → ClientCall
  Report ControlEnd ListenRefused DataRefused DataEnd DataFault DataClosed : ClientCall
  Failing : (call : ClientCall) → ClientCall

-- a growth was refused in it
abbrev pub failed_call : ClientCall → View → View
failed_call (Start op) v = if is_busy v then v else starts_short op v
failed_call (BeginUpload upload) v = if is_busy v then v else uploads_short upload v
failed_call (Listening port) v = port_told_short port v
failed_call (DataOpened host) v = data_opened_short v
failed_call DataEnd v = data_end_short v
failed_call (Hear octet) v = short v
failed_call (DataHear octet) v = short v
failed_call other v = v

-- the view behind a call; what is refused, and an octet that may not be taken, changes nothing
abbrev pub called : ClientCall → View → View
called (Start op) v = if is_busy v then v else starts op v
called (BeginUpload upload) v = if is_busy v then v else uploads upload v
called (Hear octet) v = if may_hear v then hears_octet v octet else v
called (DataHear octet) v = if may_receive v then receives_octet v octet else v
called (ControlOut count) v = gives_control count v
called (DataOut count) v = gives_data count v
called (Listening port) v = port_told port v
called (DataOpened host) v = data_opened host v
called Report v = reports v
called ControlEnd v = control_end v
called ListenRefused v = listen_refused v
called DataRefused v = data_refused v
called DataEnd v = data_end v
called DataFault v = data_fault v
called DataClosed v = data_closed v
called (Failing call) v = failed_call call v

-- calls in order
abbrev pub called_all : List ClientCall → View → View
called_all [] v = v
called_all (call ∷ calls) v = called_all calls (called call v)

-- a port has 16 bits
abbrev pub IsTypedCall : ClientCall → Type 0
IsTypedCall (Listening port) = port < 65536
IsTypedCall (Failing call) = IsTypedCall call
IsTypedCall call = Unit {0}

-- so has that of each of these calls
abbrev pub AreTypedCalls : List ClientCall → Type 0
AreTypedCalls [] = Unit {0}
AreTypedCalls (call ∷ calls) = IsTypedCall call × AreTypedCalls calls

-- whatever is called, a client never holds more, whatever it may store of a transfer
abbrev pub ClientHoldsLittle : Type 0
ClientHoldsLittle =
    (user pass : List ℕ) (here peer : Host) (calls : List ClientCall) (stored : ℕ)
    → IsTrue (is_user user) → IsTrue (is_password pass) → IsTypedHost here → AreTypedCalls calls
    → stored ≤ block_stored_limit → held stored (called_all calls (client user pass here peer)) ≤ held_limit
