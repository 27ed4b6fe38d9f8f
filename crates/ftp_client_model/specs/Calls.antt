-- Each call of a client as a function of what it holds, and when an octet may be taken (RFC 959, sections 2.3 and 5.4).
use Rattle.std.specs.Prelude.{ℕ, ◌<◌, ◌==◌, ◌&&◌, Bool, true, false, nat_le, List, [], ◌∷◌, ◌++◌, length, take, drop, Option, Some, None, IsTrue, if◌then◌else◌}
use Rattle.ftp_endpoint.specs.declared.host.Host.{Host}
use Rattle.ftp_operation.specs.Answer.{Said, BadOperation, Unopened}
use Rattle.ftp_operation.specs.Operation.{can_be_sent}
use Rattle.ftp_operation.specs.declared.op.Op.{Op}
use Rattle.ftp_nvt.specs.Lines.{NvtEvent, line, too_long, owed}
use Rattle.ftp_ends.specs.Ear.{ear}
pub use Rattle.ftp_ends.specs.Reply.{reply_limit}
use Rattle.ftp_ends.specs.Link.{same_host}
use Rattle.ftp_client_model.specs.Dialogue.{begins, goes_on, finishes, answered, aborts_once_enough, carries_on, has_begun}
use Rattle.ftp_client_model.specs.Octets.{flow_octet}
use Rattle.ftp_reply.specs.Reader.{Between, Heard, GoesOn, Says, Faulty, line_heard}
use Rattle.ftp_client_model.specs.Tries.{OverBreaks, Run, run_of, first_try}
use Rattle.ftp_client_model.specs.View.{View, Job, Idle, Waiting, Doing, Transferring, Told, Transfer}
use Rattle.ftp_client_model.specs.View.{Flow, Sending, Receiving, done_with, fails, failure_said, strange}
use Rattle.ftp_client_model.specs.declared.client.Abort.{Abort}
use Rattle.ftp_client_model.specs.declared.client.Abort.TheVariants as Aborts
use Rattle.ftp_client_model.specs.declared.client.Ending.{Ending}
use Rattle.ftp_client_model.specs.declared.client.Ending.TheVariants as Endings
use Rattle.ftp_client_model.specs.declared.client.Failure.TheVariants as Failures
use Rattle.ftp_client_model.specs.declared.client.ClientLink.{ClientLink}
use Rattle.ftp_client_model.specs.declared.client.ClientLink.TheVariants as Data
use Rattle.ftp_client_model.specs.declared.client.Standing.{Standing}
use Rattle.ftp_client_model.specs.declared.client.Standing.TheVariants as Stands
use Rattle.ftp_client_model.specs.declared.client.Step.TheVariants as Steps
use Rattle.ftp_ends.specs.declared.link.Wants.{Wants}
use Rattle.ftp_ends.specs.declared.link.Wants.TheVariants as Want

-- ---- start and report

-- an operation is begun and its report was not taken: another is refused, and nothing changes
abbrev pub is_busy_job : Job → Bool
is_busy_job Idle = false
is_busy_job other = true

-- `start` is refused
abbrev pub is_busy : View → Bool
is_busy v = is_busy_job v.job

-- what is left of what was handed in: nothing, but all of it where the client is busy
abbrev pub handed_back : {T : Type 0} → Bool → Option T → Option T
handed_back true given = given
handed_back false given = None

-- an operation that can be sent waits for the end of the login, or begins; after a failure each is answered with it
abbrev pub started_by : Standing → Op (List ℕ) → View → View
started_by Stands.Entered op v = begins op v
started_by (Stands.Failed failure) op v = done_with (failure_said failure) v
started_by other op v = record v { job = Waiting op }

-- own choice: one that can't be sent is answered at once, and nothing is sent; a failure that stands comes before that
abbrev pub unsendable_by : Standing → View → View
unsendable_by (Stands.Failed failure) v = done_with (failure_said failure) v
unsendable_by other v = done_with BadOperation v

-- an operation is begun, alone or as the first of a run
abbrev pub begun : Option Run → Op (List ℕ) → View → View
begun run op v = if can_be_sent op then started_by v.standing op (record v { run = run }) else unsendable_by v.standing v

-- `start`, of a client that isn't busy
unfoldable pub starts : Op (List ℕ) → View → View
starts op v = begun None op v

-- `upload`, of a client that isn't busy: an upload over breaks, as a run of operations with one report
unfoldable pub uploads : OverBreaks → View → View
uploads u v = begun (Some (run_of u)) (first_try u) v

-- `report`: the answer that stands, which is taken by it
abbrev pub report_of_job : Job → Option Said
report_of_job (Told answer) = Some answer
report_of_job other = None

-- the answer that `report` gives
abbrev pub report_of : View → Option Said
report_of v = report_of_job v.job

-- an answer is given once; behind it another operation may begin
abbrev pub reported_by : Job → View → View
reported_by (Told answer) v = record v { job = Idle }
reported_by other v = v

-- what `report` leaves
abbrev pub reports : View → View
reports v = reported_by v.job v

-- ---- the control connection

-- a line goes on with a reply, or ends it; own choice: one without a place, and one that is too long, are strange
abbrev pub line_taken : Heard → View → View
line_taken (GoesOn gathered) v = record v { gathered = gathered }
line_taken (Says code texts) v = answered code texts (record v { gathered = Between })
line_taken (Faulty fault) v = strange v

-- the answer that Telnet octets are owed goes out as it is
abbrev pub event_taken : NvtEvent → View → View
event_taken (line text) v = line_taken (line_heard v.gathered text) v
event_taken too_long v = strange v
event_taken (owed answer) v = record v { owed = v.owed ++ answer }

-- events in order
abbrev pub events_taken : List NvtEvent → View → View
events_taken [] v = v
events_taken (event ∷ events) v = events_taken events (event_taken event v)

-- one octet of the control connection
abbrev pub hears_octet : View → ℕ → View
hears_octet v octet = events_taken ((ear reply_limit).out v.ear octet) (record v { ear = (ear reply_limit).step v.ear octet })

-- octets of the control connection, one by one
abbrev pub hears : View → List ℕ → View
hears v [] = v
hears v (octet ∷ octets) = hears (hears_octet v octet) octets

-- the client has not failed
abbrev pub is_sound : Standing → Bool
is_sound (Stands.Failed failure) = false
is_sound other = true

-- an octet of the control connection may be taken: while 1,024 octets are owed at most (own choice), and not after a failure
abbrev pub may_hear : View → Bool
may_hear v = is_sound v.standing && nat_le (length v.owed) 1024

-- the end of the control connection: lost
unfoldable pub control_end : View → View
control_end v = fails Failures.Lost v

-- so many of the octets that are owed went out
abbrev pub gives_control : ℕ → View → View
gives_control count v = record v { owed = drop count v.owed }

-- ---- the data connection: while a close is wanted, nothing else is told

-- a call that has no use while a close is wanted
abbrev pub unless_closing : (View → View) → View → View
unless_closing f v = if v.closing then v else f v

-- a port is listened at: PORT names it
abbrev pub listening_by : ClientLink → Job → ℕ → View → View
listening_by Data.ListenWanted (Doing op Steps.Listen) port v = goes_on op Steps.Listen (record v { connection = Data.Listening port })
listening_by connection job port v = v

-- a wanted port is there
unfoldable pub listening : ℕ → View → View
listening port v = unless_closing (λ v. listening_by v.connection v.job port v) v

-- no port can be had: the operation is not opened
abbrev pub no_port_by : ClientLink → View → View
no_port_by Data.ListenWanted v = finishes Unopened v
no_port_by connection v = v

-- no port is there
unfoldable pub listen_refused : View → View
listen_refused v = unless_closing (λ v. no_port_by v.connection v) v

-- a port is told: nobody can be told to come to port 0, so it is as no port
abbrev pub port_told : ℕ → View → View
port_told port v = if port == 0 then listen_refused v else listening port v

-- the link that the client opened is there, and the next command is sent
abbrev pub connected : Job → View → View
connected (Doing op Steps.Connect) v = goes_on op Steps.Connect (record v { connection = Data.Open })
connected job v = v

-- own choice: the link at the client's port has to come from the server's host, and another is closed
abbrev pub accepted : Bool → View → View
accepted true v = carries_on (record v { connection = Data.Open })
accepted false v = carries_on (record v { connection = Data.Over Endings.Foreign; closing = true })

-- an open link is the one that the client dialled, or one at its port
abbrev pub opened_by : ClientLink → Host → View → View
opened_by (Data.Connecting endpoint) host v = connected v.job v
opened_by (Data.Accepting port) host v = accepted (same_host host v.peer) v
opened_by connection host v = v

-- the link is open, with this host at its other end
unfoldable pub data_opened : Host → View → View
data_opened host v = unless_closing (λ v. opened_by v.connection host v) v

-- the link can't be had: before a transfer command the operation is not opened; own choice: at the client's port it counts as broken
abbrev pub unopened_by : ClientLink → View → View
unopened_by (Data.Connecting endpoint) v = finishes Unopened v
unopened_by (Data.Accepting port) v = carries_on (record v { connection = Data.Over Endings.Broken; closing = true })
unopened_by connection v = v

-- the link is not had
unfoldable pub data_refused : View → View
data_refused v = unless_closing (λ v. unopened_by v.connection v) v

-- a download
abbrev pub is_down : Flow → Bool
is_down (Sending left mark) = false
is_down (Receiving decoder mark) = true

-- own choice: the server's close ends a download; before the transfer command, and of an upload that still has octets, it is a break
abbrev pub ending_of : Job → Ending
ending_of (Transferring op transfer) = if is_down transfer.flow then Endings.Clean else Endings.Broken
ending_of other = Endings.Broken

-- an open link is over, in this way
abbrev pub over_by : ClientLink → Ending → View → View
over_by Data.Open ending v = carries_on (record v { connection = Data.Over ending })
over_by connection ending v = v

-- the server closed the open link
unfoldable pub data_end : View → View
data_end v = unless_closing (λ v. over_by v.connection (ending_of v.job) v) v

-- the link broke
unfoldable pub data_fault : View → View
data_fault v = unless_closing (λ v. over_by v.connection Endings.Broken v) v

-- a close that was wanted is done
abbrev pub data_closed : View → View
data_closed v = record v { closing = false }

-- ---- the octets of the data connection

-- one octet of a download; behind an ABOR it is dropped (own choice)
abbrev pub heard_flow : Abort → Flow → ℕ → Flow
heard_flow Aborts.Unsent flow octet = flow_octet flow octet
heard_flow abort flow octet = flow

-- with it a Peek may have enough
abbrev pub with_flow : Op (List ℕ) → Transfer → Flow → View → View
with_flow op transfer flow v =
    let heard = record transfer { flow = flow } in
    aborts_once_enough (Transferring op heard) (record v { job = Transferring op heard })

-- of the transfer under way
abbrev pub heard_by : Job → ℕ → View → View
heard_by (Transferring op transfer) octet v = with_flow op transfer (heard_flow transfer.abort transfer.flow octet) v
heard_by job octet v = v

-- one octet of the data connection
abbrev pub receives_octet : View → ℕ → View
receives_octet v octet = heard_by v.job octet v

-- octets of the data connection, one by one
abbrev pub receives : View → List ℕ → View
receives v [] = v
receives v (octet ∷ octets) = receives (receives_octet v octet) octets

-- the transfer whose octets go over the open link
abbrev pub transfer_over : ClientLink → Job → Option Transfer
transfer_over Data.Open (Transferring op transfer) = Some transfer
transfer_over connection job = None

-- the transfer under way; none while a close is wanted
abbrev pub transfer_under_way : View → Option Transfer
transfer_under_way v = if v.closing then None else transfer_over v.connection v.job

-- it brings octets
abbrev pub downloads : Option Transfer → Bool
downloads None = false
downloads (Some transfer) = is_down transfer.flow

-- an octet of the data connection may be taken: of a download whose command was sent, while its link is open
abbrev pub may_receive : View → Bool
may_receive v = downloads (transfer_under_way v)

-- the octets of an upload that are still to give: only after the 1yz, while its link is open
abbrev pub left_of : Flow → List ℕ
left_of (Sending left mark) = left
left_of (Receiving decoder mark) = []

-- of a transfer that has begun
abbrev pub given_of : Option Transfer → List ℕ
given_of None = []
given_of (Some transfer) = if has_begun transfer.replied then left_of transfer.flow else []

-- the octets that the open link is still to carry
abbrev pub to_give : View → List ℕ
to_give v = given_of (transfer_under_way v)

-- so many of them went out; behind the last the link is to be closed
abbrev pub went : ℕ → Flow → Flow
went count (Sending left mark) = Sending (drop count left) mark
went count (Receiving decoder mark) = Receiving decoder mark

-- of the transfer under way
abbrev pub goes_by : ℕ → Job → View → View
goes_by count (Transferring op transfer) v = carries_on (record v { job = Transferring op (record transfer { flow = went count transfer.flow }) })
goes_by count job v = v

-- `data_out` gave so many octets
unfoldable pub gives_data : ℕ → View → View
gives_data count v = goes_by count v.job v

-- ---- what is wanted

-- what an open link is wanted for
abbrev pub data_wants : Option Transfer → Wants
data_wants None = Want.Nothing
data_wants (Some transfer) = if is_down transfer.flow then Want.Receive else (if has_begun transfer.replied then Want.Send else Want.Nothing)

-- what each state of the data connection asks of who owns it
abbrev pub link_wants : ClientLink → View → Wants
link_wants Data.ListenWanted v = Want.Listen
link_wants (Data.Connecting endpoint) v = Want.Connect endpoint
link_wants (Data.Accepting port) v = Want.Accept
link_wants Data.Open v = data_wants (transfer_under_way v)
link_wants other v = Want.Nothing

-- own choice: a close before all others; after a failure the control connection is done with
unfoldable pub wants : View → Wants
wants v = if v.closing then Want.CloseData else (if is_sound v.standing then link_wants v.connection v else Want.CloseAll)

-- ---- how many octets a call may take or give

-- each of the first octets of a piece could be taken when its turn came
abbrev pub MayTake : (View → Bool) → (View → List ℕ → View) → View → List ℕ → ℕ → Type 0
MayTake may takes v piece count = (k : ℕ) → k < count → IsTrue (may (takes v (take k piece)))

-- of `hear`
abbrev pub MayHearFront : View → List ℕ → ℕ → Type 0
MayHearFront v piece count = MayTake may_hear hears v piece count

-- of `data_hear`
abbrev pub MayReceiveFront : View → List ℕ → ℕ → Type 0
MayReceiveFront v piece count = MayTake may_receive receives v piece count
