-- The client's dialogue: what it sends, and how a reply is judged by its first digit and by its place (RFC 959, sections 4.2 and
-- 5.4).
use Rattle.std.specs.Prelude.{ℕ, ◌==◌, ◌&&◌, ◌||◌, Bool, true, false, nat_le, List, [], ◌∷◌, ◌++◌, Option, Some, None, if◌then◌else◌}
use Rattle.std.specs.Option.{option_map}
use Rattle.ftp_command.specs.Line.{line_of}
use Rattle.ftp_command.specs.declared.command.Command.{Command}
use Rattle.ftp_command.specs.declared.command.Command.TheVariants as Commands
use Rattle.ftp_endpoint.specs.declared.endpoint.Endpoint.{Endpoint}
use Rattle.ftp_operation.specs.Answer.{Said, Done, Path, Number, Stamp, Entry, Refused, Unopened, Foreign}
use Rattle.ftp_operation.specs.declared.op.Op.{Op}
use Rattle.ftp_operation.specs.declared.op.Op.TheVariants as Ops
use Rattle.ftp_nvt.specs.Lines.{written_line}
use Rattle.ftp_reply.specs.Lines.{Text, joined}
use Rattle.ftp_ends.specs.Link.{same_host}
use Rattle.ftp_facts.specs.Moment.{moment_value}
use Rattle.ftp_client_model.specs.Octets.{flow_of, settled_of, has_enough, content_answer, cut_answer, whole_answer}
use Rattle.ftp_client_model.specs.Plan.{asked_settings, first_step, next_step, settings_behind, command_of, is_extended}
use Rattle.ftp_client_model.specs.Replies.{Verdict, Preliminary, Completion, Intermediate, Negative, Closing, Displaced, verdict_of}
use Rattle.ftp_client_model.specs.Tries.{Run, next_in, run_at}
use Rattle.ftp_facts.specs.Value.{number_value}
use Rattle.ftp_reply.specs.declared.code.TheConstants.{BROKEN, DELAYED, MARK, NO_CONNECTION}
use Rattle.ftp_reply.specs.Values.{extended_value, facts_in, mark_value, passive_value, path_value}
use Rattle.ftp_client_model.specs.View.{View, Job, Waiting, Doing, Transferring, Transfer, Flow, Sending, Receiving, stands, dropped, done_with, fails, strange}
use Rattle.ftp_client_model.specs.declared.client.Abort.{Abort}
use Rattle.ftp_client_model.specs.declared.client.Abort.TheVariants as Aborts
use Rattle.ftp_client_model.specs.declared.client.Ending.{Ending}
use Rattle.ftp_client_model.specs.declared.client.Ending.TheVariants as Endings
use Rattle.ftp_client_model.specs.declared.client.Failure.TheVariants as Failures
use Rattle.ftp_client_model.specs.declared.client.ClientLink.{ClientLink}
use Rattle.ftp_client_model.specs.declared.client.ClientLink.TheVariants as Data
use Rattle.ftp_client_model.specs.declared.client.Replied.{Replied}
use Rattle.ftp_client_model.specs.declared.client.Replied.TheVariants as Replies
use Rattle.ftp_client_model.specs.declared.client.Standing.{Standing}
use Rattle.ftp_client_model.specs.declared.client.Standing.TheVariants as Stands
use Rattle.ftp_client_model.specs.declared.client.Step.{Step}
use Rattle.ftp_client_model.specs.declared.client.Step.TheVariants as Steps

-- ---- what is sent

-- a command's line is owed
abbrev pub sends : Command (List ℕ) → View → View
sends command v = record v { owed = v.owed ++ written_line (line_of command) }

-- a step may have no command
abbrev pub sends_if : Option (Command (List ℕ)) → View → View
sends_if None v = v
sends_if (Some command) v = sends command v

-- with its own command an operation's transfer begins, where it has one
abbrev pub last_job : Op (List ℕ) → Option Flow → Job
last_job op None = Doing op Steps.Last
last_job op (Some flow) = Transferring op (record { replied = Replies.Nothing; abort = Aborts.Unsent; flow = flow })

-- an operation at a step: its command is sent, or a port is wanted
abbrev pub placed : Op (List ℕ) → Step → View → View
placed op Steps.Listen v = record v { job = Doing op Steps.Listen; connection = Data.ListenWanted }
placed op Steps.Last v = sends_if (command_of v op Steps.Last) (record v { job = last_job op (flow_of op) })
placed op step v = sends_if (command_of v op step) (record v { job = Doing op step })

-- an operation begins
abbrev pub begins : Op (List ℕ) → View → View
begins op v = placed op (first_step v.settings op) v

-- and goes on behind a step that was answered well
abbrev pub goes_on : Op (List ℕ) → Step → View → View
goes_on op step v = placed op (next_step v.settings op step) v

-- ---- the end of an operation

-- an operation of a run was answered: the next one, where there is one
abbrev pub next_with : Option Run → Op (List ℕ) → Said → Option (Op (List ℕ))
next_with None op answer = None
next_with (Some run) op answer = next_in run op answer

-- of the operation under way
abbrev pub next_job : Option Run → Job → Said → Option (Op (List ℕ))
next_job run (Doing op step) answer = next_with run op answer
next_job run (Transferring op transfer) answer = next_with run op answer
next_job run other answer = None

-- no link of it is needed; the run goes on with its next operation, or the answer is told
abbrev pub finishes_by : Option (Op (List ℕ)) → Said → View → View
finishes_by None answer v = done_with answer (dropped v)
finishes_by (Some op) answer v = begins op (record (dropped v) { run = option_map (run_at op) v.run })

-- an operation is answered
abbrev pub finishes : Said → View → View
finishes answer v = finishes_by (next_job v.run v.job answer) answer v

-- the answer that was read, or what was said has no place
abbrev pub finishes_read : Option Said → View → View
finishes_read None v = strange v
finishes_read (Some answer) v = finishes answer v

-- ---- the login (RFC 959, section 5.4)

-- after a greeting USER is sent; own choice: 120 is skipped, and another greeting has no place
abbrev pub greeted : Verdict → ℕ → View → View
greeted Completion code v = sends (Commands.User v.user) (record v { standing = Stands.User })
greeted Preliminary code v = if code == DELAYED then v else strange v
greeted other code v = strange v

-- the login is over, whatever its last reply said: an operation that waits begins
abbrev pub enters_with : Job → View → View
enters_with (Waiting op) v = begins op v
enters_with other v = v

-- operations are sent from now on
abbrev pub login_ends : View → View
login_ends v = enters_with v.job (record v { standing = Stands.Entered })

-- PASS is sent where USER is answered that it is needed
abbrev pub user_answered : Verdict → View → View
user_answered Intermediate v = sends (Commands.Pass v.pass) (record v { standing = Stands.Pass })
user_answered Completion v = login_ends v
user_answered Negative v = login_ends v
user_answered other v = strange v

-- what PASS is answered with ends the login, a refusal too
abbrev pub pass_answered : Verdict → View → View
pass_answered Completion v = login_ends v
pass_answered Negative v = login_ends v
pass_answered other v = strange v

-- ---- an answer at a step

-- what an operation's own command is answered, a row an operation: a value in the reply's lines, joined by LF; none where the text
-- has no value that is asked for
abbrev pub answer_in : Op (List ℕ) → List Text → Option Said
answer_in Ops.Where texts = option_map Path (path_value (joined texts))
answer_in (Ops.MakeDir path) texts = option_map Path (path_value (joined texts))
answer_in (Ops.Size path how) texts = option_map Number (number_value (joined texts))
answer_in (Ops.Modified path) texts = option_map Stamp (moment_value (joined texts))
answer_in (Ops.Facts path) texts = option_map Entry (facts_in texts)
answer_in other texts = Some Done

-- the settings are those that the server accepted
abbrev pub set_accepted : Op (List ℕ) → Step → View → View
set_accepted op step v = goes_on op step (record v { settings = settings_behind step v.settings (asked_settings op) })

-- the link is to be opened to an endpoint
abbrev pub dials : Op (List ℕ) → Endpoint → View → View
dials op endpoint v = goes_on op Steps.Passive (record v { connection = Data.Connecting endpoint })

-- the endpoint of a 227 has to be on the server's host: own choice, no other is contacted
abbrev pub endpoint_named : Option Endpoint → Op (List ℕ) → View → View
endpoint_named None op v = strange v
endpoint_named (Some endpoint) op v = if same_host endpoint.host v.peer then dials op endpoint v else finishes Foreign v

-- a 229 means the host of the control connection (RFC 2428, section 3)
abbrev pub port_named : Option ℕ → Op (List ℕ) → View → View
port_named None op v = strange v
port_named (Some port) op v = dials op (record { host = v.peer; port = port }) v

-- what EPSV or PASV was answered with, by which of them was sent
abbrev pub passive_named : Bool → Op (List ℕ) → Text → View → View
passive_named true op text v = port_named (extended_value text) op v
passive_named false op text v = endpoint_named (passive_value text) op v

-- a 2yz at a step: a row a step
abbrev pub step_done : Op (List ℕ) → Step → List Text → View → View
step_done op Steps.Port texts v = goes_on op Steps.Port v
step_done op Steps.Passive texts v = passive_named (is_extended v op) op (joined texts) v
step_done op Steps.Last texts v = finishes_read (answer_in op texts) v
step_done op Steps.Listen texts v = strange v
step_done op Steps.Connect texts v = strange v
step_done op Steps.Restart texts v = strange v
step_done op Steps.Source texts v = strange v
step_done op step texts v = set_accepted op step v

-- REST and RNFR are answered that a command follows
abbrev pub intermediate : Op (List ℕ) → Step → View → View
intermediate op Steps.Restart v = goes_on op Steps.Restart v
intermediate op Steps.Source v = goes_on op Steps.Source v
intermediate op other v = strange v

-- nobody waits for a reply while a port or a link is awaited
abbrev pub awaits_reply : Step → Bool
awaits_reply Steps.Listen = false
awaits_reply Steps.Connect = false
awaits_reply other = true

-- a refusal at a step; what stands of the data connection is to be closed
abbrev pub refused : Step → ℕ → View → View
refused step code v = if awaits_reply step then finishes (Refused code) v else strange v

-- a reply to the command of a step, by its first digit
abbrev pub step_answered : Op (List ℕ) → Step → Verdict → ℕ → List Text → View → View
step_answered op step Completion code texts v = step_done op step texts v
step_answered op step Intermediate code texts v = intermediate op step v
step_answered op step Negative code texts v = refused step code v
step_answered op step other code texts v = strange v

-- ---- a transfer

-- after a 2yz, by the link's end
abbrev pub ended_answer : Ending → Op (List ℕ) → Flow → Option Said
ended_answer Endings.Clean op flow = whole_answer op flow
ended_answer Endings.Ours op flow = whole_answer op flow
ended_answer Endings.Broken op flow = cut_answer op flow
ended_answer Endings.Foreign op flow = Some Foreign

-- after 426; own choice: a Peek goes by its link's end
abbrev pub broken_off_answer : Ending → Op (List ℕ) → Flow → Option Said
broken_off_answer Endings.Clean (Ops.Peek path count how) flow = whole_answer (Ops.Peek path count how) flow
broken_off_answer ending op flow = cut_answer op flow

-- after a refusal: 425 tells that no link was opened, and nothing done; 426 that it broke
abbrev pub refused_answer : Ending → ℕ → Op (List ℕ) → Flow → Option Said
refused_answer ending code op flow =
    if code == NO_CONNECTION then Some Unopened else (if code == BROKEN then broken_off_answer ending op flow else Some (Refused code))

-- 4yz or 5yz (RFC 959, section 4.2.1)
abbrev pub is_refusal_code : ℕ → Bool
is_refusal_code code = nat_le 400 code

-- a transfer's answer, from its final reply and its link's end: another host first, then a Peek that sent its ABOR, whatever the
-- final reply says, then a refusal, whatever became of the link
abbrev pub judged : Ending → Abort → ℕ → Op (List ℕ) → Flow → Option Said
judged Endings.Foreign abort code op flow = Some Foreign
judged ending Aborts.Answered code op flow = content_answer op (settled_of flow)
judged ending abort code op flow = if is_refusal_code code then refused_answer ending code op flow else ended_answer ending op flow

-- it is answered when its final reply and its link's end are both in, and the reply to its ABOR, where it sent one
abbrev pub answers_by : Replied → Abort → ClientLink → Op (List ℕ) → Flow → View → View
answers_by (Replies.Final code) Aborts.Unsent (Data.Over ending) op flow v = finishes_read (judged ending Aborts.Unsent code op flow) v
answers_by (Replies.Final code) Aborts.Answered (Data.Over ending) op flow v = finishes_read (judged ending Aborts.Answered code op flow) v
answers_by replied abort connection op flow v = v

-- of the transfer under way
abbrev pub answers_job : Job → View → View
answers_job (Transferring op transfer) v = answers_by transfer.replied transfer.abort v.connection op transfer.flow v
answers_job job v = v

-- the answer of a transfer stands as soon as all are in
abbrev pub answers_once_over : View → View
answers_once_over v = answers_job v.job v

-- the client's own end of a link: what stands is to be closed
abbrev pub closes : View → View
closes v = record v { connection = Data.Over Endings.Ours; closing = v.closing || stands v.connection }

-- a transfer that has begun closes the open link of an upload once all is given
abbrev pub has_begun : Replied → Bool
has_begun Replies.Nothing = false
has_begun other = true

-- all octets of an upload are out; of a download there are none to give
abbrev pub is_given : Flow → Bool
is_given (Sending [] mark) = true
is_given (Sending (octet ∷ left) mark) = false
is_given (Receiving decoder mark) = false

-- an upload ends by the client's close (RFC 959, section 3.4.1)
abbrev pub closes_once_given_by : Bool → ClientLink → View → View
closes_once_given_by true Data.Open v = closes v
closes_once_given_by given connection v = v

-- of the transfer under way
abbrev pub closes_once_given : Job → View → View
closes_once_given (Transferring op transfer) v = closes_once_given_by (has_begun transfer.replied && is_given transfer.flow) v.connection v
closes_once_given job v = v

-- no ABOR was sent
abbrev pub is_unsent : Abort → Bool
is_unsent Aborts.Unsent = true
is_unsent abort = false

-- own choice: ABOR is sent once the transfer has begun, its link is open and a Peek has enough, be the final reply in or not
abbrev pub is_to_abort : ClientLink → Op (List ℕ) → Transfer → Bool
is_to_abort Data.Open op transfer = is_unsent transfer.abort && has_begun transfer.replied && has_enough op transfer.flow
is_to_abort connection op transfer = false

-- ABOR is sent (RFC 959, section 4.1.3)
abbrev pub sends_abort : Op (List ℕ) → Transfer → View → View
sends_abort op transfer v = sends Commands.Abor (record v { job = Transferring op (record transfer { abort = Aborts.Sent }) })

-- of the transfer under way
abbrev pub aborts_once_enough : Job → View → View
aborts_once_enough (Transferring op transfer) v = if is_to_abort v.connection op transfer then sends_abort op transfer v else v
aborts_once_enough job v = v

-- what follows of where a transfer stands: the close of an upload, the ABOR of a Peek, and the answer
abbrev pub carries_on : View → View
carries_on v = let closed = closes_once_given v.job v in answers_once_over (aborts_once_enough closed.job closed)

-- a transfer's replies change
abbrev pub with_reply : Replied → Op (List ℕ) → Transfer → View → View
with_reply replied op transfer v = carries_on (record v { job = Transferring op (record transfer { replied = replied }) })

-- after the 1yz the server is awaited at the port
abbrev pub awaited : ClientLink → ClientLink
awaited (Data.Listening port) = Data.Accepting port
awaited other = other

-- a 1yz opens the transfer; own choice: a 110 doesn't
abbrev pub transfer_opened : ℕ → Op (List ℕ) → Transfer → View → View
transfer_opened code op transfer v = if code == MARK then v else with_reply Replies.Begun op transfer (record v { connection = awaited v.connection })

-- a 110 of an upload tells its mmmm; one without a mark is passed over, and so is any further 1yz (own choice)
abbrev pub marked_flow : Option ℕ → Flow → Flow
marked_flow (Some mark) (Sending left before) = Sending left (Some mark)
marked_flow read flow = flow

-- a 110 during a transfer is noted, and any other 1yz is passed over
abbrev pub noted : ℕ → Text → Op (List ℕ) → Transfer → View → View
noted code text op transfer v =
    if code == MARK then record v { job = Transferring op (record transfer { flow = marked_flow (mark_value text) transfer.flow }) } else v

-- a refusal ends the wait for a link that never opened
abbrev pub unless_open : ClientLink → View → View
unless_open Data.Open v = v
unless_open (Data.Over ending) v = v
unless_open connection v = closes v

-- before its 1yz a transfer is refused or begins; a 2yz or 3yz has no place
abbrev pub before_opening : Verdict → ℕ → Op (List ℕ) → Transfer → View → View
before_opening Preliminary code op transfer v = transfer_opened code op transfer v
before_opening Negative code op transfer v = with_reply (Replies.Final code) op transfer (closes v)
before_opening other code op transfer v = strange v

-- after it, a 2yz, 4yz or 5yz is its final reply
abbrev pub behind_opening : Verdict → ℕ → Text → Op (List ℕ) → Transfer → View → View
behind_opening Preliminary code text op transfer v = noted code text op transfer v
behind_opening Completion code text op transfer v = with_reply (Replies.Final code) op transfer v
behind_opening Negative code text op transfer v = with_reply (Replies.Final code) op transfer (unless_open v.connection v)
behind_opening other code text op transfer v = strange v

-- behind the final reply comes that to an ABOR, a 2yz; nobody waits for another
abbrev pub abort_answered : Abort → Verdict → Op (List ℕ) → Transfer → View → View
abort_answered Aborts.Sent Completion op transfer v = carries_on (record v { job = Transferring op (record transfer { abort = Aborts.Answered }) })
abort_answered abort verdict op transfer v = strange v

-- by the replies that came before
abbrev pub transfer_answered : Replied → Verdict → ℕ → Text → Op (List ℕ) → Transfer → View → View
transfer_answered Replies.Nothing verdict code text op transfer v = before_opening verdict code op transfer v
transfer_answered Replies.Begun verdict code text op transfer v = behind_opening verdict code text op transfer v
transfer_answered (Replies.Final before) verdict code text op transfer v = abort_answered transfer.abort verdict op transfer v

-- ---- a reply

-- a reply that comes while an operation is under way, or that nobody waits for
abbrev pub job_answered : Job → Verdict → ℕ → List Text → View → View
job_answered (Doing op step) verdict code texts v = step_answered op step verdict code texts v
job_answered (Transferring op transfer) verdict code texts v = transfer_answered transfer.replied verdict code (joined texts) op transfer v
job_answered other verdict code texts v = strange v

-- who is answered: the greeting, USER, PASS, or the operation under way
abbrev pub stand_answered : Standing → Verdict → ℕ → List Text → View → View
stand_answered Stands.Greeting verdict code texts v = greeted verdict code v
stand_answered Stands.User verdict code texts v = user_answered verdict v
stand_answered Stands.Pass verdict code texts v = pass_answered verdict v
stand_answered Stands.Entered verdict code texts v = job_answered v.job verdict code texts v
stand_answered (Stands.Failed failure) verdict code texts v = v

-- at any time 421 tells that the connection is lost, and 332 has no place
abbrev pub judged_reply : Verdict → ℕ → List Text → View → View
judged_reply Closing code texts v = fails Failures.Lost v
judged_reply Displaced code texts v = strange v
judged_reply verdict code texts v = stand_answered v.standing verdict code texts v

-- one reply
unfoldable pub answered : (code : ℕ) → List Text → View → View
answered code texts v = judged_reply (verdict_of code) code texts v
