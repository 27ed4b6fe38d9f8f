-- By which commands a data connection is asked for, and when by the others (RFC 959, section 4.1.2; RFC 2428, sections 2 and 3).
use Rattle.std.specs.Prelude.{ℕ, ◌==◌, ◌&&◌, ◌||◌, Bool, true, false, nat_le, not, if◌then◌else◌}
use Rattle.ftp_operation.specs.declared.answer.Answer.{Answer}
use Rattle.ftp_operation.specs.declared.answer.Answer.TheVariants as Answers
use Rattle.ftp_operation.specs.declared.op.ListVerb.{ListVerb}
use Rattle.ftp_operation.specs.declared.op.ListVerb.TheVariants as Verbs
use Rattle.ftp_reply.specs.declared.code.TheConstants.{BAD_ARGUMENT, BAD_PROTOCOL, NOT_AVAILABLE, NOT_IMPLEMENTED, UNKNOWN}
use Rattle.tool_session.specs.declared.opening.Opening.{Opening}
use Rattle.tool_session.specs.declared.opening.Opening.TheVariants as Openings
use Rattle.tool_session.specs.declared.opening.Stranger.{Stranger}
use Rattle.tool_session.specs.declared.opening.Stranger.TheVariants as Strangers

-- the codes of a server that does not know a command, or not with this argument (RFC 959, section 4.2.2), or not this protocol of the network (RFC 2428)
abbrev pub means_unknown : ℕ → Bool
means_unknown code = code == UNKNOWN || code == BAD_ARGUMENT || code == NOT_IMPLEMENTED || code == BAD_PROTOCOL

-- an answer that says so
abbrev pub says_unknown : {A : Type 0} → Answer A → Bool
says_unknown (Answers.Refused code) = means_unknown code
says_unknown answer = false

-- a code that refuses, but for that of a server that is not available (RFC 959, section 4.2.2)
abbrev pub refuses : ℕ → Bool
refuses code = nat_le 400 code && not (code == NOT_AVAILABLE)

-- an answer without a data connection after which PASV may help, where EPSV was asked for: a refusal, which came before the command of the transfer; or
-- nothing takes a connection at the port that a 229 told
abbrev pub fails_passive : {A : Type 0} → Answer A → Bool
fails_passive (Answers.Refused code) = refuses code
fails_passive Answers.Unopened = true
fails_passive answer = false

-- an answer without a data connection after which PASV or PORT may help
abbrev pub may_fall_back : {A : Type 0} → Answer A → (is_active : Bool) → Bool
may_fall_back answer true = says_unknown answer
may_fall_back answer false = fails_passive answer

-- by EPSV or EPRT, and not by PASV or PORT
abbrev pub asks_extended : Opening → Bool
asks_extended Openings.ExtendedFirst = true
asks_extended Openings.Extended = true
asks_extended Openings.Plain = false
asks_extended Openings.FellBack = false

-- what is asked after an operation was answered so, with a data connection or without: PASV or PORT where that was not asked for yet, no data connection
-- was opened, and it may help; else the same as before
abbrev pub opening_by : {A : Type 0} → Opening → Answer A → (is_active is_opened : Bool) → Opening
opening_by Openings.ExtendedFirst answer is_active is_opened =
    if is_opened then Openings.ExtendedFirst else if may_fall_back answer is_active then Openings.FellBack else Openings.ExtendedFirst
opening_by opening answer is_active is_opened = opening

-- how another host came to be at the other end of a data connection that was asked for so: it came where the server was to open it, and else a 227 names
-- it, since a 229 names none (RFC 2428, section 3; RFC 2577, section 3)
abbrev pub stranger_by : Opening → (is_active : Bool) → Stranger
stranger_by opening true = Strangers.Came
stranger_by Openings.FellBack false = Strangers.NamedBehind
stranger_by opening false = Strangers.Named

-- by which command a listing is asked for after such an answer: LIST where the server does not know MLSD (RFC 959, section 4.2.2)
abbrev pub list_verb_by : {A : Type 0} → ListVerb → Answer A → ListVerb
list_verb_by verb (Answers.Refused code) = if code == UNKNOWN || code == NOT_IMPLEMENTED then Verbs.List else verb
list_verb_by verb answer = verb
