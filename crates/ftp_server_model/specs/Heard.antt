-- What a server tells of the line that its last call acted on: its verb, what it names, and the code of the reply that it made at once.
use Rattle.std.specs.Prelude.{◌≡◌, ℕ, ◌+◌, ◌*◌, ◌-◌, true, false, ◌&&◌, List, [], ◌∷◌, length, take, Option, Some, None, option_map, if◌then◌else◌}
use Rattle.std.specs.Char.{is_ascii_digit}
use Rattle.ftp_nvt.specs.Lines.{NvtEvent, line, too_long, owed}
use Rattle.ftp_command.specs.Command.{value_of, verb_of}
use Rattle.ftp_command.specs.declared.command.Command.{Command}
use Rattle.ftp_command.specs.declared.value.Value.{Value}
use Rattle.ftp_command.specs.declared.value.Value.TheVariants as value
use Rattle.ftp_command.specs.declared.verb.Verb.{Verb}
use Rattle.ftp_command.specs.declared.verb.Verb.TheVariants as verb
use Rattle.ftp_ends.specs.Ear.{ear_step, ear_out}
use Rattle.ftp_operation.specs.declared.rights.Rights.{Rights}
use Rattle.ftp_path.specs.Path.{Names}
use Rattle.ftp_server_model.specs.View.{Session, View, line_limit}
use Rattle.ftp_server_model.specs.Texts.{fixed_reply_code}
use Rattle.ftp_server_model.specs.Replies.{Reply, Turn, reply_said}
use Rattle.ftp_server_model.specs.Act.{decided, is_in}
use Rattle.ftp_server_model.specs.Machine.{Reading, IsReading, is_abort, is_idle, heard_event, hears_octet}
use Rattle.ftp_server_model.specs.Calls.{connection_of, receives_octet, takes_data}
use Rattle.ftp_server_model.specs.Far.{Server}
use Rattle.ftp_server_model.specs.declared.heard.TheConstants.{TOLD_LIMIT}
use Rattle.ftp_server_model.specs.declared.heard.Answered.{Answered}
use Rattle.ftp_server_model.specs.declared.heard.HeardLine.{HeardLine}
use Rattle.ftp_server_model.specs.declared.heard.HeardLine.TheVariants.{TooLong, Bad, Asks}
use Rattle.ftp_server_model.specs.declared.reply.FixedReply.TheVariants as Texts
use Rattle.ftp_server_model.specs.declared.session.Pending.TheVariants as Pendings

-- a line that was acted on: its verb, where it says a command; the front of what it names; and the code of the reply that it made at once,
-- where it made one
pub record Heard : Type 0 where
  pub verb : Option Verb
  pub text : List ℕ
  pub code : Option ℕ

-- ---- what a line says

-- the verb of a line that says a command
abbrev pub verb_told : HeardLine (List ℕ) → Option Verb
verb_told TooLong = None
verb_told (Bad fault) = None
verb_told (Asks command) = Some (verb_of command)

-- a text, or nothing
abbrev pub text_or_none : Option (List ℕ) → List ℕ
text_or_none None = []
text_or_none (Some text) = text

-- the path text of a value, or the name of a user; never a password
abbrev pub path_or_user_text : Value (List ℕ) → List ℕ
path_or_user_text (value.Name name) = name
path_or_user_text (value.Path text) = text
path_or_user_text (value.PathOrNone text) = text_or_none text
path_or_user_text (value.Listed text) = text_or_none text
path_or_user_text other = []

-- the same of a command
abbrev pub text_named : Command (List ℕ) → List ℕ
text_named command = path_or_user_text (value_of command)

-- the same of a line
abbrev pub text_told : HeardLine (List ℕ) → List ℕ
text_told TooLong = []
text_told (Bad fault) = []
text_told (Asks command) = text_named command

-- ---- what is said to it

-- what a line makes where it is acted on, as `obeyed` has it
abbrev pub turn_of_line : HeardLine (List ℕ) → View → Turn
turn_of_line heard v = decided v.context heard v.session.pending (record v.session { pending = Pendings.Nothing })

-- the code of a reply, where there is one
abbrev pub code_if_any : Option Reply → Option ℕ
code_if_any None = None
code_if_any (Some reply) = Some reply.code

-- the code of the reply that a turn says
abbrev pub reply_code_said : Turn → Option ℕ
reply_code_said turn = code_if_any (reply_said turn.0 turn.1)

-- a line as it is told before it is acted on
abbrev pub unanswered : HeardLine (List ℕ) → Heard
unanswered heard = record { verb = verb_told heard; text = take TOLD_LIMIT (text_told heard); code = None }

-- a line as it is told where a view acts on it
abbrev pub told_of : HeardLine (List ℕ) → View → Heard
told_of heard v = record (unanswered heard) { code = reply_code_said (turn_of_line heard v) }

-- an ABOR that comes during a transfer
abbrev pub abort_told : Heard
abort_told = record { verb = Some verb.Abor; text = []; code = Some (fixed_reply_code Texts.AbortDone) }

-- ---- what a call acts on

-- a line that waits is told where it is acted on
abbrev pub waited_heard : Option (HeardLine (List ℕ)) → View → Option Heard
waited_heard None v = None
waited_heard (Some heard) v = if is_idle v then Some (told_of heard v) else None

-- what the end of a call acts on, as `later` does
abbrev pub later_heard : View → Option Heard
later_heard v = waited_heard v.waiting v

-- what a whole line acts on: itself, at once; or nothing, and it waits
abbrev pub heard_by_line : HeardLine (List ℕ) → View → Option Heard
heard_by_line heard v = if is_abort heard v then Some abort_told else later_heard (record v { waiting = Some heard })

-- what an octet settles: a line, one that is too long, or an answer, which acts on none
abbrev pub heard_by_event : Reading → NvtEvent → View → Option Heard
heard_by_event read (line text) v = heard_by_line (read text) v
heard_by_event read too_long v = heard_by_line TooLong v
heard_by_event read (owed answer) v = None

-- what the last of some events acts on; before them it was this
abbrev pub heard_by_events : Reading → Option Heard → List NvtEvent → View → Option Heard
heard_by_events read told [] v = told
heard_by_events read told (event ∷ events) v = heard_by_events read (heard_by_event read event v) events (heard_event read event v)

-- what one control octet acts on; one that ends no line acts on none
unfoldable pub heard_by_octet : Reading → View → ℕ → Option Heard
heard_by_octet read v octet =
    heard_by_events read None (ear_out line_limit v.ear octet) (record v { ear = ear_step line_limit v.ear octet })

-- what the last of some control octets acts on; before them it was this
abbrev pub heard_by : Reading → Option Heard → View → List ℕ → Option Heard
heard_by read told v [] = told
heard_by read told v (octet ∷ octets) = heard_by read (heard_by_octet read v octet) (hears_octet read v octet) octets

-- the later of two lines that were acted on
abbrev pub latest : Option Heard → Option Heard → Option Heard
latest before None = before
latest before (Some heard) = Some heard

-- what the last of some data octets acts on that acts on a line; before them it was this
abbrev pub heard_received : Option Heard → View → List ℕ → Option Heard
heard_received told v [] = told
heard_received told v (octet ∷ octets) =
    heard_received (latest told (later_heard (takes_data (connection_of v.session) octet v))) (receives_octet v octet) octets

-- ---- the clauses of `Far`

-- a call by its step tells the line that waits, where it acts on it; nothing is said of a call in which a count changed
abbrev pub Tells : (View → View) → Option Heard → (old new : Server) → Type 0
Tells step heard old new = new.counts ≡ old.counts → heard ≡ later_heard (step old.view)

-- control octets tell what the last of them acts on
abbrev pub TellsHeard : List ℕ → Option Heard → (old new : Server) → Type 0
TellsHeard octets heard old new = (read : Reading) → IsReading read → new.counts ≡ old.counts → heard ≡ heard_by read None old.view octets

-- data octets tell what the last of them acts on that acts on a line
abbrev pub TellsReceived : List ℕ → Option Heard → (old new : Server) → Type 0
TellsReceived octets heard old new = new.counts ≡ old.counts → heard ≡ heard_received None old.view octets

-- a line as a server lends it
abbrev pub lent : Answered → Heard
lent answered = record { verb = answered.verb; text = answered.text.now; code = answered.code }

-- how many octets of what it names are kept
abbrev pub heard_len : Option Heard → ℕ
heard_len None = 0
heard_len (Some heard) = length heard.text

-- ---- what is told of the view alone

-- the root and the rights of who is logged in
abbrev pub login_of_session : Session → Option (Names × Rights)
login_of_session s = if is_in s.access then Some (s.root, s.rights) else None

-- the number that three digits are
abbrev pub number_of_three : ℕ → ℕ → ℕ → ℕ
number_of_three a b c = 100 * (a - 48) + (10 * (b - 48) + (c - 48))

-- the code whose three digits octets begin with
abbrev pub code_in : List ℕ → Option ℕ
code_in (a ∷ b ∷ c ∷ rest) = if is_ascii_digit a && (is_ascii_digit b && is_ascii_digit c) then Some (number_of_three a b c) else None
code_in (a ∷ b ∷ []) = None
code_in (a ∷ []) = None
code_in [] = None
