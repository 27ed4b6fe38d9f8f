-- The reader of lines keeps the limit, and so do its lines and what they say.
use Rattle.std.proofs.Common.{◌≡◌, ℕ, ◌≤◌, List, [], ◌∷◌, Some, sym, subst, arith, length}
use Rattle.std.proofs.Math.Logic.{∥∥₁_elim}
use Rattle.std.proofs.Props.{props}
use Rattle.ftp_command.specs.Command.{Argues, Says, SaysValue, value_of}
use Rattle.ftp_command.specs.declared.command.Command.{Command}
use Rattle.ftp_command.specs.declared.value.Value.{Value}
use Rattle.ftp_command.specs.declared.value.Value.TheVariants as value
use Rattle.ftp_path.specs.Login.{login_limit}
use Rattle.ftp_pieces.specs.Machine.{after}
use Rattle.ftp_nvt.specs.Ear.{event_list, limit_of}
use Rattle.ftp_nvt.specs.Fold.{Ear, quiet, ear, ear_of, ear_step, ear_out}
use Rattle.ftp_nvt.specs.declared.ear.Ear.{Ear as Reader}
use Rattle.ftp_nvt.specs.declared.event.Event.{Event}
use Rattle.ftp_nvt.specs.declared.event.Event.TheVariants.{Line}
use Rattle.ftp_nvt.proofs.ReaderLemmas.{reader_is_ear}
use Rattle.ftp_server_model.specs.View.{line_limit}
use Rattle.ftp_server_model.specs.declared.heard.HeardLine.TheVariants.{Asks}
use Rattle.ftp_ends.specs.Limits.{IsShortLine}
use Rattle.ftp_ends.proofs.ReadLemmas.{AreShortEvents, ear_says, ear_short, none_short}
use Rattle.laws_server.proofs.one.SaidLemmas.{heard_short}
use Rattle.ftp_server.specs.Busy.{MayWait, name_len}
use Rattle.ftp_server_session.specs.Little.{value_name_len}
use Rattle.ftp_server.specs.Hearing.{HasHeardSome}
use Rattle.ftp_server.proofs.ReadingLemmas.{paths_said}

within_once : (n m : ℕ) → IsProp (n ≤ m)
within_once n m = hlevel props

-- behind any octets
behind_short : (octets : List ℕ) (e : Ear) → IsShortLine line_limit e.line → IsShortLine line_limit (after (ear line_limit) e octets).line
behind_short [] e short = short
behind_short (c ∷ octets) e short = behind_short octets (ear_step line_limit e c) (ear_short line_limit e c short)

reader_short : {A : Type 0} (reader : Reader A) → limit_of reader ≡ line_limit → HasHeardSome reader → IsShortLine line_limit (ear_of reader).line
reader_short reader same (octets, was) =
    let is : ear_of reader ≡ after (ear line_limit) quiet octets = subst (λ l. ear_of reader ≡ after (ear l) quiet octets) same (reader_is_ear reader octets was) in
    subst (λ e. IsShortLine line_limit e.line) (sym is) (behind_short octets quiet (none_short line_limit))

-- the line that is being read
pub unfinished_short : {A : Type 0} (reader : Reader A) → limit_of reader ≡ line_limit → ∥ HasHeardSome reader ∥₁ → length (ear_of reader).line.text ≤ line_limit
unfinished_short reader same was =
    ∥∥₁_elim was (within_once _ _) (λ some. let short = reader_short reader same some in omega (arith, short.text, short.count))

-- the line that an octet ends
pub ended_short : {A : Type 0} (reader : Reader A) (octet : ℕ) (event : Event) (text : List ℕ) → limit_of reader ≡ line_limit → ∥ HasHeardSome reader ∥₁
    → event_list event text ≡ ear_out line_limit (ear_of reader) octet → event ≡ Line → length text ≤ line_limit
ended_short reader octet event text same was out is =
    ∥∥₁_elim was (within_once _ _) (λ some.
    (subst (λ e. AreShortEvents line_limit (event_list e text)) is
    (subst (AreShortEvents line_limit) (sym out) (ear_says line_limit (ear_of reader) octet (reader_short reader same some)))).0)

-- the name that a line says is within its limit
value_said : (a : List ℕ) (x : Value (List ℕ)) → SaysValue a x → value_name_len x ≤ login_limit
value_said a (value.Name name) h = h.1.1.0
value_said a other h = omega arith

name_said : (a : List ℕ) (command : Command (List ℕ)) → Argues a command → name_len command ≤ login_limit
name_said a command h = value_said a (value_of command) h

-- what a line within the limit says may wait
pub command_waits : (text : List ℕ) (command : Command (List ℕ)) → length text ≤ line_limit → Says text command → MayWait (Some (Asks command))
command_waits text command short says = (paths_said _ command says.1, heard_short text (Asks command) short says, name_said _ command says.1)
