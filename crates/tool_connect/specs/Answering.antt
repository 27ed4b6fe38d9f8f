-- How an answer comes about: the client is begun with what is requested, and then its drive reports (RFC 959, section 2.3).
use Rattle.std.specs.Prelude.{◌≡◌, ◌≤◌, ℕ, Bool, List, Option}
use Rattle.std.specs.Global.{Global}
use Rattle.std.specs.Option.{unwrap_or}
use Rattle.ftp_ports.specs.Actions.{Stand, with_owner}
use Rattle.ftp_ports.specs.Machine.{held}
use Rattle.ftp_ports.specs.declared.cause.Cause.{Cause}
use Rattle.ftp_client_driver.specs.Driving.{ClientDrives}
use Rattle.ftp_client_driver.specs.Side.{client_side}
use Rattle.ftp_client_model.specs.Failing.{Client}
use Rattle.ftp_operation.specs.Answer.{Said, Lost, said_of}
use Rattle.ftp_operation.specs.declared.answer.Answer.{Answer}
use Rattle.tool_session.specs.Beginning.{Begins}
use Rattle.tool_session.specs.Talking.{SessionExchange, HasExchanged}
use Rattle.tool_session.specs.declared.request.Request.{Request}

-- the answer is the report of its drive from there, and Lost where that has none
pub record Answers (request : Request) (answer : Said) (failed : Bool) (old new : Stand client_side) : Type 0 where
  pub begun : Client
  pub begins : Begins request old.owner.end begun
  pub off : Option Cause
  pub report : Option Said
  pub drives : ClientDrives failed (with_owner (held begun old.owner.channel) old) new off report
  pub told : answer ≡ unwrap_or report Lost

-- the same from one stand of a client to its next
abbrev pub AnswersBetween : Request → Answer Global → (old new : Stand client_side) → Type 0
AnswersBetween request answer old new = (failed : Bool) × Answers request (said_of answer) failed old new

-- exchanges of one client, each from the stand where the one before left it
abbrev pub ComesOfClient : List SessionExchange → Type 0
ComesOfClient heard = (first : Stand client_side) × (last : Stand client_side) × HasExchanged AnswersBetween first heard last

-- what can be heard of a server: over one control connection the answers of one client; of several at once nothing is said
abbrev pub CanHear : (at_once : ℕ) → List SessionExchange → Type 0
CanHear at_once heard = at_once ≤ 1 → ComesOfClient heard
