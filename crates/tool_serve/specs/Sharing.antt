-- A turn of a session that is served among others, as whoever has the tree sees it (own choice).
use Rattle.std.specs.Prelude.{◌≡◌, ⊤, [], Option, None}
use Rattle.std.specs.declared.result.Result.{Result}
use Rattle.std.specs.declared.result.Result.TheVariants.{Ok, Err}
use Rattle.ftp_driver.specs.Standing.{channel_at}
use Rattle.ftp_driver.specs.declared.data.Data.{Data}
use Rattle.ftp_driver.specs.declared.drive.Turned.{Turned}
use Rattle.ftp_driver.specs.declared.drive.Turned.TheVariants as Turns
use Rattle.ftp_ports.specs.Actions.{Stand}
use Rattle.ftp_ports.specs.Machine.{held}
use Rattle.ftp_ports.specs.declared.cause.Cause.{Cause}
use Rattle.ftp_ports.specs.declared.control.Control.{Control}
use Rattle.ftp_server_driver.specs.alone.Side.{beside, server_side, timed}
use Rattle.ftp_server_driver.specs.declared.alone.clocked.Clocked.{Clocked}
use Rattle.ftp_server_driver.specs.shared.Lending.{Holding}
use Rattle.ftp_server_driver.specs.shared.Turning.{TakesTurn, Turn}
use Rattle.ftp_server_model.specs.Far.{Server}
use Rattle.ftp_server_model.specs.declared.session.Standing.{Standing}
use Rattle.tool_scheduler.specs.declared.slot.TurnResult.{TurnResult}
use Rattle.tool_scheduler.specs.declared.slot.TurnResult.TheVariants as Results

-- nothing is told of sockets and of a system's clock
abbrev pub untold : {A B : Type 0} → A → Option B
untold it = None

-- a server beside its connections, of which nothing is told
abbrev pub stand_of : {F C O R W S : Type 0} → (F → Server) → Clocked F C O → Control R W → Data S → Stand server_side
stand_of server clocked control link = beside untold untold (held (timed server untold clocked) (channel_at untold untold None link [])) control

-- how a turn ends for the rounds, by how the turns of its drive went
abbrev pub ended_by : Result (Turned ⊤) Cause → TurnResult
ended_by (Ok Turns.Later) = Results.Later
ended_by (Ok Turns.More) = Results.More
ended_by (Ok (Turns.Over over)) = Results.Over
ended_by (Err cause) = Results.Over

-- a session has some turns of its drive with the tree that is lent: what they left of that; what stood at the path of its upload when it last gave the tree
-- back, and what stands there now; how it ended
pub record TakesSlotTurn (lent left : Holding) (stood stands : Option Standing) (result : TurnResult) (old new : Stand server_side) : Type 0 where
  pub turn : Turn
  pub takes : TakesTurn turn old new
  pub lends : turn.lent ≡ lent
  pub leaves : turn.left ≡ left
  pub was_told : turn.stood ≡ stood
  pub tells : turn.stands ≡ stands
  pub ends : result ≡ ended_by turn.went
