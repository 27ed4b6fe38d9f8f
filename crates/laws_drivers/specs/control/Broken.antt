-- Drives that broke off, over control alone: what they did is their actions and a beginning of what they said last; then they were told that the
-- control connection ended.
use Rattle.std.specs.Prelude.{◌≡◌, ◌≤◌, Bool, ℕ, List, ◌∷◌, ◌++◌, length, take, Option, Some}
use Rattle.ftp_ports.specs.Actions.{Action, Done, Led, Other, Said as Says, Stand}
use Rattle.ftp_ports.specs.Machine.{Machine, side_of}
use Rattle.ftp_driver.specs.Driven.{BreaksOff}
use Rattle.ftp_ports.specs.declared.cause.Cause.{Cause}
use Rattle.ftp_client_driver.specs.Driving.{ClientBrokeOff}
use Rattle.ftp_client_driver.specs.Side.{Begun, client_side}
use Rattle.ftp_client_model.specs.Calls.{control_end as near_end, report_of}
use Rattle.ftp_operation.specs.Answer.{Said}
use Rattle.ftp_operation.specs.declared.op.Op.{Op}
use Rattle.laws_drivers.specs.control.Alone.{AsksAlone, ClientIsCalm, ServesAlone}
use Rattle.laws_drivers.specs.control.Between.{Between, Happened, Turn, client_actions, server_actions}
use Rattle.laws_drivers.specs.control.Claims.{Begins}
use Rattle.laws_drivers.specs.control.Over.{AreAnswered, AreMidst, actions_in, orders_at_moment}
use Rattle.laws_drivers.specs.events.Answers.{answers_of}
use Rattle.laws_world.specs.Agreement.{Agrees}
use Rattle.laws_world.specs.Claims.{AreUnmarked, Beginning, IsFair, state_of}
use Rattle.laws_world.specs.World.{Mark}
use Rattle.ftp_server_driver.specs.alone.Driving.{BrokeOff as ServerBrokeOff}
use Rattle.ftp_server_driver.specs.alone.Side.{server_side}
use Rattle.ftp_server_model.specs.Calls.{control_end as far_end}
use Rattle.ftp_tree.specs.Sound.{last_second}

-- of what a drive said last, as it broke off, this was written
abbrev pub said_last : {machine : Machine} {serves : Bool} {cause : Cause} {failed : Bool} {start off : Stand (side_of machine)}
    → BreaksOff machine serves cause failed start off → List ℕ
said_last breaks = take breaks.cuts.breaks.wrote.0 breaks.last

-- a server did these actions and then said this, all over control alone, and was told then
pub record ServerIsCut (front : List ℕ) (actions : List (Action server_side)) (start now : Stand server_side) : Type 0 where
  pub served : Stand server_side
  pub led : Led (Says front ∷ actions) start served
  pub alone : ServesAlone (Says front ∷ actions) start served led
  pub told : now.owner.end.server.view ≡ far_end served.owner.end.server.view

-- so did a client, and this is its report
pub record ClientIsCut (front : List ℕ) (actions : List (Action client_side)) (start : Stand client_side) (said : Option Said) : Type 0 where
  pub stood : Stand client_side
  pub led : Led (Says front ∷ actions) start stood
  pub alone : AsksAlone (Says front ∷ actions) start stood led
  pub told : said ≡ report_of (near_end stood.owner.end.view)

-- so it is of each drive of a server that broke off, if what it did before was over control alone and nothing was refused or failed as it broke off
abbrev pub ServersAreCut : Type 0
ServersAreCut =
    (cause : Cause) (failed : Bool) (start now : Stand server_side) (broke : ServerBrokeOff cause failed start now)
    → ServesAlone broke.breaks.actions start broke.breaks.cuts.mid broke.breaks.cuts.led
    → broke.off.owner.end.server.counts ≡ broke.breaks.cuts.mid.owner.end.server.counts → ServerIsCut (said_last broke.breaks) broke.breaks.actions start now

-- and of each drive of a client
abbrev pub ClientsAreCut : Type 0
ClientsAreCut =
    (cause : Cause) (failed : Bool) (start now : Stand client_side) (said : Option Said) (broke : ClientBrokeOff cause failed start now said)
    → AsksAlone broke.breaks.actions start broke.breaks.cuts.mid broke.breaks.cuts.led → ClientIsCut (said_last broke.breaks) broke.breaks.actions start said

-- ---- both broke off

-- the contracts of a server's drive and of a client's last one, both of which broke off, after operations that were answered
pub record AreBroken (b : Beginning) (asked : List (Op (List ℕ) × Said)) (op : Op (List ℕ)) (answer : Said) (server : Stand server_side) : Type 0 where
  pub server_start : Stand server_side
  pub server_cause : Cause
  pub server_failed : Bool
  pub server_broke : ServerBrokeOff server_cause server_failed server_start server
  pub serves : ServesAlone server_broke.breaks.actions server_start server_broke.breaks.cuts.mid server_broke.breaks.cuts.led
  pub server_calm : server_broke.off.owner.end.server.counts ≡ server_broke.breaks.cuts.mid.owner.end.server.counts
  pub client_start : Stand client_side
  pub mid : Stand client_side
  pub answered : AreAnswered asked client_start mid
  pub begun : Stand client_side
  pub starts : Done (Other (Begun op)) mid begun
  pub client_calm : ClientIsCalm mid.owner begun.owner
  pub client : Stand client_side
  pub client_cause : Cause
  pub client_failed : Bool
  pub client_broke : ClientBrokeOff client_cause client_failed begun client (Some answer)
  pub asks : AsksAlone client_broke.breaks.actions begun client_broke.breaks.cuts.mid client_broke.breaks.cuts.led
  pub midst : AreMidst client_broke.breaks.actions
  pub begins : Begins b server_start client_start
  pub turns : List Turn
  pub between : Between
  pub happened : Happened turns between
  pub server_is : server_actions turns ≡ Says (said_last server_broke.breaks) ∷ server_broke.breaks.actions
  pub client_is : client_actions turns
      ≡ (Says (said_last client_broke.breaks) ∷ client_broke.breaks.actions) ++ (Other (Begun op) ∷ actions_in asked client_start mid answered)

-- they agree with all operations, the last of which may be lost, and then done or not
abbrev pub DrivesBrokenAgree : Type 0
DrivesBrokenAgree =
    (b : Beginning) → IsFair b → (moment : ℕ) → moment ≤ last_second
    → (asked : List (Op (List ℕ) × Said)) (op : Op (List ℕ)) (answer : Said) (server : Stand server_side)
    → AreBroken b asked op answer server → (marks : List (List Mark)) × AreUnmarked marks
    × Agrees (state_of b) (orders_at_moment moment ((op, answer) ∷ asked)) marks (Some (length marks)) (answers_of ((op, answer) ∷ asked))
    server.owner.end.server.view.session.table
