-- When two drives are alike to a world, while no data connection is wanted: their own buffers are parts of its queues.
use Rattle.std.specs.Prelude.{◌≡◌, ℕ, List, ◌++◌, option_to_list, None}
use Rattle.ftp_ports.specs.Actions.{Stand}
use Rattle.ftp_client_driver.specs.Side.{client_side}
use Rattle.ftp_client_model.specs.Calls.{report_of, reports}
use Rattle.ftp_operation.specs.Answer.{Said}
use Rattle.laws_drivers.specs.control.Between.{Ways}
use Rattle.laws_world.specs.Claims.{AreUnmarked}
use Rattle.laws_world.specs.World.{World, Gone, Stands}
use Rattle.ftp_server_driver.specs.alone.Side.{server_side}
use Rattle.ftp_server_model.specs.Calls.{clock_step}

-- What an end has read and not heard stands before what is on its way. A world takes a report at once; and the moment that the server was told
-- last is any, since only an upload's end looks at it. The control connection stands, no link does, and none was marked.
pub record IsAlike (ways : Ways) (server : Stand server_side) (client : Stand client_side) (told : List Said) (w : World) : Type 0 where
  pub moment : ℕ
  pub near : w.near ≡ reports client.owner.end.view
  pub far : w.far ≡ clock_step moment server.owner.end.server.view
  pub to_server : w.control_to_server ≡ server.unheard ++ ways.to_server
  pub to_client : w.control_to_client ≡ client.unheard ++ ways.to_client
  pub reported : w.reports ≡ told ++ option_to_list (report_of client.owner.end.view)
  pub control : w.control ≡ Stands
  pub link : w.link ≡ Gone
  pub marks : AreUnmarked w.marks
  pub cutoff : w.cutoff ≡ None
