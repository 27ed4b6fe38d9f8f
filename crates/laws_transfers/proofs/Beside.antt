-- A world beside both drives while files are put and fetched: what it holds of both, what is so of each end's data connection, and that it rests.
use Rattle.std.proofs.Common.{◌≡◌, ℕ, Bool, true, false, ◌&&◌, List, [], ◌∷◌, ◌++◌, None, option_to_list, refl, ap, ap₂, ◌∙◌}
use Rattle.ftp_ports.specs.Actions.{Stand}
use Rattle.ftp_ports.specs.Channel.{IsOpen, Channel}
use Rattle.ftp_client_driver.specs.Side.{client_side}
use Rattle.ftp_client_model.specs.Calls as near
use Rattle.ftp_client_model.specs.Calls.{data_closed, report_of}
use Rattle.ftp_client_model.specs.View.{View as Near}
use Rattle.ftp_operation.specs.Answer.{Said}
use Rattle.ftp_server_driver.specs.alone.Side.{server_side}
use Rattle.ftp_server_model.specs.Calls.{clock_step}
use Rattle.ftp_server_model.specs.Machine.{Reading}
use Rattle.ftp_server_model.specs.View.{Session, View as Far}
use Rattle.laws_world.specs.Agreement.{Order}
use Rattle.laws_world.specs.Events.{is_closed_by_near}
use Rattle.laws_world.specs.World.{Mark, Stands, World}
use Rattle.laws_drivers.specs.control.Between.{Between, Hold}
use Rattle.laws_drivers.proofs.control.Taken.{taken, taken_none}
use Rattle.laws_drivers.proofs.control.Worlds.{LeadsOn}
use Rattle.laws_drivers.specs.world.Ahead.{is_asked, is_open}
use Rattle.laws_transfers.specs.Ahead.{Ahead, Fits, Listened, far_ahead, is_parted_ahead}
use Rattle.laws_transfers.proofs.Ahead.{Holds, Keeps, keeps}
use Rattle.laws_drivers.proofs.world.Moves.{Rested}
use Rattle.laws_drivers.proofs.world.Served.{rests}
use Rattle.laws_drivers.proofs.events.Holding.{is_had, is_sound}
use Rattle.laws_drivers.proofs.events.NearForms.{wants_rest}
use Rattle.laws_drivers.proofs.events.Stands.{ClientFetches, ServerServes}
use Rattle.laws_transfers.proofs.Known.{is_near_held, is_ready}
use Rattle.laws_transfers.proofs.Twins.{HasTwin}

-- ---- a data connection

-- octets may come and go: it stands, and the end was not told that it ended or broke
abbrev pub is_taking : Channel → Bool
is_taking channel = channel.stands && is_sound channel.fate

pub open_takes : (channel : Channel) → IsOpen channel → is_taking channel ≡ true
open_takes channel open_now = ap₂ (λ s f. s && is_sound f) open_now.0 open_now.1

-- ---- the relation

-- it holds what both ends hold and what lies between them, of what goes to the client as long as that may take it, its server ahead of the drive's by what is
-- due; so many ports were told by the drive; and one that the client alone has closed is one of which the server made something
pub record IsBeside (moment : ℕ) (ahead : Ahead) (between : Between) (told : ℕ) (server : Stand server_side) (client : Stand client_side) (reports : List Said)
    (w : World) : Type 0 where
  pub fits : Fits ahead server.owner.end.server.view.session.connection
  pub near : w.near ≡ data_closed (taken client.owner.end.view)
  pub far : w.far ≡ clock_step moment (far_ahead ahead server.owner.end.server.view)
  pub to_server : w.control_to_server ≡ server.unheard ++ between.control.to_server
  pub to_client : w.control_to_client ≡ client.unheard ++ between.control.to_client
  pub rising : w.data_to_server ≡ server.owner.channel.untold ++ (between.data_ways.to_server ++ client.owner.channel.unwritten)
  pub falling : is_taking client.owner.channel ≡ true
      → w.data_to_client ≡ client.owner.channel.untold ++ (between.data_ways.to_client ++ server.owner.channel.unwritten)
  pub listens : Listened ahead told w.listens
  pub reported : w.reports ≡ reports ++ option_to_list (report_of client.owner.end.view)
  pub control : w.control ≡ Stands
  pub unready : is_closed_by_near w.link ≡ true → is_ready w.far.session.connection ≡ false
  pub cutoff : w.cutoff ≡ None

-- what came to the server and was not told is of one that stands, is had and is sound; of one that is over none is open
pub record Comes (hold : Hold) (s : Session) (channel : Channel) : Type 0 where
  pub bare : channel.stands ≡ false → channel.untold ≡ []
  pub spare : is_had hold ≡ false → channel.untold ≡ []
  pub over : is_sound channel.fate ≡ false → channel.untold ≡ []
  pub shut : is_sound channel.fate ≡ false → is_open s.connection ≡ false

-- what an end gave is on its way over what it has alone
pub record Writes (hold : Hold) (channel : Channel) : Type 0 where
  pub spare : is_had hold ≡ false → channel.unwritten ≡ []
  pub bare : channel.stands ≡ false → channel.unwritten ≡ []

-- what came to the client and was not told is of one that stands
pub record Takes (channel : Channel) : Type 0 where
  pub bare : channel.stands ≡ false → channel.untold ≡ []

-- the client has what it holds of the link; one that is to close, or was told of its end or of a break, holds none
pub record Keeping (hold : Hold) (n : Near) (channel : Channel) (w : World) : Type 0 where
  pub had : is_near_held w.link ≡ true → is_had hold ≡ true
  pub shut : n.closing ≡ true → is_near_held w.link ≡ false
  pub over : is_sound channel.fate ≡ false → is_near_held w.link ≡ false

-- all of these, and where a link's end was told there alone, that the world has a twin
pub record Together (read : Reading) (begun : List Order) (moment : ℕ) (ahead : Ahead) (between : Between) (told : ℕ) (server : Stand server_side)
    (client : Stand client_side)
    (reports : List Said) (w : World) : Type 0 where
  pub beside : IsBeside moment ahead between told server client reports w
  pub holds : Holds ahead between.far server.owner.end.server.view.session
  pub comes : Comes between.far server.owner.end.server.view.session server.owner.channel
  pub serves : Writes between.far server.owner.channel
  pub takes : Takes client.owner.channel
  pub gives : Writes between.near client.owner.channel
  pub keeping : Keeping between.near client.owner.end.view client.owner.channel w
  pub twin : is_parted_ahead ahead ≡ true → HasTwin read begun w

-- events that begin these lead on to a world that is so again, when these were begun, and that has these marks
pub record GoesTo (read : Reading) (more begun : List Order) (between : Between) (told : ℕ) (server : Stand server_side) (client : Stand client_side)
    (reports : List Said) (marks : List (List Mark)) (w : World) : Type 0 where
  pub world : World
  pub leads : LeadsOn read more w world
  pub moment : ℕ
  pub ahead : Ahead
  pub marked : world.marks ≡ marks
  pub together : Together read begun moment ahead between told server client reports world

-- what is begun has no mark yet
abbrev pub marks_with : List Order → List (List Mark) → List (List Mark)
marks_with [] marks = marks
marks_with (order ∷ more) marks = marks_with more (marks ++ [] ∷ [])

-- so they lead on, and make no mark
abbrev pub Goes : (read : Reading) (more begun : List Order) (between : Between) (told : ℕ) (server : Stand server_side) (client : Stand client_side)
    (reports : List Said) → World → Type 0
Goes read more begun between told server client reports w = GoesTo read more begun between told server client reports (marks_with more w.marks) w

-- ---- it rests

pub rested : (moment : ℕ) (ahead : Ahead) (between : Between) (told : ℕ) (server : Stand server_side) (client : Stand client_side) (reports : List Said)
    (w : World) → IsBeside moment ahead between told server client reports w → ServerServes server.owner → ClientFetches client.owner → Rested w
rested moment ahead between told server client reports w b serves asks =
    let v : Far = server.owner.end.server.view in
    let n : Near = client.owner.end.view in
    let kept : Keeps ahead v = keeps ahead v b.fits in
    record {
      near_rests = ap (λ u. rests (near.wants u)) b.near ∙ wants_rest (data_closed (taken n)) asks.sound asks.dials refl;
      near_open = ap (λ (u : Near). u.closing) b.near;
      none = ap report_of b.near ∙ taken_none n;
      runs = record {
        running = ap (λ (f : Far). f.session.life) b.far ∙ kept.life ∙ serves.running;
        none_waits = ap (λ (f : Far). f.waiting) b.far ∙ kept.waiting ∙ serves.none_waits;
      };
      far_open = ap (λ (f : Far). f.session.closing) b.far;
      none_asked = ap (λ (f : Far). is_asked f.session.connection) b.far ∙ kept.told;
    }
