-- A world that is beside both drives is beside any client that holds the same, with the same to read and the same on its way.
use Rattle.std.proofs.Common.{◌≡◌, ℕ, true, List, ◌++◌, option_to_list, sym, ap, ap₂, subst, ◌∙◌}
use Rattle.ftp_ports.specs.Actions.{Stand}
use Rattle.ftp_client_driver.specs.Side.{client_side}
use Rattle.ftp_client_model.specs.Calls.{data_closed, report_of}
use Rattle.ftp_operation.specs.Answer.{Said}
use Rattle.ftp_server_driver.specs.alone.Side.{server_side}
use Rattle.ftp_server_model.specs.Machine.{Reading}
use Rattle.laws_world.specs.Agreement.{Order}
use Rattle.laws_world.specs.World.{World}
use Rattle.laws_drivers.specs.control.Between.{Between, Hold}
use Rattle.laws_drivers.proofs.control.Taken.{taken}
use Rattle.laws_transfers.specs.Ahead.{Ahead}
use Rattle.laws_transfers.proofs.Ahead.{Holds}
use Rattle.laws_transfers.proofs.Beside.{Comes, Keeping, Takes, Together, Writes, is_taking}

-- of two clients, and of what lies between with each; what came to the one is the other's, where octets may come to that
pub record SameOf (one other : Between) (c d : Stand client_side) : Type 0 where
  pub view : data_closed (taken d.owner.end.view) ≡ data_closed (taken c.owner.end.view)
  pub said : option_to_list (report_of d.owner.end.view) ≡ option_to_list (report_of c.owner.end.view)
  pub queue : d.unheard ++ other.control.to_client ≡ c.unheard ++ one.control.to_client
  pub to_server : other.control.to_server ≡ one.control.to_server
  pub ways : other.data_ways ≡ one.data_ways
  pub far : other.far ≡ one.far
  pub untold : is_taking d.owner.channel ≡ true → (is_taking c.owner.channel ≡ true) × (d.owner.channel.untold ≡ c.owner.channel.untold)
  pub unwritten : d.owner.channel.unwritten ≡ c.owner.channel.unwritten

pub together_of : (read : Reading) (begun : List Order) (moment : ℕ) (ahead : Ahead) (one other : Between) (told : ℕ) (server : Stand server_side)
    (c d : Stand client_side) (reports : List Said) (w : World) → Together read begun moment ahead one told server c reports w → SameOf one other c d
    → Takes d.owner.channel → Writes other.near d.owner.channel → Keeping other.near d.owner.end.view d.owner.channel w
    → Together read begun moment ahead other told server d reports w
together_of read begun moment ahead one other told server c d reports w t same takes gives keeping = record {
  beside = record {
    fits = t.beside.fits;
    near = t.beside.near ∙ sym same.view;
    far = t.beside.far;
    to_server = t.beside.to_server ∙ ap (λ q. server.unheard ++ q) (sym same.to_server);
    to_client = t.beside.to_client ∙ sym same.queue;
    rising = t.beside.rising
        ∙ ap₂ (λ d o. server.owner.channel.untold ++ (d.to_server ++ o)) (sym same.ways) (sym same.unwritten);
    falling = λ e. t.beside.falling (same.untold e).0
        ∙ ap₂ (λ d o. o ++ (d.to_client ++ server.owner.channel.unwritten)) (sym same.ways) (sym (same.untold e).1);
    listens = t.beside.listens;
    reported = t.beside.reported ∙ ap (λ o. reports ++ o) (sym same.said);
    control = t.beside.control;
    unready = t.beside.unready;
    cutoff = t.beside.cutoff;
  };
  holds = subst (λ (h : Hold). Holds ahead h server.owner.end.server.view.session) (sym same.far) t.holds;
  comes = subst (λ (h : Hold). Comes h server.owner.end.server.view.session server.owner.channel) (sym same.far) t.comes;
  serves = subst (λ (h : Hold). Writes h server.owner.channel) (sym same.far) t.serves;
  takes = takes;
  gives = gives;
  keeping = keeping;
  twin = t.twin;
}
