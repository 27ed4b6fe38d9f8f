-- An operation begins whose data connection goes to a port of the client: a world tells it the next one at once.
use Rattle.std.proofs.Common.{◌≡◌, ℕ, ◌≤◌, true, false, List, [], ◌∷◌, ◌++◌, option_to_list, sym, ap, subst, ◌∙◌}
use Rattle.std.proofs.lemmas.Bool.{and_right}
use Rattle.ftp_ports.specs.Actions.{Calls, Stand}
use Rattle.ftp_ports.specs.Channel.{Channel}
use Rattle.ftp_ports.specs.Machine.{Aside}
use Rattle.ftp_direct.specs.Direct.{State}
use Rattle.ftp_client_driver.specs.Side.{Starting, client_side}
use Rattle.ftp_client_model.specs.Calls.{data_closed, is_busy, starts}
use Rattle.ftp_client_model.specs.View.{Doing, View as Near}
use Rattle.ftp_client_model.specs.declared.client.ClientLink.TheVariants as Data
use Rattle.ftp_client_model.specs.declared.client.Standing.TheVariants as Standings
use Rattle.ftp_client_model.specs.declared.client.Step.TheVariants as Steps
use Rattle.ftp_ends.specs.Link.{is_wanted}
use Rattle.ftp_operation.specs.Answer.{Said}
use Rattle.ftp_operation.specs.declared.op.Op.{Op}
use Rattle.ftp_server_driver.specs.alone.Side.{server_side}
use Rattle.ftp_server_model.specs.Calls as far
use Rattle.ftp_server_model.specs.Calls.{clock_step}
use Rattle.ftp_server_model.specs.Machine.{IsReading, Reading}
use Rattle.ftp_tree.specs.Sound.{last_second}
use Rattle.laws_world.specs.Agreement.{Order, Single}
use Rattle.laws_world.specs.Events.{is_gone}
use Rattle.laws_world.specs.Serving.{near_listens}
use Rattle.laws_world.specs.World.{World, port_at}
use Rattle.laws_dialogues.specs.Fetches.{busy}
use Rattle.laws_agreement.specs.Over.{OverRuns}
use Rattle.laws_drivers.specs.control.Alone.{ClientIsCalm}
use Rattle.laws_drivers.specs.control.Between.{Between}
use Rattle.laws_drivers.proofs.control.Taken.{free_none, free_same}
use Rattle.laws_drivers.proofs.world.Known.{Idling}
use Rattle.laws_drivers.proofs.world.Moves.{Rested, begins_to}
use Rattle.laws_drivers.proofs.world.Served.{settled}
use Rattle.laws_drivers.proofs.events.Holding.{is_called, unclosed}
use Rattle.laws_drivers.proofs.events.Stands.{ClientFetches as ClientRests, ServerServes, wants_port}
use Rattle.laws_transfers.specs.Ahead.{Ahead}
use Rattle.laws_transfers.specs.Actions.{IsCarried}
use Rattle.laws_transfers.proofs.Beside.{IsBeside, Takes, Together, Writes, is_taking, rested}
use Rattle.laws_transfers.proofs.Known.{AreCarried, Known}
use Rattle.laws_active.proofs.Asking.{asks_told, starts_asks, world_idles}
use Rattle.laws_active.proofs.Telling.{IsAsking, Tells, begun_so_too, port_told, told_marks, tells}

module _ (read : Reading) (reads : IsReading read) (begun : List Order) (server : Stand server_side) (old new : Stand client_side) (reports : List Said)
    (w : World)
    (calm : ClientIsCalm old.owner new.owner) (serves : ServerServes server.owner) (before : ClientRests old.owner) (known : Known w) where
  abbrev v : Near
  v = old.owner.end.view

  abbrev uu : Near
  uu = new.owner.end.view

  -- an operation begins that asks for one
  module _ (from : State) (puts : AreCarried begun) (runs : OverRuns read from begun w) (op : Op (List ℕ)) (carried : IsCarried op) (at : ℕ)
      (timed : at ≤ last_second) (moment : ℕ) (ahead : Ahead) (between : Between) (told : ℕ)
      (t : Together read begun moment ahead between told server old reports w) (open_now : v.closing ≡ false)
      (did : Calls {side = client_side} (Aside (Starting op)) old new) (called : is_called between.near ≡ false)
      (wants : wants_port uu.connection ≡ true) where
    abbrev orders : List Order
    orders = begun ++ Single op at ∷ []

    b : IsBeside moment ahead between told server old reports w
    b = t.beside

    r : Rested w
    r = rested moment ahead between told server old reports w b serves before

    free : is_busy v ≡ false
    free = did.0.0.0

    is : uu ≡ starts op v
    is = did.0.0.1.0.0 calm

    near_is : w.near ≡ v
    near_is = b.near ∙ ap data_closed (free_same v free) ∙ unclosed v open_now

    started : (starts op v ≡ busy (Doing op Steps.Listen) Data.ListenWanted v) × (v.standing ≡ Standings.Entered)
    started = starts_asks op v before.dials open_now (ap (λ (m : Near). wants_port m.connection) (sym is) ∙ wants)

    begun_is : starts op w.near ≡ uu
    begun_is = ap (starts op) near_is ∙ sym is

    view : uu ≡ busy (Doing op Steps.Listen) Data.ListenWanted uu
    view = is ∙ started.0 ∙ ap (busy (Doing op Steps.Listen) Data.ListenWanted) (sym (is ∙ started.0))

    idles : (w.near.owed ≡ []) × (w.far.owed ≡ []) × (w.control_to_client ≡ [])
    idles =
        world_idles read reads from begun puts w runs b.control b.unready (ap is_busy near_is ∙ free)
        (ap (λ (m : Near). m.standing) near_is ∙ started.1)

    idle : Idling w
    idle = known.idle (ap is_busy near_is ∙ free)

    abbrev now : World
    now = record w { near = starts op w.near; far = clock_step at w.far; marks = w.marks ++ [] ∷ []; taken = [] }

    form : now.near ≡ busy (Doing op Steps.Listen) Data.ListenWanted now.near
    form = begun_is ∙ view ∙ ap (busy (Doing op Steps.Listen) Data.ListenWanted) (sym begun_is)

    channel : new.owner.channel ≡ old.owner.channel
    channel = did.0.1

    asking : IsAsking read orders at ahead between told server new (reports ++ []) now op
    asking = record {
      fits = b.fits;
      near = begun_is ∙ view ∙ sym (ap data_closed view);
      form = form;
      far = ap (clock_step at) b.far;
      far_open = r.far_open;
      none_asked = r.none_asked;
      link = idle.link;
      to_server = b.to_server;
      to_client = b.to_client ∙ ap (λ (y : Stand client_side). y.unheard ++ between.control.to_client) (sym did.1);
      rising = b.rising ∙ ap (λ (l : Channel). server.owner.channel.untold ++ (between.data_ways.to_server ++ l.unwritten)) (sym channel);
      falling = λ e. b.falling (ap is_taking (sym channel) ∙ e)
          ∙ ap (λ (l : Channel). l.untold ++ (between.data_ways.to_client ++ server.owner.channel.unwritten)) (sym channel);
      listens = b.listens;
      reported = b.reported ∙ ap (λ o. reports ++ option_to_list o) (free_none v free);
      control = b.control;
      cutoff = b.cutoff;
      quiet = idles.1;
      holds = t.holds;
      comes = t.comes;
      serves = t.serves;
      takes = subst Takes (sym channel) t.takes;
      gives = subst (Writes between.near) (sym channel) t.gives;
      twin = λ e. begun_so_too read reads begun op op carried at timed w (t.twin e) r (ap is_busy near_is ∙ free) idle.wants form;
    }

    pub begins_tells : Tells read server new reports w (Single op at ∷ []) orders between told
    begins_tells = record {
      port = port_at w.listens;
      port_is = port_told read orders at ahead between told server new (reports ++ []) now op asking;
      is_told = record {
        op = op;
        view = ap data_closed view;
        owed = ap (λ (m : Near). m.owed) (sym begun_is) ∙ ap (λ (m : Near). (starts op m).owed) near_is ∙ ap (λ (m : Near). m.owed) started.0
            ∙ ap (λ (m : Near). m.owed) (sym near_is) ∙ idles.0;
        empty = sym (b.to_client ∙ ap (λ (y : Stand client_side). y.unheard ++ between.control.to_client) (sym did.1)) ∙ idles.2;
        called = called;
      };
      goes = record {
        world = settled (near_listens now);
        leads = begins_to read op at timed w (settled (near_listens now)) r idle.link (ap is_busy near_is ∙ free)
            (and_right (is_gone w.link) _ (ap (λ q. is_wanted q (far.wants w.far)) idle.wants))
            (asks_told now op form (record { running = r.runs.running; none_waits = r.runs.none_waits }));
        moment = at;
        ahead = ahead;
        marked = told_marks read orders at ahead between told server new (reports ++ []) now op asking;
        together = tells read orders at ahead between told server new (reports ++ []) now op asking;
      };
    }
