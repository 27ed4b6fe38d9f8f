-- A client is told that its data connection ended, as an event of a world, in a session that also puts files.
use Rattle.std.proofs.Common.{◌≡◌, ℕ, true, false, true≢false, List, [], ◌++◌, option_to_list, refl, sym, ap, ap₂, subst, ◌∙◌}
use Rattle.std.specs.Prelude.{if◌then◌else◌}
use Rattle.ftp_ports.specs.Actions.{Calls, Stand}
use Rattle.ftp_ports.specs.Channel.{Channel, with_fate}
use Rattle.ftp_ports.specs.Machine.{End}
use Rattle.ftp_ports.specs.declared.whole.Fate.TheVariants.{Over}
use Rattle.ftp_client_driver.specs.Side.{client_side}
use Rattle.ftp_client_model.specs.Calls as near
use Rattle.ftp_client_model.specs.Calls.{data_closed, data_end, is_sound, report_of}
use Rattle.ftp_client_model.specs.View.{View as Near}
use Rattle.ftp_operation.specs.Answer.{Said}
use Rattle.ftp_server_driver.specs.alone.Side.{server_side}
use Rattle.ftp_server_model.specs.Calls as far
use Rattle.ftp_direct.specs.Direct.{State}
use Rattle.ftp_server_model.specs.Machine.{IsReading, Reading}
use Rattle.ftp_server_model.specs.View.{View as Far}
use Rattle.ftp_server_model.specs.declared.session.ServerLink.TheVariants as Data
use Rattle.laws_world.specs.Agreement.{Order}
use Rattle.laws_world.specs.Events.{is_closed_by_far, is_closed_by_near}
use Rattle.laws_world.specs.World.{ClosedByFar, Gone, World, gone}
use Rattle.laws_agreement.specs.Over.{OverRuns}
use Rattle.laws_drivers.specs.control.Alone.{ClientIsCalm}
use Rattle.laws_drivers.specs.control.Between.{Between, Can, Near as TheClient}
use Rattle.laws_drivers.specs.control.Touches.{ToldEnd}
use Rattle.laws_drivers.proofs.control.Taken.{taken}
use Rattle.laws_drivers.specs.world.Ahead.{is_open}
use Rattle.laws_transfers.specs.Ahead.{Ahead, Level, Listened, Listens, Opens, Parted}
use Rattle.laws_drivers.proofs.world.Moves.{Rested, ends}
use Rattle.laws_drivers.proofs.world.Served.{rests, settled}
use Rattle.laws_drivers.proofs.events.Holding.{both, is_called, is_false, is_had}
use Rattle.laws_transfers.proofs.Ahead.{Holds}
use Rattle.laws_drivers.proofs.events.FarForms.{given_none, told_passive}
use Rattle.laws_drivers.proofs.events.NearForms.{Taking, end_closing, taking_of, wants_rest}
use Rattle.laws_drivers.proofs.events.Stands.{ClientFetches, ServerServes, wants_port}
use Rattle.laws_transfers.proofs.Beside.{Comes, Goes, Together, Writes, open_takes, rested}
use Rattle.laws_transfers.proofs.ClientTaking.{taking_is}
use Rattle.laws_transfers.proofs.Known.{AreCarried, Known, is_near_held}
use Rattle.laws_transfers.proofs.Running.{ends_sound}
use Rattle.laws_transfers.proofs.Settling.{NearSettles, near_settles}

module _ (read : Reading) (begun : List Order) (server : Stand server_side) (old new : Stand client_side) (reports : List Said) (w : World)
    (calm : ClientIsCalm old.owner new.owner) (serves : ServerServes server.owner) (before : ClientFetches old.owner)
    (portless : wants_port new.owner.end.view.connection ≡ false)
    (known : Known w) where
  abbrev v : Near
  v = old.owner.end.view

  abbrev u : Near
  u = new.owner.end.view

  abbrev x : Far
  x = server.owner.end.server.view

  -- ---- the end is told

  module _ (moment : ℕ) (ahead : Ahead) (between next : Between) (told : ℕ) (t : Together read begun moment ahead between told server old reports w)
      (did : Calls {side = client_side} End old new) (can : Can TheClient ToldEnd between next) (reads : IsReading read) (from : State)
      (puts : AreCarried begun) (runs : OverRuns read from begun w) where
    taking : Taking v
    taking = taking_of v did.0.2

    near_is : w.near ≡ v
    near_is = taking_is read begun moment ahead between told server old reports w t taking

    is : u ≡ data_end v
    is = did.0.0.0.0 calm

    closing : u.closing ≡ false
    closing = ap (λ (n : Near). n.closing) is ∙ end_closing v taking

    -- the server has none open
    shut : is_open x.session.connection ≡ false
    shut = is_false (is_open x.session.connection) (λ e. both (t.holds.had e) (ap is_had can.0))

    shut_there : (ahead : Ahead) → Together read begun moment ahead between told server old reports w → is_open w.far.session.connection ≡ false
    shut_there Level t = ap (λ (f : Far). is_open f.session.connection) t.beside.far ∙ shut
    shut_there Opens t = absurd (both (t.holds.opened refl) (ap is_called can.0))
    shut_there (Listens port) t =
        ap (λ (f : Far). is_open f.session.connection) t.beside.far ∙ ap is_open (told_passive x.session.connection t.beside.fits port x)
    shut_there (Parted accepted) t = ap (λ (f : Far). is_open f.session.connection) t.beside.far

    none : w.data_to_client ≡ []
    none =
        t.beside.falling (open_takes old.owner.channel did.0.1.1) ∙ ap (λ o. o ++ (between.data_ways.to_client ++ server.owner.channel.unwritten)) did.0.1.3
        ∙ ap₂ (λ a o. a ++ o) can.1 (t.serves.spare (ap is_had can.0))

    r : Rested w
    r = rested moment ahead between told server old reports w t.beside serves before

    ended : data_end w.near ≡ u
    ended = ap data_end near_is ∙ sym is

    abbrev now : World
    now = gone (record w { near = data_end w.near; taken = [] })

    s : NearSettles now (settled now)
    s =
        near_settles now r.far_open r.none_asked (λ e. absurd (true≢false (sym e)))
        (λ e. absurd (both e (ap (λ (n : Near). n.closing) ended ∙ closing)))

    link_then : (settled now).link ≡ Gone
    link_then = s.stays (ap (λ (n : Near). n.closing) ended ∙ closing)

    none_said : option_to_list (report_of v) ≡ []
    none_said = ap (λ j. option_to_list (near.report_of_job j)) taking.job

    channel : new.owner.channel ≡ with_fate Over old.owner.channel
    channel = did.0.1.0

    link : w.link ≡ ClosedByFar
    link = known.down (ap near.wants near_is ∙ did.0.2) (shut_there ahead t)

    none_rises : w.data_to_server ≡ []
    none_rises = known.still (known.left (ap is_closed_by_far link))

    -- it has not failed
    sound : is_sound u.standing ≡ true
    sound =
        ap (λ (n : Near). is_sound n.standing) (sym ended)
        ∙ ends_sound read reads from begun puts w runs t.beside.unready
        (ap is_closed_by_far link) none

    pub client_told_end : Goes read [] begun next told server new (reports ++ []) w × (is_sound u.standing ≡ true)
    client_told_end =
        let b = t.beside in
        let give : far.to_give w.far ≡ [] =
        ap (λ c. far.given_by (if c then Data.Free else w.far.session.connection)) r.far_open ∙ given_none w.far.session.connection (shut_there ahead t) in (
          record {
            world = settled now;
            leads = ends read w r link none give
                (ap (λ n. rests (near.wants (data_closed n))) ended ∙ wants_rest (data_closed u) sound portless refl);
            moment = moment;
            ahead = ahead;
            marked = s.same.marks;
            together = record {
              beside = record {
                fits = b.fits;
                near = s.near ∙ ap (λ n. data_closed (taken n)) ended;
                far = s.far ∙ b.far;
                to_server = s.same.to_server ∙ b.to_server ∙ ap (λ (m : Between). server.unheard ++ m.control.to_server) (sym can.2);
                to_client = s.same.to_client ∙ b.to_client
                    ∙ ap₂ (λ (y : Stand client_side) (m : Between). y.unheard ++ m.control.to_client) (sym did.1) (sym can.2);
                rising = s.same.rising ∙ sym none_rises ∙ b.rising
                    ∙ ap₂ (λ (l : Channel) (m : Between). server.owner.channel.untold ++ (m.data_ways.to_server ++ l.unwritten)) (sym channel) (sym can.2);
                falling = λ e. s.same.falling ∙ sym none ∙ b.falling (open_takes old.owner.channel did.0.1.1)
                    ∙ ap₂ (λ (l : Channel) (m : Between). l.untold ++ (m.data_ways.to_client ++ server.owner.channel.unwritten)) (sym channel) (sym can.2);
                listens = subst (Listened ahead told) (sym s.same.listens) b.listens;
                reported = s.reports ∙ ap₂ (λ r n. r ++ option_to_list (report_of n)) (b.reported ∙ ap (λ o. reports ++ o) none_said) ended;
                control = s.same.control ∙ b.control;
                unready = λ e. absurd (true≢false (sym e ∙ ap is_closed_by_near link_then));
                cutoff = s.same.cutoff ∙ b.cutoff;
              };
              holds = subst (λ (m : Between). Holds ahead m.far x.session) (sym can.2) t.holds;
              comes = subst (λ (m : Between). Comes m.far x.session server.owner.channel) (sym can.2) t.comes;
              serves = subst (λ (m : Between). Writes m.far server.owner.channel) (sym can.2) t.serves;
              takes = record {
                bare = λ e. ap (λ (l : Channel). l.untold) channel ∙ did.0.1.3;
              };
              gives = subst (λ (m : Between). Writes m.near new.owner.channel) (sym can.2) (record {
                spare = λ e. ap (λ (l : Channel). l.unwritten) channel ∙ t.gives.spare e;
                bare = λ e. ap (λ (l : Channel). l.unwritten) channel ∙ t.gives.bare (ap (λ (l : Channel). l.stands) (sym channel) ∙ e);
              });
              keeping = record {
                had = λ e. absurd (true≢false (sym e ∙ ap is_near_held link_then));
                shut = λ e. absurd (both e closing);
                over = λ e. ap is_near_held link_then;
              };
              twin = λ e. absurd (true≢false (sym (ap is_closed_by_far link) ∙ ap is_closed_by_far (t.twin e).link));
            };
          },
          sound,
        )
