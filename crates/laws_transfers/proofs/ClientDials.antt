-- A client that puts files dials, as an event of a world: its server has it open at once.
use Rattle.std.proofs.Common.{◌≡◌, ℕ, true, false, true≢false, ◌&&◌, List, [], ◌∷◌, ◌++◌, Option, None, option_to_list, refl, sym, ap, ap₂, ◌∙◌}
use Rattle.ftp_endpoint.specs.declared.endpoint.Endpoint.{Endpoint}
use Rattle.ftp_endpoint.specs.declared.host.Host.{Host}
use Rattle.ftp_ports.specs.Asking.{Connected}
use Rattle.ftp_ports.specs.Actions.{Calls, Stand}
use Rattle.ftp_ports.specs.Channel.{IsOpened}
use Rattle.ftp_ports.specs.Machine.{Opened}
use Rattle.ftp_ports.specs.declared.whole.Rest.{Rest}
use Rattle.ftp_client_driver.specs.Side.{client_side}
use Rattle.ftp_client_model.specs.Calls as near
use Rattle.ftp_client_model.specs.Calls.{data_closed, data_opened, is_busy, report_of}
use Rattle.ftp_client_model.specs.View.{View as Near}
use Rattle.ftp_ends.specs.Link.{is_wanted}
use Rattle.ftp_ends.specs.Octets.{has_octets}
use Rattle.ftp_ends.specs.declared.link.Wants.TheVariants as Want
use Rattle.ftp_operation.specs.Answer.{Said}
use Rattle.ftp_server_driver.specs.alone.Side.{server_side}
use Rattle.ftp_server_model.specs.Calls as far
use Rattle.ftp_server_model.specs.Calls.{clock_step, is_upload, opened_step}
use Rattle.ftp_server_model.specs.Machine.{Reading, completed, waited}
use Rattle.ftp_server_model.specs.View.{View as Far}
use Rattle.ftp_server_model.specs.declared.session.ServerLink.TheVariants as Data
use Rattle.laws_world.specs.Agreement.{Order}
use Rattle.laws_world.specs.Events.{is_asked_for, is_closed_by_near, is_gone, lends_none, link_opens}
use Rattle.laws_world.specs.World.{Opened as LinkOpened, World}
use Rattle.laws_drivers.specs.control.Alone.{ClientIsCalm}
use Rattle.laws_drivers.specs.control.Between.{Awaits, Between, Can, Hold, Is_called, Near as TheClient}
use Rattle.laws_drivers.specs.control.Touches.{Dials}
use Rattle.laws_drivers.proofs.control.Taken.{taken, taken_none, taken_wants}
use Rattle.laws_drivers.specs.world.Ahead.{accepts, is_asked, is_open}
use Rattle.laws_transfers.specs.Ahead.{Ahead, Level, Listens, Opens, Parted, far_ahead}
use Rattle.laws_drivers.proofs.world.Hearing.{at_link}
use Rattle.laws_drivers.proofs.world.Known.{Dialling as IsDialling}
use Rattle.laws_drivers.proofs.world.Moves.{Rested, opens}
use Rattle.laws_drivers.proofs.world.Served.{Runs, far_wants, rests, settled}
use Rattle.laws_drivers.proofs.events.Holding.{both, is_called, is_had, is_sound, unclosed}
use Rattle.laws_drivers.proofs.events.FarForms.{none_later, told_speaks}
use Rattle.laws_drivers.proofs.events.NearForms.{Dialling, busy_same, dialled_any, dialled_closing, dialling_of, wants_rest}
use Rattle.laws_drivers.proofs.events.Stands.{ClientFetches, ServerServes}
use Rattle.laws_transfers.proofs.Beside.{Goes, IsBeside, Together, rested}
use Rattle.laws_transfers.proofs.Known.{Known}
use Rattle.laws_transfers.proofs.Settling.{NearSettles, near_settles}

module _ (read : Reading) (orders : List Order) (server : Stand server_side) (old new : Stand client_side) (reports : List Said) (w : World)
    (calm : ClientIsCalm old.owner new.owner) (serves : ServerServes server.owner) (before : ClientFetches old.owner) (after : ClientFetches new.owner)
    (known : Known w) where
  abbrev v : Near
  v = old.owner.end.view

  abbrev u : Near
  u = new.owner.end.view

  abbrev x : Far
  x = server.owner.end.server.view

  -- ---- it dials

  module _ (host : Host) (endpoint : Endpoint) (left written at_first so_far : Option (List ℕ)) (rest : Rest) (moment : ℕ) (between next : Between) (told : ℕ)
      (did : Calls {side = client_side} (Opened host (Connected endpoint left written ∷ []) at_first so_far rest) old new)
      (can : Can TheClient (Dials endpoint) between next) where
    wants : near.wants v ≡ Want.Connect endpoint
    wants = did.0.2.0

    dialling : Dialling endpoint v
    dialling = dialling_of endpoint v wants

    called_now : next.far ≡ Is_called
    called_now = ap (λ (m : Between). m.far) can.2

    awaits : (h : Hold) → h ≡ Awaits endpoint.port → (is_had h ≡ false) × (is_called h ≡ false)
    awaits h e = (ap is_had e, ap is_called e)

    had : IsOpened host (Connected endpoint left written ∷ []) at_first so_far rest old.owner.channel new.owner.channel
    had = did.0.1

    module _ (ahead : Ahead) (t : Together read orders moment ahead between told server old reports w) where
      n_is : w.near ≡ taken v
      n_is = t.beside.near ∙ unclosed (taken v) dialling.closing

      there : IsDialling w
      there = known.dials endpoint (ap near.wants n_is ∙ taken_wants v ∙ wants)

      near_is : w.near ≡ v
      near_is = n_is ∙ busy_same v (ap is_busy (sym n_is) ∙ there.busy)

    opened : (ahead : Ahead) → (t : Together read orders moment ahead between told server old reports w) → data_opened w.far.context.here w.near ≡ u
    opened ahead t =
        ap (data_opened w.far.context.here) (near_is ahead t) ∙ dialled_any endpoint w.far.context.here host v dialling ∙ sym (did.0.0.0.0.0 calm)

    closing : u.closing ≡ false
    closing = ap (λ (n : Near). n.closing) (did.0.0.0.0.0 calm) ∙ dialled_closing endpoint host v dialling

    abbrev open_world : World
    open_world = link_opens (lends_none w)

    level : Together read orders moment Level between told server old reports w → Goes read [] orders next told server new (reports ++ []) w
    unfolding far.data_opened
    level t = record {
      world = settled open_world;
      leads = opens read w asked (ap (λ n. rests (near.wants (data_closed n))) (opened Level t) ∙ wants_rest (data_closed u) after.sound after.dials refl) runs;
      moment = moment;
      ahead = Opens;
      marked = s.same.marks;
      together = record {
        beside = record {
          fits = ap accepts passive;
          near = s.near ∙ ap (λ n. data_closed (taken n)) (opened Level t);
          far = s.far ∙ far_is;
          to_server = s.same.to_server ∙ b.to_server ∙ ap (λ (m : Between). server.unheard ++ m.control.to_server) (sym can.2);
          to_client = s.same.to_client ∙ b.to_client
              ∙ ap₂ (λ (y : Stand client_side) (m : Between). y.unheard ++ m.control.to_client) (sym did.1) (sym can.2);
          rising = s.same.rising ∙ none_rises ∙ sym climbs;
          falling = λ e. s.same.falling ∙ (there Level t).to_client ∙ sym falls;
          listens = s.same.listens ∙ b.listens;
          reported = s.reports ∙ ap₂ (λ r n. r ++ option_to_list (report_of n)) (b.reported ∙ ap (λ o. reports ++ o) none_said) (opened Level t);
          control = s.same.control ∙ b.control;
          unready = λ e. absurd (true≢false (sym e ∙ ap is_closed_by_near opened_now));
          cutoff = s.same.cutoff ∙ b.cutoff;
        };
        holds = record {
          shut = t.holds.shut;
          had = λ e. absurd (both e (ap is_open passive));
          called = λ c e. refl;
          opened = λ e. ap is_called called_now;
        };
        comes = record {
          bare = t.comes.bare;
          spare = λ e. t.comes.spare (awaits between.far can.1).0;
          over = t.comes.over;
          shut = t.comes.shut;
        };
        serves = record { spare = λ e. t.serves.spare (awaits between.far can.1).0; bare = t.serves.bare };
        takes = record { bare = λ e. had.untold };
        gives = record { spare = λ e. had.unwritten; bare = λ e. had.unwritten };
        keeping = record { had = λ e. has_now; shut = λ e. absurd (both e closing); over = λ e. absurd (both (ap is_sound had.fate) e) };
        twin = λ e. absurd (true≢false (sym e));
      };
    }
      where
        b : IsBeside moment Level between told server old reports w
        b = t.beside

        r : Rested w
        r = rested moment Level between told server old reports w t.beside serves before

        passive : x.session.connection ≡ Data.Passive
        passive = sym (ap (λ (f : Far). f.session.connection) b.far) ∙ (there Level t).far

        xp : far_ahead Level x ≡ at_link Data.Passive false x
        xp = ap (λ l. at_link l false x) passive

        wf : w.far ≡ clock_step moment (at_link Data.Passive false x)
        wf = b.far ∙ ap (clock_step moment) xp

        none_waits : w.far.waiting ≡ None
        none_waits = r.runs.none_waits

        -- who is there is its peer
        steps : opened_step w.near.here w.far ≡ clock_step moment (at_link Data.Ready false x)
        steps =
            ap (λ same. completed (far.opens (far.connection_of w.far.session) same w.far)) (there Level t).same
            ∙ ap (λ f. completed (far.opens (far.connection_of f.session) true f)) wf

        far_now : far.data_opened w.near.here w.far ≡ clock_step moment (at_link Data.Ready false x)
        far_now = ap (λ f. waited f.waiting f) steps ∙ none_later (clock_step moment (at_link Data.Ready false x)) serves.none_waits

        far_is : open_world.far ≡ clock_step moment (far_ahead Opens x)
        far_is = far_now ∙ ap (clock_step moment) (sym (ap (λ l. far_ahead Opens (record x { session = record x.session { connection = l } })) passive))

        runs : Runs open_world.far
        runs = record {
          running = ap (λ (f : Far). f.session.life) far_now ∙ serves.running;
          none_waits = ap (λ (f : Far). f.waiting) far_now
              ∙ serves.none_waits;
        }

        asked : is_asked_for w ≡ true
        asked =
            ap₂ (λ l q. is_gone l && is_wanted q (far.wants w.far)) (there Level t).link (ap near.wants (near_is Level t) ∙ wants)
            ∙ ap (λ q. is_wanted (Want.Connect endpoint) q) (far_wants w.far r.runs.running r.far_open ∙ ap far.wants_of (there Level t).far)

        s : NearSettles open_world (settled open_world)
        s = near_settles open_world (ap (λ (f : Far). f.session.closing) far_now) (ap (λ (f : Far). is_asked f.session.connection) far_now)
            (λ e. absurd (true≢false (sym e)))
            (λ e. absurd (both e (ap (λ (n : Near). n.closing) (opened Level t) ∙ closing)))

        opened_now : (settled open_world).link ≡ LinkOpened
        opened_now = s.stays (ap (λ (n : Near). n.closing) (opened Level t) ∙ closing)

        -- nothing rises yet
        none_rises : w.data_to_server ≡ []
        none_rises = known.still (ap is_upload (there Level t).far)

        -- so nothing came before
        none_came : server.owner.channel.untold ≡ []
        none_came = t.comes.spare (awaits between.far can.1).0

        has_now : is_had next.near ≡ true
        has_now = ap (λ (m : Between). is_had m.near) can.2

        none_said : option_to_list (report_of v) ≡ []
        none_said = ap (λ n. option_to_list (report_of n)) (sym (busy_same v (ap is_busy (sym (n_is Level t)) ∙ (there Level t).busy)))
            ∙ ap option_to_list (taken_none v)

        falls : new.owner.channel.untold ++ (next.data_ways.to_client ++ server.owner.channel.unwritten) ≡ []
        falls = ap₂ (λ o (m : Between). o ++ (m.data_ways.to_client ++ server.owner.channel.unwritten)) had.untold can.2
            ∙ t.serves.spare (awaits between.far can.1).0

        climbs : server.owner.channel.untold ++ (next.data_ways.to_server ++ new.owner.channel.unwritten) ≡ []
        climbs = ap₂ (λ o (m : Between). o ++ (m.data_ways.to_server ++ new.owner.channel.unwritten)) none_came can.2 ∙ had.unwritten

    pub client_dials : (ahead : Ahead) → Together read orders moment ahead between told server old reports w
        → Goes read [] orders next told server new (reports ++ []) w
    client_dials Level t = level t
    client_dials Opens t = absurd (both (t.holds.opened refl) (awaits between.far can.1).1)
    client_dials (Listens port) t =
        let says : has_octets w.far.owed ≡ true =
        ap (λ (f : Far). has_octets f.owed) t.beside.far ∙ told_speaks x.session.connection t.beside.fits port x.session.closing x in
        absurd (both says (ap has_octets (there (Listens port) t).owes))
    client_dials (Parted accepted) t =
        absurd (true≢false (sym (ap accepts (there (Parted accepted) t).far) ∙ ap (λ (f : Far). accepts f.session.connection) t.beside.far))
