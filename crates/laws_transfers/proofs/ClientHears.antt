-- A client that puts files hears octets, as an event of a world; and where it is told that REST was refused, the end of its link is told there at once.
use Rattle.std.proofs.Common.{◌≡◌, ℕ, ◌<◌, ◌≤◌, Bool, true, false, true≢false, List, [], ◌∷◌, ◌++◌, length, take, drop, option_to_list, refl, sym, ap, ap₂, subst, ◌∙◌, append_assoc, append-nil, arith, length-append}
use Rattle.std.proofs.lemmas.List.{take-append-le}
use Rattle.ftp_ports.specs.Actions.{HearsNext, Stand}
use Rattle.ftp_ports.specs.Channel.{Channel}
use Rattle.ftp_client_driver.specs.Side.{client_side}
use Rattle.ftp_client_model.specs.Calls as near
use Rattle.ftp_client_model.specs.Calls.{data_closed, report_of}
use Rattle.ftp_client_model.specs.View.{View as Near}
use Rattle.ftp_direct.specs.Direct.{State}
use Rattle.ftp_operation.specs.Answer.{Said}
use Rattle.ftp_server_driver.specs.alone.Side.{server_side}
use Rattle.ftp_server_model.specs.Calls.{clock_step, close_step}
use Rattle.ftp_server_model.specs.Machine.{IsReading, Reading}
use Rattle.ftp_server_model.specs.View.{View as Far}
use Rattle.ftp_server_model.specs.declared.session.ServerLink.TheVariants as Data
use Rattle.laws_world.specs.Agreement.{Order}
use Rattle.laws_world.specs.Events.{is_closed_by_near}
use Rattle.laws_world.specs.World.{World}
use Rattle.laws_agreement.specs.Over.{OverRuns}
use Rattle.laws_agreement.proofs.OverRunning.{over_lead}
use Rattle.laws_drivers.specs.control.Alone.{ClientIsCalm}
use Rattle.laws_drivers.specs.control.Between.{Between, Hold}
use Rattle.laws_drivers.proofs.control.Worlds.{LeadsOn, leads_then}
use Rattle.laws_drivers.proofs.control.Taken.{HearsAlike, hears_alike, taken, taken_none}
use Rattle.laws_transfers.specs.Ahead.{Ahead, Level, Listened, Listens, Opens, Parted, far_ahead, without_connection, is_left}
use Rattle.laws_transfers.proofs.Ahead.{Holds, opens_ready}
use Rattle.laws_drivers.specs.world.Ahead.{is_asked}
use Rattle.laws_drivers.proofs.world.Moves.{Rested, drop_front, near_hears, take_front}
use Rattle.laws_drivers.proofs.world.Served.{rests, settled}
use Rattle.ftp_client_model.specs.Calls.{is_sound as is_sound_at}
use Rattle.laws_drivers.proofs.events.Holding.{is_false, is_sound, unclosed}
use Rattle.laws_drivers.proofs.events.FarForms.{told_passive}
use Rattle.laws_drivers.proofs.events.NearForms.{wants_rest}
use Rattle.laws_drivers.proofs.events.Stands.{ClientFetches, ServerServes, wants_port}
use Rattle.laws_transfers.proofs.Blind.{hears_blind}
use Rattle.laws_transfers.proofs.Beside.{Goes, Keeping, Takes, Together, Writes, is_taking, rested}
use Rattle.laws_transfers.proofs.ClientStays.{client_keeps}
use Rattle.laws_transfers.proofs.Known.{AreCarried, Known, is_near_held, is_ready}
use Rattle.laws_transfers.specs.Actions.{AreGranted}
use Rattle.laws_transfers.proofs.Granted.{granted_stays}
use Rattle.laws_transfers.proofs.Parting.{Parts, parts, ready_is, ready_untaken}
use Rattle.laws_transfers.proofs.Running.{hears_closing, hears_sound}
use Rattle.laws_transfers.proofs.Settling.{NearSettles, near_settles}
use Rattle.laws_transfers.proofs.Twins.{near_heard}

module _ (read : Reading) (begun : List Order) (server : Stand server_side) (old new : Stand client_side) (reports : List Said) (w : World)
    (calm : ClientIsCalm old.owner new.owner) (serves : ServerServes server.owner) (before : ClientFetches old.owner)
    (portless : wants_port new.owner.end.view.connection ≡ false)
    (known : Known w) where
  abbrev v : Near
  v = old.owner.end.view

  abbrev u : Near
  u = new.owner.end.view

  -- events lead on to a world that is so again, and the client has not failed
  abbrev Went : Between → ℕ → Type 0
  Went between told = Goes read [] begun between told server new (reports ++ []) w × (is_sound_at u.standing ≡ true)

  -- ---- octets are heard

  -- so many
  heard_is : (octets : List ℕ) → HearsNext octets old new → u ≡ near.hears v octets
  heard_is octets did =
      (did.hears.0.0.0 calm).0 ∙ ap (λ o. near.hears v o) (ap (take (length octets)) did.next ∙ take_front octets new.unheard)

  -- which leaves its channel
  heard_gives : (octets : List ℕ) (hold : Hold) → HearsNext octets old new → Writes hold old.owner.channel → Writes hold new.owner.channel
  heard_gives octets hold did gives = record {
    spare = λ e. ap (λ (l : Channel). l.unwritten) did.hears.1 ∙ gives.spare e;
    bare = λ e. ap (λ (l : Channel). l.unwritten) did.hears.1 ∙ gives.bare (ap (λ (l : Channel). l.stands) (sym did.hears.1) ∙ e);
  }

  heard_takes : (octets : List ℕ) → HearsNext octets old new → Takes old.owner.channel → Takes new.owner.channel
  heard_takes octets did takes = record {
    bare = λ e. ap (λ (l : Channel). l.untold) did.hears.1 ∙ takes.bare (ap (λ (l : Channel). l.stands) (sym did.hears.1) ∙ e);
  }

  heard_over : (octets : List ℕ) → HearsNext octets old new → (is_sound old.owner.channel.fate ≡ false → is_near_held w.link ≡ false)
      → is_sound new.owner.channel.fate ≡ false → is_near_held w.link ≡ false
  heard_over octets did over e = over (ap (λ (l : Channel). is_sound l.fate) (sym did.hears.1) ∙ e)

  heard_taking : (octets : List ℕ) → HearsNext octets old new → is_taking new.owner.channel ≡ true → is_taking old.owner.channel ≡ true
  heard_taking octets did e = ap is_taking (sym did.hears.1) ∙ e

  module _ (reads : IsReading read) (from : State) (puts : AreCarried begun) (runs : OverRuns read from begun w) (octet : ℕ)
      (octets : List ℕ) (moment : ℕ) (ahead : Ahead) (between : Between) (told : ℕ) (t : Together read begun moment ahead between told server old reports w)
      (did : HearsNext (octet ∷ octets) old new) where
    abbrev all : List ℕ
    all = octet ∷ octets

    abbrev rest : List ℕ
    rest = new.unheard ++ between.control.to_client

    r : Rested w
    r = rested moment ahead between told server old reports w t.beside serves before

    queue : w.control_to_client ≡ all ++ rest
    queue = t.beside.to_client ∙ ap (λ a. a ++ between.control.to_client) did.next ∙ append_assoc all new.unheard between.control.to_client

    near_is : w.near ≡ data_closed (taken v)
    near_is = t.beside.near

    is : u ≡ near.hears v all
    is = heard_is all did

    same : HearsAlike all v
    same = hears_alike all v

    -- it heard the same, but for a close that is wanted
    heard : (octets : List ℕ) → data_closed (near.hears w.near octets) ≡ data_closed (near.hears (taken v) octets)
    heard octets = ap (λ n. data_closed (near.hears n octets)) near_is ∙ hears_blind octets (taken v)

    -- and for its report
    taken_is : data_closed (taken (near.hears w.near all)) ≡ data_closed (taken u)
    taken_is = ap taken (heard all) ∙ ap data_closed (same.view ∙ ap taken (sym is))

    first : take (length all) w.control_to_client ≡ all
    first = ap (take (length all)) queue ∙ take_front all rest

    behind : drop (length all) w.control_to_client ≡ rest
    behind = ap (drop (length all)) queue ∙ drop_front all rest

    pushed_near : near.hears w.near (take (length all) w.control_to_client) ≡ near.hears w.near all
    pushed_near = ap (near.hears w.near) first

    enough : (k : ℕ) → k < length all → k ≤ length old.unheard
    enough k less = subst (λ a. k ≤ length a) (sym did.next) (omega (arith, less, length-append all new.unheard))

    may : (k : ℕ) → k < length all → near.may_hear (near.hears w.near (take k w.control_to_client)) ≡ true
    may k less =
        ap (λ q. near.may_hear (near.hears w.near (take k q))) t.beside.to_client
        ∙ ap (λ q. near.may_hear (near.hears w.near q)) (take-append-le k old.unheard between.control.to_client (enough k less))
        ∙ ap near.may_hear (heard (take k old.unheard))
        ∙ (hears_alike (take k old.unheard) v).may ∙ (did.hears.0.0.0 calm).1 k less

    -- it has not failed
    sound : is_sound_at u.standing ≡ true
    sound =
        ap (λ (n : Near). is_sound_at n.standing) (sym taken_is) ∙ ap (λ (n : Near). is_sound_at n.standing) (sym pushed_near)
        ∙ hears_sound read reads from begun puts w (length all) runs t.beside.control t.beside.unready

    wants : rests (near.wants (data_closed (near.hears w.near all))) ≡ true
    wants =
        let x : Near = near.hears w.near all in
        wants_rest (data_closed x) (ap (λ (n : Near). is_sound_at n.standing) taken_is ∙ sound)
        (ap (λ (n : Near). wants_port n.connection) taken_is ∙ portless) refl

    abbrev now : World
    now = record w { near = near.hears w.near all; control_to_client = rest; taken = all }

    s : NearSettles now (settled now)
    s =
        near_settles now r.far_open r.none_asked (λ e. known.still (known.left e))
        (λ e. hears_closing read reads from begun puts w (length all) runs t.beside.control t.beside.unready
        (ap (λ (n : Near). n.closing) pushed_near ∙ e))

    unwritten : new.owner.channel.unwritten ≡ old.owner.channel.unwritten
    unwritten = ap (λ (l : Channel). l.unwritten) did.hears.1

    keeping : Keeping between.near u new.owner.channel (settled now)
    keeping = record {
      had = λ e. t.keeping.had (s.held e);
      shut = λ e. by_close v.closing refl e;
      over = λ e. is_false (is_near_held (settled now).link) (λ o. true≢false (sym (s.held o) ∙ heard_over all did t.keeping.over e));
    }
      where
        -- it was to close before, and held no link, or it is to close since
        by_close : (closing : Bool) → v.closing ≡ closing → u.closing ≡ true → is_near_held (settled now).link ≡ false
        by_close true was e = is_false (is_near_held (settled now).link) (λ o. true≢false (sym (s.held o) ∙ t.keeping.shut was))
        by_close false was e =
            let same_near : w.near ≡ taken v = near_is ∙ unclosed (taken v) was in
            s.closed (ap (λ n. (taken (near.hears n all)).closing) same_near ∙ ap (λ (n : Near). n.closing) (same.view ∙ ap taken (sym is)) ∙ e)

    leads : LeadsOn read [] w (settled now)
    leads = near_hears read octet octets rest w r queue may wants

    reported : (settled now).reports ≡ (reports ++ []) ++ option_to_list (report_of u)
    reported =
        s.reports ∙ ap₂ (λ r n. r ++ option_to_list (report_of n)) t.beside.reported (heard all)
        ∙ append_assoc reports (option_to_list (report_of v)) (option_to_list (report_of (near.hears (taken v) all)))
        ∙ ap (λ l. reports ++ l) same.report ∙ ap (λ n. reports ++ option_to_list (report_of n)) (sym is)
        ∙ ap (λ r. r ++ option_to_list (report_of u)) (sym (append-nil reports))

    -- of the server's link something was made, where the client alone has closed it
    stays : (is_closed_by_near (settled now).link ≡ true → is_ready w.far.session.connection ≡ false) → Went between told
    stays unready =
        let b = t.beside in (
          record {
            world = settled now;
            leads = leads;
            moment = moment;
            ahead = ahead;
            marked = s.same.marks;
            together = record {
              beside = record {
                fits = b.fits;
                near = s.near ∙ taken_is;
                far = s.far ∙ b.far;
                to_server = s.same.to_server ∙ b.to_server;
                to_client = s.same.to_client;
                rising = s.same.rising ∙ b.rising ∙ ap (λ o. server.owner.channel.untold ++ (between.data_ways.to_server ++ o)) (sym unwritten);
                falling = λ e. s.same.falling ∙ b.falling (heard_taking all did e)
                    ∙ ap (λ (l : Channel). l.untold ++ (between.data_ways.to_client ++ server.owner.channel.unwritten)) (sym did.hears.1);
                listens = subst (Listened ahead told) (sym s.same.listens) b.listens;
                reported = reported;
                control = s.same.control ∙ b.control;
                unready = λ e. ap (λ (f : Far). is_ready f.session.connection) s.far ∙ unready e;
                cutoff = s.same.cutoff ∙ b.cutoff;
              };
              holds = t.holds;
              comes = t.comes;
              serves = t.serves;
              takes = heard_takes all did t.takes;
              gives = heard_gives all between.near did t.gives;
              keeping = keeping;
              twin = λ e. near_heard read reads begun octet octets rest w (t.twin e) r queue may wants;
            };
          },
          sound,
        )

    -- or nothing was yet
    module _ (left : is_closed_by_near (settled now).link ≡ true) (ready : is_ready w.far.session.connection ≡ true) where
      near_now : (settled now).near ≡ data_closed (taken u)
      near_now = s.near ∙ taken_is

      rested_now : Rested (settled now)
      rested_now = record {
        near_rests = ap (λ n. rests (near.wants n)) near_now ∙ wants_rest (data_closed (taken u)) sound portless refl;
        near_open = ap (λ (n : Near). n.closing) near_now;
        none = ap report_of near_now ∙ taken_none u;
        runs = record { running = ap (λ (f : Far). f.session.life) s.far ∙ r.runs.running; none_waits = ap (λ (f : Far). f.waiting) s.far ∙ r.runs.none_waits };
        far_open = ap (λ (f : Far). f.session.closing) s.far ∙ r.far_open;
        none_asked = ap (λ (f : Far). is_asked f.session.connection) s.far ∙ r.none_asked;
      }

      -- nothing rises
      none_rises : w.data_to_server ≡ []
      none_rises = known.still (ready_untaken w.far.session.connection ready)

      runs_now : OverRuns read from begun (settled now)
      runs_now =
          subst (λ l. OverRuns read from l (settled now)) (append-nil begun)
          (over_lead read reads from begun leads.events [] w (settled now) leads.timed runs leads.leads)

      -- REST refuses an offset of those that were begun
      refused : AreGranted begun → ⊥
      refused granted =
          let open_then : now.near.closing ≡ false =
          ap (λ (n : Near). n.closing) (sym pushed_near)
          ∙ granted_stays read reads from begun puts w runs t.beside.control t.beside.unready granted ready (length all) in
          true≢false (sym ready ∙ t.beside.unready (ap is_closed_by_near (sym (s.stays open_then)) ∙ left))

      ready_now : is_ready (settled now).far.session.connection ≡ true
      ready_now = ap (λ (f : Far). is_ready f.session.connection) s.far ∙ ready

      p : Parts read reads from begun puts (settled now) runs_now (s.same.control ∙ t.beside.control) left ready_now refused
      p = parts read reads from begun puts (settled now) runs_now (s.same.control ∙ t.beside.control) left ready_now refused rested_now
          (s.same.rising ∙ none_rises)

      -- how the drive's server stands then
      record Behind : Type 0 where
        accepted : Bool
        fits : is_left accepted server.owner.end.server.view.session.connection ≡ true
        far : close_step (without_connection w.far) ≡ clock_step moment (far_ahead (Parted accepted) server.owner.end.server.view)
        listens : w.listens ≡ told
        holds : Holds (Parted accepted) between.far server.owner.end.server.view.session

      behind_by : (ahead : Ahead) → Together read begun moment ahead between told server old reports w → Behind
      behind_by Level t = record {
        accepted = true;
        fits = ap (is_left true) (ready_is server.owner.end.server.view.session.connection
            (ap (λ (f : Far). is_ready f.session.connection) (sym t.beside.far) ∙ ready));
        far = ap (λ f. close_step (without_connection f)) t.beside.far;
        listens = t.beside.listens;
        holds = record { shut = t.holds.shut; had = t.holds.had; called = t.holds.called; opened = t.holds.opened };
      }
      behind_by Opens t =
          let x : Far = server.owner.end.server.view in
          let passive : x.session.connection ≡ Data.Passive =
          opens_ready x.session.connection t.beside.fits x (ap (λ (f : Far). is_ready f.session.connection) (sym t.beside.far) ∙ ready) in
          record {
            accepted = false;
            fits = ap (is_left false) passive;
            far = ap (λ f. close_step (without_connection f)) t.beside.far
                ∙ ap (λ l. close_step (without_connection (clock_step moment (far_ahead Opens (record x { session = record x.session { connection = l } }))))) passive;
            listens = t.beside.listens;
            holds = record { shut = t.holds.shut; had = t.holds.had; called = t.holds.called; opened = t.holds.opened };
          }
      behind_by (Listens port) t =
          let x : Far = server.owner.end.server.view in
          absurd (true≢false (sym ready ∙ ap (λ (f : Far). is_ready f.session.connection) t.beside.far
          ∙ ap is_ready (told_passive x.session.connection t.beside.fits port x)))
      behind_by (Parted accepted) t = absurd (true≢false (sym ready ∙ ap (λ (f : Far). is_ready f.session.connection) t.beside.far))

      parts_now : Went between told
      parts_now =
          let b = t.beside in
          let h : Behind = behind_by ahead t in (
            record {
              world = p.new;
              leads = leads_then read [] [] w (settled now) p.new leads p.leads;
              moment = moment;
              ahead = Parted h.accepted;
              marked = p.marks ∙ s.same.marks;
              together = record {
                beside = record {
                  fits = h.fits;
                  near = p.near ∙ near_now;
                  far = p.far ∙ ap (λ (f : Far). close_step (without_connection f)) s.far ∙ h.far;
                  to_server = p.to_server ∙ s.same.to_server ∙ b.to_server;
                  to_client = p.to_client ∙ s.same.to_client;
                  rising = p.rising ∙ sym none_rises ∙ b.rising ∙ ap (λ o. server.owner.channel.untold ++ (between.data_ways.to_server ++ o)) (sym unwritten);
                  falling = λ e. p.falling ∙ sym p.none_fell ∙ s.same.falling ∙ b.falling (heard_taking all did e)
                      ∙ ap (λ (l : Channel). l.untold ++ (between.data_ways.to_client ++ server.owner.channel.unwritten)) (sym did.hears.1);
                  listens = p.listens ∙ s.same.listens ∙ h.listens;
                  reported = p.reports ∙ reported;
                  control = p.control ∙ s.same.control ∙ b.control;
                  unready = λ e. absurd (true≢false (sym e ∙ p.unclosed));
                  cutoff = p.cutoff ∙ s.same.cutoff ∙ b.cutoff;
                };
                holds = h.holds;
                comes = t.comes;
                serves = t.serves;
                takes = heard_takes all did t.takes;
                gives = heard_gives all between.near did t.gives;
                keeping = record {
                  had = λ e. absurd (p.unheld e);
                  shut = λ e. is_false (is_near_held p.new.link) p.unheld;
                  over = λ e. is_false (is_near_held p.new.link) p.unheld;
                };
                twin = λ e. p.twin;
              };
            },
            sound,
          )

    client_hears : Went between told
    client_hears = by (is_closed_by_near (settled now).link) (is_ready w.far.session.connection) refl refl
      where
        by : (left ready : Bool) → is_closed_by_near (settled now).link ≡ left → is_ready w.far.session.connection ≡ ready → Went between told
        by true true left ready = parts_now left ready
        by true false left unready = stays (λ e. unready)
        by false ready left some = stays (λ e. absurd (true≢false (sym e ∙ left)))

  -- none or some
  pub client_heard : (reads : IsReading read) (from : State) → AreCarried begun → OverRuns read from begun w
      → (octets : List ℕ) → (moment : ℕ) (ahead : Ahead) (between : Between) (told : ℕ)
      → Together read begun moment ahead between told server old reports w → HearsNext octets old new → Went between told
  client_heard reads from puts runs [] moment ahead between told t did = (
    client_keeps read begun server old new reports w calm known moment ahead between between told t (heard_is [] did) refl
        (ap (λ a. a ++ between.control.to_client) did.next)
        (ap (λ (l : Channel). server.owner.channel.untold ++ (between.data_ways.to_server ++ l.unwritten)) (sym did.hears.1))
        (λ e. (heard_taking [] did e, ap (λ (l : Channel). l.untold ++ (between.data_ways.to_client ++ server.owner.channel.unwritten)) (sym did.hears.1))) refl
        (heard_takes [] did t.takes) (heard_gives [] between.near did t.gives) t.keeping.had (heard_over [] did t.keeping.over),
    ap (λ (n : Near). is_sound_at n.standing) (heard_is [] did) ∙ before.sound,
  )
  client_heard reads from puts runs (octet ∷ octets) moment ahead between told t did =
      client_hears reads from puts runs octet octets moment ahead between told t did
