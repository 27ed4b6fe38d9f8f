-- A server's dial fails, as events of a world: the client hears what is left of the 150 there, and the server is told, as its drive's is; the operation is
-- marked.
use Rattle.std.proofs.Common.{◌≡◌, ℕ, Bool, true, false, true≢false, ◌&&◌, List, [], ◌∷◌, ◌++◌, option_to_list, refl, sym, ap, ap₂, subst, ◌∙◌, append-nil}
use Rattle.ftp_direct.specs.Direct.{State}
use Rattle.ftp_endpoint.specs.declared.endpoint.Endpoint.{Endpoint}
use Rattle.ftp_ends.specs.Link.{is_connecting, is_wanted}
use Rattle.ftp_ends.specs.declared.link.Wants.TheVariants as Want
use Rattle.ftp_ports.specs.Asking.{NotConnected}
use Rattle.ftp_ports.specs.Actions.{Calls as CallsNext, Stand}
use Rattle.ftp_ports.specs.Channel.{Channel, with_asked}
use Rattle.ftp_ports.specs.Machine.{Refused}
use Rattle.ftp_client_driver.specs.Side.{client_side}
use Rattle.ftp_client_model.specs.Calls as near
use Rattle.ftp_client_model.specs.Calls.{data_closed, is_busy, report_of}
use Rattle.ftp_client_model.specs.View.{View as Near}
use Rattle.ftp_operation.specs.Answer.{Said}
use Rattle.ftp_server_driver.specs.alone.Side.{server_side}
use Rattle.ftp_server_model.specs.Calls as far
use Rattle.ftp_server_model.specs.Calls.{clock_step, close_step, refused_step, wants_of}
use Rattle.ftp_server_model.specs.Machine.{IsReading, Reading, waited}
use Rattle.ftp_server_model.specs.View.{View as Far}
use Rattle.ftp_server_model.specs.declared.session.ServerLink.TheVariants as Data
use Rattle.ftp_server_model.specs.declared.session.Way.TheVariants as Ways
use Rattle.laws_world.specs.Agreement.{Order}
use Rattle.laws_world.specs.Events.{Refuse, is_asked_for, is_closed_by_near, is_gone, lends_none, link_refused, refused_by}
use Rattle.laws_world.specs.Serving.{after_event}
use Rattle.laws_world.specs.World.{Gone, Refused as WasRefused, World, marked_last, with_mark}
use Rattle.laws_agreement.specs.Over.{OverRuns}
use Rattle.laws_drivers.specs.control.Alone.{ServerIsCalm}
use Rattle.laws_drivers.specs.control.Between.{Between}
use Rattle.laws_drivers.proofs.control.Taken.{taken}
use Rattle.laws_drivers.proofs.control.Worlds.{LeadsOn, leads_then, one_leads}
use Rattle.laws_drivers.specs.world.Ahead.{accepts, is_asked, is_open}
use Rattle.laws_drivers.proofs.world.Hearing.{at_link}
use Rattle.laws_drivers.proofs.world.Moves.{Rested}
use Rattle.laws_drivers.proofs.world.Served.{Runs, after_settles, far_wants, rests, settled}
use Rattle.laws_drivers.proofs.events.FarForms.{no_close, none_later}
use Rattle.laws_drivers.proofs.events.Holding.{both, is_called, is_sound}
use Rattle.laws_drivers.proofs.events.NearForms.{busy_same}
use Rattle.laws_drivers.proofs.events.Stands.{ClientFetches as ClientRests, ServerServes}
use Rattle.laws_transfers.specs.Ahead.{Ahead, Level, Listens, Opens, Parted as PartedAhead, far_ahead}
use Rattle.laws_transfers.proofs.Ahead.{FarSettles, far_settles, left_is, left_link}
use Rattle.laws_transfers.proofs.Beside.{GoesTo, IsBeside, Together, Writes, rested}
use Rattle.laws_transfers.proofs.Known.{AreCarried, is_near_held}
use Rattle.laws_transfers.proofs.Settling.{far_held}
use Rattle.laws_active.specs.Lead.{Even}
use Rattle.laws_active.specs.Refusals.{Heard, Led}
use Rattle.laws_active.proofs.Accepting.{is_transfer}
use Rattle.laws_active.proofs.Alike.{together_of}
use Rattle.laws_active.proofs.Calls as calls
use Rattle.laws_active.proofs.Calls.{Calls, Came, Coming, Waits, is_opening, listening, world_calls}
use Rattle.laws_active.proofs.Dialling.{Dials, HeardIt, dials_of, hears_it}
use Rattle.laws_active.proofs.Gaining.{GainsTo, IsIdle, heard_between, heard_client}
use Rattle.laws_active.proofs.Ports.{is_ported}

module _ (read : Reading) (reads : IsReading read) (from : State) (begun : List Order) (puts : AreCarried begun)
    (old new : Stand server_side) (client : Stand client_side) (reports : List Said) (w : World) (calm : ServerIsCalm old.owner new.owner)
    (before : ServerServes old.owner)
    (asks : ClientRests client.owner) (runs : OverRuns read from begun w) where
  abbrev x : Far
  x = old.owner.end.server.view

  abbrev u : Far
  u = new.owner.end.server.view

  abbrev v : Near
  v = client.owner.end.view

  -- events lead on to a world that is beside both, its client ahead or not, and whose last operation is marked
  abbrev Denied : Between → ℕ → Type 0
  Denied between told = GainsTo read [] begun between told new client reports (marked_last WasRefused w.marks) true w

  module _ (endpoint : Endpoint) (moment : ℕ) (between : Between) (told : ℕ)
      (did : CallsNext {side = server_side} (Refused (NotConnected endpoint ∷ [])) old new) where
    wants : far.wants x ≡ Want.Connect endpoint
    wants = did.0.2.0

    unclosed_far : x.session.closing ≡ false
    unclosed_far = no_close x (Want.Connect endpoint) wants refl

    dial : Dials x
    dial = dials_of endpoint x (sym (far_wants x before.running unclosed_far) ∙ wants)

    channel : new.owner.channel ≡ with_asked new.owner.channel.asked old.owner.channel
    channel = did.0.1.1

    -- as it waits for its data connection
    abbrev xc : Far
    xc = at_link (Data.Opening dial.transfer (Ways.Connect dial.to)) false x

    xs : x ≡ xc
    xs i = record x { session = record x.session { connection = dial.link i; closing = unclosed_far i } }

    is : u ≡ refused_step xc
    is = did.0.0.0.done calm ∙ ap (λ f. waited (refused_step f).waiting (refused_step f)) xs ∙ none_later (refused_step xc) before.none_waits

    -- it runs on, and no line waits
    pub denied_serves : ServerServes new.owner
    denied_serves = record {
      running = ap (λ (y : Far). y.session.life) is ∙ before.running;
      none_waits = ap (λ (y : Far). y.waiting) is ∙ before.none_waits;
    }

    -- a world's server is not ahead
    pub is_level : (ahead : Ahead) → Together read begun moment ahead between told old client reports w → ahead ≡ Level
    is_level Level t = refl
    is_level Opens t = absurd (true≢false (sym t.beside.fits ∙ ap accepts dial.link))
    is_level (Listens port) t = absurd (true≢false (sym t.beside.fits ∙ ap is_asked dial.link))
    is_level (PartedAhead accepted) t =
        absurd (true≢false (sym (ap is_opening dial.link) ∙ ap is_opening (left_is accepted x.session.connection t.beside.fits) ∙ unopened_link accepted))
      where
        unopened_link : (accepted : Bool) → is_opening (left_link accepted) ≡ false
        unopened_link true = refl
        unopened_link false = refl

    module _ (t : Together read begun moment Level between told old client reports w) where
      b : IsBeside moment Level between told old client reports w
      b = t.beside

      r : Rested w
      r = rested moment Level between told old client reports w b before asks

      wf : w.far ≡ clock_step moment xc
      wf = b.far ∙ ap (λ l. clock_step moment (at_link l false x)) dial.link

      c : Calls w
      c =
          world_calls read reads from begun puts w runs b.control b.unready (ap (λ (f : Far). is_opening f.session.connection) wf)
          (ap (λ (f : Far). f.owed) wf ∙ did.0.2.1)

      abbrev octets : List ℕ
      octets = w.control_to_client

      one : HeardIt c.op c.flow c.port read w
      one = hears_it c.op c.flow c.port read w r c.link c.waits

      abbrev n : Near
      n = one.new.near

      -- the drive's client holds the same but for a close
      busy_now : is_busy w.near ≡ true
      busy_now = by c.waits
        where
          by : Waits c.op c.flow c.port w.near octets → is_busy w.near ≡ true
          by (Came empty is) = ap is_busy is
          by (Coming octet more queue o) = ap is_busy (o.fronts [] more octet (sym queue)).0

      near_is : w.near ≡ data_closed v
      near_is = b.near ∙ ap data_closed (busy_same v (sym (ap is_busy b.near) ∙ busy_now))

      -- which is at its port, at a transfer
      pub waits_so : (is_ported w.near.connection ≡ true) × (is_transfer w.near.job ≡ true)
      waits_so = by c.waits
        where
          by : Waits c.op c.flow c.port w.near octets → (is_ported w.near.connection ≡ true) × (is_transfer w.near.job ≡ true)
          by (Came empty is) = (ap (λ (m : Near). is_ported m.connection) is, ap (λ (m : Near). is_transfer m.job) is)
          by (Coming octet more queue o) =
              let is = (o.fronts [] more octet (sym queue)).0 in (ap (λ (m : Near). is_ported m.connection) is, ap (λ (m : Near). is_transfer m.job) is)

      n_is : n ≡ near.hears (data_closed v) octets
      n_is = one.near ∙ ap (λ m. near.hears m octets) near_is

      none_said : option_to_list (report_of v) ≡ []
      none_said = ap (λ m. option_to_list (report_of m)) (sym near_is) ∙ by c.waits
        where
          by : Waits c.op c.flow c.port w.near octets → option_to_list (report_of w.near) ≡ []
          by (Came empty is) = ap (λ m. option_to_list (report_of m)) is
          by (Coming octet more queue o) = ap (λ m. option_to_list (report_of m)) (o.fronts [] more octet (sym queue)).0

      -- ---- the event

      abbrev f : Far
      f = clock_step moment xc

      -- the server is told, and the operation is marked
      abbrev now : World
      now = record one.new { far = refused_step f; marks = marked_last WasRefused one.new.marks; taken = [] }

      wanted : near.wants one.new.near ≡ Want.Accept
      unfolding near.wants
      wanted = ap near.wants one.form

      told_so : far.data_refused one.new.far ≡ refused_step f
      unfolding far.data_refused
      told_so = ap far.data_refused (one.far ∙ wf) ∙ none_later (refused_step f) before.none_waits

      refuses : link_refused (lends_none one.new) ≡ now
      refuses =
          ap (λ q. with_mark WasRefused (refused_by (is_connecting q) (lends_none one.new))) wanted
          ∙ ap (λ (y : Far). record one.new { far = y; marks = marked_last WasRefused one.new.marks; taken = [] }) told_so

      asked : is_asked_for one.new ≡ true
      asked =
          ap₂ (λ l q. is_gone l && is_wanted q (far.wants one.new.far)) (one.link ∙ c.link) wanted
          ∙ ap (λ q. is_wanted Want.Accept q) (ap far.wants one.far ∙ far_wants w.far r.runs.running r.far_open
          ∙ ap (λ (y : Far). wants_of y.session.connection) wf)

      runs_then : Runs now.far
      runs_then = record { running = before.running; none_waits = before.none_waits }

      rests_then : rests (near.wants (data_closed now.near)) ≡ true
      unfolding near.wants
      rests_then = ap (λ m. rests (near.wants (data_closed m))) one.form

      leads : LeadsOn read [] w (settled now)
      leads =
          leads_then read [] [] w one.new (settled now) one.leads
          (one_leads read Refuse one.new (settled now) tt (asked, sym (ap after_event refuses ∙ after_settles now rests_then runs_then)))

      gone : now.link ≡ Gone
      gone = one.link ∙ c.link

      open_near : now.near.closing ≡ false
      open_near = ap (λ (m : Near). m.closing) one.form

      s : FarSettles now (settled now)
      s = far_settles now (ap report_of one.form) open_near (ap is_closed_by_near gone)

      unheld : is_near_held (settled now).link ≡ true → ⊥
      unheld e = true≢false (sym (far_held now open_near e) ∙ ap is_near_held gone)

      -- it holds none then
      free : u.session.connection ≡ Data.Free
      free = ap (λ (y : Far). y.session.connection) is

      unopened : is_open u.session.connection ≡ false
      unopened = ap is_open free

      settled_unheld : is_near_held (settled now).link ≡ false
      settled_unheld = by (is_near_held (settled now).link) refl
        where
          by : (held : Bool) → is_near_held (settled now).link ≡ held → is_near_held (settled now).link ≡ false
          by true e = absurd (unheld e)
          by false e = e

      -- so a world is beside both once the client heard what is left of the 150
      server_denied : GoesTo read [] begun (heard_between [] between) told new (heard_client octets client) reports (marked_last WasRefused w.marks) w
      server_denied = record {
        world = settled now;
        leads = leads;
        moment = moment;
        ahead = Level;
        marked = s.same.marks ∙ ap (marked_last WasRefused) one.marks;
        together = record {
          beside = record {
            fits = ap is_asked free;
            near = s.near ∙ one.form ∙ ap (λ m. data_closed (taken m)) (sym one.form) ∙ ap (λ m. data_closed (taken m)) n_is;
            far = s.far ∙ ap (λ y. clock_step moment (far_ahead Level y)) (sym is);
            to_server = s.same.to_server ∙ one.to_server ∙ b.to_server
                ∙ ap (λ (y : Stand server_side). y.unheard ++ between.control.to_server) (sym did.1);
            to_client = s.same.to_client ∙ one.to_client;
            rising = s.same.data_to_server ∙ one.rising ∙ b.rising
                ∙ ap (λ (l : Channel). l.untold ++ (between.data_ways.to_server ++ client.owner.channel.unwritten)) (sym channel);
            falling = λ e. s.same.data_to_client ∙ one.falling ∙ b.falling e
                ∙ ap (λ (l : Channel). client.owner.channel.untold ++ (between.data_ways.to_client ++ l.unwritten)) (sym channel);
            listens = s.listens ∙ one.listens ∙ b.listens;
            reported = s.reports ∙ one.reports ∙ b.reported ∙ ap (λ o. reports ++ o) none_said
                ∙ ap (λ m. reports ++ option_to_list (report_of m)) (sym one.form ∙ n_is);
            control = s.same.control ∙ one.control ∙ b.control;
            unready = λ e. absurd (both e s.same.link);
            cutoff = s.same.cutoff ∙ one.cutoff ∙ b.cutoff;
          };
          holds = record {
            shut = λ e. unopened;
            had = λ e. absurd (both e unopened);
            called = λ e a. absurd (true≢false (sym a ∙ ap accepts free));
            opened = λ e. absurd (true≢false (sym e));
          };
          comes = record {
            bare = λ e. ap (λ (l : Channel). l.untold) channel ∙ t.comes.bare (ap (λ (l : Channel). l.stands) (sym channel) ∙ e);
            spare = λ e. ap (λ (l : Channel). l.untold) channel ∙ t.comes.spare e;
            over = λ e. ap (λ (l : Channel). l.untold) channel ∙ t.comes.over (ap (λ (l : Channel). is_sound l.fate) (sym channel) ∙ e);
            shut = λ e. unopened;
          };
          serves = subst (Writes between.far) (sym channel) (record { spare = t.serves.spare; bare = t.serves.bare });
          takes = record { bare = t.takes.bare };
          gives = record { spare = t.gives.spare; bare = t.gives.bare };
          keeping = record { had = λ e. absurd (unheld e); shut = λ e. settled_unheld; over = λ e. settled_unheld };
          twin = λ e. absurd (true≢false (sym e));
        };
      }

      idle : IsIdle between new
      idle = record {
        free = free;
        none_comes = ap (λ (y : Stand server_side). y.unheard ++ between.control.to_server) did.1 ∙ sym b.to_server ∙ c.to_server;
      }

      -- which it heard already, or is to hear
      pub server_denies : is_called between.near ≡ false → Denied between told
      unfolding server_denied
      server_denies called = by c.waits
        where
          by : Waits c.op c.flow c.port w.near octets → Denied between told
          by (Coming octet more queue o) = record {
            gain = Heard octets;
            left = [];
            so = (
              record {
                op = c.op;
                flow = c.flow;
                few = c.few;
                port = c.port;
                octet = octet;
                others = more;
                some = queue;
                opens = subst (λ m. calls.Opens c.op c.flow c.port m octets) near_is o;
                owed = ap (λ (m : Near). m.owed) (sym near_is) ∙ c.none_owed;
                queue = sym b.to_client ∙ sym (append-nil octets);
                called = called;
              },
              idle,
            );
            heard = λ e. refl;
            goes = server_denied;
          }
          by (Came empty form) = record {
            gain = Led Even;
            left = [];
            so = (called, asks);
            heard = λ e. refl;
            goes = record {
              world = server_denied.world;
              leads = server_denied.leads;
              moment = server_denied.moment;
              ahead = server_denied.ahead;
              marked = server_denied.marked;
              together = together_of read begun server_denied.moment server_denied.ahead (heard_between [] between) between told new
                  (heard_client octets client) client reports server_denied.world server_denied.together
                  (record {
                    view = ap (λ l. data_closed (taken (near.hears (data_closed v) l))) (sym empty);
                    said = ap (λ l. option_to_list (report_of (near.hears (data_closed v) l))) (sym empty);
                    queue = sym b.to_client ∙ empty;
                    to_server = refl;
                    ways = refl;
                    far = refl;
                    untold = λ e. (e, refl);
                    unwritten = refl;
                  })
                  t.takes t.gives (record { had = λ e. absurd (unheld e); shut = λ e. settled_unheld; over = λ e. settled_unheld });
            };
          }
