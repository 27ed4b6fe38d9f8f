-- A server dials its client, as events of a world: the client hears what is left of the 150 there, and both ends have the link at once.
use Rattle.std.proofs.Common.{◌≡◌, ℕ, ◌<◌, Bool, true, false, true≢false, ◌&&◌, zero, suc, List, [], ◌∷◌, ◌++◌, length, take, Option, option_to_list, refl, sym, ap, ap₂, subst, ◌∙◌, append-nil, arith}
use Rattle.ftp_direct.specs.Direct.{State}
use Rattle.ftp_endpoint.specs.declared.endpoint.Endpoint.{Endpoint}
use Rattle.ftp_endpoint.specs.declared.host.Host.{Host}
use Rattle.ftp_ends.specs.Link.{is_connecting, is_wanted, same_host}
use Rattle.ftp_ends.specs.declared.link.Wants.{Wants}
use Rattle.ftp_ends.specs.declared.link.Wants.TheVariants as Want
use Rattle.ftp_ports.specs.Asking.{Connected}
use Rattle.ftp_ports.specs.Actions.{Calls as CallsNext, Stand}
use Rattle.ftp_ports.specs.Channel.{IsOpened}
use Rattle.ftp_ports.specs.Machine.{Opened}
use Rattle.ftp_ports.specs.declared.whole.Rest.{Rest}
use Rattle.ftp_client_driver.specs.Side.{client_side}
use Rattle.ftp_client_model.specs.Calls as near
use Rattle.ftp_client_model.specs.Calls.{accepted, data_closed, is_busy, is_down, report_of}
use Rattle.ftp_client_model.specs.View.{Flow, Receiving, Sending, View as Near}
use Rattle.ftp_client_model.specs.declared.client.Replied.TheVariants as Replies
use Rattle.ftp_operation.specs.Answer.{Said}
use Rattle.ftp_operation.specs.declared.op.Op.{Op}
use Rattle.ftp_server_driver.specs.alone.Side.{server_side}
use Rattle.ftp_server_model.specs.Calls as far
use Rattle.ftp_server_model.specs.Calls.{clock_step, close_step, is_upload, opened_step, wants_of}
use Rattle.ftp_server_model.specs.Machine.{IsReading, Reading, waited}
use Rattle.ftp_server_model.specs.View.{Transfer, View as Far}
use Rattle.ftp_server_model.specs.declared.session.ServerLink.{ServerLink}
use Rattle.ftp_server_model.specs.declared.session.ServerLink.TheVariants as Data
use Rattle.ftp_server_model.specs.declared.session.Transfer.TheVariants as Transfers
use Rattle.ftp_server_model.specs.declared.session.Way.TheVariants as Ways
use Rattle.laws_world.specs.Agreement.{Order}
use Rattle.laws_world.specs.Events.{is_asked_for, is_closed_by_far, is_gone, lends_none, link_opens}
use Rattle.laws_world.specs.World.{Gone, World}
use Rattle.laws_agreement.specs.Over.{OverRuns}
use Rattle.laws_drivers.specs.control.Alone.{ServerIsCalm}
use Rattle.laws_drivers.specs.control.Between.{Between, Can, Far as TheServer, Is_called}
use Rattle.laws_drivers.specs.control.Touches.{Dials as DialsAt}
use Rattle.laws_drivers.proofs.control.Taken.{taken}
use Rattle.laws_drivers.proofs.control.Worlds.{LeadsOn, leads_none, leads_then}
use Rattle.laws_drivers.specs.world.Ahead.{accepts, is_asked, is_open}
use Rattle.laws_drivers.proofs.world.Hearing.{at_link}
use Rattle.laws_drivers.proofs.world.Moves.{Rested, near_hears, opens}
use Rattle.laws_drivers.proofs.world.Served.{Runs, far_wants, rests, settled}
use Rattle.laws_drivers.proofs.events.FarForms.{no_close, none_later, opened_shut}
use Rattle.laws_drivers.proofs.events.Holding.{both, is_called, is_had, is_sound}
use Rattle.laws_drivers.proofs.events.NearForms.{busy_same}
use Rattle.laws_drivers.proofs.events.Stands.{ClientFetches as ClientRests, ServerServes}
use Rattle.laws_transfers.specs.Ahead.{Ahead, Level, Listens, Opens, Parted as PartedAhead, ahead_of, far_ahead}
use Rattle.laws_transfers.proofs.Ahead.{keeps, left_is, left_link, opens_ready}
use Rattle.laws_transfers.proofs.Beside.{Goes, IsBeside, Together, rested}
use Rattle.laws_transfers.proofs.Known.{AreCarried, is_ready}
use Rattle.laws_transfers.proofs.Settling.{NearSettles, near_settles}
use Rattle.laws_active.specs.Lead.{Joined, led_by}
use Rattle.laws_active.proofs.Accepting.{awaiting, joined_closing, joining, joins}
use Rattle.laws_active.proofs.Calls.{Calls, Came, Coming, Waits, is_lift, is_opening, listening, world_calls}
use Rattle.laws_active.proofs.Leading.{Comes, IsJoined, StaysSo, Waits as WaitsThere, led_between, led_client}
use Rattle.laws_active.proofs.Lifting.{Lifted}
use Rattle.laws_active.proofs.Opening.{OpensTo, opens_to}

-- ---- a server that dials

-- what it dials for, and where
pub record Dials (v : Far) : Type 0 where
  pub transfer : Transfer
  pub to : Endpoint
  pub link : v.session.connection ≡ Data.Opening transfer (Ways.Connect to)

-- one that wants this of its data connection
pub dials_of : (endpoint : Endpoint) (v : Far) → wants_of v.session.connection ≡ Want.Connect endpoint → Dials v
dials_of endpoint v e = by v.session.connection refl e
  where
    no : {q : Wants} → is_connecting q ≡ false → q ≡ Want.Connect endpoint → ⊥
    no none e = true≢false (sym (ap is_connecting e) ∙ none)

    by : (link : ServerLink Transfer) → v.session.connection ≡ link → wants_of link ≡ Want.Connect endpoint → Dials v
    by (Data.Opening transfer (Ways.Connect to)) is e = record { transfer = transfer; to = to; link = is }
    by (Data.Opening transfer Ways.Accept) is e = absurd (no refl e)
    by Data.Free is e = absurd (no refl e)
    by (Data.Asked verb) is e = absurd (no refl e)
    by (Data.Active to) is e = absurd (no refl e)
    by Data.Passive is e = absurd (no refl e)
    by Data.Ready is e = absurd (no refl e)
    by (Data.Transferring (Transfers.Upload path keep d)) is e = absurd (no refl e)
    by (Data.Transferring Transfers.OverLimit) is e = absurd (no refl e)
    by (Data.Transferring (Transfers.Download octets)) is e = absurd (no refl e)
    by (Data.Transferring (Transfers.Listing octets)) is e = absurd (no refl e)

-- one that takes octets is not done with them at once
lift_open : (transfer : Transfer) → is_upload (Data.Transferring transfer) ≡ true → (v : Far)
    → (ahead_of Opens (at_link (Data.Opening transfer Ways.Accept) false v)).session.closing ≡ false
lift_open (Transfers.Upload path keep d) e v = refl
lift_open Transfers.OverLimit e v = refl
lift_open (Transfers.Download octets) e v = absurd (true≢false (sym e))
lift_open (Transfers.Listing octets) e v = absurd (true≢false (sym e))

lift_takes : (transfer : Transfer) → is_upload (Data.Transferring transfer) ≡ true → (v : Far)
    → is_upload (ahead_of Opens (at_link (Data.Opening transfer Ways.Accept) false v)).session.connection ≡ true
lift_takes (Transfers.Upload path keep d) e v = refl
lift_takes Transfers.OverLimit e v = refl
lift_takes (Transfers.Download octets) e v = absurd (true≢false (sym e))
lift_takes (Transfers.Listing octets) e v = absurd (true≢false (sym e))

-- ---- octets before one

-- a place among octets parts them
pub record Parted (k : ℕ) (octets : List ℕ) : Type 0 where
  pub octet : ℕ
  pub back : List ℕ
  pub is : take k octets ++ octet ∷ back ≡ octets

pub parts : (k : ℕ) (octets : List ℕ) → k < length octets → Parted k octets
parts k [] less = absurd (omega (arith, less))
parts zero (octet ∷ more) less = record { octet = octet; back = more; is = refl }
parts (suc k) (octet ∷ more) less =
    let one = parts k more (omega (arith, less)) in record { octet = one.octet; back = one.back; is = ap (λ l. octet ∷ l) one.is }

-- a client at its port may hear
may_at : (op : Op (List ℕ)) (flow : Flow) (port : ℕ) (n : Near) → n ≡ listening op flow port n → n.owed ≡ [] → near.may_hear n ≡ true
may_at op flow port n is owed = ap near.may_hear is ∙ ap (λ o. near.may_hear (listening op flow port (record n { owed = o }))) owed

-- ---- the client at its port, in a world

-- it heard all of the 150, and nothing else is another
pub record HeardIt (op : Op (List ℕ)) (flow : Flow) (port : ℕ) (read : Reading) (w : World) : Type 0 where
  pub new : World
  pub leads : LeadsOn read [] w new
  pub near : new.near ≡ near.hears w.near w.control_to_client
  pub form : new.near ≡ awaiting op Replies.Begun flow port new.near
  pub far : new.far ≡ w.far
  pub to_client : new.control_to_client ≡ []
  pub to_server : new.control_to_server ≡ w.control_to_server
  pub rising : new.data_to_server ≡ w.data_to_server
  pub falling : new.data_to_client ≡ w.data_to_client
  pub control : new.control ≡ w.control
  pub marks : new.marks ≡ w.marks
  pub cutoff : new.cutoff ≡ w.cutoff
  pub listens : new.listens ≡ w.listens
  pub reports : new.reports ≡ w.reports
  pub link : new.link ≡ w.link

pub hears_it : (op : Op (List ℕ)) (flow : Flow) (port : ℕ) (read : Reading) (w : World) → Rested w → w.link ≡ Gone
    → Waits op flow port w.near w.control_to_client → HeardIt op flow port read w
unfolding near.wants
hears_it op flow port read w r gone (Came empty is) = record {
  new = w;
  leads = leads_none read w;
  near = ap (near.hears w.near) (sym empty);
  form = is;
  far = refl;
  to_client = empty;
  to_server = refl;
  rising = refl;
  falling = refl;
  control = refl;
  marks = refl;
  cutoff = refl;
  listens = refl;
  reports = refl;
  link = refl;
}
hears_it op flow port read w r gone (Coming octet more queue o) =
    let all : List ℕ = octet ∷ more in
    let heard : Near = near.hears w.near all in
    let whole : heard ≡ awaiting op Replies.Begun flow port heard =
    subst (λ l. near.hears w.near l ≡ awaiting op Replies.Begun flow port (near.hears w.near l)) queue o.whole in
    let now : World = record w { near = heard; control_to_client = []; taken = all } in
    let s : NearSettles now (settled now) =
    near_settles now r.far_open r.none_asked (λ e. absurd (true≢false (sym e ∙ ap is_closed_by_far gone)))
    (λ e. absurd (true≢false (sym e ∙ ap (λ (n : Near). n.closing) whole))) in
    let same : data_closed (taken heard) ≡ heard = ap (λ n. data_closed (taken n)) whole ∙ sym whole in
    record {
      new = settled now;
      leads = near_hears read octet more [] w r (queue ∙ sym (append-nil all)) may
          (ap (λ n. rests (near.wants (data_closed n))) whole);
      near = s.near ∙ same ∙ ap (near.hears w.near) (sym queue);
      form = s.near ∙ same ∙ whole ∙ ap (awaiting op Replies.Begun flow port) (sym (s.near ∙ same));
      far = s.far;
      to_client = s.same.to_client;
      to_server = s.same.to_server;
      rising = s.same.rising;
      falling = s.same.falling;
      control = s.same.control;
      marks = s.same.marks;
      cutoff = s.same.cutoff;
      listens = s.same.listens;
      reports = s.reports ∙ ap (λ n. w.reports ++ option_to_list (report_of n)) whole ∙ append-nil w.reports;
      link = s.stays (ap (λ (n : Near). n.closing) whole);
    }
  where
    may : (k : ℕ) → k < length (octet ∷ more) → near.may_hear (near.hears w.near (take k w.control_to_client)) ≡ true
    may k less =
        let cut = parts k w.control_to_client (subst (λ l. k < length l) (sym queue) less) in
        let one = o.fronts (take k w.control_to_client) cut.back cut.octet cut.is in
        may_at op flow port (near.hears w.near (take k w.control_to_client)) one.0 one.1

-- ---- it dials

-- one whose transfer goes on wants no link that it has not closed where it has no octet to give
closing_lifts : (flow : Flow) → joined_closing flow ≡ true → is_down flow ≡ false
closing_lifts (Sending [] mark) e = refl
closing_lifts (Sending (octet ∷ left) mark) e = absurd (true≢false (sym e))
closing_lifts (Receiving decoder mark) e = absurd (true≢false (sym e))

joins_rests : (op : Op (List ℕ)) (flow : Flow) (n : Near) → rests (near.wants (data_closed (joining op Replies.Begun flow n))) ≡ true
unfolding near.wants
joins_rests op (Sending [] mark) n = refl
joins_rests op (Sending (octet ∷ left) mark) n = refl
joins_rests op (Receiving decoder mark) n = refl

module _ (read : Reading) (reads : IsReading read) (from : State) (begun : List Order) (puts : AreCarried begun)
    (old new : Stand server_side) (client : Stand client_side) (reports : List Said) (w : World) (calm : ServerIsCalm old.owner new.owner)
    (before : ServerServes old.owner)
    (asks : ClientRests client.owner) (runs : OverRuns read from begun w) where
  abbrev x : Far
  x = old.owner.end.server.view

  abbrev u : Far
  u = new.owner.end.server.view

  abbrev v : Near
  v = client.owner.end.view

  -- events lead on to a world that is beside both once the client heard what is left of the 150 and accepted
  abbrev Dialled : Between → ℕ → Type 0
  Dialled next told = (octets : List ℕ) × (j : IsJoined octets [] next client) × (j.closed ≡ true → Lifted next new)
      × Goes read [] begun (led_between (Joined octets) [] next) told new (led_client (Joined octets) client) reports w

  module _ (host : Host) (endpoint : Endpoint) (left written at_first so_far : Option (List ℕ)) (rest : Rest) (moment : ℕ) (between next : Between) (told : ℕ)
      (did : CallsNext {side = server_side} (Opened host (Connected endpoint left written ∷ []) at_first so_far rest) old new)
      (can : Can TheServer (DialsAt endpoint) between next) where
    wants : far.wants x ≡ Want.Connect endpoint
    wants = did.0.2.0

    unclosed_far : x.session.closing ≡ false
    unclosed_far = no_close x (Want.Connect endpoint) wants refl

    dial : Dials x
    dial = dials_of endpoint x (sym (far_wants x before.running unclosed_far) ∙ wants)

    had : IsOpened host (Connected endpoint left written ∷ []) at_first so_far rest old.owner.channel new.owner.channel
    had = did.0.1

    -- as one that waits at its own port
    abbrev xo : Far
    xo = at_link (Data.Opening dial.transfer Ways.Accept) false x

    abbrev xc : Far
    xc = at_link (Data.Opening dial.transfer (Ways.Connect dial.to)) false x

    xs : x ≡ xc
    xs i = record x { session = record x.session { connection = dial.link i; closing = unclosed_far i } }

    is : u ≡ ahead_of Opens xo
    is =
        did.0.0.0.0.done calm ∙ ap (λ f. waited (opened_step host f).waiting (opened_step host f)) xs
        ∙ none_later (ahead_of Opens xo) ((keeps Opens xo refl).waiting ∙ before.none_waits)

    module _ (t : Together read begun moment Level between told old client reports w) where
      b : IsBeside moment Level between told old client reports w
      b = t.beside

      r : Rested w
      r = rested moment Level between told old client reports w b before asks

      wf : w.far ≡ clock_step moment xc
      wf = b.far ∙ ap (λ l. clock_step moment (at_link l false x)) dial.link

      c : Calls w
      c =
          world_calls read reads from begun puts w runs b.control b.unready (ap (λ (f : Far). is_opening f.session.connection) wf)
          (ap (λ (f : Far). f.owed) wf ∙ did.0.2.1)

      abbrev octets : List ℕ
      octets = w.control_to_client

      one : HeardIt c.op c.flow c.port read w
      one = hears_it c.op c.flow c.port read w r c.link c.waits

      abbrev n : Near
      n = one.new.near

      -- both have the link
      abbrev open_world : World
      open_world = link_opens (lends_none one.new)

      near_then : open_world.near ≡ joining c.op Replies.Begun c.flow n
      unfolding near.data_opened
      near_then =
          ap (near.data_opened one.new.far.context.here) one.form
          ∙ ap (λ same. accepted same (awaiting c.op Replies.Begun c.flow c.port n))
          (ap₂ (λ (f : Far) (m : Near). same_host f.context.here m.peer) one.far one.near ∙ c.same)
          ∙ joins c.op Replies.Begun c.flow c.few refl c.port n

      abbrev f : Far
      f = clock_step moment xo

      far_then : open_world.far ≡ ahead_of Opens f
      unfolding far.data_opened
      far_then =
          ap (far.data_opened n.here) (one.far ∙ wf)
          ∙ none_later (ahead_of Opens f) ((keeps Opens f refl).waiting ∙ before.none_waits)

      serves_then : Runs open_world.far
      serves_then = record {
        running = ap (λ (y : Far). y.session.life) far_then ∙ (keeps Opens f refl).life ∙ before.running;
        none_waits = ap (λ (y : Far). y.waiting) far_then ∙ (keeps Opens f refl).waiting ∙ before.none_waits;
      }

      asked : is_asked_for one.new ≡ true
      unfolding near.wants
      asked =
          ap₂ (λ l q. is_gone l && is_wanted q (far.wants one.new.far)) (one.link ∙ c.link) (ap near.wants one.form)
          ∙ ap (λ q. is_wanted Want.Accept q) (ap far.wants one.far ∙ far_wants w.far r.runs.running r.far_open
          ∙ ap (λ (y : Far). wants_of y.session.connection) wf)

      rests_then : rests (near.wants (data_closed open_world.near)) ≡ true
      rests_then = ap (λ m. rests (near.wants (data_closed m))) near_then ∙ joins_rests c.op c.flow n

      lifts : is_down c.flow ≡ false → is_upload (Data.Transferring dial.transfer) ≡ true
      lifts e = sym (ap (λ (y : Far). is_lift y.session.connection) wf) ∙ c.rises e

      s : OpensTo open_world (settled open_world)
      s =
          opens_to open_world refl (ap report_of near_then)
          (ap (λ (y : Far). is_asked y.session.connection) far_then ∙ (keeps Opens f refl).told)
          (λ e. ap (λ (y : Far). y.session.closing) far_then
          ∙ lift_open dial.transfer (lifts (closing_lifts c.flow (sym (ap (λ (m : Near). m.closing) near_then) ∙ e))) f)
          (one.falling ∙ c.falling)

      -- the drive's client holds the same but for a close
      busy_now : is_busy w.near ≡ true
      busy_now = by c.waits
        where
          by : Waits c.op c.flow c.port w.near octets → is_busy w.near ≡ true
          by (Came empty is) = ap is_busy is
          by (Coming octet more queue o) = ap is_busy (o.fronts [] more octet (sym queue)).0

      near_is : w.near ≡ data_closed v
      near_is = b.near ∙ ap data_closed (busy_same v (sym (ap is_busy b.near) ∙ busy_now))

      led : led_by (Joined octets) v ≡ open_world.near
      led =
          ap (λ m. accepted true (near.hears m octets)) (sym near_is) ∙ ap (accepted true) (sym one.near) ∙ ap (accepted true) one.form
          ∙ joins c.op Replies.Begun c.flow c.few refl c.port n ∙ sym near_then

      none_said : option_to_list (report_of v) ≡ []
      none_said = ap (λ m. option_to_list (report_of m)) (sym near_is) ∙ by c.waits
        where
          by : Waits c.op c.flow c.port w.near octets → option_to_list (report_of w.near) ≡ []
          by (Came empty is) = ap (λ m. option_to_list (report_of m)) is
          by (Coming octet more queue o) = ap (λ m. option_to_list (report_of m)) (o.fronts [] more octet (sym queue)).0

      stays_so : StaysSo (data_closed v) octets (joined_closing c.flow)
      stays_so = subst (λ m. StaysSo m octets (joined_closing c.flow)) near_is (by c.waits)
        where
          by : Waits c.op c.flow c.port w.near octets → StaysSo w.near octets (joined_closing c.flow)
          by (Came empty is) =
              (WaitsThere empty (record { op = c.op; few = c.few; replied = Replies.Begun; flow = c.flow; come = refl; port = c.port; is = is }), refl)
          by (Coming octet more queue o) = (Comes c.op c.flow c.few c.port octet more queue o, refl)

      called_now : next.near ≡ Is_called
      called_now = ap (λ (m : Between). m.near) can.2

      joined : IsJoined octets [] next client
      joined = record {
        closed = joined_closing c.flow;
        stays = stays_so;
        owed = ap (λ (m : Near). m.owed) (sym near_is) ∙ c.none_owed;
        queue = ap (λ (m : Between). client.unheard ++ m.control.to_client) can.2 ∙ sym b.to_client ∙ sym (append-nil octets);
        called = called_now;
      }

      abbrev beyond : Between
      beyond = led_between (Joined octets) [] next

      server_dials : Dialled next told
      unfolding c joined
      server_dials = (
        octets,
        joined,
        λ e. record {
          takes = ap (λ (y : Far). is_upload y.session.connection) is ∙ lift_takes dial.transfer (lifts (closing_lifts c.flow e)) x;
          none_comes = ap (λ (m : Between). m.data_ways.to_server) can.2;
          untold = had.untold;
        },
        record {
          world = settled open_world;
          leads = leads_then read [] [] w one.new (settled open_world) one.leads (opens read one.new asked rests_then serves_then);
          moment = moment;
          ahead = Level;
          marked = s.same.marks ∙ one.marks;
          together = record {
            beside = record {
              fits = ap (λ (y : Far). is_asked y.session.connection) is ∙ (keeps Opens xo refl).told;
              near = s.near ∙ ap (λ m. data_closed (taken m)) (sym led);
              far = s.far ∙ ap close_step far_then ∙ (keeps Opens xo refl).clock moment ∙ ap (λ y. clock_step moment (far_ahead Level y)) (sym is);
              to_server = s.same.to_server ∙ one.to_server ∙ b.to_server
                  ∙ ap₂ (λ (y : Stand server_side) (m : Between). y.unheard ++ m.control.to_server) (sym did.1) (sym can.2);
              to_client = s.same.to_client ∙ one.to_client;
              rising = s.same.rising ∙ one.rising ∙ c.rising
                  ∙ ap₂ (λ o (m : Between). o ++ (m.data_ways.to_server ++ [])) (sym had.untold) (sym can.2);
              falling = λ e. s.same.falling ∙ one.falling ∙ c.falling
                  ∙ ap₂ (λ o (m : Between). m.data_ways.to_client ++ o) (sym had.unwritten) (sym can.2);
              listens = s.same.listens ∙ one.listens ∙ b.listens;
              reported = s.reports ∙ one.reports ∙ b.reported ∙ ap (λ o. reports ++ o) none_said
                  ∙ ap (λ m. reports ++ option_to_list (report_of m)) (sym (led ∙ near_then));
              control = s.same.control ∙ one.control ∙ b.control;
              unready = λ e. unready_then;
              cutoff = s.same.cutoff ∙ one.cutoff ∙ b.cutoff;
            };
            holds = record {
              shut = subst (λ (y : Far). y.session.closing ≡ true → is_open y.session.connection ≡ false) (sym is)
                  (opened_shut (Data.Opening dial.transfer Ways.Accept) refl x);
              had = λ e. ap (λ (m : Between). is_had m.far) can.2;
              called = λ e a. absurd (both e (ap (λ (m : Between). is_called m.far) can.2));
              opened = λ e. absurd (true≢false (sym e));
            };
            comes = record { bare = λ e. had.untold; spare = λ e. had.untold; over = λ e. had.untold; shut = λ e. absurd (both (ap is_sound had.fate) e) };
            serves = record { spare = λ e. had.unwritten; bare = λ e. had.unwritten };
            takes = record { bare = λ e. refl };
            gives = record { spare = λ e. refl; bare = λ e. refl };
            keeping = record { had = λ e. refl; shut = λ e. s.shut (sym (ap (λ (m : Near). m.closing) led) ∙ e); over = λ e. absurd (true≢false e) };
            twin = λ e. absurd (true≢false (sym e));
          };
        },
      )
        where
          is_opening_link : (ready : Bool) → is_ready (far_ahead Opens f).session.connection ≡ ready → ready ≡ false
          is_opening_link false e = refl
          is_opening_link true e =
              absurd (true≢false (ap is_opening (opens_ready (Data.Opening dial.transfer Ways.Accept) refl f e)))

          unready_then : is_ready (settled open_world).far.session.connection ≡ false
          unready_then =
              ap (λ (y : Far). is_ready y.session.connection) (s.far ∙ ap close_step far_then)
              ∙ is_opening_link (is_ready (far_ahead Opens f).session.connection) refl

    -- it runs on, and no line waits
    pub dials_serves : ServerServes new.owner
    dials_serves = record {
      running = ap (λ (y : Far). y.session.life) is ∙ (keeps Opens xo refl).life ∙ before.running;
      none_waits = ap (λ (y : Far). y.waiting) is ∙ (keeps Opens xo refl).waiting ∙ before.none_waits;
    }

    -- however a world's server is ahead: it is not
    pub dials_on : (ahead : Ahead) → Together read begun moment ahead between told old client reports w → Dialled next told
    dials_on Level t = server_dials t
    dials_on Opens t = absurd (true≢false (sym t.beside.fits ∙ ap accepts dial.link))
    dials_on (Listens port) t = absurd (true≢false (sym t.beside.fits ∙ ap is_asked dial.link))
    dials_on (PartedAhead accepted) t =
        absurd (true≢false (sym (ap is_opening dial.link) ∙ ap is_opening (left_is accepted x.session.connection t.beside.fits) ∙ unopened accepted))
      where
        unopened : (accepted : Bool) → is_opening (left_link accepted) ≡ false
        unopened true = refl
        unopened false = refl
