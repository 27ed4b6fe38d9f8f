-- A client comes to want a port, as octets are heard or an operation begins: a world tells it the next one at once.
use Rattle.std.proofs.Common.{◌≡◌, ℕ, ◌<◌, ◌≤◌, Bool, true, false, true≢false, List, [], ◌∷◌, ◌++◌, length, take, drop, None, option_to_list, refl, sym, ap, ap₂, subst, ◌∙◌, append_assoc, arith, length-append}
use Rattle.std.proofs.lemmas.Bool.{and_right}
use Rattle.std.proofs.lemmas.List.{take-append-le}
use Rattle.ftp_ports.specs.Actions.{HearsNext, Stand}
use Rattle.ftp_ports.specs.Channel.{Channel}
use Rattle.ftp_direct.specs.Direct.{State}
use Rattle.ftp_client_driver.specs.Side.{client_side}
use Rattle.ftp_client_model.specs.Calls as near
use Rattle.ftp_client_model.specs.Calls.{data_closed, is_busy, listening, report_of, starts}
use Rattle.ftp_client_model.specs.View.{Doing, View as Near}
use Rattle.ftp_client_model.specs.declared.client.ClientLink.TheVariants as Data
use Rattle.ftp_client_model.specs.declared.client.Step.TheVariants as Steps
use Rattle.ftp_ends.specs.Link.{is_wanted}
use Rattle.ftp_ends.specs.Octets.{has_octets}
use Rattle.ftp_ends.specs.declared.link.Wants.TheVariants as Want
use Rattle.ftp_operation.specs.Answer.{Said}
use Rattle.ftp_operation.specs.declared.op.Op.{Op}
use Rattle.ftp_server_driver.specs.alone.Side.{server_side}
use Rattle.ftp_server_model.specs.Calls as far
use Rattle.ftp_server_model.specs.Calls.{clock_step}
use Rattle.ftp_server_model.specs.Machine.{IsReading, Reading}
use Rattle.ftp_server_model.specs.View.{View as Far}
use Rattle.ftp_tree.specs.Sound.{last_second}
use Rattle.laws_world.specs.Agreement.{Order, Single}
use Rattle.laws_world.specs.Events.{ControlToClient, is_asked_for, is_closed_by_far, is_closed_by_near, is_gone, pushed}
use Rattle.laws_world.specs.Serving.{after_event, near_listens}
use Rattle.laws_world.specs.World.{Gone, Stands, World, next_listen, port_at}
use Rattle.laws_dialogues.specs.Fetches.{busy}
use Rattle.laws_agreement.specs.Over.{OverRuns}
use Rattle.laws_drivers.specs.control.Alone.{ClientIsCalm}
use Rattle.laws_drivers.specs.control.Between.{Between}
use Rattle.laws_drivers.proofs.control.Taken.{HearsAlike, hears_alike, taken}
use Rattle.laws_drivers.specs.world.Ahead.{is_asked}
use Rattle.laws_drivers.proofs.world.Moves.{Rested, begins_to, drop_front, near_hears_to, take_front}
use Rattle.laws_drivers.proofs.world.Served.{Runs, settled}
use Rattle.laws_drivers.proofs.events.FarForms.{told_speaks}
use Rattle.laws_drivers.proofs.events.Holding.{both, is_called, unclosed}
use Rattle.laws_drivers.proofs.events.NearForms.{busy_same}
use Rattle.laws_drivers.proofs.events.Stands.{ClientFetches as ClientRests, ServerServes, wants_port}
use Rattle.laws_transfers.specs.Ahead.{Ahead, Fits, Level, Listened, Listens, Opens, Parted, far_ahead, is_parted_ahead}
use Rattle.laws_transfers.specs.Actions.{IsCarried}
use Rattle.laws_transfers.proofs.Ahead.{Holds}
use Rattle.laws_transfers.proofs.Beside.{Comes, Goes, IsBeside, Takes, Together, Writes, is_taking, rested}
use Rattle.laws_transfers.proofs.Blind.{hears_blind}
use Rattle.laws_transfers.proofs.Known.{AreCarried, Known, is_near_held}
use Rattle.laws_transfers.proofs.Settling.{NearSettles, near_settles}
use Rattle.laws_transfers.proofs.Twins.{HasTwin, gone_far, gone_link, goes_on, stays_on, twin, twin_rested, twin_settles}
use Rattle.laws_active.specs.Lead.{Told}
use Rattle.laws_active.proofs.Asking.{Asks, told_open, asks_told, hears_asks}
use Rattle.laws_active.proofs.Leading.{IsTold, led_client}

abbrev pub has_any : {A : Type 0} → List A → Bool
has_any [] = false
has_any (one ∷ more) = true

-- a front of nothing
front_empty : {A : Type 0} (front back : List A) → front ++ back ≡ [] → front ≡ []
front_empty [] back e = refl
front_empty (one ∷ front) back e = absurd (true≢false (ap has_any e))

-- ---- a world in which it was told

-- that is no other than one that it is ahead of by that port
module _ (read : Reading) (orders : List Order) (moment : ℕ) (ahead : Ahead) (between : Between) (told : ℕ) (server : Stand server_side)
    (new : Stand client_side)
    (reports : List Said) (now : World) (op : Op (List ℕ)) where
  abbrev x : Far
  x = server.owner.end.server.view

  abbrev u : Near
  u = new.owner.end.view

  -- what is so of it before that
  pub record IsAsking : Type 0 where
    pub fits : Fits ahead x.session.connection
    pub near : now.near ≡ data_closed u
    pub form : now.near ≡ busy (Doing op Steps.Listen) Data.ListenWanted now.near
    pub far : now.far ≡ clock_step moment (far_ahead ahead x)
    pub far_open : now.far.session.closing ≡ false
    pub none_asked : is_asked now.far.session.connection ≡ false
    pub link : now.link ≡ Gone
    pub to_server : now.control_to_server ≡ server.unheard ++ between.control.to_server
    pub to_client : now.control_to_client ≡ new.unheard ++ between.control.to_client
    pub rising : now.data_to_server ≡ server.owner.channel.untold ++ (between.data_ways.to_server ++ new.owner.channel.unwritten)
    pub falling : is_taking new.owner.channel ≡ true
        → now.data_to_client ≡ new.owner.channel.untold ++ (between.data_ways.to_client ++ server.owner.channel.unwritten)
    pub listens : Listened ahead told now.listens
    pub reported : now.reports ≡ reports
    pub control : now.control ≡ Stands
    pub cutoff : now.cutoff ≡ None
    pub quiet : now.far.owed ≡ []
    pub holds : Holds ahead between.far x.session
    pub comes : Comes between.far x.session server.owner.channel
    pub serves : Writes between.far server.owner.channel
    pub takes : Takes new.owner.channel
    pub gives : Writes between.near new.owner.channel
    pub twin : is_parted_ahead ahead ≡ true → HasTwin read orders (settled (near_listens now))

  -- no port of the server's is told there alone, since it would have said so
  unasked : IsAsking → (port : ℕ) → Listens port ≡ ahead → ⊥
  unasked a port is =
      let says : has_octets now.far.owed ≡ true =
      ap (λ (f : Far). has_octets f.owed) a.far ∙ ap (λ h. has_octets (far_ahead h x).owed) (sym is)
      ∙ told_speaks x.session.connection (subst (λ h. Fits h x.session.connection) (sym is) a.fits) port x.session.closing x in
      both says (ap has_octets a.quiet)

  -- which port is the next one here too
  pub port_told : IsAsking → port_at now.listens ≡ port_at told
  port_told a = by ahead refl
    where
      by : (other : Ahead) → other ≡ ahead → port_at now.listens ≡ port_at told
      by Level is = ap port_at (subst (λ h. Listened h told now.listens) (sym is) a.listens)
      by Opens is = ap port_at (subst (λ h. Listened h told now.listens) (sym is) a.listens)
      by (Parted accepted) is = ap port_at (subst (λ h. Listened h told now.listens) (sym is) a.listens)
      by (Listens port) is = absurd (unasked a port is)

  -- it is told the next one there
  abbrev told_world : World
  told_world = near_listens now

  open_then : IsAsking → told_world.near.closing ≡ false
  open_then a = ap (λ n. (listening (port_at now.listens) n).closing) a.form ∙ told_open (port_at now.listens) op now.near

  told_settles : IsAsking → NearSettles told_world (settled told_world)
  told_settles a =
      near_settles told_world a.far_open a.none_asked (λ e. absurd (true≢false (sym e ∙ ap is_closed_by_far a.link)))
      (λ e. absurd (true≢false (sym e ∙ open_then a)))

  -- which makes no mark
  pub told_marks : IsAsking → (settled (near_listens now)).marks ≡ now.marks
  told_marks a = (told_settles a).same.marks

  pub tells : IsAsking
      → Together read orders moment ahead between (next_listen told) server (led_client (Told (port_at now.listens)) new) reports (settled (near_listens now))
  tells a = record {
    beside = record {
      fits = a.fits;
      near = s.near ∙ ap (λ n. data_closed (taken (listening (port_at now.listens) n))) a.near;
      far = s.far ∙ a.far;
      to_server = s.same.to_server ∙ a.to_server;
      to_client = s.same.to_client ∙ a.to_client;
      rising = s.same.rising ∙ a.rising;
      falling = λ e. s.same.falling ∙ a.falling e;
      listens = subst (Listened ahead (next_listen told)) (sym s.same.listens) (one_more ahead refl);
      reported = s.reports ∙ ap₂ (λ l n. l ++ option_to_list (report_of (listening (port_at now.listens) n))) a.reported a.near;
      control = s.same.control ∙ a.control;
      unready = λ e. absurd (true≢false (sym e ∙ ap is_closed_by_near gone));
      cutoff = s.same.cutoff ∙ a.cutoff;
    };
    holds = a.holds;
    comes = a.comes;
    serves = a.serves;
    takes = a.takes;
    gives = a.gives;
    keeping = record {
      had = λ e. absurd (true≢false (sym e ∙ ap is_near_held gone));
      shut = λ e. ap is_near_held gone;
      over = λ e. ap is_near_held gone;
    };
    twin = a.twin;
  }
    where
      s : NearSettles told_world (settled told_world)
      s = told_settles a

      gone : (settled told_world).link ≡ Gone
      gone = s.stays (open_then a) ∙ a.link

      one_more : (other : Ahead) → other ≡ ahead → Listened ahead (next_listen told) (next_listen now.listens)
      one_more Level is = subst (λ h. Listened h (next_listen told) (next_listen now.listens)) is
          (ap next_listen (subst (λ h. Listened h told now.listens) (sym is) a.listens))
      one_more Opens is = subst (λ h. Listened h (next_listen told) (next_listen now.listens)) is
          (ap next_listen (subst (λ h. Listened h told now.listens) (sym is) a.listens))
      one_more (Parted accepted) is = subst (λ h. Listened h (next_listen told) (next_listen now.listens)) is
          (ap next_listen (subst (λ h. Listened h told now.listens) (sym is) a.listens))
      one_more (Listens port) is = absurd (unasked a port is)

-- ---- a twin is told it too

module _ (read : Reading) (reads : IsReading read) (begun : List Order) (op : Op (List ℕ)) where
  -- what a twin is then
  twin_told : (now : World) → now.near ≡ busy (Doing op Steps.Listen) Data.ListenWanted now.near → now.link ≡ Gone → now.far.session.closing ≡ false
      → is_asked now.far.session.connection ≡ false → Runs now.far → after_event (twin now) ≡ twin (settled (near_listens now))
  twin_told now form link unclosed unasked runs =
      asks_told (twin now) op form (record { running = runs.running; none_waits = runs.none_waits }) ∙ twin_settles (near_listens now) link unclosed unasked

  pub heard_too : (octet : ℕ) (octets rest : List ℕ) (w : World) → HasTwin read begun w → Rested w → w.control_to_client ≡ (octet ∷ octets) ++ rest
      → ((k : ℕ) → k < length (octet ∷ octets) → near.may_hear (near.hears w.near (take k w.control_to_client)) ≡ true)
      → let now : World = record w { near = near.hears w.near (octet ∷ octets); control_to_client = rest; taken = octet ∷ octets } in
      now.near ≡ busy (Doing op Steps.Listen) Data.ListenWanted now.near → HasTwin read begun (settled (near_listens now))
  heard_too octet octets rest w k r queue may form =
      let now : World = record w { near = near.hears w.near (octet ∷ octets); control_to_client = rest; taken = octet ∷ octets } in
      let told : World = near_listens now in
      stays_on read reads begun w (settled told) k (gone_link told k.link r.far_open r.none_asked) (gone_far told k.link r.far_open r.none_asked ∙ k.none)
      (near_hears_to read octet octets rest (twin w) (twin (settled told)) queue may
      (twin_told now form k.link r.far_open r.none_asked (record { running = r.runs.running; none_waits = r.runs.none_waits })))

  pub begun_so_too : (given : Op (List ℕ)) → IsCarried given → (moment : ℕ) → moment ≤ last_second → (w : World) → HasTwin read begun w → Rested w
      → is_busy w.near ≡ false → near.wants w.near ≡ Want.Nothing
      → let now : World = record w { near = starts given w.near; far = clock_step moment w.far; marks = w.marks ++ [] ∷ []; taken = [] } in
      now.near ≡ busy (Doing op Steps.Listen) Data.ListenWanted now.near → HasTwin read (begun ++ Single given moment ∷ []) (settled (near_listens now))
  begun_so_too given carried moment timed w k r idle idles form =
      let now : World = record w { near = starts given w.near; far = clock_step moment w.far; marks = w.marks ++ [] ∷ []; taken = [] } in
      let told : World = near_listens now in
      let asks : is_asked_for (twin w) ≡ false = and_right (is_gone w.link) _ (ap (λ q. is_wanted q (far.wants (twin w).far)) idles) in
      goes_on read reads begun w (settled told) (Single given moment ∷ []) k (carried, tt) (gone_link told k.link r.far_open r.none_asked)
      (gone_far told k.link r.far_open r.none_asked ∙ k.none)
      (begins_to read given moment timed (twin w) (twin (settled told)) (twin_rested w r) k.link idle asks
      (twin_told now form k.link r.far_open r.none_asked (record { running = r.runs.running; none_waits = r.runs.none_waits })))

-- a world is beside both once it was told this port
pub record Tells (read : Reading) (server : Stand server_side) (new : Stand client_side) (reports : List Said) (w : World) (more orders : List Order)
    (between : Between) (told : ℕ) : Type 0 where
  pub port : ℕ
  pub port_is : port ≡ port_at told
  pub is_told : IsTold between new
  pub goes : Goes read more orders between (next_listen told) server (led_client (Told port) new) (reports ++ []) w

-- ---- octets are heard

module _ (read : Reading) (reads : IsReading read) (begun : List Order) (server : Stand server_side) (old new : Stand client_side) (reports : List Said)
    (w : World)
    (calm : ClientIsCalm old.owner new.owner) (serves : ServerServes server.owner) (before : ClientRests old.owner) (known : Known w) where
  abbrev v : Near
  v = old.owner.end.view

  abbrev uu : Near
  uu = new.owner.end.view

  module _ (from : State) (puts : AreCarried begun) (runs : OverRuns read from begun w) (octet : ℕ) (octets : List ℕ) (moment : ℕ) (ahead : Ahead)
      (between : Between) (told : ℕ) (t : Together read begun moment ahead between told server old reports w)
      (did : HearsNext (octet ∷ octets) old new) (called : is_called between.near ≡ false)
      (wants : wants_port uu.connection ≡ true) where
    b : IsBeside moment ahead between told server old reports w
    b = t.beside

    abbrev all : List ℕ
    all = octet ∷ octets

    abbrev rest : List ℕ
    rest = new.unheard ++ between.control.to_client

    r : Rested w
    r = rested moment ahead between told server old reports w b serves before

    queue : w.control_to_client ≡ all ++ rest
    queue = b.to_client ∙ ap (λ a. a ++ between.control.to_client) did.next ∙ append_assoc all new.unheard between.control.to_client

    is : uu ≡ near.hears v all
    is = (did.hears.0.0.0 calm).0 ∙ ap (λ o. near.hears v o) (ap (take (length all)) did.next ∙ take_front all new.unheard)

    same : HearsAlike all v
    same = hears_alike all v

    heard : (octets : List ℕ) → data_closed (near.hears w.near octets) ≡ data_closed (near.hears (taken v) octets)
    heard octets = ap (λ n. data_closed (near.hears n octets)) b.near ∙ hears_blind octets (taken v)

    taken_is : data_closed (taken (near.hears w.near all)) ≡ data_closed (taken uu)
    taken_is = ap taken (heard all) ∙ ap data_closed (same.view ∙ ap taken (sym is))

    first : take (length all) w.control_to_client ≡ all
    first = ap (take (length all)) queue ∙ take_front all rest

    enough : (k : ℕ) → k < length all → k ≤ length old.unheard
    enough k less = subst (λ a. k ≤ length a) (sym did.next) (omega (arith, less, length-append all new.unheard))

    may : (k : ℕ) → k < length all → near.may_hear (near.hears w.near (take k w.control_to_client)) ≡ true
    may k less =
        ap (λ q. near.may_hear (near.hears w.near (take k q))) b.to_client
        ∙ ap (λ q. near.may_hear (near.hears w.near q)) (take-append-le k old.unheard between.control.to_client (enough k less))
        ∙ ap near.may_hear (heard (take k old.unheard))
        ∙ (hears_alike (take k old.unheard) v).may ∙ (did.hears.0.0.0 calm).1 k less

    pushed_near : near.hears w.near (take (length all) w.control_to_client) ≡ near.hears w.near all
    pushed_near = ap (near.hears w.near) first

    wants_there : wants_port (near.hears w.near (take (length all) w.control_to_client)).connection ≡ true
    wants_there = ap (λ (n : Near). wants_port n.connection) (pushed_near) ∙ ap (λ (n : Near). wants_port n.connection) taken_is ∙ wants

    a : Asks (pushed read ControlToClient (length all) w)
    a = hears_asks read reads from begun puts w (length all) runs b.control b.unready wants_there

    abbrev n : Near
    n = near.hears w.near all

    form : n ≡ busy (Doing a.op Steps.Listen) Data.ListenWanted n
    form = sym pushed_near ∙ a.near ∙ ap (busy (Doing a.op Steps.Listen) Data.ListenWanted) pushed_near

    -- the drive's holds the same but for a close
    busy_then : is_busy (taken uu) ≡ true
    busy_then = ap is_busy (sym taken_is) ∙ ap (λ m. is_busy (taken m)) form

    near_is : n ≡ data_closed uu
    near_is = form ∙ ap (λ m. data_closed (taken m)) (sym form) ∙ taken_is ∙ ap data_closed (busy_same uu busy_then)

    none_then : option_to_list (report_of uu) ≡ []
    none_then = ap (λ m. option_to_list (report_of m)) (sym near_is) ∙ ap (λ m. option_to_list (report_of m)) form

    none_before : option_to_list (report_of v) ≡ []
    none_before =
        front_empty (option_to_list (report_of v)) (option_to_list (report_of (near.hears (taken v) all)))
        (same.report ∙ ap (λ m. option_to_list (report_of m)) (sym is) ∙ none_then)

    abbrev now : World
    now = record w { near = n; control_to_client = rest; taken = all }

    unwritten : new.owner.channel.unwritten ≡ old.owner.channel.unwritten
    unwritten = ap (λ (l : Channel). l.unwritten) did.hears.1

    untold : new.owner.channel.untold ≡ old.owner.channel.untold
    untold = ap (λ (l : Channel). l.untold) did.hears.1

    asking : IsAsking read begun moment ahead between told server new (reports ++ []) now a.op
    asking = record {
      fits = b.fits;
      near = near_is;
      form = form;
      far = b.far;
      far_open = r.far_open;
      none_asked = r.none_asked;
      link = a.link;
      to_server = b.to_server;
      to_client = refl;
      rising = b.rising ∙ ap (λ o. server.owner.channel.untold ++ (between.data_ways.to_server ++ o)) (sym unwritten);
      falling = λ e. b.falling (ap is_taking (sym did.hears.1) ∙ e)
          ∙ ap (λ o. o ++ (between.data_ways.to_client ++ server.owner.channel.unwritten)) (sym untold);
      listens = b.listens;
      reported = b.reported ∙ ap (λ o. reports ++ o) none_before;
      control = b.control;
      cutoff = b.cutoff;
      quiet = a.far_owed;
      holds = t.holds;
      comes = t.comes;
      serves = t.serves;
      takes = record { bare = λ e. untold ∙ t.takes.bare (ap (λ (l : Channel). l.stands) (sym did.hears.1) ∙ e) };
      gives = record {
        spare = λ e. unwritten ∙ t.gives.spare e;
        bare = λ e. unwritten ∙ t.gives.bare (ap (λ (l : Channel). l.stands) (sym did.hears.1) ∙ e);
      };
      twin = λ e. heard_too read reads begun a.op octet octets rest w (t.twin e) r queue may form;
    }

    pub heard_tells : Tells read server new reports w [] begun between told
    heard_tells = record {
      port = port_at w.listens;
      port_is = port_told read begun moment ahead between told server new (reports ++ []) now a.op asking;
      is_told = record {
        op = a.op;
        view = sym near_is ∙ form ∙ ap (busy (Doing a.op Steps.Listen) Data.ListenWanted) near_is;
        owed = ap (λ (m : Near). m.owed) (sym near_is) ∙ ap (λ (m : Near). m.owed) (sym pushed_near) ∙ a.owed;
        empty = sym (ap (drop (length all)) queue ∙ drop_front all rest) ∙ a.to_client;
        called = called;
      };
      goes = record {
        world = settled (near_listens now);
        leads = near_hears_to read octet octets rest w (settled (near_listens now)) queue may (asks_told now a.op form r.runs);
        moment = moment;
        ahead = ahead;
        marked = told_marks read begun moment ahead between told server new (reports ++ []) now a.op asking;
        together = tells read begun moment ahead between told server new (reports ++ []) now a.op asking;
      };
    }
