-- Two drives that put and fetch files over data connections that either dials, as a list of a world's events: action by action.
use Rattle.std.proofs.Common.{◌≡◌, ℕ, Bool, true, true≢false, List, [], ◌∷◌, ◌++◌, Option, option_to_list, refl, sym, ap, subst, ◌∙◌, append-nil}
use Rattle.ftp_ports.specs.Asking.{Reset}
use Rattle.ftp_ports.specs.Actions.{Action, Done, Led as HaveLed, Other, Stand}
use Rattle.ftp_ports.specs.Machine.{Aside, Left, Listening}
use Rattle.ftp_client_driver.specs.Side.{Starting, client_side}
use Rattle.ftp_endpoint.specs.declared.endpoint.Endpoint.{Endpoint}
use Rattle.ftp_ends.specs.declared.link.Wants.TheVariants as Want
use Rattle.ftp_client_model.specs.Calls as near
use Rattle.ftp_client_model.specs.Calls.{accepted, data_closed, is_sound, listening}
use Rattle.ftp_client_model.specs.View.{Doing, Flow, Idle, Job, Told as HasTold, Transferring, View as Near, Waiting}
use Rattle.ftp_client_model.specs.declared.client.ClientLink.TheVariants as Data
use Rattle.ftp_client_model.specs.declared.client.Replied.TheVariants as Replies
use Rattle.ftp_client_model.specs.declared.client.Step.TheVariants as Steps
use Rattle.ftp_operation.specs.declared.op.Op.{Op}
use Rattle.laws_dialogues.specs.Fetches.{busy}
use Rattle.ftp_operation.specs.Answer.{Said}
use Rattle.ftp_server_driver.specs.alone.Side.{server_side}
use Rattle.ftp_server_model.specs.Machine.{IsReading, Reading}
use Rattle.laws_world.specs.Agreement.{Order}
use Rattle.laws_world.specs.Claims.{Beginning, IsFair, state_of, world_of}
use Rattle.laws_world.specs.World.{Mark, World}
use Rattle.laws_agreement.specs.Over.{OverRuns}
use Rattle.laws_drivers.specs.control.Alone.{ServerIsCalm, reports_of}
use Rattle.laws_drivers.specs.events.Moments.{AreMoments, IsToldAt, begun_at, begun_by, last_of, number_in}
use Rattle.laws_drivers.specs.control.Between.{Between, CanTurn, Client, Far as TheServer, Has_lost, IsStanding, Server, Turn, nothing_yet, with_hold}
use Rattle.laws_drivers.specs.control.Touches.{touch_in}
use Rattle.laws_drivers.specs.control.Claims.{Begins}
use Rattle.laws_drivers.proofs.control.Taken.{taken, taken_wants}
use Rattle.laws_drivers.proofs.control.Worlds.{LeadsOn, leads_none, leads_then}
use Rattle.laws_drivers.proofs.world.Running.{all_runs}
use Rattle.laws_drivers.proofs.world.Known.{is_doing}
use Rattle.laws_drivers.proofs.events.Fresh.{Fresh}
use Rattle.laws_drivers.proofs.events.Holding.{unclosed}
use Rattle.laws_drivers.proofs.events.NearForms.{no_close}
use Rattle.laws_drivers.proofs.events.Plain.{Whatever}
use Rattle.laws_drivers.proofs.events.Stands.{ClientFetches as ClientRests, ServerServes, wants_port}
use Rattle.laws_transfers.specs.Ahead.{Ahead, Level}
use Rattle.laws_transfers.proofs.Beside.{Together}
use Rattle.laws_transfers.proofs.Known.{AreCarried, Known, both_carried}
use Rattle.laws_transfers.proofs.Called.{BreaksNone}
use Rattle.laws_transfers.proofs.Lost.{with_lost}
use Rattle.laws_transfers.proofs.Running.{world_known}
use Rattle.laws_transfers.proofs.Simulating.{ResetsNone, doing_same, orders_after, orders_are}
use Rattle.laws_transfers.proofs.Reaching.{begins_together}
use Rattle.laws_active.specs.Actions.{ArePortsOfTurns, listened_in_turns}
use Rattle.laws_active.specs.Lead.{Even, Joined, Told}
use Rattle.laws_active.specs.Refusals.{ClientTriesAlong, ClientTriesEitherWay, Gain, Heard, Led, ServerTries, gained_by, has_failed, is_heard, marked_by_turn, marks_in_turns}
use Rattle.laws_active.proofs.Accepting.{joins}
use Rattle.laws_active.proofs.Joining.{joins_form}
use Rattle.laws_active.proofs.ClientLed as by_client
use Rattle.laws_active.proofs.ClientTries.{client_tries}
use Rattle.laws_active.proofs.Calls.{Opens}
use Rattle.laws_active.proofs.Gaining.{GainSo, GainsTo, gained_between, gained_client, gained_told}
use Rattle.laws_active.proofs.Hearing.{listening_never}
use Rattle.laws_active.proofs.Leading.{Comes, Stays, Waits}
use Rattle.laws_active.proofs.Leads.{led_fetches}
use Rattle.laws_active.proofs.ServerGoes as by_server
use Rattle.laws_active.proofs.ServerTries.{resets_tried, server_tries}
use Rattle.laws_active.proofs.Trying.{tries_carrying, tries_fresh}
use Rattle.laws_active.proofs.JoinedActions.{joined_never}
use Rattle.laws_active.proofs.Keeping.{IsCarrying, IsKeeping, IsKeepingJob}
use Rattle.laws_active.proofs.Unsent.{StaysFresh, called_unaborted, far_fresh}

-- ---- what was begun

-- an action begins such an operation, or nothing
by_carried : (moment : ℕ) (action : Action client_side) (old new : client_side.End) → ClientTriesEitherWay action old new → AreCarried (begun_by moment action)
by_carried moment (Other (Aside (Starting op))) old new is = (is.0.0, tt)
by_carried moment action old new is = tt

-- so all actions do
pub in_carried : (moments : ℕ → ℕ) (actions : List (Action client_side)) (start now : Stand client_side) (led : HaveLed actions start now)
    → ClientTriesAlong actions start now led → AreCarried (begun_at moments actions)
in_carried moments [] start now led asks = tt
in_carried moments (action ∷ before) start now led asks =
    both_carried (begun_at moments before) (begun_by (moments (number_in before)) action) (in_carried moments before start led.0 led.1 asks.0)
    (by_carried (moments (number_in before)) action led.0.owner now.owner asks.1)

-- ---- ports

-- those of the actions before one are those of a world too, and it is told the next one
pub server_ports : (action : Action server_side) (before : List Turn) → ArePortsOfTurns (Server action ∷ before)
    → ArePortsOfTurns before × by_server.IsNext action (listened_in_turns before)
server_ports (Other (Listening port)) before ports = ports
server_ports action before ports = (ports, tt)

pub client_ports : (action : Action client_side) (before : List Turn) → ArePortsOfTurns (Client action ∷ before)
    → ArePortsOfTurns before × by_client.IsNext action (listened_in_turns before)
client_ports (Other (Listening port)) before ports = ports
client_ports action before ports = (ports, tt)

pub server_listened : (action : Action server_side) (before : List Turn) → by_server.told_by action (listened_in_turns before) ≡ listened_in_turns (Server action ∷ before)
server_listened (Other (Listening port)) before = refl
server_listened action before = refl

pub client_listened : (action : Action client_side) (before : List Turn) → by_client.told_by action (listened_in_turns before) ≡ listened_in_turns (Client action ∷ before)
client_listened (Other (Listening port)) before = refl
client_listened action before = refl

-- ---- what a client that is ahead holds

pub view_is : (gain : Gain) (c : Stand client_side) → (gained_client gain c).owner.end.view ≡ gained_by gain c.owner.end.view
view_is (Led Even) c = refl
view_is (Led (Told port)) c = refl
view_is (Led (Joined octets)) c = refl
view_is (Heard octets) c = refl

told_none : (port : ℕ) (op : Op (List ℕ)) (n : Near)
    → option_to_list (near.report_of (listening port (busy (Doing op Steps.Listen) Data.ListenWanted n))) ≡ []
unfolding listening
told_none port op n = refl

joined_none : (d : Near) (octets : List ℕ) → Stays d octets
    → option_to_list (near.report_of (accepted true (near.hears d octets))) ≡ option_to_list (near.report_of d)
joined_none d octets (Comes op flow few port octet more is o) =
    ap (λ n. option_to_list (near.report_of n)) (ap (accepted true) o.whole ∙ joins op Replies.Begun flow few refl port (near.hears d octets))
    ∙ sym (ap (λ n. option_to_list (near.report_of n)) (o.fronts [] more octet (sym is)).0)
joined_none d octets (Waits is a) =
    ap (λ n. option_to_list (near.report_of n)) (ap (λ l. accepted true (near.hears d l)) is ∙ joins_form d a)
    ∙ sym (ap (λ n. option_to_list (near.report_of n)) a.is)

hearing_none : (d : Near) (octets : List ℕ) (op : Op (List ℕ)) (flow : Flow) (port octet : ℕ) (others : List ℕ) → octets ≡ octet ∷ others
    → Opens op flow port d octets → option_to_list (near.report_of (near.hears d octets)) ≡ option_to_list (near.report_of d)
hearing_none d octets op flow port octet others some o =
    ap (λ n. option_to_list (near.report_of n)) o.whole ∙ sym (ap (λ n. option_to_list (near.report_of n)) (o.fronts [] others octet (sym some)).0)

-- its report is the drive's
pub gained_said : (gain : Gain) (more : List ℕ) (between : Between) (told : ℕ) (server : Stand server_side) (c : Stand client_side)
    → GainSo gain more between told server c
    → option_to_list (near.report_of (gained_client gain c).owner.end.view) ≡ option_to_list (near.report_of c.owner.end.view)
gained_said (Led Even) more between told server c so = refl
gained_said (Led (Told port)) more between told server c so =
    ap (λ n. option_to_list (near.report_of (listening port n))) so.0.view ∙ told_none port so.0.op c.owner.end.view
    ∙ sym (ap (λ n. option_to_list (near.report_of n)) so.0.view)
gained_said (Led (Joined octets)) more between told server c so =
    joined_none (data_closed c.owner.end.view) octets so.0.stays.0
gained_said (Heard octets) more between told server c so =
    let h = so.0 in hearing_none (data_closed c.owner.end.view) octets h.op h.flow h.port h.octet h.others h.some h.opens

-- how it stands
pub gained_fetches : (gain : Gain) (more : List ℕ) (between : Between) (told : ℕ) (server : Stand server_side) (c : Stand client_side)
    → GainSo gain more between told server c → ClientRests (gained_client gain c).owner
gained_fetches (Led lead) more between told server c so = led_fetches lead more between told server c so
gained_fetches (Heard octets) more between told server c so = record {
  sound = ap (λ (n : Near). is_sound n.standing) so.0.opens.whole;
  dials = ap (λ (n : Near). wants_port n.connection) so.0.opens.whole;
}

module _ (read : Reading) (reads : IsReading read) (moments : ℕ → ℕ) (timed : AreMoments moments) (b : Beginning) (fair : IsFair b) where
  -- after an order of actions, a world is beside both drives, its client ahead so, and its marks are those of dials that failed
  pub record Reached (begun : List Order) (between : Between) (turns : List Turn) (server : Stand server_side) (client : Stand client_side)
      (reports : List Said) : Type 0 where
    pub world : World
    pub leads : LeadsOn read begun (world_of b) world
    pub last : ℕ
    pub ahead : Ahead
    pub gain : Gain
    pub more : List ℕ
    pub so : GainSo gain more between (listened_in_turns turns) server client
    pub together : Together read begun last ahead (gained_between gain more between) (gained_told gain (listened_in_turns turns)) server (gained_client gain client)
        reports world
    pub serves : ServerServes server.owner
    pub keeping : IsCarrying client.owner.end.view
    pub fresh : StaysFresh between client
    pub marked : world.marks ≡ marks_in_turns turns
    pub heard : is_heard gain ≡ true → has_failed turns ≡ true

  -- how a client that is ahead stands
  pub asks : (begun : List Order) (between : Between) (turns : List Turn) (server : Stand server_side) (client : Stand client_side) (reports : List Said)
      → (o : Reached begun between turns server client reports) → ClientRests (gained_client o.gain client).owner
  asks begun between turns server client reports o = gained_fetches o.gain o.more between (listened_in_turns turns) server client o.so

  pub runs : (begun : List Order) (between : Between) (turns : List Turn) (server : Stand server_side) (client : Stand client_side) (reports : List Said)
      → (o : Reached begun between turns server client reports) → OverRuns read (state_of b) begun o.world
  runs begun between turns server client reports o = all_runs read reads b fair o.leads.events begun o.world o.leads.timed o.leads.leads

  -- as a session begins
  pub starts_so : (server : Stand server_side) (client : Stand client_side) → Begins b server client → server.owner.channel.untold ≡ []
      → client.owner.channel.unwritten ≡ [] → server.owner.channel.unwritten ≡ [] → client.owner.channel.untold ≡ [] → Reached [] nothing_yet [] server client []
  starts_so server client begins untold unwritten far_unwritten near_untold = record {
    world = world_of b;
    leads = leads_none read (world_of b);
    last = 0;
    ahead = Level;
    gain = Led Even;
    more = [];
    so = (
      refl,
      record {
        sound = ap (λ n. is_sound n.standing) begins.client_view;
        dials = ap (λ n. wants_port n.connection) begins.client_view;
      },
    );
    together = begins_together read b server client begins untold unwritten far_unwritten near_untold;
    serves = record { running = ap (λ f. f.session.life) begins.server_view; none_waits = ap (λ f. f.waiting) begins.server_view };
    keeping = subst IsCarrying (sym begins.client_view) (record { job = tt; run = refl });
    fresh = λ e. absurd (true≢false (sym e));
    marked = refl;
    heard = λ e. absurd (true≢false (sym e));
  }

  -- ---- what is known of it

  module _ (actions : List (Action client_side)) (puts : AreCarried (begun_at moments actions)) (p : Between) (turns : List Turn) (server : Stand server_side)
      (client : Stand client_side) (reports : List Said) (o : Reached (begun_at moments actions) p turns server client reports) where
    abbrev begun : List Order
    begun = begun_at moments actions

    abbrev v : Near
    v = client.owner.end.view

    pub known : Known o.world
    known =
        world_known read reads (state_of b) begun puts o.world (runs begun p turns server client reports o) o.together.beside.control o.together.beside.unready

    -- one at a step of its operation took no octets
    step_keeps : is_doing v.job ≡ true → IsKeeping Fresh v
    step_keeps doing = record { job = by v.job o.keeping.job doing; run = o.keeping.run }
      where
        by : (job : Job) → IsKeepingJob Whatever job → is_doing job ≡ true → IsKeepingJob Fresh job
        by (Doing op step) some e = some
        by Idle some e = absurd (true≢false (sym e))
        by (Waiting op) some e = absurd (true≢false (sym e))
        by (HasTold said) some e = absurd (true≢false (sym e))
        by (Transferring op transfer) some e = absurd (true≢false (sym e))

    -- as one that dials is
    pub dials_keep : (endpoint : Endpoint) → near.wants v ≡ Want.Connect endpoint → IsKeeping Fresh v
    dials_keep endpoint wants = by o.gain o.more o.so o.together
      where
        by : (gain : Gain) (more : List ℕ) → GainSo gain more p (listened_in_turns turns) server client
            → Together read begun o.last o.ahead (gained_between gain more p) (gained_told gain (listened_in_turns turns)) server (gained_client gain client) reports
            o.world → IsKeeping Fresh v
        by (Led Even) more so t =
            let near_is : o.world.near ≡ taken v = t.beside.near ∙ unclosed (taken v) (no_close v (Want.Connect endpoint) wants refl) in
            step_keeps (sym (doing_same v.job) ∙ ap (λ (n : Near). is_doing n.job) (sym near_is)
            ∙ (known.dials endpoint (ap near.wants near_is ∙ taken_wants v ∙ wants)).doing)
        by (Led (Told port)) more so t = step_keeps (ap (λ (n : Near). is_doing n.job) so.0.view)
        by (Led (Joined octets)) more so t =
            absurd (joined_never read begun server client client reports o.world octets more p p (listened_in_turns turns) so o.last o.ahead t (Want.Connect endpoint)
            wants refl)
        by (Heard octets) more so t = listening_never so.0.op so.0.flow so.0.port v (so.0.opens.fronts [] so.0.others so.0.octet (sym so.0.some)).0
            (Want.Connect endpoint) wants refl

  -- ---- an action

  -- where a world goes on with the server
  far_reached : (actions : List (Action client_side)) (p q : Between) (told : ℕ) (before turns : List Turn) (old new : Stand server_side)
      (client : Stand client_side) (reports : List Said) (marks : List (List Mark)) (failed : Bool)
      → (o : Reached (begun_at moments actions) p before old client reports)
      → GainsTo read [] (begun_at moments actions) q told new client reports marks failed o.world × ServerServes new.owner → told ≡ listened_in_turns turns
      → marks ≡ marks_in_turns turns → failed ≡ has_failed turns → StaysFresh q client → Reached (begun_at moments actions) q turns new client reports
  far_reached actions p q told before turns old new client reports marks failed o went told_is marks_are failed_is fresh =
      let begun : List Order = begun_at moments actions in
      let g = subst (λ n. GainsTo read [] begun q n new client reports marks failed o.world) told_is went.0 in
      record {
        world = g.goes.world;
        leads = subst (λ l. LeadsOn read l (world_of b) g.goes.world) (append-nil begun)
            (leads_then read begun [] (world_of b) o.world g.goes.world o.leads g.goes.leads);
        last = g.goes.moment;
        ahead = g.goes.ahead;
        gain = g.gain;
        more = g.left;
        so = g.so;
        together = g.goes.together;
        serves = went.1;
        keeping = o.keeping;
        fresh = fresh;
        marked = g.goes.marked ∙ marks_are;
        heard = λ e. sym failed_is ∙ g.heard e;
      }

  -- of the server, but a reset
  pub server_reaches : (action : Action server_side) → ResetsNone action → (old new : Stand server_side) (actions : List (Action client_side)) (before : List Turn)
      (p q : Between) (client : Stand client_side) (reports : List Said) → AreCarried (begun_at moments actions) → ServerTries action old.owner new.owner
      → by_server.IsNext action (listened_in_turns before) → CanTurn (Server action) p q → (did : Done action old new)
      → IsToldAt action old new did (last_of moments (number_in actions)) → Reached (begun_at moments actions) p before old client reports
      → Reached (begun_at moments actions) q (Server action ∷ before) new client reports
  server_reaches action kept old new actions before p q client reports puts is next can did at o =
      let begun : List Order = begun_at moments actions in
      let told : ℕ = listened_in_turns before in
      let went = server_tries read reads (state_of b) moments actions puts old new client reports o.world o.serves
      (runs begun p before old client reports o) o.last o.ahead p q told before (called_unaborted p client o.fresh) action kept is next can did at o.gain o.more
      o.so o.together (asks begun p before old client reports o) o.heard in
      far_reached actions p q (by_server.told_by action told) before (Server action ∷ before) old new client reports (marked_by_turn (Server action) o.world.marks)
      (has_failed (Server action ∷ before)) o went (server_listened action before) (ap (marked_by_turn (Server action)) o.marked) refl
      (far_fresh p q client o.fresh (touch_in action) can)

  -- a reset: what was not written is on its way still there
  pub reset_reaches : (left written : Option (List ℕ)) (old new : Stand server_side) (actions : List (Action client_side)) (before : List Turn)
      (p : Between) (client : Stand client_side) (reports : List Said) → AreCarried (begun_at moments actions) → ServerIsCalm old.owner new.owner
      → IsStanding p.far → Done (Other (Left (Reset left written))) old new → Reached (begun_at moments actions) p before old client reports
      → Reached (begun_at moments actions) (with_lost old.owner.channel.unwritten (with_hold TheServer Has_lost p))
      (Server (Other (Left (Reset left written))) ∷ before) new client reports
  reset_reaches left written old new actions before p client reports puts calm stands did o =
      let begun : List Order = begun_at moments actions in
      let told : ℕ = listened_in_turns before in
      let went = resets_tried read reads (state_of b) moments actions puts old new client reports o.world o.serves
      (runs begun p before old client reports o) o.last o.ahead p p told before (called_unaborted p client o.fresh) left written calm did stands o.gain o.more
      o.so o.together (asks begun p before old client reports o) o.heard in
      far_reached actions p (with_lost old.owner.channel.unwritten (with_hold TheServer Has_lost p)) told before
      (Server (Other (Left (Reset left written))) ∷ before) old new client reports o.world.marks (has_failed before) o went refl o.marked refl
      (λ e. absurd (true≢false (sym e)))

  -- of the client, but that it is told of a break
  pub client_reaches : (action : Action client_side) → BreaksNone action → (old new : Stand client_side) (actions : List (Action client_side)) (before : List Turn)
      (p q : Between) (server : Stand server_side) (reports : List Said) → AreCarried (begun_at moments actions) → ClientTriesEitherWay action old.owner new.owner
      → by_client.IsNext action (listened_in_turns before) → CanTurn (Client action) p q → Done action old new
      → Reached (begun_at moments actions) p before server old reports
      → Reached (begun_at moments actions ++ begun_by (moments (number_in actions)) action) q (Client action ∷ before) server new (reports ++ reports_of action)
  client_reaches action unbroken old new actions before p q server reports puts is next can did o =
      let begun : List Order = begun_at moments actions in
      let told : ℕ = listened_in_turns before in
      let more : List Order = begun_by (moments (number_in actions)) action in
      let g = subst (λ n. GainsTo read more (orders_after (moments (number_in actions)) action begun) q n server new (reports ++ reports_of action)
      (marked_by_turn (Client action) o.world.marks) (has_failed before) o.world) (client_listened action before)
      (client_tries read reads (state_of b) moments timed actions puts server old new reports o.world o.serves (runs begun p before server old reports o)
      o.keeping.run o.last o.ahead p q told (has_failed before) action unbroken is next can did o.gain o.more o.so o.together
      (asks begun p before server old reports o) o.heard) in
      record {
        world = g.goes.world;
        leads = leads_then read begun more (world_of b) o.world g.goes.world o.leads g.goes.leads;
        last = g.goes.moment;
        ahead = g.goes.ahead;
        gain = g.gain;
        more = g.left;
        so = g.so;
        together = subst (λ l. Together read l g.goes.moment g.goes.ahead (gained_between g.gain g.left q)
            (gained_told g.gain (listened_in_turns (Client action ∷ before))) server (gained_client g.gain new) (reports ++ reports_of action) g.goes.world)
            (orders_are (moments (number_in actions)) action begun) g.goes.together;
        serves = o.serves;
        keeping = tries_carrying action unbroken old new is did o.keeping;
        fresh = tries_fresh action unbroken p q old new is o.keeping o.fresh (dials_keep actions puts p before server old reports o) did can;
        marked = g.goes.marked ∙ ap (marked_by_turn (Client action)) o.marked;
        heard = g.heard;
      }
