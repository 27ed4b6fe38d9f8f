-- Two drives that put, fetch and peek over data connections that either dials, as a list of a world's events: one action after another; a world sees what lies
-- between, what a reset dropped, and a client that was told of a break as one that was told of an end.
use Rattle.std.proofs.Common.{◌≡◌, ◌⊎◌, inl, inr, ℕ, true, false, true≢false, List, [], ◌∷◌, ◌++◌, option_to_list, refl, sym, ap, subst, ◌∙◌, append-nil}
use Rattle.ftp_ports.specs.Asking.{Connected, NotConnected, Reset}
use Rattle.ftp_ports.specs.Actions.{Action, Done, Led as HaveLed, Other, Stand}
use Rattle.ftp_ports.specs.Channel.{Channel}
use Rattle.ftp_ports.specs.Machine.{Break, Held, Left, Opened, Refused}
use Rattle.ftp_ends.specs.declared.link.Wants.TheVariants as Want
use Rattle.ftp_client_driver.specs.Side.{client_side}
use Rattle.ftp_client_model.specs.Calls as near
use Rattle.ftp_client_model.specs.View.{View as Near}
use Rattle.ftp_operation.specs.Answer.{Said}
use Rattle.ftp_server_driver.specs.alone.Side.{Timed, server_side}
use Rattle.ftp_server_model.specs.Machine.{IsReading, Reading}
use Rattle.laws_world.specs.Agreement.{Order}
use Rattle.laws_world.specs.Claims.{AreUnmarked, Beginning, IsFair, state_of, world_of}
use Rattle.laws_drivers.specs.control.Alone.{reports_of, reports_in}
use Rattle.laws_drivers.specs.control.Between.{Between, CanTurn, Client, Far as TheServer, Happened, Has_lost, IsStanding, Server, Turn, client_actions, nothing_yet, server_actions, with_hold}
use Rattle.laws_drivers.specs.control.Claims.{Begins}
use Rattle.laws_drivers.specs.control.Touches.{touch_in}
use Rattle.laws_drivers.proofs.control.Taken.{reports_is, taken}
use Rattle.laws_drivers.proofs.control.Worlds.{leads_then}
use Rattle.laws_drivers.proofs.world.Known.{is_doing}
use Rattle.laws_drivers.proofs.events.Holding.{both, is_called, is_had, is_sound}
use Rattle.laws_drivers.proofs.events.Plain.{Whatever}
use Rattle.laws_drivers.proofs.events.Stands.{ClientFetches as ClientRests, wants_port}
use Rattle.laws_transfers.specs.Claims.{IsNear}
use Rattle.laws_transfers.specs.Actions as passive
use Rattle.laws_transfers.specs.Actions.{AreResets}
use Rattle.laws_drivers.specs.events.Moments.{AreMoments, AreToldAt, IsToldAt, begun_at, last_of, number_in}
use Rattle.laws_transfers.proofs.Beside.{Together}
use Rattle.laws_transfers.proofs.Broke.{IsBroke, IsShown, with_view}
use Rattle.laws_transfers.proofs.Called.{BreaksNone}
use Rattle.laws_transfers.proofs.ClientBroken.{Breaks, client_breaks, with_none}
use Rattle.laws_transfers.proofs.EitherEnd.{AreAlike}
use Rattle.laws_transfers.proofs.Known.{AreCarried}
use Rattle.laws_transfers.proofs.Lost.{IsSeen, far_done, is_lost, near_done, resets_losing, seen_itself, with_lost}
use Rattle.laws_transfers.proofs.Reaching.{IsResetFor, reset_falls, reset_for, resets_before, serving_near, shown_near, shown_said, shown_still}
use Rattle.laws_active.specs.Claims.{EitherAreOfWorlds}
use Rattle.laws_active.specs.Actions.{ArePortsOfTurns, listened_in_turns}
use Rattle.laws_active.specs.Lead.{Even, Joined, Told}
use Rattle.laws_active.specs.Refusals.{ClientTriesAlong, ClientTriesEitherWay, Gain, Heard, Led, ServerTries, ServerTriesAlong, TriesAreOfWorldsEitherWay, gained_by, has_failed}
use Rattle.laws_active.proofs.Broke.{broke_does}
use Rattle.laws_active.proofs.ClientLed as by_client
use Rattle.laws_active.proofs.JoinedActions.{joined_never}
use Rattle.laws_active.proofs.Keeping.{ended_kept, whatever_kept}
use Rattle.laws_active.proofs.Gaining.{GainSo, IsHearing, gained_between, gained_client, gained_told}
use Rattle.laws_active.proofs.Hearing.{listening_never}
use Rattle.laws_active.proofs.Leading.{Comes, Stays, Waits}
use Rattle.laws_active.proofs.LedActions.{asks_port, is_asking_port}
use Rattle.laws_active.proofs.Portless.{ended_portless}
use Rattle.laws_active.proofs.Ports.{is_ported}
use Rattle.laws_active.proofs.ServerGoes as by_server
use Rattle.laws_active.proofs.Simulating.{Reached, asks, client_ports, client_reaches, gained_said, in_carried, known, reset_reaches, runs, server_ports, server_reaches, starts_so, view_is}
use Rattle.laws_active.proofs.Trying.{did_try, lead_of, none_failed, none_heard, none_marked}

-- ---- the client that a world sees

-- one to which the 150 is to come was told of no break
hearing_unbroken : (octets more : List ℕ) (seen : Between) (shown : Stand client_side) → IsHearing octets more seen shown → (client : Stand client_side)
    (between : Between) → (other : Near) × (shown ≡ with_view other client) × IsBroke between client other → ⊥
hearing_unbroken octets more seen shown h client between broke =
    true≢false (sym (ap (λ (n : Near). is_ported n.connection) (h.opens.fronts [] h.others h.octet (sym h.some)).0)
    ∙ ap (λ (c : Stand client_side). is_ported c.owner.end.view.connection) broke.1 ∙ ap (λ (n : Near). is_ported n.connection) broke.2.apart.other_is)

-- one that was told of a break, or of an end in its place, is not ahead
broke_even : (gain : Gain) (more : List ℕ) (between seen : Between) (told : ℕ) (server : Stand server_side) (client shown : Stand client_side)
    → GainSo gain more seen told server shown → IsSeen between seen → (shows : IsShown between client shown) → (shown ≡ client) ⊎ (gain ≡ Led Even)
broke_even gain more between seen told server client shown so is_seen (inl same) = inl same
broke_even (Led Even) more between seen told server client shown so is_seen (inr broke) = inr refl
broke_even (Led (Told port)) more between seen told server client shown so is_seen (inr broke) =
    let other : Near = broke.0 in
    let is : near.data_closed other ≡ near.data_closed shown.owner.end.view = ap (λ (c : Stand client_side). near.data_closed c.owner.end.view) (sym broke.1) in
    absurd (true≢false (sym (ap (λ (n : Near). is_doing n.job) (is ∙ so.0.view)) ∙ ap (λ (n : Near). is_doing n.job) broke.2.apart.other_is))
broke_even (Led (Joined octets)) more between seen told server client shown so is_seen (inr broke) =
    absurd (true≢false (sym broke.2.near ∙ ap is_lost (sym is_seen.near) ∙ ap is_lost so.0.called))
broke_even (Heard octets) more between seen told server client shown so is_seen (inr broke) =
    absurd (hearing_unbroken octets more seen shown so.0 client between broke)

-- as a world holds it, it is the client that is ahead, or was told of an end where that was told of a break
gained_near : (gain : Gain) (more : List ℕ) (between seen : Between) (told : ℕ) (server : Stand server_side) (client shown : Stand client_side)
    → GainSo gain more seen told server shown → IsSeen between seen → IsShown between client shown → (there : Near)
    → there ≡ near.data_closed (taken (gained_by gain shown.owner.end.view))
    → IsNear there (near.data_closed (near.reports (gained_by gain client.owner.end.view)))
gained_near gain more between seen told server client shown so is_seen shows there is =
    by (broke_even gain more between seen told server client shown so is_seen shows)
  where
    by : (shown ≡ client) ⊎ (gain ≡ Led Even) → IsNear there (near.data_closed (near.reports (gained_by gain client.owner.end.view)))
    by (inl same) =
        inl (is ∙ ap (λ (c : Stand client_side). near.data_closed (taken (gained_by gain c.owner.end.view))) same
        ∙ ap near.data_closed (sym (reports_is (gained_by gain client.owner.end.view))))
    by (inr even) =
        subst (λ l. IsNear there (near.data_closed (near.reports (gained_by l client.owner.end.view)))) (sym even)
        (shown_near between client shown shows there (is ∙ ap (λ l. near.data_closed (taken (gained_by l shown.owner.end.view))) even))

-- the client that it sees is the same after an action of the server but a dial
serving_keeps : (action : Action server_side) (at : Held Timed) → passive.IsServing action at → (p q : Between) (client shown : Stand client_side)
    → CanTurn (Server action) p q → IsShown p client shown → IsShown q client shown
serving_keeps action at is p q client shown can shows = shown_still p q client shown (serving_near action at is p q can) shows

-- one that was dialled and did not accept yet is at its port
stays_ported : (v : Near) (octets : List ℕ) → Stays v octets → is_ported v.connection ≡ true
stays_ported v octets (Comes op flow few port octet more is o) = ap (λ (n : Near). is_ported n.connection) (o.fronts [] more octet (sym is)).0
stays_ported v octets (Waits is a) = ap (λ (n : Near). is_ported n.connection) a.is

-- so one that a server dials was told of no break
dialled_shows : (gain : Gain) (more : List ℕ) (p q seen : Between) (told : ℕ) (server : Stand server_side) (client shown : Stand client_side)
    → GainSo gain more seen told server shown → is_called seen.near ≡ true → IsShown p client shown → IsShown q client shown
dialled_shows gain more p q seen told server client shown so called (inl same) = inl same
dialled_shows (Led Even) more p q seen told server client shown so called (inr broke) = absurd (both called so.0)
dialled_shows (Led (Told port)) more p q seen told server client shown so called (inr broke) = absurd (both called so.0.called)
dialled_shows (Heard octets) more p q seen told server client shown so called (inr broke) = absurd (both called so.0.called)
dialled_shows (Led (Joined octets)) more p q seen told server client shown so called (inr broke) =
    absurd (true≢false (sym (stays_ported (near.data_closed shown.owner.end.view) octets so.0.stays.0)
    ∙ ap (λ (c : Stand client_side). is_ported c.owner.end.view.connection) broke.1 ∙ ap (λ (n : Near). is_ported n.connection) broke.2.apart.other_is))

module _ (read : Reading) (reads : IsReading read) (moments : ℕ → ℕ) (timed : AreMoments moments) (b : Beginning) (fair : IsFair b) where
  abbrev At : List Order → Between → List Turn → Stand server_side → Stand client_side → List Said → Type 0
  At begun between turns server client reports = Reached read reads moments timed b fair begun between turns server client reports

  -- after an order of actions, a world is beside both drives, as it sees what lies between and the client
  pub record Seen (begun : List Order) (between : Between) (turns : List Turn) (server : Stand server_side) (client : Stand client_side)
      (reports : List Said) : Type 0 where
    pub seen : Between
    pub is_seen : IsSeen between seen
    pub shown : Stand client_side
    pub shows : IsShown between client shown
    pub reached : At begun seen turns server shown reports

  -- ---- an action of the server

  server_sees : (action : Action server_side) (old new : Stand server_side) (actions : List (Action client_side)) (before : List Turn) (p q : Between)
      (client : Stand client_side) (reports : List Said) → AreCarried (begun_at moments actions) → ServerTries action old.owner new.owner
      → by_server.IsNext action (listened_in_turns before) → CanTurn (Server action) p q → (did : Done action old new)
      → IsToldAt action old new did (last_of moments (number_in actions)) → Seen (begun_at moments actions) p before old client reports
      → Seen (begun_at moments actions) q (Server action ∷ before) new client reports
  server_sees (Other (Left (Reset left written))) old new actions before p q client reports puts is next can did told at =
      record {
        seen = with_lost old.owner.channel.unwritten (with_hold TheServer Has_lost at.seen);
        is_seen = resets_losing p q at.seen at.is_seen old.owner.channel.unwritten
            (λ e. at.reached.together.serves.spare (still_had at.reached.gain at.reached.more ∙ ap is_had at.is_seen.far ∙ e)) can;
        shown = at.shown;
        shows = shown_still p q client at.shown (ap (λ (m : Between). m.near) can.1) at.shows;
        reached = reset_reaches read reads moments timed b fair left written old new actions before at.seen at.shown reports puts is.1
            (subst IsStanding (sym at.is_seen.far) can.0) did at.reached;
      }
    where
      -- how the server stands to it is the same, whether the client is ahead or not
      still_had : (gain : Gain) (more : List ℕ) → is_had (gained_between gain more at.seen).far ≡ is_had at.seen.far
      still_had (Led Even) more = refl
      still_had (Led (Told port)) more = refl
      still_had (Led (Joined octets)) more = refl
      still_had (Heard octets) more = refl
  server_sees (Other (Opened host (Connected endpoint left written ∷ []) at_first so_far rest)) old new actions before p q client reports puts is next can did
      told at =
      let dial : Action server_side = Other (Opened host (Connected endpoint left written ∷ []) at_first so_far rest) in
      let there = far_done p q at.seen at.is_seen (touch_in dial) can in
      let went = server_reaches read reads moments timed b fair dial tt old new actions before at.seen there.after at.shown reports puts is next
      there.can did told at.reached in
      record {
        seen = there.after;
        is_seen = there.is_seen;
        shown = at.shown;
        shows = dialled_shows went.gain went.more p q there.after (listened_in_turns before) new client at.shown went.so
            (ap (λ (m : Between). is_called m.near) there.can.2) at.shows;
        reached = went;
      }
  server_sees (Other (Refused (NotConnected endpoint ∷ []))) old new actions before p q client reports puts is next can did told at =
      let denial : Action server_side = Other (Refused (NotConnected endpoint ∷ [])) in
      let there = far_done p q at.seen at.is_seen (touch_in denial) can in
      record {
        seen = there.after;
        is_seen = there.is_seen;
        shown = at.shown;
        shows = shown_still p q client at.shown (ap (λ (m : Between). m.near) can) at.shows;
        reached = server_reaches read reads moments timed b fair denial tt old new actions before at.seen there.after at.shown reports puts is next there.can did
            told at.reached;
      }
  server_sees (Other (Refused asked)) old new actions before p q client reports puts is next can did told at = absurd is.0
  server_sees action old new actions before p q client reports puts is next can did told at =
      let there = far_done p q at.seen at.is_seen (touch_in action) can in
      record {
        seen = there.after;
        is_seen = there.is_seen;
        shown = at.shown;
        shows = serving_keeps action old.owner is.0 p q client at.shown can at.shows;
        reached = server_reaches read reads moments timed b fair action tt old new actions before at.seen there.after at.shown reports puts is next there.can did
            told at.reached;
      }

  -- ---- an action of the client

  -- but that it is told of a break
  client_sees_on : (action : Action client_side) → BreaksNone action → (old new : Stand client_side) (actions : List (Action client_side)) (before : List Turn)
      (p q : Between) (server : Stand server_side) (reports : List Said) → AreCarried (begun_at moments actions) → ClientTriesEitherWay action old.owner new.owner
      → by_client.IsNext action (listened_in_turns before) → CanTurn (Client action) p q → Done action old new
      → Seen (begun_at moments actions) p before server old reports
      → Seen (begun_at moments (action ∷ actions)) q (Client action ∷ before) server new (reports ++ reports_of action)
  client_sees_on action unbroken old new actions before p q server reports puts is next can did at = by at.shows
    where
      by : IsShown p old at.shown → Seen (begun_at moments (action ∷ actions)) q (Client action ∷ before) server new (reports ++ reports_of action)
      by (inl same) =
          let there = near_done p q at.seen at.is_seen (touch_in action) can in
          record {
            seen = there.after;
            is_seen = there.is_seen;
            shown = new;
            shows = inl refl;
            reached = client_reaches read reads moments timed b fair action unbroken old new actions before at.seen there.after server reports puts is next
                there.can did (subst (λ c. At (begun_at moments actions) at.seen before server c reports) same at.reached);
          }
      by (inr broke) =
          let there = near_done p q at.seen at.is_seen (touch_in action) can in
          let so = broke_does p q old new broke.0 broke.2 action is did can in
          record {
            seen = there.after;
            is_seen = there.is_seen;
            shown = so.after;
            shows = so.shows;
            reached = client_reaches read reads moments timed b fair action unbroken (with_view broke.0 old) so.after actions before at.seen there.after server
                reports puts so.is next there.can so.did
                (subst (λ c. At (begun_at moments actions) at.seen before server c reports) broke.1 at.reached);
          }

  -- it is told of a break: in a world it is told of the end
  module _ (old new : Stand client_side) (actions : List (Action client_side)) (before : List Turn) (s : Between) (server : Stand server_side)
      (reports : List Said) (puts : AreCarried (begun_at moments actions)) (is : ClientTriesEitherWay (Other Break) old.owner new.owner) (did : Done (Other Break) old new)
      (lost : s.far ≡ Has_lost) (o : At (begun_at moments actions) s before server old reports) where
    abbrev begun : List Order
    begun = begun_at moments actions

    abbrev told : ℕ
    told = listened_in_turns before

    abbrev v : Near
    v = old.owner.end.view

    -- one that takes octets is not ahead
    taking_even : (gain : Gain) (more : List ℕ) → GainSo gain more s told server old
        → Together read begun o.last o.ahead (gained_between gain more s) (gained_told gain told) server (gained_client gain old) reports o.world
        → gain ≡ Led Even
    taking_even (Led Even) more so t = refl
    taking_even (Led (Told port)) more so t = absurd (true≢false (sym (asks_port so.0.op v so.0.view) ∙ ap is_asking_port is.0.1))
    taking_even (Led (Joined octets)) more so t =
        absurd (joined_never read begun server old old reports o.world octets more s s told so o.last o.ahead t Want.Receive is.0.1 refl)
    taking_even (Heard octets) more so t =
        let h = so.0 in
        absurd (listening_never h.op h.flow h.port v (h.opens.fronts [] h.others h.octet (sym h.some)).0 Want.Receive is.0.1 refl)

    even : o.gain ≡ Led Even
    even = taking_even o.gain o.more o.so o.together

    t : Together read begun o.last o.ahead s told server old reports o.world
    t = subst (λ l. Together read begun o.last o.ahead (gained_between l o.more s) (gained_told l told) server (gained_client l old) reports o.world) even
        o.together

    rests : ClientRests old.owner
    rests = subst (λ l. ClientRests (gained_client l old).owner) even (asks read reads moments timed b fair begun s before server old reports o)

    portless : wants_port (near.data_end v).connection ≡ false
    portless = ended_portless v o.keeping.run rests.dials

    breaks : Breaks read reads (state_of b) begun puts server old new reports o.world is.1 o.serves rests portless
        (known read reads moments timed b fair actions puts s before server old reports o)
        (runs read reads moments timed b fair begun s before server old reports o)
        s told
    breaks =
        client_breaks read reads (state_of b) begun puts server old new reports o.world is.1 o.serves rests portless
        (known read reads moments timed b fair actions puts s before server old reports o)
        (runs read reads moments timed b fair begun s before server old reports o)
        o.last o.ahead s told t did is.0.0 is.0.1 is.0.2 (ap is_had lost) (ap is_called lost)

    abbrev shown : Stand client_side
    shown = with_view (near.data_end v) new

    break_reaches : At (begun_at moments (Other Break ∷ actions)) (with_none s) (Client (Other Break) ∷ before) server shown (reports ++ [])
    break_reaches =
        let k = breaks in
        record {
          world = k.goes.world;
          leads = leads_then read begun [] (world_of b) o.world k.goes.world o.leads k.goes.leads;
          last = k.goes.moment;
          ahead = k.goes.ahead;
          gain = Led Even;
          more = [];
          so = (refl, record { sound = k.sound; dials = portless });
          together = subst (λ l. Together read l k.goes.moment k.goes.ahead (with_none s) told server shown (reports ++ []) k.goes.world)
              (sym (append-nil begun)) k.goes.together;
          serves = o.serves;
          keeping = ended_kept Whatever whatever_kept v o.keeping;
          fresh = λ e. absurd (both e (ap is_called lost));
          marked = k.goes.marked ∙ o.marked;
          heard = λ e. absurd (true≢false (sym e));
        }

    break_shows : (q : Between) → is_lost q.near ≡ true → IsShown q new shown
    break_shows q gone = by breaks.alike
      where
        by : AreAlike new.owner.end.view (near.data_end v) → IsShown q new shown
        by (inl e) = inl (ap (λ n. with_view n new) (sym e))
        by (inr apart) = inr (
          near.data_end v,
          refl,
          record { apart = apart; near = gone; channel = λ o. both (ap is_sound o.1) (ap (λ (l : Channel). is_sound l.fate) did.0.1) },
        )

  client_sees : (action : Action client_side) (old new : Stand client_side) (actions : List (Action client_side)) (before : List Turn)
      (p q : Between) (server : Stand server_side) (reports : List Said) → AreCarried (begun_at moments actions) → ClientTriesEitherWay action old.owner new.owner
      → by_client.IsNext action (listened_in_turns before) → CanTurn (Client action) p q → IsResetFor action p → Done action old new
      → Seen (begun_at moments actions) p before server old reports
      → Seen (begun_at moments (action ∷ actions)) q (Client action ∷ before) server new (reports ++ reports_of action)
  client_sees (Other Break) old new actions before p q server reports puts is next can reset did at = by at.shows
    where
      by : IsShown p old at.shown → Seen (begun_at moments (Other Break ∷ actions)) q (Client (Other Break) ∷ before) server new (reports ++ [])
      by (inr broke) = absurd (both broke.2.near (ap is_lost can.0))
      by (inl same) =
          let lost : at.seen.far ≡ Has_lost = at.is_seen.far ∙ reset in
          let o : At (begun_at moments actions) at.seen before server old reports =
          subst (λ c. At (begun_at moments actions) at.seen before server c reports) same at.reached in
          record {
            seen = with_none at.seen;
            is_seen = subst (λ m. IsSeen m (with_none at.seen)) (sym can.1) (reset_falls p at.seen at.is_seen reset);
            shown = with_view (near.data_end old.owner.end.view) new;
            shows = break_shows old new actions before at.seen server reports puts is did lost o q (ap (λ (m : Between). is_lost m.near) can.1);
            reached = break_reaches old new actions before at.seen server reports puts is did lost o;
          }
  client_sees action old new actions before p q server reports puts is next can reset did at =
      client_sees_on action tt old new actions before p q server reports puts is next can did at

  -- ---- one after another

  pub reaches : (turns : List Turn) (between : Between) → (happened : Happened turns between) → AreResets turns between happened
      → (server_start server : Stand server_side) (client_start client : Stand client_side) → Begins b server_start client_start
      → server_start.owner.channel.untold ≡ [] → client_start.owner.channel.unwritten ≡ []
      → server_start.owner.channel.unwritten ≡ [] → client_start.owner.channel.untold ≡ []
      → (server_led : HaveLed (server_actions turns) server_start server) (client_led : HaveLed (client_actions turns) client_start client)
      → ServerTriesAlong (server_actions turns) server_start server server_led → ClientTriesAlong (client_actions turns) client_start client client_led
      → ArePortsOfTurns turns → AreToldAt moments turns server_start server server_led
      → Seen (begun_at moments (client_actions turns)) between turns server client (reports_in (client_actions turns))
  reaches [] between happened resets server_start server client_start client begins untold unwritten far_unwritten near_untold server_led client_led serves asks
      ports told =
      subst (λ (m : Between). Seen [] m [] server client []) (sym happened)
      (subst (λ (s : Stand server_side). Seen [] nothing_yet [] s client []) (sym server_led)
      (subst (λ (c : Stand client_side). Seen [] nothing_yet [] server_start c []) (sym client_led) (record {
        seen = nothing_yet;
        is_seen = seen_itself nothing_yet;
        shown = client_start;
        shows = inl refl;
        reached = starts_so read reads moments timed b fair server_start client_start begins untold unwritten far_unwritten near_untold;
      })))
  reaches (Server action ∷ before) between happened resets server_start server client_start client begins untold unwritten far_unwritten near_untold server_led
      client_led serves asks ports told =
      let port = server_ports action before ports in
      server_sees action server_led.0 server (client_actions before) before happened.0 between client (reports_in (client_actions before))
      (in_carried moments (client_actions before) client_start client client_led asks) serves.1 port.1 happened.2 server_led.2 told.1
      (reaches before happened.0 happened.1 resets server_start server_led.0 client_start client begins untold unwritten far_unwritten near_untold server_led.1
      client_led serves.0 asks port.0 told.0)
  reaches (Client action ∷ before) between happened resets server_start server client_start client begins untold unwritten far_unwritten near_untold server_led
      client_led serves asks ports told =
      let port = client_ports action before ports in
      client_sees action client_led.0 client (client_actions before) before happened.0 between server (reports_in (client_actions before))
      (in_carried moments (client_actions before) client_start client_led.0 client_led.1 asks.0) asks.1 port.1 happened.2
      (reset_for action before between happened resets) client_led.2
      (reaches before happened.0 happened.1 (resets_before action before between happened resets) server_start server client_start client_led.0 begins untold
      unwritten far_unwritten near_untold server_led client_led.1 serves asks.0 port.0 told)

-- events of a world lead to what both drives hold
pub tries_are_of_worlds : TriesAreOfWorldsEitherWay
tries_are_of_worlds read reads b fair moments timed turns between server client did =
    let at = reaches read reads moments timed b fair turns between did.happened did.ordered did.server_start server did.client_start client did.begins
    did.untold did.unwritten did.server_unwritten did.client_untold did.server_led did.client_led did.serves did.asks did.ports did.told in
    let o = at.reached in
    let s = o.together.beside in
    record {
      events = o.leads.events;
      timed = o.leads.timed;
      world = o.world;
      leads = o.leads.leads;
      both = record {
        moment = o.last;
        ahead = o.ahead;
        gain = o.gain;
        fits = s.fits;
        near = gained_near o.gain o.more between at.seen (listened_in_turns turns) server client at.shown o.so at.is_seen at.shows o.world.near
            (s.near ∙ ap (λ n. near.data_closed (taken n)) (view_is o.gain at.shown));
        far = s.far;
        reported = s.reported
            ∙ ap (λ r. reports_in (client_actions turns) ++ r) (gained_said o.gain o.more at.seen (listened_in_turns turns) server at.shown o.so
            ∙ ap (λ r. option_to_list r) (shown_said between client at.shown at.shows));
        control = s.control;
        marked = o.marked;
        cutoff = s.cutoff;
      };
      heard = o.heard;
    }

-- so they do where no dial fails, of which none is marked, and its client is ahead as there
pub either_are_of_worlds : EitherAreOfWorlds
either_are_of_worlds read reads b fair moments timed turns between server client did =
    let o = tries_are_of_worlds read reads b fair moments timed turns between server client (did_try b moments turns between server client did) in
    let s = o.both in
    let whole = none_heard s.gain (has_failed turns) o.heard (none_failed turns did.server_start server did.server_led did.serves) in
    let lead = lead_of s.gain whole in
    record {
      events = o.events;
      timed = o.timed;
      world = o.world;
      leads = o.leads;
      both = record {
        moment = s.moment;
        ahead = s.ahead;
        lead = lead.0;
        fits = s.fits;
        near = subst (λ g. IsNear o.world.near (near.data_closed (near.reports (gained_by g client.owner.end.view)))) lead.1 s.near;
        far = s.far;
        reported = s.reported;
        control = s.control;
        marks = subst AreUnmarked (sym s.marked) (none_marked turns did.server_start server did.server_led did.serves did.client_start client did.client_led
            did.asks);
        cutoff = s.cutoff;
      };
    }
