-- Two drives that put and fetch files, as a list of a world's events: one action after another; a world sees what lies between, and what a reset dropped.
use Rattle.std.proofs.Common.{◌≡◌, inl, inr, ℕ, false, true≢false, List, [], ◌∷◌, ◌++◌, option_to_list, refl, sym, ap, ap₂, subst, append-nil, ◌∙◌}
use Rattle.std.specs.Prelude.{⊤}
use Rattle.ftp_ports.specs.Asking.{Came, Ended as EndedBy, Reset, Shut}
use Rattle.ftp_ports.specs.Actions.{Action, Done, Heard, Led, Other, Read, Said as Says, Stand}
use Rattle.ftp_ports.specs.Channel.{Channel}
use Rattle.ftp_ports.specs.Machine.{Aside, Break, Closed, End, Gave, Got, Held, Left, LetGo, Listening, Opened, Received, Waited, Wrote}
use Rattle.ftp_client_driver.specs.Side.{client_side}
use Rattle.ftp_client_model.specs.Calls as near
use Rattle.ftp_client_model.specs.View.{View as Near}
use Rattle.ftp_client_model.specs.declared.client.ClientLink.TheVariants as Data
use Rattle.ftp_client_model.specs.declared.client.Ending.TheVariants as Endings
use Rattle.ftp_client_model.specs.Calls.{is_sound as is_sound_at}
use Rattle.ftp_operation.specs.Answer.{Said}
use Rattle.ftp_server_driver.specs.alone.Side.{Timed, server_side}
use Rattle.ftp_server_model.specs.Calls as far
use Rattle.ftp_server_model.specs.Machine.{IsReading, Reading}
use Rattle.laws_world.specs.Agreement.{Order}
use Rattle.laws_world.specs.Claims.{Beginning, IsFair, state_of, world_of}
use Rattle.laws_world.specs.World.{Mark, World}
use Rattle.laws_drivers.specs.control.Alone.{reports_of, reports_in}
use Rattle.laws_drivers.specs.events.Moments.{AreMoments, AreToldAt, IsToldAt, begun_at, begun_by, last_of, number_in}
use Rattle.laws_drivers.specs.control.Between.{Between, CanTurn, Client, Far as TheServer, Happened, Has_lost, IsStanding, Near as TheClient, Server, Turn, client_actions, nothing_yet, server_actions, with_hold}
use Rattle.laws_drivers.specs.control.Claims.{Begins}
use Rattle.laws_drivers.specs.control.Touches.{touch_in}
use Rattle.laws_drivers.proofs.control.Taken.{reports_is, taken}
use Rattle.laws_drivers.proofs.control.Worlds.{LeadsOn, leads_none, leads_then}
use Rattle.laws_drivers.specs.world.Ahead.{is_asked, is_open}
use Rattle.laws_drivers.specs.world.Unaborted.{is_unaborted}
use Rattle.laws_drivers.specs.events.Actions.{ArePorts, listened_in}
use Rattle.laws_drivers.proofs.events.Holding.{both, is_called, is_false, is_had, is_sound}
use Rattle.laws_drivers.proofs.events.Plain.{IsPlainly, Whatever, ended_plain, whatever_kept}
use Rattle.laws_drivers.proofs.events.Serves.{action_serves}
use Rattle.laws_drivers.proofs.events.Stands.{ServerServes, portless}
use Rattle.laws_transfers.specs.Ahead.{Level, far_ahead, is_parted_ahead}
use Rattle.laws_transfers.specs.Claims.{IsNear}
use Rattle.laws_transfers.specs.Actions.{AreResets, IsServing, ServerTransfers, ServesAlong}
use Rattle.laws_transfers.specs.Refusals.{ClientTries, TriesAlong, TriesAreOfWorlds, marked_by, marks_in}
use Rattle.laws_transfers.proofs.Beside.{Goes, Together}
use Rattle.laws_transfers.proofs.Broke.{IsShown, broke_does, with_view}
use Rattle.laws_transfers.proofs.Called.{BreaksNone, StaysFresh, far_fresh}
use Rattle.laws_transfers.proofs.ClientBroken.{client_breaks, with_none}
use Rattle.laws_transfers.proofs.EitherEnd.{AreAlike, common}
use Rattle.laws_transfers.proofs.Known.{AreCarried}
use Rattle.laws_transfers.proofs.Lost.{IsSeen, far_done, is_lost, near_done, resets_losing, seen_itself, with_lost}
use Rattle.laws_transfers.proofs.ServerStays.{server_resets}
use Rattle.laws_transfers.proofs.Simulating.{Reached, asks, client_fresh, client_goes, client_plain, in_carried, known, orders_are, runs, server_goes}

-- as a session begins its first world is beside both ends
pub begins_together : (read : Reading) (b : Beginning) (server : Stand server_side) (client : Stand client_side) → Begins b server client
    → server.owner.channel.untold ≡ [] → client.owner.channel.unwritten ≡ [] → server.owner.channel.unwritten ≡ [] → client.owner.channel.untold ≡ []
    → Together read [] 0 Level nothing_yet 0 server client [] (world_of b)
begins_together read b server client begins untold unwritten far_unwritten near_untold = record {
  beside = record {
    fits = ap (λ f. is_asked f.session.connection) begins.server_view;
    near = ap (λ n. near.data_closed (taken n)) (sym begins.client_view);
    far = ap (λ f. far.clock_step 0 (far_ahead Level f)) (sym begins.server_view);
    to_server = ap (λ q. q ++ []) (sym begins.server_unheard);
    to_client = ap (λ q. q ++ []) (sym begins.client_unheard);
    rising = ap₂ (λ q r. q ++ ([] ++ r)) (sym untold) (sym unwritten);
    falling = λ e. ap₂ (λ q r. q ++ ([] ++ r)) (sym near_untold) (sym far_unwritten);
    listens = refl;
    reported = ap (λ n. option_to_list (near.report_of n)) (sym begins.client_view);
    control = refl;
    unready = λ e. absurd (true≢false (sym e));
    cutoff = refl;
  };
  holds = record {
    shut = λ e. ap (λ f. is_open f.session.connection) begins.server_view;
    had = λ e. absurd (both e (ap (λ f. is_open f.session.connection) begins.server_view));
    called = λ c e. absurd (true≢false (sym c));
    opened = λ e. absurd (true≢false (sym e));
  };
  comes = record {
    bare = λ e. untold;
    spare = λ e. untold;
    over = λ e. untold;
    shut = λ e. ap (λ f. is_open f.session.connection) begins.server_view;
  };
  serves = record { spare = λ e. far_unwritten; bare = λ e. far_unwritten };
  takes = record { bare = λ e. near_untold };
  gives = record { spare = λ e. unwritten; bare = λ e. unwritten };
  keeping = record {
    had = λ e. absurd (true≢false (sym e));
    shut = λ e. absurd (both e (ap (λ n. n.closing) begins.client_view));
    over = λ e. refl;
  };
  twin = λ e. absurd (true≢false (sym e));
}

-- the ports of the actions before one are those of a world too
pub earlier : (action : Action server_side) (before : List (Action server_side)) → ArePorts (action ∷ before) → ArePorts before
earlier (Other (Listening port)) before ports = ports.0
earlier action before ports = ports

-- the reset that a break is told of
abbrev pub IsResetFor : Action client_side → Between → Type 0
IsResetFor (Other Break) between = between.far ≡ Has_lost
IsResetFor action between = ⊤

pub reset_for : (action : Action client_side) (before : List Turn) (between : Between) (happened : Happened (Client action ∷ before) between)
    → AreResets (Client action ∷ before) between happened → IsResetFor action happened.0
reset_for (Other Break) before between happened resets = resets.1
reset_for action before between happened resets = tt

pub resets_before : (action : Action client_side) (before : List Turn) (between : Between) (happened : Happened (Client action ∷ before) between)
    → AreResets (Client action ∷ before) between happened → AreResets before happened.0 happened.1
resets_before (Other Break) before between happened resets = resets.0
resets_before action before between happened resets = resets

-- how the client stands to it is the same after an action of the server
pub serving_near : (action : Action server_side) (at : Held Timed) → IsServing action at → (p q : Between) → CanTurn (Server action) p q → q.near ≡ p.near
serving_near (Heard octets) at is p q can = ap (λ (m : Between). m.near) can
serving_near (Says octets) at is p q can = ap (λ (m : Between). m.near) can
serving_near (Read octets) at is p q can = ap (λ (m : Between). m.near) can.1
serving_near (Other (Aside asked)) at is p q can = ap (λ (m : Between). m.near) can
serving_near (Other (Listening port)) at is p q can = ap (λ (m : Between). m.near) can.1
serving_near (Other (Opened host (Came from left written ∷ []) at_first so_far rest)) at is p q can = ap (λ (m : Between). m.near) can.1
serving_near (Other (Got octets)) at is p q can = ap (λ (m : Between). m.near) can.2
serving_near (Other (Received octets count)) at is p q can = ap (λ (m : Between). m.near) can
serving_near (Other End) at is p q can = ap (λ (m : Between). m.near) can.2
serving_near (Other (Gave count octets rest)) at is p q can = ap (λ (m : Between). m.near) can
serving_near (Other (Wrote octets)) at is p q can = ap (λ (m : Between). m.near) can.1
serving_near (Other (Waited lost)) at is p q can = ap (λ (m : Between). m.near) can
serving_near (Other (LetGo octets)) at is p q can = ap (λ (m : Between). m.near) can
serving_near (Other (Left (EndedBy left written))) at is p q can = ap (λ (m : Between). m.near) can.1
serving_near (Other (Left (Reset left written))) at is p q can = ap (λ (m : Between). m.near) can.1
serving_near (Other (Left Shut)) at is p q can = ap (λ (m : Between). m.near) can
serving_near (Other Closed) at is p q can = ap (λ (m : Between). m.near) can
serving_near action at is p q can = absurd is

-- ---- the client that a world sees

pub shown_still : (p q : Between) (client shown : Stand client_side) → q.near ≡ p.near → IsShown p client shown → IsShown q client shown
shown_still p q client shown near (inl same) = inl same
shown_still p q client shown near (inr broke) =
    inr (broke.0, broke.1, record { apart = broke.2.apart; near = ap is_lost near ∙ broke.2.near; channel = broke.2.channel })

-- it is the client, where that is not busy
pub shown_itself : (between : Between) (client shown : Stand client_side) → IsShown between client shown → near.is_busy client.owner.end.view ≡ false
    → shown ≡ client
shown_itself between client shown (inl same) free = same
shown_itself between client shown (inr broke) free = absurd (both (common client.owner.end.view broke.0 broke.2.apart).busy free)

-- it has the same report
pub shown_said : (between : Between) (client shown : Stand client_side) → IsShown between client shown
    → near.report_of shown.owner.end.view ≡ near.report_of client.owner.end.view
shown_said between client shown (inl same) = ap (λ (c : Stand client_side). near.report_of c.owner.end.view) same
shown_said between client shown (inr broke) =
    let c = common client.owner.end.view broke.0 broke.2.apart in
    ap (λ (c : Stand client_side). near.report_of c.owner.end.view) broke.1 ∙ c.other_said ∙ sym c.one_said

-- and is as it, or told of an end where that was told of a break
pub shown_near : (between : Between) (client shown : Stand client_side) → IsShown between client shown → (there : Near)
    → there ≡ near.data_closed (taken shown.owner.end.view) → IsNear there (near.data_closed (near.reports client.owner.end.view))
shown_near between client shown (inl same) there is =
    inl (is ∙ ap (λ (c : Stand client_side). near.data_closed (taken c.owner.end.view)) same
    ∙ ap near.data_closed (sym (reports_is client.owner.end.view)))
shown_near between client shown (inr broke) there is =
    let a = broke.2.apart in
    inr (record {
      aborted = ap (λ n. is_unaborted (near.data_closed (near.reports n)).job) a.one_is ∙ a.sent;
      broke = ap (λ n. (near.data_closed (near.reports n)).connection) a.one_is;
      is = is ∙ ap (λ (c : Stand client_side). near.data_closed (taken c.owner.end.view)) broke.1 ∙ ap (λ n. near.data_closed (taken n)) a.other_is
          ∙ sym (ap (λ n. record (near.data_closed (near.reports n)) { connection = Data.Over Endings.Clean }) a.one_is);
    })

-- where the server reset it, no octets of it come
pub reset_falls : (between seen : Between) → IsSeen between seen → between.far ≡ Has_lost
    → IsSeen (with_hold TheClient Has_lost between) (with_none seen)
reset_falls between seen is lost = record {
  control = is.control;
  rising = is.rising;
  near = refl;
  far = is.far;
  falls = inr (inr (record { none = refl; far = ap is_lost lost; near = refl }));
}

module _ (read : Reading) (reads : IsReading read) (moments : ℕ → ℕ) (timed : AreMoments moments) (b : Beginning) (fair : IsFair b) where
  abbrev At : List Order → Between → ℕ → Stand server_side → Stand client_side → List Said → Type 0
  At begun between told server client reports = Reached read reads moments timed b fair begun between told server client reports

  -- what a world sees between is the same, but that what a reset drops is on its way there
  pub record ServerGoes (actions : List (Action client_side)) (next : Between) (told : ℕ) (new : Stand server_side) (client : Stand client_side)
      (reports : List Said) (w : World) : Type 0 where
    pub seen : Between
    pub is_seen : IsSeen next seen
    pub goes : Goes read [] (begun_at moments actions) seen told new client reports w
    pub serves : ServerServes new.owner
    pub fresh : StaysFresh seen client

  server_sees : (action : Action server_side) (old new : Stand server_side) → ServerTransfers action old.owner new.owner → (actions : List (Action client_side))
      → AreCarried (begun_at moments actions) → (before : List (Action server_side)) → ArePorts (action ∷ before) → (p q s : Between) → IsSeen p s
      → CanTurn (Server action) p q → (client : Stand client_side) (reports : List Said)
      → (o : At (begun_at moments actions) s (listened_in before) old client reports)
      → (did : Done action old new) → IsToldAt action old new did (last_of moments (number_in actions))
      → ServerGoes actions q (listened_in (action ∷ before)) new client reports o.world
  server_sees (Other (Left (Reset left written))) old new is actions puts before ports p q s seen can client reports o did told =
      let stands = subst IsStanding (sym seen.far) can.0 in
      record {
        seen = with_lost old.owner.channel.unwritten (with_hold TheServer Has_lost s);
        is_seen = resets_losing p q s seen old.owner.channel.unwritten (λ e. o.together.serves.spare (ap is_had seen.far ∙ e)) can;
        goes = server_resets read (begun_at moments actions) old new client reports o.world is.1 o.serves
            (known read reads moments timed b fair actions s (listened_in before) old client reports o puts) left written o.last o.ahead s
            (listened_in before) o.together did stands;
        serves = action_serves (Other (Left (Reset left written))) tt old new is did o.serves;
        fresh = λ e. absurd (true≢false (sym e));
      }
  server_sees action old new is actions puts before ports p q s seen can client reports o did told =
      let there = far_done p q s seen (touch_in action) can in
      let went = server_goes read reads moments timed b fair action tt old new is actions puts before ports s there.after there.can client reports o did told in
      record {
        seen = there.after;
        is_seen = there.is_seen;
        goes = went.0;
        serves = went.1;
        fresh = far_fresh s there.after client o.fresh (touch_in action) there.can;
      }

  -- ---- one after another

  -- as a session begins
  pub starts_so : (server : Stand server_side) (client : Stand client_side) → Begins b server client → server.owner.channel.untold ≡ []
      → client.owner.channel.unwritten ≡ [] → server.owner.channel.unwritten ≡ [] → client.owner.channel.untold ≡ []
      → (o : At [] nothing_yet 0 server client []) × (o.world.marks ≡ [])
  starts_so server client begins untold unwritten far_unwritten near_untold = (
    record {
      world = world_of b;
      leads = leads_none read (world_of b);
      last = 0;
      ahead = Level;
      together = begins_together read b server client begins untold unwritten far_unwritten near_untold;
      serves = record { running = ap (λ f. f.session.life) begins.server_view; none_waits = ap (λ f. f.waiting) begins.server_view };
      plain = subst IsPlainly (sym begins.client_view) (record { job = tt; port = refl; run = refl });
      sound = ap (λ n. is_sound_at n.standing) begins.client_view;
      fresh = λ e. absurd (true≢false (sym e));
    },
    refl,
  )

  -- after actions, a world is beside both drives, as it sees what lies between, and has these marks
  pub record Seen (marks : List (List Mark)) (begun : List Order) (between : Between) (told : ℕ) (server : Stand server_side) (client : Stand client_side)
      (reports : List Said) : Type 0 where
    pub seen : Between
    pub is_seen : IsSeen between seen
    pub shown : Stand client_side
    pub shows : IsShown between client shown
    pub reached : At begun seen told server shown reports
    pub marked : reached.world.marks ≡ marks

  -- an action of a client as a world sees it, but that it is told of a break: what becomes of the marks is by the action
  client_goes_on : (action : Action client_side) → BreaksNone action → (old new : Stand client_side) → ClientTries action old.owner new.owner
      → (actions : List (Action client_side)) → AreCarried (begun_at moments actions) → (s q : Between) → CanTurn (Client action) s q
      → (told : ℕ) (server : Stand server_side) (reports : List Said) → (o : At (begun_at moments actions) s told server old reports) → Done action old new
      → (next : At (begun_at moments (action ∷ actions)) q told server new (reports ++ reports_of action)) × (next.world.marks ≡ marked_by action o.world.marks)
  client_goes_on action unbroken old new is actions puts s q can told server reports o did =
      let begun : List Order = begun_at moments actions in
      let plain = client_plain read reads moments timed b fair action unbroken old new is actions puts s told server reports o did in
      let went = client_goes read reads moments timed b fair action unbroken old new is actions puts s q can told server reports o plain did in (
        record {
          world = went.0.world;
          leads = leads_then read begun (begun_by (moments (number_in actions)) action) (world_of b) o.world went.0.world o.leads went.0.leads;
          last = went.0.moment;
          ahead = went.0.ahead;
          together = subst (λ l. Together read l went.0.moment went.0.ahead q told server new (reports ++ reports_of action) went.0.world)
              (orders_are (moments (number_in actions)) action begun) went.0.together;
          serves = o.serves;
          plain = plain;
          sound = went.1;
          fresh = client_fresh read reads moments timed b fair action unbroken old new is actions puts s q can told server reports o did;
        },
        went.0.marked,
      )

  -- one but that it is told of a break
  client_sees_on : (action : Action client_side) → BreaksNone action → (old new : Stand client_side) → ClientTries action old.owner new.owner
      → (actions : List (Action client_side)) → AreCarried (begun_at moments actions) → (p q : Between) → CanTurn (Client action) p q → (told : ℕ)
      (server : Stand server_side) (reports : List Said) (marks : List (List Mark)) → Seen marks (begun_at moments actions) p told server old reports
      → Done action old new → Seen (marked_by action marks) (begun_at moments (action ∷ actions)) q told server new (reports ++ reports_of action)
  client_sees_on action unbroken old new is actions puts p q can told server reports marks at did = by at.shows
    where
      by : IsShown p old at.shown → Seen (marked_by action marks) (begun_at moments (action ∷ actions)) q told server new (reports ++ reports_of action)
      by (inl same) =
          let there = near_done p q at.seen at.is_seen (touch_in action) can in
          let o = subst (λ c. (o : At (begun_at moments actions) at.seen told server c reports) × (o.world.marks ≡ marks)) same (at.reached, at.marked) in
          let went = client_goes_on action unbroken old new is actions puts at.seen there.after there.can told server reports o.0 did in
          record {
            seen = there.after;
            is_seen = there.is_seen;
            shown = new;
            shows = inl refl;
            reached = went.0;
            marked = went.1 ∙ ap (marked_by action) o.1;
          }
      by (inr broke) =
          let there = near_done p q at.seen at.is_seen (touch_in action) can in
          let so = broke_does p q old new broke.0 broke.2 action is did can in
          let o = subst (λ c. (o : At (begun_at moments actions) at.seen told server c reports) × (o.world.marks ≡ marks)) broke.1 (at.reached, at.marked) in
          let went = client_goes_on action unbroken (with_view broke.0 old) so.after so.is actions puts at.seen there.after there.can told server reports o.0
          so.did in
          record {
            seen = there.after;
            is_seen = there.is_seen;
            shown = so.after;
            shows = so.shows;
            reached = went.0;
            marked = went.1 ∙ ap (marked_by action) o.1;
          }

  -- an action of the client
  client_sees : (action : Action client_side) (old new : Stand client_side) → ClientTries action old.owner new.owner → (actions : List (Action client_side))
      → AreCarried (begun_at moments actions) → (p q : Between) → CanTurn (Client action) p q → IsResetFor action p → (told : ℕ) (server : Stand server_side)
      (reports : List Said) (marks : List (List Mark)) → Seen marks (begun_at moments actions) p told server old reports → Done action old new
      → Seen (marked_by action marks) (begun_at moments (action ∷ actions)) q told server new (reports ++ reports_of action)
  client_sees (Other Break) old new is actions puts p q can reset told server reports marks at did = by at.shows
    where
      by : IsShown p old at.shown → Seen marks (begun_at moments (Other Break ∷ actions)) q told server new (reports ++ [])
      by (inr broke) = absurd (both broke.2.near (ap is_lost can.0))
      by (inl same) =
          let so = subst (λ c. (o : At (begun_at moments actions) at.seen told server c reports) × (o.world.marks ≡ marks)) same (at.reached, at.marked) in
          let o : At (begun_at moments actions) at.seen told server old reports = so.0 in
          let begun : List Order = begun_at moments actions in
          let lost : at.seen.far ≡ Has_lost = at.is_seen.far ∙ reset in
          let plain : IsPlainly (near.data_end old.owner.end.view) = ended_plain Whatever whatever_kept old.owner.end.view o.plain in
          let k = client_breaks read reads (state_of b) begun puts server old new reports o.world is.1 o.serves
          (asks read reads moments timed b fair actions at.seen told server old reports o puts)
          (portless (near.data_end old.owner.end.view).connection plain.port)
          (known read reads moments timed b fair actions at.seen told server old reports o puts)
          (runs read reads moments timed b fair actions at.seen told server old reports o puts) o.last o.ahead at.seen told o.together did is.0.0 is.0.1 is.0.2
          (ap is_had lost) (ap is_called lost) in
          let shown : Stand client_side = with_view (near.data_end old.owner.end.view) new in
          record {
            seen = with_none at.seen;
            is_seen = subst (λ m. IsSeen m (with_none at.seen)) (sym can.1) (reset_falls p at.seen at.is_seen reset);
            shown = shown;
            shows = shows k.alike;
            reached = record {
              world = k.goes.world;
              leads = leads_then read begun [] (world_of b) o.world k.goes.world o.leads k.goes.leads;
              last = k.goes.moment;
              ahead = k.goes.ahead;
              together = subst (λ l. Together read l k.goes.moment k.goes.ahead (with_none at.seen) told server shown (reports ++ []) k.goes.world)
                  (sym (append-nil begun)) k.goes.together;
              serves = o.serves;
              plain = plain;
              sound = k.sound;
              fresh = λ e. absurd (both e (ap is_called lost));
            };
            marked = k.goes.marked ∙ so.1;
          }
        where
          shows : AreAlike new.owner.end.view (near.data_end old.owner.end.view) → IsShown q new (with_view (near.data_end old.owner.end.view) new)
          shows (inl e) = inl (ap (λ n. with_view n new) (sym e))
          shows (inr apart) = inr (
            near.data_end old.owner.end.view,
            refl,
            record {
              apart = apart;
              near = ap (λ (m : Between). is_lost m.near) can.1;
              channel = λ o. both (ap is_sound o.1) (ap (λ (l : Channel). is_sound l.fate) did.0.1);
            },
          )
  client_sees action old new is actions puts p q can reset told server reports marks at did =
      client_sees_on action tt old new is actions puts p q can told server reports marks at did

  -- action by action
  pub reaches : (turns : List Turn) (between : Between) → (happened : Happened turns between) → AreResets turns between happened
      → (server_start server : Stand server_side) (client_start client : Stand client_side) → Begins b server_start client_start
      → server_start.owner.channel.untold ≡ [] → client_start.owner.channel.unwritten ≡ []
      → server_start.owner.channel.unwritten ≡ [] → client_start.owner.channel.untold ≡ []
      → (server_led : Led (server_actions turns) server_start server) (client_led : Led (client_actions turns) client_start client)
      → ServesAlong (server_actions turns) server_start server server_led → TriesAlong (client_actions turns) client_start client client_led
      → ArePorts (server_actions turns) → AreToldAt moments turns server_start server server_led
      → Seen (marks_in (client_actions turns)) (begun_at moments (client_actions turns)) between (listened_in (server_actions turns)) server client
      (reports_in (client_actions turns))
  reaches [] between happened resets server_start server client_start client begins untold unwritten far_unwritten near_untold server_led client_led takes gives
      ports told =
      subst (λ (m : Between). Seen [] [] m 0 server client []) (sym happened)
      (subst (λ (s : Stand server_side). Seen [] [] nothing_yet 0 s client []) (sym server_led)
      (subst (λ (c : Stand client_side). Seen [] [] nothing_yet 0 server_start c []) (sym client_led) (
      let start = starts_so server_start client_start begins untold unwritten far_unwritten near_untold in
      record {
        seen = nothing_yet;
        is_seen = seen_itself nothing_yet;
        shown = client_start;
        shows = inl refl;
        reached = start.0;
        marked = start.1;
      })))
  reaches (Server action ∷ before) between happened resets server_start server client_start client begins untold unwritten far_unwritten near_untold server_led
      client_led takes gives ports
      told =
      let at = reaches before happened.0 happened.1 resets server_start server_led.0 client_start client begins untold unwritten far_unwritten near_untold
      server_led.1 client_led takes.0
      gives (earlier action (server_actions before) ports) told.0 in
      let o = at.reached in
      let begun : List Order = begun_at moments (client_actions before) in
      let went = server_sees action server_led.0 server takes.1 (client_actions before) (in_carried moments
      (client_actions before) client_start client client_led gives)
      (server_actions before) ports happened.0 between at.seen at.is_seen happened.2 at.shown (reports_in (client_actions before)) o server_led.2 told.1 in
      record {
        seen = went.seen;
        is_seen = went.is_seen;
        shown = at.shown;
        shows = shown_still happened.0 between client at.shown (serving_near action server_led.0.owner takes.1.0 happened.0 between happened.2) at.shows;
        reached = record {
          world = went.goes.world;
          leads = subst (λ l. LeadsOn read l (world_of b) went.goes.world) (append-nil begun)
              (leads_then read begun [] (world_of b) o.world went.goes.world o.leads went.goes.leads);
          last = went.goes.moment;
          ahead = went.goes.ahead;
          together = went.goes.together;
          serves = went.serves;
          plain = o.plain;
          sound = o.sound;
          fresh = went.fresh;
        };
        marked = went.goes.marked ∙ at.marked;
      }
  reaches (Client action ∷ before) between happened resets server_start server client_start client begins untold unwritten far_unwritten near_untold server_led
      client_led takes gives ports
      told =
      let at = reaches before happened.0 happened.1 (resets_before action before between happened resets) server_start server client_start client_led.0 begins
      untold unwritten far_unwritten near_untold server_led
      client_led.1 takes gives.0
      ports told in
      client_sees action client_led.0 client gives.1 (client_actions before) (in_carried moments (client_actions before) client_start client_led.0 client_led.1
      gives.0) happened.0 between happened.2 (reset_for action before between happened resets) (listened_in (server_actions before)) server
      (reports_in (client_actions before)) (marks_in (client_actions before)) at client_led.2

-- events of a world lead to what both drives hold
pub tries_are_of_worlds : TriesAreOfWorlds
tries_are_of_worlds read reads b fair moments timed turns between server client did =
    let at = reaches read reads moments timed b fair turns between did.happened did.ordered did.server_start server did.client_start client did.begins
    did.untold did.unwritten did.server_unwritten did.client_untold did.server_led did.client_led did.serves did.asks did.ports did.told in
    let o = at.reached in
    let s = o.together.beside in
    record {
      events = o.leads.events;
      timed = o.leads.timed;
      world = o.world;
      leads = o.leads.leads;
      both = record {
        moment = o.last;
        ahead = o.ahead;
        fits = s.fits;
        near = shown_near between client at.shown at.shows o.world.near s.near;
        far = s.far;
        reported = s.reported ∙ ap (λ r. reports_in (client_actions turns) ++ option_to_list r) (shown_said between client at.shown at.shows);
        control = s.control;
        marked = at.marked;
        cutoff = s.cutoff;
      };
      granted = λ g. is_false (is_parted_ahead o.ahead) (λ e. (o.together.twin e).refused g);
    }
