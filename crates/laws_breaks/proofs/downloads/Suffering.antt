-- Two drives of which downloads, listings and Peeks break: their actions one after another, and what a world holds of both then.
use Rattle.std.proofs.Common.{◌≡◌, ◌⊎◌, inl, inr, ℕ, List, [], ◌∷◌, ◌++◌, refl, sym, ap, subst, ◌∙◌}
use Rattle.ftp_ports.specs.Actions.{Action, Led, Stand}
use Rattle.ftp_client_driver.specs.Side.{client_side}
use Rattle.ftp_client_model.specs.Calls as near
use Rattle.ftp_client_model.specs.View.{View as Near}
use Rattle.ftp_server_driver.specs.alone.Side.{server_side}
use Rattle.ftp_server_model.specs.Calls.{break_step, clock_step}
use Rattle.ftp_server_model.specs.Machine.{IsReading, Reading}
use Rattle.ftp_server_model.specs.View.{View as Far}
use Rattle.laws_world.specs.Claims.{Beginning, IsFair}
use Rattle.laws_world.specs.World.{Mark}
use Rattle.laws_drivers.specs.control.Between.{Between, Client, Happened, Server, Turn, client_actions, nothing_yet, server_actions}
use Rattle.laws_drivers.specs.control.Claims.{Begins}
use Rattle.laws_drivers.specs.control.Touches.{touch_in}
use Rattle.laws_drivers.proofs.control.Taken.{reports_is}
use Rattle.laws_drivers.specs.events.Actions.{ArePorts, listened_in}
use Rattle.laws_drivers.proofs.events.Plain.{IsPlainBy}
use Rattle.laws_drivers.specs.events.Moments.{AreMoments, AreToldAt, begun_at}
use Rattle.laws_transfers.proofs.Broke.{with_view}
use Rattle.laws_transfers.proofs.Known.{AreCarried}
use Rattle.laws_transfers.proofs.Lost.{IsSeen, near_done, seen_itself}
use Rattle.laws_transfers.proofs.Reaching.{earlier, starts_so}
use Rattle.laws_breaks.specs.downloads.Claims.{AreSame, BreaksAreOfWorlds, IsClientFirst, IsEndThere, IsServerFirst, ReportAlike, SufferingIsOfWorld}
use Rattle.laws_breaks.specs.downloads.Actions.{AreAfter, AreMarks, AreShort, SuffersAlong, YieldsAlong}
use Rattle.laws_breaks.proofs.downloads.BothBroken.{broke, broke_step}
use Rattle.laws_breaks.proofs.downloads.Drained.{dried, dried_none}
use Rattle.laws_breaks.proofs.downloads.Dropping.{drops_alike, drops_leave, drops_waits}
use Rattle.laws_breaks.proofs.downloads.Lagging.{OfMarks, beside, unbroken}
use Rattle.laws_breaks.proofs.downloads.Preceding.{Precedes, behind, gives_now, steady_here, steady_now, unaware}
use Rattle.laws_breaks.proofs.downloads.Seen.{far_sees}
use Rattle.laws_breaks.proofs.downloads.Simulating as single
use Rattle.laws_breaks.proofs.downloads.Simulating.{in_carried, seen_after}
use Rattle.laws_breaks.proofs.downloads.Steps.{At}
use Rattle.laws_breaks.proofs.downloads.Unaware.{steady_alike}
use Rattle.laws_breaks.proofs.downloads.Unsent.{Unsent}
use Rattle.laws_breaks.proofs.downloads.Untold.{fault_told, told, told_alike}
use Rattle.laws_breaks.proofs.downloads.Peeking.{Kept, Peeked, Suffered, apart_alike, client_turn, ends_whole, peeked_spare, server_turn, shown_kept, told_end, yielding_near}

module _ (read : Reading) (reads : IsReading read) (moments : ℕ → ℕ) (timed : AreMoments moments) (b : Beginning) (fair : IsFair b) where
  -- so it is as a world sees what lies between
  record Stood (Are : OfMarks) (actions : List (Action client_side)) (between : Between) (count : ℕ) (server : Stand server_side)
      (client : Stand client_side) : Type 0 where
    seen : Between
    is_seen : IsSeen between seen
    peeked : Peeked read reads moments timed b fair Are actions seen count server client

  -- action by action
  reaches : (turns : List Turn) (between : Between) (happened : Happened turns between)
      → (server_start server : Stand server_side) (client_start client : Stand client_side) → Begins b server_start client_start
      → server_start.owner.channel.untold ≡ [] → client_start.owner.channel.unwritten ≡ []
      → server_start.owner.channel.unwritten ≡ [] → client_start.owner.channel.untold ≡ []
      → (server_led : Led (server_actions turns) server_start server) (client_led : Led (client_actions turns) client_start client)
      → YieldsAlong (server_actions turns) server_start server server_led → SuffersAlong (client_actions turns) client_start client client_led
      → ArePorts (server_actions turns) → AreToldAt moments turns server_start server server_led
      → AreShort (client_actions turns) client_start client client_led → AreAfter turns between happened server_start server server_led
      → Stood (AreMarks (client_actions turns) client_start client client_led) (client_actions turns) between (listened_in (server_actions turns)) server client
  reaches [] between happened server_start server client_start client begins untold unwritten far_unwritten near_untold server_led client_led takes gives
      ports told short after =
      let start = starts_so read reads moments timed b fair server_start client_start begins untold unwritten far_unwritten near_untold in
      subst (λ (m : Between). Stood (λ marks. marks ≡ []) [] m 0 server client) (sym happened)
      (subst (λ (s : Stand server_side). Stood (λ marks. marks ≡ []) [] nothing_yet 0 s client) (sym server_led)
      (subst (λ (c : Stand client_side). Stood (λ marks. marks ≡ []) [] nothing_yet 0 server_start c) (sym client_led) (record {
        seen = nothing_yet;
        is_seen = seen_itself nothing_yet;
        peeked = inl (inl (inl (subst (λ (s : Stand server_side). single.Lone read reads moments timed b fair
            (λ marks. marks ≡ []) [] nothing_yet 0 s client_start)
            (sym (dried_none server_start far_unwritten)) (inl (record {
              at = start.0;
              marks = [];
              are_marks = refl;
              marked = start.1;
              unsent = subst (IsPlainBy Unsent) (sym begins.client_view) (record { job = tt; port = refl; run = refl });
            })))));
      })))
  reaches (Server action ∷ before) between happened server_start server client_start client begins untold unwritten far_unwritten near_untold server_led
      client_led takes gives ports told short after =
      let reached = reaches before happened.0 happened.1 server_start server_led.0 client_start client begins untold unwritten far_unwritten near_untold
      server_led.1 client_led takes.0 gives (earlier action (server_actions before) ports) told.0 short after.0 in
      let there = far_sees server_led.0 server happened.0 between reached.seen reached.is_seen
      (peeked_spare read reads moments timed b fair (client_actions before) reached.seen (listened_in (server_actions before)) server_led.0 client reached.peeked)
      action takes.1 happened.2 in
      record {
        seen = there.0;
        is_seen = there.2;
        peeked = server_turn read reads moments timed b fair (client_actions before)
            (in_carried moments (client_actions before) client_start client client_led gives) (server_actions before)
            reached.seen there.0 server_led.0 server client action ports reached.peeked
            (seen_after action (client_actions before) server_led.0.owner happened.0 reached.seen reached.is_seen.near after.1) takes.1 there.1
            (there.2.near ∙ yielding_near action server_led.0.owner takes.1.0 happened.0 between happened.2 ∙ sym reached.is_seen.near) server_led.2 told.1;
      }
  reaches (Client action ∷ before) between happened server_start server client_start client begins untold unwritten far_unwritten near_untold server_led
      client_led takes gives ports told short after =
      let reached = reaches before happened.0 happened.1 server_start server client_start client_led.0 begins untold unwritten far_unwritten near_untold
      server_led client_led.1 takes gives.0 ports told short.0 after in
      let there = near_done happened.0 between reached.seen reached.is_seen (touch_in action) happened.2 in
      record {
        seen = there.after;
        is_seen = there.is_seen;
        peeked = client_turn read reads moments timed b fair (client_actions before)
            (in_carried moments (client_actions before) client_start client_led.0 client_led.1 gives.0) (server_actions before)
            ports reached.seen there.after server client_led.0 client action reached.peeked short.1 gives.1 there.can client_led.2;
      }

-- events of a world lead to what both drives hold, or held before one of them was told
pub breaks_are_of_worlds : BreaksAreOfWorlds
breaks_are_of_worlds read reads b fair moments timed turns between server client did =
    let stood = reaches read reads moments timed b fair turns between did.happened did.server_start server did.client_start client did.begins did.untold
    did.unwritten did.server_unwritten did.client_untold did.server_led did.client_led did.serves did.asks did.ports did.told did.short did.ordered in
    by stood.seen stood.peeked
  where
    -- those of the actions
    are_marks : List (List Mark) → Type 0
    are_marks marks = AreMarks (client_actions turns) did.client_start client did.client_led marks

    of_world : (were : Stand server_side) (was : Stand client_side) (m : Between)
        → AreSame server were client was
        ⊎ (IsClientFirst server were client was ⊎ (IsServerFirst server were client was ⊎ IsEndThere server were client was))
        → ReportAlike client.owner.end.view was.owner.end.view
        → server.owner.end.server.view.session.table ≡ were.owner.end.server.view.session.table
        → (o : At read reads moments timed b fair (client_actions turns) m (listened_in (server_actions turns)) were was) (marks : List (List Mark))
        → are_marks marks → o.world.marks ≡ marks → SufferingIsOfWorld read b moments turns between server client did
    of_world were was m is alike table o marks are marked =
        let s = o.together.beside in
        record {
          events = o.leads.events;
          timed = o.leads.timed;
          world = o.world;
          leads = o.leads.leads;
          marks = marks;
          are_marks = are;
          were = were;
          was = was;
          is = is;
          alike = alike;
          table = table;
          both = record {
            moment = o.last;
            ahead = o.ahead;
            fits = s.fits;
            near = inl (s.near ∙ ap near.data_closed (sym (reports_is was.owner.end.view)));
            far = s.far;
            reported = s.reported;
            control = s.control;
            marked = marked;
            cutoff = s.cutoff;
          };
          near = s.near ∙ ap near.data_closed (sym (reports_is was.owner.end.view));
        }

    -- what was begun can be carried
    carried : AreCarried (begun_at moments (client_actions turns))
    carried = in_carried moments (client_actions turns) did.client_start client did.client_led did.asks

    -- the server was told first
    first : (m : Between) → Precedes read reads moments timed b fair are_marks (client_actions turns) m (listened_in (server_actions turns)) server client
        → SufferingIsOfWorld read b moments turns between server client did
    first m p =
        let were : Far = p.were.owner.end.server.view in
        let broken : break_step (clock_step p.moment were) ≡ clock_step p.moment (broke were) = broke_step p.were p.at.serves p.sends p.moment in
        let loads = (gives_now read reads moments timed b fair (client_actions turns) carried m (listened_in (server_actions turns)) server client p).loads in
        of_world p.were (unaware p.refusals p.near p.queue client.owner.channel) (behind m)
        (inr (inr (inl (record {
          moment = p.moment;
          said = p.said;
          left = p.left;
          far = p.far_is ∙ ap (λ (f : Far). record f { owed = p.left }) (sym broken);
          whole = ap (λ (f : Far). f.owed) broken ∙ p.whole;
          heard = p.heard;
          more = (heard_front p.queue p.said p.heard (client.unheard ++ m.control.to_client) p.split p.late).0;
          front = (heard_front p.queue p.said p.heard (client.unheard ++ m.control.to_client) p.split p.late).1;
          near = p.view;
        }))))
        (steady_alike loads.op loads.decoder loads.mark client.owner.end.view p.near
        (steady_now read reads moments timed b fair (client_actions turns) carried m (listened_in (server_actions turns)) server client p)
        (steady_here read reads moments timed b fair (client_actions turns) carried m (listened_in (server_actions turns)) server client p))
        (ap (λ (f : Far). f.session.table) p.far_is) p.at p.marks p.are_marks p.marked
      where
        heard_front : (queue said heard rest : List ℕ) → queue ++ said ≡ heard ++ rest → (heard ≡ []) ⊎ (queue ≡ [])
            → (more : List ℕ) × (said ≡ heard ++ more)
        heard_front queue said heard rest split (inl none) = (said, ap (λ o. o ++ said) (sym none))
        heard_front queue said heard rest split (inr empty) = (rest, ap (λ o. o ++ said) (sym empty) ∙ split)

    by_suffered : (m : Between) → Suffered read reads moments timed b fair are_marks (client_actions turns) m (listened_in (server_actions turns)) server client
        → SufferingIsOfWorld read b moments turns between server client did
    by_suffered m (inl (inl o)) = of_world (dried server) client m (inl (refl, refl)) (refl, refl) refl o.at o.marks o.are_marks o.marked
    by_suffered m (inl (inr l)) =
        of_world (dried server) (beside l.was client) (unbroken m) (inr (inl (refl, l.view ∙ sym (fault_told l.was.end.view l.loads))))
        (subst (λ (v : Near). ReportAlike v l.was.end.view) (sym l.view) (told_alike l.was.end.view l.loads)) refl l.at l.marks l.are_marks l.marked
    by_suffered m (inr p) = first m p

    by_kept : (m : Between) → Kept read reads moments timed b fair are_marks (client_actions turns) m (listened_in (server_actions turns)) server client
        → SufferingIsOfWorld read b moments turns between server client did
    by_kept m (inl s) = by_suffered m s
    by_kept m (inr e) =
        let o = ends_whole read reads moments timed b fair (client_actions turns) carried m (listened_in (server_actions turns)) server client e in
        of_world (dried server) (with_view e.other client) m
        (inr (inr (inr (refl, told_end client.owner.end.view e.other e.broke.apart)))) (apart_alike client.owner.end.view e.other e.broke.apart) refl o.at
        o.marks o.are_marks o.marked

    by : (m : Between) → Peeked read reads moments timed b fair are_marks (client_actions turns) m (listened_in (server_actions turns)) server client
        → SufferingIsOfWorld read b moments turns between server client did
    by m (inl k) = by_kept m k
    by m (inr d) =
        elim (drops_waits read reads moments timed b fair (client_actions turns) carried m (listened_in (server_actions turns)) (dried server) client d) [
          | inr free ↦
              by_kept m (shown_kept read reads moments timed b fair (client_actions turns) m (listened_in (server_actions turns)) server client
              (drops_leave read reads moments timed b fair (client_actions turns) carried m (listened_in (server_actions turns)) (dried server) client d free))
          | inl waits ↦
              of_world (dried server) (beside d.was client) (unbroken m) (inr (inl (refl, d.view)))
              (drops_alike read reads moments timed b fair (client_actions turns) carried m (listened_in (server_actions turns)) (dried server) client d waits) refl
              d.at d.marks d.are_marks d.marked
        ]
