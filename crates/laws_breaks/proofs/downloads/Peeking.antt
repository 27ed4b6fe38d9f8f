-- Two drives of which downloads, listings and Peeks break, as a list of a world's events: an action of either.
use Rattle.std.specs.Prelude.{Option}
use Rattle.std.proofs.Common.{◌≡◌, ◌⊎◌, inl, inr, ℕ, true, false, true≢false, List, [], ◌∷◌, refl, sym, ap, subst, append-nil, ◌∙◌}
use Rattle.ftp_ports.specs.Asking.{Reset}
use Rattle.ftp_ports.specs.Actions.{Calls, Action, Done, Other, Stand}
use Rattle.ftp_ports.specs.Channel.{Channel, with_fate}
use Rattle.ftp_ports.specs.Machine.{Break, Failed, Left, MayLeave}
use Rattle.ftp_ports.specs.declared.whole.Fate.TheVariants as Fates
use Rattle.ftp_client_driver.specs.Side.{client_side, is_operation_under_way}
use Rattle.ftp_client_model.specs.Calls as near
use Rattle.ftp_client_model.specs.Calls.{control_end, report_of}
use Rattle.ftp_client_model.specs.Dialogue.{is_unsent}
use Rattle.ftp_client_model.specs.Failing.{Client as Member}
use Rattle.ftp_client_model.specs.View.{Doing, Idle, Job, Told as HasTold, Transferring, View as Near, Waiting}
use Rattle.ftp_client_model.specs.declared.client.Abort.{Abort}
use Rattle.ftp_client_model.specs.declared.client.Abort.TheVariants as Aborts
use Rattle.ftp_client_model.specs.declared.client.ClientLink.TheVariants as Data
use Rattle.ftp_client_model.specs.declared.client.Ending.TheVariants as Endings
use Rattle.ftp_ends.specs.declared.link.Wants.TheVariants as Want
use Rattle.ftp_server_driver.specs.alone.Side.{server_side}
use Rattle.ftp_server_model.specs.Calls as far
use Rattle.ftp_server_model.specs.Machine.{IsReading, Reading}
use Rattle.laws_world.specs.Claims.{Beginning, IsFair}
use Rattle.laws_world.specs.World.{Mark}
use Rattle.laws_drivers.specs.world.Unaborted.{is_unaborted}
use Rattle.laws_drivers.specs.control.Alone.{reports_in}
use Rattle.laws_drivers.specs.control.Between.{Between, Can, CanTurn, Client, Has, Has_lost, Near as TheClient, Server, with_hold}
use Rattle.laws_drivers.specs.control.Touches.{ToldBreak}
use Rattle.laws_drivers.specs.events.Actions.{ArePorts, listened_in}
use Rattle.laws_drivers.proofs.events.Holding.{both, is_had}
use Rattle.laws_transfers.specs.Claims.{IsToldEnd}
use Rattle.laws_drivers.specs.events.Moments.{AreMoments, IsToldAt, begun_at, last_of, number_in}
use Rattle.laws_transfers.proofs.Broke.{IsBroke, IsShown, broke_does, with_view}
use Rattle.laws_transfers.proofs.Called.{BreaksNone}
use Rattle.laws_transfers.proofs.EitherEnd.{AreApart, Common, common}
use Rattle.laws_transfers.proofs.Known.{AreCarried, is_giving}
use Rattle.laws_transfers.proofs.Lost.{is_lost}
use Rattle.laws_transfers.proofs.Reaching.{serving_near}
use Rattle.laws_breaks.specs.downloads.Claims.{ReportAlike}
use Rattle.laws_breaks.specs.downloads.Actions.{AsksAll, ClientSuffers, HasTaken, IsToldShort, IsYielding, MayMarkBreak, ServerYields}
use Rattle.laws_breaks.proofs.downloads.BothBroken.{broke, sends_far}
use Rattle.laws_breaks.proofs.downloads.ClientBroken.{broken_channel}
use Rattle.laws_breaks.proofs.downloads.Drained.{BreaksNot, dried, dried_step, dried_told}
use Rattle.laws_breaks.proofs.downloads.Dropping.{Drops, Shown, drop_step, drops_leave, drops_waits}
use Rattle.laws_breaks.proofs.downloads.DropsTold.{drops_told}
use Rattle.laws_breaks.proofs.downloads.Lagging.{OfMarks, Then, Whole, beside, is_failed, unbroken}
use Rattle.laws_breaks.proofs.downloads.Preceding.{steady_now}
use Rattle.laws_breaks.proofs.downloads.Seen.{IsTold, Sees, dropped}
use Rattle.laws_breaks.proofs.downloads.Simulating as single
use Rattle.laws_breaks.proofs.downloads.Simulating.{ToldAfter, resets_on, spare_now}
use Rattle.laws_breaks.proofs.downloads.Steps.{Again, idle_again, server_step, told_late}
use Rattle.laws_breaks.proofs.downloads.Unbroken.{sees_unbroken}
use Rattle.laws_breaks.proofs.downloads.Untold.{told}

-- ---- actions

-- how the client stands to it is the same after an action of the server
pub yielding_near : (action : Action server_side) (at : server_side.End) → IsYielding action at → (p q : Between) → CanTurn (Server action) p q → q.near ≡ p.near
yielding_near (Other Failed) at is p q can = ap (λ (m : Between). m.near) can
yielding_near (Other Break) at is p q can = ap (λ (m : Between). m.near) can.1
yielding_near action at is p q can = serving_near action at is p q can

-- what a client, also of a Peek, is told
abbrev pub ShortSo : Action client_side → List (Action client_side) → client_side.End → Type 0
ShortSo action actions at = AsksAll actions ⊎ IsToldShort action at

-- but a break it is told of nothing
short_on : (action : Action client_side) → BreaksNone action → (actions : List (Action client_side)) (at : client_side.End) → single.ToldShort action actions at
short_on (Other Break) unbroken actions at = absurd unbroken
short_on action unbroken actions at = inr tt

-- what an action but a break marks is of no matter to what the client holds
marks_same : (action : Action client_side) → BreaksNone action → (at other : client_side.End) (old new : List (List Mark)) → MayMarkBreak action at old new
    → MayMarkBreak action other old new
marks_same (Other Break) unbroken at other old new is = absurd unbroken
marks_same action unbroken at other old new is = is

-- one that sent ABOR may be marked at any octet
aborted_taken : (job : Job) → is_unaborted job ≡ false → (came : ℕ) → HasTaken job came
aborted_taken (Transferring op transfer) sent came = by transfer.abort sent
  where
    by : (abort : Abort) → is_unsent abort ≡ false → HasTaken (Transferring op (record transfer { abort = abort })) came
    by Aborts.Unsent e = absurd (true≢false e)
    by Aborts.Sent e = tt
    by Aborts.Answered e = tt
aborted_taken Idle sent came = absurd (true≢false sent)
aborted_taken (HasTold said) sent came = absurd (true≢false sent)
aborted_taken (Waiting op) sent came = absurd (true≢false sent)
aborted_taken (Doing op step) sent came = absurd (true≢false sent)

-- ---- one that was told of a break where a world's was told of an end

-- has the same reports
pub apart_alike : (one other : Near) → AreApart one other → ReportAlike one other
unfolding control_end
apart_alike one other a =
    let c : Common one other = common one other a in
    (c.one_said ∙ sym c.other_said, ap (λ n. report_of (control_end n)) a.one_is ∙ sym (ap (λ n. report_of (control_end n)) a.other_is))

-- and was told so
pub told_end : (one other : Near) → AreApart one other → IsToldEnd other one
told_end one other a = record {
  aborted = ap (λ (n : Near). is_unaborted n.job) a.one_is ∙ a.sent;
  broke = ap (λ (n : Near). n.connection) a.one_is;
  is = a.other_is ∙ sym (ap (λ (n : Near). record n { connection = Data.Over Endings.Clean }) a.one_is);
}

module _ (read : Reading) (reads : IsReading read) (moments : ℕ → ℕ) (timed : AreMoments moments) (b : Beginning) (fair : IsFair b) where
  -- as where no Peek sent ABOR
  abbrev pub Suffered : (Are : OfMarks) (actions : List (Action client_side)) (between : Between) (count : ℕ) (server : Stand server_side)
      (client : Stand client_side) → Type 0
  Suffered Are actions between count server client = single.Suffered read reads moments timed b fair Are actions between count server client

  -- one that is told later, after it sent ABOR
  abbrev pub D : (Are : OfMarks) (actions : List (Action client_side)) (between : Between) (count : ℕ) (server : Stand server_side)
      (client : Stand client_side) → Type 0
  D Are actions between count server client = Drops read reads moments timed b fair Are actions between count server client

  -- or this client was told of a break where a world's was told of an end
  pub record Ends (Are : OfMarks) (actions : List (Action client_side)) (between : Between) (count : ℕ) (server : Stand server_side)
      (client : Stand client_side) : Type 0 where
    pub other : Near
    pub broke : IsBroke between client other
    pub suffered : Suffered Are actions between count server (with_view other client)

  abbrev pub Kept : (Are : OfMarks) (actions : List (Action client_side)) (between : Between) (count : ℕ) (server : Stand server_side)
      (client : Stand client_side) → Type 0
  Kept Are actions between count server client = Suffered Are actions between count server client ⊎ Ends Are actions between count server client

  -- or a world tells its client later
  abbrev pub Peeked : (Are : OfMarks) (actions : List (Action client_side)) (between : Between) (count : ℕ) (server : Stand server_side)
      (client : Stand client_side) → Type 0
  Peeked Are actions between count server client = Kept Are actions between count server client ⊎ D Are actions between count (dried server) client

  -- a world is beside what was shown to it
  pub shown_kept : {Are : OfMarks} (actions : List (Action client_side)) (between : Between) (count : ℕ) (server : Stand server_side) (client : Stand client_side)
      → Shown read reads moments timed b fair Are actions between count (dried server) client → Kept Are actions between count server client
  shown_kept {Are} actions between count server client s = by s.shows
    where
      by : IsShown between client s.shown → Kept Are actions between count server client
      by (inl same) = inl (subst (Suffered Are actions between count server) same (inl (inl s.whole)))
      by (inr broke) = inr (record {
        other = broke.0;
        broke = broke.2;
        suffered = subst (Suffered Are actions between count server) broke.1 (inl (inl s.whole));
      })

  -- it tells its client now, or later
  settles : {Are : OfMarks} (actions : List (Action client_side)) → AreCarried (begun_at moments actions) → (between : Between) (count : ℕ)
      (server : Stand server_side) (client : Stand client_side) → D Are actions between count (dried server) client → Peeked Are actions between count server client
  settles {Are} actions carried between count server client d =
      elim (drops_waits read reads moments timed b fair actions carried between count (dried server) client d) [
        | inl waits ↦ inr d
        | inr free ↦
            inl (shown_kept actions between count server client
            (drops_leave read reads moments timed b fair actions carried between count (dried server) client d free))
      ]

  -- ---- one that was told of a break where a world's was told of an end

  -- sent ABOR, so that a world is beside it
  pub ends_whole : {Are : OfMarks} (actions : List (Action client_side)) → AreCarried (begun_at moments actions) → (between : Between) (count : ℕ)
      (server : Stand server_side) (client : Stand client_side) (e : Ends Are actions between count server client)
      → Whole read reads moments timed b fair Are actions between count (dried server) (with_view e.other client)
  ends_whole {Are} actions carried between count server client e = by e.suffered
    where
      sent : is_unaborted e.other.job ≡ false
      sent = ap (λ (n : Near). is_unaborted n.job) e.broke.apart.other_is ∙ e.broke.apart.sent

      by : Suffered Are actions between count server (with_view e.other client)
          → Whole read reads moments timed b fair Are actions between count (dried server) (with_view e.other client)
      by (inl (inl o)) = o
      by (inl (inr l)) = absurd (true≢false (sym (ap (λ (n : Near). is_unaborted n.job) (l.view ∙ ap told l.loads.near)) ∙ sent))
      by (inr l) =
          absurd (true≢false (sym (ap (λ (n : Near). is_unaborted n.job)
          (steady_now read reads moments timed b fair actions carried between count server (with_view e.other client) l).is) ∙ sent))

  -- ---- an action of the client

  module _ {Are : OfMarks} (actions : List (Action client_side)) (carried : AreCarried (begun_at moments actions)) (before : List (Action server_side))
      (ports : ArePorts before)
      (p q : Between) (server : Stand server_side) (old new : Stand client_side) where
    -- none that lags sent ABOR
    lags_unaborted : single.L read reads moments timed b fair Are actions p (listened_in before) (dried server) old
        → is_unaborted old.owner.end.view.job ≡ false → ⊥
    lags_unaborted l sent = true≢false (sym (ap (λ (n : Near). is_unaborted n.job) (l.view ∙ ap told l.loads.near)) ∙ sent)

    precedes_unaborted : single.P read reads moments timed b fair Are actions p (listened_in before) server old → is_unaborted old.owner.end.view.job ≡ false → ⊥
    precedes_unaborted l sent =
        true≢false (sym (ap (λ (n : Near). is_unaborted n.job)
        (steady_now read reads moments timed b fair actions carried p (listened_in before) server old l).is) ∙ sent)

    -- it sent ABOR, and is told of a break
    aborts_on : Suffered Are actions p (listened_in before) server old → is_unaborted old.owner.end.view.job ≡ false
        → near.wants old.owner.end.view ≡ Want.Receive → ClientSuffers (Other Break) old.owner new.owner
        → Can TheClient ToldBreak p q → Calls {side = client_side} Break old new
        → Peeked (Then (Other Break) old.owner Are) (Other Break ∷ actions) q (listened_in before) server new
    aborts_on (inl (inr l)) sent wants is can did = absurd (lags_unaborted l sent)
    aborts_on (inr l) sent wants is can did = absurd (precedes_unaborted l sent)
    aborts_on (inl (inl o)) sent wants is can did =
        let channel : new.owner.channel ≡ with_fate Fates.Broken old.owner.channel = did.0.1 in
        let whole : unbroken q ≡ p = ap unbroken can.1 ∙ ap (λ h. with_hold TheClient h p) (sym can.0) in
        let same : beside old.owner new ≡ old = ap (beside old.owner) did.1 in
        let got : Again read reads moments timed b fair (Other Break ∷ actions) (unbroken q) (listened_in before) (dried server)
        (beside old.owner new) o.at.world.marks =
        subst (λ (c : Stand client_side). Again read reads moments timed b fair (Other Break ∷ actions) (unbroken q) (listened_in before)
        (dried server) c o.at.world.marks)
        (sym same)
        (subst (λ (m : Between). Again read reads moments timed b fair (Other Break ∷ actions) m (listened_in before) (dried server) old o.at.world.marks)
        (sym whole)
        (idle_again read reads moments timed b fair (Other Break) actions o.at refl refl)) in
        settles (Other Break ∷ actions) (subst AreCarried (sym (append-nil (begun_at moments actions))) carried) q (listened_in before) server new (record {
          was = old.owner;
          at = got.0;
          aborted = sent;
          wants = wants;
          view = did.0.0.0.0 is.1;
          hold = ap (λ (m : Between). m.near) can.1;
          channel = record {
            dry = broken_channel old.owner.channel new.owner.channel channel;
            takes = record { bare = λ e. ap (λ (l : Channel). l.untold) channel ∙ o.at.together.takes.bare (ap (λ (l : Channel). l.stands) (sym channel) ∙ e) };
            written = ap (λ (l : Channel). l.unwritten) channel ∙ is.0.1;
            known = ap (λ (l : Channel). is_failed l.fate) channel;
          };
          marks = o.marks;
          are_marks = (o.marks, o.are_marks, inl refl);
          are_broken = λ came. (o.marks, o.are_marks, inr (came, aborted_taken old.owner.end.view.job sent came, refl));
          marked = got.1 ∙ o.marked;
          unsent = o.unsent;
        })

    single_on : (action : Action client_side) → Suffered Are actions p (listened_in before) server old → single.ToldShort action actions old.owner
        → ClientSuffers action old.owner new.owner → CanTurn (Client action) p q → Done action old new
        → Peeked (Then action old.owner Are) (action ∷ actions) q (listened_in before) server new
    single_on action s short is can did =
        inl (inl (single.client_turn read reads moments timed b fair action actions carried before ports p q server old new s short is can did))

    -- where no Peek sent ABOR before
    suffered_on : (action : Action client_side) → Suffered Are actions p (listened_in before) server old → ShortSo action actions old.owner
        → ClientSuffers action old.owner new.owner
        → CanTurn (Client action) p q → Done action old new → Peeked (Then action old.owner Are) (action ∷ actions) q (listened_in before) server new
    suffered_on (Other Break) s (inl asks) is can did = single_on (Other Break) s (inl asks) is can did
    suffered_on (Other Break) s (inr (inl less)) is can did = single_on (Other Break) s (inr (inl less)) is can did
    suffered_on (Other Break) s (inr (inr (inl closing))) is can did = single_on (Other Break) s (inr (inr closing)) is can did
    suffered_on (Other Break) s (inr (inr (inr sent))) is can did = elim is.0.2 [
      | inl wants ↦ aborts_on s sent wants is can did
      | inr closing ↦ single_on (Other Break) s (inr (inr closing)) is can did
    ]
    suffered_on action s short is can did = single_on action s (short_on action tt actions old.owner) is can did

    -- one that was told of a break where a world's was told of an end
    module _ (e : Ends Are actions p (listened_in before) server old) where
      abbrev there : Stand client_side
      there = with_view e.other old

      -- a world is beside it
      whole_there : Whole read reads moments timed b fair Are actions p (listened_in before) (dried server) there
      whole_there = ends_whole actions carried p (listened_in before) server old e

      -- with the same marks, whatever the client holds
      remarked : (action : Action client_side) → BreaksNone action → (after : Stand client_side)
          → Whole read reads moments timed b fair (Then action there.owner Are) (action ∷ actions) q (listened_in before) (dried server) after
          → Whole read reads moments timed b fair (Then action old.owner Are) (action ∷ actions) q (listened_in before) (dried server) after
      remarked action unbroken after o = record {
        at = o.at;
        marks = o.marks;
        are_marks = (o.are_marks.0, o.are_marks.1, marks_same action unbroken there.owner old.owner o.are_marks.0 o.marks o.are_marks.2);
        marked = o.marked;
        unsent = o.unsent;
      }

      -- as it does an action, so does that
      whole_after : (action : Action client_side) → BreaksNone action → (after : Stand client_side) → IsShown q new after
          → Whole read reads moments timed b fair (Then action there.owner Are) (action ∷ actions) q (listened_in before) (dried server) after
          → Kept (Then action old.owner Are) (action ∷ actions) q (listened_in before) server new
      whole_after action unbroken after shows o =
          shown_kept (action ∷ actions) q (listened_in before) server new (record { shown = after; shows = shows; whole = remarked action unbroken after o })

      -- it leaves it
      resets_there : (left written : Option (List ℕ)) → ClientSuffers (Other (Left (Reset left written))) old.owner new.owner
          → CanTurn (Client (Other (Left (Reset left written)))) p q → Calls {side = client_side} (Left (Reset left written)) old new
          → Kept (Then (Other (Left (Reset left written))) old.owner Are) (Other (Left (Reset left written)) ∷ actions) q (listened_in before) server new
      resets_there left written is can did =
          let c : Common old.owner.end.view e.other = common old.owner.end.view e.other e.broke.apart in
          let may : MayLeave (is_operation_under_way e.other.job ≡ false) (near.wants e.other) old.owner.channel.fate =
          subst (λ w. MayLeave (is_operation_under_way e.other.job ≡ false) w old.owner.channel.fate) (sym c.wants)
          (subst (λ j. MayLeave (is_operation_under_way j ≡ false) (near.wants old.owner.end.view) old.owner.channel.fate) (sym c.job) did.0.2.0) in
          let after : Stand client_side = with_view e.other new in
          let does : Calls {side = client_side} (Left (Reset left written)) there after =
          ((ap (λ (x : Member). record x { view = e.other }) did.0.0, did.0.1, (may, did.0.2.1, tt)), ap (with_view e.other) did.1) in
          whole_after (Other (Left (Reset left written))) tt after (inr (
            e.other,
            refl,
            record {
              apart = subst (λ n. AreApart n e.other) (ap (λ (x : Member). x.view) (sym did.0.0)) e.broke.apart;
              near = ap (λ (m : Between). is_lost m.near) can.1;
              channel = λ o. both o.0 did.0.1.stands;
            },
          ))
          (resets_on read reads moments timed b fair actions carried p q (listened_in before) (dried server) there after whole_there left written is can does)

      ends_on : (action : Action client_side) → ClientSuffers action old.owner new.owner → CanTurn (Client action) p q → Done action old new
          → Kept (Then action old.owner Are) (action ∷ actions) q (listened_in before) server new
      ends_on (Other (Left (Reset left written))) is can did = resets_there left written is can did
      ends_on (Other Break) is can did = absurd (both e.broke.near (ap is_lost can.0))
      ends_on action is can did =
          let so = broke_does p q old new e.other e.broke action (is.0, is.1) did can in
          whole_after action tt so.after so.shows (single.steps_on read reads moments timed b fair actions carried p q (listened_in before)
          (dried server) there so.after
          whole_there action tt (so.is.0, so.is.1) so.is refl can so.did)

    client_on : (action : Action client_side) → Kept Are actions p (listened_in before) server old → ShortSo action actions old.owner
        → ClientSuffers action old.owner new.owner
        → CanTurn (Client action) p q → Done action old new → Peeked (Then action old.owner Are) (action ∷ actions) q (listened_in before) server new
    client_on action (inl s) short is can did = suffered_on action s short is can did
    client_on action (inr e) short is can did = inl (ends_on e action is can did)

    pub client_turn : (action : Action client_side) → Peeked Are actions p (listened_in before) server old → ShortSo action actions old.owner
        → ClientSuffers action old.owner new.owner
        → CanTurn (Client action) p q → Done action old new → Peeked (Then action old.owner Are) (action ∷ actions) q (listened_in before) server new
    client_turn action (inl k) short is can did = client_on action k short is can did
    client_turn action (inr d) short is can did =
        elim (drops_waits read reads moments timed b fair actions carried p (listened_in before) (dried server) old d) [
          | inl waits ↦ inr (drop_step read reads moments timed b fair actions carried p (listened_in before) (dried server) old d waits action q new is can did)
          | inr free ↦
              client_on action (shown_kept actions p (listened_in before) server old
              (drops_leave read reads moments timed b fair actions carried p (listened_in before) (dried server) old d free))
              short is can did
        ]

  -- ---- an action of the server

  module _ {Are : OfMarks} (actions : List (Action client_side)) (carried : AreCarried (begun_at moments actions)) (before : List (Action server_side)) (p q : Between)
      (old new : Stand server_side) (client : Stand client_side) where
    -- its client tells later still
    drops_still : (d : D Are actions p (listened_in before) (dried old) client) (count : ℕ) (next : Between)
        → Again read reads moments timed b fair actions (unbroken next) count (dried new) (beside d.was client) d.at.world.marks → next.near ≡ Has_lost
        → Peeked Are actions next count new client
    drops_still d count next got hold = settles actions carried next count new client (record {
      was = d.was;
      at = got.0;
      aborted = d.aborted;
      wants = d.wants;
      view = d.view;
      hold = hold;
      channel = d.channel;
      marks = d.marks;
      are_marks = d.are_marks;
      are_broken = d.are_broken;
      marked = got.1 ∙ d.marked;
      unsent = d.unsent;
    })

    -- it is told of a break
    drops_break : D Are actions p (listened_in before) (dried old) client → ServerYields (Other Break) old.owner new.owner → IsTold (dried old) p q
        → Calls {side = server_side} Break old new → Peeked Are actions q (listened_in before) new client
    drops_break d is can did = elim can [
      | inl sends ↦ elim (drops_waits read reads moments timed b fair actions carried p (listened_in before) (dried old) client d) [
        | inl waits ↦
            inl (inl (inl (inl (drops_told read reads moments timed b fair actions carried p q
            (listened_in before) old new client sends.0 is.1 sends.1 did d waits))))
        | inr free ↦ absurd (both (giving_there d sends.0) (ap is_giving free))
      ]
      | inr closing ↦
          let has : p.far ≡ Has = closing.1 in
          subst (λ (m : Between). Peeked Are actions m (listened_in before) new client) (sym closing.2)
          (drops_still d (listened_in before) (dropped (dried old) p)
          (told_late read reads moments timed b fair old new is.1 did closing.0 actions carried before (unbroken p) has (beside d.was client) d.at) d.hold)
    ]
      where
        giving_there : (d : D Are actions p (listened_in before) (dried old) client) → far.wants old.owner.end.server.view ≡ Want.Send
            → is_giving d.at.world.far.session.connection ≡ true
        giving_there d sends =
            sends_far read (begun_at moments actions) (dried old) (beside d.was client) (reports_in actions) d.at.world d.at.serves sends d.at.last d.at.ahead
            (unbroken p) (listened_in before) d.at.together

    drops_on : (action : Action server_side) → BreaksNot action → ArePorts (action ∷ before) → D Are actions p (listened_in before) (dried old) client
        → ServerYields action old.owner new.owner → Sees action (dried old) p q → (did : Done action old new)
        → IsToldAt action old new did (last_of moments (number_in actions)) → Peeked Are actions q (listened_in (action ∷ before)) new client
    drops_on action kept ports d is can did told =
        let step = dried_step old new action kept is.0 did in
        let there = sees_unbroken action (dried old) step.0 p q d.hold can in
        drops_still d (listened_in (action ∷ before)) q
        (server_step read reads moments timed b fair action (dried old) (dried new) step.0 is.1 actions carried before ports (unbroken p) (unbroken q) there.0
        (beside d.was client) d.at step.1 (dried_told old new action kept is.0 did (last_of moments (number_in actions)) told)) there.1

    drops_turn : (action : Action server_side) → ArePorts (action ∷ before) → D Are actions p (listened_in before) (dried old) client
        → ServerYields action old.owner new.owner → Sees action (dried old) p q → (did : Done action old new)
        → IsToldAt action old new did (last_of moments (number_in actions)) → Peeked Are actions q (listened_in (action ∷ before)) new client
    drops_turn (Other Break) ports d is can did told = drops_break d is can did
    drops_turn action ports d is can did told = drops_on action tt ports d is can did told

    pub server_turn : (action : Action server_side) → ArePorts (action ∷ before) → Peeked Are actions p (listened_in before) old client
        → ToldAfter action actions p old.owner → ServerYields action old.owner new.owner → Sees action (dried old) p q → q.near ≡ p.near → (did : Done action old new)
        → IsToldAt action old new did (last_of moments (number_in actions)) → Peeked Are actions q (listened_in (action ∷ before)) new client
    server_turn action ports (inl (inl s)) after is can near did told =
        inl (inl (single.server_turn read reads moments timed b fair action actions carried before ports p q old new client s after is can did told))
    server_turn action ports (inl (inr e)) after is can near did told =
        inl (inr (record {
          other = e.other;
          broke = record { apart = e.broke.apart; near = ap is_lost near ∙ e.broke.near; channel = e.broke.channel };
          suffered = single.server_turn read reads moments timed b fair action actions carried before ports p q old new (with_view e.other client) e.suffered after
              is can did told;
        }))
    server_turn action ports (inr d) after is can near did told = drops_turn action ports d is can did told

  -- octets are unwritten only where it has a data connection
  pub peeked_spare : {Are : OfMarks} (actions : List (Action client_side)) (between : Between) (count : ℕ) (server : Stand server_side) (client : Stand client_side)
      → Peeked Are actions between count server client → is_had between.far ≡ false → (dried server).owner.channel.unwritten ≡ []
  peeked_spare {Are} actions between count server client (inl (inl s)) = spare_now read reads moments timed b fair actions between count server client s
  peeked_spare {Are} actions between count server client (inl (inr e)) =
      spare_now read reads moments timed b fair actions between count server (with_view e.other client) e.suffered
  peeked_spare {Are} actions between count server client (inr d) = d.at.together.serves.spare
