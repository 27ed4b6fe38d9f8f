-- Two drives of which a download's data connection breaks, as a list of a world's events: action by action.
use Rattle.std.specs.Prelude.{⊤}
use Rattle.std.proofs.Common.{◌≡◌, ◌⊎◌, inl, inr, ℕ, true, false, true≢false, List, [], ◌∷◌, Option, refl, sym, ap, subst, ◌∙◌, append-nil}
use Rattle.ftp_ports.specs.Asking.{Reset}
use Rattle.ftp_ports.specs.Actions.{Calls, Action, Done, Led, Other, Stand}
use Rattle.ftp_ports.specs.Channel.{Channel, with_fate}
use Rattle.ftp_ports.specs.Machine.{Aside, Break, Left, Listening}
use Rattle.ftp_ports.specs.declared.whole.Fate.TheVariants as Fates
use Rattle.ftp_client_driver.specs.Side.{Starting, client_side}
use Rattle.ftp_client_model.specs.Calls as near
use Rattle.ftp_client_model.specs.Calls.{data_fault, is_sound}
use Rattle.ftp_client_model.specs.View.{Transfer, View as Near}
use Rattle.ftp_ends.specs.declared.link.Wants.TheVariants as Want
use Rattle.ftp_operation.specs.declared.op.Op.{Op}
use Rattle.ftp_server_driver.specs.alone.Side.{server_side}
use Rattle.ftp_server_model.specs.Calls as far
use Rattle.ftp_server_model.specs.Machine.{IsReading, Reading}
use Rattle.laws_world.specs.Claims.{Beginning, IsFair}
use Rattle.laws_world.specs.World.{Broken, Mark, World, marked_last}
use Rattle.laws_drivers.specs.control.Alone.{ServerIsCalm, reports_in}
use Rattle.laws_drivers.specs.events.Moments.{AreMoments, IsToldAt, begun_at, begun_by, last_of, number_in}
use Rattle.laws_drivers.specs.control.Between.{Between, Can, CanTurn, Client, Far as TheServer, Has, Has_lost, Near as TheClient, with_hold}
use Rattle.laws_drivers.specs.control.Touches.{ToldBreak}
use Rattle.laws_drivers.specs.events.Actions.{ArePorts, listened_in}
use Rattle.laws_drivers.proofs.events.FarForms.{no_close}
use Rattle.laws_drivers.proofs.events.Fresh.{Fresh}
use Rattle.laws_drivers.proofs.events.Holding.{both, is_called, is_had}
use Rattle.laws_drivers.proofs.events.Plain.{IsPlainBy, IsPlainly}
use Rattle.laws_drivers.proofs.events.Stands.{ClientFetches}
use Rattle.laws_transfers.specs.Refusals.{ClientTries, marked_by}
use Rattle.laws_transfers.proofs.Called.{BreaksNone, StaysFresh}
use Rattle.laws_transfers.proofs.ClientGiving.{gave_by}
use Rattle.laws_transfers.proofs.ClientRefused.{refused_plain}
use Rattle.laws_transfers.proofs.ClientStays.{client_resets}
use Rattle.laws_transfers.proofs.Known.{AreCarried, Known, both_carried, is_near_held}
use Rattle.laws_transfers.proofs.Lost.{with_lost}
use Rattle.laws_transfers.proofs.Simulating.{asks, known, never}
use Rattle.ftp_server_model.specs.declared.session.ServerLink.TheVariants as Data
use Rattle.laws_breaks.specs.downloads.Actions.{AsksAll, ClientSuffers, HasTaken, IsShort, IsToldAfter, MayMarkBreak, ServerYields, SuffersAlong}
use Rattle.laws_breaks.proofs.downloads.BothTold.{told_after, told_first, told_last}
use Rattle.laws_breaks.proofs.downloads.ClientBroken.{broken_closing, broken_channel, broken_plain, broken_sound, client_broken, closing_by, closing_plain, closing_sound}
use Rattle.laws_breaks.proofs.downloads.Drained.{BreaksNot, IsLone, dried, dried_step, dried_told}
use Rattle.laws_breaks.proofs.downloads.Faults.{Loads, faulted_plain, loads_taken}
use Rattle.laws_breaks.proofs.downloads.Feeding.{Feeding, is_final}
use Rattle.laws_breaks.proofs.downloads.Following.{follows}
use Rattle.laws_breaks.proofs.downloads.Lagging.{Lags, Leftover, OfMarks, Then, Whole, beside, feeding_few, feeds, is_failed, lag_step, leaves, unbroken}
use Rattle.laws_breaks.proofs.downloads.Last.{AreFew, actions_all, last_few, short_few}
use Rattle.laws_breaks.proofs.downloads.Preceding.{Precedes, opened_at, asks_none, precede_server}
use Rattle.laws_breaks.proofs.downloads.Steps.{Again, again, client_step, idle_same, server_step, told_late}
use Rattle.laws_breaks.proofs.downloads.Seen.{IsTold, Sees, dropped, sees_fresh}
use Rattle.laws_breaks.proofs.downloads.Unbroken.{sees_unbroken}
use Rattle.laws_breaks.proofs.downloads.Unsent.{Unsent, near_unsent, reset_fresh}
use Rattle.laws_breaks.proofs.downloads.Untold.{Loading, fault_told, loading_of, loads_of}

-- ---- what was begun

-- an action begins an operation as where none breaks, or nothing
by_carried : (moment : ℕ) (action : Action client_side) (old new : client_side.End) → ClientSuffers action old new → AreCarried (begun_by moment action)
by_carried moment (Other (Aside (Starting op))) old new is = (is.0.0.0, tt)
by_carried moment action old new is = tt

-- so all actions do
pub in_carried : (moments : ℕ → ℕ) (actions : List (Action client_side)) (start now : Stand client_side) (led : Led actions start now)
    → SuffersAlong actions start now led → AreCarried (begun_at moments actions)
in_carried moments [] start now led gives = tt
in_carried moments (action ∷ before) start now led gives =
    both_carried (begun_at moments before) (begun_by (moments (number_in before)) action) (in_carried moments before start led.0 led.1 gives.0)
    (by_carried (moments (number_in before)) action led.0.owner now.owner gives.1)

-- a client is told of a break before it sent ABOR, or as it is to close
abbrev pub IsShortStill : Action client_side → client_side.End → Type 0
IsShortStill (Other Break) at = IsShort at.end.view.job ⊎ (at.end.view.closing ≡ true)
IsShortStill action at = ⊤

-- what a client, and a server, of a Peek is told
abbrev pub ToldShort : Action client_side → List (Action client_side) → client_side.End → Type 0
ToldShort action actions at = AsksAll actions ⊎ IsShortStill action at

abbrev pub ToldAfter : Action server_side → List (Action client_side) → Between → server_side.End → Type 0
ToldAfter action actions between at = AsksAll actions ⊎ IsToldAfter action between at

-- as a world sees what lies between
pub seen_after : (action : Action server_side) (actions : List (Action client_side)) (at : server_side.End) (between seen : Between) → seen.near ≡ between.near
    → ToldAfter action actions between at → ToldAfter action actions seen at
seen_after action actions at between seen same (inl asks) = inl asks
seen_after (Other Break) actions at between seen same (inr (inl lost)) = inr (inl (same ∙ lost))
seen_after (Other Break) actions at between seen same (inr (inr closing)) = inr (inr closing)
seen_after action actions at between seen same (inr is) = inr tt

-- where none is lost
none_lost : (octets : List ℕ) (m : Between) → octets ≡ [] → with_lost octets m ≡ m
none_lost octets m none =
    ap (λ o. with_lost o m) none ∙ ap (λ t. record m { data_ways = record m.data_ways { to_client = t } }) (append-nil m.data_ways.to_client)

module _ (read : Reading) (reads : IsReading read) (moments : ℕ → ℕ) (timed : AreMoments moments) (b : Beginning) (fair : IsFair b) where
  abbrev pub W : (Are : OfMarks) (actions : List (Action client_side)) (between : Between) (count : ℕ) (server : Stand server_side)
      (client : Stand client_side) → Type 0
  W Are actions between count server client = Whole read reads moments timed b fair Are actions between count server client

  abbrev pub L : (Are : OfMarks) (actions : List (Action client_side)) (between : Between) (count : ℕ) (server : Stand server_side)
      (client : Stand client_side) → Type 0
  L Are actions between count server client = Lags read reads moments timed b fair Are actions between count server client

  abbrev pub P : (Are : OfMarks) (actions : List (Action client_side)) (between : Between) (count : ℕ) (server : Stand server_side)
      (client : Stand client_side) → Type 0
  P Are actions between count server client = Precedes read reads moments timed b fair Are actions between count server client

  -- a world is beside both drives, or beside the server's and a client that was not told of a break
  abbrev pub Lone : (Are : OfMarks) (actions : List (Action client_side)) (between : Between) (count : ℕ) (server : Stand server_side)
      (client : Stand client_side) → Type 0
  Lone Are actions between count server client = W Are actions between count server client ⊎ L Are actions between count server client

  -- so it is of the server's as if it had nothing unwritten of what it was told that it broke; or the server was told first
  abbrev pub Suffered : (Are : OfMarks) (actions : List (Action client_side)) (between : Between) (count : ℕ) (server : Stand server_side)
      (client : Stand client_side) → Type 0
  Suffered Are actions between count server client = Lone Are actions between count (dried server) client ⊎ P Are actions between count server client

  -- ---- an action of the client, where a world is beside both

  module _ {Are : OfMarks} (actions : List (Action client_side)) (carried : AreCarried (begun_at moments actions)) (p q : Between) (count : ℕ)
      (server : Stand server_side) (old new : Stand client_side) (o : W Are actions p count server old) where
    abbrev w : World
    w = o.at.world

    abbrev v : Near
    v = old.owner.end.view

    old_asks : ClientFetches old.owner
    old_asks = asks read reads moments timed b fair actions p count server old _ o.at carried

    old_known : Known w
    old_known = known read reads moments timed b fair actions p count server old _ o.at carried

    -- it goes on beside both
    on : (action : Action client_side) (marks : List (List Mark)) → MayMarkBreak action old.owner o.marks marks → (m : List (List Mark)) → m ≡ marks
        → Again read reads moments timed b fair (action ∷ actions) q count server new m → IsPlainBy Unsent new.owner.end.view
        → W (Then action old.owner Are) (action ∷ actions) q count server new
    on action marks marked m same got unsent =
        record { at = got.0; marks = marks; are_marks = (o.marks, o.are_marks, marked); marked = got.1 ∙ same; unsent = unsent }

    -- it sends no ABOR, where it is told of no break
    stays_unsent : (action : Action client_side) → BreaksNone action → ClientSuffers action old.owner new.owner → Done action old new
        → IsPlainBy Unsent new.owner.end.view
    stays_unsent action unbroken is did =
        near_unsent old new action unbroken is o.unsent
        (λ some octets rest gave. gave_by read (begun_at moments actions) server old new (reports_in actions) w is.1 o.at.serves old_asks old_known some octets rest
        o.at.last o.at.ahead p count gave o.at.together Unsent (λ op transfer unsent none all. unsent) o.unsent)
        (λ endpoint refused. refused_plain read (begun_at moments actions) server old new (reports_in actions) w is.1 o.at.serves old_asks o.at.plain.run old_known
        endpoint o.at.last o.at.ahead p count refused Unsent) did

    -- it resets what it has
    pub resets_on : (left written : Option (List ℕ)) → ClientSuffers (Other (Left (Reset left written))) old.owner new.owner
        → CanTurn (Client (Other (Left (Reset left written)))) p q
        → Done (Other (Left (Reset left written))) old new → W (Then (Other (Left (Reset left written))) old.owner Are)
        (Other (Left (Reset left written)) ∷ actions) q count server new
    resets_on left written is can did =
        on (Other (Left (Reset left written))) o.marks refl w.marks o.marked
        (again read reads moments timed b fair (Other (Left (Reset left written))) actions o.at w.marks q new
        (client_resets read (begun_at moments actions) server old new (reports_in actions) w is.1 old_known old_asks
        (never read reads moments timed b fair old o.at.plain o.at.sound w.link) left written o.at.last o.at.ahead p q count o.at.together did is.0 can)
        (ap (λ c. is_sound c.view.standing) did.0.0 ∙ o.at.sound) (subst (λ c. IsPlainly c.view) (sym did.0.0) o.at.plain)
        (reset_fresh old new p q left written o.at.fresh did can)) (stays_unsent (Other (Left (Reset left written))) tt is did)

    -- it is told of a break
    module _ (is : ClientSuffers (Other Break) old.owner new.owner) (can : Can TheClient ToldBreak p q) (did : Calls {side = client_side} Break old new) where
      channel : new.owner.channel ≡ with_fate Fates.Broken old.owner.channel
      channel = did.0.1

      left : Leftover new.owner.channel
      left = record {
        dry = broken_channel old.owner.channel new.owner.channel channel;
        takes = record { bare = λ e. ap (λ (l : Channel). l.untold) channel ∙ o.at.together.takes.bare (ap (λ (l : Channel). l.stands) (sym channel) ∙ e) };
        written = ap (λ (l : Channel). l.unwritten) channel ∙ is.0.1;
        known = ap (λ (l : Channel). is_failed l.fate) channel;
      }

      now_is : new.owner.end.view ≡ data_fault v
      now_is = did.0.0.0.0 is.1

      -- nothing comes to it while its server was only dialled
      broken_fresh : (IsPlainBy Fresh v → IsPlainBy Fresh new.owner.end.view) → StaysFresh q new
      broken_fresh plain called =
          let f = o.at.fresh (ap is_called (sym (ap (λ (m : Between). m.far) can.1)) ∙ called) in
          record {
            plain = plain f.plain;
            untold = ap (λ (l : Channel). l.untold) channel ∙ f.untold;
            none = ap (λ (m : Between). m.data_ways.to_client) can.1 ∙ f.none;
          }

      -- it keeps what it keeps of its transfer
      faulted_now : (Kept : Op (List ℕ) → Transfer → Type 0) → Loads v → IsPlainBy Kept v → IsPlainBy Kept new.owner.end.view
      faulted_now Kept loads p = subst (IsPlainBy Kept) (sym now_is) (faulted_plain Kept v loads p)

      -- as it is to close anyway
      breaks_closing : v.closing ≡ true → W (Then (Other Break) old.owner Are) (Other Break ∷ actions) q count server new
      breaks_closing closing =
          on (Other Break) o.marks (inl refl) w.marks o.marked
          (again read reads moments timed b fair (Other Break) actions o.at w.marks q new
          (broken_closing read (begun_at moments actions) server old new (reports_in actions) w o.at.serves old_asks o.at.plain old_known is.1 did closing o.at.last
          o.at.ahead p q count o.at.together can is.0.1)
          (closing_sound read (begun_at moments actions) server old new (reports_in actions) w o.at.serves old_asks o.at.plain old_known is.1 did closing)
          (closing_plain read (begun_at moments actions) server old new (reports_in actions) w o.at.serves old_asks o.at.plain old_known is.1 did closing)
          (broken_fresh (closing_by read (begun_at moments actions) server old new (reports_in actions) w o.at.serves old_asks o.at.plain old_known is.1 did closing
          Fresh)))
          (closing_by read (begun_at moments actions) server old new (reports_in actions) w o.at.serves old_asks o.at.plain old_known is.1 did closing Unsent
          o.unsent)

      -- as the server has let it go
      breaks_late : HasTaken v.job w.came → near.wants v ≡ Want.Receive → Loads v → w.far.session.connection ≡ Data.Free
          → W (Then (Other Break) old.owner Are) (Other Break ∷ actions) q count server new
      breaks_late taken wants loads free =
          let unheard = ap (λ (y : Stand client_side). y.unheard) did.1 in
          let control = ap (λ (m : Between). m.control) can.1 in
          let hold = ap (λ (m : Between). m.far) can.1 in
          let ways = ap (λ (m : Between). m.data_ways.to_server) can.1 in
          on (Other Break) (marked_last (Broken w.came) o.marks) (inr (w.came, taken, refl)) (marked_last (Broken w.came) w.marks)
          (ap (marked_last (Broken w.came)) o.marked)
          (again read reads moments timed b fair (Other Break) actions o.at (marked_last (Broken w.came) w.marks) q new
          (client_broken read (begun_at moments actions) server old new (reports_in actions) w o.at.serves old_asks o.at.plain old_known o.at.last o.at.ahead p q
          count o.at.together now_is unheard control hold ways left.dry left.takes left.written free wants loads)
          (broken_sound read (begun_at moments actions) server old new (reports_in actions) w o.at.serves old_asks o.at.plain old_known o.at.last o.at.ahead p q
          count o.at.together now_is unheard control hold ways left.dry left.takes left.written free wants loads)
          (broken_plain read (begun_at moments actions) server old new (reports_in actions) w o.at.serves old_asks o.at.plain old_known o.at.last o.at.ahead p q
          count o.at.together now_is unheard control hold ways left.dry left.takes left.written free wants loads)
          (broken_fresh (faulted_now Fresh loads))) (faulted_now Unsent loads o.unsent)

      -- while the server has not: a world tells its client later
      breaks_early : Loading v → L (Then (Other Break) old.owner Are) (Other Break ∷ actions) q count server new
      breaks_early loads =
          let whole : unbroken q ≡ p = ap unbroken can.1 ∙ ap (λ h. with_hold TheClient h p) (sym can.0) in
          let got =
          idle_same read reads moments timed b fair (Other Break) actions o.at (unbroken q) (beside old.owner new) (ap (beside old.owner) did.1) whole refl
          refl in
          record {
            was = old.owner;
            at = got.0;
            loads = loads;
            view = now_is ∙ fault_told v loads;
            hold = ap (λ (m : Between). m.near) can.1;
            channel = left;
            marks = o.marks;
            are_marks = (o.marks, o.are_marks, inl refl);
            are_broken = λ came has. (o.marks, o.are_marks, inr (came, has, refl));
            marked = got.1 ∙ o.marked;
            unsent = o.unsent;
            fresh = broken_fresh (faulted_now Fresh (loads_of v loads));
          }

      breaks_on : ToldShort (Other Break) actions old.owner → Lone (Then (Other Break) old.owner Are) (Other Break ∷ actions) q count server new
      breaks_on short = elim is.0.2 [
        | inr closing ↦ inl (breaks_closing closing)
        | inl wants ↦ elim short [
          | inl asks ↦ on_few wants (last_few (begun_at moments actions) v.job (actions_all moments actions asks))
          | inr other ↦ elim other [
            | inl less ↦ on_few wants (short_few (begun_at moments actions) v.job less)
            | inr closing ↦ inl (breaks_closing closing)
          ]
        ]
      ]
        where
          by : near.wants v ≡ Want.Receive → (w.near ≡ v) × Feeding (begun_at moments actions) w
              → Lone (Then (Other Break) old.owner Are) (Other Break ∷ actions) q count server new
          by wants f =
              let there = subst Loads f.0 f.1.loads in
              let taken : HasTaken v.job w.came = subst (λ (n : Near). HasTaken n.job w.came) f.0 (loads_taken w.near f.1.loads w.came f.1.read) in
              elim f.1.far [
                | inl free ↦ inl (breaks_late taken wants there free)
                | inr going ↦
                    let loads = subst (λ (n : Near). (l : Loads n) × (is_final l.replied ≡ false)) f.0 (f.1.loads, going.0) in
                    inr (breaks_early (loading_of v loads.0 loads.1))
              ]

          on_few : near.wants v ≡ Want.Receive → AreFew (begun_at moments actions) v.job
              → Lone (Then (Other Break) old.owner Are) (Other Break ∷ actions) q count server new
          on_few wants few = by wants (feeding_few read reads moments timed b fair actions carried p count server old o.at few o.unsent wants)

    -- as where none breaks
    pub steps_on : (action : Action client_side) → BreaksNone action → ClientSuffers action old.owner new.owner → ClientTries action old.owner new.owner
        → MayMarkBreak action old.owner o.marks (marked_by action o.marks) → CanTurn (Client action) p q → Done action old new
        → W (Then action old.owner Are) (action ∷ actions) q count server new
    steps_on action unbroken is tries marks can did =
        on action (marked_by action o.marks) marks (marked_by action w.marks) (ap (marked_by action) o.marked)
        (client_step read reads moments timed b fair action unbroken old new tries actions carried p q can count server o.at did)
        (stays_unsent action unbroken is did)

    pub whole_step : (action : Action client_side) → ToldShort action actions old.owner → ClientSuffers action old.owner new.owner → CanTurn (Client action) p q
        → Done action old new → Lone (Then action old.owner Are) (action ∷ actions) q count server new
    whole_step (Other (Left (Reset left written))) short is can did = inl (resets_on left written is can did)
    whole_step (Other Break) short is can did = breaks_on is can did short
    whole_step action short is can did = inl (steps_on action tt is (is.0, is.1) refl can did)

  -- ---- one after another

  -- an action of the client
  lone_client : {Are : OfMarks} (action : Action client_side) (actions : List (Action client_side)) → AreCarried (begun_at moments actions) → (p q : Between)
      (count : ℕ) (server : Stand server_side) (old new : Stand client_side) → Lone Are actions p count server old → ToldShort action actions old.owner
      → ClientSuffers action old.owner new.owner → CanTurn (Client action) p q → Done action old new
      → Lone (Then action old.owner Are) (action ∷ actions) q count server new
  lone_client {Are} action actions carried p q count server old new (inl o) short is can did =
      whole_step actions carried p q count server old new o action short is can did
  lone_client {Are} action actions carried p q count server old new (inr l) short is can did =
      elim (feeds read reads moments timed b fair actions carried p count server old l).far [
        | inl free ↦
            whole_step actions carried p q count server old new (leaves read reads moments timed b fair actions carried p count server old l free) action short is
            can did
        | inr going ↦ inr (lag_step read reads moments timed b fair actions carried p count server old l action q new is can did going.1)
      ]

  -- so it is where the server was told first
  pub client_turn : {Are : OfMarks} (action : Action client_side) (actions : List (Action client_side)) → AreCarried (begun_at moments actions)
      → (before : List (Action server_side))
      → ArePorts before → (p q : Between) (server : Stand server_side) (old new : Stand client_side) → Suffered Are actions p (listened_in before) server old
      → ToldShort action actions old.owner → ClientSuffers action old.owner new.owner → CanTurn (Client action) p q → Done action old new
      → Suffered (Then action old.owner Are) (action ∷ actions) q (listened_in before) server new
  client_turn {Are} action actions carried before ports p q server old new (inl o) short is can did =
      inl (lone_client action actions carried p q (listened_in before) (dried server) old new o short is can did)
  client_turn {Are} action actions carried before ports p q server old new (inr l) short is can did = by action is can did
    where
      by : (action : Action client_side) → ClientSuffers action old.owner new.owner → CanTurn (Client action) p q → Done action old new
          → Suffered (Then action old.owner Are) (action ∷ actions) q (listened_in before) server new
      by (Other Break) is can did =
          inl (inl (told_last read reads moments timed b fair actions carried before ports p q server old new l is can did))
      by action is can did = inr (follows read reads moments timed b fair actions carried p (listened_in before) server old l action tt q new is can did)

  -- the client was told, and its world's was not: it lags on, or its world's is told now
  lags_still : {Are : OfMarks} (actions : List (Action client_side)) → AreCarried (begun_at moments actions)
      → (p q : Between) (told count : ℕ) (old new : Stand server_side)
      (client : Stand client_side) (l : L Are actions p told old client)
      → Again read reads moments timed b fair actions (unbroken q) count new (beside l.was client) l.at.world.marks → q.near ≡ Has_lost → StaysFresh q client
      → Lone Are actions q count new client
  lags_still {Are} actions carried p q told count old new client l got hold fresh = by (record {
    was = l.was;
    at = got.0;
    loads = l.loads;
    view = l.view;
    hold = hold;
    channel = l.channel;
    marks = l.marks;
    are_marks = l.are_marks;
    are_broken = l.are_broken;
    marked = got.1 ∙ l.marked;
    unsent = l.unsent;
    fresh = fresh;
  })
    where
      by : L Are actions q count new client → Lone Are actions q count new client
      by l = elim (feeds read reads moments timed b fair actions carried q count new client l).far [
        | inl free ↦ inl (leaves read reads moments timed b fair actions carried q count new client l free)
        | inr going ↦ inr l
      ]

  -- an action of the server that is told of no break
  lone_server : {Are : OfMarks} (action : Action server_side) (actions : List (Action client_side)) → AreCarried (begun_at moments actions)
      → (before : List (Action server_side))
      → ArePorts (action ∷ before) → (p q : Between) (old new : Stand server_side) (client : Stand client_side) → Lone Are actions p (listened_in before) old client
      → IsLone action old.owner → ServerIsCalm old.owner new.owner → Sees action old p q → (did : Done action old new)
      → IsToldAt action old new did (last_of moments (number_in actions)) → Lone Are actions q (listened_in (action ∷ before)) new client
  lone_server {Are} action actions carried before ports p q old new client (inl o) is calm can did told =
      let got = server_step read reads moments timed b fair action old new is calm actions carried before ports p q can client
      o.at did told in
      inl (record { at = got.0; marks = o.marks; are_marks = o.are_marks; marked = got.1 ∙ o.marked; unsent = o.unsent })
  lone_server {Are} action actions carried before ports p q old new client (inr l) is calm can did told =
      let there = sees_unbroken action old is p q l.hold can in
      let got = server_step read reads moments timed b fair action old new is calm actions carried before ports (unbroken p)
      (unbroken q) there.0 (beside l.was client) l.at did told in
      lags_still actions carried p q (listened_in before) (listened_in (action ∷ before)) old new client l got there.1
      (sees_fresh action old is p q client l.fresh can)

  -- one that is told of the break of what is to close
  lone_late : {Are : OfMarks} (actions : List (Action client_side)) → AreCarried (begun_at moments actions) → (before : List (Action server_side)) (p : Between)
      (old new : Stand server_side) (client : Stand client_side) → Lone Are actions p (listened_in before) (dried old) client → ServerIsCalm old.owner new.owner
      → old.owner.end.server.view.session.closing ≡ true → p.far ≡ Has → Calls {side = server_side} Break old new
      → Lone Are actions (dropped (dried old) p) (listened_in before) (dried new) client
  lone_late {Are} actions carried before p old new client (inl o) calm closing has did =
      let got = told_late read reads moments timed b fair old new calm did closing actions carried before p has client o.at in
      inl (record { at = got.0; marks = o.marks; are_marks = o.are_marks; marked = got.1 ∙ o.marked; unsent = o.unsent })
  lone_late {Are} actions carried before p old new client (inr l) calm closing has did =
      let got = told_late read reads moments timed b fair old new calm did closing actions carried before (unbroken p) has
      (beside l.was client) l.at in
      lags_still actions carried p (dropped (dried old) p) (listened_in before) (listened_in before) (dried old) (dried new) client l got l.hold
      (λ called. absurd (true≢false (sym called)))

  -- where a world is beside the server as if it had nothing unwritten of what it was told that it broke
  module _ {Are : OfMarks} (actions : List (Action client_side)) (carried : AreCarried (begun_at moments actions)) (before : List (Action server_side)) (p q : Between)
      (old new : Stand server_side) (client : Stand client_side) (o : Lone Are actions p (listened_in before) (dried old) client) where
    -- it is told of a break while it gives
    told_giving : ToldAfter (Other Break) actions p old.owner → (far.wants old.owner.end.server.view ≡ Want.Send) × ServerIsCalm old.owner new.owner
        → Can TheServer ToldBreak p q → Calls {side = server_side} Break old new → Lone Are actions p (listened_in before) (dried old) client
        → Suffered Are actions q (listened_in before) new client
    told_giving (inl asks) is can did (inl w) =
        inr (told_first read reads moments timed b fair actions carried p q (listened_in before) old new client is can did (actions_all moments actions asks) w)
    told_giving (inr (inl lost)) is can did (inl w) =
        let opened = opened_at read reads moments timed b fair actions carried p (listened_in before) (dried old) client w.at is.0 in
        absurd (both (w.at.together.keeping.had (ap is_near_held opened)) (ap is_had lost))
    told_giving (inr (inr closing)) is can did (inl w) =
        absurd (both closing (no_close old.owner.end.server.view Want.Send is.0 refl))
    told_giving after is can did (inr l) =
        inl (inl (told_after read reads moments timed b fair actions carried p q (listened_in before) old new client is can did l))

    -- or once that is to close
    told_of_it : ToldAfter (Other Break) actions p old.owner → ServerYields (Other Break) old.owner new.owner → IsTold (dried old) p q
        → Calls {side = server_side} Break old new → Suffered Are actions q (listened_in before) new client
    told_of_it after is can did = elim can [
      | inl sends ↦ told_giving after (sends.0, is.1) sends.1 did o
      | inr closing ↦
          subst (λ (m : Between). Suffered Are actions m (listened_in before) new client) (sym closing.2)
          (inl (lone_late actions carried before p old new client o is.1 closing.0 closing.1 did))
    ]

    -- an action but that
    goes_on : (action : Action server_side) → BreaksNot action → ArePorts (action ∷ before) → ServerYields action old.owner new.owner → Sees action (dried old) p q
        → (did : Done action old new) → IsToldAt action old new did (last_of moments (number_in actions))
        → Suffered Are actions q (listened_in (action ∷ before)) new client
    goes_on action kept ports is can did told =
        let step = dried_step old new action kept is.0 did in
        inl (lone_server action actions carried before ports p q (dried old) (dried new) client o step.0 is.1 can step.1
        (dried_told old new action kept is.0 did (last_of moments (number_in actions)) told))

    lone_turn : (action : Action server_side) → ToldAfter action actions p old.owner → ArePorts (action ∷ before) → ServerYields action old.owner new.owner
        → Sees action (dried old) p q → (did : Done action old new) → IsToldAt action old new did (last_of moments (number_in actions))
        → Suffered Are actions q (listened_in (action ∷ before)) new client
    lone_turn (Other Break) after ports is can did told = told_of_it after is can did
    lone_turn action after ports is can did told = goes_on action tt ports is can did told

  -- where the server was told first
  module _ {Are : OfMarks} (actions : List (Action client_side)) (carried : AreCarried (begun_at moments actions)) (before : List (Action server_side)) (p q : Between)
      (old new : Stand server_side) (client : Stand client_side) (l : P Are actions p (listened_in before) old client) where
    lost_not : p.far ≡ Has → ⊥
    lost_not has = true≢false (ap is_had (sym has ∙ l.hold))

    precede_turn : (action : Action server_side) → ServerYields action old.owner new.owner → Sees action (dried old) p q → Done action old new
        → Suffered Are actions q (listened_in (action ∷ before)) new client
    precede_turn (Other (Listening port)) is can did =
        absurd (asks_none read reads moments timed b fair actions carried p (listened_in before) old client l port new did)
    precede_turn (Other Break) is can did = absurd (elim can [
      | inl sends ↦ lost_not sends.1.0
      | inr closing ↦ lost_not closing.1
    ])
    precede_turn (Other (Left (Reset left written))) is can did =
        inr (precede_server read reads moments timed b fair actions carried p (listened_in before) old client l (Other (Left (Reset left written))) q new is
        (can.0, can.1 ∙ none_lost (dried old).owner.channel.unwritten (with_hold TheServer Has_lost p) l.none) did)
    precede_turn action is can did =
        inr (precede_server read reads moments timed b fair actions carried p (listened_in before) old client l action q new is can did)

  -- an action of the server, as a world sees it
  pub server_turn : {Are : OfMarks} (action : Action server_side) (actions : List (Action client_side)) → AreCarried (begun_at moments actions)
      → (before : List (Action server_side))
      → ArePorts (action ∷ before) → (p q : Between) (old new : Stand server_side) (client : Stand client_side)
      → Suffered Are actions p (listened_in before) old client → ToldAfter action actions p old.owner
      → ServerYields action old.owner new.owner → Sees action (dried old) p q → (did : Done action old new)
      → IsToldAt action old new did (last_of moments (number_in actions)) → Suffered Are actions q (listened_in (action ∷ before)) new client
  server_turn {Are} action actions carried before ports p q old new client (inl o) after is can did told =
      lone_turn actions carried before p q old new client o action after ports is can did told
  server_turn {Are} action actions carried before ports p q old new client (inr l) after is can did told =
      precede_turn actions carried before p q old new client l action is can did

  -- octets are unwritten only where it has a data connection
  pub spare_now : {Are : OfMarks} (actions : List (Action client_side)) (between : Between) (count : ℕ) (server : Stand server_side) (client : Stand client_side)
      → Suffered Are actions between count server client → is_had between.far ≡ false → (dried server).owner.channel.unwritten ≡ []
  spare_now {Are} actions between count server client (inl (inl o)) = o.at.together.serves.spare
  spare_now {Are} actions between count server client (inl (inr l)) = l.at.together.serves.spare
  spare_now {Are} actions between count server client (inr p) = λ e. p.none
