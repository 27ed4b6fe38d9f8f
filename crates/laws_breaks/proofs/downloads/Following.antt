-- What a client does after its server was told of a break, until it is told itself: it reads and hears what the server says, and takes the octets that came.
use Rattle.std.proofs.Common.{◌≡◌, ◌⊎◌, inl, inr, ℕ, ◌<◌, Bool, true, false, true≢false, List, [], ◌∷◌, ◌++◌, length, take, drop, Option, Some, None, refl, sym, ap, ap₂, subst, ◌∙◌, append_assoc, append-nil, take-append-drop, arith}
use Rattle.std.proofs.Math.Seq.{take-nil, drop-nil}
use Rattle.ftp_ports.specs.Asking.{Asked, Connected, Ended as EndedBy, NotConnected, Reset, Shut}
use Rattle.ftp_ports.specs.Actions.{Calls, Action, Done, Heard, HearsNext, Other, Read, Said as Says, Says as SaysNext, Stand}
use Rattle.ftp_ports.specs.Channel.{Channel}
use Rattle.ftp_ports.specs.Machine.{Aside, Break, Closed, End, Failed, Gave, Got, Left, LetGo, MayLeave, Opened, Received, Refused, Waited, Wrote, awaits, leaves, seen}
use Rattle.ftp_ports.specs.declared.whole.Fate.{Fate}
use Rattle.ftp_ports.specs.declared.whole.Fate.TheVariants as Fates
use Rattle.ftp_client_driver.specs.Side.{Reporting, Starting, client_side, is_operation_under_way}
use Rattle.ftp_client_model.specs.Calls as near
use Rattle.ftp_client_model.specs.Calls.{hears, is_sound, may_hear, receives}
use Rattle.ftp_client_model.specs.Plan.{count_of}
use Rattle.ftp_client_model.specs.View.{View as Near}
use Rattle.ftp_client_model.proofs.RepliesInFlight.{in_pieces}
use Rattle.ftp_ends.specs.declared.link.Wants.{Wants}
use Rattle.ftp_ends.specs.declared.link.Wants.TheVariants as Want
use Rattle.ftp_operation.specs.Answer.{Said}
use Rattle.ftp_server_driver.specs.alone.Side.{server_side}
use Rattle.ftp_server_model.specs.Machine.{IsReading, Reading}
use Rattle.laws_world.specs.Claims.{Beginning, IsFair}
use Rattle.laws_world.specs.World.{Mark, World}
use Rattle.laws_agreement.proofs.Chunks.{cuts}
use Rattle.laws_drivers.proofs.world.Moves.{take_front}
use Rattle.laws_drivers.specs.control.Alone.{reports_of}
use Rattle.laws_drivers.specs.events.Moments.{AreMoments, begun_at, begun_by, number_in}
use Rattle.laws_drivers.specs.control.Between.{Between, CanTurn, Client as ByClient, Has_ended, Hold}
use Rattle.laws_drivers.proofs.events.Holding.{both, is_sound as is_whole}
use Rattle.laws_drivers.proofs.events.Plain.{IsPlainBy, hears_plain}
use Rattle.laws_transfers.proofs.Called.{BreaksNone}
use Rattle.laws_transfers.proofs.Known.{AreCarried}
use Rattle.laws_breaks.specs.downloads.Actions.{ClientSuffers, MayMarkBreak}
use Rattle.laws_breaks.proofs.downloads.Feeding.{Gives}
use Rattle.laws_breaks.proofs.downloads.Lagging.{OfMarks, Then}
use Rattle.laws_breaks.proofs.downloads.Last.{LastAll}
use Rattle.laws_breaks.proofs.downloads.Preceding.{Precedes, asks_all, behind, gives_now, nothing_rises, steady, steady_here, steady_now, unaware, whole_now}
use Rattle.laws_breaks.proofs.downloads.Rows.{Steady}
use Rattle.laws_breaks.proofs.downloads.Steps.{Again, client_step, idle_again}
use Rattle.laws_breaks.proofs.downloads.Unaware.{late_octets, steady_busy, steady_may, steady_none, steady_owes, steady_receives, steady_reports, steady_wants}
use Rattle.laws_breaks.proofs.downloads.Unsent.{Unsent, received_unsent, unsent_kept}

abbrev is_receive : Wants → Bool
is_receive Want.Receive = true
is_receive wants = false

module _ (read : Reading) (reads : IsReading read) (moments : ℕ → ℕ) (timed : AreMoments moments) (b : Beginning) (fair : IsFair b) where
  abbrev P : (Are : OfMarks) (actions : List (Action client_side)) (between : Between) (count : ℕ) (server : Stand server_side)
      (client : Stand client_side) → Type 0
  P Are actions between count server client = Precedes read reads moments timed b fair Are actions between count server client

  module _ {Are : OfMarks} (actions : List (Action client_side)) (carried : AreCarried (begun_at moments actions)) (between : Between) (count : ℕ)
      (server : Stand server_side) (client : Stand client_side) (p : P Are actions between count server client) where
    abbrev w : World
    w = p.at.world

    abbrev n : Near
    n = p.near

    abbrev c : Near
    c = client.owner.end.view

    abbrev were : Stand client_side
    were = unaware p.refusals n p.queue client.owner.channel

    abbrev g : Gives (begun_at moments actions) w
    g = gives_now read reads moments timed b fair actions carried between count server client p

    abbrev IsSteady : Near → Type 0
    IsSteady v = Steady g.loads.op g.loads.decoder g.loads.mark v

    here : IsSteady n
    here = steady_here read reads moments timed b fair actions carried between count server client p

    -- so does the drive's
    now : IsSteady c
    now = steady_now read reads moments timed b fair actions carried between count server client p

    -- whatever it hears of what is on its way
    fronts : (front rest : List ℕ) → p.queue ++ p.said ≡ front ++ rest → IsSteady (hears n front)
    fronts = steady read reads moments timed b fair actions carried between count server client p

    -- all was asked for
    all : count_of g.loads.op ≡ None
    all = asks_all read reads moments timed b fair actions carried between count server client p

    -- what both want
    here_wants : near.wants n ≡ Want.Receive
    here_wants = steady_wants g.loads.op g.loads.decoder g.loads.mark n here

    now_wants : near.wants c ≡ Want.Receive
    now_wants = steady_wants g.loads.op g.loads.decoder g.loads.mark c now

    -- it wants nothing else
    wants_not : (q : Wants) → is_receive q ≡ false → near.wants c ≡ q → ⊥
    wants_not q not e = true≢false (ap is_receive (sym now_wants ∙ e) ∙ not)

    -- it is seen that it has nothing to give
    seen_same : (channel : Channel) (q : Wants) → q ≡ Want.Receive → seen q channel ≡ channel
    seen_same channel q is = ap (λ x. seen x channel) is

    module _ (action : Action client_side) (next : Between) (new : Stand client_side) (calm : new.owner.end.refusals ≡ client.owner.end.refusals)
        (hold : next.far ≡ between.far) (unmarked : (marks : List (List Mark)) → MayMarkBreak action client.owner marks marks)
        (begins : begun_by (moments (number_in actions)) action ≡ []) where
      -- it goes on, where a step of one that heard nothing of it is known
      goes_on : (view : Near) (queue heard : List ℕ)
          → Again read reads moments timed b fair (action ∷ actions) (behind next) count p.were (unaware p.refusals view queue new.owner.channel) w.marks
          → IsPlainBy Unsent view → new.owner.end.view ≡ hears view heard
          → queue ++ p.said ≡ heard ++ (new.unheard ++ next.control.to_client) → (heard ≡ []) ⊎ (queue ≡ [])
          → P (Then action client.owner Are) (action ∷ actions) next count server new
      goes_on view queue heard got unsent is split late = record {
        were = p.were;
        sends = p.sends;
        refusals = p.refusals;
        near = view;
        queue = queue;
        at = got.0;
        asks = subst LastAll (sym (ap (λ l. begun_at moments actions ++ l) begins ∙ append-nil (begun_at moments actions))) p.asks;
        unsent = unsent;
        marks = p.marks;
        are_marks = (p.marks, p.are_marks, unmarked p.marks);
        marked = got.1 ∙ p.marked;
        said = p.said;
        left = p.left;
        moment = p.moment;
        far_is = p.far_is;
        whole = p.whole;
        unread = p.unread;
        untold = p.untold;
        none = p.none;
        shut = p.shut;
        hold = hold ∙ p.hold;
        calm = calm ∙ p.calm;
        heard = heard;
        view = is;
        split = split;
        late = late;
      }

      -- nothing is done of one that heard nothing of it
      idles : new.owner.channel ≡ client.owner.channel → behind next ≡ behind between
          → reports_of action ≡ []
          → Again read reads moments timed b fair (action ∷ actions) (behind next) count p.were (unaware p.refusals n p.queue new.owner.channel) w.marks
      idles channel same reports =
          subst (λ (l : Channel). Again read reads moments timed b fair (action ∷ actions) (behind next) count p.were (unaware p.refusals n p.queue l) w.marks)
          (sym channel)
          (subst (λ (m : Between). Again read reads moments timed b fair (action ∷ actions) m count p.were were w.marks) (sym same)
          (idle_again read reads moments timed b fair action actions p.at begins reports))

      -- it holds the same
      stays : new.owner.end.view ≡ c → new.owner.channel ≡ client.owner.channel → behind next ≡ behind between
          → new.unheard ++ next.control.to_client ≡ client.unheard ++ between.control.to_client → reports_of action ≡ []
          → P (Then action client.owner Are) (action ∷ actions) next count server new
      stays view channel same queue reports =
          goes_on n p.queue p.heard (idles channel same reports) p.unsent (view ∙ p.view) (p.split ∙ ap (λ o. p.heard ++ o) (sym queue)) p.late

    -- ---- it hears

    module _ (octets : List ℕ) (next : Between) (new : Stand client_side) (calm : new.owner.end.refusals ≡ client.owner.end.refusals)
        (can : next ≡ between) (did : HearsNext octets client new) where
      channel_same : new.owner.channel ≡ client.owner.channel
      channel_same = did.hears.1 ∙ seen_same client.owner.channel (near.wants c) now_wants

      -- what is to be heard then
      abbrev rest : List ℕ
      rest = new.unheard ++ next.control.to_client

      split_now : p.queue ++ p.said ≡ p.heard ++ (octets ++ rest)
      split_now =
          p.split ∙ ap (λ o. p.heard ++ o) (ap (λ o. o ++ between.control.to_client) did.next ∙ append_assoc octets new.unheard between.control.to_client
          ∙ ap (λ (m : Between). octets ++ (new.unheard ++ m.control.to_client)) (sym can))

      -- after what it heard it heard these
      view_now : new.owner.end.view ≡ hears n (p.heard ++ octets)
      view_now =
          let first : take (length octets) client.unheard ≡ octets = ap (take (length octets)) did.next ∙ take_front octets new.unheard in
          (did.hears.0.0.0 calm).0 ∙ ap (hears c) first ∙ ap (λ v. hears v octets) p.view ∙ sym (in_pieces n p.heard octets)

      -- one that heard nothing of what was said since hears the first ones
      hears_front : (front queue heard : List ℕ) → p.queue ≡ front ++ queue → p.heard ++ octets ≡ front ++ heard
          → queue ++ p.said ≡ heard ++ rest → (heard ≡ []) ⊎ (queue ≡ []) → P (Then (Heard octets) client.owner Are)
          (Heard octets ∷ actions) next count server new
      hears_front front queue heard is both_are split late =
          let then_view : Near = hears n front in
          let then_stand : Stand client_side = unaware p.refusals then_view queue client.owner.channel in
          let first : take (length front) p.queue ≡ front = ap (take (length front)) is ∙ take_front front queue in
          let may : (k : ℕ) → k < length front → may_hear (hears n (take k p.queue)) ≡ true =
          λ k less.
          steady_may g.loads.op all g.loads.decoder g.loads.mark (hears n (take k p.queue)) (fronts (take k p.queue) (drop k p.queue ++ p.said)
          (ap (λ o. o ++ p.said) (sym (take-append-drop k p.queue)) ∙ append_assoc (take k p.queue) (drop k p.queue) p.said)) in
          let done : HearsNext front were then_stand = record {
            hears = (
              ((λ same. (ap (hears n) (sym first), may), λ differ. absurd (differ refl)), inl refl),
              sym (seen_same client.owner.channel (near.wants n) here_wants),
              λ e. absurd (true≢false (sym e)),
            );
            next = is;
            left = refl;
            written = refl;
          } in
          let got : Again read reads moments timed b fair (Heard octets ∷ actions) (behind between) count p.were then_stand w.marks =
          client_step read reads moments timed b fair (Heard front) tt were then_stand (tt, refl) actions carried (behind between) (behind between) refl count
          p.were p.at done in
          goes_on (Heard octets) next new calm (ap (λ (m : Between). m.far) can) (λ marks. refl) refl then_view queue heard
          (subst (λ (l : Channel). Again read reads moments timed b fair (Heard octets ∷ actions) (behind next) count p.were
          (unaware p.refusals then_view queue l) w.marks) (sym channel_same)
          (subst (λ (m : Between). Again read reads moments timed b fair (Heard octets ∷ actions) m count p.were then_stand w.marks) (sym (ap behind can)) got))
          (hears_plain Unsent unsent_kept front n p.unsent)
          (view_now ∙ ap (hears n) both_are ∙ in_pieces n front heard) split late

      heard_on : P (Then (Heard octets) client.owner Are) (Heard octets ∷ actions) next count server new
      heard_on = elim p.late [
        | inr empty ↦
            hears_front [] p.queue (p.heard ++ octets) refl refl (split_now ∙ sym (append_assoc p.heard octets rest)) (inr empty)
        | inl none ↦
            let both_are : p.heard ++ octets ≡ octets = ap (λ o. o ++ octets) none in
            let split : octets ++ rest ≡ p.queue ++ p.said = ap (λ o. o ++ (octets ++ rest)) (sym none) ∙ sym split_now in
            elim (cuts octets rest p.queue p.said split) [
              | inl r ↦ hears_front p.queue [] r.more (sym (append-nil p.queue)) (both_are ∙ r.over) (sym r.left) (inr refl)
              | inr r ↦ hears_front octets (r.octet ∷ r.more) [] r.within (both_are ∙ sym (append-nil octets)) (sym r.left) (inl refl)
            ]
      ]

    -- ---- it takes octets

    takes_on : (octets : List ℕ) (some : ℕ) (next : Between) (new : Stand client_side) → new.owner.end.refusals ≡ client.owner.end.refusals
        → next ≡ between → Calls {side = client_side} (Received octets some) client new → P (Then (Other (Received octets some)) client.owner Are)
        (Other (Received octets some) ∷ actions) next count server new
    takes_on octets some next new calm can did =
        let came : List ℕ = take some octets in
        let then_view : Near = receives n came in
        let then_stand : Stand client_side = unaware p.refusals then_view p.queue new.owner.channel in
        let may : (k : ℕ) → k < some → near.may_receive (receives n (take k octets)) ≡ true =
        λ k less. steady_receives g.loads.op all g.loads.decoder g.loads.mark n here (take k octets) in
        let done : Done (Other (Received octets some)) were then_stand = (
          (
            (
              (λ same. (refl, may), λ differ. absurd (differ refl)),
              inl refl,
            ),
            did.0.1,
            (did.0.2.0, here_wants),
          ),
          refl,
        ) in
        let got : Again read reads moments timed b fair (Other (Received octets some) ∷ actions) (behind between) count p.were then_stand w.marks =
        client_step read reads moments timed b fair (Other (Received octets some)) tt were then_stand (tt, refl) actions carried (behind between)
        (behind between) refl count p.were p.at done in
        let late : receives (hears n p.heard) came ≡ hears then_view p.heard =
        late_octets g.loads.op all g.loads.decoder g.loads.mark n here p.heard (subst IsSteady p.view now) came in
        goes_on (Other (Received octets some)) next new calm (ap (λ (m : Between). m.far) can) (λ marks. refl) refl then_view p.queue p.heard
        (subst (λ (m : Between). Again read reads moments timed b fair (Other (Received octets some) ∷ actions) m count p.were then_stand w.marks)
        (sym (ap behind can)) got)
        (received_unsent came n p.unsent) ((did.0.0.0.0 calm).0 ∙ ap (λ v. receives v came) p.view ∙ late)
        (p.split ∙ ap (λ o. p.heard ++ o) (ap₂ (λ (y : Stand client_side) (m : Between). y.unheard ++ m.control.to_client) (sym did.1) (sym can))) p.late

    -- ---- it says nothing

    says_on : (octets : List ℕ) (next : Between) (new : Stand client_side) → new.owner.end.refusals ≡ client.owner.end.refusals
        → CanTurn (ByClient (Says octets)) between next → SaysNext octets client new → P (Then (Says octets) client.owner Are)
        (Says octets ∷ actions) next count server new
    says_on octets next new calm can did =
        let owes : c.owed ≡ [] = steady_owes g.loads.op g.loads.decoder g.loads.mark c now in
        let none : octets ≡ [] = did.gives.owed ∙ ap (take did.gives.count) owes ∙ take-nil did.gives.count in
        let view : new.owner.end.view ≡ c =
        did.gives.gave.0 ∙ ap (λ o. record c { owed = drop did.gives.count o }) owes ∙ ap (λ o. record c { owed = o }) (drop-nil did.gives.count ∙ sym owes) in
        stays (Says octets) next new calm (ap (λ (m : Between). m.far) can) (λ marks. refl) refl view did.gives.channel
        (ap behind can ∙ ap (λ o. behind (record between { control = record between.control { to_server = o } }))
        (ap (λ o. between.control.to_server ++ o) none ∙ append-nil between.control.to_server))
        (ap₂ (λ q (m : Between). q ++ m.control.to_client) did.unheard can) refl

    -- ---- it leaves nothing

    leaves_not : (asked : Asked) (new : Stand client_side) → Calls {side = client_side} (Left asked) client new → ⊥
    leaves_not asked new did = by client.owner.channel.fate refl did.0.2.0
      where
        whole : is_whole client.owner.channel.fate ≡ true
        whole = whole_now read reads moments timed b fair actions carried between count server client p

        busy : is_operation_under_way c.job ≡ true
        busy = ap (λ (v : Near). is_operation_under_way v.job) now.is

        by : (fate : Fate) → client.owner.channel.fate ≡ fate → MayLeave (is_operation_under_way c.job ≡ false) (near.wants c) fate → ⊥
        by Fates.Sound is may = elim may [ inl leaving ↦ true≢false (sym leaving ∙ ap leaves now_wants) | inr done ↦ both busy done ]
        by Fates.Failed is may = both busy may
        by Fates.Broken is may = both whole (ap is_whole is)
        by Fates.Over is may = both whole (ap is_whole is)

    -- ---- each action but that it is told

    pub follows : (action : Action client_side) → BreaksNone action → (next : Between) (new : Stand client_side) → ClientSuffers action client.owner new.owner
        → CanTurn (ByClient action) between next → Done action client new → P (Then action client.owner Are) (action ∷ actions) next count server new
    follows (Heard octets) unbroken next new is can did = heard_on octets next new is.1 can did
    follows (Says octets) unbroken next new is can did = says_on octets next new is.1 can did
    follows (Read octets) unbroken next new is can did =
        stays (Read octets) next new is.1 (ap (λ (m : Between). m.far) can.1) (λ marks. refl) refl (ap (λ o. o.end.view) did.owner) (ap (λ o. o.channel) did.owner)
        (ap behind can.1)
        (ap (λ q. q ++ next.control.to_client) did.unheard ∙ sym (ap₂ (λ q o. q ++ o) did.heard can.0)) refl
    follows (Other (Aside (Reporting None))) unbroken next new is can did =
        stays (Other (Aside (Reporting None))) next new is.1 (ap (λ (m : Between). m.far) can) (λ marks. refl) refl
        (did.0.0.1.0 ∙ steady_reports g.loads.op g.loads.decoder g.loads.mark c now) did.0.1 (ap behind can)
        (ap₂ (λ (y : Stand client_side) (m : Between). y.unheard ++ m.control.to_client) did.1 can) refl
    follows (Other (Aside (Reporting (Some said)))) unbroken next new is can did =
        absurd (some_none (did.0.0.0 ∙ steady_none g.loads.op g.loads.decoder g.loads.mark c now))
      where
        is_there : Option Said → Bool
        is_there None = false
        is_there (Some said) = true

        some_none : ◌≡◌ {A = Option Said} (Some said) None → ⊥
        some_none e = true≢false (ap is_there e)
    follows (Other (Aside (Starting op))) unbroken next new is can did =
        absurd (both (steady_busy g.loads.op g.loads.decoder g.loads.mark c now) did.0.0.0)
    follows (Other (Opened host (Connected endpoint left written ∷ []) at_first so_far rest)) unbroken next new is can did =
        absurd (wants_not (Want.Connect endpoint) refl did.0.2.0)
    follows (Other (Refused (NotConnected endpoint ∷ []))) unbroken next new is can did = absurd (wants_not (Want.Connect endpoint) refl did.0.2.0)
    follows (Other (Gave some octets rest)) unbroken next new is can did = absurd (wants_not Want.Send refl did.0.2)
    follows (Other (Wrote octets)) unbroken next new is can did =
        absurd (none_some (subst (λ o. 0 < length o) unwritten did.0.1.some))
      where
        unwritten : client.owner.channel.unwritten ≡ []
        unwritten = (nothing_rises read reads moments timed b fair actions carried between count server client p).1

        none_some : 0 < 0 → ⊥
        none_some less = omega (arith, less)
    follows (Other (Got octets)) unbroken next new is can did =
        let then_stand : Stand client_side = unaware p.refusals n p.queue new.owner.channel in
        goes_on (Other (Got octets)) next new is.1 (ap (λ (m : Between). m.far) can.2) (λ marks. refl) refl n p.queue p.heard
        (client_step read reads moments timed b fair (Other (Got octets)) tt were then_stand (tt, refl) actions carried (behind between) (behind next)
        (can.0, can.1, ap behind can.2) count p.were p.at ((refl, did.0.1, here_wants), refl))
        p.unsent (ap (λ o. o.view) did.0.0 ∙ p.view)
        (p.split ∙ ap (λ o. p.heard ++ o) (ap₂ (λ (y : Stand client_side) (m : Between). y.unheard ++ m.control.to_client) (sym did.1) (sym can.2))) p.late
    follows (Other (Received octets some)) unbroken next new is can did = takes_on octets some next new is.1 can did
    follows (Other End) unbroken next new is can did = absurd (true≢false (ap is_ended (sym can.0 ∙ p.hold)))
      where
        is_ended : Hold → Bool
        is_ended Has_ended = true
        is_ended hold = false
    follows (Other (Waited lost)) unbroken next new is can did =
        let then_stand : Stand client_side = unaware p.refusals n p.queue new.owner.channel in
        goes_on (Other (Waited lost)) next new is.1 (ap (λ (m : Between). m.far) can) (λ marks. refl) refl n p.queue p.heard
        (subst (λ (m : Between). Again read reads moments timed b fair (Other (Waited lost) ∷ actions) m count p.were then_stand w.marks) (sym (ap behind can))
        (client_step read reads moments timed b fair (Other (Waited lost)) tt were then_stand (tt, refl) actions carried (behind between) (behind between)
        refl count p.were p.at ((refl, did.0.1, ap awaits here_wants), refl)))
        p.unsent (ap (λ o. o.view) did.0.0 ∙ p.view)
        (p.split ∙ ap (λ o. p.heard ++ o) (ap₂ (λ (y : Stand client_side) (m : Between). y.unheard ++ m.control.to_client) (sym did.1) (sym can))) p.late
    follows (Other (LetGo octets)) unbroken next new is can did = absurd (did.0.0.1 now_wants)
    follows (Other (Left (EndedBy left written))) unbroken next new is can did = absurd (leaves_not (EndedBy left written) new did)
    follows (Other (Left (Reset left written))) unbroken next new is can did = absurd (leaves_not (Reset left written) new did)
    follows (Other (Left Shut)) unbroken next new is can did = absurd (leaves_not Shut new did)
    follows (Other Closed) unbroken next new is can did =
        absurd (wants_not Want.CloseData refl (did.0.2 (ap (λ (v : Near). is_sound v.standing) now.is) (ap (λ (v : Near). is_operation_under_way v.job) now.is)))
    follows (Other Failed) unbroken next new is can did =
        let then_stand : Stand client_side = unaware p.refusals n p.queue new.owner.channel in
        goes_on (Other Failed) next new is.1 (ap (λ (m : Between). m.far) can) (λ marks. refl) refl n p.queue p.heard
        (subst (λ (m : Between). Again read reads moments timed b fair (Other Failed ∷ actions) m count p.were then_stand w.marks) (sym (ap behind can))
        (client_step read reads moments timed b fair (Other Failed) tt were then_stand (tt, refl) actions carried (behind between) (behind between)
        refl count p.were p.at ((refl, did.0.1, tt), refl)))
        p.unsent (ap (λ o. o.view) did.0.0 ∙ p.view)
        (p.split ∙ ap (λ o. p.heard ++ o) (ap₂ (λ (y : Stand client_side) (m : Between). y.unheard ++ m.control.to_client) (sym did.1) (sym can))) p.late
    follows (Other Break) unbroken next new is can did = absurd unbroken
    follows action unbroken next new is can did = absurd is.0
