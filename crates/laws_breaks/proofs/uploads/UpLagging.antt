-- A client that was told of the break of its upload while the server's drive still takes: a world tells its client later, once the server is told of it too;
-- until then its client is one that was not told, beside the same control connection.
use Rattle.std.proofs.Common.{◌≡◌, inl, inr, ℕ, ◌<◌, Bool, true, false, true≢false, List, [], ◌∷◌, ◌++◌, length, take, Option, Some, None, refl, sym, ap, ap₂, subst, ◌∙◌, append_assoc, arith}
use Rattle.std.proofs.lemmas.List.{take-append-le}
use Rattle.ftp_ports.specs.Asking.{Asked, Connected, Ended as EndedBy, NotConnected, Reset, Shut}
use Rattle.ftp_ports.specs.Actions.{Action, Done, Heard, HearsNext, Other, Read, ReadsNext, Said as Says, Says as SaysNext, Stand}
use Rattle.ftp_ports.specs.Channel.{IsLeft, IsOpen, Channel, with_untold}
use Rattle.ftp_ports.specs.Machine.{Aside, Break, Closed, End, Failed, Gave, Got, Held, Left, LetGo, Opened, Received, Refused, Waited, Wrote, awaits, seen}
use Rattle.ftp_client_driver.specs.Side.{Reporting, Starting, client_side}
use Rattle.ftp_client_model.specs.Calls as near
use Rattle.ftp_client_model.specs.Calls.{data_closed, gives_control, hears, may_hear}
use Rattle.ftp_client_model.specs.Failing.{Client}
use Rattle.ftp_client_model.specs.View.{View as Near}
use Rattle.ftp_client_model.specs.declared.client.Replied.{Replied}
use Rattle.ftp_client_model.specs.declared.client.Replied.TheVariants as Replies
use Rattle.ftp_ends.specs.Octets.{has_octets}
use Rattle.ftp_ends.specs.declared.link.Wants.{Wants}
use Rattle.ftp_ends.specs.declared.link.Wants.TheVariants as Want
use Rattle.ftp_operation.specs.Answer.{Said}
use Rattle.ftp_operation.specs.declared.op.Op.{Op}
use Rattle.ftp_server_driver.specs.alone.Side.{server_side}
use Rattle.ftp_server_model.specs.Calls.{is_upload}
use Rattle.ftp_server_model.specs.Machine.{IsReading, Reading}
use Rattle.laws_world.specs.Claims.{Beginning, IsFair, state_of}
use Rattle.laws_world.specs.Events.{ControlToClient, pushed}
use Rattle.laws_world.specs.World.{ClosedByNear, Mark, Opened as IsOpened, World}
use Rattle.laws_agreement.proofs.Chunks.{both_empty}
use Rattle.laws_agreement.specs.Rising.{sending}
use Rattle.laws_drivers.specs.control.Alone.{ClientIsCalm}
use Rattle.laws_drivers.specs.events.Moments.{AreMoments, begun_at}
use Rattle.laws_drivers.specs.control.Between.{Between, CanTurn, Client as ByClient, Has_lost}
use Rattle.laws_drivers.proofs.world.Moves.{take_front}
use Rattle.laws_drivers.proofs.events.Holding.{both, is_had, unclosed}
use Rattle.laws_drivers.proofs.events.Plain.{IsPlainBy, IsPlainly, Whatever, hears_plain}
use Rattle.laws_transfers.proofs.Beside.{Takes, is_taking, open_takes}
use Rattle.laws_transfers.proofs.Called.{BreaksNone, StaysFresh, near_fresh}
use Rattle.laws_transfers.proofs.Known.{AreCarried, Known}
use Rattle.laws_transfers.proofs.Simulating.{known, runs}
use Rattle.laws_transfers.specs.Refusals.{ClientTries}
use Rattle.laws_breaks.specs.downloads.Actions.{MayMarkBreak}
use Rattle.laws_breaks.proofs.downloads.Feeding.{is_final}
use Rattle.laws_breaks.proofs.downloads.Lagging.{OfMarks, Then, beside, hears_beside, is_failed, reads_beside, says_beside, unbroken, viewed}
use Rattle.laws_breaks.proofs.downloads.Steps.{Again, At, client_step, idle_same}
use Rattle.laws_breaks.proofs.downloads.Unsent.{AskAll, Unsent, all_carried, reset_fresh, unsent_kept}
use Rattle.laws_breaks.specs.uploads.Actions.{ClientGives}
use Rattle.laws_breaks.proofs.uploads.Climbing.{ClimbsLast, pushed_climbs}
use Rattle.laws_breaks.proofs.uploads.Lifting.{IsClosing, Lifts, StillGives, hears_closing, hears_lifts, hears_may, is_idle, lifts_busy, lifts_closes, lifts_idle, lifts_none, lifts_plain, lifts_reports, lifts_says, was_taken}
use Rattle.laws_breaks.proofs.uploads.Notes.{Past, begun, is_past}

-- what is left of a data connection that broke: no octet comes or goes any more
pub record Spent (channel : Channel) : Type 0 where
  pub dry : is_taking channel ≡ false
  pub takes : Takes channel
  pub known : is_failed channel.fate ≡ false
  pub bare : channel.stands ≡ false → channel.unwritten ≡ []

-- what is open takes octets
spent_shut : (channel : Channel) → Spent channel → IsOpen channel → ⊥
spent_shut channel l o = both (open_takes channel o) l.dry

-- it is so still, where the same stands of it
spent_as : (old new : Channel) → Spent old → new.stands ≡ old.stands → new.fate ≡ old.fate → (old.untold ≡ [] → new.untold ≡ [])
    → new.unwritten ≡ old.unwritten → Spent new
spent_as old new l stands fate untold unwritten = record {
  dry = ap₂ (λ s f. is_taking (record old { stands = s; fate = f })) stands fate ∙ l.dry;
  takes = record { bare = λ e. untold (l.takes.bare (sym stands ∙ e)) };
  known = ap is_failed fate ∙ l.known;
  bare = λ e. unwritten ∙ l.bare (sym stands ∙ e);
}

-- nothing is left of one that was left
spent_left : {old new : Channel} (asked : Asked) → IsLeft asked old new → Spent new
spent_left {old} {new} asked left = record {
  dry = ap (λ s. is_taking (record new { stands = s })) left.stands;
  takes = record { bare = λ e. left.untold };
  known = ap is_failed left.fate;
  bare = λ e. left.unwritten;
}

-- a final reply is not in
unfinal_past : (op : Op (List ℕ)) (replied : Replied) (left : List ℕ) (mark : Option ℕ) → is_final replied ≡ false
    → is_past (sending op replied left mark) ≡ false
unfinal_past op Replies.Nothing left mark e = refl
unfinal_past op Replies.Begun left mark e = refl
unfinal_past op (Replies.Final code) left mark e = absurd (true≢false e)

module _ (read : Reading) (reads : IsReading read) (moments : ℕ → ℕ) (timed : AreMoments moments) (b : Beginning) (fair : IsFair b) where
  -- a world is beside one that was not told; one that gave all has octets that it did not write
  pub record UpLags (Are : OfMarks) (actions : List (Action client_side)) (between : Between) (count : ℕ) (server : Stand server_side)
      (client : Stand client_side) : Type 0 where
    pub was : Held Client
    pub at : At read reads moments timed b fair actions (unbroken between) count server (beside was client)
    pub lifts : Lifts was.end.view client.owner.end.view
    pub due : was.end.view.closing ≡ true → has_octets was.channel.unwritten ≡ true
    pub hold : between.near ≡ Has_lost
    pub channel : Spent client.owner.channel
    pub marks : List (List Mark)
    pub are_marks : Are marks
    pub marked : at.world.marks ≡ marks
    pub unsent : IsPlainBy Unsent was.end.view
    pub fresh : StaysFresh between client

  module _ {Are : OfMarks} (actions : List (Action client_side)) (puts : AskAll (begun_at moments actions)) (between : Between) (count : ℕ)
      (server : Stand server_side) (client : Stand client_side) (l : UpLags Are actions between count server client) where
    carried : AreCarried (begun_at moments actions)
    carried = all_carried (begun_at moments actions) puts

    abbrev n : Near
    n = l.was.end.view

    abbrev u : Near
    u = client.owner.end.view

    abbrev w : World
    w = l.at.world

    known_now : Known w
    known_now = known read reads moments timed b fair actions (unbroken between) count server (beside l.was client) _ l.at carried

    pub near_is : w.near ≡ data_closed n
    near_is = l.at.together.beside.near ∙ ap data_closed (was_taken n u l.lifts)

    -- ---- how its link stands

    still_sends : StillGives n l.lifts.left l.lifts.link l.lifts.closed → near.wants w.near ≡ Want.Send
    unfolding near.wants
    still_sends gives =
        ap near.wants (near_is ∙ unclosed n gives.1 ∙ l.lifts.near
        ∙ ap₂ (λ c d. begun l.lifts.op l.lifts.all l.lifts.left c d l.lifts.mark n) gives.0 gives.1)

    -- the world's server takes octets
    pub takes_up : is_upload w.far.session.connection ≡ true
    takes_up = elim l.lifts.kind [
      | inl gives ↦ (known_now.sends (still_sends gives)).far
      | inr closes ↦ by (is_upload w.far.session.connection) refl closes.1
    ]
      where
        by : (takes : Bool) → is_upload w.far.session.connection ≡ takes → n.closing ≡ true → is_upload w.far.session.connection ≡ true
        by true is closing = is
        by false is closing =
            let none = both_empty between.data_ways.to_server l.was.channel.unwritten
            (both_empty server.owner.channel.untold (between.data_ways.to_server ++ l.was.channel.unwritten)
            (sym l.at.together.beside.rising ∙ known_now.still is)).1 in
            absurd (both (l.due closing) (ap has_octets none.1))

    -- its link is open, or the client alone has closed it
    pub link_open : StillGives n l.lifts.left l.lifts.link l.lifts.closed → w.link ≡ IsOpened
    link_open gives = (known_now.sends (still_sends gives)).link

    pub link_closed : IsClosing n l.lifts.left l.lifts.link → w.link ≡ ClosedByNear
    link_closed closes = known_now.takes takes_up (l.at.together.keeping.shut closes.1)

    -- what is heard is no final reply
    unfinal : (octets rest : List ℕ) → client.unheard ≡ octets ++ rest → Past (hears (data_closed n) octets) → ⊥
    unfinal octets rest is past =
        let queue : w.control_to_client ≡ octets ++ (rest ++ between.control.to_client) =
        l.at.together.beside.to_client ∙ ap (λ q. q ++ between.control.to_client) is ∙ append_assoc octets rest between.control.to_client in
        let heard : hears w.near (take (length octets) w.control_to_client) ≡ hears (data_closed n) octets =
        ap₂ hears near_is (ap (take (length octets)) queue ∙ take_front octets (rest ++ between.control.to_client)) in
        let c : ClimbsLast (begun_at moments actions) (pushed read ControlToClient (length octets) w) =
        pushed_climbs read reads (state_of b) (begun_at moments actions) carried w
        (runs read reads moments timed b fair actions (unbroken between) count server (beside l.was client) _ l.at carried)
        l.at.together.beside.control l.at.together.beside.unready (length octets) takes_up in
        both past.past (ap (λ (v : Near). is_past v.job) (sym heard) ∙ ap is_past c.climbing.job
        ∙ unfinal_past c.op c.climbing.replied c.climbing.left c.climbing.mark c.climbing.unfinal)

    -- what it wants
    wants_not : (q : Wants) → is_idle q ≡ false → near.wants u ≡ q → ⊥
    wants_not q not e = true≢false (sym (lifts_idle n u l.lifts) ∙ ap is_idle e ∙ not)

    pub plainly : IsPlainly u
    plainly = lifts_plain n u l.lifts Whatever l.at.plain

    -- ---- an action of a client that was told

    module _ (action : Action client_side) (next : Between) (new : Stand client_side) (can : CanTurn (ByClient action) between next) where
      -- so it lags on, where a step of one that was not told is known
      lags_on : (was : Held Client) → Again read reads moments timed b fair (action ∷ actions) (unbroken next) count server (beside was new) w.marks
          → Lifts was.end.view new.owner.end.view → (was.end.view.closing ≡ true → has_octets was.channel.unwritten ≡ true) → next.near ≡ Has_lost
          → Spent new.owner.channel → ((marks : List (List Mark)) → MayMarkBreak action client.owner marks marks) → IsPlainBy Unsent was.end.view → StaysFresh next new
          → UpLags (Then action client.owner Are) (action ∷ actions) next count server new
      lags_on was got lifts due hold channel none unsent fresh = record {
        was = was;
        at = got.0;
        lifts = lifts;
        due = due;
        hold = hold;
        channel = channel;
        marks = l.marks;
        are_marks = (l.marks, l.are_marks, none l.marks);
        marked = got.1 ∙ l.marked;
        unsent = unsent;
        fresh = fresh;
      }

      -- nothing comes to it while its server was only dialled
      stays : BreaksNone action → ClientTries action client.owner new.owner → Done action client new → StaysFresh next new
      stays unbroken tries did =
          near_fresh between next client new l.fresh action unbroken tries plainly
          (λ endpoint wants. absurd (wants_not (Want.Connect endpoint) refl wants)) (λ f some octets rest gave. absurd (wants_not Want.Send refl gave.0.2))
          (λ endpoint refused. absurd (wants_not (Want.Connect endpoint) refl refused.0.2.0)) did can

    -- octets are said
    says_on : (octets : List ℕ) (next : Between) (new : Stand client_side) → ClientIsCalm client.owner new.owner
        → CanTurn (ByClient (Says octets)) between next → SaysNext octets client new
        → UpLags (Then (Says octets) client.owner Are) (Says octets ∷ actions) next count server new
    says_on octets next new calm can did =
        let said : ℕ = did.gives.count in
        let was : Held Client = viewed (gives_control said n) l.was in
        let done = says_beside l.was octets client new (ap (λ (v : Near). v.owed) l.lifts.told) did in
        lags_on (Says octets) next new can was
        (client_step read reads moments timed b fair (Says octets) tt (beside l.was client) (beside was new) (tt, refl) actions carried (unbroken between)
        (unbroken next) (ap unbroken can) count server l.at done)
        (subst (Lifts (gives_control said n)) (sym did.gives.gave.0) (lifts_says n u l.lifts said)) l.due (ap (λ (m : Between). m.near) can ∙ l.hold)
        (spent_as client.owner.channel new.owner.channel l.channel (ap (λ (x : Channel). x.stands) did.gives.channel) (ap (λ (x : Channel). x.fate) did.gives.channel)
        (λ e. ap (λ (x : Channel). x.untold) did.gives.channel ∙ e) (ap (λ (x : Channel). x.unwritten) did.gives.channel)) (λ marks. refl)
        (record { job = l.unsent.job; port = l.unsent.port; run = l.unsent.run }) (stays (Says octets) next new can tt (tt, calm) did)

    -- octets are read
    reads_on : (octets : List ℕ) (next : Between) (new : Stand client_side) → ClientIsCalm client.owner new.owner
        → CanTurn (ByClient (Read octets)) between next → ReadsNext octets client new
        → UpLags (Then (Read octets) client.owner Are) (Read octets ∷ actions) next count server new
    reads_on octets next new calm can did =
        let done = reads_beside l.was octets client new (ap (λ (v : Near). v.owed) l.lifts.told) did in
        lags_on (Read octets) next new can l.was
        (client_step read reads moments timed b fair (Read octets) tt (beside l.was client) (beside l.was new) (tt, refl) actions carried (unbroken between)
        (unbroken next) (can.0, ap unbroken can.1) count server l.at done)
        (subst (Lifts n) (sym (ap (λ o. o.end.view) did.owner)) l.lifts) l.due (ap (λ (m : Between). m.near) can.1 ∙ l.hold)
        (subst (λ o. Spent o.channel) (sym did.owner) l.channel) (λ marks. refl) l.unsent (stays (Read octets) next new can tt (tt, calm) did)

    -- octets are heard
    heard_on : (octets : List ℕ) (next : Between) (new : Stand client_side) → ClientIsCalm client.owner new.owner
        → CanTurn (ByClient (Heard octets)) between next → HearsNext octets client new → UpLags (Then (Heard octets) client.owner Are)
        (Heard octets ∷ actions) next count server new
    heard_on octets next new calm can did =
        let was : Held Client = record { end = record l.was.end { view = hears n octets }; channel = seen (near.wants n) l.was.channel } in
        let none = unfinal octets new.unheard did.next in
        let first : take (length octets) client.unheard ≡ octets = ap (take (length octets)) did.next ∙ take_front octets new.unheard in
        let may : (k : ℕ) → k < length octets → may_hear (hears n (take k client.unheard)) ≡ true =
        λ k less.
        let front : take k client.unheard ≡ take k octets =
        ap (take k) did.next ∙ take-append-le k octets new.unheard (omega (arith, less)) in
        ap (λ q. may_hear (hears n q)) front ∙ hears_may n u l.lifts octets none k ∙ ap (λ q. may_hear (hears u q)) (sym front)
        ∙ (did.hears.0.0.0 calm).1 k less in
        let done = hears_beside l.was octets client new may did in
        lags_on (Heard octets) next new can was
        (client_step read reads moments timed b fair (Heard octets) tt (beside l.was client) (beside was new) (tt, refl) actions carried (unbroken between)
        (unbroken next) (ap unbroken can) count server l.at done)
        (subst (Lifts (hears n octets)) (sym ((did.hears.0.0.0 calm).0 ∙ ap (hears u) first)) (hears_lifts n u l.lifts octets none))
        (λ e. l.due (sym (hears_closing n u l.lifts octets none) ∙ e))
        (ap (λ (m : Between). m.near) can ∙ l.hold)
        (spent_as client.owner.channel new.owner.channel l.channel (ap (λ (x : Channel). x.stands) did.hears.1) (ap (λ (x : Channel). x.fate) did.hears.1)
        (λ e. ap (λ (x : Channel). x.untold) did.hears.1 ∙ e) (ap (λ (x : Channel). x.unwritten) did.hears.1)) (λ marks. refl)
        (hears_plain Unsent unsent_kept octets n l.unsent) (stays (Heard octets) next new can tt (tt, calm) did)

    -- an action of one that was told
    pub up_lag_step : (action : Action client_side) (next : Between) (new : Stand client_side) → ClientGives action client.owner new.owner
        → CanTurn (ByClient action) between next → Done action client new → UpLags (Then action client.owner Are) (action ∷ actions) next count server new
    up_lag_step (Heard octets) next new is can did = heard_on octets next new is.1 can did
    up_lag_step (Says octets) next new is can did = says_on octets next new is.1 can did
    up_lag_step (Read octets) next new is can did = reads_on octets next new is.1 can did
    up_lag_step (Other (Aside (Reporting None))) next new is can did =
        lags_on (Other (Aside (Reporting None))) next new can l.was
        (idle_same read reads moments timed b fair (Other (Aside (Reporting None))) actions l.at (unbroken next) (beside l.was new) (ap (beside l.was) did.1)
        (ap unbroken can) refl refl)
        (subst (Lifts n) (sym (did.0.0.1.0 ∙ lifts_reports n u l.lifts)) l.lifts) l.due (ap (λ (m : Between). m.near) can ∙ l.hold)
        (subst Spent (sym did.0.1) l.channel) (λ marks. refl) l.unsent (stays (Other (Aside (Reporting None))) next new can tt (tt, is.1) did)
    up_lag_step (Other (Aside (Reporting (Some said)))) next new is can did = absurd (some_none (did.0.0.0 ∙ lifts_none n u l.lifts))
      where
        is_there : Option Said → Bool
        is_there None = false
        is_there (Some said) = true

        some_none : ◌≡◌ {A = Option Said} (Some said) None → ⊥
        some_none e = true≢false (ap is_there e)
    up_lag_step (Other (Aside (Starting op))) next new is can did = absurd (both (lifts_busy n u l.lifts) did.0.0.0)
    up_lag_step (Other (Opened host (Connected endpoint left written ∷ []) at_first so_far rest)) next new is can did =
        absurd (wants_not (Want.Connect endpoint) refl did.0.2.0)
    up_lag_step (Other (Refused (NotConnected endpoint ∷ []))) next new is can did = absurd (wants_not (Want.Connect endpoint) refl did.0.2.0)
    up_lag_step (Other (Gave some octets rest)) next new is can did = absurd (wants_not Want.Send refl did.0.2)
    up_lag_step (Other (Wrote octets)) next new is can did = absurd (spent_shut client.owner.channel l.channel did.0.1.is_open)
    up_lag_step (Other (Got octets)) next new is can did = absurd (wants_not Want.Receive refl did.0.2)
    up_lag_step (Other (Received octets some)) next new is can did = absurd (wants_not Want.Receive refl did.0.2.1)
    up_lag_step (Other End) next new is can did = absurd (wants_not Want.Receive refl did.0.2)
    up_lag_step (Other (Waited lost)) next new is can did = absurd (idle_not (near.wants u) (lifts_idle n u l.lifts) did.0.2)
      where
        idle_not : (q : Wants) → is_idle q ≡ true → awaits q ≡ true → ⊥
        idle_not Want.Nothing idle e = true≢false (sym e)
        idle_not Want.CloseData idle e = true≢false (sym e)
        idle_not Want.Listen idle e = true≢false (sym e)
        idle_not Want.CloseAll idle e = true≢false (sym e)
        idle_not Want.Accept idle e = true≢false (sym idle)
        idle_not Want.Receive idle e = true≢false (sym idle)
        idle_not Want.Send idle e = true≢false (sym idle)
        idle_not (Want.Connect endpoint) idle e = true≢false (sym idle)
    up_lag_step (Other (LetGo octets)) next new is can did =
        let channel : new.owner.channel ≡ with_untold new.owner.channel.untold client.owner.channel = did.0.1.1 in
        lags_on (Other (LetGo octets)) next new can l.was
        (idle_same read reads moments timed b fair (Other (LetGo octets)) actions l.at (unbroken next) (beside l.was new) (ap (beside l.was) did.1)
        (ap unbroken can) refl refl)
        (subst (λ c. Lifts n c.view) (sym did.0.0.0) l.lifts) l.due (ap (λ (m : Between). m.near) can ∙ l.hold)
        (spent_as client.owner.channel new.owner.channel l.channel (ap (λ (x : Channel). x.stands) channel) (ap (λ (x : Channel). x.fate) channel)
        (λ e. (both_empty octets new.owner.channel.untold (sym did.0.1.0 ∙ e)).1) (ap (λ (x : Channel). x.unwritten) channel))
        (λ marks. refl) l.unsent (stays (Other (LetGo octets)) next new can tt (tt, is.1) did)
    up_lag_step (Other (Left (EndedBy left written))) next new is can did = absurd (true≢false (ap is_had (sym can.0 ∙ l.hold)))
    up_lag_step (Other (Left (Reset left written))) next new is can did =
        lags_on (Other (Left (Reset left written))) next new can l.was
        (idle_same read reads moments timed b fair (Other (Left (Reset left written))) actions l.at (unbroken next) (beside l.was new) (ap (beside l.was) did.1)
        (ap unbroken can.1) refl refl)
        (subst (λ c. Lifts n c.view) (sym did.0.0) l.lifts) l.due (ap (λ (m : Between). m.near) can.1) (spent_left (Reset left written) did.0.1) (λ marks. refl)
        l.unsent (reset_fresh client new between next left written l.fresh did can)
    up_lag_step (Other (Left Shut)) next new is can did =
        lags_on (Other (Left Shut)) next new can l.was
        (idle_same read reads moments timed b fair (Other (Left Shut)) actions l.at (unbroken next) (beside l.was new) (ap (beside l.was) did.1)
        (ap unbroken can) refl refl)
        (subst (λ c. Lifts n c.view) (sym did.0.0) l.lifts) l.due (ap (λ (m : Between). m.near) can ∙ l.hold) (spent_left Shut did.0.1) (λ marks. refl)
        l.unsent (stays (Other (Left Shut)) next new can tt (tt, is.1) did)
    up_lag_step (Other Closed) next new is can did =
        lags_on (Other Closed) next new can l.was
        (idle_same read reads moments timed b fair (Other Closed) actions l.at (unbroken next) (beside l.was new) (ap (beside l.was) did.1)
        (ap unbroken can) refl refl)
        (subst (Lifts n) (sym did.0.0.0) (lifts_closes n u l.lifts)) l.due (ap (λ (m : Between). m.near) can ∙ l.hold)
        (subst Spent (sym did.0.1.0) l.channel) (λ marks. refl) l.unsent (stays (Other Closed) next new can tt (tt, is.1) did)
    up_lag_step (Other Failed) next new is can did = absurd (spent_shut client.owner.channel l.channel did.0.1.1)
    up_lag_step (Other Break) next new is can did = absurd (true≢false (ap is_had (sym can.0 ∙ l.hold)))
    up_lag_step action next new is can did = absurd is.0
