-- A client that sent ABOR and was told of a break while the server's drive still gives: a world tells its client later, once the server has let the link go,
-- and then of an end, after all that was on its way; until then its client is one that was not told, beside the same control connection.
use Rattle.std.proofs.Common.{◌≡◌, ◌⊎◌, inl, inr, ℕ, ◌<◌, Bool, true, false, true≢false, List, [], ◌∷◌, ◌++◌, length, take, Option, Some, None, refl, sym, ap, subst, ◌∙◌, arith}
use Rattle.ftp_ports.specs.Asking.{Connected, Ended as EndedBy, NotConnected, Reset, Shut}
use Rattle.ftp_ports.specs.Actions.{Action, Done, Heard, HearsNext, Other, Read, ReadsNext, Said as Says, Says as SaysNext, Stand}
use Rattle.ftp_ports.specs.Machine.{Aside, Break, Closed, End, Failed, Gave, Got, Held, Left, LetGo, Opened, Received, Refused, Waited, Wrote, awaits, seen}
use Rattle.ftp_client_driver.specs.Side.{Reporting, Starting, client_side}
use Rattle.ftp_client_model.specs.Calls as near
use Rattle.ftp_client_model.specs.Failing.{Client}
use Rattle.ftp_client_model.specs.View.{View as Near}
use Rattle.ftp_ends.specs.declared.link.Wants.{Wants}
use Rattle.ftp_ends.specs.declared.link.Wants.TheVariants as Want
use Rattle.ftp_operation.specs.Answer.{Said}
use Rattle.ftp_server_driver.specs.alone.Side.{server_side}
use Rattle.ftp_server_model.specs.Machine.{IsReading, Reading}
use Rattle.ftp_server_model.specs.declared.session.ServerLink.TheVariants as Data
use Rattle.laws_world.specs.Claims.{Beginning, IsFair, state_of}
use Rattle.laws_world.specs.World.{Broken, Mark, World, marked_last}
use Rattle.laws_agreement.proofs.Chunks.{both_empty}
use Rattle.laws_drivers.specs.control.Alone.{ClientIsCalm, reports_in}
use Rattle.laws_drivers.specs.events.Moments.{AreMoments, begun_at}
use Rattle.laws_drivers.specs.control.Between.{Between, CanTurn, Client as ByClient, Has_lost}
use Rattle.laws_drivers.proofs.world.Moves.{take_front}
use Rattle.laws_drivers.proofs.events.NearForms.{taking_of}
use Rattle.laws_transfers.proofs.ClientTaking.{taking_is}
use Rattle.laws_transfers.proofs.Simulating.{asks, known, runs}
use Rattle.laws_breaks.proofs.downloads.Steps.{Again, At, client_step, idle_same, same_again}
use Rattle.ftp_ports.specs.Channel.{Channel, with_untold}
use Rattle.ftp_client_model.specs.Calls.{data_closed, data_end, data_fault, gives_control, hears, is_busy, may_hear, report_of}
use Rattle.laws_drivers.specs.world.Ahead.{is_open}
use Rattle.laws_drivers.specs.world.Unaborted.{is_unaborted}
use Rattle.laws_drivers.proofs.events.Holding.{both, is_called, is_had}
use Rattle.laws_drivers.proofs.events.Plain.{IsPlainBy, IsPlainly, Whatever, ended_plain, hears_plain, whatever_kept}
use Rattle.laws_drivers.proofs.events.Stands.{portless}
use Rattle.laws_transfers.proofs.Beside.{is_taking}
use Rattle.laws_transfers.proofs.Broke.{IsShown, with_view}
use Rattle.laws_transfers.proofs.Called.{called_unaborted}
use Rattle.laws_transfers.proofs.EitherEnd.{AreAlike}
use Rattle.laws_transfers.proofs.Known.{AreCarried}
use Rattle.laws_transfers.proofs.Lost.{is_lost}
use Rattle.laws_transfers.proofs.Running.{aborted_halts}
use Rattle.laws_breaks.specs.downloads.Actions.{ClientSuffers, MayMarkBreak}
use Rattle.laws_breaks.specs.downloads.Claims.{ReportAlike}
use Rattle.laws_transfers.proofs.Aborted.{aborted_ends}
use Rattle.laws_breaks.proofs.downloads.Aborted.{Waits, halt_waits}
use Rattle.laws_breaks.proofs.downloads.Laden.{Awaiting, Laden, awaiting_laden, awaiting_says, laden_alike, laden_busy, laden_closed, laden_none, laden_reports, laden_rests, laden_wants}
use Rattle.laws_breaks.proofs.downloads.Lagging.{Leftover, OfMarks, Then, Whole, beside, dry_shut, hears_beside, is_failed, left_over, leftover_as, reads_beside, says_beside, unbroken, viewed}
use Rattle.laws_breaks.proofs.downloads.Unsent.{Unsent, unsent_kept}
use Rattle.laws_breaks.proofs.downloads.Untold.{told}

abbrev is_nothing : Wants → Bool
is_nothing Want.Nothing = true
is_nothing wants = false

-- a world is beside a client that was told of the end of a link where this was told of a break
pub record Shown (read : Reading) (reads : IsReading read) (moments : ℕ → ℕ) (timed : AreMoments moments) (b : Beginning) (fair : IsFair b) (Are : OfMarks)
    (actions : List (Action client_side)) (between : Between) (count : ℕ) (server : Stand server_side) (client : Stand client_side) : Type 0 where
  pub shown : Stand client_side
  pub shows : IsShown between client shown
  pub whole : Whole read reads moments timed b fair Are actions between count server shown

module _ (read : Reading) (reads : IsReading read) (moments : ℕ → ℕ) (timed : AreMoments moments) (b : Beginning) (fair : IsFair b) where
  abbrev Stands : (actions : List (Action client_side)) (between : Between) (count : ℕ) (server : Stand server_side) (client : Stand client_side) → Type 0
  Stands actions between count server client = At read reads moments timed b fair actions between count server client

  -- a world is beside one that was not told
  pub record Drops (Are : OfMarks) (actions : List (Action client_side)) (between : Between) (count : ℕ) (server : Stand server_side)
      (client : Stand client_side) : Type 0 where
    pub was : Held Client
    pub at : Stands actions (unbroken between) count server (beside was client)
    pub aborted : is_unaborted was.end.view.job ≡ false
    pub wants : near.wants was.end.view ≡ Want.Receive
    pub view : client.owner.end.view ≡ data_fault was.end.view
    pub hold : between.near ≡ Has_lost
    pub channel : Leftover client.owner.channel
    pub marks : List (List Mark)
    pub are_marks : Are marks
    pub are_broken : (came : ℕ) → Are (marked_last (Broken came) marks)
    pub marked : at.world.marks ≡ marks
    pub unsent : IsPlainBy Unsent was.end.view

  -- a world whose client sent ABOR: its server gives, or has let the link go
  pub halting_at : (actions : List (Action client_side)) → AreCarried (begun_at moments actions) → (between : Between) (count : ℕ) (server : Stand server_side)
      (client : Stand client_side) (o : Stands actions between count server client) → is_unaborted client.owner.end.view.job ≡ false
      → near.wants client.owner.end.view ≡ Want.Receive
      → (o.world.near ≡ client.owner.end.view) × (Waits o.world ⊎ (o.world.far.session.connection ≡ Data.Free))
  halting_at actions carried between count server client o aborted wants =
      let begun = begun_at moments actions in
      let near_is : o.world.near ≡ client.owner.end.view =
      taking_is read begun o.last o.ahead between count server client _ o.world o.together (taking_of client.owner.end.view wants) in
      let h = (aborted_halts read reads (state_of b) begun carried o.world (runs read reads moments timed b fair actions between count server client _ o carried)
      o.together.beside.control o.together.beside.unready (ap (λ (n : Near). is_unaborted n.job) near_is ∙ aborted) (ap near.wants near_is ∙ wants)).halting in
      (near_is, halt_waits h.now h.ask h.own o.world h.stands)

  module _ {Are : OfMarks} (actions : List (Action client_side)) (carried : AreCarried (begun_at moments actions)) (between : Between) (count : ℕ)
      (server : Stand server_side) (client : Stand client_side) (d : Drops Are actions between count server client) where
    at_halt : (d.at.world.near ≡ d.was.end.view) × (Waits d.at.world ⊎ (d.at.world.far.session.connection ≡ Data.Free))
    at_halt = halting_at actions carried (unbroken between) count server (beside d.was client) d.at d.aborted d.wants

    -- the world's client is that one
    pub drops_near : d.at.world.near ≡ d.was.end.view
    drops_near = at_halt.0

    -- the world's server gives, or has let the link go
    pub drops_waits : Waits d.at.world ⊎ (d.at.world.far.session.connection ≡ Data.Free)
    drops_waits = at_halt.1

    -- none was only dialled
    pub none_called : is_called between.far ≡ true → ⊥
    none_called called = both (called_unaborted (unbroken between) (beside d.was client) d.at.fresh called) d.aborted

    -- where it has let it go the world's client is told of the end
    pub drops_leave : d.at.world.far.session.connection ≡ Data.Free → Shown read reads moments timed b fair Are actions between count server client
    drops_leave free =
        let begun = begun_at moments actions in
        let old = beside d.was client in
        let plain : IsPlainly (data_end d.was.end.view) = ended_plain Whatever whatever_kept d.was.end.view d.at.plain in
        let k = aborted_ends read reads (state_of b) begun carried server old client (reports_in actions) d.at.world d.at.serves
        (asks read reads moments timed b fair actions (unbroken between) count server old _ d.at carried)
        (portless (data_end d.was.end.view).connection plain.port)
        (known read reads moments timed b fair actions (unbroken between) count server old _ d.at carried)
        (runs read reads moments timed b fair actions (unbroken between) count server old _ d.at carried) d.at.last d.at.ahead (unbroken between) between count
        d.at.together d.view refl refl refl refl d.channel.dry d.channel.takes d.channel.written (ap is_open free) d.aborted d.wants in
        let shown : Stand client_side = with_view (data_end d.was.end.view) client in
        let got = same_again read reads moments timed b fair actions d.at d.at.world.marks between shown k.goes k.sound plain
        (λ called. absurd (none_called called)) in
        record {
          shown = shown;
          shows = shows k.alike;
          whole = record {
            at = got.0;
            marks = d.marks;
            are_marks = d.are_marks;
            marked = got.1 ∙ d.marked;
            unsent = ended_plain Unsent unsent_kept d.was.end.view d.unsent;
          };
        }
      where
        shows : AreAlike client.owner.end.view (data_end d.was.end.view) → IsShown between client (with_view (data_end d.was.end.view) client)
        shows (inl e) = inl (ap (λ v. with_view v client) (sym e))
        shows (inr apart) = inr (
          data_end d.was.end.view,
          refl,
          record { apart = apart; near = ap is_lost d.hold; channel = dry_shut client.owner.channel d.channel },
        )

  -- ---- an action of a client that was told, while the world's server gives

  module _ {Are : OfMarks} (actions : List (Action client_side)) (carried : AreCarried (begun_at moments actions)) (between : Between) (count : ℕ)
      (server : Stand server_side) (client : Stand client_side) (d : Drops Are actions between count server client) (waits : Waits d.at.world) where
    abbrev n : Near
    n = d.was.end.view

    abbrev w : World
    w = d.at.world

    -- it waits for a reply
    awaits_now : Awaiting n
    awaits_now = subst Awaiting (drops_near actions carried between count server client d) waits.awaiting

    laden : Laden n
    laden = awaiting_laden n awaits_now

    pub view_now : client.owner.end.view ≡ told n
    view_now = d.view ∙ laden.stays

    -- it has no report, and it is lost where the control connection ends, as one that was not told
    pub drops_alike : ReportAlike client.owner.end.view n
    drops_alike = subst (λ (v : Near). ReportAlike v n) (sym view_now) (laden_alike n laden)

    -- what it wants
    wants_none : near.wants client.owner.end.view ≡ Want.Nothing
    wants_none = ap near.wants view_now ∙ laden_rests n laden

    wants_not : (q : Wants) → is_nothing q ≡ false → near.wants client.owner.end.view ≡ q → ⊥
    wants_not q not e = true≢false (ap is_nothing (sym wants_none ∙ e) ∙ not)

    -- no reply is on its way
    hears_none : (octets rest : List ℕ) → client.unheard ≡ octets ++ rest → octets ≡ []
    hears_none octets rest is =
        (both_empty octets rest
        (both_empty (octets ++ rest) between.control.to_client (ap (λ q. q ++ between.control.to_client) (sym is) ∙ sym d.at.together.beside.to_client
        ∙ waits.quiet)).0).0

    module _ (action : Action client_side) (next : Between) (new : Stand client_side) (can : CanTurn (ByClient action) between next) where
      -- so it does on, where a step of one that was not told is known
      drops_on : (was : Held Client) → Again read reads moments timed b fair (action ∷ actions) (unbroken next) count server (beside was new) w.marks
          → Awaiting was.end.view → new.owner.end.view ≡ told was.end.view → next.near ≡ Has_lost → Leftover new.owner.channel
          → ((marks : List (List Mark)) → MayMarkBreak action client.owner marks marks)
          → IsPlainBy Unsent was.end.view
          → Drops (Then action client.owner Are) (action ∷ actions) next count server new
      drops_on was got awaiting view hold channel none unsent = record {
        was = was;
        at = got.0;
        aborted = ap (λ (v : Near). is_unaborted v.job) awaiting.near;
        wants = laden_wants was.end.view (awaiting_laden was.end.view awaiting);
        view = view ∙ sym (awaiting_laden was.end.view awaiting).stays;
        hold = hold;
        channel = channel;
        marks = d.marks;
        are_marks = (d.marks, d.are_marks, none d.marks);
        are_broken = λ came. (marked_last (Broken came) d.marks, d.are_broken came, none (marked_last (Broken came) d.marks));
        marked = got.1 ∙ d.marked;
        unsent = unsent;
      }

    -- octets are said
    says_on : (octets : List ℕ) (next : Between) (new : Stand client_side) → ClientIsCalm client.owner new.owner
        → CanTurn (ByClient (Says octets)) between next → SaysNext octets client new
        → Drops (Then (Says octets) client.owner Are) (Says octets ∷ actions) next count server new
    says_on octets next new calm can did =
        let said : ℕ = did.gives.count in
        let was : Held Client = viewed (gives_control said n) d.was in
        let done = says_beside d.was octets client new (ap (λ (v : Near). v.owed) view_now) did in
        drops_on (Says octets) next new can was
        (client_step read reads moments timed b fair (Says octets) tt (beside d.was client) (beside was new) (tt, refl) actions carried (unbroken between)
        (unbroken next) (ap unbroken can) count server d.at done)
        (awaiting_says n said awaits_now) (did.gives.gave.0 ∙ ap (gives_control said) view_now) (ap (λ (m : Between). m.near) can ∙ d.hold)
        (leftover_as client.owner.channel new.owner.channel d.channel (ap (λ (x : Channel). x.stands) did.gives.channel) (ap (λ (x : Channel). x.fate) did.gives.channel)
        (ap (λ (x : Channel). x.untold) did.gives.channel) (ap (λ (x : Channel). x.unwritten) did.gives.channel)) (λ marks. refl)
        (record { job = d.unsent.job; port = d.unsent.port; run = d.unsent.run })

    -- octets are read
    reads_on : (octets : List ℕ) (next : Between) (new : Stand client_side) → ClientIsCalm client.owner new.owner
        → CanTurn (ByClient (Read octets)) between next → ReadsNext octets client new
        → Drops (Then (Read octets) client.owner Are) (Read octets ∷ actions) next count server new
    reads_on octets next new calm can did =
        let done = reads_beside d.was octets client new (ap (λ (v : Near). v.owed) view_now) did in
        drops_on (Read octets) next new can d.was
        (client_step read reads moments timed b fair (Read octets) tt (beside d.was client) (beside d.was new) (tt, refl) actions carried (unbroken between)
        (unbroken next) (can.0, ap unbroken can.1) count server d.at done)
        awaits_now (ap (λ o. o.end.view) did.owner ∙ view_now) (ap (λ (m : Between). m.near) can.1 ∙ d.hold)
        (leftover_as client.owner.channel new.owner.channel d.channel (ap (λ o. o.channel.stands) did.owner) (ap (λ o. o.channel.fate) did.owner)
        (ap (λ o. o.channel.untold) did.owner) (ap (λ o. o.channel.unwritten) did.owner)) (λ marks. refl) d.unsent

    -- no octets are heard
    heard_on : (octets : List ℕ) (next : Between) (new : Stand client_side) → ClientIsCalm client.owner new.owner
        → CanTurn (ByClient (Heard octets)) between next → HearsNext octets client new → octets ≡ []
        → Drops (Then (Heard octets) client.owner Are) (Heard octets ∷ actions) next count server new
    heard_on octets next new calm can did none =
        let same : hears n octets ≡ n = ap (hears n) none in
        let was : Held Client = record { end = record d.was.end { view = hears n octets }; channel = seen (near.wants n) d.was.channel } in
        let first : take (length octets) client.unheard ≡ octets = ap (take (length octets)) did.next ∙ take_front octets new.unheard in
        let may : (k : ℕ) → k < length octets → may_hear (hears n (take k client.unheard)) ≡ true =
        λ k less. absurd (none_less k (subst (λ o. k < length o) none less)) in
        let done = hears_beside d.was octets client new may did in
        drops_on (Heard octets) next new can was
        (client_step read reads moments timed b fair (Heard octets) tt (beside d.was client) (beside was new) (tt, refl) actions carried (unbroken between)
        (unbroken next) (ap unbroken can) count server d.at done)
        (subst Awaiting (sym same) awaits_now)
        ((did.hears.0.0.0 calm).0 ∙ ap (hears client.owner.end.view) (first ∙ none) ∙ view_now ∙ ap told (sym same))
        (ap (λ (m : Between). m.near) can ∙ d.hold)
        (leftover_as client.owner.channel new.owner.channel d.channel (ap (λ (x : Channel). x.stands) did.hears.1) (ap (λ (x : Channel). x.fate) did.hears.1)
        (ap (λ (x : Channel). x.untold) did.hears.1) (ap (λ (x : Channel). x.unwritten) did.hears.1)) (λ marks. refl)
        (hears_plain Unsent unsent_kept octets n d.unsent)
      where
        none_less : (k : ℕ) → k < 0 → ⊥
        none_less k less = omega (arith, less)

    -- an action of one that was told
    pub drop_step : (action : Action client_side) (next : Between) (new : Stand client_side) → ClientSuffers action client.owner new.owner
        → CanTurn (ByClient action) between next → Done action client new → Drops (Then action client.owner Are) (action ∷ actions) next count server new
    drop_step (Heard octets) next new is can did = heard_on octets next new is.1 can did (hears_none octets new.unheard did.next)
    drop_step (Says octets) next new is can did = says_on octets next new is.1 can did
    drop_step (Read octets) next new is can did = reads_on octets next new is.1 can did
    drop_step (Other (Aside (Reporting None))) next new is can did =
        drops_on (Other (Aside (Reporting None))) next new can d.was
        (idle_same read reads moments timed b fair (Other (Aside (Reporting None))) actions d.at (unbroken next) (beside d.was new) (ap (beside d.was) did.1)
        (ap unbroken can) refl refl) awaits_now
        (did.0.0.1.0 ∙ ap near.reports view_now ∙ laden_reports n laden) (ap (λ (m : Between). m.near) can ∙ d.hold)
        (subst Leftover (sym did.0.1) d.channel) (λ marks. refl) d.unsent
    drop_step (Other (Aside (Reporting (Some said)))) next new is can did =
        absurd (some_none (did.0.0.0 ∙ ap report_of view_now ∙ laden_none n laden))
      where
        is_there : Option Said → Bool
        is_there None = false
        is_there (Some said) = true

        some_none : ◌≡◌ {A = Option Said} (Some said) None → ⊥
        some_none e = true≢false (ap is_there e)
    drop_step (Other (Aside (Starting op))) next new is can did =
        absurd (both (ap is_busy view_now ∙ laden_busy n laden) did.0.0.0)
    drop_step (Other (Opened host (Connected endpoint left written ∷ []) at_first so_far rest)) next new is can did =
        absurd (wants_not (Want.Connect endpoint) refl did.0.2.0)
    drop_step (Other (Refused (NotConnected endpoint ∷ []))) next new is can did = absurd (wants_not (Want.Connect endpoint) refl did.0.2.0)
    drop_step (Other (Gave some octets rest)) next new is can did = absurd (wants_not Want.Send refl did.0.2)
    drop_step (Other (Wrote octets)) next new is can did = absurd (dry_shut client.owner.channel d.channel did.0.1.is_open)
    drop_step (Other (Got octets)) next new is can did = absurd (wants_not Want.Receive refl did.0.2)
    drop_step (Other (Received octets some)) next new is can did = absurd (wants_not Want.Receive refl did.0.2.1)
    drop_step (Other End) next new is can did = absurd (wants_not Want.Receive refl did.0.2)
    drop_step (Other (Waited lost)) next new is can did = absurd (true≢false (sym did.0.2 ∙ ap awaits wants_none))
    drop_step (Other (LetGo octets)) next new is can did =
        let channel : new.owner.channel ≡ with_untold new.owner.channel.untold client.owner.channel = did.0.1.1 in
        drops_on (Other (LetGo octets)) next new can d.was
        (idle_same read reads moments timed b fair (Other (LetGo octets)) actions d.at (unbroken next) (beside d.was new) (ap (beside d.was) did.1)
        (ap unbroken can) refl refl) awaits_now
        (ap (λ c. c.view) did.0.0.0 ∙ view_now) (ap (λ (m : Between). m.near) can ∙ d.hold)
        (record {
          dry = ap is_taking channel ∙ d.channel.dry;
          takes = record {
            bare = λ e. (both_empty octets new.owner.channel.untold (sym did.0.1.0 ∙ d.channel.takes.bare (ap (λ (x : Channel). x.stands) (sym channel) ∙ e))).1;
          };
          written = ap (λ (x : Channel). x.unwritten) channel ∙ d.channel.written;
          known = ap (λ (x : Channel). is_failed x.fate) channel ∙ d.channel.known;
        }) (λ marks. refl) d.unsent
    drop_step (Other (Left (EndedBy left written))) next new is can did = absurd (true≢false (ap is_had (sym can.0 ∙ d.hold)))
    drop_step (Other (Left (Reset left written))) next new is can did =
        drops_on (Other (Left (Reset left written))) next new can d.was
        (idle_same read reads moments timed b fair (Other (Left (Reset left written))) actions d.at (unbroken next) (beside d.was new) (ap (beside d.was) did.1)
        (ap unbroken can.1) refl refl) awaits_now
        (ap (λ c. c.view) did.0.0 ∙ view_now) (ap (λ (m : Between). m.near) can.1) (left_over (Reset left written) did.0.1) (λ marks. refl)
        d.unsent
    drop_step (Other (Left Shut)) next new is can did =
        drops_on (Other (Left Shut)) next new can d.was
        (idle_same read reads moments timed b fair (Other (Left Shut)) actions d.at (unbroken next) (beside d.was new) (ap (beside d.was) did.1)
        (ap unbroken can) refl refl) awaits_now
        (ap (λ c. c.view) did.0.0 ∙ view_now) (ap (λ (m : Between). m.near) can ∙ d.hold) (left_over Shut did.0.1) (λ marks. refl)
        d.unsent
    drop_step (Other Closed) next new is can did =
        drops_on (Other Closed) next new can d.was
        (idle_same read reads moments timed b fair (Other Closed) actions d.at (unbroken next) (beside d.was new) (ap (beside d.was) did.1)
        (ap unbroken can) refl refl) awaits_now
        (did.0.0.0 ∙ ap data_closed view_now ∙ laden_closed n laden) (ap (λ (m : Between). m.near) can ∙ d.hold)
        (subst Leftover (sym did.0.1.0) d.channel) (λ marks. refl) d.unsent
    drop_step (Other Failed) next new is can did = absurd (dry_shut client.owner.channel d.channel did.0.1.1)
    drop_step (Other Break) next new is can did = absurd (both (ap is_failed is.0.0) d.channel.known)
    drop_step action next new is can did = absurd is.0
