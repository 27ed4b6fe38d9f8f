-- A client that was told of a break while the server's drive still gives: a world tells its client later, once the server has let the link go; until then its
-- client is one that was not told, beside the same control connection.
use Rattle.std.proofs.Common.{◌≡◌, ◌⊎◌, inl, inr, ℕ, ◌<◌, Bool, true, false, true≢false, ◌&&◌, List, [], ◌∷◌, ◌++◌, length, take, Option, Some, None, refl, sym, ap, ap₂, subst, ◌∙◌, append_assoc, arith}
use Rattle.std.proofs.lemmas.List.{take-append-le}
use Rattle.ftp_ports.specs.Asking.{Asked, Connected, Ended as EndedBy, NotConnected, Reset, Shut}
use Rattle.ftp_ports.specs.Actions.{Action, Done, Heard, HearsNext, Other, Read, ReadsNext, Said as Says, Says as SaysNext, Stand, with_owner}
use Rattle.ftp_ports.specs.Channel.{IsLeft, IsOpen, Channel, with_untold}
use Rattle.ftp_ports.specs.Machine.{Aside, Break, Closed, End, Failed, Gave, Got, Held, Left, LetGo, Opened, Received, Refused, Waited, Wrote, awaits, seen}
use Rattle.ftp_ports.specs.declared.whole.Fate.{Fate}
use Rattle.ftp_ports.specs.declared.whole.Fate.TheVariants as Fates
use Rattle.ftp_client_driver.specs.Side.{Reporting, Starting, client_side}
use Rattle.ftp_client_model.specs.Calls as near
use Rattle.ftp_client_model.specs.Calls.{data_closed, data_fault, gives_control, hears, is_busy, may_hear, report_of}
use Rattle.ftp_client_model.specs.Failing.{Client}
use Rattle.ftp_client_model.specs.View.{View as Near}
use Rattle.ftp_ends.specs.declared.link.Wants.{Wants}
use Rattle.ftp_ends.specs.declared.link.Wants.TheVariants as Want
use Rattle.ftp_operation.specs.Answer.{Said}
use Rattle.ftp_server_driver.specs.alone.Side.{server_side}
use Rattle.ftp_server_model.specs.Machine.{IsReading, Reading}
use Rattle.ftp_server_model.specs.declared.session.ServerLink.TheVariants as Data
use Rattle.laws_world.specs.Claims.{Beginning, IsFair, state_of}
use Rattle.laws_world.specs.World.{Broken, Mark, World, marked_last}
use Rattle.laws_agreement.proofs.Chunks.{both_empty}
use Rattle.laws_drivers.specs.control.Alone.{ClientIsCalm}
use Rattle.laws_drivers.specs.events.Moments.{AreMoments, begun_at}
use Rattle.laws_drivers.specs.control.Between.{Between, CanTurn, Client as ByClient, Has, Has_lost, Near as TheClient, with_hold}
use Rattle.laws_drivers.proofs.world.Moves.{take_front}
use Rattle.laws_drivers.proofs.events.Holding.{both, is_had, is_sound as is_whole}
use Rattle.laws_drivers.proofs.events.NearForms.{taking_of}
use Rattle.laws_drivers.proofs.events.Plain.{IsPlainBy, IsPlainJob, IsPlainly, Whatever, hears_plain}
use Rattle.laws_transfers.proofs.Beside.{Takes, is_taking, open_takes}
use Rattle.laws_transfers.proofs.Called.{BreaksNone, StaysFresh, near_fresh}
use Rattle.laws_transfers.proofs.ClientTaking.{taking_is}
use Rattle.laws_transfers.specs.Refusals.{ClientTries}
use Rattle.laws_transfers.proofs.Known.{AreCarried, is_giving}
use Rattle.laws_transfers.proofs.Simulating.{asks, known, runs}
use Rattle.laws_breaks.specs.downloads.Actions.{ClientSuffers, HasTaken, MayMarkBreak}
use Rattle.laws_breaks.proofs.downloads.ClientBroken.{broken_plain, broken_sound, client_broken}
use Rattle.laws_breaks.proofs.downloads.Faults.{Loads, faulted_plain, loads_taken}
use Rattle.laws_breaks.proofs.downloads.Feeding.{Feeding, is_final, pushed_gives, world_feeds}
use Rattle.laws_breaks.proofs.downloads.Last.{AreFew, last_few, short_few}
use Rattle.laws_breaks.proofs.downloads.Steps.{Again, At, client_step, idle_same, same_again}
use Rattle.laws_breaks.proofs.downloads.Unsent.{AskAll, Unsent, all_carried, each_all, reset_fresh, unsent_kept}
use Rattle.laws_breaks.proofs.downloads.Untold.{Loading, fault_told, heard_short, hears_taken, loading_of, loading_says, loading_short, loading_wants, loads_of, told, told_busy, told_closed, told_hears, told_may, told_none, told_reports, told_wants}

-- a read or a write of it failed, and its end was not told
abbrev pub is_failed : Fate → Bool
is_failed Fates.Failed = true
is_failed fate = false

-- what is left of a data connection that broke: nothing comes, and nothing is unwritten
pub record Leftover (channel : Channel) : Type 0 where
  pub dry : is_taking channel ≡ false
  pub takes : Takes channel
  pub written : channel.unwritten ≡ []
  pub known : is_failed channel.fate ≡ false

-- the client has it still
abbrev pub unbroken : Between → Between
unbroken m = with_hold TheClient Has m

-- it beside the same control connection
abbrev pub beside : Held Client → Stand client_side → Stand client_side
beside was client = with_owner was client

-- with this view
abbrev pub viewed : Near → Held Client → Held Client
viewed view was = record was { end = record was.end { view = view } }

-- who was not told, beside the same control connection, says what the client of the drive says, where it owes the same
pub says_beside : (was : Held Client) (octets : List ℕ) (client new : Stand client_side) → client.owner.end.view.owed ≡ was.end.view.owed
    → (did : SaysNext octets client new)
    → SaysNext octets (beside was client) (beside (viewed (gives_control did.gives.count was.end.view) was) new)
says_beside was octets client new owed did = record {
  gives = record { count = did.gives.count; owed = did.gives.owed ∙ ap (take did.gives.count) owed; gave = (refl, refl); channel = refl };
  wrote = did.wrote;
  left = did.left;
  unheard = did.unheard;
}

-- reads what that reads
pub reads_beside : (was : Held Client) (octets : List ℕ) (client new : Stand client_side) → client.owner.end.view.owed ≡ was.end.view.owed
    → ReadsNext octets client new → ReadsNext octets (beside was client) (beside was new)
reads_beside was octets client new owed did = record {
  due = (sym owed ∙ did.due.0, λ e. absurd (true≢false (sym e)));
  owner = refl;
  heard = did.heard;
  read = did.read;
  ended = did.ended;
  unheard = did.unheard;
  written = did.written;
}

-- and hears what that hears, where it may
pub hears_beside : (was : Held Client) (octets : List ℕ) (client new : Stand client_side)
    → ((k : ℕ) → k < length octets → may_hear (hears was.end.view (take k client.unheard)) ≡ true) → HearsNext octets client new
    → HearsNext octets (beside was client)
    (beside (record { end = record was.end { view = hears was.end.view octets }; channel = seen (near.wants was.end.view) was.channel }) new)
hears_beside was octets client new may did =
    let first : take (length octets) client.unheard ≡ octets = ap (take (length octets)) did.next ∙ take_front octets new.unheard in
    record {
      hears = (
        ((λ same. (ap (hears was.end.view) (sym first), may), λ differ. absurd (differ refl)), inl refl),
        refl,
        λ e. absurd (true≢false (sym e)),
      );
      next = did.next;
      left = did.left;
      written = did.written;
    }

-- what is open takes octets
pub dry_shut : (channel : Channel) → Leftover channel → IsOpen channel → ⊥
dry_shut channel l o = both (open_takes channel o) l.dry

-- what is seen of it is of no matter
pub leftover_as : (old new : Channel) → Leftover old → new.stands ≡ old.stands → new.fate ≡ old.fate → new.untold ≡ old.untold → new.unwritten ≡ old.unwritten
    → Leftover new
leftover_as old new l stands fate untold unwritten = record {
  dry = ap₂ (λ s f. s && is_whole f) stands fate ∙ l.dry;
  takes = record { bare = λ e. untold ∙ l.takes.bare (sym stands ∙ e) };
  written = unwritten ∙ l.written;
  known = ap is_failed fate ∙ l.known;
}

-- nothing is left of one that was left
pub left_over : {old new : Channel} (asked : Asked) → IsLeft asked old new → Leftover new
left_over {old} {new} asked left = record {
  dry = ap (λ s. s && is_whole new.fate) left.stands;
  takes = record { bare = λ e. left.untold };
  written = left.unwritten;
  known = ap is_failed left.fate;
}

-- what is so of marks
abbrev pub OfMarks : Type 1
OfMarks = List (List Mark) → Type 0

-- of those that an action of the client makes
abbrev pub Then : Action client_side → Held Client → OfMarks → OfMarks
Then action at Are marks = (old : List (List Mark)) × Are old × MayMarkBreak action at old marks

abbrev is_nothing : Wants → Bool
is_nothing Want.Nothing = true
is_nothing wants = false

module _ (read : Reading) (reads : IsReading read) (moments : ℕ → ℕ) (timed : AreMoments moments) (b : Beginning) (fair : IsFair b) where
  abbrev Stands : (actions : List (Action client_side)) (between : Between) (count : ℕ) (server : Stand server_side) (client : Stand client_side) → Type 0
  Stands actions between count server client = At read reads moments timed b fair actions between count server client

  -- a world is beside both drives, with such marks
  pub record Whole (Are : OfMarks) (actions : List (Action client_side)) (between : Between) (count : ℕ) (server : Stand server_side)
      (client : Stand client_side) : Type 0 where
    pub at : Stands actions between count server client
    pub marks : List (List Mark)
    pub are_marks : Are marks
    pub marked : at.world.marks ≡ marks
    pub unsent : IsPlainBy Unsent client.owner.end.view

  -- or it is beside one that was not told
  pub record Lags (Are : OfMarks) (actions : List (Action client_side)) (between : Between) (count : ℕ) (server : Stand server_side)
      (client : Stand client_side) : Type 0 where
    pub was : Held Client
    pub at : Stands actions (unbroken between) count server (beside was client)
    pub loads : Loading was.end.view
    pub view : client.owner.end.view ≡ told was.end.view
    pub hold : between.near ≡ Has_lost
    pub channel : Leftover client.owner.channel
    pub marks : List (List Mark)
    pub are_marks : Are marks
    pub are_broken : (came : ℕ) → HasTaken was.end.view.job came → Are (marked_last (Broken came) marks)
    pub marked : at.world.marks ≡ marks
    pub unsent : IsPlainBy Unsent was.end.view
    pub fresh : StaysFresh between client

  -- a world whose client takes octets, of which it has less than was asked for: its server has let the link go, or has not heard the command, or gives
  pub feeding_few : (actions : List (Action client_side)) → AreCarried (begun_at moments actions) → (between : Between) (count : ℕ) (server : Stand server_side)
      (client : Stand client_side) (o : Stands actions between count server client) → AreFew (begun_at moments actions) client.owner.end.view.job
      → IsPlainBy Unsent client.owner.end.view → near.wants client.owner.end.view ≡ Want.Receive
      → (o.world.near ≡ client.owner.end.view) × Feeding (begun_at moments actions) o.world
  feeding_few actions carried between count server client o few unsent wants =
      let near_is : o.world.near ≡ client.owner.end.view =
      taking_is read (begun_at moments actions) o.last o.ahead between count server client _ o.world o.together (taking_of client.owner.end.view wants) in (
        near_is,
        world_feeds read reads (state_of b) (begun_at moments actions) carried o.world
            (runs read reads moments timed b fair actions between count server client _ o carried)
            o.together.beside.control o.together.beside.unready (subst (λ (v : Near). AreFew (begun_at moments actions) v.job) (sym near_is) few)
            (subst (λ (v : Near). IsPlainJob Unsent v.job) (sym near_is) unsent.job) (ap near.wants near_is ∙ wants),
      )

  -- so it is of one that asks for all
  pub feeding_at : (actions : List (Action client_side)) → AskAll (begun_at moments actions) → (between : Between) (count : ℕ) (server : Stand server_side)
      (client : Stand client_side) (o : Stands actions between count server client) → IsPlainBy Unsent client.owner.end.view
      → near.wants client.owner.end.view ≡ Want.Receive
      → (o.world.near ≡ client.owner.end.view) × Feeding (begun_at moments actions) o.world
  feeding_at actions puts between count server client o unsent wants =
      let begun = begun_at moments actions in
      feeding_few actions (all_carried begun puts) between count server client o (last_few begun client.owner.end.view.job (each_all begun puts)) unsent wants

  module _ {Are : OfMarks} (actions : List (Action client_side)) (carried : AreCarried (begun_at moments actions)) (between : Between) (count : ℕ)
      (server : Stand server_side) (client : Stand client_side) (l : Lags Are actions between count server client) where
    abbrev n : Near
    n = l.was.end.view

    abbrev w : World
    w = l.at.world

    -- less came than was asked for
    few_before : AreFew (begun_at moments actions) n.job
    few_before = short_few (begun_at moments actions) n.job (loading_short n l.loads)

    near_is : w.near ≡ n
    near_is =
        (feeding_few actions carried (unbroken between) count server (beside l.was client) l.at few_before l.unsent (loading_wants n l.loads)).0

    -- the world's server has let it go, or has not heard the command, or gives
    pub feeds : Feeding (begun_at moments actions) w
    feeds = (feeding_few actions carried (unbroken between) count server (beside l.was client) l.at few_before l.unsent (loading_wants n l.loads)).1

    -- where it has let it go the world's client is told
    pub leaves : w.far.session.connection ≡ Data.Free → Whole Are actions between count server client
    leaves free =
        let begun = begun_at moments actions in
        let old = beside l.was client in
        let asks_now = asks read reads moments timed b fair actions (unbroken between) count server old _ l.at carried in
        let known_now = known read reads moments timed b fair actions (unbroken between) count server old _ l.at carried in
        let is : client.owner.end.view ≡ data_fault n = l.view ∙ sym (fault_told n l.loads) in
        let wants = loading_wants n l.loads in
        let loads = loads_of n l.loads in
        let got : Again read reads moments timed b fair actions between count server client (marked_last (Broken w.came) w.marks) =
        same_again read reads moments timed b fair actions l.at (marked_last (Broken w.came) w.marks) between client
        (client_broken read begun server old client _ w l.at.serves asks_now l.at.plain known_now l.at.last l.at.ahead (unbroken between) between count
        l.at.together is refl refl refl refl l.channel.dry l.channel.takes l.channel.written free wants loads)
        (broken_sound read begun server old client _ w l.at.serves asks_now l.at.plain known_now l.at.last l.at.ahead (unbroken between) between count
        l.at.together is refl refl refl refl l.channel.dry l.channel.takes l.channel.written free wants loads)
        (broken_plain read begun server old client _ w l.at.serves asks_now l.at.plain known_now l.at.last l.at.ahead (unbroken between) between count
        l.at.together is refl refl refl refl l.channel.dry l.channel.takes l.channel.written free wants loads)
        l.fresh in
        let taken : HasTaken n.job w.came = subst (λ (v : Near). HasTaken v.job w.came) near_is (loads_taken w.near feeds.loads w.came feeds.read) in
        record {
          at = got.0;
          marks = marked_last (Broken w.came) l.marks;
          are_marks = l.are_broken w.came taken;
          marked = got.1 ∙ ap (marked_last (Broken w.came)) l.marked;
          unsent = subst (IsPlainBy Unsent) (sym is) (faulted_plain Unsent n loads l.unsent);
        }

    -- what it wants
    wants_none : near.wants client.owner.end.view ≡ Want.Nothing
    wants_none = ap near.wants l.view ∙ told_wants n l.loads

    wants_not : (q : Wants) → is_nothing q ≡ false → near.wants client.owner.end.view ≡ q → ⊥
    wants_not q not e = true≢false (ap is_nothing (sym wants_none ∙ e) ∙ not)

    plainly : IsPlainly client.owner.end.view
    plainly = subst IsPlainly (fault_told n l.loads ∙ sym l.view) (faulted_plain Whatever n (loads_of n l.loads) l.at.plain)

    -- ---- an action of a client that was told

    module _ (action : Action client_side) (next : Between) (new : Stand client_side) (can : CanTurn (ByClient action) between next) where
      -- so it lags on, where a step of one that was not told is known
      lags_on : (was : Held Client) → Again read reads moments timed b fair (action ∷ actions) (unbroken next) count server (beside was new) w.marks
          → Loading was.end.view → new.owner.end.view ≡ told was.end.view → next.near ≡ Has_lost → Leftover new.owner.channel
          → ((marks : List (List Mark)) → MayMarkBreak action client.owner marks marks)
          → ((came : ℕ) → HasTaken was.end.view.job came → HasTaken n.job came) → IsPlainBy Unsent was.end.view → StaysFresh next new
          → Lags (Then action client.owner Are) (action ∷ actions) next count server new
      lags_on was got loads view hold channel none back unsent fresh = record {
        was = was;
        at = got.0;
        loads = loads;
        view = view;
        hold = hold;
        channel = channel;
        marks = l.marks;
        are_marks = (l.marks, l.are_marks, none l.marks);
        are_broken = λ came has. (marked_last (Broken came) l.marks, l.are_broken came (back came has), none (marked_last (Broken came) l.marks));
        marked = got.1 ∙ l.marked;
        unsent = unsent;
        fresh = fresh;
      }

      -- nothing comes to it while its server was only dialled
      stays : BreaksNone action → ClientTries action client.owner new.owner → Done action client new → StaysFresh next new
      stays unbroken tries did =
          near_fresh between next client new l.fresh action unbroken tries plainly
          (λ endpoint wants. absurd (wants_not (Want.Connect endpoint) refl wants)) (λ f some octets rest gave. absurd (wants_not Want.Send refl gave.0.2))
          (λ endpoint refused. absurd (wants_not (Want.Connect endpoint) refl refused.0.2.0)) did can

    -- octets are said
    says_on : (octets : List ℕ) (next : Between) (new : Stand client_side) → ClientIsCalm client.owner new.owner
        → CanTurn (ByClient (Says octets)) between next → SaysNext octets client new
        → Lags (Then (Says octets) client.owner Are) (Says octets ∷ actions) next count server new
    says_on octets next new calm can did =
        let said : ℕ = did.gives.count in
        let was : Held Client = viewed (gives_control said n) l.was in
        let done = says_beside l.was octets client new (ap (λ (v : Near). v.owed) l.view) did in
        lags_on (Says octets) next new can was
        (client_step read reads moments timed b fair (Says octets) tt (beside l.was client) (beside was new) (tt, refl) actions carried (unbroken between)
        (unbroken next) (ap unbroken can) count server l.at done)
        (loading_says n said l.loads) (did.gives.gave.0 ∙ ap (gives_control said) l.view) (ap (λ (m : Between). m.near) can ∙ l.hold)
        (leftover_as client.owner.channel new.owner.channel l.channel (ap (λ (x : Channel). x.stands) did.gives.channel) (ap (λ (x : Channel). x.fate) did.gives.channel)
        (ap (λ (x : Channel). x.untold) did.gives.channel) (ap (λ (x : Channel). x.unwritten) did.gives.channel)) (λ marks. refl) (λ came has. has)
        (record { job = l.unsent.job; port = l.unsent.port; run = l.unsent.run }) (stays (Says octets) next new can tt (tt, calm) did)

    -- octets are read
    reads_on : (octets : List ℕ) (next : Between) (new : Stand client_side) → ClientIsCalm client.owner new.owner
        → CanTurn (ByClient (Read octets)) between next → ReadsNext octets client new
        → Lags (Then (Read octets) client.owner Are) (Read octets ∷ actions) next count server new
    reads_on octets next new calm can did =
        let done = reads_beside l.was octets client new (ap (λ (v : Near). v.owed) l.view) did in
        lags_on (Read octets) next new can l.was
        (client_step read reads moments timed b fair (Read octets) tt (beside l.was client) (beside l.was new) (tt, refl) actions carried (unbroken between)
        (unbroken next) (can.0, ap unbroken can.1) count server l.at done)
        l.loads (ap (λ o. o.end.view) did.owner ∙ l.view) (ap (λ (m : Between). m.near) can.1 ∙ l.hold)
        (leftover_as client.owner.channel new.owner.channel l.channel (ap (λ o. o.channel.stands) did.owner) (ap (λ o. o.channel.fate) did.owner)
        (ap (λ o. o.channel.untold) did.owner) (ap (λ o. o.channel.unwritten) did.owner)) (λ marks. refl) (λ came has. has) l.unsent
        (stays (Read octets) next new can tt (tt, calm) did)

    -- octets are heard, of one that then takes octets still
    heard_on : (octets : List ℕ) (next : Between) (new : Stand client_side) → ClientIsCalm client.owner new.owner
        → CanTurn (ByClient (Heard octets)) between next → HearsNext octets client new → Loading (hears n octets)
        → Lags (Then (Heard octets) client.owner Are) (Heard octets ∷ actions) next count server new
    heard_on octets next new calm can did then_loads =
        let was : Held Client = record { end = record l.was.end { view = hears n octets }; channel = seen (near.wants n) l.was.channel } in
        let first : take (length octets) client.unheard ≡ octets = ap (take (length octets)) did.next ∙ take_front octets new.unheard in
        let may : (k : ℕ) → k < length octets → may_hear (hears n (take k client.unheard)) ≡ true =
        λ k less.
        let front : take k client.unheard ≡ take k octets =
        ap (take k) did.next ∙ take-append-le k octets new.unheard (omega (arith, less)) in
        ap (λ q. may_hear (hears n q)) front ∙ told_may n l.loads octets then_loads k ∙ ap (λ q. may_hear (hears (told n) q)) (sym front)
        ∙ ap (λ v. may_hear (hears v (take k client.unheard))) (sym l.view) ∙ (did.hears.0.0.0 calm).1 k less in
        let done = hears_beside l.was octets client new may did in
        lags_on (Heard octets) next new can was
        (client_step read reads moments timed b fair (Heard octets) tt (beside l.was client) (beside was new) (tt, refl) actions carried (unbroken between)
        (unbroken next) (ap unbroken can) count server l.at done)
        then_loads
        ((did.hears.0.0.0 calm).0 ∙ ap (hears client.owner.end.view) first ∙ ap (λ v. hears v octets) l.view ∙ told_hears n l.loads octets then_loads)
        (ap (λ (m : Between). m.near) can ∙ l.hold)
        (leftover_as client.owner.channel new.owner.channel l.channel (ap (λ (x : Channel). x.stands) did.hears.1) (ap (λ (x : Channel). x.fate) did.hears.1)
        (ap (λ (x : Channel). x.untold) did.hears.1) (ap (λ (x : Channel). x.unwritten) did.hears.1)) (λ marks. refl) (hears_taken n l.loads octets then_loads)
        (hears_plain Unsent unsent_kept octets n l.unsent) (stays (Heard octets) next new can tt (tt, calm) did)

    -- while the server has not let it go
    abbrev Going : Type 0
    Going = (is_giving w.far.session.connection ≡ true) ⊎ ((w.far.session.connection ≡ Data.Ready) × (w.control_to_client ≡ []))

    -- who hears then takes octets still
    loads_then : (octets : List ℕ) (rest : List ℕ) → client.unheard ≡ octets ++ rest → Going → Loading (hears n octets)
    loads_then octets rest is (inl gives) =
        let p : IsPlainBy Unsent (hears n octets) = hears_plain Unsent unsent_kept octets n l.unsent in
        let queue : w.control_to_client ≡ octets ++ (rest ++ between.control.to_client) =
        l.at.together.beside.to_client ∙ ap (λ q. q ++ between.control.to_client) is ∙ append_assoc octets rest between.control.to_client in
        let heard : hears w.near (take (length octets) w.control_to_client) ≡ hears n octets =
        ap₂ hears near_is (ap (take (length octets)) queue ∙ take_front octets (rest ++ between.control.to_client)) in
        let then_few : AreFew (begun_at moments actions) (hears n octets).job =
        short_few (begun_at moments actions) (hears n octets).job (heard_short n l.loads octets) in
        let got = pushed_gives read reads (state_of b) (begun_at moments actions) carried w
        (runs read reads moments timed b fair actions (unbroken between) count server (beside l.was client) _ l.at carried)
        l.at.together.beside.control l.at.together.beside.unready (length octets) gives
        (subst (λ (v : Near). AreFew (begun_at moments actions) v.job) (sym near_is) few_before)
        (subst (λ (v : Near). IsPlainJob Unsent v.job) (sym near_is) l.unsent.job)
        (subst (λ (v : Near). AreFew (begun_at moments actions) v.job) (sym heard) then_few)
        (subst (λ (v : Near). IsPlainJob Unsent v.job) (sym heard) p.job) in
        let there = subst (λ (v : Near). (l : Loads v) × (is_final l.replied ≡ false)) heard (got.loads, got.unfinal) in
        loading_of (hears n octets) there.0 there.1
    loads_then octets rest is (inr ready) =
        let none : octets ≡ [] =
        (both_empty octets rest
        (both_empty (octets ++ rest) between.control.to_client (ap (λ q. q ++ between.control.to_client) (sym is) ∙ sym l.at.together.beside.to_client
        ∙ ready.1)).0).0 in
        subst (λ o. Loading (hears n o)) (sym none) l.loads

    -- an action of one that was told
    pub lag_step : (action : Action client_side) (next : Between) (new : Stand client_side) → ClientSuffers action client.owner new.owner
        → CanTurn (ByClient action) between next → Done action client new → Going → Lags (Then action client.owner Are) (action ∷ actions) next count server new
    lag_step (Heard octets) next new is can did going = heard_on octets next new is.1 can did (loads_then octets new.unheard did.next going)
    lag_step (Says octets) next new is can did going = says_on octets next new is.1 can did
    lag_step (Read octets) next new is can did going = reads_on octets next new is.1 can did
    lag_step (Other (Aside (Reporting None))) next new is can did going =
        lags_on (Other (Aside (Reporting None))) next new can l.was
        (idle_same read reads moments timed b fair (Other (Aside (Reporting None))) actions l.at (unbroken next) (beside l.was new) (ap (beside l.was) did.1)
        (ap unbroken can) refl refl) l.loads
        (did.0.0.1.0 ∙ ap near.reports l.view ∙ told_reports n l.loads) (ap (λ (m : Between). m.near) can ∙ l.hold)
        (subst Leftover (sym did.0.1) l.channel) (λ marks. refl) (λ came has. has) l.unsent (stays (Other (Aside (Reporting None))) next new can tt (tt, is.1) did)
    lag_step (Other (Aside (Reporting (Some said)))) next new is can did going =
        absurd (some_none (did.0.0.0 ∙ ap report_of l.view ∙ told_none n l.loads))
      where
        is_there : Option Said → Bool
        is_there None = false
        is_there (Some said) = true

        some_none : ◌≡◌ {A = Option Said} (Some said) None → ⊥
        some_none e = true≢false (ap is_there e)
    lag_step (Other (Aside (Starting op))) next new is can did going =
        absurd (both (ap is_busy l.view ∙ told_busy n l.loads) did.0.0.0)
    lag_step (Other (Opened host (Connected endpoint left written ∷ []) at_first so_far rest)) next new is can did going =
        absurd (wants_not (Want.Connect endpoint) refl did.0.2.0)
    lag_step (Other (Refused (NotConnected endpoint ∷ []))) next new is can did going = absurd (wants_not (Want.Connect endpoint) refl did.0.2.0)
    lag_step (Other (Gave some octets rest)) next new is can did going = absurd (wants_not Want.Send refl did.0.2)
    lag_step (Other (Wrote octets)) next new is can did going = absurd (dry_shut client.owner.channel l.channel did.0.1.is_open)
    lag_step (Other (Got octets)) next new is can did going = absurd (wants_not Want.Receive refl did.0.2)
    lag_step (Other (Received octets some)) next new is can did going = absurd (wants_not Want.Receive refl did.0.2.1)
    lag_step (Other End) next new is can did going = absurd (wants_not Want.Receive refl did.0.2)
    lag_step (Other (Waited lost)) next new is can did going = absurd (true≢false (sym did.0.2 ∙ ap awaits wants_none))
    lag_step (Other (LetGo octets)) next new is can did going =
        let channel : new.owner.channel ≡ with_untold new.owner.channel.untold client.owner.channel = did.0.1.1 in
        lags_on (Other (LetGo octets)) next new can l.was
        (idle_same read reads moments timed b fair (Other (LetGo octets)) actions l.at (unbroken next) (beside l.was new) (ap (beside l.was) did.1)
        (ap unbroken can) refl refl) l.loads
        (ap (λ c. c.view) did.0.0.0 ∙ l.view) (ap (λ (m : Between). m.near) can ∙ l.hold)
        (record {
          dry = ap is_taking channel ∙ l.channel.dry;
          takes = record {
            bare = λ e. (both_empty octets new.owner.channel.untold (sym did.0.1.0 ∙ l.channel.takes.bare (ap (λ (x : Channel). x.stands) (sym channel) ∙ e))).1;
          };
          written = ap (λ (x : Channel). x.unwritten) channel ∙ l.channel.written;
          known = ap (λ (x : Channel). is_failed x.fate) channel ∙ l.channel.known;
        }) (λ marks. refl) (λ came has. has) l.unsent (stays (Other (LetGo octets)) next new can tt (tt, is.1) did)
    lag_step (Other (Left (EndedBy left written))) next new is can did going = absurd (true≢false (ap is_had (sym can.0 ∙ l.hold)))
    lag_step (Other (Left (Reset left written))) next new is can did going =
        lags_on (Other (Left (Reset left written))) next new can l.was
        (idle_same read reads moments timed b fair (Other (Left (Reset left written))) actions l.at (unbroken next) (beside l.was new) (ap (beside l.was) did.1)
        (ap unbroken can.1) refl refl) l.loads
        (ap (λ c. c.view) did.0.0 ∙ l.view) (ap (λ (m : Between). m.near) can.1) (left_over (Reset left written) did.0.1) (λ marks. refl) (λ came has. has)
        l.unsent (reset_fresh client new between next left written l.fresh did can)
    lag_step (Other (Left Shut)) next new is can did going =
        lags_on (Other (Left Shut)) next new can l.was
        (idle_same read reads moments timed b fair (Other (Left Shut)) actions l.at (unbroken next) (beside l.was new) (ap (beside l.was) did.1)
        (ap unbroken can) refl refl) l.loads
        (ap (λ c. c.view) did.0.0 ∙ l.view) (ap (λ (m : Between). m.near) can ∙ l.hold) (left_over Shut did.0.1) (λ marks. refl) (λ came has. has)
        l.unsent (stays (Other (Left Shut)) next new can tt (tt, is.1) did)
    lag_step (Other Closed) next new is can did going =
        lags_on (Other Closed) next new can l.was
        (idle_same read reads moments timed b fair (Other Closed) actions l.at (unbroken next) (beside l.was new) (ap (beside l.was) did.1)
        (ap unbroken can) refl refl) l.loads
        (did.0.0.0 ∙ ap data_closed l.view ∙ told_closed n l.loads) (ap (λ (m : Between). m.near) can ∙ l.hold)
        (subst Leftover (sym did.0.1.0) l.channel) (λ marks. refl) (λ came has. has) l.unsent (stays (Other Closed) next new can tt (tt, is.1) did)
    lag_step (Other Failed) next new is can did going = absurd (dry_shut client.owner.channel l.channel did.0.1.1)
    lag_step (Other Break) next new is can did going = absurd (both (ap is_failed is.0.0) l.channel.known)
    lag_step action next new is can did going = absurd is.0
