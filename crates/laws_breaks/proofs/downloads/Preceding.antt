-- A server that is told of a break while it gives, before its client: a world tells both once the client is told. Until then its server is one that was not
-- told, and its client one that heard nothing of what the server said since. What the server does then.
use Rattle.std.proofs.Common.{◌≡◌, ◌⊎◌, inl, inr, ℕ, ◌≤◌, Bool, true, false, true≢false, ◌&&◌, List, [], ◌∷◌, ◌++◌, length, take, drop, None, refl, sym, ap, ap₂, subst, ◌∙◌, append_assoc, append-nil, take-append-drop}
use Rattle.ftp_ports.specs.Asking.{Asked, Came, Ended as EndedBy, Reset, Shut}
use Rattle.ftp_ports.specs.Actions.{Calls, Action, Done, Heard, HearsNext, Other, Read, Said as Says, Stand}
use Rattle.ftp_ports.specs.Channel.{IsLeft, IsOpen, Channel, with_untold}
use Rattle.ftp_ports.specs.Machine.{Aside, Break, Closed, End, Failed, Gave, Got, Left, LetGo, Listening, Opened, Received, Waited, Wrote, awaits}
use Rattle.ftp_client_driver.specs.Side.{client_side}
use Rattle.ftp_client_model.specs.Calls.{hears}
use Rattle.ftp_client_model.specs.Plan.{count_of}
use Rattle.ftp_client_model.specs.View.{Doing, Idle, Job, Told, Transferring, View as Near, Waiting}
use Rattle.ftp_ends.specs.declared.link.Wants.{Wants}
use Rattle.ftp_ends.specs.declared.link.Wants.TheVariants as Want
use Rattle.ftp_server_driver.specs.alone.Side.{HearsBy, ends_line, server_side}
use Rattle.ftp_server_model.specs.Calls as far
use Rattle.ftp_server_model.specs.Calls.{clock_step, control_step}
use Rattle.ftp_server_model.specs.Machine.{IsReading, Reading}
use Rattle.ftp_server_model.specs.View.{View as Far}
use Rattle.laws_world.specs.Claims.{Beginning, IsFair, state_of}
use Rattle.laws_world.specs.Agreement.{Order}
use Rattle.laws_world.specs.World.{Mark, Opened as LinkOpened, World}
use Rattle.laws_agreement.proofs.Chunks.{both_empty}
use Rattle.laws_drivers.specs.control.Alone.{ServerIsCalm, reports_in}
use Rattle.laws_drivers.specs.control.Between.{Between, CanTurn, Has, Has_lost, Server as ByServer}
use Rattle.laws_drivers.proofs.control.Taken.{idle_of, taken}
use Rattle.laws_drivers.proofs.events.FarForms.{none_later}
use Rattle.laws_drivers.proofs.events.Holding.{both, is_had, is_sound as is_whole, unclosed}
use Rattle.laws_drivers.proofs.events.Plain.{IsPlainBy, IsPlainJob}
use Rattle.laws_transfers.specs.Ahead.{Level, far_ahead}
use Rattle.laws_drivers.specs.events.Moments.{AreMoments, begun_at}
use Rattle.laws_transfers.proofs.Aborting.{given_untaken}
use Rattle.laws_transfers.proofs.Beside.{is_taking, open_takes}
use Rattle.laws_transfers.proofs.Known.{AreCarried, is_near_held}
use Rattle.laws_transfers.proofs.Simulating.{known, runs}
use Rattle.laws_breaks.specs.downloads.Actions.{ServerYields}
use Rattle.laws_breaks.proofs.downloads.Faults.{Loads}
use Rattle.laws_breaks.proofs.downloads.BothBroken.{broke, level, sends_far}
use Rattle.laws_breaks.proofs.downloads.Drained.{dry, unless_broken}
use Rattle.laws_breaks.proofs.downloads.Failing.{closes}
use Rattle.laws_breaks.proofs.downloads.Feeding.{Gives, giving_opened, pushed_gives}
use Rattle.laws_breaks.proofs.downloads.Lagging.{OfMarks}
use Rattle.laws_breaks.proofs.downloads.Last.{AreFew, LastAll, last_few}
use Rattle.laws_breaks.proofs.downloads.Rows.{Steady, breaking, gives_heard}
use Rattle.laws_breaks.proofs.downloads.Steps.{At}
use Rattle.laws_breaks.proofs.downloads.Unaware.{taken_loads}
use Rattle.laws_breaks.proofs.downloads.Unsent.{Unsent}

-- what lies between, as if the server had not been told, and all that it said before were read
abbrev pub behind : Between → Between
behind m = record m { control = record m.control { to_client = [] }; far = Has }

-- a client that is to hear these, and was told nothing else
abbrev pub unaware : (refusals : ℕ) → Near → List ℕ → Channel → Stand client_side
unaware refusals view queue channel = record {
  owner = record { end = record { view = view; refusals = refusals }; channel = channel };
  left = record { octets = None; ended = false };
  unheard = queue;
  written = None;
}

-- no ABOR was sent by one whose report is taken
idle_unsent : (job : Job) → IsPlainJob Unsent job → IsPlainJob Unsent (idle_of job)
idle_unsent (Told answer) plain = tt
idle_unsent Idle plain = plain
idle_unsent (Waiting op) plain = plain
idle_unsent (Doing op step) plain = plain
idle_unsent (Transferring op transfer) plain = plain

-- less came of it than was asked for
idle_few : (begun : List Order) (job : Job) → AreFew begun job → AreFew begun (idle_of job)
idle_few begun (Told answer) few = λ op last transfer d mark is flow. absurd (true≢false (sym (ap is_transfer is)))
  where
    is_transfer : Job → Bool
    is_transfer (Transferring op transfer) = true
    is_transfer job = false
idle_few begun Idle few = few
idle_few begun (Waiting op) few = few
idle_few begun (Doing op step) few = few
idle_few begun (Transferring op transfer) few = few

module _ (read : Reading) (reads : IsReading read) (moments : ℕ → ℕ) (timed : AreMoments moments) (b : Beginning) (fair : IsFair b) where
  abbrev Stands : (actions : List (Action client_side)) (between : Between) (count : ℕ) (server : Stand server_side) (client : Stand client_side) → Type 0
  Stands actions between count server client = At read reads moments timed b fair actions between count server client

  -- a world whose server gives
  module _ (actions : List (Action client_side)) (carried : AreCarried (begun_at moments actions)) (between : Between) (count : ℕ) (server : Stand server_side)
      (client : Stand client_side) (o : Stands actions between count server client) (sends : far.wants server.owner.end.server.view ≡ Want.Send)
      (few : AreFew (begun_at moments actions) client.owner.end.view.job) (unsent : IsPlainBy Unsent client.owner.end.view) where
    abbrev x : World
    x = o.world

    abbrev v : Near
    v = client.owner.end.view

    -- no ABOR was sent
    world_unsent : IsPlainJob Unsent x.near.job
    world_unsent = subst (λ (n : Near). IsPlainJob Unsent n.job) (sym o.together.beside.near) (idle_unsent v.job unsent.job)

    -- less came than was asked for
    world_few : AreFew (begun_at moments actions) x.near.job
    world_few = subst (λ (n : Near). AreFew (begun_at moments actions) n.job) (sym o.together.beside.near) (idle_few (begun_at moments actions) v.job few)

    -- it gives octets
    pub gives_at : Gives (begun_at moments actions) x
    gives_at =
        pushed_gives read reads (state_of b) (begun_at moments actions) carried x
        (runs read reads moments timed b fair actions between count server client _ o carried)
        o.together.beside.control o.together.beside.unready 0
        (sends_far read (begun_at moments actions) server client (reports_in actions) x o.serves sends o.last o.ahead between count o.together)
        world_few world_unsent world_few world_unsent

    -- the client takes octets
    pub near_at : x.near ≡ v
    near_at =
        let t = o.together in
        let open_now : v.closing ≡ false = by v.closing refl in
        let same : x.near ≡ taken v = t.beside.near ∙ unclosed (taken v) open_now in
        same ∙ taken_loads v (subst (λ (n : Near). Loads n) same gives_at.loads)
      where
        by : (closing : Bool) → v.closing ≡ closing → v.closing ≡ false
        by false is = is
        by true is = absurd (both (ap is_near_held gives_at.link) (o.together.keeping.shut is))

    -- and it has what it takes from
    pub taking_at : is_whole client.owner.channel.fate ≡ true
    taking_at = by (is_whole client.owner.channel.fate) refl
      where
        by : (whole : Bool) → is_whole client.owner.channel.fate ≡ whole → is_whole client.owner.channel.fate ≡ true
        by true is = is
        by false is = absurd (both (ap is_near_held gives_at.link) (o.together.keeping.over is))

  -- a world whose server gives does so over a link that is open
  pub opened_at : (actions : List (Action client_side)) → AreCarried (begun_at moments actions) → (between : Between) (count : ℕ) (server : Stand server_side)
      (client : Stand client_side) (o : Stands actions between count server client) → far.wants server.owner.end.server.view ≡ Want.Send
      → o.world.link ≡ LinkOpened
  opened_at actions carried between count server client o sends =
      giving_opened read reads (state_of b) (begun_at moments actions) carried o.world
      (runs read reads moments timed b fair actions between count server client _ o carried) o.together.beside.control o.together.beside.unready
      (sends_far read (begun_at moments actions) server client (reports_in actions) o.world o.serves sends o.last o.ahead between count o.together)

  -- the server was told first: a world is beside one that was not, and a client that heard nothing of what the server said since
  pub record Precedes (Are : OfMarks) (actions : List (Action client_side)) (between : Between) (count : ℕ) (server : Stand server_side)
      (client : Stand client_side) : Type 0 where
    pub were : Stand server_side
    pub sends : far.wants were.owner.end.server.view ≡ Want.Send
    pub refusals : ℕ
    pub near : Near
    pub queue : List ℕ
    pub at : Stands actions (behind between) count were (unaware refusals near queue client.owner.channel)
    pub asks : LastAll (begun_at moments actions)
    pub unsent : IsPlainBy Unsent near
    pub marks : List (List Mark)
    pub are_marks : Are marks
    pub marked : at.world.marks ≡ marks
    -- the server
    pub said : List ℕ
    pub left : List ℕ
    pub moment : ℕ
    pub far_is : server.owner.end.server.view ≡ record (clock_step moment (broke were.owner.end.server.view)) { owed = left }
    pub whole : were.owner.end.server.view.owed ++ breaking ≡ said ++ left
    pub unread : server.unheard ≡ were.unheard
    pub untold : server.owner.channel.untold ≡ []
    pub none : (dry server.owner.channel).unwritten ≡ []
    pub shut : is_taking server.owner.channel ≡ false
    pub hold : between.far ≡ Has_lost
    -- the client
    pub calm : client.owner.end.refusals ≡ refusals
    pub heard : List ℕ
    pub view : client.owner.end.view ≡ hears near heard
    pub split : queue ++ said ≡ heard ++ (client.unheard ++ between.control.to_client)
    pub late : (heard ≡ []) ⊎ (queue ≡ [])

  module _ {Are : OfMarks} (actions : List (Action client_side)) (carried : AreCarried (begun_at moments actions)) (between : Between) (count : ℕ)
      (server : Stand server_side) (client : Stand client_side) (p : Precedes Are actions between count server client) where
    abbrev pub virtual : Stand client_side
    virtual = unaware p.refusals p.near p.queue client.owner.channel

    abbrev w : World
    w = p.at.world

    few : AreFew (begun_at moments actions) p.near.job
    few = last_few (begun_at moments actions) p.near.job p.asks

    -- the world's server gives
    pub gives_now : Gives (begun_at moments actions) w
    gives_now = gives_at actions carried (behind between) count p.were virtual p.at p.sends few p.unsent

    -- octets of an operation that asks for all
    pub asks_all : count_of gives_now.loads.op ≡ None
    asks_all = p.asks gives_now.loads.op gives_now.last

    -- its client takes octets
    pub near_is : w.near ≡ p.near
    near_is = near_at actions carried (behind between) count p.were virtual p.at p.sends few p.unsent

    -- and was told neither of an end nor of a break
    pub whole_now : is_whole client.owner.channel.fate ≡ true
    whole_now = taking_at actions carried (behind between) count p.were virtual p.at p.sends few p.unsent

    -- it is ahead by nothing
    ahead_level : p.at.ahead ≡ Level
    ahead_level =
        level read (begun_at moments actions) p.were virtual (reports_in actions) w p.at.serves p.sends p.at.last p.at.ahead (behind between) count p.at.together

    -- its server owes what the drive's owed
    owes : w.far.owed ≡ p.were.owner.end.server.view.owed
    owes =
        ap (λ (f : Far). f.owed) p.at.together.beside.far
        ∙ ap (λ a. (clock_step p.at.last (far_ahead a p.were.owner.end.server.view)).owed) ahead_level

    -- what is on its way, and what the server owes once it is told
    coming : w.control_to_client ++ (w.far.owed ++ breaking) ≡ (p.queue ++ p.said) ++ p.left
    coming =
        ap₂ (λ q o. q ++ (o ++ breaking)) (p.at.together.beside.to_client ∙ append-nil p.queue) owes ∙ ap (λ o. p.queue ++ o) p.whole
        ∙ sym (append_assoc p.queue p.said p.left)

    -- whatever it hears of what is on its way, and of what the server said, it takes octets still
    pub steady : (front rest : List ℕ) → p.queue ++ p.said ≡ front ++ rest
        → Steady gives_now.loads.op gives_now.loads.decoder gives_now.loads.mark (hears p.near front)
    steady front rest is =
        subst (λ n. Steady gives_now.loads.op gives_now.loads.decoder gives_now.loads.mark (hears n front)) near_is
        (gives_heard (begun_at moments actions) w gives_now front (rest ++ p.left) (coming ∙ ap (λ o. o ++ p.left) is ∙ append_assoc front rest p.left))

    -- so does the client that heard nothing of it
    pub steady_here : Steady gives_now.loads.op gives_now.loads.decoder gives_now.loads.mark p.near
    steady_here = steady [] (p.queue ++ p.said) refl

    -- and the drive's
    pub steady_now : Steady gives_now.loads.op gives_now.loads.decoder gives_now.loads.mark client.owner.end.view
    steady_now =
        subst (Steady gives_now.loads.op gives_now.loads.decoder gives_now.loads.mark) (sym p.view)
        (steady p.heard (client.unheard ++ between.control.to_client) p.split)

    -- no octet of its data connection goes to it
    pub nothing_rises : (between.data_ways.to_server ≡ []) × (client.owner.channel.unwritten ≡ [])
    nothing_rises =
        let known_now = known read reads moments timed b fair actions (behind between) count p.were virtual _ p.at carried in
        let giving = sends_far read (begun_at moments actions) p.were virtual (reports_in actions) w p.at.serves p.sends p.at.last p.at.ahead (behind between) count
        p.at.together in
        let ways = between.data_ways.to_server ++ client.owner.channel.unwritten in
        let one = both_empty p.were.owner.channel.untold ways
        (sym p.at.together.beside.rising ∙ known_now.still (given_untaken w.far.session.connection giving)) in
        both_empty between.data_ways.to_server client.owner.channel.unwritten one.1

    -- nothing goes to the server
    pub quiet : (server.unheard ≡ []) × (between.control.to_server ≡ [])
    quiet =
        let one = both_empty p.were.unheard between.control.to_server (sym p.at.together.beside.to_server ∙ gives_now.quiet) in
        (p.unread ∙ one.0, one.1)

    -- ---- an action of the server

    abbrev f : Far
    f = server.owner.end.server.view

    -- it wants nothing
    pub far_nothing : far.wants f ≡ Want.Nothing
    far_nothing = ap far.wants p.far_is ∙ ap (λ l. far.wants (record (clock_step p.moment (broke p.were.owner.end.server.view)) {
      owed = p.left;
      session = record (broke p.were.owner.end.server.view).session { life = l };
    })) p.at.serves.running

    abbrev is_nothing : Wants → Bool
    is_nothing Want.Nothing = true
    is_nothing wants = false

    -- it wants nothing else
    wants_not : (q : Wants) → is_nothing q ≡ false → far.wants f ≡ q → ⊥
    wants_not q not e = true≢false (ap is_nothing (sym far_nothing ∙ e) ∙ not)

    -- its data connection is not open
    shut_now : IsOpen server.owner.channel → ⊥
    shut_now is = both (open_takes server.owner.channel is) p.shut

    module _ (next : Between) (new : Stand server_side) where
      -- the client is as before, and the server may have said more
      on : (said left : List ℕ) → new.owner.end.server.view ≡ record f { owed = left } → p.left ≡ said ++ left → new.unheard ≡ server.unheard
          → new.owner.channel.untold ≡ [] → (dry new.owner.channel).unwritten ≡ [] → is_taking new.owner.channel ≡ false → next.far ≡ Has_lost
          → behind next ≡ behind between → next.control.to_client ≡ between.control.to_client ++ said → Precedes Are actions next count new client
      on said left view more unread untold none shut hold same ways = record {
        were = p.were;
        sends = p.sends;
        refusals = p.refusals;
        near = p.near;
        queue = p.queue;
        at = got.0;
        asks = p.asks;
        unsent = p.unsent;
        marks = p.marks;
        are_marks = p.are_marks;
        marked = got.1 ∙ p.marked;
        said = p.said ++ said;
        left = left;
        moment = p.moment;
        far_is = view ∙ ap (λ (y : Far). record y { owed = left }) p.far_is;
        whole = p.whole ∙ ap (λ o. p.said ++ o) more ∙ sym (append_assoc p.said said left);
        unread = unread ∙ p.unread;
        untold = untold;
        none = none;
        shut = shut;
        hold = hold;
        calm = p.calm;
        heard = p.heard;
        view = p.view;
        split = sym (append_assoc p.queue p.said said) ∙ ap (λ o. o ++ said) p.split
            ∙ append_assoc p.heard (client.unheard ++ between.control.to_client) said
            ∙ ap (λ o. p.heard ++ o) (append_assoc client.unheard between.control.to_client said ∙ ap (λ o. client.unheard ++ o) (sym ways));
        late = p.late;
      }
        where
          got : (o : Stands actions (behind next) count p.were virtual) × (o.world.marks ≡ w.marks)
          got = subst (λ (m : Between). (o : Stands actions m count p.were virtual) × (o.world.marks ≡ w.marks)) (sym same) (p.at, refl)

      -- where it says nothing
      stays : new.owner.end.server.view ≡ f → new.unheard ≡ server.unheard → new.owner.channel.untold ≡ [] → (dry new.owner.channel).unwritten ≡ []
          → is_taking new.owner.channel ≡ false → next.far ≡ Has_lost → behind next ≡ behind between → next.control.to_client ≡ between.control.to_client
          → Precedes Are actions next count new client
      stays view unread untold none shut hold same ways =
          on [] p.left (view ∙ ap (λ o. record f { owed = o }) (ap (λ (y : Far). y.owed) p.far_is)) refl unread untold none shut hold same
          (ways ∙ sym (append-nil between.control.to_client))

      -- and its channel is as before
      idles : new.owner.end.server.view ≡ f → new.unheard ≡ server.unheard → new.owner.channel ≡ server.owner.channel → next ≡ between
          → Precedes Are actions next count new client
      idles view unread channel same =
          stays view unread (ap (λ (l : Channel). l.untold) channel ∙ p.untold) (ap (λ (l : Channel). (dry l).unwritten) channel ∙ p.none) (ap is_taking channel ∙ p.shut)
          (ap (λ (m : Between). m.far) same ∙ p.hold) (ap behind same) (ap (λ (m : Between). m.control.to_client) same)

      -- octets are said
      says : (octets : List ℕ) → ServerIsCalm server.owner new.owner → CanTurn (ByServer (Says octets)) between next → Done (Says octets) server new
          → Precedes Are actions next count new client
      says octets calm can did =
          let channel : new.owner.channel ≡ server.owner.channel = did.gives.channel in
          let some : ℕ = did.gives.count in
          let owed : f.owed ≡ p.left = ap (λ (y : Far). y.owed) p.far_is in
          let waiting : f.waiting ≡ None = ap (λ (y : Far). y.waiting) p.far_is ∙ p.at.serves.none_waits in
          let view : new.owner.end.server.view ≡ control_step some f =
          did.gives.gave.0.done calm ∙ none_later (control_step some f) waiting in
          on octets (drop some p.left) (view ∙ ap (λ o. record f { owed = drop some o }) owed)
          (sym (take-append-drop some p.left) ∙ ap (λ o. o ++ drop some p.left) (sym (did.gives.owed ∙ ap (take some) owed))) did.unheard
          (ap (λ (l : Channel). l.untold) channel ∙ p.untold) (ap (λ (l : Channel). (dry l).unwritten) channel ∙ p.none) (ap is_taking channel ∙ p.shut)
          (ap (λ (m : Between). m.far) can ∙ p.hold) (ap behind can) (ap (λ (m : Between). m.control.to_client) can)

      -- none are read, and none heard
      reads_none : (octets : List ℕ) → CanTurn (ByServer (Read octets)) between next → Done (Read octets) server new → Precedes Are actions next count new client
      reads_none octets can did =
          let empty = both_empty octets next.control.to_server (sym can.0 ∙ quiet.1) in
          let channel : new.owner.channel ≡ server.owner.channel = ap (λ o. o.channel) did.owner in
          stays (ap (λ o. o.end.server.view) did.owner) (did.unheard ∙ empty.0 ∙ sym quiet.0) (ap (λ (l : Channel). l.untold) channel ∙ p.untold)
          (ap (λ (l : Channel). (dry l).unwritten) channel ∙ p.none) (ap is_taking channel ∙ p.shut) (ap (λ (m : Between). m.far) can.1 ∙ p.hold)
          (ap behind can.1 ∙ ap (λ o. behind (record between { control = record between.control { to_server = o } })) (empty.1 ∙ sym quiet.1))
          (ap (λ (m : Between). m.control.to_client) can.1)

      hears_none : (octets : List ℕ) → ServerIsCalm server.owner new.owner → next ≡ between → HearsNext octets server new
          → Precedes Are actions next count new client
      hears_none octets calm can did =
          let empty = both_empty octets new.unheard (sym did.next ∙ quiet.0) in
          let channel = did.hears.1 in
          let hears_by : (length octets ≤ 1) × HearsBy (ends_line []) [] server.owner.end new.owner.end =
          subst (λ o. (length octets ≤ 1) × HearsBy (ends_line []) o server.owner.end new.owner.end) empty.0
          (subst (λ o. (length octets ≤ 1) × HearsBy (ends_line o) octets server.owner.end new.owner.end) quiet.0 did.hears.0) in
          stays ((hears_by.1.0 read reads).done calm) (empty.1 ∙ sym quiet.0) (ap (λ (l : Channel). l.untold) channel ∙ p.untold)
          (ap (λ (l : Channel). (dry l).unwritten) channel ∙ p.none) (ap is_taking channel ∙ p.shut)
          (ap (λ (m : Between). m.far) can ∙ p.hold) (ap behind can) (ap (λ (m : Between). m.control.to_client) can)

      -- what came is let go: there is none
      lets_go : (octets : List ℕ) → next ≡ between → Calls {side = server_side} (LetGo octets) server new → Precedes Are actions next count new client
      lets_go octets can did =
          let channel : new.owner.channel ≡ with_untold new.owner.channel.untold server.owner.channel = did.0.1.1 in
          let empty = both_empty octets new.owner.channel.untold (sym did.0.1.0 ∙ p.untold) in
          stays (ap (λ at. at.server.view) did.0.0.0) (ap (λ (y : Stand server_side). y.unheard) did.1) empty.1
          (ap (λ (l : Channel). (dry l).unwritten) channel ∙ p.none) (ap is_taking channel ∙ p.shut) (ap (λ (m : Between). m.far) can ∙ p.hold) (ap behind can)
          (ap (λ (m : Between). m.control.to_client) can)

      -- it leaves its data connection
      leaves : (asked : Asked) → next.far ≡ Has_lost → behind next ≡ behind between → next.control.to_client ≡ between.control.to_client
          → Calls {side = server_side} (Left asked) server new → Precedes Are actions next count new client
      leaves asked hold same ways did =
          let l : IsLeft asked server.owner.channel new.owner.channel = did.0.1 in
          stays (ap (λ at. at.server.view) did.0.0) (ap (λ (y : Stand server_side). y.unheard) did.1) l.untold (ap₂ unless_broken l.fate l.unwritten)
          (ap (λ s. s && is_whole new.owner.channel.fate) l.stands) hold same ways

    -- it asks for no port
    pub asks_none : (port : ℕ) (new : Stand server_side) → Done (Other (Listening port)) server new → ⊥
    asks_none port new did = wants_not Want.Listen refl did.0.2.0

    -- each action of it
    pub precede_server : (action : Action server_side) (next : Between) (new : Stand server_side) → ServerYields action server.owner new.owner
        → CanTurn (ByServer action) between next → Done action server new → Precedes Are actions next count new client
    precede_server (Heard octets) next new is can did = hears_none next new octets is.1 can did
    precede_server (Says octets) next new is can did = says next new octets is.1 can did
    precede_server (Read octets) next new is can did = reads_none next new octets can did
    precede_server (Other (Aside asked)) next new is can did =
        idles next new (ap (λ at. at.server.view) did.0.0.0) (ap (λ (y : Stand server_side). y.unheard) did.1) did.0.1 can
    precede_server (Other (Listening port)) next new is can did = absurd (asks_none port new did)
    precede_server (Other (Opened host (Came from left written ∷ []) at_first so_far rest)) next new is can did = absurd (wants_not Want.Accept refl did.0.2.0)
    precede_server (Other (Got octets)) next new is can did = absurd (wants_not Want.Receive refl did.0.2)
    precede_server (Other (Received octets some)) next new is can did = absurd (wants_not Want.Receive refl did.0.2.1)
    precede_server (Other End) next new is can did = absurd (wants_not Want.Receive refl did.0.2)
    precede_server (Other (Gave some octets rest)) next new is can did = absurd (wants_not Want.Send refl did.0.2)
    precede_server (Other (Wrote octets)) next new is can did = absurd (shut_now did.0.1.is_open)
    precede_server (Other (Waited lost)) next new is can did = absurd (true≢false (sym did.0.2 ∙ ap awaits far_nothing))
    precede_server (Other (LetGo octets)) next new is can did = lets_go next new octets can did
    precede_server (Other (Left (EndedBy left written))) next new is can did = absurd (true≢false (ap is_had (sym can.0 ∙ p.hold)))
    precede_server (Other (Left (Reset left written))) next new is can did =
        leaves next new (Reset left written) (ap (λ (m : Between). m.far) can.1) (ap behind can.1) (ap (λ (m : Between). m.control.to_client) can.1) did
    precede_server (Other (Left Shut)) next new is can did =
        leaves next new Shut (ap (λ (m : Between). m.far) can ∙ p.hold) (ap behind can) (ap (λ (m : Between). m.control.to_client) can) did
    precede_server (Other Closed) next new is can did = absurd (wants_not Want.CloseData refl did.0.2)
    precede_server (Other Failed) next new is can did = absurd (shut_now did.0.1.1)
    precede_server (Other Break) next new is can did = absurd (elim is.0 [
      | inl sends ↦ wants_not Want.Send refl sends
      | inr closing ↦ wants_not Want.CloseData refl (closes f closing)
    ])
    precede_server action next new is can did = absurd is.0
