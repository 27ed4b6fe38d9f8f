-- A server that is told of the break of an upload while the link is open to its client, which was not told: a world tells both once the client is told, or the
-- server alone once the client has closed the link. Until then its server is one that was not told, and said no reply to that, and its client one that heard
-- nothing of that reply. What the server does then.
use Rattle.std.proofs.Common.{◌≡◌, ◌⊎◌, inl, inr, ℕ, ◌≤◌, Bool, true, false, true≢false, ◌&&◌, List, [], ◌++◌, length, take, drop, None, refl, sym, ap, ap₂, subst, ◌∙◌, append_assoc, append-nil, take-append-drop}
use Rattle.ftp_ports.specs.Asking.{Asked}
use Rattle.ftp_ports.specs.Actions.{Calls, Action, Done, HearsNext, Read, Said as Says, Stand}
use Rattle.ftp_ports.specs.Channel.{IsLeft, IsOpen, Channel, with_untold}
use Rattle.ftp_ports.specs.Machine.{IsBroken, Left, LetGo}
use Rattle.ftp_client_driver.specs.Side.{client_side}
use Rattle.ftp_client_model.specs.Calls.{hears, is_busy}
use Rattle.ftp_client_model.specs.View.{Transfer as Running, Transferring, View as Near}
use Rattle.ftp_client_model.specs.declared.client.ClientLink.{ClientLink}
use Rattle.ftp_client_model.specs.declared.client.ClientLink.TheVariants as NearData
use Rattle.ftp_ends.specs.Reply.{reply_octets}
use Rattle.ftp_ends.specs.declared.link.Wants.{Wants}
use Rattle.ftp_ends.specs.declared.link.Wants.TheVariants as Want
use Rattle.ftp_operation.specs.declared.op.Op.{Op}
use Rattle.ftp_server_driver.specs.alone.Side.{HearsBy, ends_line, server_side}
use Rattle.ftp_server_model.specs.Calls as far
use Rattle.ftp_server_model.specs.Calls.{clock_step, control_step, is_upload}
use Rattle.ftp_server_model.specs.Machine.{IsReading, Reading}
use Rattle.ftp_server_model.specs.Replies.{fixed_reply}
use Rattle.ftp_server_model.specs.View.{View as Far, direct_of}
use Rattle.ftp_server_model.specs.declared.session.Life.TheVariants as Lives
use Rattle.laws_world.specs.Claims.{Beginning, IsFair, state_of}
use Rattle.laws_world.specs.Events.{is_closed_by_far}
use Rattle.laws_world.specs.World.{Broken, ClosedByFar, ClosedByNear, Gone, Link, Mark, Opened as IsOpened, World, marked_last}
use Rattle.laws_agreement.proofs.Chunks.{both_empty}
use Rattle.laws_drivers.specs.control.Alone.{ServerIsCalm}
use Rattle.laws_drivers.specs.control.Between.{Between, CanTurn, Has_lost, Server as ByServer}
use Rattle.laws_drivers.proofs.control.Taken.{taken}
use Rattle.laws_drivers.proofs.world.Served.{far_wants}
use Rattle.laws_drivers.proofs.events.FarForms.{none_later}
use Rattle.laws_drivers.proofs.events.Holding.{both, is_sound as is_whole, unclosed}
use Rattle.laws_drivers.proofs.events.NearForms.{busy_same}
use Rattle.laws_drivers.proofs.events.Plain.{IsPlainBy}
use Rattle.laws_transfers.specs.Ahead.{Ahead, Fits, Level, Listens, Opens, Parted, far_ahead}
use Rattle.laws_drivers.specs.events.Moments.{AreMoments, begun_at, last_of, number_in}
use Rattle.laws_transfers.proofs.Beside.{is_taking, open_takes}
use Rattle.laws_transfers.proofs.FarForms.{upload_takes}
use Rattle.laws_transfers.proofs.Known.{AreCarried, Known, is_near_held}
use Rattle.laws_transfers.proofs.Simulating.{known, runs}
use Rattle.laws_breaks.proofs.downloads.Drained.{dry, unless_broken}
use Rattle.laws_breaks.proofs.downloads.Lagging.{OfMarks}
use Rattle.laws_breaks.proofs.downloads.Preceding.{behind, unaware}
use Rattle.laws_breaks.proofs.downloads.Steps.{At}
use Rattle.laws_breaks.proofs.downloads.Unsent.{AskAll, Unsent, all_carried}
use Rattle.laws_breaks.specs.uploads.Coming.{CameOver}
use Rattle.laws_breaks.proofs.uploads.Climbing.{HasGiven, IsLast, world_given}
use Rattle.laws_breaks.proofs.uploads.Concluded.{Concludes}
use Rattle.laws_breaks.proofs.uploads.Offering.{Offers, world_offers}
use Rattle.laws_breaks.proofs.uploads.Serving.{last_come, wants_upload, world_upload}
use Rattle.laws_breaks.proofs.uploads.Standing.{standing}

-- nothing is wanted
abbrev pub is_nothing : Wants → Bool
is_nothing Want.Nothing = true
is_nothing wants = false

-- it is open
abbrev is_open_near : ClientLink → Bool
is_open_near NearData.Open = true
is_open_near link = false

module _ (read : Reading) (reads : IsReading read) (moments : ℕ → ℕ) (timed : AreMoments moments) (b : Beginning) (fair : IsFair b) where
  abbrev Stands : (actions : List (Action client_side)) (between : Between) (count : ℕ) (server : Stand server_side) (client : Stand client_side) → Type 0
  Stands actions between count server client = At read reads moments timed b fair actions between count server client

  -- ---- a world whose server takes octets

  module _ (actions : List (Action client_side)) (puts : AskAll (begun_at moments actions)) (between : Between) (count : ℕ) (server : Stand server_side)
      (client : Stand client_side) (o : Stands actions between count server client) (takes : is_upload o.world.far.session.connection ≡ true) where
    abbrev x : World
    x = o.world

    abbrev v : Near
    v = client.owner.end.view

    -- all that was begun is carried
    carried : AreCarried (begun_at moments actions)
    carried = all_carried (begun_at moments actions) puts

    -- what is known of such a world
    known_then : Known x
    known_then = known read reads moments timed b fair actions between count server client _ o carried

    -- nothing is to be closed there
    near_closed : x.near.closing ≡ false
    near_closed = ap (λ (n : Near). n.closing) o.together.beside.near

    -- its link is open where the client holds one
    pub held_open : is_near_held x.link ≡ true → x.link ≡ IsOpened
    held_open held = by x.link refl held
      where
        by : (link : Link) → x.link ≡ link → is_near_held link ≡ true → x.link ≡ IsOpened
        by IsOpened is e = is
        by ClosedByFar is e = absurd (both takes (known_then.left (ap is_closed_by_far is)))
        by Gone is e = absurd (true≢false (sym e))
        by ClosedByNear is e = absurd (true≢false (sym e))

    -- then the client has octets to give, or has not heard its 150
    pub held_offers : is_near_held x.link ≡ true → Offers x
    held_offers held =
        world_offers read reads (state_of b) (begun_at moments actions) puts x
        (runs read reads moments timed b fair actions between count server client _ o carried)
        o.together.beside.control o.together.beside.unready takes near_closed (held_open held)

    -- and is as it stands beside the world
    pub held_near : (held : is_near_held x.link ≡ true) → x.near ≡ v
    held_near held =
        let open_now : v.closing ≡ false = by v.closing refl in
        let same : x.near ≡ taken v = o.together.beside.near ∙ unclosed (taken v) open_now in
        same ∙ busy_same v (ap is_busy (sym same) ∙ ap is_busy (held_offers held).near)
      where
        by : (closing : Bool) → v.closing ≡ closing → v.closing ≡ false
        by false is = is
        by true is = absurd (both held (o.together.keeping.shut is))

    -- or it has given all, and closed the link
    pub unheld_given : is_near_held x.link ≡ false → (x.link ≡ ClosedByNear) × HasGiven x
    unheld_given not =
        let link : x.link ≡ ClosedByNear = known_then.takes takes not in (
          link,
          world_given read reads (state_of b) (begun_at moments actions) carried x
              (runs read reads moments timed b fair actions between count server client _ o carried) o.together.beside.control o.together.beside.unready link,
        )

    -- its client holds one whose link is open
    pub open_held : v.connection ≡ NearData.Open → is_near_held x.link ≡ true
    open_held is_open = by (is_near_held x.link) refl
      where
        by : (held : Bool) → is_near_held x.link ≡ held → is_near_held x.link ≡ true
        by true is = is
        by false is =
            let g : HasGiven x = (unheld_given is).1 in
            absurd (true≢false (sym (ap is_open_near (ap (λ (n : Near). n.connection) o.together.beside.near ∙ is_open))
            ∙ ap (λ (n : Near). is_open_near n.connection) g.near))

  -- ---- the server was told first

  -- it took octets of an upload and was told at this moment, what it said of the reply to that, and what it owes
  pub record Taker (actions : List (Action client_side)) (between : Between) (server : Stand server_side) : Type 0 where
    pub were : Far
    pub channel : Channel
    pub unheard : List ℕ
    pub takes : far.wants were ≡ Want.Receive
    pub due : IsBroken Want.Receive channel.stands channel.fate
    pub moment : ℕ
    pub at_moment : moment ≡ last_of moments (number_in actions)
    pub were_untold : channel.untold ≡ []
    pub running : were.session.life ≡ Lives.Running
    pub none_waits : were.waiting ≡ None
    pub unshut : were.session.closing ≡ false
    pub ends : Concludes (clock_step moment were)
    pub said : List ℕ
    pub left : List ℕ
    pub far_is : server.owner.end.server.view ≡ record (clock_step moment were) { session = ends.session; owed = left }
    pub whole : were.owed ++ reply_octets (fixed_reply ends.text) ≡ said ++ left
    pub owes : (were.owed ≡ []) ⊎ (said ≡ [])
    pub unread : server.unheard ≡ unheard
    pub untold : server.owner.channel.untold ≡ []
    pub none : (dry server.owner.channel).unwritten ≡ []
    pub shut : is_taking server.owner.channel ≡ false
    pub hold : between.far ≡ Has_lost

  -- a world is beside one that was not told, and a client that heard nothing of that reply
  pub record Outlives (Are : OfMarks) (actions : List (Action client_side)) (between : Between) (count : ℕ) (server : Stand server_side)
      (client : Stand client_side) : Type 0 where
    pub taker : Taker actions between server
    pub refusals : ℕ
    pub near : Near
    pub queue : List ℕ
    pub at : Stands actions (behind between) count (standing taker.were taker.channel taker.unheard) (unaware refusals near queue client.owner.channel)
    pub linked : near.connection ≡ NearData.Open
    pub unsent : IsPlainBy Unsent near
    pub marks : List (List Mark)
    pub are_marks : Are marks
    pub asked : Op (List ℕ)
    pub transfer : Running
    pub last : IsLast (begun_at moments actions) asked
    pub are_broken : (came : ℕ) → CameOver taker.were.session.connection (direct_of taker.were.session) (Transferring asked transfer) came
        → Are (marked_last (Broken came) marks)
    pub marked : at.world.marks ≡ marks
    pub stands : client.owner.channel.stands ≡ true
    pub calm : client.owner.end.refusals ≡ refusals
    pub heard : List ℕ
    pub view : client.owner.end.view ≡ hears near heard
    pub split : queue ++ taker.said ≡ heard ++ (client.unheard ++ between.control.to_client)
    pub late : (heard ≡ []) ⊎ (queue ≡ [])

  module _ {Are : OfMarks} (actions : List (Action client_side)) (puts : AskAll (begun_at moments actions)) (between : Between) (count : ℕ)
      (server : Stand server_side) (client : Stand client_side) (p : Outlives Are actions between count server client) where
    abbrev pub t : Taker actions between server
    t = p.taker

    -- the client that heard nothing of the reply
    abbrev pub virtual : Stand client_side
    virtual = unaware p.refusals p.near p.queue client.owner.channel

    -- the server that was not told
    abbrev pub were : Stand server_side
    were = standing t.were t.channel t.unheard

    abbrev w : World
    w = p.at.world

    -- the world's server takes octets
    pub takes_now : is_upload w.far.session.connection ≡ true
    takes_now = world_upload read reads moments timed b fair actions puts between between count were were virtual refl t.takes p.at

    -- its client holds its link
    held_now : is_near_held w.link ≡ true
    held_now = open_held actions puts (behind between) count were virtual p.at takes_now p.linked

    -- its link is open
    pub link_now : w.link ≡ IsOpened
    link_now = held_open actions puts (behind between) count were virtual p.at takes_now held_now

    -- its client has octets to give, or has not heard its 150
    pub offers_now : Offers w
    offers_now = held_offers actions puts (behind between) count were virtual p.at takes_now held_now

    -- and is as it stands beside the world
    pub near_is : w.near ≡ p.near
    near_is = held_near actions puts (behind between) count were virtual p.at takes_now held_now

    -- nothing goes to the server
    pub quiet : (server.unheard ≡ []) × (between.control.to_server ≡ [])
    quiet =
        let one = both_empty t.unheard between.control.to_server (sym p.at.together.beside.to_server ∙ offers_now.quiet) in
        (t.unread ∙ one.0, one.1)

    -- what it owes
    pub owes_now : w.far.owed ≡ t.were.owed
    owes_now = ap (λ (f : Far). f.owed) p.at.together.beside.far ∙ by p.at.ahead p.at.together.beside.fits
      where
        form : is_upload t.were.session.connection ≡ true
        form = wants_upload t.were t.running t.takes

        by : (ahead : Ahead) → Fits ahead t.were.session.connection → (clock_step p.at.last (far_ahead ahead t.were)).owed ≡ t.were.owed
        by Level fits = refl
        by Opens fits = absurd (both fits (upload_takes t.were.session.connection form).alone)
        by (Listens port) fits = absurd (both fits (upload_takes t.were.session.connection form).unasked)
        by (Parted accepted) fits = refl

    -- as many octets came to it as the world counts
    pub come_now : CameOver t.were.session.connection (direct_of t.were.session) (Transferring p.asked p.transfer) w.came
    come_now = last_come read reads moments timed b fair actions puts between between count were were virtual refl t.takes p.at p.asked p.transfer p.last

    -- where the client heard some of the reply, nothing was owed before it
    pub heard_last : (p.heard ≡ []) ⊎ ((p.queue ≡ []) × (t.were.owed ≡ []))
    heard_last = elim p.late [
      | inl none ↦ inl none
      | inr empty ↦ elim t.owes [
        | inl owed ↦ inr (empty, owed)
        | inr unsaid ↦
            inl (both_empty p.heard (client.unheard ++ between.control.to_client) (sym p.split ∙ ap₂ (λ q s. q ++ s) empty unsaid)).0
      ]
    ]

    -- ---- an action of the server

    -- what the drive's holds
    abbrev pub f : Far
    f = server.owner.end.server.view

    -- it wants nothing
    pub far_nothing : far.wants f ≡ Want.Nothing
    far_nothing =
        ap far.wants t.far_is
        ∙ far_wants (record (clock_step t.moment t.were) { session = t.ends.session; owed = t.left }) (t.ends.life ∙ t.running) (t.ends.unshut ∙ t.unshut)
        ∙ ap far.wants_of t.ends.free

    -- it wants nothing else
    pub wants_not : (q : Wants) → is_nothing q ≡ false → far.wants f ≡ q → ⊥
    wants_not q not e = true≢false (ap is_nothing (sym far_nothing ∙ e) ∙ not)

    -- its data connection is not open
    pub shut_now : IsOpen server.owner.channel → ⊥
    shut_now is = both (open_takes server.owner.channel is) t.shut

    -- what is said is the first of what it owes
    pub far_says : (octets : List ℕ) (new : Stand server_side) → ServerIsCalm server.owner new.owner → Done (Says octets) server new
        → (left : List ℕ) × (new.owner.end.server.view ≡ record f { owed = left }) × (t.left ≡ octets ++ left)
    far_says octets new calm did =
        let some : ℕ = did.gives.count in
        let owed : f.owed ≡ t.left = ap (λ (y : Far). y.owed) t.far_is in
        let waiting : f.waiting ≡ None = ap (λ (y : Far). y.waiting) t.far_is ∙ t.none_waits in (
          drop some t.left,
          did.gives.gave.0.done calm ∙ none_later (control_step some f) waiting ∙ ap (λ o. record f { owed = drop some o }) owed,
          sym (take-append-drop some t.left) ∙ ap (λ o. o ++ drop some t.left) (sym (did.gives.owed ∙ ap (take some) owed)),
        )

    module _ (next : Between) (new : Stand server_side) where
      -- the client is as before, and the server may have said more of its reply
      pub on : (said left : List ℕ) → (t.were.owed ≡ []) ⊎ (said ≡ []) → new.owner.end.server.view ≡ record f { owed = left } → t.left ≡ said ++ left
          → new.unheard ≡ server.unheard
          → new.owner.channel.untold ≡ [] → (dry new.owner.channel).unwritten ≡ [] → is_taking new.owner.channel ≡ false → next.far ≡ Has_lost
          → behind next ≡ behind between → next.control.to_client ≡ between.control.to_client ++ said → Outlives Are actions next count new client
      on said left owes view more unread untold none shut hold same ways = record {
        taker = record {
          were = t.were;
          channel = t.channel;
          unheard = t.unheard;
          takes = t.takes;
          due = t.due;
          moment = t.moment;
          at_moment = t.at_moment;
          were_untold = t.were_untold;
          running = t.running;
          none_waits = t.none_waits;
          unshut = t.unshut;
          ends = t.ends;
          said = t.said ++ said;
          left = left;
          far_is = view ∙ ap (λ (y : Far). record y { owed = left }) t.far_is;
          whole = t.whole ∙ ap (λ o. t.said ++ o) more ∙ sym (append_assoc t.said said left);
          owes = elim owes [
            | inl none ↦ inl none
            | inr unsaid ↦ elim t.owes [
              | inl none ↦ inl none
              | inr before ↦ inr (ap₂ (λ a c. a ++ c) before unsaid)
            ]
          ];
          unread = unread ∙ t.unread;
          untold = untold;
          none = none;
          shut = shut;
          hold = hold;
        };
        refusals = p.refusals;
        near = p.near;
        queue = p.queue;
        at = got.0;
        linked = p.linked;
        unsent = p.unsent;
        marks = p.marks;
        are_marks = p.are_marks;
        asked = p.asked;
        transfer = p.transfer;
        last = p.last;
        are_broken = p.are_broken;
        marked = got.1 ∙ p.marked;
        stands = p.stands;
        calm = p.calm;
        heard = p.heard;
        view = p.view;
        split = sym (append_assoc p.queue t.said said) ∙ ap (λ o. o ++ said) p.split
            ∙ append_assoc p.heard (client.unheard ++ between.control.to_client) said
            ∙ ap (λ o. p.heard ++ o) (append_assoc client.unheard between.control.to_client said ∙ ap (λ o. client.unheard ++ o) (sym ways));
        late = p.late;
      }
        where
          got : (o : Stands actions (behind next) count were virtual) × (o.world.marks ≡ w.marks)
          got = subst (λ (m : Between). (o : Stands actions m count were virtual) × (o.world.marks ≡ w.marks)) (sym same) (p.at, refl)

      -- where it says nothing
      pub stays : new.owner.end.server.view ≡ f → new.unheard ≡ server.unheard → new.owner.channel.untold ≡ [] → (dry new.owner.channel).unwritten ≡ []
          → is_taking new.owner.channel ≡ false → next.far ≡ Has_lost → behind next ≡ behind between → next.control.to_client ≡ between.control.to_client
          → Outlives Are actions next count new client
      stays view unread untold none shut hold same ways =
          on [] t.left (inr refl) (view ∙ ap (λ o. record f { owed = o }) (ap (λ (y : Far). y.owed) t.far_is)) refl unread untold none shut hold same
          (ways ∙ sym (append-nil between.control.to_client))

      -- and its channel is as before
      pub idles : new.owner.end.server.view ≡ f → new.unheard ≡ server.unheard → new.owner.channel ≡ server.owner.channel → next ≡ between
          → Outlives Are actions next count new client
      idles view unread channel same =
          stays view unread (ap (λ (l : Channel). l.untold) channel ∙ t.untold) (ap (λ (l : Channel). (dry l).unwritten) channel ∙ t.none) (ap is_taking channel ∙ t.shut)
          (ap (λ (m : Between). m.far) same ∙ t.hold) (ap behind same) (ap (λ (m : Between). m.control.to_client) same)

      -- octets are said: of its reply alone, where nothing was owed before that
      pub says_last : (octets : List ℕ) → ServerIsCalm server.owner new.owner → CanTurn (ByServer (Says octets)) between next → Done (Says octets) server new
          → t.were.owed ≡ [] → Outlives Are actions next count new client
      says_last octets calm can did owed =
          let said = far_says octets new calm did in
          let channel : new.owner.channel ≡ server.owner.channel = did.gives.channel in
          on octets said.0 (inl owed) said.1 said.2 did.unheard
          (ap (λ (l : Channel). l.untold) channel ∙ t.untold) (ap (λ (l : Channel). (dry l).unwritten) channel ∙ t.none) (ap is_taking channel ∙ t.shut)
          (ap (λ (m : Between). m.far) can ∙ t.hold) (ap behind can) (ap (λ (m : Between). m.control.to_client) can)

      -- none are read, and none heard
      pub reads_none : (octets : List ℕ) → CanTurn (ByServer (Read octets)) between next → Done (Read octets) server new
          → Outlives Are actions next count new client
      reads_none octets can did =
          let empty = both_empty octets next.control.to_server (sym can.0 ∙ quiet.1) in
          let channel : new.owner.channel ≡ server.owner.channel = ap (λ o. o.channel) did.owner in
          stays (ap (λ o. o.end.server.view) did.owner) (did.unheard ∙ empty.0 ∙ sym quiet.0) (ap (λ (l : Channel). l.untold) channel ∙ t.untold)
          (ap (λ (l : Channel). (dry l).unwritten) channel ∙ t.none) (ap is_taking channel ∙ t.shut) (ap (λ (m : Between). m.far) can.1 ∙ t.hold)
          (ap behind can.1 ∙ ap (λ o. behind (record between { control = record between.control { to_server = o } })) (empty.1 ∙ sym quiet.1))
          (ap (λ (m : Between). m.control.to_client) can.1)

      -- and none are heard
      pub hears_none : (octets : List ℕ) → ServerIsCalm server.owner new.owner → next ≡ between → HearsNext octets server new
          → Outlives Are actions next count new client
      hears_none octets calm can did =
          let empty = both_empty octets new.unheard (sym did.next ∙ quiet.0) in
          let channel = did.hears.1 in
          let hears_by : (length octets ≤ 1) × HearsBy (ends_line []) [] server.owner.end new.owner.end =
          subst (λ o. (length octets ≤ 1) × HearsBy (ends_line []) o server.owner.end new.owner.end) empty.0
          (subst (λ o. (length octets ≤ 1) × HearsBy (ends_line o) octets server.owner.end new.owner.end) quiet.0 did.hears.0) in
          stays ((hears_by.1.0 read reads).done calm) (empty.1 ∙ sym quiet.0) (ap (λ (l : Channel). l.untold) channel ∙ t.untold)
          (ap (λ (l : Channel). (dry l).unwritten) channel ∙ t.none) (ap is_taking channel ∙ t.shut)
          (ap (λ (m : Between). m.far) can ∙ t.hold) (ap behind can) (ap (λ (m : Between). m.control.to_client) can)

      -- what came is let go: there is none
      pub lets_go : (octets : List ℕ) → next ≡ between → Calls {side = server_side} (LetGo octets) server new → Outlives Are actions next count new client
      lets_go octets can did =
          let channel : new.owner.channel ≡ with_untold new.owner.channel.untold server.owner.channel = did.0.1.1 in
          let empty = both_empty octets new.owner.channel.untold (sym did.0.1.0 ∙ t.untold) in
          stays (ap (λ at. at.server.view) did.0.0.0) (ap (λ (y : Stand server_side). y.unheard) did.1) empty.1
          (ap (λ (l : Channel). (dry l).unwritten) channel ∙ t.none) (ap is_taking channel ∙ t.shut) (ap (λ (m : Between). m.far) can ∙ t.hold) (ap behind can)
          (ap (λ (m : Between). m.control.to_client) can)

      -- it leaves its data connection
      pub leaves : (asked : Asked) → next.far ≡ Has_lost → behind next ≡ behind between → next.control.to_client ≡ between.control.to_client
          → Calls {side = server_side} (Left asked) server new → Outlives Are actions next count new client
      leaves asked hold same ways did =
          let l : IsLeft asked server.owner.channel new.owner.channel = did.0.1 in
          stays (ap (λ at. at.server.view) did.0.0) (ap (λ (y : Stand server_side). y.unheard) did.1) l.untold (ap₂ unless_broken l.fate l.unwritten)
          (ap (λ s. s && is_whole new.owner.channel.fate) l.stands) hold same ways
