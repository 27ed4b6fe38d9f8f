-- What a client of an upload does after its server was told of the break, until it is told itself or has closed the link: it reads and hears what the server
-- says, and gives and writes octets that nobody reads. Once it is told a world's link breaks, for both, and once it has closed it for the server alone.
use Rattle.std.proofs.Common.{◌≡◌, ◌⊎◌, inl, inr, ℕ, suc, ◌<◌, Bool, true, false, true≢false, List, [], ◌∷◌, ◌++◌, length, take, drop, refl, sym, ap, ap₂, subst, ◌∙◌, append_assoc, append-nil, length-append, arith}
use Rattle.std.proofs.Math.Seq.{take-nil, drop-nil}
use Rattle.std.proofs.lemmas.List.{take-append-le}
use Rattle.ftp_ports.specs.Actions.{Action, Heard, HearsNext, Said as Says, Says as SaysNext, Stand}
use Rattle.ftp_ports.specs.Channel.{Channel}
use Rattle.ftp_ports.specs.Machine.{seen}
use Rattle.ftp_client_driver.specs.Side.{client_side}
use Rattle.ftp_client_model.specs.Calls as near
use Rattle.ftp_client_model.specs.Calls.{data_closed, data_fault, gives_control, gives_data, hears, is_sound, may_hear, report_of}
use Rattle.ftp_client_model.specs.View.{View as Near}
use Rattle.ftp_client_model.specs.declared.client.ClientLink.TheVariants as NearData
use Rattle.ftp_client_model.specs.declared.client.Ending.TheVariants as Endings
use Rattle.ftp_client_model.proofs.RepliesInFlight.{in_pieces}
use Rattle.ftp_server_driver.specs.alone.Side.{server_side}
use Rattle.ftp_server_model.specs.Calls.{is_upload}
use Rattle.ftp_server_model.specs.Machine.{IsReading, Reading}
use Rattle.laws_world.specs.Claims.{Beginning, IsFair}
use Rattle.laws_world.specs.Events.{broken_by, is_gone, lends_none}
use Rattle.laws_world.specs.World.{Broken, ClosedByNear, Mark, World, marked_last}
use Rattle.laws_agreement.proofs.Chunks.{cuts}
use Rattle.laws_drivers.proofs.world.Moves.{take_front}
use Rattle.laws_drivers.proofs.world.Served.{rests}
use Rattle.laws_drivers.specs.control.Alone.{reports_of}
use Rattle.laws_drivers.specs.events.Moments.{AreMoments, begun_at, begun_by, last_of, number_in}
use Rattle.laws_drivers.specs.control.Between.{Between, CanTurn, Client as ByClient}
use Rattle.laws_drivers.proofs.control.Taken.{taken_none}
use Rattle.laws_drivers.specs.events.Actions.{ArePorts, listened_in}
use Rattle.laws_drivers.proofs.events.Holding.{unclosed}
use Rattle.laws_drivers.proofs.events.Plain.{IsPlainBy, hears_plain}
use Rattle.laws_transfers.proofs.Beside.{rested}
use Rattle.laws_transfers.proofs.Known.{AreCarried, is_near_held}
use Rattle.laws_transfers.proofs.Simulating.{asks}
use Rattle.laws_breaks.specs.downloads.Actions.{MayMarkBreak}
use Rattle.laws_breaks.proofs.downloads.Drained.{dried}
use Rattle.laws_breaks.proofs.downloads.Lagging.{OfMarks, Then}
use Rattle.laws_breaks.proofs.downloads.Preceding.{behind, unaware}
use Rattle.laws_breaks.proofs.downloads.Steps.{Again, client_step, idle_again}
use Rattle.laws_breaks.proofs.downloads.Unsent.{AskAll, Unsent, all_carried, unsent_kept}
use Rattle.laws_breaks.proofs.uploads.Climbing.{HasGiven, IsLast}
use Rattle.laws_breaks.proofs.uploads.Leaving.{Leaves}
use Rattle.laws_breaks.proofs.uploads.Offering.{Offers}
use Rattle.laws_breaks.proofs.uploads.Outlasting.{as_near, at_rest, climbs, heard_is, may_now, may_rest, none_less, of_reply, over_gives, same_wants}
use Rattle.laws_breaks.proofs.uploads.Outliving.{Outlives, Taker, held_near, held_offers, unheld_given}
use Rattle.laws_breaks.proofs.uploads.Rows.{last_may}
use Rattle.laws_breaks.proofs.uploads.Seen.{is_left}
use Rattle.laws_breaks.proofs.uploads.ServerCut.{Remains}
use Rattle.laws_breaks.proofs.uploads.Serving.{last_come, world_upload}
use Rattle.laws_breaks.proofs.uploads.Standing.{standing}
use Rattle.laws_breaks.proofs.uploads.TakerTold.{cut_heard, left_near, ways}

-- octets past a front
past : (front more : List ℕ) (k : ℕ) → k < length more → (j : ℕ) × (j < length (front ++ more)) × (take j (front ++ more) ≡ front ++ take k more)
past [] more k less = (k, less, refl)
past (octet ∷ front) more k less = let there = past front more k less in (suc there.0, omega (arith, there.1), ap (λ o. octet ∷ o) there.2)

module _ (read : Reading) (reads : IsReading read) (moments : ℕ → ℕ) (timed : AreMoments moments) (b : Beginning) (fair : IsFair b) {Are : OfMarks}
    (actions : List (Action client_side)) (puts : AskAll (begun_at moments actions)) (before : List (Action server_side)) (ports : ArePorts before)
    (p : Between) (server : Stand server_side) (old : Stand client_side)
    (l : Outlives read reads moments timed b fair Are actions p (listened_in before) server old) where
  abbrev count : ℕ
  count = listened_in before

  abbrev t : Taker read reads moments timed b fair actions p server
  t = l.taker

  abbrev w : World
  w = l.at.world

  abbrev n : Near
  n = l.near

  abbrev c : Near
  c = old.owner.end.view

  abbrev were : Stand server_side
  were = standing t.were t.channel t.unheard

  abbrev virtual : Stand client_side
  virtual = unaware l.refusals n l.queue old.owner.channel

  -- all that was begun is carried
  carried : AreCarried (begun_at moments actions)
  carried = all_carried (begun_at moments actions) puts

  -- an action that begins nothing
  begun_same : (action : Action client_side) → begun_by (moments (number_in actions)) action ≡ [] → begun_at moments (action ∷ actions) ≡ begun_at moments actions
  begun_same action none = ap (λ o. begun_at moments actions ++ o) none ∙ append-nil (begun_at moments actions)

  -- ---- after a step of one that heard nothing of the reply

  module _ (action : Action client_side) (begins : begun_by (moments (number_in actions)) action ≡ []) (next : Between) (new : Stand client_side)
      (calm : new.owner.end.refusals ≡ old.owner.end.refusals) (hold : next.far ≡ p.far)
      (unmarked : (marks : List (List Mark)) → MayMarkBreak action old.owner marks marks) (number : number_in (action ∷ actions) ≡ number_in actions)
      (stands : new.owner.channel.stands ≡ old.owner.channel.stands) where
    asked : AskAll (begun_at moments (action ∷ actions))
    asked = subst AskAll (sym (begun_same action begins)) puts

    -- the same operation was begun last
    last : IsLast (begun_at moments (action ∷ actions)) l.asked
    last = (l.last.0, l.last.1, begun_same action begins ∙ l.last.2)

    abbrev After : Type 0
    After =
        Outlives read reads moments timed b fair (Then action old.owner Are) (action ∷ actions) next count server new
        ⊎ Leaves read reads moments timed b fair (Then action old.owner Are) (action ∷ actions) next count (dried server) new

    -- the server is as before
    abbrev taker : Taker read reads moments timed b fair (action ∷ actions) next server
    taker = record {
      were = t.were;
      channel = t.channel;
      unheard = t.unheard;
      takes = t.takes;
      due = t.due;
      moment = t.moment;
      at_moment = t.at_moment ∙ ap (last_of moments) (sym number);
      were_untold = t.were_untold;
      running = t.running;
      none_waits = t.none_waits;
      unshut = t.unshut;
      ends = t.ends;
      said = t.said;
      left = t.left;
      far_is = t.far_is;
      whole = t.whole;
      owes = t.owes;
      unread = t.unread;
      untold = t.untold;
      none = t.none;
      shut = t.shut;
      hold = hold ∙ t.hold;
    }

    module _ (view : Near) (queue heard : List ℕ)
        (got : Again read reads moments timed b fair (action ∷ actions) (behind next) count were (unaware l.refusals view queue new.owner.channel) w.marks)
        (unsent : IsPlainBy Unsent view) (is : new.owner.end.view ≡ hears view heard)
        (may : (k : ℕ) → k < length heard → may_hear (hears view (take k heard)) ≡ true)
        (split : queue ++ t.said ≡ heard ++ (new.unheard ++ next.control.to_client)) (late : (heard ≡ []) ⊎ (queue ≡ [])) where
      abbrev then_near : Stand client_side
      then_near = unaware l.refusals view queue new.owner.channel

      abbrev x : World
      x = got.0.world

      -- the world's server takes octets
      takes : is_upload x.far.session.connection ≡ true
      takes = world_upload read reads moments timed b fair (action ∷ actions) asked (behind next) (behind next) count were were then_near refl t.takes got.0

      -- its link is open still
      stays_open : is_near_held x.link ≡ true → After
      stays_open held =
          let same : x.near ≡ view =
          held_near read reads moments timed b fair (action ∷ actions) asked (behind next) count were then_near got.0 takes held in
          let offers : Offers x =
          held_offers read reads moments timed b fair (action ∷ actions) asked (behind next) count were then_near got.0 takes held in
          inl (record {
            taker = taker;
            refusals = l.refusals;
            near = view;
            queue = queue;
            at = got.0;
            linked = ap (λ (v : Near). v.connection) (sym same) ∙ ap (λ (v : Near). v.connection) offers.near;
            unsent = unsent;
            marks = l.marks;
            are_marks = (l.marks, l.are_marks, unmarked l.marks);
            asked = l.asked;
            transfer = l.transfer;
            last = last;
            are_broken = λ came is. (marked_last (Broken came) l.marks, l.are_broken came is, unmarked (marked_last (Broken came) l.marks));
            marked = got.1 ∙ l.marked;
            stands = stands ∙ l.stands;
            calm = calm ∙ l.calm;
            heard = heard;
            view = is;
            split = split;
            late = late;
          })

      -- or it gave all, and has closed it
      has_closed : is_near_held x.link ≡ false → After
      has_closed unheld =
          let s = got.0.together.beside in
          let given = unheld_given read reads moments timed b fair (action ∷ actions) asked (behind next) count were then_near got.0 takes unheld in
          let link : x.link ≡ ClosedByNear = given.0 in
          let given_all : HasGiven x = given.1 in
          let open_near : x.near.closing ≡ false = ap (λ (v : Near). v.closing) s.near in
          let r : Remains x then_near (left_near read reads moments timed b fair (action ∷ actions) asked before ports next server taker l.refusals view queue
          new.owner.channel got.0 view) (behind next)
          (ways read reads moments timed b fair (action ∷ actions) asked before ports next server taker l.refusals view queue
          new.owner.channel got.0) = record {
            view = x.near;
            told = ap (λ k. broken_by k (lends_none x)) link;
            stands = ap is_gone link;
            holds = s.near;
            none = ap report_of s.near ∙ taken_none view;
            unclosed = open_near;
            rest = ap (λ v. rests (near.wants v)) (unclosed x.near open_near) ∙ (rested got.0.last got.0.ahead (behind next) count were then_near _ x s
                got.0.serves (asks read reads moments timed b fair (action ∷ actions) (behind next) count were then_near _ got.0
                (all_carried (begun_at moments (action ∷ actions)) asked))).near_rests;
            reports = refl;
            unheard = refl;
            not_taking = refl;
            takes = record { bare = λ e. refl };
            written = refl;
            control = refl;
            dry = refl;
            lost = refl;
          } in
          let come = last_come read reads moments timed b fair (action ∷ actions) asked (behind next) (behind next) count were were then_near refl t.takes got.0
          l.asked l.transfer last in
          let over : view.connection ≡ NearData.Over Endings.Ours =
          sym (ap (λ (v : Near). v.connection) s.near) ∙ ap (λ (v : Near). v.connection) given_all.near in
          let cut = cut_heard read reads moments timed b fair (action ∷ actions) asked before ports next server taker l.refusals view queue new.owner.channel got.0
          view r got.0.sound got.0.plain next new heard (calm ∙ l.calm) is (over_gives view Endings.Ours over) may split refl refl refl (hold ∙ t.hold) in
          inr (record {
            whole = record {
              at = cut.0;
              marks = marked_last (Broken x.came) l.marks;
              are_marks = (marked_last (Broken x.came) l.marks, l.are_broken x.came come, unmarked (marked_last (Broken x.came) l.marks));
              marked = cut.1 ∙ ap (marked_last (Broken x.came)) (got.1 ∙ l.marked);
              unsent = subst (IsPlainBy Unsent) (sym is) (hears_plain Unsent unsent_kept heard view unsent);
            };
            stands = stands ∙ l.stands;
            far = ap is_left (hold ∙ t.hold);
          })

      -- one of both
      pub goes_on : After
      goes_on = by (is_near_held x.link) refl
        where
          by : (held : Bool) → is_near_held x.link ≡ held → After
          by true held = stays_open held
          by false held = has_closed held

    -- where one that heard nothing of it does nothing
    pub stays : new.owner.end.view ≡ c → new.owner.channel ≡ old.owner.channel → behind next ≡ behind p
        → new.unheard ++ next.control.to_client ≡ old.unheard ++ p.control.to_client
        → reports_of action ≡ [] → After
    stays view channel same queue reports =
        goes_on n l.queue l.heard
        (subst (λ (x : Channel). Again read reads moments timed b fair (action ∷ actions) (behind next) count were (unaware l.refusals n l.queue x) w.marks)
        (sym channel)
        (subst (λ (m : Between). Again read reads moments timed b fair (action ∷ actions) m count were virtual w.marks) (sym same)
        (idle_again read reads moments timed b fair action actions l.at begins reports)))
        l.unsent (view ∙ l.view) (may_now read reads moments timed b fair actions puts p count server old l) (l.split ∙ ap (λ o. l.heard ++ o) (sym queue)) l.late

  abbrev pub Follows : Action client_side → Between → Stand client_side → Type 0
  Follows action next new =
      Outlives read reads moments timed b fair (Then action old.owner Are) (action ∷ actions) next count server new
      ⊎ Leaves read reads moments timed b fair (Then action old.owner Are) (action ∷ actions) next count (dried server) new

  -- none of the reply is heard, or all was that came before it
  pub heard_part : (l.heard ≡ []) ⊎ ((l.queue ≡ []) × (t.were.owed ≡ []))
  heard_part = heard_is read reads moments timed b fair actions puts p count server old l

  -- both want the same
  pub wants_alike : near.wants c ≡ near.wants n
  wants_alike = same_wants read reads moments timed b fair actions puts p count server old l

  -- ---- it hears

  module _ (octets : List ℕ) (next : Between) (new : Stand client_side) (calm : new.owner.end.refusals ≡ old.owner.end.refusals) (can : next ≡ p)
      (did : HearsNext octets old new) where
    -- what is to be heard then
    abbrev rest : List ℕ
    rest = new.unheard ++ next.control.to_client

    -- all that it is to hear
    split_now : l.queue ++ t.said ≡ l.heard ++ (octets ++ rest)
    split_now =
        l.split ∙ ap (λ o. l.heard ++ o) (ap (λ o. o ++ p.control.to_client) did.next ∙ append_assoc octets new.unheard p.control.to_client
        ∙ ap (λ (m : Between). octets ++ (new.unheard ++ m.control.to_client)) (sym can))

    -- after what it heard it heard these
    view_now : new.owner.end.view ≡ hears n (l.heard ++ octets)
    view_now =
        let first : take (length octets) old.unheard ≡ octets = ap (take (length octets)) did.next ∙ take_front octets new.unheard in
        (did.hears.0.0.0 calm).0 ∙ ap (hears c) first ∙ ap (λ v. hears v octets) l.view ∙ sym (in_pieces n l.heard octets)

    -- one that heard nothing of the reply hears the first ones
    hears_front : (front queue heard : List ℕ) → l.queue ≡ front ++ queue → l.heard ++ octets ≡ front ++ heard
        → ((k : ℕ) → k < length front → may_hear (hears n (take k front)) ≡ true)
        → ((k : ℕ) → k < length heard → may_hear (hears (hears n front) (take k heard)) ≡ true)
        → queue ++ t.said ≡ heard ++ rest → (heard ≡ []) ⊎ (queue ≡ []) → Follows (Heard octets) next new
    hears_front front queue heard is both_are may_front may_heard split late =
        let then_view : Near = hears n front in
        let then_stand : Stand client_side = unaware l.refusals then_view queue new.owner.channel in
        let first : take (length front) l.queue ≡ front = ap (take (length front)) is ∙ take_front front queue in
        let may : (k : ℕ) → k < length front → may_hear (hears n (take k l.queue)) ≡ true =
        λ k less.
        ap (λ o. may_hear (hears n o)) (ap (take k) is ∙ take-append-le k front queue (omega (arith, less))) ∙ may_front k less in
        let done : HearsNext front virtual then_stand = record {
          hears = (
            ((λ same. (ap (hears n) (sym first), may), λ differ. absurd (differ refl)), inl refl),
            did.hears.1 ∙ ap (λ q. seen q old.owner.channel) wants_alike,
            λ e. absurd (true≢false (sym e)),
          );
          next = is;
          left = refl;
          written = refl;
        } in
        let got : Again read reads moments timed b fair (Heard octets ∷ actions) (behind p) count were then_stand w.marks =
        client_step read reads moments timed b fair (Heard front) tt virtual then_stand (tt, refl) actions carried (behind p) (behind p) refl count
        were l.at done in
        goes_on (Heard octets) refl next new calm (ap (λ (m : Between). m.far) can) (λ marks. refl) refl
        (ap (λ (x : Channel). x.stands) did.hears.1) then_view queue heard
        (subst (λ (m : Between). Again read reads moments timed b fair (Heard octets ∷ actions) m count were then_stand w.marks) (sym (ap behind can)) got)
        (hears_plain Unsent unsent_kept front n l.unsent)
        (view_now ∙ ap (hears n) both_are ∙ in_pieces n front heard) may_heard split late

    -- where it heard none of the reply before
    module _ (none : l.heard ≡ []) where
      may_each : (k : ℕ) → k < length octets → may_hear (hears n (take k octets)) ≡ true
      may_each k less =
          ap (λ v. may_hear (hears v (take k octets))) (sym (as_near read reads moments timed b fair actions puts p count server old l none))
          ∙ ap (λ o. may_hear (hears c o)) (sym (ap (take k) did.next ∙ take-append-le k octets new.unheard (omega (arith, less))))
          ∙ (did.hears.0.0.0 calm).1 k less

      -- it heard these alone
      both_are : l.heard ++ octets ≡ octets
      both_are = ap (λ o. o ++ octets) none

      -- the first of them, and the others after those
      may_first : (front more : List ℕ) → octets ≡ front ++ more → (k : ℕ) → k < length front → may_hear (hears n (take k front)) ≡ true
      may_first front more is k less =
          ap (λ o. may_hear (hears n o)) (sym (ap (take k) is ∙ take-append-le k front more (omega (arith, less))))
          ∙ may_each k (subst (λ o. k < length o) (sym is) (subst (λ size. k < size) (sym (length-append front more)) (omega (arith, less))))

      -- those may be heard
      may_others : (front more : List ℕ) → octets ≡ front ++ more → (k : ℕ) → k < length more → may_hear (hears (hears n front) (take k more)) ≡ true
      may_others front more is k less =
          let there = past front more k less in
          ap may_hear (sym (in_pieces n front (take k more)) ∙ ap (hears n) (sym (ap (take there.0) is ∙ there.2)))
          ∙ may_each there.0 (subst (λ o. there.0 < length o) (sym is) there.1)

      -- so it hears them
      hears_first : Follows (Heard octets) next new
      hears_first =
          let split : octets ++ rest ≡ l.queue ++ t.said = ap (λ o. o ++ (octets ++ rest)) (sym none) ∙ sym split_now in
          elim (cuts octets rest l.queue t.said split) [
            | inl r ↦
                hears_front l.queue [] r.more (sym (append-nil l.queue)) (both_are ∙ r.over) (may_first l.queue r.more r.over)
                (may_others l.queue r.more r.over) (sym r.left) (inr refl)
            | inr r ↦
                hears_front octets (r.octet ∷ r.more) [] r.within (both_are ∙ sym (append-nil octets)) may_each
                (none_less (hears n octets) [] refl) (sym r.left) (inl refl)
          ]

    -- wherever it is
    pub heard_on : Follows (Heard octets) next new
    heard_on = elim heard_part [
      | inl none ↦ hears_first none
      | inr last ↦
          let split : l.queue ++ t.said ≡ (l.heard ++ octets) ++ rest = split_now ∙ sym (append_assoc l.heard octets rest) in
          hears_front [] l.queue (l.heard ++ octets) refl refl (none_less n [] refl)
          (last_may t.were.session t.ends.text n (at_rest read reads moments timed b fair actions puts p count server old l last.0 last.1)
          (may_rest read reads moments timed b fair actions puts p count server old l last.0 last.1) (l.heard ++ octets) (rest ++ t.left)
          (of_reply read reads moments timed b fair actions puts p count server old l last.0 last.1 (l.heard ++ octets) rest split))
          split (inr last.0)
    ]

  -- ---- it says

  -- what it owes, where it heard none of the reply; else it owes none
  pub says_on : (octets : List ℕ) (next : Between) (new : Stand client_side) → new.owner.end.refusals ≡ old.owner.end.refusals
      → CanTurn (ByClient (Says octets)) p next → SaysNext octets old new → Follows (Says octets) next new
  says_on octets next new calm can did = elim heard_part [
    | inl none ↦
        let same : c ≡ n = as_near read reads moments timed b fair actions puts p count server old l none in
        let some : ℕ = did.gives.count in
        let then_stand : Stand client_side = unaware l.refusals (gives_control some n) l.queue new.owner.channel in
        let done : SaysNext octets virtual then_stand = record {
          gives = record {
            count = some;
            owed = did.gives.owed ∙ ap (λ (v : Near). take some v.owed) same;
            gave = (refl, refl);
            channel = did.gives.channel;
          };
          wrote = tt;
          left = refl;
          unheard = refl;
        } in
        goes_on (Says octets) refl next new calm (ap (λ (m : Between). m.far) can) (λ marks. refl) refl
        (ap (λ (x : Channel). x.stands) did.gives.channel) (gives_control some n) l.queue l.heard
        (client_step read reads moments timed b fair (Says octets) tt virtual then_stand (tt, refl) actions carried (behind p) (behind next) (ap behind can)
        count were l.at done)
        (record { job = l.unsent.job; port = l.unsent.port; run = l.unsent.run })
        (did.gives.gave.0 ∙ ap (gives_control some) same ∙ ap (hears (gives_control some n)) (sym none))
        (none_less (gives_control some n) l.heard none)
        (l.split ∙ ap (λ o. l.heard ++ o) (ap₂ (λ q (m : Between). q ++ m.control.to_client) (sym did.unheard) (sym can))) (inl none)
    | inr last ↦
        let k = climbs read reads moments timed b fair actions puts p count server old l last.0 last.1 in
        let owes : c.owed ≡ [] = ap (λ (v : Near). v.owed) k.is ∙ k.owes in
        let none : octets ≡ [] = did.gives.owed ∙ ap (take did.gives.count) owes ∙ take-nil did.gives.count in
        let view : new.owner.end.view ≡ c =
        did.gives.gave.0 ∙ ap (λ o. record c { owed = drop did.gives.count o }) owes ∙ ap (λ o. record c { owed = o }) (drop-nil did.gives.count ∙ sym owes) in
        stays (Says octets) refl next new calm (ap (λ (m : Between). m.far) can) (λ marks. refl) refl
        (ap (λ (x : Channel). x.stands) did.gives.channel) view did.gives.channel
        (ap behind can ∙ ap (λ o. behind (record p { control = record p.control { to_server = o } }))
        (ap (λ o. p.control.to_server ++ o) none ∙ append-nil p.control.to_server))
        (ap₂ (λ q (m : Between). q ++ m.control.to_client) did.unheard can) refl
  ]
