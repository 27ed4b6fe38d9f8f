-- Every delivery keeps what follows of what is asked for.
use Rattle.std.proofs.Common.{◌≡◌, ◌⊎◌, inl, inr, ℕ, ◌≤◌, Bool, true, false, List, [], ◌∷◌, ◌++◌, length, take, None, refl, sym, subst, ◌∙◌, arith}
use Rattle.ftp_direct.specs.Direct.{State}
use Rattle.ftp_ends.specs.Reply.{Reply}
use Rattle.ftp_server_model.specs.Machine.{Reading, IsReading}
use Rattle.laws_world.specs.Agreement.{Order}
use Rattle.laws_world.specs.Events.{ControlToServer, ControlToClient, DataToClient, pulled, pushed, filled, DeliversBy, told}
use Rattle.laws_world.specs.Serving.{after_event}
use Rattle.laws_world.specs.World.{World, Mark}
use Rattle.laws_dialogues.specs.Fetches.{Ask, Rise}
use Rattle.laws_dialogues.specs.Stage.{Way}
use Rattle.laws_agreement.specs.Cut.{Goes, PlacedAt}
use Rattle.laws_agreement.specs.Follows.{Told}
use Rattle.laws_agreement.specs.PeekStages.{AtHalt, IsHaltCross}
use Rattle.laws_agreement.specs.Rising.{Lift, Offered, Rising, Risen, Settled, Declined, Unjoined, Closing, Shut, Vanished}
use Rattle.laws_agreement.specs.Runs.{IsAsked, IsFetching, IsFetchingOn, IsHalting, Runs}
use Rattle.laws_agreement.specs.Stages.{Course, Giving, Given, Ended, Severed, Refusing, Unopened, Unclosed, Closed, Lost, Stage, PortAsked, PortTold, Dials, Restarts, Retrieves, Carries, Rises, Tells, Answers, Holds, AtFetch, IsLasting, PortWanted, PortSaid, PortTaken, PortDenied, Awaits, Unaccepted, Dismissed, is_passing, is_served, AtServed, IsServed}
use Rattle.laws_agreement.proofs.Deliveries.{placed_taken}
use Rattle.laws_agreement.proofs.FetchData.{AtFlow, flow_pulls, flow_pushes, flow_is}
use Rattle.laws_agreement.proofs.FetchServed.{Served, lasting_stays, port_asked_serves, port_taken_closes, port_wanted_serves, given_closes, refusing_closes}
use Rattle.laws_agreement.proofs.FetchTold.{answers_served}
use Rattle.laws_agreement.proofs.FetchTurns.{fetch_goes}
use Rattle.laws_agreement.proofs.Keeps.{pulls_to_server, pulls_to_client, pushes_to_server, pushes_to_client}
use Rattle.laws_agreement.proofs.PeekHears.{OnOrTold, crossed_halts}
use Rattle.laws_agreement.proofs.PeekServed.{halt_serves}
use Rattle.laws_agreement.proofs.Placing.{at_stage}
use Rattle.laws_agreement.proofs.Still.{rest_placed}
use Rattle.laws_agreement.proofs.UploadServed.{declined_closes, risen_closes}
use Rattle.laws_agreement.proofs.UploadTold.{tells_served}

-- nothing was begun, marked, reported or left
pub record IsKept (w new : World) : Type 0 where
  pub marks : new.marks ≡ w.marks
  pub reports : new.reports ≡ w.reports
  pub control : new.control ≡ w.control
  pub cutoff : new.cutoff ≡ w.cutoff

module _ (read : Reading) (reads : IsReading read) (from : State) (begun : List Order) where
  abbrev Fetching : World → Type 0
  Fetching w = IsFetching read from begun w

  abbrev At : (w : World) → Fetching w → Way → World → Type 0
  At w f way b = AtFetch f.now f.ask read f.own way b

  -- what is asked for, of which something else is so, with other marks of its link
  unfoldable pub asked_marked : (Stood Other : State → Ask → List Mark → World → Type 0) (w new : World) (f : IsAsked Stood from begun w) (own : List Mark) → new.marks ≡ f.marks ++ own ∷ []
      → new.reports ≡ w.reports → new.control ≡ w.control → new.cutoff ≡ w.cutoff → Other f.now f.ask own new → IsAsked Other from begun new
  asked_marked Stood Other w new f own marks reports control cutoff stands = record {
    done = f.done;
    marks = f.marks;
    own = own;
    ask = f.ask;
    moment = f.moment;
    begun_is = f.begun_is;
    marks_are = marks;
    now = f.now;
    sound = f.sound;
    is_ask = f.is_ask;
    told = subst (λ reports. Told from f.done f.marks None reports f.now) (sym reports) f.told;
    timely = f.timely;
    linked = record { control = control ∙ f.linked.control; cutoff = cutoff ∙ f.linked.cutoff };
    stands = stands;
  }

  -- a download, a listing or an upload stands at a stage
  abbrev pub Fetches : State → Ask → List Mark → World → Type 0
  Fetches now ask own w = PlacedAt (λ way b. AtFetch now ask read own way b) w

  -- or ABOR was sent
  abbrev pub HaltsAt : State → Ask → List Mark → World → Type 0
  HaltsAt now ask own w = AtHalt now ask own w

  -- with other marks of its link
  pub fetching_marked : (w new : World) (f : Fetching w) (own : List Mark) → new.marks ≡ f.marks ++ own ∷ [] → new.reports ≡ w.reports → new.control ≡ w.control → new.cutoff ≡ w.cutoff
      → PlacedAt (λ way b. AtFetch f.now f.ask read own way b) new → Fetching new
  fetching_marked w new f own marks reports control cutoff stands = asked_marked Fetches Fetches w new f own marks reports control cutoff stands

  -- what was asked for is still under way where nothing was marked, reported or left and its stage still stands
  pub fetching_moved : (w new : World) (f : Fetching w) → IsKept w new → PlacedAt (At w f) new → Fetching new
  fetching_moved w new f kept stands = fetching_marked w new f f.own (kept.marks ∙ f.marks_are) kept.reports kept.control kept.cutoff stands

  -- ---- what is served behind an event

  -- where the world behind an event is served to a lasting stage, the list runs on there
  served_on : (w : World) (f : Fetching w) → Served read f.now f.ask f.is_ask.plan f.own w (after_event w) → Runs read from begun (after_event w)
  unfolding fetching_moved fetching_marked asked_marked
  served_on w f s = inr (inl (record {
    fetching = fetching_moved w (after_event w) f (record { marks = s.marks; reports = s.reports; control = s.control; cutoff = s.cutoff }) s.placed;
    lasts = s.lasts;
  }))

  -- a stage that lasts has nothing to be served, so the list runs on behind the event
  lasts_on : (w : World) (f : Fetching w) → IsLasting f.now f.ask read f.own f.stands.way f.stands.base f.stands.here → Runs read from begun (after_event w)
  lasts_on w f lasts =
      subst (Runs read from begun) (sym (lasting_stays read f.now f.ask f.is_ask.plan f.own w f.stands lasts)) (inr (inl (record { fetching = f; lasts = lasts })))

  -- while what was asked for is under way, the list runs on once what is due behind an event is served
  pub fetch_after : (w : World) → Fetching w → Runs read from begun (after_event w)
  fetch_after w f = by_here f.stands.here refl
    where
      lasting : (here : At w f f.stands.way f.stands.base) → f.stands.here ≡ here → IsLasting f.now f.ask read f.own f.stands.way f.stands.base here → Runs read from begun (after_event w)
      lasting here e lasts = lasts_on w f (subst (IsLasting f.now f.ask read f.own f.stands.way f.stands.base) (sym e) lasts)

      by_course : (course : Course) (came queue : List ℕ)
          → (h : Holds f.now f.ask f.own (Carries (record { course = course; came = came; queue = queue })) f.stands.way f.stands.base)
          → f.stands.here ≡ inr (Carries (record { course = course; came = came; queue = queue }), h) → Runs read from begun (after_event w)
      by_course (Giving started octet more) came queue h e = lasting _ e refl
      by_course (Given heard false) came queue h e = served_on w f (given_closes read f.now f.ask f.is_ask.plan f.own heard came queue w f.stands h)
      by_course (Given heard true) came queue h e = lasting _ e refl
      by_course (Ended started clean) came queue h e = lasting _ e refl
      by_course (Severed started) came queue h e = lasting _ e refl
      by_course (Refusing why Unclosed) came queue h e = served_on w f (refusing_closes read f.now f.ask f.is_ask.plan f.own why came queue w f.stands h)
      by_course (Refusing why Closed) came queue h e = lasting _ e refl
      by_course (Refusing why (Lost clean)) came queue h e = lasting _ e refl
      by_course Unopened came queue h e = lasting _ e refl

      by_lift : (rise : Rise) (lift : Lift) → (h : Holds f.now f.ask f.own (Rises rise lift) f.stands.way f.stands.base) → f.stands.here ≡ inr (Rises rise lift, h) → Runs read from begun (after_event w)
      by_lift rise Offered h e = lasting _ e refl
      by_lift rise (Rising past octet more came queue mark notes) h e = lasting _ e refl
      by_lift rise (Risen past false came queue mark notes) h e = served_on w f (risen_closes read f.now f.ask f.is_ask.plan f.own rise past came queue mark notes w f.stands h)
      by_lift rise (Risen past true came queue mark notes) h e = lasting _ e refl
      by_lift rise (Settled started mark notes fate left after) h e = lasting _ e refl
      by_lift rise (Declined why Closing) h e = served_on w f (declined_closes read f.now f.ask f.is_ask.plan f.own rise why w f.stands h)
      by_lift rise (Declined why Shut) h e = lasting _ e refl
      by_lift rise (Declined why (Vanished broken)) h e = lasting _ e refl
      by_lift rise Unjoined h e = lasting _ e refl

      by_here : (here : At w f f.stands.way f.stands.base) → f.stands.here ≡ here → Runs read from begun (after_event w)
      by_here (inl l) e = lasting (inl l) e tt
      by_here (inr (PortAsked closing, h)) e =
          served_on w f (port_asked_serves read f.now f.ask f.is_ask.plan f.own closing w f.stands.base f.stands.way (rest_placed _ w f.stands h.way_is) h)
      by_here (inr (PortTold port, h)) e = lasting _ e refl
      by_here (inr (Dials port, h)) e = lasting _ e refl
      by_here (inr (PortWanted connection pending, h)) e =
          served_on w f (port_wanted_serves read f.now f.ask f.is_ask.plan f.own connection pending w f.stands.base f.stands.way (rest_placed _ w f.stands h.way_is) h)
      by_here (inr (PortSaid port connection pending, h)) e = lasting _ e refl
      by_here (inr (PortTaken port true, h)) e = served_on w f (port_taken_closes read f.now f.ask f.is_ask.plan f.own port w f.stands h)
      by_here (inr (PortTaken port false, h)) e = lasting _ e refl
      by_here (inr (PortDenied port connection, h)) e = lasting _ e refl
      by_here (inr (Restarts at restart early, h)) e = lasting _ e refl
      by_here (inr (Retrieves early, h)) e = lasting _ e refl
      by_here (inr (Awaits port begun, h)) e = lasting _ e refl
      by_here (inr (Unaccepted port, h)) e = lasting _ e refl
      by_here (inr (Dismissed port why, h)) e = lasting _ e refl
      by_here (inr (Carries c, h)) e = by_course c.course c.came c.queue h e
      by_here (inr (Rises rise lift, h)) e = by_lift rise lift h e
      by_here (inr (Tells rise said after, h)) e = inl (tells_served read from begun w f rise said after h)
      by_here (inr (Answers said leaves, h)) e = answers_served read from begun w f said leaves h

  -- where ABOR was sent, the list runs on once what is due behind an event is served
  pub halt_after : (w : World) → IsHalting from begun w → Runs read from begun (after_event w)
  unfolding asked_marked
  halt_after w f =
      let s = halt_serves f.now f.ask f.own w f.stands in
      inr (inr (inr (record {
        halting = asked_marked HaltsAt HaltsAt w (after_event w) f f.own (s.marks ∙ f.marks_are) s.reports s.control s.cutoff s.placed;
        lasts = s.lasts;
      })))

  -- what is asked for goes on so or so, with these marks of its link
  pub on_or_told : (Stood : State → Ask → List Mark → World → Type 0) (w new : World) (f : IsAsked Stood from begun w) (own : List Mark) → new.marks ≡ f.marks ++ own ∷ []
      → new.reports ≡ w.reports → new.control ≡ w.control → new.cutoff ≡ w.cutoff → OnOrTold read f.now f.ask own new → Runs read from begun (after_event new)
  on_or_told Stood w new f own marks reports control cutoff (inl halts) = halt_after new (asked_marked Stood HaltsAt w new f own marks reports control cutoff halts)
  on_or_told Stood w new f own marks reports control cutoff (inr told) = fetch_after new (asked_marked Stood Fetches w new f own marks reports control cutoff told)

  -- the same where nothing was marked
  pub moved_on : (Stood : State → Ask → List Mark → World → Type 0) (w new : World) (f : IsAsked Stood from begun w) → IsKept w new → OnOrTold read f.now f.ask f.own new
      → Runs read from begun (after_event new)
  moved_on Stood w new f kept so = on_or_told Stood w new f f.own (kept.marks ∙ f.marks_are) kept.reports kept.control kept.cutoff so

  -- ---- octets of the control connection

  abbrev pub Serves : (w : World) → Fetching w → Way → World → Type 0
  Serves w f way b = AtServed f.now f.ask read f.own way b

  abbrev Crosses : (w : World) → Fetching w → List ℕ → List Reply → World → Type 0
  Crosses w f text rows b = IsHaltCross f.now f.ask f.own text rows b

  -- from a served stage each next turn of the client or the server leads to a stage of the same operation
  goes_of : (w : World) (f : Fetching w) → Goes read (Serves w f) (At w f) (Crosses w f)
  goes_of w f = fetch_goes read reads f.now f.ask f.is_ask f.sound f.own

  -- a world keeps its own marks, reports, control connection and cutoff
  pub no_change : (w : World) → IsKept w w
  no_change w = record { marks = refl; reports = refl; control = refl; cutoff = refl }

  -- a world whose octets of the control connection have moved
  pub record Serving (w : World) (f : Fetching w) (new : World) : Type 0 where
    pub placed : PlacedAt (Serves w f) new
    pub kept : IsKept w new

  -- a world whose octets of the control connection have moved still has what was asked for under way
  pub serving_is : (w : World) (f : Fetching w) (u : World) → Serving w f u → Fetching u
  serving_is w f u m =
      let s = m.placed in
      fetching_moved w u f m.kept (record { base = s.base; way = s.way; cut = s.cut; is = s.is; fits = s.fits; here = s.here.0 })

  -- what outlasts an event is served
  served_of : (stage : Stage) → is_passing stage ≡ false → is_served stage ≡ true
  served_of (PortAsked closing) lasts = refl
  served_of (PortTold port) lasts = refl
  served_of (Dials port) lasts = refl
  served_of (PortWanted connection pending) lasts = refl
  served_of (PortSaid port connection pending) lasts = refl
  served_of (PortTaken port true) lasts = absurd (cc)
  served_of (PortTaken port false) lasts = refl
  served_of (PortDenied port connection) lasts = refl
  served_of (Restarts at restart early) lasts = refl
  served_of (Retrieves early) lasts = refl
  served_of (Awaits port begun) lasts = refl
  served_of (Unaccepted port) lasts = refl
  served_of (Dismissed port why) lasts = refl
  served_of (Carries carry) lasts = refl
  served_of (Rises rise lift) lasts = refl
  served_of (Tells rise said after) lasts = refl
  served_of (Answers said leaves) lasts = refl

  -- where it stands outlasts an event, so nothing is served before the client is told more
  served_here : (w : World) (f : Fetching w) (way : Way) (b : World) (here : At w f way b) → IsLasting f.now f.ask read f.own way b here → IsServed f.now f.ask read f.own way b here
  served_here w f way b (inl l) lasts = tt
  served_here w f way b (inr (stage, h)) lasts = served_of stage lasts

  -- between two events the world itself is one from which octets of the control connection may move
  pub serving_first : (w : World) (on : IsFetchingOn read from begun w) → Serving w on.fetching w
  serving_first w on =
      let s = on.fetching.stands in
      record {
        placed = record { base = s.base; way = s.way; cut = s.cut; is = s.is; fits = s.fits; here = (s.here, served_here w on.fetching s.way s.base s.here on.lasts) };
        kept = no_change w;
      }

  -- the client gives octets of its commands, and the world is still served
  pub pulled_server : (n : ℕ) (w : World) (f : Fetching w) (u : World) → Serving w f u → Serving w f (pulled ControlToServer u n)
  pulled_server n w f u m = record {
    placed = pulls_to_server read (Serves w f) (At w f) (Crosses w f) (goes_of w f) n u m.placed;
    kept = record { marks = m.kept.marks; reports = m.kept.reports; control = m.kept.control; cutoff = m.kept.cutoff };
  }

  -- the server gives octets of its replies, and the world is still served
  pub pulled_client : (n : ℕ) (w : World) (f : Fetching w) (u : World) → Serving w f u → Serving w f (pulled ControlToClient u n)
  pulled_client n w f u m = record {
    placed = pulls_to_client read (Serves w f) (At w f) (Crosses w f) (goes_of w f) n u m.placed;
    kept = record { marks = m.kept.marks; reports = m.kept.reports; control = m.kept.control; cutoff = m.kept.cutoff };
  }

  -- the server takes octets of a command, and what was asked for is still under way
  pub pushed_server : (n : ℕ) (w : World) (f : Fetching w) (u : World) → Serving w f u → Fetching (pushed read ControlToServer n u)
  pushed_server n w f u m =
      fetching_moved w (pushed read ControlToServer n u) f (record { marks = m.kept.marks; reports = m.kept.reports; control = m.kept.control; cutoff = m.kept.cutoff })
      (pushes_to_server read (Serves w f) (At w f) (Crosses w f) (goes_of w f) n u m.placed)

  -- what was asked for is under way, or a Peek has sent ABOR
  abbrev pub OnOrHalted : (w : World) → Fetching w → World → Type 0
  OnOrHalted w f new = Fetching new ⊎ AtHalt f.now f.ask f.own new

  -- and so the list runs on
  pub runs_after : (w new : World) (f : Fetching w) → IsKept w new → OnOrHalted w f new → Runs read from begun (after_event new)
  runs_after w new f kept (inl on) = fetch_after new on
  runs_after w new f kept (inr halts) = moved_on Fetches w new f kept (inl halts)

  -- the client takes octets of replies, and it is under way still, or a Peek has sent ABOR
  pub pushed_client : (n : ℕ) (w : World) (f : Fetching w) (u : World) → Serving w f u → OnOrHalted w f (pushed read ControlToClient n u)
  pushed_client n w f u m = elim (pushes_to_client read (Serves w f) (At w f) (Crosses w f) (goes_of w f) n u m.placed) [
    | inl placed ↦ inl (serving_is w f new (record { placed = placed; kept = kept }))
    | inr crossed ↦ by_cross (crossed_halts read f.now f.ask f.own new crossed)
  ]
    where
      new : World
      new = pushed read ControlToClient n u

      kept : IsKept w new
      kept = record { marks = m.kept.marks; reports = m.kept.reports; control = m.kept.control; cutoff = m.kept.cutoff }

      by_cross : OnOrTold read f.now f.ask f.own new → OnOrHalted w f new
      by_cross (inl halts) = inr halts
      by_cross (inr told) = inl (fetching_moved w new f kept told)

  -- the client gives octets call after call, and the world is still served
  pub filled_server : (counts : List ℕ) (w : World) (f : Fetching w) (u : World) → Serving w f u → Serving w f (filled ControlToServer u counts)
  filled_server [] w f u m = m
  filled_server (count ∷ counts) w f u m = filled_server counts w f (pulled ControlToServer u count) (pulled_server count w f u m)

  -- the server gives octets call after call, and the world is still served
  pub filled_client : (counts : List ℕ) (w : World) (f : Fetching w) (u : World) → Serving w f u → Serving w f (filled ControlToClient u counts)
  filled_client [] w f u m = m
  filled_client (count ∷ counts) w f u m = filled_client counts w f (pulled ControlToClient u count) (pulled_client count w f u m)

  -- what is lent is of no matter
  pub holds_taken : (w : World) (f : Fetching w) (octets : List ℕ) (stage : Stage) (way : Way) (b : World) → Holds f.now f.ask f.own stage way b
      → Holds f.now f.ask f.own stage way (record b { taken = octets })
  holds_taken w f octets stage way b h = at_stage h.near h.session h.steady h.timed h.ready h.link h.to_server h.to_client h.came h.marked h.way_is h.fine

  -- how far it is stays the same with other octets lent
  here_taken : (w : World) (f : Fetching w) (octets : List ℕ) (way : Way) (b : World) → At w f way b → At w f way (record b { taken = octets })
  here_taken w f octets way b (inl l) = inl (record { on = l.on; some = l.some; timed = l.timed; link = l.link; to_server = l.to_server; to_client = l.to_client; marked = l.marked })
  here_taken w f octets way b (inr (stage, h)) = inr (stage, holds_taken w f octets stage way b h)

  -- what was asked for is under way also with other octets lent
  pub fetching_taken : (octets : List ℕ) (w : World) → Fetching w → Fetching (record w { taken = octets })
  fetching_taken octets w f =
      fetching_moved w (record w { taken = octets }) f (record { marks = refl; reports = refl; control = refl; cutoff = refl })
      (placed_taken {At = At w f} octets f.stands (here_taken w f octets f.stands.way f.stands.base f.stands.here))

  -- what outlasts an event outlasts it with other octets lent
  lasts_taken : (octets : List ℕ) (w : World) (f : Fetching w) (here : At w f f.stands.way f.stands.base) → IsLasting f.now f.ask read f.own f.stands.way f.stands.base here
      → IsLasting f.now f.ask read f.own f.stands.way (record f.stands.base { taken = octets }) (here_taken w f octets f.stands.way f.stands.base here)
  unfolding here_taken
  lasts_taken octets w f (inl l) lasts = lasts
  lasts_taken octets w f (inr (stage, h)) lasts = lasts

  -- between two events what was asked for is under way also with other octets lent
  pub fetching_on_taken : (octets : List ℕ) (w : World) → IsFetchingOn read from begun w → IsFetchingOn read from begun (record w { taken = octets })
  unfolding fetching_taken fetching_moved fetching_marked asked_marked
  fetching_on_taken octets w f = record { fetching = fetching_taken octets w f.fetching; lasts = lasts_taken octets w f.fetching f.fetching.stands.here f.lasts }

  -- what is served is served with other octets lent
  served_taken : (octets : List ℕ) (w : World) (f : Fetching w) (way : Way) (b : World) (here : At w f way b) → IsServed f.now f.ask read f.own way b here
      → IsServed f.now f.ask read f.own way (record b { taken = octets }) (here_taken w f octets way b here)
  unfolding here_taken
  served_taken octets w f way b (inl l) served = served
  served_taken octets w f way b (inr (stage, h)) served = served

  -- a world whose octets of the control connection have moved is one also with other octets lent
  pub serving_taken : (octets : List ℕ) (w : World) (f : Fetching w) (u : World) → Serving w f u → Serving w f (record u { taken = octets })
  serving_taken octets w f u m =
      let s = m.placed in
      record {
        placed = placed_taken octets s (here_taken w f octets s.way s.base s.here.0, served_taken octets w f s.way s.base s.here.0 s.here.1);
        kept = record { marks = m.kept.marks; reports = m.kept.reports; control = m.kept.control; cutoff = m.kept.cutoff };
      }

  -- a delivery of command octets to the server, given only or also taken, keeps the list running
  pub fetch_delivers_server : (none : Bool) (count : ℕ) (w new : World) → IsFetchingOn read from begun w → DeliversBy none read ControlToServer count w new → Runs read from begun new
  fetch_delivers_server true count w new on m =
      let f = on.fetching in
      subst (Runs read from begun) (sym m.is) (fetch_after _ (serving_is w f _ (pulled_server m.gave w f w (serving_first w on))))
  fetch_delivers_server false count w new on d =
      let f = on.fetching in
      let full = filled_server d.counts w f w (serving_first w on) in
      let lent = serving_taken (take d.taken (filled ControlToServer w d.counts).control_to_server) w f (filled ControlToServer w d.counts) full in
      subst (Runs read from begun) (sym d.is) (fetch_after _ (pushed_server d.taken w f _ lent))

  -- a delivery of reply octets to the client, given only or also taken, keeps the list running
  pub fetch_delivers_client : (none : Bool) (count : ℕ) (w new : World) → IsFetchingOn read from begun w → DeliversBy none read ControlToClient count w new → Runs read from begun new
  fetch_delivers_client true count w new on m =
      let f = on.fetching in
      subst (Runs read from begun) (sym m.is) (fetch_after _ (serving_is w f _ (pulled_client m.gave w f w (serving_first w on))))
  fetch_delivers_client false count w new on d =
      let f = on.fetching in
      let full = filled_client d.counts w f w (serving_first w on) in
      let lent = serving_taken (take d.taken (filled ControlToClient w d.counts).control_to_client) w f (filled ControlToClient w d.counts) full in
      let new : World = pushed read ControlToClient d.taken (record (filled ControlToClient w d.counts) { taken = take d.taken (filled ControlToClient w d.counts).control_to_client }) in
      subst (Runs read from begun) (sym d.is)
      (runs_after w new f (record { marks = lent.kept.marks; reports = lent.kept.reports; control = lent.kept.control; cutoff = lent.kept.cutoff }) (pushed_client d.taken w f _ lent))

  -- ---- octets of the link

  abbrev pub Flowing : (w : World) → Fetching w → World → Type 0
  Flowing w f new = PlacedAt (AtFlow f.now f.ask f.own) new

  -- a world whose octets have moved
  pub record Moved (w : World) (f : Fetching w) (new : World) : Type 0 where
    pub flowing : Flowing w f new
    pub kept : IsKept w new

  -- the server gives octets of the file to the link, and they still flow
  pub moved_pulls : (n : ℕ) (w : World) (f : Fetching w) (u : World) → Moved w f u → Moved w f (pulled DataToClient u n)
  moved_pulls n w f u m = record {
    flowing = flow_pulls read f.now f.ask f.is_ask f.sound f.own n u m.flowing;
    kept = record { marks = m.kept.marks; reports = m.kept.reports; control = m.kept.control; cutoff = m.kept.cutoff };
  }

  -- the server gives octets to the link call after call, and they still flow
  pub moved_filled : (counts : List ℕ) (w : World) (f : Fetching w) (u : World) → Moved w f u → Moved w f (filled DataToClient u counts)
  moved_filled [] w f u m = m
  moved_filled (count ∷ counts) w f u m = moved_filled counts w f (pulled DataToClient u count) (moved_pulls count w f u m)

  -- octets of the link flow also with other octets lent
  pub moved_taken : (octets : List ℕ) (w : World) (f : Fetching w) (u : World) → Moved w f u → Moved w f (record u { taken = octets })
  moved_taken octets w f u m =
      let s = m.flowing in
      record {
        flowing = placed_taken octets s (record {
          course = s.here.course;
          came = s.here.came;
          queue = s.here.queue;
          flows = s.here.flows;
          holds = holds_taken w f octets (Carries (record { course = s.here.course; came = s.here.came; queue = s.here.queue })) s.way s.base s.here.holds;
        });
        kept = record { marks = m.kept.marks; reports = m.kept.reports; control = m.kept.control; cutoff = m.kept.cutoff };
      }

  -- a world whose octets of the link have moved still has what was asked for under way
  pub moved_is : (w : World) (f : Fetching w) (u : World) → Moved w f u → Fetching u
  moved_is w f u m = fetching_moved w u f m.kept (flow_is read f.now f.ask f.is_ask f.sound f.own u m.flowing)

  -- the client takes octets of those that are on the link, and it is under way still, or a Peek has sent ABOR
  pub moved_pushes : (n : ℕ) (w : World) (f : Fetching w) (u : World) → n ≤ length u.data_to_client → Moved w f u → OnOrHalted w f (pushed read DataToClient n u)
  moved_pushes n w f u few m = elim (flow_pushes read f.now f.ask f.is_ask f.sound f.own n u few m.flowing) [
    | inl flowing ↦ inl (moved_is w f (pushed read DataToClient n u) (record { flowing = flowing; kept = kept }))
    | inr halts ↦ inr halts
  ]
    where
      kept : IsKept w (pushed read DataToClient n u)
      kept = record { marks = m.kept.marks; reports = m.kept.reports; control = m.kept.control; cutoff = m.kept.cutoff }

  -- a delivery of octets of the link to the client keeps the list running while they flow
  pub fetch_delivers_data : (none : Bool) (count : ℕ) (w new : World) (f : Fetching w) → Flowing w f w → DeliversBy none read DataToClient count w new → Runs read from begun new
  fetch_delivers_data true count w new f flowing m =
      subst (Runs read from begun) (sym m.is) (fetch_after _ (moved_is w f _ (moved_pulls m.gave w f w (record { flowing = flowing; kept = no_change w }))))
  fetch_delivers_data false count w new f flowing d =
      let full = moved_filled d.counts w f w (record { flowing = flowing; kept = no_change w }) in
      let lent = moved_taken (take d.taken (filled DataToClient w d.counts).data_to_client) w f (filled DataToClient w d.counts) full in
      let few : d.taken ≤ length (filled DataToClient w d.counts).data_to_client = omega (arith, d.takes.within) in
      let new : World = pushed read DataToClient d.taken (record (filled DataToClient w d.counts) { taken = take d.taken (filled DataToClient w d.counts).data_to_client }) in
      subst (Runs read from begun) (sym d.is)
      (runs_after w new f (record { marks = lent.kept.marks; reports = lent.kept.reports; control = lent.kept.control; cutoff = lent.kept.cutoff }) (moved_pushes d.taken w f _ few lent))
