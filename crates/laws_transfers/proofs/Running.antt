-- Every world that a session comes to in which files are put and fetched is known, while the client has left no link of which the server made nothing yet;
-- what is taken of an upload, and what its end leaves; the moment at which it was begun.
use Rattle.std.proofs.Common.{◌≡◌, ◌⊎◌, inl, inr, ℕ, Bool, true, false, true≢false, List, [], ◌∷◌, ◌++◌, take, refl, sym, ap, subst, ◌∙◌, append-nil}
use Rattle.ftp_client_model.specs.Calls as near
use Rattle.ftp_client_model.specs.Calls.{is_sound}
use Rattle.ftp_client_model.specs.View.{View as Near}
use Rattle.ftp_ports.specs.Actions.{Action, Other}
use Rattle.ftp_ports.specs.Machine.{Aside}
use Rattle.ftp_client_driver.specs.Side.{Starting, client_side}
use Rattle.ftp_direct.specs.Direct.{State, answer}
use Rattle.ftp_ends.specs.declared.link.Wants.TheVariants as Want
use Rattle.ftp_operation.specs.declared.op.Op.{Op}
use Rattle.ftp_path.specs.Path.{Names}
use Rattle.ftp_server_model.specs.Calls.{is_upload}
use Rattle.ftp_server_model.specs.Machine.{IsReading, Reading, is_transferring}
use Rattle.ftp_server_model.specs.View.{Session, Transfer}
use Rattle.ftp_server_model.specs.declared.session.Pending.{Pending}
use Rattle.ftp_server_model.specs.declared.session.ServerLink.{ServerLink}
use Rattle.laws_world.specs.Agreement.{Order, Single, Tries}
use Rattle.laws_world.specs.Events.{ControlToClient, ControlToServer, DataToClient, is_closed_by_far, is_closed_by_near, pushed, told}
use Rattle.laws_world.specs.World.{Mark, Stands, World}
use Rattle.laws_dialogues.specs.Fetches.{Ask, IsAsk, IsTimely, Rise, Up, linked}
use Rattle.laws_dialogues.specs.Login.{AtFree, AtOperation}
use Rattle.laws_dialogues.specs.Stage.{Answering, Asking, Way}
use Rattle.laws_agreement.specs.Cut.{Cut, PlacedAt, of_ends, world_at}
use Rattle.laws_agreement.specs.Follows.{Follows, IsUnlinked, Phase}
use Rattle.laws_agreement.specs.Over.{OverRuns}
use Rattle.laws_agreement.specs.Rising.{Lift, Offered}
use Rattle.laws_agreement.specs.Runs.{AtClosed, IsFetching, IsFetchingOn, IsHalting, IsHaltingOn, IsTrailing}
use Rattle.laws_agreement.specs.Stages.{AtFetch, Carries, Holds, Rises, Stage}
use Rattle.laws_agreement.proofs.Deliveries.{pushed_client as still_heard, pushed_server as still_told}
use Rattle.laws_agreement.proofs.FetchEnds.{ends_fetching}
use Rattle.laws_agreement.proofs.FetchRuns.{OnOrHalted, pushed_client, pushed_server, serving_first}
use Rattle.laws_agreement.proofs.FetchServed.{leads_still}
use Rattle.laws_agreement.proofs.PeekEvents.{halt_ends, halt_pushes_up}
use Rattle.laws_agreement.proofs.PeekHears.{OnOrTold, halt_pushes_down}
use Rattle.laws_agreement.proofs.Still.{IsSeen, IsStill, near_wants, seen, seen_placed}
use Rattle.laws_drivers.specs.world.Unaborted.{is_unaborted}
use Rattle.laws_drivers.proofs.world.Known.{aside_still, beside, is_receive, one_way}
use Rattle.laws_drivers.proofs.world.Running.{free_still, not_lost, under_still}
use Rattle.laws_drivers.proofs.world.Served.{Runs}
use Rattle.laws_drivers.specs.events.Moments.{begun_at, last_of, number_in}
use Rattle.laws_transfers.proofs.Acting.{Acts, carry_not, idle_or_acts, idle_rests, is_acting}
use Rattle.laws_transfers.proofs.Halting.{halt_known, halt_runs, halt_sound, halt_stands, halt_unclosing}
use Rattle.laws_transfers.proofs.Known.{AreCarried, Known, aside_rests, calm_known, gives_none, is_calm, is_ready, last_carried, stage_known}

-- ---- where neither end wants anything of a data connection

still_known : (At : Way → World → Type 0) (w : World) → PlacedAt At w → IsUnlinked w → IsStill w → Known w
still_known At w s none still =
    let rests = aside_rests w.far.session.connection still.far.aside in
    calm_known w (one_way At w s) (ap is_calm (near_wants w.near still.near)) rests.0 (λ e. absurd (true≢false (sym e ∙ far)))
    (λ free. record { link = none.link; to_client = none.to_client; wants = near_wants w.near still.near; far = far }) (ap is_closed_by_near none.link)
    none.to_server rests.2 none.to_client
  where
    far : is_transferring w.far.session.connection ≡ false
    far = aside_still w.far.session.connection still.far.aside

-- ---- at a stage

module _ (read : Reading) (state : State) (ask : Ask) (good : IsAsk ask) (own : List Mark) where
  abbrev At : Way → World → Type 0
  At way b = AtFetch state ask read own way b

  -- the server of a placed world runs, and no line waits
  pub stage_serves : (w : World) → PlacedAt At w → Runs w.far
  stage_serves w s = by s.here
    where
      of : IsSeen s.base w
      of = seen_placed At w s

      by : At s.way s.base → Runs w.far
      by (inl l) = record { running = (leads_still read state ask good.plan own s.base w s.way of l).0.far.life; none_waits = of.waiting }
      by (inr (stage, h)) = record { running = ap (λ (t : Session). t.life) (of.session ∙ h.session); none_waits = of.waiting }

  -- its client has not failed
  stage_sound : (w : World) → PlacedAt At w → is_sound w.near.standing ≡ true
  stage_sound w s = by s.here
    where
      of : IsSeen s.base w
      of = seen_placed At w s

      by_lift : (rise : Rise) (lift : Lift) → Holds state ask own (Rises rise lift) s.way s.base → is_sound s.base.near.standing ≡ true
      by_lift rise Offered h = ap (λ (n : Near). is_sound n.standing) h.near
      by_lift rise lift h = ap (λ (n : Near). is_sound n.standing) h.near

      by_stage : (stage : Stage) → Holds state ask own stage s.way s.base → is_sound s.base.near.standing ≡ true
      by_stage (Rises rise lift) h = by_lift rise lift h
      by_stage stage h = ap (λ (n : Near). is_sound n.standing) h.near

      by : At s.way s.base → is_sound w.near.standing ≡ true
      by (inl l) = (leads_still read state ask good.plan own s.base w s.way of l).0.near.sound
      by (inr (stage, h)) = ap is_sound of.standing ∙ by_stage stage h

  -- no ABOR was sent, or nothing of a data connection is wanted
  stage_unaborted : (w : World) → PlacedAt At w → (near.wants w.near ≡ Want.Nothing) ⊎ (is_unaborted w.near.job ≡ true)
  stage_unaborted w s = by s.here
    where
      of : IsSeen s.base w
      of = seen_placed At w s

      by_lift : (rise : Rise) (lift : Lift) → Holds state ask own (Rises rise lift) s.way s.base → is_unaborted s.base.near.job ≡ true
      by_lift rise Offered h = ap (λ (n : Near). is_unaborted n.job) h.near
      by_lift rise lift h = ap (λ (n : Near). is_unaborted n.job) h.near

      by_stage : (stage : Stage) → Holds state ask own stage s.way s.base → is_unaborted s.base.near.job ≡ true
      by_stage (Rises rise lift) h = by_lift rise lift h
      by_stage stage h = ap (λ (n : Near). is_unaborted n.job) h.near

      by : At s.way s.base → (near.wants w.near ≡ Want.Nothing) ⊎ (is_unaborted w.near.job ≡ true)
      by (inl l) = inl (near_wants w.near (leads_still read state ask good.plan own s.base w s.way of l).0.near)
      by (inr (stage, h)) = inr (ap is_unaborted of.job ∙ by_stage stage h)

  -- where octets rise it was begun at the moment that the server was told
  stage_timed : (w : World) → PlacedAt At w → (rise : Rise) → ask.sends ≡ Up rise → (moment : ℕ) → IsTimely ask.sends moment → w.far.context.moment ≡ moment
  stage_timed w s rise sends moment timely =
      ap (λ (u : World). u.far.context.moment) s.is ∙ foot s.way s.cut ∙ sym (rise_at s.base.far.context.moment (of s.here)) ∙ rise_at moment timely
    where
      foot : (way : Way) (c : Cut) → (world_at s.base way c).far.context.moment ≡ s.base.far.context.moment
      foot (Asking text) c = refl
      foot (Answering rows) c = refl

      rise_at : (m : ℕ) → IsTimely ask.sends m → rise.moment ≡ m
      rise_at m is = subst (λ d. IsTimely d m) sends is

      of : At s.way s.base → IsTimely ask.sends s.base.far.context.moment
      of (inl l) = l.timed
      of (inr (stage, h)) = h.timed

  -- a client that is to close has no octet on its way to it
  stage_closes : (w : World) → PlacedAt At w → w.near.closing ≡ true → w.data_to_client ≡ []
  stage_closes w s closing = by_here s.here
    where
      of : IsSeen s.base w
      of = seen_placed At w s

      falling_at : w.data_to_client ≡ s.base.data_to_client
      falling_at = ap (λ (u : World). u.data_to_client) s.is ∙ (beside s.base s.way s.cut).2

      none : s.base.near.closing ≡ false → w.data_to_client ≡ []
      none is = absurd (true≢false (sym closing ∙ of.closing ∙ is))

      by_here : At s.way s.base → w.data_to_client ≡ []
      by_here (inl l) = falling_at ∙ l.to_client
      by_here (inr (Carries c, h)) = none (ap (λ (n : Near). n.closing) h.near)
      by_here (inr (stage, h)) = falling_at ∙ h.to_client

  -- where the server takes octets of an upload one was asked for
  stage_rises : (w : World) → PlacedAt At w → is_upload w.far.session.connection ≡ true → (rise : Rise) × (ask.sends ≡ Up rise)
  stage_rises w s takes = by (idle_or_acts read state ask good own w s)
    where
      of : IsSeen s.base w
      of = seen_placed At w s

      never : (link : ServerLink Transfer) (closing : Bool) (pending : Pending Names) → s.base.far.session ≡ linked link closing pending s.base.far.session
          → is_upload link ≡ false → (rise : Rise) × (ask.sends ≡ Up rise)
      never link closing pending is none = absurd (true≢false (sym takes ∙ ap (λ (t : Session). is_upload t.connection) (of.session ∙ is) ∙ none))

      by : (is_acting w.far.session.connection ≡ false) ⊎ Acts read state ask good own s.way s.base → (rise : Rise) × (ask.sends ≡ Up rise)
      by (inl idle) = absurd (true≢false (sym takes ∙ (idle_rests w.far.session.connection idle).0))
      by (inr (inl (port, begun, h))) = never _ _ _ h.session refl
      by (inr (inr (inl (c, h)))) = never _ _ _ h.session (carry_not is_upload refl gives_none ask.listed c.course)
      by (inr (inr (inr (rise, lift, h)))) = (rise, h.ready.2.sends_is)

-- ---- in a world

module _ (read : Reading) (reads : IsReading read) (from : State) (begun : List Order) (puts : AreCarried begun) where
  -- the client alone has closed it
  pub not_trailing : (w : World) → (is_closed_by_near w.link ≡ true → is_ready w.far.session.connection ≡ false) → IsTrailing from begun w → ⊥
  not_trailing w unready t =
      let s = t.stands in
      let link = ap (λ (u : World). is_closed_by_near u.link) s.is ∙ (beside_link s.way s.cut) ∙ ap is_closed_by_near s.here.link in
      let ready = ap (λ (x : Session). is_ready x.connection) ((seen_placed (AtClosed t.now) w s).session ∙ s.here.session) in
      true≢false (sym ready ∙ unready link)
    where
      beside_link : (way : Way) (c : Cut) → is_closed_by_near (world_at t.stands.base way c).link ≡ is_closed_by_near t.stands.base.link
      beside_link (Asking text) c = refl
      beside_link (Answering rows) c = refl

  pub world_known : (w : World) → OverRuns read from begun w → w.control ≡ Stands
      → (is_closed_by_near w.link ≡ true → is_ready w.far.session.connection ≡ false) → Known w
  world_known w runs control unready = by runs
    where
      by_phase : (f : Follows read from begun w) → Phase read from begun w → Known w
      by_phase f (inl (linked, inl free)) = still_known (of_ends (AtFree free.now)) w free.stands f.unlinked (free_still read from begun w free)
      by_phase f (inl (linked, inr under)) =
          still_known (of_ends (AtOperation read under.now under.op (answer under.now under.op under.moment))) w under.stands f.unlinked
          (under_still read from begun w under)
      by_phase f (inr lost) = absurd (not_lost read from begun w control lost)

      by : OverRuns read from begun w → Known w
      by (inl (inl follows)) = by_phase follows follows.phase
      by (inl (inr (inl on))) =
          let f = on.fetching in
          stage_known read f.now f.ask f.is_ask f.own w f.stands on.lasts
      by (inl (inr (inr (inl trailing)))) = absurd (not_trailing w unready trailing)
      by (inl (inr (inr (inr on)))) = let h = on.halting in halt_known h.now h.ask h.own w h.stands on.lasts
      by (inr (inl trying)) = absurd (last_carried trying.going.done _ begun trying.going.begun_is puts)
      by (inr (inr tailing)) = absurd (last_carried tailing.going.done _ begun tailing.going.begun_is puts)

  -- one whose client sent ABOR and takes octets is at a Peek that did
  pub aborted_halts : (w : World) → OverRuns read from begun w → w.control ≡ Stands
      → (is_closed_by_near w.link ≡ true → is_ready w.far.session.connection ≡ false) → is_unaborted w.near.job ≡ false → near.wants w.near ≡ Want.Receive
      → IsHaltingOn from begun w
  aborted_halts w runs control unready aborted wants = by runs
    where
      idle : near.wants w.near ≡ Want.Nothing → ⊥
      idle none = true≢false (sym (ap is_receive (sym none ∙ wants)))

      by_phase : Phase read from begun w → IsHaltingOn from begun w
      by_phase (inl (linked, inl free)) = absurd (idle (near_wants w.near (free_still read from begun w free).near))
      by_phase (inl (linked, inr under)) = absurd (idle (near_wants w.near (under_still read from begun w under).near))
      by_phase (inr lost) = absurd (not_lost read from begun w control lost)

      by : OverRuns read from begun w → IsHaltingOn from begun w
      by (inl (inl follows)) = by_phase follows.phase
      by (inl (inr (inl on))) =
          let f = on.fetching in
          elim (stage_unaborted read f.now f.ask f.is_ask f.own w f.stands) [
            | inl none ↦ absurd (idle none)
            | inr unaborted ↦ absurd (true≢false (sym unaborted ∙ aborted))
          ]
      by (inl (inr (inr (inl trailing)))) = absurd (not_trailing w unready trailing)
      by (inl (inr (inr (inr on)))) = on
      by (inr (inl trying)) = absurd (last_carried trying.going.done _ begun trying.going.begun_is puts)
      by (inr (inr tailing)) = absurd (last_carried tailing.going.done _ begun tailing.going.begun_is puts)

  fetching_serves : (w : World) → IsFetching read from begun w → Runs w.far
  fetching_serves w f = stage_serves read f.now f.ask f.is_ask f.own w f.stands

  fetching_sound : (w : World) → IsFetching read from begun w → is_sound w.near.standing ≡ true
  fetching_sound w f = stage_sound read f.now f.ask f.is_ask f.own w f.stands

  -- a server that hears octets runs on, and no line waits there
  pub hears_serving : (w : World) (count : ℕ) → OverRuns read from begun w → w.control ≡ Stands
      → (is_closed_by_near w.link ≡ true → is_ready w.far.session.connection ≡ false) → Runs (pushed read ControlToServer count w).far
  hears_serving w count runs control unready = by runs
    where
      new : World
      new = pushed read ControlToServer count w

      by_phase : Phase read from begun new → Runs new.far
      by_phase (inl (linked, inl free)) =
          record { running = (free_still read from begun new free).far.life; none_waits = (seen (AtFree free.now) new free.stands).waiting }
      by_phase (inl (linked, inr under)) = record {
        running = (under_still read from begun new under).far.life;
        none_waits = (seen (AtOperation read under.now under.op (answer under.now under.op under.moment)) new under.stands).waiting;
      }
      by_phase (inr lost) = absurd (not_lost read from begun new control lost)

      by : OverRuns read from begun w → Runs new.far
      by (inl (inl f)) = by_phase (still_told read reads from begun count w (record { unlinked = f.unlinked; phase = f.phase })).phase
      by (inl (inr (inl on))) = fetching_serves new (pushed_server read reads from begun count w on.fetching w (serving_first read reads from begun w on))
      by (inl (inr (inr (inl trailing)))) = absurd (not_trailing w unready trailing)
      by (inl (inr (inr (inr on)))) =
          let h = on.halting in halt_runs h.now h.ask h.own new (halt_pushes_up read reads h.now h.ask h.own count w h.stands)
      by (inr (inl trying)) = absurd (last_carried trying.going.done _ begun trying.going.begun_is puts)
      by (inr (inr tailing)) = absurd (last_carried tailing.going.done _ begun tailing.going.begun_is puts)

  -- a client that does has not failed
  pub hears_sound : (w : World) (count : ℕ) → OverRuns read from begun w → w.control ≡ Stands
      → (is_closed_by_near w.link ≡ true → is_ready w.far.session.connection ≡ false) → is_sound (pushed read ControlToClient count w).near.standing ≡ true
  hears_sound w count runs control unready = by runs
    where
      new : World
      new = pushed read ControlToClient count w

      by_phase : Phase read from begun new → is_sound new.near.standing ≡ true
      by_phase (inl (linked, inl free)) = (free_still read from begun new free).near.sound
      by_phase (inl (linked, inr under)) = (under_still read from begun new under).near.sound
      by_phase (inr lost) = absurd (not_lost read from begun new control lost)

      by_on : (on : IsFetchingOn read from begun w) → OnOrHalted read reads from begun w on.fetching new → is_sound new.near.standing ≡ true
      by_on on (inr halts) = halt_sound on.fetching.now on.fetching.ask on.fetching.own new halts
      by_on on (inl f) = fetching_sound new f

      by_halt : (h : IsHalting from begun w) → OnOrTold read h.now h.ask h.own new → is_sound new.near.standing ≡ true
      by_halt h (inl halts) = halt_sound h.now h.ask h.own new halts
      by_halt h (inr told) = stage_sound read h.now h.ask h.is_ask h.own new told

      by : OverRuns read from begun w → is_sound new.near.standing ≡ true
      by (inl (inl f)) = by_phase (still_heard read reads from begun count w (record { unlinked = f.unlinked; phase = f.phase })).phase
      by (inl (inr (inl on))) = by_on on (pushed_client read reads from begun count w on.fetching w (serving_first read reads from begun w on))
      by (inl (inr (inr (inl trailing)))) = absurd (not_trailing w unready trailing)
      by (inl (inr (inr (inr on)))) =
          let h = on.halting in by_halt h (halt_pushes_down read h.now h.ask h.own count w h.stands)
      by (inr (inl trying)) = absurd (last_carried trying.going.done _ begun trying.going.begun_is puts)
      by (inr (inr tailing)) = absurd (last_carried tailing.going.done _ begun tailing.going.begun_is puts)

  -- a client that hears octets and then is to close has no octet on its way to it
  pub hears_closing : (w : World) (count : ℕ) → OverRuns read from begun w → w.control ≡ Stands
      → (is_closed_by_near w.link ≡ true → is_ready w.far.session.connection ≡ false) → (near.hears w.near (take count w.control_to_client)).closing ≡ true
      → w.data_to_client ≡ []
  hears_closing w count runs control unready closing = by runs
    where
      new : World
      new = pushed read ControlToClient count w

      by_on : (on : IsFetchingOn read from begun w) → OnOrHalted read reads from begun w on.fetching new → w.data_to_client ≡ []
      by_on on (inr halts) =
          absurd (true≢false (sym closing ∙ halt_unclosing on.fetching.now on.fetching.ask on.fetching.own new halts))
      by_on on (inl f) = stage_closes read f.now f.ask f.is_ask f.own new f.stands closing

      by_halt : (h : IsHalting from begun w) → OnOrTold read h.now h.ask h.own new → w.data_to_client ≡ []
      by_halt h (inl halts) = absurd (true≢false (sym closing ∙ halt_unclosing h.now h.ask h.own new halts))
      by_halt h (inr told) = stage_closes read h.now h.ask h.is_ask h.own new told closing

      by : OverRuns read from begun w → w.data_to_client ≡ []
      by (inl (inl f)) = f.unlinked.to_client
      by (inl (inr (inl on))) = by_on on (pushed_client read reads from begun count w on.fetching w (serving_first read reads from begun w on))
      by (inl (inr (inr (inl trailing)))) = absurd (not_trailing w unready trailing)
      by (inl (inr (inr (inr on)))) =
          let h = on.halting in by_halt h (halt_pushes_down read h.now h.ask h.own count w h.stands)
      by (inr (inl trying)) = absurd (last_carried trying.going.done _ begun trying.going.begun_is puts)
      by (inr (inr tailing)) = absurd (last_carried tailing.going.done _ begun tailing.going.begun_is puts)

  -- a client that is told of the end of a link on which no octet is left has not failed
  pub ends_sound : (w : World) → OverRuns read from begun w → (is_closed_by_near w.link ≡ true → is_ready w.far.session.connection ≡ false)
      → is_closed_by_far w.link ≡ true → w.data_to_client ≡ [] → is_sound (told DataToClient w).near.standing ≡ true
  ends_sound w runs unready left empty = by runs
    where
      by_halt : (h : IsHalting from begun w) → OnOrTold read h.now h.ask h.own (told DataToClient w) → is_sound (told DataToClient w).near.standing ≡ true
      by_halt h (inl halts) = halt_sound h.now h.ask h.own (told DataToClient w) halts
      by_halt h (inr over) = stage_sound read h.now h.ask h.is_ask h.own (told DataToClient w) over

      by : OverRuns read from begun w → is_sound (told DataToClient w).near.standing ≡ true
      by (inl (inl f)) = absurd (true≢false (sym left ∙ ap is_closed_by_far f.unlinked.link))
      by (inl (inr (inl on))) = fetching_sound (told DataToClient w) (ends_fetching read reads from begun w on left empty)
      by (inl (inr (inr (inl trailing)))) = absurd (not_trailing w unready trailing)
      by (inl (inr (inr (inr on)))) =
          let h = on.halting in by_halt h (halt_ends read reads h.now h.ask h.own w h.stands on.lasts left)
      by (inr (inl trying)) = absurd (last_carried trying.going.done _ begun trying.going.begun_is puts)
      by (inr (inr tailing)) = absurd (last_carried tailing.going.done _ begun tailing.going.begun_is puts)

-- ---- moments

-- that of the last of orders
abbrev moment_last : List Order → ℕ → ℕ
moment_last [] moment = moment
moment_last (Single op at ∷ orders) moment = moment_last orders at
moment_last (Tries upload at ∷ orders) moment = moment_last orders at

moment_end : (orders : List Order) (op : Op (List ℕ)) (at moment : ℕ) → moment_last (orders ++ Single op at ∷ []) moment ≡ at
moment_end [] op at moment = refl
moment_end (Single other before ∷ orders) op at moment = moment_end orders op at before
moment_end (Tries upload before ∷ orders) op at moment = moment_end orders op at before

begun_last : (moments : ℕ → ℕ) (actions : List (Action client_side)) → moment_last (begun_at moments actions) 0 ≡ last_of moments (number_in actions)
begun_last moments [] = refl
begun_last moments (Other (Aside (Starting op)) ∷ before) = moment_end (begun_at moments before) op (moments (number_in before)) 0
begun_last moments (action ∷ before) = ap (λ l. moment_last l 0) (append-nil (begun_at moments before)) ∙ begun_last moments before

module _ (read : Reading) (reads : IsReading read) (from : State) (moments : ℕ → ℕ) (actions : List (Action client_side)) (puts : AreCarried
    (begun_at moments actions)) where
  -- a server that takes octets of an upload was told the moment at which the last operation was begun
  pub world_timed : (w : World) → OverRuns read from (begun_at moments actions) w → w.control ≡ Stands
      → (is_closed_by_near w.link ≡ true → is_ready w.far.session.connection ≡ false) → is_upload w.far.session.connection ≡ true
      → w.far.context.moment ≡ last_of moments (number_in actions)
  world_timed w runs control unready takes = by runs
    where
      begun : List Order
      begun = begun_at moments actions

      still : IsStill w → ⊥
      still waits = true≢false (sym takes ∙ (aside_rests w.far.session.connection waits.far.aside).0)

      by_phase : Phase read from begun w → w.far.context.moment ≡ last_of moments (number_in actions)
      by_phase (inl (linked, inl free)) = absurd (still (free_still read from begun w free))
      by_phase (inl (linked, inr under)) = absurd (still (under_still read from begun w under))
      by_phase (inr lost) = absurd (not_lost read from begun w control lost)

      by_fetching : (f : IsFetching read from begun w) (rise : Rise) → f.ask.sends ≡ Up rise → w.far.context.moment ≡ last_of moments (number_in actions)
      by_fetching f rise sends =
          stage_timed read f.now f.ask f.is_ask f.own w f.stands rise sends f.moment f.timely
          ∙ sym (moment_end f.done f.ask.op f.moment 0) ∙ ap (λ l. moment_last l 0) (sym f.begun_is) ∙ begun_last moments actions

      -- it is an upload that is under way
      by_on : IsFetchingOn read from begun w → w.far.context.moment ≡ last_of moments (number_in actions)
      by_on on =
          let f = on.fetching in
          let rises = stage_rises read f.now f.ask f.is_ask f.own w f.stands takes in
          by_fetching f rises.0 rises.1

      by : OverRuns read from begun w → w.far.context.moment ≡ last_of moments (number_in actions)
      by (inl (inl f)) = by_phase f.phase
      by (inl (inr (inl on))) = by_on on
      by (inl (inr (inr (inl trailing)))) = absurd (not_trailing read reads from begun puts w unready trailing)
      by (inl (inr (inr (inr on)))) =
          let h = on.halting in absurd (true≢false (sym takes ∙ (halt_stands h.now h.ask h.own w h.stands).untaken))
      by (inr (inl trying)) = absurd (last_carried trying.going.done _ begun trying.going.begun_is puts)
      by (inr (inr tailing)) = absurd (last_carried tailing.going.done _ begun tailing.going.begun_is puts)
