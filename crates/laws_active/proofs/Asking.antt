-- A client that wants a port, in every world that a session comes to: nothing is on its way, and a world tells it one at once.
use Rattle.std.proofs.Common.{◌≡◌, inl, inr, ℕ, Bool, true, false, true≢false, List, [], Option, Some, None, take, refl, sym, ap, ◌∙◌}
use Rattle.std.specs.Prelude.{if◌then◌else◌}
use Rattle.ftp_command.specs.declared.command.Command.{Command}
use Rattle.ftp_direct.specs.Direct.{State, answer}
use Rattle.ftp_ends.specs.declared.link.Wants.{Wants}
use Rattle.ftp_ends.specs.declared.link.Wants.TheVariants as Want
use Rattle.ftp_operation.specs.Operation.{can_be_sent}
use Rattle.ftp_operation.specs.declared.op.Op.{Op}
use Rattle.ftp_client_model.specs.Calls as near
use Rattle.ftp_client_model.specs.Calls.{is_busy, is_busy_job, started_by, unsendable_by}
use Rattle.ftp_client_model.specs.Dialogue.{last_job, placed, sends_if}
use Rattle.ftp_client_model.specs.Octets.{flow_of}
use Rattle.ftp_client_model.specs.Plan.{command_of, first_step}
use Rattle.ftp_client_model.specs.View.{Doing, View as Near}
use Rattle.ftp_client_model.specs.declared.client.ClientLink.{ClientLink}
use Rattle.ftp_client_model.specs.declared.client.ClientLink.TheVariants as Data
use Rattle.ftp_client_model.specs.declared.client.Standing.{Standing}
use Rattle.ftp_client_model.specs.declared.client.Standing.TheVariants as Standings
use Rattle.ftp_client_model.specs.declared.client.Step.{Step}
use Rattle.ftp_client_model.specs.declared.client.Step.TheVariants as Steps
use Rattle.ftp_path.specs.Path.{Names}
use Rattle.ftp_server_model.specs.Machine.{IsReading, Reading}
use Rattle.ftp_server_model.specs.View.{Session, Transfer}
use Rattle.ftp_server_model.specs.declared.session.Pending.{Pending}
use Rattle.ftp_server_model.specs.declared.session.ServerLink.{ServerLink}
use Rattle.laws_world.specs.Agreement.{Order}
use Rattle.laws_world.specs.Events.{ControlToClient, is_closed_by_near, pushed}
use Rattle.laws_world.specs.Serving.{after_event, collected, far_served, near_listens, near_served, near_served_by}
use Rattle.laws_world.specs.World.{Gone, Mark, Stands, World, port_at}
use Rattle.laws_dialogues.specs.Dialogue.{is_set_aside}
use Rattle.laws_dialogues.specs.Fetches.{Ask, IsAsk, Rise, busy}
use Rattle.laws_dialogues.specs.Stage.{Way, rest}
use Rattle.laws_dialogues.specs.Login.{AtFree, AtOperation}
use Rattle.laws_agreement.specs.Cut.{PlacedAt, world_at}
use Rattle.laws_agreement.specs.Follows.{IsFree, Phase}
use Rattle.laws_agreement.specs.PeekStages.{AtHalt, halt_tie}
use Rattle.laws_agreement.specs.Runs.{IsFetching, IsFetchingOn, IsHalting}
use Rattle.laws_agreement.specs.Over.{OverRuns}
use Rattle.laws_agreement.specs.Rising.{Closing, Declined, Door, Lift, Offered, Risen, Rising, Settled, Shut, Unjoined, Vanished, door_near}
use Rattle.laws_agreement.specs.Stages.{Answers, AtFetch, Awaits, Carries, Dials, Dismissed, Early, Dialled, Holds, PortAsked, PortDenied, PortSaid, PortTaken, PortTold, PortWanted, Ported, Restarts, Retrieves, Rises, Tells, Tie, Joined, Unaccepted, early_near, near_link, tie_of}
use Rattle.laws_agreement.proofs.Deliveries.{pushed_client as still_heard}
use Rattle.laws_agreement.proofs.FetchRuns.{OnOrHalted, pushed_client, serving_first}
use Rattle.laws_agreement.proofs.FetchServed.{leads_still}
use Rattle.laws_agreement.proofs.FetchWants.{lasting_busy}
use Rattle.laws_agreement.proofs.PeekHears.{OnOrTold, halt_pushes_down}
use Rattle.laws_agreement.proofs.PeekRuns.{halt_busy}
use Rattle.laws_agreement.proofs.Rests.{near_form}
use Rattle.laws_agreement.proofs.Still.{IsSeen, IsStill, no_octets, operation_on, rest_placed, rest_world, seen, seen_placed}
use Rattle.laws_drivers.proofs.control.Leaving.{is_entered, not_logging}
use Rattle.laws_drivers.proofs.world.Known.{beside}
use Rattle.laws_drivers.proofs.world.Running.{free_still, not_lost, under_still}
use Rattle.laws_drivers.proofs.world.Served.{Runs, after_settles, rests, settled}
use Rattle.laws_drivers.proofs.events.Stands.{wants_port}
use Rattle.laws_transfers.proofs.Known.{AreCarried, is_ready, last_carried}
use Rattle.laws_transfers.proofs.Running.{not_trailing}

-- ---- what is so of it

pub record Asks (w : World) : Type 0 where
  pub op : Op (List ℕ)
  pub near : w.near ≡ busy (Doing op Steps.Listen) Data.ListenWanted w.near
  pub owed : w.near.owed ≡ []
  pub to_server : w.control_to_server ≡ []
  pub to_client : w.control_to_client ≡ []
  pub far_owed : w.far.owed ≡ []
  pub aside : is_set_aside w.far.session.connection ≡ true
  pub link : w.link ≡ Gone
  pub rising : w.data_to_server ≡ []
  pub falling : w.data_to_client ≡ []

-- ---- at a stage

tie_portless : (tie : Tie) → wants_port (near_link tie) ≡ false
tie_portless Joined = refl
tie_portless tie = refl

early_portless : (early : Early) → wants_port (early_near early) ≡ false
early_portless (Dialled true) = refl
early_portless (Dialled false) = refl
early_portless (Ported port) = refl

door_portless : (door : Door) → wants_port (door_near door) ≡ false
door_portless Closing = refl
door_portless Shut = refl
door_portless (Vanished broken) = refl

module _ (read : Reading) (state : State) (ask : Ask) (good : IsAsk ask) (own : List Mark) where
  abbrev At : Way → World → Type 0
  At way b = AtFetch state ask read own way b

  pub stage_asks : (w : World) → PlacedAt At w → wants_port w.near.connection ≡ true → Asks w
  stage_asks w s wants = by s.here
    where
      seen : IsSeen s.base w
      seen = seen_placed At w s

      never : (connection : ClientLink) → s.base.near.connection ≡ connection → wants_port connection ≡ false → Asks w
      never connection is none = absurd (true≢false (sym wants ∙ ap wants_port (seen.connection ∙ is) ∙ none))

      asks : (connection : ServerLink Transfer) (pending : Pending Names) → Holds state ask own (PortWanted connection pending) s.way s.base → Asks w
      asks connection pending h =
          let is : w ≡ world_at s.base rest no_octets = rest_placed At w s h.way_is in
          let near_is = ap (λ (u : World). u.near) is in
          record {
            op = ask.op;
            near = near_form s.base w seen (Doing ask.op Steps.Listen) Data.ListenWanted h.near;
            owed = ap (λ (n : Near). n.owed) near_is;
            to_server = ap (λ (u : World). u.control_to_server) is;
            to_client = ap (λ (u : World). u.control_to_client) is;
            far_owed = ap (λ (u : World). u.far.owed) is;
            aside = ap (λ (t : Session). is_set_aside t.connection) (seen.session ∙ h.session) ∙ h.fine;
            link = ap (λ (u : World). u.link) s.is ∙ (beside s.base s.way s.cut).0 ∙ h.link;
            rising = ap (λ (u : World). u.data_to_server) s.is ∙ (beside s.base s.way s.cut).1 ∙ h.to_server;
            falling = ap (λ (u : World). u.data_to_client) s.is ∙ (beside s.base s.way s.cut).2 ∙ h.to_client;
          }

      by_lift : (rise : Rise) (lift : Lift) → Holds state ask own (Rises rise lift) s.way s.base → Asks w
      by_lift rise Offered h = never _ (ap (λ (n : Near). n.connection) h.near) refl
      by_lift rise (Rising past octet more came queue mark notes) h = never _ (ap (λ (n : Near). n.connection) h.near) refl
      by_lift rise (Risen past closed came queue mark notes) h = never _ (ap (λ (n : Near). n.connection) h.near) refl
      by_lift rise (Settled begun mark notes fate left after) h = never _ (ap (λ (n : Near). n.connection) h.near) refl
      by_lift rise (Declined why door) h = never _ (ap (λ (n : Near). n.connection) h.near) (door_portless door)
      by_lift rise Unjoined h = never _ (ap (λ (n : Near). n.connection) h.near) refl

      by : At s.way s.base → Asks w
      by (inl l) =
          absurd (true≢false (sym wants ∙ ap wants_port (leads_still read state ask good.plan own s.base w s.way seen l).0.near.connection))
      by (inr (PortWanted connection pending, h)) = asks connection pending h
      by (inr (PortAsked closing, h)) = never _ (ap (λ (n : Near). n.connection) h.near) refl
      by (inr (PortTold port, h)) = never _ (ap (λ (n : Near). n.connection) h.near) refl
      by (inr (Dials port, h)) = never _ (ap (λ (n : Near). n.connection) h.near) refl
      by (inr (PortSaid port connection pending, h)) = never _ (ap (λ (n : Near). n.connection) h.near) refl
      by (inr (PortTaken port closing, h)) = never _ (ap (λ (n : Near). n.connection) h.near) refl
      by (inr (PortDenied port connection, h)) = never _ (ap (λ (n : Near). n.connection) h.near) refl
      by (inr (Restarts at restart early, h)) = never _ (ap (λ (n : Near). n.connection) h.near) (early_portless early)
      by (inr (Retrieves early, h)) = never _ (ap (λ (n : Near). n.connection) h.near) (early_portless early)
      by (inr (Awaits port true, h)) = never _ (ap (λ (n : Near). n.connection) h.near) refl
      by (inr (Awaits port false, h)) = never _ (ap (λ (n : Near). n.connection) h.near) refl
      by (inr (Unaccepted port, h)) = never _ (ap (λ (n : Near). n.connection) h.near) refl
      by (inr (Dismissed port why, h)) = never _ (ap (λ (n : Near). n.connection) h.near) refl
      by (inr (Carries c, h)) = never _ (ap (λ (n : Near). n.connection) h.near) (tie_portless (tie_of c.course))
      by (inr (Rises rise lift, h)) = by_lift rise lift h
      by (inr (Tells rise said after, h)) = never _ (ap (λ (n : Near). n.connection) h.near) refl
      by (inr (Answers said leaves, h)) = never _ (ap (λ (n : Near). n.connection) h.near) refl

-- one that sent ABOR wants none
halt_portless : (state : State) (ask : Ask) (own : List Mark) (w : World) → AtHalt state ask own w → wants_port w.near.connection ≡ false
halt_portless state ask own w a =
    ap (λ (u : World). wants_port u.near.connection) a.is ∙ ap (λ (n : Near). wants_port n.connection) a.here.near ∙ tie_portless (halt_tie a.halt)

-- ---- behind octets that it heard

module _ (read : Reading) (reads : IsReading read) (from : State) (begun : List Order) (puts : AreCarried begun) where
  fetching_asks : (w : World) → IsFetching read from begun w → wants_port w.near.connection ≡ true → Asks w
  fetching_asks w f wants = stage_asks read f.now f.ask f.is_ask f.own w f.stands wants

  pub hears_asks : (w : World) (count : ℕ) → OverRuns read from begun w → w.control ≡ Stands
      → (is_closed_by_near w.link ≡ true → is_ready w.far.session.connection ≡ false)
      → wants_port (near.hears w.near (take count w.control_to_client)).connection ≡ true → Asks (pushed read ControlToClient count w)
  hears_asks w count runs control unready wants = by runs
    where
      new : World
      new = pushed read ControlToClient count w

      still : IsStill new → Asks new
      still s = absurd (true≢false (sym wants ∙ ap wants_port s.near.connection))

      by_phase : Phase read from begun new → Asks new
      by_phase (inl (linked, inl free)) = still (free_still read from begun new free)
      by_phase (inl (linked, inr under)) = still (under_still read from begun new under)
      by_phase (inr lost) = absurd (not_lost read from begun new control lost)

      by_on : (on : IsFetchingOn read from begun w) → OnOrHalted read reads from begun w on.fetching new → Asks new
      by_on on (inr halts) = absurd (true≢false (sym wants ∙ halt_portless on.fetching.now on.fetching.ask on.fetching.own new halts))
      by_on on (inl f) = fetching_asks new f wants

      by_halt : (h : IsHalting from begun w) → OnOrTold read h.now h.ask h.own new → Asks new
      by_halt h (inl halts) = absurd (true≢false (sym wants ∙ halt_portless h.now h.ask h.own new halts))
      by_halt h (inr told) = stage_asks read h.now h.ask h.is_ask h.own new told wants

      by : OverRuns read from begun w → Asks new
      by (inl (inl f)) = by_phase (still_heard read reads from begun count w (record { unlinked = f.unlinked; phase = f.phase })).phase
      by (inl (inr (inl on))) = by_on on (pushed_client read reads from begun count w on.fetching w (serving_first read reads from begun w on))
      by (inl (inr (inr (inl trailing)))) = absurd (not_trailing read reads from begun puts w unready trailing)
      by (inl (inr (inr (inr halting)))) =
          let h = halting.halting in by_halt h (halt_pushes_down read h.now h.ask h.own count w h.stands)
      by (inr (inl trying)) = absurd (last_carried trying.going.done _ begun trying.going.begun_is puts)
      by (inr (inr tailing)) = absurd (last_carried tailing.going.done _ begun tailing.going.begun_is puts)

-- ---- a world tells it one

-- it wants no close then
pub told_open : (port : ℕ) (op : Op (List ℕ)) (n : Near) → (near.listening port (busy (Doing op Steps.Listen) Data.ListenWanted n)).closing ≡ false
unfolding near.listening
told_open port op n = refl

-- it wants nothing more
told_rests : (port : ℕ) (op : Op (List ℕ)) (n : Near) → rests (near.wants (near.listening port (busy (Doing op Steps.Listen) Data.ListenWanted n))) ≡ true
unfolding near.listening near.wants
told_rests port op n = refl

told_closed : (port : ℕ) (op : Op (List ℕ)) (n : Near)
    → rests (near.wants (near.data_closed (near.listening port (busy (Doing op Steps.Listen) Data.ListenWanted n)))) ≡ true
unfolding near.listening near.wants
told_closed port op n = refl

-- so does a world after an event
pub asks_told : (w : World) (op : Op (List ℕ)) → w.near ≡ busy (Doing op Steps.Listen) Data.ListenWanted w.near → Runs w.far
    → after_event w ≡ settled (near_listens w)
unfolding near.wants
asks_told w op is runs =
    let u : World = near_listens w in
    let first : near_served w ≡ u = ap (λ q. near_served_by q w) (ap near.wants is) in
    let quiet : rests (near.wants u.near) ≡ true =
    ap (λ n. rests (near.wants (near.listening (port_at w.listens) n))) is ∙ told_rests (port_at w.listens) op w.near in
    let stays : near_served u ≡ u = by_wants (near.wants u.near) quiet u in
    let closed : rests (near.wants (near.data_closed u.near)) ≡ true =
    ap (λ n. rests (near.wants (near.data_closed (near.listening (port_at w.listens) n)))) is ∙ told_closed (port_at w.listens) op w.near in
    ap (λ x. collected (far_served (far_served (far_served (near_served (near_served x)))))) first
    ∙ ap (λ x. collected (far_served (far_served (far_served x)))) (ap near_served stays ∙ stays ∙ sym (ap near_served (ap near_served stays ∙ stays) ∙ stays))
    ∙ after_settles u closed runs
  where
    by_wants : (q : Wants) → rests q ≡ true → (x : World) → near_served_by q x ≡ x
    by_wants Want.CloseData e x = absurd (true≢false (sym e))
    by_wants Want.Listen e x = absurd (true≢false (sym e))
    by_wants Want.CloseAll e x = absurd (true≢false (sym e))
    by_wants q e x = refl

-- ---- an operation that begins so

-- one that wants a port as an operation begins
pub starts_asks : (op : Op (List ℕ)) (n : Near) → wants_port n.connection ≡ false → n.closing ≡ false → wants_port (near.starts op n).connection ≡ true
    → (near.starts op n ≡ busy (Doing op Steps.Listen) Data.ListenWanted n) × (n.standing ≡ Standings.Entered)
unfolding near.starts
starts_asks op n none open_now wants = by (can_be_sent op) n.standing refl wants
  where
    no : {A : Type 0} → (link : ClientLink) → link ≡ n.connection → wants_port link ≡ true → A
    no link is e = absurd (true≢false (sym e ∙ ap wants_port is ∙ none))

    sent : (command : Option (Command (List ℕ))) (m : Near) → (sends_if command m).connection ≡ m.connection
    sent None m = refl
    sent (Some command) m = refl

    by_step : (step : Step) → n.standing ≡ Standings.Entered → let m : Near = record n { run = None } in wants_port (placed op step m).connection ≡ true
        → placed op step m ≡ busy (Doing op Steps.Listen) Data.ListenWanted n
    by_step Steps.Listen entered e =
        λ i. record n { standing = entered i; job = Doing op Steps.Listen; run = None; connection = Data.ListenWanted; closing = open_now i }
    by_step Steps.Last entered e = no _ (sent (command_of (record n { run = None }) op Steps.Last) (record n { run = None; job = last_job op (flow_of op) })) e
    by_step step entered e = no _ (sent (command_of (record n { run = None }) op step) (record n { run = None; job = Doing op step })) e

    by : (can : Bool) (standing : Standing) → n.standing ≡ standing
        → let m : Near = if can then started_by standing op (record n { run = None }) else unsendable_by standing n in
        wants_port m.connection ≡ true → (m ≡ busy (Doing op Steps.Listen) Data.ListenWanted n) × (n.standing ≡ Standings.Entered)
    by true Standings.Entered is e = (by_step (first_step n.settings op) is e, is)
    by true (Standings.Failed failure) is e = no _ refl e
    by true Standings.Greeting is e = no _ refl e
    by true Standings.User is e = no _ refl e
    by true Standings.Pass is e = no _ refl e
    by false (Standings.Failed failure) is e = no _ refl e
    by false Standings.Entered is e = no _ refl e
    by false Standings.Greeting is e = no _ refl e
    by false Standings.User is e = no _ refl e
    by false Standings.Pass is e = no _ refl e

-- ---- where none is under way

-- nothing is owed, and nothing comes to the client
abbrev pub Idles : World → Type 0
Idles w = (w.near.owed ≡ []) × (w.far.owed ≡ []) × (w.control_to_client ≡ [])

module _ (read : Reading) (reads : IsReading read) (from : State) (begun : List Order) (puts : AreCarried begun) where
  -- of a client that is logged in nothing is on its way
  pub world_idles : (w : World) → OverRuns read from begun w → w.control ≡ Stands
      → (is_closed_by_near w.link ≡ true → is_ready w.far.session.connection ≡ false) → is_busy w.near ≡ false
      → w.near.standing ≡ Standings.Entered → Idles w
  unfolding is_entered
  world_idles w runs control unready idle entered = by runs
    where
      by_free : (f : IsFree from begun w) → AtFree f.now f.stands.way f.stands.base.near f.stands.base.far → Idles w
      by_free f (inl (logging, waits)) =
          let standing = sym entered ∙ (seen (AtFree f.now) w f.stands).standing ∙ logging.logs.standing in
          absurd (true≢false (ap is_entered standing ∙ not_logging logging.place))
      by_free f (inr (way, resting, stands)) =
          let is : w ≡ world_at f.stands.base rest no_octets = rest_world (AtFree f.now) w f.stands way in
          (ap (λ (u : World). u.near.owed) is, ap (λ (u : World). u.far.owed) is, ap (λ (u : World). u.control_to_client) is)

      by_phase : Phase read from begun w → Idles w
      by_phase (inl (linked, inl free)) = by_free free free.stands.here
      by_phase (inl (linked, inr under)) =
          let result = answer under.now under.op under.moment in
          let s = under.stands in
          let of = seen (AtOperation read under.now under.op result) w s in
          elim (operation_on read under.now under.op result s.way s.base.near s.base.far s.here) [
            | inl moving ↦ absurd (true≢false (sym moving.busy ∙ ap is_busy_job (sym of.job) ∙ idle))
            | inr over ↦ absurd (true≢false (sym (ap (λ (n : Near). is_busy n) over.1.near) ∙ ap is_busy_job (sym of.job) ∙ idle))
          ]
      by_phase (inr lost) = absurd (not_lost read from begun w control lost)

      by : OverRuns read from begun w → Idles w
      by (inl (inl f)) = by_phase f.phase
      by (inl (inr (inl on))) =
          let f = on.fetching in absurd (true≢false (sym (lasting_busy read f.now f.ask f.is_ask.plan f.own w f.stands on.lasts) ∙ idle))
      by (inl (inr (inr (inl trailing)))) = absurd (not_trailing read reads from begun puts w unready trailing)
      by (inl (inr (inr (inr halting)))) = let h = halting.halting in absurd (true≢false (sym (halt_busy h.now h.ask h.own w h.stands) ∙ idle))
      by (inr (inl trying)) = absurd (last_carried trying.going.done _ begun trying.going.begun_is puts)
      by (inr (inr tailing)) = absurd (last_carried tailing.going.done _ begun tailing.going.begun_is puts)
