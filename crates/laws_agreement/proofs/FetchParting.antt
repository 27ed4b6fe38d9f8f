-- The control connection ends while what was asked for is under way, or before its link is closed: the operation is lost, and its link is closed.
use Rattle.std.proofs.Common.{◌≡◌, ◌⊎◌, inl, inr, ℕ, suc, ◌+◌, ◌≤◌, Bool, true, false, ◌||◌, List, [], ◌∷◌, ◌++◌, length, Some, None, refl, sym, ap, subst, ◌∙◌, append-nil, arith}
use Rattle.ftp_operation.specs.Answer.{Said, Lost as LostSaid}
use Rattle.ftp_operation.specs.declared.op.Op.{Op}
use Rattle.ftp_path.specs.Path.{Names}
use Rattle.ftp_direct.specs.Direct.{State}
use Rattle.ftp_client_model.specs.Calls as near
use Rattle.ftp_client_model.specs.Calls.{is_sound}
use Rattle.ftp_client_model.specs.View.{Job, Idle, Told as Answered, stands, failed_job}
use Rattle.ftp_client_model.specs.declared.client.ClientLink.{ClientLink as NearConnection}
use Rattle.ftp_server_model.specs.Calls as far
use Rattle.ftp_server_model.specs.Calls.{session_cut}
use Rattle.ftp_server_model.specs.Endpoint.{is_standing}
use Rattle.ftp_server_model.specs.Machine.{Reading, IsReading}
use Rattle.ftp_server_model.specs.View.{Transfer}
use Rattle.ftp_server_model.specs.declared.session.ServerLink.{ServerLink as FarConnection}
use Rattle.ftp_server_model.specs.declared.session.Pending.{Pending}
use Rattle.laws_world.specs.Agreement.{Order, Single, Item, state_after, ItemHolds}
use Rattle.laws_world.specs.Events.{ends_control}
use Rattle.laws_world.specs.Outcome.{Part, Lost as LostOff}
use Rattle.laws_world.specs.Serving.{after_event}
use Rattle.laws_world.specs.World.{World, Link, Gone, Opened, ClosedByNear, ClosedByFar, Mark}
use Rattle.laws_dialogues.specs.Fetches.{Ask, HasPlan, IsTimely, Rise, busy, linked}
use Rattle.laws_dialogues.specs.Stage.{Way, Asking, Answering}
use Rattle.laws_agreement.specs.Cut.{Cut, world_at, PlacedAt}
use Rattle.laws_agreement.specs.Follows.{Told, Follows}
use Rattle.laws_agreement.specs.Rising.{FaredTo, Lift, Offered, Rising, Risen, Settled, Declined, Unjoined, Closing, Shut, Vanished, fate_said, lift_passes}
use Rattle.laws_agreement.specs.Runs.{IsAsked, IsFetchingOn, IsTrailing}
use Rattle.laws_agreement.specs.Stages as Stages
use Rattle.laws_agreement.specs.Stages.{Course, Giving, Given, Ended, Severed, Refusing, Unopened, Unclosed, Closed, Lost, Stage, PortAsked, PortTold, Dials, Restarts, Retrieves, Carries, Rises, Tells, Answers, Holds, AtFetch, IsLasting, Dialled, Ported, PortWanted, PortSaid, PortTaken, PortDenied, Awaits, Unaccepted, Dismissed}
use Rattle.laws_agreement.proofs.FetchServed.{leads_still, moves_on, lasting_untold}
use Rattle.laws_agreement.proofs.Rests.{near_form, far_form}
use Rattle.laws_agreement.proofs.FetchWants.{lasting_busy}
use Rattle.laws_agreement.proofs.FetchTold.{few_links, closed_is, closed_at, marks_at, reported}
use Rattle.laws_agreement.proofs.LostFates.{LostTo, lost_fares, lost_nothing}
use Rattle.laws_agreement.proofs.Items.{state_more, one_told}
use Rattle.laws_agreement.proofs.Parting.{lost_near, lost_world, near_fails, busy_lost, told_cut, marks_are_all, near_lost, far_lost, after_busy}
use Rattle.laws_agreement.proofs.Phases.{both_longer, length-more}
use Rattle.laws_agreement.proofs.Still.{IsSeen, seen_placed}

-- ---- both ends part, whatever stands of the link

-- the world where both have failed, and each is to close its side of the link or not
abbrev parting : Job → (near_closes far_closes : Bool) → World → World
parting job near_closes far_closes w = record (lost_world job far_closes w) { near = record (lost_near job w.near) { closing = near_closes } }

-- with this link
abbrev with_link : Link → (up queue : List ℕ) → World → World
with_link link up queue w = record w { link = link; data_to_server = up; data_to_client = queue }

-- the control connection ends at a sound client: both ends have failed, and each is to close what stands of its link
parts_is : (w : World) → is_sound w.near.standing ≡ true
    → ends_control w ≡ parting (failed_job LostSaid w.near.job) (w.near.closing || stands w.near.connection) (session_cut w.far.session).closing w
unfolding near.control_end far.control_end
parts_is w sound = ap (λ v. record (parting (failed_job LostSaid w.near.job) (w.near.closing || stands w.near.connection) (session_cut w.far.session).closing w) { near = v }) (near_fails w.near.standing w.near sound)

-- what is served leaves no link
abbrev pub Clears : Link → (up queue : List ℕ) → (near_closes far_closes : Bool) → Type 0
Clears Gone up queue near_closes far_closes = (up ≡ []) × (queue ≡ [])
Clears Opened up queue true true = Unit {0}
Clears ClosedByFar up queue true far_closes = Unit {0}
Clears ClosedByNear up queue near_closes true = Unit {0}
Clears link up queue near_closes far_closes = ⊥

-- the world behind it
abbrev pub lost_link : World → World
lost_link w = record (with_link Gone [] [] (lost_world Idle false w)) { reports = w.reports ++ LostSaid ∷ [] }

-- where what is served leaves no link, the operation is then reported as lost and the link is gone
clears : (link : Link) (up queue : List ℕ) (near_closes far_closes : Bool) (w : World) → Clears link up queue near_closes far_closes
    → after_event (parting (Answered LostSaid) near_closes far_closes (with_link link up queue w)) ≡ lost_link w
unfolding near.wants far.data_closed
clears Gone up queue true true w is = λ i. record (lost_link w) { data_to_server = is.0 i; data_to_client = is.1 i }
clears Gone up queue true false w is = λ i. record (lost_link w) { data_to_server = is.0 i; data_to_client = is.1 i }
clears Gone up queue false true w is = λ i. record (lost_link w) { data_to_server = is.0 i; data_to_client = is.1 i }
clears Gone up queue false false w is = λ i. record (lost_link w) { data_to_server = is.0 i; data_to_client = is.1 i }
clears Opened up queue true true w is = refl
clears Opened up queue true false w is = absurd is
clears Opened up queue false far_closes w is = absurd is
clears ClosedByFar up queue true true w is = refl
clears ClosedByFar up queue true false w is = refl
clears ClosedByFar up queue false far_closes w is = absurd is
clears ClosedByNear up queue true true w is = refl
clears ClosedByNear up queue false true w is = refl
clears ClosedByNear up queue true false w is = absurd is
clears ClosedByNear up queue false false w is = absurd is

-- the control connection ends while the client is busy with a job that is lost: the loss is reported and the link is gone
pub parts_with : (w : World) (job : Job) (connection : NearConnection) → w.near ≡ busy job connection w.near → failed_job LostSaid job ≡ Answered LostSaid
    → (far : FarConnection Transfer) (pending : Pending Names) → w.far.session ≡ linked far false pending w.far.session → (link : Link) (up queue : List ℕ) → w.link ≡ link → w.data_to_server ≡ up
    → w.data_to_client ≡ queue → Clears link up queue (stands connection) (is_standing far) → after_event (ends_control w) ≡ lost_link w
parts_with w job connection near_is fails far pending far_is link up queue link_is to_server to_client clear =
    let sound : is_sound w.near.standing ≡ true = ap (λ v. is_sound v.standing) near_is in
    let lost : failed_job LostSaid w.near.job ≡ Answered LostSaid = ap (λ v. failed_job LostSaid v.job) near_is ∙ fails in
    let near_closes : (w.near.closing || stands w.near.connection) ≡ stands connection = ap (λ v. v.closing || stands v.connection) near_is in
    let far_closes : (session_cut w.far.session).closing ≡ is_standing far = ap (λ s. s.closing || is_standing s.connection) far_is in
    ap after_event (parts_is w sound ∙ (λ i. parting (lost i) (near_closes i) (far_closes i) (record w { link = link_is i; data_to_server = to_server i; data_to_client = to_client i })))
    ∙ clears link up queue (stands connection) (is_standing far) w clear

-- ---- at each stage of what is asked for

-- an item that is lost, whatever its marks
lost_item : Op (List ℕ) → ℕ → Part → List Mark → Item
lost_item op moment part own = record { moment = moment; first = record { op = op; outcome = LostOff part; marks = own }; more = [] }

-- what is told goes on with an operation that is lost at the cutoff, of which this part was done, and has at most one mark
told_lost : (from : State) (done : List Order) (marks : List (List Mark)) (cutoff : ℕ) (reports : List Said) (now left : State) (ask : Ask) (plan : HasPlan ask) (moment : ℕ) (own : List Mark)
    → LostTo now ask own left moment → Told from done marks (Some cutoff) reports now → suc (length done) ≡ cutoff → length own ≤ 1
    → Told from (done ++ Single ask.op moment ∷ []) (marks ++ own ∷ []) (Some cutoff) (reports ++ LostSaid ∷ []) left
unfolding lost_item
told_lost from done marks cutoff reports now left ask plan moment own lost t last few =
    let op : Op (List ℕ) = ask.op in
    let there : LostTo (state_after from t.items) ask own left moment = subst (λ s. LostTo s ask own left moment) t.now_is lost in
    let holds : ItemHolds (state_after from t.items) (Single op moment) own (Some cutoff) (length done) (lost_item op moment there.part own) = record {
      is_of = (refl, refl, refl);
      holds = (record { can_be = there.can_be; allowed = there.allowed cutoff (length done) last; few = few_links ask plan own few }, tt);
      marked = append-nil own;
    } in
    record {
      items = t.items ++ lost_item op moment there.part own ∷ [];
      all = both_longer reports done LostSaid (Single op moment) t.all;
      hold = one_told reports from 0 (length done) done marks (Some cutoff) t.items (Single op moment) own (lost_item op moment there.part own) LostSaid t.all t.hold
          (let e : length done ≡ 0 + length done = omega arith in e) holds (tt, refl);
      now_is = sym (state_more from t.items (lost_item op moment there.part own) ∙ there.leaves);
    }

-- what is asked for is under way, however it stands, and was done in this part: where its loss is reported and its link gone, the world follows with its
-- operation lost
pub lost_follows : (Stood : State → Ask → List Mark → World → Type 0) (read : Reading) (from : State) (begun : List Order) (w : World) (g : IsAsked Stood from begun w)
    (left : State) → LostTo g.now g.ask g.own left g.moment → after_event (ends_control w) ≡ lost_link w → w.far.session.table ≡ left.table → length g.own ≤ 1
    → Follows read from begun (after_event (ends_control w))
lost_follows Stood read from begun w g left lost_to after table few =
    let many : length g.marks ≡ length g.done = marks_are_all from g.done g.marks None w.reports g.now g.told in
    let one : length w.marks ≡ suc (length g.done) = ap length g.marks_are ∙ length-more g.marks g.own ∙ ap suc many in
    let cut = told_cut from g.done g.marks (length w.marks) w.reports g.now (omega (arith, one)) g.told in
    let lost = told_lost from g.done g.marks (length w.marks) w.reports g.now left g.ask g.is_ask.plan g.moment g.own lost_to cut (sym one) few in
    let all : length begun ≡ suc (length g.done) = ap length g.begun_is ∙ length-more g.done (Single g.ask.op g.moment) in
    subst (Follows read from begun) (sym after) (record {
      unlinked = record { link = refl; to_server = refl; to_client = refl };
      untold = refl;
      phase = inr (record {
        now = left;
        cutoff = length w.marks;
        cut_is = refl;
        early = omega (arith, one, all);
        told = subst (λ done. Told from done w.marks (Some (length w.marks)) (w.reports ++ LostSaid ∷ []) left) (sym g.begun_is)
            (subst (λ marks. Told from (g.done ++ Single g.ask.op g.moment ∷ []) marks (Some (length w.marks)) (w.reports ++ LostSaid ∷ []) left) (sym g.marks_are) lost);
        near = near_lost w.near;
        far = far_lost w.far;
        table = table;
        control = refl;
        to_server = refl;
        to_client = refl;
      });
    })

module _ (read : Reading) (from : State) (begun : List Order) (w : World) (on : IsFetchingOn read from begun w) where
  abbrev At : Way → World → Type 0
  At way b = AtFetch on.fetching.now on.fetching.ask read on.fetching.own way b

  abbrev s : PlacedAt At w
  s = on.fetching.stands

  -- what both ends are at the base they are in the world
  seen : IsSeen s.base w
  seen = seen_placed At w s

  -- the job of the client is told as lost
  fails : failed_job LostSaid w.near.job ≡ Answered LostSaid
  fails =
      busy_lost w.near.job (lasting_busy read on.fetching.now on.fetching.ask on.fetching.is_ask.plan on.fetching.own w s on.lasts)
      (lasting_untold read on.fetching.now on.fetching.ask on.fetching.is_ask.plan on.fetching.own w s on.lasts)

  abbrev Stood : Stage → Type 0
  Stood stage = Holds on.fetching.now on.fetching.ask on.fetching.own stage s.way s.base

  -- the fields of the link are those of the base
  record Same : Type 0 where
    link : w.link ≡ s.base.link
    to_server : w.data_to_server ≡ s.base.data_to_server
    to_client : w.data_to_client ≡ s.base.data_to_client

  -- the link and what is on its way over it are those of the base
  same : Same
  same =
      let way = by_way s.way s.cut in
      record { link = ap (λ u. u.link) s.is ∙ way.0; to_server = ap (λ u. u.data_to_server) s.is ∙ way.1; to_client = ap (λ u. u.data_to_client) s.is ∙ way.2 }
    where
      by_way : (way : Way) (c : Cut)
          → ((world_at s.base way c).link ≡ s.base.link) × ((world_at s.base way c).data_to_server ≡ s.base.data_to_server) × ((world_at s.base way c).data_to_client ≡ s.base.data_to_client)
      by_way (Asking line) c = (refl, refl, refl)
      by_way (Answering rows) c = (refl, refl, refl)

  -- at a stage where client, server and link stand so, the control connection ends: the loss is reported and the link is gone
  parts_as : (stage : Stage) → Stood stage → (job : Job) (connection : NearConnection) → s.base.near ≡ busy job connection s.base.near → failed_job LostSaid job ≡ Answered LostSaid
      → (far : FarConnection Transfer) (pending : Pending Names) → s.base.far.session ≡ linked far false pending s.base.far.session → (link : Link) (queue : List ℕ) → s.base.link ≡ link
      → s.base.data_to_client ≡ queue → Clears link (Stages.rising_at on.fetching.now on.fetching.ask stage) queue (stands connection) (is_standing far) → after_event (ends_control w) ≡ lost_link w
  parts_as stage h job connection near_is fails far pending far_is link queue link_is queue_is clear =
      parts_with w job connection (near_form s.base w seen job connection near_is) fails far pending (far_form s.base w seen far false pending far_is) link (Stages.rising_at on.fetching.now on.fetching.ask stage) queue
      (same.link ∙ link_is) (same.to_server ∙ h.to_server) (same.to_client ∙ queue_is) clear

  -- the server is done with an upload, and has the state behind it
  pub record Settles : Type 0 where
    pub said : Said
    pub after : State
    pub fares : FaredTo on.fetching.now on.fetching.ask on.fetching.own said after on.fetching.moment
    pub table : w.far.session.table ≡ after.table

  -- what is so of a stage that parts
  pub record Parts : Type 0 where
    pub after : after_event (ends_control w) ≡ lost_link w
    pub table : (w.far.session.table ≡ on.fetching.now.table) ⊎ Settles
    pub few : length on.fetching.own ≤ 1

  -- at each stage the server has the table of its state
  table_of : (stage : Stage) → Stood stage → w.far.session.table ≡ (Stages.state_at on.fetching.now on.fetching.ask stage).table
  table_of stage h = ap (λ s. s.table) seen.session ∙ h.steady.table

  -- no marks are at most one
  none_few : on.fetching.own ≡ [] → length on.fetching.own ≤ 1
  none_few is = subst (λ l. length l ≤ 1) (sym is) (omega arith)

  -- one mark is at most one
  one_few : (mark : Mark) → on.fetching.own ≡ mark ∷ [] → length on.fetching.own ≤ 1
  one_few mark is = subst (λ l. length l ≤ 1) (sym is) (omega arith)

  abbrev carry : Course → (came queue : List ℕ) → Stage
  carry course came queue = Carries (record { course = course; came = came; queue = queue })

  -- at each course that lasts both ends part, with the table of the state and at most one mark
  carry_parts : (course : Course) (came queue : List ℕ) → Stood (carry course came queue) → Stages.is_passing (carry course came queue) ≡ false → Parts
  carry_parts (Giving started octet more) came queue h lasts =
      record { after = parts_as _ h _ _ h.near refl _ _ h.session _ _ h.link h.to_client tt; table = inl (table_of _ h); few = none_few h.marked }
  carry_parts (Given heard false) came queue h lasts = absurd (cc)
  carry_parts (Given heard true) came queue h lasts =
      record { after = parts_as _ h _ _ h.near refl _ _ h.session _ _ h.link h.to_client tt; table = inl (table_of _ h); few = none_few h.marked }
  carry_parts (Ended started true) came queue h lasts =
      record { after = parts_as _ h _ _ h.near refl _ _ h.session _ _ h.link h.to_client (refl, h.fine.2); table = inl (table_of _ h); few = none_few h.marked }
  carry_parts (Ended started false) came queue h lasts =
      record { after = parts_as _ h _ _ h.near refl _ _ h.session _ _ h.link h.to_client (refl, h.fine.1.1); table = inl (table_of _ h); few = one_few _ h.marked }
  carry_parts (Severed started) came queue h lasts =
      record { after = parts_as _ h _ _ h.near refl _ _ h.session _ _ h.link h.to_client (refl, h.fine.1.1); table = inl (table_of _ h); few = one_few _ h.marked }
  carry_parts (Refusing why Unclosed) came queue h lasts = absurd (cc)
  carry_parts (Refusing why Closed) came queue h lasts =
      record { after = parts_as _ h _ _ h.near refl _ _ h.session _ _ h.link h.to_client tt; table = inl (table_of _ h); few = none_few h.marked }
  carry_parts (Refusing why (Lost true)) came queue h lasts =
      record { after = parts_as _ h _ _ h.near refl _ _ h.session _ _ h.link h.to_client (refl, h.fine.1.1); table = inl (table_of _ h); few = none_few h.marked }
  carry_parts (Refusing why (Lost false)) came queue h lasts =
      record { after = parts_as _ h _ _ h.near refl _ _ h.session _ _ h.link h.to_client (refl, h.fine.1.1); table = inl (table_of _ h); few = one_few _ h.marked }
  carry_parts Unopened came queue h lasts =
      record { after = parts_as _ h _ _ h.near refl _ _ h.session _ _ h.link h.to_client (refl, h.fine.1); table = inl (table_of _ h); few = one_few _ h.marked }

  -- while the login, the settings or the command for a port is under way both ends part, with the table of the state and no mark
  leads_parts : Stages.Leads on.fetching.now on.fetching.ask read on.fetching.own s.way s.base → Parts
  leads_parts l =
      let still = leads_still read on.fetching.now on.fetching.ask on.fetching.is_ask.plan on.fetching.own s.base w s.way seen l in
      let moves = moves_on read on.fetching.now on.fetching.ask on.fetching.is_ask.plan on.fetching.own s.way s.base.near s.base.far l.on l.some in
      record {
        after = after_busy w still.0 (same.link ∙ l.link) fails
            ∙ (λ i. record (lost_link w) { link = (same.link ∙ l.link) i; data_to_server = (same.to_server ∙ l.to_server) i; data_to_client = (same.to_client ∙ l.to_client) i });
        table = inl (ap (λ s. s.table) seen.session ∙ either moves.0.table);
        few = none_few l.marked;
      }
    where
      either : {X : Type 0} {one other : X} → (one ≡ other) ⊎ (one ≡ other) → one ≡ other
      either (inl is) = is
      either (inr is) = is

  -- at each lift that lasts both ends part
  lift_parts : (rise : Rise) (lift : Lift) → Stood (Rises rise lift) → lift_passes lift ≡ false → Parts
  lift_parts rise Offered h lasts = record { after = parts_as _ h _ _ h.near refl _ _ h.session _ _ h.link h.to_client tt; table = inl (table_of _ h); few = none_few h.marked }
  lift_parts rise (Rising false octet more came queue mark notes) h lasts =
      record { after = parts_as _ h _ _ h.near refl _ _ h.session _ _ h.link h.to_client tt; table = inl (table_of _ h); few = none_few h.marked }
  lift_parts rise (Rising true octet more came queue mark notes) h lasts =
      record { after = parts_as _ h _ _ h.near refl _ _ h.session _ _ h.link h.to_client tt; table = inl (table_of _ h); few = none_few h.marked }
  lift_parts rise (Risen past false came queue mark notes) h lasts = absurd (cc)
  lift_parts rise (Risen false true came queue mark notes) h lasts =
      record { after = parts_as _ h _ _ h.near refl _ _ h.session _ _ h.link h.to_client tt; table = inl (table_of _ h); few = none_few h.marked }
  lift_parts rise (Risen true true came queue mark notes) h lasts =
      record { after = parts_as _ h _ _ h.near refl _ _ h.session _ _ h.link h.to_client tt; table = inl (table_of _ h); few = none_few h.marked }
  lift_parts rise (Settled started mark notes fate left after) h lasts = record {
    after = parts_as _ h _ _ h.near refl _ _ h.session _ _ h.link h.to_client (refl, refl);
    table = inr (record {
      said = fate_said fate;
      after = after;
      fares = subst (FaredTo on.fetching.now on.fetching.ask on.fetching.own (fate_said fate) after) (subst (λ d. IsTimely d on.fetching.moment) h.ready.2.sends_is on.fetching.timely) h.fine.0;
      table = table_of _ h;
    });
    few = h.marked;
  }
  lift_parts rise (Declined why Closing) h lasts = absurd (cc)
  lift_parts rise (Declined why Shut) h lasts = record { after = parts_as _ h _ _ h.near refl _ _ h.session _ _ h.link h.to_client tt; table = inl (table_of _ h); few = none_few h.marked }
  lift_parts rise (Declined why (Vanished broken)) h lasts =
      record { after = parts_as _ h _ _ h.near refl _ _ h.session _ _ h.link h.to_client (refl, refl); table = inl (table_of _ h); few = h.marked }
  lift_parts rise Unjoined h lasts = record { after = parts_as _ h _ _ h.near refl _ _ h.session _ _ h.link h.to_client (refl, refl); table = inl (table_of _ h); few = one_few _ h.marked }

  -- at each stage that lasts both ends part, with the table of the state and at most one mark
  pub parts : Parts
  parts = by_here s.here on.lasts
    where
      by_here : (here : At s.way s.base) → IsLasting on.fetching.now on.fetching.ask read on.fetching.own s.way s.base here → Parts
      by_here (inl l) lasts = leads_parts l
      by_here (inr (PortAsked closing, h)) lasts = absurd (cc)
      by_here (inr (PortTold port, h)) lasts = record { after = parts_as _ h _ _ h.near refl _ _ h.session _ _ h.link h.to_client (refl, refl); table = inl (table_of _ h); few = none_few h.marked }
      by_here (inr (Dials port, h)) lasts = record { after = parts_as _ h _ _ h.near refl _ _ h.session _ _ h.link h.to_client (refl, refl); table = inl (table_of _ h); few = none_few h.marked }
      by_here (inr (PortWanted connection pending, h)) lasts = absurd (cc)
      by_here (inr (PortSaid port connection pending, h)) lasts = record { after = parts_as _ h _ _ h.near refl _ _ h.session _ _ h.link h.to_client (refl, refl); table = inl (table_of _ h); few = none_few h.marked }
      by_here (inr (PortTaken port true, h)) lasts = absurd (cc)
      by_here (inr (PortTaken port false, h)) lasts = record { after = parts_as _ h _ _ h.near refl _ _ h.session _ _ h.link h.to_client (refl, refl); table = inl (table_of _ h); few = none_few h.marked }
      by_here (inr (PortDenied port connection, h)) lasts = record { after = parts_as _ h _ _ h.near refl _ _ h.session _ _ h.link h.to_client (refl, refl); table = inl (table_of _ h); few = none_few h.marked }
      by_here (inr (Restarts at restart (Dialled true), h)) lasts = record { after = parts_as _ h _ _ h.near refl _ _ h.session _ _ h.link h.to_client tt; table = inl (table_of _ h); few = none_few h.marked }
      by_here (inr (Restarts at restart (Dialled false), h)) lasts = record { after = parts_as _ h _ _ h.near refl _ _ h.session _ _ h.link h.to_client (refl, refl); table = inl (table_of _ h); few = one_few _ h.marked }
      by_here (inr (Restarts at restart (Ported port), h)) lasts = record { after = parts_as _ h _ _ h.near refl _ _ h.session _ _ h.link h.to_client (refl, refl); table = inl (table_of _ h); few = none_few h.marked }
      by_here (inr (Retrieves (Dialled true), h)) lasts = record { after = parts_as _ h _ _ h.near refl _ _ h.session _ _ h.link h.to_client tt; table = inl (table_of _ h); few = none_few h.marked }
      by_here (inr (Retrieves (Dialled false), h)) lasts = record { after = parts_as _ h _ _ h.near refl _ _ h.session _ _ h.link h.to_client (refl, refl); table = inl (table_of _ h); few = one_few _ h.marked }
      by_here (inr (Retrieves (Ported port), h)) lasts = record { after = parts_as _ h _ _ h.near refl _ _ h.session _ _ h.link h.to_client (refl, refl); table = inl (table_of _ h); few = none_few h.marked }
      by_here (inr (Awaits port false, h)) lasts = record { after = parts_as _ h _ _ h.near refl _ _ h.session _ _ h.link h.to_client (refl, refl); table = inl (table_of _ h); few = none_few h.marked }
      by_here (inr (Awaits port true, h)) lasts = record { after = parts_as _ h _ _ h.near refl _ _ h.session _ _ h.link h.to_client (refl, refl); table = inl (table_of _ h); few = none_few h.marked }
      by_here (inr (Unaccepted port, h)) lasts = record { after = parts_as _ h _ _ h.near refl _ _ h.session _ _ h.link h.to_client (refl, refl); table = inl (table_of _ h); few = one_few _ h.marked }
      by_here (inr (Dismissed port why, h)) lasts = record { after = parts_as _ h _ _ h.near refl _ _ h.session _ _ h.link h.to_client (refl, refl); table = inl (table_of _ h); few = none_few h.marked }
      by_here (inr (Carries c, h)) lasts = carry_parts c.course c.came c.queue h lasts
      by_here (inr (Rises rise lift, h)) lasts = lift_parts rise lift h lasts
      by_here (inr (Tells rise said after, h)) lasts = absurd (cc)
      by_here (inr (Answers said leaves, h)) lasts = absurd (cc)

  -- the control connection ends while what is asked for is under way, and the world follows with its operation lost
  pub fetch_parts : Follows read from begun (after_event (ends_control w))
  fetch_parts = elim parts.table [
    | inl same ↦ lost_follows (λ now ask own w. PlacedAt (λ way b. AtFetch now ask read own way b) w) read from begun w on.fetching on.fetching.now
        (lost_nothing on.fetching.now on.fetching.ask on.fetching.own on.fetching.moment) parts.after same parts.few
    | inr settles ↦ lost_follows (λ now ask own w. PlacedAt (λ way b. AtFetch now ask read own way b) w) read from begun w on.fetching settles.after
        (lost_fares on.fetching.now on.fetching.ask on.fetching.own settles.said settles.after on.fetching.moment settles.fares) parts.after settles.table parts.few
  ]

-- ---- behind a refused REST

module _ (read : Reading) (reads : IsReading read) (from : State) (begun : List Order) (w : World) (t : IsTrailing from begun w) where
  abbrev there : World
  there = closed_at read reads from begun w t

  abbrev lost_there : World
  lost_there = record (with_link Gone [] [] (lost_world Idle false there)) { reports = there.reports }

  -- behind a refused REST, with its link closed, the control connection ends and nothing more is reported
  parts_there : after_event (ends_control there) ≡ lost_there
  unfolding near.control_end far.control_end near.wants far.data_closed
  parts_there = refl

  -- the control connection ends behind a refused REST, and the world follows
  pub trailing_parts : Follows read from begun (after_event (ends_control w))
  trailing_parts =
      let told : Told from begun there.marks None there.reports t.now =
      subst (λ marks. Told from begun marks None there.reports t.now) (sym (marks_at read reads from begun w t)) (reported read reads from begun w t [] (omega arith)) in
      let many : length there.marks ≡ length begun = marks_are_all from begun there.marks None there.reports t.now told in
      subst (λ u. Follows read from begun (after_event (ends_control u))) (sym (closed_is read reads from begun w t))
      (subst (Follows read from begun) (sym parts_there) (record {
        unlinked = record { link = refl; to_server = refl; to_client = refl };
        untold = refl;
        phase = inr (record {
          now = t.now;
          cutoff = length there.marks;
          cut_is = refl;
          early = omega (arith, many);
          told = told_cut from begun there.marks (length there.marks) there.reports t.now (omega (arith, many)) told;
          near = near_lost there.near;
          far = far_lost there.far;
          table = t.stands.here.steady.table;
          control = refl;
          to_server = refl;
          to_client = refl;
        });
      }))
