-- The control connection ends: the operation under way is lost, and so is each that is begun behind it.
use Rattle.std.proofs.Common.{◌≡◌, ◌⊎◌, inl, inr, ℕ, suc, ◌+◌, ◌≤◌, Bool, true, false, ◌||◌, List, [], ◌∷◌, ◌++◌, length, Option, Some, None, refl, sym, ap, subst, ◌∙◌, arith}
use Rattle.std.specs.Prelude.{if◌then◌else◌}
use Rattle.ftp_ends.specs.Ear.{quiet}
use Rattle.ftp_operation.specs.Answer.{Said, Lost}
use Rattle.ftp_operation.specs.Operation.{can_be_sent}
use Rattle.ftp_operation.specs.declared.op.Op.{Op}
use Rattle.ftp_reply.specs.Reader.{Between}
use Rattle.ftp_tree.specs.Tree.{Table}
use Rattle.ftp_direct.specs.Direct.{State, answer}
use Rattle.ftp_client_model.specs.Calls as near
use Rattle.ftp_client_model.specs.Calls.{is_sound, is_busy_job, report_of, report_of_job, started_by, unsendable_by}
use Rattle.ftp_client_model.specs.View.{View as Near, Job, Idle, Waiting, Doing, Transferring, Told as Answered, stands, dropped, silent, fails_by, failed_job}
use Rattle.ftp_client_model.specs.declared.client.ClientLink.TheVariants as NearData
use Rattle.ftp_client_model.specs.declared.client.Failure.TheVariants as Failures
use Rattle.ftp_client_model.specs.declared.client.Standing.{Standing}
use Rattle.ftp_client_model.specs.declared.client.Standing.TheVariants as Standings
use Rattle.ftp_server_model.specs.Calls as far
use Rattle.ftp_server_model.specs.Calls.{session_cut}
use Rattle.ftp_server_model.specs.Machine.{Reading, waited}
use Rattle.ftp_server_model.specs.View.{View as Far}
use Rattle.laws_world.specs.Agreement.{Order, Single, Item, state_after, ItemHolds, AllowsPart}
use Rattle.laws_world.specs.Events.{ends_control, operation_begins}
use Rattle.laws_world.specs.Outcome.{Part, Nothing, All, Lost as LostOff, lost_state, CanBeLost}
use Rattle.laws_world.specs.Serving.{near_served, far_served, served, link_closed_by_far, collected, after_event}
use Rattle.laws_world.specs.World.{World, Mark, Parted, Gone}
use Rattle.laws_dialogues.specs.Dialogue.{NearWaits, Ends}
use Rattle.laws_dialogues.specs.Login.{AtFree, AtOperation}
use Rattle.laws_dialogues.specs.Stage.{rest}
use Rattle.laws_agreement.specs.Follows.{Told, NearLost, FarLost, IsFree, IsUnder, IsLost, IsUnlinked, Follows}
use Rattle.laws_agreement.proofs.Begins.{at_moment, with_job}
use Rattle.laws_agreement.proofs.Items.{state_more, one_told, marks_of_each, all_cut}
use Rattle.laws_agreement.proofs.Phases.{both_longer, length-more, free_still, lost_is_still}
use Rattle.laws_agreement.proofs.Still.{IsSeen, seen, IsStill, IsMoving, still_as, free_set, free_job, operation_on}

-- ---- both ends behind it

-- the client has failed, and this is its operation
abbrev pub lost_near : Job → Near → Near
lost_near job n = record n {
  standing = Standings.Failed Failures.Lost;
  job = job;
  run = None;
  connection = NearData.Free;
  closing = false;
  ear = quiet;
  gathered = Between;
  owed = [];
}

-- the server hears nothing more; a port that was listened at is to be closed or was
abbrev pub cut_far : Bool → Far → Far
cut_far closing f = record f { session = record (session_cut f.session) { closing = closing }; waiting = None; owed = [] }

-- a sound client that loses its control connection is silent and without a data connection, and its job has failed
pub near_fails : (s : Standing) (n : Near) → is_sound s ≡ true
    → fails_by s Failures.Lost n ≡ record (silent (dropped n)) { standing = Standings.Failed Failures.Lost; job = failed_job Lost n.job; run = None }
near_fails Standings.Greeting n sound = refl
near_fails Standings.User n sound = refl
near_fails Standings.Pass n sound = refl
near_fails Standings.Entered n sound = refl
near_fails (Standings.Failed failure) n sound = absurd (cc)

-- a client that waits and hears the end of its control connection has failed, and so has its job
near_ends : (n : Near) → NearWaits n → near.control_end n ≡ lost_near (failed_job Lost n.job) n
unfolding near.control_end
near_ends n waits =
    near_fails n.standing n waits.sound
    ∙ (λ i. record (lost_near (failed_job Lost n.job) n) { closing = waits.closing i || stands (waits.connection i) })

-- the world behind it
abbrev pub lost_world : Job → Bool → World → World
lost_world job closing w = record w {
  near = lost_near job w.near;
  far = cut_far closing w.far;
  control_to_server = [];
  control_to_client = [];
  control = Parted;
  cutoff = Some (length w.marks);
}

-- the end of the control connection makes of a still world one that is lost
ends_is : (w : World) → IsStill w → ends_control w ≡ lost_world (failed_job Lost w.near.job) (session_cut w.far.session).closing w
unfolding far.control_end
ends_is w waits = ap (λ v. record (lost_world (failed_job Lost w.near.job) (session_cut w.far.session).closing w) { near = v }) (near_ends w.near waits.near)

-- ---- what the world does for them

-- in a lost world the client wants nothing
near_left : (job : Job) (closing : Bool) (w : World) → near_served (lost_world job closing w) ≡ lost_world job closing w
unfolding near.wants
near_left job closing w = refl

-- in a lost world without a link the server has its port closed, if one is to be, and wants nothing else
far_left : (job : Job) (closing : Bool) (w : World) → w.link ≡ Gone → far_served (lost_world job closing w) ≡ lost_world job false w
unfolding far.data_closed
far_left job true w gone =
    ap (λ link. link_closed_by_far link (record w {
      near = lost_near job w.near;
      far = cut_far false w.far;
      control_to_server = [];
      control_to_client = [];
      control = Parted;
      cutoff = Some (length w.marks);
    })) gone
far_left job false w gone = refl

-- all that is served in a lost world without a link is the closing of a port
lost_is_served : (job : Job) (closing : Bool) (w : World) → w.link ≡ Gone → served (lost_world job closing w) ≡ lost_world job false w
lost_is_served job closing w gone =
    ap (λ u. far_served (far_served (far_served (near_served (near_served u))))) (near_left job closing w)
    ∙ ap (λ u. far_served (far_served (far_served (near_served u)))) (near_left job closing w)
    ∙ ap (λ u. far_served (far_served (far_served u))) (near_left job closing w)
    ∙ ap (λ u. far_served (far_served u)) (far_left job closing w gone)
    ∙ ap far_served (far_left job false w gone) ∙ far_left job false w gone

-- with no operation under way the control connection ends in a lost world that reports nothing more
after_idle : (w : World) → IsStill w → w.link ≡ Gone → w.near.job ≡ Idle → after_event (ends_control w) ≡ lost_world Idle false w
after_idle w waits gone idle =
    ap after_event (ends_is w waits ∙ ap (λ job. lost_world (failed_job Lost job) (session_cut w.far.session).closing w) idle)
    ∙ ap collected (lost_is_served Idle (session_cut w.far.session).closing w gone)

-- with an operation under way the control connection ends in a lost world that reports it as lost
pub after_busy : (w : World) → IsStill w → w.link ≡ Gone → failed_job Lost w.near.job ≡ Answered Lost
    → after_event (ends_control w) ≡ record (lost_world Idle false w) { reports = w.reports ++ Lost ∷ [] }
after_busy w waits gone lost =
    ap after_event (ends_is w waits ∙ ap (λ job. lost_world job (session_cut w.far.session).closing w) lost)
    ∙ ap collected (lost_is_served (Answered Lost) (session_cut w.far.session).closing w gone)

-- a job under way that has nothing to report yet fails as lost
pub busy_lost : (job : Job) → is_busy_job job ≡ true → report_of_job job ≡ None → failed_job Lost job ≡ Answered Lost
busy_lost Idle busy untold = absurd (cc)
busy_lost (Waiting op) busy untold = refl
busy_lost (Doing op step) busy untold = refl
busy_lost (Transferring op transfer) busy untold = refl
busy_lost (Answered said) busy untold = absurd (cc)

-- ---- items that are lost

-- an operation that is lost, with what it did
abbrev pub lost_item : Part → Op (List ℕ) → ℕ → Item
lost_item part op moment = record { moment = moment; first = record { op = op; outcome = LostOff part; marks = [] }; more = [] }

-- the item of an operation that is lost, without marks, holds if that part of it can be lost and is allowed
lost_holds : (part : Part) (now : State) (op : Op (List ℕ)) (moment cutoff index : ℕ) → CanBeLost part now op → AllowsPart part [] (Some cutoff) index
    → ItemHolds now (Single op moment) [] (Some cutoff) index (lost_item part op moment)
lost_holds part now op moment cutoff index can allowed =
    record { is_of = (refl, refl, refl); holds = (record { can_be = can; allowed = allowed; few = omega arith }, tt); marked = refl }

-- behind what is told, one more order that is lost is told as well, if that part of it can be lost and is allowed
told_lost : (from : State) (done : List Order) (marks : List (List Mark)) (cutoff : ℕ) (reports : List Said) (now : State) (part : Part) (op : Op (List ℕ)) (moment : ℕ)
    → Told from done marks (Some cutoff) reports now → CanBeLost part now op → AllowsPart part [] (Some cutoff) (length done)
    → Told from (done ++ Single op moment ∷ []) (marks ++ [] ∷ []) (Some cutoff) (reports ++ Lost ∷ []) (lost_state part now op moment)
told_lost from done marks cutoff reports now part op moment t can allowed = record {
  items = t.items ++ lost_item part op moment ∷ [];
  all = both_longer reports done Lost (Single op moment) t.all;
  hold = one_told reports from 0 (length done) done marks (Some cutoff) t.items (Single op moment) [] (lost_item part op moment) Lost t.all t.hold
      (let e : length done ≡ 0 + length done = omega arith in e)
      (lost_holds part (state_after from t.items) op moment cutoff (length done) (subst (λ s. CanBeLost part s op) t.now_is can) allowed) (tt, refl);
  now_is = sym (state_more from t.items (lost_item part op moment) ∙ ap (λ s. lost_state part s op moment) (sym t.now_is));
}

-- the control connection ends behind all of them
pub told_cut : (from : State) (done : List Order) (marks : List (List Mark)) (cutoff : ℕ) (reports : List Said) (now : State) → length done ≤ cutoff
    → Told from done marks None reports now → Told from done marks (Some cutoff) reports now
told_cut from done marks cutoff reports now early t = record {
  items = t.items;
  all = t.all;
  hold = all_cut reports from 0 cutoff done marks t.items t.all (let e : 0 + length done ≤ cutoff = omega (arith, early) in e) t.hold;
  now_is = t.now_is;
}

-- where each order is told there are as many lists of marks as orders
pub marks_are_all : (from : State) (done : List Order) (marks : List (List Mark)) (cutoff : Option ℕ) (reports : List Said) (now : State) → Told from done marks cutoff reports now
    → length marks ≡ length done
marks_are_all from done marks cutoff reports now t = marks_of_each reports from 0 done marks cutoff t.items t.all t.hold

-- ---- the end, by what is under way

-- a client that has lost its control connection and has no operation is a lost one
pub near_lost : (n : Near) → NearLost (lost_near Idle n)
near_lost n = record { standing = refl; job = refl; connection = refl; closing = refl; owed = refl }

-- a server that hears nothing more and has no port to close is a lost one
pub far_lost : (f : Far) → FarLost (cut_far false f)
far_lost f = record { life = refl; closing = refl; connection = refl; waiting = refl; owed = refl }

-- a world with no operation under way is lost once the control connection has ended
parts_free : (from : State) (begun : List Order) (w : World) → IsFree from begun w → IsLost from begun (lost_world Idle false w)
parts_free from begun w f =
    let many : length w.marks ≡ length begun = marks_are_all from begun w.marks None w.reports f.now f.told in
    let set = free_set f.now f.stands.way f.stands.base.near f.stands.base.far f.stands.here in
    record {
      now = f.now;
      cutoff = length w.marks;
      cut_is = refl;
      early = omega (arith, many);
      told = told_cut from begun w.marks (length w.marks) w.reports f.now (omega (arith, many)) f.told;
      near = near_lost w.near;
      far = far_lost w.far;
      table = ap (λ s. s.table) (seen (AtFree f.now) w f.stands).session ∙ one_table set.table;
      control = refl;
      to_server = refl;
      to_client = refl;
    }
  where
    one_table : {t other : Table} → (t ≡ other) ⊎ (t ≡ other) → t ≡ other
    one_table (inl is) = is
    one_table (inr is) = is

-- a world under an operation is lost, and reports so, with the map as this part of the operation leaves it
parts_under : (read : Reading) (from : State) (begun : List Order) (w : World) (u : IsUnder read from begun w) (part : Part) → CanBeLost part u.now u.op
    → AllowsPart part [] (Some (length w.marks)) (length u.done) → w.far.session.table ≡ (lost_state part u.now u.op u.moment).table
    → IsLost from begun (record (lost_world Idle false w) { reports = w.reports ++ Lost ∷ [] })
parts_under read from begun w u part can allowed table =
    let many : length u.marks ≡ length u.done = marks_are_all from u.done u.marks None w.reports u.now u.told in
    let one : length w.marks ≡ suc (length u.done) = ap length u.marks_are ∙ length-more u.marks [] ∙ ap suc many in
    let cut = told_cut from u.done u.marks (length w.marks) w.reports u.now (omega (arith, one)) u.told in
    let lost = told_lost from u.done u.marks (length w.marks) w.reports u.now part u.op u.moment cut can allowed in
    let all : length begun ≡ suc (length u.done) = ap length u.begun_is ∙ length-more u.done (Single u.op u.moment) in
    record {
      now = lost_state part u.now u.op u.moment;
      cutoff = length w.marks;
      cut_is = refl;
      early = omega (arith, one, all);
      told = subst (λ done. Told from done w.marks (Some (length w.marks)) (w.reports ++ Lost ∷ []) (lost_state part u.now u.op u.moment)) (sym u.begun_is)
          (subst (λ marks. Told from (u.done ++ Single u.op u.moment ∷ []) marks (Some (length w.marks)) (w.reports ++ Lost ∷ []) (lost_state part u.now u.op u.moment)) (sym u.marks_are) lost);
      near = near_lost w.near;
      far = far_lost w.far;
      table = table;
      control = refl;
      to_server = refl;
      to_client = refl;
    }

module _ (read : Reading) (from : State) (begun : List Order) where
  -- a lost world without a link follows what was begun
  follows_lost : (w : World) → IsUnlinked w → IsLost from begun w → Follows read from begun w
  follows_lost w unlinked lost = record { unlinked = unlinked; untold = ap report_of_job lost.near.job; phase = inr lost }

  -- the control connection ends with no operation under way, and the world follows what was begun
  pub parts_from_free : (w : World) → IsUnlinked w → IsFree from begun w → Follows read from begun (after_event (ends_control w))
  parts_from_free w unlinked f =
      let idle : w.near.job ≡ Idle = (seen (AtFree f.now) w f.stands).job ∙ free_job f.now f.stands.way f.stands.base.near f.stands.base.far f.stands.here in
      subst (Follows read from begun) (sym (after_idle w (free_still from begun w f) unlinked.link idle))
      (follows_lost (lost_world Idle false w) (record { link = unlinked.link; to_server = unlinked.to_server; to_client = unlinked.to_client }) (parts_free from begun w f))

  -- the control connection ends under an operation, and the world follows what was begun
  pub parts_from_under : (w : World) → IsUnlinked w → report_of w.near ≡ None → (u : IsUnder read from begun w) → Follows read from begun (after_event (ends_control w))
  parts_from_under w unlinked untold u = by_place (operation_on read u.now u.op (answer u.now u.op u.moment) u.stands.way u.stands.base.near u.stands.base.far u.stands.here)
    where
      like : IsSeen u.stands.base w
      like = seen (λ way n f. AtOperation read u.now u.op (answer u.now u.op u.moment) way n f) w u.stands

      one : length w.marks ≡ suc (length u.done)
      one = ap length u.marks_are ∙ length-more u.marks [] ∙ ap suc (marks_are_all from u.done u.marks None w.reports u.now u.told)

      by_place : IsMoving u.now.table (answer u.now u.op u.moment).1.table u.stands.way u.stands.base.near u.stands.base.far
          ⊎ ((u.stands.way ≡ rest) × Ends (answer u.now u.op u.moment) u.stands.base.near u.stands.base.far)
          → Follows read from begun (after_event (ends_control w))
      by_place (inr ends) = absurd (let e : None ≡ Some (answer u.now u.op u.moment).0 = sym untold ∙ ap report_of_job (like.job ∙ ap (λ v. v.job) ends.1.near) in cc)
      by_place (inl moving) =
          let lost : failed_job Lost w.near.job ≡ Answered Lost =
          busy_lost w.near.job (ap is_busy_job like.job ∙ moving.busy) untold in
          let still = still_as u.stands.base w like moving.set.near moving.set.far in
          let new : World = record (lost_world Idle false w) { reports = w.reports ++ Lost ∷ [] } in
          subst (Follows read from begun) (sym (after_busy w still unlinked.link lost))
          (follows_lost new (record { link = unlinked.link; to_server = unlinked.to_server; to_client = unlinked.to_client }) (by_table moving.set.table))
        where
          by_table : (u.stands.base.far.session.table ≡ u.now.table) ⊎ (u.stands.base.far.session.table ≡ (answer u.now u.op u.moment).1.table)
              → IsLost from begun (record (lost_world Idle false w) { reports = w.reports ++ Lost ∷ [] })
          by_table (inl before) = parts_under read from begun w u Nothing tt (inl (sym one)) (ap (λ s. s.table) like.session ∙ before)
          by_table (inr after) = parts_under read from begun w u All tt (sym one) (ap (λ s. s.table) like.session ∙ after)

-- ---- behind the end

-- a client that has lost its control connection answers each operation with that at once
starts_lost : (op : Op (List ℕ)) (n : Near) → n.standing ≡ Standings.Failed Failures.Lost → near.starts op n ≡ with_job (Answered Lost) n
unfolding near.starts
starts_lost op n is = by_sent (can_be_sent op)
  where
    by_sent : (b : Bool) → (if b then started_by n.standing op (record n { run = None }) else unsendable_by n.standing n) ≡ with_job (Answered Lost) n
    by_sent true = ap (λ s. started_by s op (record n { run = None })) is
    by_sent false = ap (λ s. unsendable_by s n) is

module _ (read : Reading) (from : State) (begun : List Order) (op : Op (List ℕ)) (moment : ℕ) where
  -- the world with an operation that is lost at once
  abbrev begun_lost : World → World
  begun_lost w = record w { far = at_moment moment w.far; near = with_job (Answered Lost) w.near; marks = w.marks ++ [] ∷ [] }

  -- in a lost world an operation begins as one that is lost at once
  begun_lost_is : (w : World) → IsLost from begun w → operation_begins op moment w ≡ begun_lost w
  unfolding far.clocked
  begun_lost_is w l =
      let far : far.clocked moment w.far ≡ at_moment moment w.far = ap (λ waiting. waited waiting (at_moment moment w.far)) l.far.waiting in
      let near : near.starts op w.near ≡ with_job (Answered Lost) w.near = starts_lost op w.near l.near.standing in
      λ i. record w { far = far i; near = near i; marks = w.marks ++ [] ∷ [] }

  -- a lost world with one more order, reported as lost, is still lost
  behind_lost : (order : Order) (w : World) → (l : IsLost from begun w) → Told from (begun ++ order ∷ []) (w.marks ++ [] ∷ []) (Some l.cutoff) (w.reports ++ Lost ∷ []) l.now
      → IsLost from (begun ++ order ∷ []) (record (begun_lost w) { near = with_job Idle w.near; reports = w.reports ++ Lost ∷ [] })
  behind_lost order w l told =
      let long : length (begun ++ order ∷ []) ≡ suc (length begun) = length-more begun order in
      record {
        now = l.now;
        cutoff = l.cutoff;
        cut_is = l.cut_is;
        early = omega (arith, l.early, long);
        told = told;
        near = record { standing = l.near.standing; job = refl; connection = l.near.connection; closing = l.near.closing; owed = l.near.owed };
        far = record { life = l.far.life; closing = l.far.closing; connection = l.far.connection; waiting = l.far.waiting; owed = l.far.owed };
        table = l.table;
        control = l.control;
        to_server = l.to_server;
        to_client = l.to_client;
      }

  -- such an order has its report at once
  pub lost_so : (order : Order) (w : World) → IsUnlinked w → (l : IsLost from begun w)
      → Told from (begun ++ order ∷ []) (w.marks ++ [] ∷ []) (Some l.cutoff) (w.reports ++ Lost ∷ []) l.now
      → Follows read from (begun ++ order ∷ []) (after_event (operation_begins op moment w))
  lost_so order w unlinked l told =
      let u : World = begun_lost w in
      let served_u : served u ≡ u = busy_served u l in
      let new : World = record u { near = with_job Idle w.near; reports = w.reports ++ Lost ∷ [] } in
      let is : after_event (operation_begins op moment w) ≡ new = ap after_event (begun_lost_is w l) ∙ ap collected served_u in
      subst (Follows read from (begun ++ order ∷ [])) (sym is) (record {
        unlinked = record { link = unlinked.link; to_server = unlinked.to_server; to_client = unlinked.to_client };
        untold = refl;
        phase = inr (behind_lost order w l told);
      })
    where
      busy_served : (u : World) → IsLost from begun w → served (begun_lost w) ≡ begun_lost w
      busy_served u l = lost_is_still (begun_lost w) l.near.standing l.near.closing l.far.life l.far.closing l.control

  -- an operation begun in a lost world is lost, and the world follows what was begun with it
  pub begins_lost : (w : World) → IsUnlinked w → IsLost from begun w → Follows read from (begun ++ Single op moment ∷ []) (after_event (operation_begins op moment w))
  begins_lost w unlinked l = lost_so (Single op moment) w unlinked l (told_lost from begun w.marks l.cutoff w.reports l.now Nothing op moment l.told tt (inr l.early))
