-- An upload over breaks begins with its first operation.
use Rattle.std.proofs.Common.{◌≡◌, inl, inr, ℕ, ◌+◌, ◌≤◌, Bool, true, false, List, [], ◌∷◌, ◌++◌, length, Some, None, refl, sym, ap, subst, ◌∙◌, arith, append-nil}
use Rattle.std.specs.Prelude.{if◌then◌else◌}
use Rattle.ftp_operation.specs.Answer.{Said, Lost}
use Rattle.ftp_operation.specs.Operation.{can_be_sent, is_path_text}
use Rattle.ftp_operation.specs.declared.op.Op.{Op}
use Rattle.ftp_operation.specs.declared.op.Op.TheVariants as Ops
use Rattle.ftp_direct.specs.Direct.{State}
use Rattle.ftp_tree.specs.Sound.{last_second}
use Rattle.ftp_client_model.specs.Calls as near
use Rattle.ftp_client_model.specs.Calls.{is_sound, started_by, unsendable_by}
use Rattle.ftp_client_model.specs.Dialogue.{begins}
use Rattle.ftp_client_model.specs.Tries.{OverBreaks, Run, counts_as_file, first_try, is_size, run_of, whole_put}
use Rattle.ftp_client_model.specs.View.{View as Near, Waiting}
use Rattle.ftp_client_model.specs.declared.client.ClientLink.TheVariants as Data
use Rattle.ftp_client_model.specs.declared.client.Failure.TheVariants as Failures
use Rattle.ftp_client_model.specs.declared.client.Standing.{Standing}
use Rattle.ftp_client_model.specs.declared.client.Standing.TheVariants as Standings
use Rattle.ftp_server_model.specs.Calls as far
use Rattle.ftp_server_model.specs.Machine.{Reading, IsReading}
use Rattle.laws_world.specs.Agreement.{Order, Single, Tries, Item, state_after, ItemHolds}
use Rattle.laws_world.specs.Events.{begins_at_moment, operation_begins, upload_begins}
use Rattle.laws_world.specs.Outcome.{Nothing}
use Rattle.laws_world.specs.Serving.{after_event}
use Rattle.laws_world.specs.World.{World, Mark}
use Rattle.laws_agreement.specs.Follows.{Told, IsFree, IsLost, IsLinked, IsUnlinked, Follows}
use Rattle.laws_agreement.specs.Over.{Going, OverRuns}
use Rattle.laws_agreement.specs.Runs.{Runs}
use Rattle.laws_agreement.proofs.Items.{state_more, one_told}
use Rattle.laws_agreement.proofs.OverClient.{Along, along, amid_along, begins_amid, none_behind}
use Rattle.laws_agreement.proofs.OverServed.{Working}
use Rattle.laws_agreement.proofs.OverSettles.{settle_under}
use Rattle.laws_agreement.proofs.Parting.{lost_item, lost_so, marks_are_all}
use Rattle.laws_agreement.proofs.Phases.{both_longer, free_still}
use Rattle.laws_agreement.proofs.Running.{free_begins}

-- one that can be sent begins with all its octets
first_is : (upload : OverBreaks) → can_be_sent (first_try upload) ≡ true → (first_try upload ≡ whole_put upload) × (is_path_text upload.path ≡ true)
first_is upload can = by (counts_as_file upload.how.representation) refl
  where
    by : (b : Bool) → counts_as_file upload.how.representation ≡ b → (first_try upload ≡ whole_put upload) × (is_path_text upload.path ≡ true)
    by true counts =
        let is : first_try upload ≡ whole_put upload = ap (λ (b : Bool). if b then whole_put upload else Ops.MakeDir []) counts in
        (is, sym (ap can_be_sent is) ∙ can)
    by false counts =
        let is : first_try upload ≡ Ops.MakeDir [] = ap (λ (b : Bool). if b then whole_put upload else Ops.MakeDir []) counts in
        let none : can_be_sent (Ops.MakeDir []) ≡ false = refl in
        absurd (let e : false ≡ true = sym none ∙ sym (ap can_be_sent is) ∙ can in cc)

module _ (upload : OverBreaks) where
  -- its run
  abbrev run : Run
  run = run_of upload

  -- its first operation
  abbrev op : Op (List ℕ)
  op = first_try upload

  -- what the client makes of it is what it makes of its first operation
  started_along : (standing : Standing) (n : Near) → is_sound standing ≡ true → n.connection ≡ Data.Free → Along run op (started_by standing op (record n { run = Some run })) (started_by standing op (record n { run = None }))
  started_along Standings.Entered n sound free = amid_along run op (begins op (record n { run = Some run })) (begins op (record n { run = None })) (begins_amid run op op refl n)
  started_along Standings.Greeting n sound free = along run op (record n { job = Waiting op }) (refl, free)
  started_along Standings.User n sound free = along run op (record n { job = Waiting op }) (refl, free)
  started_along Standings.Pass n sound free = along run op (record n { job = Waiting op }) (refl, free)
  started_along (Standings.Failed failure) n sound free = absurd (cc)

  -- a client that has not failed begins the upload as it begins that operation, but for the run
  begins_along : (n : Near) → can_be_sent op ≡ true → is_sound n.standing ≡ true → n.connection ≡ Data.Free → Along run op (near.uploads upload n) (near.starts op n)
  unfolding near.uploads near.starts
  begins_along n can sound free =
      subst (λ (b : Bool). Along run op (if b then started_by n.standing op (record n { run = Some run }) else unsendable_by n.standing n) (if b then started_by n.standing op (record n { run = None }) else unsendable_by n.standing n)) (sym can)
      (started_along n.standing n sound free)

  -- behind a failure it is as another operation
  starts_failed : (n : Near) → n.standing ≡ Standings.Failed Failures.Lost → near.uploads upload n ≡ near.starts op n
  unfolding near.uploads near.starts
  starts_failed n failed = by (can_be_sent op)
    where
      by : (b : Bool) → (if b then started_by n.standing op (record n { run = Some run }) else unsendable_by n.standing n) ≡ (if b then started_by n.standing op (record n { run = None }) else unsendable_by n.standing n)
      by true =
          ap (λ s. started_by s op (record n { run = Some run })) failed
          ∙ sym (ap (λ s. started_by s op (record n { run = None })) failed)
      by false = refl

module _ (read : Reading) (reads : IsReading read) (from : State) (begun : List Order) (upload : OverBreaks) (moment : ℕ) where
  -- where all that was begun has its report, its first operation is under way
  pub over_free : (w : World) → can_be_sent (first_try upload) ≡ true → moment ≤ last_second → Follows read from begun w → IsLinked w → IsFree from begun w
      → OverRuns read from (begun ++ Tries upload moment ∷ []) (after_event (upload_begins upload moment w))
  over_free w can dated h l f =
      let first = first_is upload can in
      let still = free_still from begun w f in
      let q = begins_along upload w.near can still.near.sound still.near.connection in
      let marks : List (List Mark) = w.marks ++ [] ∷ [] in
      let base : World = record w { far = far.clocked moment w.far; marks = marks; reports = w.reports ++ [] } in
      let a : World = upload_begins upload moment w in
      let b : World = record (operation_begins (first_try upload) moment w) { reports = w.reports ++ [] } in
      let by_real : Near → World = λ v. record base { near = v; reports = w.reports } in
      let by_alone : Near → World = λ v. record base { near = v } in
      let working : Working (run_of upload) (first_try upload) marks marks w.reports (w.reports ++ []) w.cutoff w.cutoff a b =
      record { near = q.view; base = base; real_is = ap by_real q.real_is; alone_is = ap by_alone q.alone_is; fine = q.works; kept = (refl, refl, refl) } in
      let by_reports : List Said → World = λ r. after_event (record (operation_begins (first_try upload) moment w) { reports = r }) in
      let runs : Runs read from (begun ++ Single (first_try upload) moment ∷ []) (after_event b) =
      subst (Runs read from (begun ++ Single (first_try upload) moment ∷ [])) (sym (ap by_reports (append-nil w.reports)))
      (free_begins read reads from begun (first_try upload) moment w dated h l f) in
      let g : Going (begun ++ Tries upload moment ∷ []) a = record {
        done = begun;
        marks = w.marks;
        upload = upload;
        moment = moment;
        past = [];
        run = run_of upload;
        op = first_try upload;
        own = [];
        begun_is = refl;
        marks_are = refl;
        each = marks_are_all from begun w.marks None w.reports f.now f.told;
        chain = (refl, refl);
        of = refl;
        one = inl first.0;
        path_fine = first.1;
        dated = dated;
      } in
      inr (inl (settle_under read reads from (begun ++ Tries upload moment ∷ []) a b g w.reports w.cutoff f.told.all working runs
      (λ size. absurd (let e : true ≡ false = sym size ∙ ap is_size first.0 in cc))))

  -- behind the end of the control connection it is Lost
  told_gone : (marks : List (List Mark)) (cutoff : ℕ) (reports : List Said) (now : State) → cutoff ≤ length begun → Told from begun marks (Some cutoff) reports now
      → Told from (begun ++ Tries upload moment ∷ []) (marks ++ [] ∷ []) (Some cutoff) (reports ++ Lost ∷ []) now
  told_gone marks cutoff reports now early t =
      let op : Op (List ℕ) = first_try upload in
      let item : Item = lost_item Nothing op moment in
      let holds : ItemHolds (state_after from t.items) (Tries upload moment) [] (Some cutoff) (length begun) item =
      record { is_of = (refl, refl, tt); holds = (record { can_be = tt; allowed = inr early; few = omega arith }, tt); marked = refl } in
      record {
        items = t.items ++ item ∷ [];
        all = both_longer reports begun Lost (Tries upload moment) t.all;
        hold = one_told reports from 0 (length begun) begun marks (Some cutoff) t.items (Tries upload moment) [] item Lost t.all t.hold (let e : length begun ≡ 0 + length begun = omega arith in e)
            holds (none_behind (run_of upload) op Failures.Lost, refl);
        now_is = t.now_is ∙ sym (state_more from t.items item);
      }

  -- and so the world follows
  pub over_lost : (w : World) → IsUnlinked w → IsLost from begun w → Follows read from (begun ++ Tries upload moment ∷ []) (after_event (upload_begins upload moment w))
  over_lost w unlinked l =
      subst (λ n. Follows read from (begun ++ Tries upload moment ∷ []) (after_event (begins_at_moment moment n w))) (sym (starts_failed upload w.near l.near.standing))
      (lost_so read from begun (first_try upload) moment (Tries upload moment) w unlinked l (told_gone w.marks l.cutoff w.reports l.now l.early l.told))
