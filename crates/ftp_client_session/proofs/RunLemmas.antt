-- The next operation of a run begins as any other does, whatever was under way.
use Rattle.std.proofs.Common.{◌≡◌, ◌∙◌, ◌||◌, Bool, true, false, ℕ, List, Option, Some, None, refl, sym, ap}
use Rattle.ftp_operation.specs.declared.op.Op.{Op}
use Rattle.ftp_client_model.specs.Dialogue.{begins, placed}
use Rattle.ftp_client_model.specs.Plan.{first_step}
use Rattle.ftp_client_model.specs.Tries.{OverBreaks, Run, first_try, run_of}
use Rattle.ftp_client_model.specs.Calls.{started_by, starts, unsendable_by, uploads}
use Rattle.ftp_operation.specs.Operation.{can_be_sent}
use Rattle.std.specs.Prelude.{if◌then◌else◌}
use Rattle.ftp_client_model.specs.View.{View, Job, Doing, Told, Flow, done_with, dropped, failed_job, failure_said, stands}
use Rattle.ftp_client_model.specs.declared.client.Failure.{Failure}
use Rattle.ftp_client_model.specs.declared.client.Standing.{Standing}
use Rattle.ftp_client_model.specs.declared.client.Standing.TheVariants as Stands
use Rattle.ftp_operation.specs.Answer.{Memory}
use Rattle.ftp_client_session.specs.Calm.{is_under_way}
use Rattle.ftp_client_session.specs.Client.{job_of, shorted}
use Rattle.ftp_client_session.specs.declared.task.Task.{Task}
use Rattle.ftp_client_session.specs.declared.task.Task.TheVariants as Places
use Rattle.ftp_client_model.specs.declared.client.Step.{Step}
use Rattle.ftp_client_model.specs.declared.client.Step.TheVariants as Steps

placed_alike : (op : Op (List ℕ)) (step : Step) (job : Job) (v : View) → (let w : View = record v { job = job } in placed op step w ≡ placed op step v)
placed_alike op Steps.Kind job v = refl
placed_alike op Steps.Structure job v = refl
placed_alike op Steps.Mode job v = refl
placed_alike op Steps.Listen job v = refl
placed_alike op Steps.Port job v = refl
placed_alike op Steps.Passive job v = refl
placed_alike op Steps.Connect job v = refl
placed_alike op Steps.Restart job v = refl
placed_alike op Steps.Source job v = refl
placed_alike op Steps.Last job v = refl

-- what was under way leaves nothing behind
pub begins_alike : (op : Op (List ℕ)) (job : Job) (v : View) → (let w : View = record v { job = job } in begins op w ≡ begins op v)
begins_alike op job v = placed_alike op (first_step v.settings op) job v

pub or_false : (b : Bool) → (b || false) ≡ b
or_false true = refl
or_false false = refl

-- an operation under way is answered with want of memory
pub under_way : {A F : Type 0} (flow : Op (List ℕ) → F → Flow) (op : Op (List ℕ)) (place : Task A F) → is_under_way place ≡ true
    → failed_job Memory (job_of flow op place) ≡ Told Memory
under_way flow op Places.Idle is = absurd (cc is)
under_way flow op Places.Waiting is = refl
under_way flow op (Places.Doing step) is = refl
under_way flow op (Places.Transferring transfer) is = refl
under_way flow op (Places.Told answer) is = absurd (cc is)

-- whatever was tried, an operation under way leaves the same to a client that is short of memory
pub short_tried : (v : View) (op : Op (List ℕ)) (run : Option Run) → failed_job Memory v.job ≡ Told Memory
    → (let w : View = record (dropped v) { job = Doing op Steps.Last; run = run } in shorted w ≡ shorted v)
short_tried v op run is =
    ap (λ b. let w : View = record (shorted v) { job = Told Memory; closing = b } in w) (or_false (v.closing || stands v.connection))
    ∙ ap (λ job. let w : View = record (shorted v) { job = job } in w) (sym is)

-- of an operation under way it is the same whose it is
pub short_job : (v : View) (job : Job) → failed_job Memory job ≡ Told Memory → failed_job Memory v.job ≡ Told Memory
    → (let w : View = record v { job = job } in shorted w ≡ shorted v)
short_job v job one other =
    ap (λ told. let w : View = record (shorted v) { job = told } in w) (one ∙ sym other)

failed_by : (b : Bool) (op : Op (List ℕ)) (run : Option Run) (v : View) (failure : Failure) (s : Standing) → s ≡ Stands.Failed failure
    → (let w : View = record v { run = run } in done_with (failure_said failure) v ≡ (if b then started_by s op w else unsendable_by s v))
failed_by true op run v failure s is = ap (λ s. let w : View = record v { run = run } in started_by s op w) (sym is)
failed_by false op run v failure s is = ap (λ s. unsendable_by s v) (sym is)

-- after a failure each operation is answered with it
pub failed_starts : (op : Op (List ℕ)) (v : View) (failure : Failure) → v.standing ≡ Stands.Failed failure → done_with (failure_said failure) v ≡ starts op v
unfolding starts
failed_starts op v failure is = failed_by (can_be_sent op) op None v failure v.standing is

pub failed_uploads : (u : OverBreaks) (v : View) (failure : Failure) → v.standing ≡ Stands.Failed failure → done_with (failure_said failure) v ≡ uploads u v
unfolding uploads
failed_uploads u v failure is = failed_by (can_be_sent (first_try u)) (first_try u) (Some (run_of u)) v failure v.standing is
