-- A port, a failure, the end of the control connection and a report that is taken make no more to do for the client, and no more is owed.
use Rattle.std.proofs.Common.{◌≡◌, ℕ, ◌+◌, ◌<◌, ◌≤◌, ◌⊎◌, inl, inr, List, [], length, Bool, true, false, Option, Some, None, refl, sym, ap, subst, arith}
use Rattle.std.specs.Prelude.{if◌then◌else◌}
use Rattle.ftp_command.specs.declared.command.Command.{Command}
use Rattle.ftp_operation.specs.declared.op.Op.{Op}
use Rattle.ftp_client_model.specs.Bounds.{abort_left, login_left, steps_left, job_left, run_left, to_begin, still_to_give}
use Rattle.ftp_client_model.specs.Calls.{control_end, given_of, listening, listening_by, reports, reported_by, to_give, transfer_over}
use Rattle.ftp_client_model.specs.Dialogue.{goes_on, last_job, placed, sends_if}
use Rattle.ftp_client_model.specs.Octets.{flow_of}
use Rattle.ftp_client_model.specs.Plan.{command_of, count_of, next_step}
use Rattle.ftp_client_model.specs.View.{View, Job, Idle, Doing, Transferring, Told, Transfer, stands, fails_by}
use Rattle.ftp_client_model.specs.declared.client.Abort.TheVariants as Aborts
use Rattle.ftp_client_model.specs.declared.client.ClientLink.{ClientLink}
use Rattle.ftp_client_model.specs.declared.client.ClientLink.TheVariants as Data
use Rattle.ftp_client_model.specs.declared.client.Failure.{Failure}
use Rattle.ftp_client_model.specs.declared.client.Failure.TheVariants as Failures
use Rattle.ftp_client_model.specs.declared.client.Standing.{Standing}
use Rattle.ftp_client_model.specs.declared.client.Standing.TheVariants as Stands
use Rattle.ftp_client_model.specs.declared.client.Step.{Step}
use Rattle.ftp_client_model.specs.declared.client.Step.TheVariants as Steps
use Rattle.ftp_client_model.proofs.ClientBounds.{fails_low, goes_step, next_less, placed_begins}
use Rattle.laws_settling.proofs.Order.{NearLow, near_same, near_unqueued}

-- ---- nothing is to be given where nothing stands

-- where no link stands, nothing goes over one
pub over_none : (connection : ClientLink) (job : Job) → stands connection ≡ false → transfer_over connection job ≡ None
over_none Data.Open job is = absurd (cc)
over_none connection job is = refl

-- a transfer goes on
abbrev pub is_transferring : Job → Bool
is_transferring (Transferring op transfer) = true
is_transferring job = false

-- where none does, nothing goes over the link
pub unless_transferring : (connection : ClientLink) (job : Job) → is_transferring job ≡ false → transfer_over connection job ≡ None
unless_transferring Data.Open (Transferring op transfer) is = absurd (cc)
unless_transferring connection job is = refl

-- no transfer, no octets
pub none_given : (closing : Bool) (transfer : Option Transfer) → transfer ≡ None → given_of (if closing then None else transfer) ≡ []
none_given true transfer is = refl
none_given false transfer is = ap given_of is

-- so a client whose link does not stand has nothing to give
pub nothing_to_give : (v : View) → stands v.connection ≡ false → to_give v ≡ []
nothing_to_give v is = none_given v.closing (transfer_over v.connection v.job) (over_none v.connection v.job is)

-- ---- a step that goes on

-- less is to begin behind a step that goes on
pub goes_on_falls : (op : Op (List ℕ)) (step : Step) (old v : View) → goes_step step ≡ true → old.job ≡ Doing op step → v.standing ≡ old.standing → v.run ≡ old.run
    → to_begin (goes_on op step v) < to_begin old
goes_on_falls op step old v goes is stands runs =
    let less = next_less v.settings op step goes in
    let here : job_left old.run old.job ≡ steps_left step + (abort_left Aborts.Unsent (count_of op) + run_left old.run op) = ap (job_left old.run) is in
    let login : login_left v.standing ≡ login_left old.standing = ap login_left stands in
    let same_run : run_left v.run op ≡ run_left old.run op = ap (λ run. run_left run op) runs in
    omega (arith, placed_begins op (next_step v.settings op step) v, less, here, login, same_run)

-- a command leaves the close
sends_if_closing : (command : Option (Command (List ℕ))) (v : View) → (sends_if command v).closing ≡ v.closing
sends_if_closing None v = refl
sends_if_closing (Some command) v = refl

-- so does a step that begins
pub placed_closing : (op : Op (List ℕ)) (step : Step) (v : View) → (placed op step v).closing ≡ v.closing
placed_closing op Steps.Kind v = sends_if_closing (command_of v op Steps.Kind) (record v { job = Doing op Steps.Kind })
placed_closing op Steps.Structure v = sends_if_closing (command_of v op Steps.Structure) (record v { job = Doing op Steps.Structure })
placed_closing op Steps.Mode v = sends_if_closing (command_of v op Steps.Mode) (record v { job = Doing op Steps.Mode })
placed_closing op Steps.Listen v = refl
placed_closing op Steps.Port v = sends_if_closing (command_of v op Steps.Port) (record v { job = Doing op Steps.Port })
placed_closing op Steps.Passive v = sends_if_closing (command_of v op Steps.Passive) (record v { job = Doing op Steps.Passive })
placed_closing op Steps.Connect v = sends_if_closing (command_of v op Steps.Connect) (record v { job = Doing op Steps.Connect })
placed_closing op Steps.Restart v = sends_if_closing (command_of v op Steps.Restart) (record v { job = Doing op Steps.Restart })
placed_closing op Steps.Source v = sends_if_closing (command_of v op Steps.Source) (record v { job = Doing op Steps.Source })
placed_closing op Steps.Last v = sends_if_closing (command_of v op Steps.Last) (record v { job = last_job op (flow_of op) })

-- ---- a port is told

-- less is to begin and the close is as it was, or nothing has changed
pub record FallsOpen (old new : View) : Type 0 where
  pub less : to_begin new < to_begin old
  pub closing : new.closing ≡ old.closing

-- a port told to a step: the step goes on, or nothing changes
step_listens : (op : Op (List ℕ)) (step : Step) (port : ℕ) (v : View) → v.job ≡ Doing op step
    → FallsOpen v (listening_by Data.ListenWanted (Doing op step) port v) ⊎ (listening_by Data.ListenWanted (Doing op step) port v ≡ v)
step_listens op Steps.Listen port v is =
    let u : View = record v { connection = Data.Listening port } in
    inl (record { less = goes_on_falls op Steps.Listen v u refl is refl refl; closing = placed_closing op (next_step u.settings op Steps.Listen) u })
step_listens op step port v is = inr refl

-- the same, of whatever goes on
job_listens : (job : Job) (port : ℕ) (v : View) → v.job ≡ job → FallsOpen v (listening_by Data.ListenWanted job port v) ⊎ (listening_by Data.ListenWanted job port v ≡ v)
job_listens (Doing op step) port v is = step_listens op step port v is
job_listens job port v is = inr refl

-- the same, of whatever stands
by_listens : (connection : ClientLink) (port : ℕ) (v : View) → FallsOpen v (listening_by connection v.job port v) ⊎ (listening_by connection v.job port v ≡ v)
by_listens Data.ListenWanted port v = job_listens v.job port v refl
by_listens connection port v = inr refl

-- a port is told
pub near_listening : (port : ℕ) (v : View) → v.closing ≡ false → FallsOpen v (listening port v) ⊎ (listening port v ≡ v)
unfolding listening
near_listening port v apart =
    let P : Bool → Type 0 = λ b. FallsOpen v (if b then v else listening_by v.connection v.job port v) ⊎ ((if b then v else listening_by v.connection v.job port v) ≡ v) in
    subst P (sym apart) (by_listens v.connection port v)

-- ---- the client fails

-- nor is anything owed
fails_unqueued : (v new : View) → new.owed ≡ [] → stands new.connection ≡ false → near_unqueued new ≤ near_unqueued v
fails_unqueued v new none is =
    let a : length new.owed ≡ 0 = ap length none in
    let b : length (to_give new) ≡ 0 = ap length (nothing_to_give new is) in
    omega (arith, a, b)

-- a law of the client's machine, and what is owed
low_too : (v new : View) → (to_begin new ≤ to_begin v) → (to_begin new < to_begin v) ⊎ (still_to_give new ≤ still_to_give v + 0) → near_unqueued new ≤ near_unqueued v → NearLow v new
low_too v new begins (inl less) few = record { begins = begins; gives = inl less }
low_too v new begins (inr gives) few = record { begins = begins; gives = inr (omega (arith, gives), few) }

-- a failure makes no more to do
pub near_fails : (standing : Standing) (failure : Failure) (v : View) → NearLow v (fails_by standing failure v)
near_fails (Stands.Failed before) failure v = near_same v
near_fails standing failure v = let low = fails_low standing failure v in low_too v _ low.begins low.gives (fails_unqueued v (fails_by standing failure v) refl refl)

-- so does the end of the control connection
pub near_ends : (v : View) → NearLow v (control_end v)
unfolding control_end
near_ends v = near_fails v.standing Failures.Lost v

-- ---- the report

-- a report that is taken
reported : (job : Job) (v : View) → v.job ≡ job → NearLow v (reported_by job v)
reported (Told answer) v is =
    let left : job_left v.run v.job ≡ 0 = ap (job_left v.run) is in
    let none : length (to_give (record v { job = Idle })) ≡ 0 = ap length (none_given v.closing (transfer_over v.connection Idle) (unless_transferring v.connection Idle refl)) in
    record { begins = omega (arith, left); gives = inr (omega arith, omega (arith, none)) }
reported job v is = near_same v

-- the same, as a call
pub near_reports : (v : View) → NearLow v (reports v)
near_reports v = reported v.job v refl
