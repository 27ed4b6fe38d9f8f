-- Octets of the data connection that are given.
use Rattle.std.proofs.Common.{◌≡◌, ℕ, refl, ap}
use Rattle.ftp_client_model.specs.Calls.{gives_data, goes_by}
use Rattle.ftp_client_model.specs.Dialogue.{carries_on}
use Rattle.ftp_client_model.specs.View.{View, Job, Idle, Waiting, Doing, Transferring, Told, failed_job}
use Rattle.ftp_operation.specs.Answer.{Memory}
use Rattle.ftp_client_session.specs.Client.{job_went, shorted}

goes_on_by : (count : ℕ) (job : Job) (v : View) → (let w : View = record v { job = job_went count job } in let u : View = record v { job = job } in carries_on w ≡ goes_by count job u)
goes_on_by count Idle v = refl
goes_on_by count (Waiting op) v = refl
goes_on_by count (Doing op step) v = refl
goes_on_by count (Transferring op transfer) v = refl
goes_on_by count (Told answer) v = refl

pub goes_on : (count : ℕ) (v : View) → (let w : View = record v { job = job_went count v.job } in carries_on w ≡ gives_data count v)
unfolding gives_data
goes_on count v = goes_on_by count v.job v

short_went : (count : ℕ) (job : Job) → failed_job Memory (job_went count job) ≡ failed_job Memory job
short_went count Idle = refl
short_went count (Waiting op) = refl
short_went count (Doing op step) = refl
short_went count (Transferring op transfer) = refl
short_went count (Told answer) = refl

pub goes_short : (count : ℕ) (v : View) → (let w : View = record v { job = job_went count v.job } in shorted w ≡ shorted v)
goes_short count v = ap (λ job. let w : View = record (shorted v) { job = job } in w) (short_went count v.job)
