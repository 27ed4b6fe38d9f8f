-- A transfer is answered, said of views alone: at the held client each step is dear to compare.
use Rattle.std.proofs.Common.{◌≡◌, ◌∙◌, ℕ, List, Option, sym, ap}
use Rattle.std.specs.Prelude.{IsTrue}
use Rattle.ftp_operation.specs.Answer.{Said}
use Rattle.ftp_operation.specs.declared.op.Op.{Op}
use Rattle.ftp_client_model.specs.Calls.{is_sound}
use Rattle.ftp_client_model.specs.Dialogue.{finishes_read, judged}
use Rattle.ftp_client_model.specs.View.{View, Job, Doing, Transferring, Transfer}
use Rattle.ftp_client_model.specs.declared.client.Ending.{Ending}
use Rattle.ftp_client_model.specs.declared.client.Step.TheVariants as Steps
use Rattle.ftp_client_session.specs.Client.{in_transfer}
use Rattle.ftp_client_session.specs.Judged.{job_judged}
use Rattle.ftp_client_session.proofs.CarryLemmas.{read_alike}

pub answer_follows : (new u v : View) (op : Op (List ℕ)) (transfer : Transfer) (ending : Ending) (code : ℕ) (job : Job) (read : Option Said)
    → v.job ≡ Transferring op transfer → IsTrue (is_sound v.standing)
    → (let w : View = record v { job = Doing op Steps.Last } in u ≡ w)
    → job ≡ v.job → read ≡ job_judged ending code job → new ≡ finishes_read read u
    → new ≡ in_transfer (λ op transfer w. finishes_read (judged ending transfer.abort code op transfer.flow) w) v
answer_follows new u v op transfer ending code job read is sound places was reads now =
    let said = judged ending transfer.abort code op transfer.flow in
    now
    ∙ ap (λ r. finishes_read r u) (reads ∙ ap (job_judged ending code) (was ∙ is))
    ∙ ap (finishes_read said) places
    ∙ read_alike said op transfer v sound
    ∙ ap (λ job. let w : View = record v { job = job } in in_transfer (λ op transfer w. finishes_read (judged ending transfer.abort code op transfer.flow) w) w) (sym is)
