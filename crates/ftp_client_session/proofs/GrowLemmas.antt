-- When what follows of where a transfer stands takes memory, said of views alone.
use Rattle.std.proofs.Common.{◌≡◌, ◌∙◌, ◌||◌, ℕ, Bool, true, false, List, Option, refl, sym, ap, subst}
use Rattle.std.specs.Prelude.{IsTrue, if◌then◌else◌}
use Rattle.ftp_operation.specs.Answer.{Said}
use Rattle.ftp_operation.specs.declared.op.Op.{Op}
use Rattle.ftp_client_model.specs.Calls.{is_down}
use Rattle.ftp_client_model.specs.Dialogue.{aborts_once_enough, closes_once_given, is_to_abort, judged, sends_abort}
use Rattle.ftp_client_model.specs.Growing.{answering_grows, carrying_grows, is_followed, job_to_abort, judging_grows}
use Rattle.ftp_client_model.specs.Tries.{Run}
use Rattle.ftp_client_model.specs.View.{View, Job, Idle, Waiting, Doing, Transferring, Told, Transfer}
use Rattle.ftp_client_model.specs.declared.client.Ending.{Ending}
use Rattle.ftp_client_session.specs.Client.{to_abort}
use Rattle.ftp_client_session.specs.Judged.{job_is_down, job_judged}

or_left : (a b : Bool) → IsTrue a → IsTrue (a || b)
or_left true b is = refl
or_left false b is = absurd (cc is)

or_right : (a b : Bool) → IsTrue b → IsTrue (a || b)
or_right true b is = refl
or_right false b is = is

-- ---- the answer

-- that of a download
pub down_grows : (ending : Ending) (code : ℕ) (run : Option Run) (job : Job) → IsTrue (job_is_down job) → IsTrue (judging_grows ending code run job)
down_grows ending code run Idle down = absurd (cc down)
down_grows ending code run (Waiting op) down = absurd (cc down)
down_grows ending code run (Doing op step) down = absurd (cc down)
down_grows ending code run (Transferring op transfer) down = or_left (is_down transfer.flow) (is_followed run op (judged ending transfer.abort code op transfer.flow)) down
down_grows ending code run (Told answer) down = absurd (cc down)

-- one that is followed
pub followed_grows : (ending : Ending) (code : ℕ) (run : Option Run) (op : Op (List ℕ)) (transfer : Transfer) (job : Job) (read : Option Said)
    → job ≡ Transferring op transfer → read ≡ job_judged ending code job → IsTrue (is_followed run op read) → IsTrue (judging_grows ending code run job)
followed_grows ending code run op transfer job read is reads followed =
    let said = judged ending transfer.abort code op transfer.flow in
    subst (λ job. IsTrue (judging_grows ending code run job)) (sym is)
    (or_right (is_down transfer.flow) (is_followed run op said)
    (subst (λ read. IsTrue (is_followed run op read)) (reads ∙ ap (job_judged ending code) is) followed))

-- ---- what follows of where a transfer stands

-- an ABOR, behind an upload's close
pub abort_grows : (v closed : View) → closed ≡ closes_once_given v.job v → IsTrue (to_abort closed) → IsTrue (carrying_grows v)
abort_grows v closed is aborts =
    let u = closes_once_given v.job v in
    or_left (job_to_abort u.connection u.job) (answering_grows u.job u) (subst (λ (w : View). IsTrue (to_abort w)) is aborts)

sent_or_not : (sent : Bool) (x u : View) → IsTrue (answering_grows (if sent then x else u).job (if sent then x else u)) → IsTrue (sent || answering_grows u.job u)
sent_or_not true x u grows = refl
sent_or_not false x u grows = grows

unaborted : (job : Job) (u : View) → IsTrue (answering_grows (aborts_once_enough job u).job (aborts_once_enough job u))
    → IsTrue (job_to_abort u.connection job || answering_grows u.job u)
unaborted Idle u grows = grows
unaborted (Waiting op) u grows = grows
unaborted (Doing op step) u grows = grows
unaborted (Transferring op transfer) u grows = sent_or_not (is_to_abort u.connection op transfer) (sends_abort op transfer u) u grows
unaborted (Told answer) u grows = grows

-- or the answer, behind both
pub answer_grows : (v closed aborted : View) → closed ≡ closes_once_given v.job v → aborted ≡ aborts_once_enough closed.job closed
    → IsTrue (answering_grows aborted.job aborted) → IsTrue (carrying_grows v)
answer_grows v closed aborted is goes grows =
    subst (λ (u : View). IsTrue (job_to_abort u.connection u.job || answering_grows u.job u)) is
    (unaborted closed.job closed (subst (λ (u : View). IsTrue (answering_grows u.job u)) goes grows))
