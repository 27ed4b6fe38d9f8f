-- Octets that the client gives over the link are less to be given, and less is owed.
use Rattle.std.proofs.Common.{◌≡◌, ℕ, ◌+◌, ◌<◌, ◌≤◌, ◌⊎◌, inl, inr, List, [], length, Bool, true, false, ◌&&◌, Option, Some, None, refl, ap, ◌∙◌, arith}
use Rattle.std.specs.Prelude.{if◌then◌else◌}
use Rattle.std.specs.Option.{option_map}
use Rattle.std.proofs.lemmas.Bool.{cond_both}
use Rattle.std.proofs.lemmas.List.{length-drop}
use Rattle.ftp_operation.specs.Answer.{Said}
use Rattle.ftp_operation.specs.declared.op.Op.{Op}
use Rattle.ftp_client_model.specs.Bounds.{abort_left, job_left, run_left, to_begin, transfer_left}
use Rattle.ftp_client_model.specs.Calls.{gives_data, given_of, goes_by, left_of, to_give, transfer_over, went}
use Rattle.ftp_client_model.specs.Dialogue.{answers_by, answers_job, aborts_once_enough, begins, carries_on, closes, closes_once_given, closes_once_given_by, finishes, finishes_by, finishes_read, has_begun, is_given, is_to_abort, judged, next_job, sends_abort}
use Rattle.ftp_client_model.specs.Plan.{count_of, first_step}
use Rattle.ftp_client_model.specs.Tries.{run_at}
use Rattle.ftp_client_model.specs.View.{View, Job, Transferring, Transfer, Flow, Sending, done_with, dropped, stands, strange}
use Rattle.ftp_client_model.specs.declared.client.Abort.{Abort}
use Rattle.ftp_client_model.specs.declared.client.Abort.TheVariants as Aborts
use Rattle.ftp_client_model.specs.declared.client.ClientLink.{ClientLink}
use Rattle.ftp_client_model.specs.declared.client.ClientLink.TheVariants as Data
use Rattle.ftp_client_model.specs.declared.client.Failure.TheVariants as Failures
use Rattle.ftp_client_model.specs.declared.client.Replied.{Replied}
use Rattle.ftp_client_model.specs.declared.client.Replied.TheVariants as Replies
use Rattle.ftp_client_model.proofs.ClientBounds.{abort_le, first_le, next_nearer, placed_begins}
use Rattle.ftp_client_model.proofs.ClientCalls.{is_to_abort_left}
use Rattle.laws_settling.proofs.NearLow.{is_transferring, near_fails, none_given, nothing_to_give, unless_transferring}
use Rattle.laws_settling.proofs.Order.{near_unqueued}

-- less is to begin, or no more is owed
abbrev pub Owes : View → View → Type 0
Owes old new = (to_begin new < to_begin old) ⊎ ((to_begin new ≤ to_begin old) × (near_unqueued new ≤ near_unqueued old))

-- nothing has changed
owes_same : (v : View) → Owes v v
owes_same v = inr (omega arith, omega arith)

-- two steps, one behind the other
owes_then : (a b c : View) → Owes a b → Owes b c → Owes a c
owes_then a b c (inl x) (inl y) = inl (omega (arith, x, y))
owes_then a b c (inl x) (inr y) = inl (omega (arith, x, y.0))
owes_then a b c (inr x) (inl y) = inl (omega (arith, x.0, y))
owes_then a b c (inr x) (inr y) = inr (omega (arith, x.0, y.0), omega (arith, x.1, y.1))

-- nothing stands any more, and no more control octets are owed
owes_control : (v new : View) → to_begin new ≤ to_begin v → length new.owed ≤ length v.owed → stands new.connection ≡ false → Owes v new
owes_control v new begins few is = let none : length (to_give new) ≡ 0 = ap length (nothing_to_give new is) in inr (begins, omega (arith, few, none))

-- a reply that fits nowhere
strange_owes : (v : View) → Owes v (strange v)
strange_owes v =
    let low = near_fails v.standing Failures.Strange v in
    elim low.gives [
      | inl less ↦ inl less
      | inr few ↦ inr (low.begins, few.1)
    ]

-- the next operation of a run leaves less to begin
begun_falls : (op : Op (List ℕ)) (answer : Said) (v : View) → next_job v.run v.job answer ≡ Some op
    → to_begin (begins op (record (dropped v) { run = option_map (run_at op) v.run })) < to_begin v
begun_falls op answer v is =
    let u : View = record (dropped v) { run = option_map (run_at op) v.run } in
    omega (arith, placed_begins op (first_step u.settings op) u, first_le u.settings op, abort_le (count_of op), next_nearer v.run v.job answer op is)

-- an operation ends, and the next of a run begins if there is one
finishes_by_owes : (next : Option (Op (List ℕ))) (answer : Said) (v : View) → next_job v.run v.job answer ≡ next → Owes v (finishes_by next answer v)
finishes_by_owes None answer v is = owes_control v (done_with answer (dropped v)) (omega arith) (omega arith) refl
finishes_by_owes (Some op) answer v is = inl (begun_falls op answer v is)

-- an operation ends
finishes_owes : (answer : Said) (v : View) → Owes v (finishes answer v)
finishes_owes answer v = finishes_by_owes (next_job v.run v.job answer) answer v refl

-- an operation ends with an answer that was read
read_owes : (answer : Option Said) (v : View) → Owes v (finishes_read answer v)
read_owes None v = strange_owes v
read_owes (Some answer) v = finishes_owes answer v

-- the answer of a transfer
answers_by_owes : (replied : Replied) (abort : Abort) (connection : ClientLink) (op : Op (List ℕ)) (flow : Flow) (v : View) → Owes v (answers_by replied abort connection op flow v)
answers_by_owes (Replies.Final code) Aborts.Unsent (Data.Over ending) op flow v = read_owes (judged ending Aborts.Unsent code op flow) v
answers_by_owes (Replies.Final code) Aborts.Answered (Data.Over ending) op flow v = read_owes (judged ending Aborts.Answered code op flow) v
answers_by_owes replied abort connection op flow v = owes_same v

-- the same, of whatever goes on
answers_job_owes : (job : Job) (v : View) → Owes v (answers_job job v)
answers_job_owes (Transferring op transfer) v = answers_by_owes transfer.replied transfer.abort v.connection op transfer.flow v
answers_job_owes job v = owes_same v

-- a close, once all is given
closes_by_owes : (given : Bool) (connection : ClientLink) (v : View) → Owes v (closes_once_given_by given connection v)
closes_by_owes true Data.Open v = owes_control v (closes v) (omega arith) (omega arith) refl
closes_by_owes given connection v = owes_same v

-- the same, of whatever goes on
closes_once_owes : (job : Job) (v : View) → Owes v (closes_once_given job v)
closes_once_owes (Transferring op transfer) v = closes_by_owes (has_begun transfer.replied && is_given transfer.flow) v.connection v
closes_once_owes job v = owes_same v

-- ABOR leaves less to begin
abort_falls : (op : Op (List ℕ)) (transfer : Transfer) (v : View) → v.job ≡ Transferring op transfer → abort_left transfer.abort (count_of op) ≡ 1 → to_begin (sends_abort op transfer v) < to_begin v
abort_falls op transfer v is one =
    let here : job_left v.run v.job ≡ transfer_left op transfer.replied transfer.abort + run_left v.run op = ap (job_left v.run) is in
    omega (arith, here, one)

-- ABOR, once a Peek has enough
aborts_owes : (job : Job) (v : View) → v.job ≡ job → Owes v (aborts_once_enough job v)
aborts_owes (Transferring op transfer) v is =
    cond_both (is_to_abort v.connection op transfer) (sends_abort op transfer v) v (Owes v)
    (λ to. inl (abort_falls op transfer v is (is_to_abort_left v.connection op transfer to))) (λ not. owes_same v)
aborts_owes job v is = owes_same v

-- all three, which follow each event of a transfer
carries_on_owes : (v : View) → Owes v (carries_on v)
carries_on_owes v =
    let closed = closes_once_given v.job v in
    let aborted = aborts_once_enough closed.job closed in
    owes_then v closed (carries_on v) (closes_once_owes v.job v)
    (owes_then closed aborted (carries_on v) (aborts_owes closed.job closed refl) (answers_job_owes aborted.job aborted))

-- ---- octets go out

-- octets that went out are less to give, once the transfer has begun
if_went : (begun : Bool) (count : ℕ) (flow : Flow) → count ≤ length (if begun then left_of flow else []) → length (if begun then left_of (went count flow) else []) + count ≤ length (if begun then left_of flow else [])
if_went true count (Sending left mark) few = omega (arith, length-drop count left, few)
if_went begun count flow few = omega (arith, few)

-- the same, by how the link stands
over_went : (connection : ClientLink) (op : Op (List ℕ)) (transfer : Transfer) (count : ℕ) → count ≤ length (given_of (transfer_over connection (Transferring op transfer)))
    → length (given_of (transfer_over connection (Transferring op (record transfer { flow = went count transfer.flow })))) + count ≤ length (given_of (transfer_over connection (Transferring op transfer)))
over_went Data.Open op transfer count few = if_went (has_begun transfer.replied) count transfer.flow few
over_went connection op transfer count few = omega (arith, few)

-- the same, unless a close is wanted
way_went : (closing : Bool) (connection : ClientLink) (op : Op (List ℕ)) (transfer : Transfer) (count : ℕ)
    → count ≤ length (given_of (if closing then None else transfer_over connection (Transferring op transfer)))
    → length (given_of (if closing then None else transfer_over connection (Transferring op (record transfer { flow = went count transfer.flow })))) + count
    ≤ length (given_of (if closing then None else transfer_over connection (Transferring op transfer)))
way_went true connection op transfer count few = omega (arith, few)
way_went false connection op transfer count few = over_went connection op transfer count few

-- less is to begin, or so much less is owed
abbrev pub OwesLess : ℕ → View → View → Type 0
OwesLess count old new = (to_begin new < to_begin old) ⊎ (near_unqueued new + count ≤ near_unqueued old)

-- a job without a transfer gives none
none_owes : (count : ℕ) (job : Job) (v : View) → v.job ≡ job → is_transferring job ≡ false → count ≤ length (to_give v) → OwesLess count v v
none_owes count job v is never few =
    let over : transfer_over v.connection v.job ≡ None = ap (transfer_over v.connection) is ∙ unless_transferring v.connection job never in
    let none : length (to_give v) ≡ 0 = ap length (none_given v.closing (transfer_over v.connection v.job) over) in
    inr (omega (arith, few, none))

-- octets of a transfer went out
goes_owes : (count : ℕ) (job : Job) (v : View) → v.job ≡ job → count ≤ length (to_give v) → OwesLess count v (goes_by count job v)
goes_owes count (Transferring op transfer) v is few =
    let w : View = record v { job = Transferring op (record transfer { flow = went count transfer.flow }) } in
    let here : job_left v.run v.job ≡ transfer_left op transfer.replied transfer.abort + run_left v.run op = ap (job_left v.run) is in
    let given : length (to_give v) ≡ length (given_of (if v.closing then None else transfer_over v.connection (Transferring op transfer))) =
    ap (λ job. length (given_of (if v.closing then None else transfer_over v.connection job))) is in
    let less = way_went v.closing v.connection op transfer count (omega (arith, few, given)) in
    elim (carries_on_owes w) [
      | inl falls ↦ inl (omega (arith, falls, here))
      | inr owes ↦ inr (omega (arith, owes.1, less, given))
    ]
goes_owes count job v is few = none_owes count job v is refl few

-- the same, as a call
pub data_owes : (count : ℕ) (v : View) → count ≤ length (to_give v) → OwesLess count v (gives_data count v)
unfolding gives_data
data_owes count v few = goes_owes count v.job v refl few
