-- What follows of where a transfer stands changes nothing for a client that is short of memory.
use Rattle.std.proofs.Common.{◌≡◌, ◌∙◌, ◌||◌, ◌&&◌, ℕ, Bool, true, false, List, Option, Some, None, refl, sym, ap}
use Rattle.std.specs.Prelude.{IsTrue, if◌then◌else◌}
use Rattle.std.specs.Option.{option_map}
use Rattle.ftp_operation.specs.Answer.{Said}
use Rattle.ftp_operation.specs.declared.op.Op.{Op}
use Rattle.ftp_client_model.specs.Calls.{is_sound}
use Rattle.ftp_client_model.specs.Dialogue.{aborts_once_enough, closes_once_given, closes_once_given_by, finishes_by, finishes_read, has_begun, is_given, is_to_abort, next_with, sends_abort}
use Rattle.ftp_client_model.specs.Tries.{run_at}
use Rattle.ftp_client_model.specs.View.{View, Job, Idle, Waiting, Doing, Transferring, Told, Transfer, dropped, fails_by, stands}
use Rattle.ftp_client_model.specs.declared.client.ClientLink.{ClientLink}
use Rattle.ftp_client_model.specs.declared.client.ClientLink.TheVariants as Data
use Rattle.ftp_client_model.specs.declared.client.Failure.TheVariants as Failures
use Rattle.ftp_client_model.specs.declared.client.Standing.{Standing}
use Rattle.ftp_client_model.specs.declared.client.Standing.TheVariants as Stands
use Rattle.ftp_client_model.specs.declared.client.Step.TheVariants as Steps
use Rattle.ftp_client_session.specs.Client.{shorted}
use Rattle.ftp_client_session.proofs.RunLemmas.{begins_alike, or_false}

-- what is the same of both is the same of either
pub if_same : {X : Type 0} (f : View → X) (b : Bool) (v w : View) (x : X) → f v ≡ x → f w ≡ x → f (if b then v else w) ≡ x
if_same f true v w x one other = one
if_same f false v w x one other = other

-- ---- the close of an upload

closes_short_by : (b : Bool) (c : ClientLink) (v : View) → v.connection ≡ c → shorted (closes_once_given_by b c v) ≡ shorted v
closes_short_by false c v is = refl
closes_short_by true Data.Open v is = ap (λ b. let w : View = record (shorted v) { closing = b } in w) (or_false (v.closing || stands v.connection))
closes_short_by true Data.Free v is = refl
closes_short_by true Data.ListenWanted v is = refl
closes_short_by true (Data.Listening port) v is = refl
closes_short_by true (Data.Connecting endpoint) v is = refl
closes_short_by true (Data.Accepting port) v is = refl
closes_short_by true (Data.Over ending) v is = refl

pub closes_short : (job : Job) (v : View) → shorted (closes_once_given job v) ≡ shorted v
closes_short Idle v = refl
closes_short (Waiting op) v = refl
closes_short (Doing op step) v = refl
closes_short (Transferring op transfer) v = closes_short_by (has_begun transfer.replied && is_given transfer.flow) v.connection v refl
closes_short (Told answer) v = refl

closes_stands_by : (b : Bool) (c : ClientLink) (v : View) → (closes_once_given_by b c v).standing ≡ v.standing
closes_stands_by false c v = refl
closes_stands_by true Data.Open v = refl
closes_stands_by true Data.Free v = refl
closes_stands_by true Data.ListenWanted v = refl
closes_stands_by true (Data.Listening port) v = refl
closes_stands_by true (Data.Connecting endpoint) v = refl
closes_stands_by true (Data.Accepting port) v = refl
closes_stands_by true (Data.Over ending) v = refl

pub closes_stands : (job : Job) (v : View) → (closes_once_given job v).standing ≡ v.standing
closes_stands Idle v = refl
closes_stands (Waiting op) v = refl
closes_stands (Doing op step) v = refl
closes_stands (Transferring op transfer) v = closes_stands_by (has_begun transfer.replied && is_given transfer.flow) v.connection v
closes_stands (Told answer) v = refl

-- ---- the ABOR of a Peek

aborts_short_by : (job : Job) (v : View) → (let w : View = record v { job = job } in shorted (aborts_once_enough job w) ≡ shorted w)
aborts_short_by Idle v = refl
aborts_short_by (Waiting op) v = refl
aborts_short_by (Doing op step) v = refl
aborts_short_by (Transferring op transfer) v =
    let w : View = record v { job = Transferring op transfer } in
    if_same shorted (is_to_abort v.connection op transfer) (sends_abort op transfer w) w (shorted w) refl refl
aborts_short_by (Told answer) v = refl

pub aborts_short : (v : View) → shorted (aborts_once_enough v.job v) ≡ shorted v
aborts_short v = aborts_short_by v.job v

pub aborts_stands : (job : Job) (v : View) → (aborts_once_enough job v).standing ≡ v.standing
aborts_stands Idle v = refl
aborts_stands (Waiting op) v = refl
aborts_stands (Doing op step) v = refl
aborts_stands (Transferring op transfer) v =
    if_same (λ w. w.standing) (is_to_abort v.connection op transfer) (sends_abort op transfer v) v v.standing refl refl
aborts_stands (Told answer) v = refl

-- ---- the answer

finishes_alike : (next : Option (Op (List ℕ))) (answer : Said) (job : Job) (v : View)
    → (let w : View = record v { job = job } in finishes_by next answer w ≡ finishes_by next answer v)
finishes_alike None answer job v = refl
finishes_alike (Some op) answer job v = begins_alike op job (record (dropped v) { run = option_map (run_at op) v.run })

strange_alike : (s : Standing) → IsTrue (is_sound s) → (op : Op (List ℕ)) (transfer : Transfer) (v : View)
    → (let u : View = record v { job = Doing op Steps.Last } in let w : View = record v { job = Transferring op transfer } in
    fails_by s Failures.Strange u ≡ fails_by s Failures.Strange w)
strange_alike Stands.Greeting sound op transfer v = refl
strange_alike Stands.User sound op transfer v = refl
strange_alike Stands.Pass sound op transfer v = refl
strange_alike Stands.Entered sound op transfer v = refl
strange_alike (Stands.Failed failure) sound op transfer v = absurd (cc sound)

-- a transfer is answered as the last step of its operation would be
pub read_alike : (answer : Option Said) (op : Op (List ℕ)) (transfer : Transfer) (v : View) → IsTrue (is_sound v.standing)
    → (let u : View = record v { job = Doing op Steps.Last } in let w : View = record v { job = Transferring op transfer } in
    finishes_read answer u ≡ finishes_read answer w)
read_alike None op transfer v sound = strange_alike v.standing sound op transfer v
read_alike (Some answer) op transfer v sound =
    finishes_alike (next_with v.run op answer) answer (Doing op Steps.Last) v
    ∙ sym (finishes_alike (next_with v.run op answer) answer (Transferring op transfer) v)
