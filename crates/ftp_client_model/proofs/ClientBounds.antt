-- No call of the client that begins nothing makes more to do for it.
use Rattle.std.proofs.Common.{◌≡◌, ℕ, zero, suc, ◌+◌, ◌<◌, ◌≤◌, ◌⊎◌, inl, inr, List, length, Bool, true, false, Option, Some, None, refl, sym, ap, subst, ◌∙◌, arith}
use Rattle.std.specs.Prelude.{if◌then◌else◌, ◌==◌, nat_le}
use Rattle.std.specs.Option.{option_map}
use Rattle.ftp_nvt.proofs.CutLemmas.{decided}
use Rattle.ftp_command.specs.declared.command.Command.{Command}
use Rattle.ftp_operation.specs.Answer.{Said, Done, Path, Octets, Number, Stamp, Entry, Entries, Names, Refused, BadOperation, Broken, Unopened, Foreign, Lost, Strange, Memory}
use Rattle.ftp_operation.specs.declared.op.How.{How}
use Rattle.ftp_operation.specs.declared.op.Op.{Op}
use Rattle.ftp_operation.specs.declared.op.Op.TheVariants as Ops
use Rattle.ftp_settings.specs.Representation.{same_kind, same_structure, same_mode}
use Rattle.ftp_ends.proofs.Counts.{one_close}
use Rattle.ftp_client_model.specs.Bounds.{abort_left, login_left, steps_left, operation_left, operations_behind, run_left, job_left, to_begin, upload_left, still_to_give, AddsAtMost}
use Rattle.ftp_client_model.specs.Dialogue.{sends_if, last_job, placed, begins, goes_on, next_with, next_job, finishes_by, finishes, finishes_read}
use Rattle.ftp_client_model.specs.Octets.{flow_of}
use Rattle.ftp_client_model.specs.Plan.{count_of, asked_settings, how_of, offset_of, step_behind_opening as opened_step, alone_step, opening_of, from_mode, from_structure, from_kind, step_by, first_step, next_step, command_of}
use Rattle.ftp_client_model.specs.Tries.{OverBreaks, Run, rest_put, whole_put, is_size, after_size, after_try, next_of, next_in, run_at}
use Rattle.ftp_client_model.specs.View.{View, Job, Idle, Waiting, Doing, Transferring, Told, Flow, stands, dropped, done_with, failed_job, failure_said, fails_by, strange}
use Rattle.ftp_client_model.specs.declared.client.Abort.TheVariants as Aborts
use Rattle.ftp_client_model.specs.declared.client.Failure.{Failure}
use Rattle.ftp_client_model.specs.declared.client.Failure.TheVariants as Failures
use Rattle.ftp_client_model.specs.declared.client.Standing.{Standing}
use Rattle.ftp_client_model.specs.declared.client.Standing.TheVariants as Stands
use Rattle.ftp_client_model.specs.declared.client.Step.{Step}
use Rattle.ftp_client_model.specs.declared.client.Step.TheVariants as Steps
use Rattle.ftp_settings.specs.declared.representation.Representation.{Representation}

none_is : {A : Type 0} {a : A} → None ≡ Some a → ⊥
none_is is = absurd (cc)

some_is : {A : Type 0} {a b : A} → Some a ≡ Some b → a ≡ b
some_is is = cc

pub positive : (n : ℕ) → (n == 0) ≡ false → 0 < n
positive zero is = absurd (cc)
positive (suc n) is = omega arith

-- ---- changes one after another

abbrev pub Low : View → View → Type 0
Low old new = AddsAtMost 0 old new

pub same : (v : View) → Low v v
same v = record { begins = omega arith; gives = inr (omega arith) }

-- less is to begin
pub falls : (most : ℕ) (old new : View) → to_begin new < to_begin old → AddsAtMost most old new
falls most old new less = record { begins = omega (arith, less); gives = inl less }

pub both : (most : ℕ) (u v w : View) → AddsAtMost most u v → Low v w → AddsAtMost most u w
both most u v w one other =
    record { begins = omega (arith, one.begins, other.begins); gives = by_first one.gives other.gives }
  where
    by_first : (to_begin v < to_begin u) ⊎ (still_to_give v ≤ still_to_give u + most) → (to_begin w < to_begin v) ⊎ (still_to_give w ≤ still_to_give v + 0)
        → (to_begin w < to_begin u) ⊎ (still_to_give w ≤ still_to_give u + most)
    by_first (inl less) rest = inl (omega (arith, less, other.begins))
    by_first (inr few) (inl less) = inl (omega (arith, less, one.begins))
    by_first (inr few) (inr fewer) = inr (omega (arith, few, fewer))

pub if_low : (b : Bool) (u v w : View) → Low u v → Low u w → Low u (if b then v else w)
if_low true u v w one other = one
if_low false u v w one other = other

-- ---- the end of an operation

pub tells_low : (answer : Said) (v : View) → Low v (done_with answer (dropped v))
tells_low answer v = record { begins = omega arith; gives = inr (omega (arith, one_close v.closing (stands v.connection))) }

failed_job_left : (answer : Said) (job : Job) → job_left None (failed_job answer job) ≡ 0
failed_job_left answer Idle = refl
failed_job_left answer (Waiting op) = refl
failed_job_left answer (Doing op step) = refl
failed_job_left answer (Transferring op transfer) = refl
failed_job_left answer (Told other) = refl

failed_upload_left : (answer : Said) (job : Job) → upload_left (failed_job answer job) ≡ 0
failed_upload_left answer Idle = refl
failed_upload_left answer (Waiting op) = refl
failed_upload_left answer (Doing op step) = refl
failed_upload_left answer (Transferring op transfer) = refl
failed_upload_left answer (Told other) = refl

failure_low : (failure : Failure) (v : View) → Low v (fails_by Stands.Greeting failure v)
failure_low failure v =
    let none = failed_job_left (failure_said failure) v.job in
    let nothing = failed_upload_left (failure_said failure) v.job in
    record { begins = omega (arith, none); gives = inr (omega (arith, nothing, one_close v.closing (stands v.connection))) }

pub fails_low : (standing : Standing) (failure : Failure) (v : View) → Low v (fails_by standing failure v)
fails_low Stands.Greeting failure v = failure_low failure v
fails_low Stands.User failure v = failure_low failure v
fails_low Stands.Pass failure v = failure_low failure v
fails_low Stands.Entered failure v = failure_low failure v
fails_low (Stands.Failed before) failure v = same v

pub strange_low : (v : View) → Low v (strange v)
strange_low v = fails_low v.standing Failures.Strange v

-- ---- the next step is nearer to the end

sends_if_begins : (command : Option (Command (List ℕ))) (v : View) → to_begin (sends_if command v) ≡ to_begin v
sends_if_begins None v = refl
sends_if_begins (Some command) v = refl

last_job_left : (run : Option Run) (op : Op (List ℕ)) (flow : Option Flow) → job_left run (last_job op flow) ≤ 1 + (abort_left Aborts.Unsent (count_of op) + run_left run op)
last_job_left run op None = omega arith
last_job_left run op (Some flow) = omega arith

sent_begins : (op : Op (List ℕ)) (step : Step) (job : Job) (v : View) → to_begin (sends_if (command_of v op step) (record v { job = job })) ≡ login_left v.standing + job_left v.run job
sent_begins op step job v = sends_if_begins (command_of v op step) (record v { job = job })

pub placed_begins : (op : Op (List ℕ)) (step : Step) (v : View) → to_begin (placed op step v) ≤ login_left v.standing + steps_left step + (abort_left Aborts.Unsent (count_of op) + run_left v.run op)
placed_begins op Steps.Kind v = omega (arith, sent_begins op Steps.Kind (Doing op Steps.Kind) v)
placed_begins op Steps.Structure v = omega (arith, sent_begins op Steps.Structure (Doing op Steps.Structure) v)
placed_begins op Steps.Mode v = omega (arith, sent_begins op Steps.Mode (Doing op Steps.Mode) v)
placed_begins op Steps.Listen v = omega arith
placed_begins op Steps.Port v = omega (arith, sent_begins op Steps.Port (Doing op Steps.Port) v)
placed_begins op Steps.Passive v = omega (arith, sent_begins op Steps.Passive (Doing op Steps.Passive) v)
placed_begins op Steps.Connect v = omega (arith, sent_begins op Steps.Connect (Doing op Steps.Connect) v)
placed_begins op Steps.Restart v = omega (arith, sent_begins op Steps.Restart (Doing op Steps.Restart) v)
placed_begins op Steps.Source v = omega (arith, sent_begins op Steps.Source (Doing op Steps.Source) v)
placed_begins op Steps.Last v = omega (arith, sent_begins op Steps.Last (last_job op (flow_of op)) v, last_job_left v.run op (flow_of op))

alone_le : (op : Op (List ℕ)) → steps_left (alone_step op) ≤ 2
alone_le (Ops.Rename from to) = omega arith
alone_le Ops.Where = omega arith
alone_le (Ops.ChangeDir path) = omega arith
alone_le Ops.Up = omega arith
alone_le (Ops.MakeDir path) = omega arith
alone_le (Ops.RemoveDir path) = omega arith
alone_le (Ops.Delete path) = omega arith
alone_le (Ops.Put path octets how) = omega arith
alone_le (Ops.Append path octets how) = omega arith
alone_le (Ops.PutFrom path offset octets how) = omega arith
alone_le (Ops.Get path how) = omega arith
alone_le (Ops.GetFrom path offset how) = omega arith
alone_le (Ops.Peek path count how) = omega arith
alone_le (Ops.Size path how) = omega arith
alone_le (Ops.Modified path) = omega arith
alone_le (Ops.Facts path) = omega arith
alone_le (Ops.List path how) = omega arith
alone_le (Ops.Names path how) = omega arith
alone_le (Ops.Text verb path how) = omega arith

if_le : (b : Bool) (one other : Step) (n : ℕ) → steps_left one ≤ n → steps_left other ≤ n → steps_left (if b then one else other) ≤ n
if_le true one other n le also = le
if_le false one other n le also = also

opening_le : (how : Option How) (op : Op (List ℕ)) → steps_left (opening_of how op) ≤ 4
opening_le None op = omega (arith, alone_le op)
opening_le (Some how) op = if_le how.active Steps.Listen Steps.Passive 4 (omega arith) (omega arith)

mode_le : (now wanted : Representation) (step : Step) → steps_left step ≤ 4 → steps_left (from_mode now wanted step) ≤ 5
mode_le now wanted step le = if_le (same_mode now.mode wanted.mode) step Steps.Mode 5 (omega (arith, le)) (omega arith)

structure_le : (now wanted : Representation) (step : Step) → steps_left step ≤ 4 → steps_left (from_structure now wanted step) ≤ 6
structure_le now wanted step le =
    if_le (same_structure now.structure wanted.structure) (from_mode now wanted step) Steps.Structure 6 (omega (arith, mode_le now wanted step le)) (omega arith)

kind_le : (now wanted : Representation) (step : Step) → steps_left step ≤ 4 → steps_left (from_kind now wanted step) ≤ 7
kind_le now wanted step le =
    if_le (same_kind now.kind wanted.kind) (from_structure now wanted step) Steps.Kind 7 (omega (arith, structure_le now wanted step le)) (omega arith)

by_le : (from : Representation → Representation → Step → Step) (n : ℕ) → 4 ≤ n → ((now wanted : Representation) (step : Step) → steps_left step ≤ 4 → steps_left (from now wanted step) ≤ n)
    → (wanted : Option Representation) (now : Representation) (op : Op (List ℕ)) → steps_left (step_by from wanted now op) ≤ n
by_le from n four le None now op = omega (arith, four, opening_le (how_of op) op)
by_le from n four le (Some wanted) now op = le now wanted (opening_of (how_of op) op) (opening_le (how_of op) op)

pub first_le : (now : Representation) (op : Op (List ℕ)) → steps_left (first_step now op) ≤ 7
first_le now op = by_le from_kind 7 (omega arith) kind_le (asked_settings op) now op

behind_le : (offset : Option ℕ) → steps_left (opened_step offset) ≤ 2
behind_le None = omega arith
behind_le (Some offset) = omega arith

-- a step that goes on
abbrev pub goes_step : Step → Bool
goes_step Steps.Last = false
goes_step step = true

pub next_less : (now : Representation) (op : Op (List ℕ)) (step : Step) → goes_step step ≡ true → steps_left (next_step now op step) < steps_left step
next_less now op Steps.Kind goes = omega (arith, by_le from_structure 6 (omega arith) structure_le (asked_settings op) now op)
next_less now op Steps.Structure goes = omega (arith, by_le from_mode 5 (omega arith) mode_le (asked_settings op) now op)
next_less now op Steps.Mode goes = omega (arith, opening_le (how_of op) op)
next_less now op Steps.Listen goes = omega arith
next_less now op Steps.Port goes = omega (arith, behind_le (offset_of op))
next_less now op Steps.Passive goes = omega arith
next_less now op Steps.Connect goes = omega (arith, behind_le (offset_of op))
next_less now op Steps.Restart goes = omega arith
next_less now op Steps.Source goes = omega arith
next_less now op Steps.Last goes = absurd (cc)

-- a step that was answered well: another view of the same standing goes on
pub goes_on_low : (op : Op (List ℕ)) (step : Step) (old v : View) → goes_step step ≡ true → old.job ≡ Doing op step → v.standing ≡ old.standing → v.run ≡ old.run
    → Low old (goes_on op step v)
goes_on_low op step old v goes is stands runs =
    let less = next_less v.settings op step goes in
    let here : job_left old.run old.job ≡ steps_left step + (abort_left Aborts.Unsent (count_of op) + run_left old.run op) = ap (job_left old.run) is in
    let login : login_left v.standing ≡ login_left old.standing = ap login_left stands in
    let same_run : run_left v.run op ≡ run_left old.run op = ap (λ run. run_left run op) runs in
    falls 0 old (goes_on op step v) (omega (arith, placed_begins op (next_step v.settings op step) v, less, here, login, same_run))

pub abort_le : (count : Option ℕ) → abort_left Aborts.Unsent count ≤ 1
abort_le None = omega arith
abort_le (Some count) = omega arith

-- an operation begins of which more was left than all its steps
pub begun_low : (op : Op (List ℕ)) (old v : View) → login_left v.standing ≤ login_left old.standing → operation_left + run_left v.run op ≤ job_left old.run old.job
    → Low old (begins op v)
begun_low op old v login more =
    falls 0 old (begins op v) (omega (arith, placed_begins op (first_step v.settings op) v, first_le v.settings op, abort_le (count_of op), login, more))

-- one that waited
pub begins_low : (op : Op (List ℕ)) (old v : View) → old.job ≡ Waiting op → login_left v.standing ≤ login_left old.standing → v.run ≡ old.run → Low old (begins op v)
begins_low op old v is login runs =
    let here : job_left old.run old.job ≡ operation_left + run_left old.run op = ap (job_left old.run) is in
    let same_run : run_left v.run op ≡ run_left old.run op = ap (λ run. run_left run op) runs in
    begun_low op old v login (omega (arith, here, same_run))

-- ---- the next operation of a run

-- behind SIZE comes a try
size_then_try : (u : OverBreaks) (answer : Said) (op : Op (List ℕ)) → after_size u answer ≡ Some op → is_size op ≡ false
size_then_try u Done op is = absurd (none_is is)
size_then_try u (Path text) op is = absurd (none_is is)
size_then_try u (Octets octets) op is = absurd (none_is is)
size_then_try u (Number count) op is = elim (decided (nat_le count (length u.octets))) [
  | inl e ↦ subst (λ o. is_size o ≡ false) (some_is (subst (λ b. Some (if b then rest_put u count else whole_put u) ≡ Some op) e is)) refl
  | inr e ↦ subst (λ o. is_size o ≡ false) (some_is (subst (λ b. Some (if b then rest_put u count else whole_put u) ≡ Some op) e is)) refl
]
size_then_try u (Stamp seconds) op is = absurd (none_is is)
size_then_try u (Entry entry) op is = absurd (none_is is)
size_then_try u (Entries entries) op is = absurd (none_is is)
size_then_try u (Names names) op is = absurd (none_is is)
size_then_try u (Refused code) op is = elim (decided (code == 550)) [
  | inl e ↦ subst (λ o. is_size o ≡ false) (some_is (subst (λ b. (if b then Some (whole_put u) else None) ≡ Some op) e is)) refl
  | inr e ↦ absurd (none_is (subst (λ b. (if b then Some (whole_put u) else None) ≡ Some op) e is))
]
size_then_try u BadOperation op is = absurd (none_is is)
size_then_try u (Broken got mark) op is = absurd (none_is is)
size_then_try u Unopened op is = absurd (none_is is)
size_then_try u Foreign op is = absurd (none_is is)
size_then_try u Lost op is = absurd (none_is is)
size_then_try u Strange op is = absurd (none_is is)
size_then_try u Memory op is = absurd (none_is is)

-- behind a try comes SIZE, or the same try
try_then : (u : OverBreaks) (old : Op (List ℕ)) (answer : Said) (op : Op (List ℕ)) → after_try u old answer ≡ Some op → (is_size op ≡ true) ⊎ (op ≡ old)
try_then u old Done op is = absurd (none_is is)
try_then u old (Path text) op is = absurd (none_is is)
try_then u old (Octets octets) op is = absurd (none_is is)
try_then u old (Number number) op is = absurd (none_is is)
try_then u old (Stamp seconds) op is = absurd (none_is is)
try_then u old (Entry entry) op is = absurd (none_is is)
try_then u old (Entries entries) op is = absurd (none_is is)
try_then u old (Names names) op is = absurd (none_is is)
try_then u old (Refused code) op is = absurd (none_is is)
try_then u old BadOperation op is = absurd (none_is is)
try_then u old (Broken got mark) op is = inl (subst (λ o. is_size o ≡ true) (some_is is) refl)
try_then u old Unopened op is = inr (sym (some_is is))
try_then u old Foreign op is = absurd (none_is is)
try_then u old Lost op is = absurd (none_is is)
try_then u old Strange op is = absurd (none_is is)
try_then u old Memory op is = absurd (none_is is)

-- less is left behind the next operation, by one operation at least
abbrev IsNearer : Run → (old new : Op (List ℕ)) → Type 0
IsNearer run old new = operations_behind (run_at new run) new + 1 ≤ operations_behind run old

size_nearer : (run : Run) (old op : Op (List ℕ)) → is_size old ≡ true → is_size op ≡ false → IsNearer run old op
size_nearer run old op is not_size = rw (is, not_size) (omega arith)

asks_nearer : (run : Run) (old op : Op (List ℕ)) → 0 < run.left → is_size old ≡ false → is_size op ≡ true → IsNearer run old op
asks_nearer run old op some is size = rw (is, size) (omega (arith, some))

again_nearer : (run : Run) (old op : Op (List ℕ)) → 0 < run.left → is_size old ≡ false → op ≡ old → IsNearer run old op
again_nearer run old op some is same_op = let not_size : is_size op ≡ false = ap is_size same_op ∙ is in rw (is, not_size) (omega (arith, some))

try_nearer : (run : Run) (old op : Op (List ℕ)) → 0 < run.left → is_size old ≡ false → (is_size op ≡ true) ⊎ (op ≡ old) → IsNearer run old op
try_nearer run old op some is (inl size) = asks_nearer run old op some is size
try_nearer run old op some is (inr same_op) = again_nearer run old op some is same_op

of_nearer : (run : Run) (old : Op (List ℕ)) (answer : Said) (op : Op (List ℕ)) → 0 < run.left → next_of run.upload old answer ≡ Some op → IsNearer run old op
of_nearer run old answer op some next = elim (decided (is_size old)) [
  | inl e ↦ size_nearer run old op e
      (size_then_try run.upload answer op (subst (λ b. (if b then after_size run.upload answer else after_try run.upload old answer) ≡ Some op) e next))
  | inr e ↦ try_nearer run old op some e
      (try_then run.upload old answer op (subst (λ b. (if b then after_size run.upload answer else after_try run.upload old answer) ≡ Some op) e next))
]

in_nearer : (run : Run) (old : Op (List ℕ)) (answer : Said) (op : Op (List ℕ)) → next_in run old answer ≡ Some op → IsNearer run old op
in_nearer run old answer op next = elim (decided (run.left == 0)) [
  | inl e ↦ absurd (none_is (subst (λ b. (if b then None else next_of run.upload old answer) ≡ Some op) e next))
  | inr e ↦ of_nearer run old answer op (positive run.left e) (subst (λ b. (if b then None else next_of run.upload old answer) ≡ Some op) e next)
]

with_nearer : (run : Option Run) (old : Op (List ℕ)) (answer : Said) (op : Op (List ℕ)) → next_with run old answer ≡ Some op
    → operation_left + run_left (option_map (run_at op) run) op ≤ run_left run old
with_nearer None old answer op next = absurd (none_is next)
with_nearer (Some run) old answer op next = omega (arith, in_nearer run old answer op next)

pub next_nearer : (run : Option Run) (job : Job) (answer : Said) (op : Op (List ℕ)) → next_job run job answer ≡ Some op
    → operation_left + run_left (option_map (run_at op) run) op ≤ job_left run job
next_nearer run (Doing old step) answer op next = omega (arith, with_nearer run old answer op next)
next_nearer run (Transferring old transfer) answer op next = omega (arith, with_nearer run old answer op next)
next_nearer run Idle answer op next = absurd (none_is next)
next_nearer run (Waiting old) answer op next = absurd (none_is next)
next_nearer run (Told before) answer op next = absurd (none_is next)

finishes_by_low : (next : Option (Op (List ℕ))) (answer : Said) (v : View) → next_job v.run v.job answer ≡ next → Low v (finishes_by next answer v)
finishes_by_low None answer v is = tells_low answer v
finishes_by_low (Some op) answer v is =
    begun_low op v (record (dropped v) { run = option_map (run_at op) v.run }) (omega arith) (next_nearer v.run v.job answer op is)

pub finishes_low : (answer : Said) (v : View) → Low v (finishes answer v)
finishes_low answer v = finishes_by_low (next_job v.run v.job answer) answer v refl

pub finishes_read_low : (answer : Option Said) (v : View) → Low v (finishes_read answer v)
finishes_read_low None v = strange_low v
finishes_read_low (Some answer) v = finishes_low answer v
