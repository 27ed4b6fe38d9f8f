-- Each number that an operation is answered with has 18 digits at most, and so each operation of a run can be sent.
use Rattle.std.proofs.Common.{◌≡◌, ℕ, ◌<◌, ◌^◌, List, Bool, true, false, Option, Some, None, refl, arith, lt-ltb}
use Rattle.std.specs.Prelude.{if◌then◌else◌, ◌==◌}
use Rattle.std.specs.Option.{option_map}
use Rattle.std.proofs.lemmas.Bool.{cond_both}
use Rattle.ftp_facts.proofs.NumberLemmas.{and_both, number_says}
use Rattle.ftp_facts.specs.Value.{number_value}
use Rattle.ftp_endpoint.proofs.NumberLemmas.{value_lt}
use Rattle.ftp_operation.specs.Answer.{Said, Done, Path, Octets, Number, Stamp, Entry, Entries, Names, Refused, BadOperation, Broken, Unopened, Foreign, Lost, Strange, Memory}
use Rattle.ftp_operation.specs.Operation.{can_be_sent, is_number}
use Rattle.ftp_operation.specs.declared.op.Op.{Op}
use Rattle.ftp_operation.specs.declared.op.Op.TheVariants as Ops
use Rattle.ftp_path.specs.Path.{is_path_text}
use Rattle.ftp_reply.specs.Lines.{Text, joined}
use Rattle.ftp_client_model.specs.Dialogue.{answer_in, broken_off_answer, ended_answer, is_refusal_code, judged, next_job, next_with, refused_answer}
use Rattle.ftp_client_model.specs.Octets.{broken_answer, content_answer, cut_answer, has_enough, settled_of, whole_answer}
use Rattle.ftp_client_model.specs.Tries.{OverBreaks, Run, after_size, after_try, is_size, next_of, rest_put, run_at, try_behind, whole_put}
use Rattle.ftp_client_model.specs.View.{Flow, Sending, Receiving, Job, Idle, Waiting, Doing, Transferring, Told}
use Rattle.ftp_client_model.specs.declared.client.Abort.TheVariants as Aborts
use Rattle.ftp_client_model.specs.declared.client.Ending.{Ending}
use Rattle.ftp_client_model.specs.declared.client.Ending.TheVariants as Endings
use Rattle.ftp_client_model.specs.Fit.{IsSendable, IsSendableRun}

-- ---- answers

abbrev pub IsSmallAnswer : Said → Type 0
IsSmallAnswer (Number number) = number < 10 ^ 18
IsSmallAnswer answer = Unit {0}

abbrev pub IsSmallIf : Option Said → Type 0
IsSmallIf None = Unit {0}
IsSmallIf (Some answer) = IsSmallAnswer answer

if_small : (b : Bool) (one other : Option Said) → IsSmallIf one → IsSmallIf other → IsSmallIf (if b then one else other)
if_small true one other first second = first
if_small false one other first second = second

mapped : {X : Type 0} (f : X → Said) (o : Option X) → ((x : X) → IsSmallAnswer (f x)) → IsSmallIf (option_map f o)
mapped f None small = tt
mapped f (Some x) small = small x

number_small : (text : Text) (o : Option ℕ) → number_value text ≡ o → IsSmallIf (option_map Number o)
number_small text None is = tt
number_small text (Some n) is = let says = number_says text n is in omega (arith, value_lt text says.0.0.1 says.0.1, says.1)

pub answer_small : (op : Op (List ℕ)) (texts : List Text) → IsSmallIf (answer_in op texts)
answer_small Ops.Where texts = mapped Path _ (λ x. tt)
answer_small (Ops.MakeDir path) texts = mapped Path _ (λ x. tt)
answer_small (Ops.Size path how) texts = number_small (joined texts) (number_value (joined texts)) refl
answer_small (Ops.Modified path) texts = mapped Stamp _ (λ x. tt)
answer_small (Ops.Facts path) texts = mapped Entry _ (λ x. tt)
answer_small (Ops.ChangeDir path) texts = tt
answer_small Ops.Up texts = tt
answer_small (Ops.RemoveDir path) texts = tt
answer_small (Ops.Delete path) texts = tt
answer_small (Ops.Rename from to) texts = tt
answer_small (Ops.Put path octets how) texts = tt
answer_small (Ops.Append path octets how) texts = tt
answer_small (Ops.PutFrom path offset octets how) texts = tt
answer_small (Ops.Get path how) texts = tt
answer_small (Ops.GetFrom path offset how) texts = tt
answer_small (Ops.Peek path count how) texts = tt
answer_small (Ops.List path how) texts = tt
answer_small (Ops.Names path how) texts = tt
answer_small (Ops.Text verb path how) texts = tt

content_small : (op : Op (List ℕ)) (octets : List ℕ) → IsSmallIf (content_answer op octets)
content_small (Ops.List path how) octets = mapped Entries _ (λ x. tt)
content_small (Ops.Names path how) octets = mapped Names _ (λ x. tt)
content_small (Ops.Text verb path how) octets = tt
content_small (Ops.Peek path count how) octets = tt
content_small Ops.Where octets = tt
content_small (Ops.ChangeDir path) octets = tt
content_small Ops.Up octets = tt
content_small (Ops.MakeDir path) octets = tt
content_small (Ops.RemoveDir path) octets = tt
content_small (Ops.Delete path) octets = tt
content_small (Ops.Rename from to) octets = tt
content_small (Ops.Put path other how) octets = tt
content_small (Ops.Append path other how) octets = tt
content_small (Ops.PutFrom path offset other how) octets = tt
content_small (Ops.Get path how) octets = tt
content_small (Ops.GetFrom path offset how) octets = tt
content_small (Ops.Size path how) octets = tt
content_small (Ops.Modified path) octets = tt
content_small (Ops.Facts path) octets = tt

broken_small : (flow : Flow) → IsSmallAnswer (broken_answer flow)
broken_small (Sending left mark) = tt
broken_small (Receiving decoder mark) = tt

cut_small : (op : Op (List ℕ)) (flow : Flow) → IsSmallIf (cut_answer op flow)
cut_small op flow = if_small (has_enough op flow) (content_answer op (settled_of flow)) (Some (broken_answer flow)) (content_small op (settled_of flow)) (broken_small flow)

whole_small : (op : Op (List ℕ)) (flow : Flow) → IsSmallIf (whole_answer op flow)
whole_small op (Sending left mark) = tt
whole_small op (Receiving decoder mark) = if_small _ _ _ (content_small op _) (cut_small op (Receiving decoder mark))

ended_small : (ending : Ending) (op : Op (List ℕ)) (flow : Flow) → IsSmallIf (ended_answer ending op flow)
ended_small Endings.Clean op flow = whole_small op flow
ended_small Endings.Ours op flow = whole_small op flow
ended_small Endings.Broken op flow = cut_small op flow
ended_small Endings.Foreign op flow = tt

off_small : (ending : Ending) (op : Op (List ℕ)) (flow : Flow) → IsSmallIf (broken_off_answer ending op flow)
off_small Endings.Ours op flow = cut_small op flow
off_small Endings.Broken op flow = cut_small op flow
off_small Endings.Foreign op flow = cut_small op flow
off_small Endings.Clean (Ops.Peek path count how) flow = whole_small (Ops.Peek path count how) flow
off_small Endings.Clean Ops.Where flow = cut_small Ops.Where flow
off_small Endings.Clean (Ops.ChangeDir path) flow = cut_small (Ops.ChangeDir path) flow
off_small Endings.Clean Ops.Up flow = cut_small Ops.Up flow
off_small Endings.Clean (Ops.MakeDir path) flow = cut_small (Ops.MakeDir path) flow
off_small Endings.Clean (Ops.RemoveDir path) flow = cut_small (Ops.RemoveDir path) flow
off_small Endings.Clean (Ops.Delete path) flow = cut_small (Ops.Delete path) flow
off_small Endings.Clean (Ops.Rename from to) flow = cut_small (Ops.Rename from to) flow
off_small Endings.Clean (Ops.Put path octets how) flow = cut_small (Ops.Put path octets how) flow
off_small Endings.Clean (Ops.Append path octets how) flow = cut_small (Ops.Append path octets how) flow
off_small Endings.Clean (Ops.PutFrom path offset octets how) flow = cut_small (Ops.PutFrom path offset octets how) flow
off_small Endings.Clean (Ops.Get path how) flow = cut_small (Ops.Get path how) flow
off_small Endings.Clean (Ops.GetFrom path offset how) flow = cut_small (Ops.GetFrom path offset how) flow
off_small Endings.Clean (Ops.Size path how) flow = cut_small (Ops.Size path how) flow
off_small Endings.Clean (Ops.Modified path) flow = cut_small (Ops.Modified path) flow
off_small Endings.Clean (Ops.Facts path) flow = cut_small (Ops.Facts path) flow
off_small Endings.Clean (Ops.List path how) flow = cut_small (Ops.List path how) flow
off_small Endings.Clean (Ops.Names path how) flow = cut_small (Ops.Names path how) flow
off_small Endings.Clean (Ops.Text verb path how) flow = cut_small (Ops.Text verb path how) flow

refusal_small : (ending : Ending) (code : ℕ) (op : Op (List ℕ)) (flow : Flow) → IsSmallIf (refused_answer ending code op flow)
refusal_small ending code op flow =
    if_small (code == 425) (Some Unopened) (if code == 426 then broken_off_answer ending op flow else Some (Refused code)) tt
    (if_small (code == 426) (broken_off_answer ending op flow) (Some (Refused code)) (off_small ending op flow) tt)

final_small : (ending : Ending) (code : ℕ) (op : Op (List ℕ)) (flow : Flow) → IsSmallIf (if is_refusal_code code then refused_answer ending code op flow else ended_answer ending op flow)
final_small ending code op flow = if_small (is_refusal_code code) _ _ (refusal_small ending code op flow) (ended_small ending op flow)

pub unsent_small : (ending : Ending) (code : ℕ) (op : Op (List ℕ)) (flow : Flow) → IsSmallIf (judged ending Aborts.Unsent code op flow)
unsent_small Endings.Foreign code op flow = tt
unsent_small Endings.Clean code op flow = final_small Endings.Clean code op flow
unsent_small Endings.Ours code op flow = final_small Endings.Ours code op flow
unsent_small Endings.Broken code op flow = final_small Endings.Broken code op flow

pub answered_small : (ending : Ending) (code : ℕ) (op : Op (List ℕ)) (flow : Flow) → IsSmallIf (judged ending Aborts.Answered code op flow)
answered_small Endings.Foreign code op flow = tt
answered_small Endings.Clean code op flow = content_small op (settled_of flow)
answered_small Endings.Ours code op flow = content_small op (settled_of flow)
answered_small Endings.Broken code op flow = content_small op (settled_of flow)

-- ---- the next operation of a run

abbrev pub CanBeSentIf : Option (Op (List ℕ)) → Type 0
CanBeSentIf None = Unit {0}
CanBeSentIf (Some op) = can_be_sent op ≡ true

if_sent : (b : Bool) (one other : Option (Op (List ℕ))) → CanBeSentIf one → CanBeSentIf other → CanBeSentIf (if b then one else other)
if_sent true one other first second = first
if_sent false one other first second = second

try_sent : (u : OverBreaks) (count : ℕ) → is_path_text u.path ≡ true → count < 10 ^ 18 → can_be_sent (try_behind u count) ≡ true
try_sent u count path small =
    cond_both _ (rest_put u count) (whole_put u) (λ (op : Op (List ℕ)). can_be_sent op ≡ true) (λ is. and_both (is_path_text u.path) (is_number count) path (lt-ltb count (10 ^ 18) small)) (λ is. path)

size_sent : (u : OverBreaks) (answer : Said) → is_path_text u.path ≡ true → IsSmallAnswer answer → CanBeSentIf (after_size u answer)
size_sent u (Number count) path small = try_sent u count path small
size_sent u (Refused code) path small = if_sent (code == 550) (Some (whole_put u)) None path tt
size_sent u Done path small = tt
size_sent u (Path text) path small = tt
size_sent u (Octets octets) path small = tt
size_sent u (Stamp seconds) path small = tt
size_sent u (Entry entry) path small = tt
size_sent u (Entries entries) path small = tt
size_sent u (Names names) path small = tt
size_sent u BadOperation path small = tt
size_sent u (Broken got mark) path small = tt
size_sent u Unopened path small = tt
size_sent u Foreign path small = tt
size_sent u Lost path small = tt
size_sent u Strange path small = tt
size_sent u Memory path small = tt

again_sent : (u : OverBreaks) (op : Op (List ℕ)) (answer : Said) → is_path_text u.path ≡ true → can_be_sent op ≡ true → CanBeSentIf (after_try u op answer)
again_sent u op (Broken got mark) path can = path
again_sent u op Unopened path can = can
again_sent u op (Number count) path can = tt
again_sent u op (Refused code) path can = tt
again_sent u op Done path can = tt
again_sent u op (Path text) path can = tt
again_sent u op (Octets octets) path can = tt
again_sent u op (Stamp seconds) path can = tt
again_sent u op (Entry entry) path can = tt
again_sent u op (Entries entries) path can = tt
again_sent u op (Names names) path can = tt
again_sent u op BadOperation path can = tt
again_sent u op Foreign path can = tt
again_sent u op Lost path can = tt
again_sent u op Strange path can = tt
again_sent u op Memory path can = tt

with_sent : (run : Option Run) (op : Op (List ℕ)) (answer : Said) → IsSendableRun run → can_be_sent op ≡ true → IsSmallAnswer answer → CanBeSentIf (next_with run op answer)
with_sent None op answer path can small = tt
with_sent (Some run) op answer path can small =
    if_sent (run.left == 0) None (next_of run.upload op answer) tt
    (if_sent (is_size op) (after_size run.upload answer) (after_try run.upload op answer) (size_sent run.upload answer path small) (again_sent run.upload op answer path can))

pub next_sent : (run : Option Run) (job : Job) (answer : Said) → IsSendableRun run → IsSendable job → IsSmallAnswer answer → CanBeSentIf (next_job run job answer)
next_sent run Idle answer path can small = tt
next_sent run (Waiting op) answer path can small = tt
next_sent run (Doing op step) answer path can small = with_sent run op answer path can small
next_sent run (Transferring op transfer) answer path can small = with_sent run op answer path can small
next_sent run (Told other) answer path can small = tt

-- a run goes on with the same upload
pub run_on : (op : Op (List ℕ)) (run : Option Run) → IsSendableRun run → IsSendableRun (option_map (run_at op) run)
run_on op None path = tt
run_on op (Some run) path = cond_both (is_size op) run (record run { left = _ }) (λ (r : Run). is_path_text r.upload.path ≡ true) (λ is. path) (λ is. path)
