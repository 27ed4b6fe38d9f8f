-- No refusal by the map is told as a failure of the device, so the answers of a run tell how many there were.
use Rattle.std.proofs.Common.{◌≡◌, ℕ, suc, Bool, true, false, List, [], ◌∷◌, Option, Some, None, length, refl, ap, sym, ◌∙◌, if◌then◌else◌}
use Rattle.std.specs.List.{filter}
use Rattle.ftp_tree.specs.Tree.{Table}
use Rattle.ftp_tree.specs.declared.fault.TreeFault.{TreeFault}
use Rattle.ftp_tree.specs.declared.fault.TreeFault.TheVariants as Faults
use Rattle.ftp_operation.specs.declared.op.ListVerb.TheVariants as Verbs
use Rattle.ftp_operation.specs.declared.op.Op.{Op}
use Rattle.ftp_operation.specs.declared.op.Op.TheVariants as Ops
use Rattle.ftp_operation.specs.Answer.{Said, BadOperation, Refused}
use Rattle.ftp_operation.specs.Operation.{can_be_sent}
use Rattle.ftp_direct.specs.declared.refusal.Refusal.{Refusal}
use Rattle.ftp_direct.specs.declared.refusal.Refusal.TheVariants.{LocalFault, NoRoom, BadArgument, BadParameter, NotLoggedIn, Unavailable, NotAllowed, TooMuch, BadName}
use Rattle.ftp_direct.specs.Refusal.{code_of}
use Rattle.ftp_direct.specs.Direct.{State, answer, barred, chosen, done, first_refusal, refusal, refused_there, refused_name, refused_room, refused_octets, refused_listing, or_refused}
use Rattle.ftp_direct.specs.Run.{Ran, Turn, answer_of, failures_of, faults_told, is_local_fault, moved_on, run}

is_fault : Option Refusal → Bool
is_fault None = false
is_fault (Some LocalFault) = true
is_fault (Some other) = false

or_no : (first second : Option Refusal) → is_fault first ≡ false → is_fault second ≡ false → is_fault (or_refused first second) ≡ false
unfolding is_fault
or_no None second f s = s
or_no (Some why) second f s = f

there_no : (refusal : Option TreeFault) → is_fault (refused_there refusal) ≡ false
unfolding is_fault
there_no None = refl
there_no (Some fault) = refl

named_no : (refusal : Option TreeFault) → is_fault (refused_name refusal) ≡ false
unfolding is_fault
named_no None = refl
named_no (Some fault) = refl

octets_no : (refusal : Option TreeFault) → is_fault (refused_octets refusal) ≡ false
unfolding is_fault
octets_no None = refl
octets_no (Some fault) = refl

room_no : (refusal : Option TreeFault) → is_fault (refused_room refusal) ≡ false
unfolding is_fault
room_no None = refl
room_no (Some Faults.Absent) = refl
room_no (Some Faults.Exists) = refl
room_no (Some Faults.NotEmpty) = refl
room_no (Some Faults.WrongKind) = refl
room_no (Some Faults.TooBig) = refl
room_no (Some Faults.Full) = refl
room_no (Some Faults.Busy) = refl
room_no (Some Faults.BadOffset) = refl
room_no (Some Faults.Device) = refl
room_no (Some Faults.Memory) = refl

listing_no : (refusal : Option TreeFault) → is_fault (refused_listing refusal) ≡ false
unfolding is_fault
listing_no None = refl
listing_no (Some Faults.Absent) = refl
listing_no (Some Faults.Exists) = refl
listing_no (Some Faults.NotEmpty) = refl
listing_no (Some Faults.WrongKind) = refl
listing_no (Some Faults.TooBig) = refl
listing_no (Some Faults.Full) = refl
listing_no (Some Faults.Busy) = refl
listing_no (Some Faults.BadOffset) = refl
listing_no (Some Faults.Device) = refl
listing_no (Some Faults.Memory) = refl

if_no : (takes : Bool) (why : Refusal) → is_fault (Some why) ≡ false → is_fault (if takes then None else Some why) ≡ false
unfolding is_fault
if_no true why other = refl
if_no false why other = other

either_no : (first : Bool) (one other : Option Refusal) → is_fault one ≡ false → is_fault other ≡ false → is_fault (if first then one else other) ≡ false
either_no true one other o s = o
either_no false one other o s = s

not_parameter : is_fault (Some BadParameter) ≡ false
unfolding is_fault
not_parameter = refl

not_unavailable : is_fault (Some Unavailable) ≡ false
unfolding is_fault
not_unavailable = refl

not_allowed : is_fault (Some NotAllowed) ≡ false
unfolding is_fault
not_allowed = refl

none_no : is_fault None ≡ false
unfolding is_fault
none_no = refl

-- what an account may not do is no failure of the device
barred_no : (may : Bool) → is_fault (barred may) ≡ false
barred_no true = none_no
barred_no false = not_allowed

refusal_no : (state : State) (op : Op (List ℕ)) → is_fault (refusal state op) ≡ false
refusal_no state Ops.Where = none_no
refusal_no state (Ops.ChangeDir text) = there_no _
refusal_no state Ops.Up = none_no
refusal_no state (Ops.MakeDir text) = or_no _ _ (barred_no _) (there_no _)
refusal_no state (Ops.RemoveDir text) = or_no _ _ (barred_no _) (there_no _)
refusal_no state (Ops.Delete text) = or_no _ _ (barred_no _) (there_no _)
refusal_no state (Ops.Rename text new) = or_no _ _ (barred_no _) (or_no _ _ (there_no _) (named_no _))
refusal_no state (Ops.Put text octets how) = or_no _ _ (barred_no _) (or_no _ _ (room_no _) (octets_no _))
refusal_no state (Ops.Append text octets how) = or_no _ _ (barred_no _) (or_no _ _ (room_no _) (octets_no _))
refusal_no state (Ops.PutFrom text offset octets how) = or_no _ _ (if_no _ BadParameter not_parameter) (or_no _ _ (barred_no _) (or_no _ _ (named_no _) (or_no _ _ (room_no _) (octets_no _))))
refusal_no state (Ops.Get text how) = there_no _
refusal_no state (Ops.GetFrom text offset how) = or_no _ _ (if_no _ BadParameter not_parameter) (or_no _ _ (there_no _) (there_no _))
refusal_no state (Ops.Peek text count how) = there_no _
refusal_no state (Ops.Size text how) = or_no _ _ (there_no _) (either_no _ _ _ (if_no _ Unavailable not_unavailable) not_unavailable)
refusal_no state (Ops.Modified text) = there_no _
refusal_no state (Ops.Facts text) = there_no _
refusal_no state (Ops.List text how) = listing_no _
refusal_no state (Ops.Names text how) = there_no _
refusal_no state (Ops.Text Verbs.Mlsd text how) = listing_no _
refusal_no state (Ops.Text Verbs.List text how) = there_no _
refusal_no state (Ops.Text Verbs.Nlst text how) = there_no _

done_no : (state : State) (op : Op (List ℕ)) (moment : ℕ) → is_local_fault (done state op moment).0 ≡ false
done_no state Ops.Where moment = refl
done_no state (Ops.ChangeDir text) moment = refl
done_no state Ops.Up moment = refl
done_no state (Ops.MakeDir text) moment = refl
done_no state (Ops.RemoveDir text) moment = refl
done_no state (Ops.Delete text) moment = refl
done_no state (Ops.Rename text new) moment = refl
done_no state (Ops.Put text octets how) moment = refl
done_no state (Ops.Append text octets how) moment = refl
done_no state (Ops.PutFrom text offset octets how) moment = refl
done_no state (Ops.Get text how) moment = refl
done_no state (Ops.GetFrom text offset how) moment = refl
done_no state (Ops.Peek text count how) moment = refl
done_no state (Ops.Size text how) moment = refl
done_no state (Ops.Modified text) moment = refl
done_no state (Ops.Facts text) moment = refl
done_no state (Ops.List text how) moment = refl
done_no state (Ops.Names text how) moment = refl
done_no state (Ops.Text verb text how) moment = refl

code_no : (why : Refusal) → is_fault (Some why) ≡ false → is_local_fault (Refused (code_of why)) ≡ false
unfolding is_fault
code_no LocalFault other = cc
code_no NoRoom other = refl
code_no BadArgument other = refl
code_no BadParameter other = refl
code_no NotLoggedIn other = refl
code_no Unavailable other = refl
code_no NotAllowed other = refl
code_no TooMuch other = refl
code_no BadName other = refl

chosen_no : (why : Option Refusal) (state : State) (done : Said × State) → is_fault why ≡ false → is_local_fault done.0 ≡ false → is_local_fault (chosen why state done).0 ≡ false
chosen_no None state done none other = other
chosen_no (Some why) state done none other = code_no why none

known_no : (known : Bool) (why : Option Refusal) → is_fault why ≡ false → is_fault (if known then why else Some NotLoggedIn) ≡ false
unfolding is_fault
known_no true why none = none
known_no false why none = refl

sent_no : (sent : Bool) (state : State) (answered : Said × State) → is_local_fault answered.0 ≡ false → is_local_fault (if sent then answered else (BadOperation, state)).0 ≡ false
sent_no true state answered none = none
sent_no false state answered none = refl

-- no operation is answered so by the map
answer_no : (state : State) (op : Op (List ℕ)) (moment : ℕ) → is_local_fault (answer state op moment).0 ≡ false
unfolding answer
answer_no state op moment =
    sent_no (can_be_sent op) state (chosen (first_refusal state op) state (done state op moment))
    (chosen_no (first_refusal state op) state (done state op moment) (known_no state.known (refusal state op) (refusal_no state op)) (done_no state op moment))

turn_told : (state : State) (turn : Turn) → is_local_fault (answer_of state turn).0 ≡ turn.fails
turn_told state turn = by turn.fails refl
  where
    by : (fails : Bool) → turn.fails ≡ fails → is_local_fault (if fails then (Refused (code_of LocalFault), state) else answer state turn.op turn.moment).0 ≡ fails
    by true is = refl
    by false is = answer_no state turn.op turn.moment

one_more : (said : Said) (more : List Said) → faults_told (said ∷ more) ≡ (if is_local_fault said then suc (faults_told more) else faults_told more)
one_more said more =
    elim (is_local_fault said) as (λ b. length (if b then said ∷ filter is_local_fault more else filter is_local_fault more) ≡ (if b then suc (faults_told more) else faults_told more)) [
      | true ↦ refl
      | false ↦ refl
    ]

run_told : (old : State) (turns : List Turn) → faults_told (run old turns).0 ≡ failures_of turns
run_told old [] = refl
run_told old (turn ∷ turns) =
    let now = answer_of old turn in
    one_more now.0 (run now.1 turns).0 ∙ ap (λ b. if b then suc (faults_told (run now.1 turns).0) else faults_told (run now.1 turns).0) (turn_told old turn)
    ∙ ap (λ n. if turn.fails then suc n else n) (run_told now.1 turns)

pub all_told : (before : ℕ) (old : State) (orders : List (Op (List ℕ) × ℕ)) (said : List Said) (after : ℕ) (table : Table) → Ran before old orders said after table
    → after ≡ moved_on (faults_told said) before
all_told before old orders said after table ran =
    ran.counts ∙ ap (λ n. moved_on n before) (sym (run_told old ran.turns) ∙ ap faults_told ran.says)
