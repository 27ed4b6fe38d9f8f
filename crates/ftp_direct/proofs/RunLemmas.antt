-- One operation, and operations one after another.
use Rattle.std.proofs.Common.{◌≡◌, ℕ, Vec, Bool, true, false, List, [], ◌∷◌, ◌++◌, Option, Some, None, Result, Ok, Err, IfOk, IfErr, inl, inr, ◌+◌, ◌%◌, ◌^◌, ◌<◌, ◌≤◌, zero, suc, length, take, get_or, add-one, arith, refl, ap, sym, ◌∙◌, subst, if◌then◌else◌}
use Rattle.std.specs.Prelude.{map}
use Rattle.std.proofs.lemmas.List.{map-append, take_all, length-map, length-take}
use Rattle.ftp_facts.specs.declared.moment.Moment.{Moment}
use Rattle.ftp_path.specs.Path.{Names}
use Rattle.ftp_tree.specs.Tree.{Table, node_at}
use Rattle.ftp_operation.specs.Account.{Account}
use Rattle.ftp_operation.specs.Rights.{no_rights}
use Rattle.ftp_operation.specs.declared.rights.Rights.{Rights}
use Rattle.ftp_operation.specs.declared.op.Op.{Op}
use Rattle.ftp_operation.specs.declared.answer.Answer.{Answer}
use Rattle.ftp_operation.specs.Answer.{Said, BadOperation, Refused, said_of}
use Rattle.ftp_operation.specs.Operation.{can_be_sent}
use Rattle.ftp_direct.specs.Direct.{State, answer, answers, chosen, done, first_refusal, due, here, is_directory, refusal, standing, start}
use Rattle.ftp_tree.specs.Change.{Failures, NoStray, next_count, one_failure_more}
use Rattle.ftp_direct.specs.Run.{IsAnswer, Ran, Turn, answer_of, failures_of, moved_on, order_of, orders_of, run}
use Rattle.ftp_direct.proofs.LookLemmas.{same-counts}
use Rattle.ftp_direct.proofs.RefusalLemmas.{still}
use Rattle.ftp_direct.specs.declared.refusal.Refusal.TheVariants.{NotLoggedIn, LocalFault}
use Rattle.ftp_direct.specs.Refusal.{code_of}

-- ---- one operation

as_answer : (state : State) (op : Op (List ℕ)) (moment : ℕ) (sent : Bool) → can_be_sent op ≡ sent
    → answer state op moment ≡ (if sent then chosen (first_refusal state op) state (done state op moment) else (BadOperation, state))
unfolding answer
as_answer state op moment sent is = ap (λ b. if b then chosen (first_refusal state op) state (done state op moment) else (BadOperation, state)) is

pub bad_operation : (count : Failures) (state : State) (op : Op (List ℕ)) (moment : ℕ) → can_be_sent op ≡ false
    → IsAnswer count count (answer state op moment) state BadOperation state
bad_operation count state op moment unsent =
    let e = as_answer state op moment false unsent in
    still count _ state BadOperation (ap (λ p. p.0) (sym e), ap (λ p. p.1) (sym e))

pub unknown_login : (count : Failures) (table : Table) (root cwd : Names) (known : Bool) (rights : Rights) (op : Op (List ℕ)) (moment : ℕ) (said : Said) → said ≡ Refused (code_of NotLoggedIn) → can_be_sent op ≡ true → known ≡ false
    → IsAnswer count count (answer (standing table root cwd known rights) op moment) (standing table root cwd known rights) said (standing table root cwd known rights)
unknown_login count table root cwd known rights op moment said told sent unknown =
    let state = standing table root cwd known rights in
    let e = as_answer state op moment true sent ∙ ap (λ b. chosen (if b then refusal state op else Some NotLoggedIn) state (done state op moment)) unknown in
    still count _ state said (told ∙ ap (λ p. p.0) (sym e), ap (λ p. p.1) (sym e))

pub known_due : {A E : Type 0} (result : Result (Answer A) E) (before after : Failures) (table new : Table) (root cwd at : Names) (known : Bool) (rights : Rights) (op : Op (List ℕ)) (moment : ℕ)
    → can_be_sent op ≡ true → known ≡ true
    → IfOk result (λ answer. IsAnswer before after (due (standing table root cwd true rights) op moment) (standing table root cwd true rights) (said_of answer) (standing new root at true rights))
    → IfOk result (λ said. IsAnswer before after (answer (standing table root cwd known rights) op moment) (standing table root cwd known rights) (said_of said) (standing new root at known rights))
known_due result before after table new root cwd at known rights op moment sent is so =
    let P : Bool → Type 0 = λ known. IfOk result (λ said. IsAnswer before after (answer (standing table root cwd known rights) op moment) (standing table root cwd known rights) (said_of said) (standing new root at known rights)) in
    let Q : Said × State → Type 0 = λ due. IfOk result (λ said. IsAnswer before after due (standing table root cwd true rights) (said_of said) (standing new root at true rights)) in
    subst P (sym is) (subst Q (sym (as_answer (standing table root cwd true rights) op moment true sent)) so)

-- ---- operations one after another

answers_step : (state : State) (op : Op (List ℕ)) (moment : ℕ) (orders : List (Op (List ℕ) × ℕ))
    → answers state ((op, moment) ∷ orders) ≡ ((answer state op moment).0 ∷ (answers (answer state op moment).1 orders).0, (answers (answer state op moment).1 orders).1)
unfolding answers
answers_step state op moment orders = refl

answers_none : (state : State) → answers state [] ≡ ([], state)
unfolding answers
answers_none state = refl

-- turns at none of which the device fails are the operations one after another
run_answers : (old : State) (turns : List Turn) → failures_of turns ≡ 0 → run old turns ≡ answers old (map order_of turns)
run_answers old [] none = sym (answers_none old)
run_answers old (turn ∷ turns) none = by turn.fails refl (run_answers (answer old turn.op turn.moment).1 turns)
  where
    counted : {fails : Bool} → turn.fails ≡ fails → failures_of (turn ∷ turns) ≡ (if fails then suc (failures_of turns) else failures_of turns)
    counted is = ap (λ b. if b then suc (failures_of turns) else failures_of turns) is

    by : (fails : Bool) → turn.fails ≡ fails
        → (failures_of turns ≡ 0 → run (answer old turn.op turn.moment).1 turns ≡ answers (answer old turn.op turn.moment).1 (map order_of turns))
        → run old (turn ∷ turns) ≡ answers old (map order_of (turn ∷ turns))
    by true is rest_of = absurd (omega (arith, sym none ∙ counted is))
    by false is rest_of =
        let now = answer old turn.op turn.moment in
        let first : answer_of old turn ≡ now = ap (λ b. if b then (Refused (code_of LocalFault), old) else now) is in
        let rest = rest_of (sym (counted is) ∙ none) in
        ap (λ a. (a.0 ∷ (run a.1 turns).0, (run a.1 turns).1)) first ∙ ap (λ r. (now.0 ∷ r.0, r.1)) rest ∙ sym (answers_step old turn.op turn.moment (map order_of turns))

-- a count that moved on by fewer than 2^64 is the same just where it moved on by none
moved_sum : (failures count : ℕ) → moved_on (suc failures) count ≡ (count + suc failures) % 2 ^ 64
moved_sum zero count = refl
moved_sum (suc failures) count = ap next_count (moved_sum failures count) ∙ omega arith

none_moved : (failures count : ℕ) → failures < 2 ^ 64 → count ≡ moved_on failures count → failures ≡ 0
none_moved zero count within same = refl
none_moved (suc failures) count within same = absurd (omega (arith, within, same ∙ moved_sum failures count))

failures_within : (turns : List Turn) → failures_of turns ≤ length turns
failures_within [] = omega arith
failures_within (turn ∷ turns) = by turn.fails (failures_within turns)
  where
    by : (fails : Bool) → failures_of turns ≤ length turns → (if fails then suc (failures_of turns) else failures_of turns) ≤ suc (length turns)
    by true within = omega (arith, within)
    by false within = omega (arith, within)

pub steady : (count : ℕ) (old : State) (orders : List (Op (List ℕ) × ℕ)) (said : List Said) (table : Table) → length orders < 2 ^ 64 → Ran count old orders said count table
    → (said ≡ (answers old orders).0) × (table ≡ (answers old orders).1.table)
steady count old orders said table short ran =
    let long : length ran.turns ≡ length orders = sym (length-map ran.turns order_of) ∙ ap length ran.ordered in
    let none = none_moved (failures_of ran.turns) count (omega (arith, failures_within ran.turns, long, short)) ran.counts in
    let is : run old ran.turns ≡ answers old orders = run_answers old ran.turns none ∙ ap (answers old) ran.ordered in
    (sym ran.says ∙ ap (λ r. r.0) is, sym ran.leaves ∙ ap (λ r. r.1.table) is)

-- one more turn behind others
run_more : (old : State) (turns : List Turn) (turn : Turn)
    → run old (turns ++ turn ∷ []) ≡ ((run old turns).0 ++ (answer_of (run old turns).1 turn).0 ∷ [], (answer_of (run old turns).1 turn).1)
run_more old [] turn = refl
run_more old (first ∷ turns) turn =
    let now = answer_of old first in
    ap (λ r. (now.0 ∷ r.0, r.1)) (run_more now.1 turns turn)

failures_more : (turns : List Turn) (turn : Turn) → failures_of (turns ++ turn ∷ []) ≡ (if turn.fails then suc (failures_of turns) else failures_of turns)
failures_more [] turn = refl
failures_more (first ∷ turns) turn =
    ap (λ n. if first.fails then suc n else n) (failures_more turns turn) ∙ by first.fails turn.fails
  where
    by : (one other : Bool)
        → (if one then suc (if other then suc (failures_of turns) else failures_of turns) else (if other then suc (failures_of turns) else failures_of turns))
        ≡ (if other then suc (if one then suc (failures_of turns) else failures_of turns) else (if one then suc (failures_of turns) else failures_of turns))
    by true true = refl
    by true false = refl
    by false true = refl
    by false false = refl

-- a run so far
pub record RunsTo (before : ℕ) (old : State) (orders : List (Op (List ℕ) × ℕ)) (said : List Said) (after : ℕ) (new : State) : Type 0 where
  pub turns : List Turn
  pub ordered : map order_of turns ≡ orders
  pub says : (run old turns).0 ≡ said
  pub leaves : (run old turns).1 ≡ new
  pub counts : after ≡ moved_on (failures_of turns) before

pub runs_none : (count : ℕ) (state : State) → RunsTo count state [] [] count state
runs_none count state = record { turns = []; ordered = refl; says = refl; leaves = refl; counts = refl }

-- one more turn, and what it says and leaves
turn_more : (before middle after : ℕ) (old state new : State) (orders : List (Op (List ℕ) × ℕ)) (said : List Said) (turn : Turn) (one : Said)
    → RunsTo before old orders said middle state → (answer_of state turn).0 ≡ one → (answer_of state turn).1 ≡ new
    → after ≡ (if turn.fails then next_count middle else middle)
    → RunsTo before old (orders ++ order_of turn ∷ []) (said ++ one ∷ []) after new
turn_more before middle after old state new orders said turn one so_far says leaves counts =
    let is = run_more old so_far.turns turn in record {
      turns = so_far.turns ++ turn ∷ [];
      ordered = map-append order_of so_far.turns (turn ∷ []) ∙ ap (λ o. o ++ order_of turn ∷ []) so_far.ordered;
      says = ap (λ r. r.0) is ∙ ap (λ s. (run old so_far.turns).0 ++ (answer_of s turn).0 ∷ []) so_far.leaves ∙ ap (λ s. s ++ (answer_of state turn).0 ∷ []) so_far.says
          ∙ ap (λ o. said ++ o ∷ []) says;
      leaves = ap (λ r. r.1) is ∙ ap (λ s. (answer_of s turn).1) so_far.leaves ∙ leaves;
      counts = counts ∙ ap (λ n. if turn.fails then next_count n else n) so_far.counts ∙ by turn.fails ∙ ap (λ n. moved_on n before) (sym (failures_more so_far.turns turn));
    }
  where
    by : (fails : Bool) → (if fails then next_count (moved_on (failures_of so_far.turns) before) else moved_on (failures_of so_far.turns) before)
        ≡ moved_on (if fails then suc (failures_of so_far.turns) else failures_of so_far.turns) before
    by true = refl
    by false = refl

pub runs_more : (before : ℕ) (middle after : Failures) (old state new : State) (orders : List (Op (List ℕ) × ℕ)) (said : List Said) (op : Op (List ℕ)) (moment : ℕ) (one : Said)
    → NoStray middle after → RunsTo before old orders said middle.told state → IsAnswer middle after (answer state op moment) state one new
    → RunsTo before old (orders ++ (op, moment) ∷ []) (said ++ one ∷ []) after.told new
runs_more before middle after old state new orders said op moment one stray so_far is = elim is.counted [
  | inl steady ↦
      let gives = is.steady (same-counts middle after steady.0 stray) in
      turn_more before middle.told after.told old state new orders said (record { op = op; moment = moment; fails = false }) one so_far (sym gives.0) (sym gives.1) steady.0
  | inr failed ↦
      let gives = is.failed (same-counts (one_failure_more middle) after failed.0 stray) in
      turn_more before middle.told after.told old state new orders said (record { op = op; moment = moment; fails = true }) one so_far (sym gives.0) (sym gives.1) failed.0
]

pub ran : (before after count : ℕ) (old new : State) (orders : List (Op (List ℕ) × ℕ)) (said : List Said) (table : Table)
    → RunsTo before old orders said after new → count ≡ after → new.table ≡ table → Ran before old orders said count table
ran before after count old new orders said table so_far is left = record {
  turns = so_far.turns;
  ordered = so_far.ordered;
  says = so_far.says;
  leaves = ap (λ s. s.table) so_far.leaves ∙ left;
  counts = is ∙ so_far.counts;
}

pub orders_more : (list : List (Op (List ℕ) × Moment)) (i : ℕ) (order : Op (List ℕ) × Moment) → i < length list → order ≡ get_or list i order
    → take (i + 1) (orders_of list) ≡ take i (orders_of list) ++ (order.0, order.1.seconds) ∷ []
orders_more list i order within is = ap (λ n. take n (orders_of list)) (add-one i) ∙ of list i within is
  where
    of : (list : List (Op (List ℕ) × Moment)) (i : ℕ) → i < length list → order ≡ get_or list i order
        → take (suc i) (orders_of list) ≡ take i (orders_of list) ++ (order.0, order.1.seconds) ∷ []
    of [] i within is = absurd (omega arith)
    of (first ∷ list) zero within is = ap (λ o. (o.0, o.1.seconds) ∷ []) (sym is)
    of (first ∷ list) (suc i) within is = ap (λ rest. (first.0, first.1.seconds) ∷ rest) (of list i (omega arith) is)

runs_as : (before after : ℕ) (old new : State) (orders others : List (Op (List ℕ) × ℕ)) (said same : List Said) → orders ≡ others → said ≡ same
    → RunsTo before old orders said after new → RunsTo before old others same after new
runs_as before after old new orders others said same first second so_far = record {
  turns = so_far.turns;
  ordered = so_far.ordered ∙ first;
  says = so_far.says ∙ second;
  leaves = so_far.leaves;
  counts = so_far.counts;
}

-- one more operation of a list
pub stepped : {A : Type 0} (before : ℕ) (middle after : Failures) (old state new : State) (list : List (Op (List ℕ) × Moment)) (i : ℕ) (order : Op (List ℕ) × Moment)
    (said : List (Answer A)) (one : Answer A) → i < length list → order ≡ get_or list i order → NoStray middle after
    → RunsTo before old (take i (orders_of list)) (map said_of said) middle.told state → IsAnswer middle after (answer state order.0 order.1.seconds) state (said_of one) new
    → RunsTo before old (take (i + 1) (orders_of list)) (map said_of (said ++ one ∷ [])) after.told new
stepped before middle after old state new list i order said one within is stray so_far answered =
    runs_as before after.told old new _ _ _ _ (sym (orders_more list i order within is)) (sym (map-append said_of said (one ∷ [])))
    (runs_more before middle after old state new (take i (orders_of list)) (map said_of said) order.0 order.1.seconds (said_of one) stray so_far answered)

-- a beginning of a list was run
abbrev pub Begun : ℕ → State → List (Op (List ℕ) × Moment) → ℕ → Table → Type 0
Begun before old list after table = (count : ℕ) × (said : List Said) × Ran before old (take count (orders_of list)) said after table

pub begun : {T E : Type 0} (result : Result T E) (before after count : ℕ) (old new : State) (list : List (Op (List ℕ) × Moment)) (i : ℕ) (said : List Said) (table : Table)
    → RunsTo before old (take i (orders_of list)) said after new → count ≡ after → new.table ≡ table
    → IfErr result (λ _. Begun before old list count table)
begun (Ok value) before after count old new list i said table so_far is left = tt
begun (Err fault) before after count old new list i said table so_far is left =
    (i, said, ran before after count old new (take i (orders_of list)) said table so_far is left)

orders_len : (list : List (Op (List ℕ) × Moment)) → length (orders_of list) ≡ length list
orders_len [] = refl
orders_len (order ∷ list) = ap suc (orders_len list)

-- the whole list was run
pub whole : (before after : ℕ) (old new : State) (list : List (Op (List ℕ) × Moment)) (i : ℕ) (said : List Said) → length list ≤ i
    → RunsTo before old (take i (orders_of list)) said after new → Ran before old (orders_of list) said after new.table
whole before after old new list i said past so_far =
    let all : take i (orders_of list) ≡ orders_of list = take_all i (orders_of list) (omega (arith, orders_len list)) in
    ran before after after old new (orders_of list) said new.table (runs_as before after old new _ _ _ _ all refl so_far) refl refl

-- the state at the start, by the login
pub start_known : (table : Table) (account : Account) (found : Option Account) (known : Bool) → Some account ≡ found → known ≡ is_directory (node_at table account.root)
    → standing table account.root [] known account.rights ≡ start table found
start_known table account found known is dir = ap (λ known. standing table account.root [] known account.rights) dir ∙ ap (start table) is

pub start_unknown : (table : Table) (root : Names) (rights : Rights) (found : Option Account) → root ≡ [] → rights ≡ no_rights → None ≡ found
    → standing table root [] false rights ≡ start table found
start_unknown table root rights found top nothing none = (λ i. standing table (top i) [] false (nothing i)) ∙ ap (start table) none

-- ---- a tree whose device never fails

pub steady_all : {A B E : Type 0} (result : Result (Vec (Answer A) B) E) (old : State) (list : List (Op (List ℕ) × Moment)) (table : Table) → length list < 2 ^ 64
    → IfOk result (λ all. Ran 0 old (orders_of list) (map said_of all.items) 0 table)
    → IfOk result (λ all. (map said_of all.items ≡ (answers old (orders_of list)).0) × (table ≡ (answers old (orders_of list)).1.table))
steady_all (Ok all) old list table short whole = steady 0 old (orders_of list) (map said_of all.items) table (omega (arith, orders_len list, short)) whole
steady_all (Err fault) old list table short whole = tt

pub steady_begun : {T E : Type 0} (result : Result T E) (old : State) (list : List (Op (List ℕ) × Moment)) (table : Table) → length list < 2 ^ 64
    → IfErr result (λ _. Begun 0 old list 0 table)
    → IfErr result (λ _. (count : ℕ) × (table ≡ (answers old (take count (orders_of list))).1.table))
steady_begun (Ok value) old list table short begun = tt
steady_begun (Err fault) old list table short (count, said, part) =
    (count, (steady 0 old (take count (orders_of list)) said table (omega (arith, length-take count (orders_of list), orders_len list, short)) part).1)
