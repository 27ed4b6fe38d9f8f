-- Operations below a root are those of the part below it, as a map of its own.
use Rattle.std.proofs.Common.{◌≡◌, ℕ, Bool, true, false, List, [], ◌∷◌, Option, Some, None, refl, ap, sym, subst, ◌∙◌, if◌then◌else◌}
use Rattle.ftp_path.specs.Path.{Names}
use Rattle.ftp_tree.specs.Tree.{Table, under, with_part}
use Rattle.ftp_tree.proofs.PartLemmas.{part-back, part-taken, part_whole, under_all, put_again}
use Rattle.ftp_operation.specs.declared.op.Op.{Op}
use Rattle.ftp_operation.specs.declared.rights.Rights.{Rights}
use Rattle.ftp_operation.specs.declared.op.Op.TheVariants as Ops
use Rattle.ftp_operation.specs.Answer.{Said, BadOperation}
use Rattle.ftp_operation.specs.Operation.{can_be_sent}
use Rattle.ftp_direct.specs.declared.refusal.Refusal.{Refusal}
use Rattle.ftp_direct.specs.declared.refusal.Refusal.TheVariants.{NotLoggedIn}
use Rattle.ftp_direct.specs.Direct.{State, answer, answers, chosen, done, first_refusal, refusal, standing}
use Rattle.ftp_direct.specs.Laws.{PartsAreApart}

-- one operation is refused alike
refused_alike : (table : Table) (root cwd : Names) (known : Bool) (rights : Rights) (op : Op (List ℕ))
    → refusal (standing table root cwd known rights) op ≡ refusal (standing (under table root) [] cwd known rights) op
refused_alike table root cwd known rights Ops.Where = refl
refused_alike table root cwd known rights (Ops.ChangeDir text) = rw (under_all (under table root)) refl
refused_alike table root cwd known rights Ops.Up = refl
refused_alike table root cwd known rights (Ops.MakeDir text) = rw (under_all (under table root)) refl
refused_alike table root cwd known rights (Ops.RemoveDir text) = rw (under_all (under table root)) refl
refused_alike table root cwd known rights (Ops.Delete text) = rw (under_all (under table root)) refl
refused_alike table root cwd known rights (Ops.Rename text new) = rw (under_all (under table root)) refl
refused_alike table root cwd known rights (Ops.Put text octets how) = rw (under_all (under table root)) refl
refused_alike table root cwd known rights (Ops.Append text octets how) = rw (under_all (under table root)) refl
refused_alike table root cwd known rights (Ops.PutFrom text offset octets how) = rw (under_all (under table root)) refl
refused_alike table root cwd known rights (Ops.Get text how) = rw (under_all (under table root)) refl
refused_alike table root cwd known rights (Ops.GetFrom text offset how) = rw (under_all (under table root)) refl
refused_alike table root cwd known rights (Ops.Peek text count how) = rw (under_all (under table root)) refl
refused_alike table root cwd known rights (Ops.Size text how) = rw (under_all (under table root)) refl
refused_alike table root cwd known rights (Ops.Modified text) = rw (under_all (under table root)) refl
refused_alike table root cwd known rights (Ops.Facts text) = rw (under_all (under table root)) refl
refused_alike table root cwd known rights (Ops.List text how) = rw (under_all (under table root)) refl
refused_alike table root cwd known rights (Ops.Names text how) = rw (under_all (under table root)) refl
refused_alike table root cwd known rights (Ops.Text verb text how) = rw (under_all (under table root)) refl

-- it says the same
said_alike : (table : Table) (root cwd : Names) (known : Bool) (rights : Rights) (op : Op (List ℕ)) (moment : ℕ)
    → (done (standing table root cwd known rights) op moment).0 ≡ (done (standing (under table root) [] cwd known rights) op moment).0
said_alike table root cwd known rights Ops.Where moment = refl
said_alike table root cwd known rights (Ops.ChangeDir text) moment = refl
said_alike table root cwd known rights Ops.Up moment = refl
said_alike table root cwd known rights (Ops.MakeDir text) moment = refl
said_alike table root cwd known rights (Ops.RemoveDir text) moment = refl
said_alike table root cwd known rights (Ops.Delete text) moment = refl
said_alike table root cwd known rights (Ops.Rename text new) moment = refl
said_alike table root cwd known rights (Ops.Put text octets how) moment = refl
said_alike table root cwd known rights (Ops.Append text octets how) moment = refl
said_alike table root cwd known rights (Ops.PutFrom text offset octets how) moment = refl
said_alike table root cwd known rights (Ops.Get text how) moment = rw (under_all (under table root)) refl
said_alike table root cwd known rights (Ops.GetFrom text offset how) moment = rw (under_all (under table root)) refl
said_alike table root cwd known rights (Ops.Peek text count how) moment = rw (under_all (under table root)) refl
said_alike table root cwd known rights (Ops.Size text how) moment = rw (under_all (under table root)) refl
said_alike table root cwd known rights (Ops.Modified text) moment = rw (under_all (under table root)) refl
said_alike table root cwd known rights (Ops.Facts text) moment = rw (under_all (under table root)) refl
said_alike table root cwd known rights (Ops.List text how) moment = rw (under_all (under table root)) refl
said_alike table root cwd known rights (Ops.Names text how) moment = rw (under_all (under table root)) refl
said_alike table root cwd known rights (Ops.Text verb text how) moment = rw (under_all (under table root)) refl

-- what a state below a root is of one on the part: the part is put back, and all else is the same
abbrev IsPutBack : Table → Names → State → State → Type 0
IsPutBack table root state own = state ≡ standing (with_part table root own.table) root own.cwd own.known own.rights

-- it leaves the same
left_alike : (table : Table) (root cwd : Names) (known : Bool) (rights : Rights) (op : Op (List ℕ)) (moment : ℕ)
    → IsPutBack table root (done (standing table root cwd known rights) op moment).1 (done (standing (under table root) [] cwd known rights) op moment).1
left_alike table root cwd known rights Ops.Where moment = rw (part-back table root) refl
left_alike table root cwd known rights (Ops.ChangeDir text) moment = rw (part-back table root) refl
left_alike table root cwd known rights Ops.Up moment = rw (part-back table root) refl
left_alike table root cwd known rights (Ops.MakeDir text) moment = rw (part_whole, under_all (under table root)) refl
left_alike table root cwd known rights (Ops.RemoveDir text) moment = rw (part_whole, under_all (under table root)) refl
left_alike table root cwd known rights (Ops.Delete text) moment = rw (part_whole, under_all (under table root)) refl
left_alike table root cwd known rights (Ops.Rename text new) moment = rw (part_whole, under_all (under table root)) refl
left_alike table root cwd known rights (Ops.Put text octets how) moment = rw (part_whole, under_all (under table root)) refl
left_alike table root cwd known rights (Ops.Append text octets how) moment = rw (part_whole, under_all (under table root)) refl
left_alike table root cwd known rights (Ops.PutFrom text offset octets how) moment = rw (part_whole, under_all (under table root)) refl
left_alike table root cwd known rights (Ops.Get text how) moment = rw (part-back table root) refl
left_alike table root cwd known rights (Ops.GetFrom text offset how) moment = rw (part-back table root) refl
left_alike table root cwd known rights (Ops.Peek text count how) moment = rw (part-back table root) refl
left_alike table root cwd known rights (Ops.Size text how) moment = rw (part-back table root) refl
left_alike table root cwd known rights (Ops.Modified text) moment = rw (part-back table root) refl
left_alike table root cwd known rights (Ops.Facts text) moment = rw (part-back table root) refl
left_alike table root cwd known rights (Ops.List text how) moment = rw (part-back table root) refl
left_alike table root cwd known rights (Ops.Names text how) moment = rw (part-back table root) refl
left_alike table root cwd known rights (Ops.Text verb text how) moment = rw (part-back table root) refl

-- no operation changes the root
root_stays : (state : State) (op : Op (List ℕ)) (moment : ℕ) → (done state op moment).1.root ≡ state.root
root_stays state Ops.Where moment = refl
root_stays state (Ops.ChangeDir text) moment = refl
root_stays state Ops.Up moment = refl
root_stays state (Ops.MakeDir text) moment = refl
root_stays state (Ops.RemoveDir text) moment = refl
root_stays state (Ops.Delete text) moment = refl
root_stays state (Ops.Rename text new) moment = refl
root_stays state (Ops.Put text octets how) moment = refl
root_stays state (Ops.Append text octets how) moment = refl
root_stays state (Ops.PutFrom text offset octets how) moment = refl
root_stays state (Ops.Get text how) moment = refl
root_stays state (Ops.GetFrom text offset how) moment = refl
root_stays state (Ops.Peek text count how) moment = refl
root_stays state (Ops.Size text how) moment = refl
root_stays state (Ops.Modified text) moment = refl
root_stays state (Ops.Facts text) moment = refl
root_stays state (Ops.List text how) moment = refl
root_stays state (Ops.Names text how) moment = refl
root_stays state (Ops.Text verb text how) moment = refl

-- one answer and the state after it are of another, which stands at the root of the part
record IsBelow (table : Table) (root : Names) (state own : State) : Type 0 where
  pub put : IsPutBack table root state own
  pub top : own.root ≡ []

chosen_below : (table : Table) (root : Names) (sent : Bool) (why : Option Refusal) (state own : State) (one its : Said × State) → one.0 ≡ its.0
    → IsBelow table root one.1 its.1 → IsBelow table root state own
    → ((if sent then chosen why state one else (BadOperation, state)).0 ≡ (if sent then chosen why own its else (BadOperation, own)).0)
    × IsBelow table root (if sent then chosen why state one else (BadOperation, state)).1 (if sent then chosen why own its else (BadOperation, own)).1
chosen_below table root true None state own one its said left at = (said, left)
chosen_below table root true (Some why) state own one its said left at = (refl, at)
chosen_below table root false why state own one its said left at = (refl, at)

at_first : (table : Table) (root cwd : Names) (known : Bool) (rights : Rights) → IsBelow table root (standing table root cwd known rights) (standing (under table root) [] cwd known rights)
at_first table root cwd known rights = record { put = rw (part-back table root) refl; top = refl }

answer_below : (table : Table) (root cwd : Names) (known : Bool) (rights : Rights) (op : Op (List ℕ)) (moment : ℕ)
    → let one = answer (standing table root cwd known rights) op moment in
    let its = answer (standing (under table root) [] cwd known rights) op moment in
    (one.0 ≡ its.0) × IsBelow table root one.1 its.1
unfolding answer
answer_below table root cwd known rights op moment =
    let state = standing table root cwd known rights in
    let own = standing (under table root) [] cwd known rights in
    let same : first_refusal own op ≡ first_refusal state op = ap (λ why. if known then why else Some NotLoggedIn) (sym (refused_alike table root cwd known rights op)) in
    let P : Option Refusal → Type 0 =
    λ why. ((if can_be_sent op then chosen (first_refusal state op) state (done state op moment) else (BadOperation, state)).0 ≡ (if can_be_sent op then chosen why own (done own op moment) else (BadOperation, own)).0)
    × IsBelow table root (if can_be_sent op then chosen (first_refusal state op) state (done state op moment) else (BadOperation, state)).1 (if can_be_sent op then chosen why own (done own op moment) else (BadOperation, own)).1 in
    subst P (sym same)
    (chosen_below table root (can_be_sent op) (first_refusal state op) state own (done state op moment) (done own op moment) (said_alike table root cwd known rights op moment)
    (record { put = left_alike table root cwd known rights op moment; top = root_stays own op moment }) (at_first table root cwd known rights))

-- ---- operations one after another

record AreAlike (table : Table) (root : Names) (one its : List Said × State) : Type 0 where
  pub said : one.0 ≡ its.0
  pub put : IsPutBack table root one.1 its.1

-- what stands at the root of a part stands at that of the part once it is put back
own_stands : (table : Table) (root : Names) (own : State) → own.root ≡ [] → own ≡ standing (under (with_part table root own.table) root) [] own.cwd own.known own.rights
own_stands table root own is =
    ap (λ top. standing own.table top own.cwd own.known own.rights) is ∙ ap (λ part. standing part [] own.cwd own.known own.rights) (sym (part-taken table root own.table))

all_alike : (orders : List (Op (List ℕ) × ℕ)) (table : Table) (root cwd : Names) (known : Bool) (rights : Rights)
    → AreAlike table root (answers (standing table root cwd known rights) orders) (answers (standing (under table root) [] cwd known rights) orders)
unfolding answers
all_alike [] table root cwd known rights = record { said = refl; put = (at_first table root cwd known rights).put }
all_alike (order ∷ orders) table root cwd known rights =
    let now = answer (standing table root cwd known rights) order.0 order.1 in
    let its = answer (standing (under table root) [] cwd known rights) order.0 order.1 in
    let first = answer_below table root cwd known rights order.0 order.1 in
    let new = with_part table root its.1.table in
    let rest = all_alike orders new root its.1.cwd its.1.known its.1.rights in
    let from : answers now.1 orders ≡ answers (standing new root its.1.cwd its.1.known its.1.rights) orders = ap (λ state. answers state orders) first.1.put in
    let on : answers (standing (under new root) [] its.1.cwd its.1.known its.1.rights) orders ≡ answers its.1 orders = ap (λ state. answers state orders) (sym (own_stands table root its.1 first.1.top)) in
    let last = (answers its.1 orders).1 in
    record {
      said = ap (λ said. said ∷ (answers now.1 orders).0) first.0 ∙ ap (λ done. its.0 ∷ done.0) from ∙ ap (λ said. its.0 ∷ said) rest.said ∙ ap (λ done. its.0 ∷ done.0) on;
      put = ap (λ done. done.1) from ∙ rest.put ∙ ap (λ done. standing (with_part new root done.1.table) root done.1.cwd done.1.known done.1.rights) on
          ∙ ap (λ table. standing table root last.cwd last.known last.rights) (put_again table root its.1.table last.table);
    }

pub parts_are_apart : PartsAreApart
parts_are_apart table root cwd known rights orders =
    let alike = all_alike orders table root cwd known rights in
    record { said = alike.said; left = ap (λ state. state.table) alike.put; stands = ap (λ state. state.cwd) alike.put }
