-- What an account has no right to do is refused first, and all else is done as of an account that may do all.
use Rattle.std.proofs.Common.{◌≡◌, ℕ, Bool, true, false, List, [], ◌∷◌, Option, Some, None, Result, Ok, Err, IfOk, OnErr, inl, inr, refl, ap, sym, subst, ◌∙◌, ◌&&◌}
use Rattle.std.specs.Prelude.{⊤, if◌then◌else◌, is_none, unwrap_or}
use Rattle.ftp_path.specs.Path.{Names, fits}
use Rattle.ftp_tree.specs.Change.{Failures, NoStray}
use Rattle.ftp_tree.specs.Tree.{Table, node_at}
use Rattle.ftp_operation.specs.Answer.{Said, BadOperation, Refused, said_of}
use Rattle.ftp_operation.specs.Operation.{can_be_sent}
use Rattle.ftp_operation.specs.Rights.{may_put, no_rights}
use Rattle.ftp_operation.specs.declared.answer.Answer.{Answer}
use Rattle.ftp_operation.specs.declared.rights.Rights.{Rights}
use Rattle.ftp_operation.specs.declared.op.Op.{Op}
use Rattle.ftp_operation.specs.declared.op.Op.TheVariants as Ops
use Rattle.ftp_direct.specs.declared.refusal.Refusal.{Refusal}
use Rattle.ftp_direct.specs.declared.refusal.Refusal.TheVariants.{NotLoggedIn}
use Rattle.ftp_direct.specs.Direct.{State, answer, answers, barred, barred_put, chosen, done, due, first_refusal, here, here_onto, is_file, offset_refusal, or_refused, part, refusal, standing}
use Rattle.ftp_direct.specs.Look.{Bars}
use Rattle.ftp_direct.specs.Refusal.{code_of}
use Rattle.ftp_direct.specs.Rights.{LookersChangeNothing, RightsComeFirst, barring, free}
use Rattle.ftp_direct.specs.Run.{IsAnswer, IsAsBefore}
use Rattle.ftp_direct.proofs.LookLemmas.{failed_look, if_looked_before, looked, looked_still}
use Rattle.ftp_direct.proofs.RefusalLemmas.{as_told, gives_refused}

-- an offset without a meaning is told before a right that is wanting
offset_first : (offset barred rest : Option Refusal)
    → or_refused offset (or_refused barred rest) ≡ or_refused (if is_none offset then barred else None) (or_refused offset rest)
offset_first None barred rest = refl
offset_first (Some why) barred rest = refl

-- an operation is refused for want of a right, or as of an account that may do all
pub rights_come_first : RightsComeFirst
rights_come_first state Ops.Where = refl
rights_come_first state (Ops.ChangeDir text) = refl
rights_come_first state Ops.Up = refl
rights_come_first state (Ops.MakeDir text) = refl
rights_come_first state (Ops.RemoveDir text) = refl
rights_come_first state (Ops.Delete text) = refl
rights_come_first state (Ops.Rename text new) = refl
rights_come_first state (Ops.Put text octets how) = refl
rights_come_first state (Ops.Append text octets how) = refl
rights_come_first state (Ops.PutFrom text offset octets how) = offset_first (offset_refusal offset how) _ _
rights_come_first state (Ops.Get text how) = refl
rights_come_first state (Ops.GetFrom text offset how) = refl
rights_come_first state (Ops.Peek text count how) = refl
rights_come_first state (Ops.Size text how) = refl
rights_come_first state (Ops.Modified text) = refl
rights_come_first state (Ops.Facts text) = refl
rights_come_first state (Ops.List text how) = refl
rights_come_first state (Ops.Names text how) = refl
rights_come_first state (Ops.Text verb text how) = refl

-- the same is done, and the account keeps its rights
done_alike : (state : State) (op : Op (List ℕ)) (moment : ℕ)
    → done state op moment ≡ ((done (free state) op moment).0, record (done (free state) op moment).1 { rights = state.rights })
done_alike state Ops.Where moment = refl
done_alike state (Ops.ChangeDir text) moment = refl
done_alike state Ops.Up moment = refl
done_alike state (Ops.MakeDir text) moment = refl
done_alike state (Ops.RemoveDir text) moment = refl
done_alike state (Ops.Delete text) moment = refl
done_alike state (Ops.Rename text new) moment = refl
done_alike state (Ops.Put text octets how) moment = refl
done_alike state (Ops.Append text octets how) moment = refl
done_alike state (Ops.PutFrom text offset octets how) moment = refl
done_alike state (Ops.Get text how) moment = refl
done_alike state (Ops.GetFrom text offset how) moment = refl
done_alike state (Ops.Peek text count how) moment = refl
done_alike state (Ops.Size text how) moment = refl
done_alike state (Ops.Modified text) moment = refl
done_alike state (Ops.Facts text) moment = refl
done_alike state (Ops.List text how) moment = refl
done_alike state (Ops.Names text how) moment = refl
done_alike state (Ops.Text verb text how) moment = refl

chosen_alike : (why : Option Refusal) (state : State) (op : Op (List ℕ)) (moment : ℕ)
    → chosen why state (done state op moment)
    ≡ ((chosen why (free state) (done (free state) op moment)).0, record (chosen why (free state) (done (free state) op moment)).1 { rights = state.rights })
chosen_alike None state op moment = done_alike state op moment
chosen_alike (Some why) state op moment = refl

-- so the same is due where no right is wanting
due_alike : (state : State) (op : Op (List ℕ)) (moment : ℕ) → barring state op ≡ None
    → due state op moment ≡ ((due (free state) op moment).0, record (due (free state) op moment).1 { rights = state.rights })
due_alike state op moment may =
    ap (λ why. chosen why state (done state op moment)) (rights_come_first state op ∙ ap (λ why. or_refused why (refusal (free state) op)) may)
    ∙ chosen_alike (refusal (free state) op) state op moment

-- ---- one operation

-- a right that is wanting is told, or a failed look
pub permitted_not : (before after : Failures) (table now : Table) (root cwd : Names) (rights : Rights) (op : Op (List ℕ)) (moment : ℕ) (why : Refusal) (said : Said)
    → said ≡ Refused (code_of why) → Bars (barring (standing now root cwd true rights) op) (Some why) before after → (NoStray before after → now ≡ table)
    → IsAnswer before after (due (standing table root cwd true rights) op moment) (standing table root cwd true rights) said (standing now root cwd true rights)
permitted_not before after table now root cwd rights op moment why said told (inl (is, steady)) same =
    let state = standing now root cwd true rights in
    looked_still before after table now steady same (λ t. due (standing t root cwd true rights) op moment) (λ t. standing t root cwd true rights) said state
    (as_told _ said (Refused (code_of why)) state told
    (gives_refused state op moment why (rights_come_first state op ∙ ap (λ why. or_refused why (refusal (free state) op)) (sym is))))
permitted_not before after table now root cwd rights op moment why said told (inr (is, one)) same =
    failed_look before after table now one same _ (λ t. standing t root cwd true rights) said (told ∙ ap (λ w. Refused (code_of (unwrap_or w why))) is)

-- an answer of an account that may do all is one of an account with these rights
answer_alike : (before after : Failures) (rights : Rights) (due : Said × State) (old new : State) (said : Said) → IsAnswer before after due old said new
    → IsAnswer before after (due.0, record due.1 { rights = rights }) (record old { rights = rights }) said (record new { rights = rights })
answer_alike before after rights due old new said is = record {
  steady = λ same. ((is.steady same).0, ap (λ (state : State). record state { rights = rights }) (is.steady same).1);
  failed = λ moved. ((is.failed moved).0, ap (λ (state : State). record state { rights = rights }) (is.failed moved).1);
  counted = is.counted;
}

-- where no right is wanting, what is answered to an account that may do all is answered
pub permitted_due : {A E : Type 0} (result : Result (Answer A) E) (before mid after : Failures) (table now new : Table) (root cwd at : Names) (rights : Rights) (op : Op (List ℕ)) (moment : ℕ)
    → Bars (barring (standing now root cwd true rights) op) None before mid → (NoStray before mid → now ≡ table)
    → IfOk result (λ answer. IsAnswer mid after (due (here_onto now root cwd rights.onto) op moment) (here_onto now root cwd rights.onto) (said_of answer) (here_onto new root at rights.onto))
    → IfOk result (λ answer. IsAnswer before after (due (standing table root cwd true rights) op moment) (standing table root cwd true rights) (said_of answer)
    (standing new root at true rights))
permitted_due (Ok answer) before mid after table now new root cwd at rights op moment (inl (may, steady)) same is =
    let state = standing now root cwd true rights in
    let own = here_onto now root cwd rights.onto in
    looked before mid after table now steady same (λ t. due (standing t root cwd true rights) op moment) (λ t. standing t root cwd true rights) (said_of answer) (standing new root at true rights)
    (subst (λ due. IsAnswer mid after due state (said_of answer) (standing new root at true rights)) (sym (due_alike state op moment (sym may)))
    (answer_alike mid after rights (due own op moment) own (here_onto new root at rights.onto) (said_of answer) is))
permitted_due (Ok answer) before mid after table now new root cwd at rights op moment (inr (is, one)) same answered = absurd (cc)
permitted_due (Err fault) before mid after table now new root cwd at rights op moment may same is = tt

-- so are the counts and the map where memory was refused
pub permitted_before : {X E : Type 0} (result : Result X E) (before mid after : Failures) (table now new : Table) (due : Option Refusal) → Bars due None before mid → (NoStray before mid → now ≡ table)
    → OnErr result (IsAsBefore mid after now new) → OnErr result (IsAsBefore before after table new)
permitted_before result before mid after table now new due (inl (may, steady)) same is = if_looked_before before mid after table now steady same result new is
permitted_before result before mid after table now new due (inr (is, one)) same refused = absurd (cc)

-- ---- an operation that renames nothing

abbrev pub RenamesNothing : Op (List ℕ) → Type 0
RenamesNothing (Ops.Rename text new) = ⊥
RenamesNothing other = ⊤

module _ (table : Table) (root cwd : Names) (onto : Bool) where
  abbrev all : State
  all = here table root cwd

  abbrev some : State
  some = here_onto table root cwd onto

  -- it is refused alike, whether files may be renamed onto or not
  refused_else : (op : Op (List ℕ)) → RenamesNothing op → refusal some op ≡ refusal all op
  refused_else Ops.Where other = refl
  refused_else (Ops.ChangeDir text) other = refl
  refused_else Ops.Up other = refl
  refused_else (Ops.MakeDir text) other = refl
  refused_else (Ops.RemoveDir text) other = refl
  refused_else (Ops.Delete text) other = refl
  refused_else (Ops.Rename text new) other = absurd other
  refused_else (Ops.Put text octets how) other = refl
  refused_else (Ops.Append text octets how) other = refl
  refused_else (Ops.PutFrom text offset octets how) other = refl
  refused_else (Ops.Get text how) other = refl
  refused_else (Ops.GetFrom text offset how) other = refl
  refused_else (Ops.Peek text count how) other = refl
  refused_else (Ops.Size text how) other = refl
  refused_else (Ops.Modified text) other = refl
  refused_else (Ops.Facts text) other = refl
  refused_else (Ops.List text how) other = refl
  refused_else (Ops.Names text how) other = refl
  refused_else (Ops.Text verb text how) other = refl

  -- and the same is done
  done_else : (op : Op (List ℕ)) (moment : ℕ) → RenamesNothing op
      → done some op moment ≡ ((done all op moment).0, record (done all op moment).1 { rights = some.rights })
  done_else Ops.Where moment other = refl
  done_else (Ops.ChangeDir text) moment other = refl
  done_else Ops.Up moment other = refl
  done_else (Ops.MakeDir text) moment other = refl
  done_else (Ops.RemoveDir text) moment other = refl
  done_else (Ops.Delete text) moment other = refl
  done_else (Ops.Rename text new) moment other = absurd other
  done_else (Ops.Put text octets how) moment other = refl
  done_else (Ops.Append text octets how) moment other = refl
  done_else (Ops.PutFrom text offset octets how) moment other = refl
  done_else (Ops.Get text how) moment other = refl
  done_else (Ops.GetFrom text offset how) moment other = refl
  done_else (Ops.Peek text count how) moment other = refl
  done_else (Ops.Size text how) moment other = refl
  done_else (Ops.Modified text) moment other = refl
  done_else (Ops.Facts text) moment other = refl
  done_else (Ops.List text how) moment other = refl
  done_else (Ops.Names text how) moment other = refl
  done_else (Ops.Text verb text how) moment other = refl

  chosen_else : (why : Option Refusal) (op : Op (List ℕ)) (moment : ℕ) → RenamesNothing op
      → chosen why some (done some op moment) ≡ ((chosen why all (done all op moment)).0, record (chosen why all (done all op moment)).1 { rights = some.rights })
  chosen_else None op moment other = done_else op moment other
  chosen_else (Some why) op moment other = refl

  -- so it is answered alike
  pub due_else : {A E : Type 0} (result : Result (Answer A) E) (before after : Failures) (new : Table) (at : Names) (op : Op (List ℕ)) (moment : ℕ) → RenamesNothing op
      → IfOk result (λ answer. IsAnswer before after (due all op moment) all (said_of answer) (here new root at))
      → IfOk result (λ answer. IsAnswer before after (due some op moment) some (said_of answer) (here_onto new root at onto))
  due_else (Ok answer) before after new at op moment other is =
      let same : due some op moment ≡ ((due all op moment).0, record (due all op moment).1 { rights = some.rights }) =
      ap (λ why. chosen why some (done some op moment)) (refused_else op other) ∙ chosen_else (refusal all op) op moment other in
      subst (λ due. IsAnswer before after due some (said_of answer) (here_onto new root at onto)) (sym same)
      (answer_alike before after some.rights (due all op moment) all (here new root at) (said_of answer) is)
  due_else (Err fault) before after new at op moment other is = tt

-- ---- an account without a right to change

-- no operation changes the rights
rights_stay : (state : State) (op : Op (List ℕ)) (moment : ℕ) → (done state op moment).1.rights ≡ state.rights
rights_stay state Ops.Where moment = refl
rights_stay state (Ops.ChangeDir text) moment = refl
rights_stay state Ops.Up moment = refl
rights_stay state (Ops.MakeDir text) moment = refl
rights_stay state (Ops.RemoveDir text) moment = refl
rights_stay state (Ops.Delete text) moment = refl
rights_stay state (Ops.Rename text new) moment = refl
rights_stay state (Ops.Put text octets how) moment = refl
rights_stay state (Ops.Append text octets how) moment = refl
rights_stay state (Ops.PutFrom text offset octets how) moment = refl
rights_stay state (Ops.Get text how) moment = refl
rights_stay state (Ops.GetFrom text offset how) moment = refl
rights_stay state (Ops.Peek text count how) moment = refl
rights_stay state (Ops.Size text how) moment = refl
rights_stay state (Ops.Modified text) moment = refl
rights_stay state (Ops.Facts text) moment = refl
rights_stay state (Ops.List text how) moment = refl
rights_stay state (Ops.Names text how) moment = refl
rights_stay state (Ops.Text verb text how) moment = refl

-- the first of two refusals is none where both are
pub first_is_none : (one other : Option Refusal) → or_refused one other ≡ None → one ≡ None
first_is_none None other none = refl
first_is_none (Some why) other none = absurd (cc)

second_is_none : (one other : Option Refusal) → or_refused one other ≡ None → other ≡ None
second_is_none None other none = none
second_is_none (Some why) other none = absurd (cc)

-- who is not refused is known
known_is_none : (known : Bool) (why : Option Refusal) → (if known then why else Some NotLoggedIn) ≡ None → why ≡ None
known_is_none true why none = none
known_is_none false why none = absurd (cc)

-- a right that there is not is wanting
pub wanting : (Holds : Type 0) (may : Bool) → may ≡ false → barred may ≡ None → Holds
wanting Holds true is none = absurd (cc)
wanting Holds false is none = absurd (cc)

pub no_put : (Holds : Type 0) (state : State) (path : Names) → state.rights ≡ no_rights → barred_put state path ≡ None → Holds
no_put Holds state path is none = wanting Holds _ (ap (λ rights. may_put rights (fits path && is_file (node_at (part state) path))) is) none

-- what is not refused changes nothing
pub done_looks : (state : State) (op : Op (List ℕ)) (moment : ℕ) → state.rights ≡ no_rights → refusal state op ≡ None → (done state op moment).1.table ≡ state.table
done_looks state Ops.Where moment is none = refl
done_looks state (Ops.ChangeDir text) moment is none = refl
done_looks state Ops.Up moment is none = refl
done_looks state (Ops.MakeDir text) moment is none = wanting _ state.rights.make_dir (ap (λ rights. rights.make_dir) is) (first_is_none _ _ none)
done_looks state (Ops.RemoveDir text) moment is none = wanting _ state.rights.remove_dir (ap (λ rights. rights.remove_dir) is) (first_is_none _ _ none)
done_looks state (Ops.Delete text) moment is none = wanting _ state.rights.delete (ap (λ rights. rights.delete) is) (first_is_none _ _ none)
done_looks state (Ops.Rename text new) moment is none = wanting _ state.rights.rename (ap (λ rights. rights.rename) is) (first_is_none _ _ none)
done_looks state (Ops.Put text octets how) moment is none = no_put _ state _ is (first_is_none _ _ none)
done_looks state (Ops.Append text octets how) moment is none = no_put _ state _ is (first_is_none _ _ none)
done_looks state (Ops.PutFrom text offset octets how) moment is none = no_put _ state _ is (first_is_none _ _ (second_is_none (offset_refusal offset how) _ none))
done_looks state (Ops.Get text how) moment is none = refl
done_looks state (Ops.GetFrom text offset how) moment is none = refl
done_looks state (Ops.Peek text count how) moment is none = refl
done_looks state (Ops.Size text how) moment is none = refl
done_looks state (Ops.Modified text) moment is none = refl
done_looks state (Ops.Facts text) moment is none = refl
done_looks state (Ops.List text how) moment is none = refl
done_looks state (Ops.Names text how) moment is none = refl
done_looks state (Ops.Text verb text how) moment is none = refl

-- a map and rights that stay
abbrev Looks : State → State → Type 0
Looks old new = (new.table ≡ old.table) × (new.rights ≡ old.rights)

chosen_looks : (sent : Bool) (why : Option Refusal) (state : State) (done : Said × State) → (why ≡ None → Looks state done.1)
    → Looks state (if sent then chosen why state done else (BadOperation, state)).1
chosen_looks false why state done looks = (refl, refl)
chosen_looks true None state done looks = looks refl
chosen_looks true (Some why) state done looks = (refl, refl)

answer_looks : (state : State) (op : Op (List ℕ)) (moment : ℕ) → state.rights ≡ no_rights → Looks state (answer state op moment).1
unfolding answer
answer_looks state op moment is =
    chosen_looks (can_be_sent op) (first_refusal state op) state (done state op moment)
    (λ none. (done_looks state op moment is (known_is_none state.known (refusal state op) none), rights_stay state op moment))

pub lookers_change_nothing : LookersChangeNothing
unfolding answers
lookers_change_nothing state [] is = refl
lookers_change_nothing state (order ∷ orders) is =
    let now = answer_looks state order.0 order.1 is in
    lookers_change_nothing (answer state order.0 order.1).1 orders (now.1 ∙ is) ∙ now.0
