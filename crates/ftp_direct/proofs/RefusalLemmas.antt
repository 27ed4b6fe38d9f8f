-- A call that the tree refused: what it makes of an operation.
use Rattle.std.proofs.Common.{◌≡◌, ◌≢◌, ℕ, arith, inl, inr, List, Option, Some, None, Result, Ok, Err, IfOk, OnOk, is_some, refl, ap, sym, ◌∙◌, subst, Bool, true, false, ◌∷◌, [], if◌then◌else◌}
use mathlib.Core.Bool.{false≢true, true≢false}
use Rattle.ftp_tree.specs.Change.{Failures, IsRefused, one_failure_more}
use Rattle.ftp_tree.proofs.CountLemmas.{next_count-moves}
use Rattle.ftp_tree.proofs.DeviceLemmas.{NoDevice, same-steady}
use Rattle.ftp_path.specs.Path.{Names}
use Rattle.ftp_tree.specs.Tree.{Table, or_else, whenever, directory_refusal, empty_refusal, remove_answer, file_refusal, source_answer, make_refusal, remove_refusal, delete_refusal, source_refusal, target_refusal, rename_refusal}
use Rattle.ftp_tree.specs.Map.{Node, Dir, File}
use Rattle.ftp_tree.specs.declared.fault.TreeFault.{TreeFault}
use Rattle.ftp_tree.specs.declared.fault.TreeFault.TheVariants.{Absent, Exists, NotEmpty, WrongKind, TooBig, Full, Busy, BadOffset, Device, Memory}
use Rattle.ftp_operation.specs.declared.answer.Answer.{Answer}
use Rattle.ftp_operation.specs.Answer.{Said, Refused, said_of}
use Rattle.ftp_operation.specs.declared.op.Op.{Op}
use Rattle.ftp_direct.specs.Direct.{State, chosen, done, due, here, here_onto, refusal, refused_there}
use Rattle.ftp_direct.specs.declared.refusal.Refusal.{Refusal}
use Rattle.ftp_direct.specs.Refusal.{code_of, told}
use Rattle.ftp_direct.specs.Run.{Gives, IsAnswer}
use Rattle.ftp_direct.specs.declared.refusal.Refusal.TheVariants.{LocalFault, Unavailable}

-- ---- how it is told

told-other : (fault : TreeFault) (way : Refusal) → fault ≢ Device → told fault way ≡ way
told-other Absent way other = refl
told-other Exists way other = refl
told-other NotEmpty way other = refl
told-other WrongKind way other = refl
told-other TooBig way other = refl
told-other Full way other = refl
told-other Busy way other = refl
told-other BadOffset way other = refl
told-other Device way other = absurd (other refl)
told-other Memory way other = refl

-- counts in which a failure was told are others
moved-other : (before after : Failures) → after ≡ one_failure_more before → after ≢ before
moved-other before after moved kept = next_count-moves before.told (ap (λ f. f.told) (sym kept ∙ moved))

-- what a call that moved no count said and left is its answer
pub stays : (before after : Failures) (due : Said × State) (old : State) (said : Said) (new : State) → after ≡ before → Gives due said new → IsAnswer before after due old said new
stays before after due old said new kept gives = record {
  steady = λ _. gives;
  failed = λ moved. absurd (moved-other before after moved kept);
  counted = inl (same-steady before after kept);
}

-- a call that told a failure
pub fails : (before after : Failures) (due : Said × State) (old : State) (said : Said) (new : State) → after ≡ one_failure_more before → Gives (Refused (code_of LocalFault), old) said new
    → IsAnswer before after due old said new
fails before after due old said new moved gives = record {
  steady = λ kept. absurd (moved-other before after moved kept);
  failed = λ _. gives;
  counted = inr (ap (λ f. f.told) moved, omega (arith, ap (λ f. f.strays) moved));
}

-- what a refused call leaves and says is the answer: where the map gave a reason that way was due
answers : (refusal : Option TreeFault) (fault : TreeFault) (way : Refusal) (before after : Failures) (table new : Table) (root cwd : Names) (onto : Bool) (due : Said × State) (said : Said)
    → IsRefused refusal fault table new before after → fault ≢ Memory → NoDevice refusal
    → ((why : TreeFault) → refusal ≡ Some why → Gives due (Refused (code_of way)) (here_onto table root cwd onto)) → said ≡ Refused (code_of (told fault way))
    → IsAnswer before after due (here_onto table root cwd onto) said (here_onto new root cwd onto)
answers None fault way before after table new root cwd onto due said (same, inl (memory, kept)) other never is e = absurd (other memory)
answers None fault way before after table new root cwd onto due said (same, inr (device, moved)) other never is e =
    fails before after due _ said _ moved (e ∙ ap (λ f. Refused (code_of (told f way))) device, ap (λ t. here_onto t root cwd onto) same)
answers (Some why) fault way before after table new root cwd onto due said (same, (reason, kept)) other never is e =
    let ours : fault ≢ Device = λ d. never (ap Some (sym reason ∙ d)) in
    let gives = is why refl in
    stays before after due _ said _ kept (e ∙ ap (λ w. Refused (code_of w)) (told-other fault way ours) ∙ gives.0, ap (λ t. here_onto t root cwd onto) same ∙ gives.1)

pub if_refused_onto : {A E : Type 0} (result : Result (Answer A) E) (refusal : Option TreeFault) (fault : TreeFault) (way : Refusal) (before after : Failures) (table new : Table) (root cwd : Names) (onto : Bool) (due : Said × State)
    → IfOk result (λ answer. said_of answer ≡ Refused (code_of (told fault way))) → OnOk result (fault ≢ Memory)
    → IsRefused refusal fault table new before after → NoDevice refusal
    → ((why : TreeFault) → refusal ≡ Some why → Gives due (Refused (code_of way)) (here_onto table root cwd onto))
    → IfOk result (λ answer. IsAnswer before after due (here_onto table root cwd onto) (said_of answer) (here_onto new root cwd onto))
if_refused_onto (Ok answer) refusal fault way before after table new root cwd onto due e other refused never is =
    answers refusal fault way before after table new root cwd onto due (said_of answer) refused other never is e
if_refused_onto (Err why) refusal fault way before after table new root cwd onto due e other refused never is = tt

pub if_refused : {A E : Type 0} (result : Result (Answer A) E) (refusal : Option TreeFault) (fault : TreeFault) (way : Refusal) (before after : Failures) (table new : Table) (root cwd : Names) (due : Said × State)
    → IfOk result (λ answer. said_of answer ≡ Refused (code_of (told fault way))) → OnOk result (fault ≢ Memory)
    → IsRefused refusal fault table new before after → NoDevice refusal
    → ((why : TreeFault) → refusal ≡ Some why → Gives due (Refused (code_of way)) (here table root cwd))
    → IfOk result (λ answer. IsAnswer before after due (here table root cwd) (said_of answer) (here new root cwd))
if_refused result refusal fault way before after table new root cwd due = if_refused_onto result refusal fault way before after table new root cwd false due

-- ---- what is due, by the refusal

pub gives_refused : (state : State) (op : Op (List ℕ)) (moment : ℕ) (why : Refusal) → refusal state op ≡ Some why → Gives (due state op moment) (Refused (code_of why)) state
gives_refused state op moment why is =
    (ap (λ c. (chosen c state (done state op moment)).0) (sym is), ap (λ c. (chosen c state (done state op moment)).1) (sym is))

pub gives_done : (state : State) (op : Op (List ℕ)) (moment : ℕ) → refusal state op ≡ None → Gives (due state op moment) (done state op moment).0 (done state op moment).1
gives_done state op moment is =
    (ap (λ c. (chosen c state (done state op moment)).0) (sym is), ap (λ c. (chosen c state (done state op moment)).1) (sym is))

-- the same, told by an answer
pub as_told : (due : Said × State) (said other : Said) (new : State) → said ≡ other → Gives due other new → Gives due said new
as_told due said other new is gives = (is ∙ gives.0, gives.1)

-- where the tree was not called
pub still : (count : Failures) (due : Said × State) (state : State) (said : Said) → Gives due said state → IsAnswer count count due state said state
still count due state said gives = stays count count due state said state refl gives

pub there_some : (fit : Bool) (refusal : Option TreeFault) → fit ≡ true → is_some refusal ≡ true → refused_there (if fit then refusal else Some TooBig) ≡ Some Unavailable
there_some false refusal fit some = absurd (false≢true fit)
there_some true None fit some = absurd (false≢true some)
there_some true (Some fault) fit some = refl

pub there_none : (fit : Bool) (refusal : Option TreeFault) → fit ≡ true → is_some refusal ≡ false → refused_there (if fit then refusal else Some TooBig) ≡ None
there_none false refusal fit none = absurd (false≢true fit)
there_none true None fit none = refl
there_none true (Some fault) fit none = absurd (true≢false none)

-- the same answer, as it is due otherwise
pub if_due : {A E : Type 0} (result : Result (Answer A) E) (before after : Failures) (one other : Said × State) (old new : State) → one ≡ other
    → IfOk result (λ answer. IsAnswer before after one old (said_of answer) new) → IfOk result (λ answer. IsAnswer before after other old (said_of answer) new)
if_due result before after one other old new is so =
    let P : Said × State → Type 0 = λ due. IfOk result (λ answer. IsAnswer before after due old (said_of answer) new) in
    subst P is so

-- what a call that leaves the tree alone gives
pub if_gives : {A E : Type 0} (result : Result (Answer A) E) (count : Failures) (due : Said × State) (old new : State) → IfOk result (λ answer. Gives due (said_of answer) new)
    → IfOk result (λ answer. IsAnswer count count due old (said_of answer) new)
if_gives (Ok answer) count due old new gives = stays count count due old (said_of answer) new refl gives
if_gives (Err fault) count due old new gives = tt
