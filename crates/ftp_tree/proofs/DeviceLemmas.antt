-- A refusal by the map is no failure of the device, and how a refused call moves the counts.
use Rattle.std.proofs.Common.{◌≡◌, ◌≢◌, ℕ, inl, inr, List, Option, Some, None, Result, Ok, Err, IfErr, OnOk, refl, ap, sym, ◌∙◌, subst, Bool, true, false, ◌∷◌, [], arith}
use Rattle.ftp_path.specs.Path.{Names}
use Rattle.ftp_tree.specs.Change.{Failures, IsDone, IsRefused, IsSteady, Refuses, Tells}
use Rattle.ftp_tree.specs.Tree.{Table, or_else, whenever, directory_refusal, empty_refusal, remove_answer, file_refusal, source_answer, room_answer, make_refusal, remove_refusal, delete_refusal, source_refusal, target_refusal, rename_refusal, room_refusal, install_refusal}
use Rattle.ftp_tree.specs.Map.{Node, Dir, File}
use Rattle.ftp_tree.specs.declared.fault.TreeFault.{TreeFault}
use Rattle.ftp_tree.specs.declared.fault.TreeFault.TheVariants.{Absent, Exists, NotEmpty, WrongKind, TooBig, Full, Busy, BadOffset, Device, Memory}

-- ---- a reason by the map is no failure of the device

abbrev pub NoDevice : Option TreeFault → Type 0
NoDevice refusal = refusal ≡ Some Device → ⊥

or_else-no : (first second : Option TreeFault) → NoDevice first → NoDevice second → NoDevice (or_else first second)
or_else-no None second f s = s
or_else-no (Some fault) second f s = f

whenever-no : (holds : Bool) (fault : TreeFault) → fault ≢ Device → NoDevice (whenever holds fault)
whenever-no false fault other e = cc
whenever-no true fault other e = other (cc)

directory-no : (node : Option Node) → NoDevice (directory_refusal node)
directory-no None e = cc
directory-no (Some Dir) e = cc
directory-no (Some (File octets moment)) e = cc

pub make-no : (table : Table) (path : Names) → NoDevice (make_refusal table path)
unfolding make_refusal
make-no table path =
    or_else-no _ _ (whenever-no _ Exists (λ e. cc)) (or_else-no _ _ (or_else-no _ _ (directory-no _) (whenever-no _ TooBig (λ e. cc))) (whenever-no _ Full (λ e. cc)))

empty-no : (names : List (List ℕ)) (path : Names) → NoDevice (empty_refusal names path)
empty-no (name ∷ names) path e = cc
empty-no [] [] e = cc
empty-no [] (name ∷ names) e = cc

remove_answer-no : (node : Option Node) (names : List (List ℕ)) (path : Names) → NoDevice (remove_answer node names path)
remove_answer-no None names path e = cc
remove_answer-no (Some (File octets moment)) names path e = cc
remove_answer-no (Some Dir) names path e = empty-no names path e

pub remove-no : (table : Table) (path : Names) → NoDevice (remove_refusal table path)
unfolding remove_refusal
remove-no table path = remove_answer-no _ _ path

file-no : (node : Option Node) → NoDevice (file_refusal node)
file-no None e = cc
file-no (Some Dir) e = cc
file-no (Some (File octets moment)) e = cc

pub delete-no : (table : Table) (path : Names) → NoDevice (delete_refusal table path)
unfolding delete_refusal
delete-no table path = file-no _

source_answer-no : (node : Option Node) (path : Names) → NoDevice (source_answer node path)
source_answer-no None path e = cc
source_answer-no (Some node) [] e = cc
source_answer-no (Some node) (name ∷ names) e = cc

source-no : (table : Table) (path : Names) → NoDevice (source_refusal table path)
unfolding source_refusal
source-no table path = source_answer-no _ path

target-no : (table : Table) (from to : Names) → NoDevice (target_refusal table from to)
unfolding target_refusal
target-no table from to =
    or_else-no _ _ (whenever-no _ Exists (λ e. cc)) (or_else-no _ _ (whenever-no _ WrongKind (λ e. cc)) (or_else-no _ _ (directory-no _) (whenever-no _ TooBig (λ e. cc))))

pub rename-no : (table : Table) (from to : Names) → NoDevice (rename_refusal table from to)
unfolding rename_refusal
rename-no table from to = or_else-no _ _ (source-no table from) (target-no table from to)

room_answer-no : (node : Option Node) (table : Table) (path : Names) → NoDevice (room_answer node table path)
room_answer-no (Some Dir) table path e = cc
room_answer-no (Some (File octets moment)) table path e = cc
room_answer-no None table path e = or_else-no _ _ (or_else-no _ _ (directory-no _) (whenever-no _ TooBig (λ e. cc))) (whenever-no _ Full (λ e. cc)) e

pub install-no : (table : Table) (path : Names) (count : ℕ) → NoDevice (install_refusal table path count)
unfolding install_refusal room_refusal
install-no table path count = or_else-no _ _ (room_answer-no _ table path) (or_else-no _ _ (whenever-no _ TooBig (λ e. cc)) (whenever-no _ Full (λ e. cc)))

-- ---- how counts move

-- counts that are as they were tell no failure
pub same-steady : (before after : Failures) → after ≡ before → IsSteady before after
same-steady before after same = (ap (λ f. f.told) same, omega (arith, ap (λ f. f.strays) same))

-- a refusal that is not the device's tells no failure
other-tells : (X : Type 0) (fault : TreeFault) (before after : Failures) → fault ≢ Device → IsSteady before after → Tells {X = X} (Err fault) before after
other-tells X Absent before after other is = is
other-tells X Exists before after other is = is
other-tells X NotEmpty before after other is = is
other-tells X WrongKind before after other is = is
other-tells X TooBig before after other is = is
other-tells X Full before after other is = is
other-tells X Busy before after other is = is
other-tells X BadOffset before after other is = is
other-tells X Device before after other is = absurd (other refl)
other-tells X Memory before after other is = is

-- a refused call of a device that did not stray tells a failure just where the device is the reason
pub refused-tells : (X : Type 0) (refusal : Option TreeFault) (fault : TreeFault) (before after : Failures) → NoDevice refusal → Refuses refusal fault before after
    → Tells {X = X} (Err fault) before after
refused-tells X (Some why) fault before after none is = other-tells X fault before after (λ e. none (ap Some (sym is.0 ∙ e))) (same-steady before after is.1)
refused-tells X None fault before after none (inl is) = other-tells X fault before after (λ e. memory-other (sym is.0 ∙ e)) (same-steady before after is.1)
  where
    memory-other : Memory ≢ Device
    memory-other e = cc
refused-tells X None fault before after none (inr is) =
    subst (λ f. Tells {X = X} (Err f) before after) (sym is.0) (ap (λ f. f.told) is.1, omega (arith, ap (λ f. f.strays) is.1))

-- the same of a call that may be done
pub call-tells : (X : Type 0) (r : Result X TreeFault) (refusal : Option TreeFault) (changed old new : Table) (before after : Failures) → NoDevice refusal
    → OnOk r (IsDone refusal changed new before after) → IfErr r (λ fault. IsRefused refusal fault old new before after) → Tells r before after
call-tells X (Ok value) refusal changed old new before after none did failed = same-steady before after did.2
call-tells X (Err fault) refusal changed old new before after none did failed = refused-tells X refusal fault before after none failed.1

-- a call that is refused by the map before anything is asked of the device tells no failure
pub map-tells : (X : Type 0) (refusal : Option TreeFault) (fault : TreeFault) (count : Failures) → NoDevice refusal → refusal ≡ Some fault → Tells {X = X} (Err fault) count count
map-tells X refusal fault count none is = other-tells X fault count count (λ e. none (is ∙ ap Some e)) (same-steady count count refl)
