-- A change that the disk made or not, as the tree tells it.
use Rattle.std.proofs.Common.{◌≡◌, ◌≤◌, ℕ, ◌+◌, ◌-◌, min, List, [], ◌++◌, length, take, drop, inr, false, Option, Some, None, Result, Ok, Err, OnOk, refl, sym, ap, ap₂, ◌∙◌, subst, arith}
use Rattle.std.specs.Prelude.{IfErr}
use Rattle.std.specs.Option.{unwrap_or}
use Rattle.std.specs.Result.{is_err}
use Rattle.std.proofs.lemmas.Bool.{true≢false}
use Rattle.std.proofs.lemmas.Result.{IfErr-weaker, on_ok_weaker}
use Rattle.std.proofs.lemmas.List.{length-append, length-drop, length-take, take_all, take_min}
use Rattle.ftp_path.specs.Path.{Names}
use Rattle.ftp_tree.specs.Change.{Failures, IsDone, IsRefused, IsSteady, NoStray, Refuses, Tells, one_failure_more}
use Rattle.ftp_tree.specs.Map.{Node, Dir, File, octets_of, of_node}
use Rattle.ftp_tree.specs.Tree.{Table, delete_refusal, file_refusal, install_refusal, node_at, octets_at, octets_or_none, installed, room_answer, room_refusal, under, with_part}
use Rattle.ftp_tree.specs.declared.fault.TreeFault.{TreeFault}
use Rattle.ftp_tree.specs.declared.fault.TreeFault.TheVariants.{Device}
use Rattle.ftp_tree.proofs.DeviceLemmas.{refused-tells}
use Rattle.ftp_tree.proofs.TableLemmas.{both-none}
use Rattle.ftp_tree_nodes.proofs.PlacingLemmas.{IsHad}
use Rattle.ftp_disk_tree.specs.declared.answer.Front.{Front}
use Rattle.ftp_disk_tree.specs.Put.{IsPut}
use Rattle.ftp_disk_tree.specs.Stray.{strays_between, front_of}
use Rattle.ftp_disk_scan.specs.loading.Held.{fit}
use Rattle.ftp_disk_tree.proofs.StrayLemmas.{held-same}
use Rattle.ftp_disk_scan.proofs.loading.HeldLemmas.{length_fit}

-- ---- what a call that did not fail says

pub on-ok : {X Y P : Type 0} (r : Result X Y) → is_err r ≡ false → OnOk r P → P
on-ok (Ok x) told holds = holds
on-ok (Err x) told holds = absurd (true≢false told)

-- ---- how a refusal tells of the device

pub refuses-as : (refusal : Option TreeFault) (fault : TreeFault) (before after : Failures) → refusal ≡ None → Refuses None fault before after → Refuses refusal fault before after
refuses-as refusal fault before after none told = subst (λ r. Refuses r fault before after) (sym none) told

pub refuses-device : (refusal : Option TreeFault) (before after : Failures) → refusal ≡ None → after ≡ one_failure_more before → Refuses refusal Device before after
refuses-device refusal before after none failed = refuses-as refusal Device before after none (inr (refl, failed))

-- a call that failed in no way and did not stray left the counts as they were
pub calm-same : (before after : Failures) → IsSteady before after → NoStray before after → after ≡ before
calm-same before after steady calm = both before.told after.told before.strays after.strays steady.0 calm
  where
    both : (t t' s s' : ℕ) → t' ≡ t → s' ≡ s → (let one : Failures = record { told = t'; strays = s' } in one) ≡ record { told = t; strays = s }
    both t t' s s' told strays = cc

-- ---- where a file is put

absent-node : (node : Option Node) (table : Table) (path : Names) → room_answer node table path ≡ None → (file_refusal node ≡ None → ⊥) → node ≡ None
absent-node None table path none other = refl
absent-node (Some Dir) table path none other = cc
absent-node (Some (File octets moment)) table path none other = absurd (other refl)

-- a file stands where one can be deleted
pub file-deleted : (table : Table) (path : Names) → file_refusal (node_at table path) ≡ None → delete_refusal table path ≡ None
unfolding delete_refusal
file-deleted table path none = none

pub no-file : (table : Table) (path : Names) (fault : TreeFault) → file_refusal (node_at table path) ≡ Some fault → delete_refusal table path ≡ None → ⊥
unfolding delete_refusal
no-file table path fault why none = some-none fault (sym why ∙ none)
  where
    some-none : (why : TreeFault) → Some why ≡ None → ⊥
    some-none why is = cc

-- where no file stands, and one can be put, nothing stands
pub put-absent : (table : Table) (path : Names) (count : ℕ) → install_refusal table path count ≡ None → (delete_refusal table path ≡ None → ⊥) → node_at table path ≡ None
unfolding install_refusal room_refusal delete_refusal
put-absent table path count none other = absent-node (node_at table path) table path (both-none _ _ none).0 other

-- and no octets of it are kept
pub absent-kept : (table : Table) (path : Names) (keep : ℕ) → node_at table path ≡ None → [] ≡ take keep (octets_or_none table path)
unfolding octets_at
absent-kept table path keep absent = sym (ap (λ node. take keep (unwrap_or (of_node octets_of node) [])) absent ∙ take_all keep [] (omega arith))

-- the first octets of a file, so many of them as it has
pub kept-front : (octets there : List ℕ) (keep len kept : ℕ) → octets ≡ there → length octets ≡ len → kept ≡ min keep len → take kept octets ≡ take keep there
kept-front octets there keep len kept is many are = ap (λ n. take n octets) (are ∙ ap (min keep) (sym many)) ∙ take_min keep octets ∙ ap (take keep) is

-- the parts of a put
pub put-is : (holds : ℕ → List ℕ) (version given number len many : ℕ) (old between new : Table) (root path : Names) (octets : List ℕ) (moment : ℕ) (before after : Failures)
    → between ≡ old → version ≡ given → number ≡ version → many ≡ len → length octets ≡ len
    → new ≡ with_part between root (installed (under between root) path (fit many (holds number)) moment)
    → after.strays ≡ before.strays + strays_between (fit len (holds given)) octets → after.told ≡ before.told
    → IsPut holds version old new root path octets moment before after
put-is holds version given number len many old between new root path octets moment before after same given_is number_is many_is len_is table strays told = record {
  table = table ∙ ap (λ t. with_part t root (installed (under t root) path (fit many (holds number)) moment)) same
      ∙ ap₂ (λ l v. with_part old root (installed (under old root) path (fit l (holds v)) moment)) (many_is ∙ sym len_is) number_is;
  strays = strays ∙ ap₂ (λ l v. before.strays + strays_between (fit l (holds v)) octets) (sym len_is) (sym given_is);
  told = told;
}

-- what was put, by another name
pub put-as : {X : Type 0} (r : Result X TreeFault) (holds : ℕ → List ℕ) (version : ℕ) (old new : Table) (root path : Names) (one other : List ℕ) (moment : ℕ) (before after : Failures)
    → one ≡ other → OnOk r (IsPut holds version old new root path one moment before after) → OnOk r (IsPut holds version old new root path other moment before after)
put-as r holds version old new root path one other moment before after same =
    let P : List ℕ → Type 0 = λ octets. OnOk r (IsPut holds version old new root path octets moment before after) in
    subst P same

-- what was put in a place that was made for it
pub put-over : (holds : ℕ → List ℕ) (version : ℕ) (old place new : Table) (root path : Names) (octets : List ℕ) (moment : ℕ) (before after : Failures)
    → IsHad old place root path → IsPut holds version place new root path octets moment before after → IsPut holds version old new root path octets moment before after
put-over holds version old place new root path octets moment before after had put = record {
  table = put.table ∙ had.over (fit (length octets) (holds version)) moment;
  strays = put.strays;
  told = put.told;
}

-- where that did not stray, those octets stand there
pub put-done : {X : Type 0} (r : Result X TreeFault) (holds : ℕ → List ℕ) (version : ℕ) (old new : Table) (root path : Names) (octets : List ℕ) (moment : ℕ) (before after : Failures)
    → install_refusal (under old root) path (length octets) ≡ None → OnOk r (IsPut holds version old new root path octets moment before after) → NoStray before after
    → OnOk r (IsDone (install_refusal (under old root) path (length octets)) (with_part old root (installed (under old root) path octets moment)) new before after)
put-done r holds version old new root path octets moment before after none is calm = on_ok_weaker r done is
  where
    done : IsPut holds version old new root path octets moment before after
        → IsDone (install_refusal (under old root) path (length octets)) (with_part old root (installed (under old root) path octets moment)) new before after
    done put =
        let same = held-same (fit (length octets) (holds version)) octets (omega (arith, put.strays, calm)) in (
          none,
          put.table ∙ ap (λ there. with_part old root (installed (under old root) path there moment)) same,
          calm-same before after (put.told, omega (arith, calm)) calm,
        )

-- and how that moves the counts
pub put-tells : {X : Type 0} (r : Result X TreeFault) (holds : ℕ → List ℕ) (version : ℕ) (old new : Table) (root path : Names) (octets : List ℕ) (moment : ℕ) (before after : Failures)
    → OnOk r (IsPut holds version old new root path octets moment before after) → IfErr r (λ fault. IsRefused None fault old new before after) → Tells r before after
put-tells (Ok value) holds version old new root path octets moment before after put refused = (put.told, omega (arith, put.strays))
put-tells {X = X} (Err fault) holds version old new root path octets moment before after put refused = refused-tells X None fault before after (λ e. cc) refused.1

-- refused with no reason of the map
pub refused-as : {X : Type 0} (r : Result X TreeFault) (refusal : Option TreeFault) (old new : Table) (before after : Failures) → refusal ≡ None
    → IfErr r (λ fault. IsRefused None fault old new before after) → IfErr r (λ fault. IsRefused refusal fault old new before after)
refused-as r refusal old new before after none = IfErr-weaker r _ _ (λ fault refused. (refused.0, refuses-as refusal fault before after none refused.1))

-- as many octets as are kept and came
pub put-len : (holds : ℕ → List ℕ) (front : Front) (octets : List ℕ) (len : ℕ) → front.count ≤ front.len → len ≡ front.count + length octets
    → length (front_of holds front ++ octets) ≡ len
put-len holds front octets len within is =
    let held = fit front.len (holds front.version) in
    omega (arith, is, within, length-append (take front.count held) octets, length-take front.count held, length_fit front.len (holds front.version))

-- the count is that of all octets
pub put-free : (table : Table) (path : Names) (there came : List ℕ) (count : ℕ) → install_refusal table path (length there + count) ≡ None → count ≡ length came
    → install_refusal table path (length (there ++ came)) ≡ None
put-free table path there came count none is = ap (install_refusal table path) (length-append there came ∙ ap (λ n. length there + n) (sym is)) ∙ none

-- ---- how many octets are read

-- so many octets are there from a place on
pub within_left : (octets : List ℕ) (at len count want room : ℕ) → length octets ≡ len → want ≡ min (len - at) room → count ≤ want → (count ≤ room) × (count ≤ length (drop at octets))
within_left octets at len count want room many is few = (omega (arith, is, few), omega (arith, length-drop at octets, many, is, few))
