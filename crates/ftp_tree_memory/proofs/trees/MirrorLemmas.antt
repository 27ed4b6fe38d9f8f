-- What a folder keeps beside its tree, and what a mirror answers.
use Rattle.std.proofs.Common.{ℕ, ◌≡◌, inl, inr, true, false, Option, Some, None, is_some, Result, Ok, Err, OnOk, OnErr, refl, sym, ap, ◌∙◌, subst, arith}
use Rattle.std.specs.Result.{is_err}
use Rattle.std.specs.Option.{option_map}
use Rattle.std.specs.Prelude.{IfErr}
use Rattle.std.proofs.lemmas.Result.{IfErr-weaker, on_ok_weaker}
use Rattle.std.proofs.lemmas.Bool.{true≢false}
use Rattle.ftp_path.specs.Path.{Names}
use Rattle.ftp_tree.specs.Change.{IsDone, IsRefused, Refuses, next_count, Failures, never_strayed}
use Rattle.ftp_tree.specs.Map.{Node, Dir, File}
use Rattle.ftp_tree.specs.Tree.{Table, delete_refusal, file_refusal, install_refusal, kind_at, kind_of, node_at, room_answer, room_refusal, under}
use Rattle.ftp_tree.specs.declared.fault.TreeFault.{TreeFault}
use Rattle.ftp_tree.specs.declared.fault.TreeFault.TheVariants.{Device}
use Rattle.ftp_tree.proofs.TableLemmas.{both-none}
use Rattle.ftp_tree_memory.specs.trees.Folder.{Mirrors, SparesUnknown}

-- ---- what a call that did not fail says, and what one that failed does

pub on-ok : {X Y P : Type 0} (r : Result X Y) → is_err r ≡ false → OnOk r P → P
on-ok (Ok x) told holds = holds
on-ok (Err x) told holds = absurd (true≢false told)

pub on-err : {X Y P : Type 0} (r : Result X Y) → is_err r ≡ true → OnErr r P → P
on-err (Ok x) told holds = absurd (true≢false (sym told))
on-err (Err x) told holds = holds

pub always-ok : {X Y P : Type 0} (r : Result X Y) → P → OnOk r P
always-ok (Ok x) holds = holds
always-ok (Err x) holds = tt

-- ---- what the folder keeps

some-same : (one other : Table) → Some one ≡ Some other → one ≡ other
some-same one other is = cc

none-some : (table : Table) → None ≡ Some table → ⊥
none-some table is = cc

pub mirrors-on : (kept new : Option Table) (change : Table → Table) (table : Table) → Mirrors kept table → new ≡ option_map change kept → Mirrors new (change table)
mirrors-on None new change table all is its held = absurd (none-some its (sym is ∙ held))
mirrors-on (Some old) new change table all is its held = some-same its (change old) (sym held ∙ is) ∙ ap change (all old refl)

-- ---- what is answered

pub refuses-as : (refusal : Option TreeFault) (fault : TreeFault) (before after : Failures) → refusal ≡ None → Refuses None fault before after → Refuses refusal fault before after
refuses-as refusal fault before after none told = subst (λ r. Refuses r fault before after) (sym none) told

pub refuses-device : (refusal : Option TreeFault) (before after : ℕ) → refusal ≡ None → after ≡ next_count before
    → Refuses refusal Device (never_strayed before) (never_strayed after)
refuses-device refusal before after none failed = refuses-as refusal Device (never_strayed before) (never_strayed after) none (inr (refl, ap never_strayed failed))

-- of a tree in memory, which has no device
steady : (refusal : Option TreeFault) (fault : TreeFault) (count : ℕ) → Refuses refusal fault (never_strayed 0) (never_strayed 0)
    → Refuses refusal fault (never_strayed count) (never_strayed count)
steady (Some why) fault count is = (is.0, refl)
steady None fault count (inl is) = inl (is.0, refl)
steady None fault count (inr is) = absurd (omega (arith, ap (λ f. f.told) is.1))

pub done-steady : {X : Type 0} (r : Result X TreeFault) (refusal : Option TreeFault) (changed new : Table) (count : ℕ)
    → OnOk r (IsDone refusal changed new (never_strayed 0) (never_strayed 0)) → OnOk r (IsDone refusal changed new (never_strayed count) (never_strayed count))
done-steady r refusal changed new count = on_ok_weaker r (λ is. (is.0, is.1, refl))

pub refused-steady : {X : Type 0} (r : Result X TreeFault) (refusal : Option TreeFault) (old new : Table) (count : ℕ)
    → IfErr r (λ fault. IsRefused refusal fault old new (never_strayed 0) (never_strayed 0)) → IfErr r (λ fault. IsRefused refusal fault old new (never_strayed count) (never_strayed count))
refused-steady r refusal old new count = IfErr-weaker r _ _ (λ fault is. (is.0, steady refusal fault count is.1))

-- ---- where a file is put

file-room : (node : Option Node) (table : Table) (path : Names) → room_answer node table path ≡ None → is_some (option_map kind_of node) ≡ true → file_refusal node ≡ None
file-room None table path none some = absurd (true≢false (sym some))
file-room (Some Dir) table path none some = none
file-room (Some (File octets moment)) table path none some = refl

pub install-over : (table : Table) (path : Names) (count : ℕ) → install_refusal table path count ≡ None → is_some (kind_at table path) ≡ true → delete_refusal table path ≡ None
unfolding install_refusal room_refusal kind_at delete_refusal
install-over table path count none some = file-room (node_at table path) table path (both-none _ _ none).0 some

absent-node : (node : Option Node) → is_some (option_map kind_of node) ≡ false → node ≡ None
absent-node None none = refl
absent-node (Some node) none = absurd (true≢false none)

pub kind-absent : (table : Table) (path : Names) → is_some (kind_at table path) ≡ false → node_at table path ≡ None
unfolding kind_at
kind-absent table path none = absent-node (node_at table path) none

-- where the map has something at a path, nothing that it does not know stands there
pub spares-known : (table : Table) (kept : Option Table) (root path : Names) → is_some (kind_at (under table root) path) ≡ true → SparesUnknown table kept root path
unfolding kind_at
spares-known table kept root path some none = absurd (true≢false (sym some ∙ ap (λ node. is_some (option_map kind_of node)) none))
