-- A file in the place of another: where it may take it, and that nothing refuses the move then but the device.
use Rattle.std.proofs.Common.{◌≡◌, ◌≢◌, ℕ, Bool, true, false, not, ◌&&◌, Option, Some, None, Result, Ok, Err, IfErr, OnOk, is_none, refl, ap, sym, subst, ◌∙◌}
use Rattle.ftp_path.specs.Path.{Names, fits, is_within}
use Rattle.ftp_tree.specs.Change.{Failures, IsDone, IsRefused}
use Rattle.ftp_tree.specs.Sound.{IsSoundTree}
use Rattle.ftp_tree.specs.Map.{Node, Dir, File}
use Rattle.ftp_tree.specs.Tree.{Table, file_refusal, freed, moved, node_at, onto_refusal, rename_refusal, takes_place, under, with_part}
use Rattle.ftp_tree.specs.declared.fault.TreeFault.{TreeFault}
use Rattle.ftp_tree.proofs.KeepLaws.{not-freed, stays-freed, takes-onto}
use Rattle.ftp_tree.proofs.OntoLemmas.{free-freed, part-tree}
use Rattle.ftp_direct.specs.Direct.{is_file}

-- ---- where it may

file_none : (node : Option Node) → is_none (file_refusal node) ≡ is_file node
file_none None = refl
file_none (Some Dir) = refl
file_none (Some (File octets moment)) = refl

takes_is : (table : Table) (from to : Names)
    → takes_place table from to ≡ (is_file (node_at table from) && (is_file (node_at table to) && not (is_within from to)))
unfolding takes_place
takes_is table from to =
    ap (λ b. b && (is_none (file_refusal (node_at table to)) && not (is_within from to))) (file_none (node_at table from))
    ∙ ap (λ b. is_file (node_at table from) && (b && not (is_within from to))) (file_none (node_at table to))

pub no_source : (table : Table) (from to : Names) → is_file (node_at table from) ≡ false → takes_place table from to ≡ false
no_source table from to none = takes_is table from to ∙ ap (λ b. b && (is_file (node_at table to) && not (is_within from to))) none

pub no_target : (table : Table) (from to : Names) → is_file (node_at table from) ≡ true → is_file (node_at table to) ≡ false
    → takes_place table from to ≡ false
no_target table from to some none =
    takes_is table from to ∙ ap (λ b. b && (is_file (node_at table to) && not (is_within from to))) some ∙ ap (λ b. b && not (is_within from to)) none

pub both_files : (table : Table) (from to : Names) → is_file (node_at table from) ≡ true → is_file (node_at table to) ≡ true
    → takes_place table from to ≡ not (is_within from to)
both_files table from to some other =
    takes_is table from to ∙ ap (λ b. b && (is_file (node_at table to) && not (is_within from to))) some ∙ ap (λ b. b && not (is_within from to)) other

-- ---- what is moved

-- in a tree a file that may take the place of another is refused nothing
onto_free : (table : Table) (root from to : Names) → IsSoundTree table → fits to ≡ true → takes_place (under table root) from to ≡ true
    → rename_refusal (freed true (under table root) from to) from to ≡ None
onto_free table root from to sound fit takes = free-freed (under table root) from to (part-tree table root from to sound.tree takes) fit takes

-- no file is replaced: it may not be, or none stands there
pub none_taken : (table : Table) (root from to : Names) (onto : Bool) → takes_place (under table root) from to ≡ false
    → freed onto (under table root) from to ≡ under table root
none_taken table root from to onto stays = stays-freed onto (under table root) from to stays

pub none_may : (table : Table) (root from to : Names) (onto : Bool) → onto ≡ false → freed onto (under table root) from to ≡ under table root
none_may table root from to onto is = ap (λ b. freed b (under table root) from to) is ∙ not-freed (under table root) from to

module _ (table : Table) (root from to : Names) (new : Table) (before after : Failures) where
  -- what is looked at
  abbrev seen : Bool → Table
  seen onto = freed onto (under table root) from to

  abbrev Moves : (part : Table) → Option TreeFault → Type 0
  Moves part refusal = IsDone refusal (with_part table root (moved part from to)) new before after

  abbrev Refuses : Option TreeFault → TreeFault → Type 0
  Refuses refusal fault = IsRefused refusal fault table new before after

  -- moved onto a file
  pub onto_done : {X : Type 0} (onto : Bool) (result : Result X TreeFault) → onto ≡ true → IsSoundTree table → fits to ≡ true
      → takes_place (under table root) from to ≡ true
      → OnOk result (Moves (seen true) (onto_refusal (under table root) from to)) → OnOk result (Moves (seen onto) (rename_refusal (seen onto) from to))
  onto_done onto (Ok value) is sound fit takes (none, changed, kept) =
      subst (λ b. Moves (seen b) (rename_refusal (seen b) from to)) (sym is) (onto_free table root from to sound fit takes, changed, kept)
  onto_done onto (Err fault) is sound fit takes done = tt

  pub onto_refused : {X : Type 0} (onto : Bool) (result : Result X TreeFault) → onto ≡ true → IsSoundTree table → fits to ≡ true
      → takes_place (under table root) from to ≡ true
      → IfErr result (Refuses (onto_refusal (under table root) from to)) → IfErr result (Refuses (rename_refusal (seen onto) from to))
  onto_refused onto (Ok value) is sound fit takes refused = tt
  onto_refused onto (Err fault) is sound fit takes refused =
      subst (λ refusal. Refuses refusal fault)
      (takes-onto (under table root) from to takes ∙ sym (ap (λ b. rename_refusal (seen b) from to) is ∙ onto_free table root from to sound fit takes)) refused

  -- moved where no file is replaced
  pub plain_done : {X : Type 0} (onto : Bool) (result : Result X TreeFault) → seen onto ≡ under table root
      → OnOk result (Moves (under table root) (rename_refusal (under table root) from to)) → OnOk result (Moves (seen onto) (rename_refusal (seen onto) from to))
  plain_done onto result same done = subst (λ part. OnOk result (Moves part (rename_refusal part from to))) (sym same) done

  pub plain_refused : {X : Type 0} (onto : Bool) (result : Result X TreeFault) → seen onto ≡ under table root
      → IfErr result (Refuses (rename_refusal (under table root) from to)) → IfErr result (Refuses (rename_refusal (seen onto) from to))
  plain_refused onto result same refused = subst (λ part. IfErr result (Refuses (rename_refusal part from to))) (sym same) refused
