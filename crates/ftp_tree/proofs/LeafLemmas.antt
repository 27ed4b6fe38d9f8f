-- A node that has nothing below it comes or goes.
use Rattle.std.proofs.Common.{ℕ, ◌≡◌, true, false, cond, Option, Some, None, is_some, Contains, List, [], ◌∷◌, ◌++◌, length, refl, sym, ap, ◌∙◌, subst, arith, append_assoc}
use Rattle.std.specs.Cmp.{tied_itself}
use Rattle.std.specs.Ordering.{eq_by_cmp, is_eq}
use Rattle.std.proofs.lemmas.Bool.{true≢false}
use Rattle.std.proofs.lemmas.List.{append-nil, length-append}
use Rattle.ftp_path.specs.Path.{Names, is_within, parent, path_cmp}
use Rattle.ftp_path.proofs.KeyLemmas.{within-append}
use Rattle.ftp_tree.specs.Map.{Node, Dir, File}
use Rattle.ftp_tree.specs.Tree.{Table, IsTree, children, node_at, with_part}
use Rattle.ftp_tree.proofs.EntryLemmas.{path_total}
use Rattle.ftp_tree.proofs.KeepLaws.{alone, at-insert, at-remove, but_node, nothing, nothing-at, with_node}
use Rattle.ftp_tree.proofs.MapLemmas.{apart, false-where, same}
use Rattle.ftp_tree.proofs.LawLemmas.{children-stand, parent-append, stands-above}
use Rattle.ftp_tree.proofs.PartLemmas.{as-part}
use Rattle.ftp_tree.proofs.TableLemmas.{not-some}

-- nothing stands below a path
abbrev pub IsLeaf : Table → Names → Type 0
IsLeaf table path = (name : List ℕ) (rest : Names) → node_at table (path ++ name ∷ rest) ≡ None

first-below : (table : Table) → IsTree table → (path : Names) (name : List ℕ) (rest : Names) → is_some (node_at table (path ++ name ∷ rest)) ≡ true → is_some (node_at table (path ++ name ∷ [])) ≡ true
first-below table tree path name rest some =
    stands-above table tree (length rest) (path ++ name ∷ []) rest (omega arith) (ap (λ p. is_some (node_at table p)) (append_assoc path (name ∷ []) rest) ∙ some)

pub none-absent : (table : Table) (path : Names) → IsTree table → node_at table path ≡ None → IsLeaf table path
none-absent table path tree absent name rest =
    not-some _ (false-where _ (λ some. true≢false (sym (stands-above table tree (length (name ∷ rest)) path (name ∷ rest) (omega arith) some) ∙ ap is_some absent)))

last-up : (path : Names) (name : List ℕ) → parent (path ++ name ∷ []) ≡ path
unfolding parent
last-up path name = parent-append path name [] ∙ append-nil path

pub none-file : (table : Table) (path : Names) (octets : List ℕ) (moment : ℕ) → IsTree table → node_at table path ≡ Some (File octets moment) → IsLeaf table path
none-file table path octets moment tree file name rest =
    not-some _ (false-where _ (λ some.
    differ (sym (tree.parents (path ++ name ∷ []) (first-below table tree path name rest some)) ∙ ap (node_at table) (last-up path name) ∙ file)))
  where
    differ : ◌≡◌ {A = Option Node} (Some Dir) (Some (File octets moment)) → ⊥
    differ e = cc

pub none-empty : (table : Table) (path : Names) → IsTree table → children table path ≡ [] → IsLeaf table path
none-empty table path tree none name rest =
    not-some _ (false-where _ (λ some.
    let found = (children-stand table path name).1 (first-below table tree path name rest some) in
    let found_none : Contains [] name = subst (λ l. Contains l name) none found in
    absurd (omega (arith, found_none.1))))

-- ---- a node that has nothing below it

pub itself : (path : Names) → eq_by_cmp path_cmp path path ≡ true
itself path = ap is_eq (tied_itself path_total path)

pub longer : (path : Names) (name : List ℕ) (rest : Names) → eq_by_cmp path_cmp (path ++ name ∷ rest) path ≡ false
longer path name rest = false-where _ (λ equal. let long = ap length (same (path ++ name ∷ rest) path equal) in let all = length-append path (name ∷ rest) in absurd (omega arith))

pub outside : (path other : Names) → is_within path other ≡ false → eq_by_cmp path_cmp other path ≡ false
outside path other out = apart path other path out (ap (is_within path) (sym (append-nil path)) ∙ within-append path [])

pub put-leaf : (table : Table) (path : Names) (node : Node) → IsLeaf table path → with_part table path (alone table.limits node) ≡ with_node table path node
put-leaf table path node leaf =
    as-part table path (alone table.limits node) (with_node table path node) refl comes
    (λ other out. at-insert table path node other ∙ ap (λ b. cond b (Some node) (node_at table other)) (outside path other out))
  where
    comes : (rest : Names) → node_at (with_node table path node) (path ++ rest) ≡ node_at (alone table.limits node) rest
    comes [] =
        ap (node_at (with_node table path node)) (append-nil path) ∙ at-insert table path node path ∙ ap (λ b. cond b (Some node) (node_at table path)) (itself path)
        ∙ sym (at-insert (nothing table.limits) [] node [])
    comes (name ∷ rest) =
        at-insert table path node (path ++ name ∷ rest) ∙ ap (λ b. cond b (Some node) (node_at table (path ++ name ∷ rest))) (longer path name rest) ∙ leaf name rest
        ∙ sym (at-insert (nothing table.limits) [] node (name ∷ rest) ∙ nothing-at table.limits (name ∷ rest))

pub take-leaf : (table : Table) (path : Names) → IsLeaf table path → with_part table path (nothing table.limits) ≡ but_node table path
take-leaf table path leaf =
    as-part table path (nothing table.limits) (but_node table path) refl comes (λ other out. at-remove table path other ∙ ap (λ b. cond b None (node_at table other)) (outside path other out))
  where
    comes : (rest : Names) → node_at (but_node table path) (path ++ rest) ≡ node_at (nothing table.limits) rest
    comes [] =
        ap (node_at (but_node table path)) (append-nil path) ∙ at-remove table path path ∙ ap (λ b. cond b None (node_at table path)) (itself path) ∙ sym (nothing-at table.limits [])
    comes (name ∷ rest) =
        at-remove table path (path ++ name ∷ rest) ∙ ap (λ b. cond b None (node_at table (path ++ name ∷ rest))) (longer path name rest) ∙ leaf name rest ∙ sym (nothing-at table.limits (name ∷ rest))

-- a directory is above what stands below it
pub root-dir : (table : Table) (root path : Names) → IsTree table → (path ≡ [] → ⊥) → is_some (node_at table (root ++ path)) ≡ true → node_at table root ≡ Some Dir
root-dir table root [] tree some stands = absurd (some refl)
root-dir table root (name ∷ rest) tree some stands =
    sym (ap (node_at table) (last-up root name)) ∙ tree.parents (root ++ name ∷ []) (first-below table tree root name rest stands)
