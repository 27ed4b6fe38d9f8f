-- A place for what comes: it is had where nothing stands, and goes again or is filled.
use Rattle.std.proofs.Common.{ℕ, ◌≡◌, ◌⊎◌, inl, inr, true, false, cond, Option, Some, None, is_some, Contains, List, [], ◌∷◌, ◌++◌, refl, sym, ap, ◌∙◌, subst, arith, append_assoc}
use Rattle.std.specs.Ordering.{eq_by_cmp}
use Rattle.std.proofs.lemmas.Bool.{cond-true, cond-false, true≢false}
use Rattle.std.proofs.lemmas.List.{append-nil}
use Rattle.ftp_path.specs.Path.{Names, parent, path_cmp}
use Rattle.ftp_tree.specs.Map.{Node, Dir, File}
use Rattle.ftp_tree.specs.Tree.{Table, IsTree, children, node_at, under, with_part, made, moved, removed, installed, make_refusal, rename_refusal, delete_refusal, remove_answer, remove_refusal, room_answer, room_refusal, install_refusal}
use Rattle.ftp_tree.specs.declared.fault.TreeFault.TheVariants.{Exists}
use Rattle.ftp_tree.proofs.KeepLaws.{alone, at-insert, at-remove, but_node, file-stands, is-dir, IsTree-insert, not-own, nothing, with_node}
use Rattle.ftp_tree.proofs.LawLemmas.{children-stand, target-parts, under-stands}
use Rattle.ftp_tree.proofs.MapLemmas.{false-where, same}
use Rattle.ftp_tree.proofs.LeafLemmas.{IsLeaf, itself, longer, none-absent, put-leaf, take-leaf}
use Rattle.ftp_tree_nodes.proofs.WholeLemmas.{Keeps, absent-dir, loose-from, parent-none, removed-at}
use Rattle.ftp_tree_nodes.proofs.MoveLemmas.{moved-at, moved-so, movable, place-stands, still}
use Rattle.ftp_tree.proofs.PartLemmas.{part-back, part-limits, part-stays, part-taken, same-nodes, put_again}
use Rattle.ftp_tree.proofs.TableLemmas.{both-none, not-held, not-some}
use Rattle.ftp_tree.proofs.UnderLemmas.{insert-under, remove-under}

-- ---- one path of a map

pub put-taken : (table : Table) (path : Names) (node : Node) → node_at table path ≡ None → but_node (with_node table path node) path ≡ table
put-taken table path node none = same-nodes _ _ refl (λ other. at-remove (with_node table path node) path other ∙ by other)
  where
    by : (other : Names) → cond (eq_by_cmp path_cmp other path) None (node_at (with_node table path node) other) ≡ node_at table other
    by other =
        elim (eq_by_cmp path_cmp other path) as (λ b. eq_by_cmp path_cmp other path ≡ b → cond b None (node_at (with_node table path node) other) ≡ node_at table other) [
          | true ↦ λ equal. sym none ∙ ap (node_at table) (sym (same other path equal))
          | false ↦ λ other_path. at-insert table path node other ∙ cond-false (eq_by_cmp path_cmp other path) (Some node) (node_at table other) other_path
        ] refl

pub taken-put : (table : Table) (path : Names) (node : Node) → with_node (but_node table path) path node ≡ with_node table path node
taken-put table path node = same-nodes _ _ refl (λ other. at-insert (but_node table path) path node other ∙ by other ∙ sym (at-insert table path node other))
  where
    by : (other : Names) → cond (eq_by_cmp path_cmp other path) (Some node) (node_at (but_node table path) other) ≡ cond (eq_by_cmp path_cmp other path) (Some node) (node_at table other)
    by other =
        elim (eq_by_cmp path_cmp other path) as (λ b. eq_by_cmp path_cmp other path ≡ b → cond b (Some node) (node_at (but_node table path) other) ≡ cond b (Some node) (node_at table other)) [
          | true ↦ λ equal. refl
          | false ↦ λ other_path. at-remove table path other ∙ cond-false (eq_by_cmp path_cmp other path) None (node_at table other) other_path
        ] refl

pub put-twice : (table : Table) (path : Names) (first second : Node) → with_node (with_node table path first) path second ≡ with_node table path second
put-twice table path first second = same-nodes _ _ refl (λ other. at-insert (with_node table path first) path second other ∙ by other ∙ sym (at-insert table path second other))
  where
    by : (other : Names) → cond (eq_by_cmp path_cmp other path) (Some second) (node_at (with_node table path first) other) ≡ cond (eq_by_cmp path_cmp other path) (Some second) (node_at table other)
    by other =
        elim (eq_by_cmp path_cmp other path) as (λ b. eq_by_cmp path_cmp other path ≡ b → cond b (Some second) (node_at (with_node table path first) other) ≡ cond b (Some second) (node_at table other)) [
          | true ↦ λ equal. refl
          | false ↦ λ other_path. at-insert table path first other ∙ cond-false (eq_by_cmp path_cmp other path) (Some first) (node_at table other) other_path
        ] refl

put-same : (table : Table) (path : Names) (node : Node) → node_at table path ≡ Some node → with_node table path node ≡ table
put-same table path node there = same-nodes _ _ refl (λ other. at-insert table path node other ∙ by other)
  where
    by : (other : Names) → cond (eq_by_cmp path_cmp other path) (Some node) (node_at table other) ≡ node_at table other
    by other =
        elim (eq_by_cmp path_cmp other path) as (λ b. eq_by_cmp path_cmp other path ≡ b → cond b (Some node) (node_at table other) ≡ node_at table other) [
          | true ↦ λ equal. sym there ∙ ap (node_at table) (sym (same other path equal))
          | false ↦ λ other_path. refl
        ] refl

-- ---- where a place is had

pub make-absent : (table : Table) (path : Names) → make_refusal table path ≡ None → node_at table path ≡ None
unfolding make_refusal
make-absent table path none = not-some _ (not-held (is_some (node_at table path)) Exists (both-none _ _ none).0)

pub make-above : (table : Table) (path : Names) → make_refusal table path ≡ None → node_at table (parent path) ≡ Some Dir
unfolding make_refusal
make-above table path none = is-dir _ (both-none _ _ (both-none _ _ (both-none _ _ none).1).0).0

pub move-absent : (table : Table) (from to : Names) → rename_refusal table from to ≡ None → node_at table to ≡ None
move-absent table from to none = not-some _ (target-parts table from to none).0

pub move-above : (table : Table) (from to : Names) → rename_refusal table from to ≡ None → node_at table (parent to) ≡ Some Dir
move-above table from to none = is-dir _ (target-parts table from to none).2

room-above : (table : Table) (path : Names) (node : Option Node) → node ≡ None → room_answer node table path ≡ None → node_at table (parent path) ≡ Some Dir
room-above table path None absent none = is-dir _ (both-none _ _ (both-none _ _ none).0).0
room-above table path (Some node) absent none = cc

pub install-above : (table : Table) (path : Names) (count : ℕ) → install_refusal table path count ≡ None → node_at table path ≡ None → node_at table (parent path) ≡ Some Dir
unfolding install_refusal room_refusal
install-above table path count none absent = room-above table path (node_at table path) absent (both-none _ _ none).0

-- ---- a place

none-in : (names : List (List ℕ)) → ((name : List ℕ) → Contains names name → ⊥) → names ≡ []
none-in [] none = refl
none-in (name ∷ names) none = absurd (none name (0, omega arith, refl))

leaf-names : (table : Table) (path : Names) → IsLeaf table path → children table path ≡ []
leaf-names table path leaf =
    none-in (children table path) (λ name held. true≢false (sym ((children-stand table path name).0 held) ∙ ap is_some (leaf name [])))

place-leaf : (table : Table) (root path : Names) → IsTree table → node_at (under table root) path ≡ None → IsLeaf (with_node (under table root) path Dir) path
place-leaf table root path tree none name rest =
    at-insert (under table root) path Dir (path ++ name ∷ rest)
    ∙ cond-false (eq_by_cmp path_cmp (path ++ name ∷ rest) path) (Some Dir) (node_at (under table root) (path ++ name ∷ rest)) (longer path name rest)
    ∙ under-stands table root (path ++ name ∷ rest) ∙ ap (node_at table) (sym (append_assoc root path (name ∷ rest)))
    ∙ none-absent table (root ++ path) tree (sym (under-stands table root path) ∙ none) name rest

place-loose : (table : Table) (root path : Names) → IsTree table → node_at (under table root) path ≡ None → node_at (under table root) (parent path) ≡ Some Dir
    → remove_refusal (with_node (under table root) path Dir) path ≡ None
unfolding remove_refusal
place-loose table root [] tree none above = absurd (absent-dir (sym none ∙ ap (node_at (under table root)) (sym parent-none) ∙ above))
place-loose table root (name ∷ rest) tree none above =
    let path = name ∷ rest in
    let new = with_node (under table root) path Dir in
    ap (λ node. remove_answer node (children new path) path) (at-insert (under table root) path Dir path ∙ cond-true (eq_by_cmp path_cmp path path) (Some Dir) (node_at (under table root) path) (itself path))
    ∙ ap (λ names. remove_answer (Some Dir) names path) (leaf-names new path (place-leaf table root path tree none))

pub placed-loose : (table new : Table) (root path : Names) → IsTree table → node_at (under table root) path ≡ None → node_at (under table root) (parent path) ≡ Some Dir
    → new ≡ with_part table root (made (under table root) path) → remove_refusal (under new root) path ≡ None
unfolding made
placed-loose table new root path tree none above is =
    ap (λ t. remove_refusal (under t root) path) is ∙ ap (λ t. remove_refusal t path) (part-taken table root (with_node (under table root) path Dir)) ∙ place-loose table root path tree none above

-- what is had of a place: without it the map is as before, and what is put there comes as if it were not there
pub record IsHad (table new : Table) (root path : Names) : Type 0 where
  pub part : removed (under new root) path ≡ under table root
  pub again : (other : Table) → with_part new root other ≡ with_part table root other
  pub back : with_part new root (removed (under new root) path) ≡ table
  pub over : (octets : List ℕ) (moment : ℕ) → with_part new root (installed (under new root) path octets moment) ≡ with_part table root (installed (under table root) path octets moment)

pub had : (table new : Table) (root path : Names) → node_at (under table root) path ≡ None
    → new ≡ with_part table root (made (under table root) path) → IsHad table new root path
unfolding made removed installed
had table new root path none is =
    record {
      part = gone;
      again = again;
      back = again (but_node (under new root) path) ∙ ap (with_part table root) gone ∙ part-back table root;
      over = λ octets moment.
          again (with_node (under new root) path (File octets moment))
          ∙ ap (λ t. with_part table root (with_node t path (File octets moment))) part
          ∙ ap (with_part table root) (put-twice (under table root) path Dir (File octets moment));
    }
  where
    part : under new root ≡ with_node (under table root) path Dir
    part = ap (λ t. under t root) is ∙ part-taken table root (with_node (under table root) path Dir)

    gone : but_node (under new root) path ≡ under table root
    gone = ap (λ t. but_node t path) part ∙ put-taken (under table root) path Dir none

    again : (other : Table) → with_part new root other ≡ with_part table root other
    again other = ap (λ t. with_part t root other) is ∙ put_again table root (with_node (under table root) path Dir) other

-- ---- a file in the place of a node that has nothing below it

dir-stands : (node : Option Node) (names : List (List ℕ)) (path : Names) → remove_answer node names path ≡ None → node ≡ Some Dir
dir-stands None names path none = cc
dir-stands (Some Dir) names path none = refl
dir-stands (Some (File octets moment)) names path none = cc

pub loose-stands : (table : Table) (path : Names) → (delete_refusal table path ≡ None) ⊎ (remove_refusal table path ≡ None) → is_some (node_at table path) ≡ true
unfolding delete_refusal remove_refusal
loose-stands table path (inl free) = file-stands (node_at table path) free
loose-stands table path (inr free) = ap is_some (dir-stands (node_at table path) (children table path) path free)

pub over-at : (table new : Table) (root path names : Names) (octets : List ℕ) (moment : ℕ) → IsTree table → (delete_refusal (under table root) path ≡ None) ⊎ (remove_refusal (under table root) path ≡ None) → names ≡ root ++ path
    → new ≡ with_part table names (alone table.limits (File octets moment)) → Keeps new (with_part table root (installed (under table root) path octets moment))
unfolding installed
over-at table new root path names octets moment tree free named is =
    let all = root ++ path in
    let loose = loose-from table root path tree free in
    let put = is ∙ ap (λ p. with_part table p (alone table.limits (File octets moment))) named ∙ put-leaf table all (File octets moment) loose.leaf in
    let gone = removed-at table (but_node table all) root path all tree free refl (sym (take-leaf table all loose.leaf)) in
    let stands = ap is_some (sym (under-stands table root path)) ∙ loose-stands (under table root) path free in
    let above = at-remove table all (parent all) ∙ cond-false (eq_by_cmp path_cmp (parent all) all) None (node_at table (parent all)) (false-where _ (λ equal. not-own all loose.some (same (parent all) all equal)))
    ∙ tree.parents all stands in
    let none = at-remove table all all ∙ cond-true (eq_by_cmp path_cmp all all) None (node_at table all) (itself all) in
    record {
      tree = subst IsTree (sym (put ∙ sym (taken-put table all (File octets moment)))) (IsTree-insert (but_node table all) all (File octets moment) gone.tree above (λ dir. absurd (absent-dir (sym none ∙ dir))));
      is = put ∙ sym (insert-under table root path (File octets moment));
    }

-- ---- a move into a place

node-of : (o : Option Node) → is_some o ≡ true → (node : Node) × (o ≡ Some node)
node-of None some = absurd (true≢false (sym some))
node-of (Some node) some = (node, refl)

-- the map without what stands in the place
record IsPlaced (table : Table) (root from to : Names) : Type 0 where
  before : Table
  node : Node
  tree : IsTree before
  free : rename_refusal (under before root) from to ≡ None
  had : table ≡ with_part before (root ++ to) (alone before.limits node)
  is : with_part before root (moved (under before root) from to) ≡ with_part table root (moved (removed (under table root) to) from to)

placed : (table : Table) (root from to : Names) → IsTree table → (delete_refusal (under table root) to ≡ None) ⊎ (remove_refusal (under table root) to ≡ None)
    → rename_refusal (removed (under table root) to) from to ≡ None → IsPlaced table root from to
unfolding removed
placed table root from to tree loose none =
    let all = root ++ to in
    let was = with_part table root (but_node (under table root) to) in
    let part : under was root ≡ but_node (under table root) to = part-taken table root (but_node (under table root) to) in
    let leaf = (loose-from table root to tree loose).leaf in
    let whole : was ≡ but_node table all = remove-under table root to in
    let kept = removed-at table was root to all tree loose refl (whole ∙ sym (take-leaf table all leaf)) in
    let gone = ap (λ t. node_at t all) whole ∙ at-remove table all all ∙ cond-true (eq_by_cmp path_cmp all all) None (node_at table all) (itself all) in
    let stands = node-of (node_at (under table root) to) (loose-stands (under table root) to loose) in
    let there = sym (under-stands table root to) ∙ stands.1 in
    record {
      before = was;
      node = stands.0;
      tree = kept.tree;
      free = ap (λ t. rename_refusal t from to) part ∙ none;
      had = sym (put-leaf was all stands.0 (none-absent was all kept.tree gone) ∙ ap (λ t. with_node t all stands.0) whole ∙ taken-put table all stands.0
          ∙ put-same table all stands.0 there);
      is = ap (λ t. with_part was root (moved t from to)) part ∙ put_again table root (but_node (under table root) to) (moved (but_node (under table root) to) from to);
    }

-- what is taken out stands, its place stands then, and in it it has moved
pub record MovesOver (table : Table) (root from to : Names) : Type 0 where
  pub some : root ++ from ≡ [] → ⊥
  pub top : is_some (node_at (under table (root ++ from)) []) ≡ true
  pub there : is_some (node_at (with_part table (root ++ from) (nothing table.limits)) (root ++ to)) ≡ true
  pub done : (new : Table) → new ≡ with_part (with_part table (root ++ from) (nothing table.limits)) (root ++ to) (under table (root ++ from)) → Keeps new (with_part table root (moved (removed (under table root) to) from to))

pub moves-over : (table : Table) (root from to : Names) → IsTree table
    → (delete_refusal (under table root) to ≡ None) ⊎ (remove_refusal (under table root) to ≡ None)
    → rename_refusal (removed (under table root) to) from to ≡ None → MovesOver table root from to
moves-over table root from to tree loose none =
    let place = placed table root from to tree loose none in
    let was = place.before in
    let node = place.node in
    let one = alone was.limits node in
    let old = root ++ from in
    let all = root ++ to in
    let can = movable was root from to place.tree place.free in
    record {
      some = can.some;
      top =
          ap (λ t. is_some (node_at (under t old) [])) place.had
          ∙ ap is_some (under-stands (with_part was all one) old [] ∙ still was old all node place.tree can.absent can.beside []
          ∙ ap (node_at was) (append-nil old)) ∙ can.stands;
      there =
          ap (λ t. is_some (node_at (with_part t old (nothing t.limits)) all)) place.had
          ∙ ap is_some (part-stays (with_part was all one) old (nothing (with_part was all one).limits) all can.beside ∙ place-stands was old all node place.tree can.absent can.beside);
      done = λ new is.
          let moved_is = is ∙ ap (λ t. with_part (with_part t old (nothing t.limits)) all (under t old)) place.had
          ∙ ap (λ limits. with_part (with_part (with_part was all one) old (nothing limits)) all (under (with_part was all one) old)) (part-limits was all one)
          ∙ moved-so was old all node place.tree can.absent can.beside in
          let kept = moved-at was new root from to place.tree place.free moved_is in
          record { tree = kept.tree; is = kept.is ∙ place.is };
    }
