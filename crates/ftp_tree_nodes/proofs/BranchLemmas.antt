-- A directory as it is kept, and the map that it is.
use Rattle.std.proofs.Common.{ℕ, suc, ◌+◌, ◌-◌, ◌<◌, ◌≤◌, ◌≡◌, Bool, true, false, not, ◌&&◌, cond, Option, Some, None, is_some, List, [], ◌∷◌, ◌++◌, length, drop, refl, sym, ap, ◌∙◌, subst, arith, append_assoc, add_assoc, zero-add}
use Rattle.std.specs.Prelude.{map, nat_le}
use Rattle.std.specs.List.{filter_map, list_all, cons_option}
use Rattle.std.specs.Ordering.{eq_by_cmp, is_eq, is_lt, ordering_then}
use Rattle.std.specs.declared.cmp.Ordering.{Ordering}
use Rattle.std.specs.declared.cmp.Ordering.TheVariants.{Less, Equal, Greater}
use Rattle.std.specs.Cmp.{IsTotalOrder, nat_cmp_total, tied_itself}
use Rattle.std.specs.Cmp.Lexicographic.{lists_total}
use Rattle.std.specs.FinMap.{IsAntisymmetric, nat_cmp-IsAntisymmetric, slice_cmp-IsAntisymmetric, is_sorted}
use Rattle.std.specs.FinMap.Entries.{find, put, where_key, below_all, by_order, is_sorted-put, is_sorted-where_key, find-put, find-where_key}
use Rattle.std.specs.Option.{unwrap_or}
use Rattle.std.proofs.lemmas.Bool.{and_parts, and_from, true≢false, leb-true, le-leb}
use Rattle.std.proofs.lemmas.Bool.Decides.{nat_tests}
use Rattle.std.proofs.lemmas.List.{length-append, length-map, map-append}
use Rattle.std.proofs.lemmas.List.Elements.{filter_map-append}
use Rattle.std.proofs.lemmas.List.Folds.{list_all-append}
use Rattle.std.proofs.lemmas.List.Sums.{sum_by-cons}
use Rattle.ftp_path.specs.Path.{Names, path_cmp, is_name, is_within, name_in, joined}
use Rattle.ftp_tree.specs.Map.{Node, Dir, File, Map, node_at, under, with_part, children, octets_in, length_of}
use Rattle.ftp_tree.specs.Rows.{Rows, is_in_order, octets_of_rows}
use Rattle.ftp_tree.specs.Text.{is_short, is_within_room}
use Rattle.ftp_tree_nodes.specs.Branch.{IsDirectory, NamedMap, behind, part_rows, parts_table, name_cmp, found, file_alone}
use Rattle.ftp_tree.proofs.EntryLemmas.{path_total, true-from, T-from, less-from}
use Rattle.ftp_tree.proofs.MapLemmas.{at-insert, as-part, cmp-front, empty-at, equal-from, false-where, get-node, part-back, part-comes, part-stays, part_whole, same-nodes, under-stands}
use Rattle.ftp_path.proofs.KeyLemmas.{within-append, within-parts}
use Rattle.ftp_tree.proofs.RowLemmas.{and-assoc, no-entries, within-inside}
use Rattle.ftp_tree.proofs.TableLemmas.{entries-table, node_at-root, node_at-name, len-table, octets-table, children-table}
use Rattle.ftp_tree.specs.Sound.{IsSoundMap, is_sound_entry, is_sound_node, last_second}
use Rattle.std.specs.FinMap as fin

pub name_total : IsTotalOrder name_cmp
name_total = lists_total nat_cmp_total

pub name_same : IsAntisymmetric name_cmp
name_same = slice_cmp-IsAntisymmetric nat_cmp-IsAntisymmetric

-- ---- the rows of parts

-- each entry of a part comes behind the directory's own
below-front : (xs : Rows) (n : List ℕ) → below_all path_cmp [] (map (λ e. (n ∷ e.0, e.1)) xs) ≡ true
below-front [] n = refl
below-front (x ∷ xs) n = below-front xs n

below-append : (p : Names) (xs ys : Rows) → below_all path_cmp p xs ≡ true → below_all path_cmp p ys ≡ true → below_all path_cmp p (xs ++ ys) ≡ true
below-append p [] ys one two = two
below-append p (x ∷ xs) ys one two =
    let both = and_parts (is_lt (path_cmp p x.0)) (below_all path_cmp p xs) one in
    and_from (is_lt (path_cmp p x.0)) _ both.0 (below-append p xs ys both.1 two)

rows-below : (ps : List NamedMap) → below_all path_cmp [] (part_rows ps) ≡ true
rows-below [] = refl
rows-below (p ∷ ps) = below-append [] (behind p) (part_rows ps) (below-front (fin.entries p.1) p.0) (rows-below ps)

-- a path behind a name comes before each behind a later name
front-less : (n m : List ℕ) (q : Names) (xs : Rows) → name_cmp n m ≡ Less → below_all path_cmp (n ∷ q) (map (λ e. (m ∷ e.0, e.1)) xs) ≡ true
front-less n m q [] less = refl
front-less n m q (x ∷ xs) less =
    and_from (is_lt (path_cmp (n ∷ q) (m ∷ x.0))) _ (ap (λ r. is_lt (ordering_then r (path_cmp q x.0))) less) (front-less n m q xs less)

names-less : (n : List ℕ) (q : Names) (ps : List NamedMap) → below_all name_cmp n ps ≡ true → below_all path_cmp (n ∷ q) (part_rows ps) ≡ true
names-less n q [] below = refl
names-less n q (p ∷ ps) below =
    let both = and_parts (is_lt (name_cmp n p.0)) (below_all name_cmp n ps) below in
    below-append (n ∷ q) (behind p) (part_rows ps) (front-less n p.0 q (fin.entries p.1) (less-from (name_cmp n p.0) both.0)) (names-less n q ps both.1)

below-inside : (n : List ℕ) (q : Names) (xs : Rows) → below_all path_cmp q xs ≡ true → below_all path_cmp (n ∷ q) (map (λ e. (n ∷ e.0, e.1)) xs) ≡ true
below-inside n q [] below = refl
below-inside n q (x ∷ xs) below =
    let both = and_parts (is_lt (path_cmp q x.0)) (below_all path_cmp q xs) below in
    and_from (is_lt (path_cmp (n ∷ q) (n ∷ x.0))) _ (ap is_lt (cmp-front (n ∷ []) q x.0) ∙ both.0) (below-inside n q xs both.1)

sorted-behind : (n : List ℕ) (xs : Rows) (ps : List NamedMap) → is_sorted path_cmp xs ≡ true → below_all name_cmp n ps ≡ true → is_sorted path_cmp (part_rows ps) ≡ true
    → is_sorted path_cmp (map (λ e. (n ∷ e.0, e.1)) xs ++ part_rows ps) ≡ true
sorted-behind n [] ps sorted below rest = rest
sorted-behind n (x ∷ xs) ps sorted below rest =
    let both = and_parts (below_all path_cmp x.0 xs) (is_sorted path_cmp xs) sorted in
    and_from (below_all path_cmp (n ∷ x.0) (map (λ e. (n ∷ e.0, e.1)) xs ++ part_rows ps)) _
    (below-append (n ∷ x.0) (map (λ e. (n ∷ e.0, e.1)) xs) (part_rows ps) (below-inside n x.0 xs both.0) (names-less n x.0 ps below))
    (sorted-behind n xs ps both.1 below rest)

rows-sorted : (ps : List NamedMap) → is_sorted name_cmp ps ≡ true → is_sorted path_cmp (part_rows ps) ≡ true
rows-sorted [] sorted = refl
rows-sorted (p ∷ ps) sorted =
    let both = and_parts (below_all name_cmp p.0 ps) (is_sorted name_cmp ps) sorted in
    sorted-behind p.0 (fin.entries p.1) ps (true-from _ (fin.entries_sorted p.1)) both.0 (rows-sorted ps both.1)

pub in-order : (ps : List NamedMap) → is_sorted name_cmp ps ≡ true → is_in_order (part_rows ps) ≡ true
in-order ps sorted = and_from (below_all path_cmp [] (part_rows ps)) _ (rows-below ps) (rows-sorted ps sorted)

-- ---- what stands at a path

find-append : (q : Names) (xs ys : Rows) → find path_cmp q (xs ++ ys) ≡ cond (is_some (find path_cmp q xs)) (find path_cmp q xs) (find path_cmp q ys)
find-append q [] ys = refl
find-append q (x ∷ xs) ys =
    elim (eq_by_cmp path_cmp q x.0) as (λ b. cond b (Some x.1) (find path_cmp q (xs ++ ys)) ≡ cond (is_some (cond b (Some x.1) (find path_cmp q xs))) (cond b (Some x.1) (find path_cmp q xs)) (find path_cmp q ys)) [
      | true ↦ refl
      | false ↦ find-append q xs ys
    ]

-- in the part of another name nothing is found; in that of its own what the part has
find-other : (n m : List ℕ) (q : Names) (xs : Rows) → eq_by_cmp name_cmp n m ≡ false → find path_cmp (n ∷ q) (map (λ e. (m ∷ e.0, e.1)) xs) ≡ None
find-other n m q [] other = refl
find-other n m q (x ∷ xs) other =
    ap (λ b. cond b (Some x.1) (find path_cmp (n ∷ q) (map (λ e. (m ∷ e.0, e.1)) xs))) (by (name_cmp n m) other) ∙ find-other n m q xs other
  where
    by : (r : Ordering) → is_eq r ≡ false → is_eq (ordering_then r (path_cmp q x.0)) ≡ false
    by Less e = refl
    by Equal e = absurd (true≢false e)
    by Greater e = refl

find-own : (n m : List ℕ) (q : Names) (xs : Rows) → eq_by_cmp name_cmp n m ≡ true → find path_cmp (n ∷ q) (map (λ e. (m ∷ e.0, e.1)) xs) ≡ find path_cmp q xs
find-own n m q [] own = refl
find-own n m q (x ∷ xs) own =
    ap (λ b. cond b (Some x.1) (find path_cmp (n ∷ q) (map (λ e. (m ∷ e.0, e.1)) xs))) (by (name_cmp n m) own) ∙ ap (cond (eq_by_cmp path_cmp q x.0) (Some x.1)) (find-own n m q xs own)
  where
    by : (r : Ordering) → is_eq r ≡ true → is_eq (ordering_then r (path_cmp q x.0)) ≡ is_eq (path_cmp q x.0)
    by Less e = absurd (true≢false (sym e))
    by Equal e = refl
    by Greater e = absurd (true≢false (sym e))

-- what stands at a path in the part that is found
abbrev pub at-part : Option Map → Names → Option Node
at-part part q = node_at (found part) q

find-nothing : (n : List ℕ) (q : Names) (ps : List NamedMap) → below_all name_cmp n ps ≡ true → find path_cmp (n ∷ q) (part_rows ps) ≡ None
find-nothing n q [] below = refl
find-nothing n q (p ∷ ps) below =
    let both = and_parts (is_lt (name_cmp n p.0)) (below_all name_cmp n ps) below in
    find-append (n ∷ q) (behind p) (part_rows ps)
    ∙ ap (λ o. cond (is_some o) o (find path_cmp (n ∷ q) (part_rows ps))) (find-other n p.0 q (fin.entries p.1) (ap is_eq (less-from (name_cmp n p.0) both.0)))
    ∙ find-nothing n q ps both.1

found-rows : (n : List ℕ) (q : Names) (ps : List NamedMap) → is_sorted name_cmp ps ≡ true → find path_cmp (n ∷ q) (part_rows ps) ≡ at-part (find name_cmp n ps) q
found-rows n q [] sorted = sym (empty-at q)
found-rows n q (p ∷ ps) sorted =
    let both = and_parts (below_all name_cmp p.0 ps) (is_sorted name_cmp ps) sorted in
    find-append (n ∷ q) (behind p) (part_rows ps)
    ∙ elim (eq_by_cmp name_cmp n p.0) as (λ b. eq_by_cmp name_cmp n p.0 ≡ b
    → cond (is_some (find path_cmp (n ∷ q) (behind p))) (find path_cmp (n ∷ q) (behind p)) (find path_cmp (n ∷ q) (part_rows ps)) ≡ at-part (cond b (Some p.1) (find name_cmp n ps)) q) [
      | true ↦ λ own.
          ap (λ o. cond (is_some o) o (find path_cmp (n ∷ q) (part_rows ps))) (find-own n p.0 q (fin.entries p.1) own ∙ get-node p.1 q)
          ∙ ap (cond (is_some (node_at p.1 q)) (node_at p.1 q)) (find-nothing n q ps (below-tied n p.0 ps own both.0)) ∙ all-or (node_at p.1 q)
      | false ↦ λ other.
          ap (λ o. cond (is_some o) o (find path_cmp (n ∷ q) (part_rows ps))) (find-other n p.0 q (fin.entries p.1) other) ∙ found-rows n q ps both.1
    ] refl
  where
    all-or : (o : Option Node) → cond (is_some o) o None ≡ o
    all-or None = refl
    all-or (Some node) = refl

    below-tied : (n m : List ℕ) (ps : List NamedMap) → eq_by_cmp name_cmp n m ≡ true → below_all name_cmp m ps ≡ true → below_all name_cmp n ps ≡ true
    below-tied n m ps own below = ap (λ x. below_all name_cmp x ps) (name_same n m (equal-from (name_cmp n m) own)) ∙ below

pub at-top : (ps : List NamedMap) → is_sorted name_cmp ps ≡ true → node_at (parts_table ps) [] ≡ Some Dir
at-top ps sorted = node_at-root (part_rows ps) (in-order ps sorted)

pub at-name : (ps : List NamedMap) → is_sorted name_cmp ps ≡ true → (n : List ℕ) (q : Names) → node_at (parts_table ps) (n ∷ q) ≡ node_at (found (find name_cmp n ps)) q
at-name ps sorted n q = node_at-name (part_rows ps) (in-order ps sorted) n q ∙ found-rows n q ps sorted

-- ---- the part below a name

pub under-name : (ps : List NamedMap) → is_sorted name_cmp ps ≡ true → (n : List ℕ) → under (parts_table ps) (n ∷ []) ≡ found (find name_cmp n ps)
under-name ps sorted n = same-nodes _ _ (λ q. under-stands (parts_table ps) (n ∷ []) q ∙ at-name ps sorted n q)

pub under-under : (table : Map) (one other : Names) → under (under table one) other ≡ under table (one ++ other)
under-under table one other =
    same-nodes _ _ (λ q. under-stands (under table one) other q ∙ under-stands table one (other ++ q) ∙ ap (node_at table) (sym (append_assoc one other q)) ∙ sym (under-stands table (one ++ other) q))

within-name : (n m : List ℕ) (q : Names) → is_within (n ∷ []) (m ∷ q) ≡ false → eq_by_cmp name_cmp m n ≡ false
unfolding is_within
within-name n m q out =
    false-where _ (λ equal. true≢false (sym (within-append (n ∷ []) q) ∙ ap (λ x. is_within (n ∷ []) (x ∷ q)) (sym (name_same m n (equal-from (name_cmp m n) equal))) ∙ out))

pub with-name : (ps : List NamedMap) → is_sorted name_cmp ps ≡ true → (n : List ℕ) (t : Map) → parts_table (put name_cmp n t ps) ≡ with_part (parts_table ps) (n ∷ []) t
with-name ps sorted n t =
    let after = true-from _ (is_sorted-put name_cmp name_total n t ps (T-from _ sorted)) in
    sym (as-part (parts_table ps) (n ∷ []) t (parts_table (put name_cmp n t ps))
    (λ q. at-name (put name_cmp n t ps) after n q ∙ ap (λ o. node_at (found o) q) (find-put name_cmp name_total n n t ps ∙ ap (λ b. cond b (Some t) (find name_cmp n ps)) (ap is_eq (tied_itself name_total n))))
    (stays after))
  where
    stays : is_sorted name_cmp (put name_cmp n t ps) ≡ true → (q : Names) → is_within (n ∷ []) q ≡ false → node_at (parts_table (put name_cmp n t ps)) q ≡ node_at (parts_table ps) q
    stays after [] out = at-top (put name_cmp n t ps) after ∙ sym (at-top ps sorted)
    stays after (m ∷ q) out =
        at-name (put name_cmp n t ps) after m q ∙ ap (λ o. node_at (found o) q) (find-put name_cmp name_total m n t ps ∙ ap (λ b. cond b (Some t) (find name_cmp m ps)) (within-name n m q out))
        ∙ sym (at-name ps sorted m q)

-- all parts but that of a name
abbrev pub but : List ℕ → List NamedMap → List NamedMap
but n = where_key name_cmp (λ name. not (eq_by_cmp name_cmp n name))

pub but-name : (ps : List NamedMap) → is_sorted name_cmp ps ≡ true → (n : List ℕ) → parts_table (but n ps) ≡ with_part (parts_table ps) (n ∷ []) fin.empty
but-name ps sorted n =
    let after = true-from _ (is_sorted-where_key name_cmp (λ name. not (eq_by_cmp name_cmp n name)) ps (T-from _ sorted)) in
    let gone : (m : List ℕ) → find name_cmp m (but n ps) ≡ cond (not (eq_by_cmp name_cmp n m)) (find name_cmp m ps) None =
    λ m. find-where_key name_cmp (λ name. not (eq_by_cmp name_cmp n name)) m (λ x tied. ap (λ y. not (eq_by_cmp name_cmp n y)) (sym (name_same m x tied))) ps in
    sym (as-part (parts_table ps) (n ∷ []) fin.empty (parts_table (but n ps))
    (λ q. at-name (but n ps) after n q ∙ ap (λ o. node_at (found o) q) (gone n ∙ ap (λ b. cond (not b) (find name_cmp n ps) None) (ap is_eq (tied_itself name_total n))))
    (stays after gone))
  where
    stays : is_sorted name_cmp (but n ps) ≡ true → ((m : List ℕ) → find name_cmp m (but n ps) ≡ cond (not (eq_by_cmp name_cmp n m)) (find name_cmp m ps) None)
        → (q : Names) → is_within (n ∷ []) q ≡ false → node_at (parts_table (but n ps)) q ≡ node_at (parts_table ps) q
    stays after gone [] out = at-top (but n ps) after ∙ sym (at-top ps sorted)
    stays after gone (m ∷ q) out =
        at-name (but n ps) after m q ∙ ap (λ o. node_at (found o) q) (gone m ∙ ap (λ b. cond (not b) (find name_cmp m ps) None) (other m (within-name n m q out))) ∙ sym (at-name ps sorted m q)
      where
        other : (m : List ℕ) → eq_by_cmp name_cmp m n ≡ false → eq_by_cmp name_cmp n m ≡ false
        other m apart = false-where _ (λ equal. true≢false (sym (ap (λ x. eq_by_cmp name_cmp m x) (name_same n m (equal-from (name_cmp n m) equal)) ∙ ap is_eq (tied_itself name_total m)) ∙ apart))

-- ---- how much the parts are together

pub weigh : (Map → ℕ) → List NamedMap → ℕ
weigh w [] = 0
weigh w (p ∷ ps) = w p.1 + weigh w ps

length-rows : (ps : List NamedMap) → length (part_rows ps) ≡ weigh fin.len ps
unfolding weigh
length-rows [] = refl
length-rows (p ∷ ps) =
    length-append (behind p) (part_rows ps) ∙ ap (λ k. k + length (part_rows ps)) (length-map (fin.entries p.1) (λ e. (p.0 ∷ e.0, e.1)) ∙ sym (fin.len-entries p.1))
    ∙ ap (λ k. fin.len p.1 + k) (length-rows ps)

pub len-weigh : (ps : List NamedMap) → is_sorted name_cmp ps ≡ true → fin.len (parts_table ps) ≡ suc (weigh fin.len ps)
len-weigh ps sorted = len-table (part_rows ps) (in-order ps sorted) ∙ ap suc (length-rows ps)

octets-append : (xs ys : Rows) → octets_of_rows (xs ++ ys) ≡ octets_of_rows xs + octets_of_rows ys
octets-append [] ys = sym (zero-add (octets_of_rows ys))
octets-append (x ∷ xs) ys =
    sum_by-cons (λ (e : Names × Node). length_of e.1) x (xs ++ ys) ∙ ap (λ k. length_of x.1 + k) (octets-append xs ys)
    ∙ sym (add_assoc (length_of x.1) (octets_of_rows xs) (octets_of_rows ys)) ∙ ap (λ k. k + octets_of_rows ys) (sym (sum_by-cons (λ (e : Names × Node). length_of e.1) x xs))

octets-front : (n : List ℕ) (xs : Rows) → octets_of_rows (map (λ e. (n ∷ e.0, e.1)) xs) ≡ octets_of_rows xs
octets-front n [] = refl
octets-front n (x ∷ xs) =
    sum_by-cons (λ (e : Names × Node). length_of e.1) (n ∷ x.0, x.1) (map (λ e. (n ∷ e.0, e.1)) xs) ∙ ap (λ k. length_of x.1 + k) (octets-front n xs)
    ∙ sym (sum_by-cons (λ (e : Names × Node). length_of e.1) x xs)

octets-rows : (ps : List NamedMap) → octets_of_rows (part_rows ps) ≡ weigh octets_in ps
unfolding weigh octets_in
octets-rows [] = refl
octets-rows (p ∷ ps) =
    octets-append (behind p) (part_rows ps) ∙ ap (λ k. k + octets_of_rows (part_rows ps)) (octets-front p.0 (fin.entries p.1)) ∙ ap (λ k. octets_in p.1 + k) (octets-rows ps)

pub octets-weigh : (ps : List NamedMap) → is_sorted name_cmp ps ≡ true → octets_in (parts_table ps) ≡ weigh octets_in ps
octets-weigh ps sorted = octets-table (part_rows ps) (in-order ps sorted) ∙ octets-rows ps

find-later : (n : List ℕ) (ps : List NamedMap) → below_all name_cmp n ps ≡ true → find name_cmp n ps ≡ None
find-later n [] below = refl
find-later n (p ∷ ps) below =
    let both = and_parts (is_lt (name_cmp n p.0)) (below_all name_cmp n ps) below in
    ap (λ r. cond (is_eq r) (Some p.1) (find name_cmp n ps)) (less-from (name_cmp n p.0) both.0) ∙ find-later n ps both.1

below-before : (n m : List ℕ) (ps : List NamedMap) → name_cmp n m ≡ Less → below_all name_cmp m ps ≡ true → below_all name_cmp n ps ≡ true
below-before n m [] less below = refl
below-before n m (p ∷ ps) less below =
    let both = and_parts (is_lt (name_cmp m p.0)) (below_all name_cmp m ps) below in
    and_from (is_lt (name_cmp n p.0)) _ (ap is_lt (name_total.trans n m p.0 less (less-from (name_cmp m p.0) both.0))) (below-before n m ps less both.1)

module _ (w : Map → ℕ) (none : w fin.empty ≡ 0) where
  pub weigh-put : (n : List ℕ) (t : Map) (ps : List NamedMap) → is_sorted name_cmp ps ≡ true → weigh w (put name_cmp n t ps) + w (found (find name_cmp n ps)) ≡ weigh w ps + w t
  unfolding weigh
  weigh-put n t [] sorted = omega (arith, none)
  weigh-put n t (p ∷ ps) sorted =
      let both = and_parts (below_all name_cmp p.0 ps) (is_sorted name_cmp ps) sorted in
      let rest = weigh-put n t ps both.1 in
      elim (name_cmp n p.0) as (λ r. name_cmp n p.0 ≡ r
      → weigh w (by_order r ((n, t) ∷ p ∷ ps) ((p.0, t) ∷ ps) (p ∷ put name_cmp n t ps)) + w (found (cond (is_eq r) (Some p.1) (find name_cmp n ps))) ≡ weigh w (p ∷ ps) + w t) [
        | Less ↦ λ less.
            let gone : w (found (find name_cmp n ps)) ≡ 0 = ap (λ o. w (found o)) (find-later n ps (below-before n p.0 ps less both.0)) ∙ none in
            omega arith
        | Equal ↦ λ equal. omega arith
        | Greater ↦ λ greater. omega (arith, rest)
      ] refl

  but-later : (n : List ℕ) (ps : List NamedMap) → below_all name_cmp n ps ≡ true → but n ps ≡ ps
  but-later n [] below = refl
  but-later n (p ∷ ps) below =
      let both = and_parts (is_lt (name_cmp n p.0)) (below_all name_cmp n ps) below in
      ap (λ r. cond (not (is_eq r)) (p ∷ but n ps) (but n ps)) (less-from (name_cmp n p.0) both.0) ∙ ap (λ rest. p ∷ rest) (but-later n ps both.1)

  pub weigh-but : (n : List ℕ) (ps : List NamedMap) → is_sorted name_cmp ps ≡ true → weigh w (but n ps) + w (found (find name_cmp n ps)) ≡ weigh w ps
  unfolding weigh
  weigh-but n [] sorted = omega (arith, none)
  weigh-but n (p ∷ ps) sorted =
      let both = and_parts (below_all name_cmp p.0 ps) (is_sorted name_cmp ps) sorted in
      let rest = weigh-but n ps both.1 in
      elim (name_cmp n p.0) as (λ r. name_cmp n p.0 ≡ r
      → weigh w (cond (not (is_eq r)) (p ∷ but n ps) (but n ps)) + w (found (cond (is_eq r) (Some p.1) (find name_cmp n ps))) ≡ weigh w (p ∷ ps)) [
        | Less ↦ λ less. omega (arith, rest)
        | Equal ↦ λ equal.
            let same = ap (weigh w) (but-later n ps (ap (λ x. below_all name_cmp x ps) (name_same n p.0 equal) ∙ both.0)) in
            omega (arith, same)
        | Greater ↦ λ greater. omega (arith, rest)
      ] refl

-- ---- a file

pub file-at : (octets : List ℕ) (moment : ℕ) (q : Names) → node_at (file_alone octets moment) q ≡ cond (eq_by_cmp path_cmp q []) (Some (File octets moment)) None
file-at octets moment q = at-insert fin.empty [] (File octets moment) q ∙ ap (cond (eq_by_cmp path_cmp q []) (Some (File octets moment))) (empty-at q)

pub file-entries : (octets : List ℕ) (moment : ℕ) → fin.entries (file_alone octets moment) ≡ ([], File octets moment) ∷ []
file-entries octets moment = fin.entries-insert path_total fin.empty [] (File octets moment) ∙ ap (put path_cmp [] (File octets moment)) no-entries

-- a file since a moment
pub sound-file : (octets : List ℕ) (moment : ℕ) → moment ≤ last_second → IsSoundMap (file_alone octets moment)
sound-file octets moment early =
    ap (list_all is_sound_entry) (file-entries octets moment)
    ∙ and_from (is_sound_entry ([], File octets moment)) true (and_from true (is_sound_node (File octets moment)) refl (le-leb moment last_second early)) refl

pub file-len : (octets : List ℕ) (moment : ℕ) → 1 ≡ fin.len (file_alone octets moment)
file-len octets moment = sym (fin.len-entries (file_alone octets moment) ∙ ap length (file-entries octets moment))

pub file-octets : (octets : List ℕ) (moment : ℕ) → octets_in (file_alone octets moment) ≡ length octets
unfolding octets_in
file-octets octets moment = ap octets_of_rows (file-entries octets moment) ∙ zero-add (length octets)

pub file-below : (octets : List ℕ) (moment : ℕ) (n : List ℕ) → under (file_alone octets moment) (n ∷ []) ≡ fin.empty
file-below octets moment n = same-nodes _ _ (λ q. under-stands (file_alone octets moment) (n ∷ []) q ∙ file-at octets moment (n ∷ q) ∙ sym (empty-at q))

pub len-empty : fin.len (fin.empty {K = Names} {X = Node} {R = path_cmp}) ≡ 0
len-empty = fin.len-empty path_cmp Node

pub octets-empty : octets_in fin.empty ≡ 0
unfolding octets_in
octets-empty = ap octets_of_rows no-entries

pub no-parts : IsDirectory [] 1 0
unfolding weigh
no-parts =
    record {
      sorted = refl;
      rows = refl;
      named = refl;
      standing = refl;
      counted = sym (len-weigh [] refl ∙ ap suc no-weight);
      summed = sym (octets-weigh [] refl ∙ no-octets);
    }
  where
    no-weight : weigh fin.len [] ≡ 0
    no-weight = refl

    no-octets : weigh octets_in [] ≡ 0
    no-octets = refl

pub under-empty : (path : Names) → under fin.empty path ≡ fin.empty
under-empty path = same-nodes _ _ (λ q. under-stands fin.empty path q ∙ empty-at (path ++ q) ∙ sym (empty-at q))

-- ---- what is put and taken by a name and the names behind it

pub with-cons : (table : Map) (name : List ℕ) (rest : Names) (part : Map) → with_part table (name ∷ rest) part ≡ with_part table (name ∷ []) (with_part (under table (name ∷ [])) rest part)
with-cons table name rest part =
    as-part table (name ∷ rest) part (with_part table (name ∷ []) inner) (λ q. part-comes table (name ∷ []) inner (rest ++ q) ∙ part-comes (under table (name ∷ [])) rest part q)
    (λ path out. elim (is_within (name ∷ []) path) as (λ b. is_within (name ∷ []) path ≡ b → node_at (with_part table (name ∷ []) inner) path ≡ node_at table path) [
      | true ↦ λ inside.
          let below = drop 1 path in
          let is : path ≡ name ∷ below = within-parts (name ∷ []) path inside in
          let out_below : is_within rest below ≡ false = sym (within-inside (name ∷ []) rest path inside) ∙ out in
          ap (node_at (with_part table (name ∷ []) inner)) is ∙ part-comes table (name ∷ []) inner below ∙ part-stays (under table (name ∷ [])) rest part below out_below
          ∙ under-stands table (name ∷ []) below ∙ ap (node_at table) (sym is)
      | false ↦ λ outside. part-stays table (name ∷ []) inner path outside
    ] refl)
  where
    inner : Map
    inner = with_part (under table (name ∷ [])) rest part

-- a part that has nothing is in the map as it is
pub with-nothing : (table : Map) (path : Names) → under table path ≡ fin.empty → with_part table path fin.empty ≡ table
with-nothing table path none = ap (with_part table path) (sym none) ∙ part-back table path

named-put : (n : List ℕ) (t : Map) (ps : List NamedMap) → is_name n ≡ true → list_all (λ p. is_name p.0) ps ≡ true → list_all (λ p. is_name p.0) (put name_cmp n t ps) ≡ true
named-put n t [] here all = and_from (is_name n) true here refl
named-put n t (p ∷ ps) here all =
    let both = and_parts (is_name p.0) (list_all (λ p. is_name p.0) ps) all in
    elim (name_cmp n p.0) as (λ r. list_all (λ p. is_name p.0) (by_order r ((n, t) ∷ p ∷ ps) ((p.0, t) ∷ ps) (p ∷ put name_cmp n t ps)) ≡ true) [
      | Less ↦ and_from (is_name n) _ here all
      | Equal ↦ all
      | Greater ↦ and_from (is_name p.0) _ both.0 (named-put n t ps here both.1)
    ]

stands-put : (n : List ℕ) (t : Map) (ps : List NamedMap) → is_some (node_at t []) ≡ true → list_all (λ p. is_some (node_at p.1 [])) ps ≡ true → list_all (λ p. is_some (node_at p.1 [])) (put name_cmp n t ps) ≡ true
stands-put n t [] here all = and_from (is_some (node_at t [])) true here refl
stands-put n t (p ∷ ps) here all =
    let both = and_parts (is_some (node_at p.1 [])) (list_all (λ p. is_some (node_at p.1 [])) ps) all in
    elim (name_cmp n p.0) as (λ r. list_all (λ p. is_some (node_at p.1 [])) (by_order r ((n, t) ∷ p ∷ ps) ((p.0, t) ∷ ps) (p ∷ put name_cmp n t ps)) ≡ true) [
      | Less ↦ and_from (is_some (node_at t [])) _ here all
      | Equal ↦ and_from (is_some (node_at t [])) _ here both.1
      | Greater ↦ and_from (is_some (node_at p.1 [])) _ both.0 (stands-put n t ps here both.1)
    ]

all-but : (f : NamedMap → Bool) (n : List ℕ) (ps : List NamedMap) → list_all f ps ≡ true → list_all f (but n ps) ≡ true
all-but f n [] all = refl
all-but f n (p ∷ ps) all =
    let both = and_parts (f p) (list_all f ps) all in
    elim (eq_by_cmp name_cmp n p.0) as (λ b. list_all f (cond (not b) (p ∷ but n ps) (but n ps)) ≡ true) [
      | true ↦ all-but f n ps both.1
      | false ↦ and_from (f p) _ both.0 (all-but f n ps both.1)
    ]

-- how much there is where a part takes the place of another: some more, and some gone
pub record Changes (ps : List NamedMap) (n : List ℕ) (t : Map) (more gone : ℕ) (w : Map → ℕ) : Type 0 where
  pub whole : w t + gone ≡ w (found (find name_cmp n ps)) + more

weighs-changed : (ps : List NamedMap) (n : List ℕ) (t : Map) (more gone : ℕ) (w : Map → ℕ) → w fin.empty ≡ 0 → is_sorted name_cmp ps ≡ true → Changes ps n t more gone w
    → weigh w (put name_cmp n t ps) + gone ≡ weigh w ps + more
weighs-changed ps n t more gone w none sorted changes = let put = weigh-put w none n t ps sorted in let whole = changes.whole in omega arith

pub record IsPut (ps : List NamedMap) (n : List ℕ) (t : Map) (nodes octets more_nodes more_octets gone_nodes gone_octets : ℕ) : Type 0 where
  pub nodes_fit : gone_nodes ≤ nodes + more_nodes
  pub octets_fit : gone_octets ≤ octets + more_octets
  pub directory : IsDirectory (put name_cmp n t ps) (nodes + more_nodes - gone_nodes) (octets + more_octets - gone_octets)
  pub nodes_are : fin.len (parts_table (put name_cmp n t ps)) + gone_nodes ≡ fin.len (parts_table ps) + more_nodes
  pub octets_are : octets_in (parts_table (put name_cmp n t ps)) + gone_octets ≡ octets_in (parts_table ps) + more_octets

pub is-put : (ps : List NamedMap) (n : List ℕ) (t : Map) (nodes octets more_nodes more_octets gone_nodes gone_octets : ℕ) → IsDirectory ps nodes octets → is_name n ≡ true → is_some (node_at t []) ≡ true
    → Changes ps n t more_nodes gone_nodes fin.len → Changes ps n t more_octets gone_octets octets_in → IsPut ps n t nodes octets more_nodes more_octets gone_nodes gone_octets
is-put ps n t nodes octets more_nodes more_octets gone_nodes gone_octets old named stands few many =
    let after = true-from _ (is_sorted-put name_cmp name_total n t ps (T-from _ old.sorted)) in
    let before_len = len-weigh ps old.sorted in
    let after_len = len-weigh (put name_cmp n t ps) after in
    let changed_len = weighs-changed ps n t more_nodes gone_nodes fin.len len-empty old.sorted few in
    let before_octets = octets-weigh ps old.sorted in
    let after_octets = octets-weigh (put name_cmp n t ps) after in
    let changed_octets = weighs-changed ps n t more_octets gone_octets octets_in octets-empty old.sorted many in
    let counted = old.counted in
    let summed = old.summed in
    record {
      nodes_fit = omega arith;
      octets_fit = omega arith;
      directory = record {
        sorted = after;
        rows = in-order (put name_cmp n t ps) after;
        named = named-put n t ps named old.named;
        standing = stands-put n t ps stands old.standing;
        counted = omega arith;
        summed = omega arith;
      };
      nodes_are = omega arith;
      octets_are = omega arith;
    }

pub record IsGone (ps : List NamedMap) (n : List ℕ) (nodes octets : ℕ) : Type 0 where
  pub nodes_fit : fin.len (found (find name_cmp n ps)) ≤ nodes
  pub octets_fit : octets_in (found (find name_cmp n ps)) ≤ octets
  pub directory : IsDirectory (but n ps) (nodes - fin.len (found (find name_cmp n ps))) (octets - octets_in (found (find name_cmp n ps)))
  pub nodes_are : fin.len (parts_table (but n ps)) + fin.len (found (find name_cmp n ps)) ≡ fin.len (parts_table ps)
  pub octets_are : octets_in (parts_table (but n ps)) + octets_in (found (find name_cmp n ps)) ≡ octets_in (parts_table ps)

pub is-gone : (ps : List NamedMap) (n : List ℕ) (nodes octets : ℕ) → IsDirectory ps nodes octets → IsGone ps n nodes octets
is-gone ps n nodes octets old =
    let after = true-from _ (is_sorted-where_key name_cmp (λ name. not (eq_by_cmp name_cmp n name)) ps (T-from _ old.sorted)) in
    let before_len = len-weigh ps old.sorted in
    let after_len = len-weigh (but n ps) after in
    let changed_len = weigh-but fin.len len-empty n ps old.sorted in
    let before_octets = octets-weigh ps old.sorted in
    let after_octets = octets-weigh (but n ps) after in
    let changed_octets = weigh-but octets_in octets-empty n ps old.sorted in
    let counted = old.counted in
    let summed = old.summed in
    record {
      nodes_fit = omega arith;
      octets_fit = omega arith;
      directory = record {
        sorted = after;
        rows = in-order (but n ps) after;
        named = all-but (λ p. is_name p.0) n ps old.named;
        standing = all-but (λ p. is_some (node_at p.1 [])) n ps old.standing;
        counted = omega arith;
        summed = omega arith;
      };
      nodes_are = omega arith;
      octets_are = omega arith;
    }

-- ---- the names in a directory, and the texts of its paths

nonempty-none : (n : List ℕ) (xs : Rows) → below_all path_cmp [] xs ≡ true → filter_map (λ e. name_in [] (n ∷ e.0)) xs ≡ []
unfolding name_in is_within
nonempty-none n [] below = refl
nonempty-none n (([], v) ∷ xs) below = absurd (true≢false (sym below))
nonempty-none n ((m ∷ q, v) ∷ xs) below = nonempty-none n xs below

none-top : (m : List ℕ) (q : Names) (xs : Rows) → below_all path_cmp (m ∷ q) xs ≡ true → find path_cmp [] xs ≡ None
none-top m q [] below = refl
none-top m q (([], v) ∷ xs) below = absurd (true≢false (sym below))
none-top m q ((k ∷ r, v) ∷ xs) below = none-top m q xs (and_parts (is_lt (path_cmp (m ∷ q) (k ∷ r))) (below_all path_cmp (m ∷ q) xs) below).1

one-name : (n : List ℕ) (xs : Rows) → is_sorted path_cmp xs ≡ true → is_some (find path_cmp [] xs) ≡ true → filter_map (λ e. name_in [] (n ∷ e.0)) xs ≡ n ∷ []
unfolding name_in is_within
one-name n [] sorted some = absurd (true≢false (sym some))
one-name n (([], v) ∷ xs) sorted some = ap (λ l. n ∷ l) (nonempty-none n xs (and_parts (below_all path_cmp [] xs) (is_sorted path_cmp xs) sorted).0)
one-name n ((m ∷ q, v) ∷ xs) sorted some =
    absurd (true≢false (sym (ap is_some (sym (none-top m q xs (and_parts (below_all path_cmp (m ∷ q) xs) (is_sorted path_cmp xs) sorted).0)) ∙ some)))

names-front : (n : List ℕ) (xs : Rows) → filter_map (λ (row : Names × Node). name_in [] row.0) (map (λ (e : Names × Node). (n ∷ e.0, e.1)) xs) ≡ filter_map (λ (e : Names × Node). name_in [] (n ∷ e.0)) xs
names-front n [] = refl
names-front n (x ∷ xs) = ap (cons_option (name_in [] (n ∷ x.0))) (names-front n xs)

names-rows : (ps : List NamedMap) → list_all (λ p. is_some (node_at p.1 [])) ps ≡ true → filter_map (λ (row : Names × Node). name_in [] row.0) (part_rows ps) ≡ map (λ p. p.0) ps
names-rows [] all = refl
names-rows (p ∷ ps) all =
    let both = and_parts (is_some (node_at p.1 [])) (list_all (λ p. is_some (node_at p.1 [])) ps) all in
    filter_map-append (λ (row : Names × Node). name_in [] row.0) (behind p) (part_rows ps)
    ∙ ap (λ l. l ++ filter_map (λ (row : Names × Node). name_in [] row.0) (part_rows ps)) (names-front p.0 (fin.entries p.1)
    ∙ one-name p.0 (fin.entries p.1) (true-from _ (fin.entries_sorted p.1)) (ap is_some (get-node p.1 []) ∙ both.0))
    ∙ ap (λ l. p.0 ∷ l) (names-rows ps both.1)

pub names-top : (ps : List NamedMap) (nodes octets : ℕ) → IsDirectory ps nodes octets → children (parts_table ps) [] ≡ map (λ p. p.0) ps
names-top ps nodes octets here = children-table (part_rows ps) (in-order ps here.sorted) [] ∙ names-rows ps here.standing

pub file-names : (octets : List ℕ) (moment : ℕ) → children (file_alone octets moment) [] ≡ []
unfolding children name_in is_within
file-names octets moment = ap (λ (l : Rows). filter_map (name_in []) (map (λ (e : Names × Node). e.0) l)) (file-entries octets moment)

keys-front : (f : Names → Bool) (n : List ℕ) (xs : Rows) → list_all f (map (λ (e : Names × Node). e.0) (map (λ (e : Names × Node). (n ∷ e.0, e.1)) xs)) ≡ list_all (λ q. f (n ∷ q)) (map (λ (e : Names × Node). e.0) xs)
keys-front f n [] = refl
keys-front f n (x ∷ xs) = ap (λ b. f (n ∷ x.0) && b) (keys-front f n xs)

-- a test of each path in each part
pub all-parts : (Names → Bool) → List NamedMap → Bool
all-parts f [] = true
all-parts f (p ∷ ps) = list_all (λ q. f (p.0 ∷ q)) (fin.keys p.1) && all-parts f ps

keys-rows : (f : Names → Bool) (ps : List NamedMap) → list_all f (map (λ (e : Names × Node). e.0) (part_rows ps)) ≡ all-parts f ps
unfolding all-parts
keys-rows f [] = refl
keys-rows f (p ∷ ps) =
    ap (list_all f) (map-append (λ (e : Names × Node). e.0) (behind p) (part_rows ps)) ∙ list_all-append f (map (λ (e : Names × Node). e.0) (behind p)) (map (λ (e : Names × Node). e.0) (part_rows ps))
    ∙ ap (λ b. b && list_all f (map (λ (e : Names × Node). e.0) (part_rows ps))) (keys-front f p.0 (fin.entries p.1)) ∙ ap (λ b. list_all (λ q. f (p.0 ∷ q)) (fin.keys p.1) && b) (keys-rows f ps)

pub keys-parts : (f : Names → Bool) (ps : List NamedMap) → is_sorted name_cmp ps ≡ true → list_all f (fin.keys (parts_table ps)) ≡ (f [] && all-parts f ps)
keys-parts f ps sorted = ap (λ (l : Rows). list_all f (map (λ (e : Names × Node). e.0) l)) (entries-table (part_rows ps) (in-order ps sorted)) ∙ ap (λ b. f [] && b) (keys-rows f ps)

pub file-keys : (f : Names → Bool) (octets : List ℕ) (moment : ℕ) → list_all f (fin.keys (file_alone octets moment)) ≡ (f [] && true)
file-keys f octets moment = ap (λ (l : Rows). list_all f (map (λ (e : Names × Node). e.0) l)) (file-entries octets moment)

-- ---- a part that is changed below, put anew, taken

stands-found : (n : List ℕ) (ps : List NamedMap) (t : Map) → list_all (λ p. is_some (node_at p.1 [])) ps ≡ true → find name_cmp n ps ≡ Some t → is_some (node_at t []) ≡ true
stands-found n [] t all found = cc
stands-found n (p ∷ ps) t all found =
    let both = and_parts (is_some (node_at p.1 [])) (list_all (λ p. is_some (node_at p.1 [])) ps) all in
    elim (eq_by_cmp name_cmp n p.0) as (λ b. cond b (Some p.1) (find name_cmp n ps) ≡ Some t → is_some (node_at t []) ≡ true) [
      | true ↦ λ here. ap (λ o. is_some (node_at (unwrap_or o p.1) [])) (sym here) ∙ both.0
      | false ↦ λ later. stands-found n ps t both.1 later
    ] found

out-top : (name : List ℕ) (rest : Names) → is_within (name ∷ rest) [] ≡ false
unfolding is_within
out-top name rest = refl

stands-with : (table : Map) (rest : Names) (part : Map) → is_some (node_at table []) ≡ true → (rest ≡ [] → is_some (node_at part []) ≡ true) → is_some (node_at (with_part table rest part) []) ≡ true
stands-with table [] part stands below = ap (λ t. is_some (node_at t [])) (part_whole table part) ∙ below refl
stands-with table (name ∷ rest) part stands below = ap is_some (part-stays table (name ∷ rest) part [] (out-top name rest)) ∙ stands

-- what the part below a name becomes, the directory becomes with it
with-below : (ps : List NamedMap) → is_sorted name_cmp ps ≡ true → (n : List ℕ) (rest : Names) (old new part : Map) → find name_cmp n ps ≡ Some old → new ≡ with_part old rest part
    → parts_table (put name_cmp n new ps) ≡ with_part (parts_table ps) (n ∷ rest) part
with-below ps sorted n rest old new part there is =
    with-name ps sorted n new ∙ ap (with_part (parts_table ps) (n ∷ [])) (is ∙ ap (λ t. with_part t rest part) (sym (under-name ps sorted n ∙ ap found there))) ∙ sym (with-cons (parts_table ps) n rest part)

pub record PutsBelow (ps : List NamedMap) (n : List ℕ) (rest : Names) (new node : Map) (nodes octets more_nodes more_octets gone_nodes gone_octets : ℕ) : Type 0 where
  pub done : IsPut ps n new nodes octets more_nodes more_octets gone_nodes gone_octets
  pub table : parts_table (put name_cmp n new ps) ≡ with_part (parts_table ps) (n ∷ rest) node

pub puts-below : (ps : List NamedMap) (nodes octets : ℕ) (n : List ℕ) (rest : Names) (old new node : Map) (gone_nodes gone_octets : ℕ) → IsDirectory ps nodes octets → is_name n ≡ true → find name_cmp n ps ≡ Some old
    → is_some (node_at node []) ≡ true → new ≡ with_part old rest node → fin.len new + gone_nodes ≡ fin.len old + fin.len node → octets_in new + gone_octets ≡ octets_in old + octets_in node
    → PutsBelow ps n rest new node nodes octets (fin.len node) (octets_in node) gone_nodes gone_octets
puts-below ps nodes octets n rest old new node gone_nodes gone_octets here named there stands is few many =
    let standing = ap (λ t. is_some (node_at t [])) is ∙ stands-with old rest node (stands-found n ps old here.standing there) (λ _. stands) in
    record {
      done = is-put ps n new nodes octets (fin.len node) (octets_in node) gone_nodes gone_octets here named standing
          (record { whole = few ∙ ap (λ t. fin.len (found t) + fin.len node) (sym there) }) (record { whole = many ∙ ap (λ t. octets_in (found t) + octets_in node) (sym there) });
      table = with-below ps here.sorted n rest old new node there is;
    }

pub puts-new : (ps : List NamedMap) (nodes octets : ℕ) (n : List ℕ) (rest : Names) (node : Map) → IsDirectory ps nodes octets → is_name n ≡ true → find name_cmp n ps ≡ None → rest ≡ []
    → is_some (node_at node []) ≡ true → PutsBelow ps n rest node node nodes octets (fin.len node) (octets_in node) 0 0
puts-new ps nodes octets n rest node here named none last stands =
    let no_nodes : fin.len (found (find name_cmp n ps)) ≡ 0 = ap (λ t. fin.len (found t)) none ∙ len-empty in
    let no_octets : octets_in (found (find name_cmp n ps)) ≡ 0 = ap (λ t. octets_in (found t)) none ∙ octets-empty in
    record {
      done = is-put ps n node nodes octets (fin.len node) (octets_in node) 0 0 here named stands (record { whole = omega arith }) (record { whole = omega arith });
      table = with-name ps here.sorted n node ∙ ap (λ r. with_part (parts_table ps) (n ∷ r) node) (sym last);
    }

-- a part that is as it was
pub record StaysBelow (ps : List NamedMap) (n : List ℕ) (new : Map) (nodes octets : ℕ) : Type 0 where
  pub directory : IsDirectory (put name_cmp n new ps) nodes octets
  pub table : parts_table (put name_cmp n new ps) ≡ parts_table ps

pub stays-below : (ps : List NamedMap) (nodes octets : ℕ) (n : List ℕ) (old new : Map) → IsDirectory ps nodes octets → is_name n ≡ true → find name_cmp n ps ≡ Some old → new ≡ old → StaysBelow ps n new nodes octets
stays-below ps nodes octets n old new here named there same =
    let stands = ap (λ t. is_some (node_at t [])) same ∙ stands-found n ps old here.standing there in
    let few : fin.len new + 0 ≡ fin.len (found (find name_cmp n ps)) + 0 = ap (λ t. fin.len t + 0) same ∙ ap (λ t. fin.len (found t) + 0) (sym there) in
    let many : octets_in new + 0 ≡ octets_in (found (find name_cmp n ps)) + 0 = ap (λ t. octets_in t + 0) same ∙ ap (λ t. octets_in (found t) + 0) (sym there) in
    let done = is-put ps n new nodes octets 0 0 0 0 here named stands (record { whole = few }) (record { whole = many }) in
    let one : nodes + 0 - 0 ≡ nodes = omega arith in
    let other : octets + 0 - 0 ≡ octets = omega arith in
    record {
      directory = subst (λ k. IsDirectory (put name_cmp n new ps) k octets) one (subst (λ k. IsDirectory (put name_cmp n new ps) (nodes + 0 - 0) k) other done.directory);
      table = with-name ps here.sorted n new ∙ ap (with_part (parts_table ps) (n ∷ [])) (same ∙ sym (under-name ps here.sorted n ∙ ap found there)) ∙ part-back (parts_table ps) (n ∷ []);
    }

pub directory-as : (ps new : List NamedMap) (nodes octets new_nodes new_octets : ℕ) → IsDirectory ps nodes octets → new ≡ ps → new_nodes ≡ nodes → new_octets ≡ octets → IsDirectory new new_nodes new_octets
directory-as ps new nodes octets new_nodes new_octets here same few many =
    subst (λ l. IsDirectory l new_nodes new_octets) (sym same) (subst (λ k. IsDirectory ps k new_octets) (sym few) (subst (λ k. IsDirectory ps nodes k) (sym many) here))

pub record TakesBelow (ps : List NamedMap) (n : List ℕ) (rest : Names) (new taken : Map) (nodes octets : ℕ) : Type 0 where
  pub done : IsPut ps n new nodes octets 0 0 (fin.len taken) (octets_in taken)
  pub table : parts_table (put name_cmp n new ps) ≡ with_part (parts_table ps) (n ∷ rest) fin.empty
  pub is : taken ≡ under (parts_table ps) (n ∷ rest)

pub takes-below : (ps : List NamedMap) (nodes octets : ℕ) (n : List ℕ) (rest : Names) (old new taken : Map) → IsDirectory ps nodes octets → is_name n ≡ true → find name_cmp n ps ≡ Some old → (rest ≡ [] → ⊥)
    → new ≡ with_part old rest fin.empty → taken ≡ under old rest → fin.len new + fin.len taken ≡ fin.len old → octets_in new + octets_in taken ≡ octets_in old → TakesBelow ps n rest new taken nodes octets
takes-below ps nodes octets n rest old new taken here named there some is took few many =
    let standing = ap (λ t. is_some (node_at t [])) is ∙ stands-with old rest fin.empty (stands-found n ps old here.standing there) (λ none. absurd (some none)) in
    let len_there = ap (λ t. fin.len (found t)) there in
    let octets_there = ap (λ t. octets_in (found t)) there in
    record {
      done = is-put ps n new nodes octets 0 0 (fin.len taken) (octets_in taken) here named standing (record { whole = omega arith }) (record { whole = omega arith });
      table = with-below ps here.sorted n rest old new fin.empty there is;
      is = took ∙ ap (λ t. under t rest) (sym (under-name ps here.sorted n ∙ ap found there)) ∙ under-under (parts_table ps) (n ∷ []) rest;
    }

-- nothing stands below a name that is not there, nor below a file
pub none-below : (ps : List NamedMap) → is_sorted name_cmp ps ≡ true → (n : List ℕ) (rest : Names) → find name_cmp n ps ≡ None → under (parts_table ps) (n ∷ rest) ≡ fin.empty
none-below ps sorted n rest none = sym (under-under (parts_table ps) (n ∷ []) rest) ∙ ap (λ t. under t rest) (under-name ps sorted n ∙ ap found none) ∙ under-empty rest

pub file-under : (octets : List ℕ) (moment : ℕ) (names : Names) → (names ≡ [] → ⊥) → under (file_alone octets moment) names ≡ fin.empty
file-under octets moment [] some = absurd (some refl)
file-under octets moment (n ∷ rest) some = sym (under-under (file_alone octets moment) (n ∷ []) rest) ∙ ap (λ t. under t rest) (file-below octets moment n) ∙ under-empty rest

-- what nothing is taken from is as it was
pub record TakesNothing (table : Map) (path : Names) : Type 0 where
  pub taken : fin.empty ≡ under table path
  pub left : table ≡ with_part table path fin.empty
  pub nodes : fin.len table + fin.len (fin.empty {K = Names} {X = Node} {R = path_cmp}) ≡ fin.len table
  pub octets : octets_in table + octets_in fin.empty ≡ octets_in table

pub takes-nothing : (table : Map) (path : Names) → under table path ≡ fin.empty → TakesNothing table path
takes-nothing table path none =
    record {
      taken = sym none;
      left = sym (with-nothing table path none);
      nodes = omega (arith, len-empty);
      octets = omega (arith, octets-empty);
    }

-- ---- texts of paths below a name

top-first : (f : Names → Bool) (xs : Rows) → is_sorted path_cmp xs ≡ true → is_some (find path_cmp [] xs) ≡ true → f [] ≡ false → list_all f (map (λ (e : Names × Node). e.0) xs) ≡ false
top-first f [] sorted some no_top = absurd (true≢false (sym some))
top-first f (([], v) ∷ xs) sorted some no_top = ap (λ b. b && list_all f (map (λ (e : Names × Node). e.0) xs)) no_top
top-first f ((m ∷ q, v) ∷ xs) sorted some no_top =
    absurd (true≢false (sym (ap is_some (sym (none-top m q xs (and_parts (below_all path_cmp (m ∷ q) xs) (is_sorted path_cmp xs) sorted).0)) ∙ some)))

name-room : (n : List ℕ) (q : Names) → length (joined (n ∷ q)) ≡ 1 + (length n + length (joined q))
name-room n q = let more = length-append n (joined q) in omega arith

pub too-long : (room : ℕ) (n : List ℕ) (t : Map) → is_some (node_at t []) ≡ true → room ≤ length n → list_all (λ q. is_within_room room (n ∷ q)) (fin.keys t) ≡ false
too-long room n t stands long =
    top-first (λ q. is_within_room room (n ∷ q)) (fin.entries t) (true-from _ (fin.entries_sorted t)) (ap is_some (get-node t []) ∙ stands)
    (ap (λ b. (is_short n && true) && b) (lt-leb-false (length (joined (n ∷ []))) room (let all = name-room n [] in omega arith)) ∙ no (is_short n && true))
  where
    lt-leb-false : (a b : ℕ) → b < a → nat_le a b ≡ false
    lt-leb-false a b less = false-where (nat_le a b) (λ le. absurd (omega (arith, leb-true a b le)))

    no : (b : Bool) → (b && false) ≡ false
    no true = refl
    no false = refl

pub same-tests : (f g : Names → Bool) → ((q : Names) → f q ≡ g q) → (l : List Names) → list_all f l ≡ list_all g l
same-tests f g same [] = refl
same-tests f g same (q ∷ l) = ap (λ b. b && list_all f l) (same q) ∙ ap (λ b. g q && b) (same-tests f g same l)

pub room-behind : (room : ℕ) (n : List ℕ) (t : Map) → is_short n ≡ true → length n < room → list_all (λ q. is_within_room room (n ∷ q)) (fin.keys t) ≡ list_all (is_within_room (room - length n - 1)) (fin.keys t)
room-behind room n t short less =
    same-tests (λ q. is_within_room room (n ∷ q)) (is_within_room (room - length n - 1))
    (λ q. ap (λ b. (b && list_all is_short q) && nat_le (length (joined (n ∷ q))) room) short
    ∙ ap (λ b. list_all is_short q && b) (ap (λ k. nat_le k room) (name-room n q) ∙ by (length n) (length (joined q)) room less)) (fin.keys t)
  where
    by : (one rest room : ℕ) → one < room → nat_le (1 + (one + rest)) room ≡ nat_le rest (room - one - 1)
    by one rest room less = grind (arith, nat_tests)

pub all-parts-append : (f : Names → Bool) (ps qs : List NamedMap) → all-parts f (ps ++ qs) ≡ (all-parts f ps && all-parts f qs)
unfolding all-parts
all-parts-append f [] qs = refl
all-parts-append f (p ∷ ps) qs = ap (λ b. list_all (λ q. f (p.0 ∷ q)) (fin.keys p.1) && b) (all-parts-append f ps qs) ∙ and-assoc (list_all (λ q. f (p.0 ∷ q)) (fin.keys p.1)) (all-parts f ps) (all-parts f qs)

pub all-parts-none : (f : Names → Bool) → all-parts f [] ≡ true
unfolding all-parts
all-parts-none f = refl

pub all-parts-one : (f : Names → Bool) (p : NamedMap) → all-parts f (p ∷ []) ≡ list_all (λ q. f (p.0 ∷ q)) (fin.keys p.1)
unfolding all-parts
all-parts-one f p = by (list_all (λ q. f (p.0 ∷ q)) (fin.keys p.1))
  where
    by : (b : Bool) → (b && true) ≡ b
    by true = refl
    by false = refl

pub top-within : (room : ℕ) → is_within_room room [] ≡ true
top-within room = le-leb 0 room (omega arith)

-- a part is no more than the whole
pub part-le : (ps : List NamedMap) (nodes octets : ℕ) (n : List ℕ) (old : Map) → IsDirectory ps nodes octets → find name_cmp n ps ≡ Some old → (fin.len old ≤ fin.len (parts_table ps)) × (octets_in old ≤ octets_in (parts_table ps))
part-le ps nodes octets n old here there =
    let all_nodes = len-weigh ps here.sorted in
    let some_nodes = weigh-but fin.len len-empty n ps here.sorted in
    let this_nodes = ap (λ t. fin.len (found t)) there in
    let all_octets = octets-weigh ps here.sorted in
    let some_octets = weigh-but octets_in octets-empty n ps here.sorted in
    let this_octets = ap (λ t. octets_in (found t)) there in
    (omega arith, omega arith)
