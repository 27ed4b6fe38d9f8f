-- Laws of maps alone, path by path: a part that is taken and put, a node that comes or goes.
use Rattle.std.proofs.Common.{◌≡◌, Bool, true, false, not, cond, Option, Some, None, [], ◌∷◌, ◌++◌, length, drop, refl, sym, ap, ◌∙◌}
use Rattle.std.specs.Prelude.{map}
use Rattle.std.specs.List.{filter}
use Rattle.std.specs.Option.{option_or}
use Rattle.std.specs.Ordering.{eq_by_cmp, is_eq, ordering_then}
use Rattle.std.specs.declared.cmp.Ordering.{Ordering}
use Rattle.std.specs.declared.cmp.Ordering.TheVariants.{Less, Equal, Greater}
use Rattle.std.specs.Cmp.{tied_itself, nat_cmp_total}
use Rattle.std.specs.Cmp.Lexicographic.{lists_total}
use Rattle.std.specs.FinMap.Entries.{find}
use Rattle.std.proofs.lemmas.Bool.{cond-false, true≢false}
use Rattle.ftp_path.specs.Path.{Names, path_cmp, is_within}
use Rattle.ftp_tree.specs.Map.{Node, Map, node_at, under, with_part}
use Rattle.ftp_tree.specs.Rows.{Rows}
use Rattle.ftp_tree.proofs.EntryLemmas.{path_total, path_same}
use Rattle.ftp_path.proofs.KeyLemmas.{within-parts, within-append}
use Rattle.std.specs.FinMap as fin

-- ---- paths with one front

pub cmp-front : (front a b : Names) → path_cmp (front ++ a) (front ++ b) ≡ path_cmp a b
cmp-front [] a b = refl
cmp-front (name ∷ front) a b = ap (λ r. ordering_then r (path_cmp (front ++ a) (front ++ b))) (tied_itself (lists_total nat_cmp_total) name) ∙ cmp-front front a b

pub equal-from : (r : Ordering) → is_eq r ≡ true → r ≡ Equal
equal-from Less e = absurd (true≢false (sym e))
equal-from Equal e = refl
equal-from Greater e = absurd (true≢false (sym e))

pub same : (a b : Names) → eq_by_cmp path_cmp a b ≡ true → a ≡ b
same a b equal = path_same a b (equal-from (path_cmp a b) equal)

pub false-where : (b : Bool) → (b ≡ true → ⊥) → b ≡ false
false-where true never = absurd (never refl)
false-where false never = refl

-- paths of which one is within another path, and one is not, differ
pub apart : (above a b : Names) → is_within above a ≡ false → is_within above b ≡ true → eq_by_cmp path_cmp a b ≡ false
apart above a b out inside = false-where _ (λ equal. true≢false (sym inside ∙ ap (is_within above) (sym (same a b equal)) ∙ out))

pub apart-back : (above a b : Names) → is_within above a ≡ true → is_within above b ≡ false → eq_by_cmp path_cmp a b ≡ false
apart-back above a b inside out = false-where _ (λ equal. true≢false (sym inside ∙ ap (is_within above) (same a b equal) ∙ out))

-- the same rest behind two fronts
pub eq-fronts : (first second a b : Names) → eq_by_cmp path_cmp (first ++ a) (first ++ b) ≡ eq_by_cmp path_cmp (second ++ a) (second ++ b)
eq-fronts first second a b = ap is_eq (cmp-front first a b ∙ sym (cmp-front second a b))

-- ---- below a path

below : (root path : Names) (es : Rows) → find path_cmp path (map (λ e. (drop (length root) e.0, e.1)) (filter (λ e. is_within root e.0) es)) ≡ find path_cmp (root ++ path) es
below root path [] = refl
below root path (e ∷ es) =
    let rest = below root path es in
    elim (is_within root e.0) as (λ b. is_within root e.0 ≡ b
    → find path_cmp path (map (λ e. (drop (length root) e.0, e.1)) (cond b (e ∷ filter (λ e. is_within root e.0) es) (filter (λ e. is_within root e.0) es)))
    ≡ cond (eq_by_cmp path_cmp (root ++ path) e.0) (Some e.1) (find path_cmp (root ++ path) es)) [
      | true ↦ λ inside.
          ap (cond (eq_by_cmp path_cmp path (drop (length root) e.0)) (Some e.1)) rest
          ∙ ap (λ b. cond b (Some e.1) (find path_cmp (root ++ path) es)) (eq-fronts [] root path (drop (length root) e.0)
          ∙ ap (eq_by_cmp path_cmp (root ++ path)) (sym (within-parts root e.0 inside)))
      | false ↦ λ outside. rest ∙ sym (cond-false (eq_by_cmp path_cmp (root ++ path) e.0) (Some e.1) (find path_cmp (root ++ path) es) (apart-back root (root ++ path) e.0 (within-append root path) outside))
    ] refl

pub under-stands : (table : Map) (root path : Names) → node_at (under table root) path ≡ node_at table (root ++ path)
unfolding node_at under
under-stands table root path =
    fin.get-from_entries path_total (map (λ e. (drop (length root) e.0, e.1)) (filter (λ e. is_within root e.0) (fin.entries table))) path
    ∙ below root path (fin.entries table) ∙ sym (fin.get-entries table (root ++ path))

pub get-node : (table : Map) (path : Names) → find path_cmp path (fin.entries table) ≡ node_at table path
unfolding node_at
get-node table path = sym (fin.get-entries table path)

-- ---- rows outside a path, and rows below it

abbrev outside : Names → Rows → Rows
outside root = filter (λ e. not (is_within root e.0))

abbrev put_below : Names → Rows → Rows
put_below root = map (λ e. (root ++ e.0, e.1))

find-append : (path : Names) (es fs : Rows) → find path_cmp path (es ++ fs) ≡ option_or (find path_cmp path es) (find path_cmp path fs)
find-append path [] fs = refl
find-append path (e ∷ es) fs =
    elim (eq_by_cmp path_cmp path e.0) as (λ b. cond b (Some e.1) (find path_cmp path (es ++ fs)) ≡ option_or (cond b (Some e.1) (find path_cmp path es)) (find path_cmp path fs)) [
      | true ↦ refl
      | false ↦ find-append path es fs
    ]

none-outside : (root path : Names) (es : Rows) → is_within root path ≡ true → find path_cmp path (outside root es) ≡ None
none-outside root path [] inside = refl
none-outside root path (e ∷ es) inside =
    elim (is_within root e.0) as (λ b. is_within root e.0 ≡ b → find path_cmp path (cond (not b) (e ∷ outside root es) (outside root es)) ≡ None) [
      | true ↦ λ _. none-outside root path es inside
      | false ↦ λ out. cond-false (eq_by_cmp path_cmp path e.0) (Some e.1) (find path_cmp path (outside root es)) (apart-back root path e.0 inside out) ∙ none-outside root path es inside
    ] refl

all-outside : (root path : Names) (es : Rows) → is_within root path ≡ false → find path_cmp path (outside root es) ≡ find path_cmp path es
all-outside root path [] out = refl
all-outside root path (e ∷ es) out =
    elim (is_within root e.0) as (λ b. is_within root e.0 ≡ b → find path_cmp path (cond (not b) (e ∷ outside root es) (outside root es)) ≡ find path_cmp path (e ∷ es)) [
      | true ↦ λ inside.
          all-outside root path es out
          ∙ sym (cond-false (eq_by_cmp path_cmp path e.0) (Some e.1) (find path_cmp path es) (false-where _ (λ equal. true≢false (sym inside ∙ ap (is_within root) (sym (same path e.0 equal)) ∙ out))))
      | false ↦ λ _. ap (cond (eq_by_cmp path_cmp path e.0) (Some e.1)) (all-outside root path es out)
    ] refl

all-below : (root path : Names) (es : Rows) → find path_cmp (root ++ path) (put_below root es) ≡ find path_cmp path es
all-below root path [] = refl
all-below root path (e ∷ es) =
    ap (λ b. cond b (Some e.1) (find path_cmp (root ++ path) (put_below root es))) (eq-fronts root [] path e.0) ∙ ap (cond (eq_by_cmp path_cmp path e.0) (Some e.1)) (all-below root path es)

none-below : (root path : Names) (es : Rows) → is_within root path ≡ false → find path_cmp path (put_below root es) ≡ None
none-below root path [] out = refl
none-below root path (e ∷ es) out =
    cond-false (eq_by_cmp path_cmp path (root ++ e.0)) (Some e.1) (find path_cmp path (put_below root es))
    (false-where _ (λ equal. true≢false (sym (within-append root e.0) ∙ ap (is_within root) (sym (same path (root ++ e.0) equal)) ∙ out)))
    ∙ none-below root path es out

-- ---- what stands once a part is put

get-part : (table : Map) (root : Names) (part : Map) (path : Names)
    → node_at (with_part table root part) path ≡ option_or (find path_cmp path (outside root (fin.entries table))) (find path_cmp path (put_below root (fin.entries part)))
unfolding node_at with_part
get-part table root part path =
    fin.get-from_entries path_total (outside root (fin.entries table) ++ put_below root (fin.entries part)) path ∙ find-append path (outside root (fin.entries table)) (put_below root (fin.entries part))

pub part-comes : (table : Map) (root : Names) (part : Map) (path : Names) → node_at (with_part table root part) (root ++ path) ≡ node_at part path
part-comes table root part path =
    get-part table root part (root ++ path)
    ∙ ap (λ o. option_or o (find path_cmp (root ++ path) (put_below root (fin.entries part)))) (none-outside root (root ++ path) (fin.entries table) (within-append root path))
    ∙ all-below root path (fin.entries part) ∙ get-node part path

or-none : (o : Option Node) → option_or o None ≡ o
or-none None = refl
or-none (Some node) = refl

pub part-stays : (table : Map) (root : Names) (part : Map) (path : Names) → is_within root path ≡ false → node_at (with_part table root part) path ≡ node_at table path
part-stays table root part path out =
    get-part table root part path
    ∙ ap (λ o. option_or (find path_cmp path (outside root (fin.entries table))) o) (none-below root path (fin.entries part) out)
    ∙ or-none _ ∙ all-outside root path (fin.entries table) out ∙ get-node table path

-- maps at whose paths the same stands are one
pub same-nodes : (one other : Map) → ((path : Names) → node_at one path ≡ node_at other path) → one ≡ other
unfolding node_at
same-nodes one other all = fin.same_map path_total path_same one other all

-- a map in which the part stands at the root, and all else as before, is the map with that part
pub as-part : (table : Map) (root : Names) (part new : Map) → ((path : Names) → node_at new (root ++ path) ≡ node_at part path)
    → ((path : Names) → is_within root path ≡ false → node_at new path ≡ node_at table path) → with_part table root part ≡ new
as-part table root part new comes stays =
    same-nodes _ _ (λ path. elim (is_within root path) as (λ b. is_within root path ≡ b → node_at (with_part table root part) path ≡ node_at new path) [
      | true ↦ λ inside.
          let is = within-parts root path inside in
          ap (node_at (with_part table root part)) is ∙ part-comes table root part (drop (length root) path) ∙ sym (comes (drop (length root) path)) ∙ ap (node_at new) (sym is)
      | false ↦ λ out. part-stays table root part path out ∙ sym (stays path out)
    ] refl)

-- a part put twice is the last
pub put_again : (table : Map) (root : Names) (one other : Map) → with_part (with_part table root one) root other ≡ with_part table root other
put_again table root one other =
    sym (as-part table root other (with_part (with_part table root one) root other) (part-comes (with_part table root one) root other)
    (λ path out. part-stays (with_part table root one) root other path out ∙ part-stays table root one path out))

within-all : (path : Names) → is_within [] path ≡ true
within-all path = within-append [] path

pub under_all : (table : Map) → under table [] ≡ table
under_all table = same-nodes _ _ (λ path. under-stands table [] path)

pub part-back : (table : Map) (root : Names) → with_part table root (under table root) ≡ table
part-back table root = as-part table root (under table root) table (λ path. sym (under-stands table root path)) (λ path out. refl)

pub part_whole : (table part : Map) → with_part table [] part ≡ part
part_whole table part = as-part table [] part part (λ path. refl) (λ path out. absurd (true≢false (sym (within-all path) ∙ out)))

pub at-insert : (table : Map) (path : Names) (node : Node) (other : Names) → node_at (fin.insert table path node) other ≡ cond (eq_by_cmp path_cmp other path) (Some node) (node_at table other)
unfolding node_at
at-insert table path node other = fin.get-insert path_total table path node other

pub at-remove : (table : Map) (path other : Names) → node_at (fin.remove table path) other ≡ cond (eq_by_cmp path_cmp other path) None (node_at table other)
unfolding node_at
at-remove table path other = fin.get-remove path_total table path other

pub empty-at : (q : Names) → node_at fin.empty q ≡ None
unfolding node_at
empty-at q = fin.get-empty path_cmp q
