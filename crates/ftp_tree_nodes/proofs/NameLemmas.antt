-- Parts in the order of their names: where a name stands among them, and what a change there makes of them.
use Rattle.std.proofs.Common.{ℕ, zero, suc, ◌+◌, ◌<◌, ◌≤◌, ◌≡◌, Bool, true, false, not, ◌&&◌, cond, Some, None, inl, inr, List, [], ◌∷◌, ◌++◌, length, take, drop, get_or, set, refl, sym, ap, ◌∙◌, subst, arith, Box}
use Rattle.std.specs.Prelude.{map}
use Rattle.std.specs.List.{insert, list_all, remove, slice_get, take-map, drop-map}
use Rattle.ftp_path.specs.Path.{is_name}
use Rattle.std.specs.Ordering.{eq_by_cmp, is_eq, is_lt, ordering_reverse}
use Rattle.std.specs.declared.cmp.Ordering.{Ordering}
use Rattle.std.specs.declared.cmp.Ordering.TheVariants.{Less, Equal, Greater}
use Rattle.std.specs.Cmp.{tied_itself}
use Rattle.std.specs.FinMap.{is_sorted}
use Rattle.std.specs.FinMap.Entries.{find, put, below_all, by_order}
use Rattle.std.proofs.lemmas.Bool.{and_parts, cases_lt, true≢false}
use Rattle.ftp_tree.specs.Map.{Map}
use Rattle.std.proofs.lemmas.List.{length-map, map-append, map-set, take_more, take-append-drop}
use Rattle.std.proofs.Math.Seq.{drop-cons}
use Rattle.ftp_tree_nodes.specs.declared.node.Child.{Child}
use Rattle.ftp_tree_nodes.specs.Branch.{NamedMap, part_of_child, parts, name_cmp, NameStandsAt, HasGap}
use Rattle.ftp_tree_nodes.proofs.BranchLemmas.{name_total, name_same, but}
use Rattle.std.specs.FinMap as fin

pub after-before : (a b : List ℕ) → name_cmp a b ≡ Less → name_cmp b a ≡ Greater
after-before a b less = name_total.antisymm b a ∙ ap ordering_reverse less

pub before-after : (a b : List ℕ) → name_cmp a b ≡ Greater → name_cmp b a ≡ Less
before-after a b greater = name_total.antisymm b a ∙ ap ordering_reverse greater

pub less-from : (r : Ordering) → is_lt r ≡ true → r ≡ Less
less-from Less e = refl
less-from Equal e = absurd (true≢false (sym e))
less-from Greater e = absurd (true≢false (sym e))

same-eq : (a b : List ℕ) → a ≡ b → eq_by_cmp name_cmp b a ≡ true
same-eq a b same = ap (λ x. eq_by_cmp name_cmp b x) same ∙ ap is_eq (tied_itself name_total b)

less-not_eq : (a b : List ℕ) → name_cmp a b ≡ Less → eq_by_cmp name_cmp b a ≡ false
less-not_eq a b less = ap is_eq (after-before a b less)

-- ---- names that rise

below-at : (x : List ℕ) (es : List NamedMap) → below_all name_cmp x es ≡ true → (j : ℕ) (d : List ℕ × Map) → j < length es → name_cmp x (get_or es j d).0 ≡ Less
below-at x [] below j d within = absurd (omega arith)
below-at x (e ∷ es) below zero d within = less-from (name_cmp x e.0) (and_parts (is_lt (name_cmp x e.0)) (below_all name_cmp x es) below).0
below-at x (e ∷ es) below (suc j) d within = below-at x es (and_parts (is_lt (name_cmp x e.0)) (below_all name_cmp x es) below).1 j d (omega arith)

pub rises : (es : List NamedMap) → is_sorted name_cmp es ≡ true → (i j : ℕ) (d : List ℕ × Map) → i < j → j < length es → name_cmp (get_or es i d).0 (get_or es j d).0 ≡ Less
rises [] sorted i j d lt within = absurd (omega arith)
rises (e ∷ es) sorted i zero d lt within = absurd (omega arith)
rises (e ∷ es) sorted zero (suc j) d lt within = below-at e.0 es (and_parts (below_all name_cmp e.0 es) (is_sorted name_cmp es) sorted).0 j d (omega arith)
rises (e ∷ es) sorted (suc i) (suc j) d lt within = rises es (and_parts (below_all name_cmp e.0 es) (is_sorted name_cmp es) sorted).1 i j d (omega arith) (omega arith)

pub below-less : (q x : List ℕ) (es : List NamedMap) → name_cmp q x ≡ Less → below_all name_cmp x es ≡ true → below_all name_cmp q es ≡ true
below-less q x [] less below = refl
below-less q x (e ∷ es) less below =
    let both = and_parts (is_lt (name_cmp x e.0)) (below_all name_cmp x es) below in
    λ i. is_lt (name_total.trans q x e.0 less (less-from (name_cmp x e.0) both.0) i) && below-less q x es less both.1 i

-- ---- a search by halves

-- each row before a place comes before the path; each from a place on behind it
abbrev pub AllBefore : List NamedMap → List ℕ → ℕ → Type 0
AllBefore es q at = (k : ℕ) → k < at → name_cmp (get_or es k ([], fin.empty)).0 q ≡ Less

abbrev pub AllBehind : List NamedMap → List ℕ → ℕ → Type 0
AllBehind es q at = (k : ℕ) → at ≤ k → k < length es → name_cmp (get_or es k ([], fin.empty)).0 q ≡ Greater

module _ (es : List NamedMap) (q : List ℕ) (sorted : is_sorted name_cmp es ≡ true) (middle : ℕ) (within : middle < length es) where
  pub more-before : name_cmp (get_or es middle ([], fin.empty)).0 q ≡ Less → AllBefore es q (middle + 1)
  more-before less k lt = elim (cases_lt k middle) [
    | inl lower ↦ name_total.trans _ _ q (rises es sorted k middle ([], fin.empty) lower within) less
    | inr higher ↦ let same : k ≡ middle = omega arith in ap (λ n. name_cmp (get_or es n ([], fin.empty)).0 q) same ∙ less
  ]

  pub more-behind : name_cmp (get_or es middle ([], fin.empty)).0 q ≡ Greater → AllBehind es q middle
  more-behind greater k le inside = elim (cases_lt middle k) [
    | inl lower ↦ after-before q _ (name_total.trans q _ _ (before-after _ q greater) (rises es sorted middle k ([], fin.empty) lower inside))
    | inr higher ↦ let same : k ≡ middle = omega arith in ap (λ n. name_cmp (get_or es n ([], fin.empty)).0 q) same ∙ greater
  ]

  pub stands-here : name_cmp (get_or es middle ([], fin.empty)).0 q ≡ Equal → NameStandsAt es q middle
  stands-here equal =
      let here = name_same _ q equal in
      stands-from es q middle (λ k lt. subst (λ x. name_cmp (get_or es k ([], fin.empty)).0 x ≡ Less) here (rises es sorted k middle ([], fin.empty) lt within)) within here
    where
      stands-from : (es : List NamedMap) (q : List ℕ) (at : ℕ) → AllBefore es q at → at < length es → (get_or es at ([], fin.empty)).0 ≡ q → NameStandsAt es q at
      stands-from [] q at before inside is = absurd (omega arith)
      stands-from (e ∷ es) q zero before inside is = is
      stands-from (e ∷ es) q (suc at) before inside is = (before 0 (omega arith), stands-from es q at (λ k lt. before (suc k) (omega arith)) (omega arith) is)

pub gap-from : (es : List NamedMap) (q : List ℕ) (at : ℕ) → AllBefore es q at → at ≤ length es → AllBehind es q at → HasGap es q at
gap-from [] q zero before inside behind = tt
gap-from [] q (suc at) before inside behind = absurd (omega arith)
gap-from (e ∷ es) q zero before inside behind = behind 0 (omega arith) (omega arith)
gap-from (e ∷ es) q (suc at) before inside behind =
    (before 0 (omega arith), gap-from es q at (λ k lt. before (suc k) (omega arith)) (omega arith) (λ k le lt. behind (suc k) (omega arith) (omega arith)))

-- ---- what is found

pub find-stands : (es : List NamedMap) (q : List ℕ) (at : ℕ) (d : List ℕ × Map) → NameStandsAt es q at → find name_cmp q es ≡ Some (get_or es at d).1
find-stands [] q at d stands = absurd stands
find-stands (e ∷ es) q zero d stands = ap (λ b. cond b (Some e.1) (find name_cmp q es)) (same-eq e.0 q stands)
find-stands (e ∷ es) q (suc at) d stands = ap (λ b. cond b (Some e.1) (find name_cmp q es)) (less-not_eq e.0 q stands.0) ∙ find-stands es q at d stands.1

pub find-below : (q : List ℕ) (es : List NamedMap) → below_all name_cmp q es ≡ true → find name_cmp q es ≡ None
find-below q [] below = refl
find-below q (e ∷ es) below =
    let both = and_parts (is_lt (name_cmp q e.0)) (below_all name_cmp q es) below in
    ap (λ r. cond (is_eq r) (Some e.1) (find name_cmp q es)) (less-from (name_cmp q e.0) both.0) ∙ find-below q es both.1

pub find-gap : (es : List NamedMap) → is_sorted name_cmp es ≡ true → (q : List ℕ) (at : ℕ) → HasGap es q at → find name_cmp q es ≡ None
find-gap [] sorted q at gap = refl
find-gap (e ∷ es) sorted q zero gap =
    let both = and_parts (below_all name_cmp e.0 es) (is_sorted name_cmp es) sorted in
    let less = before-after e.0 q gap in
    ap (λ r. cond (is_eq r) (Some e.1) (find name_cmp q es)) less ∙ find-below q es (below-less q e.0 es less both.0)
find-gap (e ∷ es) sorted q (suc at) gap =
    let both = and_parts (below_all name_cmp e.0 es) (is_sorted name_cmp es) sorted in
    ap (λ b. cond b (Some e.1) (find name_cmp q es)) (less-not_eq e.0 q gap.0) ∙ find-gap es both.1 q at gap.1

-- ---- what is put, and taken away

pub put-stands : (es : List NamedMap) (q : List ℕ) (v : Map) (at : ℕ) → NameStandsAt es q at → put name_cmp q v es ≡ set es at (q, v)
put-stands [] q v at stands = absurd stands
put-stands (e ∷ es) q v zero stands =
    ap (λ r. by_order r ((q, v) ∷ e ∷ es) ((e.0, v) ∷ es) (e ∷ put name_cmp q v es)) (ap (name_cmp q) stands ∙ tied_itself name_total q) ∙ ap (λ x. (x, v) ∷ es) stands
put-stands (e ∷ es) q v (suc at) stands =
    ap (λ r. by_order r ((q, v) ∷ e ∷ es) ((e.0, v) ∷ es) (e ∷ put name_cmp q v es)) (after-before e.0 q stands.0) ∙ ap (λ rest. e ∷ rest) (put-stands es q v at stands.1)

pub put-gap : (es : List NamedMap) (q : List ℕ) (v : Map) (at : ℕ) → HasGap es q at → put name_cmp q v es ≡ insert es at (q, v)
put-gap [] q v zero gap = refl
put-gap [] q v (suc at) gap = absurd gap
put-gap (e ∷ es) q v zero gap = ap (λ r. by_order r ((q, v) ∷ e ∷ es) ((e.0, v) ∷ es) (e ∷ put name_cmp q v es)) (before-after e.0 q gap)
put-gap (e ∷ es) q v (suc at) gap =
    ap (λ r. by_order r ((q, v) ∷ e ∷ es) ((e.0, v) ∷ es) (e ∷ put name_cmp q v es)) (after-before e.0 q gap.0) ∙ ap (λ rest. e ∷ rest) (put-gap es q v at gap.1)

but-below : (q : List ℕ) (es : List NamedMap) → below_all name_cmp q es ≡ true → but q es ≡ es
but-below q [] below = refl
but-below q (e ∷ es) below =
    let both = and_parts (is_lt (name_cmp q e.0)) (below_all name_cmp q es) below in
    ap (λ r. cond (not (is_eq r)) (e ∷ but q es) (but q es)) (less-from (name_cmp q e.0) both.0) ∙ ap (λ rest. e ∷ rest) (but-below q es both.1)

pub but-stands : (es : List NamedMap) → is_sorted name_cmp es ≡ true → (q : List ℕ) (at : ℕ) → NameStandsAt es q at → but q es ≡ remove es at
but-stands [] sorted q at stands = absurd stands
but-stands (e ∷ es) sorted q zero stands =
    let both = and_parts (below_all name_cmp e.0 es) (is_sorted name_cmp es) sorted in
    ap (λ b. cond (not b) (e ∷ but q es) (but q es)) (same-eq e.0 q stands) ∙ but-below q es (ap (λ x. below_all name_cmp x es) (sym stands) ∙ both.0)
but-stands (e ∷ es) sorted q (suc at) stands =
    let both = and_parts (below_all name_cmp e.0 es) (is_sorted name_cmp es) sorted in
    ap (λ b. cond (not b) (e ∷ but q es) (but q es)) (less-not_eq e.0 q stands.0) ∙ ap (λ rest. e ∷ rest) (but-stands es both.1 q at stands.1)

pub but-gap : (es : List NamedMap) → is_sorted name_cmp es ≡ true → (q : List ℕ) (at : ℕ) → HasGap es q at → but q es ≡ es
but-gap [] sorted q at gap = refl
but-gap (e ∷ es) sorted q zero gap =
    let both = and_parts (below_all name_cmp e.0 es) (is_sorted name_cmp es) sorted in
    let less = before-after e.0 q gap in
    ap (λ r. cond (not (is_eq r)) (e ∷ but q es) (but q es)) less ∙ ap (λ rest. e ∷ rest) (but-below q es (below-less q e.0 es less both.0))
but-gap (e ∷ es) sorted q (suc at) gap =
    let both = and_parts (below_all name_cmp e.0 es) (is_sorted name_cmp es) sorted in
    ap (λ b. cond (not b) (e ∷ but q es) (but q es)) (less-not_eq e.0 q gap.0) ∙ ap (λ rest. e ∷ rest) (but-gap es both.1 q at gap.1)

-- ---- children and their parts

module _ {A C : Type 0} where
  pub parts-length : (es : List (Box (Child A C) A)) → length (parts es) ≡ length es
  parts-length es = length-map es part_of_child

  pub part-or : (es : List (Box (Child A C) A)) (i : ℕ) (x : Box (Child A C) A) (d : NamedMap) → i < length es → get_or (parts es) i d ≡ part_of_child (get_or es i x)
  part-or [] i x d within = absurd (omega arith)
  part-or (e ∷ es) zero x d within = refl
  part-or (e ∷ es) (suc i) x d within = part-or es i x d (omega arith)

  -- how the name of a child compares
  pub compared : (es : List (Box (Child A C) A)) (i : ℕ) (x : Box (Child A C) A) (q names : List ℕ) (r s : Ordering) → i < length es → x ≡ get_or es i x → names ≡ x.value.name → r ≡ name_cmp names q → r ≡ s
      → name_cmp (get_or (parts es) i ([], fin.empty)).0 q ≡ s
  compared es i x q names r s within there named compares answer =
      ap (λ (p : NamedMap). name_cmp p.0 q) (part-or es i x ([], fin.empty) within ∙ ap part_of_child (sym there)) ∙ ap (λ n. name_cmp n q) (sym named) ∙ sym compares ∙ answer

  -- what stands by a name is the node of its child
  pub find-child : (es : List (Box (Child A C) A)) (q : List ℕ) (at : ℕ) (x : Box (Child A C) A) → x ≡ get_or es at x → NameStandsAt (parts es) q at → at < length es → find name_cmp q (parts es) ≡ Some x.value.node
  find-child es q at x there stands within =
      find-stands (parts es) q at ([], fin.empty) stands ∙ ap (λ (p : NamedMap). Some p.1) (part-or es at x ([], fin.empty) within ∙ ap part_of_child (sym there))

  pub child-name : (es : List (Box (Child A C) A)) (q : List ℕ) (at : ℕ) (x : Box (Child A C) A) → x ≡ get_or es at x → NameStandsAt (parts es) q at → x.value.name ≡ q
  child-name [] q at x there stands = absurd stands
  child-name (e ∷ es) q zero x there stands = ap (λ (b : Box (Child A C) A). b.value.name) there ∙ stands
  child-name (e ∷ es) q (suc at) x there stands = child-name es q at x there stands.1

  parts-insert : (es : List (Box (Child A C) A)) (at : ℕ) (e : Box (Child A C) A) → parts (insert es at e) ≡ insert (parts es) at (part_of_child e)
  parts-insert es at e =
      map-append part_of_child (take at es) (e ∷ drop at es) ∙ ap (λ front. front ++ part_of_child e ∷ map part_of_child (drop at es)) (sym (take-map part_of_child at es))
      ∙ ap (λ back. take at (parts es) ++ part_of_child e ∷ back) (sym (drop-map part_of_child at es))

  parts-remove : (es : List (Box (Child A C) A)) (at : ℕ) → parts (remove es at) ≡ remove (parts es) at
  parts-remove es at =
      map-append part_of_child (take at es) (drop (suc at) es) ∙ ap (λ front. front ++ map part_of_child (drop (suc at) es)) (sym (take-map part_of_child at es))
      ∙ ap (λ back. take at (parts es) ++ back) (sym (drop-map part_of_child (suc at) es))

  -- what an edit of children puts
  pub put-child : (es gs : List (Box (Child A C) A)) (q : List ℕ) (at : ℕ) (e : Box (Child A C) A) → e.value.name ≡ q → NameStandsAt (parts es) q at → gs ≡ set es at e → parts gs ≡ put name_cmp q e.value.node (parts es)
  put-child es gs q at e named stands edit =
      ap parts edit ∙ map-set part_of_child es at e ∙ ap (λ (n : List ℕ). set (parts es) at (n, e.value.node)) named ∙ sym (put-stands (parts es) q e.value.node at stands)

  pub new-child : (es gs : List (Box (Child A C) A)) (q : List ℕ) (at : ℕ) (e : Box (Child A C) A) → e.value.name ≡ q → HasGap (parts es) q at → gs ≡ insert es at e → parts gs ≡ put name_cmp q e.value.node (parts es)
  new-child es gs q at e named gap edit =
      ap parts edit ∙ parts-insert es at e ∙ ap (λ (n : List ℕ). insert (parts es) at (n, e.value.node)) named ∙ sym (put-gap (parts es) q e.value.node at gap)

  pub gone-child : (es gs : List (Box (Child A C) A)) (q : List ℕ) (at : ℕ) → is_sorted name_cmp (parts es) ≡ true → NameStandsAt (parts es) q at → gs ≡ remove es at → parts gs ≡ but q (parts es)
  gone-child es gs q at sorted stands edit = ap parts edit ∙ parts-remove es at ∙ sym (but-stands (parts es) sorted q at stands)

  -- the name of the child at a place
  pub name-get : (es : List (Box (Child A C) A)) (place : ℕ) (x : Box (Child A C) A) → place < length es → x ≡ get_or es place x → list_all (λ p. is_name p.0) (parts es) ≡ true
      → (is_name x.value.name ≡ true) × (slice_get (map (λ (p : NamedMap). p.0) (parts es)) place ≡ Some x.value.name)
  name-get [] place x within there named = absurd (omega arith)
  name-get (e ∷ es) zero x within there named =
      let both = and_parts (is_name e.value.name) (list_all (λ p. is_name p.0) (parts es)) named in
      (ap (λ (b : Box (Child A C) A). is_name b.value.name) there ∙ both.0, ap (λ (b : Box (Child A C) A). Some b.value.name) (sym there))
  name-get (e ∷ es) (suc place) x within there named =
      name-get es place x (omega arith) there (and_parts (is_name e.value.name) (list_all (λ p. is_name p.0) (parts es)) named).1

  -- the child of a name, changed where it stands
  pub record IsChanged (items new_items : List (Box (Child A C) A)) (n : List ℕ) (old new : Map) : Type 0 where
    pub there : find name_cmp n (parts items) ≡ Some old
    pub is : parts new_items ≡ put name_cmp n new (parts items)

  pub changed-child : (items lent : List (Box (Child A C) A)) (at : ℕ) (n : List ℕ) (x new : Box (Child A C) A) (child : Child A C) → lent ≡ items → NameStandsAt (parts lent) n at → at < length lent → x ≡ get_or items at x → child ≡ x.value
      → new.value.name ≡ child.name → IsChanged items (set items at new) n child.node new.value.node
  changed-child items lent at n x new child same stands within there inside named =
      let stands_here : NameStandsAt (parts items) n at = subst (λ l. NameStandsAt (parts l) n at) same stands in
      let within_here : at < length items = subst (λ l. at < length l) same within in
      record {
        there = find-child items n at x there stands_here within_here ∙ ap (λ c. Some c.node) (sym inside);
        is = put-child items (set items at new) n at new (named ∙ ap (λ c. c.name) inside ∙ child-name items n at x there stands_here) stands_here refl;
      }

  -- a test of each part, at a child
  pub part-test : (f : NamedMap → Bool) (es : List (Box (Child A C) A)) (place : ℕ) (x : Box (Child A C) A) → place < length es → x ≡ get_or es place x → list_all f (parts es) ≡ true → f (part_of_child x) ≡ true
  part-test f [] place x within there all = absurd (omega arith)
  part-test f (e ∷ es) zero x within there all = ap (λ b. f (part_of_child b)) there ∙ (and_parts (f (part_of_child e)) (list_all f (parts es)) all).0
  part-test f (e ∷ es) (suc place) x within there all = part-test f es place x (omega arith) there (and_parts (f (part_of_child e)) (list_all f (parts es)) all).1

  -- one more child
  pub parts-more : (es : List (Box (Child A C) A)) (place : ℕ) (x : Box (Child A C) A) → place < length es → x ≡ get_or es place x → parts (take (place + 1) es) ≡ parts (take place es) ++ part_of_child x ∷ []
  parts-more es place x within there =
      ap parts (take_more es place x within ∙ ap (λ y. take place es ++ y ∷ []) (sym there)) ∙ map-append part_of_child (take place es) (x ∷ [])

  pub parts-split : (es : List (Box (Child A C) A)) (place : ℕ) (x : Box (Child A C) A) → place < length es → x ≡ get_or es place x → parts es ≡ parts (take place es) ++ part_of_child x ∷ parts (drop (suc place) es)
  parts-split es place x within there =
      ap parts (sym (take-append-drop place es) ∙ ap (λ l. take place es ++ l) (drop-cons es place x within ∙ ap (λ y. y ∷ drop (suc place) es) (sym there))) ∙ map-append part_of_child (take place es) (x ∷ drop (suc place) es)
