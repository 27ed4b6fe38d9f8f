-- Rows in the order of their paths.
use Rattle.std.proofs.Common.{◌≡◌, Bool, true, false, ◌&&◌, [], ◌∷◌, refl, sym}
use Rattle.std.specs.Ordering.{is_lt}
use Rattle.std.specs.declared.cmp.Ordering.{Ordering}
use Rattle.std.specs.declared.cmp.Ordering.TheVariants.{Less, Equal, Greater}
use Rattle.std.specs.Cmp.{IsTotalOrder, nat_cmp_total}
use Rattle.std.specs.Cmp.Lexicographic.{lists_total}
use Rattle.std.specs.FinMap.{IsAntisymmetric, nat_cmp-IsAntisymmetric, slice_cmp-IsAntisymmetric, is_sorted}
use Rattle.std.specs.FinMap.Entries.{put, below_all, is_sorted-put}
use lib.Dec.{T}
use Rattle.std.proofs.lemmas.Bool.{and_parts, true≢false}
use Rattle.ftp_tree.specs.Map.{Node}
use Rattle.ftp_path.specs.Path.{Names, path_cmp}
use Rattle.ftp_tree.specs.Rows.{Rows, is_in_order}

pub path_total : IsTotalOrder path_cmp
path_total = lists_total (lists_total nat_cmp_total)

pub path_same : IsAntisymmetric path_cmp
path_same = slice_cmp-IsAntisymmetric (slice_cmp-IsAntisymmetric nat_cmp-IsAntisymmetric)

-- ---- two paths

pub less-from : (r : Ordering) → is_lt r ≡ true → r ≡ Less
less-from Less e = refl
less-from Equal e = absurd (true≢false (sym e))
less-from Greater e = absurd (true≢false (sym e))

-- ---- rows that rise

pub rows-sorted : (es : Rows) → is_in_order es ≡ true → is_sorted path_cmp es ≡ true
rows-sorted es sorted = (and_parts (below_all path_cmp [] es) (is_sorted path_cmp es) sorted).1

pub below-less : (q x : Names) (es : Rows) → path_cmp q x ≡ Less → below_all path_cmp x es ≡ true → below_all path_cmp q es ≡ true
below-less q x [] less below = refl
below-less q x (e ∷ es) less below =
    let both = and_parts (is_lt (path_cmp x e.0)) (below_all path_cmp x es) below in
    λ i. is_lt (path_total.trans q x e.0 less (less-from (path_cmp x e.0) both.0) i) && below-less q x es less both.1 i

pub true-from : (b : Bool) → T b → b ≡ true
true-from true t = refl
true-from false t = absurd t

pub T-from : (b : Bool) → b ≡ true → T b
T-from true e = tt
T-from false e = absurd (true≢false (sym e))

pub sorted-put : (q : Names) (v : Node) (es : Rows) → is_sorted path_cmp es ≡ true → is_sorted path_cmp (put path_cmp q v es) ≡ true
sorted-put q v es sorted = true-from _ (is_sorted-put path_cmp path_total q v es (T-from _ sorted))
