-- What a look compared agrees, or one of it does not.
use Rattle.std.proofs.Common.{rules, arith, ◌≡◌, ℕ, ◌<◌, ◌==◌, Bool, true, false, Option, Some, List, [], ◌∷◌, ◌++◌, ◌&&◌, length, refl, sym, ap, ◌∙◌, subst}
use Rattle.std.proofs.lemmas.List.{length-append}
use Rattle.ftp_tree.specs.Map.{Node}
use Rattle.ftp_tree.specs.Map as map
use Rattle.ftp_disk_host.specs.declared.host.Found.{Found}
use Rattle.ftp_disk_host.specs.declared.host.Look.{Look}
use Rattle.ftp_disk_scan.specs.declared.loading.tree_entry.TreeEntry.{TreeEntry}
use Rattle.ftp_disk_scan.specs.declared.loading.tree_entry.TreeEntry.TheVariants as Entries
use Rattle.ftp_disk_scan.specs.loading.Compared.{IsEntry, Pair, agrees, all_agree, are_none, pair_of}
use Rattle.ftp_disk_scan.specs.loading.Difference.{Difference, Same, Gone, Replaced, NotLonger, More, difference_of, is_away, is_same}

-- where nothing was compared, all agrees
pub none_agrees : (pairs : List Pair) → pairs ≡ [] → all_agree pairs ≡ true
unfolding all_agree
none_agrees pairs is = ap all_agree is

-- one more that agrees changes nothing
pub agree_more : (pairs more : List Pair) (found : Found) (there : TreeEntry) → more ≡ pair_of found there ∷ pairs → agrees found there ≡ true → all_agree more ≡ all_agree pairs
unfolding all_agree
agree_more pairs more found there is same = ap all_agree is ∙ ap (λ b. b && all_agree pairs) same

-- after one that differs, not all agrees
pub differ_more : (pairs more : List Pair) (found : Found) (there : TreeEntry) → more ≡ pair_of found there ∷ pairs → agrees found there ≡ false → all_agree more ≡ false
unfolding all_agree
differ_more pairs more found there is other = ap all_agree is ∙ ap (λ b. b && all_agree pairs) other

-- ---- what differs

-- of what the tree has no more, not both are the same
pub away_differs : (found : Found) (there : TreeEntry) → is_away (difference_of found there) ≡ true → agrees found there ≡ false
away_differs found there away = of (difference_of found there) away
  where
    of : (difference : Difference) → is_away difference ≡ true → is_same difference ≡ false
    of Gone is = refl
    of Replaced is = refl
    of Same is = sym is
    of NotLonger is = refl
    of More is = refl

-- nor where a difference is known
pub known_differs : (found : Found) (there : TreeEntry) (difference : Difference) → difference_of found there ≡ difference → is_same difference ≡ false
    → agrees found there ≡ false
known_differs found there difference is other = ap is_same is ∙ other

-- ---- what the tree has

-- a file that the tree has
pub file_entry : (look : Look) (octets : List ℕ) (moment : ℕ) (node : Option Node) → node ≡ Some (map.File octets moment) → length octets ≡ look.len → IsEntry (Entries.File look) node
file_entry look octets moment there is len = subst (IsEntry (Entries.File look)) (sym is) (sym len)

-- ---- how many changes there are

some-not : (n : ℕ) → 0 < n → (n == 0) ≡ false
some-not n some = search rules

pushed-some : {X : Type 0} (items more : List X) (x : X) → more ≡ items ++ (x ∷ []) → (length more == 0) ≡ false
pushed-some items more x is = some-not (length more) (omega (arith, ap length is, length-append items (x ∷ [])))

-- not all agrees, and something is gone
pub gone_told : {X : Type 0} (items more : List X) (x : X) (pairs : List Pair) (not_longer longer : ℕ) → more ≡ items ++ (x ∷ []) → all_agree pairs ≡ false
    → all_agree pairs ≡ are_none (length more) not_longer longer
gone_told items more x pairs not_longer longer is other = other ∙ sym (ap (λ b. b && (not_longer == 0) && (longer == 0)) (pushed-some items more x is))

-- or is shorter
pub not_longer_told : {X : Type 0} (items more : List X) (x : X) (pairs : List Pair) (gone longer : ℕ) → more ≡ items ++ (x ∷ []) → all_agree pairs ≡ false
    → all_agree pairs ≡ are_none gone (length more) longer
not_longer_told items more x pairs gone longer is other = other ∙ sym (ap (λ b. (gone == 0) && b && (longer == 0)) (pushed-some items more x is) ∙ and-false (gone == 0))
  where
    and-false : (b : Bool) → b && false && (longer == 0) ≡ false
    and-false true = refl
    and-false false = refl

-- or is more
pub more_told : {X : Type 0} (items more : List X) (x : X) (pairs : List Pair) (gone not_longer : ℕ) → more ≡ items ++ (x ∷ []) → all_agree pairs ≡ false
    → all_agree pairs ≡ are_none gone not_longer (length more)
more_told items more x pairs gone not_longer is other = other ∙ sym (ap (λ b. (gone == 0) && (not_longer == 0) && b) (pushed-some items more x is) ∙ and-false (gone == 0) (not_longer == 0))
  where
    and-false : (b d : Bool) → b && d && false ≡ false
    and-false true true = refl
    and-false true false = refl
    and-false false d = refl
