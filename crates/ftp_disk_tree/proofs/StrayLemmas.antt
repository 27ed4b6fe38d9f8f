-- What a device answered is what it holds, where it did not stray.
use Rattle.std.proofs.Common.{◌≡◌, ◌≤◌, ℕ, ◌+◌, Bool, true, false, List, [], ◌∷◌, ◌++◌, length, take, drop, refl, ap, arith}
use Rattle.std.specs.Prelude.{if◌then◌else◌, bytes_eq}
use Rattle.std.proofs.lemmas.Slice.Eq.{bytes_eq-Decides}
use Rattle.ftp_disk_tree.specs.declared.answer.Answer.TheVariants.{Took, Read, Put, Changed}
use Rattle.ftp_disk_tree.specs.declared.answer.Putting.{Putting}
use Rattle.ftp_disk_tree.specs.declared.answer.Reading.{Reading}
use Rattle.ftp_disk_tree.specs.Note.{NotedAnswer, noted_event, taken}
use Rattle.ftp_disk_tree.specs.Stray.{strays_between, strays_found, front_of, strays_in, strays_of}
use Rattle.ftp_disk_scan.specs.loading.Compared.{Pair, all_agree}
use Rattle.ftp_disk_scan.specs.loading.Held.{fit}

-- no stray, so they are the same
pub held-same : (held octets : List ℕ) → strays_between held octets ≡ 0 → held ≡ octets
unfolding strays_between
held-same held octets none = (bytes_eq-Decides held octets).0 (same (bytes_eq held octets) none)
  where
    same : (b : Bool) → (let count : ℕ = if b then 0 else 1 in count) ≡ 0 → b ≡ true
    same true is = refl
    same false is = absurd (omega (arith, is))

-- of no octets there is none
pub none-differ : strays_between [] [] ≡ 0
unfolding strays_between
none-differ = refl

-- ---- what each answer adds

pub none_strays : (holds : ℕ → List ℕ) (events : List NotedAnswer) → events ≡ [] → strays_of holds events ≡ 0
unfolding strays_of
none_strays holds events is = ap (strays_of holds) is

pub changed_strays : (holds : ℕ → List ℕ) (octets : List ℕ) (old new : List NotedAnswer) → new ≡ noted_event Changed octets ∷ old → strays_of holds new ≡ strays_of holds old + 1
unfolding strays_of strays_in
changed_strays holds octets old new is = ap (strays_of holds) is

pub read_strays : (holds : ℕ → List ℕ) (reading : Reading) (octets : List ℕ) (old new : List NotedAnswer) → new ≡ noted_event (Read reading) octets ∷ old
    → strays_of holds new ≡ strays_of holds old + strays_between (take (length octets) (drop reading.at (fit reading.len (holds reading.version)))) octets
unfolding strays_of strays_in
read_strays holds reading octets old new is = ap (strays_of holds) is

pub put_strays : (holds : ℕ → List ℕ) (putting : Putting) (octets : List ℕ) (old new : List NotedAnswer) → new ≡ noted_event (Put putting) octets ∷ old
    → strays_of holds new ≡ strays_of holds old + strays_between (fit putting.len (holds putting.version)) (front_of holds putting.front ++ octets)
unfolding strays_of strays_in
put_strays holds putting octets old new is = ap (strays_of holds) is

-- ---- what a device took

pub took_more : (old new : List NotedAnswer) (octets : List ℕ) → new ≡ noted_event Took octets ∷ old → taken new ≡ taken old ++ octets
unfolding taken
took_more old new octets is = ap taken is

pub took_none : (events : List NotedAnswer) → events ≡ [] → taken events ≡ []
unfolding taken
took_none events is = ap taken is

-- ---- what a look found

abbrev found-by : Bool → ℕ
found-by agree = if agree then 0 else 1

-- a look that compared nothing does not stray
pub nothing_found : (pairs : List Pair) → pairs ≡ [] → strays_found pairs ≡ 0
unfolding strays_found all_agree
nothing_found pairs is = ap strays_found is

-- nor one that found all as the tree has it
pub same_found : (pairs : List Pair) → all_agree pairs ≡ true → strays_found pairs ≡ 0
unfolding strays_found all_agree
same_found pairs same = ap found-by same

-- one that found another thing strays once
pub other_found : (pairs : List Pair) → all_agree pairs ≡ false → strays_found pairs ≡ 1
unfolding strays_found all_agree
other_found pairs other = ap found-by other

none_one : 0 ≤ 1
none_one = omega arith

one_one : 1 ≤ 1
one_one = omega arith

-- no look strays more than once
pub found_once : (pairs : List Pair) → strays_found pairs ≤ 1
unfolding strays_found all_agree
found_once pairs = at (all_agree pairs)
  where
    at : (agree : Bool) → found-by agree ≤ 1
    at true = none_one
    at false = one_one
