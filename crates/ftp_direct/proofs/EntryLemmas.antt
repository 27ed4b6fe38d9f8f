-- What an entry says of a file or a directory.
use Rattle.std.proofs.Common.{◌≡◌, ◌≢◌, ℕ, ◌+◌, ◌≤◌, ◌<◌, ◌^◌, Bool, true, false, not, ◌&&◌, ◌==◌, eqb, List, [], ◌∷◌, ◌++◌, suc, length, Option, Some, None, Result, Ok, Err, IfOk, refl, sym, ap, subst, ◌∙◌, arith, decimal}
use Rattle.std.specs.Prelude.{codes, nat_le, if◌then◌else◌}
use Rattle.std.specs.Char.{is_ascii_digit}
use Rattle.std.specs.List.{list_all}
use Rattle.std.specs.Option.{ForSome, option_map, unwrap_or}
use Rattle.std.specs.Str.Parse.{AllDigits, digits_value}
use Rattle.std.proofs.lemmas.Bool.{ltb-true, ne_eqb}
use Rattle.std.proofs.lemmas.Fmt.{digits_decimal, length-decimal-le}
use Rattle.std.proofs.lemmas.List.Elements.{All-cons, All-nil}
use Rattle.std.proofs.lemmas.Str.Parse.{IsNumeralModel}
use Rattle.ftp_endpoint.specs.Number.{IsShort}
use Rattle.ftp_facts.specs.Entry.{IsFitEntry, with_kind_word}
use Rattle.ftp_facts.specs.Fact.{IsValue, Lacks, space, semicolon, file_word, dir_word}
use Rattle.ftp_facts.specs.Line.{listed_line}
use Rattle.ftp_facts.specs.Listed.{fact_text_in}
use Rattle.ftp_facts.specs.Name.{fact_names}
use Rattle.ftp_facts.specs.declared.name.FactName.{FactName}
use Rattle.ftp_facts.specs.declared.name.FactName.TheVariants.{Kind, Size, Modify, Perm}
use Rattle.ftp_facts.proofs.ComesBackLemmas.{IsEarly, IsSayable}
use Rattle.ftp_facts.specs.declared.name.Facts.{Facts}
use Rattle.ftp_facts.proofs.LineLemmas.{Lets, line_few, line_passes, moment_few, moment_passes, most_octets, weaker}
use Rattle.ftp_facts.proofs.NumberLemmas.{digits_all, is_at_most}
use Rattle.ftp_path.specs.Path.{IsPathText, Names, joined}
use Rattle.ftp_tree.specs.Map.{Node, Dir, File, octets_of, moment_of, of_node, shown_of}
use Rattle.ftp_tree.specs.Tree.{Table, node_at, octets_at, size_at, stamp_at}
use Rattle.ftp_operation.specs.Operation.{is_number}
use Rattle.ftp_direct.specs.Direct.{entry_at, entry_of, is_root, listed, size_fact}

-- ---- what stands at a path

-- what is shown of a file is its size and its moment
pub shown_some : (node : Option Node) (size moment : ℕ) → Some size ≡ option_map length (of_node octets_of node) → Some moment ≡ of_node moment_of node → Some (size, moment) ≡ of_node shown_of node
shown_some None size moment s m = absurd (cc)
shown_some (Some Dir) size moment s m = absurd (cc)
shown_some (Some (File octets at)) size moment s m =
    let one : size ≡ length octets = ap (λ o. unwrap_or o 0) s in
    let other : moment ≡ at = ap (λ o. unwrap_or o 0) m in
    λ i. Some (one i, other i)

-- and of what has no size, or no moment, nothing
pub shown_unsized : (node : Option Node) → None ≡ option_map length (of_node octets_of node) → None ≡ of_node shown_of node
shown_unsized None s = refl
shown_unsized (Some Dir) s = refl
shown_unsized (Some (File octets at)) s = absurd (cc)

pub shown_undated : (node : Option Node) → None ≡ of_node moment_of node → None ≡ of_node shown_of node
shown_undated None m = refl
shown_undated (Some Dir) m = refl
shown_undated (Some (File octets at)) m = absurd (cc)

-- where nothing stands the same is said as of a directory
pub entry_is : (table : Table) (path : Names) (name : List ℕ) → entry_of (of_node shown_of (node_at table path)) (is_root path) name ≡ entry_at table path name
unfolding entry_at
entry_is table path name = by_node (node_at table path)
  where
    by_node : (node : Option Node) → entry_of (of_node shown_of node) (is_root path) name ≡ listed name path (unwrap_or node Dir)
    by_node None = refl
    by_node (Some node) = refl

-- a path without octets between its names is the root
pub root_is : (path : Names) (key : List ℕ) → joined path ≡ key → (length key == 0) ≡ is_root path
root_is [] key is = ap (λ k. length k == 0) (sym is)
root_is (name ∷ names) key is = ap (λ k. length k == 0) (sym is) ∙ ne_eqb (suc (length (name ++ joined names))) 0 (λ e. absurd (omega (arith, e)))

-- ---- what is said can be kept

-- a result of which less is said
pub if_ok : {T E : Type 0} (r : Result T E) (P Q : T → Type 0) → ((x : T) → P x → Q x) → IfOk r P → IfOk r Q
if_ok (Ok x) P Q step p = step x p
if_ok (Err e) P Q step p = tt

-- its type is told by a word as it is written
pub words_stay : (file : Option (ℕ × ℕ)) (at_root : Bool) (name : List ℕ) → with_kind_word (entry_of file at_root name) ≡ entry_of file at_root name
words_stay None at_root name = refl
words_stay (Some (size, moment)) at_root name = refl

abbrev differs : ℕ → List ℕ → Bool
differs c [] = true
differs c (x ∷ xs) = not (eqb x c) && differs c xs

-- octets that all differ from one lack it
lacks_by : (c : ℕ) (xs : List ℕ) → differs c xs ≡ true → Lacks xs c
lacks_by c [] e = All-nil (λ each. each ≢ c)
lacks_by c (x ∷ xs) e =
    let parts : (x ≢ c) × (differs c xs ≡ true) = split x c (differs c xs) e in
    All-cons (λ each. each ≢ c) x xs parts.0 (lacks_by c xs parts.1)
  where
    split : (x c : ℕ) (rest : Bool) → not (eqb x c) && rest ≡ true → (x ≢ c) × (rest ≡ true)
    split x c true e = ((λ same. grind (arith, e)), refl)
    split x c false e = absurd (grind (arith, e))

-- a text without a space and a semicolon is the value of a fact
is_value : (text : List ℕ) → differs space text ≡ true → differs semicolon text ≡ true → ForSome (Some text) IsValue
is_value text one other found e = let same : text ≡ found = cc in subst IsValue same (lacks_by space text one, lacks_by semicolon text other)

-- the number of octets that a fact tells, if it tells one, is short
size_short : (count : ℕ) → ForSome (size_fact count) IsShort
size_short count = by_number (is_number count) refl
  where
    by_number : (b : Bool) → is_number count ≡ b → ForSome (if b then Some count else None) IsShort
    by_number true e found is = let same : count ≡ found = cc in subst IsShort same (ltb-true count (10 ^ 18) e)
    by_number false e found is = absurd (cc)

-- under a path text all that is said can be kept
pub entry_fit : (file : Option (ℕ × ℕ)) (at_root : Bool) (name : List ℕ) → IsPathText name → IsFitEntry (entry_of file at_root name)
entry_fit (Some (size, moment)) at_root name is =
    record { name = is; kind = is_value file_word refl refl; size = size_short size; perm = is_value (codes "adfrw") refl refl }
entry_fit None true name is = record { name = is; kind = is_value dir_word refl refl; size = λ size e. absurd (cc); perm = is_value (codes "celmp") refl refl }
entry_fit None false name is = record { name = is; kind = is_value dir_word refl refl; size = λ size e. absurd (cc); perm = is_value (codes "cdeflmp") refl refl }

-- the moment of a file, if it is one, is one that there is
abbrev pub IsEarlyFile : Option (ℕ × ℕ) → Type 0
IsEarlyFile None = Unit {0}
IsEarlyFile (Some (size, moment)) = IsEarly moment

-- then its line says it
pub entry_sayable : (file : Option (ℕ × ℕ)) (at_root : Bool) (name : List ℕ) → IsPathText name → IsEarlyFile file → IsSayable (entry_of file at_root name)
entry_sayable (Some (size, moment)) at_root name is early = record {
  fit = entry_fit (Some (size, moment)) at_root name is;
  kind = refl;
  modify = λ seconds e. let same : moment ≡ seconds = cc in subst IsEarly same early;
}
entry_sayable None at_root name is early = record { fit = entry_fit None at_root name is; kind = refl; modify = λ seconds e. absurd (cc) }

-- ---- what the texts are made of

-- an octet from `0` on, as digits and letters are
abbrev pub is_said_octet : ℕ → Bool
is_said_octet octet = nat_le 48 octet

-- a text of such octets, at most 20
pub record IsSaid (text : List ℕ) : Type 0 where
  pub octets : list_all is_said_octet text ≡ true
  pub short : length text ≤ 20

said : (text : List ℕ) → list_all is_said_octet text ≡ true → length text ≤ 20 → ForSome (Some text) IsSaid
said text octets short found e = let same : text ≡ found = cc in subst IsSaid same (record { octets = octets; short = short })

-- digits in base ten and their value are a model of numerals
own : IsNumeralModel (AllDigits 10) (digits_value 10)
own = record { to = λ ds all. all; from = λ ds all. all; same = λ ds all. refl }

from_digit : (octet : ℕ) → is_ascii_digit octet ≡ true → is_said_octet octet ≡ true
from_digit octet is = first (nat_le 48 octet) (nat_le octet 57) is
  where
    first : (a b : Bool) → (a && b) ≡ true → a ≡ true
    first true b is = refl
    first false b is = is

from_zero : (n : ℕ) → is_said_octet (48 + n) ≡ true
from_zero n = is_at_most 48 (48 + n) (omega arith)

size_said : (count : ℕ) → ForSome (option_map decimal (size_fact count)) IsSaid
size_said count = by_number (is_number count) refl
  where
    by_number : (b : Bool) → is_number count ≡ b → ForSome (option_map decimal (if b then Some count else None)) IsSaid
    by_number true e =
        let small : count < 10 ^ 18 = ltb-true count (10 ^ 18) e in
        let fit : count < 2 ^ 64 = omega (arith, small) in
        said (decimal count) (weaker is_ascii_digit is_said_octet from_digit (decimal count) (digits_all (decimal count) (digits_decimal own count fit)))
        (length-decimal-le 20 count (omega arith) (omega (arith, small)) fit)
    by_number false e = λ text e. absurd (cc)

-- each value that is said is such a text
pub said_text : (file : Option (ℕ × ℕ)) (at_root : Bool) (name : List ℕ) (fact : FactName) → ForSome (fact_text_in (entry_of file at_root name) fact) IsSaid
said_text (Some (size, moment)) at_root name Kind = said file_word refl (omega arith)
said_text (Some (size, moment)) at_root name Size = size_said size
said_text (Some (size, moment)) at_root name Modify = let few = moment_few moment in said _ (moment_passes is_said_octet from_zero moment) (omega (arith, few))
said_text (Some (size, moment)) at_root name Perm = said (codes "adfrw") refl (omega arith)
said_text None at_root name Kind = said dir_word refl (omega arith)
said_text None at_root name Size = λ text e. absurd (cc)
said_text None at_root name Modify = λ text e. absurd (cc)
said_text None true name Perm = said (codes "celmp") refl (omega arith)
said_text None false name Perm = said (codes "cdeflmp") refl (omega arith)

-- ---- the line of what is said

named_so : (file : Option (ℕ × ℕ)) (at_root : Bool) (name : List ℕ) → (entry_of file at_root name).name ≡ name
named_so None at_root name = refl
named_so (Some (size, moment)) at_root name = refl

-- with whatever facts in force, it is of octets that pass a test which those from `0` on pass, and those of the name
pub entry_passes : (p : ℕ → Bool) → Lets p → ((octet : ℕ) → is_said_octet octet ≡ true → p octet ≡ true) → (facts : Facts) (file : Option (ℕ × ℕ)) (at_root : Bool) (name : List ℕ)
    → list_all p name ≡ true → list_all p (listed_line facts (entry_of file at_root name)) ≡ true
entry_passes p lets from facts file at_root name named =
    line_passes p lets facts (entry_of file at_root name) (λ fact text e. weaker is_said_octet p from text (said_text file at_root name fact text e).octets)
    (ap (list_all p) (named_so file at_root name) ∙ named)

-- and has so many octets at most
pub entry_few : (facts : Facts) (file : Option (ℕ × ℕ)) (at_root : Bool) (name : List ℕ) → length (listed_line facts (entry_of file at_root name)) ≤ 113 + length name
entry_few facts file at_root name =
    let bound : most_octets 20 fact_names ≡ 112 = refl in
    let few = line_few 20 facts (entry_of file at_root name) (λ fact text e. (said_text file at_root name fact text e).short) in
    omega (arith, few, bound, ap length (named_so file at_root name))
