-- No line says two entries, and each line meets one fault or says an entry.
use Rattle.std.proofs.Common.{◌≡◌, ℕ, List, Option, Some, None, option_map, true, false, if◌then◌else◌, Result, Ok, Err, IfOk, IfErr, refl, sym, ap, subst, ◌∙◌}
use mathlib.Core.HLevel.{is_prop→PathP}
use Rattle.std.specs.Option.{ForSome, is_some, unwrap_or}
use Rattle.std.proofs.Props.{props}
use Rattle.ftp_endpoint.specs.Number.{IsShort}
use Rattle.ftp_path.specs.Path.{IsPathText}
use Rattle.ftp_facts.specs.declared.fault.FactFault.{FactFault}
use Rattle.ftp_facts.specs.declared.fault.FactFault.TheVariants.{NoSpace, BadFact, BadMoment, Memory, BadName}
use Rattle.ftp_facts.specs.declared.entry.EntryKind.{EntryKind}
use Rattle.ftp_facts.specs.declared.entry.EntryKind.TheVariants.{File, Dir, CurrentDir, ParentDir, Other}
use Rattle.ftp_facts.specs.declared.entry.Entry.{Entry}
use Rattle.ftp_facts.specs.declared.moment.Moment.{Moment}
use Rattle.ftp_facts.specs.Entry.{IsSized, IsSoundFact, Refuses, SaysEntry, SaysListed, listed_of, word_of_kind}
use Rattle.ftp_facts.specs.Fact.{IsOtherWord, IsValue, Lacks, facts_text, is_word, space, file_word, dir_word, current_word, parent_word}
use Rattle.ftp_facts.specs.Listed.{Listed}
use Rattle.ftp_facts.specs.Moment.{moment_value}
use Rattle.ftp_facts.specs.declared.name.FactName.{FactName}
use Rattle.ftp_facts.specs.declared.name.FactName.TheVariants.{Size, Modify}
use Rattle.ftp_facts.proofs.EntryLemmas.{HasParts-same, has_space, is_sized, is_sound, path_text-some}
use Rattle.ftp_facts.proofs.ListedLemmas.{entry_says}
use Rattle.ftp_facts.proofs.MomentLemmas.{Moment-same}

-- the type that a value names
kind_at : {A : Type 0} → List ℕ → EntryKind A
kind_at value =
    if is_word value file_word then File
    else (if is_word value dir_word then Dir
    else (if is_word value current_word then CurrentDir
    else (if is_word value parent_word then ParentDir else Other value)))

-- a type is the one that its word names
kind_is : {A : Type 0} (kind : EntryKind A) → ((word : List ℕ) → kind ≡ Other word → IsOtherWord word) → kind ≡ kind_at (word_of_kind kind)
unfolding kind_at
kind_is File fits = refl
kind_is Dir fits = refl
kind_is CurrentDir fits = refl
kind_is ParentDir fits = refl
kind_is (Other word) fits = let other = fits word refl in rw (other.1, other.2, other.3, other.4) refl

kinds_same : {A : Type 0} (k l : Option (EntryKind A)) → ((word : List ℕ) → k ≡ Some (Other word) → IsOtherWord word) → ((word : List ℕ) → l ≡ Some (Other word) → IsOtherWord word)
    → option_map word_of_kind k ≡ option_map word_of_kind l → k ≡ l
kinds_same None None a b e = refl
kinds_same None (Some l) a b e = absurd (let f : false ≡ true = ap is_some e in cc)
kinds_same (Some k) None a b e = absurd (let f : true ≡ false = ap is_some e in cc)
kinds_same (Some k) (Some l) a b e =
    let words : word_of_kind k ≡ word_of_kind l = ap (λ o. unwrap_or o (word_of_kind k)) e in
    let one = kind_is k (λ word f. a word (ap Some f)) in
    let other = kind_is l (λ word f. b word (ap Some f)) in
    ap Some (one ∙ ap kind_at words ∙ sym other)

moments_same : (m n : Option Moment) → option_map (λ moment. moment.seconds) m ≡ option_map (λ moment. moment.seconds) n → m ≡ n
moments_same None None e = refl
moments_same None (Some n) e = absurd (let f : false ≡ true = ap is_some e in cc)
moments_same (Some m) None e = absurd (let f : true ≡ false = ap is_some e in cc)
moments_same (Some m) (Some n) e = ap Some (Moment-same m n (ap (λ o. unwrap_or o m.seconds) e))

-- entries with the same fields are one
Entry-same : {A : Type 0} (a b : Entry A) → a.name ≡ b.name → a.kind ≡ b.kind → a.size ≡ b.size → a.modify ≡ b.modify → a.perm ≡ b.perm → a ≡ b
Entry-same a b n k s m p = λ i. record {
  name = n i;
  kind = k i;
  size = s i;
  modify = m i;
  perm = p i;
  named = is_prop→PathP (λ j. IsPathText (n j)) (λ j. hlevel props) a.named b.named i;
  kind_fits = is_prop→PathP (λ j. (word : List ℕ) → k j ≡ Some (Other word) → IsOtherWord word) (λ j. hlevel props) a.kind_fits b.kind_fits i;
  size_fits = is_prop→PathP (λ j. ForSome (s j) IsShort) (λ j. hlevel props) a.size_fits b.size_fits i;
  perm_fits = is_prop→PathP (λ j. ForSome (p j) IsValue) (λ j. hlevel props) a.perm_fits b.perm_fits i;
}

-- entries with the same values are one
pub listed-same : {A : Type 0} (x y : Entry A) → listed_of x ≡ listed_of y → x ≡ y
listed-same x y e =
    Entry-same x y (ap (λ l. l.name) e) (kinds_same x.kind y.kind x.kind_fits y.kind_fits (ap (λ l. l.kind) e)) (ap (λ l. l.size) e)
    (moments_same x.modify y.modify (ap (λ l. l.modify) e)) (ap (λ l. l.perm) e)

pub SaysEntry-same : {A : Type 0} (line : List ℕ) (x y : Entry A) → SaysEntry line x → SaysEntry line y → x ≡ y
SaysEntry-same line x y a b = listed-same x y (ap (λ o. unwrap_or o (listed_of x)) (sym a ∙ b))

-- a line that says something has a pathname and a sound size
sized : (line : List ℕ) (entry : Listed) → (s : SaysListed line entry) → IsSized line entry.name s.texts
sized line entry s = is_sized line entry.name s.texts entry.size s.parts (path_text-some entry.name s.named) (s.says Size)

spaced : (line name : List ℕ) (texts : FactName → Option (List ℕ)) → IsSized line name texts → ¬ (Lacks line space)
spaced line name texts s = has_space line (facts_text s.parts.facts) name s.parts.written

-- one line has one pathname and one Modify
record IsOne (n name : List ℕ) (m modify : Option (List ℕ)) : Type 0 where
  names : n ≡ name
  modifies : m ≡ modify

one : (line n name : List ℕ) (t texts : FactName → Option (List ℕ)) → IsSized line n t → IsSized line name texts → IsOne n name (t Modify) (texts Modify)
one line n name t texts a b = let same = HasParts-same line n name t texts a.parts b.parts in record { names = same.0; modifies = same.1 Modify }

-- a line meets one fault
says : (line : List ℕ) (m : Refuses line Memory) → SaysListed line m.0
says line m = entry_says line m.0 m.1

space_apart : (line : List ℕ) → Lacks line space → Refuses line Memory → ⊥
space_apart line none m = let s = says line m in spaced line m.0.name s.texts (sized line m.0 s) none

fact_apart : (line : List ℕ) → Refuses line BadFact → Refuses line Memory → ⊥
fact_apart line a m = let s = says line m in a.1 m.0.name s.texts (sized line m.0 s)

moment_apart : (line : List ℕ) → Refuses line BadMoment → Refuses line Memory → ⊥
moment_apart line a m =
    let s = says line m in
    let same = one line a.0 m.0.name a.1 s.texts a.2 (sized line m.0 s) in
    a.3 (subst (IsSoundFact moment_value) (sym same.modifies) (is_sound moment_value (s.texts Modify) m.0.modify (s.says Modify)))

name_apart : (line : List ℕ) → Refuses line BadName → Refuses line Memory → ⊥
name_apart line a m =
    let s = says line m in
    let same = one line m.0.name a.0 s.texts a.1 (sized line m.0 s) a.2 in
    a.4 (subst IsPathText same.names s.named)

moment_first : (line : List ℕ) → Refuses line BadMoment → Refuses line BadName → ⊥
moment_first line a b = let same = one line a.0 b.0 a.1 b.1 a.2 b.2 in a.3 (subst (IsSoundFact moment_value) (sym same.modifies) b.3)

pub Refuses-same : (line : List ℕ) (a b : FactFault) → Refuses line a → Refuses line b → a ≡ b
Refuses-same line NoSpace NoSpace p q = refl
Refuses-same line NoSpace BadFact p q = absurd (q.0 p)
Refuses-same line NoSpace BadMoment p q = absurd (spaced line q.0 q.1 q.2 p)
Refuses-same line NoSpace Memory p q = absurd (space_apart line p q)
Refuses-same line NoSpace BadName p q = absurd (spaced line q.0 q.1 q.2 p)
Refuses-same line BadFact NoSpace p q = absurd (p.0 q)
Refuses-same line BadFact BadFact p q = refl
Refuses-same line BadFact BadMoment p q = absurd (p.1 q.0 q.1 q.2)
Refuses-same line BadFact Memory p q = absurd (fact_apart line p q)
Refuses-same line BadFact BadName p q = absurd (p.1 q.0 q.1 q.2)
Refuses-same line BadMoment NoSpace p q = absurd (spaced line p.0 p.1 p.2 q)
Refuses-same line BadMoment BadFact p q = absurd (q.1 p.0 p.1 p.2)
Refuses-same line BadMoment BadMoment p q = refl
Refuses-same line BadMoment Memory p q = absurd (moment_apart line p q)
Refuses-same line BadMoment BadName p q = absurd (moment_first line p q)
Refuses-same line Memory NoSpace p q = absurd (space_apart line q p)
Refuses-same line Memory BadFact p q = absurd (fact_apart line q p)
Refuses-same line Memory BadMoment p q = absurd (moment_apart line q p)
Refuses-same line Memory Memory p q = refl
Refuses-same line Memory BadName p q = absurd (name_apart line q p)
Refuses-same line BadName NoSpace p q = absurd (spaced line p.0 p.1 p.2 q)
Refuses-same line BadName BadFact p q = absurd (q.1 p.0 p.1 p.2)
Refuses-same line BadName BadMoment p q = absurd (moment_first line q p)
Refuses-same line BadName Memory p q = absurd (name_apart line p q)
Refuses-same line BadName BadName p q = refl

-- a line that says an entry meets none but want of memory
pub SaysEntry-Memory : {A : Type 0} (line : List ℕ) (entry : Entry A) → SaysEntry line entry → Refuses line Memory
SaysEntry-Memory line entry s = (listed_of entry, s)

-- so a reading of such a line is that entry, or want of memory
pub read_is : {A : Type 0} (line : List ℕ) (entry : Entry A) (r : Result (Entry A) FactFault) → SaysEntry line entry → IfOk r (SaysEntry line) → IfErr r (Refuses line) → IfOk r (λ back. back ≡ entry) × IfErr r (λ fault. fault ≡ Memory)
read_is line entry (Ok back) says ok err = (SaysEntry-same line back entry ok says, tt)
read_is line entry (Err fault) says ok err = (tt, Refuses-same line fault Memory err (SaysEntry-Memory line entry says))
