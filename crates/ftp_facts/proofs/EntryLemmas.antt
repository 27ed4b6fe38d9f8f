-- A line says one entry, or meets one fault.
use Rattle.std.proofs.Common.{◌≡◌, ◌≢◌, ℕ, List, [], ◌∷◌, ◌++◌, Option, Some, None, option_map, All, cond, Bool, true, false, refl, sym, ap, subst, ◌∙◌, append-nil, Result, Ok, Err, IfErr}
use Rattle.std.specs.List.{find}
use Rattle.std.specs.Option.{ForSome, is_some}
use Rattle.std.specs.Result.{IsErrAnd}
use Rattle.std.proofs.lemmas.List.Elements.{All-head, All-tail, All-cons, All-nil}
use Rattle.ftp_endpoint.specs.Number.{IsShort, SaysNumber}
use Rattle.ftp_endpoint.proofs.NumberLemmas.{value_lt}
use Rattle.ftp_path.specs.Path.{IsPathText}
use Rattle.ftp_facts.specs.declared.fault.FactFault.{FactFault}
use Rattle.ftp_facts.specs.declared.fault.FactFault.TheVariants.{NoSpace, BadFact, BadMoment, Memory, BadName}
use Rattle.ftp_facts.specs.declared.name.FactName.{FactName}
use Rattle.ftp_facts.specs.declared.name.FactName.TheVariants.{Kind, Size}
use Rattle.ftp_facts.specs.Entry.{HasParts, NoParts, IsSized, IsSoundFact, Refuses}
use Rattle.ftp_facts.specs.Fact.{Fact, IsFact, Lacks, IsValue, AreFacts, HasValue, facts_text, first_value, is_named, space, equals, semicolon}
use Rattle.ftp_facts.specs.Listed.{fact_value}
use Rattle.ftp_facts.specs.Name.{fact_word}
use Rattle.ftp_facts.specs.Value.{number_value}
use Rattle.ftp_facts.proofs.CutLemmas.{map_is}
use Rattle.ftp_facts.proofs.FactLemmas.{Lacks-middle, Lacks-front, Lacks-back, cut-same, facts_after, nonempty}
use Rattle.ftp_facts.proofs.NumberLemmas.{number_says}

-- octets are the facts of one list
pub AreFacts-same : (octets : List ℕ) (xs ys : List Fact) → AreFacts octets xs → AreFacts octets ys → xs ≡ ys
AreFacts-same octets xs ys a b =
    let more = facts_after ys xs [] b.0 a.0 (sym a.1 ∙ b.1 ∙ sym (append-nil (facts_text ys))) in
    more.2 ∙ ap (λ tail. ys ++ tail) (none_left more.0 more.3) ∙ append-nil ys
  where
    none_left : (more : List Fact) → [] ≡ facts_text more → more ≡ []
    none_left [] e = refl
    none_left (f ∷ fs) e = absurd (nonempty f.name equals (f.value ++ semicolon ∷ facts_text fs) e)

-- what is found meets what each meets
find_meets : (p : Fact → Bool) (P : Fact → Type 0) (xs : List Fact) → All P xs → (f : Fact) → find p xs ≡ Some f → P f
find_meets p P [] all f e = cc
find_meets p P (x ∷ xs) all f e = by_test (p x) e (find_meets p P xs (All-tail P x xs all) f)
  where
    by_test : (b : Bool) → cond b (Some x) (find p xs) ≡ Some f → (find p xs ≡ Some f → P f) → P f
    by_test true e later = let same : f ≡ x = cc in rw same (All-head P x xs all)
    by_test false e later = later e

-- a value of facts without a space has no space
spaceless_values : (xs : List Fact) → Lacks (facts_text xs) space → All (λ f. Lacks f.value space) xs
spaceless_values [] lacks = All-nil (λ f. Lacks f.value space)
spaceless_values (x ∷ xs) lacks =
    let after_name = Lacks-back space x.name (equals ∷ (x.value ++ semicolon ∷ facts_text xs)) lacks in
    let from_value = All-tail (λ each. each ≢ space) equals (x.value ++ semicolon ∷ facts_text xs) after_name in
    let after_value = Lacks-back space x.value (semicolon ∷ facts_text xs) from_value in
    All-cons (λ f. Lacks f.value space) x xs (Lacks-front space x.value (semicolon ∷ facts_text xs) from_value) (spaceless_values xs (All-tail (λ each. each ≢ space) semicolon (facts_text xs) after_value))

-- so the value that is found can be one
value_fits : (name : List ℕ) (xs : List Fact) (value : Option (List ℕ)) → All IsFact xs → Lacks (facts_text xs) space → first_value name xs ≡ value → ForSome value IsValue
value_fits name xs value all lacks is = λ text e. at_found (find (is_named name) xs) refl text (is ∙ e)
  where
    at_found : (found : Option Fact) → find (is_named name) xs ≡ found → (text : List ℕ) → option_map (λ fact. fact.value) found ≡ Some text → IsValue text
    at_found None there text e = cc
    at_found (Some f) there text e =
        let same : text ≡ f.value = cc in
        rw same (find_meets (is_named name) (λ f. Lacks f.value space) xs (spaceless_values xs lacks) f there, (find_meets (is_named name) IsFact xs all f there).2)

-- each value of a line can be one
pub HasParts-fits : (line name : List ℕ) (texts : FactName → Option (List ℕ)) → HasParts line name texts → (fact : FactName) → ForSome (texts fact) IsValue
HasParts-fits line name texts h fact = value_fits (fact_word fact) h.facts (texts fact) h.each h.spaceless (h.found fact)

-- the values of all facts are those of one list
pub parts_are : (line octets name : List ℕ) (texts : FactName → Option (List ℕ)) → line ≡ octets ++ space ∷ name → Lacks octets space
    → ((fact : FactName) → HasValue octets (fact_word fact) (texts fact)) → HasParts line name texts
parts_are line octets name texts is cut each =
    let first = each Kind in
    record {
      facts = first.facts;
      each = first.are.0;
      spaceless = rw first.are.1 at cut;
      written = is ∙ ap (λ front. front ++ space ∷ name) first.are.1;
      found = λ fact. ap (first_value (fact_word fact)) (AreFacts-same octets first.facts (each fact).facts first.are (each fact).are) ∙ (each fact).found;
    }

-- where what stands before the space is no facts, the line has no parts
pub no_parts : (line octets name : List ℕ) → line ≡ octets ++ space ∷ name → Lacks octets space → ((list : List Fact) → ¬ (AreFacts octets list)) → (other : List ℕ) (texts : FactName → Option (List ℕ)) → ¬ (HasParts line other texts)
no_parts line octets name is cut none other texts h =
    let same = cut-same space octets (facts_text h.facts) name other cut h.spaceless (sym is ∙ h.written) in
    none h.facts (h.each, same.0)

pub has_space : (line octets name : List ℕ) → line ≡ octets ++ space ∷ name → ¬ (Lacks line space)
has_space line octets name is lacks = Lacks-middle space octets name (rw is at lacks)

-- a line has one pathname, and one value of each fact
pub HasParts-same : (line n name : List ℕ) (t texts : FactName → Option (List ℕ)) → HasParts line n t → HasParts line name texts → (n ≡ name) × ((fact : FactName) → t fact ≡ texts fact)
HasParts-same line n name t texts a b =
    let cut = cut-same space (facts_text a.facts) (facts_text b.facts) n name a.spaceless b.spaceless (sym a.written ∙ b.written) in
    let facts = AreFacts-same (facts_text a.facts) a.facts b.facts (a.each, refl) (b.each, cut.0) in
    (cut.1, λ fact. sym (a.found fact) ∙ ap (first_value (fact_word fact)) facts ∙ b.found fact)

-- a fault that `?` passes on
pub fault_passes : {T : Type 0} (r : Result T FactFault) (f g : FactFault) (P : FactFault → Type 0) → IsErrAnd r (λ e. e ≡ f) → f ≡ g → P g → IfErr r P
fault_passes (Ok x) f g P is same p = tt
fault_passes (Err e) f g P is same p = rw (is ∙ same) p

-- a line without parts is refused as such
pub NoParts-refuses : (line : List ℕ) (fault : FactFault) → NoParts line fault → Refuses line fault
NoParts-refuses line NoSpace denies = denies
NoParts-refuses line BadFact denies = (denies.0, λ name texts sound. denies.1 name texts sound.parts)
NoParts-refuses line BadMoment denies = absurd denies
NoParts-refuses line Memory denies = absurd denies
NoParts-refuses line BadName denies = absurd denies

-- and so are one without a pathname and one whose Size is no number
pub no_name : (line name : List ℕ) (texts : FactName → Option (List ℕ)) → HasParts line name texts → name ≡ [] → Refuses line BadFact
no_name line name texts h empty =
    (has_space line (facts_text h.facts) name h.written, λ n t sound. sound.named (sym (HasParts-same line name n texts t h sound.parts).0 ∙ empty))

-- a value that a fact says, or none
pub is_sound : {V : Type 0} (f : List ℕ → Option V) (text : Option (List ℕ)) (value : Option V) → fact_value f text ≡ Some value → IsSoundFact f text
is_sound f text value e = ap is_some e

pub not_sound : {V : Type 0} (f : List ℕ → Option V) (text : Option (List ℕ)) → fact_value f text ≡ None → ¬ (IsSoundFact f text)
not_sound f text e is = let b : false ≡ true = sym (ap is_some e) ∙ is in cc

pub no_number : (line name : List ℕ) (texts : FactName → Option (List ℕ)) → HasParts line name texts → ¬ (IsSoundFact number_value (texts Size)) → Refuses line BadFact
no_number line name texts h denies = (
  has_space line (facts_text h.facts) name h.written,
  λ n t sound. denies (subst (IsSoundFact number_value) (sym ((HasParts-same line name n texts t h sound.parts).1 Size)) sound.sized),
)

-- a line with a pathname and a Size that is a number
pub is_sized : (line name : List ℕ) (texts : FactName → Option (List ℕ)) (size : Option ℕ) → HasParts line name texts → name ≢ [] → fact_value number_value (texts Size) ≡ Some size → IsSized line name texts
is_sized line name texts size parts named says = record { parts = parts; named = named; sized = is_sound number_value (texts Size) size says }

-- a pathname that is no path text, and a path text is not empty
pub path_text-some : (text : List ℕ) → IsPathText text → text ≢ []
path_text-some [] is = λ e. absurd (none is)
  where
    none : IsPathText [] → ⊥
    none is = let never : false ≡ true = is in cc
path_text-some (c ∷ text) is = λ e. cc

-- the size that a fact says is a number of at most eighteen digits
pub size_fits : (text : Option (List ℕ)) (size : Option ℕ) → fact_value number_value text ≡ Some size → ForSome size IsShort
size_fits None None e = λ n f. cc
size_fits None (Some n) e = absurd (let f : None ≡ Some n = cc in cc)
size_fits (Some text) size e =
    let m = map_is Some (number_value text) size e in
    let says : SaysNumber text m.0 = number_says text m.0 m.1 in
    let small = value_lt text says.0.0.1 says.0.1 in
    λ n f.
    let same : n ≡ m.0 = (let g : Some m.0 ≡ Some n = m.2 ∙ f in cc) in
    subst IsShort (sym same) (subst IsShort (sym says.1) small)
