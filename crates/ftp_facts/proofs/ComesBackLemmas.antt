-- What is written of an entry says that entry.
use Rattle.std.proofs.Common.{◌≡◌, ◌≢◌, ℕ, ◌+◌, ◌/◌, ◌%◌, ◌<◌, ◌≤◌, ◌^◌, List, [], ◌∷◌, ◌++◌, Option, Some, None, option_map, All, Bool, true, false, not, ◌&&◌, ◌⊎◌, inl, inr, eqb, refl, sym, ap, subst, ◌∙◌, arith, decimal}
use Rattle.std.specs.List.{list_all}
use Rattle.std.specs.Option.{ForSome}
use Rattle.std.specs.Int.{IsInRange}
use Rattle.std.proofs.lemmas.List.Elements.{All-cons, All-nil, All-append, All-from_get_or}
use Rattle.std.specs.Str.Parse.{AllDigits, digits_value}
use Rattle.std.proofs.lemmas.Str.Parse.{IsNumeralModel, not_in_digits}
use Rattle.std.proofs.lemmas.Fmt.{digits_decimal, digits_value-decimal, length-decimal-le, decimal_nonempty}
use Rattle.ftp_facts.specs.declared.entry.EntryKind.{EntryKind}
use Rattle.ftp_facts.specs.declared.entry.EntryKind.TheVariants.{File, Dir, CurrentDir, ParentDir, Other}
use Rattle.ftp_facts.specs.declared.entry.Entry.{Entry}
use Rattle.ftp_facts.specs.declared.moment.Moment.{Moment}
use Rattle.ftp_facts.specs.Moment.{two_digits, four_digits, date_digits, time_digits, moment_digits, moment_value, WritesMoment}
use Rattle.ftp_endpoint.specs.Number.{IsShort, SaysNumber}
use Rattle.ftp_facts.specs.Fact.{Fact, IsFact, IsValue, IsOtherWord, Lacks, facts_text, first_value, given, is_word, space, equals, semicolon, file_word, dir_word, current_word, parent_word}
use Rattle.ftp_facts.specs.Entry.{HasParts, IsFitEntry, SaysEntry, SaysFact, entry_line, word_of_kind, listed_of}
use Rattle.ftp_facts.specs.Line.{facts_among, facts_of, if_chosen, listed_line, said_texts}
use Rattle.ftp_facts.specs.Listed.{Listed, entry_value, fact_value, kind_word, fact_text_in}
use Rattle.ftp_facts.specs.Name.{all_facts, fact_names, fact_word, is_in_force}
use Rattle.ftp_facts.specs.Value.{number_value}
use Rattle.ftp_facts.specs.declared.name.FactName.{FactName}
use Rattle.ftp_facts.specs.declared.name.FactName.TheVariants.{Kind, Size, Modify, Perm}
use Rattle.ftp_facts.proofs.FactLemmas.{facts_text-append}
use Rattle.ftp_facts.proofs.NameLemmas.{every}
use Rattle.ftp_facts.proofs.ListedLemmas.{says_entry}
use Rattle.ftp_facts.proofs.MomentLemmas.{WritesMoment-says, days_fit}
use Rattle.ftp_facts.proofs.MomentValueLemmas.{says_moment}
use Rattle.ftp_facts.proofs.NumberLemmas.{says_number}
use Rattle.ftp_facts.proofs.DigitsLemmas.{moment_digits-write}

-- texts of digits and their number, as std's lemmas take them
own : IsNumeralModel (AllDigits 10) (digits_value 10)
own = record { to = λ ds all. all; from = λ ds all. all; same = λ ds all. refl }

-- a literal lacks an octet where each of its octets differs
abbrev differs : ℕ → List ℕ → Bool
differs c [] = true
differs c (x ∷ xs) = not (eqb x c) && differs c xs

lacks_by : (c : ℕ) (xs : List ℕ) → differs c xs ≡ true → Lacks xs c
lacks_by c [] e = All-nil (λ each. each ≢ c)
lacks_by c (x ∷ xs) e =
    let parts : (x ≢ c) × (differs c xs ≡ true) = split x c (differs c xs) e in
    All-cons (λ each. each ≢ c) x xs parts.0 (lacks_by c xs parts.1)
  where
    split : (x c : ℕ) (rest : Bool) → not (eqb x c) && rest ≡ true → (x ≢ c) × (rest ≡ true)
    split x c true e = ((λ same. grind (arith, e)), refl)
    split x c false e = absurd (grind (arith, e))

-- no digit is a space or a semicolon
digit_apart : (c : ℕ) (digit : ℕ) → digit < 10 → (c < 48) ⊎ (57 < c) → 48 + digit ≢ c
digit_apart c digit lt (inl low) same = omega arith
digit_apart c digit lt (inr high) same = omega arith

lacks_two : (c n : ℕ) → n < 100 → (c < 48) ⊎ (57 < c) → Lacks (two_digits n) c
lacks_two c n lt apart =
    All-cons (λ each. each ≢ c) (48 + n / 10) ((48 + n % 10) ∷ []) (digit_apart c (n / 10) (omega arith) apart) (All-cons (λ each. each ≢ c) (48 + n % 10) [] (digit_apart c (n % 10) (omega arith) apart) (All-nil (λ each. each ≢ c)))

lacks_moment : (c : ℕ) (text : List ℕ) (moment : ℕ) → (c < 48) ⊎ (57 < c) → WritesMoment text moment → Lacks text c
lacks_moment c text moment apart w =
    let P : ℕ → Type 0 = λ each. each ≢ c in
    let year = All-append P (two_digits (w.year / 100)) (two_digits (w.year % 100)) (lacks_two c (w.year / 100) (omega (arith, w.real_date)) apart) (lacks_two c (w.year % 100) (omega arith) apart) in
    let days = All-append P (two_digits w.month) (two_digits w.day) (lacks_two c w.month (omega (arith, w.real_date)) apart) (lacks_two c w.day (days_fit w.year w.month w.day w.real_date) apart) in
    let late = All-append P (two_digits w.minute) (two_digits w.second) (lacks_two c w.minute (omega (arith, w.real_time)) apart) (lacks_two c w.second (omega (arith, w.real_time)) apart) in
    let time = All-append P (two_digits w.hour) (two_digits w.minute ++ two_digits w.second) (lacks_two c w.hour (omega (arith, w.real_time)) apart) late in
    let date = All-append P (four_digits w.year) (two_digits w.month ++ two_digits w.day) year days in
    rw w.written (All-append P (date_digits w.year w.month w.day) (time_digits w.hour w.minute w.second) date time)

lacks_decimal : (c n : ℕ) → n < 2 ^ 64 → ¬ (IsInRange 48 57 c) → Lacks (decimal n) c
lacks_decimal c n lt apart =
    All-from_get_or (λ each. each ≢ c) (decimal n) 0 (not_in_digits own (decimal n) c (digits_decimal own n lt) apart)

-- each value of an entry can stand in a fact
kind_value : {A : Type 0} (kind : Option (EntryKind A)) → ((word : List ℕ) → kind ≡ Some (Other word) → IsOtherWord word) → ForSome (option_map word_of_kind kind) IsValue
kind_value None fits = λ text e. cc
kind_value (Some File) fits = λ text e. let same : text ≡ file_word = cc in rw same (lacks_by space file_word refl, lacks_by semicolon file_word refl)
kind_value (Some Dir) fits = λ text e. let same : text ≡ dir_word = cc in rw same (lacks_by space dir_word refl, lacks_by semicolon dir_word refl)
kind_value (Some CurrentDir) fits = λ text e. let same : text ≡ current_word = cc in rw same (lacks_by space current_word refl, lacks_by semicolon current_word refl)
kind_value (Some ParentDir) fits = λ text e. let same : text ≡ parent_word = cc in rw same (lacks_by space parent_word refl, lacks_by semicolon parent_word refl)
kind_value (Some (Other word)) fits = λ text e. let same : text ≡ word = cc in rw same (fits word refl).0

size_value : (size : Option ℕ) → ForSome size IsShort → ForSome (option_map decimal size) IsValue
size_value None fits = λ text e. cc
size_value (Some n) fits = λ text e.
    let same : text ≡ decimal n = cc in
    let small : n < 10 ^ 18 = fits n refl in
    rw same (lacks_decimal space n (omega arith) (λ r. omega (arith, r)), lacks_decimal semicolon n (omega arith) (λ r. omega (arith, r)))

-- a moment that there is
abbrev pub IsEarly : ℕ → Type 0
IsEarly seconds = seconds ≤ 253_402_300_799

modify_value : (modify : Option ℕ) → ForSome modify IsEarly → ForSome (option_map moment_digits modify) IsValue
modify_value None early = λ t e. cc
modify_value (Some moment) early = λ t e.
    let same : t ≡ moment_digits moment = cc in
    let writes = moment_digits-write moment (early moment refl) in
    rw same (lacks_moment space (moment_digits moment) moment (inl (omega arith)) writes, lacks_moment semicolon (moment_digits moment) moment (inr (omega arith)) writes)

-- a given fact is one, and has no space
given_facts : (name : List ℕ) (value : Option (List ℕ)) → Lacks name equals → Lacks name semicolon → ForSome value IsValue → All IsFact (given name value)
given_facts name None a b fits = All-nil IsFact
given_facts name (Some value) a b fits = All-cons IsFact (record { name = name; value = value }) [] (a, b, (fits value refl).1) (All-nil IsFact)

given_spaceless : (name : List ℕ) (value : Option (List ℕ)) → Lacks name space → ForSome value IsValue → Lacks (facts_text (given name value)) space
given_spaceless name None a fits = All-nil (λ each. each ≢ space)
given_spaceless name (Some value) a fits =
    let P : ℕ → Type 0 = λ each. each ≢ space in
    let tail = All-append P value (semicolon ∷ []) (fits value refl).0 (All-cons P semicolon [] (omega arith) (All-nil P)) in
    All-append P name (equals ∷ (value ++ semicolon ∷ [])) a (All-cons P equals (value ++ semicolon ∷ []) (omega arith) tail)

-- a fact of another name is passed over, and one of this name is found
passed : (name other : List ℕ) (value : Option (List ℕ)) (rest : List Fact) → is_word other name ≡ false → first_value name (given other value ++ rest) ≡ first_value name rest
passed name other None rest e = refl
passed name other (Some value) rest e = rw e refl

found : (name : List ℕ) (value : Option (List ℕ)) (rest : List Fact) → is_word name name ≡ true → first_value name rest ≡ None → first_value name (given name value ++ rest) ≡ value
found name None rest e after = after
found name (Some value) rest e after = rw e refl

-- no word has an octet that none of the list has
word_lacks : (c : ℕ) → list_all (λ name. differs c (fact_word name)) fact_names ≡ true → (name : FactName) → Lacks (fact_word name) c
word_lacks c all name = lacks_by c (fact_word name) (every (λ name. differs c (fact_word name)) all name)

-- facts of whatever names are facts, and have no space
are_facts : (texts : FactName → Option (List ℕ)) → ((name : FactName) → ForSome (texts name) IsValue) → (names : List FactName) → All IsFact (facts_among texts names)
are_facts texts fit [] = All-nil IsFact
are_facts texts fit (name ∷ names) =
    All-append IsFact (given (fact_word name) (texts name)) (facts_among texts names)
    (given_facts (fact_word name) (texts name) (word_lacks equals refl name) (word_lacks semicolon refl name) (fit name)) (are_facts texts fit names)

are_spaceless : (texts : FactName → Option (List ℕ)) → ((name : FactName) → ForSome (texts name) IsValue) → (names : List FactName) → Lacks (facts_text (facts_among texts names)) space
are_spaceless texts fit [] = All-nil (λ each. each ≢ space)
are_spaceless texts fit (name ∷ names) =
    let front = given (fact_word name) (texts name) in
    let back = facts_among texts names in
    let P : List ℕ → Type 0 = λ l. Lacks l space in
    subst P (sym (facts_text-append front back))
    (All-append (λ each. each ≢ space) (facts_text front) (facts_text back) (given_spaceless (fact_word name) (texts name) (word_lacks space refl name) (fit name)) (are_spaceless texts fit names))

-- each fact is found among all
found_in : (texts : FactName → Option (List ℕ)) (fact : FactName) → first_value (fact_word fact) (facts_of texts) ≡ texts fact
found_in texts Kind =
    let last = given (fact_word Perm) (texts Perm) ++ [] in
    let third = given (fact_word Modify) (texts Modify) ++ last in
    let second = given (fact_word Size) (texts Size) ++ third in
    found (fact_word Kind) (texts Kind) second refl
    (passed (fact_word Kind) (fact_word Size) (texts Size) third refl ∙ passed (fact_word Kind) (fact_word Modify) (texts Modify) last refl
    ∙ passed (fact_word Kind) (fact_word Perm) (texts Perm) [] refl)
found_in texts Size =
    let last = given (fact_word Perm) (texts Perm) ++ [] in
    let third = given (fact_word Modify) (texts Modify) ++ last in
    passed (fact_word Size) (fact_word Kind) (texts Kind) (given (fact_word Size) (texts Size) ++ third) refl
    ∙ found (fact_word Size) (texts Size) third refl
    (passed (fact_word Size) (fact_word Modify) (texts Modify) last refl ∙ passed (fact_word Size) (fact_word Perm) (texts Perm) [] refl)
found_in texts Modify =
    let last = given (fact_word Perm) (texts Perm) ++ [] in
    let third = given (fact_word Modify) (texts Modify) ++ last in
    passed (fact_word Modify) (fact_word Kind) (texts Kind) (given (fact_word Size) (texts Size) ++ third) refl
    ∙ passed (fact_word Modify) (fact_word Size) (texts Size) third refl
    ∙ found (fact_word Modify) (texts Modify) last refl (passed (fact_word Modify) (fact_word Perm) (texts Perm) [] refl)
found_in texts Perm =
    let last = given (fact_word Perm) (texts Perm) ++ [] in
    let third = given (fact_word Modify) (texts Modify) ++ last in
    passed (fact_word Perm) (fact_word Kind) (texts Kind) (given (fact_word Size) (texts Size) ++ third) refl
    ∙ passed (fact_word Perm) (fact_word Size) (texts Size) third refl
    ∙ passed (fact_word Perm) (fact_word Modify) (texts Modify) last refl ∙ found (fact_word Perm) (texts Perm) [] refl refl

-- what is written of values has them
values : (line name : List ℕ) (texts : FactName → Option (List ℕ)) → ((fact : FactName) → ForSome (texts fact) IsValue) → line ≡ facts_text (facts_of texts) ++ space ∷ name → HasParts line name texts
values line name texts fit is = record {
  facts = facts_of texts;
  each = are_facts texts fit fact_names;
  spaceless = are_spaceless texts fit fact_names;
  written = is;
  found = found_in texts;
}

-- the word of a type names it, a decimal number is a size, and the digits of a moment say it
kind_said : {A : Type 0} (kind : Option (EntryKind A)) → ((word : List ℕ) → kind ≡ Some (Other word) → IsOtherWord word) → option_map word_of_kind kind ≡ option_map kind_word (option_map word_of_kind kind)
kind_said None fits = refl
kind_said (Some File) fits = refl
kind_said (Some Dir) fits = refl
kind_said (Some CurrentDir) fits = refl
kind_said (Some ParentDir) fits = refl
kind_said (Some (Other word)) fits = let other = fits word refl in rw (other.1, other.2, other.3, other.4) refl

size_said : (size : Option ℕ) → ForSome size IsShort → fact_value number_value (option_map decimal size) ≡ Some size
size_said None fits = refl
size_said (Some n) fits =
    let small : n < 10 ^ 18 = fits n refl in
    let fit : n < 2 ^ 64 = omega (arith, small) in
    let says : SaysNumber (decimal n) n =
    (((decimal_nonempty n fit, digits_decimal own n fit), length-decimal-le 18 n (omega arith) (omega (arith, small)) fit), sym (digits_value-decimal own n fit)) in
    ap (option_map Some) (says_number (decimal n) n says)

modify_said : (modify : Option ℕ) → ForSome modify IsEarly → fact_value moment_value (option_map moment_digits modify) ≡ Some modify
modify_said None early = refl
modify_said (Some moment) early =
    ap (option_map Some) (says_moment (moment_digits moment) moment (WritesMoment-says (moment_digits moment) moment (moment_digits-write moment (early moment refl))))

-- an entry that its line says: it can be kept, its type is told by a word as it is written, and its moment is one that there is
pub record IsSayable (entry : Listed) : Type 0 where
  pub fit : IsFitEntry entry
  pub kind : entry.kind ≡ option_map kind_word entry.kind
  pub modify : ForSome entry.modify IsEarly

-- the text of each fact can be a value, and says what the entry has
text_fits : (entry : Listed) → IsSayable entry → (fact : FactName) → ForSome (fact_text_in entry fact) IsValue
text_fits entry s Kind = s.fit.kind
text_fits entry s Size = size_value entry.size s.fit.size
text_fits entry s Modify = modify_value entry.modify s.modify
text_fits entry s Perm = s.fit.perm

text_says : (entry : Listed) → IsSayable entry → (fact : FactName) → SaysFact entry fact (fact_text_in entry fact)
text_says entry s Kind = s.kind
text_says entry s Size = size_said entry.size s.fit.size
text_says entry s Modify = modify_said entry.modify s.modify
text_says entry s Perm = refl

-- where all facts are in force each is said
all_said : (entry : Listed) (fact : FactName) → fact_text_in entry fact ≡ said_texts all_facts entry fact
all_said entry fact = ap (λ b. if_chosen b (fact_text_in entry fact)) (sym (every (is_in_force all_facts) refl fact))

-- the line of an entry with all facts says it
pub listed_line-says : (entry : Listed) → IsSayable entry → entry_value (listed_line all_facts entry) ≡ Some entry
listed_line-says entry s =
    let P : Option (List ℕ) → Type 0 = λ text. ForSome text IsValue in
    says_entry (listed_line all_facts entry) entry (record {
      texts = said_texts all_facts entry;
      parts = values (listed_line all_facts entry) entry.name (said_texts all_facts entry) (λ fact. subst P (all_said entry fact) (text_fits entry s fact)) refl;
      named = s.fit.name;
      says = λ fact. subst (SaysFact entry fact) (all_said entry fact) (text_says entry s fact);
    })

moment_early : (modify : Option Moment) → ForSome (option_map (λ moment. moment.seconds) modify) IsEarly
moment_early None = λ seconds e. cc
moment_early (Some moment) = λ seconds e. let same : seconds ≡ moment.seconds = cc in rw same moment.in_range

pub entry_line-says : {A : Type 0} (entry : Entry A) → SaysEntry (entry_line entry) entry
entry_line-says entry = listed_line-says (listed_of entry) (record {
  fit = record { name = entry.named; kind = kind_value entry.kind entry.kind_fits; size = entry.size_fits; perm = entry.perm_fits };
  kind = kind_said entry.kind entry.kind_fits;
  modify = moment_early entry.modify;
})
