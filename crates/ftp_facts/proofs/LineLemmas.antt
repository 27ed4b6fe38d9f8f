-- What the line of an entry is made of: octets that pass a test, and how many.
use Rattle.std.proofs.Common.{◌≡◌, ℕ, ◌+◌, ◌/◌, ◌%◌, ◌≤◌, Bool, true, false, List, [], ◌∷◌, ◌++◌, length, Option, Some, None, refl, ap, ◌∙◌, arith, length-append}
use Rattle.std.specs.List.{list_all}
use Rattle.std.specs.Option.{ForSome}
use Rattle.std.proofs.lemmas.List.Folds.{list_all-append}
use Rattle.ftp_facts.specs.Calendar.{month_and_place, year_and_place}
use Rattle.ftp_facts.specs.Fact.{facts_text, given, equals, semicolon, space}
use Rattle.ftp_facts.specs.Line.{facts_among, if_chosen, listed_line, said_texts, facts_of}
use Rattle.ftp_facts.specs.Listed.{Listed, fact_text_in}
use Rattle.ftp_facts.specs.Moment.{date_digits, day_digits, four_digits, moment_digits, month_digits, second_digits, time_digits, two_digits}
use Rattle.ftp_facts.specs.Name.{fact_names, fact_word, is_in_force}
use Rattle.ftp_facts.specs.declared.name.FactName.{FactName}
use Rattle.ftp_facts.specs.declared.name.Facts.{Facts}
use Rattle.ftp_facts.proofs.FactLemmas.{facts_text-append}
use Rattle.ftp_facts.proofs.NameLemmas.{word_few}
use Rattle.ftp_facts.proofs.NumberLemmas.{and_both, both}

-- ---- octets that pass a test

-- a value is of such octets, or none
abbrev pub Passes : (ℕ → Bool) → Option (List ℕ) → Type 0
Passes p value = ForSome value (λ text. list_all p text ≡ true)

-- the octets between words and values pass it, and those of the words
pub record Lets (p : ℕ → Bool) : Type 0 where
  pub at_equals : p equals ≡ true
  pub at_semicolon : p semicolon ≡ true
  pub at_space : p space ≡ true
  pub words : (name : FactName) → list_all p (fact_word name) ≡ true

both_pass : (p : ℕ → Bool) (xs ys : List ℕ) → list_all p xs ≡ true → list_all p ys ≡ true → list_all p (xs ++ ys) ≡ true
both_pass p xs ys one other = list_all-append p xs ys ∙ and_both _ _ one other

given_passes : (p : ℕ → Bool) → Lets p → (name : FactName) (value : Option (List ℕ)) → Passes p value → list_all p (facts_text (given (fact_word name) value)) ≡ true
given_passes p lets name None passes = refl
given_passes p lets name (Some text) passes =
    both_pass p (fact_word name) (equals ∷ (text ++ semicolon ∷ [])) (lets.words name)
    (and_both _ _ lets.at_equals (both_pass p text (semicolon ∷ []) (passes text refl) (and_both _ _ lets.at_semicolon refl)))

facts_pass : (p : ℕ → Bool) → Lets p → (texts : FactName → Option (List ℕ)) → ((name : FactName) → Passes p (texts name)) → (names : List FactName)
    → list_all p (facts_text (facts_among texts names)) ≡ true
facts_pass p lets texts pass [] = refl
facts_pass p lets texts pass (name ∷ names) =
    ap (list_all p) (facts_text-append (given (fact_word name) (texts name)) (facts_among texts names))
    ∙ both_pass p (facts_text (given (fact_word name) (texts name))) (facts_text (facts_among texts names)) (given_passes p lets name (texts name) (pass name)) (facts_pass p lets texts pass names)

chosen_passes : (p : ℕ → Bool) (chosen : Bool) (value : Option (List ℕ)) → Passes p value → Passes p (if_chosen chosen value)
chosen_passes p true value passes = passes
chosen_passes p false value passes = λ text e. cc

-- a line is of such octets where the values and the pathname of its entry are
pub line_passes : (p : ℕ → Bool) → Lets p → (facts : Facts) (entry : Listed) → ((name : FactName) → Passes p (fact_text_in entry name)) → list_all p entry.name ≡ true
    → list_all p (listed_line facts entry) ≡ true
line_passes p lets facts entry pass named =
    both_pass p (facts_text (facts_of (said_texts facts entry))) (space ∷ entry.name)
    (facts_pass p lets (said_texts facts entry) (λ name. chosen_passes p (is_in_force facts name) (fact_text_in entry name) (pass name)) fact_names)
    (and_both _ _ lets.at_space named)

-- ---- how many

-- a value has at most so many octets, or there is none
abbrev pub IsFew : ℕ → Option (List ℕ) → Type 0
IsFew most value = ForSome value (λ text. length text ≤ most)

-- the most octets of the facts of these names, where each value has at most so many
abbrev pub most_octets : ℕ → List FactName → ℕ
most_octets most [] = 0
most_octets most (name ∷ names) = 8 + most + most_octets most names

given_few : (most : ℕ) (name : FactName) (value : Option (List ℕ)) → IsFew most value → length (facts_text (given (fact_word name) value)) ≤ 8 + most
given_few most name None few = omega arith
given_few most name (Some text) few =
    omega (arith, length-append (fact_word name) (equals ∷ (text ++ semicolon ∷ [])), length-append text (semicolon ∷ []), word_few name, few text refl)

facts_few : (most : ℕ) (texts : FactName → Option (List ℕ)) → ((name : FactName) → IsFew most (texts name)) → (names : List FactName)
    → length (facts_text (facts_among texts names)) ≤ most_octets most names
facts_few most texts few [] = omega arith
facts_few most texts few (name ∷ names) =
    let front = given (fact_word name) (texts name) in
    let back = facts_among texts names in
    omega (
      arith,
      ap length (facts_text-append front back),
      length-append (facts_text front) (facts_text back),
      given_few most name (texts name) (few name),
      facts_few most texts few names,
    )

chosen_few : (most : ℕ) (chosen : Bool) (value : Option (List ℕ)) → IsFew most value → IsFew most (if_chosen chosen value)
chosen_few most true value few = few
chosen_few most false value few = λ text e. cc

-- a line has at most so many octets beside its pathname
pub line_few : (most : ℕ) (facts : Facts) (entry : Listed) → ((name : FactName) → IsFew most (fact_text_in entry name))
    → length (listed_line facts entry) ≤ most_octets most fact_names + 1 + length entry.name
line_few most facts entry few =
    omega (
      arith,
      length-append (facts_text (facts_of (said_texts facts entry))) (space ∷ entry.name),
      facts_few most (said_texts facts entry) (λ name. chosen_few most (is_in_force facts name) (fact_text_in entry name) (few name)) fact_names,
    )

-- ---- the digits of a moment

-- what passes a test passes a weaker one
pub weaker : (p q : ℕ → Bool) → ((octet : ℕ) → p octet ≡ true → q octet ≡ true) → (text : List ℕ) → list_all p text ≡ true → list_all q text ≡ true
weaker p q step [] all = refl
weaker p q step (octet ∷ text) all = let parts = both (p octet) (list_all p text) all in and_both _ _ (step octet parts.0) (weaker p q step text parts.1)

two_pass : (p : ℕ → Bool) → ((n : ℕ) → p (48 + n) ≡ true) → (n : ℕ) → list_all p (two_digits n) ≡ true
two_pass p from n = and_both _ _ (from (n / 10)) (and_both _ _ (from (n % 10)) refl)

date_passes : (p : ℕ → Bool) → ((n : ℕ) → p (48 + n) ≡ true) → (year month day : ℕ) → list_all p (date_digits year month day) ≡ true
date_passes p from year month day =
    both_pass p (four_digits year) (two_digits month ++ two_digits day)
    (both_pass p (two_digits (year / 100)) (two_digits (year % 100)) (two_pass p from (year / 100)) (two_pass p from (year % 100)))
    (both_pass p (two_digits month) (two_digits day) (two_pass p from month) (two_pass p from day))

time_passes : (p : ℕ → Bool) → ((n : ℕ) → p (48 + n) ≡ true) → (hour minute second : ℕ) → list_all p (time_digits hour minute second) ≡ true
time_passes p from hour minute second =
    both_pass p (two_digits hour) (two_digits minute ++ two_digits second) (two_pass p from hour)
    (both_pass p (two_digits minute) (two_digits second) (two_pass p from minute) (two_pass p from second))

-- they pass a test that all octets from `0` on pass
pub moment_passes : (p : ℕ → Bool) → ((n : ℕ) → p (48 + n) ≡ true) → (moment : ℕ) → list_all p (moment_digits moment) ≡ true
moment_passes p from moment = by_parts (year_and_place 10_000 1970 (moment / 86_400))
  where
    by_day : (year : ℕ) (day : ℕ × ℕ) → list_all p (month_digits year day ++ second_digits (moment % 86_400)) ≡ true
    by_day year day =
        let second : ℕ = moment % 86_400 in
        both_pass p (month_digits year day) (second_digits second) (date_passes p from year day.0 (day.1 + 1)) (time_passes p from (second / 3600) (second % 3600 / 60) (second % 60))

    by_parts : (day : ℕ × ℕ) → list_all p (day_digits day ++ second_digits (moment % 86_400)) ≡ true
    by_parts day = by_day day.0 (month_and_place 11 day.0 1 day.1)

-- and are fourteen
pub moment_few : (moment : ℕ) → length (moment_digits moment) ≤ 14
moment_few moment = omega (arith, length-append (day_digits (year_and_place 10_000 1970 (moment / 86_400))) (second_digits (moment % 86_400)))
