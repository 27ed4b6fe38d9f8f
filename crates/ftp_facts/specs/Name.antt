-- The facts of an entry by name, and which of them are in force (RFC 3659, sections 7.5, 7.8 and 7.9).
use Rattle.std.specs.Prelude.{ℕ, Bool, true, List, [], ◌∷◌, codes}
use Rattle.std.specs.List.{list_any}
use Rattle.ftp_facts.specs.Fact.{is_word}
use Rattle.ftp_facts.specs.declared.name.FactName.{FactName}
use Rattle.ftp_facts.specs.declared.name.FactName.TheVariants.{Kind, Size, Modify, Perm}
use Rattle.ftp_facts.specs.declared.name.Facts.{Facts}

-- the word of a fact (RFC 3659, section 7.5)
abbrev pub fact_word : FactName → List ℕ
fact_word Kind = codes "Type"
fact_word Size = codes "Size"
fact_word Modify = codes "Modify"
fact_word Perm = codes "Perm"

-- the facts that are said and read, in the order in which they are written (own choice)
abbrev pub fact_names : List FactName
fact_names = Kind ∷ Size ∷ Modify ∷ Perm ∷ []

-- the fact is in force
abbrev pub is_in_force : Facts → FactName → Bool
is_in_force facts Kind = facts.kind
is_in_force facts Size = facts.size
is_in_force facts Modify = facts.modify
is_in_force facts Perm = facts.perm

-- the facts that pass a test are in force
abbrev pub facts_by : (FactName → Bool) → Facts
facts_by is = record { kind = is Kind; size = is Size; modify = is Modify; perm = is Perm }

-- all facts are in force
abbrev pub all_facts : Facts
all_facts = facts_by (λ name. true)

-- some fact is in force
abbrev pub is_any_chosen : Facts → Bool
is_any_chosen facts = list_any (is_in_force facts) fact_names

-- one of the words names the fact, whose letters have no case
abbrev pub names_fact : List (List ℕ) → FactName → Bool
names_fact words name = list_any (λ word. is_word word (fact_word name)) words

-- the facts that words name; other words are passed over (RFC 3659, section 7.9)
abbrev pub facts_named : List (List ℕ) → Facts
facts_named words = facts_by (names_fact words)
