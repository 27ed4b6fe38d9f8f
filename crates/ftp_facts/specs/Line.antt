-- The line of an entry: its facts that are in force, SP and its pathname (RFC 3659, section 7.2).
use Rattle.std.specs.Prelude.{ℕ, Bool, true, false, List, ◌∷◌, ◌++◌, Option, None}
use Rattle.std.specs.List.{flat_map}
use Rattle.ftp_facts.specs.Fact.{Fact, facts_text, given, space}
use Rattle.ftp_facts.specs.Listed.{Listed, fact_text_in}
use Rattle.ftp_facts.specs.Name.{fact_names, fact_word, is_in_force}
use Rattle.ftp_facts.specs.declared.name.FactName.{FactName}
use Rattle.ftp_facts.specs.declared.name.Facts.{Facts}

-- the facts of these names that have a text, in this order
abbrev pub facts_among : (FactName → Option (List ℕ)) → List FactName → List Fact
facts_among texts names = flat_map (λ name. given (fact_word name) (texts name)) names

-- all facts that have a text, in the order in which they are written
abbrev pub facts_of : (FactName → Option (List ℕ)) → List Fact
facts_of texts = facts_among texts fact_names

-- a fact, where it is in force
abbrev pub if_chosen : Bool → Option (List ℕ) → Option (List ℕ)
if_chosen true value = value
if_chosen false value = None

-- the text of each fact that is in force and that an entry has
abbrev pub said_texts : Facts → Listed → FactName → Option (List ℕ)
said_texts facts entry name = if_chosen (is_in_force facts name) (fact_text_in entry name)

-- the line of an entry with the facts that are in force, without its end
abbrev pub listed_line : Facts → Listed → List ℕ
listed_line facts entry = facts_text (facts_of (said_texts facts entry)) ++ space ∷ entry.name
