-- Facts in force, as FEAT, OPTS and the lines of entries say them (RFC 3659, section 7).
use Rattle.std.specs.Prelude.{ℕ, Bool, true, false, List, [], ◌∷◌, ◌++◌, Option, Some, None, codes, if◌then◌else◌}
use Rattle.std.specs.List.{flat_map, slice_split, ends_with}
use Rattle.std.specs.Prelude.{nat_eq}
use Rattle.std.specs.Str.{str_eq_ignore_ascii_case}
use Rattle.ftp_command.specs.Argument.{word, argument}
use Rattle.ftp_facts.specs.Fact.{semicolon}
pub use Rattle.ftp_facts.specs.Line.{listed_line}
pub use Rattle.ftp_facts.specs.Listed.{is_semicolon}
pub use Rattle.ftp_facts.specs.Name.{facts_named, is_any_chosen}
use Rattle.ftp_facts.specs.Name.{fact_names, fact_word, is_in_force}
use Rattle.ftp_facts.specs.declared.name.Facts.{Facts}

-- the name of a fact and a semicolon, where it is in force
abbrev pub fact_text : List ℕ → Bool → List ℕ
fact_text name true = name ++ semicolon ∷ []
fact_text name false = []

-- the facts in force, each with a semicolon
abbrev pub chosen_text : Facts → List ℕ
chosen_text facts = flat_map (λ name. fact_text (fact_word name) (is_in_force facts name)) fact_names

-- a fact as FEAT has it: with `*` where it is in force (RFC 3659, section 7.8)
abbrev pub feature_text : List ℕ → Bool → List ℕ
feature_text name true = name ++ codes "*;"
feature_text name false = name ++ codes ";"

-- the facts that FEAT names, each with `*` where it is in force (RFC 3659, section 7.8)
abbrev pub features_text : Facts → List ℕ
features_text facts = flat_map (λ name. feature_text (fact_word name) (is_in_force facts name)) fact_names

-- ---- OPTS MLST: facts, each with a semicolon; those that are not known are passed over (RFC 3659, section 7.9)

-- the facts that a text chooses: of no text none; else each word is ended by a semicolon
abbrev pub chosen_in : List ℕ → Option Facts
chosen_in [] = Some (facts_named [])
chosen_in (c ∷ cs) = if ends_with nat_eq (c ∷ cs) (semicolon ∷ []) then Some (facts_named (slice_split is_semicolon (c ∷ cs))) else None

-- the facts that the argument of OPTS chooses; another option than MLST is not known
abbrev pub option_facts : List ℕ → Option Facts
option_facts text = if str_eq_ignore_ascii_case (word text) (codes "MLST") then chosen_in (argument text) else None
