-- An entry of a listing, and the lines that say it (RFC 3659, section 7.2).
use Rattle.std.specs.Prelude.{◌≡◌, ◌≢◌, ℕ, List, [], ◌∷◌, ◌++◌, All, Option, Some, option_map, IsSome, decimal}
use Rattle.std.specs.Option.{ForSome, option_copied}
use Rattle.ftp_facts.specs.declared.fault.FactFault.{FactFault}
use Rattle.ftp_facts.specs.declared.fault.FactFault.TheVariants.{NoSpace, BadFact, BadMoment, Memory, BadName}
use Rattle.ftp_facts.specs.declared.entry.EntryKind.{EntryKind}
use Rattle.ftp_facts.specs.declared.entry.EntryKind.TheVariants.{File, Dir, CurrentDir, ParentDir, Other}
use Rattle.ftp_facts.specs.declared.entry.Entry.{Entry}
use Rattle.ftp_facts.specs.declared.entry.FactValue.{FactValue}
use Rattle.ftp_facts.specs.declared.entry.FactValue.TheVariants as values
use Rattle.ftp_facts.specs.declared.entry.LentEntry.{LentEntry}
use Rattle.ftp_facts.specs.declared.name.FactName.{FactName}
use Rattle.ftp_facts.specs.declared.name.FactName.TheVariants.{Kind, Size, Modify, Perm}
use Rattle.ftp_facts.specs.declared.reading.Parts.{Parts}
use Rattle.ftp_endpoint.specs.Number.{IsShort}
use Rattle.ftp_path.specs.Path.{IsPathText}
use Rattle.ftp_facts.specs.Fact.{Fact, IsFact, IsValue, Lacks, facts_text, first_value, space, file_word, dir_word, current_word, parent_word}
use Rattle.ftp_facts.specs.Line.{listed_line}
use Rattle.ftp_facts.specs.Listed.{Listed, entry_value, fact_value, kind_word}
use Rattle.ftp_facts.specs.Moment.{moment_digits, moment_value}
use Rattle.ftp_facts.specs.Name.{all_facts, fact_word}
use Rattle.ftp_facts.specs.Value.{number_value}

-- The line is facts, a space and a pathname, the facts end at the first space, and these are the values of the first fact of each
-- name, where there is one.
pub record HasParts (line name : List ℕ) (texts : FactName → Option (List ℕ)) : Type 0 where
  pub facts : List Fact
  pub each : All IsFact facts
  pub spaceless : Lacks (facts_text facts) space
  pub written : line ≡ facts_text facts ++ space ∷ name
  pub found : (fact : FactName) → first_value (fact_word fact) facts ≡ texts fact

-- the line has no parts: it has no space, or what stands before the first is no facts
abbrev pub NoParts : List ℕ → FactFault → Type 0
NoParts line NoSpace = Lacks line space
NoParts line BadFact = (¬ (Lacks line space)) × ((name : List ℕ) (texts : FactName → Option (List ℕ)) → ¬ (HasParts line name texts))
NoParts line other = ⊥

-- the values that stand in a line
abbrev pub texts_of : Parts → FactName → Option (List ℕ)
texts_of parts Kind = option_copied parts.kind
texts_of parts Size = option_copied parts.size
texts_of parts Modify = option_copied parts.modify
texts_of parts Perm = option_copied parts.perm

-- the word of a type
abbrev pub word_of_kind : {A : Type 0} → EntryKind A → List ℕ
word_of_kind File = file_word
word_of_kind Dir = dir_word
word_of_kind CurrentDir = current_word
word_of_kind ParentDir = parent_word
word_of_kind (Other word) = word

-- the entry's values: its name, the word of its type, its size, its moment in seconds and its Perm
abbrev pub listed_of : {A : Type 0} → Entry A → Listed
listed_of entry = record {
  name = entry.name;
  kind = option_map word_of_kind entry.kind;
  size = entry.size;
  modify = option_map (λ moment. moment.seconds) entry.modify;
  perm = entry.perm;
}

-- the same of one whose texts are lent
abbrev pub listed_lent : LentEntry → Listed
listed_lent entry = record {
  name = entry.name.now;
  kind = option_copied entry.kind;
  size = entry.size;
  modify = option_map (λ moment. moment.seconds) entry.modify;
  perm = option_copied entry.perm;
}

-- the text of a fact's value
abbrev pub value_text : FactValue → List ℕ
value_text (values.Text text) = text.now
value_text (values.Number number) = decimal number
value_text (values.Stamp moment) = moment_digits moment.seconds

-- an entry whose type is told by one of the four words, whose letters have no case, or by another
abbrev pub with_kind_word : Listed → Listed
with_kind_word entry = record entry { kind = option_map kind_word entry.kind }

-- the values of an entry that was lent, and is kept
abbrev pub listed_in : LentEntry → Listed
listed_in entry = with_kind_word (listed_lent entry)

-- the line says this entry
abbrev pub SaysEntry : {A : Type 0} → List ℕ → Entry A → Type 0
SaysEntry line entry = entry_value line ≡ Some (listed_of entry)

-- the value of a fact, or none, says what an entry has of that fact
abbrev pub SaysFact : Listed → FactName → Option (List ℕ) → Type 0
SaysFact entry Kind text = entry.kind ≡ option_map kind_word text
SaysFact entry Size text = fact_value number_value text ≡ Some entry.size
SaysFact entry Modify text = fact_value moment_value text ≡ Some entry.modify
SaysFact entry Perm text = entry.perm ≡ text

-- the line has these parts: its pathname, and the values of the first fact of each name, which say what the entry has
pub record SaysListed (line : List ℕ) (entry : Listed) : Type 0 where
  pub texts : FactName → Option (List ℕ)
  pub parts : HasParts line entry.name texts
  pub named : IsPathText entry.name
  pub says : (fact : FactName) → SaysFact entry fact (texts fact)

-- an entry can be kept: its texts are those that an entry can have
pub record IsFitEntry (entry : Listed) : Type 0 where
  pub name : IsPathText entry.name
  pub kind : ForSome entry.kind IsValue
  pub size : ForSome entry.size IsShort
  pub perm : ForSome entry.perm IsValue

-- a fact is left out, or says a value
abbrev pub IsSoundFact : {V : Type 0} → (List ℕ → Option V) → Option (List ℕ) → Type 0
IsSoundFact f text = IsSome (fact_value f text)

-- the line has this pathname, not an empty one, and these values, of which its Size is a number
pub record IsSized (line name : List ℕ) (texts : FactName → Option (List ℕ)) : Type 0 where
  pub parts : HasParts line name texts
  pub named : name ≢ []
  pub sized : IsSoundFact number_value (texts Size)

-- The line meets this fault and none of a lower number, want of memory aside: that comes only where the line says an entry.
abbrev pub Refuses : List ℕ → FactFault → Type 0
Refuses line NoSpace = Lacks line space
Refuses line BadFact = (¬ (Lacks line space)) × ((name : List ℕ) (texts : FactName → Option (List ℕ)) → ¬ (IsSized line name texts))
Refuses line BadMoment =
    (name : List ℕ) × (texts : FactName → Option (List ℕ)) × IsSized line name texts × (¬ (IsSoundFact moment_value (texts Modify)))
Refuses line Memory = (entry : Listed) × (entry_value line ≡ Some entry)
Refuses line BadName =
    (name : List ℕ) × (texts : FactName → Option (List ℕ)) × IsSized line name texts × IsSoundFact moment_value (texts Modify) × (¬ (IsPathText name))

-- the line of an entry: its facts, a space and its pathname
abbrev pub entry_line : {A : Type 0} → Entry A → List ℕ
entry_line entry = listed_line all_facts (listed_of entry)
