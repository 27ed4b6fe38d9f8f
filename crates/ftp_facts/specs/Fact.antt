-- The facts of an entry: `name=value;`, one after another (RFC 3659, section 7.2).
use Rattle.std.specs.Prelude.{◌≡◌, ◌≢◌, ℕ, List, [], ◌∷◌, ◌++◌, All, find, Bool, false, Option, Some, None, option_map, codes}
use Rattle.std.specs.Str.{str_eq_ignore_ascii_case}

-- the octet that ends the facts of a line
abbrev pub space : ℕ
space = 32

-- the octet between a fact's name and its value
abbrev pub equals : ℕ
equals = 61

-- the octet that ends a fact
abbrev pub semicolon : ℕ
semicolon = 59

-- the octet is none of these
abbrev pub Lacks : List ℕ → ℕ → Type 0
Lacks octets octet = All (λ each. each ≢ octet) octets

-- a name and a value
pub record Fact : Type 0 where
  pub name : List ℕ
  pub value : List ℕ

-- the name ends at the first `=`, the value at the first `;`
abbrev pub IsFact : Fact → Type 0
IsFact fact = Lacks fact.name equals × Lacks fact.name semicolon × Lacks fact.value semicolon

-- the facts as they are written
abbrev pub facts_text : List Fact → List ℕ
facts_text [] = []
facts_text (fact ∷ facts) = fact.name ++ equals ∷ (fact.value ++ semicolon ∷ facts_text facts)

-- the octets begin with a fact of this name and value, and go on with the rest
abbrev pub BeginsWithFact : List ℕ → List ℕ → List ℕ → List ℕ → Type 0
BeginsWithFact octets name value rest =
    IsFact (record { name = name; value = value })
    × (octets ≡ name ++ equals ∷ (value ++ semicolon ∷ rest))

-- the octets are these facts
abbrev pub AreFacts : List ℕ → List Fact → Type 0
AreFacts octets facts = All IsFact facts × (octets ≡ facts_text facts)

-- the two words are the same but for case
abbrev pub is_word : List ℕ → List ℕ → Bool
is_word word other = str_eq_ignore_ascii_case word other

-- the fact has this name, whose letters have no case
abbrev pub is_named : List ℕ → Fact → Bool
is_named name fact = is_word fact.name name

-- the value of the first fact of that name. own choice: a later one of the same name does not count
abbrev pub first_value : List ℕ → List Fact → Option (List ℕ)
first_value name facts = option_map (λ fact. fact.value) (find (is_named name) facts)

-- a text that a fact can have as its value
abbrev pub IsValue : List ℕ → Type 0
IsValue text = Lacks text space × Lacks text semicolon

-- the words of the four types (RFC 3659, section 7.5.1): a file
abbrev pub file_word : List ℕ
file_word = codes "file"

-- a directory
abbrev pub dir_word : List ℕ
dir_word = codes "dir"

-- the directory that is listed
abbrev pub current_word : List ℕ
current_word = codes "cdir"

-- its parent
abbrev pub parent_word : List ℕ
parent_word = codes "pdir"

-- a value of Type that is none of the four words
abbrev pub IsOtherWord : List ℕ → Type 0
IsOtherWord word =
    IsValue word
    × (is_word word file_word ≡ false) × (is_word word dir_word ≡ false)
    × (is_word word current_word ≡ false) × (is_word word parent_word ≡ false)

-- the value of the first fact of that name among these octets
pub record HasValue (octets name : List ℕ) (value : Option (List ℕ)) : Type 0 where
  pub facts : List Fact
  pub are : AreFacts octets facts
  pub found : first_value name facts ≡ value

-- the fact of this name, where there is a value for it
abbrev pub given : List ℕ → Option (List ℕ) → List Fact
given name None = []
given name (Some value) = record { name = name; value = value } ∷ []
