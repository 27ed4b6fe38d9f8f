-- The lines of octets, and what is written for each: the entry that it says, or its fault (RFC 3659, section 7.2).
-- Own choice: a line ends with LF, a CR before the LF is dropped, and a last line without LF is read as it is.
-- That is std's word `lines`: the parts between the LFs, of which an empty last one is no line.
use Rattle.std.specs.Prelude.{◌≡◌, ◌≢◌, ℕ, List, [], ◌∷◌, ◌++◌, Bool, true, false, ◌||◌, Option, if◌then◌else◌}
use Rattle.std.specs.Str.Lines.{lines}
use Rattle.std.specs.declared.result.Result.{Result}
use Rattle.std.specs.declared.result.Result.TheVariants.{Ok, Err}
use Rattle.std.specs.Io.KnownBytes.{Appends, Consumes, IsAtEnd}
use Rattle.ftp_facts.specs.Entry.{SaysEntry, Refuses, entry_line}
use Rattle.ftp_facts.specs.Fault.{fact_fault_text}
use Rattle.ftp_facts.specs.declared.entry.Entry.{Entry}
use Rattle.ftp_facts.specs.declared.fault.FactFault.{FactFault}
use Rattle.ftp_facts.specs.declared.fault.FactFault.TheVariants.{Memory}
use Rattle.ftp_ports.specs.Beginning.{AppendsFront}
use Rattle.ftp_ports.specs.declared.pieces.Failed.{Failed}

-- THE ANSWERS

-- what ends each answer
abbrev pub line_feed : ℕ
line_feed = 10

-- The answer of a line, and whether it is a fault: the entry that the line says, as it is written, or the number and
-- the name of its fault. A is the type of an entry's allocator, and says nothing.
abbrev pub Answers : Type 0 → List ℕ → Bool → List ℕ → Type 0
Answers A line false answer = (entry : Entry A) × SaysEntry line entry × (answer ≡ entry_line entry)
Answers A line true answer = (fault : FactFault) × (fault ≢ Memory) × Refuses line fault × (answer ≡ fact_fault_text fault)

-- the answers of lines, each ended by LF, and whether one of them is a fault
abbrev pub AnswersAll : Type 0 → List (List ℕ) → Bool → List ℕ → Type 0
AnswersAll A [] faulty text = (faulty ≡ false) × (text ≡ [])
AnswersAll A (line ∷ rest) faulty text =
    (answer : List ℕ) × (is_fault : Bool) × (more : List ℕ) × (has_fault : Bool)
    × Answers A line is_fault answer × AnswersAll A rest has_fault more
    × (faulty ≡ (is_fault || has_fault)) × (text ≡ answer ++ line_feed ∷ more)

-- known octets grew by a beginning of the answers of the first of these lines
pub record AnswersFront (A : Type 0) (all : List (List ℕ)) (old new : Option (List ℕ)) : Type 0 where
  pub first : List (List ℕ)
  pub later : List (List ℕ)
  pub cut : all ≡ first ++ later
  pub faulty : Bool
  pub text : List ℕ
  pub answers : AnswersAll A first faulty text
  pub wrote : AppendsFront old new text

-- ALL OCTETS

-- it went well: these octets were read, up to the input's end, and the answers of all their lines were written
pub record TellsAll (A : Type 0) (before after : Option (List ℕ)) (old new : Option (List ℕ)) (status : ℕ) : Type 0 where
  pub octets : List ℕ
  pub read : Consumes before after octets
  pub whole : IsAtEnd after
  pub faulty : Bool
  pub text : List ℕ
  pub answers : AnswersAll A (lines octets) faulty text
  pub wrote : Appends old new text
  pub says : status ≡ (if faulty then 1 else 0)

-- it broke off: these octets were read, and a beginning of the answers of their first lines was written
pub record TellsFront (A : Type 0) (before after : Option (List ℕ)) (old new : Option (List ℕ)) : Type 0 where
  pub octets : List ℕ
  pub read : Consumes before after octets
  pub wrote : AnswersFront A (lines octets) old new

-- how it ended: well, with whether a line was faulty, or by breaking off
abbrev pub TellsLinesTo : Type 0 → (before after old new : Option (List ℕ)) → Result Bool Failed → Type 0
TellsLinesTo A before after old new (Ok faulty) = TellsAll A before after old new (if faulty then 1 else 0)
TellsLinesTo A before after old new (Err failed) = TellsFront A before after old new
