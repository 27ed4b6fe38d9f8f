-- Where the answers stand between two pieces of the input.
use Rattle.std.specs.Prelude.{◌≡◌, ℕ, List, [], ◌∷◌, ◌++◌, ◌==◌, All, false, take, Bool, Option}
use Rattle.std.specs.Str.Lines.{lines}
use Rattle.std.specs.declared.result.Result.{Result}
use Rattle.std.specs.declared.result.Result.TheVariants.{Ok, Err}
use Rattle.std.specs.Io.KnownBytes.{Appends}
use Rattle.tool_codec.specs.FactLines.{line_feed, AnswersAll, AnswersFront}
use Rattle.tool_codec.specs.declared.fact_lines.FactLines.{FactLines}
use Rattle.ftp_ports.specs.declared.pieces.Failed.{Failed}

-- no LF is in these octets
abbrev pub LacksFeed : List ℕ → Type 0
LacksFeed octets = All (λ octet. (octet == 10) ≡ false) octets

-- These lines are answered, or a beginning of the answers of the first of them is written.
abbrev pub Told : Type 0 → List (List ℕ) → (before now : Option (List ℕ)) → Result Bool Failed → Type 0
Told A all before now (Ok faulty) = (text : List ℕ) × AnswersAll A all faulty text × Appends before now text
Told A all before now (Err failed) = AnswersFront A all before now

-- The ended lines of these octets are answered, and the line that is not yet ended is kept: whatever follows, the lines
-- are those that were answered and then those of the kept octets and what follows.
pub record StandsAfter {A : Type 0} (octets : List ℕ) (before now : Option (List ℕ)) (kept : FactLines A) : Type 0 where
  pub said : List (List ℕ)
  pub cut : (more : List ℕ) → lines (octets ++ more) ≡ said ++ lines (kept.line.items ++ more)
  pub unended : LacksFeed kept.line.items
  pub text : List ℕ
  pub answers : AnswersAll A said kept.faulty text
  pub wrote : Appends before now text

-- how it stands after a piece behind these octets
abbrev pub HearsAfter : (A : Type 0) → List ℕ → List ℕ → (before now : Option (List ℕ)) → Result (Unit {0}) Failed → FactLines A → Type 0
HearsAfter A octets piece before now (Ok done) kept = StandsAfter (octets ++ piece) before now kept
HearsAfter A octets piece before now (Err failed) kept = AnswersFront A (lines (octets ++ piece)) before now

-- the same after a bite of a piece
abbrev pub BitesAfter : (A : Type 0) → List ℕ → List ℕ → (before now : Option (List ℕ)) → Result ℕ Failed → FactLines A → Type 0
BitesAfter A octets piece before now (Ok count) kept = StandsAfter (octets ++ take count piece) before now kept
BitesAfter A octets piece before now (Err failed) kept = AnswersFront A (lines (octets ++ piece)) before now

-- the same after the LF that ends a line, whatever follows it
abbrev pub EndsAfter : (A : Type 0) → List ℕ → (before now : Option (List ℕ)) → Result (Unit {0}) Failed → FactLines A → Type 0
EndsAfter A octets before now (Ok done) kept = StandsAfter (octets ++ line_feed ∷ []) before now kept
EndsAfter A octets before now (Err failed) kept = (more : List ℕ) → AnswersFront A (lines (octets ++ line_feed ∷ more)) before now
