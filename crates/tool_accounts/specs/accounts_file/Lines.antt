-- The accounts that a text says, line by line (own choice: LF or CR LF ends a line).
use Rattle.std.specs.Prelude.{◌≡◌, ℕ, ◌+◌, ◌==◌, not, List, [], ◌∷◌, ◌++◌, map, filter, if◌then◌else◌}
use Rattle.std.specs.List.{slice_split}
use Rattle.ftp_facts.specs.Listing.{line_feed}
use Rattle.ftp_operation.specs.Account.{Account}
use Rattle.tool_accounts.specs.accounts_file.Line.{Says, is_silent}

-- a line without the CR at its end
abbrev pub without_cr : List ℕ → List ℕ
without_cr [] = []
without_cr (octet ∷ []) = if octet == 13 then [] else octet ∷ []
without_cr (octet ∷ next ∷ octets) = octet ∷ without_cr (next ∷ octets)

-- the lines of a text: what stands between its LF, each without the CR at its end
abbrev pub lines_of : List ℕ → List (List ℕ)
lines_of text = map without_cr (slice_split (λ octet. octet == line_feed) text)

-- a line, behind its number
abbrev pub Line : Type 0
Line = ℕ × List ℕ

-- lines with their numbers, the first of which is this
abbrev pub numbered : ℕ → List (List ℕ) → List Line
numbered number [] = []
numbered number (line ∷ lines) = (number, line) ∷ numbered (number + 1) lines

-- the lines that are to say an account
abbrev pub speaking : List Line → List Line
speaking lines = filter (λ line. not (is_silent line.1)) lines

-- those of a text; its first line has the number 1
abbrev pub speakers : List ℕ → List Line
speakers text = speaking (numbered 1 (lines_of text))

-- each line says the account that stands where it does, and nothing more is there
abbrev pub SayEach : List Line → List Account → Type 0
SayEach [] [] = Unit {0}
SayEach [] (account ∷ accounts) = ⊥
SayEach (line ∷ lines) [] = ⊥
SayEach (line ∷ lines) (account ∷ accounts) = Says line.1 account × SayEach lines accounts

-- a text says these accounts: its lines that are not silent do, in their order
abbrev pub SaysAll : List ℕ → List Account → Type 0
SaysAll text accounts = SayEach (speakers text) accounts

-- the accounts so far, and the number of the line of each
abbrev pub Lists : Type 0
Lists = List Account × List ℕ

-- after what stands so far comes what a line says, if it is not silent
pub record AddsLine (line : Line) (old new : Lists) : Type 0 where
  pub accounts : List Account
  pub say : SayEach (speaking (line ∷ [])) accounts
  pub adds : new.0 ≡ old.0 ++ accounts
  pub numbers : new.1 ≡ old.1 ++ map (λ line. line.0) (speaking (line ∷ []))

-- of all lines these are left, and the others say the accounts so far
pub record Stands (all left : List Line) (now : Lists) : Type 0 where
  pub above : List Line
  pub whole : all ≡ above ++ speaking left
  pub say : SayEach above now.0
  pub numbers : now.1 ≡ map (λ line. line.0) above
