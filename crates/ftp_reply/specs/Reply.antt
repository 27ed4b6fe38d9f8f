-- Replies as the lines of the control connection, without their ends (RFC 959, section 4.2).
use Rattle.std.specs.Prelude.{◌≡◌, ℕ, ◌+◌, ◌≤◌, ◌/◌, ◌%◌, ◌⊎◌, List, [], ◌∷◌, ◌++◌, All, Bool, false, ◌&&◌, if◌then◌else◌}
use Rattle.std.specs.Char.{is_ascii_digit}
use Rattle.ftp_reply.specs.Lines.{Text, AreWithin}

-- the octet behind the code of a reply's last line, or its only one
abbrev pub space : ℕ
space = 32

-- the octet behind the code of the first of several lines
abbrev pub hyphen : ℕ
hyphen = 45

-- the first digit of a code is 1 to 5 (RFC 959, section 4.2.1)
abbrev pub least_code : ℕ
least_code = 100

-- the greatest one with 5
abbrev pub greatest_code : ℕ
greatest_code = 599

-- a code of three digits, the first of them 1 to 5
pub record IsCode (code : ℕ) : Type 0 where
  pub low : least_code ≤ code
  pub high : code ≤ greatest_code

-- the three digits of a code
abbrev pub code_text : ℕ → Text
code_text code = (48 + code / 100) ∷ (48 + code / 10 % 10) ∷ (48 + code % 10) ∷ []

-- the code, SP and the text: the one line of a reply, or the last of several
abbrev pub last_line : ℕ → Text → Text
last_line code text = code_text code ++ space ∷ text

-- the code, '-' and the text: the first of several lines
abbrev pub opening_line : ℕ → Text → Text
opening_line code text = code_text code ++ hyphen ∷ text

-- it begins with the same code and SP
abbrev pub IsLastLine : ℕ → Text → Type 0
IsLastLine code line = (text : Text) × (line ≡ last_line code text)

-- a reply of one line; own choice: the code alone is a reply with an empty text
pub record IsOneLine (heard : List Text) (code : ℕ) (lines : List Text) : Type 0 where
  pub text : Text
  pub code_is : IsCode code
  pub lines_are : lines ≡ text ∷ []
  pub heard_is : (heard ≡ last_line code text ∷ []) ⊎ ((heard ≡ code_text code ∷ []) × (text ≡ []))

-- an opening line, and lines that don't begin with the same code and SP
pub record Begins (heard : List Text) (code : ℕ) (lines : List Text) : Type 0 where
  pub first : Text
  pub between : List Text
  pub code_is : IsCode code
  pub lines_are : lines ≡ first ∷ between
  pub heard_is : heard ≡ opening_line code first ∷ between
  pub goes_on : All (λ line. ¬ IsLastLine code line) between

-- lines that begin a reply, and one that begins with the same code and SP
pub record IsSeveral (heard : List Text) (code : ℕ) (lines : List Text) : Type 0 where
  pub begun : List Text
  pub texts : List Text
  pub last : Text
  pub begins : Begins begun code texts
  pub lines_are : lines ≡ texts ++ last ∷ []
  pub heard_is : heard ≡ begun ++ last_line code last ∷ []

-- the lines are a reply with that code and these texts, whatever their number and length
abbrev pub IsWholeReply : List Text → ℕ → List Text → Type 0
IsWholeReply heard code lines = IsOneLine heard code lines ⊎ IsSeveral heard code lines

-- the lines say the reply with that code and these texts
pub record Says (heard : List Text) (code : ℕ) (lines : List Text) : Type 0 where
  pub whole : IsWholeReply heard code lines
  pub within : AreWithin lines

-- the lines are a reply, or the beginning of one
abbrev pub Fits : List Text → ℕ → List Text → Type 0
Fits heard code lines = IsWholeReply heard code lines ⊎ Begins heard code lines

-- whether a line begins with three digits
abbrev pub begins_with_digits : Text → Bool
begins_with_digits (a ∷ b ∷ c ∷ rest) = is_ascii_digit a && is_ascii_digit b && is_ascii_digit c
begins_with_digits (a ∷ b ∷ []) = false
begins_with_digits (a ∷ []) = false
begins_with_digits [] = false

-- a line between as it is written: with one SP before it where it begins with three digits
abbrev pub padded : Text → Text
padded line = if begins_with_digits line then space ∷ line else line

-- the lines after the first as they are written
abbrev pub written_after : ℕ → List Text → List Text
written_after code [] = []
written_after code (last ∷ []) = last_line code last ∷ []
written_after code (line ∷ next ∷ more) = padded line ∷ written_after code (next ∷ more)

-- the lines that a reply is written as
abbrev pub written : ℕ → List Text → List Text
written code [] = []
written code (text ∷ []) = last_line code text ∷ []
written code (first ∷ next ∷ more) = opening_line code first ∷ written_after code (next ∷ more)

-- the lines that stand before the last
abbrev pub but_last : List Text → List Text
but_last [] = []
but_last (last ∷ []) = []
but_last (line ∷ next ∷ more) = line ∷ but_last (next ∷ more)

-- the lines between the first and the last
abbrev pub inner_lines : List Text → List Text
inner_lines [] = []
inner_lines (first ∷ more) = but_last more

-- no inner line begins with three digits
abbrev pub HasPlainLines : List Text → Type 0
HasPlainLines lines = All (λ line. begins_with_digits line ≡ false) (inner_lines lines)
