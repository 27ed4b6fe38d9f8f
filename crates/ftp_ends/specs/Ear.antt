-- Lines and Telnet answers in flight: what the reader of a control connection (`ftp_nvt`) hears of them, wherever they are cut. Both
-- ends hear by it.
use Rattle.std.specs.Prelude.{◌≡◌, ◌≤◌, ℕ, ◌+◌, List, [], ◌∷◌, ◌++◌, length, take, count_by, ◌==◌}
use Rattle.ftp_nvt.specs.Lines.{line, IsNoneOf, written_line}
use Rattle.ftp_nvt.specs.declared.line.TheConstants.{LF, CR}
use Rattle.ftp_nvt.specs.declared.telnet.TheConstants.{IAC, WONT, DONT}
use Rattle.ftp_pieces.specs.Machine.{after, gives}
pub use Rattle.ftp_nvt.specs.Fold.{Unfinished, no_line, past_limit, skipping, text_with, longer, ended_text, within_step, within_out, line_step, line_out, liner, Ear, quiet, unit_says, ear_step, ear_out, ear}

-- how many octets a text takes in its line, the end not counted: CR goes as CR NUL, and a doubled 255 is one
abbrev pub line_len : List ℕ → ℕ
line_len text = length text + count_by (λ c. c == CR) text

-- a line as it is written, heard between two lines: of a front of it nothing is said, wherever it is cut; the whole says this
-- line and no more, and the ear is between two lines again
pub record EarHearsLine (limit : ℕ) (text : List ℕ) : Type 0 where
  pub front : (front back : List ℕ) (octet : ℕ) → front ++ octet ∷ back ≡ written_line text → gives (ear limit) quiet front ≡ []
  pub whole : gives (ear limit) quiet (written_line text) ≡ line text ∷ []
  pub rest : after (ear limit) quiet (written_line text) ≡ quiet

-- so it is of every line without LF that keeps the limit
abbrev pub EarHearsEachLine : Type 0
EarHearsEachLine = (limit : ℕ) (text : List ℕ) → IsNoneOf LF text → line_len text + 2 ≤ limit → EarHearsLine limit text

-- the answer to a Telnet octet, which the other end is owed (RFC 854)
abbrev pub answer_of : ℕ → ℕ → List ℕ
answer_of verb octet = IAC ∷ verb ∷ octet ∷ []

-- such an answer, heard between two lines: nothing is said of it, however much of it came, and the ear is between two lines again
pub record EarHearsAnswer (limit verb octet : ℕ) : Type 0 where
  pub front : (n : ℕ) → gives (ear limit) quiet (take n (answer_of verb octet)) ≡ []
  pub rest : after (ear limit) quiet (answer_of verb octet) ≡ quiet

-- so it is of both answers, WONT and DONT
abbrev pub EarDropsAnswer : Type 0
EarDropsAnswer = (limit octet : ℕ) → EarHearsAnswer limit WONT octet × EarHearsAnswer limit DONT octet
