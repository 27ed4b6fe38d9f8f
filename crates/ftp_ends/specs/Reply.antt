-- A reply as a value, its octets on the control connection, and which replies can be written (RFC 959, section 4.2).
use Rattle.std.specs.Prelude.{ℕ, ◌+◌, ◌<◌, ◌≤◌, List, [], ◌∷◌, length}
use Rattle.std.specs.List.{flat_map, AllByRecursion}
use Rattle.ftp_nvt.specs.Lines.{IsNoneOf, written_line}
use Rattle.ftp_nvt.specs.declared.line.TheConstants.{LF}
use Rattle.ftp_reply.specs.Lines.{AreWithin}
use Rattle.ftp_reply.specs.Reply.{IsCode, HasPlainLines, written}
use Rattle.ftp_ends.specs.Ear.{line_len}
use Rattle.ftp_ends.specs.declared.reply_line_limit.TheConstants.{REPLY_LIMIT}

-- a reply: a code, and the texts of its lines
pub record Reply : Type 0 where
  pub code : ℕ
  pub lines : List (List ℕ)

-- a reply of one line
abbrev pub reply_of : ℕ → List ℕ → Reply
reply_of code text = record { code = code; lines = text ∷ [] }

-- its octets on the control connection: each line as Telnet has it, with CR LF
abbrev pub reply_octets : Reply → List ℕ
reply_octets reply = flat_map written_line (written reply.code reply.lines)

-- ---- replies that can be written

-- the most octets of a reply line, its end included (own choice)
abbrev pub reply_limit : ℕ
reply_limit = REPLY_LIMIT

-- a line that a control connection can carry to the client
abbrev pub CanBeCarried : List ℕ → Type 0
CanBeCarried line = IsNoneOf LF line × (line_len line + 2 ≤ reply_limit)

-- a reply that can be written, and is read again as itself: a code, and lines within the limits of which no inner one begins with
-- three digits
pub record IsWritten (code : ℕ) (texts : List (List ℕ)) : Type 0 where
  pub code_is : IsCode code
  pub some : 0 < length texts
  pub within : AreWithin texts
  pub plain : HasPlainLines texts
  pub carried : AllByRecursion CanBeCarried (written code texts)
