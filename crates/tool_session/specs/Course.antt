-- When a data connection did not end, and whether it brought more than it may (own choice).
use Rattle.std.specs.Prelude.{ℕ, ◌==◌, ◌&&◌, ◌||◌, Bool, false, List, [], ◌∷◌, Option, Some, None, nat_lt}
use Rattle.ftp_operation.specs.declared.answer.Answer.{Answer}
use Rattle.ftp_operation.specs.declared.answer.Answer.TheVariants as Answers
use Rattle.tool_session.specs.declared.request_state.DataLimits.{DataLimits}

-- a line says that all is done: the first digit of its code is 2 (RFC 959, section 4.2.1)
abbrev pub says_done : List ℕ → Bool
says_done [] = false
says_done (octet ∷ line) = octet == 50

-- a data connection did not end although the server said that all is done: what it brought is reported as broken off, and the last wait for more of it
-- found nothing
abbrev pub is_unended : {A : Type 0} → (is_silent : Bool) → Option (Answer A) → (line : List ℕ) → Bool
is_unended is_silent (Some (Answers.Broken got mark)) line = is_silent && says_done line
is_unended is_silent report line = false

-- more lines than may come, where they are counted
abbrev pub are_past : Option ℕ → ℕ → Bool
are_past None lines = false
are_past (Some most) lines = nat_lt most lines

-- more octets, or more lines
abbrev pub is_past : DataLimits → ℕ → ℕ → Bool
is_past most octets lines = nat_lt most.octets octets || are_past most.lines lines
