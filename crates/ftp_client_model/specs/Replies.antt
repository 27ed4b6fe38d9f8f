-- What a reply's code says (RFC 959, section 4.2.1).
use Rattle.std.specs.Prelude.{ℕ, ◌/◌, ◌==◌, if◌then◌else◌}
use Rattle.ftp_reply.specs.declared.code.TheConstants.{ACCOUNT_NEEDED, NOT_AVAILABLE}

-- by its first digit; two codes say more: 421, that the service closes, and 332, that
-- an account is asked for, which has no place in this profile (own choice)
pub data Verdict : Type 0 where
  Preliminary Completion Intermediate Negative : Verdict
  Closing Displaced : Verdict

-- the verdict of a first digit: 4, 5 and every other one refuse (own choice of the others)
abbrev pub verdict_by : ℕ → Verdict
verdict_by digit =
    if digit == 1 then Preliminary else (if digit == 2 then Completion else (if digit == 3 then Intermediate else Negative))

-- the verdict of a code: the two by themselves, every other by its first digit
abbrev pub verdict_of : ℕ → Verdict
verdict_of code = if code == NOT_AVAILABLE then Closing else (if code == ACCOUNT_NEEDED then Displaced else verdict_by (code / 100))
