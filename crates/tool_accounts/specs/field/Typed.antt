-- Which octets of an input are the password (own choice): a line.
use Rattle.std.specs.Prelude.{ℕ, ◌-◌, ◌==◌, not, nat_lt, nat_eq, List, [], ◌∷◌, length, take, Result, Ok, Err, if◌then◌else◌}
use Rattle.std.specs.List.{ends_with}
use Rattle.ftp_path.specs.Login.{is_password, login_limit}
use Rattle.tool_accounts.specs.declared.field.fault.PasswordFault.{PasswordFault}
use Rattle.tool_accounts.specs.declared.field.fault.PasswordFault.TheVariants as Faults

-- a line without its end, which is CR LF, LF, or that nothing comes after it
abbrev pub line_in : List ℕ → List ℕ
line_in input =
    if ends_with nat_eq input (13 ∷ 10 ∷ []) then take (length input - 2) input
    else (if ends_with nat_eq input (10 ∷ []) then take (length input - 1) input else input)

-- a password of a login (RFC 959, section 5.3.2) that is not empty, and else why it is none
abbrev pub checked : List ℕ → Result (List ℕ) PasswordFault
checked password =
    if length password == 0 then Err Faults.Empty
    else (if nat_lt login_limit (length password) then Err Faults.TooLong
    else (if not (is_password password) then Err Faults.Octet else Ok password))

-- the password of an input
abbrev pub password_in : List ℕ → Result (List ℕ) PasswordFault
password_in input = checked (line_in input)
