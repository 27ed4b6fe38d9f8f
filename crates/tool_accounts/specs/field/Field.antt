-- The field that is made of an input.
use Rattle.std.specs.Prelude.{ℕ, List, Option, Result, Ok, Err}
use Rattle.ftp_secret.specs.Secret.{made, secret_text}
use Rattle.ftp_secret.specs.declared.fault.SecretFault.{SecretFault}
use Rattle.ftp_secret.specs.declared.method.Method.TheVariants.{Sha512}
use Rattle.ftp_secret.specs.declared.secret.Secret.{Secret}
use Rattle.tool_accounts.specs.field.Typed.{password_in}
use Rattle.tool_accounts.specs.declared.field.fault.PasswordFault.{PasswordFault}
use Rattle.tool_accounts.specs.declared.field.fault.PasswordFault.TheVariants as Faults

-- the text of a secret that was made
abbrev pub text_of : Result Secret SecretFault → Result (List ℕ) PasswordFault
text_of (Ok secret) = Ok (secret_text secret)
text_of (Err fault) = Err (Faults.Secret fault)

-- the same of a password, if there is one
abbrev pub field_of : (rounds : Option ℕ) (salt : List ℕ) → Result (List ℕ) PasswordFault → Result (List ℕ) PasswordFault
field_of rounds salt (Ok password) = text_of (made Sha512 rounds salt password)
field_of rounds salt (Err fault) = Err fault

-- the field that is made of an input: SHA-512, with this salt, and with so many rounds or the default
abbrev pub made_field : (rounds : Option ℕ) (salt input : List ℕ) → Result (List ℕ) PasswordFault
made_field rounds salt input = field_of rounds salt (password_in input)
