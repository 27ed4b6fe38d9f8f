-- The field of an input is opened by its password.
use Rattle.std.proofs.Common.{◌≡◌, ◌≤◌, ℕ, List, length, Option, Result, Ok, Err, subst, refl}
use Rattle.ftp_secret.specs.Secret.{made, secret_text}
use Rattle.ftp_secret.specs.declared.fault.SecretFault.{SecretFault}
use Rattle.ftp_secret.specs.declared.method.Method.TheVariants.{Sha512}
use Rattle.ftp_secret.specs.declared.secret.Secret.{Secret}
use Rattle.tool_accounts.proofs.field.ReadBack.{made_back}
use Rattle.tool_accounts.specs.field.Field.{made_field, field_of, text_of}
use Rattle.tool_accounts.specs.field.Opened.{OpensBy}
use Rattle.tool_accounts.specs.field.Typed.{password_in}
use Rattle.tool_accounts.specs.declared.field.fault.PasswordFault.{PasswordFault}

-- a field has a password, which opens it, and is short
pub record IsField (input text : List ℕ) : Type 0 where
  pub password : List ℕ
  pub says : password_in input ≡ Ok password
  pub opens : OpensBy text password
  pub short : length text ≤ 254

-- a secret that was made
pub record IsMade (r : Result Secret SecretFault) (text : List ℕ) : Type 0 where
  pub secret : Secret
  pub is : r ≡ Ok secret
  pub written : secret_text secret ≡ text

made_of : (r : Result Secret SecretFault) (text : List ℕ) → text_of r ≡ Ok text → IsMade r text
made_of (Ok secret) text says = record { secret = secret; is = refl; written = cc }
made_of (Err fault) text says = absurd (cc)

-- a field is made of a password
pub field_is : (rounds : Option ℕ) (salt input text : List ℕ) → made_field rounds salt input ≡ Ok text → IsField input text
field_is rounds salt input text says = by_password (password_in input) refl says
  where
    by_password : (r : Result (List ℕ) PasswordFault) → password_in input ≡ r → field_of rounds salt r ≡ Ok text → IsField input text
    by_password (Ok password) is goes =
        let m = made_of (made Sha512 rounds salt password) text goes in
        let back = made_back Sha512 rounds salt password m.secret m.is in
        record {
          password = password;
          says = is;
          opens = subst (λ t. OpensBy t password) m.written (m.secret, back.reads, back.is_opened);
          short = subst (λ t. length t ≤ 254) m.written back.short;
        }
    by_password (Err fault) is goes = absurd (cc)
