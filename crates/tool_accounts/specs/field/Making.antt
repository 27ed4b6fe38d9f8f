-- A password is read, and its field is written.
use Rattle.std.specs.Prelude.{◌≡◌, ◌≤◌, ℕ, List, [], ◌∷◌, ◌++◌, ◌⊎◌, length, Option, Ok, Err}
use Rattle.std.specs.Io.KnownBytes.{Appends, Consumes, IsAtEnd, Keeps}
use Rattle.ftp_ports.specs.Beginning.{AppendsFront}
use Rattle.tool_accounts.specs.field.Field.{made_field}
use Rattle.tool_accounts.specs.field.Opened.{OpensBy}
use Rattle.tool_accounts.specs.field.Typed.{password_in}
use Rattle.tool_accounts.specs.declared.field.fault.PasswordFault.{PasswordFault}
use Rattle.tool_terminal.specs.declared.status.Status.{Status}
use Rattle.tool_terminal.specs.declared.status.Status.TheVariants.{Done, Refused, BadWords, Failed}

-- the most octets that are read: those of a password, CR LF, and one by which it is too long
abbrev pub most_read : ℕ
most_read = 258

-- no more is read: nothing is left, or as much was read as is read at most
abbrev pub IsOver : (after : Option (List ℕ)) → List ℕ → Type 0
IsOver after input = IsAtEnd after ⊎ (length input ≡ most_read)

-- one read adds so many octets to those before
abbrev pub ReadAdds : (before after : Option (List ℕ)) → (old new : List ℕ) → ℕ → Type 0
ReadAdds before after old new count = (octets : List ℕ) × (length octets ≡ count) × Consumes before after octets × (new ≡ old ++ octets)

-- these octets were read: all that there were, or as many as are read at most
abbrev pub Reads : (before after : Option (List ℕ)) → List ℕ → Type 0
Reads before after input = (length input ≤ most_read) × Consumes before after input × IsOver after input

-- all of an input was read, it has a password, and this is its field, which the password opens
pub record MakesField (rounds : Option ℕ) (salt : List ℕ) (before after : Option (List ℕ)) (text : List ℕ) : Type 0 where
  pub input : List ℕ
  pub reads : Consumes before after input × IsAtEnd after
  pub makes : made_field rounds salt input ≡ Ok text
  pub password : List ℕ
  pub says : password_in input ≡ Ok password
  pub opens : OpensBy text password

-- the field and LF were written
pub record WritesField (rounds : Option ℕ) (salt : List ℕ) (before after old new : Option (List ℕ)) : Type 0 where
  pub text : List ℕ
  pub makes : MakesField rounds salt before after text
  pub wrote : Appends old new (text ++ 10 ∷ [])

-- no field is made of what was read, and nothing was written
pub record Refuses (rounds : Option ℕ) (salt : List ℕ) (before after old new : Option (List ℕ)) : Type 0 where
  pub input : List ℕ
  pub reads : Reads before after input
  pub fault : PasswordFault
  pub wrong : made_field rounds salt input ≡ Err fault
  pub kept : Keeps old new

-- a beginning of the field and LF was written
pub record WritesFront (rounds : Option ℕ) (salt : List ℕ) (before after old new : Option (List ℕ)) : Type 0 where
  pub text : List ℕ
  pub makes : MakesField rounds salt before after text
  pub wrote : AppendsFront old new (text ++ 10 ∷ [])

-- how it ended
abbrev pub Ends : (rounds : Option ℕ) (salt : List ℕ) (before after old new : Option (List ℕ)) → Status → Type 0
Ends rounds salt before after old new Done = WritesField rounds salt before after old new
Ends rounds salt before after old new BadWords = Refuses rounds salt before after old new
Ends rounds salt before after old new Failed = Keeps old new ⊎ WritesFront rounds salt before after old new
Ends rounds salt before after old new Refused = ⊥
