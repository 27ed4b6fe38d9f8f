-- What a line of an accounts file says (own choice: `user:password:root`, as in the password file of a system, or `user:password:root:rights`).
use Rattle.std.specs.Prelude.{◌≡◌, ℕ, ◌||◌, ◌&&◌, ◌==◌, ◌⊎◌, Bool, true, List, [], ◌∷◌, ◌++◌, Option, Some, None, Result, Ok, Err}
use Rattle.std.specs.Prelude.{IsTrue, not, is_none, nat_eq, if◌then◌else◌}
use Rattle.std.specs.List.{list_all, starts_with}
use Rattle.ftp_facts.specs.Fact.{Lacks}
use Rattle.ftp_path.specs.Path.{fits, is_path_text, is_rooted, resolved}
use Rattle.ftp_operation.specs.Account.{Account, is_password, is_user}
use Rattle.ftp_operation.specs.declared.account.AccountsFault.{AccountsFault}
use Rattle.ftp_operation.specs.declared.account.AccountsFault.TheVariants as AccountsFaults
use Rattle.ftp_operation.specs.declared.rights.Rights.{Rights}
use Rattle.ftp_operation.specs.Rights.{adding_rights, all_rights, joined, no_rights}
use Rattle.ftp_secret.specs.Secret.{read}
use Rattle.ftp_secret.specs.declared.fault.SecretFault.{SecretFault}
use Rattle.ftp_secret.specs.declared.secret.Secret.{Secret}
use Rattle.tool_accounts.specs.declared.accounts_file.fault.AccountFault.{AccountFault}
use Rattle.tool_accounts.specs.declared.accounts_file.fault.AccountFault.TheVariants as Faults

-- the octet between two fields, `:`
abbrev pub colon : ℕ
colon = 58

-- SP or TAB
abbrev pub is_blank : ℕ → Bool
is_blank octet = (octet == 32) || (octet == 9)

-- a comment begins with `#`
abbrev pub is_comment : List ℕ → Bool
is_comment line = starts_with nat_eq line (35 ∷ [])

-- a line of blanks alone, or a comment, says no account
abbrev pub is_silent : List ℕ → Bool
is_silent line = list_all is_blank line || is_comment line

-- the secret that an account needs: none where the field of its password is empty, and else what that field says, in clear or as SHA-crypt
abbrev pub needed : List ℕ → Result (Option Secret) SecretFault
needed [] = Ok None
needed (octet ∷ octets) = elim (read (octet ∷ octets)) [ Ok secret ↦ Ok (Some secret) | Err fault ↦ Err fault ]

-- the rights that a letter says: `r` to look alone, which adds none; `w` to put new files and make directories; `p` to put new files; `a` to append to files
-- and replace them; `d` to delete files; `m` to make directories; `x` to remove directories; `f` to rename; `o`, beside it, to rename a file onto another
abbrev pub rights_of_letter : ℕ → Option Rights
rights_of_letter letter =
    if letter == 114 then Some no_rights
    else (if letter == 119 then Some adding_rights
    else (if letter == 112 then Some (record no_rights { put = true })
    else (if letter == 97 then Some (record no_rights { replace = true })
    else (if letter == 100 then Some (record no_rights { delete = true })
    else (if letter == 109 then Some (record no_rights { make_dir = true })
    else (if letter == 120 then Some (record no_rights { remove_dir = true })
    else (if letter == 102 then Some (record no_rights { rename = true })
    else (if letter == 111 then Some (record no_rights { onto = true }) else None))))))))

-- these rights and those of letters, each of which says some
abbrev pub rights_with_letters : Rights → List ℕ → Option Rights
rights_with_letters rights [] = Some rights
rights_with_letters rights (letter ∷ letters) = elim (rights_of_letter letter) [ Some more ↦ rights_with_letters (joined rights more) letters | None ↦ None ]

-- the rights that are said: all but to rename onto files where no field stands, and else those of its letters; an empty field says none
abbrev pub rights_said : Option (List ℕ) → Option Rights
rights_said None = Some all_rights
rights_said (Some []) = None
rights_said (Some (letter ∷ letters)) = rights_with_letters no_rights (letter ∷ letters)

-- a root: a path text that begins with `/`, and leads to a path within the limits
abbrev pub is_root_text : List ℕ → Bool
is_root_text root = is_path_text root && is_rooted root && fits (resolved [] root)

-- what stands after a root: nothing, or a colon and rights
abbrev pub ending : Option (List ℕ) → List ℕ
ending None = []
ending (Some rights) = colon ∷ rights

-- what stands after the second colon: a root, or a root, a colon and rights
abbrev pub EndsIn : (rest root : List ℕ) → Option (List ℕ) → Type 0
EndsIn rest root rights = Lacks root colon × (rest ≡ root ++ ending rights)

-- a line is these fields, with colons between
pub record AreFields (line user pass root : List ℕ) (rights : Option (List ℕ)) : Type 0 where
  pub rest : List ℕ
  pub whole : line ≡ user ++ colon ∷ (pass ++ colon ∷ rest)
  pub lack : Lacks user colon × Lacks pass colon
  pub ends : EndsIn rest root rights

-- what is wrong with the fields after a password
abbrev pub wrong_after : (root : List ℕ) → Option (List ℕ) → Option AccountFault
wrong_after root rights = if not (is_root_text root) then Some Faults.Root else (if is_none (rights_said rights) then Some Faults.Rights else None)

-- what is wrong with the fields of a line: the first that is none
abbrev pub wrong_field : (user pass root : List ℕ) → Option (List ℕ) → Option AccountFault
wrong_field user pass root rights =
    if not (is_user user) then Some Faults.User
    else (if not (is_password pass) then Some Faults.Password
    else elim (needed pass) [ Ok secret ↦ wrong_after root rights | Err fault ↦ Some (Faults.Secret fault) ])

-- a line says an account
pub record Says (line : List ℕ) (account : Account) : Type 0 where
  pub pass : List ℕ
  pub root : List ℕ
  pub rights : Option (List ℕ)
  pub cut : AreFields line account.user pass root rights
  pub user : IsTrue (is_user account.user)
  pub password : IsTrue (is_password pass) × (needed pass ≡ Ok account.pass)
  pub path : IsTrue (is_root_text root) × (account.root ≡ resolved [] root)
  pub right : rights_said rights ≡ Some account.rights

-- a line has less than two colons
pub record HasOneColon (line : List ℕ) : Type 0 where
  pub user : List ℕ
  pub rest : List ℕ
  pub whole : line ≡ user ++ colon ∷ rest
  pub lack : Lacks user colon × Lacks rest colon

abbrev pub HasFewFields : List ℕ → Type 0
HasFewFields line = Lacks line colon ⊎ HasOneColon line

-- a line has fields, of which the first wrong one is this
pub record HasWrong (line : List ℕ) (fault : AccountFault) : Type 0 where
  pub user : List ℕ
  pub pass : List ℕ
  pub root : List ℕ
  pub rights : Option (List ℕ)
  pub cut : AreFields line user pass root rights
  pub is : wrong_field user pass root rights ≡ Some fault

-- a line says no account, and why; memory may be refused whatever it says
abbrev pub IsFaulty : List ℕ → AccountFault → Type 0
IsFaulty line fault = (fault ≡ Faults.Memory) ⊎ (((fault ≡ Faults.Fields) × HasFewFields line) ⊎ HasWrong line fault)

-- what is wrong with a line, of why its account can't stand with those above it
abbrev pub of_accounts : AccountsFault → AccountFault
of_accounts AccountsFaults.SameUser = Faults.SameUser
of_accounts AccountsFaults.NestedRoots = Faults.NestedRoots
