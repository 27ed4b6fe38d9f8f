-- How far the accounts of a text reach together (own choice).
use Rattle.std.specs.Prelude.{◌≡◌, ℕ, List, [], ◌∷◌, map}
use Rattle.ftp_operation.specs.Account.{Account}
use Rattle.ftp_operation.specs.Rights.{joined, no_rights}
use Rattle.ftp_operation.specs.declared.rights.Rights.{Rights}
use Rattle.ftp_path.specs.Path.{Names}
use Rattle.tool_accounts.specs.accounts_file.Lines.{SaysAll}

-- these rights, and those of each account
abbrev pub rights_with : Rights → List Account → Rights
rights_with rights [] = rights
rights_with rights (account ∷ accounts) = rights_with (joined rights account.rights) accounts

-- what one of the accounts or another may change
abbrev pub rights_of : List Account → Rights
rights_of accounts = rights_with no_rights accounts

-- the roots are those of the accounts that a text says, in the order of its lines, and the rights are what one of them or another may change
pub record Reaches (text : List ℕ) (roots : List Names) (rights : Rights) : Type 0 where
  pub accounts : List Account
  pub said : SaysAll text accounts
  pub roots_are : roots ≡ map (λ account. account.root) accounts
  pub rights_are : rights ≡ rights_of accounts
