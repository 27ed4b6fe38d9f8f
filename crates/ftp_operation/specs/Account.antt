-- Who may log in, and what an account sees of the tree (RFC 959, section 4.1.1; roots are an own choice).
use Rattle.std.specs.Prelude.{ℕ, ◌&&◌, ◌||◌, ◌==◌, Bool, true, not, nat_le, nat_eq, List, [], ◌∷◌, length, Option, Some, None, is_none, if◌then◌else◌}
use Rattle.std.specs.List.{find, list_all, list_any}
use Rattle.std.specs.Cmp.Lexicographic.{pointwise}
pub use Rattle.ftp_path.specs.Login.{is_user, is_password}
use Rattle.ftp_path.specs.Path.{Names, is_within}
use Rattle.ftp_operation.specs.Rights.{may_change}
use Rattle.ftp_secret.specs.Secret.{opens}
use Rattle.ftp_secret.specs.declared.secret.Secret.{Secret}
use Rattle.ftp_operation.specs.declared.account.Account.{Account as Held}
use Rattle.ftp_operation.specs.declared.account.AccountsFault.{AccountsFault}
use Rattle.ftp_operation.specs.declared.account.AccountsFault.TheVariants.{SameUser, NestedRoots}

-- an account: a user name, the password that it needs, if it needs one, in clear or as SHA-crypt, its root, which is the path that is `/` to
-- its user, and what it may change there
abbrev pub Account : Type 0
Account = Held (List ℕ) Names

-- an account has this user name
abbrev pub has_user : List ℕ → Account → Bool
has_user user account = pointwise nat_eq account.user user

-- no two accounts have one user name
abbrev pub are_distinct : List Account → Bool
are_distinct [] = true
are_distinct (account ∷ accounts) = not (list_any (has_user account.user) accounts) && are_distinct accounts

-- the second path is below the first, and not the first
abbrev pub is_below : Names → Names → Bool
is_below above path = is_within above path && not (is_within path above)

-- an account may change something, and the root of another is below its own
abbrev pub changes_above : Account → Account → Bool
changes_above above account = may_change above.rights && is_below above.root account.root

-- one of two accounts may change something above the root of the other
abbrev pub has_nested : Account → Account → Bool
has_nested one other = changes_above one other || changes_above other one

-- no account's root is below that of another that may change something; equal ones are allowed
abbrev pub are_apart : List Account → Bool
are_apart [] = true
are_apart (account ∷ accounts) = not (list_any (has_nested account) accounts) && are_apart accounts

-- the first reason why these can't be the accounts
abbrev pub accounts_refusal : List Account → Option AccountsFault
accounts_refusal accounts =
    if not (are_distinct accounts) then Some SameUser else (if not (are_apart accounts) then Some NestedRoots else None)

-- a password opens the account's secret, or none is needed
abbrev pub passes : Option Secret → List ℕ → Bool
passes None pass = true
passes (Some secret) pass = opens secret pass

-- a login names an account without a password, or one with the password given
abbrev pub knows : List ℕ → List ℕ → Account → Bool
knows user pass account = has_user user account && passes account.pass pass

-- the account that a login names so, if it names one
unfoldable pub login_account : List Account → List ℕ → List ℕ → Option Account
login_account accounts user pass = find (knows user pass) accounts

-- an account of this name that needs no password
abbrev pub is_open : List ℕ → Account → Bool
is_open user account = has_user user account && is_none account.pass

-- it, if there is one
abbrev pub open_account : List Account → List ℕ → Option Account
open_account accounts user = find (is_open user) accounts
