-- Who may log in where no file of accounts is given: `guest` with the password `secret`, and `anonymous`, which has none; the root of both is the tree's
-- (own choice).
use Rattle.std.specs.Prelude.{List, [], ◌∷◌, Some, None, codes}
use Rattle.ftp_operation.specs.Account.{Account}
use Rattle.ftp_operation.specs.Rights.{all_rights}
use Rattle.ftp_secret.specs.Secret.{plain}

-- the account that needs a password
abbrev pub guest : Account
guest = record { user = codes "guest"; pass = Some (plain (codes "secret")); root = []; rights = all_rights }

-- the account without one
abbrev pub anonymous : Account
anonymous = record { user = codes "anonymous"; pass = None; root = []; rights = all_rights }

-- both
abbrev pub two_accounts : List Account
two_accounts = guest ∷ anonymous ∷ []
