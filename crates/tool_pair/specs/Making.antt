-- What a script begins with (own choice): who may log in, a tree, and one host for both ends.
use Rattle.std.specs.Prelude.{ℕ, Bool, true, false, List, [], ◌∷◌, Some, None, codes}
use Rattle.ftp_endpoint.specs.declared.host.Host.{Host}
use Rattle.ftp_endpoint.specs.declared.host.Host.TheVariants.{V4}
use Rattle.ftp_operation.specs.Account.{Account}
use Rattle.ftp_operation.specs.Rights.{all_rights}
use Rattle.ftp_secret.specs.Secret.{plain}
use Rattle.tool_pair.specs.Begun.{begun}
use Rattle.laws_world.specs.Claims.{Beginning}
use Rattle.ftp_path.specs.Path.{Names, resolved}
use Rattle.ftp_tree.specs.Tree.{made, root_alone}

-- the host of both ends
abbrev pub own_host : Host
own_host = V4 (127 ∷ 0 ∷ 0 ∷ 1 ∷ [])

-- `guest` with the password `secret`, and `anonymous` without one, at these roots
abbrev pub own_accounts : (guest anonymous : Names) → List Account
own_accounts guest anonymous =
    record { user = codes "guest"; pass = Some (plain (codes "secret")); root = guest; rights = all_rights }
    ∷ record { user = codes "anonymous"; pass = None; root = anonymous; rights = all_rights } ∷ []

-- with roots, where `guest` is and where `anonymous` is
abbrev pub guest_root : Names
guest_root = resolved [] (codes "/guest")

abbrev pub anonymous_root : Names
anonymous_root = resolved [] (codes "/pub")

-- what a script begins with, of a login: a new tree, in which both accounts are at the root, or with roots at a directory each
abbrev pub own_beginning : Bool → List ℕ × List ℕ → Beginning
own_beginning true login =
    begun login.0 login.1 (own_accounts guest_root anonymous_root) (made (made root_alone guest_root) anonymous_root) own_host own_host
own_beginning false login = begun login.0 login.1 (own_accounts [] []) root_alone own_host own_host
