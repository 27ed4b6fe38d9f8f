-- Whose login stands after a line (RFC 959, section 4.1.1).
use Rattle.std.specs.Prelude.{◌≡◌, ℕ, Bool, false, List, [], Some}
use Rattle.std.specs.List.{find}
use Rattle.ftp_operation.specs.Rights.{no_rights}
use Rattle.ftp_operation.specs.declared.rights.Rights.{Rights}
use Rattle.ftp_path.specs.Path.{Names}
use Rattle.ftp_server_model.specs.Act.{decided, is_in}
use Rattle.ftp_server_model.specs.Login.{Account}
use Rattle.ftp_server_model.specs.View.{Accounts, Context, Session}
use Rattle.ftp_server_model.specs.declared.heard.HeardLine.{HeardLine}
use Rattle.ftp_server_model.specs.declared.session.Access.{Access}
use Rattle.ftp_server_model.specs.declared.session.Access.TheVariants.{Known}
use Rattle.ftp_server_model.specs.declared.session.Pending.{Pending}

-- the one before, nobody's, or that of an account which a test finds
pub data Logged : Type 0 where
  Lasts Ends : Logged
  Enters : (account : Account) (test : Account → Bool) → Logged

-- who is logged in then, with which root and rights
abbrev pub LoggedSo : Logged → Accounts → Session → Access (List ℕ) → Names → Rights → Type 0
LoggedSo Lasts accounts s access root rights = (access ≡ s.access) × (root ≡ s.root) × (rights ≡ s.rights)
LoggedSo Ends accounts s access root rights = (is_in access ≡ false) × (root ≡ []) × (rights ≡ no_rights)
LoggedSo (Enters account test) accounts s access root rights =
    (find test accounts ≡ Some account) × (access ≡ Known) × (root ≡ account.root) × (rights ≡ account.rights)

-- so it is of every line: only an account of these logs in, to its own root and with its own rights
abbrev pub LinesLogIn : Type 0
LinesLogIn =
    (context : Context) (heard : HeardLine (List ℕ)) (pending : Pending Names) (s : Session)
    → (logged : Logged)
    × LoggedSo logged context.accounts s (decided context heard pending s).0.access (decided context heard pending s).0.root (decided context heard pending s).0.rights
