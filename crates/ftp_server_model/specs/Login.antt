-- Who is logged in: USER, PASS, REIN, QUIT (RFC 959, sections 4.1.1 and 5.4).
use Rattle.std.specs.Prelude.{ℕ, Bool, true, false, List, [], Option, Some, None}
pub use Rattle.ftp_operation.specs.Account.{Account, is_open, login_account, open_account}
use Rattle.ftp_operation.specs.Rights.{no_rights}
use Rattle.ftp_tree.specs.Tree.{node_at}
use Rattle.ftp_direct.specs.Direct.{is_directory}
use Rattle.ftp_settings.specs.Representation.{defaults}
use Rattle.ftp_server_model.specs.View.{Accounts, Session, all_facts}
use Rattle.ftp_server_model.specs.Replies.{Turn, tells}
use Rattle.ftp_server_model.specs.Endpoint.{forgotten}
use Rattle.ftp_server_model.specs.declared.reply.FixedReply.TheVariants as Texts
use Rattle.ftp_server_model.specs.declared.session.Access.{Access}
use Rattle.ftp_server_model.specs.declared.session.Access.TheVariants.{Nobody, AwaitsPass, Known}
use Rattle.ftp_server_model.specs.declared.session.Life.TheVariants as Lives

-- nobody is logged in
abbrev pub logged_out : Session → Session
logged_out s = record s { access = Nobody; root = []; rights = no_rights; cwd = [] }

-- a login is 230, and the root of its account is the current directory
abbrev pub admits : Bool → Account → Session → Turn
admits true account s = tells Texts.LoggedIn (record s { access = Known; root = account.root; rights = account.rights; cwd = [] })
admits false account s = tells Texts.LoginRefused (logged_out s)

-- it is 530 where the root of its account is no directory (own choice)
abbrev pub logs_in : Account → Session → Turn
logs_in account s = admits (is_directory (node_at s.table account.root)) account s

-- any name that needs a password, or that no account has, is asked for one (own choice)
abbrev pub user_named : Option Account → List ℕ → Session → Turn
user_named (Some account) name s = logs_in account s
user_named None name s = tells Texts.PasswordNeeded (record (logged_out s) { access = AwaitsPass name })

-- USER ends the login in force
abbrev pub user : Accounts → List ℕ → Session → Turn
user accounts name s = user_named (open_account accounts name) name s

-- 230 or 530; either way the USER that waited is used up
abbrev pub password_checked : Option Account → Session → Turn
password_checked (Some account) s = logs_in account s
password_checked None s = tells Texts.LoginRefused (logged_out s)

-- PASS counts where a USER waits for it, and only once
abbrev pub pass : Access (List ℕ) → Accounts → List ℕ → Session → Turn
pass (AwaitsPass name) accounts word s = password_checked (login_account accounts name word) s
pass Nobody accounts word s = tells Texts.BadSequence s
pass Known accounts word s = tells Texts.BadSequence s

-- REIN: all is as at the start, but the map and the moment (RFC 959, section 4.1.1)
abbrev pub rein : Session → Turn
rein s = tells Texts.Ready (record (logged_out (forgotten s)) { settings = defaults; facts = all_facts; only_extended = false })

-- QUIT: its reply is the last, and nothing is heard after it (RFC 959, section 4.1.1)
abbrev pub quit : Session → Turn
quit s = tells Texts.Goodbye (record (forgotten s) { life = Lives.Quit })
