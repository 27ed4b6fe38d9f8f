-- What octets that are given make of a session, whatever view it stands in.
use Rattle.std.specs.Prelude.{◌≡◌, ℕ, Bool, true, false}
use Rattle.ftp_server_model.specs.View.{Session, View}
use Rattle.ftp_server_model.specs.Machine.{with_session, replied, completed}
use Rattle.ftp_server_model.specs.Calls.{connection_of, takes_given}
use Rattle.ftp_server_model.specs.Failing.{Late, GiveFails}
use Rattle.ftp_server_model.specs.declared.reply.FixedReply.TheVariants as Texts

-- so many octets were given, and this is the session then; where those that come next were not had, the 451 is to be said
abbrev pub Gives : View → ℕ → Bool → Session → Type 0
Gives v count false s = takes_given (connection_of v.session) count v ≡ with_session s v
Gives v count true s = (x : View) → Late (replied Texts.LocalFault s v) x → GiveFails count v x

-- a transfer of which all is given is over, and the 226 is to be said
abbrev pub GivesOut : View → Bool → Session → Type 0
GivesOut v true s = completed v ≡ replied Texts.Complete s v
GivesOut v false s = completed v ≡ with_session s v
