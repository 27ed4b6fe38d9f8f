-- What holds of the server between two octets of a dialogue.
use Rattle.std.specs.Prelude.{◌≡◌, Bool, true, false, not, ◌&&◌, [], None}
use Rattle.ftp_server_model.specs.View.{Session, Transfer, View}
use Rattle.ftp_server_model.specs.declared.session.ServerLink.{ServerLink}
use Rattle.ftp_server_model.specs.declared.session.ServerLink.TheVariants as Data
use Rattle.tool_dialogue.specs.Dialogue.{runs}

-- no data connection is open or opening, and no port is asked for
abbrev pub is_unopened : ServerLink Transfer → Bool
is_unopened Data.Free = true
is_unopened (Data.Active endpoint) = true
is_unopened Data.Passive = true
is_unopened (Data.Asked asked) = false
is_unopened Data.Ready = false
is_unopened (Data.Opening transfer way) = false
is_unopened (Data.Transferring transfer) = false

-- nothing is left to be done of the data connection
abbrev pub is_at_rest : Session → Bool
is_at_rest s = is_unopened s.connection && not s.closing

-- no line waits, nothing is owed, and while it runs nothing is left to be done
pub record IsReadyForLine (v : View) : Type 0 where
  pub waiting : v.waiting ≡ None
  pub owed : v.owed ≡ []
  pub rests : runs v ≡ true → is_at_rest v.session ≡ true
