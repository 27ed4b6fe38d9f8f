-- How much a server has still to do if it takes nothing more: how much is still to begin, and how much is still to be given, a close
-- counted as one. No call but one that takes octets makes it more, failure or not; so a world of both ends comes to rest by these
-- numbers and by those of the client, without a premise.
use Rattle.std.specs.Prelude.{◌≡◌, ℕ, ◌+◌, ◌*◌, ◌<◌, ◌≤◌, ◌⊎◌, true, List, length, Option, Some, None, if◌then◌else◌}
use Rattle.ftp_endpoint.specs.declared.host.Host.{Host}
use Rattle.ftp_server_model.specs.Calls.{given_by, to_give, control_end, break_step, clock_step, close_step, control_step, end_step, listening_step, no_port_step, opened_step, refused_step}
use Rattle.ftp_server_model.specs.Endpoint.{is_standing}
use Rattle.ftp_server_model.specs.Failing.{Late, Ended, Given}
use Rattle.ftp_server_model.specs.View.{Session, Transfer, View}
use Rattle.ftp_server_model.specs.declared.heard.HeardLine.{HeardLine}
use Rattle.ftp_server_model.specs.declared.session.ServerLink.{ServerLink}
use Rattle.ftp_server_model.specs.declared.session.ServerLink.TheVariants as Data

-- ---- what is begun, or is still to begin

-- whether a line waits
abbrev pub lines_left : Option (HeardLine (List ℕ)) → ℕ
lines_left None = 0
lines_left (Some heard) = 1

-- of a data connection: the port that is asked for, its opening, and its end
abbrev pub stages_left : ServerLink Transfer → ℕ
stages_left Data.Free = 0
stages_left (Data.Active endpoint) = 0
stages_left (Data.Asked asked) = 3
stages_left Data.Passive = 2
stages_left (Data.Opening transfer way) = 2
stages_left Data.Ready = 1
stages_left (Data.Transferring transfer) = 1

-- a line that waits may ask for a port, and is one thing more
abbrev pub to_begin : View → ℕ
to_begin v = 4 * lines_left v.waiting + stages_left v.session.connection

-- ---- what is given

-- a close that is wanted, and one that will be when what is open is over
abbrev pub session_closes_left : Session → ℕ
session_closes_left s = (if s.closing then 1 else 0) + (if is_standing s.connection then 1 else 0)

-- control octets, data octets and closes
abbrev pub still_to_give : View → ℕ
still_to_give v = length v.owed + (length (given_by v.session.connection) + session_closes_left v.session)

-- ---- the laws

-- a call gave so many octets, or did a close: less is to begin, or so much less is to be given
pub record Lowers (count : ℕ) (old new : View) : Type 0 where
  pub begins : to_begin new ≤ to_begin old
  pub gives : (to_begin new < to_begin old) ⊎ (still_to_give new + count ≤ still_to_give old)

-- each call that takes no octets
pub record CallsLower (v : View) : Type 0 where
  pub clock : (moment : ℕ) (w : View) → Late (clock_step moment v) w → Lowers 0 v w
  pub control : (count : ℕ) (w : View) → count ≤ length v.owed → Late (control_step count v) w → Lowers count v w
  pub listening : (port : ℕ) (w : View) → Late (listening_step port v) w → Lowers 0 v w
  pub no_port : (w : View) → Late (no_port_step v) w → Lowers 0 v w
  pub opened : (host : Host) (w : View) → Late (opened_step host v) w → Lowers 0 v w
  pub refused : (w : View) → Late (refused_step v) w → Lowers 0 v w
  pub ended : (w : View) → Ended (end_step v) v w → Lowers 0 v w
  pub broke : (w : View) → Ended (break_step v) v w → Lowers 0 v w
  pub given : (count : ℕ) (w : View) → count ≤ length (to_give v) → Given count v w → Lowers count v w
  pub closed : (w : View) → v.session.closing ≡ true → Late (close_step v) w → Lowers 1 v w
  pub control_ended : Lowers 0 v (control_end v)

-- however the server stands
abbrev pub ServerLowers : Type 0
ServerLowers = (v : View) → CallsLower v
