-- A server is small at the start, stays so with each call, and so never holds much (own choice of the limits).
use Rattle.std.specs.Prelude.{ℕ, ◌≤◌}
use Rattle.ftp_endpoint.specs.Written.{IsTypedHost}
use Rattle.ftp_endpoint.specs.declared.host.Host.{Host}
use Rattle.ftp_tree.specs.Tree.{Table}
use Rattle.ftp_ends.specs.Limits.{held_limit}
use Rattle.ftp_server_model.specs.Calls.{start}
use Rattle.ftp_server_model.specs.Held.{HasShortFiles, IsTypedCue, MayStore, held}
use Rattle.ftp_server_model.specs.Machine.{Reading, IsReading}
use Rattle.ftp_server_model.specs.Play.{Cue, call}
use Rattle.ftp_server_model.specs.Told.{AreWithinLimits}
use Rattle.ftp_server_model.specs.View.{Accounts, View}
use Rattle.laws_server.specs.one.Small.{IsSmall}

-- it is at the start, of a map whose files are within the limit
abbrev pub StartIsSmall : Type 0
StartIsSmall =
    (table : Table) (accounts : Accounts) (here peer : Host) → AreWithinLimits accounts → IsTypedHost here → HasShortFiles table → IsSmall (start table accounts here peer)

-- and after each call
abbrev pub CallsStaySmall : Type 0
CallsStaySmall = (read : Reading) (cue : Cue) (v : View) → IsReading read → IsTypedCue cue → IsSmall v → IsSmall (call read cue v).1

-- so it holds no more than it may, whatever it may store of a transfer
abbrev pub SmallHoldsLittle : Type 0
SmallHoldsLittle = (stored : ℕ) (v : View) → MayStore stored v.session.connection → IsSmall v → held stored v ≤ held_limit
