-- What is claimed of sessions of turns in which files were put and fetched, and listings, over passive data connections (RFC 959, section 3.2).
use Rattle.std.specs.Prelude.{◌≡◌, ⊤, ℕ, List, [], ◌∷◌}
use Rattle.ftp_ports.specs.Asking.{Came}
use Rattle.ftp_ports.specs.Actions.{Action, Other}
use Rattle.ftp_ports.specs.Machine.{Held, Opened}
use Rattle.ftp_operation.specs.Answer.{Said}
use Rattle.ftp_operation.specs.declared.op.Op.{Op}
use Rattle.laws_drivers.specs.control.Example.{example}
use Rattle.laws_examples.specs.transfers.Example.{HasFile, HasRoom, fetch_asked, peek_asked, put_asked}
use Rattle.laws_transfers.specs.Actions.{IsAsking, IsServing, IsTransferred}
use Rattle.laws_world.specs.Claims.{Beginning}
use Rattle.ftp_server_driver.specs.alone.Side.{Timed, server_side}
use Rattle.ftp_tree.specs.Tree.{Table}
use Rattle.ftp_pair_memory.specs.steps.Taking.{Ends}
use Rattle.laws_sessions.specs.passive.Kinds.{AreByCounts, AreTheDirectRun, IsSession, Kind}

-- it serves as transfers have it, whoever comes
abbrev pub IsServingAny : Action server_side → Held Timed → Type 0
IsServingAny (Other (Opened host (Came from left written ∷ []) at_first so_far rest)) at = ⊤
IsServingAny action at = IsServing action at

-- the server has its own peer at its other end
abbrev pub ServerMeetsPeer : Ends → Type 0
ServerMeetsPeer start = start.hosts.far ≡ start.server.end.server.view.context.peer

-- operations without a transfer, or with one for which the client dials; nothing of a data connection fails, but that the server resets one of which the client
-- asks no more
abbrev pub transfers : Kind
transfers = record { Carries = IsTransferred; Serves = IsServingAny; Asks = IsAsking; Meets = ServerMeetsPeer }

-- neither was refused memory, and no device failed or strayed
abbrev pub AreTransferred : (b : Beginning) (moments : ℕ → ℕ) (asked : List (Op (List ℕ) × Said)) (start now : Ends) → Type 0
AreTransferred b moments asked start now = IsSession transfers b moments asked start now

-- then the answers, and the map that the server holds, are those of the operations run directly
abbrev pub TransfersAskedAreTheDirectRun : Type 0
TransfersAskedAreTheDirectRun = AreTheDirectRun transfers

-- so it is where the counts of both ends are in the end what they were, and fewer than 2^60 actions were done
abbrev pub TransfersByCounts : Type 0
TransfersByCounts = AreByCounts transfers

-- ---- examples

-- of every map that has a root and a file, and at any moment, there is such a session: somebody logs in and fetches the file
abbrev pub FetchIsAsked : Type 0
FetchIsAsked =
    (table : Table) (stamp : ℕ) (moments : ℕ → ℕ) → HasFile table stamp
    → (start : Ends) × (now : Ends) × AreTransferred (example table) moments fetch_asked start now

-- or he peeks into it: its first octet comes, he sends ABOR, and the server resets the data connection
abbrev pub PeekIsAsked : Type 0
PeekIsAsked =
    (table : Table) (stamp : ℕ) (moments : ℕ → ℕ) → HasFile table stamp
    → (start : Ends) × (now : Ends) × AreTransferred (example table) moments peek_asked start now

-- and where there is room for one octet he puts another in its place
abbrev pub PutIsAsked : Type 0
PutIsAsked =
    (table : Table) (stamp : ℕ) (moments : ℕ → ℕ) → HasFile table stamp → HasRoom table
    → (start : Ends) × (now : Ends) × AreTransferred (example table) moments put_asked start now
