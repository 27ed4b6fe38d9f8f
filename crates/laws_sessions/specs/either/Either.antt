-- What is claimed of sessions of turns in which files were put, fetched and peeked into, and listings, over data connections that either dials (RFC 959,
-- section 3.2).
use Rattle.std.specs.Prelude.{◌≡◌, ⊤, ℕ, List, [], ◌∷◌}
use Rattle.ftp_ports.specs.Asking.{Came}
use Rattle.ftp_ports.specs.Actions.{Action, Other}
use Rattle.ftp_ports.specs.Machine.{Held, Opened}
use Rattle.ftp_client_driver.specs.Side.{client_side}
use Rattle.ftp_client_model.specs.Failing.{Client as NearEnd}
use Rattle.ftp_operation.specs.Answer.{Said}
use Rattle.ftp_operation.specs.declared.op.Op.{Op}
use Rattle.laws_active.specs.Actions.{IsAskingOrListening, IsServingOrDialling}
use Rattle.laws_examples.specs.active.Example.{call_asked, peek_asked}
use Rattle.laws_drivers.specs.control.Example.{example}
use Rattle.laws_examples.specs.transfers.Example.{HasFile}
use Rattle.laws_transfers.specs.Actions.{IsCarried}
use Rattle.laws_world.specs.Claims.{Beginning}
use Rattle.ftp_server_driver.specs.alone.Side.{Timed, server_side}
use Rattle.ftp_tree.specs.Tree.{Table}
use Rattle.ftp_pair_memory.specs.steps.Taking.{Ends}
use Rattle.laws_sessions.specs.passive.Kinds.{AreByCounts, AreTheDirectRun, IsSession, Kind}

-- it serves, and it asks, as where either listens and the other dials, whoever comes
abbrev pub IsServingAny : Action server_side → Held Timed → Type 0
IsServingAny (Other (Opened host (Came from left written ∷ []) at_first so_far rest)) at = ⊤
IsServingAny action at = IsServingOrDialling action at

abbrev pub IsAskingAny : Action client_side → Held NearEnd → Type 0
IsAskingAny (Other (Opened host (Came from left written ∷ []) at_first so_far rest)) at = ⊤
IsAskingAny action at = IsAskingOrListening action at

-- the server has its own peer at its other end, and so has the client
abbrev pub BothMeetPeers : Ends → Type 0
BothMeetPeers start = (start.hosts.far ≡ start.server.end.server.view.context.peer) × (start.hosts.near ≡ start.client.end.view.peer)

-- operations, and actions of either end, as they are where either listens and the other dials
abbrev pub either : Kind
either = record { Carries = IsCarried; Serves = IsServingAny; Asks = IsAskingAny; Meets = BothMeetPeers }

-- neither was refused memory, and no device failed or strayed
abbrev pub AreEither : (b : Beginning) (moments : ℕ → ℕ) (asked : List (Op (List ℕ) × Said)) (start now : Ends) → Type 0
AreEither b moments asked start now = IsSession either b moments asked start now

-- then the answers, and the map that the server holds, are those of the operations run directly
abbrev pub EitherAskedAreTheDirectRun : Type 0
EitherAskedAreTheDirectRun = AreTheDirectRun either

-- so it is where the counts of both ends are in the end what they were, and fewer than 2^60 actions were done
abbrev pub EitherByCounts : Type 0
EitherByCounts = AreByCounts either

-- ---- examples

-- of every map that has a root and a file, and at any moment, there is such a session: somebody logs in and fetches the file, over a data connection that the
-- server dials after EPRT
abbrev pub CallIsAsked : Type 0
CallIsAsked =
    (table : Table) (stamp : ℕ) (moments : ℕ → ℕ) → HasFile table stamp
    → (start : Ends) × (now : Ends) × AreEither (example table) moments call_asked start now

-- or he peeks into it so: its first octet comes, he sends ABOR, and the server resets the data connection
abbrev pub CallPeekIsAsked : Type 0
CallPeekIsAsked =
    (table : Table) (stamp : ℕ) (moments : ℕ → ℕ) → HasFile table stamp
    → (start : Ends) × (now : Ends) × AreEither (example table) moments peek_asked start now
