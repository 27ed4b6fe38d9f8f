-- The actions of one server's drive and of drives of one client while whole files are put and fetched, and listings, over data connections that the server
-- listens for (RFC 959, sections 3.2 and 4.1.3).
use Rattle.std.specs.Prelude.{◌≡◌, ⊤, ℕ, ◌<◌, false, true, List, [], ◌∷◌, None}
use Rattle.ftp_direct.specs.Direct.{offset_refusal}
use Rattle.ftp_ports.specs.Asking.{Came, Connected, Ended as EndedBy, Reset, Shut}
use Rattle.ftp_ports.specs.Actions.{Action, Heard, Said as Says, Read, Other, Stand, Led}
use Rattle.ftp_ports.specs.Machine.{Held, Aside, Break, Closed, End, Failed, Gave, Got, Left, LetGo, Listening, Opened, Received, Waited, Wrote}
use Rattle.ftp_ports.specs.declared.whole.Fate.TheVariants as Fates
use Rattle.ftp_client_driver.specs.Side.{Reporting, Starting, client_side}
use Rattle.ftp_client_model.specs.Calls.{wants}
use Rattle.ftp_client_model.specs.Failing.{Client}
use Rattle.ftp_client_model.specs.Plan.{how_of}
use Rattle.ftp_ends.specs.declared.link.Wants.TheVariants as Want
use Rattle.ftp_operation.specs.declared.op.Op.{Op}
use Rattle.ftp_operation.specs.declared.op.Op.TheVariants as Ops
use Rattle.ftp_server_driver.specs.alone.Side.{Timed, server_side}
use Rattle.laws_world.specs.Agreement.{Order, Single, Tries}
use Rattle.laws_drivers.specs.control.Alone.{ClientIsCalm, ServerIsCalm}
use Rattle.laws_drivers.specs.control.Between.{Between, Client as ByClient, Happened, Has_lost, Turn}
use Rattle.laws_drivers.specs.world.Unaborted.{is_unaborted}
use Rattle.laws_drivers.specs.events.Actions.{Along, IsPeer, is_dialling}

-- ---- the server

-- it hears and says; it listens at its ports, accepts its peer there, gives and writes octets, takes octets to the end that it is told, and leaves its data
-- connections, by an end or by a reset: nothing of one fails
abbrev pub IsServing : Action server_side → Held Timed → Type 0
IsServing (Heard octets) at = ⊤
IsServing (Says octets) at = ⊤
IsServing (Read octets) at = ⊤
IsServing (Other (Aside asked)) at = ⊤
IsServing (Other (Listening port)) at = ⊤
IsServing (Other (Opened host (Came from left written ∷ []) at_first so_far rest)) at = IsPeer host at
IsServing (Other (Got octets)) at = ⊤
IsServing (Other (Received octets count)) at = ⊤
IsServing (Other End) at = ⊤
IsServing (Other (Gave count octets rest)) at = ⊤
IsServing (Other (Wrote octets)) at = ⊤
IsServing (Other (Waited lost)) at = ⊤
IsServing (Other (LetGo octets)) at = ⊤
IsServing (Other (Left (EndedBy left written))) at = ⊤
IsServing (Other (Left (Reset left written))) at = ⊤
IsServing (Other (Left Shut)) at = ⊤
IsServing (Other Closed) at = ⊤
IsServing action at = ⊥

-- so it does, and it was not refused memory, and no device of it failed or strayed
abbrev pub ServerTransfers : Action server_side → (old new : Held Timed) → Type 0
ServerTransfers action old new = IsServing action old × ServerIsCalm old new

abbrev pub ServesAlong : (actions : List (Action server_side)) (start now : Stand server_side) → Led actions start now → Type 0
ServesAlong actions start now led = Along ServerTransfers actions start now led

-- ---- the client

-- any operation, but a Peek asks for one octet at least
abbrev pub IsCarried : Op (List ℕ) → Type 0
IsCarried (Ops.Peek path count how) = 0 < count
IsCarried op = ⊤

-- for which the client dials
abbrev pub IsTransferred : Op (List ℕ) → Type 0
IsTransferred op = IsCarried op × (is_dialling (how_of op) ≡ true)

-- it begins such operations, once nothing is to be closed, and is asked for their reports; it dials, gives and writes octets, and takes octets to the end that
-- it is told; it leaves each data connection by an end: nothing of one fails, but a read, and after ABOR it may be told of that once all that came was told:
-- then it leaves that by a reset
abbrev pub IsAsking : Action client_side → Held Client → Type 0
IsAsking (Heard octets) at = ⊤
IsAsking (Says octets) at = ⊤
IsAsking (Read octets) at = ⊤
IsAsking (Other (Aside (Reporting said))) at = ⊤
IsAsking (Other (Aside (Starting op))) at = IsTransferred op × (at.end.view.closing ≡ false)
IsAsking (Other (Opened host (Connected endpoint left written ∷ []) at_first so_far rest)) at = ⊤
IsAsking (Other (Gave count octets rest)) at = ⊤
IsAsking (Other (Wrote octets)) at = ⊤
IsAsking (Other (Got octets)) at = ⊤
IsAsking (Other (Received octets count)) at = ⊤
IsAsking (Other End) at = ⊤
IsAsking (Other Failed) at = ⊤
IsAsking (Other Break) at = (is_unaborted at.end.view.job ≡ false) × (wants at.end.view ≡ Want.Receive) × (at.channel.untold ≡ [])
IsAsking (Other (Waited lost)) at = ⊤
IsAsking (Other (LetGo octets)) at = ⊤
IsAsking (Other (Left (EndedBy left written))) at = ⊤
IsAsking (Other (Left (Reset left written))) at = (at.channel.fate ≡ Fates.Broken) × (at.channel.unwritten ≡ [])
IsAsking (Other (Left Shut)) at = ⊤
IsAsking (Other Closed) at = ⊤
IsAsking action at = ⊥

-- so it does, and it was not refused memory
abbrev pub ClientTransfers : Action client_side → (old new : Held Client) → Type 0
ClientTransfers action old new = IsAsking action old × ClientIsCalm old new

abbrev pub AsksAlong : (actions : List (Action client_side)) (start now : Stand client_side) → Led actions start now → Type 0
AsksAlong actions start now led = Along ClientTransfers actions start now led

-- ---- offsets

-- REST takes the offset of this, if it has one
abbrev pub IsGranted : Op (List ℕ) → Type 0
IsGranted (Ops.PutFrom path offset octets how) = offset_refusal offset how ≡ None
IsGranted (Ops.GetFrom path offset how) = offset_refusal offset how ≡ None
IsGranted op = ⊤

-- of each
abbrev pub AreGranted : List Order → Type 0
AreGranted [] = ⊤
AreGranted (Single op moment ∷ orders) = IsGranted op × AreGranted orders
AreGranted (Tries upload moment ∷ orders) = ⊤

-- ---- breaks

-- the client is told of one only where the server has reset the data connection
abbrev pub AreResets : (turns : List Turn) (between : Between) → Happened turns between → Type 0
AreResets [] between happened = ⊤
AreResets (ByClient (Other Break) ∷ before) between happened = AreResets before happened.0 happened.1 × (happened.0.far ≡ Has_lost)
AreResets (turn ∷ before) between happened = AreResets before happened.0 happened.1
