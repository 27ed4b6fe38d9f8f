-- The actions of one server's drive and of drives of one client of which a download's data connection breaks: the client is told so while it takes octets, or the
-- server while it gives or after it gave all, or both, in either order (RFC 959, section 3.3).
use Rattle.std.specs.Prelude.{◌≡◌, ◌⊎◌, ⊤, ℕ, false, true, List, [], ◌∷◌, None}
use Rattle.ftp_ports.specs.Asking.{Reset}
use Rattle.ftp_ports.specs.Actions.{Action, Led, Other, Stand}
use Rattle.ftp_ports.specs.Machine.{Aside, Break, Failed, Held, Left}
use Rattle.ftp_ports.specs.declared.whole.Fate.TheVariants as Fates
use Rattle.ftp_client_driver.specs.Side.{Starting, client_side}
use Rattle.ftp_client_model.specs.Calls.{wants}
use Rattle.ftp_client_model.specs.Failing.{Client}
use Rattle.ftp_client_model.specs.Octets.{has_enough}
use Rattle.ftp_client_model.specs.Plan.{count_of}
use Rattle.ftp_client_model.specs.View.{Flow, Job, Receiving, Sending, Transferring}
use Rattle.ftp_client_model.specs.declared.client.Abort.{Abort}
use Rattle.ftp_client_model.specs.declared.client.Abort.TheVariants as Aborts
use Rattle.ftp_ends.specs.declared.link.Wants.TheVariants as Want
use Rattle.ftp_mode.specs.Reading.{Place, going}
use Rattle.laws_drivers.specs.world.Unaborted.{is_unaborted}
use Rattle.laws_drivers.specs.events.Actions.{Along}
use Rattle.laws_drivers.specs.control.Alone.{ClientIsCalm, ServerIsCalm}
use Rattle.laws_drivers.specs.control.Between.{Between, Client as ByClient, Happened, Has_lost, Server as ByServer, Turn, client_actions, server_actions}
use Rattle.laws_transfers.specs.Actions.{IsServing}
use Rattle.laws_transfers.specs.Refusals.{IsAskingOrRefused, marked_by}
use Rattle.laws_world.specs.World.{Broken, Mark, marked_last}
use Rattle.ftp_server_driver.specs.alone.Side.{Timed, server_side}
use Rattle.ftp_server_model.specs.Calls as far
use Rattle.ftp_wire.specs.Decoder.{Decoder}

-- ---- the server

-- a read or a write of its data connection fails; it is told of a break while it gives, or once that is to close, since it gave all or refused; else it does
-- what it does where none breaks, and may reset one of which octets are unwritten
abbrev pub IsYielding : Action server_side → Held Timed → Type 0
IsYielding (Other Failed) at = ⊤
IsYielding (Other Break) at = (far.wants at.end.server.view ≡ Want.Send) ⊎ (at.end.server.view.session.closing ≡ true)
IsYielding action at = IsServing action at

-- so it does, and it was not refused memory, and no device of it failed or strayed
abbrev pub ServerYields : Action server_side → (old new : Held Timed) → Type 0
ServerYields action old new = IsYielding action old × ServerIsCalm old new

abbrev pub YieldsAlong : (actions : List (Action server_side)) (start now : Stand server_side) → Led actions start now → Type 0
YieldsAlong actions start now led = Along ServerYields actions start now led

-- ---- the client

-- what it begins asks for all, so that none is a Peek; a read of its data connection fails; it is told of the break of one that failed, of which no octet is
-- unwritten, where it wants octets or is to close it; it resets one of which none is unwritten; else it does what it does where none breaks
abbrev pub IsSuffering : Action client_side → Held Client → Type 0
IsSuffering (Other (Aside (Starting op))) at = IsAskingOrRefused (Other (Aside (Starting op))) at × (count_of op ≡ None)
IsSuffering (Other Failed) at = ⊤
IsSuffering (Other Break) at =
    (at.channel.fate ≡ Fates.Failed) × (at.channel.unwritten ≡ []) × ((wants at.end.view ≡ Want.Receive) ⊎ (at.end.view.closing ≡ true))
IsSuffering (Other (Left (Reset left written))) at = at.channel.unwritten ≡ []
IsSuffering action at = IsAskingOrRefused action at

-- what it begins may be a Peek; else it does what it does where it asks for all
abbrev pub IsPeeking : Action client_side → Held Client → Type 0
IsPeeking (Other (Aside (Starting op))) at = IsAskingOrRefused (Other (Aside (Starting op))) at
IsPeeking action at = IsSuffering action at

-- so it does, and it was not refused memory
abbrev pub ClientSuffers : Action client_side → (old new : Held Client) → Type 0
ClientSuffers action old new = IsPeeking action old × ClientIsCalm old new

abbrev pub SuffersAlong : (actions : List (Action client_side)) (start now : Stand client_side) → Led actions start now → Type 0
SuffersAlong actions start now led = Along ClientSuffers actions start now led

-- ---- Peeks

-- the operation that was begun last asks for all
abbrev pub AsksAll : List (Action client_side) → Type 0
AsksAll [] = ⊤
AsksAll (Other (Aside (Starting op)) ∷ before) = count_of op ≡ None
AsksAll (action ∷ before) = AsksAll before

-- of a download that is under way less came than was asked for, so that no ABOR was sent
abbrev pub IsShort : Job → Type 0
IsShort (Transferring op transfer) = has_enough op transfer.flow ≡ false
IsShort job = ⊤

-- the client of a Peek is told of a break only where less came than was asked for, or after it sent ABOR, or where it is to close
abbrev pub IsToldShort : Action client_side → Held Client → Type 0
IsToldShort (Other Break) at = IsShort at.end.view.job ⊎ ((at.end.view.closing ≡ true) ⊎ (is_unaborted at.end.view.job ≡ false))
IsToldShort action at = ⊤

-- so it is of each action of which a Peek was begun last
abbrev pub AreShort : (actions : List (Action client_side)) (start now : Stand client_side) → Led actions start now → Type 0
AreShort [] start now led = ⊤
AreShort (action ∷ before) start now led = AreShort before start led.0 led.1 × (AsksAll before ⊎ IsToldShort action led.0.owner)

-- the server of a Peek is told of a break only after the client was, or where it is to close
abbrev pub IsToldAfter : Action server_side → Between → Held Timed → Type 0
IsToldAfter (Other Break) between at = (between.near ≡ Has_lost) ⊎ (at.end.server.view.session.closing ≡ true)
IsToldAfter action between at = ⊤

-- so it is of each turn of which a Peek was begun last
abbrev pub AreAfter : (turns : List Turn) (between : Between) → Happened turns between → (start now : Stand server_side) → Led (server_actions turns) start now
    → Type 0
AreAfter [] between happened start now led = ⊤
AreAfter (ByServer action ∷ before) between happened start now led =
    AreAfter before happened.0 happened.1 start led.0 led.1 × (AsksAll (client_actions before) ⊎ IsToldAfter action happened.0 led.0.owner)
AreAfter (ByClient action ∷ before) between happened start now led = AreAfter before happened.0 happened.1 start now led

-- ---- the marks

-- a decoder has read so many octets, and each stood in its place
abbrev pub HasRead : Decoder → ℕ → Type 0
HasRead decoder came = (at : Place) × (decoder.reading ≡ going came at)

-- so many octets came of a download, the octets of the link, not of the file
abbrev pub HasBrought : Flow → ℕ → Type 0
HasBrought (Receiving decoder mark) came = HasRead decoder came
HasBrought (Sending left mark) came = ⊥

-- so many were taken of it; after ABOR, where those that come are dropped, how many is left open
abbrev pub TakenBy : Abort → Flow → ℕ → Type 0
TakenBy Aborts.Unsent flow came = HasBrought flow came
TakenBy abort flow came = ⊤

-- of the download that is under way
abbrev pub HasTaken : Job → ℕ → Type 0
HasTaken (Transferring op transfer) came = TakenBy transfer.abort transfer.flow came
HasTaken job came = ⊥

-- a break may mark the operation that was begun last: it broke after as many octets as the client had taken of it as it was told
abbrev pub MayMarkBreak : Action client_side → Held Client → (old new : List (List Mark)) → Type 0
MayMarkBreak (Other Break) at old new = (new ≡ old) ⊎ ((came : ℕ) × HasTaken at.end.view.job came × (new ≡ marked_last (Broken came) old))
MayMarkBreak action at old new = new ≡ marked_by action old

-- those of actions, the last one first
abbrev pub AreMarks : (actions : List (Action client_side)) (start now : Stand client_side) → Led actions start now → List (List Mark) → Type 0
AreMarks [] start now led marks = marks ≡ []
AreMarks (action ∷ before) start now led marks =
    (old : List (List Mark)) × AreMarks before start led.0 led.1 old × MayMarkBreak action led.0.owner old marks
