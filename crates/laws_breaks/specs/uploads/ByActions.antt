-- The number of octets that a decoder has read is that of the octets of which its end was told, from any moment of a transfer on: by actions of that end alone.
use Rattle.std.specs.Prelude.{◌≡◌, ⊤, ℕ, ◌+◌, true, List, [], ◌∷◌, ◌++◌, length, take, Option, None}
use Rattle.ftp_ports.specs.Actions.{Action, Heard, Led, Other, Read, Said, Stand}
use Rattle.ftp_ports.specs.Machine.{Aside, Failed, Got, Held, Machine, Received, Waited, Wrote, side_of}
use Rattle.ftp_client_driver.specs.Side.{Reporting, client_machine, client_side}
use Rattle.ftp_client_model.specs.Failing.{Client}
use Rattle.ftp_client_model.specs.Plan.{count_of}
use Rattle.ftp_client_model.specs.declared.client.Replied.{Replied}
use Rattle.ftp_operation.specs.declared.op.Op.{Op}
use Rattle.laws_breaks.specs.downloads.Actions.{HasRead, HasTaken}
use Rattle.laws_breaks.specs.downloads.Late.{downloading}
use Rattle.laws_drivers.specs.events.Actions.{Along}
use Rattle.laws_drivers.specs.control.Alone.{ClientIsCalm, ServerIsCalm}
use Rattle.laws_world.specs.World.{counted}
use Rattle.ftp_server_driver.specs.alone.Side.{Timed, server_machine, server_side}
use Rattle.ftp_server_model.specs.Calls.{connection_of, is_upload}
use Rattle.ftp_server_model.specs.View.{Transfer}
use Rattle.ftp_server_model.specs.declared.session.ServerLink.{ServerLink}
use Rattle.ftp_server_model.specs.declared.session.ServerLink.TheVariants as Data
use Rattle.ftp_server_model.specs.declared.session.Transfer.TheVariants as Transfers
use Rattle.ftp_wire.specs.Decoder.{Decoder}

-- ---- either end

module _ {machine : Machine} where
  -- the octets of a data connection of which the end was told in an action, and in actions
  abbrev pub told_by : Action (side_of machine) → List ℕ
  told_by (Other (Received octets count)) = take count octets
  told_by action = []

  abbrev pub told_in : List (Action (side_of machine)) → List ℕ
  told_in [] = []
  told_in (action ∷ before) = told_in before ++ told_by action

  -- no data connection is had by it or left, and the end is told of no end or break of one
  abbrev pub IsAmid : Action (side_of machine) → Type 0
  IsAmid (Heard octets) = ⊤
  IsAmid (Said octets) = ⊤
  IsAmid (Read octets) = ⊤
  IsAmid (Other (Received octets count)) = ⊤
  IsAmid (Other (Waited lost)) = ⊤
  IsAmid (Other (Got octets)) = ⊤
  IsAmid (Other (Wrote octets)) = ⊤
  IsAmid (Other Failed) = ⊤
  IsAmid action = ⊥

-- ---- the server

-- an upload is under way, and no line waits
abbrev pub IsTaking : Held Timed → Type 0
IsTaking at = (is_upload (connection_of at.end.server.view.session) ≡ true) × (at.end.server.view.waiting ≡ None)

-- it may be asked whether it is over, too
abbrev pub IsAmidUpload : Action server_side → Type 0
IsAmidUpload (Other (Aside asked)) = ⊤
IsAmidUpload action = IsAmid {machine = server_machine} action

-- so it does still after an action in the midst, and it was not refused memory, and no device of it failed or strayed
abbrev pub TakesOn : Action server_side → (old new : Held Timed) → Type 0
TakesOn action old new = IsAmidUpload action × ServerIsCalm old new × IsTaking new

-- so many octets of an upload its decoder has read
abbrev pub HasReadUp : ServerLink Transfer → ℕ → Type 0
HasReadUp (Data.Transferring (Transfers.Upload path keep decoder)) came = HasRead decoder came
HasReadUp link came = ⊥

-- as many more as it was told
abbrev pub UploadsAreCounted : Type 0
UploadsAreCounted =
    (actions : List (Action server_side)) (start now : Stand server_side) (led : Led actions start now) → IsTaking start.owner → Along TakesOn actions start now led
    → (before after : ℕ) → HasReadUp (connection_of start.owner.end.server.view.session) (counted before)
    → HasReadUp (connection_of now.owner.end.server.view.session) after → after ≡ counted (before + length (told_in {machine = server_machine} actions))

-- ---- the client

-- it takes octets of a download, or a listing, of which it asked for all
abbrev pub IsLoading : Held Client → Type 0
IsLoading at =
    (op : Op (List ℕ)) × (count_of op ≡ None) × (replied : Replied) × (decoder : Decoder) × (mark : Option ℕ)
    × (at.end.view ≡ downloading op replied decoder mark at.end.view)

-- it may be asked for its report, too, which is none
abbrev pub IsAmidDownload : Action client_side → Type 0
IsAmidDownload (Other (Aside (Reporting None))) = ⊤
IsAmidDownload action = IsAmid {machine = client_machine} action

-- so it does still after an action in the midst, and it was not refused memory
abbrev pub LoadsOn : Action client_side → (old new : Held Client) → Type 0
LoadsOn action old new = IsAmidDownload action × ClientIsCalm old new × IsLoading new

-- as many more as it was told
abbrev pub DownloadsAreCounted : Type 0
DownloadsAreCounted =
    (actions : List (Action client_side)) (start now : Stand client_side) (led : Led actions start now) → IsLoading start.owner → Along LoadsOn actions start now led
    → (before after : ℕ) → HasTaken start.owner.end.view.job (counted before) → HasTaken now.owner.end.view.job after
    → after ≡ counted (before + length (told_in {machine = client_machine} actions))
