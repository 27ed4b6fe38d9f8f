-- Worked rows of a world: both ends and what lies between them, octet by octet. Each is a theorem that computes. The login is
-- `guest` with password `secret`, both hosts are 127.0.0.1, and the map is any.
use Rattle.std.specs.Prelude.{◌≡◌, ℕ, nat_eq, List, [], ◌∷◌, length, codes, Some, None, if◌then◌else◌}
use Rattle.std.specs.Cmp.Lexicographic.{pointwise}
use Rattle.ftp_command.specs.declared.command.Command.{Command}
use Rattle.ftp_command.specs.declared.command.Command.TheVariants as command
use Rattle.ftp_command.specs.declared.fault.CommandFault.TheVariants as Faults
use Rattle.ftp_operation.specs.Answer.{Octets, Broken as BrokenOff}
use Rattle.ftp_operation.specs.declared.op.Op.{Op}
use Rattle.ftp_operation.specs.declared.op.Op.TheVariants as Ops
use Rattle.ftp_tree.specs.Map.{Dir}
use Rattle.ftp_tree.specs.Tree.{Table, installed, node_at}
use Rattle.ftp_direct.specs.Direct.{State, changed, named, part}
use Rattle.ftp_client_model.specs.Octets.{download_flow}
use Rattle.ftp_client_model.specs.Plan.{settings_of}
use Rattle.laws_world.specs.Outcome.{cut}
use Rattle.ftp_ends.specs.RowWords.{here}
use Rattle.ftp_client_model.specs.Rows.{logged_in, text}
use Rattle.ftp_client_model.specs.View.{View as Near, Transferring}
use Rattle.ftp_client_model.specs.declared.client.ClientLink.TheVariants as DataConnections
use Rattle.ftp_client_model.specs.declared.client.Abort.TheVariants as Aborts
use Rattle.ftp_client_model.specs.declared.client.Replied.TheVariants as Replies
use Rattle.ftp_server_model.specs.declared.session.ServerLink.TheVariants as Data
use Rattle.ftp_server_model.specs.declared.session.Transfer.TheVariants as Transfers
use Rattle.ftp_server_model.specs.Machine.{Reading}
use Rattle.ftp_server_model.specs.Rows.{accounts, member}
use Rattle.ftp_server_model.specs.View.{View as Far}
use Rattle.laws_world.specs.Claims.{Beginning, world_of}
use Rattle.laws_world.specs.Events.{Queue, ControlToServer, ControlToClient, DataToClient, due, pulled, pushed, link_opens, told, link_breaks, operation_begins}
use Rattle.laws_world.specs.Serving.{after_event}
use Rattle.laws_world.specs.World.{World, world, Opened, Broken}
use Rattle.ftp_client_model.specs.declared.client.Standing.TheVariants as Stands
use Rattle.ftp_server_model.specs.declared.heard.HeardLine.{HeardLine}
use Rattle.ftp_server_model.specs.declared.heard.HeardLine.TheVariants.{Bad, Asks}

-- ---- how a row is written

-- the lines of the rows, as a server reads them
abbrev pub command_or_else : List ℕ → List ℕ → Command (List ℕ) → HeardLine (List ℕ) → HeardLine (List ℕ)
command_or_else line text command other = if pointwise nat_eq line text then Asks command else other

-- three lines say commands, and all others none
abbrev pub row_reading : Reading
row_reading line =
    command_or_else line (codes "USER guest") (command.User (codes "guest"))
    (command_or_else line (codes "PASS secret") (command.Pass (codes "secret"))
    (command_or_else line (codes "ABOR") command.Abor
    (Bad Faults.Unknown)))

-- all that is due is moved and taken; only so many octets are; a link opens; an end is told; the link breaks; an operation begins
pub data Act : Type 0 where
  moves : (queue : Queue) → Act
  moves_some : (queue : Queue) → (count : ℕ) → Act
  links : Act
  tells : (queue : Queue) → Act
  cuts : Act
  asks : (op : Op (List ℕ)) → Act

-- the sender gives so many octets, and the receiver takes as many
abbrev pub moved : Queue → ℕ → World → World
moved queue count w = after_event (pushed row_reading queue count (pulled queue w count))

-- each act is an event, and what the world does for its ends behind it
abbrev pub does_act : Act → World → World
does_act (moves queue) w = moved queue (length (due queue w)) w
does_act (moves_some queue count) w = moved queue count w
does_act links w = after_event (link_opens w)
does_act (tells queue) w = after_event (told queue w)
does_act cuts w = after_event (link_breaks w)
does_act (asks op) w = after_event (operation_begins op 7 w)

-- acts, one after another
abbrev pub acted : List Act → World → World
acted [] w = w
acted (act ∷ acts) w = acted acts (does_act act w)

-- `guest` logs in, over a map
abbrev pub beginning : Table → Beginning
beginning table = record { user = codes "guest"; pass = codes "secret"; accounts = accounts []; table = table; near_host = here; far_host = here }

-- a world behind acts
abbrev pub session : Table → List Act → World
session table acts = acted acts (world_of (beginning table))

-- ---- rows

-- the greeting, USER, 331, PASS, 230
abbrev pub login_acts : List Act
login_acts = moves ControlToClient ∷ moves ControlToServer ∷ moves ControlToClient ∷ moves ControlToServer ∷ moves ControlToClient ∷ []

-- behind it the client may send operations
abbrev pub SessionLogsIn : Type 0
SessionLogsIn = (table : Table) → node_at table [] ≡ Some Dir → (session table login_acts).near.standing ≡ Stands.Entered

-- ---- breaks

-- the client behind the 150 of a download of `f` in ASCII, and the server, which has 61 0D 0A to give: the link is open
abbrev pub near_down : Near
near_down = record logged_in {
  job = Transferring (Ops.Get (codes "f") text) (record { replied = Replies.Begun; abort = Aborts.Unsent; flow = download_flow (settings_of text) });
  connection = DataConnections.Open;
}

-- the server's side of that download
abbrev pub far_down : Table → Far
far_down table = record (member table [] []) {
  session = record (member table [] []).session { connection = Data.Transferring (Transfers.Download (97 ∷ 13 ∷ 10 ∷ [])) };
  owed = [];
}

-- both, with the link open and one operation begun
abbrev pub down : Table → World
down table = record (world near_down (far_down table)) { link = Opened; marks = [] ∷ [] }

-- the link breaks when the client has taken 61 0D: it reports 61, as an unpaired CR is dropped
abbrev pub broken_download : Table → World
broken_download table = acted (moves_some DataToClient 2 ∷ cuts ∷ moves ControlToClient ∷ []) (down table)

-- the report says that it broke, the mark says where, and the map stays
abbrev pub DownloadBreaks : Type 0
DownloadBreaks =
    (table : Table)
    → ((broken_download table).reports ≡ BrokenOff (97 ∷ []) None ∷ [])
    × ((broken_download table).marks ≡ (Broken 2 ∷ []) ∷ [])
    × ((broken_download table).far.session.table ≡ table)

-- all octets move, the end is told, and the 226 comes
abbrev pub whole_download : Table → World
whole_download table = acted (moves DataToClient ∷ tells DataToClient ∷ moves ControlToClient ∷ []) (down table)

-- the report has the file: 61 0A
abbrev pub WholeDownload : Type 0
WholeDownload = (table : Table) → (whole_download table).reports ≡ Octets (97 ∷ 10 ∷ []) ∷ []

-- a put of 78 0A 79 in ASCII that is cut behind 78 0D leaves 78 (RFC 959, section 3.1.1.1)
abbrev pub CutUpload : Type 0
CutUpload =
    (state : State)
    → cut state (Ops.Put (codes "f") (120 ∷ 10 ∷ 121 ∷ []) text) 7 (120 ∷ 13 ∷ [])
    ≡ (BrokenOff [] None, changed state (installed (part state) (named state (codes "f")) (120 ∷ []) 7))

-- ---- a Peek

-- the same client, which asks for one octet alone
abbrev pub near_peek : Near
near_peek = record near_down {
  job = Transferring (Ops.Peek (codes "f") 1 text) (record { replied = Replies.Begun; abort = Aborts.Unsent; flow = download_flow (settings_of text) });
}

-- both ends; the client takes one octet, its ABOR goes out, 426 and 226 come, and the server's close is told
abbrev pub peeks : List Act → Table → World
peeks acts table = acted (moves_some DataToClient 1 ∷ moves ControlToServer ∷ acts) (record (down table) { near = near_peek })

-- one octet is reported, whichever comes first; a break after it changes nothing of that
abbrev pub PeekReports : Type 0
PeekReports =
    (table : Table)
    → ((peeks (moves ControlToClient ∷ tells DataToClient ∷ []) table).reports ≡ Octets (97 ∷ []) ∷ [])
    × ((peeks (tells DataToClient ∷ moves ControlToClient ∷ []) table).reports ≡ Octets (97 ∷ []) ∷ [])
    × ((peeks (cuts ∷ moves ControlToClient ∷ []) table).reports ≡ Octets (97 ∷ []) ∷ [])
    × ((peeks (cuts ∷ moves ControlToClient ∷ []) table).far.session.table ≡ table)
