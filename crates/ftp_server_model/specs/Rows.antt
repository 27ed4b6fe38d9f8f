-- Worked rows: what a server says, does to its map and sends, line by line and event by event. Each is a theorem that computes, of
-- every map and every root of an account: of the map a row sees `under table root`. The accounts are `guest` with password `secret`,
-- and `anonymous` without one; both hosts are 127.0.0.1.
use Rattle.std.specs.Prelude.{◌≡◌, ℕ, true, false, length, List, [], ◌∷◌, ◌++◌, Some, None, codes}
use Rattle.ftp_command.specs.declared.command.Command.{Command}
use Rattle.ftp_command.specs.declared.command.Command.TheVariants as command
use Rattle.ftp_settings.specs.declared.representation.Kind.TheVariants as Kinds
use Rattle.ftp_settings.specs.declared.representation.Structure.TheVariants as Structures
use Rattle.ftp_settings.specs.declared.representation.Mode.TheVariants as Modes
use Rattle.ftp_command.specs.declared.command.Passive.TheVariants as Families
use Rattle.ftp_endpoint.specs.declared.endpoint.Endpoint.{Endpoint}
use Rattle.ftp_command.specs.declared.fault.CommandFault.TheVariants as Faults
use Rattle.ftp_endpoint.specs.declared.host.Host.{Host}
use Rattle.ftp_operation.specs.Rights.{all_rights}
use Rattle.ftp_secret.specs.Secret.{plain}
use Rattle.ftp_path.specs.Path.{Names}
use Rattle.ftp_tree.specs.Map.{Dir, File}
use Rattle.ftp_tree.specs.Tree.{Table, IsTree, node_at, children, installed, made, moved, removed, make_refusal, moves_fit, room_at, under, with_part}
use Rattle.ftp_ends.specs.RowWords.{here, elsewhere, lines}
use Rattle.ftp_server_model.specs.View.{Accounts, View}
use Rattle.ftp_server_model.specs.Failing.{GiveFails}
use Rattle.ftp_server_model.specs.Machine.{faulted, heard_line, may_hear}
use Rattle.ftp_server_model.specs.Calls.{connection_of, start, control_end, gives_control, listening, listen_refused, data_opened, data_refused, receives, gives_data, data_end, data_fault, data_closed, may_receive, takes_given, to_give, wants}
use Rattle.ftp_ends.specs.declared.link.Wants.TheVariants as Want
use Rattle.ftp_server_model.specs.declared.session.Access.TheVariants.{Known}
use Rattle.ftp_server_model.specs.declared.heard.HeardLine.{HeardLine}
use Rattle.ftp_server_model.specs.declared.heard.HeardLine.TheVariants.{TooLong, Bad, Asks}

-- ---- how a row is written

-- what happens to a server: a line that is read as a command, one that is none, a call
pub data RowEvent : Type 0 where
  asks : (command : Command (List ℕ)) → RowEvent
  line : (heard : HeardLine (List ℕ)) → RowEvent
  port : (number : ℕ) → RowEvent
  no_port : RowEvent
  opened : (host : Host) → RowEvent
  refused : RowEvent
  octets : (came : List ℕ) → RowEvent
  given : (count : ℕ) → RowEvent
  ended broken closed : RowEvent

-- each event is one call of the server
abbrev pub happening : RowEvent → View → View
happening (asks command) v = heard_line (Asks command) v
happening (line heard) v = heard_line heard v
happening (port number) v = listening number v
happening no_port v = listen_refused v
happening (opened host) v = data_opened host v
happening refused v = data_refused v
happening (octets came) v = receives v came
happening (given count) v = gives_data count v
happening ended v = data_end v
happening broken v = data_fault v
happening closed v = data_closed v

-- events, one after another
abbrev pub after_events : List RowEvent → View → View
after_events [] v = v
after_events (event ∷ events) v = after_events events (happening event v)

-- port 1930 of a host: 7 times 256 and 138
abbrev pub at : Host → Endpoint
at host = record { host = host; port = 1930 }

-- `guest` with a password and `anonymous` without one, both with this root
abbrev pub accounts : Names → Accounts
accounts root =
    record { user = codes "guest"; pass = Some (plain (codes "secret")); root = root; rights = all_rights }
    ∷ record { user = codes "anonymous"; pass = None; root = root; rights = all_rights } ∷ []

-- a server of a map, whatever it holds, after events
abbrev pub server : Table → Names → List RowEvent → View
server table root events = after_events events (start table (accounts root) here here)

-- what it has said to somebody who is logged in
abbrev pub said_to_member : List (List ℕ) → List ℕ
said_to_member texts = lines (codes "220 Ready" ∷ codes "230 Logged in" ∷ texts)

-- it as that somebody finds it
abbrev pub logged_in_at : Table → Names → View
logged_in_at table root =
    let v = start table (accounts root) here here in
    record v { session = record v.session { access = Known; root = root; rights = all_rights }; owed = said_to_member [] }

-- the same after events
abbrev pub member : Table → Names → List RowEvent → View
member table root events = after_events events (logged_in_at table root)

-- it with this current directory
abbrev pub at_directory : Names → View → View
at_directory path v = record v { session = record v.session { cwd = path } }

-- the path of a name in the root
abbrev pub of : List ℕ → Names
of name = name ∷ []

-- ---- login (RFC 959, section 5.4)

-- USER is asked for a password, and PASS with it logs in
abbrev pub LoginAnswered : Type 0
LoginAnswered =
    (table : Table) (root : Names) → node_at table root ≡ Some Dir
    → (server table root (asks (command.User (codes "guest")) ∷ asks (command.Pass (codes "secret")) ∷ [])).owed
    ≡ lines (codes "220 Ready" ∷ codes "331 Password needed" ∷ codes "230 Logged in" ∷ [])

-- USER of an account without a password logs in at once; the rows below go on from there
abbrev pub OpenLogin : Type 0
OpenLogin =
    (table : Table) (root : Names) → node_at table root ≡ Some Dir
    → server table root (asks (command.User (codes "anonymous")) ∷ []) ≡ logged_in_at table root

-- 530: the root of the account is no directory
abbrev pub RootMissing : Type 0
RootMissing =
    (table : Table) (root : Names) → node_at table root ≡ None
    → (server table root (asks (command.User (codes "anonymous")) ∷ asks (command.User (codes "guest")) ∷ asks (command.Pass (codes "secret"))
    ∷ asks command.Pwd ∷ [])).owed
    ≡ lines (codes "220 Ready" ∷ codes "530 Login refused" ∷ codes "331 Password needed" ∷ codes "530 Login refused" ∷ codes "530 Not logged in" ∷ [])

-- a wrong password ends the waiting of a USER
abbrev pub WrongPassword : Type 0
WrongPassword =
    (table : Table) (root : Names)
    → (server table root (asks (command.User (codes "guest")) ∷ asks (command.Pass (codes "wrong")) ∷ asks (command.Pass (codes "secret")) ∷ [])).owed
    ≡ lines (codes "220 Ready" ∷ codes "331 Password needed" ∷ codes "530 Login refused" ∷ codes "503 Bad sequence" ∷ [])

-- ---- the order of decisions on a line

-- a long line, one that is no command, one of who is not logged in
abbrev pub OrderOfDecisions : Type 0
OrderOfDecisions =
    (table : Table) (root : Names) → (server table root (line TooLong ∷ line (Bad Faults.BadArgument) ∷ asks command.Pwd ∷ asks command.Noop ∷ [])).owed
    ≡ lines (codes "220 Ready" ∷ codes "500 Line too long" ∷ codes "501 Bad argument" ∷ codes "530 Not logged in" ∷ codes "200 Ok" ∷ [])

-- before a login ABOR, REIN, HELP, SYST and OPTS are done, and a command that wants one is not
abbrev pub BeforeLogin : Type 0
BeforeLogin =
    (table : Table) (root : Names)
    → (server table root (asks command.Abor ∷ asks command.Rein ∷ asks (command.Help None) ∷ asks command.Syst
    ∷ asks (command.Opts (codes "UTF8 ON")) ∷ asks (command.Retr (codes "f")) ∷ [])).owed
    ≡ lines (codes "220 Ready" ∷ codes "226 Abort done" ∷ codes "220 Ready" ∷ codes "214 See RFC 959, RFC 2428 and RFC 3659"
    ∷ codes "215 UNIX Type: L8" ∷ codes "200 UTF8 set" ∷ codes "530 Not logged in" ∷ [])

-- FEAT before a login (RFC 2389, section 3.2)
abbrev pub FeaturesTold : Type 0
FeaturesTold =
    (table : Table) (root : Names) → (server table root (asks command.Feat ∷ [])).owed
    ≡ lines (codes "220 Ready" ∷ codes "211-Features" ∷ codes " EPRT" ∷ codes " EPSV" ∷ codes " MDTM" ∷ codes " MLST Type*;Size*;Modify*;Perm*;"
    ∷ codes " REST STREAM" ∷ codes " SIZE" ∷ codes " UTF8" ∷ codes "211 End" ∷ [])

-- OPTS UTF8 ON, its words without case; with another word after UTF8, or none, it is refused
abbrev pub Utf8Chosen : Type 0
Utf8Chosen =
    (table : Table) (root : Names)
    → (server table root (asks (command.Opts (codes "UTF8 ON")) ∷ asks (command.Opts (codes "utf8 on")) ∷ asks (command.Opts (codes "UTF8 OFF"))
    ∷ asks (command.Opts (codes "UTF8")) ∷ [])).owed
    ≡ lines (codes "220 Ready" ∷ codes "200 UTF8 set" ∷ codes "200 UTF8 set" ∷ codes "501 Bad argument" ∷ codes "501 Bad argument" ∷ [])

-- OPTS MLST: facts in the server's order, those that are not known passed over; the second puts none in force (RFC 3659, section
-- 7.9)
abbrev pub FactsChosen : Type 0
FactsChosen =
    (table : Table) (root : Names)
    → (server table root (asks (command.Opts (codes "MLST perm;Type;Unique;")) ∷ asks (command.Opts (codes "MLST")) ∷ asks (command.Opts (codes "MLST Type")) ∷ [])).owed
    ≡ lines (codes "220 Ready" ∷ codes "200 MLST OPTS Type;Perm;" ∷ codes "200 MLST OPTS" ∷ codes "501 Bad argument" ∷ [])

-- FEAT behind OPTS MLST: `*` behind the facts in force alone (RFC 3659, section 7.8)
abbrev pub FeaturesBehindOptions : Type 0
FeaturesBehindOptions =
    (table : Table) (root : Names) → (server table root (asks (command.Opts (codes "MLST size;")) ∷ asks command.Feat ∷ [])).owed
    ≡ lines (codes "220 Ready" ∷ codes "200 MLST OPTS Size;" ∷ codes "211-Features" ∷ codes " EPRT" ∷ codes " EPSV" ∷ codes " MDTM"
    ∷ codes " MLST Type;Size*;Modify;Perm;" ∷ codes " REST STREAM" ∷ codes " SIZE" ∷ codes " UTF8" ∷ codes "211 End" ∷ [])

-- after EPSV ALL no other command opens a data connection, whatever endpoint it names
abbrev pub OnlyExtended : Type 0
OnlyExtended =
    (table : Table) (root : Names)
    → (member table root (asks (command.Epsv Families.Only) ∷ asks (command.Port (at elsewhere)) ∷ asks command.Pasv ∷ line (Bad Faults.Protocol) ∷ [])).owed
    ≡ said_to_member (codes "200 Only EPSV from now on" ∷ codes "503 Bad sequence" ∷ codes "503 Bad sequence"
    ∷ codes "522 Network protocol not supported, use (1,2)" ∷ [])

-- REIN: nobody is logged in any more (RFC 959, section 4.1.1)
abbrev pub Reinitialized : Type 0
Reinitialized =
    (table : Table) (root : Names) → (member table root (asks command.Rein ∷ asks command.Pwd ∷ [])).owed ≡ said_to_member (codes "220 Ready" ∷ codes "530 Not logged in" ∷ [])

-- QUIT: nothing is heard after it, and the connection is closed once the reply is out
abbrev pub QuitHeard : Type 0
QuitHeard =
    (table : Table) (root : Names)
    → let v = member table root (asks command.Quit ∷ []) in
    (v.owed ≡ said_to_member (codes "221 Goodbye" ∷ [])) × (may_hear v ≡ false) × (wants v ≡ Want.Nothing) × (wants (gives_control (length v.owed) v) ≡ Want.CloseAll)

-- ---- endpoints

-- one on another host is refused, and the one that stood is forgotten
abbrev pub ForeignEndpoint : Type 0
ForeignEndpoint =
    (table : Table) (root : Names) → node_at (under table root) [] ≡ Some Dir
    → (member table root (asks (command.Port (at here)) ∷ asks (command.Port (at elsewhere)) ∷ asks (command.List None) ∷ [])).owed
    ≡ said_to_member (codes "200 Endpoint taken" ∷ codes "504 Parameter not implemented" ∷ codes "425 No data connection" ∷ [])

-- EPSV by the number of a family: only that of the control connection (RFC 2428, section 3)
abbrev pub ByFamily : Type 0
ByFamily =
    (table : Table) (root : Names)
    → ((member table root (asks (command.Epsv Families.Ipv6) ∷ [])).owed ≡ said_to_member (codes "522 Network protocol not supported, use (1)" ∷ []))
    × (wants (member table root (asks (command.Epsv Families.Ipv6) ∷ [])) ≡ Want.Nothing)
    × (wants (member table root (asks (command.Epsv Families.Ipv4) ∷ [])) ≡ Want.Listen)

-- 425: no port to listen at
abbrev pub RefusedListen : Type 0
RefusedListen =
    (table : Table) (root : Names) → (member table root (asks command.Pasv ∷ no_port ∷ [])).owed ≡ said_to_member (codes "425 No data connection" ∷ [])

-- 425: a listing whose opening is refused after the 150, and one without an endpoint
abbrev pub RefusedOpening : Type 0
RefusedOpening =
    (table : Table) (root : Names) → node_at (under table root) [] ≡ Some Dir
    → (member table root (asks command.Pasv ∷ port 1930 ∷ asks (command.List None) ∷ refused ∷ asks (command.List None) ∷ [])).owed
    ≡ said_to_member (codes "227 Entering Passive Mode (127,0,0,1,7,138)" ∷ codes "150 Opening data connection" ∷ codes "425 No data connection"
    ∷ codes "425 No data connection" ∷ [])

-- 425: another host opens the port after the 150; its data connection is to be closed
abbrev pub ForeignOpener : Type 0
ForeignOpener =
    (table : Table) (root : Names) → node_at (under table root) [] ≡ Some Dir
    → let v = member table root (asks (command.Epsv Families.Any) ∷ port 1930 ∷ asks (command.List None) ∷ opened elsewhere ∷ []) in
    (v.owed ≡ said_to_member (codes "229 Entering Extended Passive Mode (|||1930|)" ∷ codes "150 Opening data connection" ∷ codes "425 No data connection" ∷ []))
    × (wants v ≡ Want.CloseData)

-- ---- the map

-- `..` stays at the root of the account, which is `/` to it
abbrev pub RootIsTop : Type 0
RootIsTop =
    (table : Table) (root : Names) → node_at (under table root) [] ≡ Some Dir
    → (member table root (asks (command.Cwd (codes "/../..")) ∷ asks command.Cdup ∷ asks command.Pwd ∷ [])).owed
    ≡ said_to_member (codes "250 Done" ∷ codes "250 Done" ∷ codes "257 \"/\" is the current directory" ∷ [])

-- MKD changes the part of the map at and below the account's root
abbrev pub MadeBelowRoot : Type 0
MadeBelowRoot =
    (table : Table) (root : Names) → make_refusal (under table root) (of (codes "d")) ≡ None
    → let v = member table root (asks (command.Mkd (codes "d")) ∷ []) in
    (v.owed ≡ said_to_member (codes "257 \"/d\" created" ∷ []))
    × (v.session.table ≡ with_part table root (made (under table root) (of (codes "d"))))

-- RNFR and RNTO
abbrev pub RenameDone : Type 0
RenameDone =
    (table : Table) (root : Names) → node_at (under table root) [] ≡ Some Dir → node_at (under table root) (of (codes "d")) ≡ Some Dir → node_at (under table root) (of (codes "e")) ≡ None
    → moves_fit (under table root) (of (codes "d")) (of (codes "e")) ≡ true
    → let v = member table root (asks (command.Rnfr (codes "d")) ∷ asks (command.Rnto (codes "e")) ∷ []) in
    (v.owed ≡ said_to_member (codes "350 Ready for the new name" ∷ codes "250 Done" ∷ []))
    × (v.session.table ≡ with_part table root (moved (under table root) (of (codes "d")) (of (codes "e"))))

-- 553: RNTO onto a file, of an account that may not rename onto files
abbrev pub OntoRefused : Type 0
OntoRefused =
    (table : Table) (root : Names) (octets other : List ℕ) (moment later : ℕ) → node_at (under table root) (of (codes "d")) ≡ Some (File octets moment)
    → node_at (under table root) (of (codes "e")) ≡ Some (File other later)
    → let v = member table root (asks (command.Rnfr (codes "d")) ∷ asks (command.Rnto (codes "e")) ∷ []) in
    (v.owed ≡ said_to_member (codes "350 Ready for the new name" ∷ codes "553 Name refused" ∷ [])) × (v.session.table ≡ table)

-- the same, of one that may: the file takes the place of the other
abbrev pub OntoDone : Type 0
OntoDone =
    (table : Table) (root : Names) (octets other : List ℕ) (moment later : ℕ) → IsTree (under table root)
    → node_at (under table root) (of (codes "d")) ≡ Some (File octets moment) → node_at (under table root) (of (codes "e")) ≡ Some (File other later)
    → let may = record all_rights { onto = true } in
    let there = logged_in_at table root in
    let asked = asks (command.Rnfr (codes "d")) ∷ asks (command.Rnto (codes "e")) ∷ [] in
    let v = after_events asked (record there { session = record there.session { rights = may } }) in
    (v.owed ≡ said_to_member (codes "350 Ready for the new name" ∷ codes "250 Done" ∷ []))
    × (v.session.table ≡ with_part table root (moved (removed (under table root) (of (codes "e"))) (of (codes "d")) (of (codes "e"))))

-- RNTO counts right after an RNFR
abbrev pub LateRename : Type 0
LateRename =
    (table : Table) (root : Names) → node_at (under table root) (of (codes "d")) ≡ Some Dir
    → (member table root (asks (command.Rnfr (codes "d")) ∷ line (Bad Faults.Unknown) ∷ asks (command.Rnto (codes "e")) ∷ [])).owed
    ≡ said_to_member (codes "350 Ready for the new name" ∷ codes "500 Unknown command" ∷ codes "503 Bad sequence" ∷ [])

-- MLST: the entry of a directory in three lines, with its canonical text (RFC 3659, section 7.3)
abbrev pub EntryTold : Type 0
EntryTold =
    (table : Table) (root : Names) → node_at (under table root) (of (codes "d")) ≡ Some Dir
    → (member table root (asks (command.Mlst (Some (codes "d"))) ∷ [])).owed
    ≡ said_to_member (codes "250-Listing" ∷ codes " Type=dir;Perm=cdeflmp; /d" ∷ codes "250 End" ∷ [])

-- ---- downloads

-- TYPE I, PORT and RETR: the link is opened by the server, the octets are given, and with the last the link is to be closed
abbrev pub DownloadSent : Type 0
DownloadSent =
    (table : Table) (root : Names) (moment : ℕ) → node_at (under table root) (of (codes "f")) ≡ Some (File (codes "abc") moment)
    → let asked = asks (command.Repr Kinds.Image) ∷ asks (command.Port (at here)) ∷ asks (command.Retr (codes "f")) ∷ [] in
    (wants (member table root asked) ≡ Want.Connect (at here))
    × (to_give (member table root (asked ++ opened here ∷ [])) ≡ codes "abc")
    × (wants (member table root (asked ++ opened here ∷ given 2 ∷ [])) ≡ Want.Send)
    × (wants (member table root (asked ++ opened here ∷ given 2 ∷ given 1 ∷ [])) ≡ Want.CloseData)
    × ((member table root (asked ++ opened here ∷ given 2 ∷ given 1 ∷ [])).owed
    ≡ said_to_member (codes "200 Type set" ∷ codes "200 Endpoint taken" ∷ codes "150 Opening data connection" ∷ codes "226 Transfer complete" ∷ []))

-- 451: behind two of three octets the next one is not had. One view comes of that: the file stands, the data connection is to be closed, and
-- nothing more is to be given. Where all three were given nothing can fail
abbrev pub DownloadCut : Type 0
DownloadCut =
    (table : Table) (root : Names) (moment : ℕ) → node_at (under table root) (of (codes "f")) ≡ Some (File (codes "abc") moment)
    → let v = member table root (asks (command.Repr Kinds.Image) ∷ asks (command.Port (at here)) ∷ asks (command.Retr (codes "f")) ∷ opened here ∷ []) in
    let cut = faulted (takes_given (connection_of v.session) 2 v) in
    GiveFails 2 v cut × ((w : View) → GiveFails 2 v w → w ≡ cut) × ((w : View) → GiveFails 3 v w → ⊥)
    × (cut.owed ≡ said_to_member (codes "200 Type set" ∷ codes "200 Endpoint taken" ∷ codes "150 Opening data connection" ∷ codes "451 Local fault" ∷ []))
    × (wants cut ≡ Want.CloseData) × (to_give cut ≡ []) × (cut.session.table ≡ table)

-- REST right before RETR
abbrev pub RestartSent : Type 0
RestartSent =
    (table : Table) (root : Names) (moment : ℕ) → node_at (under table root) (of (codes "f")) ≡ Some (File (codes "0123456789") moment)
    → let asked = asks (command.Repr Kinds.Image) ∷ asks (command.Port (at here)) ∷ asks (command.Rest 5) ∷ asks (command.Retr (codes "f")) ∷ [] in
    to_give (member table root (asked ++ opened here ∷ [])) ≡ codes "56789"

-- it stands for the next line only
abbrev pub LateRestart : Type 0
LateRestart =
    (table : Table) (root : Names) (moment : ℕ) → node_at (under table root) (of (codes "f")) ≡ Some (File (codes "0123456789") moment)
    → let asked = asks (command.Repr Kinds.Image) ∷ asks (command.Port (at here)) ∷ asks (command.Rest 5) ∷ asks command.Noop ∷ asks (command.Retr (codes "f")) ∷ [] in
    to_give (member table root (asked ++ opened here ∷ [])) ≡ codes "0123456789"

-- a file of five octets, which are seven in ASCII: a, LF, b, CR, c
abbrev pub five : List ℕ
five = 97 ∷ 10 ∷ 98 ∷ 13 ∷ 99 ∷ []

-- in ASCII the number of REST counts octets of the transfer: three of them are the first two of the file
abbrev pub RestartInAscii : Type 0
RestartInAscii =
    (table : Table) (root : Names) (moment : ℕ) → node_at (under table root) (of (codes "f")) ≡ Some (File five moment)
    → to_give (member table root (asks (command.Port (at here)) ∷ asks (command.Rest 3) ∷ asks (command.Retr (codes "f")) ∷ opened here ∷ []))
    ≡ 98 ∷ 13 ∷ 0 ∷ 99 ∷ []

-- two of them end inside a pair: 550 of RETR, 553 of STOR
abbrev pub RestartInPair : Type 0
RestartInPair =
    (table : Table) (root : Names) (moment : ℕ) → node_at (under table root) (of (codes "f")) ≡ Some (File five moment)
    → (member table root (asks (command.Rest 2) ∷ asks (command.Retr (codes "f")) ∷ asks (command.Rest 2) ∷ asks (command.Stor (codes "f")) ∷ [])).owed
    ≡ said_to_member (codes "350 Restarting at 2" ∷ codes "550 Refused" ∷ codes "350 Restarting at 2" ∷ codes "553 Name refused" ∷ [])

-- in records 504, but for 0
abbrev pub RestartInRecords : Type 0
RestartInRecords =
    (table : Table) (root : Names)
    → (member table root (asks (command.Stru Structures.Record) ∷ asks (command.Rest 3) ∷ asks (command.Rest 0) ∷ [])).owed
    ≡ said_to_member (codes "200 Structure set" ∷ codes "504 Parameter not implemented" ∷ codes "350 Restarting at 0" ∷ [])

-- in records each line of the file is one: 255 1 ends it, and 255 3 the last one and the file (RFC 959, section 3.4.1)
abbrev pub RecordsSent : Type 0
RecordsSent =
    (table : Table) (root : Names) (moment : ℕ) → node_at (under table root) (of (codes "f")) ≡ Some (File (97 ∷ 10 ∷ 98 ∷ 10 ∷ []) moment)
    → to_give (member table root (asks (command.Stru Structures.Record) ∷ asks (command.Port (at here)) ∷ asks (command.Retr (codes "f")) ∷ opened here ∷ []))
    ≡ 97 ∷ 255 ∷ 1 ∷ 98 ∷ 255 ∷ 3 ∷ []

-- LIST of a directory with one file
abbrev pub ListingSent : Type 0
ListingSent =
    (table : Table) (root : Names) → node_at (under table root) (of (codes "d")) ≡ Some Dir → children (under table root) (of (codes "d")) ≡ codes "x" ∷ []
    → node_at (under table root) (codes "d" ∷ codes "x" ∷ []) ≡ Some (File (codes "abc") 946684800)
    → to_give (member table root (asks (command.Port (at here)) ∷ asks (command.List (Some (codes "d"))) ∷ opened here ∷ []))
    ≡ codes "-rw-r--r-- 1 ftp ftp          3 Jan  1  2000 x\r\n"

-- NLST of it: a pathname that can be used as an argument
abbrev pub NamesSent : Type 0
NamesSent =
    (table : Table) (root : Names) → node_at (under table root) (of (codes "d")) ≡ Some Dir → children (under table root) (of (codes "d")) ≡ codes "x" ∷ []
    → node_at (under table root) (codes "d" ∷ codes "x" ∷ []) ≡ Some (File (codes "abc") 946684800)
    → to_give (member table root (asks (command.Port (at here)) ∷ asks (command.Nlst (Some (codes "d"))) ∷ opened here ∷ [])) ≡ codes "d/x\r\n"

-- MLSD of a directory with one directory
abbrev pub EntriesSent : Type 0
EntriesSent =
    (table : Table) (root : Names) → node_at (under table root) (of (codes "d")) ≡ Some Dir → children (under table root) (of (codes "d")) ≡ codes "x" ∷ []
    → node_at (under table root) (codes "d" ∷ codes "x" ∷ []) ≡ Some Dir
    → to_give (member table root (asks (command.Port (at here)) ∷ asks (command.Mlsd (Some (codes "d"))) ∷ opened here ∷ []))
    ≡ codes "Type=dir;Perm=cdeflmp; x\r\n"

-- 550: LIST and NLST without an argument, where a file took the place of the current directory
abbrev pub DirectoryReplaced : Type 0
DirectoryReplaced =
    (table : Table) (root : Names) (octets : List ℕ) (moment : ℕ) → node_at (under table root) (of (codes "d")) ≡ Some (File octets moment)
    → let v = at_directory (of (codes "d")) (member table root []) in
    ((after_events (asks (command.List None) ∷ []) v).owed ≡ said_to_member (codes "550 Refused" ∷ []))
    × ((after_events (asks (command.Nlst None) ∷ []) v).owed ≡ said_to_member (codes "550 Refused" ∷ []))

-- ---- uploads

-- PASV and STOR: the client opens the link, and at its end the file is installed
abbrev pub UploadInstalled : Type 0
UploadInstalled =
    (table : Table) (root : Names) → node_at (under table root) (of (codes "f")) ≡ Some (File [] 0) → room_at (under table root) (of (codes "f")) ≡ 1000
    → let v = member table root (asks (command.Repr Kinds.Image) ∷ asks command.Pasv ∷ port 1930 ∷ opened here ∷ asks (command.Stor (codes "f"))
    ∷ octets (codes "ab") ∷ octets (codes "c") ∷ ended ∷ []) in
    (v.owed ≡ said_to_member (codes "200 Type set" ∷ codes "227 Entering Passive Mode (127,0,0,1,7,138)" ∷ codes "150 Opening data connection"
    ∷ codes "226 Transfer complete" ∷ []))
    × (v.session.table ≡ with_part table root (installed (under table root) (of (codes "f")) (codes "abc") 0))
    × (wants v ≡ Want.Nothing)

-- REST right before STOR: the octets come behind those before that place
abbrev pub UploadFromPlace : Type 0
UploadFromPlace =
    (table : Table) (root : Names) → node_at (under table root) (of (codes "f")) ≡ Some (File (codes "abc") 0) → room_at (under table root) (of (codes "f")) ≡ 1000
    → let v = member table root (asks (command.Repr Kinds.Image) ∷ asks (command.Port (at here)) ∷ asks (command.Rest 1) ∷ asks (command.Stor (codes "f"))
    ∷ opened here ∷ octets (codes "z") ∷ ended ∷ []) in
    (v.owed ≡ said_to_member (codes "200 Type set" ∷ codes "200 Endpoint taken" ∷ codes "350 Restarting at 1" ∷ codes "150 Opening data connection"
    ∷ codes "226 Transfer complete" ∷ []))
    × (v.session.table ≡ with_part table root (installed (under table root) (of (codes "f")) (codes "az") 0))

-- in ASCII a CR that the break leaves unpaired is dropped, and what was settled is kept
abbrev pub BrokenUploadKept : Type 0
BrokenUploadKept =
    (table : Table) (root : Names) → node_at (under table root) (of (codes "f")) ≡ Some (File [] 0) → room_at (under table root) (of (codes "f")) ≡ 1000
    → let v = member table root (asks (command.Port (at here)) ∷ asks (command.Stor (codes "f")) ∷ opened here ∷ octets (120 ∷ 13 ∷ []) ∷ broken ∷ []) in
    (v.owed ≡ said_to_member (codes "200 Endpoint taken" ∷ codes "150 Opening data connection" ∷ codes "426 Transfer broken" ∷ []))
    × (v.session.table ≡ with_part table root (installed (under table root) (of (codes "f")) (codes "x") 0))

-- the end of the control connection drops an upload under way: nothing is owed, the map is as it was, and the data connection is to be
-- closed
abbrev pub UploadDropped : Type 0
UploadDropped =
    (table : Table) (root : Names) → node_at (under table root) (of (codes "f")) ≡ Some (File [] 0) → room_at (under table root) (of (codes "f")) ≡ 1000
    → let v = control_end (member table root (asks (command.Port (at here)) ∷ asks (command.Stor (codes "f")) ∷ opened here ∷ octets (codes "ab") ∷ [])) in
    (v.owed ≡ []) × (v.session.table ≡ table) × (wants v ≡ Want.CloseData) × (may_hear v ≡ false)

-- 552: past the room for the file the rest is dropped, and the map is as it was
abbrev pub TooMuchRefused : Type 0
TooMuchRefused =
    (table : Table) (root : Names) → node_at (under table root) (of (codes "f")) ≡ Some (File [] 0) → room_at (under table root) (of (codes "f")) ≡ 2
    → let v = member table root (asks (command.Port (at here)) ∷ asks (command.Stor (codes "f")) ∷ opened here ∷ octets (codes "abc") ∷ ended ∷ []) in
    (v.owed ≡ said_to_member (codes "200 Endpoint taken" ∷ codes "150 Opening data connection" ∷ codes "552 Too much" ∷ []))
    × (v.session.table ≡ table)

-- ABOR past the room: 552, and then its own reply
abbrev pub AbortPastRoom : Type 0
AbortPastRoom =
    (table : Table) (root : Names) → node_at (under table root) (of (codes "f")) ≡ Some (File [] 0) → room_at (under table root) (of (codes "f")) ≡ 2
    → let v = member table root (asks (command.Port (at here)) ∷ asks (command.Stor (codes "f")) ∷ opened here ∷ octets (codes "abc") ∷ asks command.Abor ∷ []) in
    (v.owed ≡ said_to_member (codes "200 Endpoint taken" ∷ codes "150 Opening data connection" ∷ codes "552 Too much" ∷ codes "226 Abort done" ∷ []))
    × (v.session.table ≡ table)

-- in block mode an end of the connection before the end of file counts as a break: what was settled is kept
abbrev pub EarlyEnd : Type 0
EarlyEnd =
    (table : Table) (root : Names) → node_at (under table root) (of (codes "f")) ≡ Some (File (codes "abc") 0) → room_at (under table root) (of (codes "f")) ≡ 1000
    → let v = member table root (asks (command.Repr Kinds.Image) ∷ asks (command.Mode Modes.Block) ∷ asks (command.Port (at here)) ∷ asks (command.Appe (codes "f"))
    ∷ opened here ∷ octets (0 ∷ 0 ∷ 1 ∷ 100 ∷ []) ∷ ended ∷ []) in
    (v.owed ≡ said_to_member (codes "200 Type set" ∷ codes "200 Mode set" ∷ codes "200 Endpoint taken" ∷ codes "150 Opening data connection"
    ∷ codes "426 Transfer broken" ∷ []))
    × (v.session.table ≡ with_part table root (installed (under table root) (of (codes "f")) (codes "abcd") 0))

-- 451: a fault of the wire ends an upload before its end; the server closes the data connection early, which is a break to its client,
-- and takes no octet after the fault
abbrev pub FaultyUpload : Type 0
FaultyUpload =
    (table : Table) (root : Names) → node_at (under table root) (of (codes "f")) ≡ Some (File [] 0)
    → let v = member table root (asks (command.Mode Modes.Block) ∷ asks (command.Port (at here)) ∷ asks (command.Stor (codes "f")) ∷ opened here ∷ octets (32 ∷ []) ∷ []) in
    (v.owed ≡ said_to_member (codes "200 Mode set" ∷ codes "200 Endpoint taken" ∷ codes "150 Opening data connection" ∷ codes "451 Local fault" ∷ []))
    × (v.session.table ≡ table)
    × (wants v ≡ Want.CloseData)
    × (may_receive v ≡ false)

-- 110: a marker in block mode is answered by the octets that are held, with those kept, here of an APPE
abbrev pub MarkerAnswered : Type 0
MarkerAnswered =
    (table : Table) (root : Names) → node_at (under table root) (of (codes "f")) ≡ Some (File (codes "abc") 0) → room_at (under table root) (of (codes "f")) ≡ 1000
    → (member table root (asks (command.Repr Kinds.Image) ∷ asks (command.Mode Modes.Block) ∷ asks (command.Port (at here)) ∷ asks (command.Appe (codes "f"))
    ∷ opened here ∷ octets (0 ∷ 0 ∷ 1 ∷ 100 ∷ 16 ∷ 0 ∷ 1 ∷ 77 ∷ []) ∷ [])).owed
    ≡ said_to_member (codes "200 Type set" ∷ codes "200 Mode set" ∷ codes "200 Endpoint taken" ∷ codes "150 Opening data connection" ∷ codes "110 MARK M = 4" ∷ [])

-- ---- ABOR and a line that waits

-- before the link is open ABOR acts as a refused opening
abbrev pub EarlyAbort : Type 0
EarlyAbort =
    (table : Table) (root : Names) → node_at (under table root) [] ≡ Some Dir
    → let v = member table root (asks (command.Port (at here)) ∷ asks (command.List None) ∷ asks command.Abor ∷ []) in
    (v.owed ≡ said_to_member (codes "200 Endpoint taken" ∷ codes "150 Opening data connection" ∷ codes "425 No data connection" ∷ codes "226 Abort done" ∷ []))
    × (wants v ≡ Want.Nothing)

-- another line waits, and is acted on after the last reply
abbrev pub WaitingLine : Type 0
WaitingLine =
    (table : Table) (root : Names) → node_at (under table root) [] ≡ Some Dir
    → (member table root (asks (command.Port (at here)) ∷ asks (command.List None) ∷ asks command.Noop ∷ refused ∷ [])).owed
    ≡ said_to_member (codes "200 Endpoint taken" ∷ codes "150 Opening data connection" ∷ codes "425 No data connection" ∷ codes "200 Ok" ∷ [])

-- ABOR during an upload acts as a break, and its own reply follows
abbrev pub AbortAnswered : Type 0
AbortAnswered =
    (table : Table) (root : Names) → node_at (under table root) (of (codes "f")) ≡ Some (File [] 0) → room_at (under table root) (of (codes "f")) ≡ 1000
    → let v = member table root (asks (command.Port (at here)) ∷ asks (command.Stor (codes "f")) ∷ opened here ∷ octets (codes "ab") ∷ asks command.Abor ∷ []) in
    (v.owed ≡ said_to_member (codes "200 Endpoint taken" ∷ codes "150 Opening data connection" ∷ codes "426 Transfer broken" ∷ codes "226 Abort done" ∷ []))
    × (v.session.table ≡ with_part table root (installed (under table root) (of (codes "f")) (codes "ab") 0))
    × (wants v ≡ Want.CloseData)
