-- Worked rows: what a client sends, wants and reports, reply by reply and event by event. Each is a theorem that computes. The
-- login is `guest` with password `secret`; both hosts are 127.0.0.1.
use Rattle.std.specs.Prelude.{◌≡◌, ℕ, zero, suc, List, [], ◌∷◌, ◌++◌, codes, true, false, Option, Some, None}
use Rattle.ftp_command.specs.Line.{line_of}
use Rattle.ftp_command.specs.declared.command.Command.TheVariants as Commands
use Rattle.ftp_endpoint.specs.declared.endpoint.Endpoint.{Endpoint}
use Rattle.ftp_endpoint.specs.declared.host.Host.{Host}
use Rattle.ftp_operation.specs.Answer.{Said, Done, Path, Octets, Stamp, Refused, BadOperation, Broken, Unopened, Foreign, Lost, Strange}
use Rattle.ftp_operation.specs.declared.op.How.{How}
use Rattle.ftp_operation.specs.declared.op.Op.{Op}
use Rattle.ftp_operation.specs.declared.op.Op.TheVariants as Ops
use Rattle.ftp_settings.specs.declared.representation.Mode.TheVariants as Modes
use Rattle.ftp_settings.specs.declared.representation.Kind.TheVariants as Kinds
use Rattle.ftp_settings.specs.declared.representation.Structure.TheVariants as Structures
use Rattle.ftp_ends.specs.RowWords.{here, elsewhere, lines}
use Rattle.ftp_client_model.specs.Calls.{starts, uploads, report_of, hears, port_told, listen_refused, data_opened}
use Rattle.ftp_client_model.specs.Calls.{data_refused, data_end, data_fault, receives, gives_data, to_give, wants}
use Rattle.ftp_client_model.specs.Dialogue.{answered}
use Rattle.ftp_facts.specs.Listing.{names_value}
use Rattle.ftp_reply.specs.declared.fault.ReplyFault.TheVariants.{Failed}
use Rattle.ftp_reply.specs.Reader.{Gathered, Between, Heard, GoesOn, Says, Faulty, line_heard}
use Rattle.ftp_reply.specs.Values.{passive_value, extended_value, quoted_value, mark_value}
use Rattle.ftp_client_model.specs.Tries.{OverBreaks}
use Rattle.ftp_client_model.specs.View.{View, client}
use Rattle.ftp_client_model.specs.declared.client.Failure.TheVariants as Failures
use Rattle.ftp_client_model.specs.declared.client.Standing.TheVariants as Stands
use Rattle.ftp_ends.specs.declared.link.Wants.{Wants}
use Rattle.ftp_ends.specs.declared.link.Wants.TheVariants as Want

-- ---- how a row is written

-- what happens to a client: an operation or an upload over breaks is begun, a reply of one line comes, a call
pub data ClientHappening : Type 0 where
  asks : (op : Op (List ℕ)) → ClientHappening
  tries : (upload : OverBreaks) → ClientHappening
  replied : (code : ℕ) → (text : List ℕ) → ClientHappening
  port : (number : ℕ) → ClientHappening
  no_port : ClientHappening
  opened : (host : Host) → ClientHappening
  refused : ClientHappening
  octets : (came : List ℕ) → ClientHappening
  given : (count : ℕ) → ClientHappening
  ended broken : ClientHappening

-- each event is one call of the client
abbrev pub happens : ClientHappening → View → View
happens (asks op) v = starts op v
happens (tries upload) v = uploads upload v
happens (replied code text) v = answered code (text ∷ []) v
happens (port number) v = port_told number v
happens no_port v = listen_refused v
happens (opened host) v = data_opened host v
happens refused v = data_refused v
happens (octets came) v = receives v came
happens (given count) v = gives_data count v
happens ended v = data_end v
happens broken v = data_fault v

-- events, one after another
abbrev pub after_all : List ClientHappening → View → View
after_all [] v = v
after_all (event ∷ events) v = after_all events (happens event v)

-- a client as it begins, and one that is logged in and whose commands went out
abbrev pub guest_client : View
guest_client = client (codes "guest") (codes "secret") here here

-- the greeting, 331 and 230
abbrev pub login_events : List ClientHappening
login_events = replied 220 (codes "Ready") ∷ replied 331 (codes "Password needed") ∷ replied 230 (codes "Logged in") ∷ []

-- a client that is logged in, with nothing owed
abbrev pub logged_in : View
logged_in = record (after_all login_events guest_client) { owed = [] }

-- what a client that is logged in owes behind some events
abbrev pub owed_by : List ClientHappening → List ℕ
owed_by events = (after_all events logged_in).owed

-- what it wants of the connections
abbrev pub wanted : List ClientHappening → Wants
wanted events = wants (after_all events logged_in)

-- what its data connection is still to carry
abbrev pub given_behind : List ClientHappening → List ℕ
given_behind events = to_give (after_all events logged_in)

-- what it has to report
abbrev pub reported : List ClientHappening → Option Said
reported events = report_of (after_all events logged_in)

-- ---- the login (RFC 959, section 5.4)

-- the greeting is answered with USER, and a 331 with PASS
abbrev pub AnswersGreeting : Type 0
AnswersGreeting = (after_all login_events guest_client).owed ≡ lines (codes "USER guest" ∷ codes "PASS secret" ∷ [])

-- a greeting of several lines is one reply, octet by octet
abbrev pub LongGreeting : Type 0
LongGreeting = (hears guest_client (lines (codes "220-a" ∷ codes "220 b" ∷ []))).owed ≡ lines (codes "USER guest" ∷ [])

-- ---- what replies say

-- 7 times 256 and 138
abbrev pub endpoint_1930 : Option Endpoint
endpoint_1930 = Some (record { host = here; port = 1930 })

-- six numbers are an endpoint, in parentheses or not (RFC 1123, section 4.1.2.6)
abbrev pub Endpoints : Type 0
Endpoints =
    (passive_value (codes "Entering (127,0,0,1,7,138)") ≡ endpoint_1930)
    × (passive_value (codes "Entering 127,0,0,1,7,138") ≡ endpoint_1930)
    × (passive_value (codes "Take 2 127,0,0,1,7,138") ≡ endpoint_1930)

-- the port between delimiters (RFC 2428, section 3)
abbrev pub PassivePort : Type 0
PassivePort = extended_value (codes "Entering Extended Passive Mode (|||6446|)") ≡ Some 6446

-- a path is quoted, and a double quote in it doubled (RFC 959, appendix II): `"/a""b" created`
abbrev pub Quoted : Type 0
Quoted = quoted_value (34 ∷ 47 ∷ 97 ∷ 34 ∷ 34 ∷ 98 ∷ 34 ∷ codes " created") ≡ Some (47 ∷ 97 ∷ 34 ∷ 98 ∷ [])

-- the server's marker stands behind the client's (RFC 959, section 4.2)
abbrev pub MarkRead : Type 0
MarkRead = (mark_value (codes "MARK 65536 = 65537") ≡ Some 65537) × (mark_value (codes "Restart marker") ≡ None)

-- each line of a listing of names is a text as a pathname is, or the listing names nothing (RFC 959, section 4.1.3; own choice)
abbrev pub NamesRead : Type 0
NamesRead =
    (names_value (codes "a b" ++ 10 ∷ codes "c") ≡ Some (codes "a b" ∷ codes "c" ∷ []))
    × (names_value (codes "a" ++ 10 ∷ 10 ∷ codes "c") ≡ None)
    × (names_value (codes "a" ++ 10 ∷ 127 ∷ 10 ∷ []) ≡ None)

-- the lines that a reader has behind one more
abbrev pub gathered_behind : Heard → Gathered
gathered_behind (GoesOn gathered) = gathered
gathered_behind (Says code texts) = Between
gathered_behind (Faulty fault) = Between

-- what the last of some lines gives
abbrev pub last_heard : Gathered → List (List ℕ) → Heard
last_heard gathered [] = Faulty Failed
last_heard gathered (line ∷ []) = line_heard gathered line
last_heard gathered (line ∷ next ∷ lines) = last_heard (gathered_behind (line_heard gathered line)) (next ∷ lines)

-- a reply of several lines ends at its own code alone (RFC 959, section 4.2)
abbrev pub OwnCode : Type 0
OwnCode =
    last_heard Between (codes "211-x" ∷ codes "200 y" ∷ codes "211z" ∷ codes "211 end" ∷ [])
    ≡ Says 211 (codes "x" ∷ codes "200 y" ∷ codes "211z" ∷ codes "end" ∷ [])

-- ---- how a reply is judged (RFC 959, section 4.2.1)

-- by its first digit and its place; a text without the value that is asked for has none
abbrev pub Judged : Type 0
Judged =
    (reported (asks Ops.Where ∷ replied 257 (34 ∷ 47 ∷ 34 ∷ codes " is the current directory") ∷ []) ≡ Some (Path (47 ∷ [])))
    × (reported (asks Ops.Where ∷ replied 257 (codes "/ is the current directory") ∷ []) ≡ Some Strange)
    × (reported (asks Ops.Up ∷ replied 200 [] ∷ []) ≡ Some Done)
    × (reported (asks Ops.Up ∷ replied 550 [] ∷ []) ≡ Some (Refused 550))
    × (reported (asks Ops.Up ∷ replied 150 [] ∷ []) ≡ Some Strange)
    × (reported (asks Ops.Up ∷ replied 350 [] ∷ []) ≡ Some Strange)

-- 332 has no place, and 421 tells at any time that the connection is lost
abbrev pub TwoCodes : Type 0
TwoCodes =
    (reported (asks (Ops.Rename (codes "f") (codes "g")) ∷ replied 332 [] ∷ []) ≡ Some Strange)
    × (reported (asks Ops.Up ∷ replied 421 [] ∷ []) ≡ Some Lost)

-- a moment is read as seconds since 1970 began, without its fraction (RFC 3659, section 2.3)
abbrev pub ReadsMoment : Type 0
ReadsMoment = reported (asks (Ops.Modified (codes "f")) ∷ replied 213 (codes "20000229235959.5") ∷ []) ≡ Some (Stamp 951868799)

-- a reply that nobody waits for is strange, and every later operation answers so
abbrev pub Unasked : Type 0
Unasked =
    ((after_all (replied 226 [] ∷ []) logged_in).standing ≡ Stands.Failed Failures.Strange)
    × (reported (replied 226 [] ∷ asks Ops.Up ∷ []) ≡ Some Strange)

-- a rename, 350 and 250
abbrev pub rename_events : List ClientHappening
rename_events = asks (Ops.Rename (codes "f") (codes "g")) ∷ replied 350 [] ∷ replied 250 [] ∷ []

-- RNFR wants a 3yz, and RNTO follows it (RFC 959, section 4.1.3)
abbrev pub Renames : Type 0
Renames = (owed_by rename_events ≡ lines (codes "RNFR f" ∷ codes "RNTO g" ∷ [])) × (reported rename_events ≡ Some Done)

-- an operation that can't be sent is answered at once, before the login too, and nothing is sent
abbrev pub Unsendable : Type 0
Unsendable =
    (report_of (starts (Ops.MakeDir []) guest_client) ≡ Some BadOperation) × ((starts (Ops.MakeDir []) guest_client).owed ≡ [])

-- ---- transfers (RFC 959, sections 3.2 to 3.5 and 4.1.2)

-- image or ASCII, file or record, stream, through a port of the server or of the client
abbrev pub plain : How
plain = record { representation = record { kind = Kinds.Image; structure = Structures.File; mode = Modes.Stream }; marks = false; active = false; extended = false }

-- type A
abbrev pub text : How
text = record plain { representation = record plain.representation { kind = Kinds.Ascii } }

-- record structure
abbrev pub records : How
records = record plain { representation = record plain.representation { structure = Structures.Record } }

-- through a port of the client
abbrev pub active : How
active = record plain { active = true }

-- the file f, with the octets `abc`
abbrev pub get : How → ClientHappening
get how = asks (Ops.Get (codes "f") how)

-- the octets `abc` to the file f
abbrev pub put : How → ClientHappening
put how = asks (Ops.Put (codes "f") (codes "abc") how)

-- 200 to TYPE
abbrev pub set : ClientHappening
set = replied 200 (codes "Type set")

-- 227: port 49152 is 192 times 256
abbrev pub entering : ClientHappening
entering = replied 227 (codes "Entering Passive Mode (127,0,0,1,192,0)")

-- 150
abbrev pub opening_reply : ClientHappening
opening_reply = replied 150 (codes "Opening data connection")

-- the final reply of a whole transfer
abbrev pub complete : ClientHappening
complete = replied 226 (codes "Transfer complete")

-- the final reply of a broken one
abbrev pub broken_off : ClientHappening
broken_off = replied 426 (codes "Transfer broken")

-- the final reply where no link came about
abbrev pub unopened : ClientHappening
unopened = replied 425 (codes "No data connection")

-- TYPE is sent where it differs, then PASV; the client connects, and only then sends RETR
abbrev pub PassiveDownload : Type 0
PassiveDownload =
    (wanted (get plain ∷ set ∷ entering ∷ []) ≡ Want.Connect (record { host = here; port = 49152 }))
    × (owed_by (get plain ∷ set ∷ entering ∷ opened here ∷ []) ≡ lines (codes "TYPE I" ∷ codes "PASV" ∷ codes "RETR f" ∷ []))
    × (reported (get plain ∷ set ∷ entering ∷ opened here ∷ opening_reply ∷ octets (codes "abc") ∷ ended ∷ []) ≡ None)
    × (reported (get plain ∷ set ∷ entering ∷ opened here ∷ opening_reply ∷ octets (codes "abc") ∷ ended ∷ complete ∷ []) ≡ Some (Octets (codes "abc")))

-- the final reply and the link's end come in either order, and data is taken before the 150 too
abbrev pub OtherOrders : Type 0
OtherOrders =
    (reported (get plain ∷ set ∷ entering ∷ opened here ∷ opening_reply ∷ complete ∷ octets (codes "abc") ∷ ended ∷ []) ≡ Some (Octets (codes "abc")))
    × (reported (get plain ∷ set ∷ entering ∷ opened here ∷ octets (codes "abc") ∷ ended ∷ opening_reply ∷ complete ∷ []) ≡ Some (Octets (codes "abc")))

-- PORT 127,0,0,1,192,0
abbrev pub port_line : List ℕ
port_line = line_of (Commands.Port (record { host = here; port = 49152 }))

-- the client listens before PORT is sent, and accepts after the 150
abbrev pub ActiveDownload : Type 0
ActiveDownload =
    (wanted (get active ∷ set ∷ []) ≡ Want.Listen)
    × (owed_by (get active ∷ set ∷ port 49152 ∷ replied 200 [] ∷ []) ≡ lines (codes "TYPE I" ∷ port_line ∷ codes "RETR f" ∷ []))
    × (wanted (get active ∷ set ∷ port 49152 ∷ replied 200 [] ∷ []) ≡ Want.Nothing)
    × (wanted (get active ∷ set ∷ port 49152 ∷ replied 200 [] ∷ opening_reply ∷ []) ≡ Want.Accept)

-- the same octets, and the final reply before the end
abbrev pub ActiveReport : Type 0
ActiveReport =
    reported (get active ∷ set ∷ port 49152 ∷ replied 200 [] ∷ opening_reply ∷ opened here ∷ octets (codes "abc") ∷ complete ∷ ended ∷ [])
    ≡ Some (Octets (codes "abc"))

-- a broken download gives what came, without an unpaired CR, whatever its final reply says of a whole; one that ends early counts
-- as broken
abbrev pub BrokenDownload : Type 0
BrokenDownload =
    (reported (get text ∷ entering ∷ opened here ∷ opening_reply ∷ octets (97 ∷ 13 ∷ []) ∷ broken ∷ broken_off ∷ []) ≡ Some (Broken (97 ∷ []) None))
    × (reported (get text ∷ entering ∷ opened here ∷ opening_reply ∷ octets (97 ∷ 13 ∷ []) ∷ broken ∷ complete ∷ []) ≡ Some (Broken (97 ∷ []) None))
    × (reported (get records ∷ set ∷ replied 200 [] ∷ entering ∷ opened here ∷ opening_reply ∷ octets (97 ∷ 255 ∷ 1 ∷ []) ∷ ended ∷ complete ∷ [])
    ≡ Some (Broken (97 ∷ 10 ∷ []) None))

-- octets of an upload are given after the 150 alone, and behind the last the link is closed
abbrev pub PassiveUpload : Type 0
PassiveUpload =
    (given_behind (put plain ∷ set ∷ entering ∷ opened here ∷ []) ≡ [])
    × (given_behind (put plain ∷ set ∷ entering ∷ opened here ∷ opening_reply ∷ []) ≡ codes "abc")
    × (wanted (put plain ∷ set ∷ entering ∷ opened here ∷ opening_reply ∷ given 3 ∷ []) ≡ Want.CloseData)
    × (reported (put plain ∷ set ∷ entering ∷ opened here ∷ opening_reply ∷ given 3 ∷ complete ∷ []) ≡ Some Done)

-- the octets 78 0A 79 in ASCII, up to the 150: a line end goes as CR LF
abbrev pub lines_up : List ClientHappening
lines_up = asks (Ops.Put (codes "f") (120 ∷ 10 ∷ 121 ∷ []) text) ∷ entering ∷ opened here ∷ opening_reply ∷ []

-- an upload that breaks behind a CR: no octet is given any more, and it is broken once the final reply is in
abbrev pub BrokenUpload : Type 0
BrokenUpload =
    (given_behind lines_up ≡ 120 ∷ 13 ∷ 10 ∷ 121 ∷ [])
    × (given_behind (lines_up ++ given 2 ∷ broken ∷ []) ≡ [])
    × (reported (lines_up ++ given 2 ∷ broken ∷ []) ≡ None)
    × (reported (lines_up ++ given 2 ∷ broken ∷ broken_off ∷ []) ≡ Some (Broken [] None))

-- a link or a port that is refused, port 0, and a 425, leave the operation undone; what stands is closed
abbrev pub NotOpened : Type 0
NotOpened =
    (reported (get plain ∷ set ∷ entering ∷ refused ∷ []) ≡ Some Unopened)
    × (reported (get active ∷ set ∷ no_port ∷ []) ≡ Some Unopened)
    × (reported (get active ∷ set ∷ port 0 ∷ []) ≡ Some Unopened)
    × (reported (get plain ∷ set ∷ entering ∷ opened here ∷ unopened ∷ []) ≡ Some Unopened)
    × (wanted (get plain ∷ set ∷ entering ∷ opened here ∷ unopened ∷ []) ≡ Want.CloseData)

-- no other host is contacted or heard (own choice)
abbrev pub OtherHosts : Type 0
OtherHosts =
    (reported (get plain ∷ set ∷ replied 227 (codes "(10,0,0,9,192,0)") ∷ []) ≡ Some Foreign)
    × (wanted (get active ∷ set ∷ port 49152 ∷ replied 200 [] ∷ opening_reply ∷ opened elsewhere ∷ []) ≡ Want.CloseData)
    × (reported (get active ∷ set ∷ port 49152 ∷ replied 200 [] ∷ opening_reply ∷ opened elsewhere ∷ []) ≡ None)
    × (reported (get active ∷ set ∷ port 49152 ∷ replied 200 [] ∷ opening_reply ∷ opened elsewhere ∷ complete ∷ []) ≡ Some Foreign)

-- ---- an upload over breaks (own choice; RFC 959, section 3.5, and RFC 3659, sections 4 and 5)

-- ten octets to the file f
abbrev pub ten : How → OverBreaks
ten how = record { path = codes "f"; octets = codes "abcdefghij"; how = how }

-- the first Put, up to the 150
abbrev pub first_put : List ClientHappening
first_put = tries (ten plain) ∷ set ∷ entering ∷ opened here ∷ opening_reply ∷ []

-- a break, and the 426
abbrev pub break_and_reply : List ClientHappening
break_and_reply = broken ∷ broken_off ∷ []

-- the server has so many octets; PutFrom, up to its 150
abbrev pub goes_on_at : List ℕ → List ClientHappening
goes_on_at count = replied 213 count ∷ entering ∷ opened here ∷ replied 350 [] ∷ opening_reply ∷ []

-- broken after four octets: Put, SIZE, PutFrom at 4 of the other six, and one report
abbrev pub resumed : List ClientHappening
resumed = first_put ++ given 4 ∷ break_and_reply ++ goes_on_at (codes "4")

-- the commands, the octets and the report
abbrev pub UploadResumes : Type 0
UploadResumes =
    (owed_by resumed ≡ lines (codes "TYPE I" ∷ codes "PASV" ∷ codes "STOR f" ∷ codes "SIZE f" ∷ codes "PASV" ∷ line_of (Commands.Rest 4) ∷ codes "STOR f" ∷ []))
    × (given_behind resumed ≡ codes "efghij")
    × (reported resumed ≡ None)
    × (reported (resumed ++ given 6 ∷ complete ∷ []) ≡ Some Done)

-- it was broken so many times before its first octet
abbrev pub broken_times : ℕ → List ClientHappening
broken_times zero = []
broken_times (suc zero) = first_put ++ break_and_reply
broken_times (suc (suc n)) = broken_times (suc n) ++ goes_on_at (codes "0") ++ break_and_reply

-- after fifteen breaks SIZE is asked once more, and the sixteenth is the report
abbrev pub UploadGivesUp : Type 0
UploadGivesUp =
    (reported (broken_times 15) ≡ None)
    × (reported (broken_times 16) ≡ Some (Broken [] None))

-- anew where there is no file or it is longer, the same again where nothing was opened, and an end after any other answer
abbrev pub UploadBeginsAnew : Type 0
UploadBeginsAnew =
    (owed_by (first_put ++ break_and_reply ++ replied 550 [] ∷ entering ∷ opened here ∷ [])
    ≡ lines (codes "TYPE I" ∷ codes "PASV" ∷ codes "STOR f" ∷ codes "SIZE f" ∷ codes "PASV" ∷ codes "STOR f" ∷ []))
    × (given_behind (first_put ++ break_and_reply ++ replied 213 (codes "11") ∷ entering ∷ opened here ∷ opening_reply ∷ []) ≡ codes "abcdefghij")
    × (owed_by (tries (ten plain) ∷ set ∷ entering ∷ refused ∷ []) ≡ lines (codes "TYPE I" ∷ codes "PASV" ∷ codes "PASV" ∷ []))
    × (reported (first_put ++ replied 552 [] ∷ broken ∷ []) ≡ Some (Refused 552))
    × (reported (first_put ++ break_and_reply ++ replied 530 [] ∷ []) ≡ Some (Refused 530))

-- own choice: in another type or structure it is bad, and nothing is sent
abbrev pub UploadInTypeA : Type 0
UploadInTypeA = (reported (tries (ten text) ∷ []) ≡ Some BadOperation) × (owed_by (tries (ten records) ∷ []) ≡ [])

-- ---- a Peek (own choice; ABOR: RFC 959, section 4.1.3)

-- the first octets of the file f, up to the open link
abbrev pub peek : ℕ → List ClientHappening
peek count = asks (Ops.Peek (codes "f") count plain) ∷ set ∷ entering ∷ opened here ∷ []

-- the file has ten octets
abbrev pub ten_octets : ClientHappening
ten_octets = octets (codes "0123456789")

-- the reply to ABOR
abbrev pub abort_done : ClientHappening
abort_done = replied 226 (codes "Abort successful")

-- the lines of a Peek, and with ABOR
abbrev pub peek_lines : List (List ℕ)
peek_lines = codes "TYPE I" ∷ codes "PASV" ∷ codes "RETR f" ∷ []

-- behind them
abbrev pub abort_lines : List (List ℕ)
abort_lines = peek_lines ++ codes "ABOR" ∷ []

-- ABOR is sent once the 150 is in and three octets are settled, the 226 in or not; before that, or over a link that has ended, none is
abbrev pub PeekAborts : Type 0
PeekAborts =
    (owed_by (peek 3 ++ opening_reply ∷ octets (codes "01") ∷ []) ≡ lines peek_lines)
    × (owed_by (peek 3 ++ opening_reply ∷ octets (codes "012") ∷ []) ≡ lines abort_lines)
    × (owed_by (peek 3 ++ ten_octets ∷ []) ≡ lines peek_lines)
    × (owed_by (peek 3 ++ ten_octets ∷ opening_reply ∷ []) ≡ lines abort_lines)
    × (owed_by (peek 3 ++ opening_reply ∷ complete ∷ ten_octets ∷ []) ≡ lines abort_lines)
    × (owed_by (peek 3 ++ ten_octets ∷ ended ∷ opening_reply ∷ []) ≡ lines peek_lines)
    × (owed_by (peek 0 ++ opening_reply ∷ []) ≡ lines abort_lines)

-- three octets of ten are reported
abbrev pub TellsThree : List ClientHappening → Type 0
TellsThree events = reported (peek 3 ++ events) ≡ Some (Octets (codes "012"))

-- in every order of the two replies and the link's end or break; 226, 426 or another final reply
abbrev pub PeekOrders : Type 0
PeekOrders =
    TellsThree (opening_reply ∷ ten_octets ∷ broken_off ∷ abort_done ∷ ended ∷ [])
    × TellsThree (opening_reply ∷ ten_octets ∷ broken_off ∷ ended ∷ abort_done ∷ [])
    × TellsThree (opening_reply ∷ ten_octets ∷ broken ∷ broken_off ∷ abort_done ∷ [])
    × TellsThree (opening_reply ∷ ten_octets ∷ complete ∷ abort_done ∷ ended ∷ [])
    × TellsThree (opening_reply ∷ ten_octets ∷ ended ∷ complete ∷ abort_done ∷ [])
    × TellsThree (opening_reply ∷ complete ∷ ten_octets ∷ ended ∷ abort_done ∷ [])
    × TellsThree (opening_reply ∷ octets (codes "012") ∷ replied 551 [] ∷ octets (codes "3") ∷ abort_done ∷ broken ∷ [])

-- where no ABOR was sent, the link's end or break behind three octets is enough
abbrev pub PeekUnaborted : Type 0
PeekUnaborted =
    TellsThree (ten_octets ∷ ended ∷ opening_reply ∷ complete ∷ [])
    × TellsThree (octets (codes "0123") ∷ broken ∷ opening_reply ∷ broken_off ∷ [])

-- all where there are fewer; none where none are asked for
abbrev pub PeekEnds : Type 0
PeekEnds =
    (reported (peek 99 ++ opening_reply ∷ ten_octets ∷ ended ∷ complete ∷ []) ≡ Some (Octets (codes "0123456789")))
    × (reported (peek 0 ++ opening_reply ∷ broken_off ∷ abort_done ∷ ended ∷ []) ≡ Some (Octets []))
    × (reported (peek 3 ++ opening_reply ∷ ten_octets ∷ broken_off ∷ ended ∷ []) ≡ None)

-- as Get: a break before so many octets, a refusal; another reply to ABOR is strange; a number of 19 digits is bad
abbrev pub PeekFails : Type 0
PeekFails =
    (reported (peek 3 ++ opening_reply ∷ octets (codes "01") ∷ broken ∷ broken_off ∷ []) ≡ Some (Broken (codes "01") None))
    × (reported (peek 3 ++ replied 550 [] ∷ []) ≡ Some (Refused 550))
    × (reported (peek 3 ++ opening_reply ∷ ten_octets ∷ broken_off ∷ replied 500 [] ∷ []) ≡ Some Strange)
    × (reported (asks (Ops.Peek (codes "f") 1000000000000000000 plain) ∷ []) ≡ Some BadOperation)
