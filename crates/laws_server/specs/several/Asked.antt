-- What a line asks of the map, as an operation of the direct run (`ftp_direct`), and how the server tells what the direct run answers.
use Rattle.std.specs.Prelude.{◌≡◌, ℕ, true, false, List, map, None}
use Rattle.ftp_command.specs.declared.command.Command.{Command}
use Rattle.ftp_command.specs.declared.command.Command.TheVariants as command
use Rattle.ftp_direct.specs.Direct.{State, chosen, done, entry_at, first_refusal, named, offset_refusal, skipped}
use Rattle.ftp_facts.specs.Moment.{moment_digits}
use Rattle.ftp_operation.specs.Answer.{Said, Done, Path, Octets, Number, Stamp, Entry, Entries, Names as NameList, Refused}
use Rattle.ftp_mode.specs.Wire.{wire}
use Rattle.ftp_operation.specs.declared.op.ListVerb.TheVariants as Lists
use Rattle.ftp_operation.specs.declared.op.Op.{Op}
use Rattle.ftp_operation.specs.declared.op.Op.TheVariants as Ops
use Rattle.ftp_path.specs.Path.{Names, text_of as path_text}
pub use Rattle.laws_server.specs.one.Maps.{changes, line_changes}
use Rattle.ftp_server_model.specs.Act.{decided, forgets, is_in}
use Rattle.ftp_server_model.specs.Ask.{has_size, or_empty}
use Rattle.ftp_server_model.specs.Entries.{listed_line}
use Rattle.ftp_server_model.specs.Listing.{listing_form, listing_wire}
use Rattle.ftp_server_model.specs.Replies.{Turn, tells}
use Rattle.ftp_server_model.specs.Texts.{fixed_reply_code}
use Rattle.ftp_server_model.specs.Transfer.{begin, file_wire}
use Rattle.ftp_server_model.specs.View.{Context, Session, Transfer, as_direct, direct_of, how_in_force, seen}
use Rattle.ftp_server_model.specs.Walk.{path_of}
use Rattle.ftp_server_model.specs.declared.heard.HeardLine.{HeardLine}
use Rattle.ftp_server_model.specs.declared.heard.HeardLine.TheVariants.{Asks as Says}
use Rattle.ftp_server_model.specs.declared.reply.FixedReply.{FixedReply}
use Rattle.ftp_server_model.specs.declared.reply.FixedReply.TheVariants as Texts
use Rattle.ftp_server_model.specs.declared.reply.ReplyKind.{ReplyKind}
use Rattle.ftp_server_model.specs.declared.reply.ReplyKind.TheVariants as Replies
use Rattle.ftp_server_model.specs.declared.session.Pending.{Pending}
use Rattle.ftp_server_model.specs.declared.session.Pending.TheVariants as Pendings
use Rattle.ftp_server_model.specs.declared.session.Transfer.TheVariants as Transfers

-- ---- the operation that a line is

-- RETR: what REST named is how many octets are left out; where that has a meaning in the settings in force
abbrev pub AsksFile : Pending Names → List ℕ → Session → Op (List ℕ) → Type 0
AsksFile (Pendings.Restart offset) text s op =
    (offset_refusal offset (how_in_force s.settings) ≡ None) × (op ≡ Ops.GetFrom text offset (how_in_force s.settings))
AsksFile Pendings.Nothing text s op = op ≡ Ops.Get text (how_in_force s.settings)
AsksFile (Pendings.Rename from) text s op = op ≡ Ops.Get text (how_in_force s.settings)

-- RNTO: a rename from what RNFR named, by whatever text names that
abbrev pub AsksRename : Pending Names → List ℕ → Session → Op (List ℕ) → Type 0
AsksRename (Pendings.Rename from) new s op = (text : List ℕ) × (path_of s text ≡ from) × (op ≡ Ops.Rename text new)
AsksRename Pendings.Nothing new s op = ⊥
AsksRename (Pendings.Restart offset) new s op = ⊥

-- A command asks for this operation, done or refused where its line is acted on. LIST asks for its text; an upload is asked for by no line, since it is
-- one operation at its end
abbrev pub Asks : Pending Names → Session → Command (List ℕ) → Op (List ℕ) → Type 0
Asks pending s command.Pwd op = op ≡ Ops.Where
Asks pending s (command.Cwd text) op = op ≡ Ops.ChangeDir text
Asks pending s command.Cdup op = op ≡ Ops.Up
Asks pending s (command.Mkd text) op = op ≡ Ops.MakeDir text
Asks pending s (command.Rmd text) op = op ≡ Ops.RemoveDir text
Asks pending s (command.Dele text) op = op ≡ Ops.Delete text
Asks pending s (command.Rnto text) op = AsksRename pending text s op
Asks pending s (command.Retr text) op = AsksFile pending text s op
Asks pending s (command.List text) op = op ≡ Ops.Text Lists.List (or_empty text) (how_in_force s.settings)
Asks pending s (command.Nlst text) op = op ≡ Ops.Names (or_empty text) (how_in_force s.settings)
Asks pending s (command.Mlsd text) op = op ≡ Ops.List (or_empty text) (how_in_force s.settings)
Asks pending s (command.Mlst text) op = op ≡ Ops.Facts (or_empty text)
Asks pending s (command.Size text) op = (has_size s.settings ≡ true) × (op ≡ Ops.Size text (how_in_force s.settings))
Asks pending s (command.Mdtm text) op = op ≡ Ops.Modified text
Asks pending s other op = ⊥

-- ---- how an answer is told

-- the reply has this code, and is one of a table
abbrev pub TellsCode : ℕ → ReplyKind Names → Type 0
TellsCode code reply = (text : FixedReply) × (reply ≡ Replies.Fixed text) × (fixed_reply_code text ≡ code)

-- the reply tells the path that this is the text of, where the session after the command is this
abbrev pub TellsPath : List ℕ → Session → ReplyKind Names → Type 0
TellsPath text s Replies.Here = path_text s.cwd ≡ text
TellsPath text s (Replies.Made path) = path_text path ≡ text
TellsPath text s other = ⊥

-- the place in the file from which octets are sent
abbrev pub sent_place : State → Op (List ℕ) → ℕ
sent_place state (Ops.GetFrom text offset how) = skipped state (named state text) how offset
sent_place state other = 0

-- the transfer of octets that are the answer: the text of a listing, or a file's from a place on
abbrev pub sent_of : Op (List ℕ) → Session → List ℕ → Transfer
sent_of (Ops.Text verb text how) s octets = Transfers.Listing (wire s.settings.mode listing_form octets)
sent_of op s octets = Transfers.Download (file_wire s.settings (sent_place (direct_of s) op) octets)

-- What a line made of a session tells this answer, and leaves this state of the direct run. A refusal leaves all as it was, but that a transfer command
-- forgets its endpoint; where octets, entries or names are the answer, a transfer of them begins
abbrev pub Answers : Command (List ℕ) → Op (List ℕ) → Session → Said × State → Turn → Type 0
Answers c op s (Refused code, state) turn = (turn.0 ≡ forgets c s) × TellsCode code turn.1
Answers c op s (Done, state) turn = turn ≡ tells Texts.Done (as_direct state s)
Answers c op s (Path text, state) turn = (turn.0 ≡ as_direct state s) × TellsPath text turn.0 turn.1
Answers c op s (Octets octets, state) turn = turn ≡ begin s.connection (sent_of op s octets) s
Answers c op s (Number number, state) turn = turn ≡ (s, Replies.Size number)
Answers c op s (Stamp moment, state) turn = turn ≡ (s, Replies.Stamp (moment_digits moment))
Answers c op s (Entry entry, state) turn = (turn.0 ≡ s) × ((path : Names) × (turn.1 ≡ Replies.Entry path) × (entry_at (seen s) path (path_text path) ≡ entry))
Answers c op s (Entries entries, state) turn = turn ≡ begin s.connection (Transfers.Listing (listing_wire s.settings.mode (map (listed_line s.facts) entries))) s
Answers c op s (NameList names, state) turn = turn ≡ begin s.connection (Transfers.Listing (listing_wire s.settings.mode names)) s
Answers c op s other turn = ⊥

-- ---- the direct run on the map that stands

-- how the direct run sees a session, whether or not somebody is logged in
abbrev pub direct_state_of : Session → State
direct_state_of s = record (direct_of s) { known = is_in s.access }

-- the answer of the direct run to an operation that came as a line
abbrev pub answer_to_line : State → Op (List ℕ) → ℕ → Said × State
answer_to_line state op moment = chosen (first_refusal state op) state (done state op moment)

-- a line that asks for an operation tells the answer of the direct run on the map that stands, and leaves what that leaves; at whatever moment
abbrev pub LinesAreDirect : Type 0
LinesAreDirect =
    (context : Context) (c : Command (List ℕ)) (pending : Pending Names) (s : Session) (op : Op (List ℕ)) (moment : ℕ)
    → Asks pending s c op → Answers c op s (answer_to_line (direct_state_of s) op moment) (decided context (Says c) pending s)

-- ---- all other lines

-- a line that may not change the map (`line_changes`) leaves it
abbrev pub OthersLeaveTheMap : Type 0
OthersLeaveTheMap =
    (context : Context) (heard : HeardLine (List ℕ)) (pending : Pending Names) (s : Session)
    → line_changes pending heard ≡ false → (decided context heard pending s).0.table ≡ s.table
