-- Uploads as what is asked for: anew, behind the file that is there, or from an offset on (RFC 959, section 4.1.3; RFC 3659, section 5).
use Rattle.std.specs.Prelude.{◌≡◌, ℕ, ◌<◌, ◌^◌, true, false, List, [], ◌∷◌, length, map, Option, Some, None}
use Rattle.std.specs.List.{AllByRecursion}
use Rattle.std.specs.Option.{unwrap_or}
use Rattle.ftp_command.specs.declared.command.Command.{Command}
use Rattle.ftp_command.specs.declared.command.Command.TheVariants as Commands
use Rattle.ftp_ends.specs.Reply.{Reply}
use Rattle.ftp_operation.specs.Answer.{Done}
use Rattle.ftp_operation.specs.declared.op.How.{How}
use Rattle.ftp_operation.specs.declared.op.Op.{Op}
use Rattle.ftp_operation.specs.declared.op.Op.TheVariants as Ops
use Rattle.ftp_reply.specs.Values.{is_marker}
use Rattle.ftp_tree.specs.Tree.{room_refusal}
use Rattle.ftp_direct.specs.declared.refusal.Refusal.{Refusal}
use Rattle.ftp_direct.specs.Direct.{State, barred_put, file_of, limited, named, or_refused, part, place_at, refused_name, refused_room}
use Rattle.ftp_client_model.specs.Octets.{upload_text}
use Rattle.ftp_server_model.specs.Replies.{mark_reply}
use Rattle.ftp_server_model.specs.Transfer.{misplaced}
use Rattle.ftp_server_model.specs.declared.session.Keep.{Keep}
use Rattle.ftp_server_model.specs.declared.session.Keep.TheVariants as Keeps
use Rattle.laws_dialogues.specs.Fetches.{Ask, Rise, Up}

-- where its octets go: in place of the file, behind it, or behind what an offset skips
pub data StorePlace : Type 0 where
  Anew Behind : StorePlace
  From : (offset : ℕ) → StorePlace

-- the operation
abbrev pub store : StorePlace → List ℕ → List ℕ → How → Op (List ℕ)
store Anew text octets how = Ops.Put text octets how
store Behind text octets how = Ops.Append text octets how
store (From offset) text octets how = Ops.PutFrom text offset octets how

-- its own command
abbrev pub store_command : StorePlace → List ℕ → Command (List ℕ)
store_command Anew text = Commands.Stor text
store_command Behind text = Commands.Appe text
store_command (From offset) text = Commands.Stor text

-- the offset of REST
abbrev pub store_offset : StorePlace → Option ℕ
store_offset (From offset) = Some offset
store_offset place = None

-- where its markers begin to count
abbrev pub store_start : StorePlace → ℕ
store_start (From offset) = offset
store_start place = 0

-- how many octets of the file are kept, where the place leads to one
abbrev pub store_place : State → StorePlace → List ℕ → How → Option ℕ
store_place state Anew text how = Some 0
store_place state Behind text how = Some (length (file_of state text))
store_place state (From offset) text how = place_at state (named state text) how offset

-- which of them are kept
abbrev pub store_keep : State → StorePlace → List ℕ → How → Keep
store_keep state Behind text how = Keeps.All (length (file_of state text))
store_keep state place text how = Keeps.First (unwrap_or (store_place state place text how) 0)

-- why no file can be put where a text leads
abbrev pub room_why : State → List ℕ → Option Refusal
room_why state text = refused_room (limited (named state text) (room_refusal (part state) (named state text)))

-- why its command is refused
abbrev pub store_why : State → StorePlace → List ℕ → How → Option Refusal
store_why state place text how =
    or_refused (barred_put state (named state text)) (or_refused (refused_name (misplaced (store_place state place text how))) (room_why state text))

-- its octets
abbrev pub store_rise : StorePlace → List ℕ → List ℕ → How → ℕ → Rise
store_rise place text octets how moment = record {
  path = λ state. named state text;
  keep = λ state. store_keep state place text how;
  octets = octets;
  text = upload_text how (store_start place) octets;
  moment = moment;
}

-- an upload as what is asked for
abbrev pub upload_ask : StorePlace → List ℕ → List ℕ → How → ℕ → Ask
upload_ask place text octets how moment = record {
  op = store place text octets how;
  how = how;
  settings = how.representation;
  offset = store_offset place;
  command = store_command place text;
  why = λ state. store_why state place text how;
  sends = Up (store_rise place text octets how moment);
  listed = false;
  wire = λ state. [];
  said = λ state. Done;
}

-- ---- markers (RFC 959, sections 3.5 and 4.2)

-- how a marker is answered: by itself, and by how many octets of the file are held
pub record Note : Type 0 where
  pub theirs : List ℕ
  pub held : ℕ

-- as a reply, a 110
abbrev pub note_reply : Note → Reply
note_reply note = mark_reply note.theirs note.held

-- as replies, in order
abbrev pub note_replies : List Note → List Reply
note_replies notes = map note_reply notes

-- the octets held that the last of them says, or what was said before
abbrev pub last_held : Option ℕ → List Note → Option ℕ
last_held mark [] = mark
last_held mark (note ∷ more) = last_held (Some note.held) more

-- it is of a marker, and of a number that a reply can say
abbrev pub IsNote : Note → Type 0
IsNote note = (is_marker note.theirs ≡ true) × (note.held < 10 ^ 18)

-- so is each
abbrev pub AreNotes : List Note → Type 0
AreNotes notes = AllByRecursion IsNote notes
