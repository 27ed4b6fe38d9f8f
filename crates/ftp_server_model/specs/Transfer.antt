-- How a transfer begins: REST (RFC 3659, section 5), RETR, STOR, APPE, LIST, NLST, MLSD (RFC 959, section 4.1.3).
use Rattle.std.specs.Prelude.{ℕ, not, List, drop, length, Option, Some, None, is_some, if◌then◌else◌}
use Rattle.std.specs.Option.{unwrap_or}
use Rattle.ftp_path.specs.Path.{Names}
use Rattle.ftp_tree.specs.Tree.{octets_or_none, room_refusal, whenever}
use Rattle.ftp_tree.specs.declared.fault.TreeFault.{TreeFault}
use Rattle.ftp_tree.specs.declared.fault.TreeFault.TheVariants as Faults
use Rattle.ftp_direct.specs.declared.refusal.Refusal.{Refusal}
use Rattle.ftp_direct.specs.Direct.{refusal, barred_put, refused_room, refused_name, refused_there, refused_file, limited, or_refused, offset_refusal, place_at, file_of, named_or_here}
use Rattle.ftp_operation.specs.declared.op.Op.TheVariants as Ops
use Rattle.ftp_mode.specs.Block.{marked_text}
use Rattle.ftp_mode.specs.Wire.{wire}
use Rattle.ftp_settings.specs.Representation.{form_of, has_markers}
use Rattle.ftp_wire.specs.Decoder.{no_octets}
use Rattle.ftp_server_model.specs.View.{Session, Transfer, direct_of, how_in_force, seen}
use Rattle.ftp_server_model.specs.Replies.{Turn, tells}
use Rattle.ftp_server_model.specs.Endpoint.{forgotten}
use Rattle.ftp_server_model.specs.Walk.{refusal_text, path_of}
use Rattle.ftp_server_model.specs.Ask.{or_empty}
use Rattle.ftp_server_model.specs.Listing.{listing_wire, list_lines, entry_lines, name_lines}
use Rattle.ftp_settings.specs.declared.representation.Representation.{Representation}
use Rattle.ftp_server_model.specs.declared.reply.FixedReply.TheVariants as Texts
use Rattle.ftp_server_model.specs.declared.reply.ReplyKind.TheVariants as Replies
use Rattle.ftp_server_model.specs.declared.session.Pending.{Pending}
use Rattle.ftp_server_model.specs.declared.session.Pending.TheVariants as Pendings
use Rattle.ftp_server_model.specs.declared.session.Keep.TheVariants as Keeps
use Rattle.ftp_server_model.specs.declared.session.Transfer.TheVariants as Transfers
use Rattle.ftp_server_model.specs.declared.session.Way.TheVariants as Ways
use Rattle.ftp_server_model.specs.declared.session.ServerLink.{ServerLink}
use Rattle.ftp_server_model.specs.declared.session.ServerLink.TheVariants as Data

-- ---- where a transfer begins in its file

-- REST: the offset is pending for the next line, or refused
abbrev pub restart_pending : Option Refusal → ℕ → Session → Turn
restart_pending None offset s = (record s { pending = Pendings.Restart offset }, Replies.Restarting offset)
restart_pending (Some why) offset s = tells (refusal_text why) s

-- REST: it counts octets of the transfer, and is 504 in records, but for 0 (own choice)
abbrev pub restart_asked : ℕ → Session → Turn
restart_asked offset s = restart_pending (offset_refusal offset (how_in_force s.settings)) offset s

-- the place in the file at a path where a transfer begins: where the offset of REST leads, if it leads to one, else the start
abbrev pub place_of : Pending Names → Names → Session → Option ℕ
place_of (Pendings.Restart offset) path s = place_at (direct_of s) path (how_in_force s.settings) offset
place_of Pendings.Nothing path s = Some 0
place_of (Pendings.Rename from) path s = Some 0

-- an offset leads to no place: into an octet that goes as two, or past the end
abbrev pub misplaced : Option ℕ → Option TreeFault
misplaced place = whenever (not (is_some place)) Faults.BadOffset

-- ---- the data connection: at an endpoint, at a port, or open already

-- 425 where there is no endpoint; else 150, and the transfer waits for its data connection or has it already
abbrev pub begin : ServerLink Transfer → Transfer → Session → Turn
begin Data.Free transfer s = tells Texts.NoConnection s
begin (Data.Active endpoint) transfer s = tells Texts.Opens (record s { connection = Data.Opening transfer (Ways.Connect endpoint) })
begin Data.Passive transfer s = tells Texts.Opens (record s { connection = Data.Opening transfer Ways.Accept })
begin Data.Ready transfer s = tells Texts.Opens (record s { connection = Data.Transferring transfer })
begin (Data.Asked asked) transfer s = tells Texts.NoConnection s
begin (Data.Opening other way) transfer s = tells Texts.NoConnection s
begin (Data.Transferring other) transfer s = tells Texts.NoConnection s

-- a refusal, with which the endpoint is forgotten; else the transfer begins, and uses it up (own choice)
abbrev pub transfer_starts : Option Refusal → Transfer → Session → Turn
transfer_starts None transfer s = begin s.connection transfer s
transfer_starts (Some why) transfer s = tells (refusal_text why) (forgotten s)

-- ---- downloads and listings: what is sent

-- the octets of a file from a place on, in the representation in force; with markers, counted from that place, wherever the mode
-- and the type have them (own choice)
abbrev pub file_wire : Representation → ℕ → List ℕ → List ℕ
file_wire settings from octets = if has_markers settings then marked_text from octets else wire settings.mode (form_of settings) octets

-- what is sent of the file that a text names, from a place on
abbrev pub sent_from : Session → List ℕ → ℕ → List ℕ
sent_from s text place = file_wire s.settings place (drop place (file_of (direct_of s) text))

-- RETR, from a place on
abbrev pub retr_at : Option ℕ → List ℕ → Session → Turn
retr_at place text s =
    transfer_starts (or_refused (refused_file (direct_of s) text) (refused_there (misplaced place)))
    (Transfers.Download (sent_from s text (unwrap_or place 0))) s

-- RETR, where REST put it
abbrev pub retr : Pending Names → List ℕ → Session → Turn
retr pending text s = retr_at (place_of pending (path_of s text) s) text s

-- the path that an argument names which may be left out
abbrev pub path_or_here : Session → Option (List ℕ) → Names
path_or_here s text = named_or_here (direct_of s) (or_empty text)

-- LIST: refused as NLST is
abbrev pub list : Option (List ℕ) → Session → Turn
list text s =
    transfer_starts (refusal (direct_of s) (Ops.Names (or_empty text) (how_in_force s.settings)))
    (Transfers.Listing (listing_wire s.settings.mode (list_lines (seen s) (path_or_here s text)))) s

-- NLST
abbrev pub nlst : Option (List ℕ) → Session → Turn
nlst text s =
    transfer_starts (refusal (direct_of s) (Ops.Names (or_empty text) (how_in_force s.settings)))
    (Transfers.Listing (listing_wire s.settings.mode (name_lines (seen s) (path_or_here s text) (or_empty text)))) s

-- MLSD
abbrev pub mlsd : Option (List ℕ) → Session → Turn
mlsd text s =
    transfer_starts (refusal (direct_of s) (Ops.List (or_empty text) (how_in_force s.settings)))
    (Transfers.Listing (listing_wire s.settings.mode (entry_lines s.facts (seen s) (path_or_here s text)))) s

-- ---- uploads: held apart from the map until they end (own choice)

-- why no octet at all can be put at a path
abbrev pub refused_to_hold : Session → Names → Option Refusal
refused_to_hold s path = refused_room (limited path (room_refusal (seen s) path))

-- STOR, after the octets before a place
abbrev pub stor_at : Option ℕ → Names → Session → Turn
stor_at place path s =
    transfer_starts (or_refused (barred_put (direct_of s) path) (or_refused (refused_name (misplaced place)) (refused_to_hold s path)))
    (Transfers.Upload path (Keeps.First (unwrap_or place 0)) (no_octets s.settings)) s

-- STOR, where REST put it
abbrev pub stor : Pending Names → List ℕ → Session → Turn
stor pending text s = stor_at (place_of pending (path_of s text) s) (path_of s text) s

-- APPE: after all octets of the file there, those that stand when it ends
abbrev pub appe_at : Names → Session → Turn
appe_at path s =
    transfer_starts (or_refused (barred_put (direct_of s) path) (refused_to_hold s path))
    (Transfers.Upload path (Keeps.All (length (octets_or_none (seen s) path))) (no_octets s.settings)) s

-- APPE: a REST before it is of no matter
abbrev pub appe : List ℕ → Session → Turn
appe text s = appe_at (path_of s text) s
