-- Whatever a session does with the map is a line that is acted on or the end of an upload, one after another (RFC 959, section 4.1; own choice that an
-- upload is done at its end).
use Rattle.std.specs.Prelude.{◌≡◌, ◌⊎◌, ◌&&◌, ℕ, Bool, true, false, List, [], ◌∷◌, Option, Some, slice_get}
use Rattle.ftp_direct.specs.Direct.{State, due}
use Rattle.ftp_operation.specs.Answer.{Said, Done, Refused}
use Rattle.ftp_operation.specs.declared.op.How.{How}
use Rattle.ftp_operation.specs.declared.op.Op.{Op}
use Rattle.ftp_operation.specs.declared.op.Op.TheVariants as Ops
use Rattle.ftp_path.specs.Path.{Names}
use Rattle.ftp_settings.specs.Representation.{same_kind, same_structure}
use Rattle.ftp_settings.specs.declared.representation.Kind.TheVariants as Kinds
use Rattle.ftp_settings.specs.declared.representation.Structure.TheVariants as Structures
use Rattle.ftp_tree.specs.Tree.{Table}
use Rattle.ftp_wire.specs.Decoder.{Decoder, broken, ended, is_whole}
use Rattle.ftp_server_model.specs.Keep.{is_overtaken, overtaken_keep}
use Rattle.ftp_server_model.specs.Machine.{Ending, Reading, at_break, at_end, concluded, is_idle, obeyed}
use Rattle.ftp_server_model.specs.Play.{Cue, call}
use Rattle.ftp_server_model.specs.Standing.{same_standing, standing_at, standing_of, still_stands}
use Rattle.ftp_server_model.specs.Texts.{fixed_reply_code}
use Rattle.ftp_server_model.specs.View.{Session, Transfer, View, as_direct, direct_of, seen}
use Rattle.ftp_server_model.specs.Walk.{path_of}
use Rattle.ftp_server_model.specs.declared.heard.HeardLine.{HeardLine}
use Rattle.ftp_server_model.specs.declared.reply.FixedReply.{FixedReply}
use Rattle.ftp_server_model.specs.declared.reply.FixedReply.TheVariants as Texts
use Rattle.ftp_server_model.specs.declared.session.Keep.{Keep}
use Rattle.ftp_server_model.specs.declared.session.Keep.TheVariants.{First, All, FirstOvertaken, AllOvertaken}
use Rattle.ftp_server_model.specs.declared.session.ServerLink.TheVariants as Data
use Rattle.ftp_server_model.specs.declared.session.Standing.{Standing}
use Rattle.ftp_server_model.specs.declared.session.Transfer.TheVariants as Transfers
use Rattle.ftp_server_model.specs.declared.session.Way.{Way}
use Rattle.laws_server.specs.several.Asked.{direct_state_of}
use Rattle.laws_server.specs.several.Several.{Slot, Several, Turn, called, exchanged, lent_to, in_slot_again}

-- ---- the end of an upload

-- in image and file structure an offset counts octets of the file
abbrev pub counts_octets : How → Bool
counts_octets how = same_kind how.representation.kind Kinds.Image && same_structure how.representation.structure Structures.File

-- What came of an upload is put after the octets that it keeps: a Put, where it keeps none; a PutFrom where it keeps so many of the first; an Append where
-- it keeps all that stand there by then
abbrev pub EndsAs : Keep → List ℕ → List ℕ → Op (List ℕ) → Type 0
EndsAs (First place) text octets op =
    ((how : How) × (place ≡ 0) × (op ≡ Ops.Put text octets how)) ⊎ ((how : How) × (counts_octets how ≡ true) × (op ≡ Ops.PutFrom text place octets how))
EndsAs (All count) text octets op = (how : How) × (op ≡ Ops.Append text octets how)
EndsAs (FirstOvertaken place) text octets op =
    ((how : How) × (place ≡ 0) × (op ≡ Ops.Put text octets how)) ⊎ ((how : How) × (counts_octets how ≡ true) × (op ≡ Ops.PutFrom text place octets how))
EndsAs (AllOvertaken count) text octets op = (how : How) × (op ≡ Ops.Append text octets how)

-- an upload's end tells this answer of the direct run and leaves this state: by its own reply, or by the code of the refusal, which leaves all as it was
abbrev pub EndAnswers : FixedReply → Session → Said × State → Ending → Type 0
EndAnswers text s (Done, state) ending = ending ≡ (as_direct state s, text)
EndAnswers text s (Refused code, state) ending = (ending.0 ≡ s) × (fixed_reply_code ending.1 ≡ code)
EndAnswers text s other ending = ⊥

-- these octets of an upload to a path are put as the direct run puts them on the map that stands, by whatever text names the path
abbrev pub IsPutDirectly : (moment : ℕ) → Names → Keep → List ℕ → FixedReply → Session → Ending → Type 0
IsPutDirectly moment path keep octets reply s ending =
    (text : List ℕ) (op : Op (List ℕ)) → path_of s text ≡ path → EndsAs keep text octets op → EndAnswers reply s (due (direct_of s) op moment) ending

-- an upload that is whole is put, and told by 226; one that broke or was cut off is put as far as it is settled, and told by 426, unless others changed
-- what stands at its path: then nothing of it is put, the map is as it was, and 426 is told
pub record EndsAreDirect : Type 0 where
  pub whole : (moment : ℕ) (path : Names) (keep : Keep) (d : Decoder) (s : Session) → is_whole d ≡ true
      → IsPutDirectly moment path keep (ended d).content Texts.Complete s (at_end moment (Transfers.Upload path keep d) s)
  pub early : (moment : ℕ) (path : Names) (keep : Keep) (d : Decoder) (s : Session) → is_whole d ≡ false → is_overtaken keep ≡ false
      → IsPutDirectly moment path keep (broken d).content Texts.Broken s (at_end moment (Transfers.Upload path keep d) s)
  pub broke : (moment : ℕ) (path : Names) (keep : Keep) (d : Decoder) (s : Session) → is_overtaken keep ≡ false
      → IsPutDirectly moment path keep (broken d).content Texts.Broken s (at_break moment (Transfers.Upload path keep d) s)
  pub overtaken_early : (moment : ℕ) (path : Names) (keep : Keep) (d : Decoder) (s : Session) → is_whole d ≡ false → is_overtaken keep ≡ true
      → at_end moment (Transfers.Upload path keep d) s ≡ (s, Texts.Broken)
  pub overtaken_broke : (moment : ℕ) (path : Names) (keep : Keep) (d : Decoder) (s : Session) → is_overtaken keep ≡ true
      → at_break moment (Transfers.Upload path keep d) s ≡ (s, Texts.Broken)

-- ---- an upload is overtaken by others

-- Of an upload that is under way: where something else stands at its path, in the map that stands, than stood there after the last call of its session, it is
-- overtaken when that is called, and so it stays whatever is found later. Where that still stands, the session is the same but for the map
pub record OthersOvertake : Type 0 where
  pub under_way : (table : Table) (stood : Standing) (path : Names) (keep : Keep) (d : Decoder) (v : View)
      → v.session.connection ≡ Data.Transferring (Transfers.Upload path keep d)
      → same_standing stood (standing_at (seen (exchanged table v).session) path) ≡ false
      → (lent_to table (record { view = v; stood = Some stood })).session.connection ≡ Data.Transferring (Transfers.Upload path (overtaken_keep keep) d)
  pub opening : (table : Table) (stood : Standing) (path : Names) (keep : Keep) (d : Decoder) (way : Way) (v : View)
      → v.session.connection ≡ Data.Opening (Transfers.Upload path keep d) way
      → same_standing stood (standing_at (seen (exchanged table v).session) path) ≡ false
      → (lent_to table (record { view = v; stood = Some stood })).session.connection ≡ Data.Opening (Transfers.Upload path (overtaken_keep keep) d) way
  pub stays : (keep : Keep) → (is_overtaken (overtaken_keep keep) ≡ true) × (is_overtaken keep ≡ true → overtaken_keep keep ≡ keep)
  pub still : (table : Table) (sits : Slot) → still_stands sits.stood (standing_of (exchanged table sits.view).session) ≡ true
      → lent_to table sits ≡ exchanged table sits.view
  pub known : (own : Table) (v : View) → (in_slot_again own v).stood ≡ standing_of v.session

-- ---- what a call is made of

-- the same for the direct run: map, root, current directory, rights, and whether somebody is logged in
abbrev pub IsSame : (s t : Session) → Type 0
IsSame s t = direct_state_of t ≡ direct_state_of s

-- One action of a session: a line is acted on; a transfer that stands ends or breaks; or the direct run sees nothing of it
pub data SessionAction (v w : View) : Type 0 where
  acts : (heard : HeardLine (List ℕ)) → is_idle v ≡ true → w ≡ obeyed heard v → SessionAction v w
  ends : (transfer : Transfer) (s : Session) → v.session.connection ≡ Data.Transferring transfer → IsSame v.session s
      → w ≡ concluded (at_end v.context.moment transfer s) v → SessionAction v w
  breaks : (transfer : Transfer) (s : Session) → v.session.connection ≡ Data.Transferring transfer → IsSame v.session s
      → w ≡ concluded (at_break v.context.moment transfer s) v → SessionAction v w
  rests : IsSame v.session w.session → SessionAction v w

-- actions in order
abbrev pub AreActions : List View → (v w : View) → Type 0
AreActions [] v w = w ≡ v
AreActions (u ∷ us) v w = SessionAction v u × AreActions us u w

abbrev pub Actions : (v w : View) → Type 0
Actions v w = (mids : List View) × AreActions mids v w

-- so is each call
abbrev pub CallsAreActions : Type 0
CallsAreActions = (read : Reading) (cue : Cue) (v : View) → Actions v (call read cue v).1

-- and each turn of several: actions of the session in its slot on the map that stands, whose last leaves the map that stands then
abbrev pub TurnsAreActions : Type 0
TurnsAreActions =
    (read : Reading) (turn : Turn) (s : Several) (sits : Slot) → slice_get s.slots turn.slot ≡ Some sits
    → (w : View) × Actions (lent_to s.table sits) w × ((called read turn s).1.table ≡ w.session.table)
