-- How an operation fared, and what that lets stand: whole, as run directly on the map; cut, as its link broke; not opened; or lost,
-- as the control connection ended. No command, reply or connection stands here but the wire that was cut.
use Rattle.std.specs.Prelude.{◌≡◌, ◌⊎◌, ℕ, ◌+◌, ◌<◌, List, [], ◌∷◌, ◌++◌, length, take, drop, Option, Some, None, IsTrue}
use Rattle.std.specs.Option.{is_some}
use Rattle.ftp_operation.specs.Answer.{Said, Broken as BrokenOff, Unopened as NotOpened, Lost as LostOff}
use Rattle.ftp_direct.specs.declared.refusal.Refusal.TheVariants as Refusals
use Rattle.ftp_direct.specs.Direct.{State, answer, first_refusal, named, named_or_here, part, changed, file_of, skipped}
use Rattle.ftp_operation.specs.Operation.{can_be_sent}
use Rattle.ftp_direct.specs.Listing.{listing_file}
use Rattle.ftp_operation.specs.declared.op.How.{How}
use Rattle.ftp_operation.specs.declared.op.ListVerb.{ListVerb}
use Rattle.ftp_operation.specs.declared.op.ListVerb.TheVariants as Verbs
use Rattle.ftp_operation.specs.declared.op.Op.{Op}
use Rattle.ftp_operation.specs.declared.op.Op.TheVariants as Ops
use Rattle.ftp_mode.specs.Laws.{settled_content}
use Rattle.ftp_mode.specs.Said.{Said as WireSaid, says, marker}
use Rattle.ftp_pieces.specs.Machine.{IsFront}
use Rattle.ftp_path.specs.Path.{Names}
use Rattle.ftp_tree.specs.Tree.{installed, octets_refusal}
use Rattle.ftp_wire.specs.Decoder.{Decoder, no_octets, octet_says, decoded_octet}
use Rattle.ftp_settings.specs.Representation.{form_of, has_markers}
use Rattle.ftp_client_model.specs.Octets.{written, upload_text, last_mark}
use Rattle.ftp_client_model.specs.Plan.{settings_of, listing_settings, how_of}
use Rattle.ftp_settings.specs.declared.representation.Representation.{Representation}

-- what a lost operation did: nothing, all, or what the front of its wire lets stand
pub data Part : Type 0 where
  Nothing All : Part
  Front : (wire : List ℕ) → Part

-- how an operation fared
pub data Outcome : Type 0 where
  Whole : Outcome
  Cut : (wire : List ℕ) → Outcome
  Unopened : Outcome
  Lost : (part : Part) → Outcome

-- ---- the wire of a transfer

-- an upload: octets that go behind those that are kept of the file at a path, with the place from which own markers count
pub record Stored : Type 0 where
  pub path : Names
  pub kept : List ℕ
  pub start : ℕ
  pub octets : List ℕ
  pub how : How

-- the upload that an operation asks for, if it is one
abbrev pub upload_of : State → Op (List ℕ) → Option Stored
upload_of state (Ops.Put text octets how) = Some (record { path = named state text; kept = []; start = 0; octets = octets; how = how })
upload_of state (Ops.Append text octets how) =
    Some (record { path = named state text; kept = file_of state text; start = 0; octets = octets; how = how })
upload_of state (Ops.PutFrom text offset octets how) =
    Some (record { path = named state text; kept = take (skipped state (named state text) how offset) (file_of state text); start = offset; octets = octets; how = how })
upload_of state other = None

-- a download: octets in some settings, with the place from which markers count; of a Peek, how many of them it asks for
pub record Fetched : Type 0 where
  pub settings : Representation
  pub start : ℕ
  pub octets : List ℕ
  pub asked : Option ℕ

-- the file that a command sends as a listing, MLSD where all facts are in force
abbrev pub listing_text_by : ListVerb → State → List ℕ → List ℕ
listing_text_by verb state text = listing_file verb (part state) (named_or_here state text) text

-- octets that all are asked for
abbrev pub fetched : Representation → ℕ → List ℕ → Fetched
fetched settings start octets = record { settings = settings; start = start; octets = octets; asked = None }

-- the download or the listing that an operation asks for, if it is one; the server sends the whole file of a Peek
abbrev pub download_of : State → Op (List ℕ) → Option Fetched
download_of state (Ops.Get text how) = Some (fetched (settings_of how) 0 (file_of state text))
download_of state (Ops.GetFrom text offset how) =
    Some (fetched (settings_of how) offset (drop (skipped state (named state text) how offset) (file_of state text)))
download_of state (Ops.Peek text count how) = Some (record (fetched (settings_of how) 0 (file_of state text)) { asked = Some count })
download_of state (Ops.List text how) = Some (fetched (listing_settings how.representation.mode) 0 (listing_text_by Verbs.Mlsd state text))
download_of state (Ops.Names text how) = Some (fetched (listing_settings how.representation.mode) 0 (listing_text_by Verbs.Nlst state text))
download_of state (Ops.Text verb text how) = Some (fetched (listing_settings how.representation.mode) 0 (listing_text_by verb state text))
download_of state other = None

-- its one written text; the server sends own markers wherever the settings allow them
abbrev pub download_text : Fetched → List ℕ
download_text d = written (has_markers d.settings) d.settings d.start d.octets

-- ---- what a cut wire lets stand

-- the octets of the file that a wire settles which was cut
abbrev pub front : Representation → List ℕ → List ℕ
front settings wire = settled_content settings.mode (form_of settings) wire

-- the last marker that stands whole in a wire, as a number
abbrev pub mark_in : Decoder → Option ℕ → List ℕ → Option ℕ
mark_in d mark [] = mark
mark_in d mark (octet ∷ wire) = mark_in (decoded_octet d octet) (last_mark mark (octet_says d octet)) wire

-- where an octet ends a marker, the octets of the file up to there
abbrev pub reached : ℕ → Option ℕ → List WireSaid → Option ℕ
reached count mark [] = mark
reached count mark (says sign ∷ more) = reached count mark more
reached count mark (marker text ∷ more) = Some count

-- the mmmm of the last marker that stands whole in a wire: the octets that are kept and those that were settled before it
abbrev pub mmmm_in : ℕ → Decoder → Option ℕ → List ℕ → Option ℕ
mmmm_in kept d mark [] = mark
mmmm_in kept d mark (octet ∷ wire) =
    mmmm_in kept (decoded_octet d octet) (reached (kept + length d.content) mark (octet_says d octet)) wire

-- a cut upload leaves what was kept and settled, and a cut download gives what was settled
abbrev pub cut_upload : Stored → State → ℕ → List ℕ → Said × State
cut_upload u state moment wire = (
  BrokenOff [] (mmmm_in (length u.kept) (no_octets (settings_of u.how)) None wire),
  changed state (installed (part state) u.path (u.kept ++ front (settings_of u.how) wire) moment),
)

-- the client has what was settled, and the last marker that came whole; the map stays
abbrev pub cut_download : Fetched → State → List ℕ → Said × State
cut_download d state wire = (BrokenOff (front d.settings wire) (mark_in (no_octets d.settings) None wire), state)

-- by what the operation transfers; one without a transfer cannot be cut
abbrev pub cut_by : Option Stored → Option Fetched → State → ℕ → List ℕ → Said × State
cut_by (Some u) down state moment wire = cut_upload u state moment wire
cut_by None (Some d) state moment wire = cut_download d state wire
cut_by None None state moment wire = (NotOpened, state)

-- the answer of an operation whose wire was cut, and the state after it
abbrev pub cut : State → Op (List ℕ) → ℕ → List ℕ → Said × State
cut state op moment wire = cut_by (upload_of state op) (download_of state op) state moment wire

-- ---- what an operation did

-- the state that a lost operation leaves
abbrev pub lost_state : Part → State → Op (List ℕ) → ℕ → State
lost_state Nothing state op moment = state
lost_state All state op moment = (answer state op moment).1
lost_state (Front wire) state op moment = (cut state op moment wire).1

-- the answer of an operation that fared so, and the state after it
abbrev pub did : Outcome → State → Op (List ℕ) → ℕ → Said × State
did Whole state op moment = answer state op moment
did (Cut wire) state op moment = cut state op moment wire
did Unopened state op moment = (NotOpened, state)
did (Lost part) state op moment = (LostOff, lost_state part state op moment)

-- ---- what can have been cut

-- it is refused for nothing, or only as its octets are too many
abbrev pub IsTaken : State → Op (List ℕ) → Type 0
IsTaken state op = IsTrue (can_be_sent op) × ((first_refusal state op ≡ None) ⊎ (first_refusal state op ≡ Some Refusals.TooMuch))

-- own choice: a Peek that has the octets that it asked for is not cut
abbrev pub IsShort : Option ℕ → List ℕ → Type 0
IsShort None octets = Unit {0}
IsShort (Some count) octets = length octets < count

-- the wire is a front of the one text, and what it leaves passes no limit
abbrev pub IsCutOf : Option Stored → Option Fetched → State → List ℕ → Type 0
IsCutOf (Some u) down state wire =
    IsFront wire (upload_text u.how u.start u.octets)
    × (octets_refusal (part state) u.path (length (u.kept ++ front (settings_of u.how) wire)) ≡ None)
IsCutOf None (Some d) state wire = IsFront wire (download_text d) × IsShort d.asked (front d.settings wire)
IsCutOf None None state wire = ⊥

-- the octets of this wire are what the receiving end took of an operation's transfer
abbrev pub CanBeCut : State → Op (List ℕ) → List ℕ → Type 0
CanBeCut state op wire = IsTaken state op × IsCutOf (upload_of state op) (download_of state op) state wire

-- a front of its wire can be what was done only where that can be cut so
abbrev pub CanBeLost : Part → State → Op (List ℕ) → Type 0
CanBeLost Nothing state op = Unit {0}
CanBeLost All state op = Unit {0}
CanBeLost (Front wire) state op = CanBeCut state op wire

-- an operation has a transfer, and so a link
abbrev pub HasLink : Op (List ℕ) → Type 0
HasLink op = IsTrue (is_some (how_of op))

-- an operation can have fared so
abbrev pub CanBe : Outcome → State → Op (List ℕ) → Type 0
CanBe Whole state op = Unit {0}
CanBe (Cut wire) state op = CanBeCut state op wire
CanBe Unopened state op = HasLink op
CanBe (Lost part) state op = CanBeLost part state op
