-- Where a file that is read stands between two pieces of its wire.
use Rattle.std.specs.Prelude.{◌≡◌, ℕ, List, [], ◌++◌, ◌⊎◌, Bool, true}
use Rattle.ftp_pieces.specs.Machine.{after, gives}
use Rattle.ftp_repr.specs.Receiving.{fresh, receiving}
use Rattle.ftp_repr.specs.Received.{receiver_form, taking_at_stage}
use Rattle.ftp_mode.specs.declared.fault.FrameFault.{FrameFault}
use Rattle.ftp_mode.specs.declared.fault.FrameFault.TheVariants.{EndedEarly}
use Rattle.ftp_mode.specs.Said.{Said, file_signs}
use Rattle.ftp_mode.specs.Reading.{Reading, IsGoing, reader, start, failed, at_wire_end, is_complete}
use Rattle.ftp_mode.specs.Deframing.{reading, owed}
use Rattle.ftp_mode.specs.Laws.{settled_content, ended_content}
use Rattle.ftp_settings.specs.Representation.{form_of}
use Rattle.ftp_settings.specs.declared.representation.Representation.{Representation}
use Rattle.tool_codec.specs.declared.receiving.WireState.{WireState}
use Rattle.tool_codec.specs.declared.receiving.WireState.TheVariants.{More, Whole, Faulty}
use Rattle.tool_codec.specs.declared.receiving.Receiving.{Receiving}

-- the reader of wires after these octets, and what it said of them
abbrev pub read_by : Representation → List ℕ → Reading
read_by r wire = after reader (start r.mode r.structure) wire

abbrev pub said_by : Representation → List ℕ → List Said
said_by r wire = gives reader (start r.mode r.structure) wire

-- of what these octets of the wire settle, these octets of the file were written, and the rest is kept; no fault was met
pub record StandsAfter {A : Type 0} (r : Representation) (wire written : List ℕ) (now : Receiving A) : Type 0 where
  pub going : IsGoing (read_by r wire)
  pub state : reading now.deframer ≡ read_by r wire
  pub owes : owed now.deframer ≡ []
  pub form : receiver_form now.receiver ≡ form_of r
  pub taken : taking_at_stage now.receiver ≡ after (receiving (form_of r)) fresh (file_signs (said_by r wire))
  pub settled : written ++ now.settled.items ≡ settled_content r.mode (form_of r) wire

-- a fault is met in these octets, or at their end, and the rest of what they settle is kept
pub record FaultyAfter {A : Type 0} (r : Representation) (wire written : List ℕ) (ended : Bool) (fault : FrameFault) (now : Receiving A) : Type 0 where
  pub stops : (read_by r wire ≡ failed fault) ⊎ ((fault ≡ EndedEarly) × (ended ≡ true) × (at_wire_end (read_by r wire) ≡ failed EndedEarly))
  pub settled : written ++ now.settled.items ≡ settled_content r.mode (form_of r) wire

-- these octets, which have ended, read as a file, and the rest of it is kept
pub record WholeAfter {A : Type 0} (r : Representation) (wire written : List ℕ) (ended : Bool) (now : Receiving A) : Type 0 where
  pub whole : ended ≡ true
  pub complete : is_complete (read_by r wire)
  pub settled : written ++ now.settled.items ≡ ended_content r.mode (form_of r) wire

abbrev pub HearsAfter : {A : Type 0} → Representation → List ℕ → List ℕ → Bool → WireState → Receiving A → Type 0
HearsAfter r wire written ended More now = StandsAfter r wire written now
HearsAfter r wire written ended Whole now = WholeAfter r wire written ended now
HearsAfter r wire written ended (Faulty fault) now = FaultyAfter r wire written ended fault now
