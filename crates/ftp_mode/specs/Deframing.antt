-- What a deframer made of a piece.
use Rattle.std.specs.Prelude.{◌≡◌, ℕ, ◌+◌, ◌-◌, ◌<◌, ◌≤◌, ◌⊎◌, List, [], ◌∷◌, ◌++◌, length, take}
use Rattle.ftp_pieces.specs.Machine.{after, gives}
use Rattle.ftp_repr.specs.Signs.{end_record, end_file}
use Rattle.ftp_mode.specs.declared.fault.FrameFault.{FrameFault}
use Rattle.ftp_mode.specs.declared.step.Part.{Part}
use Rattle.ftp_mode.specs.declared.step.Part.TheVariants.{Need, Data, EndRecord, EndFile, Marker}
use Rattle.ftp_mode.specs.declared.step.Step.{Step}
use Rattle.ftp_mode.specs.declared.deframer.State.{State}
use Rattle.ftp_mode.specs.declared.deframer.State.TheVariants.{Plain, Outside, Escaped, Head, High, Low, Inside, Marking, Ended, Failed}
use Rattle.ftp_mode.specs.declared.deframer.Owed.{Owed}
use Rattle.ftp_mode.specs.declared.deframer.Owed.TheVariants.{Nothing, Record, Both, File}
use Rattle.ftp_mode.specs.declared.deframer.Gave.{Gave}
use Rattle.ftp_mode.specs.declared.deframer.Gave.TheVariants.{Nothing as GaveNothing, Octets as GaveOctets, Marker as GaveMarker}
use Rattle.ftp_mode.specs.declared.deframer.Bite.{Bite}
use Rattle.ftp_mode.specs.declared.deframer.Deframer.{Deframer}
use Rattle.ftp_mode.specs.Said.{Said, says, marker, octets_said}
use Rattle.ftp_mode.specs.Reading.{Reading, IsGoing, going, failed, plain, outside, escaped, at_head, at_high, at_low, inside, marking, ended, reader, read_step, read_out}

-- what a part says, where this is the last marker
abbrev pub part_said : Part → List ℕ → List Said
part_said Need text = []
part_said (Data piece) text = octets_said piece.now
part_said EndRecord text = says end_record ∷ []
part_said EndFile text = says end_file ∷ []
part_said Marker text = marker text ∷ []

-- a deframer's state, count of octets and marker, as the reader's state
abbrev pub reading_of : State → ℕ → List ℕ → Reading
reading_of Plain n text = going n plain
reading_of Outside n text = going n outside
reading_of Escaped n text = going n escaped
reading_of Head n text = going n at_head
reading_of (High d) n text = going n (at_high d)
reading_of (Low d high) n text = going n (at_low d high)
reading_of (Inside d before_last) n text = going n (inside d (before_last + 1))
reading_of (Marking d before_last) n text = going n (marking d (before_last + 1) text)
reading_of Ended n text = going n ended
reading_of (Failed fault) n text = failed fault

abbrev pub reading : Deframer → Reading
reading f = reading_of f.state f.place f.marker.items

-- the marker that was read last
abbrev pub last_marker : Deframer → List ℕ
last_marker f = f.marker.items

-- how many octets of the last piece came with the fault that was given last
abbrev pub taken_with_fault : Deframer → ℕ
taken_with_fault f = f.with_fault

-- what was read and not yet given: ends
abbrev pub owed_said : Owed → List Said
owed_said Nothing = []
owed_said Record = says end_record ∷ []
owed_said Both = says end_record ∷ says end_file ∷ []
owed_said File = says end_file ∷ []

abbrev pub owed : Deframer → List Said
owed f = owed_said f.owed

-- the last of n octets say this, each one thing and the last perhaps more behind it; those before them say nothing
pub record SaysLast (from : Reading) (piece : List ℕ) (n : ℕ) (said : List Said) : Type 0 where
  pub fits : length said ≤ n
  pub each : (i : ℕ) → i < length said → gives reader from (take (n - length said + i) piece) ≡ take i said

-- the octets that were taken give the part, the last of them one by one, and what is owed behind it; nothing, only where the piece
-- was taken whole and nothing is owed; and but for ends that are owed, only where no fault was met
pub record Hears (old : Deframer) (piece : List ℕ) (step : Step) (new : Deframer) : Type 0 where
  pub within : step.taken ≤ length piece
  pub state : reading new ≡ after reader (reading old) (take step.taken piece)
  pub says : part_said step.part (last_marker new) ++ owed new ≡ owed old ++ gives reader (reading old) (take step.taken piece)
  pub some : (0 < length (part_said step.part (last_marker new))) ⊎ ((step.part ≡ Need) × (step.taken ≡ length piece) × (owed new ≡ []))
  pub by_last : (step.taken ≡ 0) ⊎ SaysLast (reading old) piece step.taken (part_said step.part (last_marker new))
  pub fine : owed old ≡ [] → IsGoing (reading new)

-- the octets that were taken give nothing, and the last of them is the first that stands in no text; of none, it was so before
pub record Fails (old : Deframer) (piece : List ℕ) (taken : ℕ) (fault : FrameFault) (new : Deframer) : Type 0 where
  pub within : taken ≤ length piece
  pub state : reading new ≡ after reader (reading old) (take taken piece)
  pub fails : reading new ≡ failed fault
  pub first : 0 < taken → IsGoing (after reader (reading old) (take (taken - 1) piece))
  pub quiet : owed old ++ gives reader (reading old) (take taken piece) ≡ []
  pub owes : owed new ≡ []

-- what a bite gave: its octets, or the marker that they end
abbrev pub gave_said : Gave → List ℕ → List ℕ → List Said
gave_said GaveNothing xs text = []
gave_said GaveOctets xs text = octets_said xs
gave_said GaveMarker xs text = marker text ∷ []

-- octets bring a reader from a state to a state, and say this
pub record MovesReading (before now : Reading) (w : List ℕ) (said : List Said) : Type 0 where
  pub state : now ≡ after reader before w
  pub says : said ≡ gives reader before w

-- a few octets in front of a piece, one at least; ends come with one
pub record Bites (old : Deframer) (piece : List ℕ) (bite : Bite) (new : Deframer) : Type 0 where
  pub some : 0 < bite.taken
  pub within : bite.taken ≤ length piece
  pub moves : MovesReading (reading old) (reading new) (take bite.taken piece)
      (gave_said bite.gave (take bite.taken piece) (last_marker new) ++ owed new)
  pub by_last : SaysLast (reading old) piece bite.taken (gave_said bite.gave (take bite.taken piece) (last_marker new))
  pub alone : bite.gave ≡ GaveNothing → (bite.taken ≡ 1) ⊎ (owed new ≡ [])
  pub fine : IsGoing (reading new)

-- one octet
pub record Reads (old : Deframer) (octet : ℕ) (gave : Gave) (new : Deframer) : Type 0 where
  pub state : reading new ≡ read_step (reading old) octet
  pub says : gave_said gave (octet ∷ []) (last_marker new) ++ owed new ≡ read_out (reading old) octet
  pub fine : IsGoing (reading new)

pub record Refuses (old : Deframer) (octet : ℕ) (fault : FrameFault) (new : Deframer) : Type 0 where
  pub state : reading new ≡ read_step (reading old) octet
  pub fails : reading new ≡ failed fault
  pub quiet : read_out (reading old) octet ≡ []
  pub owes : owed new ≡ owed old

-- the octet that is next is no data as it stands
abbrev pub IsControl : State → Type 0
IsControl Plain = ⊥
IsControl Outside = ⊥
IsControl Escaped = Unit {0}
IsControl Head = Unit {0}
IsControl (High d) = Unit {0}
IsControl (Low d high) = Unit {0}
IsControl (Inside d before_last) = ⊥
IsControl (Marking d before_last) = Unit {0}
IsControl Ended = ⊥
IsControl (Failed fault) = Unit {0}
