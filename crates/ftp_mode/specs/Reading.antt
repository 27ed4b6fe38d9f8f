-- The reader of a wire, octet by octet. The laws tie it to what whole wires read as.
use Rattle.std.specs.Prelude.{ℕ, ◌-◌, List, [], ◌∷◌, ◌++◌, Bool, true, false, if◌then◌else◌, ◌&&◌, ◌==◌, nat_lt, length, IsTrue}
use Rattle.ftp_pieces.specs.Machine.{Machine}
use Rattle.ftp_repr.specs.Signs.{octet}
use Rattle.ftp_settings.specs.declared.representation.Structure.{Structure}
use Rattle.ftp_settings.specs.declared.representation.Structure.TheVariants.{File, Record}
use Rattle.ftp_settings.specs.declared.representation.Mode.{Mode}
use Rattle.ftp_settings.specs.declared.representation.Mode.TheVariants.{Stream, Block as Blocks}
use Rattle.ftp_mode.specs.declared.fault.FrameFault.{FrameFault}
use Rattle.ftp_mode.specs.declared.fault.FrameFault.TheVariants.{BadEscape, Suspect, BadMarker, EndedEarly}
use Rattle.ftp_mode.specs.Said.{Said, says, marker}
use Rattle.ftp_mode.specs.Stream.{is_code, code_said, code_ends}
use Rattle.ftp_settings.specs.Marker.{is_marker_octet}
use Rattle.ftp_settings.specs.declared.marker.TheConstants.{MARKER_LIMIT}
use Rattle.ftp_mode.specs.Block.{has, block_count, ends_of}
use Rattle.ftp_mode.specs.Count.{next}
use Rattle.ftp_mode.specs.Fault.{is_no_length}
use Rattle.ftp_mode.specs.declared.descriptor.TheConstants.{END_OF_FILE, SUSPECTED_ERRORS, RESTART_MARKER}
use Rattle.ftp_mode.specs.declared.escape.TheConstants.{ESCAPE}

-- where in a text the next octet stands
pub data Place : Type 0 where
  plain : Place
  outside escaped : Place
  at_head : Place
  at_high : (d : ℕ) → Place
  at_low : (d high : ℕ) → Place
  inside : (d left : ℕ) → Place
  marking : (d left : ℕ) (text : List ℕ) → Place
  ended : Place

-- `count` octets were read, or one of them stands in no text
pub data Reading : Type 0 where
  going : (count : ℕ) (at : Place) → Reading
  failed : (fault : FrameFault) → Reading

abbrev pub after_block : ℕ → Place
after_block d = if has d END_OF_FILE then ended else at_head

-- the descriptor of a block stands two octets before the last of its header
abbrev pub marker_begins : ℕ → ℕ → ℕ → Reading
marker_begins n d count = if is_no_length count then failed (BadMarker (n - 2)) else going (next n) (marking d count [])

abbrev pub data_begins : ℕ → ℕ → ℕ → Reading
data_begins n d count = going (next n) (if count == 0 then after_block d else inside d count)

abbrev pub place_step : ℕ → Place → ℕ → Reading
place_step n plain c = going (next n) plain
place_step n outside c = going (next n) (if c == ESCAPE then escaped else outside)
place_step n escaped c =
    if is_code c then going (next n) (if code_ends c then ended else outside) else failed (BadEscape n)
place_step n at_head c = if has c SUSPECTED_ERRORS then failed (Suspect n) else going (next n) (at_high c)
place_step n (at_high d) c = going (next n) (at_low d c)
place_step n (at_low d high) c = if has d RESTART_MARKER then marker_begins n d (block_count high c) else data_begins n d (block_count high c)
place_step n (inside d left) c = going (next n) (if left == 1 then after_block d else inside d (left - 1))
place_step n (marking d left text) c =
    if is_marker_octet c && nat_lt (length text) MARKER_LIMIT then going (next n) (if left == 1 then after_block d else marking d (left - 1) (text ++ c ∷ []))
    else failed (BadMarker n)
place_step n ended c = going (next n) ended

abbrev pub place_out : Place → ℕ → List Said
place_out plain c = says (octet c) ∷ []
place_out outside c = if c == ESCAPE then [] else says (octet c) ∷ []
place_out escaped c = code_said c
place_out at_head c = []
place_out (at_high d) c = []
place_out (at_low d high) c = if has d RESTART_MARKER then [] else (if block_count high c == 0 then ends_of d else [])
place_out (inside d left) c = says (octet c) ∷ (if left == 1 then ends_of d else [])
place_out (marking d left text) c =
    if is_marker_octet c && nat_lt (length text) MARKER_LIMIT then (if left == 1 then marker (text ++ c ∷ []) ∷ ends_of d else []) else []
place_out ended c = []

abbrev pub read_step : Reading → ℕ → Reading
read_step (going n at) c = place_step n at c
read_step (failed fault) c = failed fault

abbrev pub read_out : Reading → ℕ → List Said
read_out (going n at) c = place_out at c
read_out (failed fault) c = []

abbrev pub reader : Machine Reading ℕ Said
reader = record { step = read_step; out = read_out }

abbrev pub first_place : Mode → Structure → Place
first_place Stream File = plain
first_place Stream Record = outside
first_place Blocks s = at_head

-- no octet was read
abbrev pub start : Mode → Structure → Reading
start m s = going 0 (first_place m s)

-- no octet stood in no text, and the connection has not ended early
abbrev pub IsGoing : Reading → Type 0
IsGoing (going n at) = Unit {0}
IsGoing (failed fault) = ⊥

-- a connection that ends there ends the file: the end of file came, or no wire of the kind has one
abbrev pub is_complete_at : Place → Bool
is_complete_at plain = true
is_complete_at outside = false
is_complete_at escaped = false
is_complete_at at_head = false
is_complete_at (at_high d) = false
is_complete_at (at_low d high) = false
is_complete_at (inside d left) = false
is_complete_at (marking d left text) = false
is_complete_at ended = true

abbrev pub is_complete : Reading → Type 0
is_complete (going n at) = IsTrue (is_complete_at at)
is_complete (failed fault) = ⊥

-- the state once the connection has ended: without an end of file that came it ended early, if nothing was wrong before
abbrev pub at_wire_end : Reading → Reading
at_wire_end (going n at) = if is_complete_at at then going n at else failed EndedEarly
at_wire_end (failed fault) = failed fault

-- the state once the connection broke: behind the end of file nothing is missing
abbrev pub broken_at : ℕ → Place → Reading
broken_at n plain = failed EndedEarly
broken_at n outside = failed EndedEarly
broken_at n escaped = failed EndedEarly
broken_at n at_head = failed EndedEarly
broken_at n (at_high d) = failed EndedEarly
broken_at n (at_low d high) = failed EndedEarly
broken_at n (inside d left) = failed EndedEarly
broken_at n (marking d left text) = failed EndedEarly
broken_at n ended = going n ended

abbrev pub broken_state : Reading → Reading
broken_state (going n at) = broken_at n at
broken_state (failed fault) = failed fault
