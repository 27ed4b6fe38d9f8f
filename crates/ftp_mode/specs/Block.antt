-- Block mode: a header of three octets, a descriptor and a count, and then that many octets (RFC 959, section
-- 3.4.2).
use Rattle.std.specs.Prelude.{◌≡◌, ℕ, zero, suc, ◌+◌, ◌-◌, ◌*◌, ◌/◌, ◌%◌, List, [], ◌∷◌, ◌++◌, length, take, drop, Bool, true, false, if◌then◌else◌, not, ◌==◌, bit_and, decimal}
use Rattle.ftp_repr.specs.Signs.{Sign, octet, end_record, end_file}
use Rattle.ftp_mode.specs.Said.{Said, says, marker, octets_said}
use Rattle.ftp_settings.specs.Marker.{IsMarker}
use Rattle.ftp_mode.specs.Marker.{to_place, places}
use Rattle.ftp_mode.specs.declared.descriptor.TheConstants.{GOES_ON, END_OF_RECORD, END_OF_FILE, END_OF_BOTH, SUSPECTED_ERRORS, RESTART_MARKER}
use Rattle.ftp_mode.specs.declared.framer.TheConstants.{BLOCK_LIMIT}

-- a bit of a descriptor: an end of record, the end of file, suspected errors, a restart marker; own choice: the others
-- say nothing
abbrev pub has : ℕ → ℕ → Bool
has d bit = not (bit_and d bit == 0)

pub record Block : Type 0 where
  pub descriptor : ℕ
  pub high : ℕ
  pub low : ℕ
  pub octets : List ℕ

abbrev pub block_octets : Block → List ℕ
block_octets b = b.descriptor ∷ b.high ∷ b.low ∷ b.octets

abbrev pub block_count : ℕ → ℕ → ℕ
block_count high low = high * 256 + low

-- the ends that a descriptor names, that of the record first
abbrev pub ends_of : ℕ → List Said
ends_of d = (if has d END_OF_RECORD then says end_record ∷ [] else []) ++ (if has d END_OF_FILE then says end_file ∷ [] else [])

-- the octets of a block are data or, with that bit, a marker
abbrev pub octets_of : ℕ → List ℕ → List Said
octets_of d xs = if has d RESTART_MARKER then marker xs ∷ [] else octets_said xs

-- what a block says: its octets before its ends
abbrev pub block_said : Block → List Said
block_said b = octets_of b.descriptor b.octets ++ ends_of b.descriptor

-- a block of a text: no suspected errors, as many octets as it counts, and those of a marker are one
pub record IsBlock (b : Block) : Type 0 where
  pub sound : has b.descriptor SUSPECTED_ERRORS ≡ false
  pub counted : block_count b.high b.low ≡ length b.octets
  pub marked : has b.descriptor RESTART_MARKER ≡ true → IsMarker b.octets

-- the block that is written for octets
abbrev pub block_text : ℕ → List ℕ → List ℕ
block_text d xs = d ∷ (length xs / 256) ∷ (length xs % 256) ∷ xs

-- the block of a marker that says how many octets of the file stand before it
abbrev pub marker_text : ℕ → List ℕ
marker_text count = block_text RESTART_MARKER (decimal count)

-- octets in blocks: so many of 8,192 octets first, and then one of the rest, with this descriptor
abbrev pub blocks_text : ℕ → ℕ → List ℕ → List ℕ
blocks_text zero d xs = block_text d xs
blocks_text (suc k) d xs = block_text GOES_ON (take BLOCK_LIMIT xs) ++ blocks_text k d (drop BLOCK_LIMIT xs)

-- own choice: octets up to an end go in blocks of 8,192 octets, the last one of 1 to 8,192 and of none only where
-- there are none; its descriptor says what ends there
abbrev pub data_text : ℕ → List ℕ → List ℕ
data_text d xs = blocks_text ((length xs - 1) / BLOCK_LIMIT) d xs

-- the text of a file: each record, and the tail, goes by itself; an end of record right before the end of file
-- stands in the same header. `before` are the octets since the last end of record
abbrev pub rows_text : List ℕ → List Sign → List ℕ
rows_text before [] = []
rows_text before (octet c ∷ ss) = rows_text (before ++ c ∷ []) ss
rows_text before (end_record ∷ []) = []
rows_text before (end_record ∷ octet c ∷ ss) = data_text END_OF_RECORD before ++ rows_text [] (octet c ∷ ss)
rows_text before (end_record ∷ end_record ∷ ss) = data_text END_OF_RECORD before ++ rows_text [] (end_record ∷ ss)
rows_text before (end_record ∷ end_file ∷ ss) = data_text END_OF_BOTH before
rows_text before (end_file ∷ ss) = data_text END_OF_FILE before

-- the text of octets with so many own markers, the first at the next place after a start
abbrev pub marks_text : ℕ → ℕ → List ℕ → List ℕ
marks_text zero start b = data_text END_OF_FILE b
marks_text (suc k) start b =
    data_text GOES_ON (take (to_place start) b)
    ++ (marker_text (start + to_place start) ++ marks_text k (start + to_place start) (drop (to_place start) b))

-- the text of a file in file structure with own markers, which count the octets of the file from a start
abbrev pub marked_text : ℕ → List ℕ → List ℕ
marked_text start b = marks_text (places start (length b)) start b
