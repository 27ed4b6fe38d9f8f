-- The writer of a wire, sign by sign. The laws tie it to the texts of whole files.
use Rattle.std.specs.Prelude.{◌≡◌, ℕ, ◌%◌, ◌^◌, ◌<◌, List, [], ◌∷◌, ◌++◌, length, Bool, false, if◌then◌else◌, ◌&&◌, ◌==◌, nat_lt}
use Rattle.ftp_pieces.specs.Machine.{Machine}
use Rattle.ftp_repr.specs.Signs.{Sign, octet, end_record, end_file}
use Rattle.ftp_settings.specs.declared.representation.Structure.{Structure}
use Rattle.ftp_settings.specs.declared.representation.Structure.TheVariants.{File, Record}
use Rattle.ftp_settings.specs.declared.representation.Mode.{Mode}
use Rattle.ftp_settings.specs.declared.representation.Mode.TheVariants.{Stream, Block as InBlocks}
use Rattle.ftp_mode.specs.Stream.{escaped_octet}
use Rattle.ftp_mode.specs.Block.{block_text, marker_text}
use Rattle.ftp_mode.specs.Count.{count_on, next}
use Rattle.ftp_mode.specs.declared.descriptor.TheConstants.{GOES_ON, END_OF_RECORD, END_OF_FILE, END_OF_BOTH}
use Rattle.ftp_mode.specs.declared.escape.TheConstants.{ESCAPE, RECORD_CODE, FILE_CODE, BOTH_CODE}
use Rattle.ftp_mode.specs.declared.framer.Manner.{Manner}
use Rattle.ftp_mode.specs.declared.framer.Manner.TheVariants.{Copies, Escapes, Blocks, Closed}
use Rattle.ftp_mode.specs.declared.framer.TheConstants.{BLOCK_LIMIT, MARKED}

-- own markers: never with records, none asked for, or the octets of the file are counted, and the last marker or
-- the start stands at `since`
pub data Counting : Type 0 where
  never unmarked : Counting
  counted : (since count : ℕ) → Counting

-- a marker stands before the next octet
abbrev pub is_due : Counting → Bool
is_due never = false
is_due unmarked = false
is_due (counted since count) = nat_lt since count && (count % MARKED == 0)

abbrev pub due_text : Counting → List ℕ
due_text never = []
due_text unmarked = []
due_text (counted since count) = marker_text count

abbrev pub marked : Counting → Counting
marked never = never
marked unmarked = unmarked
marked (counted since count) = counted count count

-- one more octet of the file
abbrev pub counted_on : Counting → Counting
counted_on never = never
counted_on unmarked = unmarked
counted_on (counted since count) = counted since (next count)

-- so many more
abbrev pub counted_far : Counting → ℕ → Counting
counted_far never n = never
counted_far unmarked n = unmarked
counted_far (counted since count) n = counted since (count_on count n)

-- a count of 64 bits
abbrev pub IsCount : Counting → Type 0
IsCount never = Unit {0}
IsCount unmarked = Unit {0}
IsCount (counted since count) = count < 2 ^ 64

-- no marker stands before so many octets
abbrev pub IsFar : Counting → ℕ → Type 0
IsFar n len = (k : ℕ) → k < len → is_due (counted_far n k) ≡ false

-- an end of record, or a block, is held until the next sign says what it goes with
pub data Writing : Type 0 where
  copying : Writing
  free held : Writing
  filling at_record : (xs : List ℕ) (n : Counting) → Writing
  closed : Writing

abbrev pub filled_step : List ℕ → Counting → ℕ → Writing
filled_step xs n c =
    if is_due n then filling (c ∷ []) (counted_on (marked n))
    else (if length xs == BLOCK_LIMIT then filling (c ∷ []) (counted_on n) else filling (xs ++ c ∷ []) (counted_on n))

abbrev pub filled_out : List ℕ → Counting → List ℕ
filled_out xs n = if is_due n then block_text GOES_ON xs ++ due_text n else (if length xs == BLOCK_LIMIT then block_text GOES_ON xs else [])

abbrev pub write_step : Writing → Sign → Writing
write_step copying (octet c) = copying
write_step copying end_record = copying
write_step copying end_file = closed
write_step free (octet c) = free
write_step free end_record = held
write_step free end_file = closed
write_step held (octet c) = free
write_step held end_record = held
write_step held end_file = closed
write_step (filling xs n) (octet c) = filled_step xs n c
write_step (filling xs n) end_record = at_record xs n
write_step (filling xs n) end_file = closed
write_step (at_record xs n) (octet c) = filled_step [] n c
write_step (at_record xs n) end_record = at_record [] n
write_step (at_record xs n) end_file = closed
write_step closed x = closed

abbrev pub write_out : Writing → Sign → List ℕ
write_out copying (octet c) = c ∷ []
write_out copying end_record = []
write_out copying end_file = []
write_out free (octet c) = escaped_octet c
write_out free end_record = []
write_out free end_file = ESCAPE ∷ FILE_CODE ∷ []
write_out held (octet c) = ESCAPE ∷ RECORD_CODE ∷ escaped_octet c
write_out held end_record = ESCAPE ∷ RECORD_CODE ∷ []
write_out held end_file = ESCAPE ∷ BOTH_CODE ∷ []
write_out (filling xs n) (octet c) = filled_out xs n
write_out (filling xs n) end_record = []
write_out (filling xs n) end_file = block_text END_OF_FILE xs
write_out (at_record xs n) (octet c) = block_text END_OF_RECORD xs ++ filled_out [] n
write_out (at_record xs n) end_record = block_text END_OF_RECORD xs
write_out (at_record xs n) end_file = block_text END_OF_BOTH xs
write_out closed x = []

-- how octets are written: as they are, with escape octets, in blocks, or not any more
abbrev pub manner : Writing → Manner
manner copying = Copies
manner free = Escapes
manner held = Escapes
manner (filling xs n) = Blocks
manner (at_record xs n) = Blocks
manner closed = Closed

abbrev pub writer : Machine Writing Sign ℕ
writer = record { step = write_step; out = write_out }

-- nothing was taken
abbrev pub blank_writing : Mode → Structure → Writing
blank_writing Stream File = copying
blank_writing Stream Record = free
blank_writing InBlocks File = filling [] unmarked
blank_writing InBlocks Record = filling [] never

abbrev pub count_from : ℕ → Counting → Counting
count_from start never = never
count_from start unmarked = counted start start
count_from start (counted since count) = counted start start

-- own markers from here on, at a start; without effect but in block mode and file structure
abbrev pub with_marks : ℕ → Writing → Writing
with_marks start copying = copying
with_marks start free = free
with_marks start held = held
with_marks start (filling xs n) = filling xs (count_from start n)
with_marks start (at_record xs n) = at_record xs (count_from start n)
with_marks start closed = closed
