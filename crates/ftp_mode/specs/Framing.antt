-- What a framer has still to write.
use Rattle.std.specs.Prelude.{◌≡◌, ℕ, ◌+◌, ◌<◌, ◌≤◌, List, [], ◌++◌, drop, length, map, Bool, true, false}
use Rattle.ftp_pieces.specs.Machine.{after, gives}
use Rattle.ftp_repr.specs.Signs.{Sign, octet}
use Rattle.ftp_mode.specs.declared.framer.Stage.{Stage}
use Rattle.ftp_mode.specs.declared.framer.Stage.TheVariants.{Copying, Free, Held, Filling, AtRecord, Leaving, Last, Closed}
use Rattle.ftp_mode.specs.declared.framer.Marks.{Marks}
use Rattle.ftp_mode.specs.declared.framer.Marks.TheVariants.{Never, Unmarked, Counted}
use Rattle.ftp_mode.specs.declared.framer.Framer.{Framer}
use Rattle.ftp_mode.specs.Block.{block_text}
use Rattle.ftp_mode.specs.Writing.{Writing, copying, free, held, filling, at_record, closed, Counting, never, unmarked, counted, IsFar, writer, write_step, write_out}
use Rattle.ftp_mode.specs.declared.framer.TheConstants.{BLOCK_LIMIT}

-- the octets of the held block that are decided and not yet out
abbrev pub owed_block : Stage → List ℕ → List ℕ
owed_block Copying xs = []
owed_block Free xs = []
owed_block Held xs = []
owed_block Filling xs = []
owed_block AtRecord xs = []
owed_block (Leaving d at) xs = drop at (block_text d xs)
owed_block (Last d at) xs = drop at (block_text d xs)
owed_block Closed xs = []

abbrev pub counting : Marks → Counting
counting Never = never
counting Unmarked = unmarked
counting (Counted since count) = counted since count

abbrev pub writing_of : Stage → List ℕ → Counting → Writing
writing_of Copying xs n = copying
writing_of Free xs n = free
writing_of Held xs n = held
writing_of Filling xs n = filling xs n
writing_of AtRecord xs n = at_record xs n
writing_of (Leaving d at) xs n = filling [] n
writing_of (Last d at) xs n = closed
writing_of Closed xs n = closed

-- a framer's stage, block and marks, as the writer's state
abbrev pub writing : Framer → Writing
writing f = writing_of f.stage f.block.items (counting f.marks)

-- the octets that are decided and not yet out
abbrev pub owed_octets : Framer → List ℕ
owed_octets f = owed_block f.stage f.block.items ++ f.owed.items

-- the octets still to come, where these signs are
abbrev pub still_to_write : Framer → List Sign → List ℕ
still_to_write f ss = owed_octets f ++ gives writer (writing f) ss

-- no decided block is under way
abbrev pub is_open : Stage → Bool
is_open Copying = true
is_open Free = true
is_open Held = true
is_open Filling = true
is_open AtRecord = true
is_open (Leaving d at) = false
is_open (Last d at) = false
is_open Closed = true

-- all that was decided is out
pub record IsClear (f : Framer) : Type 0 where
  pub open_stage : is_open f.stage ≡ true
  pub empty : f.owed.items ≡ []

-- a sign was taken
pub record Takes (old : Framer) (x : Sign) (new : Framer) : Type 0 where
  pub state : writing new ≡ write_step (writing old) x
  pub gives : owed_octets new ≡ write_out (writing old) x

-- a sign waits, and something was decided before it
pub record Waits (old : Framer) (x : Sign) (new : Framer) : Type 0 where
  pub state : write_step (writing new) x ≡ write_step (writing old) x
  pub gives : owed_octets new ++ write_out (writing new) x ≡ write_out (writing old) x
  pub some : 0 < length (owed_octets new)

-- so many octets go into the block, and nothing is written before them
pub record FillsBlock (f : Framer) (len : ℕ) : Type 0 where
  pub stage : f.stage ≡ Filling
  pub room : length f.block.items + len ≤ BLOCK_LIMIT
  pub far : IsFar (counting f.marks) len

-- octets were taken, and nothing is decided by them
pub record TakesRun (old : Framer) (xs : List ℕ) (new : Framer) : Type 0 where
  pub state : writing new ≡ after writer (writing old) (map octet xs)
  pub quiet : gives writer (writing old) (map octet xs) ≡ []
  pub clear : IsClear new

-- octets that go as they are, whatever follows
abbrev pub AreRun : Writing → List ℕ → Type 0
AreRun w xs = (more : List Sign) → gives writer w (map octet xs ++ more) ≡ xs ++ gives writer w more
