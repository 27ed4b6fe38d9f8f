-- What the program has done for a command line, between a reader and two writers, of which the second is told the fault of a wire.
use Rattle.std.specs.Prelude.{ℕ, List, [], Option}
use Rattle.std.specs.Io.KnownBytes.{Appends}
use Rattle.tool_dialogue.specs.Converses.{EndsOff, EndsWell, most_of}
use Rattle.tool_codec.specs.Direction.{GoesInDirection, GoesFront}
use Rattle.tool_codec.specs.FactLines.{TellsAll, TellsFront}
use Rattle.tool_command.specs.declared.task.CommandTask.{CommandTask}
use Rattle.tool_command.specs.declared.task.CommandTask.TheVariants.{Dialogue, Facts, Frame}

-- it was done: a dialogue, the entries of lines, or a file to its wire or back. A is the type of an allocator, and says nothing
abbrev pub DoesTask : Type 0 → CommandTask → (before after old new untold told : Option (List ℕ)) → ℕ → Type 0
DoesTask A (Dialogue piece) before after old new untold told status = EndsWell (most_of piece) before after old new status × Appends untold told []
DoesTask A Facts before after old new untold told status = TellsAll A before after old new status × Appends untold told []
DoesTask A (Frame form direction) before after old new untold told status = GoesInDirection form direction before after old new untold told status

-- it broke off
abbrev pub TaskBreaksOff : Type 0 → CommandTask → (before after old new untold told : Option (List ℕ)) → Type 0
TaskBreaksOff A (Dialogue piece) before after old new untold told = EndsOff (most_of piece) before after old new × Appends untold told []
TaskBreaksOff A Facts before after old new untold told = TellsFront A before after old new × Appends untold told []
TaskBreaksOff A (Frame form direction) before after old new untold told = GoesFront form direction before after old new untold told
