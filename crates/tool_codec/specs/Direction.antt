-- What `frame` has done in either direction, between a reader and two writers, of which the second is told a fault.
use Rattle.std.specs.Prelude.{ℕ, List, [], Option}
use Rattle.std.specs.Io.KnownBytes.{Appends}
use Rattle.tool_codec.specs.Frame.{Frames, FramesFront}
use Rattle.tool_codec.specs.WireReading.{Tells, TellsFront}
use Rattle.tool_codec.specs.declared.frames.Direction.{Direction}
use Rattle.tool_codec.specs.declared.frames.Direction.TheVariants.{ToWire, ToFile}
use Rattle.ftp_settings.specs.declared.representation.Representation.{Representation}

-- Of each stream two rows of octets are named: what the reader had left before and after, what the writer held (old, new), and what
-- the second writer held (untold, told).

-- it was done: a file was written as its wire and nothing was told, or a wire was read
abbrev pub GoesInDirection : Representation → Direction → (before after old new untold told : Option (List ℕ)) → ℕ → Type 0
GoesInDirection r (ToWire marks) before after old new untold told status = Frames r marks before after old new status × Appends untold told []
GoesInDirection r ToFile before after old new untold told status = Tells r before after old new untold told status

-- it broke off
abbrev pub GoesFront : Representation → Direction → (before after old new untold told : Option (List ℕ)) → Type 0
GoesFront r (ToWire marks) before after old new untold told = FramesFront r marks before after old new × Appends untold told []
GoesFront r ToFile before after old new untold told = TellsFront r before after old new untold told
