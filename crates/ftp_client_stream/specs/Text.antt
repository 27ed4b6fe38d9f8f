-- The one text of a file, as an upload gives it (RFC 959, sections 3.1 to 3.5).
use Rattle.std.specs.Prelude.{ℕ, ◌<◌, ◌+◌, ◌^◌, List, length, Option, Some, None, if◌then◌else◌}
use Rattle.ftp_mode.specs.Block.{marked_text}
use Rattle.ftp_mode.specs.Wire.{wire}
use Rattle.ftp_settings.specs.Representation.{form_of, has_markers}
use Rattle.ftp_settings.specs.declared.representation.Representation.{Representation}

-- the one text of a file, with own markers from a start where its settings have them, or without
abbrev pub text_of : Option ℕ → Representation → List ℕ → List ℕ
text_of None settings file = wire settings.mode (form_of settings) file
text_of (Some start) settings file = if has_markers settings then marked_text start file else wire settings.mode (form_of settings) file

-- markers count no further than can be said
abbrev pub CanBeMarked : Option ℕ → List ℕ → Type 0
CanBeMarked None file = Unit {0}
CanBeMarked (Some start) file = start + length file < 2 ^ 64
