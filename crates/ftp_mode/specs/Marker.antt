-- Where own restart markers stand (RFC 959, section 3.5).
use Rattle.std.specs.Prelude.{ℕ, ◌+◌, ◌-◌, ◌/◌, ◌%◌}
use Rattle.ftp_mode.specs.declared.framer.TheConstants.{MARKED}

-- own choice: own markers stand at each multiple of 65,536 octets of the file; this many octets follow a start up
-- to the next such place
abbrev pub to_place : ℕ → ℕ
to_place start = MARKED - start % MARKED

-- how many such places lie after a start and before the end of the file
abbrev pub places : ℕ → ℕ → ℕ
places start count = (start + count - 1) / MARKED - start / MARKED
