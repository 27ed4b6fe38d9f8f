-- What a line does to the map, or leaves of it (RFC 959, section 4.1.3).
use Rattle.std.specs.Prelude.{◌≡◌, ℕ, Bool, true, false, List}
use Rattle.ftp_command.specs.declared.command.Command.{Command}
use Rattle.ftp_command.specs.declared.command.Command.TheVariants as command
use Rattle.ftp_operation.specs.Rights.{no_rights}
use Rattle.ftp_path.specs.Path.{Names}
use Rattle.ftp_tree.specs.Tree.{Table}
use Rattle.ftp_server_model.specs.Act.{decided}
use Rattle.ftp_server_model.specs.Held.{HasShortFiles}
use Rattle.ftp_server_model.specs.View.{Context, Session, seen, with_seen}
use Rattle.ftp_server_model.specs.declared.heard.HeardLine.{HeardLine}
use Rattle.ftp_server_model.specs.declared.heard.HeardLine.TheVariants.{TooLong, Bad, Asks}
use Rattle.ftp_server_model.specs.declared.session.Pending.{Pending}
use Rattle.ftp_server_model.specs.declared.session.Pending.TheVariants as Pendings

-- the commands that change the map where their line is acted on, but for a refusal
abbrev pub changes : Pending Names → Command (List ℕ) → Bool
changes pending (command.Mkd text) = true
changes pending (command.Rmd text) = true
changes pending (command.Dele text) = true
changes (Pendings.Rename from) (command.Rnto text) = true
changes pending other = false

-- a line that is too long, says no command, or says another, leaves the map as it is
abbrev pub line_changes : Pending Names → HeardLine (List ℕ) → Bool
line_changes pending TooLong = false
line_changes pending (Bad fault) = false
line_changes pending (Asks c) = changes pending c

-- it stays, or this comes in place of what the session sees of it
pub data Mapped : Type 0 where
  Unchanged : Mapped
  Changes : (new : Table) → Mapped

-- The map then. It changes only by a line that may change it, of somebody who has a right to change, and at and below the session's root alone; its limits
-- stay, and no file grows past the limit
abbrev pub MappedSo : Mapped → Bool → Session → Table → Type 0
MappedSo Unchanged changing s table = table ≡ s.table
MappedSo (Changes new) changing s table =
    (changing ≡ true) × (¬ (s.rights ≡ no_rights)) × (table ≡ (with_seen new s).table) × (new.limits ≡ (seen s).limits)
    × (HasShortFiles s.table → HasShortFiles (with_seen new s).table)

-- so it is of every line
abbrev pub LinesChangeTheMap : Type 0
LinesChangeTheMap =
    (context : Context) (heard : HeardLine (List ℕ)) (pending : Pending Names) (s : Session)
    → (mapped : Mapped) × MappedSo mapped (line_changes pending heard) s (decided context heard pending s).0.table
