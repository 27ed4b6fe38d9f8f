use Rattle.std.proofs.Common.{◌≡◌, ◌++◌, length, map}
use Rattle.ftp_facts.specs.Entry.{listed_of}
use Rattle.ftp_facts.specs.Listing.{lines_of}
use Rattle.tool_listing.specs.entries.Columns.{entries_of_columns, lines_without_column}
use Rattle.tool_listing.proofs.entries.columns.read_columns.Given as goal

-- what was read, and then what the rest says
abbrev pub invariant-loop-rest : goal.invariant-loop-rest
invariant-loop-rest l =
    (map listed_of l.entries.items ++ entries_of_columns (lines_of l.rest) ≡ entries_of_columns (lines_of l.text))
    × (l.odd.items ++ lines_without_column (lines_of l.rest) ≡ lines_without_column (lines_of l.text))

abbrev pub decreases-loop-rest : goal.decreases-loop-rest
decreases-loop-rest l = length l.rest
