use Rattle.std.proofs.Common.{◌≡◌, ◌++◌, length}
use Rattle.ftp_facts.specs.Listing.{lines_of}
use Rattle.tool_listing.proofs.entries.text.read_lines.Given as goal

-- what was read, and then the rest
abbrev pub invariant-loop-rest : goal.invariant-loop-rest
invariant-loop-rest l = l.lines.items ++ lines_of l.rest ≡ lines_of l.text

abbrev pub decreases-loop-rest : goal.decreases-loop-rest
decreases-loop-rest l = length l.rest
