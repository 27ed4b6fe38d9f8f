use Rattle.std.proofs.Common.{◌≡◌, length}
use Rattle.std.specs.List.{list_all}
use Rattle.ftp_facts.specs.Listing.{lines_of}
use Rattle.tool_listing.specs.entries.Text.{is_aside}
use Rattle.tool_listing.proofs.entries.text.lists_nothing.Given as goal

-- what the rest says is what all of it does
abbrev pub invariant-loop-rest : goal.invariant-loop-rest
invariant-loop-rest l = list_all is_aside (lines_of l.rest) ≡ list_all is_aside (lines_of l.text)

abbrev pub decreases-loop-rest : goal.decreases-loop-rest
decreases-loop-rest l = length l.rest
