use Rattle.std.proofs.Common.{◌≡◌, ◌++◌, take, drop}
use Rattle.tool_listing.specs.entries.UnixLine.{before_arrow}
use Rattle.tool_listing.proofs.entries.unix_line.arrow_in.Given as goal

-- what stands before a place has no arrow
abbrev pub invariant-loop-place : goal.invariant-loop-place
invariant-loop-place l = take l.place l.name ++ before_arrow (drop l.place l.name) ≡ before_arrow l.name
