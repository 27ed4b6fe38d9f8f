use Rattle.std.proofs.Common.{◌≡◌, ◌++◌, drop}
use Rattle.tool_terminal.specs.escaped.Shown.{octets_shown, shown_from}
use Rattle.tool_terminal.proofs.escaped.shown.put_shown.Given as goal

-- what was put and what the rest shows are what all octets show
abbrev pub invariant-loop-place : goal.invariant-loop-place
invariant-loop-place l = l.out.items ++ shown_from l.kept (drop l.place l.octets) ≡ l.fn.out.items ++ octets_shown l.octets
