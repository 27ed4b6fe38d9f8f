use Rattle.std.proofs.Common.{◌≡◌, ◌+◌, ◌++◌, List, ℕ, drop}
use Rattle.std.specs.Fmt.{HasWritten, IsPlainFormatter}
use Rattle.tool_terminal.specs.escaped.Shown.{octets_shown, shown_from}
use Rattle.tool_terminal.proofs.escaped.shown.ShownDisplay.fmt.Given as goal

-- what was written and what the rest shows, after the character that is written, are what all octets show
abbrev pub invariant-loop-place : goal.invariant-loop-place
invariant-loop-place g l =
    IsPlainFormatter l.fn.formatter
    → (done : List ℕ) × HasWritten g.W.Write.write_str_gives l.fn.formatter done l.formatter
    × (done ++ shown_from 0 (drop (l.place + l.written) l.fn.self.0.now) ≡ octets_shown l.fn.self.0.now)
