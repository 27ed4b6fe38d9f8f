use Rattle.std.proofs.Common.{◌≡◌, ◌++◌, flat_map, take}
use Rattle.ftp_direct.specs.Listing.{text_line}
use Rattle.ftp_direct.proofs.texts.put_lines.Given as goal

abbrev pub invariant-loop-line : goal.invariant-loop-line
invariant-loop-line g l = l.out.items ≡ l.fn.out.items ++ flat_map text_line (take l.line-index l.lines)
