use Rattle.std.proofs.Common.{length, take, ◌-◌, ◌≤◌, ◌≡◌, List}
use Rattle.ftp_nvt.specs.Ear.{Hears}
use Rattle.ftp_nvt.specs.Lines.{NvtEvent}
use Rattle.rows_lines.proofs.caller.events_in.Given as goal

abbrev pub invariant-loop-taken : goal.invariant-loop-taken
invariant-loop-taken g l = record {
  within : l.taken ≤ length l.piece;
  few : l.count ≤ l.taken;
  heard : (added : List NvtEvent) × (length added ≡ l.count) × Hears l.fn.ear (take l.taken l.piece) added l.ear;
}

abbrev pub decreases-loop-taken : goal.decreases-loop-taken
decreases-loop-taken g l = length l.piece - l.taken
