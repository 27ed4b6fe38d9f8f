use Rattle.std.proofs.Common.{length, ◌-◌, ◌≤◌, take, []}
use Rattle.ftp_nvt.specs.Ear.{Hears}
use Rattle.ftp_nvt.proofs.ear.Ear.feed.Given as goal

abbrev pub invariant-loop-taken : goal.invariant-loop-taken
invariant-loop-taken g l = (l.taken ≤ length l.piece) × Hears l.fn.self (take l.taken l.piece) [] l.self

abbrev pub decreases-loop-taken : goal.decreases-loop-taken
decreases-loop-taken g l = length l.piece - l.taken
