use Rattle.std.proofs.Common.{◌≤◌}
use Rattle.ftp_pair_memory.specs.steps.Seating.{both_ends_of, pair_of}
use Rattle.ftp_pair_memory.specs.steps.Taking.{Took}
use Rattle.ftp_pair_memory.proofs.steps.Ending.{Going}
use Rattle.ftp_server_driver.specs.alone.Side.{timed}
use Rattle.ftp_pair_memory.proofs.steps.taking.settle.Given as goal

-- all turns so far, in so many rounds, and after how many of them nothing lay in the control connection
abbrev pub invariant-loop-made : goal.invariant-loop-made
invariant-loop-made g l =
    let far = timed {O = g.row.O.Denot} g.F.Far.server g.C.Watch.told in
    let near = g.N.Near.client in
    record {
      took : Took (both_ends_of far near l.fn.client l.fn.server l.fn.control) (both_ends_of far near l.client l.server l.control);
      going : Going l.silent l.made (pair_of far near l.fn.client l.fn.server l.fn.control) (pair_of far near l.client l.server l.control);
      few : l.silent ≤ 8;
    }
