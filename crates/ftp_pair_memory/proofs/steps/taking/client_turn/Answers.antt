use Rattle.std.proofs.Common.{refl}
use Rattle.ftp_pair_memory.specs.streams.MemoryEnds.{told_channel}
use Rattle.ftp_pair_memory.proofs.steps.Ending.{near_goes, told_same}
use Rattle.ftp_pair_memory.proofs.steps.Taken.{near_told}
use Rattle.ftp_pair_memory.proofs.steps.taking.client_turn.Goals as goal

pub returns-then-is_known-clause-took : goal.returns-then-is_known-clause-took
returns-then-is_known-clause-took g c =
    near_told _ _ _ _ c.tell.new.self _ _ (c.if-not-meet.ensures.meets refl) (c.if-is_known.ensures.known refl) c.tell.ensures.stream c.tell.ensures.port_table _ _ _ _ _ _ _
    c.near_turn-course.result c.near_turn-course.ensures

pub returns-then-is_known-clause-turned : goal.returns-then-is_known-clause-turned
returns-then-is_known-clause-turned g c =
    near_goes c.near_turn-course.result _ _ (told_channel c.tell.new.self) _
    (record {
      met = c.meet.new.own;
      meets = c.if-not-meet.ensures.meets refl;
      at_first = told_same c.tell.new.self c.meet.new.own c.tell.ensures.stream c.tell.ensures.port_table;
      left = _;
      at_last = refl;
      known = c.if-is_known.ensures.known refl;
    })
    c.near_turn-course.ensures refl

pub returns-else-is_known-clause-turned : goal.returns-else-is_known-clause-turned
returns-else-is_known-clause-turned g c =
    record { met = c.meet.new.own; meets = c.if-not-meet.ensures.meets refl; unknown = c.if-is_known.ensures.unknown refl }
