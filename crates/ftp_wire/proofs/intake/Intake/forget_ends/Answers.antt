use Rattle.std.proofs.Common.{◌<◌, length, ap, arith, length-append, []}
use Rattle.ftp_mode.specs.Deframing.{owed, part_said}
use Rattle.ftp_wire.proofs.intake.Intake.forget_ends.Goals as goal

pub loop-end-smaller : goal.loop-end-smaller
loop-end-smaller g c =
    let end = part_said c.in-Some._end [] in
    let less : length (owed c.owed_part.new.self) < length (owed c.loop-end.self.deframer) =
    omega (arith, c.in-Some.ensures.one [], ap length (c.in-Some.ensures.some []), length-append end (owed c.owed_part.new.self)) in
    less
