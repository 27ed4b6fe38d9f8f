use Rattle.std.proofs.Common.{◌≡◌, ◌-◌, ◌≤◌, length, take}
use Rattle.ftp_client_model.specs.Calls.{hears, MayHearFront}
use Rattle.ftp_client_model.specs.Telling.{last_line_heard}
use Rattle.ftp_client.specs.Counted.{counted_of}
use Rattle.ftp_client.proofs.counted.Counted.hear.Given as goal

abbrev pub invariant-loop-taken : goal.invariant-loop-taken
invariant-loop-taken g l = record {
  within : l.taken ≤ length l.piece;
  count : l.self.refusals ≡ l.fn.self.refusals;
  view : (counted_of g.F.ClientTransfer.flow l.self).view ≡ hears (counted_of g.F.ClientTransfer.flow l.fn.self).view (take l.taken l.piece);
  line : l.last ≡ last_line_heard (counted_of g.F.ClientTransfer.flow l.fn.self).view (take l.taken l.piece) l.fn.last;
  may : MayHearFront (counted_of g.F.ClientTransfer.flow l.fn.self).view l.piece l.taken;
}

abbrev pub decreases-loop-taken : goal.decreases-loop-taken
decreases-loop-taken g l = length l.piece - l.taken
