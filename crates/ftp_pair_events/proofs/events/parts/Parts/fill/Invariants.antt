use Rattle.std.proofs.Common.{◌≡◌, ◌≤◌, ◌-◌, ◌*◌}
use Rattle.ftp_pair_events.specs.events.Calm.{Counted}
use Rattle.ftp_pair_events.specs.events.Shown.{shown, Calmly, FillsSo, HasRoom, queue_of, len_of, queue_room_of}
use Rattle.ftp_pair_events.proofs.events.parts.Parts.fill.Given as goal

abbrev pub invariant-loop-self : goal.invariant-loop-self
invariant-loop-self g l = record {
  so : Calmly l.fn.self l.self (FillsSo (queue_of l.queue) l.count (shown g.N.Near.client g.F.Far.server l.fn.self) (shown g.N.Near.client g.F.Far.server l.self));
  taken : l.self.taken ≡ l.fn.self.taken;
  report : HasRoom g.N.Near.client l.fn.self → HasRoom g.N.Near.client l.self;
  counted : Counted (3 * (l.count - (l.count - len_of l.queue l.self))) g.N.Near.client g.F.Far.server l.fn.self l.self;
  room : l.count ≤ queue_room_of l.queue l.self;
}

abbrev pub decreases-loop-self : goal.decreases-loop-self
decreases-loop-self g l = l.count - len_of l.queue l.self
