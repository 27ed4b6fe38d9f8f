use Rattle.std.proofs.Common.{◌≡◌, ◌≤◌, ◌-◌, ◌*◌, true}
use Rattle.laws_world.specs.Still.{IsStill}
use Rattle.ftp_pair.specs.Session.{Counted, LeadsSmall}
use Rattle.ftp_pair.proofs.Settling.{still_to_do}
use Rattle.ftp_pair.proofs.world.World.settle.Given as goal

abbrev pub invariant-loop-left : goal.invariant-loop-left
invariant-loop-left g l = record {
  leads : LeadsSmall l.fn.self l.self;
  left : l.self.calm ≡ true → l.left ≡ 1099511627776;
  counted : Counted (12312 * (1099511627776 - l.left)) l.fn.self l.self;
  idle : IsStill l.fn.self.world → l.self ≡ l.fn.self;
  few : l.left ≤ 1099511627776;
}

abbrev pub decreases-loop-left : goal.decreases-loop-left
decreases-loop-left g l = still_to_do l.left l.self
