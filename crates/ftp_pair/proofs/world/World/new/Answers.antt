use Rattle.std.proofs.Common.{◌∙◌}
use Rattle.ftp_pair.specs.Session.{seen}
use Rattle.ftp_pair.proofs.Reaching.{reached_first}
use Rattle.ftp_pair.proofs.world.World.new.Goals as goal

pub invariant_of-result : goal.invariant_of-result
invariant_of-result g c =
    (reached_first c.requires.fair.0 (seen g.N.Near.client g.F.Far.server c.in-Ok.parts) c.requires.fair.1 (c.in-Ok.ensures.ok ∙ c.requires.fair.2), tt)
