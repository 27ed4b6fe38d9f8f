use Rattle.std.proofs.Common.{refl, take}
use Rattle.ftp_nvt.proofs.EarLemmas.{data_hears}
use Rattle.ftp_nvt.proofs.ear.Ear.bite.Goals as goal

pub returns-in-Between-clause-hears : goal.returns-in-Between-clause-hears
returns-in-Between-clause-hears g c =
    data_hears c.args.self.now _ (take c.bite.result.taken c.args.piece.now) _ c.in-Between.is refl c.bite.ensures.bare c.bite.ensures.reads
