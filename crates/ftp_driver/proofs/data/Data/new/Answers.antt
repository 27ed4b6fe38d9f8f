use Rattle.ftp_ports.proofs.Channels.{none_had}
use Rattle.ftp_driver.proofs.data.Data.new.Goals as goal

pub returns : goal.returns
returns g c asked =
    none_had g.S.Read.remaining g.S.Write.contents c.new.result asked _ c.new.ensures.none (c.new.ensures.whole).0 c.new.ensures.sound (c.new.ensures.whole).1
