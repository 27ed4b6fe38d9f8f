use Rattle.std.proofs.Common.{[], ◌∷◌, refl}
use Rattle.ftp_nvt.proofs.BufferLemmas.{Reads-trans, Steps-Reads, skip_reads}
use Rattle.ftp_nvt.proofs.line.LineBuffer.doubled.Goals as goal

pub returns-in-Start : goal.returns-in-Start
returns-in-Start g c =
    Reads-trans c.args.self.now c.begin.new.self c.octet.new.self [] (255 ∷ []) [] _ c.begin.ensures.reads (Steps-Reads c.begin.new.self c.octet.new.self 255 c.octet.result c.octet.ensures)

pub returns-in-Past : goal.returns-in-Past
returns-in-Past g c = skip_reads c.args.self.now (255 ∷ []) c.in-Past.is (refl, tt)

pub returns-in_default : goal.returns-in_default
returns-in_default g c = Steps-Reads c.args.self.now c.octet-in_default.new.self 255 c.octet-in_default.result c.octet-in_default.ensures
