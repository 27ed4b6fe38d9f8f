use Rattle.ftp_nvt.proofs.Theorems.{unit_is_read, cut_unit_is_none}
use Rattle.ftp_nvt.proofs.laws.units_are_read.Goals as goal

pub returns-clause-whole : goal.returns-clause-whole
returns-clause-whole c = unit_is_read

pub returns-clause-cut : goal.returns-clause-cut
returns-clause-cut c = cut_unit_is_none
