use Rattle.ftp_repr.specs.Ascii.{asc}
use Rattle.ftp_repr.proofs.UnitLemmas.{read_as, asc_read, settled_return, settled_other}
use Rattle.ftp_repr.proofs.laws.line_ends.Goals as goal

pub returns : goal.returns
returns c = record {
  read = read_as;
  written = λ b. (read_as (asc b) b).1 (asc_read b);
  cut = settled_return;
  whole = settled_other;
}
