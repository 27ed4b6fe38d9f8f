use Rattle.std.proofs.Common.{◌≡◌}
use Rattle.ftp_facts.specs.Entry.{listed_lent}
use Rattle.ftp_facts.specs.Line.{said_texts}
use Rattle.ftp_facts.specs.Name.{fact_names}
use Rattle.ftp_facts.proofs.WritingLemmas.{SoFar}
use Rattle.ftp_facts.proofs.writing.write_facts.Given as goal

abbrev pub invariant-loop-name : goal.invariant-loop-name
invariant-loop-name g l = record {
  names : l.name-items ≡ fact_names;
  so_far : SoFar g.S.LineSink.held g.S.LineSink.form g.S.LineSink.left (said_texts l.facts (listed_lent l.lent)) fact_names l.name-index l.fn.out l.out;
}
