use Rattle.ftp_mode.proofs.WrittenLemmas.{writes_wire, writes_marked}
use Rattle.ftp_mode.proofs.written.one_text.Goals as goal

pub returns-clause-plain : goal.returns-clause-plain
returns-clause-plain c = writes_wire

pub returns-clause-marked : goal.returns-clause-marked
returns-clause-marked c = writes_marked
