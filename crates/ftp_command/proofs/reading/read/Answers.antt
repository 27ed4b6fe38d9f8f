use Rattle.ftp_command.proofs.LawLemmas.{exactly_refused, exactly_said, refused_or_memory}
use Rattle.ftp_command.proofs.reading.read.Goals as goal

pub returns-clause-refuses : goal.returns-clause-refuses
returns-clause-refuses g c = refused_or_memory c.args.line.now c.read_line.result (c.read_line.ensures.says, c.read_line.ensures.refuses)

pub returns-clause-said : goal.returns-clause-said
returns-clause-said g c = exactly_said c.args.line.now c.read_line.result (c.read_line.ensures.says, c.read_line.ensures.refuses)

pub returns-clause-refused : goal.returns-clause-refused
returns-clause-refused g c = exactly_refused c.args.line.now c.read_line.result (c.read_line.ensures.says, c.read_line.ensures.refuses)
