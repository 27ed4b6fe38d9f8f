use Rattle.ftp_reply.proofs.ReplyLemmas.{whole_ended, whole_only}
use Rattle.ftp_reply.proofs.laws.one_reply.Goals as goal

pub returns-clause-ended : goal.returns-clause-ended
returns-clause-ended c = λ heard more code code' lines lines' says says'.
    whole_ended heard more code code' lines lines' says.whole says'.whole

pub returns-clause-apart : goal.returns-clause-apart
returns-clause-apart c = λ heard code code' lines lines' says begins. whole_only heard code code' lines lines' says.whole begins
