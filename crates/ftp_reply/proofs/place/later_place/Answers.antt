use Rattle.ftp_reply.proofs.HeardLemmas.{heard_last, heard_other}
use Rattle.ftp_reply.proofs.place.later_place.Goals as goal

pub returns-in-Some-clause-heard : goal.returns-in-Some-clause-heard
returns-in-Some-clause-heard c = λ lines is. heard_last c.args.code lines c.args.line.now c.in-Some.text.now c.in-Some.ensures.found

pub returns-in-None-clause-heard : goal.returns-in-None-clause-heard
returns-in-None-clause-heard c = λ lines is. heard_other c.args.code lines c.args.line.now (c.in-None.ensures.none is)
