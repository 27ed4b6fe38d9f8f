use Rattle.std.proofs.Common.{sym}
use Rattle.ftp_facts.proofs.MomentValueLemmas.{no_moment, says_moment}
use Rattle.ftp_facts.proofs.moment.moment_of_text.Goals as goal

pub returns-in-Some-clause-value : goal.returns-in-Some-clause-value
returns-in-Some-clause-value c = sym (says_moment c.args.text.now c.in-Some.moment.seconds c.in-Some.ensures.says)

pub returns-in-None-clause-value : goal.returns-in-None-clause-value
returns-in-None-clause-value c = sym (no_moment c.args.text.now c.in-None.ensures.silent)
