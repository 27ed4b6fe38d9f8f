use Rattle.tool_location.proofs.CutLemmas.{parts_of}
use Rattle.tool_location.proofs.location.cut_at.Goals as goal

pub returns-clause-first : goal.returns-clause-first
returns-clause-first c = (parts_of c.args.octet c.args.text.now c.split_once.result c.split_once.ensures.cases c.requires).1

pub returns-clause-none : goal.returns-clause-none
returns-clause-none c = (parts_of c.args.octet c.args.text.now c.split_once.result c.split_once.ensures.cases c.requires).2

pub returns-clause-some : goal.returns-clause-some
returns-clause-some c = (parts_of c.args.octet c.args.text.now c.split_once.result c.split_once.ensures.cases c.requires).0
