use Rattle.std.proofs.Common.{rules}
use Rattle.tool_pair.proofs.Telling.{return_gone, return_none}
use Rattle.tool_pair.proofs.transcript.without_return.Goals as goal

pub returns-in-Some : goal.returns-in-Some
returns-in-Some c = return_gone c.args.line.now c.in-Some.front.now c.in-Some.last.now (first_of (search rules, cc)) c.if-last-eq13.true

pub returns-in_default : goal.returns-in_default
returns-in_default c = return_none c.args.line.now c.in-Some.front.now c.in-Some.last.now (first_of (search rules, cc)) c.if-last-eq13.false
