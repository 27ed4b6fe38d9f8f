use Rattle.std.proofs.Common.{rules}
use Rattle.tool_accounts.proofs.accounts_file.LinesLemmas.{cr_gone, cr_none}
use Rattle.tool_accounts.proofs.accounts_file.reading.without_cr.Goals as goal

pub returns-in-Some : goal.returns-in-Some
returns-in-Some c = cr_gone c.args.line.now c.in-Some.front.now c.in-Some.last.now (first_of (search rules, cc)) c.if-last-eq13.true

pub returns-in_default : goal.returns-in_default
returns-in_default c = cr_none c.args.line.now c.in-Some.front.now c.in-Some.last.now (first_of (search rules, cc)) c.if-last-eq13.false
