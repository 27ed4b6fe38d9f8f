use Rattle.std.proofs.Common.{sym}
use Rattle.ftp_facts.proofs.NumberLemmas.{says_number}
use Rattle.tool_listing.proofs.entries.unix_line.number_in.Goals as goal

pub returns-in-Some-clause-value : goal.returns-in-Some-clause-value
returns-in-Some-clause-value c = sym (says_number c.args.text.now c.in-Some.value c.in-Some.ensures.says)
