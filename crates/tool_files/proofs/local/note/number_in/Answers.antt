use Rattle.std.proofs.Common.{sym}
use Rattle.ftp_facts.proofs.NumberLemmas.{says_number}
use Rattle.tool_files.proofs.local.note.number_in.Goals as goal

pub returns-in-Some : goal.returns-in-Some
returns-in-Some c = sym (says_number c.args.text.now c.in-Some.value c.in-Some.ensures.says)
