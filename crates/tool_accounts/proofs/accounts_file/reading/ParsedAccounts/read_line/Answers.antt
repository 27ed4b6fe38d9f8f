use Rattle.std.proofs.Common.{rules}
use Rattle.tool_accounts.proofs.accounts_file.LinesLemmas.{adds_line}
use Rattle.tool_accounts.proofs.accounts_file.reading.ParsedAccounts.read_line.Goals as goal

pub returns-in-Ok-clause-adds : goal.returns-in-Ok-clause-adds
returns-in-Ok-clause-adds g c =
    adds_line c.push.result c.args.number c.args.text.now
    (c.args.self.now.list.items, c.args.self.now.numbers.items) (c.push.new.self.list.items, c.push.new.self.numbers.items)
    c.in-Ok.account (search rules) c.in-Ok.ensures.says c.push.ensures.list c.push.ensures.numbers
