use Rattle.std.proofs.Common.{[], subst, sym}
use Rattle.tool_accounts.specs.accounts_file.Blame.{IsBlamed}
use Rattle.tool_accounts.specs.accounts_file.Lines.{SaysAll}
use Rattle.tool_accounts.proofs.accounts_file.LinesLemmas.{all_said, as_many, err_more, held_off, ok_more}
use Rattle.tool_accounts.proofs.accounts_file.reading.read_accounts.Goals as goal

pub accounts-requires : goal.accounts-requires
accounts-requires g c = as_many _ [] (c.in-Ok.said.list.items, c.in-Ok.said.numbers.items) c.in-Ok.ensures.said

pub returns-in-Ok-clause-said : goal.returns-in-Ok-clause-said
returns-in-Ok-clause-said g c =
    let says = all_said c.args.text.now (c.in-Ok.said.list.items, c.in-Ok.said.numbers.items) c.in-Ok.ensures.said in
    ok_more _ (SaysAll c.args.text.now) c.accounts.result (λ accounts same. subst (SaysAll c.args.text.now) (sym same) says) c.accounts.ensures.same

pub returns-in-Ok-clause-fault : goal.returns-in-Ok-clause-fault
returns-in-Ok-clause-fault g c =
    err_more _ (IsBlamed c.args.text.now) c.accounts.result (λ fault held. held_off c.args.text.now _ fault c.in-Ok.ensures.said held) c.accounts.ensures.fault
