use Rattle.std.proofs.Common.{subst, sym, ap, ◌∙◌, ◌++◌, ◌∷◌, []}
use Rattle.ftp_operation.specs.Account.{accounts_refusal}
use Rattle.tool_accounts.specs.accounts_file.Blame.{HoldsUp}
use Rattle.tool_accounts.proofs.accounts_file.LinesLemmas.{holds_up, left_first, left_on}
use Rattle.tool_accounts.proofs.accounts_file.blame.blamed.Goals as goal

pub loop-number-init : goal.loop-number-init
loop-number-init g c = left_first c.args.refused.list.items c.args.numbers.items c.args.refused.fault c.requires.each c.requires.refused

pub returns-in-Ok : goal.returns-in-Ok
returns-in-Ok g c =
    subst (HoldsUp c.args.refused.list.items c.args.numbers.items c.in-Some.number) (sym c.from.ensures)
    (holds_up c.args.refused.list.items c.args.numbers.items c.loop-number.list.items c.loop-number.numbers.items c.loop-number.fault
    c.pop-in-Some.new.self.items c.in-Some-pop._last c.pop.new.self.items c.in-Some.number c.loop-number.invariant c.in-Some.ensures.items
    c.in-Some-pop.ensures.items c.in-Ok.ensures.accounts.1)

pub loop-number-preserved : goal.loop-number-preserved
loop-number-preserved g c =
    left_on c.args.refused.list.items c.args.numbers.items c.loop-number.list.items c.loop-number.numbers.items c.loop-number.fault
    c.in-Err.still.list.items c.in-Some-pop._last c.pop.new.self.items c.in-Some.number c.in-Err.still.fault c.loop-number.invariant c.in-Some.ensures.items
    (c.in-Some-pop.ensures.items ∙ ap (λ l. l ++ c.in-Some-pop._last ∷ []) (sym c.in-Err.ensures.back.0))
    (ap accounts_refusal c.in-Err.ensures.back.0 ∙ c.in-Err.ensures.back.1)
