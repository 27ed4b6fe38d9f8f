use Rattle.std.proofs.Common.{rules, arith, length, ◌<◌}
use Rattle.tool_accounts.specs.accounts_file.Lines.{speakers}
use Rattle.tool_accounts.proofs.accounts_file.LinesLemmas.{first_stands, last_line, last_off, next_line, next_off, shorter}
use Rattle.tool_accounts.proofs.accounts_file.reading.said_in.Goals as goal

pub loop-line-init : goal.loop-line-init
loop-line-init g c =
    (first_stands c.args.text.now _ c.nothing-said.ensures.list c.nothing-said.ensures.numbers, omega arith)

pub returns-in-Err-clause-fault : goal.returns-in-Err-clause-fault
returns-in-Err-clause-fault g c =
    next_off c.args.text.now c.loop-line.number c.loop-line.rest.now c.in-Some.line.now c.in-Some.more.now c.without_cr.result.now _ c.in-Err.fault
    (search rules) (search rules) c.without_cr.ensures c.loop-line.invariant.0 c.in-Err.ensures.fault

pub loop-line-smaller : goal.loop-line-smaller
loop-line-smaller g c = shorter c.loop-line.rest.now c.in-Some.line.now c.in-Some.more.now (search rules)

pub loop-line-preserved : goal.loop-line-preserved
loop-line-preserved g c =
    let less : length c.in-Some.more.now < length c.loop-line.rest.now = shorter c.loop-line.rest.now c.in-Some.line.now c.in-Some.more.now (search rules) in (
      next_line (speakers c.args.text.now) c.loop-line.number c.loop-line.rest.now c.in-Some.line.now c.in-Some.more.now c.without_cr.result.now _ _
          (search rules) (search rules) c.without_cr.ensures c.loop-line.invariant.0 c.in_default-read_line.ensures.adds,
      omega (arith, less, c.loop-line.invariant.1),
    )

pub returns-in-Err-read_line-clause-fault : goal.returns-in-Err-read_line-clause-fault
returns-in-Err-read_line-clause-fault g c =
    last_off c.args.text.now c.loop-line.number c.loop-line.rest.now c.without_cr-2.result.now _ c.in-Err-read_line.fault (search rules) c.without_cr-2.ensures
    c.loop-line.invariant.0 c.in-Err-read_line.ensures.fault

pub returns-clause-said : goal.returns-clause-said
returns-clause-said g c =
    last_line c.args.text.now c.loop-line.number c.loop-line.rest.now c.without_cr-2.result.now _ _ (search rules) c.without_cr-2.ensures
    c.loop-line.invariant.0 c.in_default-read_line-2.ensures.adds
