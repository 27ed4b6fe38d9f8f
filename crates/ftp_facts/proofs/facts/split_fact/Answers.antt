use Rattle.ftp_facts.proofs.FactLemmas.{no_semicolon, no_equals, begins}
use Rattle.ftp_facts.proofs.facts.split_fact.Goals as goal

pub returns-in_err-fact-clause-none : goal.returns-in_err-fact-clause-none
returns-in_err-fact-clause-none c =
    rw c.from_residual.ensures (no_semicolon c.args.facts.now c.in_err-fact.ensures.none)

pub returns-in_err-name-clause-none : goal.returns-in_err-name-clause-none
returns-in_err-name-clause-none c =
    let cut = c.in_ok-fact.ensures in
    rw c.from_residual-in_err-name.ensures (no_equals c.args.facts.now c.in_ok-fact.fact.now c.in_ok-fact.rest.now cut.some cut.first c.in_err-name.ensures.none)

pub returns-clause-some : goal.returns-clause-some
returns-clause-some c =
    let cut = c.in_ok-fact.ensures in
    let parts = c.in_ok-name.ensures in
    begins c.args.facts.now c.in_ok-fact.fact.now c.in_ok-fact.rest.now c.in_ok-name.name.now c.in_ok-name.value.now cut.some cut.first parts.some parts.first
