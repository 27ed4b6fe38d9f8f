use Rattle.std.proofs.Common.{not, ap, sym, ◌∙◌}
use Rattle.ftp_facts.proofs.FactLemmas.{filled, not_empty, no_facts, reads_first, reads_other, reads_later}
use Rattle.std.specs.Option.{option_copied}
use Rattle.ftp_facts.proofs.facts.value_of.Goals.{else-is_none-via-then-is_none+else-is_word, else-is_none-via-else-is_none}
use Rattle.ftp_facts.proofs.facts.value_of.Goals as goal

pub returns-in_default-clause-silent : goal.returns-in_default-clause-silent
returns-in_default-clause-silent c =
    no_facts c.args.facts.now c.args.name.now c.loop-rest.rest.now (option_copied c.loop-rest.found) c.loop-rest.invariant (not_empty c.loop-rest.rest.now (filled c.loop-rest.rest.now c.is_empty.result c.loop-rest-test.true c.is_empty.ensures)) c.in_default.ensures.none

pub loop-rest-preserved-then-is_word :
    goal.loop-rest-preserved-then-is_word
loop-rest-preserved-then-is_word c =
    reads_first c.args.facts.now c.args.name.now c.loop-rest.rest.now c.in-Some.fact_name.now c.in-Some.value.now c.in-Some.after.now c.loop-rest.found c.loop-rest.invariant c.in-Some.ensures.some (c.is_none.ensures ∙ ap not c.if-is_none.true) (sym c.is_word.ensures ∙ c.if-is_word.true)

pub loop-rest-preserved : goal.loop-rest-preserved
loop-rest-preserved c =
    elim c.else-is_none.branch [
      | else-is_none-via-then-is_none+else-is_word w ↦ reads_other c.args.facts.now c.args.name.now c.loop-rest.rest.now c.in-Some.fact_name.now c.in-Some.value.now c.in-Some.after.now c.loop-rest.found c.loop-rest.invariant c.in-Some.ensures.some (sym w.is_word.ensures ∙ w.if-is_word.false)
      | else-is_none-via-else-is_none w ↦ reads_later c.args.facts.now c.args.name.now c.loop-rest.rest.now c.in-Some.fact_name.now c.in-Some.value.now c.in-Some.after.now c.loop-rest.found c.loop-rest.invariant c.in-Some.ensures.some (c.is_none.ensures ∙ ap not w.if-is_none.false)
    ]
