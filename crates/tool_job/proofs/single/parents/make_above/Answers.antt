use Rattle.std.proofs.Common.{◌∙◌, ◌++◌, List, subst, sym}
use Rattle.tool_session.specs.Talking.{HasExchanged, SessionExchange}
use Rattle.tool_job.proofs.AskingLemmas.{exchanged_then, not_done}
use Rattle.tool_job.proofs.single.parents.make_above.Goals as goal
use Rattle.tool_job.proofs.single.parents.make_above.Goals.{then-is_passed+else-not-is_refused, else-is_passed}

pub returns-then-not-is_made : goal.returns-then-not-is_made
returns-then-not-is_made g c =
    let i = c.loop-end.invariant in
    let e = c.make-answer.ensures in
    let answers = g.S.ClientSession.answers in (
      i.0 ++ e.0,
      exchanged_then answers c.args.slot.now c.loop-end.slot c.make-answer.new.slot i.0 e.0 i.1 e.1,
      λ done. not_done c.make-answer.result (sym c.is_refused.ensures ∙ c.if-not-is_refused.true) (sym c.is_made.ensures ∙ c.if-not-is_made.true) done,
    )

pub loop-end-preserved : goal.loop-end-preserved
loop-end-preserved g c =
    let i = c.loop-end.invariant in
    let answers = g.S.ClientSession.answers in
    elim c.if-is_passed.branch [
      | then-is_passed+else-not-is_refused w ↦
          let e = w.make-answer.ensures in
          subst (λ slot. (heard : List SessionExchange) × HasExchanged answers c.args.slot.now heard slot) (sym w.slot-is)
          (i.0 ++ e.0, exchanged_then answers c.args.slot.now c.loop-end.slot w.make-answer.new.slot i.0 e.0 i.1 e.1)
      | else-is_passed w ↦ subst (λ slot. (heard : List SessionExchange) × HasExchanged answers c.args.slot.now heard slot) (sym w.slot-is) i
    ]
