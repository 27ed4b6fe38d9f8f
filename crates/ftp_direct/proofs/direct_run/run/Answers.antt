use Rattle.std.proofs.Common.{refl, sym, arith, ◌+◌, []}
use Rattle.ftp_tree.proofs.CountLemmas.{stray-first, stray-second}
use Rattle.ftp_direct.proofs.LookLemmas.{strays-rise}
use Rattle.ftp_direct.proofs.RunLemmas.{begun, runs_none, stepped, whole}
use Rattle.ftp_direct.proofs.direct_run.run.Goals as goal

pub loop-op-init : goal.loop-op-init
loop-op-init g c = record { runs = λ _. rw (c.new-answers.ensures.items, c.root-cwd.ensures) (runs_none _ _); strays = omega arith }

pub returns-in_err-answer-clause-begun : goal.returns-in_err-answer-clause-begun
returns-in_err-answer-clause-begun g c = λ stray.
    let kept = c.in_err-answer.ensures.kept in
    let so_far = c.loop-op.invariant in
    let before = g.T.Tree.failures c.args.tree.now in
    let mid = g.T.Tree.failures c.loop-op.tree in
    let after = g.T.Tree.failures c.answer.new.tree in
    begun c.from_residual.result _ _ _ _ _ c.args.list.now c.loop-op.op-index _ _ (so_far.runs (stray-first before mid after so_far.strays kept.counts.1 stray)) kept.counts.0
    (sym (kept.table (stray-second before mid after so_far.strays kept.counts.1 stray)))

pub returns-in_err-push-clause-begun : goal.returns-in_err-push-clause-begun
returns-in_err-push-clause-begun g c = λ stray.
    let answered = c.in_ok-answer.ensures.answer in
    let rise = strays-rise (g.T.Tree.failures c.loop-op.tree) (g.T.Tree.failures c.answer.new.tree) _ _ _ _ answered in
    let so_far = c.loop-op.invariant in
    let before = g.T.Tree.failures c.args.tree.now in
    let mid = g.T.Tree.failures c.loop-op.tree in
    let after = g.T.Tree.failures c.answer.new.tree in
    begun c.from_residual-in_err-push.result _ _ _ _ _ c.args.list.now (c.loop-op.op-index + 1) _ _
    (stepped before.told mid after _ _ _ c.args.list.now c.loop-op.op-index c.loop-op-item.result c.loop-op.answers.items c.in_ok-answer.field-0 (omega arith) c.loop-op-item.is
    (stray-second before mid after so_far.strays rise stray) (so_far.runs (stray-first before mid after so_far.strays rise stray)) answered) refl refl

pub loop-op-preserved : goal.loop-op-preserved
loop-op-preserved g c =
    let answered = c.in_ok-answer.ensures.answer in
    let rise = strays-rise (g.T.Tree.failures c.loop-op.tree) (g.T.Tree.failures c.answer.new.tree) _ _ _ _ answered in
    let so_far = c.loop-op.invariant in
    let before = g.T.Tree.failures c.args.tree.now in
    let mid = g.T.Tree.failures c.loop-op.tree in
    let after = g.T.Tree.failures c.answer.new.tree in
    record {
      runs = λ stray. rw c.in_ok-push.ensures.items (
          stepped before.told mid after _ _ _ c.args.list.now c.loop-op.op-index c.loop-op-item.result c.loop-op.answers.items c.in_ok-answer.field-0 (omega arith) c.loop-op-item.is
          (stray-second before mid after so_far.strays rise stray) (so_far.runs (stray-first before mid after so_far.strays rise stray)) answered);
      strays = omega (arith, so_far.strays, rise);
    }

pub returns-clause-answers : goal.returns-clause-answers
returns-clause-answers g c = λ stray.
    whole _ _ _ _ c.args.list.now c.loop-op.op-index _ c.loop-op-test.false (c.loop-op.invariant.runs stray)
