use Rattle.std.proofs.Common.{refl, subst, [], take, IfOk, IfErr, List, ℕ}
use Rattle.std.specs.Prelude.{map}
use Rattle.ftp_operation.specs.Answer.{Said, said_of}
use Rattle.ftp_direct.specs.Direct.{State, start}
use Rattle.ftp_direct.specs.Run.{Ran, orders_of}
use Rattle.ftp_direct.proofs.RunLemmas.{begun, runs_none, start_known, start_unknown}
use Rattle.ftp_direct.proofs.direct_run.direct.Goals as goal

pub returns-in-Some-clause-answers : goal.returns-in-Some-clause-answers
returns-in-Some-clause-answers g c = λ stray.
    let P : State → Type 0 = λ state. IfOk c.run.result (λ answers. Ran (g.T.Tree.failures c.args.tree.now).told state (orders_of c.args.list.now) (map said_of answers.items) (g.T.Tree.failures c.run.new.tree).told (g.T.Tree.table c.run.new.tree)) in
    subst P (start_known _ _ _ _ c.in-Some.ensures c.is_dir-known.ensures) (c.run.ensures.answers stray)

pub returns-in-Some-clause-begun : goal.returns-in-Some-clause-begun
returns-in-Some-clause-begun g c = λ stray.
    let P : State → Type 0 = λ state. IfErr c.run.result (λ _. (count : ℕ) × (said : List Said) × Ran (g.T.Tree.failures c.args.tree.now).told state (take count (orders_of c.args.list.now)) said (g.T.Tree.failures c.run.new.tree).told (g.T.Tree.table c.run.new.tree)) in
    subst P (start_known _ _ _ _ c.in-Some.ensures c.is_dir-known.ensures) (c.run.ensures.begun stray)

pub returns-clause-answers : goal.returns-clause-answers
returns-clause-answers g c = λ stray.
    let P : State → Type 0 = λ state. IfOk c.run-in-None.result (λ answers. Ran (g.T.Tree.failures c.args.tree.now).told state (orders_of c.args.list.now) (map said_of answers.items) (g.T.Tree.failures c.run-in-None.new.tree).told (g.T.Tree.table c.run-in-None.new.tree)) in
    subst P (start_unknown _ _ _ _ c.root-top.ensures c.none.ensures c.in-None.ensures) (c.run-in-None.ensures.answers stray)

pub returns-clause-begun : goal.returns-clause-begun
returns-clause-begun g c = λ stray.
    let P : State → Type 0 = λ state. IfErr c.run-in-None.result (λ _. (count : ℕ) × (said : List Said) × Ran (g.T.Tree.failures c.args.tree.now).told state (take count (orders_of c.args.list.now)) said (g.T.Tree.failures c.run-in-None.new.tree).told (g.T.Tree.table c.run-in-None.new.tree)) in
    subst P (start_unknown _ _ _ _ c.root-top.ensures c.none.ensures c.in-None.ensures) (c.run-in-None.ensures.begun stray)
