use Rattle.std.proofs.Common.{◌≡◌, ◌∙◌, ℕ, ap, false, inl, is_some, subst}
use Rattle.ftp_path.specs.Path.{fits}
use Rattle.ftp_tree.specs.Change.{IsDone, IsRefused}
use Rattle.ftp_tree.specs.Tree.{Table, freed, moved, or_else, rename_refusal, source_refusal, under, with_part}
use Rattle.ftp_tree.proofs.DeviceLemmas.{refused-tells, rename-no, same-steady}
use Rattle.ftp_operation.specs.declared.op.Op.TheVariants as Ops
use Rattle.ftp_direct.specs.Direct.{busy_refusal, due, here, here_onto}
use Rattle.ftp_direct.proofs.LookLemmas.{if_looked_twice, looked_still, looked_twice, whatever_counted}
use Rattle.ftp_direct.proofs.RefusalLemmas.{as_told, if_refused_onto, stays}
use Rattle.ftp_direct.proofs.RenameLemmas.{rename_held, rename_refused, rename_done}
use Rattle.ftp_direct.proofs.places.rename.Goals as goal
use Rattle.ftp_direct.specs.declared.refusal.Refusal.TheVariants.{BadName}

pub returns-then-is_held-clause-answer : goal.returns-then-is_held-clause-answer
returns-then-is_held-clause-answer g c =
    let from = rw c.in-Ok.is at c.in_ok-source.ensures.seen in
    let root = c.args.root.now in
    let cwd = c.args.cwd.now in
    let onto = c.args.onto in
    looked_still _ _ _ (g.T.Tree.table c.see.new.tree) from.2 c.in_ok-source.ensures.same
    (λ table. due (here_onto table root cwd onto) (Ops.Rename c.args.from.now c.args.to.now) 0) (λ table. here_onto table root cwd onto) _ _
    (as_told _ _ _ _ c.tell-then-is_held.ensures (rename_held _ _ _ onto c.args.from.now c.args.to.now _ from.0 (ap fits from.0 ∙ from.1) (c.is_held.ensures ∙ c.if-is_held.true)))

pub returns-in-Ok-move_to-clause-answer : goal.returns-in-Ok-move_to-clause-answer
returns-in-Ok-move_to-clause-answer g c =
    let from = rw c.in-Ok.is at c.in_ok-source.ensures.seen in
    let to = rw c.in-Ok-2.is at c.in_ok-target.ensures.seen in
    let root = c.args.root.now in
    let cwd = c.args.cwd.now in
    let onto = c.args.onto in
    let old = g.T.Tree.table c.args.tree.now in
    let source = c.in-Ok.source in
    let target = c.in-Ok-2.target in
    let counts = g.T.Tree.failures c.see-2.new.tree in
    let after = g.T.Tree.failures c.move_to.new.tree in
    let free : Table → Type 0 = λ table. is_some (or_else (source_refusal (under table root) source) (busy_refusal (here table root cwd) source)) ≡ false in
    let Moves : Table → Type 0 = λ table. let seen = freed onto (under table root) source target in
    IsDone (rename_refusal seen source target) (with_part table root (moved seen source target)) (g.T.Tree.table c.move_to.new.tree) counts after in
    let done : Moves (g.T.Tree.table c.see-2.new.tree) = c.in-Ok-move_to.ensures.done in
    looked_twice _ _ counts after old _ _ from.2 c.in_ok-source.ensures.same to.2 c.in_ok-target.ensures.same _ _ _ _ (inl (same-steady counts after done.2))
    (λ _ still again.
    let is = subst Moves again done in
    let held = subst free still (c.is_held.ensures ∙ c.if-is_held.false) in
    let gives = rename_done old root cwd onto c.args.from.now c.args.to.now source from.0 (ap fits from.0 ∙ from.1) held target to.0 (ap fits to.0 ∙ to.1) is.0 in
    stays counts after _ _ _ _ is.2 (gives.0, ap (λ table. here_onto table root cwd onto) is.1 ∙ gives.1))

pub returns-clause-answer : goal.returns-clause-answer
returns-clause-answer g c =
    let from = rw c.in-Ok.is at c.in_ok-source.ensures.seen in
    let to = rw c.in-Ok-2.is at c.in_ok-target.ensures.seen in
    let root = c.args.root.now in
    let cwd = c.args.cwd.now in
    let onto = c.args.onto in
    let old = g.T.Tree.table c.args.tree.now in
    let source = c.in-Ok.source in
    let target = c.in-Ok-2.target in
    let counts = g.T.Tree.failures c.see-2.new.tree in
    let after = g.T.Tree.failures c.move_to.new.tree in
    let free : Table → Type 0 = λ table. is_some (or_else (source_refusal (under table root) source) (busy_refusal (here table root cwd) source)) ≡ false in
    let Fails : Table → Type 0 = λ table. IsRefused (rename_refusal (freed onto (under table root) source target) source target) c.in-Err-move_to.fault table
    (g.T.Tree.table c.move_to.new.tree) counts after in
    let refused : Fails (g.T.Tree.table c.see-2.new.tree) = c.in-Err-move_to.ensures.refused in
    if_looked_twice _ _ counts after old _ _ from.2 c.in_ok-source.ensures.same to.2 c.in_ok-target.ensures.same c.refused.result _ _ _
    (whatever_counted ℕ c.refused.result _ counts after (refused-tells ℕ _ _ counts after (rename-no _ _ _) refused.1))
    (λ _ still again.
    let held = subst free still (c.is_held.ensures ∙ c.if-is_held.false) in
    if_refused_onto c.refused.result _ _ BadName counts after old _ root cwd onto _ c.refused.ensures.said c.refused.ensures.other (subst Fails again refused) (rename-no _ _ _)
    (rename_refused old root cwd onto c.args.from.now c.args.to.now source from.0 (ap fits from.0 ∙ from.1) held target to.0 (ap fits to.0 ∙ to.1)))
