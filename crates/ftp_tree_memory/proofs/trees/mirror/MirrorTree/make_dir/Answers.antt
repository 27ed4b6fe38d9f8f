use Rattle.std.proofs.Common.{sym, ◌∙◌}
use Rattle.ftp_tree_nodes.proofs.PlacingLemmas.{had, make-above, make-absent}
use Rattle.ftp_tree_memory.proofs.trees.MirrorLemmas.{on-err, on-ok, refuses-device}
use Rattle.ftp_tree_memory.proofs.trees.mirror.MirrorTree.make_dir.Goals as goal

pub make_place-requires-clause-absent : goal.make_place-requires-clause-absent
make_place-requires-clause-absent g c = make-absent _ c.args.path.now (sym c.make_refusal.ensures ∙ c.in_default.is)

pub make_place-requires-clause-above : goal.make_place-requires-clause-above
make_place-requires-clause-above g c = make-above _ c.args.path.now (sym c.make_refusal.ensures ∙ c.in_default.is)

pub returns-then-is_err-2-clause-mirrors : goal.returns-then-is_err-2-clause-mirrors
returns-then-is_err-2-clause-mirrors g c =
    let none = sym c.make_refusal.ensures ∙ c.in_default.is in
    let place = had c.args.self.now.tree c.make_place.new.self c.args.root.now c.args.path.now (make-absent _ c.args.path.now none)
    (on-ok c.make_place.result (sym c.is_err.ensures.value ∙ c.if-is_err.false) c.make_place.ensures.ok) in
    let failed = on-err c.make_dir.result (sym c.is_err-2.ensures.value ∙ c.if-is_err-2.true) c.make_dir.ensures.failed in
    λ before its held. before its (sym failed.0 ∙ held) ∙ sym (c.take_away.ensures ∙ place.back)

pub returns-then-is_err-2-clause-refused : goal.returns-then-is_err-2-clause-refused
returns-then-is_err-2-clause-refused g c =
    let none = sym c.make_refusal.ensures ∙ c.in_default.is in
    let place = had c.args.self.now.tree c.make_place.new.self c.args.root.now c.args.path.now (make-absent _ c.args.path.now none)
    (on-ok c.make_place.result (sym c.is_err.ensures.value ∙ c.if-is_err.false) c.make_place.ensures.ok) in
    let failed = on-err c.make_dir.result (sym c.is_err-2.ensures.value ∙ c.if-is_err-2.true) c.make_dir.ensures.failed in
    (c.take_away.ensures ∙ place.back, refuses-device _ _ _ none failed.1)
