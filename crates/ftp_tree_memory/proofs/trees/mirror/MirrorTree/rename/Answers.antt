use Rattle.std.proofs.Common.{sym, ap, ◌∙◌}
use Rattle.ftp_tree.specs.Tree.{moved, rename_refusal, under, with_part}
use Rattle.ftp_tree.specs.Change.{never_strayed}
use Rattle.ftp_tree_nodes.proofs.PlacingLemmas.{had, move-above, move-absent}
use Rattle.ftp_tree_memory.specs.trees.Folder.{changed_below}
use Rattle.ftp_tree_memory.proofs.trees.MirrorLemmas.{mirrors-on, on-err, on-ok, refuses-device}
use Rattle.ftp_tree_memory.proofs.trees.mirror.MirrorTree.rename.Goals as goal

pub make_place-requires-clause-absent : goal.make_place-requires-clause-absent
make_place-requires-clause-absent g c = move-absent _ c.args.from.now c.args.to.now (sym c.rename_refusal.ensures ∙ c.in_default.is)

pub make_place-requires-clause-above : goal.make_place-requires-clause-above
make_place-requires-clause-above g c = move-above _ c.args.from.now c.args.to.now (sym c.rename_refusal.ensures ∙ c.in_default.is)

pub returns-then-is_err-2-clause-mirrors : goal.returns-then-is_err-2-clause-mirrors
returns-then-is_err-2-clause-mirrors g c =
    let none = sym c.rename_refusal.ensures ∙ c.in_default.is in
    let place = had c.args.self.now.tree c.make_place.new.self c.args.root.now c.args.to.now (move-absent _ c.args.from.now c.args.to.now none)
    (on-ok c.make_place.result (sym c.is_err.ensures.value ∙ c.if-is_err.false) c.make_place.ensures.ok) in
    let failed = on-err c.rename.result (sym c.is_err-2.ensures.value ∙ c.if-is_err-2.true) c.rename.ensures.failed in
    λ before its held. before its (sym failed.0 ∙ held) ∙ sym (c.take_away.ensures ∙ place.back)

pub returns-then-is_err-2-clause-refused : goal.returns-then-is_err-2-clause-refused
returns-then-is_err-2-clause-refused g c =
    let none = sym c.rename_refusal.ensures ∙ c.in_default.is in
    let place = had c.args.self.now.tree c.make_place.new.self c.args.root.now c.args.to.now (move-absent _ c.args.from.now c.args.to.now none)
    (on-ok c.make_place.result (sym c.is_err.ensures.value ∙ c.if-is_err.false) c.make_place.ensures.ok) in
    let failed = on-err c.rename.result (sym c.is_err-2.ensures.value ∙ c.if-is_err-2.true) c.rename.ensures.failed in
    (c.take_away.ensures ∙ place.back, refuses-device _ _ _ none failed.1)

pub move_over-requires-clause-free : goal.move_over-requires-clause-free
move_over-requires-clause-free g c =
    let none = sym c.rename_refusal.ensures ∙ c.in_default.is in
    let place = had c.args.self.now.tree c.make_place.new.self c.args.root.now c.args.to.now (move-absent _ c.args.from.now c.args.to.now none)
    (on-ok c.make_place.result (sym c.is_err.ensures.value ∙ c.if-is_err.false) c.make_place.ensures.ok) in
    ap (λ t. rename_refusal t c.args.from.now c.args.to.now) place.part ∙ none

pub returns-clause-mirrors : goal.returns-clause-mirrors
returns-clause-mirrors g c =
    let none = sym c.rename_refusal.ensures ∙ c.in_default.is in
    let place = had c.args.self.now.tree c.make_place.new.self c.args.root.now c.args.to.now (move-absent _ c.args.from.now c.args.to.now none)
    (on-ok c.make_place.result (sym c.is_err.ensures.value ∙ c.if-is_err.false) c.make_place.ensures.ok) in
    let done = on-ok c.rename.result (sym c.is_err-2.ensures.value ∙ c.if-is_err-2.false) c.rename.ensures.done in
    let moves = c.move_over.ensures ∙ ap (λ t. with_part c.make_place.new.self c.args.root.now (moved t c.args.from.now c.args.to.now)) place.part
    ∙ place.again (moved (under c.args.self.now.tree c.args.root.now) c.args.from.now c.args.to.now) in
    λ before its held.
    mirrors-on _ _ (changed_below c.args.root.now (λ part. moved part c.args.from.now c.args.to.now)) c.args.self.now.tree before done.0 its held ∙ sym moves

pub returns-clause-done : goal.returns-clause-done
returns-clause-done g c =
    let none = sym c.rename_refusal.ensures ∙ c.in_default.is in
    let place = had c.args.self.now.tree c.make_place.new.self c.args.root.now c.args.to.now (move-absent _ c.args.from.now c.args.to.now none)
    (on-ok c.make_place.result (sym c.is_err.ensures.value ∙ c.if-is_err.false) c.make_place.ensures.ok) in
    let done = on-ok c.rename.result (sym c.is_err-2.ensures.value ∙ c.if-is_err-2.false) c.rename.ensures.done in
    let moves = c.move_over.ensures ∙ ap (λ t. with_part c.make_place.new.self c.args.root.now (moved t c.args.from.now c.args.to.now)) place.part
    ∙ place.again (moved (under c.args.self.now.tree c.args.root.now) c.args.from.now c.args.to.now) in
    (none, moves, ap never_strayed done.1)
