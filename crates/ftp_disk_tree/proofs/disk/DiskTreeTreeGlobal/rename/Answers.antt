use Rattle.std.proofs.Common.{refl, sym, ap, ◌∙◌}
use Rattle.ftp_tree.specs.Tree.{moved, rename_refusal, under, with_part}
use Rattle.ftp_tree_nodes.proofs.PlacingLemmas.{had, move-above, move-absent}
use Rattle.ftp_disk_tree.proofs.PutLemmas.{on-ok, refuses-device}
use Rattle.ftp_disk_tree.proofs.disk.DiskTreeTreeGlobal.rename.Goals as goal

pub make_place-requires-clause-absent : goal.make_place-requires-clause-absent
make_place-requires-clause-absent g c = move-absent _ c.args.from.now c.args.to.now (sym c.rename_refusal.ensures ∙ c.in_default.is)

pub make_place-requires-clause-above : goal.make_place-requires-clause-above
make_place-requires-clause-above g c = move-above _ c.args.from.now c.args.to.now (sym c.rename_refusal.ensures ∙ c.in_default.is)

pub returns-in-Err-clause-refused : goal.returns-in-Err-clause-refused
returns-in-Err-clause-refused g c =
    let none = sym c.rename_refusal.ensures ∙ c.in_default.is in
    let place = had c.args.self.now.nodes c.make_place.new.self c.args.root.now c.args.to.now (move-absent _ c.args.from.now c.args.to.now none)
    (on-ok c.make_place.result (sym c.is_err.ensures.value ∙ c.if-is_err.false) c.make_place.ensures.ok) in
    (c.take_away.ensures ∙ place.back, refuses-device _ _ _ none c.fail.ensures)

pub move_over-requires-clause-free : goal.move_over-requires-clause-free
move_over-requires-clause-free g c =
    let none = sym c.rename_refusal.ensures ∙ c.in_default.is in
    let place = had c.args.self.now.nodes c.make_place.new.self c.args.root.now c.args.to.now (move-absent _ c.args.from.now c.args.to.now none)
    (on-ok c.make_place.result (sym c.is_err.ensures.value ∙ c.if-is_err.false) c.make_place.ensures.ok) in
    ap (λ t. rename_refusal t c.args.from.now c.args.to.now) place.part ∙ none

pub returns-clause-done : goal.returns-clause-done
returns-clause-done g c =
    let none = sym c.rename_refusal.ensures ∙ c.in_default.is in
    let place = had c.args.self.now.nodes c.make_place.new.self c.args.root.now c.args.to.now (move-absent _ c.args.from.now c.args.to.now none)
    (on-ok c.make_place.result (sym c.is_err.ensures.value ∙ c.if-is_err.false) c.make_place.ensures.ok) in
    let moves = c.move_over.ensures ∙ ap (λ t. with_part c.make_place.new.self c.args.root.now (moved t c.args.from.now c.args.to.now)) place.part
    ∙ place.again (moved (under c.args.self.now.nodes c.args.root.now) c.args.from.now c.args.to.now) in
    (none, moves, refl)
