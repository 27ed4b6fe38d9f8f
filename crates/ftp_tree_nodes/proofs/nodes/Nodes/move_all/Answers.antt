use Rattle.std.proofs.Common.{inr, ap, ◌∙◌}
use Rattle.ftp_tree.specs.Tree.{moved, rename_refusal, under, with_part}
use Rattle.ftp_tree_nodes.proofs.PlacingLemmas.{had, move-above, move-absent}
use Rattle.ftp_tree_nodes.proofs.nodes.Nodes.move_all.Goals as goal

pub make_place-requires-clause-absent : goal.make_place-requires-clause-absent
make_place-requires-clause-absent g c = move-absent _ c.args.from.now c.args.to.now c.requires

pub make_place-requires-clause-above : goal.make_place-requires-clause-above
make_place-requires-clause-above g c = move-above _ c.args.from.now c.args.to.now c.requires

pub move_over-requires-clause-loose : goal.move_over-requires-clause-loose
move_over-requires-clause-loose g c = inr c.in_ok-make_place.ensures.loose

pub move_over-requires-clause-free : goal.move_over-requires-clause-free
move_over-requires-clause-free g c =
    let place = had c.args.self.now c.make_place.new.self c.args.root.now c.args.to.now (move-absent _ c.args.from.now c.args.to.now c.requires) c.in_ok-make_place.ensures.ok in
    ap (λ t. rename_refusal t c.args.from.now c.args.to.now) place.part ∙ c.requires

pub returns-clause-ok : goal.returns-clause-ok
returns-clause-ok g c =
    let place = had c.args.self.now c.make_place.new.self c.args.root.now c.args.to.now (move-absent _ c.args.from.now c.args.to.now c.requires) c.in_ok-make_place.ensures.ok in
    c.move_over.ensures ∙ ap (λ t. with_part c.make_place.new.self c.args.root.now (moved t c.args.from.now c.args.to.now)) place.part
    ∙ place.again (moved (under c.args.self.now c.args.root.now) c.args.from.now c.args.to.now)
