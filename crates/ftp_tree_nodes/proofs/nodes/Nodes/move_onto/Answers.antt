use Rattle.std.proofs.Common.{inl, sym, ap, ◌∙◌}
use Rattle.ftp_path.specs.Path.{fits}
use Rattle.ftp_tree.specs.Rows.{whole}
use Rattle.ftp_tree.specs.Tree.{moved, onto_refusal, removed, rename_refusal, under, with_part}
use Rattle.ftp_tree.proofs.KeepLaws.{onto-takes, takes-freed}
use Rattle.ftp_tree.proofs.OntoLemmas.{onto-free, onto-loose}
use Rattle.ftp_tree_nodes.proofs.nodes.Nodes.move_onto.Goals as goal

pub move_over-requires-clause-loose : goal.move_over-requires-clause-loose
move_over-requires-clause-loose g c = inl (onto-loose _ c.args.from.now c.args.to.now c.requires)

pub move_over-requires-clause-free : goal.move_over-requires-clause-free
move_over-requires-clause-free g c =
    let fit = ap fits (sym c.key-key.ensures.names) ∙ c.key-key.ensures.kept.within in
    ap (λ t. rename_refusal (removed (under t c.args.root.now) c.args.to.now) c.args.from.now c.args.to.now) (sym c.self.view_is)
    ∙ onto-free (whole c.self.inside.limits c.self.inside.root) c.args.root.now c.args.from.now c.args.to.now c.self.invariant.tree fit
    (ap (λ t. onto_refusal (under t c.args.root.now) c.args.from.now c.args.to.now) c.self.view_is ∙ c.requires)

pub returns : goal.returns
returns g c =
    let part = under c.args.self.now c.args.root.now in
    c.move_over.ensures
    ∙ ap (λ t. with_part c.args.self.now c.args.root.now (moved t c.args.from.now c.args.to.now)) (sym (takes-freed part c.args.from.now c.args.to.now
    (onto-takes part c.args.from.now c.args.to.now c.requires)))
