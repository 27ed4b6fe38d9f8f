use Rattle.std.proofs.Common.{[], ap, sym, subst, ◌∙◌, is_some}
use Rattle.ftp_path.specs.Kept.{names_of}
use Rattle.ftp_path.specs.Path.{parent}
use Rattle.ftp_tree.specs.Sound.{IsSoundTable}
use Rattle.ftp_tree.specs.Rows.{whole}
use Rattle.ftp_tree.specs.Tree.{made, node_at, root_within, under, with_part}
use Rattle.ftp_tree.proofs.KeepLaws.{within-tree}
use Rattle.ftp_tree_nodes.proofs.WholeLemmas.{made-at}
use Rattle.ftp_tree.proofs.PartLemmas.{put-whole}
use Rattle.ftp_tree_nodes.proofs.PlacingLemmas.{placed-loose}
use Rattle.ftp_tree.proofs.SoundLemmas.{place-names, sound-part, sound-within}
use Rattle.ftp_tree.specs.Map as maps
use Rattle.ftp_tree_nodes.proofs.nodes.Nodes.make_place.Goals as goal

pub put-requires-clause-stands : goal.put-requires-clause-stands
unfolding node_at root_within
put-requires-clause-stands g c = ap (λ all. is_some (maps.node_at all [])) c.dir-node.ensures ∙ ap is_some (within-tree c.self.inside.limits).root

pub invariant_of-self-2 : goal.invariant_of-self-2
unfolding root_within
invariant_of-self-2 g c =
    let limits = c.self.inside.limits in
    let old = whole limits c.self.inside.root in
    let names = names_of c.key.result.now in
    let absent = ap (λ table. node_at (under table c.args.root.now) c.args.path.now) c.self.view_is ∙ c.requires.absent in
    let above = ap (λ table. node_at (under table c.args.root.now) (parent c.args.path.now)) c.self.view_is ∙ c.requires.above in
    let is = put-whole limits c.self.inside.root c.dir-node.result _ names c.in-Ok.ensures.ok ∙ ap (λ part. with_part old names (whole limits part)) c.dir-node.ensures in
    record {
      tree = (made-at old _ c.args.root.now c.args.path.now _ c.self.invariant.tree absent above (c.key.ensures.names ∙ c.of-place.ensures) is).tree;
      entries = subst IsSoundTable (sym is) (sound-part old names (root_within limits) (place-names _ c.key.ensures.place) c.self.invariant.entries (sound-within limits));
    }

pub returns-clause-ok : goal.returns-clause-ok
unfolding root_within
returns-clause-ok g c =
    let limits = c.self.inside.limits in
    let old = whole limits c.self.inside.root in
    let names = names_of c.key.result.now in
    let is = put-whole limits c.self.inside.root c.dir-node.result _ names c.in-Ok.ensures.ok ∙ ap (λ part. with_part old names (whole limits part)) c.dir-node.ensures in
    (made-at old _ c.args.root.now c.args.path.now _ c.self.invariant.tree (ap (λ table. node_at (under table c.args.root.now) c.args.path.now) c.self.view_is ∙ c.requires.absent)
    (ap (λ table. node_at (under table c.args.root.now) (parent c.args.path.now)) c.self.view_is ∙ c.requires.above)
    (c.key.ensures.names ∙ c.of-place.ensures) is).is
    ∙ ap (λ table. with_part table c.args.root.now (made (under table c.args.root.now) c.args.path.now)) c.self.view_is

pub returns-clause-loose : goal.returns-clause-loose
unfolding root_within
returns-clause-loose g c =
    let limits = c.self.inside.limits in
    let old = whole limits c.self.inside.root in
    let names = names_of c.key.result.now in
    let absent = ap (λ table. node_at (under table c.args.root.now) c.args.path.now) c.self.view_is ∙ c.requires.absent in
    let above = ap (λ table. node_at (under table c.args.root.now) (parent c.args.path.now)) c.self.view_is ∙ c.requires.above in
    let is = put-whole limits c.self.inside.root c.dir-node.result _ names c.in-Ok.ensures.ok ∙ ap (λ part. with_part old names (whole limits part)) c.dir-node.ensures in
    placed-loose old _ c.args.root.now c.args.path.now c.self.invariant.tree absent above
    (made-at old _ c.args.root.now c.args.path.now _ c.self.invariant.tree absent above (c.key.ensures.names ∙ c.of-place.ensures) is).is
