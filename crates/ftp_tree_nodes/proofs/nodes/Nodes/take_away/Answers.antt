use Rattle.std.proofs.Common.{◌≡◌, ◌⊎◌, None, subst, sym, ap, ◌∙◌}
use Rattle.ftp_path.specs.Kept.{names_of}
use Rattle.ftp_tree.specs.Sound.{IsSoundTable}
use Rattle.ftp_tree.specs.Rows.{whole}
use Rattle.ftp_tree.specs.Tree.{delete_refusal, remove_refusal, removed, under, with_part}
use Rattle.ftp_tree.proofs.KeepLaws.{nothing}
use Rattle.ftp_tree_nodes.proofs.WholeLemmas.{loose-from, removed-at}
use Rattle.ftp_tree.proofs.PartLemmas.{put-whole}
use Rattle.ftp_tree_nodes.proofs.PlaceLemmas.{some-key}
use Rattle.ftp_tree.proofs.SoundLemmas.{place-names, sound-empty, sound-part}
use Rattle.std.specs.FinMap as fin
use Rattle.ftp_tree_nodes.proofs.nodes.Nodes.take_away.Goals as goal

pub take_out-gone-requires-clause-some : goal.take_out-gone-requires-clause-some
take_out-gone-requires-clause-some g c =
    let free = subst (λ table. (delete_refusal (under table c.args.root.now) c.args.path.now ≡ None) ⊎ (remove_refusal (under table c.args.root.now) c.args.path.now ≡ None)) (sym c.self.view_is) c.requires in
    some-key c.key.result.now c.key.ensures.place (λ none. (loose-from (whole c.self.inside.limits c.self.inside.root) c.args.root.now c.args.path.now c.self.invariant.tree free).some (sym (c.key.ensures.names ∙ c.of-place.ensures) ∙ none))

pub invariant_of-self : goal.invariant_of-self
invariant_of-self g c =
    let limits = c.self.inside.limits in
    let old = whole limits c.self.inside.root in
    let names = names_of c.key.result.now in
    let is = put-whole limits c.self.inside.root fin.empty _ names c.take_out-gone.ensures.left in
    let free = subst (λ table. (delete_refusal (under table c.args.root.now) c.args.path.now ≡ None) ⊎ (remove_refusal (under table c.args.root.now) c.args.path.now ≡ None)) (sym c.self.view_is) c.requires in
    record {
      tree = (removed-at old _ c.args.root.now c.args.path.now _ c.self.invariant.tree free (c.key.ensures.names ∙ c.of-place.ensures) is).tree;
      entries = subst IsSoundTable (sym is)
          (sound-part old names (nothing limits) (place-names _ c.key.ensures.place) c.self.invariant.entries sound-empty);
    }

pub returns : goal.returns
returns g c =
    let limits = c.self.inside.limits in
    let old = whole limits c.self.inside.root in
    let is = put-whole limits c.self.inside.root fin.empty _ (names_of c.key.result.now) c.take_out-gone.ensures.left in
    (removed-at old _ c.args.root.now c.args.path.now _ c.self.invariant.tree
    (subst (λ table. (delete_refusal (under table c.args.root.now) c.args.path.now ≡ None) ⊎ (remove_refusal (under table c.args.root.now) c.args.path.now ≡ None)) (sym c.self.view_is) c.requires)
    (c.key.ensures.names ∙ c.of-place.ensures) is).is
    ∙ ap (λ table. with_part table c.args.root.now (removed (under table c.args.root.now) c.args.path.now)) c.self.view_is
