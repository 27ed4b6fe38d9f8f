use Rattle.std.proofs.Common.{◌<◌, length, sym, ap, subst, ◌∙◌, arith}
use Rattle.std.proofs.lemmas.Grind.{common_steps}
use Rattle.ftp_path.specs.Kept.{names_of}
use Rattle.ftp_tree.specs.Rows.{whole}
use Rattle.ftp_tree.specs.Sound.{IsSoundTable}
use Rattle.ftp_tree.specs.Tree.{IsTree, with_part}
use Rattle.ftp_tree.proofs.KeepLaws.{nothing}
use Rattle.ftp_tree.proofs.PartLemmas.{put-whole}
use Rattle.ftp_tree.proofs.SoundLemmas.{place-names, sound-empty, sound-part}
use Rattle.ftp_tree.proofs.TextLemmas.{kept-place}
use Rattle.ftp_tree_nodes.specs.Store.{cut_at}
use Rattle.ftp_tree_nodes.proofs.CutLemmas.{cut-so, cut-tree}
use Rattle.ftp_tree_nodes.proofs.MoveLemmas.{some-append}
use Rattle.ftp_tree_nodes.proofs.PlaceLemmas.{some-key, some-names}
use Rattle.std.specs.FinMap as fin
use Rattle.ftp_tree_nodes.proofs.nodes.Nodes.cut.Goals as goal

pub take_out-gone-requires-clause-some : goal.take_out-gone-requires-clause-some
take_out-gone-requires-clause-some g c =
    let long : 0 < length c.key.result.now = grind (arith, common_steps) in
    some-key c.key-2.result.now c.key-2.ensures.place
    (λ none. some-append c.args.root.now c.args.path.now (λ top. some-names _ (kept-place _ c.key.ensures.kept) long (c.key.ensures.names ∙ top)) (sym (c.key-2.ensures.names ∙ c.of-place.ensures) ∙ none))

pub invariant_of-self : goal.invariant_of-self
invariant_of-self g c =
    let long : 0 < length c.key.result.now = grind (arith, common_steps) in
    let limits = c.self.inside.limits in
    let old = whole limits c.self.inside.root in
    let names = names_of c.key-2.result.now in
    let is = put-whole limits c.self.inside.root fin.empty _ names c.take_out-gone.ensures.left in
    record {
      tree = subst IsTree (sym is) (cut-tree old names c.self.invariant.tree
          (λ none. some-append c.args.root.now c.args.path.now (λ top. some-names _ (kept-place _ c.key.ensures.kept) long (c.key.ensures.names ∙ top)) (sym (c.key-2.ensures.names ∙ c.of-place.ensures) ∙ none)));
      entries = subst IsSoundTable (sym is) (sound-part old names (nothing limits) (place-names _ c.key-2.ensures.place) c.self.invariant.entries sound-empty);
    }

pub returns : goal.returns
returns g c =
    let long : 0 < length c.key.result.now = grind (arith, common_steps) in
    let limits = c.self.inside.limits in
    let old = whole limits c.self.inside.root in
    cut-so old (whole limits c.take_out-gone.new.self) c.args.root.now c.args.path.now (λ top. some-names _ (kept-place _ c.key.ensures.kept) long (c.key.ensures.names ∙ top))
    (put-whole limits c.self.inside.root fin.empty _ (names_of c.key-2.result.now) c.take_out-gone.ensures.left
    ∙ ap (λ names. with_part old names (nothing limits)) (c.key-2.ensures.names ∙ c.of-place.ensures))
    ∙ ap (λ table. cut_at table c.args.root.now c.args.path.now) c.self.view_is
