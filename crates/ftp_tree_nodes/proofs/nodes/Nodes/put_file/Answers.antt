use Rattle.std.proofs.Common.{◌≡◌, ℕ, Option, Some, None, IsSome, List, [], length, ap, sym, subst, refl, ◌∙◌, is_some}
use Rattle.std.specs.Option.{option_map, unwrap_or}
use Rattle.ftp_path.specs.Kept.{names_of}
use Rattle.ftp_tree.specs.Sound.{IsSoundTable}
use Rattle.ftp_tree.specs.Map.{File, node_at}
use Rattle.ftp_tree.specs.Rows.{whole}
use Rattle.ftp_tree.specs.Tree.{install_refusal, installed, under, with_part}
use Rattle.ftp_tree_nodes.proofs.BranchLemmas.{file-at, sound-file}
use Rattle.ftp_tree.proofs.KeepLaws.{alone}
use Rattle.ftp_tree_nodes.proofs.WholeLemmas.{installed-at}
use Rattle.ftp_tree.proofs.PartLemmas.{put-whole}
use Rattle.ftp_tree.proofs.SoundLemmas.{place-names, sound-part}
use Rattle.ftp_tree_nodes.proofs.nodes.Nodes.put_file.Goals as goal

some-held : {X : Type 0} (octets : X → List ℕ) (content : Option X) (held : List ℕ) → option_map octets content ≡ Some held → IsSome content
some-held octets None held is = cc
some-held octets (Some content) held is = refl

pub put-requires-clause-stands : goal.put-requires-clause-stands
put-requires-clause-stands g c =
    ap (λ all. is_some (node_at all [])) c.file-node.ensures ∙ ap is_some (file-at (g.C.Holder.octets c.args.content) c.args.moment.seconds [])

pub invariant_of-self : goal.invariant_of-self
invariant_of-self g c =
    let limits = c.self.inside.limits in
    let old = whole limits c.self.inside.root in
    let names = names_of c.key.result.now in
    let octets = g.C.Holder.octets c.args.content in
    let is = put-whole limits c.self.inside.root c.file-node.result _ names c.in_default.ensures.ok ∙ ap (λ part. with_part old names (whole limits part)) c.file-node.ensures in
    record {
      tree = (installed-at old _ c.args.root.now c.args.path.now _ octets c.args.moment.seconds c.self.invariant.tree
          (ap (λ table. install_refusal (under table c.args.root.now) c.args.path.now (length octets)) c.self.view_is ∙ c.requires) (c.key.ensures.names ∙ c.of-place.ensures) is).tree;
      entries = subst IsSoundTable (sym is) (sound-part old names (alone limits (File octets c.args.moment.seconds)) (place-names _ c.key.ensures.place) c.self.invariant.entries
          (sound-file octets c.args.moment.seconds c.args.moment.in_range));
    }

pub returns-in_default-clause-done : goal.returns-in_default-clause-done
returns-in_default-clause-done g c =
    let limits = c.self.inside.limits in
    let old = whole limits c.self.inside.root in
    let names = names_of c.key.result.now in
    let octets = g.C.Holder.octets c.args.content in
    let is = put-whole limits c.self.inside.root c.file-node.result _ names c.in_default.ensures.ok ∙ ap (λ part. with_part old names (whole limits part)) c.file-node.ensures in
    (installed-at old _ c.args.root.now c.args.path.now _ octets c.args.moment.seconds c.self.invariant.tree
    (ap (λ table. install_refusal (under table c.args.root.now) c.args.path.now (length octets)) c.self.view_is ∙ c.requires) (c.key.ensures.names ∙ c.of-place.ensures) is).is
    ∙ ap (λ table. with_part table c.args.root.now (installed (under table c.args.root.now) c.args.path.now octets c.args.moment.seconds)) c.self.view_is

pub unwrap-requires : goal.unwrap-requires
unwrap-requires g c =
    some-held g.C.Holder.octets c.into_content.result _ (c.into_content.ensures (g.C.Holder.octets c.args.content) c.args.moment.seconds (c.in-Err.ensures.back ∙ c.file-node.ensures))

pub returns-clause-back : goal.returns-clause-back
returns-clause-back g c =
    let held = c.into_content.ensures (g.C.Holder.octets c.args.content) c.args.moment.seconds (c.in-Err.ensures.back ∙ c.file-node.ensures) in
    ap (λ octets. unwrap_or octets []) (sym (ap (option_map g.C.Holder.octets) c.unwrap.ensures) ∙ held)
