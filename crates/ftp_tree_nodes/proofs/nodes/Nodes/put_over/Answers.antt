use Rattle.std.proofs.Common.{◌≡◌, ◌⊎◌, None, Ok, OnOk, Result, [], is_some, subst, sym, ap, ◌∙◌, arith}
use Rattle.ftp_path.specs.Kept.{names_of}
use Rattle.ftp_tree.specs.Sound.{IsSoundTable}
use Rattle.ftp_tree.specs.Rows.{whole}
use Rattle.ftp_tree.specs.Map.{File}
use Rattle.ftp_tree.specs.Tree.{delete_refusal, installed, node_at, octets_in, remove_refusal, under, with_part}
use Rattle.ftp_tree_nodes.proofs.BranchLemmas.{file-at, file-len, file-octets, sound-file}
use Rattle.ftp_tree.proofs.KeepLaws.{alone}
use Rattle.ftp_tree.proofs.LawLemmas.{under-stands}
use Rattle.ftp_tree.proofs.PartLemmas.{put-whole}
use Rattle.ftp_tree_nodes.proofs.PlacingLemmas.{loose-stands, over-at}
use Rattle.ftp_tree.proofs.SoundLemmas.{place-names, sound-part}
use Rattle.std.specs.FinMap as fin
use Rattle.ftp_tree.specs.Map as maps
use Rattle.ftp_tree_nodes.proofs.nodes.Nodes.put_over.Goals as goal

at-ok : {X Y P : Type 0} (r : Result X Y) (x : X) → r ≡ Ok x → OnOk r P → P
at-ok {P = P} r x is holds = subst (λ r. OnOk r P) is holds

pub put-requires-clause-stands : goal.put-requires-clause-stands
put-requires-clause-stands g c = ap (λ all. is_some (maps.node_at all [])) c.file-node.ensures ∙ ap is_some (file-at (g.C.Holder.octets c.args.content) c.args.moment.seconds [])

pub unwrap-requires : goal.unwrap-requires
unfolding node_at octets_in
unwrap-requires g c =
    let old = whole c.self.inside.limits c.self.inside.root in
    let free = subst (λ table. (delete_refusal (under table c.args.root.now) c.args.path.now ≡ None) ⊎ (remove_refusal (under table c.args.root.now) c.args.path.now ≡ None)) (sym c.self.view_is) c.requires.loose in
    let nodes = ap fin.len c.file-node.ensures ∙ sym (file-len (g.C.Holder.octets c.args.content) c.args.moment.seconds) in
    let octets = ap maps.octets_in c.file-node.ensures ∙ file-octets (g.C.Holder.octets c.args.content) c.args.moment.seconds in
    c.put.ensures.fits
    (ap (λ p. is_some (node_at old p)) (c.key.ensures.names ∙ c.of-place.ensures) ∙ ap is_some (sym (under-stands old c.args.root.now c.args.path.now))
    ∙ loose-stands (under old c.args.root.now) c.args.path.now free)
    (omega (arith, c.requires.nodes, ap (λ table. fin.len table.map) c.self.view_is, nodes))
    (omega (arith, c.requires.octets, ap octets_in c.self.view_is, octets))

pub invariant_of-self : goal.invariant_of-self
invariant_of-self g c =
    let limits = c.self.inside.limits in
    let old = whole limits c.self.inside.root in
    let free = subst (λ table. (delete_refusal (under table c.args.root.now) c.args.path.now ≡ None) ⊎ (remove_refusal (under table c.args.root.now) c.args.path.now ≡ None)) (sym c.self.view_is) c.requires.loose in
    let names = names_of c.key.result.now in
    let octets = g.C.Holder.octets c.args.content in
    let is =
    put-whole limits c.self.inside.root c.file-node.result _ names (at-ok c.put.result c.unwrap.result c.unwrap.ensures c.put.ensures.ok)
    ∙ ap (λ part. with_part old names (whole limits part)) c.file-node.ensures in
    record {
      tree = (over-at old _ c.args.root.now c.args.path.now _ octets c.args.moment.seconds c.self.invariant.tree free (c.key.ensures.names ∙ c.of-place.ensures) is).tree;
      entries = subst IsSoundTable (sym is) (sound-part old names (alone limits (File octets c.args.moment.seconds)) (place-names _ c.key.ensures.place) c.self.invariant.entries
          (sound-file octets c.args.moment.seconds c.args.moment.in_range));
    }

pub returns : goal.returns
returns g c =
    let limits = c.self.inside.limits in
    let old = whole limits c.self.inside.root in
    let names = names_of c.key.result.now in
    let free = subst (λ table. (delete_refusal (under table c.args.root.now) c.args.path.now ≡ None) ⊎ (remove_refusal (under table c.args.root.now) c.args.path.now ≡ None)) (sym c.self.view_is) c.requires.loose in
    (over-at old _ c.args.root.now c.args.path.now _ (g.C.Holder.octets c.args.content) c.args.moment.seconds c.self.invariant.tree free (c.key.ensures.names ∙ c.of-place.ensures)
    (put-whole limits c.self.inside.root c.file-node.result _ names (at-ok c.put.result c.unwrap.result c.unwrap.ensures c.put.ensures.ok)
    ∙ ap (λ part. with_part old names (whole limits part)) c.file-node.ensures)).is
    ∙ ap (λ table. with_part table c.args.root.now (installed (under table c.args.root.now) c.args.path.now (g.C.Holder.octets c.args.content) c.args.moment.seconds)) c.self.view_is
