use Rattle.std.proofs.Common.{◌∙◌, ap, sym}
use Rattle.std.specs.Option.{unwrap_or}
use Rattle.ftp_tree.specs.Map.{Dir}
use Rattle.ftp_tree.specs.Tree.{node_at, under}
use Rattle.ftp_path.specs.Path.{fits}
use Rattle.ftp_direct.specs.Listing.{node_line}
use Rattle.ftp_direct.proofs.ListingLemmas.{child_is, name_text}
use Rattle.ftp_direct.proofs.NodeLineLemmas.{child_line_is, no_child_line}
use Rattle.ftp_direct.proofs.texts.child_line.Goals as goal

pub find-requires : goal.find-requires
find-requires g c = name_text c.args.name.now c.requires

pub returns-in_default : goal.returns-in_default
returns-in_default g c =
    let at = child_is c.args.path.now c.args.name.now c.requires in
    no_child_line _ c.args.path.now c.args.name.now (sym (ap fits at) ∙ (rw c.in_default.is at c.in_ok-child.ensures))

pub returns : goal.returns
returns g c =
    let found = rw c.in-Some.is at c.in_ok-child.ensures in
    let part = under (g.T.Tree.table c.args.tree.now) c.args.root.now in
    child_line_is part c.args.path.now c.args.name.now c.in-Some.child _ (found.0 ∙ child_is c.args.path.now c.args.name.now c.requires) found.1
    (c.in_ok-node_line.ensures ∙ ap (λ name. node_line name (unwrap_or (node_at part c.in-Some.child) Dir)) c.as_slice.ensures)
