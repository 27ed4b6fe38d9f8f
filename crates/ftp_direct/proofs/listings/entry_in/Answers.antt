use Rattle.std.proofs.Common.{◌∙◌, ap, subst, sym}
use Rattle.ftp_path.specs.Path.{IsPathText}
use Rattle.ftp_path.proofs.TextLemmas.{name-text}
use Rattle.ftp_tree.specs.Tree.{under}
use Rattle.ftp_direct.specs.Direct.{entry_at}
use Rattle.ftp_direct.proofs.ListingLemmas.{name_text, entry_in_none, entry_in_some}
use Rattle.ftp_direct.proofs.listings.entry_in.Goals as goal

pub find-requires : goal.find-requires
find-requires g c = name_text c.args.name.now c.requires

pub entry-requires : goal.entry-requires
entry-requires g c = subst IsPathText (sym c.as_slice.ensures) (name-text c.args.name.now c.requires)

pub returns-in_default : goal.returns-in_default
returns-in_default g c = entry_in_none _ _ c.args.name.now c.requires (rw c.in_default.is at c.in_ok-child.ensures)

pub returns : goal.returns
returns g c =
    let found = rw c.in-Some.is at c.in_ok-child.ensures in
    entry_in_some _ _ c.args.name.now c.requires _ found.0 found.1 _
    (c.in_ok-entry.ensures ∙ ap (entry_at (under (g.T.Tree.table c.args.tree.now) c.args.root.now) c.in-Some.child) c.as_slice.ensures)
