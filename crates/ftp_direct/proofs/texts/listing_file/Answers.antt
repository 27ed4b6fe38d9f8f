use Rattle.std.proofs.Common.{◌∙◌, ap, flat_map, sym}
use Rattle.ftp_tree.specs.Tree.{under}
use Rattle.ftp_direct.specs.Listing.{entry_text, listing_file}
use Rattle.ftp_direct.proofs.NodeLineLemmas.{facts_file}
use Rattle.ftp_direct.proofs.texts.listing_file.Goals as goal

pub returns-in_ok-entries_file-in-Mlsd : goal.returns-in_ok-entries_file-in-Mlsd
returns-in_ok-entries_file-in-Mlsd g c =
    let table = under (g.T.Tree.table c.args.tree.now) c.args.root.now in
    let path = c.args.path.now in
    let text = c.args.text.now in
    facts_file c.in_ok-entries-in-Mlsd.entries.items table path text _ c.in_ok-entries-in-Mlsd.ensures
    (c.in_ok-entries_file-in-Mlsd.ensures ∙ ap (flat_map entry_text) c.as_slice.ensures.value)
    ∙ ap (λ verb. listing_file verb table path text) (sym c.in-Mlsd.is)
