use Rattle.std.proofs.Common.{◌≡◌, ◌∙◌, ap, subst, sym}
use Rattle.ftp_facts.specs.Entry.{IsFitEntry, with_kind_word}
use Rattle.ftp_operation.specs.Answer.{Listed, listed_of}
use Rattle.ftp_tree.specs.Map.{of_node, shown_of}
use Rattle.ftp_tree.specs.Tree.{node_at, under}
use Rattle.ftp_direct.specs.Direct.{entry_at, entry_of}
use Rattle.ftp_direct.proofs.EntryLemmas.{entry_fit, entry_is, if_ok, words_stay}
use Rattle.ftp_direct.proofs.listings.entry.Goals as goal

pub copy_of-requires : goal.copy_of-requires
copy_of-requires g c = subst IsFitEntry (sym c.entry_of.ensures) (entry_fit _ c.is_root.result c.args.name.now c.requires)

pub returns : goal.returns
returns g c =
    let table = under (g.T.Tree.table c.args.tree.now) c.args.root.now in
    let name = c.args.name.now in
    let shown = of_node shown_of (node_at table c.args.path.now) in
    let said : with_kind_word _ ≡ entry_at table c.args.path.now name =
    ap with_kind_word c.entry_of.ensures ∙ words_stay _ c.is_root.result name ∙ ap (λ file. entry_of file c.is_root.result name) c.file_at-file.ensures
    ∙ ap (λ at_root. entry_of shown at_root name) c.is_root.ensures ∙ entry_is table c.args.path.now name in
    if_ok c.copy_of.result _ (λ entry. listed_of entry ≡ entry_at table c.args.path.now name) (λ entry kept. kept ∙ said) c.copy_of.ensures
