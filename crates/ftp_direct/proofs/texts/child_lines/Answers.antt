use Rattle.std.proofs.Common.{◌≡◌, ◌∙◌, ap, arith, get_or, true}
use Rattle.std.proofs.lemmas.List.{take_all}
use Rattle.std.specs.List.{filter_map, list_all}
use Rattle.std.proofs.lemmas.List.Sums.{AllPass-from_list_all}
use Rattle.ftp_path.specs.Path.{is_name}
use Rattle.ftp_tree.specs.Tree.{under}
use Rattle.ftp_direct.specs.Listing.{child_line}
use Rattle.ftp_direct.proofs.ListingLemmas.{said_more}
use Rattle.ftp_direct.proofs.texts.child_lines.Goals as goal

pub child_line-requires : goal.child_line-requires
child_line-requires g c =
    let items = c.deref-name-items.result.now in
    let named : list_all is_name items ≡ true = ap (list_all is_name) c.deref-name-items.ensures.value ∙ c.in_ok-names.ensures.named in
    ap is_name c.name-item.is ∙ AllPass-from_list_all is_name items named c.loop-name.name-index c.name-item.result (omega arith)

pub loop-name-preserved : goal.loop-name-preserved
loop-name-preserved g c =
    let items = c.deref-name-items.result.now in
    let i = c.loop-name.name-index in
    let h = child_line (under (g.T.Tree.table c.args.tree.now) c.args.root.now) c.args.path.now in
    let said : c.in_ok-child_line.field-0 ≡ h (get_or items i c.name-item.result) = c.in_ok-child_line.ensures ∙ ap h c.name-item.is in
    c.in_ok-push_some.ensures
    ∙ said_more h items i c.name-item.result (omega arith) c.loop-name.lines.items c.loop-name.invariant c.in_ok-child_line.field-0 said

pub returns : goal.returns
returns g c =
    let h = child_line (under (g.T.Tree.table c.args.tree.now) c.args.root.now) c.args.path.now in
    c.loop-name.invariant ∙ ap (filter_map h) (take_all c.loop-name.name-index c.deref-name-items.result.now c.loop-name-test.false)
    ∙ ap (filter_map h) (c.deref-name-items.ensures.value ∙ c.in_ok-names.ensures.names)
