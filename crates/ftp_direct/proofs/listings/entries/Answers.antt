use Rattle.std.proofs.Common.{◌≡◌, ◌∙◌, ap, arith, get_or, true}
use Rattle.std.specs.Prelude.{map}
use Rattle.std.proofs.lemmas.List.{take_all}
use Rattle.std.specs.List.{filter_map, list_all}
use Rattle.std.specs.Option.{option_map}
use Rattle.std.proofs.lemmas.List.Sums.{AllPass-from_list_all}
use Rattle.ftp_path.specs.Path.{is_name}
use Rattle.ftp_operation.specs.Answer.{listed_of}
use Rattle.ftp_tree.specs.Tree.{under}
use Rattle.ftp_direct.specs.Direct.{entries_in, entry_in}
use Rattle.ftp_direct.proofs.ListingLemmas.{listed_more}
use Rattle.ftp_direct.proofs.listings.entries.Goals as goal

pub entry_in-requires : goal.entry_in-requires
entry_in-requires g c =
    let items = c.deref-name-items.result.now in
    let named : list_all is_name items ≡ true = ap (list_all is_name) c.deref-name-items.ensures.value ∙ c.in_ok-names.ensures.named in
    ap is_name c.name-item.is ∙ AllPass-from_list_all is_name items named c.loop-name.name-index c.name-item.result (omega arith)

pub loop-name-preserved : goal.loop-name-preserved
loop-name-preserved g c =
    let table = under (g.T.Tree.table c.args.tree.now) c.args.root.now in
    let path = c.args.path.now in
    let items = c.deref-name-items.result.now in
    let i = c.loop-name.name-index in
    let entry = c.in_ok-entry_in.field-0 in
    let said : option_map listed_of entry ≡ entry_in table path (get_or items i c.name-item.result) =
    c.in_ok-entry_in.ensures ∙ ap (entry_in table path) c.name-item.is in
    ap (map listed_of) c.in_ok-push_some.ensures
    ∙ listed_more listed_of (entry_in table path) items i c.name-item.result (omega arith) c.loop-name.entries.items c.loop-name.invariant entry said

pub returns : goal.returns
unfolding entries_in
returns g c =
    let table = under (g.T.Tree.table c.args.tree.now) c.args.root.now in
    let h = entry_in table c.args.path.now in
    c.loop-name.invariant ∙ ap (filter_map h) (take_all c.loop-name.name-index c.deref-name-items.result.now c.loop-name-test.false)
    ∙ ap (filter_map h) (c.deref-name-items.ensures.value ∙ c.in_ok-names.ensures.names)
