use Rattle.std.proofs.Common.{Some, sym, ap, ◌∙◌}
use Rattle.ftp_path.specs.Path.{is_name}
use Rattle.ftp_path.proofs.KeyLemmas.{some_named}
use Rattle.ftp_tree_nodes.proofs.NameLemmas.{name-get}
use Rattle.ftp_tree_nodes.proofs.node.name_at.Goals as goal

pub returns : goal.returns
returns g c =
    let name = c.as_slice.ensures ∙ ap (λ x. x.name) c.deref.ensures in
    let here = name-get c.args.children.now c.args.place c.index-children-place.result c.if-place-children.false c.index-children-place.is c.requires in
    some_named (λ name. name.octets.now) c.new.result _ c.new.ensures.name (c.new.ensures.named.1 (ap is_name name ∙ here.0)) ∙ ap Some name ∙ sym here.1
