use Rattle.std.proofs.Common.{◌≡◌, ◌++◌, rules}
use Rattle.ftp_tree_nodes.proofs.PlaceLemmas.{joined-both}
use Rattle.ftp_tree_nodes.proofs.place.Joined.both.Goals as goal

pub invariant_of-result : goal.invariant_of-result
invariant_of-result c =
    let whole : c.try_extend_from_slice-2.new.self.items ≡ c.args.root.now ++ c.args.path.now = search rules in
    (joined-both _ _ _ c.requires.root c.requires.path whole).0

pub returns : goal.returns
returns c =
    let whole : c.try_extend_from_slice-2.new.self.items ≡ c.args.root.now ++ c.args.path.now = search rules in
    (joined-both _ _ _ c.requires.root c.requires.path whole).1
