use Rattle.std.proofs.Common.{◌≡◌, ◌≤◌, ◌-◌, length, take}
use Rattle.ftp_tree.specs.Tree.{under, octets_or_none}
use Rattle.ftp_tree_memory.proofs.trees.content.Content.of.Given as goal

-- the content is a beginning of the file, of no more octets than are wanted
abbrev pub invariant-loop-content : goal.invariant-loop-content
invariant-loop-content g l =
    record {
      front : l.content ≡ take (length l.content) (octets_or_none (under (g.T.Tree.table l.tree) l.root) l.path);
      most : length l.content ≤ l.count;
    }

abbrev pub decreases-loop-content : goal.decreases-loop-content
decreases-loop-content g l = l.count - length l.content
