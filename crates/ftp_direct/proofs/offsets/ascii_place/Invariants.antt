use Rattle.std.proofs.Common.{◌≡◌, ◌≤◌, ◌-◌}
use Rattle.ftp_tree.specs.Change.{IsSteady, NoStray}
use Rattle.ftp_settings.specs.declared.representation.Kind.TheVariants.{Ascii}
use Rattle.ftp_direct.proofs.PlaceLemmas.{IsLeft}
use Rattle.ftp_direct.proofs.offsets.ascii_place.Given as goal

abbrev pub invariant-loop-at : goal.invariant-loop-at
invariant-loop-at g l = record {
  left : NoStray (g.T.Tree.failures l.fn.tree) (g.T.Tree.failures l.tree) → IsLeft Ascii (g.T.Tree.opened l.fn.file) l.offset l.at l.left;
  before : l.at ≤ l.end;
  file : g.T.Tree.opened l.file ≡ g.T.Tree.opened l.fn.file;
  table : g.T.Tree.table l.tree ≡ g.T.Tree.table l.fn.tree;
  steady : IsSteady (g.T.Tree.failures l.fn.tree) (g.T.Tree.failures l.tree);
}

abbrev pub decreases-loop-at : goal.decreases-loop-at
decreases-loop-at g l = l.end - l.at
