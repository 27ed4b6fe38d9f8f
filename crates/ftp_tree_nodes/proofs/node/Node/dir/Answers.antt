use Rattle.std.proofs.Common.{sym, ap, subst, ◌∙◌}
use Rattle.ftp_tree_nodes.specs.Branch.{IsDirectory, parts, parts_table}
use Rattle.ftp_tree_nodes.proofs.BranchLemmas.{no-parts}
use Rattle.ftp_tree.proofs.TableLemmas.{table_of-none}
use Rattle.ftp_tree_nodes.proofs.node.Node.dir.Goals as goal

pub invariant_of-result : goal.invariant_of-result
invariant_of-result g c = subst (λ l. IsDirectory (parts l) 1 0) (sym c.new.ensures.items) no-parts

pub returns : goal.returns
returns g c = ap (λ l. parts_table (parts l)) c.new.ensures.items ∙ table_of-none
