use Rattle.ftp_tree_memory.proofs.trees.ContentLemmas.{front-more}
use Rattle.rows_tree.proofs.failing_folder.copy_of.Goals as goal

-- with one more piece the copy is a beginning of the content too
pub loop-copy-preserved : goal.loop-copy-preserved
loop-copy-preserved g c =
    record {
      front = front-more c.args.content.now c.loop-copy.copy c.piece-piece.result.now c.push.new.self _ c.loop-copy.invariant.front c.len-in-loop-copy-2.ensures c.piece-piece.ensures.octets c.in-Ok.ensures.ok;
    }
