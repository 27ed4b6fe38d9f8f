use Rattle.std.proofs.Common.{◌++◌, ap, ◌∙◌, arith}
use Rattle.ftp_tree_memory.proofs.trees.ContentLemmas.{filled-more}
use Rattle.ftp_tree_memory.proofs.trees.content.Content.fill.Goals as goal

pub loop-done-preserved : goal.loop-done-preserved
loop-done-preserved g c =
    let piece = c.piece-piece.result.now in
    record {
      filled = c.copy_to.ensures ∙ ap (λ l. l ++ piece) c.loop-done.invariant.filled ∙ filled-more c.args.self.now piece c.args.at c.loop-done.done c.piece-piece.ensures.octets;
      within = omega (arith, c.piece-piece.ensures.most, c.loop-done.invariant.within);
    }
