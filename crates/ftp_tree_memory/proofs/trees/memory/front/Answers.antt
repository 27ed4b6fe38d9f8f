use Rattle.std.proofs.Common.{◌≡◌, ◌+◌, ◌<◌, length, ap, ◌∙◌, arith, length-append}
use Rattle.ftp_tree_memory.proofs.trees.ContentLemmas.{front-more}
use Rattle.ftp_tree_memory.proofs.trees.memory.front.Goals as goal

pub loop-front-smaller : goal.loop-front-smaller
loop-front-smaller g c =
    let some : 0 < length c.piece-piece.result.now =
    c.piece-piece.ensures.some (omega (arith, c.len.ensures, c.len-in-loop-front.ensures, c.loop-front-test.true))
    (omega (arith, c.len.ensures, c.len-in-loop-front-2.ensures, c.loop-front-test.true, c.requires)) in
    let whole : length c.push.new.self ≡ length c.loop-front.front + length c.piece-piece.result.now = ap length c.in_ok-push.ensures.ok ∙ length-append c.loop-front.front c.piece-piece.result.now in
    omega (arith, c.len.ensures, c.loop-front-test.true)

pub loop-front-preserved : goal.loop-front-preserved
loop-front-preserved g c =
    let whole : length c.push.new.self ≡ length c.loop-front.front + length c.piece-piece.result.now = ap length c.in_ok-push.ensures.ok ∙ length-append c.loop-front.front c.piece-piece.result.now in
    record {
      front = front-more c.args.content.now c.loop-front.front c.piece-piece.result.now c.push.new.self _ c.loop-front.invariant.front c.len-in-loop-front-2.ensures c.piece-piece.ensures.octets c.in_ok-push.ensures.ok;
      most = omega (arith, c.len.ensures, c.len-in-loop-front.ensures, c.loop-front-test.true, c.piece-piece.ensures.most, c.loop-front.invariant.most);
    }
