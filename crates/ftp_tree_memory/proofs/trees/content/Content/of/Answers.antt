use Rattle.std.proofs.Common.{◌≡◌, ◌+◌, ◌<◌, length, sym, ap, ◌∙◌, arith, length-append}
use Rattle.ftp_tree.specs.Tree.{under, octets_or_none}
use Rattle.ftp_tree_memory.proofs.trees.ContentLemmas.{front-more, front-enough}
use Rattle.ftp_tree_memory.proofs.trees.content.Content.of.Goals as goal

pub loop-content-smaller : goal.loop-content-smaller
loop-content-smaller g c =
    let octets = octets_or_none (under (g.T.Tree.table c.args.tree.now) c.args.root.now) c.args.path.now in
    let enough = front-enough (under (g.T.Tree.table c.args.tree.now) c.args.root.now) c.args.path.now c.args.count (sym c.front_refusal.ensures ∙ c.in_default.is) in
    let some : 0 < length c.piece-piece.result.now =
    c.piece-piece.ensures.some (omega (arith, c.len.ensures, c.len-in-loop-content.ensures, c.loop-content-test.true)) (omega (arith, c.len.ensures, c.len-in-loop-content-2.ensures, c.loop-content-test.true)) in
    let whole : length c.push.new.self ≡ length c.loop-content.content + length c.piece-piece.result.now = ap length c.in-Ok.ensures.ok ∙ length-append c.loop-content.content c.piece-piece.result.now in
    omega (arith, c.len.ensures, c.loop-content-test.true)

pub loop-content-preserved : goal.loop-content-preserved
loop-content-preserved g c =
    let octets = octets_or_none (under (g.T.Tree.table c.args.tree.now) c.args.root.now) c.args.path.now in
    let whole : length c.push.new.self ≡ length c.loop-content.content + length c.piece-piece.result.now = ap length c.in-Ok.ensures.ok ∙ length-append c.loop-content.content c.piece-piece.result.now in
    record {
      front = front-more octets c.loop-content.content c.piece-piece.result.now c.push.new.self _ c.loop-content.invariant.front c.len-in-loop-content-2.ensures c.piece-piece.ensures.octets c.in-Ok.ensures.ok;
      most = omega (arith, c.len.ensures, c.len-in-loop-content.ensures, c.loop-content-test.true, c.piece-piece.ensures.most, c.loop-content.invariant.most);
    }
