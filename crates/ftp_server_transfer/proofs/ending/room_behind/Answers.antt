use Rattle.std.proofs.Common.{ℕ, sym, arith}
use Rattle.ftp_tree.specs.Tree.{under}
use Rattle.ftp_server_transfer.proofs.LimitLemmas.{kept_past, kept_within, within_room, room_is_short}
use Rattle.ftp_server_transfer.proofs.ending.room_behind.Goals as goal

pub returns-then-most-keep-clause-none : goal.returns-then-most-keep-clause-none
returns-then-most-keep-clause-none g c =
    let part = under (g.T.Tree.table c.args.tree.now) c.args.root.now in
    sym (kept_past part c.args.path.now c.args.keep c.most-most.result c.most-most.ensures c.if-most-keep.true)

pub returns-clause-room : goal.returns-clause-room
returns-clause-room g c =
    let part = under (g.T.Tree.table c.args.tree.now) c.args.root.now in
    record {
      limit = λ (count : ℕ). within_room part c.args.path.now c.args.keep count c.most-most.result c.most-most.ensures c.if-most-keep.false;
      short = omega (arith, room_is_short part c.args.path.now c.most-most.result c.most-most.ensures, c.if-most-keep.false);
    }

pub returns-clause-none : goal.returns-clause-none
returns-clause-none g c =
    let part = under (g.T.Tree.table c.args.tree.now) c.args.root.now in
    sym (kept_within part c.args.path.now c.args.keep c.most-most.result c.most-most.ensures c.if-most-keep.false)
