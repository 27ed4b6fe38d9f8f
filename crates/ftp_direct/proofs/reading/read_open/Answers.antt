use Rattle.std.proofs.Common.{◌∙◌, ◌++◌, ◌+◌, ap, arith, drop, take}
use Rattle.ftp_tree.proofs.CountLemmas.{stray-first, stray-second}
use Rattle.ftp_direct.proofs.OpenLemmas.{front_of, piece_of}
use Rattle.ftp_direct.proofs.PieceLemmas.{read_more}
use Rattle.ftp_direct.proofs.reading.read_open.Goals as goal

pub loop-at-preserved : goal.loop-at-preserved
loop-at-preserved g c =
    let file = g.T.Tree.opened c.args.file in
    let so_far = c.loop-at.invariant in
    let read = c.in-Ok.ensures in
    let before = g.T.Tree.failures c.args.tree.now in
    let mid = g.T.Tree.failures c.loop-at.tree in
    let after = g.T.Tree.failures c.read.new.self in
    let few = c.lesser-count.result in
    let next = c.loop-at.at + few in
    record {
      gives = λ stray.
          let first = stray-first before mid after so_far.steady.1 read.steady.1 stray in
          let second = stray-second before mid after so_far.steady.1 read.steady.1 stray in
          let gives = front_of (g.T.Tree.opened c.loop-at.file) c.read.new.room c.loop-at.at few c.in-Ok.count (omega (arith, c.lesser-count.ensures)) (read.octets second) in
          let is = piece_of file _ c.read.new.room c.loop-at.at few so_far.file gives (omega (arith, c.lesser-count.ensures, read.most.1)) in
          ap (λ got. got ++ drop next (take c.args.end file)) c.in-Ok-extend_from_slice.ensures.items
          ∙ read_more file c.loop-at.octets.items (take few c.read.new.room) c.loop-at.at c.args.from c.args.end next few (so_far.gives first) is.0
          (omega arith) (omega (arith, is.1)) (omega (arith, c.lesser-count.ensures)) (omega (arith, is.1));
      file = read.file ∙ so_far.file;
      table = read.table ∙ so_far.table;
      steady = (read.steady.0 ∙ so_far.steady.0, omega (arith, so_far.steady.1, read.steady.1));
    }
