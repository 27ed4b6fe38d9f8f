use Rattle.std.proofs.Common.{◌∙◌, ◌+◌, arith, subst, sym, take}
use Rattle.ftp_settings.specs.declared.representation.Kind.TheVariants.{Ascii}
use Rattle.ftp_tree.proofs.CountLemmas.{stray-first, stray-second}
use Rattle.ftp_direct.proofs.OpenLemmas.{piece_of, within_end}
use Rattle.ftp_direct.proofs.PlaceLemmas.{IsLeft, in_piece, in_octet, past_piece, at_end, past_end}
use Rattle.ftp_direct.proofs.offsets.ascii_place.Goals as goal
use Rattle.ftp_direct.proofs.offsets.ascii_place.Goals.{then-left-eq0, else-left-eq0}

pub returns-in-Within-clause-place : goal.returns-in-Within-clause-place
returns-in-Within-clause-place g c = λ stray.
    let file = g.T.Tree.opened c.args.file in
    let so_far = c.loop-at.invariant in
    let read = c.in-Ok.ensures in
    let before = g.T.Tree.failures c.args.tree.now in
    let mid = g.T.Tree.failures c.loop-at.tree in
    let after = g.T.Tree.failures c.read.new.self in
    let first = stray-first before mid after so_far.steady.1 read.steady.1 stray in
    let second = stray-second before mid after so_far.steady.1 read.steady.1 stray in
    let is = piece_of file _ c.read.new.room c.loop-at.at c.in-Ok.count so_far.file (read.octets second) read.most.1 in
    sym (in_piece Ascii file (take c.in-Ok.count c.read.new.room) c.args.offset c.loop-at.at c.loop-at.left (omega arith) (so_far.left first) is.0 c.in-Within.place c.in-Within.ensures)

pub returns-in-Inside-clause-place : goal.returns-in-Inside-clause-place
returns-in-Inside-clause-place g c = λ stray.
    let file = g.T.Tree.opened c.args.file in
    let so_far = c.loop-at.invariant in
    let read = c.in-Ok.ensures in
    let before = g.T.Tree.failures c.args.tree.now in
    let mid = g.T.Tree.failures c.loop-at.tree in
    let after = g.T.Tree.failures c.read.new.self in
    let first = stray-first before mid after so_far.steady.1 read.steady.1 stray in
    let second = stray-second before mid after so_far.steady.1 read.steady.1 stray in
    let is = piece_of file _ c.read.new.room c.loop-at.at c.in-Ok.count so_far.file (read.octets second) read.most.1 in
    sym (in_octet Ascii file (take c.in-Ok.count c.read.new.room) c.args.offset c.loop-at.at c.loop-at.left (omega arith) (so_far.left first) is.0 c.in-Inside.ensures)

pub loop-at-preserved : goal.loop-at-preserved
loop-at-preserved g c =
    let file = g.T.Tree.opened c.args.file in
    let so_far = c.loop-at.invariant in
    let read = c.in-Ok.ensures in
    let before = g.T.Tree.failures c.args.tree.now in
    let mid = g.T.Tree.failures c.loop-at.tree in
    let after = g.T.Tree.failures c.read.new.self in
    let piece = take c.in-Ok.count c.read.new.room in
    let within = within_end file _ c.loop-at.at c.in-Ok.count so_far.file read.most.1 (omega arith) in
    record {
      left = λ stray.
          let first = stray-first before mid after so_far.steady.1 read.steady.1 stray in
          let second = stray-second before mid after so_far.steady.1 read.steady.1 stray in
          let is = piece_of file _ c.read.new.room c.loop-at.at c.in-Ok.count so_far.file (read.octets second) read.most.1 in
          subst (λ n. IsLeft Ascii file c.args.offset (c.loop-at.at + n) c.in-Left.more) is.1
          (past_piece Ascii file piece c.args.offset c.loop-at.at c.loop-at.left (omega arith) (so_far.left first) is.0 c.in-Left.more c.in-Left.ensures);
      before = omega (arith, within);
      file = read.file ∙ so_far.file;
      table = read.table ∙ so_far.table;
      steady = (read.steady.0 ∙ so_far.steady.0, omega (arith, so_far.steady.1, read.steady.1));
    }

pub returns-clause-place : goal.returns-clause-place
returns-clause-place g c = λ stray.
    let file = g.T.Tree.opened c.args.file in
    let left = c.loop-at.invariant.left stray in
    elim c.if-left-eq0.branch [
      | then-left-eq0 w ↦ w.result-is ∙ sym (at_end Ascii file c.args.offset c.loop-at.at c.loop-at.left (omega arith) left w.if-left-eq0.true)
      | else-left-eq0 w ↦ w.result-is ∙ sym (past_end Ascii file c.args.offset c.loop-at.at c.loop-at.left (omega arith) left w.if-left-eq0.false)
    ]
