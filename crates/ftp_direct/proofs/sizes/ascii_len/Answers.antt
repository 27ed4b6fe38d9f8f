use Rattle.std.proofs.Common.{◌≡◌, ◌∙◌, ◌+◌, arith, length, subst, take}
use Rattle.ftp_repr.specs.Signs.{wire_row}
use Rattle.ftp_settings.specs.declared.representation.Kind.TheVariants.{Ascii}
use Rattle.ftp_direct.specs.Direct.{size_in}
use Rattle.ftp_tree.proofs.CountLemmas.{stray-first, stray-second}
use Rattle.ftp_direct.proofs.OpenLemmas.{piece_of, within_end}
use Rattle.ftp_direct.proofs.SizeLemmas.{size_step}
use Rattle.ftp_direct.proofs.sizes.ascii_len.Goals as goal

pub loop-at-preserved : goal.loop-at-preserved
loop-at-preserved g c =
    let file = g.T.Tree.opened c.args.file in
    let so_far = c.loop-at.invariant in
    let read = c.in-Ok.ensures in
    let before = g.T.Tree.failures c.args.tree.now in
    let mid = g.T.Tree.failures c.loop-at.tree in
    let after = g.T.Tree.failures c.read.new.self in
    let piece = take c.in-Ok.count c.read.new.room in
    let within = within_end file _ c.loop-at.at c.in-Ok.count so_far.file read.most.1 (omega arith) in
    record {
      count = λ stray.
          let first = stray-first before mid after so_far.steady.1 read.steady.1 stray in
          let second = stray-second before mid after so_far.steady.1 read.steady.1 stray in
          let is = piece_of file _ c.read.new.room c.loop-at.at c.in-Ok.count so_far.file (read.octets second) read.most.1 in
          let step = subst (λ n. size_in Ascii (take (c.loop-at.at + n) file) ≡ size_in Ascii (take c.loop-at.at file) + length (wire_row Ascii piece)) is.1
          (size_step Ascii file piece c.loop-at.at is.0) in
          omega (arith, step, so_far.count first, c.wire_size.ensures.size);
      before = omega (arith, within);
      file = read.file ∙ so_far.file;
      table = read.table ∙ so_far.table;
      steady = (read.steady.0 ∙ so_far.steady.0, omega (arith, so_far.steady.1, read.steady.1));
    }
