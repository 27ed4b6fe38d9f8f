use Rattle.std.proofs.Common.{◌<◌, length, ◌∙◌, arith, rules}
use Rattle.ftp_mode.specs.Block.{block_text}
use Rattle.ftp_mode.proofs.FramingLemmas.{copy_step}
use Rattle.ftp_mode.proofs.framer.Framer.copy_header.Goals as goal

pub loop-made-preserved : goal.loop-made-preserved
loop-made-preserved c =
    let text = block_text c.args.descriptor c.args.self.now.block.items in
    let inside : c.loop-made.next < length text = omega arith in
    let room : c.loop-made.made < length c.loop-made.room = omega arith in
    record {
      from = omega arith;
      within = search rules;
      copied = copy_step c.loop-made.room text c.loop-made.made c.loop-made.next c.header_octet.result room inside c.header_octet.ensures ∙ c.loop-made.invariant.copied;
    }
