use Rattle.std.proofs.Common.{get_or, refl}
use Rattle.tool_log.specs.Xferlog.{field_octet}
use Rattle.tool_log.proofs.WrittenLemmas.{one_written}
use Rattle.tool_log.proofs.xferlog.put_octets.Goals as goal

pub loop-octet-preserved : goal.loop-octet-preserved
loop-octet-preserved c =
    let at = c.loop-octet.octet-index in
    one_written field_octet c.args.text.now at 0 (get_or c.args.text.now at 0) c.args.out.now.items c.loop-octet.out.items
    c.put_octet.new.out.items c.loop-octet-test.true refl c.loop-octet.invariant c.in_ok-put_octet.ensures
