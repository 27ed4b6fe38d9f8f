use Rattle.tool_pair.proofs.Reporting.{played}
use Rattle.tool_pair.proofs.playing.play_from.Goals as goal

pub returns : goal.returns
returns g c =
    played g.row.A.Denot c.args.settings.transcript _ c.args.orders.items c.in_ok-world.world c.play_in.new.world (g.W.Write.contents c.args.writer.now)
    (g.W.Write.contents c.play_in.new.writer) c.play_in.result c.args.of.can.fair c.in_ok-world.ensures.world c.play_in.ensures.plays c.play_in.ensures.rests
