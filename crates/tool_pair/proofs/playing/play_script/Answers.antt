use Rattle.tool_pair.specs.Making.{own_beginning}
use Rattle.tool_pair.proofs.Reporting.{plays_from}
use Rattle.tool_pair.proofs.playing.play_script.Goals as goal

pub returns : goal.returns
returns g c =
    plays_from g.row.A.Denot c.args.settings.transcript _ (own_beginning c.args.settings.roots (c.args.script.login.user, c.args.script.login.pass)) c.args.script.orders.items
    (g.W.Write.contents c.args.writer.now) (g.W.Write.contents c.play_from.new.writer) c.play_from.result c.in_ok-of.ensures c.play_from.ensures
