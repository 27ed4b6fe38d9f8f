use Rattle.std.proofs.Common.{◌∙◌, ap}
use Rattle.ftp_nvt.specs.Lines.{without_return}
use Rattle.tool_pair.proofs.Telling.{ended}
use Rattle.tool_pair.proofs.transcript.end_line.Goals as goal

pub returns : goal.returns
returns g c = λ lacks.
    ended c.args.who.now c.args.line.now c.args.part.now.items c.args.lines.now.items c.clear.new.self.items c.put_line.new.lines.items c.extend_from_slice.new.self.items
    c.without_return.result.now lacks c.in_ok-extend_from_slice.ensures.items (c.without_return.ensures ∙ ap without_return c.as_slice.ensures.value) c.in_ok-put_line.ensures c.clear.ensures.items
