use Rattle.std.proofs.Common.{rules}
use Rattle.tool_pair.proofs.Telling.{all_ended, one_more}
use Rattle.tool_pair.proofs.transcript.put_lines.Goals as goal

pub loop-line-preserved : goal.loop-line-preserved
loop-line-preserved g c =
    one_more c.args.who.now c.args.octets.now c.args.part.now.items c.args.lines.now.items c.loop-line.part.items c.loop-line.lines.items
    c.end_line.new.part.items c.end_line.new.lines.items c.loop-line.rest.now c.in-Some.line.now c.in-Some.more.now c.loop-line.invariant
    c.in-Some.ensures.some (c.in_ok-end_line.ensures c.in-Some.ensures.first)

pub returns : goal.returns
returns g c =
    all_ended c.args.who.now c.args.octets.now c.args.part.now.items c.args.lines.now.items c.loop-line.part.items c.loop-line.lines.items
    c.extend_from_slice.new.self.items c.loop-line.rest.now c.loop-line.invariant (search rules) c.in_ok-extend_from_slice.ensures.items
