use Rattle.tool_pair.proofs.Leading.{round_told}
use Rattle.tool_pair.proofs.rounds.round.Goals as goal

pub returns-then-opened : goal.returns-then-opened
returns-then-opened g c =
    round_told c.args.world.now c.flow.new.world c.flow-2.new.world c.flow-3.new.world c.flow-4.new.world c.open.new.world c.end.new.world
    c.args.transcript.now c.flow.new.transcript c.flow-2.new.transcript c.flow-3.new.transcript c.flow-4.new.transcript
    c.in_ok-asked.ensures c.in_ok-answered.ensures c.in_ok-up.ensures c.in_ok-down.ensures c.in_ok-opened.ensures c.in_ok-ended.ensures

pub returns-else-opened : goal.returns-else-opened
returns-else-opened g c =
    round_told c.args.world.now c.flow.new.world c.flow-2.new.world c.flow-3.new.world c.flow-4.new.world c.open.new.world c.end.new.world
    c.args.transcript.now c.flow.new.transcript c.flow-2.new.transcript c.flow-3.new.transcript c.flow-4.new.transcript
    c.in_ok-asked.ensures c.in_ok-answered.ensures c.in_ok-up.ensures c.in_ok-down.ensures c.in_ok-opened.ensures c.in_ok-ended.ensures
