use Rattle.std.proofs.Common.{Ok}
use Rattle.ftp_operation.specs.declared.answer.Answer.TheVariants.{Lost}
use Rattle.tool_connect.proofs.AskingLemmas.{asked_more, given_up, not_asked}
use Rattle.tool_connect.proofs.again.ask_again.Goals as goal

pub loop-seconds-init : goal.loop-seconds-init
loop-seconds-init g c = not_asked g.P.SessionTask.tells _ g.P.SessionTask.plays c.args.play.now

pub returns-in-None : goal.returns-in-None
returns-in-None g c =
    asked_more g.P.SessionTask.tells _ g.P.SessionTask.plays c.args.play.now c.loop-seconds.play c.converse_as-answered.new.play (Ok Lost)
    c.converse_as-answered.result c.loop-seconds.invariant c.converse_as-answered.ensures

pub returns-then-gives_up : goal.returns-then-gives_up
returns-then-gives_up g c =
    let tells = g.P.SessionTask.tells in
    let plays = g.P.SessionTask.plays in
    let old = c.args.play.now in
    let new = c.converse_as-answered.new.play in
    let said = c.converse_as-answered.result in
    given_up tells _ plays old new said
    (asked_more tells _ plays old c.loop-seconds.play new (Ok Lost) said c.loop-seconds.invariant c.converse_as-answered.ensures)

pub loop-seconds-preserved : goal.loop-seconds-preserved
loop-seconds-preserved g c =
    let tells = g.P.SessionTask.tells in
    let plays = g.P.SessionTask.plays in
    let old = c.args.play.now in
    let new = c.converse_as-answered.new.play in
    let said = c.converse_as-answered.result in
    given_up tells _ plays old new said
    (asked_more tells _ plays old c.loop-seconds.play new (Ok Lost) said c.loop-seconds.invariant c.converse_as-answered.ensures)
