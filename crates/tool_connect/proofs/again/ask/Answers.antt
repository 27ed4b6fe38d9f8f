use Rattle.std.proofs.Common.{Ok}
use Rattle.ftp_operation.specs.declared.answer.Answer.TheVariants.{Lost}
use Rattle.tool_connect.proofs.AskingLemmas.{asked_again, asked_more, given_up, not_asked}
use Rattle.tool_connect.proofs.again.ask.Goals as goal

pub returns-then-has_stalled : goal.returns-then-has_stalled
returns-then-has_stalled g c =
    let tells = g.P.SessionTask.tells in
    let plays = g.P.SessionTask.plays in
    let old = c.args.play.now in
    let new = c.converse_as-answered.new.play in
    let said = c.converse_as-answered.result in
    given_up tells _ plays old new said
    (asked_more tells _ plays old old new (Ok Lost) said (not_asked tells _ plays old) c.converse_as-answered.ensures)

pub returns : goal.returns
returns g c =
    let tells = g.P.SessionTask.tells in
    let plays = g.P.SessionTask.plays in
    let old = c.args.play.now in
    let mid = c.converse_as-answered.new.play in
    let said = c.converse_as-answered.result in
    asked_again tells _ plays old mid c.ask_again.new.play said c.ask_again.result
    (asked_more tells _ plays old old mid (Ok Lost) said (not_asked tells _ plays old) c.converse_as-answered.ensures) c.ask_again.ensures
