use Rattle.std.proofs.Common.{Ok}
use Rattle.ftp_operation.specs.declared.answer.Answer.TheVariants.{Lost}
use Rattle.tool_connect.specs.Asking.{AskedUntil}
use Rattle.tool_connect.proofs.again.ask_again.Given as goal

-- so far there is no answer
abbrev pub invariant-loop-seconds : goal.invariant-loop-seconds
invariant-loop-seconds g l =
    AskedUntil g.P.SessionTask.tells (g.R.Converses.hears l.fn.rt l.fn.server.at_once) g.P.SessionTask.plays l.fn.play l.play (Ok Lost)
