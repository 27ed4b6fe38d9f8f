use Rattle.ftp_server.specs.Server.{view_of}
use Rattle.tool_dialogue.proofs.Conversing.{Follows}
use Rattle.tool_dialogue.proofs.dialogues.converse.Given as goal

abbrev pub invariant-loop : goal.invariant-loop
invariant-loop g l =
    Follows (g.R.Read.remaining l.fn.reader) (g.R.Read.remaining l.reader) (g.W.Write.contents l.fn.writer) (g.W.Write.contents l.writer)
    (view_of g.T.Tree.table g.J.ServerTransfer.view l.server) l.answers.refused l.answers.calm
