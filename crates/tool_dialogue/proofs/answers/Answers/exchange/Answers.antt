use Rattle.std.proofs.Common.{subst}
use Rattle.ftp_ports.specs.Beginning.{AppendsFront}
use Rattle.ftp_server.specs.Server.{view_of}
use Rattle.tool_dialogue.proofs.AnswerLemmas.{answered_by, breaks_written, on_done, on_failed, unwritten}
use Rattle.tool_dialogue.proofs.ShortLemmas.{answered_short, breaks_short, unwritten_short}
use Rattle.tool_dialogue.proofs.answers.Answers.exchange.Goals as goal

pub returns-in_err-hear-clause-err : goal.returns-in_err-hear-clause-err
returns-in_err-hear-clause-err g c =
    unwritten _ c.args.piece.now (view_of g.T.Tree.table g.J.ServerTransfer.view c.args.server.now) c.args.self.now.refused c.hear.new.self.calm
    (g.W.Write.contents c.args.writer.now)

pub returns-in_err-hear-clause-breaks : goal.returns-in_err-hear-clause-breaks
returns-in_err-hear-clause-breaks g c =
    unwritten_short _ c.args.piece.now (view_of g.T.Tree.table g.J.ServerTransfer.view c.args.server.now) c.args.self.now.refused (g.W.Write.contents c.args.writer.now)

pub returns-clause-answers : goal.returns-clause-answers
returns-clause-answers g c =
    let view = view_of g.T.Tree.table g.J.ServerTransfer.view in
    on_done c.put.result
    (answered_by c.args.piece.now c.hear.new.self.text.items c.clear.new.self.items (view c.args.server.now) (view c.hear.new.server) c.args.self.now.refused
    c.hear.new.self.refused c.hear.new.self.calm c.clear.ensures.items c.in_ok-hear.ensures.talks)

pub returns-clause-short : goal.returns-clause-short
returns-clause-short g c =
    let view = view_of g.T.Tree.table g.J.ServerTransfer.view in
    on_done c.put.result
    (answered_short c.args.piece.now c.hear.new.self.text.items c.clear.new.self.items (view c.args.server.now) (view c.hear.new.server) c.args.self.now.refused
    c.hear.new.self.refused c.clear.ensures.items c.in_ok-hear.ensures.short)

pub returns-clause-err : goal.returns-clause-err
returns-clause-err g c =
    let view = view_of g.T.Tree.table g.J.ServerTransfer.view in let contents = g.W.Write.contents in
    on_failed c.put.result (λ still read is before.
    breaks_written read c.args.piece.now c.hear.new.self.text.items (view c.args.server.now) (view c.hear.new.server) c.args.self.now.refused
    c.hear.new.self.refused before (contents c.args.writer.now) (contents c.put.new.writer) is
    (answered_by c.args.piece.now c.hear.new.self.text.items c.clear.new.self.items (view c.args.server.now) (view c.hear.new.server) c.args.self.now.refused
    c.hear.new.self.refused c.hear.new.self.calm c.clear.ensures.items c.in_ok-hear.ensures.talks still)
    (subst (λ l. AppendsFront (contents c.args.writer.now) (contents c.put.new.writer) l) c.as_slice.ensures.value c.put.ensures.front))

pub returns-clause-breaks : goal.returns-clause-breaks
returns-clause-breaks g c =
    let view = view_of g.T.Tree.table g.J.ServerTransfer.view in let contents = g.W.Write.contents in
    on_failed c.put.result
    (breaks_short c.args.piece.now c.hear.new.self.text.items (view c.args.server.now) (view c.hear.new.server) c.args.self.now.refused
    c.hear.new.self.refused (contents c.args.writer.now) (contents c.put.new.writer)
    (answered_short c.args.piece.now c.hear.new.self.text.items c.clear.new.self.items (view c.args.server.now) (view c.hear.new.server) c.args.self.now.refused
    c.hear.new.self.refused c.clear.ensures.items c.in_ok-hear.ensures.short)
    (subst (λ l. AppendsFront (contents c.args.writer.now) (contents c.put.new.writer) l) c.as_slice.ensures.value c.put.ensures.front))
