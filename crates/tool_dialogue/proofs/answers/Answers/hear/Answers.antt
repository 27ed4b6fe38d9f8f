use Rattle.std.proofs.Common.{◌++◌, ◌∙◌, ap, arith, subst}
use Rattle.ftp_server.specs.Server.{view_of}
use Rattle.tool_dialogue.proofs.AnswerLemmas.{take_whole}
use Rattle.tool_dialogue.proofs.TalkLemmas.{talks_more}
use Rattle.tool_dialogue.proofs.ShortLemmas.{Talks_more}
use Rattle.tool_dialogue.specs.Dialogue.{talk_of, talks}
use Rattle.tool_dialogue.specs.Short.{Talks}
use Rattle.tool_dialogue.proofs.answers.Answers.hear.Goals as goal

pub loop-octet-preserved : goal.loop-octet-preserved
loop-octet-preserved g c =
    let view = view_of g.T.Tree.table g.J.ServerTransfer.view in
    record {
      free = c.in_ok-answer.ensures.free;
      calm = λ still. c.loop-octet.invariant.calm (c.in_ok-answer.ensures.calm still);
      short = λ read is before.
          Talks_more read (talk_of (view c.args.server.now) (before ++ c.args.self.now.text.items) c.args.self.now.refused)
          (talk_of (view c.loop-octet.server) (before ++ c.loop-octet.self.text.items) c.loop-octet.self.refused)
          (talk_of (view c.answer.new.server) (before ++ c.answer.new.self.text.items) c.answer.new.self.refused)
          c.args.piece.now c.loop-octet.octet-index c.loop-octet-test.true (c.loop-octet.invariant.short read is before) (c.in_ok-answer.ensures.short read is before);
      talks = λ still read is before.
          talks_more read (talk_of (view c.args.server.now) (before ++ c.args.self.now.text.items) c.args.self.now.refused)
          (talk_of (view c.loop-octet.server) (before ++ c.loop-octet.self.text.items) c.loop-octet.self.refused)
          (talk_of (view c.answer.new.server) (before ++ c.answer.new.self.text.items) c.answer.new.self.refused)
          c.args.piece.now c.loop-octet.octet-index c.loop-octet-test.true (c.loop-octet.invariant.talks (c.in_ok-answer.ensures.calm still) read is before)
          (c.in_ok-answer.ensures.turn still read is before);
    }

pub returns-clause-talks : goal.returns-clause-talks
returns-clause-talks g c = λ still read is before.
    let view = view_of g.T.Tree.table g.J.ServerTransfer.view in
    c.loop-octet.invariant.talks still read is before
    ∙ ap (talks read (talk_of (view c.args.server.now) (before ++ c.args.self.now.text.items) c.args.self.now.refused))
    (take_whole c.loop-octet.octet-index c.args.piece.now (omega (arith, c.loop-octet-test.false)))

pub returns-clause-short : goal.returns-clause-short
returns-clause-short g c = λ read is before.
    let view = view_of g.T.Tree.table g.J.ServerTransfer.view in
    subst (λ l. Talks read (talk_of (view c.args.server.now) (before ++ c.args.self.now.text.items) c.args.self.now.refused) l
    (talk_of (view c.loop-octet.server) (before ++ c.loop-octet.self.text.items) c.loop-octet.self.refused))
    (take_whole c.loop-octet.octet-index c.args.piece.now (omega (arith, c.loop-octet-test.false))) (c.loop-octet.invariant.short read is before)
