use Rattle.std.proofs.Common.{◌≡◌, ◌&&◌, ◌++◌, ◌∙◌, ap, inr, sym, refl}
use Rattle.std.proofs.lemmas.Bool.{and_parts}
use Rattle.ftp_server.specs.Server.{view_of}
use Rattle.tool_dialogue.proofs.AnswerLemmas.{free_behind}
use Rattle.tool_dialogue.proofs.ShortLemmas.{heard_short_reaches, turned_short}
use Rattle.tool_dialogue.proofs.TalkLemmas.{turned_by, unturned}
use Rattle.tool_dialogue.specs.Dialogue.{talk_of}
use Rattle.tool_dialogue.proofs.answers.Answers.answer.Goals as goal
use Rattle.tool_dialogue.proofs.answers.Answers.answer.Goals.{else-self, then-self}

pub returns-then-not-is_running-clause-turn : goal.returns-then-not-is_running-clause-turn
returns-then-not-is_running-clause-turn g c = λ still read is before.
    sym (unturned read (talk_of (view_of g.T.Tree.table g.J.ServerTransfer.view c.args.server.now) (before ++ c.args.self.now.text.items) c.args.self.now.refused)
    c.args.octet (sym c.is_running.ensures ∙ c.if-not-is_running.true))

pub serve-requires : goal.serve-requires
serve-requires g c =
    let view = view_of g.T.Tree.table g.J.ServerTransfer.view in
    record {
      none = (heard_short_reaches (view c.args.server.now) (view c.take-calm.new.server) c.args.octet c.requires.free (sym c.is_running.ensures ∙ c.if-not-is_running.false)
          c.take-calm.ensures.heard).waiting;
    }

pub returns-clause-free : goal.returns-clause-free
returns-clause-free g c =
    let view = view_of g.T.Tree.table g.J.ServerTransfer.view in
    free_behind (view c.take-calm.new.server) (view c.serve.new.server) (view c.tell.new.server)
    (heard_short_reaches (view c.args.server.now) (view c.take-calm.new.server) c.args.octet c.requires.free (sym c.is_running.ensures ∙ c.if-not-is_running.false)
    c.take-calm.ensures.heard)
    c.serve.ensures.served c.in_ok-tell.ensures.view

pub returns-clause-turn : goal.returns-clause-turn
returns-clause-turn g c = λ still read is before.
    let view = view_of g.T.Tree.table g.J.ServerTransfer.view in
    let joined : c.if-self.self ≡ (c.args.self.now.calm && c.take-calm.result) =
    elim c.if-self.branch [
      | then-self w ↦ w.self-is ∙ ap (λ b. b && c.take-calm.result) (sym w.if-self.true)
      | else-self w ↦ w.self-is ∙ w.if-self.false ∙ ap (λ b. b && c.take-calm.result) (sym w.if-self.false)
    ]
    in
    turned_by read (view c.args.server.now) (view c.take-calm.new.server) (view c.serve.new.server) (view c.tell.new.server) c.args.self.now.text.items
    c.tell.new.self.text.items c.args.self.now.refused c.tell.new.self.refused c.args.octet (sym c.is_running.ensures ∙ c.if-not-is_running.false)
    (c.take-calm.ensures.calm (and_parts c.args.self.now.calm c.take-calm.result (sym joined ∙ sym c.in_ok-tell.ensures.calm ∙ still)).1 read is)
    c.serve.ensures.served c.in_ok-tell.ensures.view c.in_ok-tell.ensures.text c.in_ok-tell.ensures.refused before

pub returns-then-not-is_running-clause-short : goal.returns-then-not-is_running-clause-short
returns-then-not-is_running-clause-short g c = λ read is before. inr (sym c.is_running.ensures ∙ c.if-not-is_running.true, refl)

pub returns-clause-short : goal.returns-clause-short
returns-clause-short g c = λ read is before.
    let view = view_of g.T.Tree.table g.J.ServerTransfer.view in
    turned_short read (view c.args.server.now) (view c.take-calm.new.server) (view c.serve.new.server) (view c.tell.new.server) c.args.self.now.text.items
    c.tell.new.self.text.items c.args.self.now.refused c.tell.new.self.refused c.args.octet (sym c.is_running.ensures ∙ c.if-not-is_running.false)
    (c.take-calm.ensures.heard read is) c.serve.ensures.served c.in_ok-tell.ensures.view c.in_ok-tell.ensures.text c.in_ok-tell.ensures.refused before
