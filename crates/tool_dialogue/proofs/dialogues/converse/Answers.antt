use Rattle.std.proofs.Common.{◌≡◌, ◌++◌, ◌||◌, ◌∙◌, inl, ap, rules, subst, sym, take}
use Rattle.std.specs.Io.KnownBytes.{Appends, Consumes}
use Rattle.std.proofs.KnownBytes.{Keeps-refl}
use Rattle.ftp_ports.specs.Beginning.{AppendsFront}
use Rattle.ftp_server.specs.Server.{view_of}
use Rattle.tool_dialogue.proofs.Conversing.{begins, breaks_between, breaks_in, ends_at_end, ends_failed, ends_over, ends_unread, follows_on, greeting}
use Rattle.tool_dialogue.specs.Dialogue.{is_refusal}
use Rattle.tool_dialogue.proofs.dialogues.converse.Goals as goal

pub returns-in_err-put : goal.returns-in_err-put
returns-in_err-put g c =
    let contents = g.W.Write.contents in
    let v = view_of g.T.Tree.table g.J.ServerTransfer.view c.args.server.now in
    let text = c.in_ok-tell.ensures.text ∙ ap (λ l. l ++ v.owed) c.new-answers.ensures.text ∙ ap (λ w. w.owed) c.requires.begun in
    ends_failed c.args.most _ _ _ _ c.from_residual-in_err-put.result c.from_residual-in_err-put.ensures.0
    (inl (λ read is. inl (
      Keeps-refl _,
      subst (λ l. AppendsFront (contents c.args.writer.now) (contents c.put.new.writer) l)
          (c.as_slice.ensures.value ∙ text ∙ sym (greeting read)) c.in_err-put.ensures.front,
    )))

pub returns-in_err-tell : goal.returns-in_err-tell
returns-in_err-tell g c = ends_failed c.args.most _ _ _ _ c.from_residual.result c.from_residual.ensures.0 (ends_unread c.args.most _ _)

pub loop-init : goal.loop-init
loop-init g c =
    let contents = g.W.Write.contents in
    let view = view_of g.T.Tree.table g.J.ServerTransfer.view in
    let v = view c.args.server.now in
    begins _ _ _ v (view c.tell.new.server) c.tell.new.self.text.items c.tell.new.self.refused c.requires.begun c.in_ok-tell.ensures.view
    (c.in_ok-tell.ensures.text ∙ ap (λ l. l ++ v.owed) c.new-answers.ensures.text)
    (c.in_ok-tell.ensures.refused ∙ ap (λ b. b || is_refusal v.owed) c.new-answers.ensures.refused)
    (subst (λ l. Appends (contents c.args.writer.now) (contents c.put.new.writer) l) c.as_slice.ensures.value c.in_ok-put.ensures.ok) c.tell.new.self.calm

pub returns-in_err-count : goal.returns-in_err-count
returns-in_err-count g c =
    ends_failed c.args.most _ _ _ _ c.from_residual-in_err-count.result c.from_residual-in_err-count.ensures.0
    (breaks_between c.args.most _ _ _ _ _ (view_of g.T.Tree.table g.J.ServerTransfer.view c.loop.server) c.loop.answers.refused c.loop.answers.calm c.loop.invariant
    c.in_err-count.ensures.err)

pub returns : goal.returns
returns g c =
    breaks_between c.args.most _ _ _ _ _ (view_of g.T.Tree.table g.J.ServerTransfer.view c.loop.server) c.loop.answers.refused c.loop.answers.calm c.loop.invariant (Keeps-refl _)

pub returns-then-count-eq0 : goal.returns-then-count-eq0
returns-then-count-eq0 g c =
    let none : c.in_ok-count.count ≡ 0 = c.if-count-eq0.true in
    ends_at_end c.args.most _ _ _ _ _ (take c.in_ok-count.count c.get.new.room) (view_of g.T.Tree.table g.J.ServerTransfer.view c.loop.server) c.loop.answers.refused
    c.loop.answers.calm c.refuses.result c.loop.invariant c.in_ok-count.ensures.ok (ap (λ n. take n c.get.new.room) none)
    (c.in_ok-count.ensures.end none (search rules)) c.refuses.ensures

pub returns-in_err-exchange : goal.returns-in_err-exchange
returns-in_err-exchange g c =
    let given = subst (λ l. Consumes (g.R.Read.remaining c.loop.reader) (g.R.Read.remaining c.get.new.reader) l) (sym c.split_at.ensures.front) c.in_ok-count.ensures.ok in
    ends_failed c.args.most _ _ _ _ c.from_residual-in_err-exchange.result c.from_residual-in_err-exchange.ensures.0
    (breaks_in c.args.most _ _ _ _ _ _ c.split_at.result.0.now (view_of g.T.Tree.table g.J.ServerTransfer.view c.loop.server) c.loop.answers.refused c.loop.answers.calm
    c.exchange.new.self.calm c.loop.invariant given (search rules) c.in_err-exchange.ensures.err c.in_err-exchange.ensures.breaks c.in_err-exchange.ensures.calm)

pub returns-then-not-is_running : goal.returns-then-not-is_running
returns-then-not-is_running g c =
    let view = view_of g.T.Tree.table g.J.ServerTransfer.view in
    let given = subst (λ l. Consumes (g.R.Read.remaining c.loop.reader) (g.R.Read.remaining c.get.new.reader) l) (sym c.split_at.ensures.front) c.in_ok-count.ensures.ok in
    ends_over c.args.most _ _ _ _ _ _ c.split_at.result.0.now c.exchange.new.self.text.items (view c.loop.server) (view c.exchange.new.server) c.loop.answers.refused
    c.exchange.new.self.refused c.loop.answers.calm c.exchange.new.self.calm c.refuses-then-not-is_running.result c.loop.invariant given (search rules) c.in_ok-exchange.ensures.answers
    c.in_ok-exchange.ensures.short c.in_ok-exchange.ensures.calm c.in_ok-exchange.ensures.wrote (sym c.is_running.ensures ∙ c.if-not-is_running.true) c.refuses-then-not-is_running.ensures

pub loop-preserved : goal.loop-preserved
loop-preserved g c =
    let view = view_of g.T.Tree.table g.J.ServerTransfer.view in
    let given = subst (λ l. Consumes (g.R.Read.remaining c.loop.reader) (g.R.Read.remaining c.get.new.reader) l) (sym c.split_at.ensures.front) c.in_ok-count.ensures.ok in
    follows_on _ _ _ _ _ _ c.split_at.result.0.now c.exchange.new.self.text.items (view c.loop.server) (view c.exchange.new.server) c.loop.answers.refused
    c.exchange.new.self.refused c.loop.answers.calm c.exchange.new.self.calm c.loop.invariant given c.in_ok-exchange.ensures.answers c.in_ok-exchange.ensures.short
    c.in_ok-exchange.ensures.calm c.in_ok-exchange.ensures.wrote c.in_ok-exchange.ensures.free
    (sym c.is_running.ensures ∙ c.if-not-is_running.false)
