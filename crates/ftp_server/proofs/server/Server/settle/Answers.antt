use Rattle.std.proofs.Common.{◌≡◌, ◌∙◌, true, false, not, is_some, refl, sym, ap}
use Rattle.ftp_server.specs.Server.{server_of, view_of}
use Rattle.ftp_server_model.specs.Heard.{waited_heard}
use Rattle.ftp_server.proofs.CallLemmas.{none_is, nothing_waits}
use Rattle.ftp_server.proofs.server.Server.settle.Goals as goal

pub returns-then-is_none-clause-acts : goal.returns-then-is_none-clause-acts
returns-then-is_none-clause-acts g c =
    nothing_waits (server_of g.T.Tree.table g.T.Tree.failures g.J.ServerTransfer.view c.args.self.now)
    (none_is c.args.self.now.waiting (c.is_none.ensures ∙ ap not c.if-is_none.true))

pub returns-then-is_none-clause-told : goal.returns-then-is_none-clause-told
returns-then-is_none-clause-told g c same =
    let v = view_of g.T.Tree.table g.J.ServerTransfer.view c.args.self.now in
    sym (ap (λ w. waited_heard w v) (none_is c.args.self.now.waiting (c.is_none.ensures ∙ ap not c.if-is_none.true)))

pub returns-clause-alone : goal.returns-clause-alone
returns-clause-alone g c none =
    absurd (let e : false ≡ true = ap is_some (sym none) ∙ c.is_none.ensures ∙ ap not c.if-is_none.false in cc)
