use Rattle.std.proofs.lemmas.Result.{on_ok_weaker, on_err_weaker}
use Rattle.ftp_client_session.specs.Client.{view_of}
use Rattle.ftp_client_session.proofs.AgainLemmas.{tried, tried_short}
use Rattle.ftp_client_session.proofs.RunLemmas.{under_way}
use Rattle.ftp_client_session.proofs.dialogue.Dialogue.try_again.Goals as goal

pub returns-clause-ok : goal.returns-clause-ok
returns-clause-ok g c =
    on_ok_weaker c.begin.result (λ begun.
    tried (view_of g.F.ClientTransfer.flow c.begin.new.self) (view_of g.F.ClientTransfer.flow c.count_try.new.self) (view_of g.F.ClientTransfer.flow c.drop_link.new.self)
    (view_of g.F.ClientTransfer.flow c.args.self.now) c.count_try.new.self.op c.drop_link.new.self.op c.args.self.now.op
    c.count_try.ensures.op c.drop_link.ensures.op c.drop_link.ensures.link c.count_try.ensures.run begun)
    c.begin.ensures.ok

pub returns-clause-err : goal.returns-clause-err
returns-clause-err g c =
    on_err_weaker c.begin.result (λ begun.
    tried_short (view_of g.F.ClientTransfer.flow c.begin.new.self) (view_of g.F.ClientTransfer.flow c.count_try.new.self) (view_of g.F.ClientTransfer.flow c.drop_link.new.self)
    (view_of g.F.ClientTransfer.flow c.args.self.now) c.drop_link.new.self.op
    (under_way g.F.ClientTransfer.flow c.args.self.now.op c.args.self.now.place c.requires) c.drop_link.ensures.link c.count_try.ensures.run begun)
    c.begin.ensures.err
