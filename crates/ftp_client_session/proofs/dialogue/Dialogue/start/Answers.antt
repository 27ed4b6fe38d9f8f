use Rattle.std.proofs.Common.{◌∙◌, ap}
use Rattle.ftp_client_model.specs.View.{View, done_with}
use Rattle.ftp_client_session.specs.Client.{view_of}
use Rattle.ftp_client_session.proofs.RunLemmas.{failed_starts}
use Rattle.ftp_client_session.proofs.dialogue.Dialogue.start.Goals as goal

pub returns-in-Failed-clause-ok : goal.returns-in-Failed-clause-ok
returns-in-Failed-clause-ok g c =
    let v : View = view_of g.F.ClientTransfer.flow c.args.self.now in
    c.tell.ensures
    ∙ ap (λ said. done_with said v) c.failure_answer.ensures
    ∙ failed_starts c.args.op v c.in-Failed.failure c.in-Failed.is
