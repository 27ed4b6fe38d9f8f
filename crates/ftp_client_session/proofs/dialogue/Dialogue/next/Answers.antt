use Rattle.std.proofs.Common.{◌∙◌, sym, ap, subst}
use Rattle.std.specs.Prelude.{IsTrue, is_some}
use Rattle.std.specs.Option.{option_map}
use Rattle.std.proofs.lemmas.Result.{IfOk-weaker, on_err_weaker}
use Rattle.ftp_operation.specs.Answer.{said_of}
use Rattle.ftp_client_model.specs.Dialogue.{next_with}
use Rattle.ftp_client_steps.specs.Tries.{run_in}
use Rattle.ftp_client_session.proofs.dialogue.Dialogue.next.Goals as goal

pub returns-in-Some-clause-next : goal.returns-in-Some-clause-next
returns-in-Some-clause-next g c =
    let op = c.args.self.now.op in
    IfOk-weaker c.next_in.result _ _ (λ follows is.
    is ∙ ap (λ run. next_with (option_map (run_in op) run) op (said_of c.args.answer.now)) (sym c.in-Some.is)) c.next_in.ensures.next

pub returns-in-Some-clause-followed : goal.returns-in-Some-clause-followed
returns-in-Some-clause-followed g c =
    let op = c.args.self.now.op in
    on_err_weaker c.next_in.result (λ follows.
    subst (λ run. IsTrue (is_some (next_with (option_map (run_in op) run) op (said_of c.args.answer.now)))) (sym c.in-Some.is) follows) c.next_in.ensures.follows
