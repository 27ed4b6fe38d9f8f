use Rattle.std.specs.Option.{option_map}
use Rattle.std.proofs.lemmas.Result.{on_ok_weaker}
use Rattle.ftp_client_steps.specs.Tries.{run_in}
use Rattle.ftp_client_session.specs.Client.{job_of, view_of}
use Rattle.ftp_client_session.proofs.AgainLemmas.{run_begun}
use Rattle.ftp_client_session.proofs.dialogue.Dialogue.start_op.Goals as goal

pub returns-in-Entered-clause-ok : goal.returns-in-Entered-clause-ok
returns-in-Entered-clause-ok g c =
    let d = c.args.self.now in
    on_ok_weaker c.start_now.result (λ begun.
    run_begun (view_of g.F.ClientTransfer.flow c.start_now.new.self) (view_of g.F.ClientTransfer.flow d) c.replace.new.dest
    c.args.op d.standing (job_of g.F.ClientTransfer.flow c.replace.new.dest d.place) (λ op. option_map (run_in op) c.args.run) c.replace.ensures.after c.in-Entered.is begun)
    c.start_now.ensures.ok
