use Rattle.std.proofs.Common.{[], ◌∙◌, ap, subst, sym}
use Rattle.ftp_driver.proofs.Words.{Leads, fails_then, goes_err, channel_at, leads_looked, leads_nowhere, leads_then, standing}
use Rattle.ftp_driver.proofs.drive.Drive.would_wait.Goals as goal
use Rattle.ftp_driver.proofs.drive.Drive.would_wait.Goals.{then-owes+else-not-looks+in_ok-flush, else-owes}

pub returns-then-is_parting-clause-goes : goal.returns-then-is_parting-clause-goes
returns-then-is_parting-clause-goes g c =
    leads_looked g.K.EndCalls.machine _ _
    (ap (λ h. channel_at g.S.Read.remaining g.S.Write.contents h c.looks.new.self []) c.looks.ensures.asked ∙ c.looks.ensures.same (g.P.Ports.history c.args.self.now.ports.now))

pub returns-in_err-flush-clause-goes : goal.returns-in_err-flush-clause-goes
returns-in_err-flush-clause-goes g c =
    goes_err c.in_err-flush.field-0.0 _ _ c.from_residual.result c.from_residual.ensures.1 (fails_then _ _ _ _ c.looks-then-owes.ensures.leads c.in_err-flush.ensures.goes)

pub returns-clause-goes : goal.returns-clause-goes
returns-clause-goes g c =
    let at = standing g.K.EndCalls.machine g.K.EndCalls.here g.R.Read.remaining g.W.Write.contents g.P.Ports.history g.S.Read.remaining g.S.Write.contents in
    let old = at c.args.self.now in
    let flushed : Leads old (at c.if-owes.self) = elim c.if-owes.branch [
      | then-owes+else-not-looks+in_ok-flush w ↦
          subst (λ s. Leads old (at s)) (sym w.self-is) (leads_then _ _ _ w.looks-then-owes.ensures.leads w.in_ok-flush.ensures.goes)
      | else-owes w ↦ subst (λ s. Leads old (at s)) (sym w.self-is) (leads_nowhere old)
    ] in
    leads_then _ _ _ flushed c.is_ready.ensures.leads
