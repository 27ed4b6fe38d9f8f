use Rattle.std.proofs.Common.{◌∙◌, ap, drop, refl}
use Rattle.ftp_server_model.specs.Heard.{code_in}
use Rattle.ftp_server_driver.specs.alone.Side.{rest_told}
use Rattle.ftp_server_driver.proofs.alone.Giving.{told_exactly}
use Rattle.ftp_server_driver.proofs.alone.serves.ServesEndCallsClocked.data_out.Goals as goal

pub returns-clause-gave : goal.returns-clause-gave
returns-clause-gave g c sends =
    let gave = c.data_out-count in
    let new = g.F.Far.server gave.new.self in (
      λ course. (
        gave.ensures.gave course,
        c.rest_told.ensures
            ∙ ap rest_told (c.code_at.ensures ∙ ap (λ place. code_in (drop place new.view.owed)) c.owed-before.ensures)
            ∙ told_exactly gave.result (g.F.Far.server c.args.end.now.server) new course gave.ensures.now sends,
      ),
      (gave.ensures.now, refl),
    )
