use Rattle.std.proofs.Common.{ap, ◌∙◌}
use Rattle.ftp_driver.specs.declared.drive.Turned.TheVariants as Turns
use Rattle.ftp_pair_memory.proofs.steps.Coursing.{by_report}
use Rattle.ftp_pair_memory.proofs.steps.turn_ending.near_course.Goals as goal

pub returns-in-Some : goal.returns-in-Some
returns-in-Some g c =
    (c.in-Over.driven.report, c.in-Over.is ∙ ap (λ off. Turns.Over (record { report = c.in-Over.driven.report; off = off })) c.in-Some.is)

pub returns-in-None : goal.returns-in-None
returns-in-None g c =
    by_report c.reported.result c.args.turned c.in-Over.driven.report c.args.is_heard
    (c.in-Over.is ∙ ap (λ off. Turns.Over (record { report = c.in-Over.driven.report; off = off })) c.in-None.is) c.reported.ensures
