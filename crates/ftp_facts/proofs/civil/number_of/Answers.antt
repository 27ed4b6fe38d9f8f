use Rattle.std.proofs.Common.{arith}
use Rattle.jiff_core.proofs.SignedLemmas.{signed_arith}
use Rattle.jiff_core.proofs.CalendarLemmas.{days_from_civil-day_count}
use Rattle.ftp_facts.proofs.CalendarLemmas.{from_epoch}
use Rattle.ftp_facts.proofs.civil.number_of.Goals as goal

pub overflow_sub-result : goal.overflow_sub-result
overflow_sub-result c =
    let d = c.args.date in
    omega (arith, signed_arith, c.days_since_min.ensures.value, days_from_civil-day_count d.year d.month d.day, from_epoch d.year d.month d.day (d.year_in, d.month_in, d.day_in) c.requires)

pub returns-clause-value : goal.returns-clause-value
returns-clause-value c =
    let d = c.args.date in
    omega (arith, signed_arith, c.days_since_min.ensures.value, days_from_civil-day_count d.year d.month d.day, from_epoch d.year d.month d.day (d.year_in, d.month_in, d.day_in) c.requires)
