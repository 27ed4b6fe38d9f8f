use Rattle.std.proofs.Common.{arith}
use Rattle.jiff_core.proofs.SignedLemmas.{signed_casts}
use Rattle.ftp_facts.proofs.CalendarLemmas.{year_from_epoch}
use Rattle.ftp_facts.proofs.civil.year_of.Goals as goal

pub overflow_cast-result : goal.overflow_cast-result
overflow_cast-result c =
    let d = c.args.date in
    omega (arith, signed_casts, year_from_epoch d.year d.month d.day (d.year_in, d.month_in, d.day_in) c.requires, d.year_in)

pub returns-clause-value : goal.returns-clause-value
returns-clause-value c =
    let d = c.args.date in
    omega (arith, signed_casts, year_from_epoch d.year d.month d.day (d.year_in, d.month_in, d.day_in) c.requires, d.year_in)

pub returns-clause-from : goal.returns-clause-from
returns-clause-from c =
    let d = c.args.date in
    omega (arith, signed_casts, year_from_epoch d.year d.month d.day (d.year_in, d.month_in, d.day_in) c.requires, d.year_in)
