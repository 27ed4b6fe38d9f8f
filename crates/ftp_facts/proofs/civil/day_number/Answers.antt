use Rattle.std.proofs.Common.{arith}
use Rattle.jiff_core.proofs.SignedLemmas.{signed_casts}
use Rattle.ftp_facts.proofs.CalendarLemmas.{date_is, date_number}
use Rattle.ftp_facts.proofs.civil.day_number.Goals as goal

pub returns-in-Ok-clause-real : goal.returns-in-Ok-clause-real
returns-in-Ok-clause-real c =
    let d = c.in-Ok.date in
    let is = c.in-Ok.ensures.value in
    date_is d.year d.month d.day c.args.year c.args.month c.args.day (d.year_in, d.month_in, d.day_in) (omega (arith, signed_casts, is)) (omega (arith, signed_casts, is)) (omega (arith, signed_casts, is)) c.if-year-lt1970.false

pub returns-in-Ok-clause-counted : goal.returns-in-Ok-clause-counted
returns-in-Ok-clause-counted c =
    let d = c.in-Ok.date in
    let is = c.in-Ok.ensures.value in
    date_number d.year d.month d.day c.args.year c.args.month c.args.day c.number_of.result d.day_in.0 (omega (arith, signed_casts, is)) (omega (arith, signed_casts, is)) (omega (arith, signed_casts, is)) c.if-year-lt1970.false c.number_of.ensures.value
