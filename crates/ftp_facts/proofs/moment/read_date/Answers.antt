use Rattle.ftp_facts.proofs.MomentLemmas.{no_month, no_day}
use Rattle.ftp_facts.proofs.moment.read_date.Goals as goal

pub returns-in_err-month-clause-none : goal.returns-in_err-month-clause-none
returns-in_err-month-clause-none c =
    let year = c.in_ok-year.ensures in
    let month = c.in_err-month.ensures in
    rw c.from_residual-in_err-month.ensures (no_month c.args.text.now c.in_ok-year.text.now c.in_ok-year.year year.bound year.some month.none)

pub returns-in_err-day-clause-none : goal.returns-in_err-day-clause-none
returns-in_err-day-clause-none c =
    let year = c.in_ok-year.ensures in
    let month = c.in_ok-month.ensures in
    let day = c.in_err-day.ensures in
    rw c.from_residual-in_err-day.ensures (no_day c.args.text.now c.in_ok-year.text.now c.in_ok-month.text.now c.in_ok-year.year c.in_ok-month.month year.bound month.bound year.some month.some day.none)
