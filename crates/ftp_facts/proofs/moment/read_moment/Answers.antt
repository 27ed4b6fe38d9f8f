use Rattle.std.proofs.Common.{ℕ, sym}
use Rattle.ftp_facts.specs.Moment.{SaysMoment}
use Rattle.ftp_facts.proofs.MomentLemmas.{BeginsWithDate-same}
use Rattle.ftp_facts.proofs.moment.read_moment.Goals as goal

pub returns-in_err-day-clause-silent : goal.returns-in_err-day-clause-silent
returns-in_err-day-clause-silent c =
    let none = c.in_err-day.ensures in
    let silent = λ (seconds : ℕ) (says : SaysMoment c.args.text.now seconds). none.none says.number says.time says.date_first in
    rw c.from_residual.ensures silent

pub returns-in_err-second-clause-silent : goal.returns-in_err-second-clause-silent
returns-in_err-second-clause-silent c =
    let day = c.in_ok-day.ensures in
    let none = c.in_err-second.ensures in
    let silent = λ (seconds : ℕ) (says : SaysMoment c.args.text.now seconds).
    let same = BeginsWithDate-same c.args.text.now c.in_ok-day.day says.number c.in_ok-day.text.now says.time day.some says.date_first in
    none.none says.seconds says.fraction (rw (sym same.1) at says.time_next) in
    rw c.from_residual-in_err-second.ensures silent
