use Rattle.std.proofs.Common.{◌≡◌, arith, refl, sym, ◌/◌, ◌%◌}
use Rattle.ftp_facts.specs.Calendar.{IsDate, day_number}
use Rattle.ftp_facts.proofs.CalendarLemmas.{date_is, date_number}
use Rattle.ftp_facts.proofs.DigitsLemmas.{WritesMoment-digits}
use Rattle.ftp_facts.proofs.moment.moment_text.Goals as goal

pub returns-clause-written : goal.returns-clause-written
returns-clause-written c =
    let d = c.date_of-date.result in
    let year = c.year_of-year.result in
    let rest = c.args.moment.seconds % 86_400 in
    let value = sym c.year_of-year.ensures.value in
    let real : IsDate year d.month d.day = date_is d.year d.month d.day year d.month d.day (d.year_in, d.month_in, d.day_in) value refl refl c.year_of-year.ensures.from in
    let number : c.args.moment.seconds / 86_400 ≡ day_number year d.month d.day = date_number d.year d.month d.day year d.month d.day (c.args.moment.seconds / 86_400) d.day_in.0 value refl refl c.year_of-year.ensures.from (sym c.date_of-date.ensures) in
    record {
      year = year;
      month = d.month;
      day = d.day;
      hour = rest / 3600;
      minute = rest % 3600 / 60;
      second = rest % 60;
      real_date = real;
      real_time = omega arith;
      no_leap = omega arith;
      written = simp (c.two.ensures, c.two-2.ensures, c.two-3.ensures, c.two-4.ensures, c.two-5.ensures, c.two-6.ensures, c.two-7.ensures);
      counted = omega (arith, number);
    }

pub returns-clause-digits : goal.returns-clause-digits
returns-clause-digits c = WritesMoment-digits _ c.args.moment.seconds (returns-clause-written c)
