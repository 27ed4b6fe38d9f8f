use Rattle.std.proofs.Common.{refl}
use Rattle.ftp_facts.specs.Calendar.{days_of_months, days_of_years}
use Rattle.ftp_facts.specs.Moment.{moment_value}
use Rattle.tool_listing.proofs.entries.rows.years_of_list.Goals as goal

pub returns : goal.returns
unfolding moment_value days_of_years days_of_months
returns c = (refl, refl)
