use Rattle.laws_drivers.proofs.control.Delaying.{down_breaks_commute, end_forgets_break, end_forgets_late_break, opening_commutes, unopened_is_broken, up_breaks_commute, up_replies_commute}
use Rattle.laws_drivers.proofs.control.laws.clients_hear_late.Goals as goal

pub returns : goal.returns
returns c = record {
  downloads = down_breaks_commute;
  uploads = up_breaks_commute;
  replies = up_replies_commute;
  openings = opening_commutes;
  unopened = unopened_is_broken;
  lost = end_forgets_break;
  lost_late = end_forgets_late_break;
}
