-- A listing is what is counted of it, and numbers.
use Rattle.std.proofs.Common.{◌≡◌, ◌<◌, ◌≤◌, true, length, is_some}
use Rattle.std.proofs.Props.{props}
use mathlib.Core.HLevel.{is_prop→PathP}
use Rattle.ftp_server_model.specs.Held.{lines_limit}
use Rattle.ftp_server_transfer.specs.Stored.{IsWholeListing}
use Rattle.ftp_server_transfer.specs.declared.listing.Listing.{Listing}

pub whole_listing : {A : Type 0} (l : Listing A) → IsWholeListing l
whole_listing l e alloc what path entries encoder lines given ahead place = λ i. record {
  alloc = alloc i;
  what = what i;
  path = path i;
  entries = entries i;
  encoder = encoder i;
  lines = lines i;
  given = given i;
  ahead = ahead i;
  place = place i;
  within = is_prop→PathP (λ j. given j ≤ length (lines j).items) (λ j. hlevel props) e.within l.within i;
  known = is_prop→PathP (λ j. is_some (place j) ≡ true → 0 < length (ahead j).items) (λ j. hlevel props) e.known l.known i;
  few = is_prop→PathP (λ j. length (lines j).items ≤ lines_limit) (λ j. hlevel props) e.few l.few i;
  few_ahead = is_prop→PathP (λ j. length (ahead j).items ≤ lines_limit) (λ j. hlevel props) e.few_ahead l.few_ahead i;
}
