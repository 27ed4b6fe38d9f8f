-- How a drive of a server ends, made at once or in several calls.
use Rattle.std.proofs.Common.{◌≡◌, ◌∙◌, [], ◌∷◌, ap, refl, subst, sym, Result, Ok, Err}
use Rattle.std.specs.Prelude.{⊤}
use Rattle.ftp_ports.proofs.Leading.{fails_then, leads_then}
use Rattle.ftp_ports.specs.Asking.{Asked}
use Rattle.ftp_ports.specs.Actions.{Other, Stand, with_owner}
use Rattle.ftp_ports.specs.Driving.{Leads}
use Rattle.ftp_ports.specs.Channel.{IsLeft, Channel}
use Rattle.ftp_ports.specs.Machine.{IsFairEnd, Left, held}
use Rattle.ftp_ports.specs.declared.cause.Cause.{Cause}
use Rattle.ftp_driver.proofs.Driven.{did, leaves_done, may_when_done}
use Rattle.ftp_driver.specs.Calling.{Ends}
use Rattle.ftp_server_model.specs.Calls.{wants}
use Rattle.ftp_server_driver.specs.alone.Driving.{Drove, Finishes, IsFoundDone, IsOver}
use Rattle.ftp_server_driver.specs.alone.Side.{server_machine, server_side}

-- one that came to its end
pub drove : {T : Type 0} (start off : Stand server_side) (channel : Channel) (r : Result T Cause) (value : T) (asked : Asked) → start.owner.channel.unwritten ≡ []
    → start.owner.channel.untold ≡ [] → r ≡ Ok value → Ends server_machine (λ over old new. IsFoundDone old new) start off r → IsLeft asked off.owner.channel channel
    → IsFairEnd off.owner.channel asked → Drove start (with_owner (held off.owner.end channel) off)
drove start off channel r value asked unwritten untold gave ends left fair =
    let over : Ends server_machine (λ over old new. IsFoundDone old new) start off (Ok value) =
    subst (λ r. Ends server_machine (λ over old new. IsFoundDone old new) start off r) gave ends in
    let mid = over.0 in
    let done : IsFoundDone mid.owner.end off.owner.end = over.2 in
    let still : off ≡ mid = over.3 ∙ ap (λ e. with_owner (held e mid.owner.channel) mid) done.0 in
    let leads : Leads start off = subst (λ s. Leads start s) (sym still) over.1 in
    let over_now : IsOver off = subst (λ s. IsOver s) (sym still) done.1 in
    record {
      asked = asked;
      did = did server_machine start unwritten untold (Other (Left asked) ∷ []) leads.actions _ (
        off,
        leads.led,
        ((refl, left, (may_when_done (IsOver off) (wants off.owner.end.server.view) off.owner.channel.fate over_now, fair, leaves_done server_machine off.owner.end asked over_now)), refl),
      );
      over = over_now;
    }

-- one that began before, and led to where these turns began, ends as they do
pub ends_from : {T : Type 0} (start old off : Stand server_side) (r : Result T Cause) → Leads start old → Ends server_machine (λ (over : T) old new. IsFoundDone old new) old off r
    → Ends server_machine (λ (over : T) old new. IsFoundDone old new) start off r
ends_from start old off (Ok over) first ends = (ends.0, leads_then start old ends.0 first ends.1, ends.2, ends.3)
ends_from start old off (Err cause) first ends = fails_then cause start old off first ends

-- one that is over, and whose data connection is left then
pub finishes : (old off : Stand server_side) (channel : Channel) (over : ⊤) (asked : Asked)
    → Ends server_machine (λ (over : ⊤) old new. IsFoundDone old new) old off (Ok over)
    → IsLeft asked off.owner.channel channel → IsFairEnd off.owner.channel asked → Finishes old (with_owner (held off.owner.end channel) off)
finishes old off channel over asked ends left fair =
    let mid = ends.0 in
    let done : IsFoundDone mid.owner.end off.owner.end = ends.2 in
    let still : off ≡ mid = ends.3 ∙ ap (λ e. with_owner (held e mid.owner.channel) mid) done.0 in
    let leads : Leads old off = subst (λ s. Leads old s) (sym still) ends.1 in
    let is_over : IsOver off = subst (λ s. IsOver s) (sym still) done.1 in
    let may = may_when_done (IsOver off) (wants off.owner.end.server.view) off.owner.channel.fate is_over in
    let flushed = leaves_done server_machine off.owner.end asked is_over in
    record {
      actions = leads.actions;
      asked = asked;
      led = (off, leads.led, ((refl, left, (may, fair, flushed)), refl));
      over = is_over;
    }
