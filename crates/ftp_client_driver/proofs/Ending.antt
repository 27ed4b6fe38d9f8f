-- How a drive of a client ends, made at once or in several calls.
use Rattle.std.proofs.Common.{◌≡◌, ◌∙◌, [], ◌∷◌, Some, refl, sym, ap, subst, Result, Ok, Err, arith}
use Rattle.std.specs.Prelude.{true, false, Option}
use Rattle.ftp_ports.proofs.Leading.{fails_then, leads_then}
use Rattle.ftp_ports.specs.Asking.{Asked, Shut}
use Rattle.ftp_ports.specs.Actions.{Other, Stand, with_owner}
use Rattle.ftp_ports.specs.Driving.{Leads}
use Rattle.ftp_ports.specs.Channel.{IsEnded, IsLeft, Channel}
use Rattle.ftp_ports.specs.Machine.{Closed, Does, Held, IsCut, IsFairEnd, Left, held}
use Rattle.ftp_ports.specs.Outcome.{IsReset}
use Rattle.ftp_ports.specs.declared.cause.Cause.{Cause}
use Rattle.ftp_driver.proofs.Driven.{did, leaves_done, may_when_done}
use Rattle.ftp_driver.specs.Calling.{Ends}
use Rattle.ftp_operation.specs.declared.answer.Answer.{Answer}
use Rattle.ftp_operation.specs.Answer.{Said, Lost, said_of}
use Rattle.ftp_client_model.specs.Calls.{control_end, data_closed, is_sound, report_of, reports, wants}
use Rattle.ftp_client_model.specs.Failing.{Client}
use Rattle.ftp_client_model.specs.View.{View}
use Rattle.ftp_client_driver.specs.Driving.{ClientDrove, ClientFinishes, ClientGivesUp, Reports}
use Rattle.ftp_client_driver.specs.Side.{IsOwn, Report, Reporting, client_machine, client_side, is_operation_under_way}

-- where the connection is cut, an operation under way is lost
cut_loses : (v : View) → is_sound v.standing ≡ true → is_operation_under_way v.job ≡ true → report_of (data_closed (control_end v)) ≡ Some Lost
unfolding control_end
cut_loses v sound under = grind arith

-- and the client has failed
cut_fails : (v : View) → is_sound (control_end v).standing ≡ false
unfolding control_end
cut_fails v = grind arith

-- one that gave its answer is idle
told_is_idle : (answer : Said) (v : View) → Some answer ≡ report_of v → is_operation_under_way (reports v).job ≡ false
told_is_idle answer v is = grind arith

-- the port alone is closed where none stands
is_shut : (asked : Asked) (old new : Channel) → old.stands ≡ false → IsLeft asked old new → IsLeft Shut old new
is_shut asked old new none left = subst (λ a. IsLeft a old new) (subst (λ stands. IsEnded stands old.left old.written old.unwritten asked) none left.ended) left

-- one that is over: it gave its report, its data connection was left, and it was told that it is closed
pub finishes : {A : Type 0} (old off : Stand client_side) (channel : Channel) (new : Client) (answer : Answer A) (asked : Asked)
    → Ends client_machine Reports old off (Ok answer) → IsLeft asked off.owner.channel channel
    → IsFairEnd off.owner.channel asked → Does client_machine Closed off.owner.end new → ClientFinishes (Some (said_of answer)) old (with_owner (held new channel) off)
finishes old off channel new answer asked over left fair closed =
    let mid = over.0 in
    let told = over.2 in
    let is = ap (λ s. s.owner) over.3 in
    let idle : is_operation_under_way off.owner.end.view.job ≡ false = ap (λ v. is_operation_under_way v.job) (told.1).0 ∙ told_is_idle (said_of answer) mid.owner.end.view told.0 in
    record {
      answer = said_of answer;
      answered = refl;
      actions = over.1.actions;
      asked = asked;
      led = (
        with_owner (held off.owner.end channel) off,
        (off, (mid, over.1.led, ((told, ap (λ o. o.channel) is, tt), subst (λ s. off ≡ with_owner s mid) (sym is) over.3)), ((refl, left, (may_when_done (is_operation_under_way off.owner.end.view.job ≡ false) (wants off.owner.end.view) off.owner.channel.fate idle, fair, leaves_done client_machine off.owner.end asked idle)), refl)),
        ((closed, (refl, left.stands), λ sound under. absurd (let t : is_operation_under_way off.owner.end.view.job ≡ true = under in cc)), refl),
      );
    }

-- so a drive that began where no octets of a data connection were on their way or in hand
pub drove : {A : Type 0} (start off : Stand client_side) (channel : Channel) (new : Client) (r : Result (Answer A) Cause) (answer : Answer A) (asked : Asked)
    → start.owner.channel.unwritten ≡ [] → start.owner.channel.untold ≡ [] → r ≡ Ok answer → Ends client_machine Reports start off r → IsLeft asked off.owner.channel channel
    → IsFairEnd off.owner.channel asked → Does client_machine Closed off.owner.end new → ClientDrove start (with_owner (held new channel) off) (Some (said_of answer))
unfolding finishes
drove start off channel new r answer asked unwritten untold gave ends left fair closed =
    let over : Ends client_machine Reports start off (Ok answer) = subst (λ r. Ends client_machine Reports start off r) gave ends in
    let finished = finishes start off channel new answer asked over left fair closed in
    record {
      answer = said_of answer;
      answered = refl;
      asked = asked;
      did = did client_machine start unwritten untold (Other Closed ∷ Other (Left asked) ∷ Other (Report (Some (said_of answer))) ∷ []) finished.actions _ finished.led;
    }

-- one that began before, and led to where these turns began, ends as they do
pub ends_from : {A : Type 0} (start old off : Stand client_side) (r : Result (Answer A) Cause) → Leads start old → Ends client_machine Reports old off r
    → Ends client_machine Reports start off r
ends_from start old off (Ok over) first ends = (ends.0, leads_then start old ends.0 first ends.1, ends.2, ends.3)
ends_from start old off (Err cause) first ends = fails_then cause start old off first ends

-- one that broke off: it was told that the control connection ended, its data connection was reset, then the port closed, and it was asked for its report
pub gave_up : (off : Held Client) (cut closed new : Client) (cut_channel mid shut : Channel) (said : Option Said) (asked ended : Asked)
    → IsCut client_machine off (held cut cut_channel) → IsReset asked cut_channel mid → IsLeft ended mid shut → Does client_machine Closed cut closed
    → IsOwn (Reporting said) closed new → ClientGivesUp said off (held new shut)
gave_up off cut closed new cut_channel mid shut said asked ended is_cut reset left closes reports =
    let cut_view : cut.view ≡ control_end off.end.view = (is_cut.0).0 in
    record {
      cut = held cut cut_channel;
      is_cut = is_cut;
      asked = asked;
      mid = held cut mid;
      leaves = reset.left;
      stays = refl;
      dropped = reset.dropped;
      shut = held cut shut;
      shuts = is_shut ended mid shut (reset.left).stands left;
      keeps = refl;
      closed = held closed shut;
      closes = (closes, (refl, left.stands), λ sound under. absurd (let e : is_sound cut.view.standing ≡ false = ap (λ v. is_sound v.standing) cut_view ∙ cut_fails off.end.view in let t : is_sound cut.view.standing ≡ true = sound in cc));
      reports = (reports, refl, tt);
      lost = λ sound under. reports.0 ∙ ap report_of (closes.0 ∙ ap data_closed cut_view) ∙ cut_loses off.end.view sound under;
    }
