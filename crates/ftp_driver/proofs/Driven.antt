-- What a drive did, from what its turns lead to.
use Rattle.std.proofs.Common.{◌≡◌, inr, List, [], ◌++◌, subst, Result, Err}
use Rattle.std.specs.Prelude.{Bool, IfErr}
use Rattle.ftp_ports.specs.Asking.{Asked, Came, Connected, Ended, Listened, Lost, NotCame, NotConnected, Reset, Shut}
use Rattle.ftp_ports.specs.Cause.{IsCause}
use Rattle.ftp_ports.specs.Actions.{Action, Led, Stand}
use Rattle.ftp_ports.specs.Driving.{Fails}
use Rattle.ftp_ports.specs.Machine.{LeavesFlushed, Machine, MayLeave, move_of, side_of}
use Rattle.ftp_ports.specs.declared.whole.Fate.{Fate}
use Rattle.ftp_ports.specs.declared.whole.Fate.TheVariants as Fates
use Rattle.ftp_ends.specs.declared.link.Wants.{Wants}
use Rattle.ftp_ports.specs.declared.cause.Cause.{Cause}
use Rattle.ftp_ports.proofs.Courses.{carries}
use Rattle.ftp_ports.proofs.Idling.{carrier, stood_so}
use Rattle.ftp_ports.proofs.Totals.{cuts, sums}
use Rattle.ftp_driver.specs.Calling.{Ends}
use Rattle.ftp_driver.specs.Driven.{BreaksOff, Did}

-- an end that is done leaves what stands
pub may_when_done : (done : Type 0) (want : Wants) (fate : Fate) → done → MayLeave done want fate
may_when_done done want Fates.Sound is = inr is
may_when_done done want Fates.Failed is = is
may_when_done done want Fates.Broken is = tt
may_when_done done want Fates.Over is = tt

-- and by an end, too
pub leaves_done : (machine : Machine) (here : machine.Here) (asked : Asked) → machine.IsDone here → LeavesFlushed machine here asked
leaves_done machine here (Listened port) done = tt
leaves_done machine here (Came host left written) done = tt
leaves_done machine here (Connected endpoint left written) done = tt
leaves_done machine here NotCame done = tt
leaves_done machine here (NotConnected endpoint) done = tt
leaves_done machine here (Ended left written) done = inr done
leaves_done machine here (Reset left written) done = tt
leaves_done machine here Shut done = tt
leaves_done machine here Lost done = tt

module _ (machine : Machine) (start : Stand (side_of machine)) (unwritten : start.owner.channel.unwritten ≡ []) (untold : start.owner.channel.untold ≡ []) where
  pub did : (last actions : List (Action (side_of machine))) (now : Stand (side_of machine)) → Led (last ++ actions) start now → Did machine last start now
  did last actions now led = record {
    actions = actions;
    sums = sums (last ++ actions) start now led;
    carries = carries move_of (carrier machine) (last ++ actions) start now led unwritten untold;
  }

  pub breaks_off : {Over : Type 0} (last : Over → (old new : machine.Here) → Type 0) (serves failed : Bool) (off : Stand (side_of machine)) (r : Result Over Cause) (cause : Cause)
      → r ≡ Err cause → Ends machine last start off r
      → IfErr r (λ cause. IsCause cause failed off.owner.channel.asked off.unheard (machine.wants off.owner.end) (machine.may_hear off.owner.end) serves)
      → BreaksOff machine serves cause failed start off
  breaks_off last serves failed off r cause is ends why =
      let fails : Fails cause start off = subst (λ r. Ends machine last start off r) is ends in
      record {
        actions = fails.leads.actions;
        last = fails.octets;
        cuts = cuts cause start off fails;
        spent = fails.spent;
        stood = fails.mid.owner.channel;
        carries = carries move_of (carrier machine) fails.leads.actions start fails.mid fails.leads.led unwritten untold;
        lets = stood_so machine fails.octets fails.mid off fails.breaks;
        why = subst (λ r. IfErr r (λ cause. IsCause cause failed off.owner.channel.asked off.unheard (machine.wants off.owner.end) (machine.may_hear off.owner.end) serves)) is why;
      }
