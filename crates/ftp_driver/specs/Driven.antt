-- What a drive of either end beside its control connection did, whole or until it broke off.
use Rattle.std.specs.Prelude.{◌≡◌, ◌≤◌, Bool, ℕ, suc, List, ◌++◌}
use Rattle.ftp_ports.specs.Cause.{IsCause, IsSpent, most_turns}
use Rattle.ftp_ports.specs.Courses.{Carries}
use Rattle.ftp_ports.specs.Actions.{Action, Stand, steps_in}
use Rattle.ftp_ports.specs.Driving.{Cuts, Sums}
use Rattle.ftp_ports.specs.Channel.{Channel, with_untold}
use Rattle.ftp_ports.specs.Machine.{Machine, move_of, side_of}
use Rattle.ftp_ports.specs.declared.cause.Cause.{Cause}

module _ (machine : Machine) where
  -- actions, the last of which are these: all that the end said was written, and it heard all that was read but for what is not heard yet
  pub record Did (last : List (Action (side_of machine))) (start now : Stand (side_of machine)) : Type 0 where
    pub actions : List (Action (side_of machine))
    pub sums : Sums (last ++ actions) start now
    pub carries : Carries move_of (last ++ actions) start.owner.channel now.owner.channel

  -- actions, after which the drive broke off, for this cause, whether a read or a write failed or not: a beginning of what the end said was
  -- written, and what came over a data connection and it was not told is let go. Where all turns of a loop were made, it got on by as many actions
  pub record BreaksOff (serves : Bool) (cause : Cause) (failed : Bool) (start off : Stand (side_of machine)) : Type 0 where
    pub actions : List (Action (side_of machine))
    pub last : List ℕ
    pub cuts : Cuts actions last start off
    pub stood : Channel
    pub carries : Carries move_of actions start.owner.channel stood
    pub spent : IsSpent cause → most_turns ≤ suc (steps_in actions)
    pub lets : off.owner.channel ≡ with_untold off.owner.channel.untold stood
    pub why : IsCause cause failed off.owner.channel.asked off.unheard (machine.wants off.owner.end) (machine.may_hear off.owner.end) serves
