-- What a drive of a server beside its control connection did, whole or until it broke off.
use Rattle.std.specs.Prelude.{◌≡◌, ⊤, ℕ, Bool, true, List, [], ◌∷◌}
use Rattle.std.specs.declared.result.Result.{Result}
use Rattle.std.specs.declared.result.Result.TheVariants.{Ok, Err}
use Rattle.ftp_ends.specs.declared.link.Wants.TheVariants.{CloseAll}
use Rattle.ftp_ports.specs.Asking.{Asked}
use Rattle.ftp_ports.specs.Cause.{IsCause}
use Rattle.ftp_ports.specs.Actions.{Action, Led, Other, Stand, with_owner}
use Rattle.ftp_ports.specs.Driving.{Fails, Leads, LeadsFar}
use Rattle.ftp_ports.specs.Channel.{IsLeft}
use Rattle.ftp_ports.specs.Machine.{Held, IsCut, IsFairEnd, Left}
use Rattle.ftp_ports.specs.declared.cause.Cause.{Cause}
use Rattle.ftp_driver.specs.Driven.{BreaksOff, Did}
use Rattle.ftp_driver.specs.declared.drive.Turned.{Turned}
use Rattle.ftp_driver.specs.declared.drive.Turned.TheVariants as Turns
use Rattle.ftp_server_model.specs.Calls.{wants}
use Rattle.ftp_server_model.specs.Machine.{may_hear}
use Rattle.ftp_server_driver.specs.alone.Side.{Timed, server_machine, server_side}

-- the server is done with the control connection
abbrev pub IsOver : Stand server_side → Type 0
IsOver stand = wants stand.owner.end.server.view ≡ CloseAll

-- it is found to be so
abbrev pub IsFoundDone : (old new : Timed) → Type 0
IsFoundDone old new = (new ≡ old) × (wants old.server.view ≡ CloseAll)

-- all that the server said was written, and it heard all that was read but for what is not heard yet; it is done with the control
-- connection, and its data connection was left last
pub record Drove (start now : Stand server_side) : Type 0 where
  pub asked : Asked
  pub did : Did server_machine (Other (Left asked) ∷ []) start now
  pub over : IsOver now

-- the same where the drive broke off, for this cause, whether a read or a write failed or not: a beginning of what it said was written, and what
-- of an upload it was not told is let go; it was told that the control connection ended, and its data connection was left, by an end only where
-- none was unwritten and it had no more to give
pub record BrokeOff (cause : Cause) (failed : Bool) (start now : Stand server_side) : Type 0 where
  pub off : Stand server_side
  pub breaks : BreaksOff server_machine true cause failed start off
  pub stays : now ≡ with_owner now.owner off
  pub cut : Held Timed
  pub is_cut : IsCut server_machine off.owner cut
  pub end : now.owner.end ≡ cut.end
  pub asked : Asked
  pub left : IsLeft asked cut.channel now.owner.channel
  pub fair : IsFairEnd cut.channel asked

-- how a drive ends, where a read or a write of the control connection failed or not
abbrev pub Drives : {T : Type 0} → (failed : Bool) → (start now : Stand server_side) → Result T Cause → Type 0
Drives failed start now (Ok value) = Drove start now
Drives failed start now (Err cause) = BrokeOff cause failed start now

-- some turns led from here to where the server is done with the control connection, and its data connection was left last
pub record Finishes (old now : Stand server_side) : Type 0 where
  pub actions : List (Action server_side)
  pub asked : Asked
  pub led : Led (Other (Left asked) ∷ actions) old now
  pub over : IsOver now

-- they led from here to where the drive broke off, for this cause; then it was told that the control connection ended, and its data connection was left
pub record GivesUp (cause : Cause) (failed : Bool) (old now : Stand server_side) : Type 0 where
  pub off : Stand server_side
  pub fails : Fails cause old off
  pub why : IsCause cause failed off.owner.channel.asked off.unheard (wants off.owner.end.server.view) (may_hear off.owner.end.server.view) true
  pub stays : now ≡ with_owner now.owner off
  pub cut : Held Timed
  pub is_cut : IsCut server_machine off.owner cut
  pub end : now.owner.end ≡ cut.end
  pub asked : Asked
  pub left : IsLeft asked cut.channel now.owner.channel
  pub fair : IsFairEnd cut.channel asked

-- so many turns at most, whatever was done before: the drive goes on, it is over, or it breaks off
abbrev pub MakesTurns : (most : ℕ) → (failed : Bool) → (old now : Stand server_side) → Result (Turned ⊤) Cause → Type 0
MakesTurns most failed old now (Ok (Turns.Over over)) = Finishes old now
MakesTurns most failed old now (Ok Turns.Later) = Leads old now
MakesTurns most failed old now (Ok Turns.More) = LeadsFar most old now
MakesTurns most failed old now (Err cause) = GivesUp cause failed old now

-- so it is of a drive that began where no octets of a data connection were on their way or in hand, and led here
abbrev pub FromAny : (old : Stand server_side) → (EndsSo : Stand server_side → Type 0) → Type 0
FromAny old EndsSo = (start : Stand server_side) → start.owner.channel.unwritten ≡ [] → start.owner.channel.untold ≡ [] → Leads start old → EndsSo start

-- so many turns at most: nothing of what they led to is lost, so that those of several calls are one drive; it ends as one does that is made at once
abbrev pub DrivesOn : {T : Type 0} → (most : ℕ) → (failed : Bool) → (old now : Stand server_side) → Result (Turned T) Cause → Type 0
DrivesOn most failed old now (Ok (Turns.Over value)) = FromAny old (λ start. Drove start now)
DrivesOn most failed old now (Ok Turns.Later) = Leads old now
DrivesOn most failed old now (Ok Turns.More) = LeadsFar most old now
DrivesOn most failed old now (Err cause) = FromAny old (λ start. BrokeOff cause failed start now)
