-- What a drive of a client beside its control connection did, whole or until it broke off.
use Rattle.std.specs.Option.{option_map}
use Rattle.std.specs.Prelude.{◌≡◌, ℕ, Bool, false, List, [], ◌∷◌, Option, Some, None, IsTrue}
use Rattle.ftp_ports.specs.Asking.{Asked, Shut}
use Rattle.ftp_ports.specs.Cause.{IsCause}
use Rattle.ftp_ports.specs.Actions.{Action, Led, Other, Stand, with_owner}
use Rattle.ftp_ports.specs.Driving.{Fails, Leads, LeadsFar}
use Rattle.ftp_ports.specs.Channel.{IsLeft}
use Rattle.ftp_ports.specs.Machine.{Called, Closed, Held, IsCut, Left}
use Rattle.ftp_ports.specs.Outcome.{IsDropped}
use Rattle.ftp_ports.specs.declared.cause.Cause.{Cause}
use Rattle.ftp_driver.specs.Driven.{BreaksOff, Did}
use Rattle.ftp_driver.specs.declared.drive.Turned.{Turned}
use Rattle.ftp_driver.specs.declared.drive.Turned.TheVariants as Turns
use Rattle.ftp_operation.specs.Answer.{Said, Lost, said_of}
use Rattle.ftp_operation.specs.declared.answer.Answer.{Answer}
use Rattle.ftp_client_model.specs.Calls.{is_sound, may_hear, wants}
use Rattle.ftp_client_model.specs.Failing.{Client}
use Rattle.ftp_client_driver.specs.declared.drive.Driven.{Driven}
use Rattle.ftp_client_driver.specs.Side.{Report, Reporting, client_machine, client_side, is_operation_under_way}

-- the client is asked for its report, which is this answer
abbrev pub Reports : {A : Type 0} → Answer A → (old new : Client) → Type 0
Reports answer old new = client_machine.Owns (Reporting (Some (said_of answer))) old new

-- the client gave this answer, its data connection was left, and it was told that it is closed; before that all that it said was written, and it
-- heard all that was read but for what is not heard yet
pub record ClientDrove (start now : Stand client_side) (said : Option Said) : Type 0 where
  pub answer : Said
  pub answered : said ≡ Some answer
  pub asked : Asked
  pub did : Did client_machine (Other Closed ∷ Other (Left asked) ∷ Other (Report said) ∷ []) start now

-- the client is told that the control connection ended, its data connection is reset and then the port closed, it is told that the data
-- connection is closed, and gives its report: an operation under way is lost
pub record ClientGivesUp (said : Option Said) (old new : Held Client) : Type 0 where
  pub cut : Held Client
  pub is_cut : IsCut client_machine old cut
  pub asked : Asked
  pub mid : Held Client
  pub leaves : IsLeft asked cut.channel mid.channel
  pub stays : mid.end ≡ cut.end
  pub dropped : IsDropped cut.channel.stands cut.channel.left cut.channel.written asked
  pub shut : Held Client
  pub shuts : IsLeft Shut mid.channel shut.channel
  pub keeps : shut.end ≡ mid.end
  pub closed : Held Client
  pub closes : Called client_machine Closed shut closed
  pub reports : Called client_machine (Report said) closed new
  pub lost : IsTrue (is_sound old.end.view.standing) → IsTrue (is_operation_under_way old.end.view.job) → said ≡ Some Lost

-- the same actions where the drive broke off, for this cause, whether a read or a write failed or not: a beginning of what the client said was
-- written, what of a download it was not told is let go, and it gave up
pub record ClientBrokeOff (cause : Cause) (failed : Bool) (start now : Stand client_side) (said : Option Said) : Type 0 where
  pub off : Held Client
  pub breaks : BreaksOff client_machine false cause failed start (with_owner off now)
  pub gave_up : ClientGivesUp said off now.owner

-- how a drive ends, with this report: whole, or broken off for a cause, where a read or a write of the control connection failed or not
abbrev pub ClientDrives : (failed : Bool) → (start now : Stand client_side) → Option Cause → Option Said → Type 0
ClientDrives failed start now None said = ClientDrove start now said
ClientDrives failed start now (Some cause) said = ClientBrokeOff cause failed start now said

-- so it is of a drive that began where no octets of a data connection were on their way or in hand, and led here
abbrev pub ForAnyStart : (old : Stand client_side) → (EndsSo : Stand client_side → Type 0) → Type 0
ForAnyStart old EndsSo = (start : Stand client_side) → start.owner.channel.unwritten ≡ [] → start.owner.channel.untold ≡ [] → Leads start old → EndsSo start

-- so many turns at most: nothing of what they led to is lost, so that those of several calls are one drive; it ends as one does that is made at once
abbrev pub ClientDrivesOn : {A : Type 0} → (most : ℕ) → (failed : Bool) → (old now : Stand client_side) → Turned (Driven A) → Type 0
ClientDrivesOn most failed old now (Turns.Over driven) = ForAnyStart old (λ start. ClientDrives failed start now driven.off (option_map said_of driven.report))
ClientDrivesOn most failed old now Turns.Later = Leads old now
ClientDrivesOn most failed old now Turns.More = LeadsFar most old now

-- some turns led from here to where the client gave this answer; its data connection was left, and it was told that it is closed
pub record ClientFinishes (said : Option Said) (old now : Stand client_side) : Type 0 where
  pub answer : Said
  pub answered : said ≡ Some answer
  pub actions : List (Action client_side)
  pub asked : Asked
  pub led : Led (Other Closed ∷ Other (Left asked) ∷ Other (Report said) ∷ actions) old now

-- they led from here to where the drive broke off, for this cause, and then the client gave up
pub record Ceases (cause : Cause) (failed : Bool) (old now : Stand client_side) (said : Option Said) : Type 0 where
  pub off : Stand client_side
  pub fails : Fails cause old off
  pub why : IsCause cause failed off.owner.channel.asked off.unheard (wants off.owner.end.view) (may_hear off.owner.end.view) false
  pub stays : now ≡ with_owner now.owner off
  pub gave_up : ClientGivesUp said off.owner now.owner

-- so many turns at most, whatever was done before: the drive goes on, it is over with a report, or it breaks off
abbrev pub ClientEndsBy : (failed : Bool) → (old now : Stand client_side) → Option Cause → Option Said → Type 0
ClientEndsBy failed old now None said = ClientFinishes said old now
ClientEndsBy failed old now (Some cause) said = Ceases cause failed old now said

abbrev pub ClientMakesTurns : {A : Type 0} → (most : ℕ) → (failed : Bool) → (old now : Stand client_side) → Turned (Driven A) → Type 0
ClientMakesTurns most failed old now (Turns.Over driven) = ClientEndsBy failed old now driven.off (option_map said_of driven.report)
ClientMakesTurns most failed old now Turns.Later = Leads old now
ClientMakesTurns most failed old now Turns.More = LeadsFar most old now
