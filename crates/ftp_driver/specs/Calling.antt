-- How an end is asked whether its drive is over, and how that ends.
use Rattle.std.specs.Prelude.{◌≡◌, ◌≢◌, ⊤, ℕ, true, Option, Some, None}
use Rattle.std.specs.declared.result.Result.{Result}
use Rattle.std.specs.declared.result.Result.TheVariants.{Ok, Err}
use Rattle.ftp_ports.specs.Actions.{Stand, with_owner}
use Rattle.ftp_ports.specs.Driving.{Fails, Leads, LeadsFar}
use Rattle.ftp_ports.specs.Machine.{Machine, held, side_of}
use Rattle.ftp_ports.specs.declared.cause.Cause.{Cause}
use Rattle.ftp_ends.specs.declared.link.Wants.TheVariants as Want
use Rattle.ftp_driver.specs.declared.drive.Turned.{Turned}
use Rattle.ftp_driver.specs.declared.drive.Turned.TheVariants as Turns

-- it is asked whether its drive is over, and then that is its last call, or else this one of its own
abbrev pub IsAskedIfOver : {Over : Type 0} → (machine : Machine) → (last : Over → (old new : machine.Here) → Type 0) → (goes_on : machine.Own) → Option Over → (old new : machine.Here) → Type 0
IsAskedIfOver machine last goes_on (Some over) old new = last over old new
IsAskedIfOver machine last goes_on None old new = machine.Owns goes_on old new

-- one that serves does not want all to be closed
abbrev pub IsOpenEnd : (machine : Machine) → machine.Here → Type 0
IsOpenEnd machine here = machine.serves ≡ true → machine.wants here ≢ Want.CloseAll

-- it may be told of a close where it wants one
abbrev pub IsToldOfClose : (machine : Machine) → machine.Here → Type 0
IsToldOfClose machine there = machine.wants there ≡ Want.CloseData → machine.IsCloseDue there

-- turns lead to its last call, or fail
abbrev pub Ends : {Over : Type 0} → (machine : Machine) → (last : Over → (old new : machine.Here) → Type 0) → (start now : Stand (side_of machine)) → Result Over Cause → Type 0
Ends machine last start now (Ok over) =
    (mid : Stand (side_of machine)) × Leads start mid × last over mid.owner.end now.owner.end × (now ≡ with_owner (held now.owner.end mid.owner.channel) mid)
Ends machine last start now (Err cause) = Fails cause start now

-- so many turns at most lead on, to its last call, or fail; where all of them were made, the drive got on by each but the last
abbrev pub TurnsTo : {Over : Type 0} → (machine : Machine) → (last : Over → (old new : machine.Here) → Type 0) → (most : ℕ) → (start now : Stand (side_of machine)) → Result (Turned Over) Cause → Type 0
TurnsTo machine last most start now (Ok (Turns.Over over)) = Ends machine last start now (Ok over)
TurnsTo machine last most start now (Ok Turns.Later) = Leads start now
TurnsTo machine last most start now (Ok Turns.More) = LeadsFar most start now
TurnsTo machine last most start now (Err cause) = Fails cause start now

-- the next turn would wait only where that was told
abbrev pub IsLater : {Over : Type 0} → (told : Type 0) → Result (Turned Over) Cause → Type 0
IsLater told (Ok Turns.Later) = told
IsLater told other = ⊤
