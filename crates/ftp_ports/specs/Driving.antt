-- What a drive of an end beside its control connection did, whole or until a read or a write failed.
use Rattle.std.specs.Prelude.{◌≡◌, ◌⊎◌, ◌≤◌, ◌+◌, ℕ, suc, List, [], ◌++◌, Option}
use Rattle.std.specs.declared.result.Result.{Result}
use Rattle.std.specs.declared.result.Result.TheVariants.{Ok, Err}
use Rattle.std.specs.Io.KnownBytes.{Appends, Consumes, Keeps}
use Rattle.ftp_ports.specs.Beginning.{AppendsFront}
use Rattle.ftp_ports.specs.Cause.{IsSpent, most_turns}
use Rattle.ftp_ports.specs.Actions.{Action, Led, Stand, heard_in, read_in, said_in, steps_in}
use Rattle.ftp_ports.specs.Side.{Side}
use Rattle.ftp_ports.specs.Unheard.{Source}
use Rattle.ftp_ports.specs.declared.cause.Cause.{Cause}

module _ {side : Side} where
  -- actions led from here to there
  pub record Leads (start now : Stand side) : Type 0 where
    pub actions : List (Action side)
    pub led : Led actions start now

  -- to where the end owes nothing
  pub record Settles (start now : Stand side) : Type 0 where
    pub leads : Leads start now
    pub owes : side.OwesNone now.owner

  -- the drive breaks off: no more was read, and of these octets, which the end gave last, a beginning was written
  pub record Breaks (octets : List ℕ) (old new : Stand side) : Type 0 where
    pub given : side.End
    pub gives : ((octets ≡ []) × (given ≡ old.owner)) ⊎ side.Gives octets old.owner given
    pub lets : side.LetsGo given new.owner
    pub left : Keeps old.left.octets new.left.octets
    pub ended : new.left.ended ≡ old.left.ended
    pub unheard : new.unheard ≡ old.unheard
    pub wrote : AppendsFront old.written new.written octets

  -- actions, and then it breaks off, for a cause; where all turns of a loop were made, the drive got on by so many actions, but for one
  pub record Fails (cause : Cause) (start now : Stand side) : Type 0 where
    pub mid : Stand side
    pub leads : Leads start mid
    pub octets : List ℕ
    pub breaks : Breaks octets mid now
    pub spent : IsSpent cause → most_turns ≤ suc (steps_in leads.actions)

  -- the turns that are left, and those actions, are all that a loop may make
  pub record LeadsBy (left : ℕ) (start now : Stand side) : Type 0 where
    pub leads : Leads start now
    pub made : most_turns ≤ left + steps_in leads.actions

  -- the drive got on by so many actions, but for one
  pub record LeadsFar (turns : ℕ) (start now : Stand side) : Type 0 where
    pub leads : Leads start now
    pub made : turns ≤ suc (steps_in leads.actions)

  -- ---- what the parts of a drive say

  -- a part of a drive leads on, or fails
  abbrev pub Goes : {T : Type 0} → (old new : Stand side) → Result T Cause → Type 0
  Goes old new (Ok value) = Leads old new
  Goes old new (Err cause) = Fails cause old new

  -- all that is owed is written, or that fails
  abbrev pub Flushes : {T : Type 0} → (old new : Stand side) → Result T Cause → Type 0
  Flushes old new (Ok value) = Settles old new
  Flushes old new (Err cause) = Fails cause old new

  -- ---- what actions come to

  -- all that the end said was written, and it heard all that was read but for what is not heard yet
  pub record Sums (actions : List (Action side)) (start now : Stand side) : Type 0 where
    pub led : Led actions start now
    pub read : Consumes start.left.octets now.left.octets (read_in actions)
    pub heard : start.unheard ++ read_in actions ≡ heard_in actions ++ now.unheard
    pub wrote : Appends start.written now.written (said_in actions)

  -- the same where a read or a write failed: a beginning of what it said last was written
  pub record Cuts (actions : List (Action side)) (last : List ℕ) (start now : Stand side) : Type 0 where
    pub mid : Stand side
    pub led : Led actions start mid
    pub breaks : Breaks last mid now
    pub read : Consumes start.left.octets now.left.octets (read_in actions)
    pub heard : start.unheard ++ read_in actions ≡ heard_in actions ++ now.unheard
    pub wrote : AppendsFront start.written now.written (said_in actions ++ last)

-- calls that leave the control connection alone, however it stands
abbrev pub Quietly : (side : Side) → (old new : side.End) → Type 0
Quietly side old new = (left : Source) (unheard : List ℕ) (written : Option (List ℕ))
    → Leads {side = side} (record { owner = old; left = left; unheard = unheard; written = written }) (record { owner = new; left = left; unheard = unheard; written = written })
