-- Why a drive breaks off.
use Rattle.std.specs.Prelude.{◌≡◌, ◌<◌, ⊤, ℕ, Bool, true, false, not, List, ◌∷◌, length, Option, Some, None}
use Rattle.ftp_ports.specs.Asking.{Asked, Lost}
use Rattle.ftp_ports.specs.declared.cause.Cause.{Cause}
use Rattle.ftp_ports.specs.declared.cause.Cause.TheVariants as Causes
use Rattle.ftp_ends.specs.declared.link.Wants.{Wants}
use Rattle.ftp_ends.specs.declared.link.Wants.TheVariants as Want

-- the last that was asked told that the control connection ended, or that waiting failed, where it is known what was asked
abbrev pub HasLost : Option (List Asked) → Type 0
HasLost None = ⊤
HasLost (Some (Lost ∷ before)) = ⊤
HasLost (Some other) = ⊥

-- an end that wants this goes on only once what stands unheard is heard
abbrev pub is_still : (serves : Bool) → Wants → Bool
is_still serves Want.Nothing = true
is_still serves Want.Accept = false
is_still serves Want.Receive = false
is_still serves Want.Send = false
is_still serves other = not serves

-- when a drive breaks off for this cause: whether a read or a write of the control connection failed, what was asked of `Ports`, which octets
-- stand unheard, what the end wants, and whether it may hear and is one that serves
abbrev pub IsCause : Cause → (failed : Bool) → Option (List Asked) → (unheard : List ℕ) → Wants → (may_hear serves : Bool) → Type 0
IsCause Causes.Failed failed asked unheard want may_hear serves = failed ≡ true
IsCause Causes.Lost failed asked unheard want may_hear serves = HasLost asked
IsCause Causes.Unheard failed asked unheard want may_hear serves = (0 < length unheard) × (may_hear ≡ false) × (is_still serves want ≡ true)
IsCause Causes.Closed failed asked unheard want may_hear serves = (want ≡ Want.CloseAll) × (serves ≡ false)
IsCause (Causes.Spent spent) failed asked unheard want may_hear serves = ⊤

-- it is that a read or a write failed
abbrev pub IsReadOrWriteFault : Cause → (failed : Bool) → Type 0
IsReadOrWriteFault Causes.Failed failed = failed ≡ true
IsReadOrWriteFault other failed = ⊥

-- as many turns as each loop of a drive may make
abbrev pub most_turns : ℕ
most_turns = 1099511627776

-- it is that all turns were made
abbrev pub IsSpent : Cause → Type 0
IsSpent (Causes.Spent spent) = ⊤
IsSpent other = ⊥
