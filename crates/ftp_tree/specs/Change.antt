-- What a call that would change a tree answers: the change, or a reason that leaves the tree as it was; and what is counted of its device.
use Rattle.std.specs.Prelude.{◌≡◌, ◌≤◌, ◌⊎◌, ℕ, ◌+◌, ◌%◌, ◌^◌, Option, Some, None, Result, Ok, Err}
use Rattle.ftp_tree.specs.declared.fault.TreeFault.{TreeFault}
use Rattle.ftp_tree.specs.declared.fault.TreeFault.TheVariants.{Device, Memory}
use Rattle.ftp_tree.specs.Tree.{Table}

-- What a device did so far: how many failures it told, by wrapping, and how often it strayed: it gave other octets than the map says, took in others than came,
-- or was found changed by others. No call tells how often it strayed.
pub record Failures : Type 0 where
  pub told : ℕ
  pub strays : ℕ

-- the count of told failures after one more: it moves on by one, and 0 comes after the last of 64 bits
abbrev pub next_count : ℕ → ℕ
next_count count = (count + 1) % 2 ^ 64

-- with one failure more told
abbrev pub one_failure_more : Failures → Failures
one_failure_more failures = record failures { told = next_count failures.told }

-- those of a device that never strays
abbrev pub never_strayed : ℕ → Failures
never_strayed told = record { told = told; strays = 0 }

-- in a call the device did not stray
abbrev pub NoStray : (before after : Failures) → Type 0
NoStray before after = after.strays ≡ before.strays

-- in a call no failure was told
abbrev pub IsSteady : (before after : Failures) → Type 0
IsSteady before after = (after.told ≡ before.told) × (before.strays ≤ after.strays)

-- in a call one failure was told
abbrev pub TellsOne : (before after : Failures) → Type 0
TellsOne before after = (after.told ≡ next_count before.told) × (before.strays ≤ after.strays)

-- a refused call tells a failure just where the device is the reason
abbrev pub Tells : {X : Type 0} → Result X TreeFault → (before after : Failures) → Type 0
Tells (Ok done) before after = IsSteady before after
Tells (Err Device) before after = TellsOne before after
Tells (Err other) before after = IsSteady before after

-- A call is refused for the first reason that applies. Where none does, for want of memory, or by the device: just then the
-- count of the device's failures moves on, by one.
abbrev pub Refuses : Option TreeFault → TreeFault → (before after : Failures) → Type 0
Refuses (Some why) fault before after = (fault ≡ why) × (after ≡ before)
Refuses None fault before after = ((fault ≡ Memory) × (after ≡ before)) ⊎ ((fault ≡ Device) × (after ≡ one_failure_more before))

-- done: no reason applied, and this is the table now
abbrev pub IsDone : Option TreeFault → Table → Table → (before after : Failures) → Type 0
IsDone refusal changed new before after = (refusal ≡ None) × (new ≡ changed) × (after ≡ before)

-- refused: the table is as it was
abbrev pub IsRefused : Option TreeFault → TreeFault → (old new : Table) → (before after : Failures) → Type 0
IsRefused refusal fault old new before after = (new ≡ old) × Refuses refusal fault before after
