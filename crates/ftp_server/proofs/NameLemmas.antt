-- The name that waits for its PASS is no longer than the one that a USER said.
use Rattle.std.proofs.Common.{◌≡◌, ◌⊎◌, inl, inr, ℕ, ◌≤◌, ◌+◌, Bool, true, false, List, Option, Some, None, refl, subst, arith, length}
use Rattle.std.proofs.Math.Logic.{∥∥₁_elim}
use Rattle.std.proofs.Props.{props}
use Rattle.ftp_ends.specs.Limits.{held_limit}
use Rattle.ftp_path.specs.Login.{login_limit}
use Rattle.ftp_server_model.specs.Held.{access_len, waiting_len}
use Rattle.ftp_server_model.specs.declared.heard.HeardLine.{HeardLine}
use Rattle.ftp_server_model.specs.declared.session.Access.{Access}
use Rattle.ftp_server_model.specs.declared.session.ServerLink.{ServerLink}
use Rattle.ftp_server_session.specs.Little.{KeepsName}
use Rattle.ftp_server.specs.Busy.{HasRoom, MayWait, heard_name_len, is_busy, waiting_limit}

-- a server keeps the limit behind each line, whatever its tree's device gave
pub keeps_named : (came : ℕ) (old new : Access (List ℕ)) → KeepsName came old new → access_len old ≤ login_limit → came ≤ login_limit → access_len new ≤ login_limit
keeps_named came old new (inl less) had short = omega (arith, less, had)
keeps_named came old new (inr less) had short = omega (arith, less, short)

-- ---- the line that waits, and all that is held

within_once : (n m : ℕ) → IsProp (n ≤ m)
within_once n m = hlevel props

short_if_waits : (waiting : Option (HeardLine (List ℕ))) → MayWait waiting → waiting_len waiting ≤ waiting_limit
short_if_waits None waits = omega arith
short_if_waits (Some heard) waits = waits.1

pub waiting_short : (waiting : Option (HeardLine (List ℕ))) → ∥ MayWait waiting ∥₁ → waiting_len waiting ≤ waiting_limit
waiting_short waiting was = ∥∥₁_elim was (within_once _ _) (short_if_waits waiting)

-- the name that the line that waits says
pub name_if_waits : (heard : HeardLine (List ℕ)) (waiting : Option (HeardLine (List ℕ))) → waiting ≡ Some heard → ∥ MayWait waiting ∥₁ → heard_name_len heard ≤ login_limit
name_if_waits heard waiting is was = ∥∥₁_elim was (within_once _ _) (λ h. let waits : MayWait (Some heard) = subst MayWait is h in waits.2)

-- while a transfer stands less is owed, and without one the session holds less
pub holds_little : {J : Type 0} (c : ServerLink J) (owed : List ℕ) (count unfinished waits rest told : ℕ) → told ≤ 512 → count ≡ length owed → count ≤ 8192 → HasRoom c owed → unfinished ≤ 1024
    → waits ≤ waiting_limit → rest ≤ 16307 → (is_busy c ≡ false → rest ≤ 2955) → told + (count + (unfinished + (waits + rest))) ≤ held_limit
holds_little c owed count unfinished waits rest told few same within room read short all free = by_case (is_busy c) room free
  where
    by_case : (b : Bool) → (b ≡ true → length owed ≤ 4672) → (b ≡ false → rest ≤ 2955) → told + (count + (unfinished + (waits + rest))) ≤ held_limit
    by_case true busy little = let owes = busy refl in omega (arith, few, same, owes, read, short, all)
    by_case false busy little = let holds = little refl in omega (arith, few, within, read, short, holds)
