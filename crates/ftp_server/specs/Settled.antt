-- The end of a call whose step may have failed.
use Rattle.std.specs.Prelude.{◌≡◌, ◌≢◌, ℕ, Result, Ok, Err}
use Rattle.ftp_server_model.specs.Failing.{Counts, KeepsCourse, Late}
use Rattle.ftp_server_model.specs.Far.{Acts, Server}

-- a count has moved in a call that began with so many device failures told
abbrev pub HasMoved : (failures : ℕ) → (old new : Counts) → Type 0
HasMoved failures old new = new.refusals ≡ old.refusals → new.failures.told ≢ failures

-- behind a step that was done comes the line that waits; behind one that failed too, and a growth counts as refused unless the
-- device's count has moved on since it stood at `failures`
abbrev pub IsStepSettled : {T E : Type 0} → Result T E → (failures : ℕ) → (old new : Server) → Type 0
IsStepSettled (Ok done) failures old new = failures ≡ old.counts.failures.told → Acts (λ v. v) old new
IsStepSettled (Err failed) failures old new = (KeepsCourse old.counts new.counts → Late old.view new.view) × HasMoved failures old.counts new.counts
