-- What each call of the server does, as the clauses of the trait `Far` say it: its step and then the line that waits, where neither
-- count changed; else what the call leaves that was refused memory or whose device failed. Of a call in which the tree's device strayed it is
-- said only how the counts moved.
use Rattle.std.specs.Prelude.{◌≡◌, ◌≢◌, ◌⊎◌, ℕ, List}
use Rattle.ftp_tree.specs.Change.{never_strayed}
use Rattle.ftp_server_model.specs.Calls.{receives, MayReceive}
use Rattle.ftp_server_model.specs.Counting.{CountsOn}
use Rattle.ftp_server_model.specs.Failing.{Counts, KeepsCourse, Late, AreHeard, AreReceived}
use Rattle.ftp_server_model.specs.Machine.{Reading, IsReading, later, hears, MayHear}
use Rattle.ftp_server_model.specs.View.{View}
use Rattle.ftp_server_model.specs.declared.counts.Counts.{Counts as Told}

-- the two counts, as a server tells them; how often its tree's device strayed nobody tells
abbrev pub AreTold : Told → Counts → Type 0
AreTold told counts = (told.refusals ≡ counts.refusals) × (told.failures ≡ counts.failures.told)

-- the two counts of a server whose tree's device never strays, as it tells them
abbrev pub counts_told : Told → Counts
counts_told told = record { refusals = told.refusals; failures = never_strayed told.failures }

-- a server as clauses speak of it: what it holds, and the two counts beside it
pub record Server : Type 0 where
  pub view : View
  pub counts : Counts

-- a call by its step; where a count changed, the step failed, or the line that waits did
pub record Steps (Fails : View → View → Type 0) (step : View → View) (old new : Server) : Type 0 where
  pub done : new.counts ≡ old.counts → new.view ≡ later (step old.view)
  pub failed : KeepsCourse old.counts new.counts → new.counts ≢ old.counts → Fails old.view new.view ⊎ Late (step old.view) new.view
  pub counted : CountsOn old.counts new.counts

-- a call whose step takes no memory and asks nothing of the device
abbrev pub Acts : (View → View) → (old new : Server) → Type 0
Acts step old new = Steps (λ v w. ⊥) step old new

-- control octets are heard, as lines are read by this reading
pub record HearsByReading (read : Reading) (octets : List ℕ) (old new : Server) : Type 0 where
  pub done : new.counts ≡ old.counts → new.view ≡ hears read old.view octets
  pub may : new.counts ≡ old.counts → MayHear read old.view octets
  pub failed : KeepsCourse old.counts new.counts → new.counts ≢ old.counts → AreHeard read old.view octets new.view
  pub counted : CountsOn old.counts new.counts

-- there is one reading of lines, so this is however they are read
abbrev pub Hears : List ℕ → (old new : Server) → Type 0
Hears octets old new = (read : Reading) → IsReading read → HearsByReading read octets old new

-- data octets are taken
pub record Receives (octets : List ℕ) (old new : Server) : Type 0 where
  pub done : new.counts ≡ old.counts → new.view ≡ receives old.view octets
  pub may : new.counts ≡ old.counts → MayReceive old.view octets
  pub failed : KeepsCourse old.counts new.counts → new.counts ≢ old.counts → AreReceived old.view octets new.view
  pub counted : CountsOn old.counts new.counts
