-- What calls by a list leave, and what they give, however lines are read: as the definitions say up to the first in which a count of the
-- server moved, and each by its own clauses from there on.
use Rattle.std.specs.Prelude.{◌≡◌, ◌*◌, ◌<◌, ◌≤◌, ◌^◌, ℕ, List, length, take}
use Rattle.ftp_endpoint.specs.declared.host.Host.{Host}
use Rattle.ftp_path.specs.Path.{Names}
use Rattle.ftp_tree.specs.Tree.{Table}
use Rattle.ftp_server_model.specs.Calls.{start}
use Rattle.ftp_server_model.specs.Far.{Server}
use Rattle.ftp_server_model.specs.Machine.{IsReading, Reading}
use Rattle.ftp_server_model.specs.Play.{Cue, Gift, LogsInAt, call, gives_at, left_by, played}
use Rattle.ftp_server_model.specs.View.{Accounts}
use Rattle.laws_server.specs.one.Apart.{LeavesOthers}
use Rattle.laws_server.specs.one.Lookers.{MayOnlyLook, OnlyLooks}
use Rattle.ftp_server_calls.specs.one.Making.{ArePlayed}

-- one call gives this, where neither count moved
abbrev pub Gives : Cue → Gift → (old new : Server) → Type 0
Gives cue gift old new = new.counts ≡ old.counts → (read : Reading) → IsReading read → (gift, new.view) ≡ call read cue old.view

-- the first calls gave what the definitions say; where these are all, so is what was left, and neither count moved; where the counts are what
-- they were after a list that is too short for a count to come round, these are all
pub record PlaysAs (calm : ℕ) (cues : List Cue) (gifts : List Gift) (old new : Server) : Type 0 where
  pub gave : (read : Reading) → IsReading read → take calm gifts ≡ played read (take calm cues) old.view
  pub left : (read : Reading) → IsReading read → calm ≡ length cues → new.view ≡ left_by read cues old.view
  pub steady : calm ≡ length cues → new.counts ≡ old.counts
  pub fine : (read : Reading) → IsReading read → 2 * length cues < 2 ^ 64 → new.counts ≡ old.counts → calm ≡ length cues

-- the first of the calls were made
pub record PlaysSome (cues : List Cue) (old new : Server) : Type 0 where
  pub count : ℕ
  pub few : count ≤ length cues
  pub calm : ℕ
  pub gifts : List Gift
  pub made : ArePlayed calm (take count cues) gifts old new

-- of a server as it began: where each login that succeeds in the first calls is to one root, they gave what is given of the part of the map
-- at and below it; where these are all, no path outside of it changed
abbrev pub KeepsApart : (calm : ℕ) → List Cue → List Gift → (old new : Server) → Type 0
KeepsApart calm cues gifts old new =
    (read : Reading) (table : Table) (accounts : Accounts) (here peer : Host) (root : Names)
    → IsReading read → old.view ≡ start table accounts here peer → LogsInAt read root (take calm cues) old.view
    → (take calm gifts ≡ gives_at read root (take calm cues) old.view)
    × (calm ≡ length cues → LeavesOthers root old.view.session.table new.view.session.table)

-- whatever failed in the calls: who may only look left the map as it was, of a server as it began, and of one on which nobody may change
-- anything, which is one still
pub record KeepsTheMap (old new : Server) : Type 0 where
  pub began :
      (table : Table) (accounts : Accounts) (here peer : Host) → old.view ≡ start table accounts here peer → MayOnlyLook accounts
      → new.view.session.table ≡ table
  pub stays : (table : Table) → OnlyLooks table old.view → OnlyLooks table new.view
