-- One call with a tree that is lent (own choice).
use Rattle.std.specs.Prelude.{◌≡◌, Option}
use Rattle.ftp_tree.specs.Change.{Failures}
use Rattle.ftp_tree.specs.Tree.{Table}
use Rattle.ftp_server_model.specs.Far.{Server}
use Rattle.ftp_server_model.specs.Play.{Cue, Gift}
use Rattle.ftp_server_model.specs.Standing.{standing_of}
use Rattle.ftp_server_model.specs.declared.session.Standing.{Standing}
use Rattle.ftp_server_calls.specs.one.Making.{MakesOnCourse}
use Rattle.laws_server.specs.several.Swapping.{lent, swapped}

-- a session in its slot: its server, and what stood at the path of its upload after its last call
pub record InSlot : Type 0 where
  pub server : Server
  pub stood : Option Standing

-- it has the tree again that it had before
abbrev pub back_from : Server → InSlot → InSlot
back_from mid old = record {
  server = swapped old.server.view.session.table old.server.counts.failures mid;
  stood = standing_of mid.view.session;
}

-- A server makes a call with another tree, as its clause of `Far` says, and then has the tree again that it had before; what the call left of the other
-- tree is taken back
pub record Lent (cue : Cue) (gift : Gift) (old : InSlot) (table : Table) (failures : Failures) (new : InSlot) (left : Table) (failed : Failures) : Type 0 where
  pub mid : Server
  pub makes : MakesOnCourse cue gift (lent old.stood table failures old.server) mid
  pub own : new ≡ back_from mid old
  pub leaves : left ≡ mid.view.session.table
  pub fails : failed ≡ mid.counts.failures
