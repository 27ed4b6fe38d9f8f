-- A world where ABOR is on its way to the server or not, and replies are on theirs to the client.
use Rattle.std.specs.Prelude.{◌≡◌, ℕ, Bool, true, false, List, []}
use Rattle.ftp_nvt.specs.Lines.{written_line}
use Rattle.ftp_ends.specs.Ear.{Ear, quiet}
use Rattle.ftp_ends.specs.Reply.{Reply}
use Rattle.ftp_reply.specs.Reader.{Between, Gathered}
use Rattle.ftp_client_model.specs.Calls as near
use Rattle.ftp_client_model.specs.View.{View as Near}
use Rattle.ftp_server_model.specs.InFlight.{only_heard}
use Rattle.laws_world.specs.World.{World}
use Rattle.laws_dialogues.specs.Peeks.{abort_line}
use Rattle.laws_dialogues.specs.Stage.{still, AreWritten}
use Rattle.laws_agreement.specs.Cut.{Cut, Flows, FlowsRow, coming}

-- the octets on their way to the server and those to the client, and what the client has made of those of the first reply that it has heard
pub record Cuts : Type 0 where
  pub up : Cut
  pub down : Cut
  pub ear : Ear
  pub gathered : Gathered

-- so these octets are heard by whatever client is between two replies
abbrev pub AreHeardBetween : List ℕ → Ear → Gathered → Type 0
AreHeardBetween held ear gathered = (n : Near) → n.ear ≡ quiet → n.gathered ≡ Between → near.hears n held ≡ record n { ear = ear; gathered = gathered }

-- ABOR is on its way, or no octet is
abbrev pub FlowsAbort : Bool → Cut → Type 0
FlowsAbort true c = Flows (written_line abort_line) c.held (coming c) []
FlowsAbort false c = (c.held ≡ []) × (c.moving ≡ []) × (c.owed ≡ [])

-- the octets are those of ABOR, where it is on its way, and of these replies
pub record AreCut (asked : Bool) (rows : List Reply) (c : Cuts) : Type 0 where
  pub up : FlowsAbort asked c.up
  pub written : AreWritten rows
  pub down : FlowsRow rows c.down.held (coming c.down)
  pub heard : AreHeardBetween c.down.held c.ear c.gathered

-- the world of a base and these
abbrev pub crossing_at : World → Cuts → World
crossing_at b c = record b {
  near = record b.near { ear = c.ear; gathered = c.gathered; owed = c.up.owed };
  far = record (only_heard (still b.far) c.up.held) { owed = c.down.owed };
  control_to_server = c.up.moving;
  control_to_client = c.down.moving;
}
