-- A world as a stage and a cut: the ends and what is on its way over the control connection, and where its octets are.
use Rattle.std.specs.Prelude.{◌≡◌, ◌⊎◌, ℕ, List, [], ◌∷◌, ◌++◌}
use Rattle.ftp_nvt.specs.Lines.{written_line}
use Rattle.ftp_command.specs.Line.{IsLine}
use Rattle.ftp_ends.specs.Reply.{Reply, reply_octets}
use Rattle.ftp_client_model.specs.Calls as near
use Rattle.ftp_client_model.specs.Dialogue.{answered}
use Rattle.ftp_client_model.specs.View.{View as Near}
use Rattle.ftp_server_model.specs.InFlight.{only_heard}
use Rattle.ftp_server_model.specs.Machine.{Reading}
use Rattle.ftp_server_model.specs.View.{View as Far}
use Rattle.laws_world.specs.World.{World}
use Rattle.laws_dialogues.specs.Stage.{calm, still, Way, Asking, Answering, row_octets, AreWritten, FarTurn, NearTurn, behind}

-- the octets that are on their way: those that the receiver has heard of the first unit, those in the queue, those that the sender
-- owes
pub record Cut : Type 0 where
  pub held : List ℕ
  pub moving : List ℕ
  pub owed : List ℕ

-- what is still to be heard
abbrev pub coming : Cut → List ℕ
coming c = c.moving ++ c.owed

-- a unit is held in part, and at least one octet of it is to come, before these others
pub record Flows (unit held coming others : List ℕ) : Type 0 where
  pub octet : ℕ
  pub more : List ℕ
  pub whole : held ++ octet ∷ more ≡ unit
  pub is : coming ≡ (octet ∷ more) ++ others

-- a row of replies; where there is none, there are no octets
abbrev pub FlowsRow : List Reply → (held coming : List ℕ) → Type 0
FlowsRow [] held coming = (held ≡ []) × (coming ≡ [])
FlowsRow (reply ∷ more) held coming = Flows (reply_octets reply) held coming (row_octets more)

-- the octets are those of what is on its way
abbrev pub Fits : Way → Cut → Type 0
Fits (Asking text) c = IsLine text × Flows (written_line text) c.held (coming c) []
Fits (Answering replies) c = AreWritten replies × FlowsRow replies c.held (coming c)

-- the world of a stage and a cut; of `b` count the ends, but for what each hears and owes, and all beside the control connection's octets
abbrev pub world_at : World → Way → Cut → World
world_at b (Asking text) c = record b {
  near = record (calm b.near) { owed = c.owed };
  far = only_heard (still b.far) c.held;
  control_to_server = c.moving;
  control_to_client = [];
}
world_at b (Answering replies) c = record b {
  near = near.hears (calm b.near) c.held;
  far = record (still b.far) { owed = c.owed };
  control_to_server = [];
  control_to_client = c.moving;
}

-- a world whose base is so, with this on its way
pub record PlacedAt (At : Way → World → Type 0) (w : World) : Type 0 where
  pub base : World
  pub way : Way
  pub cut : Cut
  pub is : w ≡ world_at base way cut
  pub fits : Fits way cut
  pub here : At way base

-- where it depends on both ends alone
abbrev pub of_ends : (Way → Near → Far → Type 0) → Way → World → Type 0
of_ends At way b = At way b.near b.far

-- a world whose ends are so, with this on its way
abbrev pub StandsAt : (Way → Near → Far → Type 0) → World → Type 0
StandsAt At w = PlacedAt (of_ends At) w

-- the client hears a reply and sends a line while these others are on their way, and that is so
pub record Crosses (Cross : List ℕ → List Reply → World → Type 0) (b : World) (reply : Reply) (more : List Reply) : Type 0 where
  pub near : Near
  pub text : List ℕ
  pub is : answered reply.code reply.lines (calm b.near) ≡ record (calm near) { owed = written_line text }
  pub fine : IsLine text
  pub here : Cross text more (record b { near = near })

-- a world where a line was sent so, of which nothing has moved, and some octets of these replies were heard since
pub record Crossed (Cross : List ℕ → List Reply → World → Type 0) (w : World) : Type 0 where
  pub base : World
  pub text : List ℕ
  pub replies : List Reply
  pub heard : List ℕ
  pub moving : List ℕ
  pub owed : List ℕ
  pub is : w ≡ record base {
    near = near.hears (record (calm base.near) { owed = written_line text }) heard;
    far = record (still base.far) { owed = owed };
    control_to_server = [];
    control_to_client = moving;
  }
  pub fine : IsLine text
  pub written : AreWritten replies
  pub flows : FlowsRow replies [] (heard ++ (moving ++ owed))
  pub here : Cross text replies base

-- each turn of an end leads to such a base again; behind a turn of the server it may be another, in which more is served before the client is told;
-- and behind one of the client a line may cross replies
pub record Goes (read : Reading) (At After : Way → World → Type 0) (Cross : List ℕ → List Reply → World → Type 0) : Type 0 where
  pub held : (way : Way) (b : World) → At way b → After way b
  pub asked : (text : List ℕ) (b : World) → At (Asking text) b → (t : FarTurn read b.far text) × After (Answering t.replies) (record b { far = t.far })
  pub told : (reply : Reply) (more : List Reply) (b : World) → At (Answering (reply ∷ more)) b
      → ((t : NearTurn b.near reply more) × At (behind t.line more) (record b { near = t.near })) ⊎ Crosses Cross b reply more
