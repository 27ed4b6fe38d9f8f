-- How far both ends are with what lies on their control connection: a way, where whole lines and replies alone stand, and what each
-- end makes of them (RFC 959, section 5.4). At any time there are octets in one direction at most.
use Rattle.std.specs.Prelude.{◌≡◌, ℕ, zero, suc, List, [], ◌∷◌, Option, Some, None}
use Rattle.std.specs.List.{flat_map, AllByRecursion}
use Rattle.ftp_nvt.specs.Lines.{written_line}
use Rattle.ftp_command.specs.Line.{IsLine}
use Rattle.ftp_ends.specs.Ear.{quiet}
use Rattle.ftp_ends.specs.Reply.{Reply, IsWritten, reply_octets}
use Rattle.ftp_reply.specs.Reader.{Between}
use Rattle.ftp_client_model.specs.Dialogue.{answered}
use Rattle.ftp_client_model.specs.View.{View as Near}
use Rattle.ftp_server_model.specs.Machine.{Reading, heard_line}
use Rattle.ftp_server_model.specs.View.{View as Far}

-- ---- both ends, as if nothing were on its way

-- the client between two replies, owing nothing
abbrev pub calm : Near → Near
calm n = record n { ear = quiet; gathered = Between; owed = [] }

-- the server between two lines, with none that waits, owing nothing
abbrev pub still : Far → Far
still f = record f { ear = quiet; waiting = None; owed = [] }

-- ---- what is on its way

-- a command line to the server, or replies to the client, in order, perhaps none
pub data Way : Type 0 where
  Asking : (text : List ℕ) → Way
  Answering : (replies : List Reply) → Way

-- nothing is on its way
abbrev pub rest : Way
rest = Answering []

-- the octets of replies, one after another
abbrev pub row_octets : List Reply → List ℕ
row_octets replies = flat_map reply_octets replies

-- each reply can be written
abbrev pub AreWritten : List Reply → Type 0
AreWritten replies = AllByRecursion (λ reply. IsWritten reply.code reply.lines) replies

-- ---- a turn of an end

-- a line is heard, and these replies are owed
pub record FarTurn (read : Reading) (f : Far) (text : List ℕ) : Type 0 where
  pub far : Far
  pub replies : List Reply
  pub is : heard_line (read text) (still f) ≡ record (still far) { owed = row_octets replies }
  pub fine : AreWritten replies

-- the octets of a line, if there is one
abbrev pub line_octets : Option (List ℕ) → List ℕ
line_octets None = []
line_octets (Some text) = written_line text

-- a line that is sent can be carried, and nothing else is on its way
abbrev pub IsAlone : Option (List ℕ) → List Reply → Type 0
IsAlone None more = Unit {0}
IsAlone (Some text) more = IsLine text × (more ≡ [])

-- a reply is heard, before these others, and a line is owed or nothing
pub record NearTurn (n : Near) (reply : Reply) (more : List Reply) : Type 0 where
  pub near : Near
  pub line : Option (List ℕ)
  pub is : answered reply.code reply.lines (calm n) ≡ record (calm near) { owed = line_octets line }
  pub fine : IsAlone line more

-- what is then on its way
abbrev pub behind : Option (List ℕ) → List Reply → Way
behind None more = Answering more
behind (Some text) more = Asking text

-- ---- a dialogue: so many turns lead to the goal, and before each of them something holds

module _ (read : Reading) (Along Goal : Near → Far → Type 0) where
  abbrev pub Leads : ℕ → Way → Near → Far → Type 0
  Leads zero (Answering []) n f = Goal n f
  Leads zero (Answering (reply ∷ more)) n f = ⊥
  Leads zero (Asking text) n f = ⊥
  Leads (suc k) (Answering []) n f = ⊥
  Leads (suc k) (Answering (reply ∷ more)) n f = Along n f × (t : NearTurn n reply more) × Leads k (behind t.line more) t.near f
  Leads (suc k) (Asking text) n f = Along n f × (t : FarTurn read f text) × Leads k (Answering t.replies) n t.far

-- ---- what both ends hold, with what is on its way, where every turn leads to such again

module _ (read : Reading) (At : Way → Near → Far → Type 0) where
  -- the turns of a predicate on both ends
  pub record Turns : Type 0 where
    pub asked : (text : List ℕ) (n : Near) (f : Far) → At (Asking text) n f → (t : FarTurn read f text) × At (Answering t.replies) n t.far
    pub told : (reply : Reply) (more : List Reply) (n : Near) (f : Far) → At (Answering (reply ∷ more)) n f
        → (t : NearTurn n reply more) × At (behind t.line more) t.near f
