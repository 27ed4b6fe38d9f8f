-- The sessions of `serve`: what rounds make of each is one drive, over the tree that stands when it is its turn (own choice).
use Rattle.std.specs.Prelude.{◌≡◌, ℕ, List, [], Option, None, slice_set}
use Rattle.ftp_ports.specs.Actions.{Stand}
use Rattle.ftp_server_driver.specs.alone.Side.{server_side}
use Rattle.ftp_server_driver.specs.shared.Among.{IsOneDrive}
use Rattle.ftp_server_driver.specs.shared.Lending.{Holding}
use Rattle.ftp_server_driver.specs.shared.Turning.{Turn}
use Rattle.ftp_server_model.specs.declared.session.Standing.{Standing}
use Rattle.tool_scheduler.specs.Sharing.{AreFree, Happened, Happens, Rules, Shared, SharedEvent, Turned, left_by, rules_of}
use Rattle.tool_scheduler.specs.declared.slot.TurnResult.{TurnResult}
use Rattle.tool_serve.specs.Sharing.{TakesSlotTurn}

-- a session starts: it told nothing yet of the path of an upload, and no octets of a data connection are on their way or in hand
pub record Starts (stood : Option Standing) (stand : Stand server_side) : Type 0 where
  pub told : stood ≡ None
  pub unwritten : stand.owner.channel.unwritten ≡ []
  pub untold : stand.owner.channel.untold ≡ []

-- by what a tree holds, what a session told last of the path of its upload, and its server beside its connections
module _ {T S : Type 0} (holds : T → Holding) (stood : S → Option Standing) (stand : S → Stand server_side) where
  -- a round leaves the tree, and a turn is one of the drive of its session
  abbrev pub served_rules : Rules T S
  served_rules = rules_of (λ hosts old new. new ≡ old) (λ session. Starts (stood session) (stand session))
      (λ lent left result old new. TakesSlotTurn (holds lent) (holds left) (stood old) (stood new) result (stand old) (stand new))

  -- all turns of the session in a slot since it started, this one the last, are one drive; this one was lent the tree that stood, and what it left stands
  pub record IsTurnOfOneDrive (place : ℕ) (result : TurnResult) (old new : Shared T S) : Type 0 where
    pub first : S
    pub starts : Starts (stood first) (stand first)
    pub turn : Turn
    pub before : List Turn
    pub last : S
    pub host : ℕ
    pub drives : IsOneDrive turn before (stand first) (stand last)
    pub lent : turn.lent ≡ holds old.tree
    pub left : turn.left ≡ holds new.tree
    pub stays : new.slots ≡ slice_set old.slots place (left_by result (record { session = last; host = host }))

  -- so is each turn of whoever is served, whatever the others do
  abbrev pub EachServedIsOneDrive : Type 0
  EachServedIsOneDrive =
      (events : List SharedEvent) (first old new : Shared T S) (place : ℕ) (result : TurnResult) → AreFree first.slots → Happened served_rules events first old
      → Happens served_rules (Turned place result) old new → IsTurnOfOneDrive place result old new
