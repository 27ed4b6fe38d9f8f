-- Sessions that are driven over one tree, which is lent to the one whose turn it is (own choice).
use Rattle.std.specs.Prelude.{◌≡◌, ⊤, ℕ, eqb, List, [], ◌∷◌, Some, slice_get, slice_set, if◌then◌else◌}
use Rattle.ftp_ports.specs.Actions.{Stand}
use Rattle.ftp_server_driver.specs.alone.Side.{server_side}
use Rattle.ftp_server_driver.specs.shared.Among.{IsOneDrive}
use Rattle.ftp_server_driver.specs.shared.Lending.{Holding}
use Rattle.ftp_server_driver.specs.shared.Turning.{AllGoOn, TakesTurn, Turn, told_by}

-- the one tree, and the sessions in their slots
pub record Shared : Type 0 where
  pub tree : Holding
  pub slots : List (Stand server_side)

-- a session takes a turn; or the tree becomes another, since it is looked at anew
pub data SharingEvent : Type 0 where
  Turns : (slot : ℕ) → (turn : Turn) → SharingEvent
  Looks : (tree : Holding) → SharingEvent

-- the session in a slot takes a turn: it is lent the tree that stands, and what it gives back stands from then on; all other sessions stay
pub record TurnsIn (slot : ℕ) (turn : Turn) (old new : Shared) : Type 0 where
  pub before : Stand server_side
  pub after : Stand server_side
  pub sits : slice_get old.slots slot ≡ Some before
  pub takes : TakesTurn turn before after
  pub found : turn.lent ≡ old.tree
  pub left : new.tree ≡ turn.left
  pub others : new.slots ≡ slice_set old.slots slot after

-- what each does
abbrev pub SharingHappens : SharingEvent → (old new : Shared) → Type 0
SharingHappens (Turns slot turn) old new = TurnsIn slot turn old new
SharingHappens (Looks tree) old new = new ≡ record old { tree = tree }

-- the turns of the session in a slot, in the same order
abbrev pub turns_in : ℕ → List SharingEvent → List Turn
turns_in slot [] = []
turns_in slot (Looks tree ∷ before) = turns_in slot before
turns_in slot (Turns other turn ∷ before) = if eqb other slot then turn ∷ turns_in slot before else turns_in slot before

-- a turn is told what the last one of the same session told, whatever happened since
abbrev pub IsTurnTold : SharingEvent → (before : List SharingEvent) → Type 0
IsTurnTold (Turns slot turn) before = turn.stood ≡ told_by (turns_in slot before)
IsTurnTold (Looks tree) before = ⊤

-- events, the last one first
abbrev pub SharingHappened : List SharingEvent → (start now : Shared) → Type 0
SharingHappened [] start now = now ≡ start
SharingHappened (event ∷ before) start now = (mid : Shared) × SharingHappened before start mid × SharingHappens event mid now × IsTurnTold event before

-- Whatever the others do: all turns of a session are one drive, in which its tree is exchanged for the one that stands when it is its turn. It begins where
-- no octets of a data connection are on their way or in hand, and takes no turn once its drive is over or broke off
abbrev pub EachIsOneDrive : Type 0
EachIsOneDrive =
    (events : List SharingEvent) (start now : Shared) (slot : ℕ) (first : Stand server_side) (turn : Turn) (before : List Turn)
    → SharingHappened events start now → slice_get start.slots slot ≡ Some first → first.owner.channel.unwritten ≡ [] → first.owner.channel.untold ≡ []
    → turns_in slot events ≡ turn ∷ before → AllGoOn before
    → (last : Stand server_side) × (slice_get now.slots slot ≡ Some last) × IsOneDrive turn before first last
