-- Actions of different ends that change places: an action comes before one of the other end that was done first, where it reads nothing that this wrote.
use Rattle.std.specs.Prelude.{◌≡◌, ◌⊎◌, ⊤, ℕ, List, [], ◌∷◌, ◌++◌, Some}
use Rattle.ftp_ports.specs.Actions.{Stand}
use Rattle.ftp_client_driver.specs.Side.{client_side}
use Rattle.ftp_server_driver.specs.alone.Side.{server_side}
use Rattle.laws_drivers.specs.control.Between.{Between, Can, Client, Far, Happened, Near, Server, Turn, Who, client_actions, coming_to, peer, server_actions}
use Rattle.laws_drivers.specs.control.Claims.{Did}
use Rattle.laws_drivers.specs.control.Touches.{Touch, None_of_it, Says, Reads, Listens, Dials, touch_in}
use Rattle.laws_world.specs.Claims.{Beginning}

-- beside the control connection alone
abbrev pub IsOfControl : Touch → Type 0
IsOfControl None_of_it = ⊤
IsOfControl (Says octets) = ⊤
IsOfControl (Reads octets) = ⊤
IsOfControl other = ⊥

-- all that is read was written already
abbrev pub ReadsWritten : Who → Touch → Between → Type 0
ReadsWritten who (Reads octets) now = (rest : List ℕ) × (coming_to who now.control ≡ octets ++ rest)
ReadsWritten who other now = ⊤

-- so the second of two can come first, and what lies between after both is the same
abbrev pub ActionsChangePlaces : Type 0
ActionsChangePlaces =
    (who : Who) (first second : Touch) → IsOfControl first → IsOfControl second → (old mid new : Between) → Can who first old mid
    → Can (peer who) second mid new
    → ReadsWritten (peer who) second old → (other : Between) × Can (peer who) second old other × Can who first other new

-- ---- two actions of a data connection

-- of one that stands: it is accepted, its octets are written or read, it is left, or an end is told of its end or its break; or nothing is done of any
abbrev pub IsMoving : Touch → Type 0
IsMoving None_of_it = ⊥
IsMoving (Says octets) = ⊥
IsMoving (Reads octets) = ⊥
IsMoving (Listens (Some port)) = ⊥
IsMoving (Dials endpoint) = ⊥
IsMoving other = ⊤

-- where the second of two can happen without the first, it can come first, and what lies between after both is the same
abbrev pub MovingActionsChangePlaces : Type 0
MovingActionsChangePlaces =
    (who : Who) (first second : Touch) → IsMoving first → IsMoving second → (old mid new other : Between) → Can who first old mid
    → Can (peer who) second mid new → Can (peer who) second old other → Can who first other new

-- ---- in an order

-- whose action it is, and what it does between
abbrev pub who_of : Turn → Who
who_of (Server action) = Far
who_of (Client action) = Near

abbrev pub touch_by : Turn → Touch
touch_by (Server action) = touch_in action
touch_by (Client action) = touch_in action

-- one of two at least is beside the control connection, or both are of a data connection that stands
abbrev pub AreFree : (first second : Touch) → Type 0
AreFree first second = (IsOfControl first ⊎ IsOfControl second) ⊎ (IsMoving first × IsMoving second)

-- such actions of different ends
pub record AreOfPeers (first second : Turn) : Type 0 where
  pub ends : who_of second ≡ peer (who_of first)
  pub free : AreFree (touch_by first) (touch_by second)

-- one and each of several
abbrev pub IsApartFrom : Turn → List Turn → Type 0
IsApartFrom first [] = ⊤
IsApartFrom first (other ∷ others) = IsApartFrom first others × AreOfPeers first other

-- either end does the same actions in the same order
pub record AreOfSameEnds (one other : List Turn) : Type 0 where
  pub server : server_actions other ≡ server_actions one
  pub client : client_actions other ≡ client_actions one

-- an order in which each action can happen leaves but one thing between
abbrev pub OrdersLeaveOne : Type 0
OrdersLeaveOne = (turns : List Turn) (one other : Between) → Happened turns one → Happened turns other → one ≡ other

-- where the second of two neighbours can happen without the first, it can come first; then all that came after both can still happen
abbrev pub NeighboursChangePlaces : Type 0
NeighboursChangePlaces =
    (later before : List Turn) (first second : Turn) (other now : Between) → AreOfPeers first second
    → Happened (second ∷ before) other → Happened (later ++ second ∷ first ∷ before) now
    → Happened (later ++ first ∷ second ∷ before) now × AreOfSameEnds (later ++ second ∷ first ∷ before) (later ++ first ∷ second ∷ before)

-- so an action can come later than several, where these can happen without it
abbrev pub ActionsGoBehind : Type 0
ActionsGoBehind =
    (later others before : List Turn) (first : Turn) (other now : Between) → IsApartFrom first others
    → Happened (others ++ before) other → Happened (later ++ (others ++ first ∷ before)) now
    → Happened (later ++ first ∷ (others ++ before)) now
    × AreOfSameEnds (later ++ (others ++ first ∷ before)) (later ++ first ∷ (others ++ before))

-- and both ends are left as in the other order
abbrev pub OrdersLeaveTheEnds : Type 0
OrdersLeaveTheEnds =
    (b : Beginning) (one other : List Turn) (now : Between) (server : Stand server_side) (client : Stand client_side) → AreOfSameEnds one other
    → Happened other now → Did b one now server client → Did b other now server client
