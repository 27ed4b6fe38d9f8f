-- What the actions of a client begin, and at which moments; and the moments that the server is told as octets that were put end (RFC 959, sections 3.2 and
-- 4.1.3).
use Rattle.std.specs.Prelude.{◌≡◌, ⊤, ℕ, zero, suc, ◌≤◌, List, [], ◌∷◌, ◌++◌}
use Rattle.ftp_ports.specs.Actions.{Action, Done, Led, Other, Stand}
use Rattle.ftp_ports.specs.Machine.{Aside, End}
use Rattle.ftp_client_driver.specs.Side.{Starting, client_side}
use Rattle.ftp_server_driver.specs.alone.Side.{server_side}
use Rattle.ftp_tree.specs.Sound.{last_second}
use Rattle.laws_drivers.specs.control.Between.{Client as ByClient, Server as ByServer, Turn, client_actions, server_actions}
use Rattle.laws_world.specs.Agreement.{Order, Single}

-- ---- the client

-- in an action
abbrev pub begun_by : (moment : ℕ) → Action client_side → List Order
begun_by moment (Other (Aside (Starting op))) = Single op moment ∷ []
begun_by moment other = []

-- how many operations were begun
abbrev pub number_in : List (Action client_side) → ℕ
number_in [] = 0
number_in (Other (Aside (Starting op)) ∷ before) = suc (number_in before)
number_in (action ∷ before) = number_in before

-- what was begun, the n-th operation, from 0, at the n-th of these moments
abbrev pub begun_at : (moments : ℕ → ℕ) → List (Action client_side) → List Order
begun_at moments [] = []
begun_at moments (action ∷ before) = begun_at moments before ++ begun_by (moments (number_in before)) action

-- that of the last of so many
abbrev pub last_of : (moments : ℕ → ℕ) → ℕ → ℕ
last_of moments zero = 0
last_of moments (suc n) = moments n

-- they are moments of the clock
abbrev pub AreMoments : (ℕ → ℕ) → Type 0
AreMoments moments = (n : ℕ) → moments n ≤ last_second

-- ---- the server

-- the moment that the server is told right before a data connection's end
abbrev pub IsToldAt : (action : Action server_side) (old new : Stand server_side) → Done action old new → ℕ → Type 0
IsToldAt (Other End) old new did moment = did.0.0.0 ≡ moment
IsToldAt action old new did moment = ⊤

-- it is that of the operation that was begun last
abbrev pub AreToldAt : (moments : ℕ → ℕ) (turns : List Turn) (start now : Stand server_side) → Led (server_actions turns) start now → Type 0
AreToldAt moments [] start now led = ⊤
AreToldAt moments (ByServer action ∷ before) start now led =
    AreToldAt moments before start led.0 led.1 × IsToldAt action led.0 now led.2 (last_of moments (number_in (client_actions before)))
AreToldAt moments (ByClient action ∷ before) start now led = AreToldAt moments before start now led
