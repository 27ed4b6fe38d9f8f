-- What lies between the connections of two drives, and an order of both their actions in which each happens when it can.
use Rattle.std.specs.Prelude.{◌≡◌, ℕ, List, [], ◌∷◌, ◌++◌, None, Some}
use Rattle.ftp_ports.specs.Actions.{Action}
use Rattle.ftp_server_driver.specs.alone.Side.{server_side}
use Rattle.ftp_client_driver.specs.Side.{client_side}
use Rattle.laws_drivers.specs.control.Touches.{Touch, None_of_it, Says, Reads, Parts, Listens, Dials, Accepts, IsDenied, IsMissed, Writes, Takes}
use Rattle.laws_drivers.specs.control.Touches.{Ends, Resets, ToldEnd, ToldBreak, touch_in}

-- the client, the server
pub data Who : Type 0 where
  Near Far : Who

abbrev pub peer : Who → Who
peer Near = Far
peer Far = Near

-- what each is still to read
pub record Ways : Type 0 where
  pub to_server : List ℕ
  pub to_client : List ℕ

abbrev pub coming_to : Who → Ways → List ℕ
coming_to Near ways = ways.to_client
coming_to Far ways = ways.to_server

abbrev pub with_coming : Who → List ℕ → Ways → Ways
with_coming Near octets ways = record ways { to_client = octets }
with_coming Far octets ways = record ways { to_server = octets }

-- how an end stands to the data connection: it has none of it; it listens at a port, or was dialled there; it has it, has ended it, has reset it or
-- was told that it broke
pub data Hold : Type 0 where
  Has_not : Hold
  Awaits : (port : ℕ) → Hold
  Is_called : Hold
  Has Has_ended Has_lost : Hold

pub record Between : Type 0 where
  pub control : Ways
  pub data_ways : Ways
  pub near : Hold
  pub far : Hold

abbrev pub hold_of : Who → Between → Hold
hold_of Near between = between.near
hold_of Far between = between.far

abbrev pub with_hold : Who → Hold → Between → Between
with_hold Near hold between = record between { near = hold }
with_hold Far hold between = record between { far = hold }

abbrev pub nothing_yet : Between
nothing_yet = record {
  control = record { to_server = []; to_client = [] };
  data_ways = record { to_server = []; to_client = [] };
  near = Has_not;
  far = Has_not;
}

-- an end has none, or no more
abbrev pub IsOver : Hold → Type 0
IsOver Has = ⊥
IsOver hold = Unit {0}

-- it stands at an end, broken or not
abbrev pub IsStanding : Hold → Type 0
IsStanding Has = Unit {0}
IsStanding Has_lost = Unit {0}
IsStanding hold = ⊥

-- the next connection: its peer was dialled, and nothing of the one before is to be read
abbrev pub dialled : Who → Between → Between
dialled who between = with_hold who Has (with_hold (peer who) Is_called (record between { data_ways = record { to_server = []; to_client = [] } }))

-- octets that one writes go after those that its peer is still to read
abbrev pub sent : Who → List ℕ → Ways → Ways
sent who octets ways = with_coming (peer who) (coming_to (peer who) ways ++ octets) ways

-- How an action of one of them changes what lies between, and when it can: control octets are read in order, and only once they were written; so are
-- those of a data connection, while it is had. One is dialled where its peer listens, which accepts it after that; who listens again forgets who came
-- before. Its end is told once the peer ended it and all is read; a break may be told while it is had.
abbrev pub Can : Who → Touch → (old new : Between) → Type 0
Can who None_of_it old new = new ≡ old
Can who (Says octets) old new = new ≡ record old { control = sent who octets old.control }
Can who (Reads octets) old new =
    (coming_to who old.control ≡ octets ++ coming_to who new.control) × (new ≡ record old { control = with_coming who (coming_to who new.control) old.control })
Can who Parts old new = new ≡ old
Can who (Listens None) old new = new ≡ old
Can who (Listens (Some port)) old new = IsOver (hold_of who old) × (new ≡ with_hold who (Awaits port) old)
Can who (Dials endpoint) old new = IsOver (hold_of who old) × (hold_of (peer who) old ≡ Awaits endpoint.port) × (new ≡ dialled who old)
Can who (Accepts host) old new = (hold_of who old ≡ Is_called) × (new ≡ with_hold who Has old)
Can who (IsDenied endpoint) old new = new ≡ old
Can who IsMissed old new = new ≡ old
Can who (Writes octets) old new = (hold_of who old ≡ Has) × (new ≡ record old { data_ways = sent who octets old.data_ways })
Can who (Takes octets) old new =
    (hold_of who old ≡ Has) × (coming_to who old.data_ways ≡ octets ++ coming_to who new.data_ways)
    × (new ≡ record old { data_ways = with_coming who (coming_to who new.data_ways) old.data_ways })
Can who Ends old new = (hold_of who old ≡ Has) × (new ≡ with_hold who Has_ended old)
Can who Resets old new = IsStanding (hold_of who old) × (new ≡ with_hold who Has_lost old)
Can who ToldEnd old new = (hold_of (peer who) old ≡ Has_ended) × (coming_to who old.data_ways ≡ []) × (new ≡ old)
Can who ToldBreak old new = (hold_of who old ≡ Has) × (new ≡ with_hold who Has_lost old)

-- in this order, the last one first: actions of the server and of the client
pub data Turn : Type 0 where
  Server : (action : Action server_side) → Turn
  Client : (action : Action client_side) → Turn

abbrev pub server_actions : List Turn → List (Action server_side)
server_actions [] = []
server_actions (Server action ∷ before) = action ∷ server_actions before
server_actions (Client action ∷ before) = server_actions before

abbrev pub client_actions : List Turn → List (Action client_side)
client_actions [] = []
client_actions (Server action ∷ before) = client_actions before
client_actions (Client action ∷ before) = action ∷ client_actions before

abbrev pub CanTurn : Turn → (old new : Between) → Type 0
CanTurn (Server action) old new = Can Far (touch_in action) old new
CanTurn (Client action) old new = Can Near (touch_in action) old new

abbrev pub Happened : List Turn → Between → Type 0
Happened [] now = now ≡ nothing_yet
Happened (turn ∷ before) now = (mid : Between) × Happened before mid × CanTurn turn mid now
