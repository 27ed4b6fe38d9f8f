-- What the ports of a data connection in memory know of it and told, of values of the program (RFC 959, section 3.2).
use Rattle.std.specs.Prelude.{ℕ, ⊤, Bool, true, false, not, List, [], ◌∷◌, ◌++◌, Option, None, Some}
use Rattle.ftp_endpoint.specs.declared.endpoint.Endpoint.{Endpoint}
use Rattle.ftp_endpoint.specs.declared.host.Host.{Host}
use Rattle.ftp_ports.specs.Asking as asking
use Rattle.ftp_ports.specs.Asking.{Asked}
use Rattle.laws_drivers.specs.control.Between.{Awaits, Has, Has_ended, Has_lost, Has_not, Hold, Is_called}
use Rattle.ftp_pair_memory.specs.streams.LinkState.{LinkState, dialling, handed, left_so, listening, mark}
use Rattle.laws_world.specs.World.{port_at}
use Rattle.ftp_pair_memory.specs.declared.streams.port_table.Event.{Event}
use Rattle.ftp_pair_memory.specs.declared.streams.port_table.Event.TheVariants as Events
use Rattle.ftp_pair_memory.specs.declared.streams.port_table.Found.{Found}
use Rattle.ftp_pair_memory.specs.declared.streams.port_table.Stay.{Stay}
use Rattle.ftp_pair_memory.specs.declared.streams.port_table.Stay.TheVariants as Stays
use Rattle.ftp_pair_memory.specs.declared.streams.wire.Closed.{Closed}
use Rattle.ftp_pair_memory.specs.declared.streams.wire.Closed.TheVariants as Closes
use Rattle.ftp_pair_memory.specs.declared.streams.wire.Wire.{Wire}

-- whether the other end ended it
abbrev pub is_ended : Closed → Bool
is_ended Closes.No = false
is_ended Closes.Ended = true
is_ended Closes.Reset = false

-- how the end stands to it, in the words of `Between`
abbrev pub hold_at : Stay → Hold
hold_at Stays.Free = Has_not
hold_at (Stays.Awaits port) = Awaits port
hold_at Stays.Called = Is_called
hold_at Stays.Out = Has
hold_at Stays.Ended = Has_ended
hold_at Stays.Reset = Has_lost

-- whether the end has it
abbrev pub is_out : Stay → Bool
is_out Stays.Out = true
is_out other = false

-- what is known of it: while the end has it, no octets
abbrev pub link_state_at : Stay → Wire → Option ℕ → (dialled : Bool) → (listens : ℕ) → Host → LinkState
link_state_at stay wire calls dialled listens host = record {
  hold = hold_at stay;
  came = wire.came.items;
  went = wire.went.items;
  ended = is_ended wire.closed;
  calls = calls;
  dialled = dialled;
  listens = listens;
  host = host;
}

-- that it was found so, as a turn began
abbrev pub link_found_at : Found × Wire → LinkState
link_found_at found = link_state_at found.0.stay found.1 found.0.calls false found.0.listens found.0.host

-- ---- what was asked

-- the end has it, and the one that it gives back was closed or not as the one that it was given
abbrev pub is_back : Hold → (known ended : Bool) → Bool
is_back Has true ended = ended
is_back Has false ended = not ended
is_back hold known ended = false

-- it has none, and the peer listens
abbrev pub is_reached : Hold → (calls : Option ℕ) → Bool
is_reached Has calls = false
is_reached hold (Some port) = true
is_reached hold None = false

-- the end has none
abbrev pub is_free_hold : Hold → Bool
is_free_hold Has = false
is_free_hold hold = true

-- it was dialled where the end listens
abbrev pub is_dialled : Hold → Bool
is_dialled Is_called = true
is_dialled hold = false

-- this link state, if it could be so
abbrev pub where_so : Bool → LinkState → Option LinkState
where_so true link_state = Some link_state
where_so false link_state = None

-- the link state after what was asked, where that could be
abbrev pub moved : Event → Wire → LinkState → Option LinkState
moved (Events.Listened None) wire link_state = Some link_state
moved (Events.Listened (Some port)) wire link_state = where_so (is_free_hold link_state.hold) (listening link_state)
moved (Events.Came host) wire link_state = where_so (is_dialled link_state.hold) (handed link_state)
moved Events.NotCame wire link_state = Some link_state
moved (Events.Connected endpoint) wire link_state = where_so (is_reached link_state.hold link_state.calls) (dialling link_state)
moved (Events.NotConnected endpoint) wire link_state = Some link_state
moved Events.Ended wire link_state =
    where_so (is_back link_state.hold link_state.ended (is_ended wire.closed)) (left_so Has_ended wire.came.items wire.went.items link_state)
moved Events.Reset wire link_state =
    where_so (is_back link_state.hold link_state.ended (is_ended wire.closed)) (left_so Has_lost wire.came.items wire.went.items link_state)
moved Events.Shut wire link_state = Some link_state

-- the same where the link state before is known
abbrev pub moved_where_known : Event → Wire → Option LinkState → Option LinkState
moved_where_known event wire None = None
moved_where_known event wire (Some link_state) = moved event wire link_state

-- these move nothing
abbrev pub MovesNothing : Event → Type 0
MovesNothing (Events.Listened None) = ⊤
MovesNothing Events.NotCame = ⊤
MovesNothing (Events.NotConnected endpoint) = ⊤
MovesNothing Events.Shut = ⊤
MovesNothing event = ⊥

-- the octets that are left to be read of one, and its mark
abbrev pub left_in : Wire → Option (List ℕ)
left_in wire = Some (wire.came.items ++ mark (is_ended wire.closed))

-- the octets that were written to it
abbrev pub went_in : Wire → Option (List ℕ)
went_in wire = Some wire.went.items

-- where the peer listens
abbrev pub port_called : (calls : Option ℕ) → Endpoint → Endpoint
port_called None endpoint = endpoint
port_called (Some port) endpoint = record endpoint { port = port }

-- what was asked, of a data connection in that link state
abbrev pub told : Event → Wire → Option LinkState → Asked
told (Events.Listened None) wire link_state = asking.Listened None
told (Events.Listened (Some port)) wire None = asking.Listened (Some port)
told (Events.Listened (Some port)) wire (Some link_state) = asking.Listened (Some (port_at link_state.listens))
told (Events.Came host) wire None = asking.Came host (left_in wire) (went_in wire)
told (Events.Came host) wire (Some link_state) = asking.Came link_state.host (Some (link_state.came ++ mark link_state.ended)) (Some link_state.went)
told Events.NotCame wire link_state = asking.NotCame
told (Events.Connected endpoint) wire None = asking.Connected endpoint (left_in wire) (went_in wire)
told (Events.Connected endpoint) wire (Some link_state) = asking.Connected (port_called link_state.calls endpoint) (Some (mark false)) (Some [])
told (Events.NotConnected endpoint) wire link_state = asking.NotConnected endpoint
told Events.Ended wire link_state = asking.Ended (left_in wire) (went_in wire)
told Events.Reset wire link_state = asking.Reset (left_in wire) (went_in wire)
told Events.Shut wire link_state = asking.Shut

-- ---- since a turn began

-- how the end stood to it when the turn began, as a request that tells so
abbrev pub shown_hold : Hold → Asked
shown_hold Has_not = asking.Shut
shown_hold (Awaits port) = asking.Listened (Some port)
shown_hold Is_called = asking.NotCame
shown_hold Has = asking.Lost
shown_hold Has_ended = asking.Ended None None
shown_hold Has_lost = asking.Reset None None

-- whether its other end had ended it
abbrev pub shown_end : (ended : Bool) → Asked
shown_end true = asking.Shut
shown_end false = asking.Lost

-- what ports tell first of a turn
abbrev pub header : LinkState → List Asked
header link_state =
    asking.Ended (Some link_state.came) (Some link_state.went) ∷ asking.Listened link_state.calls ∷ shown_hold link_state.hold ∷ shown_end link_state.ended
    ∷ asking.Listened (Some link_state.listens) ∷ asking.Came link_state.host None None ∷ []

-- the link state now, if all could be asked, and what was asked, the last one first
pub record Noted : Type 0 where
  pub link_state : Option LinkState
  pub asked : List Asked

-- as the turn found it
abbrev pub noted_first : List (Found × Wire) → Noted
noted_first [] = record { link_state = None; asked = [] }
noted_first (found ∷ more) = record { link_state = Some (link_found_at found); asked = header (link_found_at found) }

-- with one request more
abbrev pub noted_next : Noted → Event × Wire → Noted
noted_next noted next = record { link_state = moved_where_known next.0 next.1 noted.link_state; asked = told next.0 next.1 noted.link_state ∷ noted.asked }

-- with more, one after another
abbrev pub noted_on : Noted → List (Event × Wire) → Noted
noted_on noted [] = noted
noted_on noted (next ∷ more) = noted_on (noted_next noted next) more

-- all since the turn began
abbrev pub noted_in : List (Found × Wire) → List (Event × Wire) → Noted
noted_in found log = noted_on (noted_first found) log

-- the link state is known, unless something was asked that could not be
abbrev pub known_by : (spoiled : Bool) → LinkState → Option LinkState
known_by true link_state = None
known_by false link_state = Some link_state
