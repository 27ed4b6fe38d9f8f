-- A data connection in memory, wherever it is: with the end, or with its ports (RFC 959, section 3.2); of values of the program.
use Rattle.std.specs.Prelude.{◌≡◌, ◌⊎◌, ℕ, ◌+◌, ◌%◌, Bool, true, false, List, [], ◌++◌, Option, None, Some}
use Rattle.ftp_endpoint.specs.declared.host.Host.{Host}
use Rattle.ftp_ports.specs.Asking.{Asked}
use Rattle.ftp_ports.specs.Channel.{Channel, no_channel}
use Rattle.ftp_driver.specs.Standing.{channel_at}
use Rattle.ftp_driver.specs.declared.data.Data.{Data}
use Rattle.laws_drivers.specs.control.Between.{Between, Has_not, Hold, Ways, Who}
use Rattle.ftp_pair_memory.specs.streams.LinkState.{LinkState, Knows, between_at, called_by, hold_by, mark}
use Rattle.ftp_pair_memory.specs.streams.PortTables.{asked_of}
use Rattle.ftp_pair_memory.specs.streams.PortTableMoves.{link_state_at, header, hold_at, is_back, is_ended, is_out, left_in, went_in}
use Rattle.ftp_pair_memory.specs.declared.streams.memory_end.MemoryEnd.{MemoryEnd}
use Rattle.ftp_pair_memory.specs.declared.streams.wire.Wire.{Wire}

-- the octets that are still to be read, as a stream may tell them
abbrev pub came_of_wire : Wire → Option (List ℕ)
came_of_wire wire = Some wire.came.items

-- what stands after them, as a stream may tell it
abbrev pub mark_of_wire : Wire → Option (List ℕ)
mark_of_wire wire = Some (mark (is_ended wire.closed))

-- what an end sees of it, where its stream tells this, and where it tells nothing
abbrev pub channel_in : (Wire → Option (List ℕ)) → Data Wire → Channel
channel_in tells stream_of = channel_at tells tells None stream_of []

-- of a stream that tells nothing
abbrev pub plain_in : Data Wire → Channel
plain_in stream_of = channel_in (λ wire. None) stream_of

-- and where all is told: octets, and what was asked of its ports
abbrev pub told_channel : MemoryEnd → Channel
told_channel memory_end = channel_at left_in went_in (Some (asked_of memory_end.memory_ports.port_table)) memory_end.stream []

-- the octets that are told, if any are
abbrev pub octets_of : Option (List ℕ) → List ℕ
octets_of None = []
octets_of (Some octets) = octets

-- those that a stream tells
abbrev pub told_in : (Wire → Option (List ℕ)) → Data Wire → List ℕ
told_in tells stream_of = octets_of (channel_in tells stream_of).left

-- the first where it is so, else the second
abbrev pub of_two : {A : Type 0} → Bool → A → A → A
of_two true here there = here
of_two false here there = there

-- what is still to be read
abbrev pub came_at : MemoryEnd → List ℕ
came_at memory_end = of_two (plain_in memory_end.stream).stands (told_in came_of_wire memory_end.stream) memory_end.memory_ports.port_table.wire.came.items

-- and what was written and not brought on yet
abbrev pub went_at : MemoryEnd → List ℕ
went_at memory_end = of_two (plain_in memory_end.stream).stands (told_in went_in memory_end.stream) memory_end.memory_ports.port_table.wire.went.items

-- how the end stands to it, by its stream or by its ports
abbrev pub held_by : MemoryEnd → Hold
held_by memory_end = of_two (plain_in memory_end.stream).stands (hold_by (plain_in memory_end.stream).fate) (hold_at memory_end.memory_ports.port_table.stay)

-- all of that, as one link state
abbrev pub link_state_of : MemoryEnd → LinkState
link_state_of memory_end = record {
  hold = held_by memory_end;
  came = came_at memory_end;
  went = went_at memory_end;
  ended = is_ended memory_end.memory_ports.port_table.wire.closed;
  calls = memory_end.memory_ports.port_table.calls;
  dialled = memory_end.memory_ports.port_table.dialled;
  listens = memory_end.memory_ports.port_table.listens;
  host = memory_end.memory_ports.port_table.host;
}

-- nothing came or went yet, and no port was listened at; this host is at the other end
abbrev pub no_link_state : Host → LinkState
no_link_state host = record { hold = Has_not; came = []; went = []; ended = false; calls = None; dialled = false; listens = 0; host = host }

-- an end as a session begins
pub record IsFresh (host : Host) (memory_end : MemoryEnd) : Type 0 where
  pub link_state : link_state_of memory_end ≡ no_link_state host
  pub channel : plain_in memory_end.stream ≡ no_channel None

-- its ports know who has it
abbrev pub KnowsHolder : MemoryEnd → Type 0
KnowsHolder memory_end = (plain_in memory_end.stream).stands ≡ is_out memory_end.memory_ports.port_table.stay

-- the end sees the same but for the octets, and its ports know the same
pub record IsSameButOctets (old new : MemoryEnd) : Type 0 where
  pub channel : plain_in new.stream ≡ plain_in old.stream
  pub stay : new.memory_ports.port_table.stay ≡ old.memory_ports.port_table.stay
  pub calls : new.memory_ports.port_table.calls ≡ old.memory_ports.port_table.calls
  pub dialled : new.memory_ports.port_table.dialled ≡ old.memory_ports.port_table.dialled
  pub listens : new.memory_ports.port_table.listens ≡ old.memory_ports.port_table.listens
  pub host : new.memory_ports.port_table.host ≡ old.memory_ports.port_table.host

-- this is it, and it is taken
pub record Lifts (wire : Wire) (old new : MemoryEnd) : Type 0 where
  pub agrees : KnowsHolder old
  pub came : wire.came.items ≡ came_at old
  pub went : wire.went.items ≡ went_at old
  pub still : IsSameButOctets old new

-- this one is put there
pub record LowersWire (wire : Wire) (old new : MemoryEnd) : Type 0 where
  pub came : came_at new ≡ wire.came.items
  pub went : went_at new ≡ wire.went.items
  pub mark : (plain_in new.stream).stands ≡ true → told_in mark_of_wire new.stream ≡ mark (is_ended wire.closed)
  pub still : IsSameButOctets old new

-- ---- a turn

-- how many ports were listened at by both ends: one of them counts those of both
abbrev pub listens_of : (own peer : LinkState) → ℕ
listens_of own peer = (own.listens + peer.listens) % 16384

-- what lies between is the same, though octets were brought on and a dial was answered
pub record KeepsBetween (own peer own_now peer_now : LinkState) : Type 0 where
  pub own_hold : own_now.hold ≡ (called_by peer.dialled own).hold
  pub peer_hold : peer_now.hold ≡ (called_by own.dialled peer).hold
  pub to_own : own_now.came ++ peer_now.went ≡ (called_by peer.dialled own).came ++ (called_by own.dialled peer).went
  pub to_peer : peer_now.came ++ own_now.went ≡ (called_by own.dialled peer).came ++ (called_by peer.dialled own).went

-- where one dialled, the other was called
pub record AnswersDial (dialler other dialler_now other_now : MemoryEnd) : Type 0 where
  pub dialler_link_state : link_state_of dialler_now ≡ record (link_state_of dialler) { dialled = false }
  pub dialler_channel : plain_in dialler_now.stream ≡ plain_in dialler.stream
  pub other_hold : (link_state_of other_now).hold ≡ (called_by (link_state_of dialler).dialled (link_state_of other)).hold
  pub other_came : (link_state_of other_now).came ≡ (called_by (link_state_of dialler).dialled (link_state_of other)).came
  pub other_went : (link_state_of other_now).went ≡ (called_by (link_state_of dialler).dialled (link_state_of other)).went
  pub other_dialled : (link_state_of other_now).dialled ≡ (link_state_of other).dialled
  pub other_listens : (link_state_of other_now).listens ≡ (link_state_of other).listens
  pub other_host : (link_state_of other_now).host ≡ (link_state_of other).host
  pub other_channel : plain_in other_now.stream ≡ plain_in other.stream

-- a turn of an end can begin: octets were brought on, and its ports know what they are to know
pub record IsPrepared (own_now peer_now : MemoryEnd) : Type 0 where
  pub agrees : KnowsHolder own_now
  pub mark : (plain_in own_now.stream).stands ≡ true → told_in mark_of_wire own_now.stream ≡ mark (link_state_of own_now).ended
  pub asked : asked_of own_now.memory_ports.port_table
      ≡ header (link_state_at own_now.memory_ports.port_table.stay own_now.memory_ports.port_table.wire own_now.memory_ports.port_table.calls false
      own_now.memory_ports.port_table.listens own_now.memory_ports.port_table.host)
  pub known : own_now.memory_ports.port_table.spoiled ≡ false
  pub knows : Knows (link_state_of own_now) (link_state_of peer_now)

-- octets are brought on, and the turn of the end can begin; it counts the ports of both from now on
pub record Prepares (own peer own_now peer_now : MemoryEnd) : Type 0 where
  pub own_hold : (link_state_of own_now).hold ≡ (link_state_of own).hold
  pub peer_hold : (link_state_of peer_now).hold ≡ (link_state_of peer).hold
  pub to_own : (link_state_of own_now).came ++ (link_state_of peer_now).went ≡ (link_state_of own).came ++ (link_state_of peer).went
  pub to_peer : (link_state_of peer_now).came ++ (link_state_of own_now).went ≡ (link_state_of peer).came ++ (link_state_of own).went
  pub own_channel : plain_in own_now.stream ≡ plain_in own.stream
  pub peer_channel : plain_in peer_now.stream ≡ plain_in peer.stream
  pub peer_dialled : (link_state_of peer_now).dialled ≡ (link_state_of peer).dialled
  pub own_listens : (link_state_of own_now).listens ≡ listens_of (link_state_of own) (link_state_of peer)
  pub peer_listens : (link_state_of peer_now).listens ≡ 0
  pub own_host : (link_state_of own_now).host ≡ (link_state_of own).host
  pub peer_host : (link_state_of peer_now).host ≡ (link_state_of peer).host
  pub begins : IsPrepared own_now peer_now

-- so it is, what lies between is the same, and the end counts the ports of both
pub record Meets (own peer own_now peer_now : MemoryEnd) : Type 0 where
  pub carries : KeepsBetween (link_state_of own) (link_state_of peer) (link_state_of own_now) (link_state_of peer_now)
  pub own_channel : plain_in own_now.stream ≡ plain_in own.stream
  pub peer_channel : plain_in peer_now.stream ≡ plain_in peer.stream
  pub peer_undialled : (link_state_of peer_now).dialled ≡ false
  pub own_listens : (link_state_of own_now).listens ≡ listens_of (link_state_of own) (link_state_of peer)
  pub peer_listens : (link_state_of peer_now).listens ≡ 0
  pub own_host : (link_state_of own_now).host ≡ (link_state_of own).host
  pub peer_host : (link_state_of peer_now).host ≡ (link_state_of peer).host
  pub begins : IsPrepared own_now peer_now

-- one dialled, and the other one can't be called: it and its ports don't agree on who has its data connection, or it has one
abbrev pub CannotAnswer : (dialler other : MemoryEnd) → Type 0
CannotAnswer dialler other =
    (dialler.memory_ports.port_table.dialled ≡ true) × ((KnowsHolder other → ⊥) ⊎ ((plain_in other.stream).stands ≡ true))

-- no turn can begin: so it is of either, or an end and its ports don't agree
pub data CannotMeet (own peer : MemoryEnd) : Type 0 where
  Peer_not_called : CannotAnswer own peer → CannotMeet own peer
  Own_not_called : CannotAnswer peer own → CannotMeet own peer
  Own_astray : (KnowsHolder own → ⊥) → CannotMeet own peer
  Peer_astray : (KnowsHolder peer → ⊥) → CannotMeet own peer

-- after a turn ports know where it is, and the end sees what it saw
pub record IsKnown (old new : MemoryEnd) : Type 0 where
  pub port_table : new.memory_ports.port_table ≡ old.memory_ports.port_table
  pub channel : (remaining contents : Wire → Option (List ℕ)) (asked : Option (List Asked))
      → channel_at remaining contents asked new.stream [] ≡ channel_at remaining contents asked old.stream []
  pub agrees : KnowsHolder new
  pub mark : (plain_in new.stream).stands ≡ true → told_in mark_of_wire new.stream ≡ mark (is_ended new.memory_ports.port_table.wire.closed)
  pub known : new.memory_ports.port_table.spoiled ≡ false

-- after a turn they don't: what they noted is lost, or they don't agree with the end on who has it or whether it ended
pub data IsUnknown (own : MemoryEnd) : Type 0 where
  Spoiled : own.memory_ports.port_table.spoiled ≡ true → IsUnknown own
  Astray : (KnowsHolder own → ⊥) → IsUnknown own
  Another : (ended : Bool) → (plain_in own.stream).stands ≡ true → told_in mark_of_wire own.stream ≡ mark ended
      → is_back (hold_at own.memory_ports.port_table.stay) (is_ended own.memory_ports.port_table.wire.closed) ended ≡ false → IsUnknown own

-- ---- both ends

-- what lies between an end and its peer
abbrev pub between_both : Who → (own peer : MemoryEnd) → Ways → Between
between_both who own peer control =
    between_at who (called_by (link_state_of peer).dialled (link_state_of own)) (called_by (link_state_of own).dialled (link_state_of peer)) control
