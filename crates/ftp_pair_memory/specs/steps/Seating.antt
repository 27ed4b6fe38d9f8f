-- Ends in their slots, and both connections in memory, of values of the program (RFC 959, section 2.3).
use Rattle.std.specs.Prelude.{ℕ, []}
use Rattle.ftp_ports.specs.Machine.{Held, held}
use Rattle.ftp_client_model.specs.Failing.{Client as NearEnd}
use Rattle.laws_drivers.specs.control.Between.{Between, Near, Ways}
use Rattle.ftp_pair_memory.specs.streams.MemoryEnds.{link_state_of, between_both, listens_of, plain_in}
use Rattle.ftp_pair_memory.specs.streams.Order.{Hosts}
use Rattle.ftp_server_driver.specs.alone.Side.{Timed}
use Rattle.ftp_pair_memory.specs.steps.Taking.{Ends, both_ends}
use Rattle.ftp_pair_memory.specs.declared.streams.memory_end.MemoryEnd.{MemoryEnd}
use Rattle.ftp_pair_memory.specs.declared.steps.slots.MemoryControl.{MemoryControl}
use Rattle.ftp_pair_memory.specs.declared.steps.slots.Slot.{Slot}

-- what either end is still to read of the control connection
abbrev pub ways_of : MemoryControl → Ways
ways_of control = record { to_server = control.to_server.items; to_client = control.to_client.items }

-- nothing
abbrev pub nothing_left : Ways
nothing_left = record { to_server = []; to_client = [] }

-- what an end holds, and what it sees of its data connection, of whose octets and ports nothing is told
abbrev pub held_at : {Here E : Type 0} → (here : E → Here) → Slot E → Held Here
held_at here slot = held (here slot.end) (plain_in slot.memory_end.stream)

-- what lies between both
abbrev pub between_of : {N F : Type 0} → (client : Slot N) → (server : Slot F) → MemoryControl → Between
between_of client server control = between_both Near client.memory_end server.memory_end (ways_of control)

-- how many ports were listened at by both
abbrev pub told_by : {N F : Type 0} → (client : Slot N) → (server : Slot F) → ℕ
told_by client server = listens_of (link_state_of client.memory_end) (link_state_of server.memory_end)

-- the host at the other end of each
abbrev pub hosts_of : {N F : Type 0} → (client : Slot N) → (server : Slot F) → Hosts
hosts_of client server = record { near = (link_state_of client.memory_end).host; far = (link_state_of server.memory_end).host }

-- both ends and where their data connections are, as they stand
pub record Pair : Type 0 where
  pub server : Timed
  pub client : NearEnd
  pub far : MemoryEnd
  pub near : MemoryEnd
  pub control : Ways

-- of slots and a control connection as the program has them; `far` and `near` say what the ends hold
abbrev pub pair_of : {N F : Type 0} → (far : F → Timed) → (near : N → NearEnd) → (client : Slot N) → (server : Slot F) → MemoryControl → Pair
pair_of far near client server control =
    record { server = far server.end; client = near client.end; far = server.memory_end; near = client.memory_end; control = ways_of control }

-- all of that
abbrev pub both_ends_of : {N F : Type 0} → (far : F → Timed) → (near : N → NearEnd) → (client : Slot N) → (server : Slot F) → MemoryControl → Ends
both_ends_of far near client server control =
    both_ends (held_at far server) (held_at near client) (between_of client server control) (told_by client server) (hosts_of client server)
