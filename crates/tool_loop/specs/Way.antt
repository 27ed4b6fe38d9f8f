-- One way of a connection of the process with itself: how many octets are on their way, and what may still come (own choice; RFC 9293, section 3.6, for ends).
use Rattle.std.specs.Prelude.{ℕ, ◌+◌, ◌-◌, ◌^◌, min, nat_le, nat_lt, Bool, true, if◌then◌else◌}
use Rattle.ftp_ports.specs.declared.ports.Spoken.{Spoken}
use Rattle.ftp_ports.specs.declared.ports.Spoken.TheVariants as Speaks
use Rattle.tool_loop.specs.declared.way.Flow.{Flow}
use Rattle.tool_loop.specs.declared.way.Flow.TheVariants as Flows
use Rattle.tool_loop.specs.declared.way.Way.{Way}

-- nothing is on its way yet
abbrev pub fresh_way : Way
fresh_way = record { outstanding = 0; flow = Flows.Open }

-- how many more octets may be on their way, of 4,096 in all
abbrev pub room_of_way : Way → ℕ
room_of_way way = 4096 - way.outstanding

-- so many octets were written
abbrev pub way_after_write : Way → (count : ℕ) → Way
way_after_write way count = record { outstanding = min (way.outstanding + count) (2 ^ 64 - 1); flow = way.flow }

-- so many octets were read
abbrev pub way_after_read : Way → (count : ℕ) → Way
way_after_read way count = record { outstanding = way.outstanding - count; flow = way.flow }

-- whoever writes has ended, which a break before stays ahead of
abbrev pub flow_after_end : Flow → Flow
flow_after_end Flows.Open = Flows.Ended
flow_after_end Flows.Ended = Flows.Ended
flow_after_end Flows.Broken = Flows.Broken

-- the way ends behind what is on it
abbrev pub way_after_end : Way → Way
way_after_end way = record { outstanding = way.outstanding; flow = flow_after_end way.flow }

-- the way is cut: nothing more comes over it
abbrev pub way_after_cut : Way → Way
way_after_cut way = record { outstanding = way.outstanding; flow = Flows.Broken }

-- a read ends at once: octets are on their way, or none comes any more
abbrev pub reads_at_once : Flow → (outstanding : ℕ) → Bool
reads_at_once Flows.Open outstanding = nat_lt 0 outstanding
reads_at_once Flows.Ended outstanding = true
reads_at_once Flows.Broken outstanding = true

-- a write of so many octets ends at once: there is room for them, or nobody takes any
abbrev pub writes_at_once : Flow → (count room : ℕ) → Bool
writes_at_once Flows.Open count room = nat_le count room
writes_at_once Flows.Ended count room = true
writes_at_once Flows.Broken count room = true

-- what a control connection has, of which this is the way that comes
abbrev pub spoken_over : Flow → (outstanding : ℕ) → Spoken
spoken_over Flows.Open outstanding = if nat_lt 0 outstanding then Speaks.Octets else Speaks.Nothing
spoken_over Flows.Ended outstanding = Speaks.Ended
spoken_over Flows.Broken outstanding = Speaks.Ended
