-- Ports that were told one after another, by either end, are those of a world.
use Rattle.std.proofs.Common.{◌≡◌, ◌∙◌, ℕ, List, [], ◌∷◌, refl, sym, ap}
use Rattle.ftp_ports.specs.Actions.{Action, Other}
use Rattle.ftp_ports.specs.Machine.{Left, Listening, Opened, Refused}
use Rattle.ftp_client_driver.specs.Side.{client_side}
use Rattle.laws_active.specs.Actions.{ArePortsOfTurns, listened_in_turns}
use Rattle.laws_drivers.specs.control.Between.{Client, Server, Turn}
use Rattle.laws_drivers.specs.control.Touches.{had_by, touch_of_leaving}
use Rattle.laws_world.specs.World.{next_listen, port_at}
use Rattle.ftp_server_driver.specs.alone.Side.{server_side}
use Rattle.ftp_pair_memory.specs.streams.Order.{Counted, CountsIn}
use Rattle.laws_sessions.proofs.passive.Ports.{counts_none, had_no_port, left_no_port, none_counts}

-- so many were told, and they are those of a world
abbrev pub AreTold : List Turn → (told : ℕ) → Type 0
AreTold turns told = (listened_in_turns turns ≡ told) × ArePortsOfTurns turns

-- one more action of the server, or of the client
server_told : (action : Action server_side) (before : List Turn) (mid told : ℕ) → AreTold before mid → CountsIn (Server action) mid told
    → AreTold (Server action ∷ before) told
server_told (Other (Listening port)) before mid told first counts = (ap next_listen first.0 ∙ sym counts.1, (first.1, counts.0 ∙ ap port_at (sym first.0)))
server_told (Other (Opened host asked at_first so_far rest)) before mid told first counts =
    (first.0 ∙ sym (counts_none (had_by asked) mid told (had_no_port asked) counts), first.1)
server_told (Other (Refused asked)) before mid told first counts = (first.0 ∙ sym (counts_none (had_by asked) mid told (had_no_port asked) counts), first.1)
server_told (Other (Left asked)) before mid told first counts = (first.0 ∙ sym (counts_none (touch_of_leaving asked) mid told (left_no_port asked) counts), first.1)
server_told action before mid told first counts = (first.0 ∙ sym counts, first.1)

client_told : (action : Action client_side) (before : List Turn) (mid told : ℕ) → AreTold before mid → CountsIn (Client action) mid told
    → AreTold (Client action ∷ before) told
client_told (Other (Listening port)) before mid told first counts = (ap next_listen first.0 ∙ sym counts.1, (first.1, counts.0 ∙ ap port_at (sym first.0)))
client_told (Other (Opened host asked at_first so_far rest)) before mid told first counts =
    (first.0 ∙ sym (counts_none (had_by asked) mid told (had_no_port asked) counts), first.1)
client_told (Other (Refused asked)) before mid told first counts = (first.0 ∙ sym (counts_none (had_by asked) mid told (had_no_port asked) counts), first.1)
client_told (Other (Left asked)) before mid told first counts = (first.0 ∙ sym (counts_none (touch_of_leaving asked) mid told (left_no_port asked) counts), first.1)
client_told action before mid told first counts = (first.0 ∙ sym counts, first.1)

pub ports_told : (turns : List Turn) (told : ℕ) → Counted turns 0 told → AreTold turns told
ports_told [] told counted = (sym counted, tt)
ports_told (Server action ∷ before) told counted = server_told action before counted.0 told (ports_told before counted.0 counted.1) counted.2
ports_told (Client action ∷ before) told counted = client_told action before counted.0 told (ports_told before counted.0 counted.1) counted.2

-- ---- and the other way round

server_counts : (action : Action server_side) (before : List Turn) → ArePortsOfTurns (Server action ∷ before)
    → ArePortsOfTurns before × CountsIn (Server action) (listened_in_turns before) (listened_in_turns (Server action ∷ before))
server_counts (Other (Listening port)) before ports = (ports.0, (ports.1, refl))
server_counts (Other (Opened host asked at_first so_far rest)) before ports = (ports, none_counts (had_by asked) (listened_in_turns before) (had_no_port asked))
server_counts (Other (Refused asked)) before ports = (ports, none_counts (had_by asked) (listened_in_turns before) (had_no_port asked))
server_counts (Other (Left asked)) before ports = (ports, none_counts (touch_of_leaving asked) (listened_in_turns before) (left_no_port asked))
server_counts action before ports = (ports, refl)

client_counts : (action : Action client_side) (before : List Turn) → ArePortsOfTurns (Client action ∷ before)
    → ArePortsOfTurns before × CountsIn (Client action) (listened_in_turns before) (listened_in_turns (Client action ∷ before))
client_counts (Other (Listening port)) before ports = (ports.0, (ports.1, refl))
client_counts (Other (Opened host asked at_first so_far rest)) before ports = (ports, none_counts (had_by asked) (listened_in_turns before) (had_no_port asked))
client_counts (Other (Refused asked)) before ports = (ports, none_counts (had_by asked) (listened_in_turns before) (had_no_port asked))
client_counts (Other (Left asked)) before ports = (ports, none_counts (touch_of_leaving asked) (listened_in_turns before) (left_no_port asked))
client_counts action before ports = (ports, refl)

pub ports_counted : (turns : List Turn) → ArePortsOfTurns turns → Counted turns 0 (listened_in_turns turns)
ports_counted [] ports = refl
ports_counted (Server action ∷ before) ports =
    let last = server_counts action before ports in (listened_in_turns before, ports_counted before last.0, last.1)
ports_counted (Client action ∷ before) ports =
    let last = client_counts action before ports in (listened_in_turns before, ports_counted before last.0, last.1)
