-- Where the client dials alone, the ports that were told, one after another, are those that the server told.
use Rattle.std.proofs.Common.{◌≡◌, ◌∙◌, ℕ, List, [], ◌∷◌, Some, refl, sym, ap}
use Rattle.std.specs.Prelude.{⊤}
use Rattle.ftp_ports.specs.Asking.{Asked, Came, Connected, Ended as EndedBy, NotCame, NotConnected, Reset}
use Rattle.ftp_ports.specs.Actions.{Action, Led, Other, Stand}
use Rattle.ftp_ports.specs.Machine.{Held, Left, Listening, Opened, Refused}
use Rattle.ftp_client_driver.specs.Side.{client_side}
use Rattle.ftp_client_model.specs.Failing.{Client as NearEnd}
use Rattle.laws_drivers.specs.events.Actions.{Along, ArePorts, listened_in}
use Rattle.laws_drivers.specs.control.Between.{Client, Server, Turn, client_actions, server_actions}
use Rattle.laws_drivers.specs.control.Touches.{Listens, Touch, had_by, touch_of_leaving, touch_in}
use Rattle.laws_transfers.specs.Actions.{IsAsking}
use Rattle.laws_world.specs.World.{next_listen, port_at}
use Rattle.ftp_server_driver.specs.alone.Side.{server_side}
use Rattle.ftp_pair_memory.specs.streams.Order.{Counted, CountsPorts}
use Rattle.laws_sessions.specs.passive.Kinds.{Does}

-- ---- what tells no port

abbrev pub IsNoPort : Touch → Type 0
IsNoPort (Listens (Some port)) = ⊥
IsNoPort touch = ⊤

-- as many were told as before
pub none_counts : (touch : Touch) (n : ℕ) → IsNoPort touch → CountsPorts touch n n
none_counts (Listens (Some port)) n none = absurd none
none_counts touch n none = refl

pub counts_none : (touch : Touch) (old new : ℕ) → IsNoPort touch → CountsPorts touch old new → new ≡ old
counts_none (Listens (Some port)) old new none counts = absurd none
counts_none touch old new none counts = counts

pub had_no_port : (asked : List Asked) → IsNoPort (had_by asked)
had_no_port (Came host left written ∷ []) = tt
had_no_port (Connected endpoint left written ∷ []) = tt
had_no_port (NotCame ∷ []) = tt
had_no_port (NotConnected endpoint ∷ []) = tt
had_no_port asked = tt

pub left_no_port : (asked : Asked) → IsNoPort (touch_of_leaving asked)
left_no_port (EndedBy left written) = tt
left_no_port (Reset left written) = tt
left_no_port asked = tt

-- a client that dials alone tells none
client_no_port : (action : Action client_side) (at : Held NearEnd) → IsAsking action at → IsNoPort (touch_in action)
client_no_port (Other (Listening port)) at is = absurd is
client_no_port (Other (Opened host asked at_first so_far rest)) at is = had_no_port asked
client_no_port (Other (Refused asked)) at is = had_no_port asked
client_no_port (Other (Left asked)) at is = left_no_port asked
client_no_port action at is = tt

-- ---- ports that were told one after another

-- those that a server told
abbrev AreTold : List (Action server_side) → (told : ℕ) → Type 0
AreTold actions told = (listened_in actions ≡ told) × ArePorts actions

server_told : (action : Action server_side) (before : List (Action server_side)) (mid told : ℕ) → AreTold before mid → CountsPorts (touch_in action) mid told
    → AreTold (action ∷ before) told
server_told (Other (Listening port)) before mid told first counts = (ap next_listen first.0 ∙ sym counts.1, (first.1, counts.0 ∙ ap port_at (sym first.0)))
server_told (Other (Opened host asked at_first so_far rest)) before mid told first counts =
    (first.0 ∙ sym (counts_none (had_by asked) mid told (had_no_port asked) counts), first.1)
server_told (Other (Refused asked)) before mid told first counts = (first.0 ∙ sym (counts_none (had_by asked) mid told (had_no_port asked) counts), first.1)
server_told (Other (Left asked)) before mid told first counts = (first.0 ∙ sym (counts_none (touch_of_leaving asked) mid told (left_no_port asked) counts), first.1)
server_told action before mid told first counts = (first.0 ∙ sym counts, first.1)

server_counts : (action : Action server_side) (before : List (Action server_side)) → ArePorts (action ∷ before)
    → ArePorts before × CountsPorts (touch_in action) (listened_in before) (listened_in (action ∷ before))
server_counts (Other (Listening port)) before ports = (ports.0, (ports.1, refl))
server_counts (Other (Opened host asked at_first so_far rest)) before ports = (ports, none_counts (had_by asked) (listened_in before) (had_no_port asked))
server_counts (Other (Refused asked)) before ports = (ports, none_counts (had_by asked) (listened_in before) (had_no_port asked))
server_counts (Other (Left asked)) before ports = (ports, none_counts (touch_of_leaving asked) (listened_in before) (left_no_port asked))
server_counts action before ports = (ports, refl)

module _ (Keeps : (old new : Held NearEnd) → Type 0) where
  -- where each was the next one, they are those of a world
  pub ports_told : (turns : List Turn) (start now : Stand client_side) (led : Led (client_actions turns) start now)
      → Along (Does IsAsking Keeps) (client_actions turns) start now led → (told : ℕ) → Counted turns 0 told → AreTold (server_actions turns) told
  ports_told [] start now led asks told counted = (sym counted, tt)
  ports_told (Server action ∷ before) start now led asks told counted =
      server_told action (server_actions before) counted.0 told (ports_told before start now led asks counted.0 counted.1) counted.2
  ports_told (Client action ∷ before) start now led asks told counted =
      let first = ports_told before start led.0 led.1 asks.0 counted.0 counted.1 in
      let none = counts_none (touch_in action) counted.0 told (client_no_port action led.0.owner asks.1.0) counted.2 in
      (first.0 ∙ sym none, first.1)

  -- and where they are, each was the next one
  pub ports_counted : (turns : List Turn) (start now : Stand client_side) (led : Led (client_actions turns) start now)
      → Along (Does IsAsking Keeps) (client_actions turns) start now led → ArePorts (server_actions turns) → Counted turns 0 (listened_in (server_actions turns))
  ports_counted [] start now led asks ports = refl
  ports_counted (Server action ∷ before) start now led asks ports =
      let last = server_counts action (server_actions before) ports in
      (listened_in (server_actions before), ports_counted before start now led asks last.0, last.1)
  ports_counted (Client action ∷ before) start now led asks ports =
      let told = listened_in (server_actions before) in
      (told, ports_counted before start led.0 led.1 asks.0 ports, none_counts (touch_in action) told (client_no_port action led.0.owner asks.1.0))
