-- What a world has still to do before nothing is in flight, as five numbers: each delivery, opening and end that is possible lowers the
-- first of them that it changes, and so settling ends.
use Rattle.std.specs.Prelude.{ℕ, ◌+◌, ◌<◌, ◌≡◌, ◌⊎◌, length}
use Rattle.ftp_client_model.specs.Bounds as near_left
use Rattle.ftp_client_model.specs.Calls as near
use Rattle.ftp_server_model.specs.Bounds as far_left
use Rattle.ftp_server_model.specs.Calls as far
use Rattle.laws_world.specs.World.{World, Control, Parted, Link, ClosedByNear, ClosedByFar}

-- what is still to begin at the client; octets, closes and ends that are still to reach the server; what is still to begin at the server;
-- what is still to reach the client; and the octets that stand in no queue yet
pub record Left : Type 0 where
  pub at_client : ℕ
  pub to_server : ℕ
  pub at_server : ℕ
  pub to_client : ℕ
  pub unqueued : ℕ

-- ---- ends of the two connections that somebody is still to be told of

-- while an end has not left the control connection, its leaving is still to come
abbrev pub control_ends : Control → ℕ
control_ends Parted = 0
control_ends control = 1

-- the client has closed the link, and the server was not told
abbrev pub ends_to_server : Link → ℕ
ends_to_server ClosedByNear = 1
ends_to_server link = 0

-- the server has closed it, and the client was not told
abbrev pub ends_to_client : Link → ℕ
ends_to_client ClosedByFar = 1
ends_to_client link = 0

-- ---- the numbers

-- what is in the queues, what the client gives if it takes nothing more (a close, and that of an open link, are one each), and ends
abbrev pub reaching_server : World → ℕ
reaching_server w =
    length w.control_to_server + length w.data_to_server + near_left.still_to_give w.near + ends_to_server w.link + control_ends w.control

-- the same of the server
abbrev pub reaching_client : World → ℕ
reaching_client w =
    length w.control_to_client + length w.data_to_client + far_left.still_to_give w.far + ends_to_client w.link + control_ends w.control

-- what both ends owe
abbrev pub unqueued_in : World → ℕ
unqueued_in w = length w.near.owed + length w.far.owed + length (near.to_give w.near) + length (far.to_give w.far)

-- all five
abbrev pub left_in : World → Left
left_in w = record {
  at_client = near_left.to_begin w.near;
  to_server = reaching_server w;
  at_server = far_left.to_begin w.far;
  to_client = reaching_client w;
  unqueued = unqueued_in w;
}

-- the first number that differs is less: the last two
abbrev pub FallsLast : (new old : Left) → Type 0
FallsLast new old = (new.to_client < old.to_client) ⊎ ((new.to_client ≡ old.to_client) × (new.unqueued < old.unqueued))

-- the last three
abbrev pub FallsBehind : (new old : Left) → Type 0
FallsBehind new old = (new.at_server < old.at_server) ⊎ ((new.at_server ≡ old.at_server) × FallsLast new old)

-- all but the first
abbrev pub FallsAtServer : (new old : Left) → Type 0
FallsAtServer new old = (new.to_server < old.to_server) ⊎ ((new.to_server ≡ old.to_server) × FallsBehind new old)

-- all
abbrev pub Falls : (new old : Left) → Type 0
Falls new old = (new.at_client < old.at_client) ⊎ ((new.at_client ≡ old.at_client) × FallsAtServer new old)
