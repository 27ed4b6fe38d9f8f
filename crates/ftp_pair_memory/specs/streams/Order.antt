-- An order of actions in which each can happen, as connections in memory have it (RFC 959, section 2.3).
use Rattle.std.specs.Prelude.{◌≡◌, ◌⊎◌, ⊤, ℕ, true, List, [], ◌∷◌, Some}
use Rattle.ftp_endpoint.specs.declared.host.Host.{Host}
use Rattle.ftp_ends.specs.Link.{same_host}
use Rattle.ftp_ports.specs.Actions.{Action}
use Rattle.ftp_ports.specs.Machine.{Machine, side_of}
use Rattle.laws_drivers.specs.control.Between.{Between, Can, Client, Far, Near, IsOver, Server, Turn, Who, hold_of}
use Rattle.laws_drivers.specs.control.Touches.{Accepts, Listens, ToldBreak, Touch, touch_in}
use Rattle.laws_world.specs.World.{next_listen, port_at}

-- It can happen; or an end that has no data connection is told that it broke, where memory was refused or none was had.
abbrev pub CanGo : Who → Touch → (old new : Between) → Type 0
CanGo who touch old new = Can who touch old new ⊎ ((touch ≡ ToldBreak) × IsOver (hold_of who old) × (new ≡ old))

-- actions of one end, the last one first
module _ {end : Machine} where
  -- from here to there, one after another
  abbrev pub WentAlone : Who → List (Action (side_of end)) → (first now : Between) → Type 0
  WentAlone who [] first now = now ≡ first
  WentAlone who (action ∷ before) first now = (mid : Between) × WentAlone who before first mid × CanGo who (touch_in action) mid now

-- actions of both
abbrev pub CanTake : Turn → (old new : Between) → Type 0
CanTake (Server action) old new = CanGo Far (touch_in action) old new
CanTake (Client action) old new = CanGo Near (touch_in action) old new

-- so from here to there
abbrev pub Went : List Turn → (first now : Between) → Type 0
Went [] first now = now ≡ first
Went (turn ∷ before) first now = (mid : Between) × Went before first mid × CanTake turn mid now

-- ---- ports

-- So many ports were told before it and after it: each is the next one of a world, whichever end listens.
abbrev pub CountsPorts : Touch → (old new : ℕ) → Type 0
CountsPorts (Listens (Some port)) old new = (port ≡ port_at old) × (new ≡ next_listen old)
CountsPorts touch old new = new ≡ old

-- actions of one end
module _ {end : Machine} where
  -- from so many to so many, one after another
  abbrev pub CountedAlone : List (Action (side_of end)) → (first now : ℕ) → Type 0
  CountedAlone [] first now = now ≡ first
  CountedAlone (action ∷ before) first now = (mid : ℕ) × CountedAlone before first mid × CountsPorts (touch_in action) mid now

-- actions of both
abbrev pub CountsIn : Turn → (old new : ℕ) → Type 0
CountsIn (Server action) old new = CountsPorts (touch_in action) old new
CountsIn (Client action) old new = CountsPorts (touch_in action) old new

-- so from so many to so many
abbrev pub Counted : List Turn → (first now : ℕ) → Type 0
Counted [] first now = now ≡ first
Counted (turn ∷ before) first now = (mid : ℕ) × Counted before first mid × CountsIn turn mid now

-- ---- who comes

-- An end accepts none but the host that it has at its other end.
abbrev pub ComesFrom : (other : Host) → Touch → Type 0
ComesFrom other (Accepts host) = same_host host other ≡ true
ComesFrom other touch = ⊤

-- actions of one end
module _ {end : Machine} where
  -- who came in each is this host
  abbrev pub CameAlone : (other : Host) → List (Action (side_of end)) → Type 0
  CameAlone other [] = ⊤
  CameAlone other (action ∷ before) = CameAlone other before × ComesFrom other (touch_in action)

-- the host at the other end, as the client has it, and as the server has it
pub record Hosts : Type 0 where
  pub near : Host
  pub far : Host

-- actions of both
abbrev pub AllCame : Hosts → List Turn → Type 0
AllCame hosts [] = ⊤
AllCame hosts (Server action ∷ before) = AllCame hosts before × ComesFrom hosts.far (touch_in action)
AllCame hosts (Client action ∷ before) = AllCame hosts before × ComesFrom hosts.near (touch_in action)
