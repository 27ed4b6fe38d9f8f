-- A data connection in memory as one end has it, and how what that end asks of its ports moves it (RFC 959, section 3.2).
use Rattle.std.specs.Prelude.{◌≡◌, ℕ, Bool, true, false, List, [], ◌∷◌, ◌++◌, Option, None, Some}
use Rattle.ftp_endpoint.specs.declared.host.Host.{Host}
use Rattle.ftp_ports.specs.Asking.{Asked, Came, Connected, Ended, Listened, Lost, NotCame, NotConnected, Reset, Shut}
use Rattle.ftp_ports.specs.Channel.{Channel}
use Rattle.ftp_ports.specs.declared.whole.Fate.{Fate}
use Rattle.ftp_ports.specs.declared.whole.Fate.TheVariants as Fates
use Rattle.laws_drivers.specs.control.Between.{Awaits, Between, Far, Has, Has_ended, Has_lost, Hold, Is_called, IsOver, Near, Ways, Who}
use Rattle.laws_world.specs.World.{next_listen, port_at}

-- How this end stands to its present or last one; the octets that its peer wrote, that were brought here and are still to be read, and those that were written
-- here and not brought to the peer yet; whether the peer closed it after the former; at which port the peer listens, if it does; whether this end dialled
-- there; how many ports were listened at by either end, as far as this one counts them (`next_listen`); and the host at the other end
pub record LinkState : Type 0 where
  pub hold : Hold
  pub came : List ℕ
  pub went : List ℕ
  pub ended : Bool
  pub calls : Option ℕ
  pub dialled : Bool
  pub listens : ℕ
  pub host : Host

-- what stands after the octets that are to be read, and is no octet, while the peer may write more
abbrev pub mark : (ended : Bool) → List ℕ
mark true = []
mark false = 256 ∷ []

-- while the end has it, its octets are with the end
abbrev pub handed : LinkState → LinkState
handed link_state = record link_state { hold = Has; came = []; went = [] }

-- it dialled: nothing came or went over the new one
abbrev pub dialling : LinkState → LinkState
dialling link_state = record link_state { hold = Has; came = []; went = []; ended = false; calls = None; dialled = true }

-- it listens at the next port
abbrev pub listening : LinkState → LinkState
listening link_state = record link_state { hold = Awaits (port_at link_state.listens); listens = next_listen link_state.listens }

-- it left one so, over which so much is still to be read and to be brought on
abbrev pub left_so : Hold → (came went : List ℕ) → LinkState → LinkState
left_so hold came went link_state = record link_state { hold = hold; came = came; went = went }

-- What is asked, when it can be: the next port is listened at by who has none; one comes that was dialled, from the host at the other end; one is opened to the
-- port at which the peer listens; one is left that is had.
abbrev pub Steps : Asked → (old new : LinkState) → Type 0
Steps (Listened None) old new = new ≡ old
Steps (Listened (Some port)) old new = IsOver old.hold × (port ≡ port_at old.listens) × (new ≡ listening old)
Steps (Came host left written) old new =
    (old.hold ≡ Is_called) × (left ≡ Some (old.came ++ mark old.ended)) × (written ≡ Some old.went) × (new ≡ handed old) × (host ≡ old.host)
Steps NotCame old new = new ≡ old
Steps (Connected endpoint left written) old new =
    IsOver old.hold × (old.calls ≡ Some endpoint.port) × (left ≡ Some (mark false)) × (written ≡ Some []) × (new ≡ dialling old)
Steps (NotConnected endpoint) old new = new ≡ old
Steps (Ended left written) old new =
    (came went : List ℕ) × (old.hold ≡ Has) × (left ≡ Some (came ++ mark old.ended)) × (written ≡ Some went) × (new ≡ left_so Has_ended came went old)
Steps (Reset left written) old new =
    (came went : List ℕ) × (old.hold ≡ Has) × (left ≡ Some (came ++ mark old.ended)) × (written ≡ Some went) × (new ≡ left_so Has_lost came went old)
Steps Shut old new = new ≡ old
Steps Lost old new = new ≡ old

-- one after another, the last one first
abbrev pub LinkRan : (first : LinkState) → List Asked → (now : LinkState) → Type 0
LinkRan first [] now = now ≡ first
LinkRan first (asked ∷ before) now = (mid : LinkState) × LinkRan first before mid × Steps asked mid now

-- ---- beside the end

-- it has it, until it is told that it broke
abbrev pub hold_by : Fate → Hold
hold_by Fates.Sound = Has
hold_by Fates.Failed = Has
hold_by Fates.Broken = Has_lost
hold_by Fates.Over = Has

-- of a data connection that stands its ports know that the end has it, and the rest is seen of it; of none they know all
abbrev pub IsSeen : (stands : Bool) → Channel → (known own : LinkState) → Type 0
IsSeen true channel known own =
    (known.hold ≡ Has) × (channel.left ≡ Some (own.came ++ mark known.ended)) × (channel.written ≡ Some own.went)
    × (own ≡ record known { hold = hold_by channel.fate; came = own.came; went = own.went })
IsSeen false channel known own = IsOver known.hold × (own ≡ known)

-- so it is of what is seen of a data connection, that stands or not
abbrev pub IsAtLinkState : Channel → (known own : LinkState) → Type 0
IsAtLinkState channel known own = IsSeen channel.stands channel known own

-- ---- both ends

-- who was dialled: nothing came or went over the new one
abbrev pub called : LinkState → LinkState
called link_state = record link_state { hold = Is_called; came = []; went = []; ended = false }

-- the peer of one that dialled was called
abbrev pub called_by : (dialled : Bool) → LinkState → LinkState
called_by true peer = called peer
called_by false peer = peer

-- what lies between an end and its peer
abbrev pub between_at : Who → (own peer : LinkState) → (control : Ways) → Between
between_at Near own peer control = record {
  control = control;
  data_ways = record { to_server = peer.came ++ own.went; to_client = own.came ++ peer.went };
  near = own.hold;
  far = peer.hold;
}
between_at Far own peer control = record {
  control = control;
  data_ways = record { to_server = own.came ++ peer.went; to_client = peer.came ++ own.went };
  near = peer.hold;
  far = own.hold;
}

-- the same, where the end may have dialled in its turn
abbrev pub between_by : Who → (own peer : LinkState) → (control : Ways) → Between
between_by who own peer control = between_at who own (called_by own.dialled peer) control

-- what an end knows of its peer as its turn begins: the peer listens at that port, and where it ended the data connection, all that it wrote was brought
pub record Knows (own peer : LinkState) : Type 0 where
  pub undialled : own.dialled ≡ false
  pub calls : (port : ℕ) → own.calls ≡ Some port → peer.hold ≡ Awaits port
  pub ended : own.ended ≡ true → (peer.hold ≡ Has_ended) × (peer.went ≡ [])
