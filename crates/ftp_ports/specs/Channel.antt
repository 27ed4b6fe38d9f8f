-- What an end sees of its data connection, and how that moves (RFC 959, section 3.2).
use Rattle.std.specs.Prelude.{◌≡◌, ◌⊎◌, ◌<◌, ℕ, Bool, true, false, List, [], ◌∷◌, ◌++◌, length, Option, None}
use Rattle.std.specs.Option.{is_some}
use Rattle.std.specs.Io.KnownBytes.{Appends, Consumes, IsAtEnd, Keeps}
use Rattle.ftp_endpoint.specs.declared.host.Host.{Host}
use Rattle.ftp_endpoint.specs.declared.endpoint.Endpoint.{Endpoint}
use Rattle.ftp_ports.specs.Asking.{Asked, Came, Connected, Ended, Reset, Shut, Adds, told_lost}
use Rattle.ftp_ports.specs.Carrying.{carried_of, left_of, on_their_way}
use Rattle.ftp_ports.specs.declared.data.DataConnection.{DataConnection}
use Rattle.ftp_ports.specs.declared.whole.Fate.{Fate}
use Rattle.ftp_ports.specs.declared.whole.Fate.TheVariants.{Sound, Failed, Broken, Over}
use Rattle.ftp_ports.specs.declared.whole.Rest.{Rest}
use Rattle.ftp_ports.specs.declared.whole.Rest.TheVariants.{Nothing, More}

-- whether one stands, and what became of it; whether this end had more to give for it when it gave last, when it was opened, or when it was heard or
-- cut off since; what is left to be read of it and what was written to it, where its stream tells that; the octets that this end gave and that are not written yet; those that were
-- read and that this end was not told; what was asked of whatever opens and closes it
pub record Channel : Type 0 where
  pub stands : Bool
  pub fate : Fate
  pub rest : Rest
  pub left : Option (List ℕ)
  pub written : Option (List ℕ)
  pub unwritten : List ℕ
  pub untold : List ℕ
  pub asked : Option (List Asked)

-- of values of the program: the room has the octets that are on their way, and those that were read and not told are in hand
abbrev pub channel_of : {S : Type 0} → (remaining contents : S → Option (List ℕ)) → Option (List Asked) → DataConnection S → (room untold : List ℕ) → Channel
channel_of remaining contents asked connection room untold = record {
  stands = is_some connection.stream;
  fate = connection.fate;
  rest = connection.rest;
  left = left_of remaining connection;
  written = carried_of contents connection;
  unwritten = on_their_way connection room;
  untold = untold;
  asked = asked;
}

-- none stands
abbrev pub no_channel : Option (List Asked) → Channel
no_channel asked = record { stands = false; fate = Sound; rest = Nothing; left = None; written = None; unwritten = []; untold = []; asked = asked }

-- what is not told is this
abbrev pub with_untold : List ℕ → Channel → Channel
with_untold untold channel = record channel { untold = untold }

-- this end gave these, too, and has more or not
abbrev pub with_given : List ℕ → Rest → Channel → Channel
with_given octets rest channel = record channel { rest = rest; unwritten = channel.unwritten ++ octets }

-- this end has more for it, or not
abbrev pub with_rest : Rest → Channel → Channel
with_rest rest channel = record channel { rest = rest }

-- this became of it
abbrev pub with_fate : Fate → Channel → Channel
with_fate fate channel = record channel { fate = fate }

-- one stands, and octets may come and go
abbrev pub IsOpen : Channel → Type 0
IsOpen channel = (channel.stands ≡ true) × (channel.fate ≡ Sound)

-- this was asked
abbrev pub with_asked : Option (List Asked) → Channel → Channel
with_asked asked channel = record channel { asked = asked }

-- so much is left to be read of it, and so much was written
abbrev pub with_ends : (left written : Option (List ℕ)) → Channel → Channel
with_ends left written channel = record channel { left = left; written = written }

-- how it moves
pub data Move : Type 0 where
  -- not at all
  Stays : Move
  -- it is waited at, and that told that the control connection ended, or not
  Waits : (lost : Bool) → Move
  -- these are read; none where that fails, or at its end
  Reads : (octets : List ℕ) → Move
  -- these are written, the first of those that are not yet
  Writes : (octets : List ℕ) → Move
  -- this end gives these for it, and then has more or not
  Gives : (octets : List ℕ) → (rest : Rest) → Move
  -- it is seen whether this end has more for it
  Notes : Move
  -- this end is told of these, the first of those that were read and not told; or they are let go
  Takes : (octets : List ℕ) → Move
  -- a read or a write of it failed
  Fails : Move
  -- this end is told that it ended, or that it broke
  Ends : Move
  Breaks : Move
  -- this end is told that none stands
  Stops : Move
  -- these are asked, and none is opened or closed
  Asks : (asked : List Asked) → Move
  -- one is opened, with this host at its other end, of which so much is left and so much was written, and for which this end has more or not
  Opens : (host : Host) → (asked : List Asked) → (left written : Option (List ℕ)) → (rest : Rest) → Move
  -- it is closed or reset, or where none stands the port alone is closed
  Leaves : (asked : Asked) → Move

-- what is not read, written, opened or closed stays
pub record HoldsChannel (old new : Channel) : Type 0 where
  pub stands : new.stands ≡ old.stands
  pub fate : new.fate ≡ old.fate
  pub rest : new.rest ≡ old.rest
  pub unwritten : new.unwritten ≡ old.unwritten
  pub untold : new.untold ≡ old.untold

pub record IsWaited (lost : Bool) (old new : Channel) : Type 0 where
  pub holds : HoldsChannel old new
  pub left : Keeps old.left new.left
  pub written : Keeps old.written new.written
  pub asked : Adds old.asked new.asked (told_lost lost)

-- where one is open, and all that were read before are told
pub record IsRead (octets : List ℕ) (old new : Channel) : Type 0 where
  pub is_open : IsOpen old
  pub stands : new.stands ≡ old.stands
  pub fate : new.fate ≡ old.fate
  pub rest : new.rest ≡ old.rest
  pub told : old.untold ≡ []
  pub read : Consumes old.left new.left octets
  pub written : Keeps old.written new.written
  pub untold : new.untold ≡ octets
  pub unwritten : new.unwritten ≡ old.unwritten
  pub asked : new.asked ≡ old.asked

-- where one is open, and octets are to be written
pub record AreOctetsWritten (octets : List ℕ) (old new : Channel) : Type 0 where
  pub is_open : IsOpen old
  pub some : 0 < length old.unwritten
  pub stands : new.stands ≡ old.stands
  pub fate : new.fate ≡ old.fate
  pub rest : new.rest ≡ old.rest
  pub first : old.unwritten ≡ octets ++ new.unwritten
  pub wrote : Appends old.written new.written octets
  pub left : Keeps old.left new.left
  pub untold : new.untold ≡ old.untold
  pub asked : new.asked ≡ old.asked

-- a data connection is had by waiting for it or by opening it, with this host at its other end
abbrev pub IsHad : Host → Asked → (left written : Option (List ℕ)) → Type 0
IsHad host asked left written =
    (asked ≡ Came host left written) ⊎ ((endpoint : Endpoint) × (asked ≡ Connected endpoint left written) × (host ≡ endpoint.host))

-- where none stands
pub record IsOpened (host : Host) (asked : List Asked) (at_first so_far : Option (List ℕ)) (rest : Rest) (old new : Channel) : Type 0 where
  pub had : Asked
  pub is_had : IsHad host had at_first so_far
  pub none : old.stands ≡ false
  pub alone : asked ≡ had ∷ []
  pub adds : Adds old.asked new.asked asked
  pub stands : new.stands ≡ true
  pub fate : new.fate ≡ Sound
  pub rests : new.rest ≡ rest
  pub left : new.left ≡ at_first
  pub written : new.written ≡ so_far
  pub unwritten : new.unwritten ≡ []
  pub untold : new.untold ≡ []

-- by an end only where all that was given is written
abbrev pub IsEnded : (stands : Bool) → (left written : Option (List ℕ)) → (unwritten : List ℕ) → Asked → Type 0
IsEnded true left written unwritten asked = ((unwritten ≡ []) × (asked ≡ Ended left written)) ⊎ (asked ≡ Reset left written)
IsEnded false left written unwritten asked = asked ≡ Shut

pub record IsLeft (asked : Asked) (old new : Channel) : Type 0 where
  pub ended : IsEnded old.stands old.left old.written old.unwritten asked
  pub adds : Adds old.asked new.asked (asked ∷ [])
  pub stands : new.stands ≡ false
  pub fate : new.fate ≡ Sound
  pub rest : new.rest ≡ Nothing
  pub unwritten : new.unwritten ≡ []
  pub untold : new.untold ≡ []

abbrev pub MovesChannel : Move → (old new : Channel) → Type 0
MovesChannel Stays old new = new ≡ old
MovesChannel (Waits lost) old new = IsWaited lost old new
MovesChannel (Reads octets) old new = IsRead octets old new
MovesChannel (Writes octets) old new = AreOctetsWritten octets old new
MovesChannel (Gives octets rest) old new = (new ≡ with_given octets rest old) × IsOpen old
MovesChannel Notes old new = new ≡ with_rest new.rest old
MovesChannel (Takes octets) old new = (old.untold ≡ octets ++ new.untold) × (new ≡ with_untold new.untold old)
MovesChannel Fails old new = (new ≡ with_fate Failed old) × IsOpen old
MovesChannel Ends old new = (new ≡ with_fate Over old) × IsOpen old × IsAtEnd old.left × (old.untold ≡ [])
MovesChannel Breaks old new = new ≡ with_fate Broken old
MovesChannel Stops old new = (new ≡ old) × (old.stands ≡ false)
MovesChannel (Asks asked) old new = Adds old.asked new.asked asked × (new ≡ with_asked new.asked old)
MovesChannel (Opens host asked left written rest) old new = IsOpened host asked left written rest old new
MovesChannel (Leaves asked) old new = IsLeft asked old new
