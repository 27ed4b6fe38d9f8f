-- What is done with an end beside its control connection, one action after another (RFC 959, section 2.3).
use Rattle.std.specs.Prelude.{◌≡◌, ℕ, ◌+◌, true, List, [], ◌∷◌, ◌++◌, Option}
use Rattle.std.specs.Io.KnownBytes.{Appends, Consumes, IsAtEnd}
use Rattle.ftp_ports.specs.Side.{Side}
use Rattle.ftp_ports.specs.Unheard.{Source}

-- an end beside its control connection: what is left to be read of it and whether a read found its end, what was read and is not heard yet, and
-- what was written to it, where a reader or a writer tells that
pub record Stand (side : Side) : Type 0 where
  pub owner : side.End
  pub left : Source
  pub unheard : List ℕ
  pub written : Option (List ℕ)

-- what is done
pub data Action (side : Side) : Type 0 where
  Heard : (octets : List ℕ) → Action side
  Said : (octets : List ℕ) → Action side
  Read : (octets : List ℕ) → Action side
  Ended : Action side
  Other : (call : side.Call) → Action side

-- 1 where there are any
abbrev pub some_of : List ℕ → ℕ
some_of [] = 0
some_of (octet ∷ octets) = 1

module _ {side : Side} where
  -- the end alone is another
  abbrev pub with_owner : side.End → Stand side → Stand side
  with_owner owner stand = record stand { owner = owner }

  -- a call that moves no control octets leaves the control connection as it was
  abbrev pub Calls : side.Call → (old new : Stand side) → Type 0
  Calls call old new = side.Called call old.owner new.owner × (new ≡ with_owner new.owner old)

  -- it hears the first octets of those that were read
  pub record HearsNext (octets : List ℕ) (old new : Stand side) : Type 0 where
    pub hears : side.Hears octets old.unheard old.owner new.owner
    pub next : old.unheard ≡ octets ++ new.unheard
    pub left : new.left ≡ old.left
    pub written : new.written ≡ old.written

  -- octets that it gives are written
  pub record Says (octets : List ℕ) (old new : Stand side) : Type 0 where
    pub gives : side.Gives octets old.owner new.owner
    pub wrote : Appends old.written new.written octets
    pub left : new.left ≡ old.left
    pub unheard : new.unheard ≡ old.unheard

  -- where that is due and all octets were heard, the next ones are read
  pub record ReadsNext (octets : List ℕ) (old new : Stand side) : Type 0 where
    pub due : side.IsReadDue old.owner
    pub owner : new.owner ≡ old.owner
    pub heard : old.unheard ≡ []
    pub read : Consumes old.left.octets new.left.octets octets
    pub ended : new.left.ended ≡ old.left.ended
    pub unheard : new.unheard ≡ octets
    pub written : new.written ≡ old.written

  -- where a read is due and all octets were heard, it finds none: the end is told that the control connection ended
  pub record EndsHere (old new : Stand side) : Type 0 where
    pub due : side.IsReadDue old.owner
    pub heard : old.unheard ≡ []
    pub read : Consumes old.left.octets new.left.octets []
    pub last : IsAtEnd new.left.octets
    pub ended : new.left.ended ≡ true
    pub cut : side.IsCut old.owner new.owner
    pub unheard : new.unheard ≡ []
    pub written : new.written ≡ old.written

  abbrev pub Done : Action side → (old new : Stand side) → Type 0
  Done (Heard octets) old new = HearsNext octets old new
  Done (Said octets) old new = Says octets old new
  Done (Read octets) old new = ReadsNext octets old new
  Done Ended old new = EndsHere old new
  Done (Other call) old new = Calls call old new

  -- actions, the last one first, and where they led
  abbrev pub Led : List (Action side) → (start now : Stand side) → Type 0
  Led [] start now = now ≡ start
  Led (action ∷ before) start now = (mid : Stand side) × Led before start mid × Done action mid now

  -- by an action a drive gets on: octets are heard, said or read, or something of its data connection is done; not that the end is asked what it owes
  abbrev pub step_by : Action side → ℕ
  step_by (Heard octets) = some_of octets
  step_by (Said octets) = some_of octets
  step_by (Read octets) = 1
  step_by Ended = 1
  step_by (Other call) = side.step call

  -- how many of them
  abbrev pub steps_in : List (Action side) → ℕ
  steps_in [] = 0
  steps_in (action ∷ before) = step_by action + steps_in before

  -- the control octets that were heard in an action, said, and read
  abbrev pub heard_by : Action side → List ℕ
  heard_by (Heard octets) = octets
  heard_by other = []

  abbrev pub said_by : Action side → List ℕ
  said_by (Said octets) = octets
  said_by other = []

  abbrev pub read_by : Action side → List ℕ
  read_by (Read octets) = octets
  read_by other = []

  -- in actions
  abbrev pub heard_in : List (Action side) → List ℕ
  heard_in [] = []
  heard_in (action ∷ before) = heard_in before ++ heard_by action

  abbrev pub said_in : List (Action side) → List ℕ
  said_in [] = []
  said_in (action ∷ before) = said_in before ++ said_by action

  abbrev pub read_in : List (Action side) → List ℕ
  read_in [] = []
  read_in (action ∷ before) = read_in before ++ read_by action
