-- Several sessions over one map: one history of single calls (own choice).
use Rattle.std.specs.Prelude.{◌≡◌, ℕ, eqb, Bool, true, false, List, [], ◌∷◌, Option, Some, None, slice_get, slice_set, if◌then◌else◌}
use Rattle.ftp_tree.specs.Tree.{Table}
use Rattle.ftp_server_model.specs.Standing.{overtaken_unless, standing_of, still_stands}
use Rattle.ftp_server_model.specs.View.{View}
use Rattle.ftp_server_model.specs.declared.session.Standing.{Standing}
use Rattle.ftp_server_model.specs.Machine.{Reading}
use Rattle.ftp_server_model.specs.Play.{Cue, Gift, Nothing, call}

-- a view with another map: what is still to be given of a download or a listing, what came of an upload, what is pending, and all else stays
abbrev pub exchanged : Table → View → View
exchanged table v = record v { session = record v.session { table = table } }

-- a session between two of its calls: the map in its own view is of no matter; and what stood at the path of its upload after the last of them
pub record Slot : Type 0 where
  pub view : View
  pub stood : Option Standing

-- The view of a call, which has the map that stands. Where others changed what stands at the path of an upload that is under way, the upload is overtaken:
-- nothing is put there unless it comes whole
abbrev pub lent_as : (stood : Option Standing) → View → View
lent_as stood v =
    record v { session = record v.session { connection = overtaken_unless (still_stands stood (standing_of v.session)) v.session.connection } }

abbrev pub lent_to : Table → Slot → View
lent_to table one = lent_as one.stood (exchanged table one.view)

-- what a call leaves of a session in its slot
abbrev pub in_slot_again : (own : Table) → View → Slot
in_slot_again own v = record { view = exchanged own v; stood = standing_of v.session }

-- the map that stands, and the sessions, each in its slot
pub record Several : Type 0 where
  pub table : Table
  pub slots : List Slot

-- a call of the session in a slot
pub record Turn : Type 0 where
  pub slot : ℕ
  pub cue : Cue

-- it is made with the map that stands, and the map that it leaves stands from then on
abbrev pub called_as : Reading → ℕ → Cue → Option Slot → Several → Gift × Several
called_as read slot cue None s = (Nothing, s)
called_as read slot cue (Some sits) s =
    let one = call read cue (lent_to s.table sits) in
    (one.0, record { table = one.1.session.table; slots = slice_set s.slots slot (in_slot_again sits.view.session.table one.1) })

abbrev pub called : Reading → Turn → Several → Gift × Several
called read turn s = called_as read turn.slot turn.cue (slice_get s.slots turn.slot) s

-- ---- turns in order

-- what stands after them
unfoldable pub left_by_all : Reading → List Turn → Several → Several
left_by_all read [] s = s
left_by_all read (turn ∷ turns) s = left_by_all read turns (called read turn s).1

-- what the session in a slot is given
unfoldable pub given_to : Reading → ℕ → List Turn → Several → List Gift
given_to read slot [] s = []
given_to read slot (turn ∷ turns) s =
    if eqb turn.slot slot then (called read turn s).0 ∷ given_to read slot turns (called read turn s).1
    else given_to read slot turns (called read turn s).1

-- its calls, each with the map that stands then
unfoldable pub calls_of : Reading → ℕ → List Turn → Several → List (Table × Cue)
calls_of read slot [] s = []
calls_of read slot (turn ∷ turns) s =
    if eqb turn.slot slot then (s.table, turn.cue) ∷ calls_of read slot turns (called read turn s).1
    else calls_of read slot turns (called read turn s).1

-- what a server of its own gives to these calls, whose map is exchanged before each
unfoldable pub played_on : Reading → List (Table × Cue) → Slot → List Gift
played_on read [] sits = []
played_on read (one ∷ more) sits =
    (call read one.1 (lent_to one.0 sits)).0
    ∷ played_on read more (in_slot_again sits.view.session.table (call read one.1 (lent_to one.0 sits)).1)

-- ---- the laws

-- each session of several is the server of the definitions, whose map others change between two of its calls
abbrev pub EachIsServer : Type 0
EachIsServer =
    (read : Reading) (turns : List Turn) (s : Several) (slot : ℕ) (sits : Slot) → slice_get s.slots slot ≡ Some sits
    → given_to read slot turns s ≡ played_on read (calls_of read slot turns s) sits

-- turns in order are one history: whichever the sessions are, the map after the first is that before the second
abbrev pub MapsFollow : Type 0
MapsFollow =
    (read : Reading) (turn : Turn) (s : Several) (sits : Slot) → slice_get s.slots turn.slot ≡ Some sits
    → (called read turn s).1.table ≡ (call read turn.cue (lent_to s.table sits)).1.session.table
