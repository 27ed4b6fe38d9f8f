-- A list of calls of a server, what each of them gives, and what an account's root keeps apart (own choices). The octet calls move as
-- many octets as they may, so that what they give is a function of the view.
use Rattle.std.specs.Prelude.{◌≡◌, ℕ, suc, true, false, min, List, [], ◌∷◌, length, take, if◌then◌else◌}
use Rattle.std.specs.FinMap as fin
use Rattle.ftp_endpoint.specs.declared.host.Host.{Host}
use Rattle.ftp_path.specs.Path.{Names, is_within}
use Rattle.ftp_tree.specs.Tree.{Table, default_limits, node_at, under, with_part}
use Rattle.ftp_ends.specs.declared.link.Wants.{Wants}
use Rattle.ftp_server_model.specs.View.{Accounts, View}
use Rattle.ftp_server_model.specs.Act.{is_in}
use Rattle.ftp_server_model.specs.Machine.{Reading, IsReading, hears_octet, hears, may_hear}
use Rattle.ftp_server_model.specs.Calls.{start, clocked, gives_control, control_end, listening, listen_refused, data_opened, data_refused, receives_octet, receives, may_receive, to_give, gives_data, data_end, data_fault, data_closed, wants}

-- a call of a server, with its values: octets that are offered, or how much room there is for octets
pub data Cue : Type 0 where
  Clock : (moment : ℕ) → Cue
  Hear : (octets : List ℕ) → Cue
  ControlOut : (room : ℕ) → Cue
  ControlEnd : Cue
  Listening : (port : ℕ) → Cue
  DataOpened : (host : Host) → Cue
  DataHear : (octets : List ℕ) → Cue
  DataOut : (room : ℕ) → Cue
  ListenRefused DataRefused DataEnd DataFault DataClosed : Cue
  AsksWants : Cue

-- what a call gives: how many octets it took, octets, or what the server wants
pub data Gift : Type 0 where
  Nothing : Gift
  Took : (count : ℕ) → Gift
  Octets : (octets : List ℕ) → Gift
  Wanted : (wants : Wants) → Gift

-- how many of these control octets may be taken, each after those before it
abbrev pub most_heard : Reading → View → List ℕ → ℕ
most_heard read v [] = 0
most_heard read v (octet ∷ octets) = if may_hear v then suc (most_heard read (hears_octet read v octet) octets) else 0

-- how many of these data octets may be taken
abbrev pub most_received : View → List ℕ → ℕ
most_received v [] = 0
most_received v (octet ∷ octets) = if may_receive v then suc (most_received (receives_octet v octet) octets) else 0

-- so many octets as there is room for, and not more than there are
abbrev pub most_given : ℕ → List ℕ → ℕ
most_given room octets = min room (length octets)

-- one call: what it gives, and the view after it
abbrev pub call : Reading → Cue → View → Gift × View
call read (Clock moment) v = (Nothing, clocked moment v)
call read (Hear octets) v = (Took (most_heard read v octets), hears read v (take (most_heard read v octets) octets))
call read (ControlOut room) v = (Octets (take room v.owed), gives_control (most_given room v.owed) v)
call read ControlEnd v = (Nothing, control_end v)
call read (Listening port) v = (Nothing, listening port v)
call read ListenRefused v = (Nothing, listen_refused v)
call read (DataOpened host) v = (Nothing, data_opened host v)
call read DataRefused v = (Nothing, data_refused v)
call read (DataHear octets) v = (Took (most_received v octets), receives v (take (most_received v octets) octets))
call read (DataOut room) v = (Octets (take room (to_give v)), gives_data (most_given room (to_give v)) v)
call read DataEnd v = (Nothing, data_end v)
call read DataFault v = (Nothing, data_fault v)
call read DataClosed v = (Nothing, data_closed v)
call read AsksWants v = (Wanted (wants v), v)

-- calls in order, and what they give
unfoldable pub played : Reading → List Cue → View → List Gift
played read [] v = []
played read (cue ∷ cues) v = (call read cue v).0 ∷ played read cues (call read cue v).1

-- the view after them
unfoldable pub left_by : Reading → List Cue → View → View
left_by read [] v = v
left_by read (cue ∷ cues) v = left_by read cues (call read cue v).1

-- ---- a view at a root

-- a map at whose paths nothing stands; nobody asks its limits
abbrev pub no_nodes : Table
no_nodes = record { limits = default_limits; map = fin.empty }

-- of a map what stands at and below a root, in its place and within its limits; elsewhere nothing stands
abbrev pub only_at : Names → Table → Table
only_at root table = with_part no_nodes root (under table root)

-- all that a server holds, but of the map only that: a login to a root elsewhere finds no directory, and is refused
abbrev pub at_root : Names → View → View
at_root root v = record v { session = record v.session { table = only_at root v.session.table } }

-- what calls give of a view at a root
abbrev pub gives_at : Reading → Names → List Cue → View → List Gift
gives_at read root cues v = played read cues (at_root root v)

-- ---- what an account's root keeps apart

-- who is logged in has this root
abbrev pub IsAt : Names → View → Type 0
IsAt root v = is_in v.session.access ≡ true → v.session.root ≡ root

-- so it is after each of these control octets
abbrev pub HearsAt : Reading → Names → View → List ℕ → Type 0
HearsAt read root v [] = IsAt root v
HearsAt read root v (octet ∷ octets) = IsAt root (hears_octet read v octet) × HearsAt read root (hears_octet read v octet) octets

-- so it is after a call, and after each octet that it heard
abbrev pub CallIsAt : Reading → Names → Cue → View → Type 0
CallIsAt read root (Hear octets) v = HearsAt read root v (take (most_heard read v octets) octets)
CallIsAt read root cue v = IsAt root (call read cue v).1

-- each login that succeeds in these calls is to an account with this root
abbrev pub LogsInAt : Reading → Names → List Cue → View → Type 0
LogsInAt read root [] v = Unit {0}
LogsInAt read root (cue ∷ cues) v = CallIsAt read root cue v × LogsInAt read root cues (call read cue v).1

-- no path outside of the root changed, and what the calls gave is what they give at the root: so maps that are alike at and below it
-- give the same octets and the same wants
pub record IsApart (read : Reading) (root : Names) (cues : List Cue) (v : View) : Type 0 where
  pub outside : (path : Names) → is_within root path ≡ false → node_at (left_by read cues v).session.table path ≡ node_at v.session.table path
  pub gives : played read cues v ≡ gives_at read root cues v

-- account roots: of whatever map, accounts and calls, hostile octets too, where each login that succeeds is to this root
abbrev pub RootsAreApart : Type 0
RootsAreApart =
    (read : Reading) (table : Table) (accounts : Accounts) (here peer : Host) (root : Names) (cues : List Cue)
    → IsReading read → LogsInAt read root cues (start table accounts here peer) → IsApart read root cues (start table accounts here peer)
