-- An operation without a transfer: what both ends hold while it is under way, and what it leads to. No data connection stands or is
-- wanted.
use Rattle.std.specs.Prelude.{◌≡◌, ◌⊎◌, ℕ, ◌≤◌, Bool, true, false, List, length, Some, None, IsTrue, IsSome}
use Rattle.std.specs.List.{list_all}
use Rattle.ftp_endpoint.specs.Written.{IsTypedHost}
use Rattle.ftp_ends.specs.Link.{is_v6}
use Rattle.ftp_operation.specs.Answer.{Said}
use Rattle.ftp_operation.specs.declared.op.Op.{Op}
use Rattle.ftp_path.specs.Path.{Names, is_name}
use Rattle.ftp_direct.specs.Direct.{State, part}
use Rattle.ftp_tree.specs.Sound.{last_second}
use Rattle.ftp_tree.specs.Tree.{Table, IsTree, node_at, most_octets}
use Rattle.ftp_tree.specs.Map.{Dir, File}
use Rattle.ftp_client_model.specs.Calls.{is_sound, is_busy_job, report_of}
use Rattle.ftp_client_model.specs.Plan.{how_of}
use Rattle.ftp_client_model.specs.View.{View as Near, Idle, Doing, Told}
use Rattle.ftp_client_model.specs.declared.client.ClientLink.TheVariants as NearData
use Rattle.ftp_client_model.specs.declared.client.Standing.TheVariants as Standings
use Rattle.ftp_client_model.specs.declared.client.Step.{Step}
use Rattle.ftp_server_model.specs.Act.{is_in}
use Rattle.ftp_server_model.specs.View.{View as Far, Session, Transfer, all_facts}
use Rattle.ftp_server_model.specs.declared.session.ServerLink.{ServerLink}
use Rattle.ftp_server_model.specs.declared.session.ServerLink.TheVariants as FarData
use Rattle.ftp_server_model.specs.declared.session.Life.TheVariants as Lives
use Rattle.ftp_server_model.specs.Told.{is_path}

-- ---- both ends where no data connection is under way

-- the client wants nothing
pub record NearWaits (n : Near) : Type 0 where
  pub sound : is_sound n.standing ≡ true
  pub connection : n.connection ≡ NearData.Free
  pub closing : n.closing ≡ false

-- no endpoint is set, or one that no transfer was asked for, or a port is listened at that nobody will open
abbrev pub is_set_aside : ServerLink Transfer → Bool
is_set_aside FarData.Free = true
is_set_aside (FarData.Active endpoint) = true
is_set_aside FarData.Passive = true
is_set_aside other = false

-- a line may be acted on at once
pub record FarWaits (f : Far) : Type 0 where
  pub aside : is_set_aside f.session.connection ≡ true
  pub closing : f.session.closing ≡ false
  pub life : f.session.life ≡ Lives.Running

-- the session is what the direct run sees
pub record Sees (state : State) (s : Session) : Type 0 where
  pub table : s.table ≡ state.table
  pub known : is_in s.access ≡ state.known
  pub root : state.known ≡ true → s.root ≡ state.root
  pub rights : state.known ≡ true → s.rights ≡ state.rights
  pub cwd : s.cwd ≡ state.cwd

-- ---- along the way, and at its end

-- nothing is wanted, and the map is that before the operation or that after it
pub record Passes (before after : Table) (n : Near) (f : Far) : Type 0 where
  pub near : NearWaits n
  pub far : FarWaits f
  pub busy : is_busy_job n.job ≡ true
  pub untold : report_of n ≡ None
  pub table : (f.session.table ≡ before) ⊎ (f.session.table ≡ after)

-- a client that has entered, and has told this or waits for its next operation
abbrev pub told : Said → Near → Near
told said n = record n { standing = Standings.Entered; job = Told said; run = None; connection = NearData.Free; closing = false }

abbrev pub resting : Near → Near
resting n = record n { standing = Standings.Entered; job = Idle; run = None; connection = NearData.Free; closing = false }

-- a client at a step of an operation
abbrev pub doing : Op (List ℕ) → Step → Near → Near
doing op step n = record n { standing = Standings.Entered; job = Doing op step; run = None; connection = NearData.Free; closing = false }

-- each end is the other's peer, both are of one family, and EPSV ALL was never sent
pub record ArePeersOfOneFamily (n : Near) (f : Far) : Type 0 where
  pub peer : n.peer ≡ f.context.here
  pub here : n.here ≡ f.context.peer
  pub typed : IsTypedHost f.context.here
  pub own : IsTypedHost n.here
  pub family : is_v6 n.here ≡ is_v6 n.peer
  pub all_ways : f.session.only_extended ≡ false

-- the server is in this state, with all facts in force, and the client knows its settings
pub record Stands (state : State) (n : Near) (f : Far) : Type 0 where
  pub meets : ArePeersOfOneFamily n f
  pub far : FarWaits f
  pub sees : Sees state f.session
  pub settings : f.session.settings ≡ n.settings
  pub facts : f.session.facts ≡ all_facts

-- the operation has this answer, and the server is in this state
pub record Ends (result : Said × State) (n : Near) (f : Far) : Type 0 where
  pub near : n ≡ told result.0 n
  pub stands : Stands result.1 n f

-- ---- states that a session can come to

-- a file has a moment, and no more octets than a map may have
abbrev pub IsFine : List ℕ → ℕ → Type 0
IsFine octets moment = (moment ≤ last_second) × (length octets ≤ most_octets)

-- the current directory is a path at which a directory stands, and what the account sees is a tree of names and of such files
pub record IsSound (state : State) : Type 0 where
  pub cwd : IsTrue (is_path state.cwd)
  pub here : state.known ≡ true → node_at (part state) state.cwd ≡ Some Dir
  pub tree : state.known ≡ true → IsTree (part state)
  pub files : (path : Names) (octets : List ℕ) (moment : ℕ) → node_at (part state) path ≡ Some (File octets moment) → IsFine octets moment
  pub names : (path : Names) → IsSome (node_at (part state) path) → IsTrue (list_all is_name path)

-- ---- the operations

-- an operation asks for no data connection
abbrev pub HasNoTransfer : Op (List ℕ) → Type 0
HasNoTransfer op = how_of op ≡ None
