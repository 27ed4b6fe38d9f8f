-- How a session that is held is seen by the definitions of the server.
use Rattle.std.specs.Prelude.{◌≡◌, ◌≢◌, ℕ, Bool, true, false, Result, Ok, Err}
use Rattle.ftp_path.specs.Path.{Names}
use Rattle.ftp_tree.specs.Change.{Failures, IsSteady, NoStray}
use Rattle.ftp_tree.specs.Tree.{Table}
use Rattle.ftp_tree.specs.declared.fault.TreeFault.{TreeFault}
use Rattle.ftp_tree.specs.declared.fault.TreeFault.TheVariants as Faults
use Rattle.ftp_server_model.specs.Replies.{Turn}
use Rattle.ftp_server_model.specs.View.{Context, Session, Transfer}
use Rattle.ftp_server_model.specs.declared.reply.ReplyKind.{ReplyKind}
use Rattle.ftp_server_model.specs.declared.reply.ReplyKind.TheVariants as Replies
use Rattle.ftp_server_model.specs.declared.reply.FixedReply.{FixedReply}
use Rattle.ftp_server_model.specs.declared.session.ServerLink.{ServerLink}
use Rattle.ftp_server_model.specs.declared.session.ServerLink.TheVariants as Data
use Rattle.ftp_server_replies.specs.Fault.{Counted}
use Rattle.ftp_server_replies.specs.declared.fault.Fault.{Fault}
use Rattle.ftp_server_replies.specs.declared.fault.Fault.TheVariants.{Memory, Device}
use Rattle.ftp_server_session.specs.declared.context.Context.{Context as Stands}
use Rattle.ftp_server_session.specs.declared.session.Session.{Session as Held}

-- a data connection, by how its transfer is seen
abbrev pub connection_seen : {J : Type 0} → (J → Transfer) → ServerLink J → ServerLink Transfer
connection_seen view Data.Free = Data.Free
connection_seen view (Data.Asked asked) = Data.Asked asked
connection_seen view (Data.Active endpoint) = Data.Active endpoint
connection_seen view Data.Passive = Data.Passive
connection_seen view Data.Ready = Data.Ready
connection_seen view (Data.Opening transfer way) = Data.Opening (view transfer) way
connection_seen view (Data.Transferring transfer) = Data.Transferring (view transfer)

-- a transfer is under way, its data connection open or still to come
abbrev pub has_transfer : {J : Type 0} → ServerLink J → Bool
has_transfer Data.Free = false
has_transfer (Data.Asked asked) = false
has_transfer (Data.Active endpoint) = false
has_transfer Data.Passive = false
has_transfer Data.Ready = false
has_transfer (Data.Opening transfer way) = true
has_transfer (Data.Transferring transfer) = true

-- a session, by how its tree and its transfer are seen
abbrev pub session_of : {A T J : Type 0} → (T → Table) → (J → Transfer) → Held A T J → Session
session_of table view s = record {
  table = table s.tree;
  access = s.access;
  root = s.root;
  rights = s.rights;
  cwd = s.cwd;
  pending = s.pending;
  settings = s.settings;
  facts = s.facts;
  only_extended = s.only_extended;
  connection = connection_seen view s.connection;
  closing = s.closing;
  life = s.life;
}

-- what no command changes
abbrev pub context_of : {A : Type 0} → Stands A → Context
context_of f = record { accounts = f.accounts; here = f.here; peer = f.peer; moment = f.moment.seconds }

-- what a command leaves: session and reply are its row of the definitions; or nothing has changed, for want of memory or as the
-- device failed. Where the device strayed only the counts are told of
abbrev pub Turns : {A T J : Type 0} → (T → Table) → (T → Failures) → (J → Transfer) → (Session → Turn) → Held A T J → Held A T J → Result (ReplyKind Names) Fault → Type 0
Turns table failures view row old new (Ok kind) =
    (NoStray (failures old.tree) (failures new.tree) → (session_of table view new, kind) ≡ row (session_of table view old))
    × IsSteady (failures old.tree) (failures new.tree)
Turns table failures view row old new (Err fault) =
    (NoStray (failures old.tree) (failures new.tree) → session_of table view new ≡ session_of table view old)
    × Counted fault (failures old.tree) (failures new.tree)

-- the tree looked somewhere, and all else is as it was: so is the map where the device did not stray
abbrev pub Looks : {A T J X : Type 0} → (T → Table) → (T → Failures) → Held A T J → Held A T J → Result X Fault → Type 0
Looks table failures old new (Ok done) =
    (new ≡ record old { tree = new.tree }) × (NoStray (failures old.tree) (failures new.tree) → table new.tree ≡ table old.tree)
    × IsSteady (failures old.tree) (failures new.tree)
Looks table failures old new (Err fault) =
    (new ≡ record old { tree = new.tree }) × (NoStray (failures old.tree) (failures new.tree) → table new.tree ≡ table old.tree)
    × Counted fault (failures old.tree) (failures new.tree)

-- what a refused call of the tree makes of a command: want of memory, a failed device, or a reply
abbrev pub RefusedAs : TreeFault → FixedReply → Result (ReplyKind Names) Fault → Type 0
RefusedAs fault text (Ok kind) = (kind ≡ Replies.Fixed text) × (fault ≢ Faults.Memory) × (fault ≢ Faults.Device)
RefusedAs fault text (Err Memory) = fault ≡ Faults.Memory
RefusedAs fault text (Err Device) = fault ≡ Faults.Device

-- what a refused reading of the tree makes of a command: a failed device, or want of memory
abbrev pub lost_as : TreeFault → Fault
lost_as Faults.Device = Device
lost_as other = Memory
