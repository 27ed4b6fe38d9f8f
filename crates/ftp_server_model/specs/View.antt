-- What a server holds, as plain records whose parts are the states of RFC 959, sections 3.2 and 4.1. Beside them are two counts,
-- of refused growths and of device failures (`Failing`).
use Rattle.std.specs.Prelude.{ℕ, Bool, true, false, List, [], Option}
use Rattle.ftp_endpoint.specs.declared.host.Host.{Host}
use Rattle.ftp_path.specs.Path.{Names}
pub use Rattle.ftp_command.specs.Line.{line_limit}
pub use Rattle.ftp_facts.specs.Name.{all_facts}
use Rattle.ftp_tree.specs.Tree.{Table}
use Rattle.ftp_direct.specs.Direct.{State, part, changed}
use Rattle.ftp_operation.specs.Account.{Account}
use Rattle.ftp_operation.specs.Rights.{no_rights}
use Rattle.ftp_operation.specs.declared.op.How.{How}
use Rattle.ftp_operation.specs.declared.rights.Rights.{Rights}
use Rattle.ftp_settings.specs.Representation.{defaults}
use Rattle.ftp_ends.specs.Ear.{Ear}
use Rattle.ftp_wire.specs.Decoder.{Decoder}
use Rattle.ftp_settings.specs.declared.representation.Representation.{Representation}
use Rattle.ftp_server_model.specs.declared.heard.HeardLine.{HeardLine}
use Rattle.ftp_server_model.specs.declared.session.Access.{Access}
use Rattle.ftp_server_model.specs.declared.session.Access.TheVariants as Accesses
use Rattle.ftp_server_model.specs.declared.session.Pending.{Pending}
use Rattle.ftp_server_model.specs.declared.session.Pending.TheVariants as Pendings
use Rattle.ftp_facts.specs.declared.name.Facts.{Facts}
use Rattle.ftp_server_model.specs.declared.session.Life.{Life}
use Rattle.ftp_server_model.specs.declared.session.Life.TheVariants as Lives
use Rattle.ftp_server_model.specs.declared.session.ServerLink.{ServerLink}
use Rattle.ftp_server_model.specs.declared.session.ServerLink.TheVariants as Data
use Rattle.ftp_server_model.specs.declared.session.Transfer.{Transfer as TransferOf}

-- who may log in, each with the root of what he sees of the map and what he may change there (RFC 959, section 4.1.1; roots and rights are
-- an own choice)
abbrev pub Accounts : Type 0
Accounts = List Account

-- what no command changes: who may log in, the hosts of the control connection, the moment in force
pub record Context : Type 0 where
  pub accounts : Accounts
  pub here : Host
  pub peer : Host
  pub moment : ℕ

-- a transfer: an upload with what its decoder has settled, a download or a listing with the octets that are still to be given
abbrev pub Transfer : Type 0
Transfer = TransferOf Names Decoder (List ℕ) (List ℕ)

-- what commands and the data connection change: the whole map; who is logged in, the root of his account, what he may change, and the
-- current directory below that root; what is pending for the next line; the settings; the data connection
pub record Session : Type 0 where
  pub table : Table
  pub access : Access (List ℕ)
  pub root : Names
  pub rights : Rights
  pub cwd : Names
  pub pending : Pending Names
  pub settings : Representation
  pub facts : Facts
  pub only_extended : Bool
  pub connection : ServerLink Transfer
  pub closing : Bool
  pub life : Life

-- the whole: a session, the line that is being read and the one that waits, and the control octets that are owed
pub record View : Type 0 where
  pub context : Context
  pub session : Session
  pub ear : Ear
  pub waiting : Option (HeardLine (List ℕ))
  pub owed : List ℕ

-- a session as it begins: all facts are in force (RFC 3659, section 7.9)
abbrev pub first_session : Table → Session
first_session table = record {
  table = table;
  access = Accesses.Nobody;
  root = [];
  rights = no_rights;
  cwd = [];
  pending = Pendings.Nothing;
  settings = defaults;
  facts = all_facts;
  only_extended = false;
  connection = Data.Free;
  closing = false;
  life = Lives.Running;
}

-- the settings as an operation of the direct run asks for them; how its data connection is opened is of no matter here
abbrev pub how_in_force : Representation → How
how_in_force settings =
    record { representation = settings; marks = false; active = false; extended = false }

-- how the direct run sees the session of somebody who is logged in: the same map, root, current directory and rights
abbrev pub direct_of : Session → State
direct_of s = record { table = s.table; root = s.root; cwd = s.cwd; known = true; rights = s.rights }

-- the session with the map and the current directory that the direct run leaves
abbrev pub as_direct : State → Session → Session
as_direct state s = record s { table = state.table; cwd = state.cwd }

-- what the account sees of the map: the part at and below its root, which is `/` in it
abbrev pub seen : Session → Table
seen s = part (direct_of s)

-- the session with another such part; the rest of the map stays
abbrev pub with_seen : Table → Session → Session
with_seen new s = record s { table = (changed (direct_of s) new).table }
