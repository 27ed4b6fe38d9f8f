-- Where no account has a right to change, no call changes the map, hostile octets too, also where memory is refused or the device fails (own
-- choice of rights); where others may change it too, where its device doesn't stray.
use Rattle.std.specs.Prelude.{◌≡◌, ℕ, List}
use Rattle.std.specs.List.{AllByRecursion}
use Rattle.ftp_endpoint.specs.declared.host.Host.{Host}
use Rattle.ftp_operation.specs.Rights.{no_rights}
use Rattle.ftp_tree.specs.Tree.{Table}
use Rattle.ftp_server_model.specs.Calls.{break_step, clock_step, close_step, control_end, control_step, end_step, given_step, listening_step, no_port_step, opened_step, refused_step, start}
use Rattle.ftp_server_model.specs.Failing.{EndFails, GiveFails, KeepsCourse}
use Rattle.ftp_server_model.specs.Far.{Acts, Hears, Receives, Server, Steps}
use Rattle.ftp_server_model.specs.Machine.{Reading}
use Rattle.ftp_server_model.specs.Play.{Cue, call, left_by}
use Rattle.ftp_server_model.specs.View.{Accounts, Session, Transfer, View}
use Rattle.ftp_server_model.specs.declared.session.ServerLink.{ServerLink}
use Rattle.ftp_server_model.specs.declared.session.ServerLink.TheVariants as Data
use Rattle.ftp_server_model.specs.declared.session.Transfer.TheVariants as Transfers

-- who may log in may change nothing
abbrev pub MayOnlyLook : Accounts → Type 0
MayOnlyLook accounts = AllByRecursion (λ account. account.rights ≡ no_rights) accounts

-- it is no upload
abbrev pub IsNoUpload : Transfer → Type 0
IsNoUpload (Transfers.Upload path keep d) = ⊥
IsNoUpload Transfers.OverLimit = Unit {0}
IsNoUpload (Transfers.Download rest) = Unit {0}
IsNoUpload (Transfers.Listing rest) = Unit {0}

-- neither what waits for its data connection, nor what has it
abbrev pub HasNoUpload : ServerLink Transfer → Type 0
HasNoUpload Data.Free = Unit {0}
HasNoUpload (Data.Asked asked) = Unit {0}
HasNoUpload (Data.Active endpoint) = Unit {0}
HasNoUpload Data.Passive = Unit {0}
HasNoUpload Data.Ready = Unit {0}
HasNoUpload (Data.Opening transfer way) = IsNoUpload transfer
HasNoUpload (Data.Transferring transfer) = IsNoUpload transfer

-- a session of somebody who may change nothing, over this map
pub record LooksOnly (table : Table) (s : Session) : Type 0 where
  pub same : s.table ≡ table
  pub rights : s.rights ≡ no_rights
  pub connection : HasNoUpload s.connection

-- a server on which nobody may change anything, over this map
pub record OnlyLooks (table : Table) (v : View) : Type 0 where
  pub accounts : MayOnlyLook v.context.accounts
  pub session : LooksOnly table v.session

-- so it is after each call
abbrev pub CallsOnlyLook : Type 0
CallsOnlyLook = (read : Reading) (cue : Cue) (table : Table) (v : View) → OnlyLooks table v → OnlyLooks table (call read cue v).1

-- and so the map stays, whatever is called
abbrev pub LookersLeaveTheMap : Type 0
LookersLeaveTheMap =
    (read : Reading) (table : Table) (accounts : Accounts) (here peer : Host) (cues : List Cue)
    → MayOnlyLook accounts → (left_by read cues (start table accounts here peer)).session.table ≡ table

-- ---- whatever fails

-- so it is after each call, as its clause of `Far` says it
pub record FarOnlyLooks (table : Table) (old new : Server) : Type 0 where
  pub clock : (moment : ℕ) → Acts (clock_step moment) old new → OnlyLooks table new.view
  pub hear : (octets : List ℕ) → Hears octets old new → OnlyLooks table new.view
  pub control_out : (count : ℕ) → Acts (control_step count) old new → OnlyLooks table new.view
  pub control_ended : new ≡ record old { view = control_end old.view } → OnlyLooks table new.view
  pub listens : (port : ℕ) → Acts (listening_step port) old new → OnlyLooks table new.view
  pub no_port : Acts no_port_step old new → OnlyLooks table new.view
  pub opened : (host : Host) → Acts (opened_step host) old new → OnlyLooks table new.view
  pub refused : Acts refused_step old new → OnlyLooks table new.view
  pub received : (octets : List ℕ) → Receives octets old new → OnlyLooks table new.view
  pub ended : Steps EndFails end_step old new → OnlyLooks table new.view
  pub broke : Steps EndFails break_step old new → OnlyLooks table new.view
  pub gave : (count : ℕ) → Steps (GiveFails count) (given_step count) old new → OnlyLooks table new.view
  pub closed : Acts close_step old new → OnlyLooks table new.view

-- of a server on which nobody may change anything, where the device doesn't stray
abbrev pub FarLeavesTheMap : Type 0
FarLeavesTheMap = (table : Table) (old new : Server) → KeepsCourse old.counts new.counts → OnlyLooks table old.view → FarOnlyLooks table old new

-- and a server is one at its start, where no account has a right to change
abbrev pub StartsLook : Type 0
StartsLook = (table : Table) (accounts : Accounts) (here peer : Host) → MayOnlyLook accounts → OnlyLooks table (start table accounts here peer)
