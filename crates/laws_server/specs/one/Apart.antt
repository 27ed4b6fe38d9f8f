-- What an account's root keeps apart, call by call as the trait `Far` says them, and whichever octets are taken and given: two servers, of
-- which one has only what stands at and below the root, stay so where both make the same calls and neither count changes.
use Rattle.std.specs.Prelude.{◌≡◌, ℕ, false, true, List}
use Rattle.ftp_endpoint.specs.declared.host.Host.{Host}
use Rattle.ftp_path.specs.Path.{Names, is_within}
use Rattle.ftp_tree.specs.Tree.{Table, node_at}
use Rattle.ftp_server_model.specs.Calls.{break_step, clock_step, close_step, control_end, control_step, end_step, given_step, listening_step, may_receive, no_port_step, opened_step, refused_step, start, to_give, wants}
use Rattle.ftp_server_model.specs.Failing.{EndFails, GiveFails}
use Rattle.ftp_server_model.specs.Far.{Acts, Hears, Receives, Server, Steps}
use Rattle.ftp_server_model.specs.Machine.{IsReading, Reading, is_transferring, may_hear}
use Rattle.ftp_server_model.specs.Play.{HearsAt, IsAt, at_root, only_at}
use Rattle.ftp_server_model.specs.View.{Accounts, View}

-- a view, and the same at the root: whoever is logged in has that root, and so has whose transfer stands
pub record IsCopy (root : Names) (v its : View) : Type 0 where
  pub same : its ≡ at_root root v
  pub known : IsAt root v
  pub held : is_transferring v.session.connection ≡ true → v.session.root ≡ root

-- no path outside of the root has changed
abbrev pub LeavesOthers : Names → Table → Table → Type 0
LeavesOthers root old new = (path : Names) → is_within root path ≡ false → node_at new path ≡ node_at old path

-- they are so at the start, of a map and of what it has at and below the root
abbrev pub StartsAreCopies : Type 0
StartsAreCopies = (root : Names) (table : Table) (accounts : Accounts) (here peer : Host) → IsCopy root (start table accounts here peer) (start (only_at root table) accounts here peer)

-- what a call leaves, where a login that succeeded in it was to this root
abbrev pub LeavesCopy : Names → (old new its : View) → Type 0
LeavesCopy root old new its = IsAt root new → IsCopy root new its × LeavesOthers root old.session.table new.session.table

-- so it is of each call that both make
pub record CallsAreApart (root : Names) (old new its its_new : Server) : Type 0 where
  pub clock : (moment : ℕ) → Acts (clock_step moment) old new → Acts (clock_step moment) its its_new → LeavesCopy root old.view new.view its_new.view
  pub hear : (octets : List ℕ) (read : Reading) → Hears octets old new → Hears octets its its_new → IsReading read → HearsAt read root old.view octets → LeavesCopy root old.view new.view its_new.view
  pub control_out : (count : ℕ) → Acts (control_step count) old new → Acts (control_step count) its its_new → LeavesCopy root old.view new.view its_new.view
  pub control_ended : new ≡ record old { view = control_end old.view } → its_new ≡ record its { view = control_end its.view } → LeavesCopy root old.view new.view its_new.view
  pub listens : (port : ℕ) → Acts (listening_step port) old new → Acts (listening_step port) its its_new → LeavesCopy root old.view new.view its_new.view
  pub no_port : Acts no_port_step old new → Acts no_port_step its its_new → LeavesCopy root old.view new.view its_new.view
  pub opened : (host : Host) → Acts (opened_step host) old new → Acts (opened_step host) its its_new → LeavesCopy root old.view new.view its_new.view
  pub refused : Acts refused_step old new → Acts refused_step its its_new → LeavesCopy root old.view new.view its_new.view
  pub received : (octets : List ℕ) → Receives octets old new → Receives octets its its_new → LeavesCopy root old.view new.view its_new.view
  pub ended : Steps EndFails end_step old new → Steps EndFails end_step its its_new → LeavesCopy root old.view new.view its_new.view
  pub broke : Steps EndFails break_step old new → Steps EndFails break_step its its_new → LeavesCopy root old.view new.view its_new.view
  pub gave : (count : ℕ) → Steps (GiveFails count) (given_step count) old new → Steps (GiveFails count) (given_step count) its its_new → LeavesCopy root old.view new.view its_new.view
  pub closed : Acts close_step old new → Acts close_step its its_new → LeavesCopy root old.view new.view its_new.view

-- where neither count of either changes
abbrev pub CallsStayApart : Type 0
CallsStayApart =
    (root : Names) (old new its its_new : Server) → IsCopy root old.view its.view → new.counts ≡ old.counts → its_new.counts ≡ its.counts
    → CallsAreApart root old new its its_new

-- and all that others see of a server is the same of both: the octets that it owes and has to give, what it wants, whether it takes octets
pub record LooksAlike (v its : View) : Type 0 where
  pub owed : its.owed ≡ v.owed
  pub to_give : to_give its ≡ to_give v
  pub wants : wants its ≡ wants v
  pub hears : may_hear its ≡ may_hear v
  pub receives : may_receive its ≡ may_receive v

abbrev pub CopiesLookAlike : Type 0
CopiesLookAlike = (root : Names) (v its : View) → IsCopy root v its → LooksAlike v its
