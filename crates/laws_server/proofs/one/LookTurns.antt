-- No line of somebody who may change nothing changes the map, or begins an upload.
use Rattle.std.proofs.Common.{◌≡◌, ◌∙◌, ℕ, List, [], ◌∷◌, Bool, true, false, Some, sym, ap, subst}
use Rattle.std.specs.Prelude.{if◌then◌else◌}
use Rattle.std.specs.List.{find}
use Rattle.std.proofs.lemmas.Bool.{cond_both}
use Rattle.ftp_command.specs.declared.command.Command.{Command}
use Rattle.ftp_path.specs.Path.{Names}
use Rattle.ftp_operation.specs.Account.{Account}
use Rattle.ftp_operation.specs.Rights.{no_rights}
use Rattle.ftp_direct.proofs.RightsLemmas.{no_put}
use Rattle.ftp_tree.specs.Tree.{Table}
use Rattle.ftp_server_model.specs.Act.{decided, forgets, is_transfer}
use Rattle.ftp_server_model.specs.Endpoint.{forgotten, disconnected}
use Rattle.ftp_server_model.specs.Replies.{Turn}
use Rattle.ftp_server_model.specs.Transfer.{begin}
use Rattle.ftp_server_model.specs.View.{Accounts, Context, Session, Transfer, direct_of}
use Rattle.ftp_server_model.specs.declared.heard.HeardLine.{HeardLine}
use Rattle.ftp_server_model.specs.declared.session.Pending.{Pending}
use Rattle.ftp_server_model.specs.declared.session.ServerLink.{ServerLink}
use Rattle.ftp_server_model.specs.declared.session.ServerLink.TheVariants as Data
use Rattle.ftp_server_model.specs.declared.session.Transfer.TheVariants as Transfers
use Rattle.laws_server.specs.one.Links.{Aims, Asks, Begins, BegunSo, Forgets, IsBegun, Stays, Turned, turned_so, with_link}
use Rattle.laws_server.specs.one.Logins.{Ends, Enters, Lasts, Logged, LoggedSo}
use Rattle.laws_server.specs.one.Lookers.{HasNoUpload, IsNoUpload, LooksOnly, MayOnlyLook}
use Rattle.laws_server.specs.one.Maps.{Changes, Mapped, MappedSo, Unchanged, line_changes}
use Rattle.laws_server.proofs.one.LineTurns.{lines_change_the_map, lines_go_beside, lines_log_in}

-- the account that is found has no right to change
found_looks : (test : Account → Bool) (accounts : Accounts) (found : Account) → MayOnlyLook accounts → find test accounts ≡ Some found → found.rights ≡ no_rights
found_looks test [] found none is = absurd (cc)
found_looks test (account ∷ accounts) found none is = by_test (test account) none.0 (λ is. found_looks test accounts found none.1 is) is
  where
    by_test : (b : Bool) → account.rights ≡ no_rights → (find test accounts ≡ Some found → found.rights ≡ no_rights)
        → (if b then Some account else find test accounts) ≡ Some found → found.rights ≡ no_rights
    by_test true here below is = let same : account ≡ found = cc in ap (λ (a : Account). a.rights) (sym same) ∙ here
    by_test false here below is = below is

-- who is logged in then has no right to change
logged_looks : (logged : Logged) (accounts : Accounts) (s new : Session) → MayOnlyLook accounts → s.rights ≡ no_rights
    → LoggedSo logged accounts s new.access new.root new.rights → new.rights ≡ no_rights
logged_looks Lasts accounts s new none rights is = is.2 ∙ rights
logged_looks Ends accounts s new none rights is = is.2
logged_looks (Enters account test) accounts s new none rights is = is.3 ∙ found_looks test accounts account none is.0

-- who has none changes nothing
mapped_looks : (mapped : Mapped) (changing : Bool) (s : Session) (table : Table) → s.rights ≡ no_rights → MappedSo mapped changing s table → table ≡ s.table
mapped_looks Unchanged changing s table rights is = is
mapped_looks (Changes new) changing s table rights is = absurd (is.1 rights)

-- and begins no upload
begun_looks : (transfer : Transfer) (s : Session) → s.rights ≡ no_rights → IsBegun transfer s → IsNoUpload transfer
begun_looks (Transfers.Upload path keep d) s rights begun = no_put _ (direct_of s) path rights begun.0
begun_looks Transfers.OverLimit s rights begun = tt
begun_looks (Transfers.Download rest) s rights begun = tt
begun_looks (Transfers.Listing rest) s rights begun = tt

begin_looks : (link : ServerLink Transfer) (transfer : Transfer) (s : Session) → IsNoUpload transfer → HasNoUpload s.connection
    → HasNoUpload (begin link transfer s).0.connection
begin_looks Data.Free transfer s none k = k
begin_looks (Data.Active endpoint) transfer s none k = none
begin_looks Data.Passive transfer s none k = none
begin_looks Data.Ready transfer s none k = none
begin_looks (Data.Asked asked) transfer s none k = k
begin_looks (Data.Opening other way) transfer s none k = k
begin_looks (Data.Transferring other) transfer s none k = k

turned_looks : (turned : Turned) (turn : Turn) (s : Session) → BegunSo turned s → s.rights ≡ no_rights → HasNoUpload s.connection
    → HasNoUpload (turned_so turned s.connection s.closing turn).0.connection
turned_looks Stays turn s begun rights k = k
turned_looks Forgets turn s begun rights k = tt
turned_looks (Asks verb) turn s begun rights k = tt
turned_looks (Aims endpoint) turn s begun rights k = tt
turned_looks (Begins transfer) turn s begun rights k =
    begin_looks s.connection transfer (with_link s.connection s.closing turn.0) (begun_looks transfer s rights begun) k

module _ (table : Table) where
  -- ---- sessions

  pub forgotten_looks : (s : Session) → LooksOnly table s → LooksOnly table (forgotten s)
  forgotten_looks s k = record { same = k.same; rights = k.rights; connection = tt }

  pub disconnected_looks : (s : Session) → LooksOnly table s → LooksOnly table (disconnected s)
  disconnected_looks s k = record { same = k.same; rights = k.rights; connection = tt }

  pub connected_looks : (connection : ServerLink Transfer) (s : Session) → HasNoUpload connection → LooksOnly table s → LooksOnly table (record s { connection = connection })
  connected_looks connection s short k = record { same = k.same; rights = k.rights; connection = short }

  pub forgets_looks : (c : Command (List ℕ)) (s : Session) → LooksOnly table s → LooksOnly table (forgets c s)
  forgets_looks c s k = cond_both (is_transfer c) (forgotten s) s (LooksOnly table) (λ is. forgotten_looks s k) (λ is. k)

  -- ---- a line

  pub decided_looks : (context : Context) (heard : HeardLine (List ℕ)) (pending : Pending Names) (s : Session) → MayOnlyLook context.accounts → LooksOnly table s
      → LooksOnly table (decided context heard pending s).0
  decided_looks context heard pending s none k =
      let link = lines_go_beside context heard pending s in
      let login = lines_log_in context heard pending s in
      let map = lines_change_the_map context heard pending s in
      let new : Session = (decided context heard pending s).0 in
      record {
        same = mapped_looks map.0 (line_changes pending heard) s new.table k.rights map.1 ∙ k.same;
        rights = logged_looks login.0 context.accounts s new none k.rights login.1;
        connection = subst (λ (turn : Turn). HasNoUpload turn.0.connection) (sym (link.is s.connection s.closing))
            (turned_looks link.turned link.turn s link.begun k.rights k.connection);
      }
