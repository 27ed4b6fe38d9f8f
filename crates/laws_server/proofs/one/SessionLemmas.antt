-- What each line leaves short of a session, by what it does to the data connection and to the map; and how a transfer ends.
use Rattle.std.proofs.Common.{◌≡◌, refl, sym, subst, ℕ, ◌+◌, ◌≤◌, List, Bool, true, false, Option, Some, None, arith, length}
use Rattle.std.proofs.lemmas.Bool.{cond_both}
use Rattle.ftp_command.specs.declared.command.Command.{Command}
use Rattle.ftp_wire.specs.Decoder.{Decoder, broken, ended, is_whole}
use Rattle.ftp_path.specs.Path.{Names}
use Rattle.ftp_direct.specs.declared.refusal.Refusal.{Refusal}
use Rattle.ftp_tree.specs.Tree.{Table, most_octets}
use Rattle.ftp_server_model.specs.Act.{decided, forgets, is_transfer}
use Rattle.ftp_server_model.specs.Endpoint.{forgotten, disconnected}
use Rattle.ftp_server_model.specs.Held.{HasShortFiles}
use Rattle.ftp_server_model.specs.Keep.{kept_count, is_overtaken}
use Rattle.ftp_server_model.specs.Machine.{Ending, end_refusal, ends_by, installs, put_together, at_break, at_end, breaks_off}
use Rattle.ftp_server_model.specs.Replies.{Turn}
use Rattle.ftp_server_model.specs.Transfer.{begin}
use Rattle.ftp_server_model.specs.View.{Context, Session, Transfer, direct_of}
use Rattle.ftp_server_model.specs.declared.heard.HeardLine.{HeardLine}
use Rattle.ftp_server_model.specs.declared.reply.FixedReply.{FixedReply}
use Rattle.ftp_server_model.specs.declared.reply.FixedReply.TheVariants as Texts
use Rattle.ftp_server_model.specs.declared.session.Pending.{Pending}
use Rattle.ftp_server_model.specs.declared.session.ServerLink.{ServerLink}
use Rattle.ftp_server_model.specs.declared.session.ServerLink.TheVariants as Data
use Rattle.ftp_server_model.specs.declared.session.Keep.{Keep}
use Rattle.ftp_server_model.specs.declared.session.Transfer.TheVariants as Transfers
use Rattle.laws_server.specs.one.Links.{Aims, Asks, Begins, BegunSo, Forgets, IsBegun, Stays, Turned, turned_so, with_link}
use Rattle.laws_server.specs.one.Maps.{Changes, Mapped, MappedSo, Unchanged, line_changes}
use Rattle.laws_server.specs.one.Small.{IsShortTransfer, IsShortConnection, IsShortSession}
use Rattle.laws_server.proofs.one.FileLemmas.{installed_short, seen_short, put_fits, second_is_none}
use Rattle.laws_server.proofs.one.LineTurns.{lines_change_the_map, lines_go_beside}

abbrev IsShortTurn : Turn → Type 0
IsShortTurn turn = IsShortSession turn.0

-- ---- sessions

pub forgotten_short : (s : Session) → IsShortSession s → IsShortSession (forgotten s)
forgotten_short s k = record { files = k.files; connection = tt }

pub disconnected_short : (s : Session) → IsShortSession s → IsShortSession (disconnected s)
disconnected_short s k = record { files = k.files; connection = tt }

pub connected_short : (connection : ServerLink Transfer) (s : Session) → IsShortConnection connection → IsShortSession s → IsShortSession (record s { connection = connection })
connected_short connection s short k = record { files = k.files; connection = short }

-- ---- a line

-- a transfer that begins: an upload by what stands where it goes
begun_short : (transfer : Transfer) (s : Session) → IsBegun transfer s → HasShortFiles s.table → IsShortTransfer transfer
begun_short (Transfers.Upload path keep d) s begun short =
    subst (λ (d : Decoder). kept_count keep + length d.content ≤ most_octets) (sym begun.2) (omega (arith, begun.1, seen_short s.table s.root path short))
begun_short Transfers.OverLimit s begun short = tt
begun_short (Transfers.Download rest) s begun short = tt
begun_short (Transfers.Listing rest) s begun short = tt

begin_short : (link : ServerLink Transfer) (transfer : Transfer) (s : Session) → IsShortTransfer transfer → IsShortConnection s.connection
    → IsShortConnection (begin link transfer s).0.connection
begin_short Data.Free transfer s short k = k
begin_short (Data.Active endpoint) transfer s short k = short
begin_short Data.Passive transfer s short k = short
begin_short Data.Ready transfer s short k = short
begin_short (Data.Asked asked) transfer s short k = k
begin_short (Data.Opening other way) transfer s short k = k
begin_short (Data.Transferring other) transfer s short k = k

-- by what it does to the data connection
turned_short : (turned : Turned) (turn : Turn) (s : Session) → BegunSo turned s → IsShortSession s
    → IsShortConnection (turned_so turned s.connection s.closing turn).0.connection
turned_short Stays turn s begun k = k.connection
turned_short Forgets turn s begun k = tt
turned_short (Asks verb) turn s begun k = tt
turned_short (Aims endpoint) turn s begun k = tt
turned_short (Begins transfer) turn s begun k =
    begin_short s.connection transfer (with_link s.connection s.closing turn.0) (begun_short transfer s begun k.files) k.connection

-- and to the map
mapped_short : (mapped : Mapped) (changing : Bool) (s : Session) (table : Table) → MappedSo mapped changing s table → HasShortFiles s.table
    → HasShortFiles table
mapped_short Unchanged changing s table is k = subst HasShortFiles (sym is) k
mapped_short (Changes new) changing s table is k = subst HasShortFiles (sym is.2) (is.4 k)

pub forgets_short : (c : Command (List ℕ)) (s : Session) → IsShortSession s → IsShortSession (forgets c s)
forgets_short c s k = cond_both (is_transfer c) (forgotten s) s IsShortSession (λ is. forgotten_short s k) (λ is. k)

pub decided_short : (context : Context) (heard : HeardLine (List ℕ)) (pending : Pending Names) (s : Session) → IsShortSession s
    → IsShortTurn (decided context heard pending s)
decided_short context heard pending s k =
    let link = lines_go_beside context heard pending s in
    let map = lines_change_the_map context heard pending s in
    record {
      files = mapped_short map.0 (line_changes pending heard) s (decided context heard pending s).0.table map.1 k.files;
      connection = subst (λ (turn : Turn). IsShortConnection turn.0.connection) (sym (link.is s.connection s.closing))
          (turned_short link.turned link.turn s link.begun k);
    }

-- ---- how a transfer ends

installs_short : (moment : ℕ) (path : Names) (keep : Keep) (d : Decoder) (text : FixedReply) (s : Session) → IsShortSession s → IsShortSession (installs moment path keep d text s).0
installs_short moment path keep d text s k = by_why (end_refusal path keep d.content s) refl
  where
    by_why : (why : Option Refusal) → end_refusal path keep d.content s ≡ why → IsShortSession (ends_by why moment path keep d.content text s).0
    by_why None none =
        let whole : List ℕ = put_together path keep d.content s in
        let few = put_fits (direct_of s) path (length whole) (second_is_none _ _ (second_is_none _ _ none)) in
        record {
          files = installed_short s.table s.root path whole moment few k.files;
          connection = k.connection;
        }
    by_why (Some why) is = k

pub break_short : (moment : ℕ) (transfer : Transfer) (s : Session) → IsShortSession s → IsShortSession (at_break moment transfer s).0
break_short moment (Transfers.Upload path keep d) s k = by (is_overtaken keep)
  where
    by : (late : Bool) → IsShortSession (breaks_off late moment path keep d s).0
    by true = k
    by false = installs_short moment path keep (broken d) Texts.Broken s k
break_short moment Transfers.OverLimit s k = k
break_short moment (Transfers.Download rest) s k = k
break_short moment (Transfers.Listing rest) s k = k

pub end_short : (moment : ℕ) (transfer : Transfer) (s : Session) → IsShortSession s → IsShortSession (at_end moment transfer s).0
end_short moment (Transfers.Upload path keep d) s k =
    cond_both (is_whole d) (installs moment path keep (ended d) Texts.Complete s) (at_break moment (Transfers.Upload path keep d) s) (λ (e : Ending). IsShortSession e.0)
    (λ is. installs_short moment path keep (ended d) Texts.Complete s k) (λ is. break_short moment (Transfers.Upload path keep d) s k)
end_short moment Transfers.OverLimit s k = break_short moment Transfers.OverLimit s k
end_short moment (Transfers.Download rest) s k = break_short moment (Transfers.Download rest) s k
end_short moment (Transfers.Listing rest) s k = break_short moment (Transfers.Listing rest) s k
