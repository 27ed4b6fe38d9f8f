-- While the server's close is wanted, nothing else of the link stands: each line that is acted on keeps it.
use Rattle.std.proofs.Common.{◌≡◌, ℕ, List, [], true, false, Option, Some, None, refl, sym, ap, subst}
use Rattle.std.proofs.lemmas.Bool.{cond_both}
use Rattle.ftp_path.specs.Path.{Names}
use Rattle.ftp_server_model.specs.Act.{decided}
use Rattle.ftp_server_model.specs.Endpoint.{forgotten, is_standing}
use Rattle.ftp_server_model.specs.Machine.{completed, given_out, is_idle, later, obeyed, turned, waited}
use Rattle.ftp_server_model.specs.Replies.{Turn}
use Rattle.ftp_server_model.specs.Transfer.{begin}
use Rattle.ftp_server_model.specs.View.{Context, Session, Transfer, View}
use Rattle.ftp_server_model.specs.declared.heard.HeardLine.{HeardLine}
use Rattle.ftp_server_model.specs.declared.session.ServerLink.{ServerLink}
use Rattle.ftp_server_model.specs.declared.session.ServerLink.TheVariants as Data
use Rattle.ftp_server_model.specs.declared.session.Pending.{Pending}
use Rattle.ftp_server_model.specs.declared.session.Pending.TheVariants as Pendings
use Rattle.ftp_server_model.specs.declared.session.Transfer.TheVariants as Transfers
use Rattle.laws_server.specs.one.Links.{Aims, Asks as Asked, Begins, Forgets, Stays, Turned, turned_so, with_link}
use Rattle.laws_server.proofs.one.LineTurns.{lines_go_beside}
use Rattle.laws_settling.specs.Steady.{FarIsApart}

-- of a session: while its close is wanted, nothing of it stands
abbrev pub Apart : Session → Type 0
Apart s = s.closing ≡ true → is_standing s.connection ≡ false

-- of a turn: what it leaves
abbrev pub Kept : Turn → Type 0
Kept turn = Apart turn.0

-- nothing stands where all was forgotten
pub forgotten_apart : (s : Session) → Apart (forgotten s)
forgotten_apart s is = refl

-- a transfer begins on what there is of a connection
begin_apart : (connection : ServerLink Transfer) (transfer : Transfer) (s : Session) → s.connection ≡ connection → Apart s → Kept (begin connection transfer s)
begin_apart (Data.Active endpoint) transfer s is a = λ closing. refl
begin_apart Data.Passive transfer s is a = λ closing. let none = a closing in let one : is_standing s.connection ≡ true = ap is_standing is in absurd (cc)
begin_apart Data.Ready transfer s is a = λ closing. let none = a closing in let one : is_standing s.connection ≡ true = ap is_standing is in absurd (cc)
begin_apart connection transfer s is a = a

-- what a line does to the data connection
apart_so : (turned : Turned) (turn : Turn) (s : Session) → Apart s → Kept (turned_so turned s.connection s.closing turn)
apart_so Stays turn s a = a
apart_so Forgets turn s a = λ is. refl
apart_so (Asked verb) turn s a = λ is. refl
apart_so (Aims endpoint) turn s a = λ is. refl
apart_so (Begins transfer) turn s a = begin_apart s.connection transfer (with_link s.connection s.closing turn.0) refl a

-- a line, whatever it says
decided_apart : (context : Context) (heard : HeardLine (List ℕ)) (pending : Pending Names) (s : Session) → Apart s → Kept (decided context heard pending s)
decided_apart context heard pending s a =
    let of = lines_go_beside context heard pending s in
    subst Kept (sym (of.is s.connection s.closing)) (apart_so of.turned of.turn s a)

-- a download or a listing whose last octet was given
given_out_apart : (connection : ServerLink Transfer) (v : View) → FarIsApart v → FarIsApart (given_out connection v)
given_out_apart (Data.Transferring (Transfers.Download [])) v a = forgotten_apart v.session
given_out_apart (Data.Transferring (Transfers.Listing [])) v a = forgotten_apart v.session
given_out_apart connection v a = a

-- the same, of what stands
pub completed_apart : (v : View) → FarIsApart v → FarIsApart (completed v)
completed_apart v a = given_out_apart v.session.connection v a

-- a line is acted on
obeyed_apart : (heard : HeardLine (List ℕ)) (v : View) → FarIsApart v → FarIsApart (obeyed heard v)
unfolding obeyed
obeyed_apart heard v a =
    completed_apart (turned (decided v.context heard v.session.pending (record v.session { pending = Pendings.Nothing })) v)
    (decided_apart v.context heard v.session.pending (record v.session { pending = Pendings.Nothing }) a)

-- a line that waits
waited_apart : (waiting : Option (HeardLine (List ℕ))) (v : View) → FarIsApart v → FarIsApart (waited waiting v)
waited_apart None v a = a
waited_apart (Some heard) v a = cond_both (is_idle v) _ _ FarIsApart (λ is. obeyed_apart heard (record v { waiting = None }) a) (λ is. a)

-- what follows every call: the line that waits
pub later_apart : (v : View) → FarIsApart v → FarIsApart (later v)
later_apart v a = waited_apart v.waiting v a
