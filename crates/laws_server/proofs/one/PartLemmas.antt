-- What each call makes of a server whose map is only the part at and below a root: the same, of that map.
use Rattle.std.proofs.Common.{◌≡◌, ℕ, ◌+◌, Bool, true, false, not, List, [], ◌∷◌, ◌++◌, Option, Some, None, refl, sym, ap, subst, ◌∙◌, length, true≢false}
use Rattle.std.specs.Prelude.{if◌then◌else◌}
use Rattle.std.specs.Option.{is_some}
use Rattle.std.proofs.lemmas.Bool.{and_parts, cond_both, not-true}
use Rattle.ftp_endpoint.specs.declared.host.Host.{Host}
use Rattle.ftp_wire.specs.Decoder.{Decoder, broken, ended, is_whole, with_sign, read_on, octet_says, fault_of}
use Rattle.ftp_ends.specs.Link.{same_host}
use Rattle.ftp_mode.specs.Said.{Said, says, marker}
use Rattle.ftp_mode.specs.declared.fault.FrameFault.{FrameFault}
use Rattle.ftp_path.specs.Path.{Names}
use Rattle.ftp_tree.proofs.PartLemmas.{part-stays, part-taken}
use Rattle.ftp_tree.specs.Tree.{Table, installed, node_at, octets_or_none, octets_refusal, under}
use Rattle.ftp_server_model.specs.Act.{decided, is_in}
use Rattle.ftp_server_model.specs.Calls.{connection_of, listening_turn, unheard, port_opens_for, opens, refuses, takes_given, ends, breaks, control_end, clock_step, control_step, listening_step, no_port_step, opened_step, refused_step, end_step, break_step, close_step, given_step, grown, with_connection, takes_said, takes_all, takes_octet, takes_data}
use Rattle.ftp_server_model.specs.Endpoint.{forgotten, disconnected}
use Rattle.ftp_server_model.specs.Keep.{kept_count, kept_of, is_overtaken}
use Rattle.ftp_server_model.specs.Machine.{Ending, given_out, completed, obeyed, waited, later, is_idle, has_room, is_connection_busy, is_transferring, turned, replied, concluded, at_break, at_end, end_refusal, ends_by, installs, put_in, is_over, aborts, abort_said, with_session, owes, breaks_off}
use Rattle.ftp_server_model.specs.Play.{at_root, IsAt, no_nodes}
use Rattle.ftp_server_model.specs.Replies.{Turn}
use Rattle.ftp_server_model.specs.View.{Session, Transfer, View, seen}
use Rattle.ftp_server_model.specs.Walk.{refusal_text}
use Rattle.ftp_direct.specs.declared.refusal.Refusal.{Refusal}
use Rattle.ftp_server_model.specs.declared.heard.HeardLine.{HeardLine}
use Rattle.ftp_server_model.specs.declared.reply.FixedReply.{FixedReply}
use Rattle.ftp_server_model.specs.declared.reply.FixedReply.TheVariants as Texts
use Rattle.ftp_server_model.specs.declared.session.PassiveVerb.TheVariants as Asking
use Rattle.ftp_server_model.specs.declared.session.Pending.TheVariants as Pendings
use Rattle.ftp_server_model.specs.declared.session.Way.TheVariants as Ways
use Rattle.ftp_server_model.specs.declared.session.ServerLink.{ServerLink}
use Rattle.ftp_server_model.specs.declared.session.ServerLink.TheVariants as Data
use Rattle.ftp_server_model.specs.declared.session.Keep.{Keep}
use Rattle.ftp_server_model.specs.declared.session.Transfer.TheVariants as Transfers
use Rattle.laws_server.proofs.one.SeenLemmas.{at, changed_at, seen_at}
use Rattle.laws_server.proofs.one.TurnLemmas.{IsApartFrom, IsHeld, decided_at}

-- a view that came of another, and the one that came of that at the root
pub record ViewAt (root : Names) (v one its : View) : Type 0 where
  pub same : its ≡ at_root root one
  pub apart : IsApartFrom root v.session.table one.session.table
  pub held : IsHeld root one.session

-- a step: who is logged in stays so
pub record StepAt (root : Names) (v one its : View) : Type 0 where
  pub is : ViewAt root v one its
  pub access : one.session.access ≡ v.session.access
  pub top : one.session.root ≡ v.session.root

pub stays : (root : Names) (v : View) → IsHeld root v.session → ViewAt root v v (at_root root v)
stays root v held = record { same = refl; apart = λ path out. refl; held = held }

still : (root : Names) (v : View) → IsHeld root v.session → StepAt root v v (at_root root v)
still root v held = record { is = stays root v held; access = refl; top = refl }

-- one step after another
more : (root : Names) (v one its : View) (f : View → View) → StepAt root v one its → (IsHeld root one.session → StepAt root one (f one) (f (at_root root one))) → StepAt root v (f one) (f its)
more root v one its f first second =
    let next = second first.is.held in
    record {
      is = record { same = ap f first.is.same ∙ next.is.same; apart = λ path out. next.is.apart path out ∙ first.is.apart path out; held = next.is.held };
      access = next.access ∙ first.access;
      top = next.top ∙ first.top;
    }

-- and after a line
after_line : (root : Names) (v one its : View) (f : View → View) → ViewAt root v one its → (IsHeld root one.session → StepAt root one (f one) (f (at_root root one))) → ViewAt root v (f one) (f its)
after_line root v one its f first second =
    let next = second first.held in
    record { same = ap f first.same ∙ next.is.same; apart = λ path out. next.is.apart path out ∙ first.apart path out; held = next.is.held }

pub known_by : (root : Names) (v one : View) → one.session.access ≡ v.session.access → one.session.root ≡ v.session.root → IsAt root v → IsAt root one
known_by root v one access top known is = top ∙ known (ap is_in (sym access) ∙ is)

known_before : (root : Names) (v one : View) → one.session.access ≡ v.session.access → one.session.root ≡ v.session.root → IsAt root one → IsAt root v
known_before root v one access top known is = sym top ∙ known (ap is_in access ∙ is)

-- a session without a transfer, of which the map is as it was; and octets that are owed
calm : (root : Names) (v : View) (new : Session) (octets : List ℕ) → new.table ≡ v.session.table → new.access ≡ v.session.access → new.root ≡ v.session.root → is_transferring new.connection ≡ false
    → StepAt root v (owes octets (with_session new v)) (owes octets (with_session (at root new) (at_root root v)))
calm root v new octets same access top none = record {
  is = record { same = refl; apart = λ path out. ap (λ table. node_at table path) same; held = λ is. absurd (true≢false (sym is ∙ none)) };
  access = access;
  top = top;
}

forgets_at : (text : FixedReply) (root : Names) (v : View) → StepAt root v (replied text (forgotten v.session) v) (replied text (forgotten (at root v.session)) (at_root root v))
forgets_at text root v = calm root v (forgotten v.session) _ refl refl refl refl

-- another state of the data connection
moves_at : (root : Names) (v : View) (connection : ServerLink Transfer) → (is_transferring connection ≡ true → v.session.root ≡ root)
    → StepAt root v (with_connection connection v) (with_connection connection (at_root root v))
moves_at root v connection held = record { is = record { same = refl; apart = λ path out. refl; held = held }; access = refl; top = refl }

says_at : (root : Names) (v : View) (octets : List ℕ) → IsHeld root v.session → StepAt root v (owes octets v) (owes octets (at_root root v))
says_at root v octets held = record { is = record { same = refl; apart = λ path out. refl; held = held }; access = refl; top = refl }

leaves_at : (root : Names) (v : View) (new : Session) → new.table ≡ v.session.table → new.access ≡ v.session.access → new.root ≡ v.session.root → is_transferring new.connection ≡ false
    → StepAt root v (with_session new v) (with_session (at root new) (at_root root v))
leaves_at root v new same access top none = record {
  is = record { same = refl; apart = λ path out. ap (λ table. node_at table path) same; held = λ is. absurd (true≢false (sym is ∙ none)) };
  access = access;
  top = top;
}

-- ---- a line is acted on

given_out_at : (connection : ServerLink Transfer) (root : Names) (v : View) → IsHeld root v.session → StepAt root v (given_out connection v) (given_out connection (at_root root v))
given_out_at (Data.Transferring (Transfers.Download [])) root v held = forgets_at Texts.Complete root v
given_out_at (Data.Transferring (Transfers.Listing [])) root v held = forgets_at Texts.Complete root v
given_out_at (Data.Transferring (Transfers.Download (octet ∷ rest))) root v held = still root v held
given_out_at (Data.Transferring (Transfers.Listing (octet ∷ rest))) root v held = still root v held
given_out_at (Data.Transferring (Transfers.Upload path keep d)) root v held = still root v held
given_out_at (Data.Transferring Transfers.OverLimit) root v held = still root v held
given_out_at (Data.Asked asked) root v held = still root v held
given_out_at (Data.Opening transfer way) root v held = still root v held
given_out_at Data.Free root v held = still root v held
given_out_at (Data.Active endpoint) root v held = still root v held
given_out_at Data.Passive root v held = still root v held
given_out_at Data.Ready root v held = still root v held

-- who is logged in stays so, whatever is held
abbrev pub StaysIn : View → View → Type 0
StaysIn v one = (one.session.access ≡ v.session.access) × (one.session.root ≡ v.session.root)

pub given_out_in : (connection : ServerLink Transfer) (v : View) → StaysIn v (given_out connection v)
given_out_in (Data.Transferring (Transfers.Download [])) v = (refl, refl)
given_out_in (Data.Transferring (Transfers.Listing [])) v = (refl, refl)
given_out_in (Data.Transferring (Transfers.Download (octet ∷ rest))) v = (refl, refl)
given_out_in (Data.Transferring (Transfers.Listing (octet ∷ rest))) v = (refl, refl)
given_out_in (Data.Transferring (Transfers.Upload path keep d)) v = (refl, refl)
given_out_in (Data.Transferring Transfers.OverLimit) v = (refl, refl)
given_out_in (Data.Asked asked) v = (refl, refl)
given_out_in (Data.Opening transfer way) v = (refl, refl)
given_out_in Data.Free v = (refl, refl)
given_out_in (Data.Active endpoint) v = (refl, refl)
given_out_in Data.Passive v = (refl, refl)
given_out_in Data.Ready v = (refl, refl)

obeyed_at : (heard : HeardLine (List ℕ)) (root : Names) (v : View) → IsAt root v → is_transferring v.session.connection ≡ false → IsAt root (obeyed heard v)
    → ViewAt root v (obeyed heard v) (obeyed heard (at_root root v))
unfolding obeyed
obeyed_at heard root v before none known =
    let s : Session = record v.session { pending = Pendings.Nothing } in
    let one : Turn = decided v.context heard v.session.pending s in
    let its : Turn = decided v.context heard v.session.pending (at root s) in
    let w : View = turned one v in
    let in_w = given_out_in w.session.connection w in
    let turn = decided_at v.context heard v.session.pending root s before none (known_before root w (completed w) in_w.0 in_w.1 known) in
    let same : turned its (at_root root v) ≡ at_root root w =
    ap (λ (t : Turn). turned t (at_root root v)) turn.same ∙ ap (λ (octets : List ℕ). record (at_root root w) { owed = v.owed ++ octets }) turn.said in
    after_line root v w (turned its (at_root root v)) completed (record { same = same; apart = turn.apart; held = turn.held }) (given_out_at w.session.connection root w)

pub calm_of : (connection : ServerLink Transfer) → is_connection_busy connection ≡ false → is_transferring connection ≡ false
calm_of Data.Free is = refl
calm_of (Data.Active endpoint) is = refl
calm_of (Data.Asked asked) is = refl
calm_of Data.Passive is = refl
calm_of Data.Ready is = refl
calm_of (Data.Opening transfer way) is = absurd (true≢false is)
calm_of (Data.Transferring transfer) is = absurd (true≢false is)

waited_at : (waiting : Option (HeardLine (List ℕ))) (root : Names) (v : View) → IsAt root v → IsHeld root v.session → IsAt root (waited waiting v)
    → ViewAt root v (waited waiting v) (waited waiting (at_root root v))
waited_at None root v before held known = stays root v held
waited_at (Some heard) root v before held known = by (is_idle v) refl known
  where
    by : (b : Bool) → is_idle v ≡ b → IsAt root (if b then obeyed heard (record v { waiting = None }) else v)
        → ViewAt root v (if b then obeyed heard (record v { waiting = None }) else v) (if b then obeyed heard (record (at_root root v) { waiting = None }) else at_root root v)
    by true idle known =
        let busy = not-true (is_connection_busy v.session.connection) (and_parts (not (is_connection_busy v.session.connection)) (has_room v) idle).0 in
        let done = obeyed_at heard root (record v { waiting = None }) before (calm_of v.session.connection busy) known in
        record { same = done.same; apart = done.apart; held = done.held }
    by false idle known = stays root v held

-- a call: its step, and then the line that waits
pub acts_at : (root : Names) (v one its : View) → StepAt root v one its → IsAt root v → IsAt root (later one) → ViewAt root v (later one) (later its)
acts_at root v one its step before known =
    let next = waited_at one.waiting root one (known_by root v one step.access step.top before) step.is.held known in
    record { same = ap later step.is.same ∙ next.same; apart = λ path out. next.apart path out ∙ step.is.apart path out; held = next.held }

-- ---- how a transfer ends

-- an ending of a session, and the one of it at the root
record EndAt (root : Names) (s : Session) (one its : Ending) : Type 0 where
  pub same : its ≡ (at root one.0, one.1)
  pub apart : IsApartFrom root s.table one.0.table
  pub access : one.0.access ≡ s.access
  pub top : one.0.root ≡ s.root
  pub connection : one.0.connection ≡ s.connection

unchanged : (root : Names) (s : Session) (text : FixedReply) → EndAt root s (s, text) (at root s, text)
unchanged root s text = record { same = refl; apart = λ path out. refl; access = refl; top = refl; connection = refl }

over_own : (path : Names) (keep : Keep) (d : Decoder) (s : Session) → is_over path keep d (at s.root s) ≡ is_over path keep d s
over_own path keep d s = ap (λ part. is_some (octets_refusal part path (kept_count keep + length d.content))) (seen_at s)

put_own : (moment : ℕ) (path : Names) (keep : Keep) (octets : List ℕ) (text : FixedReply) (s : Session) → EndAt s.root s (put_in moment path keep octets s, text) (put_in moment path keep octets (at s.root s), text)
put_own moment path keep octets text s =
    let new : Table → Table = λ part. installed part path (kept_of keep (octets_or_none part path) ++ octets) moment in
    record {
      same = ap (λ (table : Table). (record s { table = table }, text)) (changed_at s.table s.root (new (seen s)) (new (seen (at s.root s))) (ap new (seen_at s)));
      apart = λ path out. part-stays s.table s.root (new (seen s)) path out;
      access = refl;
      top = refl;
      connection = refl;
    }

refusal_own : (path : Names) (keep : Keep) (octets : List ℕ) (s : Session) → end_refusal path keep octets (at s.root s) ≡ end_refusal path keep octets s
refusal_own path keep octets s = rw (part-taken no_nodes s.root (under s.table s.root)) refl

installs_own : (moment : ℕ) (path : Names) (keep : Keep) (d : Decoder) (text : FixedReply) (s : Session) → EndAt s.root s (installs moment path keep d text s) (installs moment path keep d text (at s.root s))
installs_own moment path keep d text s =
    subst (λ why. EndAt s.root s (installs moment path keep d text s) (ends_by why moment path keep d.content text (at s.root s)))
    (sym (refusal_own path keep d.content s)) (by_why (end_refusal path keep d.content s))
  where
    by_why : (why : Option Refusal) → EndAt s.root s (ends_by why moment path keep d.content text s) (ends_by why moment path keep d.content text (at s.root s))
    by_why None = put_own moment path keep d.content text s
    by_why (Some why) = unchanged s.root s (refusal_text why)

break_own : (moment : ℕ) (transfer : Transfer) (s : Session) → EndAt s.root s (at_break moment transfer s) (at_break moment transfer (at s.root s))
break_own moment (Transfers.Upload path keep d) s = by (is_overtaken keep)
  where
    by : (late : Bool) → EndAt s.root s (breaks_off late moment path keep d s) (breaks_off late moment path keep d (at s.root s))
    by true = unchanged s.root s Texts.Broken
    by false = installs_own moment path keep (broken d) Texts.Broken s
break_own moment Transfers.OverLimit s = unchanged s.root s Texts.TooMuch
break_own moment (Transfers.Download rest) s = unchanged s.root s Texts.Broken
break_own moment (Transfers.Listing rest) s = unchanged s.root s Texts.Broken

end_own : (moment : ℕ) (transfer : Transfer) (s : Session) → EndAt s.root s (at_end moment transfer s) (at_end moment transfer (at s.root s))
end_own moment (Transfers.Upload path keep d) s = by (is_whole d)
  where
    by : (b : Bool) → EndAt s.root s (if b then installs moment path keep (ended d) Texts.Complete s else at_break moment (Transfers.Upload path keep d) s)
        (if b then installs moment path keep (ended d) Texts.Complete (at s.root s) else at_break moment (Transfers.Upload path keep d) (at s.root s))
    by true = installs_own moment path keep (ended d) Texts.Complete s
    by false = break_own moment (Transfers.Upload path keep d) s
end_own moment Transfers.OverLimit s = break_own moment Transfers.OverLimit s
end_own moment (Transfers.Download rest) s = break_own moment (Transfers.Download rest) s
end_own moment (Transfers.Listing rest) s = break_own moment (Transfers.Listing rest) s

-- the transfer is over, in a session that has no data connection any more
concluded_at : (root : Names) (v : View) (s : Session) (one : Ending) (its : Names → Ending) → s.root ≡ root → EndAt s.root s one (its s.root) → s.table ≡ v.session.table → s.access ≡ v.session.access
    → s.root ≡ v.session.root → s.connection ≡ Data.Free → StepAt root v (concluded one v) (concluded (its root) (at_root root v))
concluded_at root v s one its same own table access top none =
    let end : EndAt root s one (its root) = subst (λ r. EndAt r s one (its r)) same own in
    record {
      is = record {
        same = ap (λ (e : Ending). concluded e (at_root root v)) end.same;
        apart = λ path out. end.apart path out ∙ ap (λ t. node_at t path) table;
        held = λ is. absurd (true≢false (sym is ∙ ap is_transferring (end.connection ∙ none)));
      };
      access = end.access ∙ access;
      top = end.top ∙ top;
    }

-- ---- the steps of the calls

by_connection : (root : Names) (v : View) (f : ServerLink Transfer → View → View) → StepAt root v (f Data.Free v) (f Data.Free (at_root root v))
    → StepAt root v (f v.session.connection v) (f v.session.connection (at_root root v)) → StepAt root v (f (connection_of v.session) v) (f (connection_of v.session) (at_root root v))
by_connection root v f none one = cond_both v.session.closing Data.Free v.session.connection (λ connection. StepAt root v (f connection v) (f connection (at_root root v))) (λ is. none) (λ is. one)

pub clock_at : (moment : ℕ) (root : Names) (v : View) → IsHeld root v.session → StepAt root v (clock_step moment v) (clock_step moment (at_root root v))
clock_at moment root v held = record { is = record { same = refl; apart = λ path out. refl; held = held }; access = refl; top = refl }

pub control_at : (count : ℕ) (root : Names) (v : View) → IsHeld root v.session → StepAt root v (control_step count v) (control_step count (at_root root v))
control_at count root v held = record { is = record { same = refl; apart = λ path out. refl; held = held }; access = refl; top = refl }

pub close_at : (root : Names) (v : View) → IsHeld root v.session → StepAt root v (close_step v) (close_step (at_root root v))
close_at root v held = record { is = record { same = refl; apart = λ path out. refl; held = held }; access = refl; top = refl }

pub control_end_at : (root : Names) (v : View) → ViewAt root v (control_end v) (control_end (at_root root v))
unfolding control_end
control_end_at root v = record { same = refl; apart = λ path out. refl; held = λ is. absurd (true≢false (sym is)) }

listens_at : (port : ℕ) (connection : ServerLink Transfer) (root : Names) (v : View) → IsHeld root v.session
    → StepAt root v (turned (listening_turn connection v.context port v.session) v) (turned (listening_turn connection v.context port (at root v.session)) (at_root root v))
listens_at port (Data.Asked Asking.Pasv) root v held = calm root v (record v.session { connection = Data.Passive }) _ refl refl refl refl
listens_at port (Data.Asked Asking.Epsv) root v held = calm root v (record v.session { connection = Data.Passive }) _ refl refl refl refl
listens_at port Data.Free root v held = says_at root v [] held
listens_at port (Data.Active endpoint) root v held = says_at root v [] held
listens_at port Data.Passive root v held = says_at root v [] held
listens_at port (Data.Opening transfer way) root v held = says_at root v [] held
listens_at port Data.Ready root v held = says_at root v [] held
listens_at port (Data.Transferring transfer) root v held = says_at root v [] held

pub listening_at : (port : ℕ) (root : Names) (v : View) → IsHeld root v.session → StepAt root v (listening_step port v) (listening_step port (at_root root v))
listening_at port root v held =
    by_connection root v (λ connection u. turned (listening_turn connection u.context port u.session) u) (says_at root v [] held) (listens_at port v.session.connection root v held)

unheard_at : (connection : ServerLink Transfer) (root : Names) (v : View) → IsHeld root v.session → StepAt root v (unheard connection v) (unheard connection (at_root root v))
unheard_at (Data.Asked asked) root v held = calm root v (disconnected v.session) _ refl refl refl refl
unheard_at Data.Free root v held = still root v held
unheard_at (Data.Active endpoint) root v held = still root v held
unheard_at Data.Passive root v held = still root v held
unheard_at (Data.Opening transfer way) root v held = still root v held
unheard_at Data.Ready root v held = still root v held
unheard_at (Data.Transferring transfer) root v held = still root v held

pub no_port_at : (root : Names) (v : View) → IsHeld root v.session → StepAt root v (no_port_step v) (no_port_step (at_root root v))
no_port_at root v held = by_connection root v unheard (still root v held) (unheard_at v.session.connection root v held)

opens_for : (is_peer : Bool) (transfer : Transfer) (root : Names) (v : View) → v.session.root ≡ root → StepAt root v (port_opens_for is_peer transfer v) (port_opens_for is_peer transfer (at_root root v))
opens_for true transfer root v same = moves_at root v (Data.Transferring transfer) (λ is. same)
opens_for false transfer root v same = forgets_at Texts.NoConnection root v

opens_at : (connection : ServerLink Transfer) (is_peer : Bool) (root : Names) (v : View) → v.session.connection ≡ connection → IsHeld root v.session
    → StepAt root v (opens connection is_peer v) (opens connection is_peer (at_root root v))
opens_at Data.Passive true root v is held = moves_at root v Data.Ready (λ is. absurd (true≢false (sym is)))
opens_at Data.Passive false root v is held = leaves_at root v (forgotten v.session) refl refl refl refl
opens_at (Data.Opening transfer Ways.Accept) is_peer root v is held = opens_for is_peer transfer root v (held (ap is_transferring is))
opens_at (Data.Opening transfer (Ways.Connect endpoint)) is_peer root v is held = opens_for true transfer root v (held (ap is_transferring is))
opens_at Data.Free is_peer root v is held = still root v held
opens_at (Data.Active endpoint) is_peer root v is held = still root v held
opens_at (Data.Asked asked) is_peer root v is held = still root v held
opens_at Data.Ready is_peer root v is held = still root v held
opens_at (Data.Transferring transfer) is_peer root v is held = still root v held

pub opened_at : (host : Host) (root : Names) (v : View) → IsHeld root v.session → StepAt root v (opened_step host v) (opened_step host (at_root root v))
opened_at host root v held =
    let is_peer : Bool = same_host host v.context.peer in
    let w : View = opens (connection_of v.session) is_peer v in
    more root v w (opens (connection_of v.session) is_peer (at_root root v)) completed
    (by_connection root v (λ connection u. opens connection is_peer u) (still root v held) (opens_at v.session.connection is_peer root v refl held))
    (given_out_at w.session.connection root w)

refuses_at : (connection : ServerLink Transfer) (root : Names) (v : View) → IsHeld root v.session → StepAt root v (refuses connection v) (refuses connection (at_root root v))
refuses_at Data.Passive root v held = leaves_at root v (forgotten v.session) refl refl refl refl
refuses_at (Data.Opening transfer way) root v held = forgets_at Texts.NoConnection root v
refuses_at Data.Free root v held = still root v held
refuses_at (Data.Active endpoint) root v held = still root v held
refuses_at (Data.Asked asked) root v held = still root v held
refuses_at Data.Ready root v held = still root v held
refuses_at (Data.Transferring transfer) root v held = still root v held

pub refused_step_at : (root : Names) (v : View) → IsHeld root v.session → StepAt root v (refused_step v) (refused_step (at_root root v))
refused_step_at root v held = by_connection root v refuses (still root v held) (refuses_at v.session.connection root v held)

ends_at : (connection : ServerLink Transfer) (root : Names) (v : View) → v.session.connection ≡ connection → IsHeld root v.session → StepAt root v (ends connection v) (ends connection (at_root root v))
ends_at Data.Ready root v is held = leaves_at root v (disconnected v.session) refl refl refl refl
ends_at (Data.Transferring transfer) root v is held =
    let s : Session = disconnected v.session in
    concluded_at root v s (at_end v.context.moment transfer s) (λ r. at_end v.context.moment transfer (at r s)) (held (ap is_transferring is)) (end_own v.context.moment transfer s) refl refl refl refl
ends_at Data.Free root v is held = still root v held
ends_at (Data.Active endpoint) root v is held = still root v held
ends_at (Data.Asked asked) root v is held = still root v held
ends_at Data.Passive root v is held = still root v held
ends_at (Data.Opening transfer way) root v is held = still root v held

pub end_at : (root : Names) (v : View) → IsHeld root v.session → StepAt root v (end_step v) (end_step (at_root root v))
end_at root v held = by_connection root v ends (still root v held) (ends_at v.session.connection root v refl held)

breaks_at : (connection : ServerLink Transfer) (root : Names) (v : View) → v.session.connection ≡ connection → IsHeld root v.session → StepAt root v (breaks connection v) (breaks connection (at_root root v))
breaks_at Data.Ready root v is held = leaves_at root v (disconnected v.session) refl refl refl refl
breaks_at (Data.Transferring transfer) root v is held =
    let s : Session = disconnected v.session in
    concluded_at root v s (at_break v.context.moment transfer s) (λ r. at_break v.context.moment transfer (at r s)) (held (ap is_transferring is)) (break_own v.context.moment transfer s) refl refl refl refl
breaks_at Data.Free root v is held = still root v held
breaks_at (Data.Active endpoint) root v is held = still root v held
breaks_at (Data.Asked asked) root v is held = still root v held
breaks_at Data.Passive root v is held = still root v held
breaks_at (Data.Opening transfer way) root v is held = still root v held

pub break_at : (root : Names) (v : View) → IsHeld root v.session → StepAt root v (break_step v) (break_step (at_root root v))
break_at root v held = by_connection root v breaks (still root v held) (breaks_at v.session.connection root v refl held)

takes_given_at : (count : ℕ) (connection : ServerLink Transfer) (root : Names) (v : View) → v.session.connection ≡ connection → IsHeld root v.session
    → StepAt root v (takes_given connection count v) (takes_given connection count (at_root root v))
takes_given_at count (Data.Transferring (Transfers.Download rest)) root v is held = moves_at root v (Data.Transferring (Transfers.Download _)) (λ _. held (ap is_transferring is))
takes_given_at count (Data.Transferring (Transfers.Listing rest)) root v is held = moves_at root v (Data.Transferring (Transfers.Listing _)) (λ _. held (ap is_transferring is))
takes_given_at count (Data.Transferring (Transfers.Upload path keep d)) root v is held = still root v held
takes_given_at count (Data.Transferring Transfers.OverLimit) root v is held = still root v held
takes_given_at count Data.Free root v is held = still root v held
takes_given_at count (Data.Active endpoint) root v is held = still root v held
takes_given_at count (Data.Asked asked) root v is held = still root v held
takes_given_at count Data.Passive root v is held = still root v held
takes_given_at count (Data.Opening transfer way) root v is held = still root v held
takes_given_at count Data.Ready root v is held = still root v held

pub given_at : (count : ℕ) (root : Names) (v : View) → IsHeld root v.session → StepAt root v (given_step count v) (given_step count (at_root root v))
given_at count root v held =
    let w : View = takes_given (connection_of v.session) count v in
    more root v w (takes_given (connection_of v.session) count (at_root root v)) completed
    (by_connection root v (λ connection u. takes_given connection count u) (still root v held) (takes_given_at count v.session.connection root v refl held))
    (given_out_at w.session.connection root w)

-- ---- the octets of an upload

grown_at : (path : Names) (keep : Keep) (d : Decoder) (root : Names) (s : Session) → s.root ≡ root → grown path keep d (at root s) ≡ grown path keep d s
grown_at path keep d root s same =
    subst (λ r. grown path keep d (at r s) ≡ grown path keep d s) same
    (ap (λ b. if b then Data.Transferring Transfers.OverLimit else Data.Transferring (Transfers.Upload path keep d)) (over_own path keep d s))

said_at : (connection : ServerLink Transfer) (said : Said) (root : Names) (v : View) → v.session.connection ≡ connection → IsHeld root v.session
    → StepAt root v (takes_said connection said v) (takes_said connection said (at_root root v))
said_at (Data.Transferring (Transfers.Upload path keep d)) (says sign) root v is held =
    let same : v.session.root ≡ root = held (ap is_transferring is) in
    let c : ServerLink Transfer = grown path keep (with_sign d sign) v.session in
    let step = moves_at root v c (λ _. same) in
    record {
      is = record { same = ap (λ (g : ServerLink Transfer). with_connection g (at_root root v)) (grown_at path keep (with_sign d sign) root v.session same); apart = step.is.apart; held = step.is.held };
      access = refl;
      top = refl;
    }
said_at (Data.Transferring (Transfers.Upload path keep d)) (marker text) root v is held =
    let c : ServerLink Transfer = Data.Transferring (Transfers.Upload path keep d) in
    record { is = record { same = refl; apart = λ path out. refl; held = λ _. held (ap is_transferring is) }; access = refl; top = refl }
said_at (Data.Transferring Transfers.OverLimit) said root v is held = still root v held
said_at (Data.Transferring (Transfers.Download rest)) said root v is held = still root v held
said_at (Data.Transferring (Transfers.Listing rest)) said root v is held = still root v held
said_at Data.Free said root v is held = still root v held
said_at (Data.Active endpoint) said root v is held = still root v held
said_at (Data.Asked asked) said root v is held = still root v held
said_at Data.Passive said root v is held = still root v held
said_at (Data.Opening transfer way) said root v is held = still root v held
said_at Data.Ready said root v is held = still root v held

all_at : (said : List Said) (root : Names) (v : View) → IsHeld root v.session → StepAt root v (takes_all said v) (takes_all said (at_root root v))
all_at [] root v held = still root v held
all_at (said ∷ rest) root v held =
    more root v (takes_said v.session.connection said v) (takes_said v.session.connection said (at_root root v)) (takes_all rest) (said_at v.session.connection said root v refl held)
    (all_at rest root (takes_said v.session.connection said v))

octet_at : (fault : Option FrameFault) (path : Names) (keep : Keep) (d : Decoder) (said : List Said) (root : Names) (v : View) → v.session.root ≡ root
    → StepAt root v (takes_octet fault path keep d said v) (takes_octet fault path keep d said (at_root root v))
octet_at None path keep d said root v same =
    let c : ServerLink Transfer = Data.Transferring (Transfers.Upload path keep d) in
    more root v (with_connection c v) (with_connection c (at_root root v)) (takes_all said) (moves_at root v c (λ _. same)) (all_at said root (with_connection c v))
octet_at (Some fault) path keep d said root v same = forgets_at Texts.LocalFault root v

data_at : (connection : ServerLink Transfer) (octet : ℕ) (root : Names) (v : View) → v.session.connection ≡ connection → IsHeld root v.session
    → StepAt root v (takes_data connection octet v) (takes_data connection octet (at_root root v))
data_at (Data.Transferring (Transfers.Upload path keep d)) octet root v is held =
    octet_at (fault_of (read_on d octet)) path keep (read_on d octet) (octet_says d octet) root v (held (ap is_transferring is))
data_at (Data.Transferring Transfers.OverLimit) octet root v is held = still root v held
data_at (Data.Transferring (Transfers.Download rest)) octet root v is held = still root v held
data_at (Data.Transferring (Transfers.Listing rest)) octet root v is held = still root v held
data_at Data.Free octet root v is held = still root v held
data_at (Data.Active endpoint) octet root v is held = still root v held
data_at (Data.Asked asked) octet root v is held = still root v held
data_at Data.Passive octet root v is held = still root v held
data_at (Data.Opening transfer way) octet root v is held = still root v held
data_at Data.Ready octet root v is held = still root v held

pub receives_at : (octet : ℕ) (root : Names) (v : View) → IsHeld root v.session
    → StepAt root v (takes_data (connection_of v.session) octet v) (takes_data (connection_of v.session) octet (at_root root v))
receives_at octet root v held =
    by_connection root v (λ connection u. takes_data connection octet u) (still root v held) (data_at v.session.connection octet root v refl held)

-- ---- ABOR during a transfer

aborts_at : (connection : ServerLink Transfer) (root : Names) (v : View) → v.session.connection ≡ connection → IsHeld root v.session → StepAt root v (aborts connection v) (aborts connection (at_root root v))
aborts_at (Data.Transferring transfer) root v is held =
    let s : Session = forgotten v.session in
    concluded_at root v s (at_break v.context.moment transfer s) (λ r. at_break v.context.moment transfer (at r s)) (held (ap is_transferring is)) (break_own v.context.moment transfer s) refl refl refl refl
aborts_at (Data.Opening transfer way) root v is held = forgets_at Texts.NoConnection root v
aborts_at Data.Free root v is held = still root v held
aborts_at (Data.Active endpoint) root v is held = still root v held
aborts_at (Data.Asked asked) root v is held = still root v held
aborts_at Data.Passive root v is held = still root v held
aborts_at Data.Ready root v is held = still root v held

pub abort_at : (root : Names) (v : View) → IsHeld root v.session
    → StepAt root v (abort_said (aborts v.session.connection v)) (abort_said (aborts v.session.connection (at_root root v)))
abort_at root v held =
    let w : View = aborts v.session.connection v in
    more root v w (aborts v.session.connection (at_root root v)) abort_said (aborts_at v.session.connection root v refl held) (says_at root w _)

-- a line waits
pub waits_at : (heard : HeardLine (List ℕ)) (root : Names) (v : View) → IsHeld root v.session → StepAt root v (record v { waiting = Some heard }) (record (at_root root v) { waiting = Some heard })
waits_at heard root v held = record { is = record { same = refl; apart = λ path out. refl; held = held }; access = refl; top = refl }
