-- A line leaves a data connection that is not opened asked for or opening at most.
use Rattle.std.proofs.Common.{◌≡◌, ℕ, Bool, true, false, not, ◌&&◌, List, refl, sym, subst}
use Rattle.ftp_path.specs.Path.{Names}
use Rattle.ftp_server_model.specs.Act.{decided}
use Rattle.ftp_server_model.specs.Replies.{Turn}
use Rattle.ftp_server_model.specs.Transfer.{begin}
use Rattle.ftp_server_model.specs.View.{Context, Session, Transfer}
use Rattle.ftp_server_model.specs.declared.heard.HeardLine.{HeardLine}
use Rattle.ftp_server_model.specs.declared.session.ServerLink.{ServerLink}
use Rattle.ftp_server_model.specs.declared.session.ServerLink.TheVariants as Data
use Rattle.ftp_server_model.specs.declared.session.Pending.{Pending}
use Rattle.laws_server.specs.one.Links.{Aims, Asks as Asked, Begins, Forgets, Stays, Turned, turned_so, with_link}
use Rattle.laws_server.proofs.one.LineTurns.{lines_go_beside}
use Rattle.tool_dialogue.specs.Free.{is_at_rest, is_unopened}

-- what can be served until nothing is left to be done: no data connection is open, and where one opens nothing is to be closed first
abbrev pub Servable : ServerLink Transfer → (closing : Bool) → Type 0
Servable Data.Free closing = Unit {0}
Servable (Data.Asked asked) closing = Unit {0}
Servable (Data.Active endpoint) closing = Unit {0}
Servable Data.Passive closing = Unit {0}
Servable Data.Ready closing = ⊥
Servable (Data.Opening transfer way) closing = closing ≡ false
Servable (Data.Transferring transfer) closing = ⊥

-- a command leads there
abbrev pub Leads : Turn → Type 0
Leads turn = Servable turn.0.connection turn.0.closing

-- nothing is left to be done
abbrev pub Rests : Session → Type 0
Rests s = is_at_rest s ≡ true

rest_leads : (c : ServerLink Transfer) (closing : Bool) → (is_unopened c && not closing) ≡ true → Servable c closing
rest_leads Data.Free closing is = tt
rest_leads (Data.Asked asked) closing is = tt
rest_leads (Data.Active endpoint) closing is = tt
rest_leads Data.Passive closing is = tt
rest_leads Data.Ready closing is = absurd (let e : false ≡ true = is in cc)
rest_leads (Data.Opening transfer way) closing is = absurd (let e : false ≡ true = is in cc)
rest_leads (Data.Transferring transfer) closing is = absurd (let e : false ≡ true = is in cc)

pub calm : (s : Session) → Rests s → Servable s.connection s.closing
calm s is = rest_leads s.connection s.closing is

not_closing : (c : ServerLink Transfer) (closing : Bool) → (is_unopened c && not closing) ≡ true → closing ≡ false
not_closing c false is = refl
not_closing Data.Free true is = absurd (let e : false ≡ true = is in cc)
not_closing (Data.Asked asked) true is = absurd (let e : false ≡ true = is in cc)
not_closing (Data.Active endpoint) true is = absurd (let e : false ≡ true = is in cc)
not_closing Data.Passive true is = absurd (let e : false ≡ true = is in cc)
not_closing Data.Ready true is = absurd (let e : false ≡ true = is in cc)
not_closing (Data.Opening transfer way) true is = absurd (let e : false ≡ true = is in cc)
not_closing (Data.Transferring transfer) true is = absurd (let e : false ≡ true = is in cc)

leads_begin : (c : ServerLink Transfer) (transfer : Transfer) (s : Session) → Rests s → (is_unopened c && not s.closing) ≡ true → Leads (begin c transfer s)
leads_begin Data.Free transfer s is e = calm s is
leads_begin (Data.Active endpoint) transfer s is e = not_closing (Data.Active endpoint) s.closing e
leads_begin Data.Passive transfer s is e = not_closing Data.Passive s.closing e
leads_begin Data.Ready transfer s is e = absurd (let wrong : false ≡ true = e in cc)
leads_begin (Data.Asked asked) transfer s is e = calm s is
leads_begin (Data.Opening other way) transfer s is e = calm s is
leads_begin (Data.Transferring other) transfer s is e = calm s is

-- what a line does to the data connection
leads_so : (turned : Turned) (turn : Turn) (s : Session) → Rests s → Leads (turned_so turned s.connection s.closing turn)
leads_so Stays turn s is = calm s is
leads_so Forgets turn s is = tt
leads_so (Asked verb) turn s is = tt
leads_so (Aims endpoint) turn s is = tt
leads_so (Begins transfer) turn s is = leads_begin s.connection transfer (with_link s.connection s.closing turn.0) is is

-- so it is of whatever a line asks
pub leads_decided : (context : Context) (heard : HeardLine (List ℕ)) (pending : Pending Names) (s : Session) → Rests s → Leads (decided context heard pending s)
leads_decided context heard pending s is =
    let of = lines_go_beside context heard pending s in
    subst Leads (sym (of.is s.connection s.closing)) (leads_so of.turned of.turn s is)
