-- How a world's client is ahead of a drive's where dials may fail: as where none does, or it heard what is left of a 150 that a dial failed after; then the
-- server has no data connection and hears nothing, until the client heard that too.
use Rattle.std.proofs.Common.{◌≡◌, ℕ, Bool, true, false, true≢false, List, [], ◌∷◌, ◌++◌, Some, None, refl, sym, ap, subst, ◌∙◌, append_assoc}
use Rattle.ftp_ports.specs.Asking.{Came, Connected, Ended as EndedBy, NotConnected, Reset, Shut}
use Rattle.ftp_ports.specs.Actions.{Action, Done, Heard as HearsOctets, Other, Read, Said as Says, Stand}
use Rattle.ftp_ports.specs.Machine.{Aside, Closed, End, Gave, Got, Left, LetGo, Listening, Opened, Received, Refused, Waited, Wrote, held}
use Rattle.ftp_ends.specs.declared.link.Wants.{Wants}
use Rattle.ftp_ends.specs.declared.link.Wants.TheVariants as Want
use Rattle.ftp_client_driver.specs.Side.{client_side}
use Rattle.ftp_client_model.specs.Calls as near
use Rattle.ftp_client_model.specs.Calls.{data_closed}
use Rattle.ftp_client_model.specs.View.{Flow}
use Rattle.ftp_operation.specs.Answer.{Said}
use Rattle.ftp_operation.specs.declared.op.Op.{Op}
use Rattle.ftp_server_driver.specs.alone.Side.{HearsBy, ends_line, server_side}
use Rattle.ftp_server_model.specs.Calls as far
use Rattle.ftp_server_model.specs.Machine.{IsReading, Reading, hears}
use Rattle.ftp_server_model.specs.View.{View as Far}
use Rattle.ftp_server_model.specs.declared.session.ServerLink.TheVariants as Data
use Rattle.laws_world.specs.Agreement.{Order}
use Rattle.laws_world.specs.World.{Mark, World}
use Rattle.laws_agreement.proofs.Chunks.{both_empty}
use Rattle.laws_drivers.specs.control.Between.{Between, Can, Far as TheServer}
use Rattle.laws_drivers.specs.control.Touches.{Accepts, Dials, Ends, IsDenied, IsMissed, Listens, None_of_it, Parts, Reads, Resets, Says as SaysOctets, Takes, ToldBreak, ToldEnd, Touch, Writes, touch_in}
use Rattle.laws_drivers.proofs.world.Served.{far_wants}
use Rattle.laws_drivers.proofs.events.FarForms.{none_later}
use Rattle.laws_drivers.proofs.events.Holding.{is_called}
use Rattle.laws_drivers.proofs.events.Stands.{ServerServes}
use Rattle.laws_transfers.proofs.Beside.{GoesTo}
use Rattle.laws_active.specs.Refusals.{Gain, Heard, Led, ServerTries, is_heard}
use Rattle.laws_active.proofs.Accepting.{IsFew}
use Rattle.laws_active.proofs.Calls.{Opens}
use Rattle.laws_active.proofs.Leading.{led_between, led_client, led_told}
use Rattle.laws_active.proofs.Leads.{LedSo}

-- ---- the client that is ahead

-- it heard these, and has read nothing else
abbrev pub heard_client : List ℕ → Stand client_side → Stand client_side
heard_client octets c = record c {
  owner = held (record c.owner.end { view = near.hears (data_closed c.owner.end.view) octets }) c.owner.channel;
  unheard = [];
}

-- these are left to be read of what comes to it
abbrev pub heard_between : (more : List ℕ) → Between → Between
heard_between more between = record between { control = record between.control { to_client = more } }

abbrev pub gained_client : Gain → Stand client_side → Stand client_side
gained_client (Led lead) c = led_client lead c
gained_client (Heard octets) c = heard_client octets c

abbrev pub gained_between : Gain → (more : List ℕ) → Between → Between
gained_between (Led lead) more between = led_between lead more between
gained_between (Heard octets) more between = heard_between more between

-- so many ports were told
abbrev pub gained_told : Gain → ℕ → ℕ
gained_told (Led lead) told = led_told lead told
gained_told (Heard octets) told = told

-- ---- what is so of the drives' then

-- the client is at its port, and these octets, of the 150, come to it first
pub record IsHearing (octets more : List ℕ) (between : Between) (c : Stand client_side) : Type 0 where
  pub op : Op (List ℕ)
  pub flow : Flow
  pub few : IsFew op flow
  pub port : ℕ
  pub octet : ℕ
  pub others : List ℕ
  pub some : octets ≡ octet ∷ others
  pub opens : Opens op flow port (data_closed c.owner.end.view) octets
  pub owed : c.owner.end.view.owed ≡ []
  pub queue : c.unheard ++ between.control.to_client ≡ octets ++ more
  pub called : is_called between.near ≡ false

-- so it is where what comes to it comes otherwise, while nobody dialled its port
abbrev pub hearing_still : {octets more rest : List ℕ} {between next : Between} {c : Stand client_side} (h : IsHearing octets more between c)
    → c.unheard ++ next.control.to_client ≡ octets ++ rest → is_called next.near ≡ false → IsHearing octets rest next c
hearing_still h queue called = record {
  op = h.op;
  flow = h.flow;
  few = h.few;
  port = h.port;
  octet = h.octet;
  others = h.others;
  some = h.some;
  opens = h.opens;
  owed = h.owed;
  queue = queue;
  called = called;
}

-- the server has no data connection, and nothing comes to it
pub record IsIdle (between : Between) (server : Stand server_side) : Type 0 where
  pub free : server.owner.end.server.view.session.connection ≡ Data.Free
  pub none_comes : server.unheard ++ between.control.to_server ≡ []

abbrev pub GainSo : Gain → (more : List ℕ) → Between → (told : ℕ) → Stand server_side → Stand client_side → Type 0
GainSo (Led lead) more between told server c = LedSo lead more between told server c
GainSo (Heard octets) more between told server c = IsHearing octets more between c × IsIdle between server

-- a world is beside both again, with its client ahead so, and has these marks; it heard octets only where a dial of the server failed
pub record GainsTo (read : Reading) (more begun : List Order) (between : Between) (told : ℕ) (server : Stand server_side) (client : Stand client_side)
    (reports : List Said) (marks : List (List Mark)) (failed : Bool) (w : World) : Type 0 where
  pub gain : Gain
  pub left : List ℕ
  pub so : GainSo gain left between told server client
  pub heard : is_heard gain ≡ true → failed ≡ true
  pub goes : GoesTo read more begun (gained_between gain left between) (gained_told gain told) server (gained_client gain client) reports marks w

-- ---- what a server does lies between as ever

-- so it is after an action of a server
pub record Follows (touch : Touch) (octets more : List ℕ) (old new : Between) : Type 0 where
  pub rest : List ℕ
  pub can : Can TheServer touch (heard_between more old) (heard_between rest new)
  pub queue : (unheard : List ℕ) → unheard ++ old.control.to_client ≡ octets ++ more → unheard ++ new.control.to_client ≡ octets ++ rest

module _ (octets more : List ℕ) (old new : Between) where
  -- the client has the same to read
  stays : (touch : Touch) → new.control.to_client ≡ old.control.to_client → Can TheServer touch (heard_between more old) (heard_between more new)
      → Follows touch octets more old new
  stays touch same can = record { rest = more; can = can; queue = λ unheard q. ap (λ o. unheard ++ o) same ∙ q }

  -- since all that lies between is this
  moves : (touch : Touch) (b : Between) → new ≡ b → b.control.to_client ≡ old.control.to_client
      → (heard_between more new ≡ heard_between more b → Can TheServer touch (heard_between more old) (heard_between more new))
      → Follows touch octets more old new
  moves touch b is same can =
      stays touch (ap (λ (m : Between). m.control.to_client) is ∙ same) (can (ap (heard_between more) is))

  pub hearing_follows : (touch : Touch) → Can TheServer touch old new → Follows touch octets more old new
  hearing_follows None_of_it can = moves None_of_it old can refl (λ e. e)
  hearing_follows Parts can = moves Parts old can refl (λ e. e)
  hearing_follows (Listens None) can = moves (Listens None) old can refl (λ e. e)
  hearing_follows (IsDenied endpoint) can = moves (IsDenied endpoint) old can refl (λ e. e)
  hearing_follows IsMissed can = moves IsMissed old can refl (λ e. e)
  hearing_follows (SaysOctets said) can = record {
    rest = more ++ said;
    can = ap (heard_between (more ++ said)) can;
    queue = λ unheard q.
        ap (λ (b : Between). unheard ++ b.control.to_client) can ∙ sym (append_assoc unheard old.control.to_client said) ∙ ap (λ o. o ++ said) q
        ∙ append_assoc octets more said;
  }
  hearing_follows (Reads read) can = moves (Reads read) _ can.1 refl (λ e. (can.0, e))
  hearing_follows (Listens (Some port)) can = moves (Listens (Some port)) _ can.1 refl (λ e. (can.0, e))
  hearing_follows (Dials endpoint) can = moves (Dials endpoint) _ can.2 refl (λ e. (can.0, can.1, e))
  hearing_follows (Accepts host) can = moves (Accepts host) _ can.1 refl (λ e. (can.0, e))
  hearing_follows (Writes wrote) can = moves (Writes wrote) _ can.1 refl (λ e. (can.0, e))
  hearing_follows (Takes took) can = moves (Takes took) _ can.2 refl (λ e. (can.0, can.1, e))
  hearing_follows Ends can = moves Ends _ can.1 refl (λ e. (can.0, e))
  hearing_follows Resets can = moves Resets _ can.1 refl (λ e. (can.0, e))
  hearing_follows ToldEnd can = moves ToldEnd old can.2 refl (λ e. (can.0, can.1, e))
  hearing_follows ToldBreak can = moves ToldBreak _ can.1 refl (λ e. (can.0, e))

-- ---- a server without a data connection stays so

-- what it wants, where it wants anything: a close
abbrev pub is_close : Wants → Bool
is_close Want.CloseData = true
is_close Want.Nothing = true
is_close other = false

module _ (read : Reading) (reads : IsReading read) (old new : Stand server_side) (before : ServerServes old.owner) (between next : Between)
    (idle : IsIdle between old) where
  abbrev v : Far
  v = old.owner.end.server.view

  abbrev u : Far
  u = new.owner.end.server.view

  pub idle_never : {A : Type 0} → (q : Wants) → far.wants v ≡ q → is_close q ≡ false → A
  idle_never q is other = by v.session.closing refl
    where
      by : {A : Type 0} → (closing : Bool) → v.session.closing ≡ closing → A
      by true shut = absurd (true≢false (sym (ap is_close (sym is ∙ wants_shut)) ∙ other))
        where
          wants_shut : far.wants v ≡ Want.CloseData
          wants_shut = ap (λ c. far.wants (record v { session = record v.session { closing = c } })) shut
      by false unclosed =
          absurd (true≢false (sym (ap is_close (sym is ∙ far_wants v before.running unclosed ∙ ap far.wants_of idle.free)) ∙ other))

  -- it holds the same, and nothing comes still
  same : u.session.connection ≡ v.session.connection → new.unheard ++ next.control.to_server ≡ old.unheard ++ between.control.to_server → IsIdle next new
  same is queue = record { free = is ∙ idle.free; none_comes = queue ∙ idle.none_comes }

  -- where the same lies between
  rests : u.session.connection ≡ v.session.connection → new.unheard ≡ old.unheard → next.control.to_server ≡ between.control.to_server → IsIdle next new
  rests is unheard queue = same is (ap (λ o. o ++ next.control.to_server) unheard ∙ ap (λ q. old.unheard ++ q) queue)

  linked : u ≡ v → u.session.connection ≡ v.session.connection
  linked is = ap (λ (f : Far). f.session.connection) is

  pub idles_on : (action : Action server_side) → ServerTries action old.owner new.owner → Can TheServer (touch_in action) between next → Done action old new
      → IsIdle next new
  idles_on (HearsOctets octets) is can did =
      let none : old.unheard ≡ [] = (both_empty old.unheard between.control.to_server idle.none_comes).0 in
      let none_heard = both_empty octets new.unheard (sym did.next ∙ none) in
      let alone = subst (λ o. HearsBy (ends_line o) octets old.owner.end new.owner.end) none did.hears.0.1 in
      rests (linked ((alone.0 read reads).done is.1 ∙ ap (hears read v) none_heard.0)) (none_heard.1 ∙ sym none)
      (ap (λ (b : Between). b.control.to_server) can)
  idles_on (Says octets) is can did =
      rests (ap (λ (f : Far). f.session.connection) (did.gives.gave.0.done is.1) ∙ ap (λ (f : Far). f.session.connection) (none_later _ before.none_waits))
      did.unheard (ap (λ (b : Between). b.control.to_server) can)
  idles_on (Read octets) is can did =
      same (ap (λ o. o.end.server.view.session.connection) did.owner)
      (ap (λ o. o ++ next.control.to_server) did.unheard ∙ sym can.0 ∙ ap (λ o. o ++ between.control.to_server) (sym did.heard))
  idles_on (Other (Aside tt)) is can did =
      rests (ap (λ at. at.server.view.session.connection) did.0.0.0) (ap (λ (s : Stand server_side). s.unheard) did.1)
      (ap (λ (b : Between). b.control.to_server) can)
  idles_on (Other (Listening port)) is can did = idle_never Want.Listen did.0.2.0 refl
  idles_on (Other (Opened host (Came from left written ∷ []) at_first so_far rest)) is can did = idle_never Want.Accept did.0.2.0 refl
  idles_on (Other (Opened host (Connected endpoint left written ∷ []) at_first so_far rest)) is can did = idle_never (Want.Connect endpoint) did.0.2.0 refl
  idles_on (Other (Refused (NotConnected endpoint ∷ []))) is can did = idle_never (Want.Connect endpoint) did.0.2.0 refl
  idles_on (Other (Got octets)) is can did = idle_never Want.Receive did.0.2 refl
  idles_on (Other (Received octets count)) is can did = idle_never Want.Receive did.0.2.1 refl
  idles_on (Other End) is can did = idle_never Want.Receive did.0.2 refl
  idles_on (Other (Gave count octets rest)) is can did = idle_never Want.Send did.0.2 refl
  idles_on (Other (Wrote octets)) is can did =
      rests (ap (λ at. at.server.view.session.connection) did.0.0) (ap (λ (s : Stand server_side). s.unheard) did.1)
      (ap (λ (b : Between). b.control.to_server) can.1)
  idles_on (Other (Waited lost)) is can did =
      rests (ap (λ at. at.server.view.session.connection) did.0.0) (ap (λ (s : Stand server_side). s.unheard) did.1)
      (ap (λ (b : Between). b.control.to_server) can)
  idles_on (Other (LetGo octets)) is can did =
      rests (ap (λ at. at.server.view.session.connection) did.0.0.0) (ap (λ (s : Stand server_side). s.unheard) did.1)
      (ap (λ (b : Between). b.control.to_server) can)
  idles_on (Other (Left (EndedBy left written))) is can did =
      rests (ap (λ at. at.server.view.session.connection) did.0.0) (ap (λ (s : Stand server_side). s.unheard) did.1)
      (ap (λ (b : Between). b.control.to_server) can.1)
  idles_on (Other (Left (Reset left written))) is can did =
      rests (ap (λ at. at.server.view.session.connection) did.0.0) (ap (λ (s : Stand server_side). s.unheard) did.1)
      (ap (λ (b : Between). b.control.to_server) can.1)
  idles_on (Other (Left Shut)) is can did =
      rests (ap (λ at. at.server.view.session.connection) did.0.0) (ap (λ (s : Stand server_side). s.unheard) did.1)
      (ap (λ (b : Between). b.control.to_server) can)
  idles_on (Other Closed) is can did =
      rests (ap (λ (f : Far). f.session.connection) (did.0.0.0.done is.1) ∙ ap (λ (f : Far). f.session.connection) (none_later _ before.none_waits))
      (ap (λ (s : Stand server_side). s.unheard) did.1) (ap (λ (b : Between). b.control.to_server) can)
  idles_on action is can did = absurd is.0
