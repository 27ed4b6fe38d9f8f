-- The peer that a server has stays all along; so who comes from there is its peer.
use Rattle.std.proofs.Common.{◌≡◌, ◌∙◌, ℕ, Bool, true, false, true≢false, List, [], ◌∷◌, Option, None, Some, inl, inr, sym, refl, ap, subst, take}
use Rattle.ftp_endpoint.specs.declared.host.Host.{Host}
use Rattle.ftp_ends.specs.Link.{same_host}
use Rattle.ftp_ports.specs.Asking.{Asked, Came, Connected, Ended as EndedBy, Reset, Shut}
use Rattle.ftp_ports.specs.Channel.{IsHad, IsOpened, Channel}
use Rattle.ftp_ports.specs.declared.whole.Rest.{Rest}
use Rattle.ftp_ports.specs.Actions.{Action, Done, Heard, Led, Other, Read, Said as Says, Stand}
use Rattle.ftp_ports.specs.Machine.{Aside, Closed, End, Gave, Got, Held, Left, LetGo, Listening, Opened, Received, Refused, Waited, Wrote}
use Rattle.ftp_mode.specs.Said.{Said as WireSays, says, marker}
use Rattle.ftp_mode.specs.declared.fault.FrameFault.{FrameFault}
use Rattle.ftp_wire.specs.Decoder.{Decoder, fault_of, octet_says, read_on}
use Rattle.ftp_path.specs.Path.{Names}
use Rattle.ftp_server_model.proofs.LinesDecided.{reading_exists}
use Rattle.ftp_server_model.specs.Calls.{clock_step, close_step, connection_of, control_step, end_step, ends, given_step, listening_step, opened_step, opens, receives, receives_octet, takes_all, takes_data, takes_given, takes_octet, takes_said, with_connection}
use Rattle.ftp_server_model.specs.Machine.{given_out, later}
use Rattle.ftp_server_model.specs.View.{Transfer, View as Far}
use Rattle.ftp_server_model.specs.declared.session.Keep.{Keep}
use Rattle.ftp_server_model.specs.declared.session.ServerLink.{ServerLink}
use Rattle.ftp_server_model.specs.declared.session.ServerLink.TheVariants as Data
use Rattle.ftp_server_model.specs.declared.session.Transfer.TheVariants as Transfers
use Rattle.ftp_server_model.specs.declared.session.Way.TheVariants as Ways
use Rattle.ftp_server_driver.specs.alone.Side.{HearsBy, Timed, ends_line, server_side}
use Rattle.laws_agreement.proofs.OverMoments.{hears_context}
use Rattle.laws_dialogues.proofs.Context.{waited_context}
use Rattle.laws_drivers.specs.events.Actions.{Along}
use Rattle.laws_drivers.specs.control.Alone.{ServerIsCalm}
use Rattle.laws_drivers.specs.control.Between.{Client, Server as ByServer, Turn, client_actions, server_actions}
use Rattle.laws_drivers.specs.control.Touches.{touch_of_leaving, touch_in}
use Rattle.laws_drivers.proofs.control.Calm.{first_is_calm}
use Rattle.ftp_client_driver.specs.Side.{client_side}
use Rattle.ftp_client_model.specs.Failing.{Client as NearEnd}
use Rattle.laws_transfers.specs.Actions.{ClientTransfers, IsAsking, IsServing, ServerTransfers}
use Rattle.ftp_pair_memory.specs.streams.Order.{AllCame, ComesFrom, Hosts}
use Rattle.laws_sessions.specs.passive.Kinds.{Does}
use Rattle.laws_sessions.specs.passive.Transfers.{IsServingAny}

-- ---- what a server stands on is left by what is done to it

out_same : (connection : ServerLink Transfer) (v : Far) → (given_out connection v).context ≡ v.context
out_same (Data.Transferring (Transfers.Download [])) v = refl
out_same (Data.Transferring (Transfers.Listing [])) v = refl
out_same connection v = refl

opens_same : (connection : ServerLink Transfer) (is_peer : Bool) (v : Far) → (opens connection is_peer v).context ≡ v.context
opens_same Data.Passive true v = refl
opens_same Data.Passive false v = refl
opens_same (Data.Opening transfer Ways.Accept) true v = refl
opens_same (Data.Opening transfer Ways.Accept) false v = refl
opens_same (Data.Opening transfer (Ways.Connect endpoint)) is_peer v = refl
opens_same connection is_peer v = refl

pub opened_same : (host : Host) (v : Far) → (opened_step host v).context ≡ v.context
opened_same host v =
    let connection = connection_of v.session in
    let is_peer = same_host host v.context.peer in
    out_same (opens connection is_peer v).session.connection (opens connection is_peer v) ∙ opens_same connection is_peer v

takes_same : (connection : ServerLink Transfer) (count : ℕ) (v : Far) → (takes_given connection count v).context ≡ v.context
takes_same (Data.Transferring (Transfers.Download rest)) count v = refl
takes_same (Data.Transferring (Transfers.Listing rest)) count v = refl
takes_same connection count v = refl

given_same : (count : ℕ) (v : Far) → (given_step count v).context ≡ v.context
given_same count v =
    let connection = connection_of v.session in
    out_same (takes_given connection count v).session.connection (takes_given connection count v) ∙ takes_same connection count v

ends_same : (connection : ServerLink Transfer) (v : Far) → (ends connection v).context ≡ v.context
ends_same Data.Ready v = refl
ends_same (Data.Transferring transfer) v = refl
ends_same connection v = refl

said_same : (connection : ServerLink Transfer) (said : WireSays) (v : Far) → (takes_said connection said v).context ≡ v.context
said_same (Data.Transferring (Transfers.Upload path keep d)) (says sign) v = refl
said_same (Data.Transferring (Transfers.Upload path keep d)) (marker text) v = refl
said_same connection said v = refl

all_same : (said : List WireSays) (v : Far) → (takes_all said v).context ≡ v.context
all_same [] v = refl
all_same (said ∷ more) v = all_same more (takes_said v.session.connection said v) ∙ said_same v.session.connection said v

octet_same : (fault : Option FrameFault) (path : Names) (keep : Keep) (d : Decoder) (said : List WireSays) (v : Far)
    → (takes_octet fault path keep d said v).context ≡ v.context
octet_same None path keep d said v = all_same said (with_connection (Data.Transferring (Transfers.Upload path keep d)) v)
octet_same (Some fault) path keep d said v = refl

data_same : (connection : ServerLink Transfer) (octet : ℕ) (v : Far) → (takes_data connection octet v).context ≡ v.context
data_same (Data.Transferring (Transfers.Upload path keep d)) octet v =
    octet_same (fault_of (read_on d octet)) path keep (read_on d octet) (octet_says d octet) v
data_same connection octet v = refl

-- then a line that waits is acted on
later_same : (v : Far) → (later v).context ≡ v.context
later_same v = waited_context v.waiting v

one_same : (octet : ℕ) (v : Far) → (receives_octet v octet).context ≡ v.context
unfolding receives_octet
one_same octet v = later_same (takes_data (connection_of v.session) octet v) ∙ data_same (connection_of v.session) octet v

receives_same : (octets : List ℕ) (v : Far) → (receives v octets).context ≡ v.context
receives_same [] v = refl
receives_same (octet ∷ octets) v = receives_same octets (receives_octet v octet) ∙ one_same octet v

-- ---- so its peer stays

abbrev pub peer_of : Far → Host
peer_of v = v.context.peer

-- whatever the moment
pub step_peer : (step : Far → Far) (old new : Far) → new ≡ later (step old) → (step old).context ≡ old.context → peer_of new ≡ peer_of old
step_peer step old new is same = ap peer_of is ∙ ap (λ f. f.peer) (later_same (step old) ∙ same)

told_peer : (moment : ℕ) (old mid : Far) → mid ≡ later (clock_step moment old) → peer_of mid ≡ peer_of old
told_peer moment old mid is = ap peer_of is ∙ ap (λ f. f.peer) (later_same (clock_step moment old))

hears_peer : (is_end : Bool) (octets : List ℕ) (old new : Timed) → HearsBy is_end octets old new → new.server.counts ≡ old.server.counts
    → peer_of new.server.view ≡ peer_of old.server.view
hears_peer true octets old new heard calm =
    let acts = heard.3 in
    let calls = heard.4 reading_exists.0 reading_exists.1 in
    let first = first_is_calm old.server.counts heard.1.counts new.server.counts acts.counted calls.counted calm in
    ap peer_of (calls.done (calm ∙ sym first)) ∙ ap (λ f. f.peer) (hears_context reading_exists.0 octets heard.1.view)
    ∙ told_peer heard.0 old.server.view heard.1.view (acts.done first)
hears_peer false octets old new heard calm =
    let calls = heard.0 reading_exists.0 reading_exists.1 in
    ap peer_of (calls.done calm) ∙ ap (λ f. f.peer) (hears_context reading_exists.0 octets old.server.view)

-- in each action of one that serves
pub action_peer : (action : Action server_side) (old new : Stand server_side) → IsServingAny action old.owner → ServerIsCalm old.owner new.owner → Done action old new
    → peer_of new.owner.end.server.view ≡ peer_of old.owner.end.server.view
action_peer (Heard octets) old new is calm did = hears_peer (ends_line old.unheard) octets old.owner.end new.owner.end did.hears.0.1 calm
action_peer (Says octets) old new is calm did =
    step_peer (control_step did.gives.count) old.owner.end.server.view new.owner.end.server.view (did.gives.gave.0.done calm) refl
action_peer (Read octets) old new is calm did = ap (λ o. peer_of o.end.server.view) did.owner
action_peer (Other (Aside tt)) old new is calm did = ap (λ at. peer_of at.server.view) did.0.0.0
action_peer (Other (Listening port)) old new is calm did =
    step_peer (listening_step port) old.owner.end.server.view new.owner.end.server.view (did.0.0.0.done calm) refl
action_peer (Other (Opened host (Came from left written ∷ []) at_first so_far rest)) old new is calm did =
    step_peer (opened_step host) old.owner.end.server.view new.owner.end.server.view (did.0.0.0.0.done calm) (opened_same host old.owner.end.server.view)
action_peer (Other (Got octets)) old new is calm did = ap (λ at. peer_of at.server.view) did.0.0
action_peer (Other (Received octets count)) old new is calm did =
    ap peer_of (did.0.0.0.done calm) ∙ ap (λ f. f.peer) (receives_same (take count octets) old.owner.end.server.view)
action_peer (Other End) old new is calm did =
    let acts = did.0.0.3 in
    let calls = did.0.0.4 in
    let counts = old.owner.end.server.counts in
    let first : did.0.0.1.counts ≡ counts = first_is_calm counts did.0.0.1.counts new.owner.end.server.counts acts.counted calls.counted calm in
    step_peer end_step did.0.0.1.view new.owner.end.server.view (calls.done (calm ∙ sym first))
    (ends_same (connection_of did.0.0.1.view.session) did.0.0.1.view)
    ∙ told_peer did.0.0.0 old.owner.end.server.view did.0.0.1.view (acts.done first)
action_peer (Other (Gave count octets rest)) old new is calm did =
    step_peer (given_step count) old.owner.end.server.view new.owner.end.server.view (did.0.0.1.0.done calm) (given_same count old.owner.end.server.view)
action_peer (Other (Wrote octets)) old new is calm did = ap (λ at. peer_of at.server.view) did.0.0
action_peer (Other (Waited lost)) old new is calm did = ap (λ at. peer_of at.server.view) did.0.0
action_peer (Other (LetGo octets)) old new is calm did = ap (λ at. peer_of at.server.view) did.0.0.0
action_peer (Other (Left (EndedBy left written))) old new is calm did = ap (λ at. peer_of at.server.view) did.0.0
action_peer (Other (Left (Reset left written))) old new is calm did = ap (λ at. peer_of at.server.view) did.0.0
action_peer (Other (Left Shut)) old new is calm did = ap (λ at. peer_of at.server.view) did.0.0
action_peer (Other Closed) old new is calm did =
    step_peer close_step old.owner.end.server.view new.owner.end.server.view (did.0.0.0.done calm) refl
action_peer action old new is calm did = absurd is

-- ---- who came

is_came : List Asked → Bool
is_came (Came host left written ∷ asked) = true
is_came asked = false

from_in : Host → List Asked → Host
from_in before (Came host left written ∷ asked) = host
from_in before asked = before

-- is the host at the other end of what is opened
pub came_from : (host from : Host) (left written at_first so_far : Option (List ℕ)) (rest : Rest) (old new : Channel)
    → IsOpened host (Came from left written ∷ []) at_first so_far rest old new → from ≡ host
unfolding is_came from_in
came_from host from left written at_first so_far rest old new did = by did.is_had
  where
    by : IsHad host did.had at_first so_far → from ≡ host
    by (inl e) = ap (from_in host) (did.alone ∙ ap (λ a. a ∷ []) e)
    by (inr at) = absurd (true≢false (ap is_came (did.alone ∙ ap (λ a. a ∷ []) at.1)))

-- who serves whom it has at its other end serves its peer
pub peer_serves : (action : Action server_side) (other : Host) (old new : Stand server_side) → IsServingAny action old.owner → ComesFrom other (touch_in action)
    → other ≡ peer_of old.owner.end.server.view → Done action old new → IsServing action old.owner
peer_serves (Other (Opened host (Came from left written ∷ []) at_first so_far rest)) other old new is comes same did =
    let host_is = came_from host from left written at_first so_far rest old.owner.channel new.owner.channel did.0.1 in
    subst (λ h. same_host host h ≡ true) same (subst (λ h. same_host h other ≡ true) host_is comes)
peer_serves action other old new is comes same did = is

-- so it is of all that it did
pub peers_serve : (hosts : Hosts) (turns : List Turn) (start now : Stand server_side) (led : Led (server_actions turns) start now)
    → Along (Does {side = server_side} IsServingAny ServerIsCalm) (server_actions turns) start now led → AllCame hosts turns
    → hosts.far ≡ peer_of start.owner.end.server.view
    → Along ServerTransfers (server_actions turns) start now led × (hosts.far ≡ peer_of now.owner.end.server.view)
peers_serve hosts [] start now led serves came is = (tt, is ∙ ap (λ (s : Stand server_side). peer_of s.owner.end.server.view) (sym led))
peers_serve hosts (ByServer action ∷ before) start now led serves came is =
    let first = peers_serve hosts before start led.0 led.1 serves.0 came.0 is in (
      (first.0, (peer_serves action hosts.far led.0 now serves.1.0 came.1 first.1 led.2, serves.1.1)),
      first.1 ∙ sym (action_peer action led.0 now serves.1.0 serves.1.1 led.2),
    )
peers_serve hosts (Client action ∷ before) start now led serves came is = peers_serve hosts before start now led serves came.0 is

-- ---- and the other way round

-- who serves its peer serves whoever comes
pub serves_any : (action : Action server_side) (at : Held Timed) → IsServing action at → IsServingAny action at
serves_any (Other (Opened host (Came from left written ∷ []) at_first so_far rest)) at is = tt
serves_any action at is = is

pub serve_any : (actions : List (Action server_side)) (start now : Stand server_side) (led : Led actions start now) → Along ServerTransfers actions start now led
    → Along (Does {side = server_side} IsServingAny ServerIsCalm) actions start now led
serve_any [] start now led serves = tt
serve_any (action ∷ before) start now led serves =
    (serve_any before start led.0 led.1 serves.0, (serves_any action led.0.owner serves.1.0, serves.1.1))

pub left_comes : (other : Host) (asked : Asked) → ComesFrom other (touch_of_leaving asked)
left_comes other (EndedBy left written) = tt
left_comes other (Reset left written) = tt
left_comes other asked = tt

-- a client that dials alone accepts nobody
client_comes : (action : Action client_side) (at : Held NearEnd) (other : Host) → IsAsking action at → ComesFrom other (touch_in action)
client_comes (Other (Opened host (Connected endpoint left written ∷ []) at_first so_far rest)) at other is = tt
client_comes (Other (Opened host asked at_first so_far rest)) at other is = absurd is
client_comes (Other (Refused asked)) at other is = absurd is
client_comes (Other (Left asked)) at other is = left_comes other asked
client_comes action at other is = tt

-- a server that serves its peer accepts nobody else
pub server_comes : (action : Action server_side) (other : Host) (old new : Stand server_side) → IsServing action old.owner
    → other ≡ peer_of old.owner.end.server.view → Done action old new → ComesFrom other (touch_in action)
server_comes (Other (Opened host (Came from left written ∷ []) at_first so_far rest)) other old new is same did =
    let host_is = came_from host from left written at_first so_far rest old.owner.channel new.owner.channel did.0.1 in
    subst (λ h. same_host h other ≡ true) (sym host_is) (subst (λ h. same_host host h ≡ true) (sym same) is)
server_comes (Other (Opened host asked at_first so_far rest)) other old new is same did = absurd is
server_comes (Other (Refused asked)) other old new is same did = absurd is
server_comes (Other (Left asked)) other old new is same did = left_comes other asked
server_comes action other old new is same did = tt

pub peers_came : (hosts : Hosts) (turns : List Turn) (start now : Stand server_side) (led : Led (server_actions turns) start now)
    → Along ServerTransfers (server_actions turns) start now led → (begun asked : Stand client_side) (asks : Led (client_actions turns) begun asked)
    → Along ClientTransfers (client_actions turns) begun asked asks → hosts.far ≡ peer_of start.owner.end.server.view
    → AllCame hosts turns × (hosts.far ≡ peer_of now.owner.end.server.view)
peers_came hosts [] start now led serves begun asked asks gives is =
    (tt, is ∙ ap (λ (s : Stand server_side). peer_of s.owner.end.server.view) (sym led))
peers_came hosts (ByServer action ∷ before) start now led serves begun asked asks gives is =
    let first = peers_came hosts before start led.0 led.1 serves.0 begun asked asks gives is in (
      (first.0, server_comes action hosts.far led.0 now serves.1.0 first.1 led.2),
      first.1 ∙ sym (action_peer action led.0 now (serves_any action led.0.owner serves.1.0) serves.1.1 led.2),
    )
peers_came hosts (Client action ∷ before) start now led serves begun asked asks gives is =
    let first = peers_came hosts before start now led serves begun asks.0 asks.1 gives.0 is in
    ((first.0, client_comes action asks.0.owner hosts.near gives.1.0), first.1)
