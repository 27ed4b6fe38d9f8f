-- The peers that a server and a client have stay all along; so who comes from there is the peer of either.
use Rattle.std.proofs.Common.{◌≡◌, ◌∙◌, ℕ, ◌==◌, Bool, true, false, List, [], ◌∷◌, None, sym, refl, ap, subst, length, take}
use Rattle.ftp_endpoint.specs.declared.host.Host.{Host}
use Rattle.ftp_ends.specs.Ear.{ear}
use Rattle.ftp_ends.specs.Link.{same_host}
use Rattle.ftp_nvt.specs.Lines.{NvtEvent, line, owed, too_long}
use Rattle.ftp_operation.specs.Answer.{Unopened}
use Rattle.ftp_operation.specs.Operation.{can_be_sent}
use Rattle.ftp_operation.specs.declared.op.Op.{Op}
use Rattle.ftp_reply.specs.Reader.{Between, Faulty, GoesOn, Heard as Hearing, Says as Reads, line_heard}
use Rattle.ftp_ports.specs.Asking.{Came, Connected}
use Rattle.ftp_ports.specs.Actions.{Action, Done, Heard, Led, Other, Read, Said as Says, Stand}
use Rattle.ftp_ports.specs.Machine.{Aside, Break, Closed, End, Failed, Gave, Got, Held, Left, LetGo, Listening, Opened, Received, Refused, Waited, Wrote}
use Rattle.ftp_client_driver.specs.Side.{Begun, Reporting, Starting, client_side}
use Rattle.ftp_client_model.specs.Calls.{connected, ending_of, event_taken, events_taken, gives_data, goes_by, heard_by, heard_flow, hears, hears_octet, accepted, line_taken, listen_refused, listening, listening_by, data_end, data_fault, data_opened, no_port_by, opened_by, over_by, port_told, receives, receives_octet, reply_limit, reported_by, started_by, starts, unless_closing, unsendable_by, went}
use Rattle.ftp_client_model.specs.Failing.{Client as NearEnd}
use Rattle.ftp_client_model.specs.View.{Doing, Job, Told, Transfer, Transferring, View}
use Rattle.ftp_client_model.specs.declared.client.ClientLink.{ClientLink}
use Rattle.ftp_client_model.specs.declared.client.ClientLink.TheVariants as Data
use Rattle.ftp_client_model.specs.declared.client.Ending.{Ending}
use Rattle.ftp_client_model.specs.declared.client.Ending.TheVariants as Endings
use Rattle.ftp_client_model.specs.declared.client.Standing.{Standing}
use Rattle.ftp_client_model.specs.declared.client.Standing.TheVariants as Stands
use Rattle.ftp_client_model.specs.declared.client.Step.TheVariants as Steps
use Rattle.laws_active.specs.Actions.{ClientTransfersEitherWay, IsAskingOrListening, IsServingOrDialling, ServerTransfersEitherWay}
use Rattle.laws_drivers.specs.events.Actions.{Along}
use Rattle.laws_drivers.specs.control.Alone.{ClientIsCalm, ServerIsCalm}
use Rattle.laws_drivers.specs.control.Between.{Client, Server, Turn, client_actions, server_actions}
use Rattle.laws_drivers.specs.control.Touches.{touch_in}
use Rattle.ftp_server_driver.specs.alone.Side.{Timed, server_side}
use Rattle.ftp_server_model.specs.Calls.{opened_step}
use Rattle.ftp_pair_memory.specs.streams.Order.{AllCame, ComesFrom, Hosts}
use Rattle.laws_sessions.specs.passive.Kinds.{Does}
use Rattle.laws_sessions.proofs.passive.Peers.{came_from, action_peer, left_comes, opened_same, peer_of, peer_serves, server_comes, step_peer}
use Rattle.laws_sessions.specs.either.Either.{IsAskingAny, IsServingAny}
use Rattle.laws_sessions.proofs.either.Replying.{HasPeer, Stays, aborts_once_peer, answered_peer, begins_peer, carries_on_peer, finishes_peer, goes_on_peer, if_peer, strange_peer}

-- ---- each call of a client leaves its peer

module _ (host : Host) where
  line_peer : (heard : Hearing) (v : View) → Stays host v (line_taken heard)
  line_peer (GoesOn gathered) v r = r
  line_peer (Reads code texts) v r = answered_peer host code texts (record v { gathered = Between }) r
  line_peer (Faulty fault) v r = strange_peer host v r

  event_peer : (event : NvtEvent) (v : View) → Stays host v (event_taken event)
  event_peer (line text) v r = line_peer (line_heard v.gathered text) v r
  event_peer too_long v r = strange_peer host v r
  event_peer (owed answer) v r = r

  events_peer : (events : List NvtEvent) (v : View) → Stays host v (events_taken events)
  events_peer [] v r = r
  events_peer (event ∷ events) v r = events_peer events (event_taken event v) (event_peer event v r)

  hears_peer : (octets : List ℕ) (v : View) → HasPeer host v → HasPeer host (hears v octets)
  hears_peer [] v r = r
  hears_peer (octet ∷ octets) v r =
      hears_peer octets (hears_octet v octet)
      (events_peer ((ear reply_limit).out v.ear octet) (record v { ear = (ear reply_limit).step v.ear octet }) r)

  started_peer : (standing : Standing) (op : Op (List ℕ)) (v : View) → Stays host v (started_by standing op)
  started_peer Stands.Entered op v r = begins_peer host op v r
  started_peer (Stands.Failed failure) op v r = r
  started_peer standing op v r = r

  unsent_peer : (standing : Standing) (v : View) → Stays host v (unsendable_by standing)
  unsent_peer (Stands.Failed failure) v r = r
  unsent_peer standing v r = r

  starts_peer : (op : Op (List ℕ)) (v : View) → Stays host v (starts op)
  unfolding starts
  starts_peer op v r =
      if_peer host (can_be_sent op) (started_by v.standing op (record v { run = None })) (unsendable_by v.standing v)
      (started_peer v.standing op (record v { run = None }) r) (unsent_peer v.standing v r)

  reported_peer : (job : Job) (v : View) → Stays host v (reported_by job)
  reported_peer (Told answer) v r = r
  reported_peer job v r = r

  unless_peer : (f : View → View) (v : View) → Stays host v f → Stays host v (unless_closing f)
  unless_peer f v stays r = if_peer host v.closing v (f v) r (stays r)

  listening_by_peer : (connection : ClientLink) (job : Job) (port : ℕ) (v : View) → Stays host v (listening_by connection job port)
  listening_by_peer Data.ListenWanted (Doing op Steps.Listen) port v r = goes_on_peer host op Steps.Listen (record v { connection = Data.Listening port }) r
  listening_by_peer connection job port v r = r

  listening_peer : (port : ℕ) (v : View) → Stays host v (listening port)
  unfolding listening
  listening_peer port v = unless_peer (λ v. listening_by v.connection v.job port v) v (listening_by_peer v.connection v.job port v)

  no_port_by_peer : (connection : ClientLink) (v : View) → Stays host v (no_port_by connection)
  no_port_by_peer Data.ListenWanted v r = finishes_peer host Unopened v r
  no_port_by_peer connection v r = r

  no_port_peer : (v : View) → Stays host v listen_refused
  unfolding listen_refused
  no_port_peer v = unless_peer (λ v. no_port_by v.connection v) v (no_port_by_peer v.connection v)

  port_told_peer : (port : ℕ) (v : View) → Stays host v (port_told port)
  port_told_peer port v r = if_peer host (port == 0) (listen_refused v) (listening port v) (no_port_peer v r) (listening_peer port v r)

  connected_peer : (job : Job) (v : View) → Stays host v (connected job)
  connected_peer (Doing op Steps.Connect) v r = goes_on_peer host op Steps.Connect (record v { connection = Data.Open }) r
  connected_peer job v r = r

  accepted_peer : (is_peer : Bool) (v : View) → Stays host v (accepted is_peer)
  accepted_peer true v r = carries_on_peer host (record v { connection = Data.Open }) r
  accepted_peer false v r = carries_on_peer host (record v { connection = Data.Over Endings.Foreign; closing = true }) r

  opened_by_peer : (connection : ClientLink) (other : Host) (v : View) → Stays host v (opened_by connection other)
  opened_by_peer (Data.Connecting endpoint) other v r = connected_peer v.job v r
  opened_by_peer (Data.Accepting port) other v r = accepted_peer (same_host other v.peer) v r
  opened_by_peer connection other v r = r

  opened_peer : (other : Host) (v : View) → Stays host v (data_opened other)
  unfolding data_opened
  opened_peer other v = unless_peer (λ v. opened_by v.connection other v) v (opened_by_peer v.connection other v)

  over_peer : (connection : ClientLink) (ending : Ending) (v : View) → Stays host v (over_by connection ending)
  over_peer Data.Open ending v r = carries_on_peer host (record v { connection = Data.Over ending }) r
  over_peer connection ending v r = r

  ended_peer : (v : View) → Stays host v data_end
  unfolding data_end
  ended_peer v = unless_peer (λ v. over_by v.connection (ending_of v.job) v) v (over_peer v.connection (ending_of v.job) v)

  broke_peer : (v : View) → Stays host v data_fault
  unfolding data_fault
  broke_peer v = unless_peer (λ v. over_by v.connection Endings.Broken v) v (over_peer v.connection Endings.Broken v)

  taken_peer : (job : Job) (octet : ℕ) (v : View) → Stays host v (heard_by job octet)
  taken_peer (Transferring op transfer) octet v r =
      let heard : Transfer = record transfer { flow = heard_flow transfer.abort transfer.flow octet } in
      aborts_once_peer host (Transferring op heard) (record v { job = Transferring op heard }) r
  taken_peer job octet v r = r

  receives_peer : (octets : List ℕ) (v : View) → HasPeer host v → HasPeer host (receives v octets)
  receives_peer [] v r = r
  receives_peer (octet ∷ octets) v r = receives_peer octets (receives_octet v octet) (taken_peer v.job octet v r)

  goes_by_peer : (count : ℕ) (job : Job) (v : View) → Stays host v (goes_by count job)
  goes_by_peer count (Transferring op transfer) v r =
      carries_on_peer host (record v { job = Transferring op (record transfer { flow = went count transfer.flow }) }) r
  goes_by_peer count job v r = r

  gives_peer : (count : ℕ) (v : View) → Stays host v (gives_data count)
  unfolding gives_data
  gives_peer count v r = goes_by_peer count v.job v r

-- ---- so it is in each action

-- an operation is begun
pub begins_keeps : (op : Op (List ℕ)) (old new : Stand client_side) → ClientIsCalm old.owner new.owner → Done (Other (Begun op)) old new
    → new.owner.end.view.peer ≡ old.owner.end.view.peer
begins_keeps op old new calm did =
    ap (λ v. v.peer) (did.0.0.1.0.0 calm) ∙ starts_peer old.owner.end.view.peer op old.owner.end.view refl

client_peer : (action : Action client_side) (old new : Stand client_side) → IsAskingAny action old.owner → ClientIsCalm old.owner new.owner → Done action old new
    → new.owner.end.view.peer ≡ old.owner.end.view.peer
client_peer (Heard octets) old new is calm did =
    let v = old.owner.end.view in
    ap (λ v. v.peer) (did.hears.0.0.0 calm).0 ∙ hears_peer v.peer (take (length octets) old.unheard) v refl
client_peer (Says octets) old new is calm did = ap (λ v. v.peer) did.gives.gave.0
client_peer (Read octets) old new is calm did = ap (λ o. o.end.view.peer) did.owner
client_peer (Other (Aside (Reporting said))) old new is calm did =
    let v = old.owner.end.view in ap (λ v. v.peer) did.0.0.1.0 ∙ reported_peer v.peer v.job v refl
client_peer (Other (Aside (Starting op))) old new is calm did = begins_keeps op old new calm did
client_peer (Other (Listening port)) old new is calm did =
    let v = old.owner.end.view in ap (λ v. v.peer) (did.0.0.0.0 calm) ∙ port_told_peer v.peer port v refl
client_peer (Other (Opened host (Came from left written ∷ []) at_first so_far rest)) old new is calm did =
    let v = old.owner.end.view in ap (λ v. v.peer) (did.0.0.0.0.0 calm) ∙ opened_peer v.peer host v refl
client_peer (Other (Opened host (Connected endpoint left written ∷ []) at_first so_far rest)) old new is calm did =
    let v = old.owner.end.view in ap (λ v. v.peer) (did.0.0.0.0.0 calm) ∙ opened_peer v.peer host v refl
client_peer (Other (Gave count octets rest)) old new is calm did =
    let v = old.owner.end.view in ap (λ v. v.peer) (did.0.0.1.0.0 calm) ∙ gives_peer v.peer count v refl
client_peer (Other (Received octets count)) old new is calm did =
    let v = old.owner.end.view in ap (λ v. v.peer) (did.0.0.0.0 calm).0 ∙ receives_peer v.peer (take count octets) v refl
client_peer (Other End) old new is calm did = let v = old.owner.end.view in ap (λ v. v.peer) (did.0.0.0.0 calm) ∙ ended_peer v.peer v refl
client_peer (Other Break) old new is calm did = let v = old.owner.end.view in ap (λ v. v.peer) (did.0.0.0.0 calm) ∙ broke_peer v.peer v refl
client_peer (Other Closed) old new is calm did = ap (λ v. v.peer) did.0.0.0
client_peer (Other (Wrote octets)) old new is calm did = ap (λ c. c.view.peer) did.0.0
client_peer (Other (Got octets)) old new is calm did = ap (λ c. c.view.peer) did.0.0
client_peer (Other Failed) old new is calm did = ap (λ c. c.view.peer) did.0.0
client_peer (Other (Waited lost)) old new is calm did = ap (λ c. c.view.peer) did.0.0
client_peer (Other (LetGo octets)) old new is calm did = ap (λ c. c.view.peer) did.0.0.0
client_peer (Other (Left asked)) old new is calm did = ap (λ c. c.view.peer) did.0.0
client_peer action old new is calm did = absurd is

-- a server that dials, too
server_peer : (action : Action server_side) (old new : Stand server_side) → IsServingAny action old.owner → ServerIsCalm old.owner new.owner → Done action old new
    → peer_of new.owner.end.server.view ≡ peer_of old.owner.end.server.view
server_peer (Other (Opened host (Connected endpoint left written ∷ []) at_first so_far rest)) old new is calm did =
    step_peer (opened_step host) old.owner.end.server.view new.owner.end.server.view (did.0.0.0.0.done calm) (opened_same host old.owner.end.server.view)
server_peer action old new is calm did = action_peer action old new is calm did

-- ---- who came

-- who serves whom it has at its other end serves its peer
server_serves : (action : Action server_side) (other : Host) (old new : Stand server_side) → IsServingAny action old.owner → ComesFrom other (touch_in action)
    → other ≡ peer_of old.owner.end.server.view → Done action old new → IsServingOrDialling action old.owner
server_serves (Other (Opened host (Came from left written ∷ []) at_first so_far rest)) other old new is comes same did =
    peer_serves (Other (Opened host (Came from left written ∷ []) at_first so_far rest)) other old new tt comes same did
server_serves action other old new is comes same did = is

-- and so a client
client_asks : (action : Action client_side) (other : Host) (old new : Stand client_side) → IsAskingAny action old.owner → ComesFrom other (touch_in action)
    → other ≡ old.owner.end.view.peer → Done action old new → IsAskingOrListening action old.owner
client_asks (Other (Opened host (Came from left written ∷ []) at_first so_far rest)) other old new is comes same did =
    let host_is = came_from host from left written at_first so_far rest old.owner.channel new.owner.channel did.0.1 in
    subst (λ h. same_host host h ≡ true) same (subst (λ h. same_host h other ≡ true) host_is comes)
client_asks action other old new is comes same did = is

-- these are the peers of both
abbrev pub AreMet : Hosts → Stand server_side → Stand client_side → Type 0
AreMet hosts server client = (hosts.far ≡ peer_of server.owner.end.server.view) × (hosts.near ≡ client.owner.end.view.peer)

-- all that both did
module _ (Serves : Action server_side → (old new : Held Timed) → Type 0) (Asks : Action client_side → (old new : Held NearEnd) → Type 0) where
  pub record Both (turns : List Turn) (server server_now : Stand server_side) (client client_now : Stand client_side)
      (led : Led (server_actions turns) server server_now) (asked : Led (client_actions turns) client client_now) : Type 0 where
    pub serves : Along Serves (server_actions turns) server server_now led
    pub asks : Along Asks (client_actions turns) client client_now asked

abbrev ServesAny : Action server_side → (old new : Held Timed) → Type 0
ServesAny = Does {side = server_side} IsServingAny ServerIsCalm

abbrev AsksAny : Action client_side → (old new : Held NearEnd) → Type 0
AsksAny = Does {side = client_side} IsAskingAny ClientIsCalm

-- who serves and asks whoever comes serves and asks the peers, where these alone come
pub peers_do : (hosts : Hosts) (turns : List Turn) (server server_now : Stand server_side) (client client_now : Stand client_side)
    (led : Led (server_actions turns) server server_now) (asked : Led (client_actions turns) client client_now)
    → Both ServesAny AsksAny turns server server_now client client_now led asked → AllCame hosts turns → AreMet hosts server client
    → Both ServerTransfersEitherWay ClientTransfersEitherWay turns server server_now client client_now led asked × AreMet hosts server_now client_now
peers_do hosts [] server server_now client client_now led asked both came met = (
  record { serves = tt; asks = tt },
  (
    met.0 ∙ ap (λ (s : Stand server_side). peer_of s.owner.end.server.view) (sym led),
    met.1 ∙ ap (λ (s : Stand client_side). s.owner.end.view.peer) (sym asked),
  ),
)
peers_do hosts (Server action ∷ before) server server_now client client_now led asked both came met =
    let first = peers_do hosts before server led.0 client client_now led.1 asked (record { serves = both.serves.0; asks = both.asks }) came.0 met in
    let is = both.serves.1 in (
      record {
        serves = (first.0.serves, (server_serves action hosts.far led.0 server_now is.0 came.1 first.1.0 led.2, is.1));
        asks = first.0.asks;
      },
      (first.1.0 ∙ sym (server_peer action led.0 server_now is.0 is.1 led.2), first.1.1),
    )
peers_do hosts (Client action ∷ before) server server_now client client_now led asked both came met =
    let first = peers_do hosts before server server_now client asked.0 led asked.1 (record { serves = both.serves; asks = both.asks.0 }) came.0 met in
    let is = both.asks.1 in (
      record {
        serves = first.0.serves;
        asks = (first.0.asks, (client_asks action hosts.near asked.0 client_now is.0 came.1 first.1.1 asked.2, is.1));
      },
      (first.1.0, first.1.1 ∙ sym (client_peer action asked.0 client_now is.0 is.1 asked.2)),
    )

-- ---- and the other way round

serves_any : (action : Action server_side) (at : Held Timed) → IsServingOrDialling action at → IsServingAny action at
serves_any (Other (Opened host (Came from left written ∷ []) at_first so_far rest)) at is = tt
serves_any action at is = is

asks_any : (action : Action client_side) (at : Held NearEnd) → IsAskingOrListening action at → IsAskingAny action at
asks_any (Other (Opened host (Came from left written ∷ []) at_first so_far rest)) at is = tt
asks_any action at is = is

-- either accepts nobody but its peer
server_came : (action : Action server_side) (other : Host) (old new : Stand server_side) → IsServingOrDialling action old.owner
    → other ≡ peer_of old.owner.end.server.view → Done action old new → ComesFrom other (touch_in action)
server_came (Other (Opened host (Connected endpoint left written ∷ []) at_first so_far rest)) other old new is same did = tt
server_came action other old new is same did = server_comes action other old new is same did

client_came : (action : Action client_side) (other : Host) (old new : Stand client_side) → IsAskingOrListening action old.owner
    → other ≡ old.owner.end.view.peer → Done action old new → ComesFrom other (touch_in action)
client_came (Other (Opened host (Came from left written ∷ []) at_first so_far rest)) other old new is same did =
    let host_is = came_from host from left written at_first so_far rest old.owner.channel new.owner.channel did.0.1 in
    subst (λ h. same_host h other ≡ true) (sym host_is) (subst (λ h. same_host host h ≡ true) (sym same) is)
client_came (Other (Opened host (Connected endpoint left written ∷ []) at_first so_far rest)) other old new is same did = tt
client_came (Other (Opened host asked at_first so_far rest)) other old new is same did = absurd is
client_came (Other (Refused asked)) other old new is same did = absurd is
client_came (Other (Left asked)) other old new is same did = left_comes other asked
client_came action other old new is same did = tt

-- so of both these alone came, and they serve and ask whoever comes
pub peers_came : (hosts : Hosts) (turns : List Turn) (server server_now : Stand server_side) (client client_now : Stand client_side)
    (led : Led (server_actions turns) server server_now) (asked : Led (client_actions turns) client client_now)
    → Both ServerTransfersEitherWay ClientTransfersEitherWay turns server server_now client client_now led asked → AreMet hosts server client
    → AllCame hosts turns × Both ServesAny AsksAny turns server server_now client client_now led asked × AreMet hosts server_now client_now
peers_came hosts [] server server_now client client_now led asked both met = (
  tt,
  record { serves = tt; asks = tt },
  (
    met.0 ∙ ap (λ (s : Stand server_side). peer_of s.owner.end.server.view) (sym led),
    met.1 ∙ ap (λ (s : Stand client_side). s.owner.end.view.peer) (sym asked),
  ),
)
peers_came hosts (Server action ∷ before) server server_now client client_now led asked both met =
    let first = peers_came hosts before server led.0 client client_now led.1 asked (record { serves = both.serves.0; asks = both.asks }) met in
    let is = both.serves.1 in
    let any = serves_any action led.0.owner is.0 in (
      (first.0, server_came action hosts.far led.0 server_now is.0 first.2.0 led.2),
      record { serves = (first.1.serves, (any, is.1)); asks = first.1.asks },
      (first.2.0 ∙ sym (server_peer action led.0 server_now any is.1 led.2), first.2.1),
    )
peers_came hosts (Client action ∷ before) server server_now client client_now led asked both met =
    let first = peers_came hosts before server server_now client asked.0 led asked.1 (record { serves = both.serves; asks = both.asks.0 }) met in
    let is = both.asks.1 in
    let any = asks_any action asked.0.owner is.0 in (
      (first.0, client_came action hosts.near asked.0 client_now is.0 first.2.1 asked.2),
      record { serves = first.1.serves; asks = (first.1.asks, (any, is.1)) },
      (first.2.0, first.2.1 ∙ sym (client_peer action asked.0 client_now any is.1 asked.2)),
    )
