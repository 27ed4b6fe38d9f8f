-- An action of a server, whether a world's client is ahead of the drive's or not: it dials, or goes on as where none is ahead.
use Rattle.std.proofs.Common.{◌≡◌, inl, inr, ℕ, Bool, true, false, true≢false, List, [], ◌∷◌, ◌++◌, drop, Option, refl, sym, ap, subst, ◌∙◌, append-nil, take-append-drop}
use Rattle.ftp_ports.specs.Asking.{Came, Connected, Ended as EndedBy, Reset, Shut}
use Rattle.ftp_ports.specs.Actions.{Calls, Action, Done, Heard, Other, Read, Said as Says, Says as SaysNext, Stand}
use Rattle.ftp_ports.specs.Machine.{Aside, Closed, End, Gave, Got, Held, Left, LetGo, Listening, Opened, Received, Waited, Wrote}
use Rattle.ftp_ports.specs.declared.whole.Rest.{Rest}
use Rattle.ftp_direct.specs.Direct.{State}
use Rattle.ftp_endpoint.specs.declared.endpoint.Endpoint.{Endpoint}
use Rattle.ftp_endpoint.specs.declared.host.Host.{Host}
use Rattle.ftp_ends.specs.Octets.{has_octets}
use Rattle.ftp_ends.specs.declared.link.Wants.TheVariants as Want
use Rattle.ftp_client_driver.specs.Side.{client_side}
use Rattle.ftp_client_model.specs.Calls.{data_closed, listening}
use Rattle.ftp_client_model.specs.View.{Doing, View as Near}
use Rattle.ftp_client_model.specs.declared.client.ClientLink.TheVariants as NearData
use Rattle.ftp_client_model.specs.declared.client.Step.TheVariants as Steps
use Rattle.ftp_operation.specs.Answer.{Said}
use Rattle.ftp_operation.specs.declared.op.Op.{Op}
use Rattle.ftp_server_driver.specs.alone.Side.{Timed, server_side}
use Rattle.ftp_server_model.specs.Calls as far
use Rattle.ftp_server_model.specs.Calls.{is_upload}
use Rattle.ftp_server_model.specs.Machine.{IsReading, Reading, is_transferring}
use Rattle.ftp_server_model.specs.View.{Transfer, View as Far}
use Rattle.ftp_server_model.specs.declared.session.ServerLink.{ServerLink}
use Rattle.ftp_server_model.specs.declared.session.ServerLink.TheVariants as Data
use Rattle.laws_world.specs.Agreement.{Order}
use Rattle.laws_world.specs.World.{World, next_listen, port_at}
use Rattle.laws_dialogues.specs.Fetches.{busy}
use Rattle.laws_agreement.specs.Over.{OverRuns}
use Rattle.laws_agreement.proofs.Chunks.{both_empty}
use Rattle.laws_drivers.specs.control.Alone.{ServerIsCalm}
use Rattle.laws_drivers.specs.control.Between.{Between, Can, CanTurn, Far as TheServer, Has_lost, IsStanding, Server, with_hold}
use Rattle.laws_drivers.specs.control.Touches.{Dials, touch_in}
use Rattle.laws_drivers.specs.world.Ahead.{is_asked}
use Rattle.laws_drivers.specs.world.Unaborted.{is_unaborted}
use Rattle.laws_drivers.proofs.world.Served.{far_wants}
use Rattle.laws_drivers.proofs.events.FarForms.{asked_apart, asked_listens, is_listen, no_close, told_speaks}
use Rattle.laws_drivers.proofs.events.Holding.{both, is_called}
use Rattle.laws_drivers.proofs.events.NearForms.{is_unaborted_same}
use Rattle.laws_drivers.proofs.events.Stands.{ClientFetches as ClientRests, ServerServes}
use Rattle.laws_transfers.specs.Ahead.{Ahead, Fits, Level, Listens, Opens, Parted, far_ahead}
use Rattle.laws_transfers.specs.Actions as passive
use Rattle.laws_drivers.specs.events.Moments.{IsToldAt, begun_at, last_of, number_in}
use Rattle.laws_transfers.proofs.Ahead.{left_rests, says_after}
use Rattle.laws_transfers.proofs.Beside.{Goes, Together}
use Rattle.laws_transfers.proofs.Known.{AreCarried, Known}
use Rattle.laws_transfers.proofs.Lost.{with_lost}
use Rattle.laws_transfers.proofs.Running.{world_known}
use Rattle.laws_transfers.proofs.Simulating.{ResetsNone}
use Rattle.laws_active.specs.Actions.{ServerTransfersEitherWay}
use Rattle.laws_active.specs.Lead.{Even, Joined, Lead, Told, led_by}
use Rattle.laws_active.proofs.Accepting.{is_transfer}
use Rattle.laws_active.proofs.Dialling.{dials_on, dials_serves}
use Rattle.laws_active.proofs.Joining.{upload_there}
use Rattle.laws_active.proofs.Leading.{Comes, Stays, Waits, led_between, led_client, led_told, not_awaiting, server_follows}
use Rattle.laws_active.proofs.Leads.{LedSo, far_apart, is_apart, joined_unaborted, told_owes, told_unaborted, world_sides}
use Rattle.laws_active.proofs.LedActions.{GoesLed}
use Rattle.laws_active.proofs.Lifting.{Lifted, lifts_on}
use Rattle.laws_active.proofs.ServerGoes.{IsNext, reset_goes, server_goes, told_by}
use Rattle.laws_active.proofs.Telling.{has_any}

-- ---- actions

-- a port is told
abbrev is_port : Action server_side → Bool
is_port (Other (Listening port)) = true
is_port action = false

any_next : (action : Action server_side) (told : ℕ) → is_port action ≡ false → IsNext action told
any_next (Other (Listening port)) told e = absurd (true≢false e)
any_next action told e = tt

told_so : (action : Action server_side) (told : ℕ) → told_by action (next_listen told) ≡ next_listen (told_by action told)
told_so (Other (Listening port)) told = refl
told_so action told = refl

-- octets are said
abbrev is_saying : Action server_side → Bool
is_saying (Says octets) = true
is_saying action = false

-- any but a dial leaves what the client holds, and has to read unless it says some
pub quiet_apart : (action : Action server_side) (at : Held Timed) → passive.IsServing action at → is_saying action ≡ false → is_apart (touch_in action) ≡ true
quiet_apart (Says octets) at is e = absurd (true≢false e)
quiet_apart (Heard octets) at is e = refl
quiet_apart (Read octets) at is e = refl
quiet_apart (Other (Aside tt)) at is e = refl
quiet_apart (Other (Listening port)) at is e = refl
quiet_apart (Other (Opened host (Came other left written ∷ []) at_first so_far rest)) at is e = refl
quiet_apart (Other (Got octets)) at is e = refl
quiet_apart (Other (Received octets count)) at is e = refl
quiet_apart (Other End) at is e = refl
quiet_apart (Other (Gave count octets rest)) at is e = refl
quiet_apart (Other (Wrote octets)) at is e = refl
quiet_apart (Other (Waited lost)) at is e = refl
quiet_apart (Other (LetGo octets)) at is e = refl
quiet_apart (Other (Left (EndedBy left written))) at is e = refl
quiet_apart (Other (Left (Reset left written))) at is e = refl
quiet_apart (Other (Left Shut)) at is e = refl
quiet_apart (Other Closed) at is e = refl
quiet_apart action at is e = absurd is

-- ---- in a world

-- a server that takes octets is at a transfer
lifts_busy : (link : ServerLink Transfer) → is_upload link ≡ true → is_transferring link ≡ true
lifts_busy (Data.Transferring transfer) e = refl
lifts_busy link e = absurd (true≢false (sym e))

-- one that owes these
abbrev owing : List ℕ → Far → Far
owing octets v = record v { owed = octets }

-- a client that was told a port is at no transfer
pub told_job : (port : ℕ) (op : Op (List ℕ)) (n : Near) → is_transfer (listening port (busy (Doing op Steps.Listen) NearData.ListenWanted n)).job ≡ false
unfolding listening
told_job port op n = refl

stays_job : (d : Near) (octets : List ℕ) → Stays d octets → is_transfer d.job ≡ true
stays_job d octets (Comes op all flow port octet more is o) = ap (λ (n : Near). is_transfer n.job) (o.fronts [] more octet (sym is)).0
stays_job d octets (Waits is a) = ap (λ (n : Near). is_transfer n.job) a.is

module _ (read : Reading) (reads : IsReading read) (from : State) (moments : ℕ → ℕ) (actions : List (Action client_side))
    (puts : AreCarried (begun_at moments actions)) (old new : Stand server_side)
    (client : Stand client_side) (reports : List Said) (w : World) (serves : ServerServes old.owner)
    (runs : OverRuns read from (begun_at moments actions) w) (last : ℕ) (ahead : Ahead) (p q : Between) (told : ℕ)
    (called : is_called p.far ≡ true → is_unaborted client.owner.end.view.job ≡ true) where
  abbrev begun : List Order
  begun = begun_at moments actions

  abbrev x : Far
  x = old.owner.end.server.view

  abbrev v : Near
  v = client.owner.end.view

  -- a world is beside both, its client ahead so
  abbrev At : Lead → List ℕ → Type 0
  At lead more = Together read begun last ahead (led_between lead more p) (led_told lead told) old (led_client lead client) reports w

  abbrev Went : Action server_side → Type 0
  Went action = GoesLed read [] begun q (told_by action told) new client reports w × ServerServes new.owner

  -- ---- it dials

  module _ (host : Host) (endpoint : Endpoint) (left written at_first so_far : Option (List ℕ)) (rest : Rest) (calm : ServerIsCalm old.owner new.owner)
      (did : Calls {side = server_side} (Opened host (Connected endpoint left written ∷ []) at_first so_far rest) old new)
      (can : Can TheServer (Dials endpoint) p q) where
    dials_led : (lead : Lead) (more : List ℕ) → LedSo lead more p told old client → At lead more → ClientRests (led_client lead client).owner
        → GoesLed read [] begun q told new client reports w × ServerServes new.owner
    dials_led Even more so t asks =
        let d = dials_on read reads from begun puts old new client reports w calm serves asks runs host endpoint left written at_first so_far rest last p
        q told did can ahead t in (
          record { lead = Joined d.0; left = []; so = (d.1, d.2); goes = d.3 },
          dials_serves read reads from begun puts old new client reports w calm serves asks runs host endpoint left written at_first so_far rest last p
              q told did can,
        )
    dials_led (Told port) more so t asks =
        let d = dials_on read reads from begun puts old new (led_client (Told port) client) reports w calm serves asks runs host endpoint left written
        at_first so_far rest last p q (next_listen told) did can ahead t in
        let is : led_by (Told port) v ≡ listening port (busy (Doing so.0.op Steps.Listen) NearData.ListenWanted v) = ap (listening port) so.0.view in
        absurd (true≢false (sym (stays_job (data_closed (led_by (Told port) v)) d.0 d.1.stays.0) ∙ ap (λ (n : Near). is_transfer n.job) is
        ∙ told_job port so.0.op v))
    dials_led (Joined octets) more so t asks = absurd (not_awaiting p.near endpoint.port so.0.called can.1)

  -- ---- a client that was told a port there owes

  module _ (port : ℕ) (more : List ℕ) (so : LedSo (Told port) more p told old client) (t : At (Told port) more)
      (asks : ClientRests (led_client (Told port) client).owner) where
    owes_none : w.far.owed ≡ []
    owes_none =
        world_sides read reads from begun puts w runs t.beside.control t.beside.unready
        (ap (λ (n : Near). is_unaborted n.job) t.beside.near ∙ is_unaborted_same (led_by (Told port) v) ∙ told_unaborted port p client so.0)
        (ap (λ (n : Near). has_any n.owed) t.beside.near ∙ ap (λ n. has_any (listening port n).owed) so.0.view ∙ told_owes port so.0.op v)

    -- so the server says nothing
    says_none : (octets : List ℕ) → SaysNext octets old new → octets ≡ []
    says_none octets says =
        let rest : List ℕ = drop says.gives.count x.owed in
        let owed : x.owed ≡ octets ++ rest = sym (take-append-drop says.gives.count x.owed) ∙ ap (λ o. o ++ rest) (sym says.gives.owed) in
        let there : w.far.owed ≡ octets ++ (far_ahead ahead (owing rest x)).owed =
        ap (λ (f : Far). f.owed) t.beside.far ∙ ap (λ o. (far_ahead ahead (owing o x)).owed) owed
        ∙ ap (λ (f : Far). f.owed) (says_after ahead x t.beside.fits octets rest) in
        (both_empty octets (far_ahead ahead (owing rest x)).owed (sym there ∙ owes_none)).0

    -- nor does it listen
    listens_never : far.wants x ≡ Want.Listen → ⊥
    listens_never wants = by ahead refl
      where
        unclosed : x.session.closing ≡ false
        unclosed = no_close x Want.Listen wants refl

        asked : is_asked x.session.connection ≡ true
        asked = sym (asked_listens x.session.connection) ∙ ap is_listen (sym (far_wants x serves.running unclosed)) ∙ ap is_listen wants

        by : (other : Ahead) → other ≡ ahead → ⊥
        by Level is = both asked (subst (λ h. Fits h x.session.connection) (sym is) t.beside.fits)
        by Opens is = both (subst (λ h. Fits h x.session.connection) (sym is) t.beside.fits) (asked_apart x.session.connection asked)
        by (Parted accepted) is = both asked (left_rests accepted x.session.connection (subst (λ h. Fits h x.session.connection) (sym is) t.beside.fits)).1
        by (Listens other) is =
            let says : has_octets w.far.owed ≡ true =
            ap (λ (f : Far). has_octets f.owed) t.beside.far ∙ ap (λ h. has_octets (far_ahead h x).owed) (sym is)
            ∙ told_speaks x.session.connection (subst (λ h. Fits h x.session.connection) (sym is) t.beside.fits) other x.session.closing x in
            both says (ap has_octets owes_none)

  -- ---- any other action

  module _ (action : Action server_side) (kept : ResetsNone action) (is : passive.ServerTransfers action old.owner new.owner) (next : IsNext action told)
      (can : CanTurn (Server action) p q)
      (did : Done action old new) (at : IsToldAt action old new did (last_of moments (number_in actions))) where
    goes_even : At Even [] → ClientRests client.owner → q.near ≡ p.near → (is_called p.near ≡ false) × ClientRests client.owner → Went action
    goes_even t asks same apart =
        let g = server_goes read reads from moments actions puts old new client reports w serves asks runs last ahead p q told called t action kept is next can did
        at in
        (record { lead = Even; left = []; so = (ap is_called same ∙ apart.0, apart.1); goes = g.0 }, g.1)

    goes_told : (port : ℕ) (more : List ℕ) (so : LedSo (Told port) more p told old client) → At (Told port) more
        → ClientRests (led_client (Told port) client).owner → is_port action ≡ false → q.near ≡ p.near → q.control.to_client ≡ p.control.to_client → Went action
    goes_told port more so t asks other same queue =
        let g = server_goes read reads from moments actions puts old new (led_client (Told port) client) reports w serves asks runs last ahead p q
        (next_listen told) (λ e. told_unaborted port p client so.0) t action kept is (any_next action (next_listen told) other) can did at in (
          record {
            lead = Told port;
            left = [];
            so = (
              record {
                op = so.0.op;
                view = so.0.view;
                owed = so.0.owed;
                empty = ap (λ o. client.unheard ++ o) queue ∙ so.0.empty;
                called = ap is_called same ∙ so.0.called;
              },
              so.1 ∙ ap port_at (sym (same_told action other)),
            );
            goes = subst (λ n. Goes read [] begun q n new (led_client (Told port) client) reports w) (told_so action told) g.0;
          },
          g.1,
        )
      where
        same_told : (action : Action server_side) → is_port action ≡ false → told_by action told ≡ told
        same_told (Other (Listening port)) e = absurd (true≢false e)
        same_told action e = refl

    goes_joined : ServerTransfersEitherWay action old.owner new.owner → (octets more : List ℕ) (so : LedSo (Joined octets) more p told old client)
        → At (Joined octets) more
        → ClientRests (led_client (Joined octets) client).owner → Went action
    goes_joined active octets more so t asks =
        let f = server_follows octets more p q so.0.called (touch_in action) can in
        let g = server_goes read reads from moments actions puts old new (led_client (Joined octets) client) reports w serves asks runs last ahead
        (led_between (Joined octets) more p) (led_between (Joined octets) f.rest q) told (λ e. joined_unaborted octets more p client so.0) t action kept is next
        f.can did at in (
          record {
            lead = Joined octets;
            left = f.rest;
            so = (
              record {
                closed = so.0.closed;
                stays = so.0.stays;
                owed = so.0.owed;
                queue = f.queue client.unheard so.0.queue;
                called = f.called;
              },
              λ e. lifts_on read reads old new serves p q (quiet e) so.0.called (so.1 e) action active can did,
            );
            goes = g.0;
          },
          g.1,
        )
      where
        known : Known w
        known =
            world_known read reads from begun puts w runs t.beside.control t.beside.unready

        -- no ABOR was sent, so at a transfer nothing is on its way to it
        unsent : is_transferring w.far.session.connection ≡ true → w.control_to_server ≡ []
        unsent busy = elim (known.lines busy) [
          | inl none ↦ none
          | inr halts ↦ absurd (true≢false (sym (ap (λ (n : Near). is_unaborted n.job) t.beside.near ∙ is_unaborted_same (led_by (Joined octets) v)
              ∙ joined_unaborted octets more p client so.0) ∙ halts.0))
        ]

        quiet : so.0.closed ≡ true → old.unheard ++ p.control.to_server ≡ []
        quiet e =
            sym t.beside.to_server
            ∙ unsent (lifts_busy w.far.session.connection (upload_there read reads from begun puts old reports serves last ahead
            (led_between (Joined octets) more p) told (led_client (Joined octets) client) w t (so.1 e).takes))

  -- whichever lead
  goes_quiet : (action : Action server_side) → ResetsNone action → passive.ServerTransfers action old.owner new.owner → ServerTransfersEitherWay action old.owner new.owner
      → IsNext action told
      → CanTurn (Server action) p q → (did : Done action old new) → IsToldAt action old new did (last_of moments (number_in actions)) → is_saying action ≡ false
      → is_port action ≡ false → (lead : Lead) (more : List ℕ) → LedSo lead more p told old client → At lead more → ClientRests (led_client lead client).owner
      → Went action
  goes_quiet action kept is active next can did at silent other Even more so t asks =
      goes_even action kept is next can did at t asks (far_apart (touch_in action) p q (quiet_apart action old.owner is.0 silent) can).0 so
  goes_quiet action kept is active next can did at silent other (Told port) more so t asks =
      let apart = far_apart (touch_in action) p q (quiet_apart action old.owner is.0 silent) can in
      goes_told action kept is next can did at port more so t asks other apart.0 apart.1
  goes_quiet action kept is active next can did at silent other (Joined octets) more so t asks =
      goes_joined action kept is next can did at active octets more so t asks

  goes_says : (octets : List ℕ) → passive.ServerTransfers (Says octets) old.owner new.owner → ServerTransfersEitherWay (Says octets) old.owner new.owner
      → CanTurn (Server (Says octets)) p q → (did : Done (Says octets) old new) → (lead : Lead) (more : List ℕ) → LedSo lead more p told old client
      → At lead more
      → ClientRests (led_client lead client).owner → Went (Says octets)
  goes_says octets is active can did Even more so t asks = goes_even (Says octets) tt is tt can did tt t asks (ap (λ (b : Between). b.near) can) so
  goes_says octets is active can did (Told port) more so t asks =
      goes_told (Says octets) tt is tt can did tt port more so t asks refl (ap (λ (b : Between). b.near) can)
      (ap (λ (b : Between). b.control.to_client) can ∙ ap (λ o. p.control.to_client ++ o) (says_none port more so t asks octets did)
      ∙ append-nil p.control.to_client)
  goes_says octets is active can did (Joined front) more so t asks = goes_joined (Says octets) tt is tt can did tt active front more so t asks

  goes_listens : (port : ℕ) → passive.ServerTransfers (Other (Listening port)) old.owner new.owner
      → ServerTransfersEitherWay (Other (Listening port)) old.owner new.owner
      → port ≡ port_at told → CanTurn (Server (Other (Listening port))) p q → (did : Done (Other (Listening port)) old new) → (lead : Lead) (more : List ℕ)
      → LedSo lead more p told old client → At lead more → ClientRests (led_client lead client).owner → Went (Other (Listening port))
  goes_listens port is active next can did Even more so t asks =
      goes_even (Other (Listening port)) tt is next can did tt t asks (ap (λ (b : Between). b.near) can.1) so
  goes_listens port is active next can did (Told other) more so t asks = absurd (listens_never other more so t asks did.0.2.0)
  goes_listens port is active next can did (Joined octets) more so t asks =
      goes_joined (Other (Listening port)) tt is next can did tt active octets more so t asks

  -- ---- it resets one

  -- what it did not write is on its way to the client still, whether that is ahead or not
  pub resets_led : (left written : Option (List ℕ)) → ServerIsCalm old.owner new.owner → Done (Other (Left (Reset left written))) old new → IsStanding p.far
      → (lead : Lead) (more : List ℕ) → LedSo lead more p told old client → At lead more → ClientRests (led_client lead client).owner
      → GoesLed read [] begun (with_lost old.owner.channel.unwritten (with_hold TheServer Has_lost p)) told new client reports w × ServerServes new.owner
  resets_led left written calm did stands Even more so t asks =
      let g = reset_goes read reads from moments actions puts old new client reports w serves asks runs last ahead p p told called t left written calm did
      stands in
      (record { lead = Even; left = []; so = so; goes = g.0 }, g.1)
  resets_led left written calm did stands (Told port) more so t asks =
      let g = reset_goes read reads from moments actions puts old new (led_client (Told port) client) reports w serves asks runs last ahead p p
      (next_listen told) (λ e. told_unaborted port p client so.0) t left written calm did stands in (
        record {
          lead = Told port;
          left = [];
          so = (record { op = so.0.op; view = so.0.view; owed = so.0.owed; empty = so.0.empty; called = so.0.called }, so.1);
          goes = g.0;
        },
        g.1,
      )
  resets_led left written calm did stands (Joined octets) more so t asks =
      let g = reset_goes read reads from moments actions puts old new (led_client (Joined octets) client) reports w serves asks runs last ahead
      (led_between (Joined octets) more p) (led_between (Joined octets) more p) told (λ e. joined_unaborted octets more p client so.0) t left written calm did
      stands in (
        record {
          lead = Joined octets;
          left = more;
          so = (
            record { closed = so.0.closed; stays = so.0.stays; owed = so.0.owed; queue = so.0.queue; called = so.0.called },
            λ e.
                let l : Lifted p old = so.1 e in record {
                  takes = ap (λ (at : Timed). is_upload at.server.view.session.connection) did.0.0 ∙ l.takes;
                  none_comes = l.none_comes;
                  untold = did.0.1.untold;
                },
          );
          goes = g.0;
        },
        g.1,
      )

  -- ---- all actions

  pub server_led : (action : Action server_side) → ResetsNone action → ServerTransfersEitherWay action old.owner new.owner → IsNext action told → CanTurn (Server action) p q
      → (did : Done action old new) → IsToldAt action old new did (last_of moments (number_in actions)) → (lead : Lead) (more : List ℕ)
      → LedSo lead more p told old client → At lead more → ClientRests (led_client lead client).owner → Went action
  server_led (Says octets) kept is next can did at lead more so t asks = goes_says octets is is can did lead more so t asks
  server_led (Other (Listening port)) kept is next can did at lead more so t asks = goes_listens port is is next can did lead more so t asks
  server_led (Other (Opened host (Connected endpoint left written ∷ []) at_first so_far rest)) kept is next can did at lead more so t asks =
      dials_led host endpoint left written at_first so_far rest is.1 did can lead more so t asks
  server_led (Heard octets) kept is next can did at lead more so t asks = goes_quiet (Heard octets) tt is is next can did at refl refl lead more so t asks
  server_led (Read octets) kept is next can did at lead more so t asks = goes_quiet (Read octets) tt is is next can did at refl refl lead more so t asks
  server_led (Other (Aside tt)) kept is next can did at lead more so t asks =
      goes_quiet (Other (Aside tt)) tt is is next can did at refl refl lead more so t asks
  server_led (Other (Opened host (Came other left written ∷ []) at_first so_far rest)) kept is next can did at lead more so t asks =
      goes_quiet (Other (Opened host (Came other left written ∷ []) at_first so_far rest)) tt is is next can did at refl refl lead more so t asks
  server_led (Other (Got octets)) kept is next can did at lead more so t asks =
      goes_quiet (Other (Got octets)) tt is is next can did at refl refl lead more so t asks
  server_led (Other (Received octets count)) kept is next can did at lead more so t asks =
      goes_quiet (Other (Received octets count)) tt is is next can did at refl refl lead more so t asks
  server_led (Other End) kept is next can did at lead more so t asks = goes_quiet (Other End) tt is is next can did at refl refl lead more so t asks
  server_led (Other (Gave count octets rest)) kept is next can did at lead more so t asks =
      goes_quiet (Other (Gave count octets rest)) tt is is next can did at refl refl lead more so t asks
  server_led (Other (Wrote octets)) kept is next can did at lead more so t asks =
      goes_quiet (Other (Wrote octets)) tt is is next can did at refl refl lead more so t asks
  server_led (Other (Waited lost)) kept is next can did at lead more so t asks =
      goes_quiet (Other (Waited lost)) tt is is next can did at refl refl lead more so t asks
  server_led (Other (LetGo octets)) kept is next can did at lead more so t asks =
      goes_quiet (Other (LetGo octets)) tt is is next can did at refl refl lead more so t asks
  server_led (Other (Left (EndedBy left written))) kept is next can did at lead more so t asks =
      goes_quiet (Other (Left (EndedBy left written))) tt is is next can did at refl refl lead more so t asks
  server_led (Other (Left (Reset left written))) kept is next can did at lead more so t asks = absurd kept
  server_led (Other (Left Shut)) kept is next can did at lead more so t asks =
      goes_quiet (Other (Left Shut)) tt is is next can did at refl refl lead more so t asks
  server_led (Other Closed) kept is next can did at lead more so t asks = goes_quiet (Other Closed) tt is is next can did at refl refl lead more so t asks
  server_led action kept is next can did at lead more so t asks = absurd is.0
