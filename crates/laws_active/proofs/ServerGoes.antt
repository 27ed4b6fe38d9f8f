-- An action of a server, in a world whose client is ahead of the drive's or not: all is as in laws_transfers, of the client that is ahead.
use Rattle.std.proofs.Common.{◌≡◌, ℕ, true, List, [], ◌∷◌, take, Option, sym, ap, subst, ◌∙◌}
use Rattle.ftp_ports.specs.Asking.{Came, Ended as EndedBy, Reset, Shut}
use Rattle.ftp_ports.specs.Actions.{Action, Done, Heard, Other, Read, Said as Says, Stand}
use Rattle.ftp_ports.specs.Machine.{Aside, Closed, End, Gave, Got, Left, LetGo, Listening, Opened, Received, Waited, Wrote}
use Rattle.ftp_direct.specs.Direct.{State}
use Rattle.ftp_client_driver.specs.Side.{client_side}
use Rattle.ftp_operation.specs.Answer.{Said}
use Rattle.ftp_server_driver.specs.alone.Side.{server_side}
use Rattle.ftp_server_model.specs.Machine.{IsReading, Reading, hears, hears_octet}
use Rattle.laws_world.specs.Agreement.{Order}
use Rattle.laws_world.specs.World.{World, next_listen, port_at}
use Rattle.laws_agreement.specs.Over.{OverRuns}
use Rattle.laws_drivers.specs.control.Alone.{ServerIsCalm}
use Rattle.laws_drivers.specs.control.Between.{Between, CanTurn, Far as TheServer, Has_lost, IsStanding, Server, with_hold}
use Rattle.laws_drivers.specs.world.Unaborted.{is_unaborted}
use Rattle.laws_drivers.proofs.world.Served.{Runs}
use Rattle.laws_drivers.proofs.events.Holding.{is_called}
use Rattle.laws_drivers.proofs.events.Serves.{action_serves}
use Rattle.laws_drivers.proofs.events.Stands.{ClientFetches as ClientRests, ServerServes}
use Rattle.laws_transfers.specs.Ahead.{Ahead}
use Rattle.laws_transfers.specs.Actions.{ServerTransfers}
use Rattle.laws_drivers.specs.events.Moments.{IsToldAt, begun_at, last_of, number_in}
use Rattle.laws_transfers.proofs.Beside.{Goes, Together}
use Rattle.laws_transfers.proofs.Known.{AreCarried, Known}
use Rattle.laws_transfers.proofs.Lost.{with_lost}
use Rattle.laws_transfers.proofs.Running.{hears_serving, world_known, world_timed}
use Rattle.laws_transfers.proofs.ServerGiving.{server_gave}
use Rattle.laws_transfers.proofs.ServerMoves.{server_heard, server_said}
use Rattle.laws_transfers.proofs.ServerStays.{server_accepts, server_aside, server_closed, server_ends, server_got, server_lets, server_listens, server_read, server_resets, server_shuts, server_waited, server_wrote}
use Rattle.laws_transfers.proofs.ServerTaking.{server_received, server_told_end}
use Rattle.laws_transfers.proofs.Simulating.{ResetsNone}

-- so many ports were told then
abbrev pub told_by : Action server_side → ℕ → ℕ
told_by (Other (Listening port)) told = next_listen told
told_by action told = told

-- a port that it is told is the next one of a world
abbrev pub IsNext : Action server_side → ℕ → Type 0
IsNext (Other (Listening port)) told = port ≡ port_at told
IsNext action told = Unit {0}

module _ (read : Reading) (reads : IsReading read) (from : State) (moments : ℕ → ℕ) (actions : List (Action client_side))
    (puts : AreCarried (begun_at moments actions))
    (old new : Stand server_side) (client : Stand client_side) (reports : List Said) (w : World) (serves : ServerServes old.owner)
    (asks : ClientRests client.owner) (runs : OverRuns read from (begun_at moments actions) w) (last : ℕ) (ahead : Ahead) (p q : Between) (told : ℕ)
    (called : is_called p.far ≡ true → is_unaborted client.owner.end.view.job ≡ true)
    (t : Together read (begun_at moments actions) last ahead p told old client reports w) where
  abbrev begun : List Order
  begun = begun_at moments actions

  known : Known w
  known = world_known read reads from begun puts w runs t.beside.control t.beside.unready

  hears_on : (octet : ℕ) (queue : List ℕ) → w.control_to_server ≡ octet ∷ queue → Runs (hears_octet read w.far octet)
  hears_on octet queue is =
      subst (λ l. Runs (hears read w.far (take 1 l))) is
      (hears_serving read reads from begun puts w 1 runs t.beside.control t.beside.unready)

  abbrev Went : Action server_side → Type 0
  Went action = Goes read [] begun q (told_by action told) new client reports w × ServerServes new.owner

  -- it resets one, and what it did not write is on its way still there
  pub reset_goes : (left written : Option (List ℕ)) → ServerIsCalm old.owner new.owner → Done (Other (Left (Reset left written))) old new → IsStanding p.far
      → Goes read [] begun (with_lost old.owner.channel.unwritten (with_hold TheServer Has_lost p)) told new client reports w × ServerServes new.owner
  reset_goes left written calm did stands = (
    server_resets read begun old new client reports w calm serves known left written last ahead p told t did stands,
    action_serves (Other (Left (Reset left written))) tt old new (tt, calm) did serves,
  )

  -- of any but a dial and that
  pub server_goes : (action : Action server_side) → ResetsNone action → ServerTransfers action old.owner new.owner → IsNext action told → CanTurn (Server action) p q
      → (did : Done action old new) → IsToldAt action old new did (last_of moments (number_in actions)) → Went action
  server_goes (Heard octets) kept is next can did at =
      subst (λ (m : Between). Goes read [] begun m told new client reports w × ServerServes new.owner) (sym can)
      (server_heard read reads begun old new client reports w is.1 serves asks known hears_on octets last ahead p told t called did)
  server_goes (Says octets) kept is next can did at = (
    server_said read reads begun old new client reports w is.1 serves asks known hears_on octets last ahead p q told t did can,
    action_serves (Says octets) tt old new (tt, is.1) did serves,
  )
  server_goes (Read octets) kept is next can did at = (
    server_read read begun old new client reports w is.1 serves known octets last ahead p q told t did can.0
        (ap (λ (m : Between). m.control.to_client) can.1) (ap (λ (m : Between). m.data_ways) can.1) (ap (λ (m : Between). m.far) can.1)
        (ap (λ (m : Between). m.near) can.1),
    action_serves (Read octets) tt old new (tt, is.1) did serves,
  )
  server_goes (Other (Aside tt)) kept is next can did at = (
    subst (λ (m : Between). Goes read [] begun m told new client reports w) (sym can)
        (server_aside read begun old new client reports w is.1 serves known last ahead p told t did),
    action_serves (Other (Aside tt)) tt old new (tt, is.1) did serves,
  )
  server_goes (Other (Listening port)) kept is next can did at = (
    server_listens read begun old new client reports w is.1 serves known port last ahead p q told t did can next,
    action_serves (Other (Listening port)) tt old new (tt, is.1) did serves,
  )
  server_goes (Other (Opened host (Came other left written ∷ []) at_first so_far rest)) kept is next can did at = (
    server_accepts read begun old new client reports w is.1 serves known host other left written at_first so_far rest last ahead p q told t did can is.0,
    action_serves (Other (Opened host (Came other left written ∷ []) at_first so_far rest)) tt old new is did serves,
  )
  server_goes (Other (Got octets)) kept is next can did at = (
    server_got read begun old new client reports w is.1 serves known octets last ahead p q told t did can,
    record {
      running = ap (λ x. x.server.view.session.life) did.0.0 ∙ serves.running;
      none_waits = ap (λ x. x.server.view.waiting) did.0.0 ∙ serves.none_waits;
    },
  )
  server_goes (Other (Received octets count)) kept is next can did at =
      subst (λ (m : Between). Goes read [] begun m told new client reports w × ServerServes new.owner) (sym can)
      (server_received read reads from begun puts old new client reports w is.1 serves asks known runs octets count last ahead p told did t)
  server_goes (Other End) kept is next can did at =
      server_told_end read reads from begun puts old new client reports w is.1 serves asks known runs last ahead p q told did can
      (λ takes. world_timed read reads from moments actions puts w runs t.beside.control t.beside.unready takes ∙ sym at) t
  server_goes (Other (Gave count octets rest)) kept is next can did at = (
    subst (λ (m : Between). Goes read [] begun m told new client reports w) (sym can)
        (server_gave read begun old new client reports w is.1 serves asks known count octets rest last p told did ahead t),
    action_serves (Other (Gave count octets rest)) tt old new (tt, is.1) did serves,
  )
  server_goes (Other (Wrote octets)) kept is next can did at = (
    server_wrote read begun old new client reports w is.1 serves known octets last ahead p q told t did can,
    action_serves (Other (Wrote octets)) tt old new (tt, is.1) did serves,
  )
  server_goes (Other (Waited lost)) kept is next can did at = (
    subst (λ (m : Between). Goes read [] begun m told new client reports w) (sym can)
        (server_waited read begun old new client reports w is.1 serves known lost last ahead p told t did),
    action_serves (Other (Waited lost)) tt old new (tt, is.1) did serves,
  )
  server_goes (Other (LetGo octets)) kept is next can did at = (
    subst (λ (m : Between). Goes read [] begun m told new client reports w) (sym can)
        (server_lets read begun old new client reports w is.1 serves known octets last ahead p told t did),
    action_serves (Other (LetGo octets)) tt old new (tt, is.1) did serves,
  )
  server_goes (Other (Left (EndedBy left written))) kept is next can did at = (
    server_ends read begun old new client reports w is.1 serves known left written last ahead p q told t did can,
    action_serves (Other (Left (EndedBy left written))) tt old new (tt, is.1) did serves,
  )
  server_goes (Other (Left (Reset left written))) kept is next can did at = absurd kept
  server_goes (Other (Left Shut)) kept is next can did at = (
    subst (λ (m : Between). Goes read [] begun m told new client reports w) (sym can)
        (server_shuts read begun old new client reports w is.1 serves known last ahead p told t did),
    action_serves (Other (Left Shut)) tt old new (tt, is.1) did serves,
  )
  server_goes (Other Closed) kept is next can did at = (
    subst (λ (m : Between). Goes read [] begun m told new client reports w) (sym can)
        (server_closed read begun old new client reports w is.1 serves known last ahead p told t did),
    action_serves (Other Closed) tt old new (tt, is.1) did serves,
  )
  server_goes action kept is next can did at = absurd is.0
