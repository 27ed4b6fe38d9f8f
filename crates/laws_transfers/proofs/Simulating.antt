-- Two drives that put and fetch files, as a list of a world's events: action by action.
use Rattle.std.proofs.Common.{◌≡◌, ℕ, true, false, true≢false, List, [], ◌∷◌, ◌++◌, take, option_to_list, refl, sym, ap, subst, ◌∙◌, append-nil}
use Rattle.ftp_ports.specs.Asking.{Came, Connected, Ended as EndedBy, NotConnected, Reset, Shut}
use Rattle.ftp_ports.specs.Actions.{Action, Done, Heard, Led, Other, Read, Said as Says, Stand}
use Rattle.ftp_ports.specs.Machine.{Aside, Break, Closed, End, Failed as HasFailed, Gave, Got, Left, LetGo, Listening, Opened, Received, Refused, Waited, Wrote}
use Rattle.ftp_client_driver.specs.Side.{Reporting, Starting, client_side}
use Rattle.ftp_client_model.specs.Calls as near
use Rattle.ftp_client_model.specs.Calls.{is_sound}
use Rattle.ftp_client_model.specs.View.{Doing, Idle, Job, Told, Transferring, View as Near, Waiting}
use Rattle.ftp_endpoint.specs.declared.endpoint.Endpoint.{Endpoint}
use Rattle.ftp_ends.specs.declared.link.Wants.TheVariants as Want
use Rattle.ftp_operation.specs.Answer.{Said}
use Rattle.ftp_operation.specs.declared.op.Op.{Op}
use Rattle.ftp_server_driver.specs.alone.Side.{server_side}
use Rattle.ftp_server_model.specs.Machine.{IsReading, Reading, hears, hears_octet}
use Rattle.laws_world.specs.Agreement.{Order, Single}
use Rattle.laws_world.specs.Claims.{Beginning, IsFair, state_of, world_of}
use Rattle.laws_world.specs.World.{Link, Refused as WasRefused, World, marked_last}
use Rattle.laws_agreement.specs.Over.{OverRuns}
use Rattle.laws_drivers.specs.control.Alone.{ClientIsCalm, reports_of}
use Rattle.laws_drivers.specs.events.Moments.{AreMoments, IsToldAt, begun_at, begun_by, last_of, number_in}
use Rattle.laws_drivers.specs.control.Between.{Between, CanTurn, Client, Server}
use Rattle.laws_drivers.proofs.control.Simulating.{reported_is}
use Rattle.laws_drivers.proofs.control.Taken.{idle_of, taken, taken_wants}
use Rattle.laws_drivers.proofs.control.Worlds.{LeadsOn}
use Rattle.laws_transfers.specs.Ahead.{Ahead}
use Rattle.laws_drivers.proofs.world.Known.{is_doing}
use Rattle.laws_drivers.proofs.world.Running.{all_runs}
use Rattle.laws_drivers.proofs.world.Served.{Runs}
use Rattle.laws_drivers.specs.events.Actions.{ArePorts, listened_in}
use Rattle.laws_drivers.proofs.events.Fresh.{Fresh}
use Rattle.laws_drivers.proofs.events.Holding.{unclosed}
use Rattle.laws_drivers.proofs.events.NearForms.{no_close, starts_standing}
use Rattle.laws_drivers.proofs.events.Plain.{IsPlainly, Whatever, starts_plain, whatever_kept}
use Rattle.laws_drivers.proofs.events.Plainly.{action_plain, action_sound, took_plain}
use Rattle.laws_drivers.proofs.events.Serves.{action_serves}
use Rattle.laws_drivers.proofs.events.Stands.{ClientFetches, ServerServes, portless}
use Rattle.laws_transfers.specs.Actions.{ServerTransfers}
use Rattle.laws_transfers.specs.Refusals.{ClientTries, TriesAlong, marked_by}
use Rattle.laws_transfers.proofs.Beside.{Goes, GoesTo, Together}
use Rattle.laws_transfers.proofs.Called.{BreaksNone, StaysFresh, called_unaborted, near_fresh, transferred_plain}
use Rattle.laws_transfers.proofs.ClientDials.{client_dials}
use Rattle.laws_transfers.proofs.ClientGiving.{client_gave, gave_fresh, gave_plain, gave_sound}
use Rattle.laws_transfers.proofs.ClientHears.{client_heard}
use Rattle.laws_transfers.proofs.ClientMoves.{client_begins, client_said}
use Rattle.laws_transfers.proofs.ClientRefused.{client_refused, refused_plain, refused_sound}
use Rattle.laws_transfers.proofs.ClientStays.{client_closed, client_ends, client_fails, client_got, client_lets, client_read, client_reports, client_resets, client_shuts, client_waited, client_wrote}
use Rattle.laws_transfers.proofs.ClientTaking.{client_received}
use Rattle.laws_transfers.proofs.ClientTold.{client_told_end}
use Rattle.laws_transfers.proofs.Known.{AreCarried, Known, both_carried, is_near_held}
use Rattle.laws_transfers.proofs.NearForms.{is_accept, never_accepts}
use Rattle.laws_transfers.proofs.Running.{hears_serving, world_known, world_timed}
use Rattle.laws_transfers.proofs.ServerGiving.{server_gave}
use Rattle.laws_transfers.proofs.ServerMoves.{server_heard, server_said}
use Rattle.laws_transfers.proofs.ServerStays.{server_accepts, server_aside, server_closed, server_ends, server_got, server_lets, server_listens, server_read, server_shuts, server_waited, server_wrote}
use Rattle.laws_transfers.proofs.ServerTaking.{server_received, server_told_end}

-- an action but a reset
abbrev pub ResetsNone : Action server_side → Type 0
ResetsNone (Other (Left (Reset left written))) = ⊥
ResetsNone action = Unit {0}

-- ---- what was begun

-- an action begins such an operation, or nothing
pub by_carried : (moment : ℕ) (action : Action client_side) (old new : client_side.End) → ClientTries action old new → AreCarried (begun_by moment action)
by_carried moment (Other (Aside (Starting op))) old new is = (is.0.0.0, tt)
by_carried moment action old new is = tt

-- so all actions do
pub in_carried : (moments : ℕ → ℕ) (actions : List (Action client_side)) (start now : Stand client_side) (led : Led actions start now)
    → TriesAlong actions start now led → AreCarried (begun_at moments actions)
in_carried moments [] start now led gives = tt
in_carried moments (action ∷ before) start now led gives =
    both_carried (begun_at moments before) (begun_by (moments (number_in before)) action) (in_carried moments before start led.0 led.1 gives.0)
    (by_carried (moments (number_in before)) action led.0.owner now.owner gives.1)

-- what was begun after an action
abbrev pub orders_after : (moment : ℕ) → Action client_side → List Order → List Order
orders_after moment (Other (Aside (Starting op))) orders = orders ++ Single op moment ∷ []
orders_after moment action orders = orders

pub orders_are : (moment : ℕ) (action : Action client_side) (orders : List Order) → orders_after moment action orders ≡ orders ++ begun_by moment action
orders_are moment (Other (Aside (Starting op))) orders = refl
orders_are moment action orders = sym (append-nil orders)

-- one that begins an operation stands as before
starts_sound : (op : Op (List ℕ)) (old new : Stand client_side) → ClientIsCalm old.owner new.owner → Done (Other (Aside (Starting op))) old new
    → is_sound old.owner.end.view.standing ≡ true → is_sound new.owner.end.view.standing ≡ true
starts_sound op old new calm did sound =
    ap (λ (n : Near). is_sound n.standing) (did.0.0.1.0.0 calm) ∙ ap is_sound (starts_standing op old.owner.end.view) ∙ sound

-- where its reports are taken an operation is at a step just where it was
pub doing_same : (job : Job) → is_doing (idle_of job) ≡ is_doing job
doing_same (Told said) = refl
doing_same Idle = refl
doing_same (Waiting op) = refl
doing_same (Doing op step) = refl
doing_same (Transferring op transfer) = refl

module _ (read : Reading) (reads : IsReading read) (moments : ℕ → ℕ) (timed : AreMoments moments) (b : Beginning) (fair : IsFair b) where
  -- after actions, a world is beside both drives
  pub record Reached (begun : List Order) (between : Between) (told : ℕ) (server : Stand server_side) (client : Stand client_side)
      (reports : List Said) : Type 0 where
    pub world : World
    pub leads : LeadsOn read begun (world_of b) world
    pub last : ℕ
    pub ahead : Ahead
    pub together : Together read begun last ahead between told server client reports world
    pub serves : ServerServes server.owner
    pub plain : IsPlainly client.owner.end.view
    pub sound : is_sound client.owner.end.view.standing ≡ true
    pub fresh : StaysFresh between client

  -- how a client stands
  pub fetches : (client : Stand client_side) → IsPlainly client.owner.end.view → is_sound client.owner.end.view.standing ≡ true → ClientFetches client.owner
  fetches client plain sound = record { sound = sound; dials = portless client.owner.end.view.connection plain.port }

  -- it accepts nobody
  pub never : (client : Stand client_side) → IsPlainly client.owner.end.view → is_sound client.owner.end.view.standing ≡ true
      → (link : Link) → near.wants client.owner.end.view ≡ Want.Accept → is_near_held link ≡ false
  never client plain sound link e =
      let n : Near = client.owner.end.view in
      absurd (true≢false (sym (ap is_accept e) ∙ never_accepts n sound plain.port (no_close n Want.Accept e refl)))

  -- what is known of it
  module _ (actions : List (Action client_side)) (between : Between) (told : ℕ) (server : Stand server_side) (client : Stand client_side) (reports : List Said)
      (o : Reached (begun_at moments actions) between told server client reports) (puts : AreCarried (begun_at moments actions)) where
    pub asks : ClientFetches client.owner
    asks = fetches client o.plain o.sound

    pub runs : OverRuns read (state_of b) (begun_at moments actions) o.world
    runs = all_runs read reads b fair o.leads.events (begun_at moments actions) o.world o.leads.timed o.leads.leads

    pub known : Known o.world
    known = world_known read reads (state_of b) (begun_at moments actions) puts o.world runs o.together.beside.control o.together.beside.unready

    -- its server that hears an octet goes on
    hears_on : (octet : ℕ) (queue : List ℕ) → o.world.control_to_server ≡ octet ∷ queue → Runs (hears_octet read o.world.far octet)
    hears_on octet queue is =
        subst (λ q. Runs (hears read o.world.far (take 1 q))) is
        (hears_serving read reads (state_of b) (begun_at moments actions) puts o.world 1 runs o.together.beside.control o.together.beside.unready)

    -- one that dials is at a step of its operation
    doing : (endpoint : Endpoint) → near.wants client.owner.end.view ≡ Want.Connect endpoint → is_doing client.owner.end.view.job ≡ true
    doing endpoint wants =
        let v : Near = client.owner.end.view in
        let near_is : o.world.near ≡ taken v = o.together.beside.near ∙ unclosed (taken v) (no_close v (Want.Connect endpoint) wants refl) in
        sym (doing_same v.job) ∙ ap (λ (n : Near). is_doing n.job) (sym near_is)
        ∙ (known.dials endpoint (ap near.wants near_is ∙ taken_wants v ∙ wants)).doing

  -- ---- an action

  -- of the server
  pub server_goes : (action : Action server_side) → ResetsNone action → (old new : Stand server_side) → ServerTransfers action old.owner new.owner
      → (actions : List (Action client_side))
      → AreCarried (begun_at moments actions) → (before : List (Action server_side)) → ArePorts (action ∷ before) → (p q : Between) → CanTurn (Server action) p q
      → (client : Stand client_side) (reports : List Said) → (o : Reached (begun_at moments actions) p (listened_in before) old client reports)
      → (did : Done action old new) → IsToldAt action old new did (last_of moments (number_in actions))
      → Goes read [] (begun_at moments actions) q (listened_in (action ∷ before)) new client reports o.world × ServerServes new.owner
  server_goes (Heard octets) kept old new is actions puts before ports p q can client reports o did told =
      subst (λ (m : Between). Goes read [] (begun_at moments actions) m (listened_in before) new client reports o.world × ServerServes new.owner) (sym can)
      (server_heard read reads (begun_at moments actions) old new client reports o.world is.1 o.serves
      (asks actions p (listened_in before) old client reports o puts)
      (known actions p (listened_in before) old client reports o puts) (hears_on actions p (listened_in before) old client reports o puts) octets o.last o.ahead p
      (listened_in before) o.together (called_unaborted p client o.fresh) did)
  server_goes (Says octets) kept old new is actions puts before ports p q can client reports o did told = (
    server_said read reads (begun_at moments actions) old new client reports o.world is.1 o.serves (asks actions p (listened_in before) old client reports o puts)
        (known actions p (listened_in before) old client reports o puts) (hears_on actions p (listened_in before) old client reports o puts) octets
        o.last o.ahead p q (listened_in before) o.together did can,
    action_serves (Says octets) tt old new (tt, is.1) did o.serves,
  )
  server_goes (Read octets) kept old new is actions puts before ports p q can client reports o did told = (
    server_read read (begun_at moments actions) old new client reports o.world is.1 o.serves (known actions p (listened_in before) old client reports o puts)
        octets o.last o.ahead p q
        (listened_in before) o.together did can.0
        (ap (λ (m : Between). m.control.to_client) can.1) (ap (λ (m : Between). m.data_ways) can.1) (ap (λ (m : Between). m.far) can.1) (ap (λ
        (m : Between). m.near) can.1),
    action_serves (Read octets) tt old new (tt, is.1) did o.serves,
  )
  server_goes (Other (Aside tt)) kept old new is actions puts before ports p q can client reports o did told = (
    subst (λ (m : Between). Goes read [] (begun_at moments actions) m (listened_in before) new client reports o.world) (sym can)
        (server_aside read (begun_at moments actions) old new client reports o.world is.1 o.serves
        (known actions p (listened_in before) old client reports o puts) o.last o.ahead p
        (listened_in before) o.together did),
    action_serves (Other (Aside tt)) tt old new (tt, is.1) did o.serves,
  )
  server_goes (Other (Listening port)) kept old new is actions puts before ports p q can client reports o did told = (
    server_listens read (begun_at moments actions) old new client reports o.world is.1 o.serves (known actions p (listened_in before) old client reports o puts)
        port o.last o.ahead p q
        (listened_in before) o.together did can ports.1,
    action_serves (Other (Listening port)) tt old new (tt, is.1) did o.serves,
  )
  server_goes (Other (Opened host (Came from left written ∷ []) at_first so_far rest)) kept old new is actions puts before ports p q can client reports o
      did told = (
        server_accepts read (begun_at moments actions) old new client reports o.world is.1 o.serves (known actions p (listened_in before) old client reports o puts)
            host from left written
            at_first so_far rest o.last o.ahead p q (listened_in before)
            o.together did can is.0,
        action_serves (Other (Opened host (Came from left written ∷ []) at_first so_far rest)) tt old new is did o.serves,
      )
  server_goes (Other (Got octets)) kept old new is actions puts before ports p q can client reports o did told = (
    server_got read (begun_at moments actions) old new client reports o.world is.1 o.serves (known actions p (listened_in before) old client reports o puts)
        octets o.last o.ahead p q
        (listened_in before) o.together did can,
    record {
      running = ap (λ at. at.server.view.session.life) did.0.0 ∙ o.serves.running;
      none_waits = ap (λ at. at.server.view.waiting) did.0.0 ∙ o.serves.none_waits;
    },
  )
  server_goes (Other (Received octets count)) kept old new is actions puts before ports p q can client reports o did told =
      subst (λ (m : Between). Goes read [] (begun_at moments actions) m (listened_in before) new client reports o.world × ServerServes new.owner) (sym can)
      (server_received read reads (state_of b) (begun_at moments actions) puts old new client reports o.world is.1 o.serves
      (asks actions p (listened_in before) old client reports o puts) (known actions p (listened_in before) old client reports o puts)
      (runs actions p (listened_in before) old client reports o puts) octets count o.last o.ahead p (listened_in before) did o.together)
  server_goes (Other End) kept old new is actions puts before ports p q can client reports o did told =
      server_told_end read reads (state_of b) (begun_at moments actions) puts old new client reports o.world is.1 o.serves
      (asks actions p (listened_in before) old client reports o puts) (known actions p (listened_in before) old client reports o puts)
      (runs actions p (listened_in before) old client reports o puts) o.last o.ahead p q (listened_in before) did can
      (λ takes. world_timed read reads (state_of b) moments actions puts o.world (runs actions p (listened_in before) old client reports o puts)
      o.together.beside.control o.together.beside.unready takes
      ∙ sym told) o.together
  server_goes (Other (Gave count octets rest)) kept old new is actions puts before ports p q can client reports o did told = (
    subst (λ (m : Between). Goes read [] (begun_at moments actions) m (listened_in before) new client reports o.world) (sym can)
        (server_gave read (begun_at moments actions) old new client reports o.world is.1 o.serves (asks actions p (listened_in before) old client reports o puts)
        (known actions p (listened_in before) old client reports o puts) count octets rest o.last p (listened_in before) did o.ahead o.together),
    action_serves (Other (Gave count octets rest)) tt old new (tt, is.1) did o.serves,
  )
  server_goes (Other (Wrote octets)) kept old new is actions puts before ports p q can client reports o did told = (
    server_wrote read (begun_at moments actions) old new client reports o.world is.1 o.serves (known actions p (listened_in before) old client reports o puts)
        octets o.last o.ahead p q
        (listened_in before) o.together did can,
    action_serves (Other (Wrote octets)) tt old new (tt, is.1) did o.serves,
  )
  server_goes (Other (Waited lost)) kept old new is actions puts before ports p q can client reports o did told = (
    subst (λ (m : Between). Goes read [] (begun_at moments actions) m (listened_in before) new client reports o.world) (sym can)
        (server_waited read (begun_at moments actions) old new client reports o.world is.1 o.serves
        (known actions p (listened_in before) old client reports o puts) lost o.last o.ahead p
        (listened_in before) o.together did),
    action_serves (Other (Waited lost)) tt old new (tt, is.1) did o.serves,
  )
  server_goes (Other (LetGo octets)) kept old new is actions puts before ports p q can client reports o did told = (
    subst (λ (m : Between). Goes read [] (begun_at moments actions) m (listened_in before) new client reports o.world) (sym can)
        (server_lets read (begun_at moments actions) old new client reports o.world is.1 o.serves (known actions p (listened_in before) old client reports o puts)
        octets o.last o.ahead p
        (listened_in before) o.together did),
    action_serves (Other (LetGo octets)) tt old new (tt, is.1) did o.serves,
  )
  server_goes (Other (Left (EndedBy left written))) kept old new is actions puts before ports p q can client reports o did told = (
    server_ends read (begun_at moments actions) old new client reports o.world is.1 o.serves (known actions p (listened_in before) old client reports o puts) left
        written o.last o.ahead
        p q (listened_in before) o.together did can,
    action_serves (Other (Left (EndedBy left written))) tt old new (tt, is.1) did o.serves,
  )
  server_goes (Other (Left (Reset left written))) kept old new is actions puts before ports p q can client reports o did told = absurd kept
  server_goes (Other (Left Shut)) kept old new is actions puts before ports p q can client reports o did told = (
    subst (λ (m : Between). Goes read [] (begun_at moments actions) m (listened_in before) new client reports o.world) (sym can)
        (server_shuts read (begun_at moments actions) old new client reports o.world is.1 o.serves
        (known actions p (listened_in before) old client reports o puts) o.last o.ahead p
        (listened_in before) o.together did),
    action_serves (Other (Left Shut)) tt old new (tt, is.1) did o.serves,
  )
  server_goes (Other Closed) kept old new is actions puts before ports p q can client reports o did told = (
    subst (λ (m : Between). Goes read [] (begun_at moments actions) m (listened_in before) new client reports o.world) (sym can)
        (server_closed read (begun_at moments actions) old new client reports o.world is.1 o.serves
        (known actions p (listened_in before) old client reports o puts) o.last o.ahead p
        (listened_in before) o.together did),
    action_serves (Other Closed) tt old new (tt, is.1) did o.serves,
  )
  server_goes action kept old new is actions puts before ports p q can client reports o did told = absurd is.0

  -- of the client
  pub client_goes : (action : Action client_side) → BreaksNone action → (old new : Stand client_side) → ClientTries action old.owner new.owner
      → (actions : List (Action client_side))
      → AreCarried (begun_at moments actions) → (p q : Between) → CanTurn (Client action) p q → (told : ℕ) (server : Stand server_side) (reports : List Said)
      → (o : Reached (begun_at moments actions) p told server old reports) → IsPlainly new.owner.end.view → Done action old new
      → GoesTo read (begun_by (moments (number_in actions)) action) (orders_after (moments (number_in actions)) action (begun_at moments actions)) q told server new
      (reports ++ reports_of action) (marked_by action o.world.marks) o.world
      × (is_sound new.owner.end.view.standing ≡ true)
  client_goes (Heard octets) unbroken old new is actions puts p q can told server reports o plain did =
      subst (λ (m : Between). Goes read [] (begun_at moments actions) m told server new (reports ++ []) o.world × (is_sound new.owner.end.view.standing ≡ true))
      (sym can)
      (client_heard read (begun_at moments actions) server old new reports o.world is.1 o.serves (asks actions p told server old reports o puts)
      (portless new.owner.end.view.connection plain.port)
      (known actions p told server old reports o puts) reads (state_of b) puts
      (runs actions p told server old reports o puts) octets o.last o.ahead p told
      o.together did)
  client_goes (Says octets) unbroken old new is actions puts p q can told server reports o plain did = (
    client_said read reads (begun_at moments actions) server old new reports o.world is.1 o.serves (asks actions p told server old reports o puts)
        (fetches new plain (action_sound (Says octets) tt old new (tt, is.1) did o.sound)) (known actions p told server old reports o puts) octets o.last o.ahead
        p q told
        o.together did can,
    action_sound (Says octets) tt old new (tt, is.1) did o.sound,
  )
  client_goes (Read octets) unbroken old new is actions puts p q can told server reports o plain did = (
    client_read read (begun_at moments actions) server old new reports o.world is.1 (known actions p told server old reports o puts) octets o.last o.ahead p q
        told o.together did
        can.0 (ap (λ (m : Between). m.control.to_server) can.1) (ap (λ (m : Between). m.data_ways) can.1) (ap (λ (m : Between). m.far) can.1) (ap (λ
        (m : Between). m.near) can.1),
    action_sound (Read octets) tt old new (tt, is.1) did o.sound,
  )
  client_goes (Other (Aside (Reporting said))) unbroken old new is actions puts p q can told server reports o plain did = (
    subst (λ (l : List Said). Goes read [] (begun_at moments actions) q told server new (reports ++ l) o.world) (sym (reported_is said))
        (subst (λ (m : Between). Goes read [] (begun_at moments actions) m told server new (reports ++ option_to_list said) o.world) (sym can)
        (client_reports read (begun_at moments actions) server old new reports o.world is.1 (known actions p told server old reports o puts) said o.last o.ahead p
        told o.together did)),
    action_sound (Other (Aside (Reporting said))) tt old new (tt, is.1) did o.sound,
  )
  client_goes (Other (Aside (Starting op))) unbroken old new is actions puts p q can told server reports o plain did = (
    subst (λ (m : Between). Goes read (Single op (moments (number_in actions)) ∷ []) (begun_at moments actions ++ Single op (moments (number_in actions)) ∷ []) m
        told server new (reports ++ []) o.world) (sym can)
        (client_begins read reads (begun_at moments actions) server old new reports o.world is.1 o.serves (asks actions p told server old reports o puts)
        (fetches new plain (starts_sound op old new is.1 did o.sound)) (known actions p told server old reports o puts) op is.0.0.0 (moments (number_in actions))
        (timed (number_in actions)) o.last
        o.ahead p told o.together is.0.1 did),
    starts_sound op old new is.1 did o.sound,
  )
  client_goes (Other (Opened host (Connected endpoint left written ∷ []) at_first so_far rest)) unbroken old new is actions puts p q can told server reports o
      plain did = (
        client_dials read (begun_at moments actions) server old new reports o.world is.1 o.serves (asks actions p told server old reports o puts)
            (fetches new plain (action_sound (Other (Opened host (Connected endpoint left written ∷ []) at_first so_far rest)) tt old new (tt, is.1) did o.sound))
            (known actions p told server old reports o puts) host endpoint left written
            at_first so_far rest o.last p q told did can o.ahead o.together,
        action_sound (Other (Opened host (Connected endpoint left written ∷ []) at_first so_far rest)) tt old new (tt, is.1) did o.sound,
      )
  client_goes (Other (Refused (NotConnected endpoint ∷ []))) unbroken old new is actions puts p q can told server reports o plain did = (
    subst (λ (m : Between). GoesTo read [] (begun_at moments actions) m told server new (reports ++ []) (marked_last WasRefused o.world.marks) o.world) (sym can)
        (client_refused read (begun_at moments actions) server old new reports o.world is.1 o.serves (asks actions p told server old reports o puts) o.plain.run
        (known actions p told server old reports o puts) endpoint o.last o.ahead p told did o.together),
    refused_sound read (begun_at moments actions) server old new reports o.world is.1 o.serves (asks actions p told server old reports o puts) o.plain.run
        (known actions p told server old reports o puts) endpoint o.last o.ahead p told did,
  )
  client_goes (Other (Gave count octets rest)) unbroken old new is actions puts p q can told server reports o plain did = (
    subst (λ (m : Between). Goes read [] (begun_at moments actions) m told server new (reports ++ []) o.world) (sym can)
        (client_gave read (begun_at moments actions) server old new reports o.world is.1 o.serves (asks actions p told server old reports o puts)
        (known actions p told server old reports o puts) count octets rest o.last o.ahead p told did o.together),
    gave_sound read (begun_at moments actions) server old new reports o.world is.1 o.serves (asks actions p told server old reports o puts)
        (known actions p told server old reports o puts) count octets rest o.last o.ahead p told did o.together,
  )
  client_goes (Other (Wrote octets)) unbroken old new is actions puts p q can told server reports o plain did = (
    client_wrote read (begun_at moments actions) server old new reports o.world is.1 (known actions p told server old reports o puts) octets o.last o.ahead p q told
        o.together did can,
    ap (λ c. is_sound c.view.standing) did.0.0 ∙ o.sound,
  )
  client_goes (Other (Got octets)) unbroken old new is actions puts p q can told server reports o plain did = (
    client_got read (begun_at moments actions) server old new reports o.world is.1 (known actions p told server old reports o puts) octets o.last o.ahead p q told
        o.together did can,
    action_sound (Other (Got octets)) tt old new (tt, is.1) did o.sound,
  )
  client_goes (Other (Received octets count)) unbroken old new is actions puts p q can told server reports o plain did = (
    subst (λ (m : Between). Goes read [] (begun_at moments actions) m told server new (reports ++ []) o.world) (sym can)
        (client_received read (begun_at moments actions) server old new reports o.world is.1 o.serves (asks actions p told server old reports o puts)
        (fetches new plain (action_sound (Other (Received octets count)) tt old new (tt, is.1) did o.sound)) (known actions p told server old reports o puts) octets
        count o.last o.ahead p told o.together did),
    action_sound (Other (Received octets count)) tt old new (tt, is.1) did o.sound,
  )
  client_goes (Other End) unbroken old new is actions puts p q can told server reports o plain did =
      client_told_end read (begun_at moments actions) server old new reports o.world is.1 o.serves (asks actions p told server old reports o puts)
      (portless new.owner.end.view.connection plain.port)
      (known actions p told server old reports o puts) o.last o.ahead p q told o.together did can reads (state_of b) puts
      (runs actions p told server old reports o puts)
  client_goes (Other (Waited lost)) unbroken old new is actions puts p q can told server reports o plain did = (
    subst (λ (m : Between). Goes read [] (begun_at moments actions) m told server new (reports ++ []) o.world) (sym can)
        (client_waited read (begun_at moments actions) server old new reports o.world is.1 (known actions p told server old reports o puts) lost o.last o.ahead p
        told o.together did),
    action_sound (Other (Waited lost)) tt old new (tt, is.1) did o.sound,
  )
  client_goes (Other (LetGo octets)) unbroken old new is actions puts p q can told server reports o plain did = (
    subst (λ (m : Between). Goes read [] (begun_at moments actions) m told server new (reports ++ []) o.world) (sym can)
        (client_lets read (begun_at moments actions) server old new reports o.world is.1 (known actions p told server old reports o puts) octets o.last o.ahead p
        told o.together did),
    action_sound (Other (LetGo octets)) tt old new (tt, is.1) did o.sound,
  )
  client_goes (Other (Left (EndedBy left written))) unbroken old new is actions puts p q can told server reports o plain did = (
    client_ends read (begun_at moments actions) server old new reports o.world is.1 (known actions p told server old reports o puts)
        (asks actions p told server old reports o puts) (never old o.plain o.sound o.world.link) left written o.last o.ahead p q told o.together
        did can,
    action_sound (Other (Left (EndedBy left written))) tt old new (tt, is.1) did o.sound,
  )
  client_goes (Other HasFailed) unbroken old new is actions puts p q can told server reports o plain did = (
    subst (λ (m : Between). Goes read [] (begun_at moments actions) m told server new (reports ++ []) o.world) (sym can)
        (client_fails read (begun_at moments actions) server old new reports o.world is.1 (known actions p told server old reports o puts) o.last o.ahead p told
        o.together did),
    ap (λ c. is_sound c.view.standing) did.0.0 ∙ o.sound,
  )
  client_goes (Other (Left (Reset left written))) unbroken old new is actions puts p q can told server reports o plain did = (
    client_resets read (begun_at moments actions) server old new reports o.world is.1 (known actions p told server old reports o puts)
        (asks actions p told server old reports o puts) (never old o.plain o.sound o.world.link) left written o.last o.ahead p q told o.together did
        is.0.1 can,
    ap (λ c. is_sound c.view.standing) did.0.0 ∙ o.sound,
  )
  client_goes (Other Break) unbroken old new is actions puts p q can told server reports o plain did = absurd unbroken
  client_goes (Other (Left Shut)) unbroken old new is actions puts p q can told server reports o plain did = (
    subst (λ (m : Between). Goes read [] (begun_at moments actions) m told server new (reports ++ []) o.world) (sym can)
        (client_shuts read (begun_at moments actions) server old new reports o.world is.1 (known actions p told server old reports o puts) o.last o.ahead p told
        o.together did),
    action_sound (Other (Left Shut)) tt old new (tt, is.1) did o.sound,
  )
  client_goes (Other Closed) unbroken old new is actions puts p q can told server reports o plain did = (
    subst (λ (m : Between). Goes read [] (begun_at moments actions) m told server new (reports ++ []) o.world) (sym can)
        (client_closed read (begun_at moments actions) server old new reports o.world is.1 (known actions p told server old reports o puts) o.last o.ahead p told
        o.together did),
    action_sound (Other Closed) tt old new (tt, is.1) did o.sound,
  )
  client_goes action unbroken old new is actions puts p q can told server reports o plain did = absurd is.0

  -- the client stays plain
  pub client_plain : (action : Action client_side) → BreaksNone action → (old new : Stand client_side) → ClientTries action old.owner new.owner
      → (actions : List (Action client_side))
      → AreCarried (begun_at moments actions) → (p : Between) (told : ℕ) (server : Stand server_side) (reports : List Said)
      → Reached (begun_at moments actions) p told server old reports → Done action old new → IsPlainly new.owner.end.view
  client_plain (Heard octets) unbroken old new is actions puts p told server reports o did =
      action_plain Whatever whatever_kept old new (Heard octets) tt (tt, is.1) did o.plain
  client_plain (Says octets) unbroken old new is actions puts p told server reports o did =
      action_plain Whatever whatever_kept old new (Says octets) tt (tt, is.1) did o.plain
  client_plain (Read octets) unbroken old new is actions puts p told server reports o did =
      action_plain Whatever whatever_kept old new (Read octets) tt (tt, is.1) did o.plain
  client_plain (Other (Aside (Reporting said))) unbroken old new is actions puts p told server reports o did =
      action_plain Whatever whatever_kept old new (Other (Aside (Reporting said))) tt (tt, is.1) did o.plain
  client_plain (Other (Aside (Starting op))) unbroken old new is actions puts p told server reports o did =
      subst IsPlainly (sym (did.0.0.1.0.0 is.1)) (starts_plain Whatever whatever_kept op old.owner.end.view (transferred_plain op is.0.0) o.plain)
  client_plain (Other (Opened host (Connected endpoint left written ∷ []) at_first so_far rest)) unbroken old new is actions puts p told server reports o did =
      action_plain Whatever whatever_kept old new (Other (Opened host (Connected endpoint left written ∷ []) at_first so_far rest)) tt (tt, is.1) did o.plain
  client_plain (Other (Refused (NotConnected endpoint ∷ []))) unbroken old new is actions puts p told server reports o did =
      refused_plain read (begun_at moments actions) server old new reports o.world is.1 o.serves (asks actions p told server old reports o puts) o.plain.run
      (known actions p told server old reports o puts) endpoint o.last o.ahead p told did Whatever
  client_plain (Other (Gave count octets rest)) unbroken old new is actions puts p told server reports o did =
      gave_plain read (begun_at moments actions) server old new reports o.world is.1 o.serves (asks actions p told server old reports o puts)
      (known actions p told server old reports o puts) count octets rest o.last o.ahead p told did o.together o.plain
  client_plain (Other (Wrote octets)) unbroken old new is actions puts p told server reports o did = subst (λ c. IsPlainly c.view) (sym did.0.0) o.plain
  client_plain (Other (Got octets)) unbroken old new is actions puts p told server reports o did =
      action_plain Whatever whatever_kept old new (Other (Got octets)) tt (tt, is.1) did o.plain
  client_plain (Other (Received octets count)) unbroken old new is actions puts p told server reports o did =
      took_plain octets count old new is.1 did o.plain
  client_plain (Other End) unbroken old new is actions puts p told server reports o did =
      action_plain Whatever whatever_kept old new (Other End) tt (tt, is.1) did o.plain
  client_plain (Other (Waited lost)) unbroken old new is actions puts p told server reports o did =
      action_plain Whatever whatever_kept old new (Other (Waited lost)) tt (tt, is.1) did o.plain
  client_plain (Other (LetGo octets)) unbroken old new is actions puts p told server reports o did =
      action_plain Whatever whatever_kept old new (Other (LetGo octets)) tt (tt, is.1) did o.plain
  client_plain (Other (Left (EndedBy left written))) unbroken old new is actions puts p told server reports o did =
      action_plain Whatever whatever_kept old new (Other (Left (EndedBy left written))) tt (tt, is.1) did o.plain
  client_plain (Other HasFailed) unbroken old new is actions puts p told server reports o did = subst (λ c. IsPlainly c.view) (sym did.0.0) o.plain
  client_plain (Other (Left (Reset left written))) unbroken old new is actions puts p told server reports o did =
      subst (λ c. IsPlainly c.view) (sym did.0.0) o.plain
  client_plain (Other Break) unbroken old new is actions puts p told server reports o did = absurd unbroken
  client_plain (Other (Left Shut)) unbroken old new is actions puts p told server reports o did =
      action_plain Whatever whatever_kept old new (Other (Left Shut)) tt (tt, is.1) did o.plain
  client_plain (Other Closed) unbroken old new is actions puts p told server reports o did =
      action_plain Whatever whatever_kept old new (Other Closed) tt (tt, is.1) did o.plain
  client_plain action unbroken old new is actions puts p told server reports o did = absurd is.0

  -- while the server was dialled nothing came to it
  pub client_fresh : (action : Action client_side) → BreaksNone action → (old new : Stand client_side) → ClientTries action old.owner new.owner
      → (actions : List (Action client_side))
      → AreCarried (begun_at moments actions) → (p q : Between) → CanTurn (Client action) p q → (told : ℕ) (server : Stand server_side) (reports : List Said)
      → Reached (begun_at moments actions) p told server old reports → Done action old new → StaysFresh q new
  client_fresh action unbroken old new is actions puts p q can told server reports o did =
      near_fresh p q old new o.fresh action unbroken is o.plain (doing actions p told server old reports o puts)
      (λ f count octets rest gave. gave_fresh read (begun_at moments actions) server old new reports o.world is.1 o.serves
      (asks actions p told server old reports o puts) (known actions p told server old reports o puts) count octets rest o.last o.ahead p told gave o.together f)
      (λ endpoint refused. refused_plain read (begun_at moments actions) server old new reports o.world is.1 o.serves
      (asks actions p told server old reports o puts) o.plain.run (known actions p told server old reports o puts) endpoint o.last o.ahead p told refused Fresh)
      did can
