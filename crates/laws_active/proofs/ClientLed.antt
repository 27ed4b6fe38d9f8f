-- An action of a client, whether a world's is ahead of it or not.
use Rattle.std.proofs.Common.{◌≡◌, ℕ, zero, suc, Bool, true, false, true≢false, List, [], ◌∷◌, ◌++◌, length, take, drop, None, option_to_list, refl, sym, ap, ap₂, subst, ◌∙◌, append-nil, arith}
use Rattle.std.proofs.Math.Seq.{drop-nil}
use Rattle.ftp_ports.specs.Asking.{Came, Connected, Ended as EndedBy, Reset, Shut}
use Rattle.ftp_ports.specs.Actions.{Action, Done, Heard, HearsNext, Other, Read, Said as Says, Stand}
use Rattle.ftp_ports.specs.Channel.{Channel}
use Rattle.ftp_ports.specs.Machine.{Aside, Break, Closed, End, Failed as HasFailed, Gave, Got, Left, LetGo, Listening, Opened, Received, Waited, Wrote, awaits}
use Rattle.ftp_direct.specs.Direct.{State}
use Rattle.ftp_ends.specs.declared.link.Wants.{Wants}
use Rattle.ftp_ends.specs.declared.link.Wants.TheVariants as Want
use Rattle.ftp_client_driver.specs.Side.{Reporting, Starting, client_machine, client_side}
use Rattle.ftp_client_model.specs.Calls as near
use Rattle.ftp_client_model.specs.Calls.{data_closed, is_sound, report_of}
use Rattle.ftp_client_model.specs.View.{View as Near}
use Rattle.ftp_operation.specs.Answer.{Said}
use Rattle.ftp_operation.specs.declared.op.Op.{Op}
use Rattle.ftp_server_driver.specs.alone.Side.{server_side}
use Rattle.ftp_server_model.specs.Machine.{IsReading, Reading}
use Rattle.laws_world.specs.Agreement.{Order, Single}
use Rattle.laws_world.specs.World.{Gone, World, next_listen, port_at}
use Rattle.laws_agreement.specs.Over.{OverRuns}
use Rattle.laws_drivers.specs.control.Alone.{reports_of}
use Rattle.laws_drivers.specs.events.Moments.{AreMoments, begun_at, begun_by, number_in}
use Rattle.laws_drivers.specs.control.Between.{Between, Can, CanTurn, Client, Has, IsStanding, Near as TheClient, sent}
use Rattle.laws_agreement.proofs.Chunks.{both_empty}
use Rattle.laws_drivers.specs.control.Touches.{Touch, touch_in}
use Rattle.laws_drivers.proofs.control.Simulating.{reported_is}
use Rattle.laws_drivers.proofs.control.Taken.{reports_is, taken}
use Rattle.laws_drivers.proofs.world.Served.{rests}
use Rattle.laws_drivers.proofs.events.Holding.{is_called}
use Rattle.laws_drivers.proofs.events.NearForms.{dialled_standing, dialling_of, receives_standing, starts_standing}
use Rattle.laws_drivers.proofs.events.Stands.{ClientFetches as ClientRests, ServerServes, wants_port}
use Rattle.laws_transfers.specs.Ahead.{Ahead}
use Rattle.laws_transfers.proofs.Beside.{Goes, Together, is_taking, open_takes}
use Rattle.laws_transfers.proofs.Called.{BreaksNone}
use Rattle.laws_transfers.proofs.ClientDials.{client_dials}
use Rattle.laws_transfers.proofs.ClientGiving.{client_gave, gave_sound}
use Rattle.laws_transfers.proofs.ClientHears.{client_heard}
use Rattle.laws_transfers.proofs.ClientMoves.{client_begins, client_said}
use Rattle.laws_transfers.proofs.ClientStays.{client_closed, client_ends, client_fails, client_got, client_lets, client_read, client_reports, client_resets, client_shuts, client_waited, client_wrote}
use Rattle.laws_transfers.proofs.ClientTaking.{client_received}
use Rattle.laws_transfers.proofs.ClientTold.{client_told_end}
use Rattle.laws_transfers.proofs.Known.{AreCarried, Known, is_near_held}
use Rattle.laws_transfers.proofs.Running.{world_known}
use Rattle.laws_transfers.proofs.Simulating.{orders_after}
use Rattle.laws_active.specs.Actions.{ClientTransfersEitherWay}
use Rattle.laws_active.specs.Lead.{Even, Joined, Lead, Told}
use Rattle.laws_active.proofs.Bare.{StaysBare, left_bare, none_bare, none_unsent, none_untold, same_bare}
use Rattle.laws_active.proofs.Beginning.{begins_tells}
use Rattle.laws_active.proofs.JoinedActions.{is_patient, joined_accepts, joined_busy, joined_heard, joined_never, joined_said, joined_stays, joined_taken}
use Rattle.laws_active.proofs.Leading.{led_between, led_client, led_told}
use Rattle.laws_active.proofs.Leads.{LedSo, near_uncalled}
use Rattle.laws_active.proofs.LedActions.{GoesLed, is_asking_port, none_comes, told_busy, told_listens, told_never, told_ported, told_said, told_stays, told_taken, told_wants}
use Rattle.laws_active.proofs.Portless.{dialled_portless, ended_portless, gives_portless, listens_wants, receives_portless}
use Rattle.laws_active.proofs.Ports.{accepting_of, is_ported, world_awaits}
use Rattle.laws_active.proofs.Telling.{Tells, heard_tells}

-- so many ports were told then
abbrev pub told_by : Action client_side → ℕ → ℕ
told_by (Other (Listening port)) told = next_listen told
told_by action told = told

-- a port that it is told is the next one of a world
abbrev pub IsNext : Action client_side → ℕ → Type 0
IsNext (Other (Listening port)) told = port ≡ port_at told
IsNext action told = Unit {0}

-- none of these octets
pub take_none : (count : ℕ) (octets : List ℕ) → octets ≡ [] → take count octets ≡ []
take_none zero octets none = refl
take_none (suc count) octets none = ap (take (suc count)) none

pub drop_none : (count : ℕ) (octets : List ℕ) → octets ≡ [] → drop count octets ≡ octets
drop_none count octets none = ap (drop count) none ∙ drop-nil count ∙ sym none

-- where it said none the same lies between
pub sent_none : (between : Between) (octets : List ℕ) → octets ≡ [] → record between { control = sent TheClient octets between.control } ≡ between
sent_none between octets none =
    ap (λ o. record between { control = sent TheClient o between.control }) none
    ∙ ap (λ q. record between { control = record between.control { to_server = q } }) (append-nil between.control.to_server)

module _ (read : Reading) (reads : IsReading read) (from : State) (moments : ℕ → ℕ) (timed : AreMoments moments) (actions : List (Action client_side))
    (puts : AreCarried (begun_at moments actions)) (server : Stand server_side) (old new : Stand client_side) (reports : List Said) (w : World)
    (serves : ServerServes server.owner) (runs : OverRuns read from (begun_at moments actions) w) (run : old.owner.end.view.run ≡ None) (last : ℕ) (ahead : Ahead)
    (p q : Between) (told : ℕ) where
  abbrev begun : List Order
  begun = begun_at moments actions

  abbrev v : Near
  v = old.owner.end.view

  abbrev u : Near
  u = new.owner.end.view

  -- a world is beside both, its client ahead so
  abbrev At : Lead → List ℕ → Type 0
  At lead more = Together read begun last ahead (led_between lead more p) (led_told lead told) server (led_client lead old) reports w

  -- so it is again
  abbrev Went : Action client_side → Type 0
  Went action = GoesLed read (begun_by (moments (number_in actions)) action) (orders_after (moments (number_in actions)) action begun) q (told_by action told) server new
      (reports ++ reports_of action) w

  known_of : (lead : Lead) (more : List ℕ) → At lead more → ClientRests (led_client lead old).owner → Known w
  known_of lead more t asks =
      world_known read reads from begun puts w runs t.beside.control t.beside.unready

  -- one that is at its port has no link
  awaits_of : (lead : Lead) (more : List ℕ) → At lead more → is_ported w.near.connection ≡ true → w.link ≡ Gone
  awaits_of lead more t ported = world_awaits read reads from begun puts w runs t.beside.control t.beside.unready ported

  -- ---- none is ahead

  module _ (t : At Even []) (asks : ClientRests old.owner) (so : is_called p.near ≡ false) where
    known : Known w
    known = known_of Even [] t asks

    -- so it is then
    even : (more orders : List Order) (said : List Said) → Goes read more orders q told server new said w → ClientRests new.owner
        → (touch : Touch) → Can TheClient touch p q → GoesLed read more orders q told server new said w
    even more orders said goes rests touch can = record { lead = Even; left = []; so = (near_uncalled touch p q can so, rests); goes = goes }

    rests_now : is_sound u.standing ≡ true → wants_port u.connection ≡ false → ClientRests new.owner
    rests_now sound portless = record { sound = sound; dials = portless }

    -- it stands and wants as before
    same_rests : u ≡ v → ClientRests new.owner
    same_rests is = rests_now (ap (λ (n : Near). is_sound n.standing) is ∙ asks.sound) (ap (λ (n : Near). wants_port n.connection) is ∙ asks.dials)

    told_then : {more orders : List Order} → Tells read server new reports w more orders p told → q ≡ p
        → GoesLed read more orders q told server new (reports ++ []) w
    told_then {more} {orders} tells same =
        subst (λ (b : Between). GoesLed read more orders b told server new (reports ++ []) w) (sym same)
        (record { lead = Told tells.port; left = []; so = (tells.is_told, tells.port_is); goes = tells.goes })

    -- octets are heard
    hears_even : (octets : List ℕ) → ClientTransfersEitherWay (Heard octets) old.owner new.owner → q ≡ p → HearsNext octets old new → (wants : Bool)
        → wants_port u.connection ≡ wants → GoesLed read [] begun q told server new (reports ++ []) w
    hears_even octets is same did false portless =
        even [] begun (reports ++ [])
        (subst (λ (m : Between). Goes read [] begun m told server new (reports ++ []) w) (sym same)
        (client_heard read begun server old new reports w is.1 serves asks portless known reads from puts runs octets last ahead p told t did).0)
        (rests_now (client_heard read begun server old new reports w is.1 serves asks portless known reads from puts runs octets last ahead p told t
        did).1
        portless)
        (touch_in {end = client_machine} (Heard octets)) same
    hears_even [] is same did true wants =
        absurd (true≢false (sym wants ∙ ap (λ (n : Near). wants_port n.connection) ((did.hears.0.0.0 is.1).0) ∙ asks.dials))
    hears_even (octet ∷ octets) is same did true wants =
        told_then (heard_tells read reads begun server old new reports w is.1 serves asks known from puts runs octet octets last ahead p told t did so
        wants) same

    -- an operation begins
    begins_even : (op : Op (List ℕ)) → ClientTransfersEitherWay (Other (Aside (Starting op))) old.owner new.owner → q ≡ p → Done (Other (Aside (Starting op))) old new
        → (wants : Bool) → wants_port u.connection ≡ wants → Went (Other (Aside (Starting op)))
    begins_even op is same did false portless =
        let at : ℕ = moments (number_in actions) in
        even (Single op at ∷ []) (begun ++ Single op at ∷ []) (reports ++ [])
        (subst (λ (m : Between). Goes read (Single op at ∷ []) (begun ++ Single op at ∷ []) m told server new (reports ++ []) w) (sym same)
        (client_begins read reads begun server old new reports w is.1 serves asks
        (rests_now (ap (λ (n : Near). is_sound n.standing) (did.0.0.1.0.0 is.1) ∙ ap is_sound (starts_standing op v) ∙ asks.sound) portless) known op
        is.0.0 at (timed (number_in actions)) last ahead p told t is.0.1 did))
        (rests_now (ap (λ (n : Near). is_sound n.standing) (did.0.0.1.0.0 is.1) ∙ ap is_sound (starts_standing op v) ∙ asks.sound) portless)
        (touch_in {end = client_machine} (Other (Aside (Starting op)))) same
    begins_even op is same did true wants =
        told_then (begins_tells read reads begun server old new reports w is.1 serves asks known from puts runs op is.0.0
        (moments (number_in actions)) (timed (number_in actions)) last ahead p told t is.0.1 did so wants) same

    -- who accepts at a port has no link
    never : near.wants v ≡ Want.Accept → is_near_held w.link ≡ false
    never wants =
        let has = accepting_of v wants in
        let is : w.near ≡ data_closed (taken v) = t.beside.near in
        ap is_near_held (awaits_of Even [] t (ap (λ (n : Near). is_ported n.connection) is ∙ has.0))

    even_goes : (action : Action client_side) → BreaksNone action → ClientTransfersEitherWay action old.owner new.owner → CanTurn (Client action) p q → Done action old new
        → Went action
    even_goes (Heard octets) unbroken is can did = hears_even octets is can did (wants_port u.connection) refl
    even_goes (Says octets) unbroken is can did =
        even [] begun (reports ++ [])
        (client_said read reads begun server old new reports w is.1 serves asks
        (rests_now (ap (λ (n : Near). is_sound n.standing) did.gives.gave.0 ∙ asks.sound)
        (ap (λ (n : Near). wants_port n.connection) did.gives.gave.0 ∙ asks.dials))
        known octets last ahead p q told t did can)
        (rests_now (ap (λ (n : Near). is_sound n.standing) did.gives.gave.0 ∙ asks.sound)
        (ap (λ (n : Near). wants_port n.connection) did.gives.gave.0 ∙ asks.dials))
        (touch_in {end = client_machine} (Says octets)) can
    even_goes (Read octets) unbroken is can did =
        even [] begun (reports ++ [])
        (client_read read begun server old new reports w is.1 known octets last ahead p q told t did can.0 (ap (λ (m : Between). m.control.to_server) can.1)
        (ap (λ (m : Between). m.data_ways) can.1) (ap (λ (m : Between). m.far) can.1) (ap (λ (m : Between). m.near) can.1))
        (same_rests (ap (λ o. o.end.view) did.owner))
        (touch_in {end = client_machine} (Read octets)) can
    even_goes (Other (Aside (Reporting said))) unbroken is can did =
        even [] begun (reports ++ reports_of (Other (Aside (Reporting said))))
        (subst (λ (l : List Said). Goes read [] begun q told server new (reports ++ l) w) (sym (reported_is said))
        (subst (λ (m : Between). Goes read [] begun m told server new (reports ++ option_to_list said) w) (sym can)
        (client_reports read begun server old new reports w is.1 known said last ahead p told t did)))
        (rests_now (ap (λ (n : Near). is_sound n.standing) (did.0.0.1.0 ∙ reports_is v) ∙ asks.sound)
        (ap (λ (n : Near). wants_port n.connection) (did.0.0.1.0 ∙ reports_is v) ∙ asks.dials))
        (touch_in {end = client_machine} (Other (Aside (Reporting said)))) can
    even_goes (Other (Aside (Starting op))) unbroken is can did = begins_even op is can did (wants_port u.connection) refl
    even_goes (Other (Listening port)) unbroken is can did = absurd (true≢false (sym (listens_wants v did.0.2.0).0 ∙ asks.dials))
    even_goes (Other (Opened host (Came from left written ∷ []) at_first so_far rest)) unbroken is can did =
        absurd (true≢false (sym (ap is_called can.0) ∙ so))
    even_goes (Other (Opened host (Connected endpoint left written ∷ []) at_first so_far rest)) unbroken is can did =
        let dials = dialling_of endpoint v did.0.2.0 in
        let view = did.0.0.0.0.0 is.1 in
        even [] begun (reports ++ [])
        (client_dials read begun server old new reports w is.1 serves asks
        (rests_now (ap (λ (n : Near). is_sound n.standing) view ∙ ap is_sound (dialled_standing endpoint host v dials) ∙ asks.sound)
        (ap (λ (n : Near). wants_port n.connection) view ∙ dialled_portless endpoint host v dials))
        known host endpoint left written at_first so_far rest last p q told did can ahead t)
        (rests_now (ap (λ (n : Near). is_sound n.standing) view ∙ ap is_sound (dialled_standing endpoint host v dials) ∙ asks.sound)
        (ap (λ (n : Near). wants_port n.connection) view ∙ dialled_portless endpoint host v dials))
        (touch_in {end = client_machine} (Other (Opened host (Connected endpoint left written ∷ []) at_first so_far rest))) can
    even_goes (Other (Gave count octets rest)) unbroken is can did =
        even [] begun (reports ++ [])
        (subst (λ (m : Between). Goes read [] begun m told server new (reports ++ []) w) (sym can)
        (client_gave read begun server old new reports w is.1 serves asks known count octets rest last ahead p told did t))
        (rests_now (gave_sound read begun server old new reports w is.1 serves asks known count octets rest last ahead p told did t)
        (ap (λ (n : Near). wants_port n.connection) (did.0.0.1.0.0 is.1) ∙ gives_portless count v run asks.dials))
        (touch_in {end = client_machine} (Other (Gave count octets rest))) can
    even_goes (Other (Wrote octets)) unbroken is can did =
        even [] begun (reports ++ []) (client_wrote read begun server old new reports w is.1 known octets last ahead p q told t did can)
        (same_rests (ap (λ c. c.view) did.0.0))
        (touch_in {end = client_machine} (Other (Wrote octets))) can
    even_goes (Other (Got octets)) unbroken is can did =
        even [] begun (reports ++ []) (client_got read begun server old new reports w is.1 known octets last ahead p q told t did can)
        (same_rests (ap (λ c. c.view) did.0.0))
        (touch_in {end = client_machine} (Other (Got octets))) can
    even_goes (Other (Received octets count)) unbroken is can did =
        let view = (did.0.0.0.0 is.1).0 in
        even [] begun (reports ++ [])
        (subst (λ (m : Between). Goes read [] begun m told server new (reports ++ []) w) (sym can)
        (client_received read begun server old new reports w is.1 serves asks
        (rests_now (ap (λ (n : Near). is_sound n.standing) view ∙ ap is_sound (receives_standing (take count octets) v) ∙ asks.sound)
        (ap (λ (n : Near). wants_port n.connection) view ∙ receives_portless (take count octets) v asks.dials))
        known octets count last ahead p told t did))
        (rests_now (ap (λ (n : Near). is_sound n.standing) view ∙ ap is_sound (receives_standing (take count octets) v) ∙ asks.sound)
        (ap (λ (n : Near). wants_port n.connection) view ∙ receives_portless (take count octets) v asks.dials))
        (touch_in {end = client_machine} (Other (Received octets count))) can
    even_goes (Other End) unbroken is can did =
        let view = did.0.0.0.0 is.1 in
        even [] begun (reports ++ [])
        (client_told_end read begun server old new reports w is.1 serves asks
        (ap (λ (n : Near). wants_port n.connection) view ∙ ended_portless v run asks.dials) known last ahead p q told t did can reads from puts
        runs).0
        (rests_now (client_told_end read begun server old new reports w is.1 serves asks
        (ap (λ (n : Near). wants_port n.connection) view ∙ ended_portless v run asks.dials) known last ahead p q told t did can reads from puts
        runs).1
        (ap (λ (n : Near). wants_port n.connection) view ∙ ended_portless v run asks.dials))
        (touch_in {end = client_machine} (Other End)) can
    even_goes (Other (Waited lost)) unbroken is can did =
        even [] begun (reports ++ [])
        (subst (λ (m : Between). Goes read [] begun m told server new (reports ++ []) w) (sym can)
        (client_waited read begun server old new reports w is.1 known lost last ahead p told t did))
        (same_rests (ap (λ c. c.view) did.0.0))
        (touch_in {end = client_machine} (Other (Waited lost))) can
    even_goes (Other (LetGo octets)) unbroken is can did =
        even [] begun (reports ++ [])
        (subst (λ (m : Between). Goes read [] begun m told server new (reports ++ []) w) (sym can)
        (client_lets read begun server old new reports w is.1 known octets last ahead p told t did))
        (same_rests (ap (λ c. c.view) did.0.0.0))
        (touch_in {end = client_machine} (Other (LetGo octets))) can
    even_goes (Other (Left (EndedBy left written))) unbroken is can did =
        even [] begun (reports ++ [])
        (client_ends read begun server old new reports w is.1 known asks never left written last ahead p q told t did can)
        (same_rests (ap (λ c. c.view) did.0.0))
        (touch_in {end = client_machine} (Other (Left (EndedBy left written)))) can
    even_goes (Other (Left Shut)) unbroken is can did =
        even [] begun (reports ++ [])
        (subst (λ (m : Between). Goes read [] begun m told server new (reports ++ []) w) (sym can)
        (client_shuts read begun server old new reports w is.1 known last ahead p told t did))
        (same_rests (ap (λ c. c.view) did.0.0))
        (touch_in {end = client_machine} (Other (Left Shut))) can
    even_goes (Other Closed) unbroken is can did =
        even [] begun (reports ++ [])
        (subst (λ (m : Between). Goes read [] begun m told server new (reports ++ []) w) (sym can)
        (client_closed read begun server old new reports w is.1 known last ahead p told t did))
        (rests_now (ap (λ (n : Near). is_sound n.standing) did.0.0.0 ∙ asks.sound) (ap (λ (n : Near). wants_port n.connection) did.0.0.0 ∙ asks.dials))
        (touch_in {end = client_machine} (Other Closed)) can
    even_goes (Other HasFailed) unbroken is can did =
        even [] begun (reports ++ [])
        (subst (λ (m : Between). Goes read [] begun m told server new (reports ++ []) w) (sym can)
        (client_fails read begun server old new reports w is.1 known last ahead p told t did))
        (same_rests (ap (λ c. c.view) did.0.0))
        (touch_in {end = client_machine} (Other HasFailed)) can
    even_goes (Other (Left (Reset left written))) unbroken is can did =
        even [] begun (reports ++ [])
        (client_resets read begun server old new reports w is.1 known asks never left written last ahead p q told t did is.0.1 can)
        (same_rests (ap (λ c. c.view) did.0.0))
        (touch_in {end = client_machine} (Other (Left (Reset left written)))) can
    even_goes (Other Break) unbroken is can did = absurd unbroken
    even_goes action unbroken is can did = absurd is.0

  -- ---- it is to be told a port

  module _ (port : ℕ) (more : List ℕ) (so : LedSo (Told port) more p told server old) (t : At (Told port) more)
      (asks : ClientRests (led_client (Told port) old).owner) where
    gone : w.link ≡ Gone
    gone = awaits_of (Told port) more t (ap (λ (n : Near). is_ported n.connection) t.beside.near ∙ told_ported port so.0.op v so.0.view)

    known_told : Known w
    known_told = known_of (Told port) more t asks

    -- what is so of its data connection then
    abbrev Bare : Type 0
    Bare = StaysBare old.owner.channel new.owner.channel

    same : (channel : Channel) → new.owner.channel ≡ channel → channel.stands ≡ old.owner.channel.stands → channel.fate ≡ old.owner.channel.fate
        → channel.untold ≡ old.owner.channel.untold → channel.unwritten ≡ old.owner.channel.unwritten → Bare
    same = same_bare read begun server (led_client (Told port) old) reports w p (next_listen told) last ahead t gone known_told new.owner.channel

    gone_bare : new.owner.channel.stands ≡ false → new.owner.channel.untold ≡ [] → new.owner.channel.unwritten ≡ [] → Bare
    gone_bare = left_bare old.owner.channel new.owner.channel

    -- nothing of it happens in a world
    stays_told : data_closed u ≡ data_closed v → new.unheard ≡ [] → q.control.to_client ≡ [] → q.control.to_server ≡ p.control.to_server
        → q.data_ways ≡ p.data_ways → q.far ≡ p.far → is_called q.near ≡ false → Bare → GoesLed read [] begun q told server new (reports ++ []) w
    stays_told is unheard empty other ways far called bare =
        subst (λ l. GoesLed read [] begun q told server new l w) (sym (append-nil reports))
        (told_stays read begun server old new reports w port more p q told so last ahead t gone known_told is unheard empty other ways far called bare)

    comes : (old.unheard ≡ []) × (p.control.to_client ≡ [])
    comes = none_comes read begun server old new reports w port more p q told so last ahead t gone known_told

    unsent : old.owner.channel.unwritten ≡ []
    unsent = none_unsent read begun server (led_client (Told port) old) reports w p (next_listen told) last ahead t gone known_told

    -- it wants nothing of the kind
    no : {A : Type 0} → (want : Wants) → near.wants v ≡ want → is_asking_port want ≡ false → A
    no want is other = absurd (told_never read begun server old new reports w port more p q told so last ahead t gone known_told want is other)

    -- where the same lies between
    idles_told : data_closed u ≡ data_closed v → new.unheard ≡ [] → q ≡ p → Bare → GoesLed read [] begun q told server new (reports ++ []) w
    idles_told is unheard between bare =
        stays_told is unheard (ap (λ (b : Between). b.control.to_client) between ∙ comes.1) (ap (λ (b : Between). b.control.to_server) between)
        (ap (λ (b : Between). b.data_ways) between) (ap (λ (b : Between). b.far) between) (ap (λ (b : Between). is_called b.near) between ∙ so.0.called) bare

    told_goes : (action : Action client_side) → BreaksNone action → ClientTransfersEitherWay action old.owner new.owner → IsNext action told → CanTurn (Client action) p q
        → Done action old new
        → Went action
    told_goes (Heard octets) unbroken is next can did =
        let none = both_empty octets new.unheard (sym did.next ∙ comes.0) in
        idles_told (ap data_closed ((did.hears.0.0.0 is.1).0 ∙ ap (λ o. near.hears v (take (length o) old.unheard)) none.0)) none.1 can
        (same _ did.hears.1 refl refl refl refl)
    told_goes (Says octets) unbroken is next can did =
        let none : octets ≡ [] = did.gives.owed ∙ take_none did.gives.count v.owed so.0.owed in
        idles_told (ap data_closed did.gives.gave.0 ∙ ap (λ o. data_closed (record v { owed = o })) (drop_none did.gives.count v.owed so.0.owed))
        (did.unheard ∙ comes.0) (can ∙ sent_none p octets none) (same _ did.gives.channel refl refl refl refl)
    told_goes (Read octets) unbroken is next can did =
        let none = both_empty octets q.control.to_client (sym can.0 ∙ comes.1) in
        stays_told (ap (λ o. data_closed o.end.view) did.owner) (did.unheard ∙ none.0) none.1 (ap (λ (b : Between). b.control.to_server) can.1)
        (ap (λ (b : Between). b.data_ways) can.1) (ap (λ (b : Between). b.far) can.1) (ap (λ (b : Between). is_called b.near) can.1 ∙ so.0.called)
        (same _ (ap (λ o. o.channel) did.owner) refl refl refl refl)
    told_goes (Other (Aside (Reporting said))) unbroken is next can did =
        let none : said ≡ None = did.0.0.0 ∙ told_said read begun server old new reports w port more p q told so last ahead t gone known_told in
        subst (λ s. GoesLed read [] begun q told server new (reports ++ reports_of (Other (Aside (Reporting s)))) w) (sym none)
        (idles_told (ap data_closed (did.0.0.1.0 ∙ reports_is v)
        ∙ told_taken read begun server old new reports w port more p q told so last ahead t gone known_told)
        (ap (λ (s : Stand client_side). s.unheard) did.1 ∙ comes.0) can (same _ did.0.1 refl refl refl refl))
    told_goes (Other (Aside (Starting op))) unbroken is next can did =
        absurd (true≢false (sym (told_busy read begun server old new reports w port more p q told so last ahead t gone known_told) ∙ did.0.0.0))
    told_goes (Other (Listening given)) unbroken is next can did =
        let wants = listens_wants v did.0.2.0 in
        subst (λ l. GoesLed read [] begun q (next_listen told) server new l w) (sym (append-nil reports))
        (told_listens read begun server old new reports w port more p q told so last ahead t gone known_told given did is.1 can next wants.1)
    told_goes (Other (Opened host (Came from left written ∷ []) at_first so_far rest)) unbroken is next can did = no Want.Accept did.0.2.0 refl
    told_goes (Other (Opened host (Connected endpoint left written ∷ []) at_first so_far rest)) unbroken is next can did =
        no (Want.Connect endpoint) did.0.2.0 refl
    told_goes (Other (Gave count octets rest)) unbroken is next can did = no Want.Send did.0.2 refl
    told_goes (Other (Wrote octets)) unbroken is next can did =
        absurd (omega (arith, ap length unsent, did.0.1.some))
    told_goes (Other (Got octets)) unbroken is next can did = no Want.Receive did.0.2 refl
    told_goes (Other (Received octets count)) unbroken is next can did = no Want.Receive did.0.2.1 refl
    told_goes (Other End) unbroken is next can did = no Want.Receive did.0.2 refl
    told_goes (Other (Waited lost)) unbroken is next can did = absurd (true≢false (sym did.0.2 ∙ asking_waits))
      where
        -- one that is to be told a port waits for nothing
        asking_waits : awaits (near.wants v) ≡ false
        asking_waits =
            by (near.wants v) (told_wants read begun server old new reports w port more p q told so last ahead t gone known_told)
          where
            by : (want : Wants) → is_asking_port want ≡ true → awaits want ≡ false
            by Want.Listen e = refl
            by Want.CloseData e = refl
            by Want.Nothing e = absurd (true≢false (sym e))
            by Want.Accept e = absurd (true≢false (sym e))
            by (Want.Connect endpoint) e = absurd (true≢false (sym e))
            by Want.Receive e = absurd (true≢false (sym e))
            by Want.Send e = absurd (true≢false (sym e))
            by Want.CloseAll e = absurd (true≢false (sym e))
    told_goes (Other (LetGo octets)) unbroken is next can did =
        idles_told (ap (λ c. data_closed c.view) did.0.0.0) (ap (λ (s : Stand client_side). s.unheard) did.1 ∙ comes.0) can
        (record {
          taking = λ e. ap is_taking (sym did.0.1.1) ∙ e;
          untold = λ e. (both_empty octets new.owner.channel.untold (sym did.0.1.0
              ∙ none_untold read begun server (led_client (Told port) old) reports w p (next_listen told) last ahead t gone known_told e)).1;
          bare = λ e. (both_empty octets new.owner.channel.untold (sym did.0.1.0
              ∙ none_bare read begun server (led_client (Told port) old) reports w p (next_listen told) last ahead t gone known_told
              (ap (λ (l : Channel). l.stands) (sym did.0.1.1) ∙ e))).1;
          unwritten = ap (λ (l : Channel). l.unwritten) did.0.1.1 ∙ unsent;
        })
    told_goes (Other (Left (EndedBy left written))) unbroken is next can did =
        stays_told (ap (λ c. data_closed c.view) did.0.0) (ap (λ (s : Stand client_side). s.unheard) did.1 ∙ comes.0)
        (ap (λ (b : Between). b.control.to_client) can.1 ∙ comes.1) (ap (λ (b : Between). b.control.to_server) can.1) (ap (λ (b : Between). b.data_ways) can.1)
        (ap (λ (b : Between). b.far) can.1) (ap (λ (b : Between). is_called b.near) can.1) (gone_bare did.0.1.stands did.0.1.untold did.0.1.unwritten)
    told_goes (Other (Left Shut)) unbroken is next can did =
        idles_told (ap (λ c. data_closed c.view) did.0.0) (ap (λ (s : Stand client_side). s.unheard) did.1 ∙ comes.0) can
        (gone_bare did.0.1.stands did.0.1.untold did.0.1.unwritten)
    told_goes (Other Closed) unbroken is next can did =
        idles_told (ap data_closed did.0.0.0) (ap (λ (s : Stand client_side). s.unheard) did.1 ∙ comes.0) can
        (same _ did.0.1.0 refl refl refl refl)
    told_goes (Other HasFailed) unbroken is next can did =
        idles_told (ap (λ c. data_closed c.view) did.0.0) (ap (λ (s : Stand client_side). s.unheard) did.1 ∙ comes.0) can
        (record {
          taking = λ e. open_takes old.owner.channel did.0.1.1;
          untold = λ e. ap (λ (l : Channel). l.untold) did.0.1.0
              ∙ none_untold read begun server (led_client (Told port) old) reports w p (next_listen told) last ahead t gone known_told e;
          bare = λ e. ap (λ (l : Channel). l.untold) did.0.1.0
              ∙ none_bare read begun server (led_client (Told port) old) reports w p (next_listen told) last ahead t gone known_told
              (ap (λ (l : Channel). l.stands) (sym did.0.1.0) ∙ e);
          unwritten = ap (λ (l : Channel). l.unwritten) did.0.1.0 ∙ unsent;
        })
    told_goes (Other (Left (Reset left written))) unbroken is next can did =
        stays_told (ap (λ c. data_closed c.view) did.0.0) (ap (λ (s : Stand client_side). s.unheard) did.1 ∙ comes.0)
        (ap (λ (b : Between). b.control.to_client) can.1 ∙ comes.1) (ap (λ (b : Between). b.control.to_server) can.1) (ap (λ (b : Between). b.data_ways) can.1)
        (ap (λ (b : Between). b.far) can.1) (ap (λ (b : Between). is_called b.near) can.1) (gone_bare did.0.1.stands did.0.1.untold did.0.1.unwritten)
    told_goes (Other Break) unbroken is next can did = absurd unbroken
    told_goes action unbroken is next can did = absurd is.0

  -- ---- it was dialled

  module _ (octets more : List ℕ) (so : LedSo (Joined octets) more p told server old) (t : At (Joined octets) more) where
    -- nothing of it happens in a world
    stays_joined : data_closed u ≡ data_closed v → new.unheard ++ q.control.to_client ≡ old.unheard ++ p.control.to_client
        → q.control.to_server ≡ p.control.to_server → q.data_ways ≡ p.data_ways → q.far ≡ p.far → q.near ≡ p.near
        → GoesLed read [] begun q told server new (reports ++ []) w
    stays_joined is queue other ways far hold =
        subst (λ l. GoesLed read [] begun q told server new l w) (sym (append-nil reports))
        (joined_stays read begun server old new reports w octets more p q told so last ahead t is queue other ways far hold)

    idles_joined : data_closed u ≡ data_closed v → new.unheard ≡ old.unheard → q ≡ p → GoesLed read [] begun q told server new (reports ++ []) w
    idles_joined is unheard same =
        stays_joined is (ap₂ (λ o (b : Between). o ++ b.control.to_client) unheard same) (ap (λ (b : Between). b.control.to_server) same)
        (ap (λ (b : Between). b.data_ways) same) (ap (λ (b : Between). b.far) same) (ap (λ (b : Between). b.near) same)

    none : {A : Type 0} → (want : Wants) → near.wants v ≡ want → is_patient want ≡ false → A
    none want is other = absurd (joined_never read begun server old new reports w octets more p q told so last ahead t want is other)

    -- it holds no data connection
    unheld : {A : Type 0} → p.near ≡ Has → A
    unheld has = absurd (true≢false (sym (ap is_called so.0.called) ∙ ap is_called has))

    joined_goes : (action : Action client_side) → BreaksNone action → ClientTransfersEitherWay action old.owner new.owner → CanTurn (Client action) p q → Done action old new
        → Went action
    joined_goes (Heard heard) unbroken is can did =
        subst (λ l. GoesLed read [] begun q told server new l w) (sym (append-nil reports))
        (joined_heard read begun server old new reports w octets more p q told so last ahead t reads from puts serves runs is.1 heard did can)
    joined_goes (Says said) unbroken is can did =
        let none_said : said ≡ [] = did.gives.owed ∙ take_none did.gives.count v.owed so.0.owed in
        idles_joined (ap data_closed did.gives.gave.0 ∙ ap (λ o. data_closed (record v { owed = o })) (drop_none did.gives.count v.owed so.0.owed)) did.unheard
        (can ∙ sent_none p said none_said)
    joined_goes (Read octets) unbroken is can did =
        stays_joined (ap (λ o. data_closed o.end.view) did.owner)
        (ap (λ a. a ++ q.control.to_client) did.unheard ∙ sym can.0 ∙ ap (λ a. a ++ p.control.to_client) (sym did.heard))
        (ap (λ (b : Between). b.control.to_server) can.1) (ap (λ (b : Between). b.data_ways) can.1) (ap (λ (b : Between). b.far) can.1)
        (ap (λ (b : Between). b.near) can.1)
    joined_goes (Other (Aside (Reporting said))) unbroken is can did =
        let none_said : said ≡ None = did.0.0.0 ∙ joined_said read begun server old new reports w octets more p q told so last ahead t in
        subst (λ s. GoesLed read [] begun q told server new (reports ++ reports_of (Other (Aside (Reporting s)))) w) (sym none_said)
        (idles_joined (ap data_closed (did.0.0.1.0 ∙ reports_is v ∙ joined_taken read begun server old new reports w octets more p q told so last ahead t))
        (ap (λ (s : Stand client_side). s.unheard) did.1) can)
    joined_goes (Other (Aside (Starting op))) unbroken is can did =
        absurd (true≢false (sym (joined_busy read begun server old new reports w octets more p q told so last ahead t) ∙ did.0.0.0))
    joined_goes (Other (Listening port)) unbroken is can did = none Want.Listen did.0.2.0 refl
    joined_goes (Other (Opened host (Came other left written ∷ []) at_first so_far rest)) unbroken is can did =
        subst (λ l. GoesLed read [] begun q told server new l w) (sym (append-nil reports))
        (joined_accepts read begun server old new reports w octets more p q told so last ahead t host other left written at_first so_far rest is.1 did can is.0)
    joined_goes (Other (Opened host (Connected endpoint left written ∷ []) at_first so_far rest)) unbroken is can did =
        none (Want.Connect endpoint) did.0.2.0 refl
    joined_goes (Other (Gave count given rest)) unbroken is can did = none Want.Send did.0.2 refl
    joined_goes (Other (Wrote wrote)) unbroken is can did = unheld can.0
    joined_goes (Other (Got got)) unbroken is can did = none Want.Receive did.0.2 refl
    joined_goes (Other (Received received count)) unbroken is can did = none Want.Receive did.0.2.1 refl
    joined_goes (Other End) unbroken is can did = none Want.Receive did.0.2 refl
    joined_goes (Other (Waited lost)) unbroken is can did =
        idles_joined (ap (λ c. data_closed c.view) did.0.0) (ap (λ (s : Stand client_side). s.unheard) did.1) can
    joined_goes (Other (LetGo let_go)) unbroken is can did =
        idles_joined (ap (λ c. data_closed c.view) did.0.0.0) (ap (λ (s : Stand client_side). s.unheard) did.1) can
    joined_goes (Other (Left (EndedBy left written))) unbroken is can did = unheld can.0
    joined_goes (Other (Left Shut)) unbroken is can did =
        idles_joined (ap (λ c. data_closed c.view) did.0.0) (ap (λ (s : Stand client_side). s.unheard) did.1) can
    joined_goes (Other Closed) unbroken is can did = idles_joined (ap data_closed did.0.0.0) (ap (λ (s : Stand client_side). s.unheard) did.1) can
    joined_goes (Other HasFailed) unbroken is can did =
        idles_joined (ap (λ c. data_closed c.view) did.0.0) (ap (λ (s : Stand client_side). s.unheard) did.1) can
    joined_goes (Other (Left (Reset left written))) unbroken is can did = absurd (subst IsStanding so.0.called can.0)
    joined_goes (Other Break) unbroken is can did = absurd unbroken
    joined_goes action unbroken is can did = absurd is.0

  -- ---- whichever lead

  pub client_led : (action : Action client_side) → BreaksNone action → ClientTransfersEitherWay action old.owner new.owner → IsNext action told → CanTurn (Client action) p q
      → Done action old new
      → (lead : Lead) (more : List ℕ) → LedSo lead more p told server old → At lead more → ClientRests (led_client lead old).owner → Went action
  client_led action unbroken is next can did Even more so t asks = even_goes t asks so.0 action unbroken is can did
  client_led action unbroken is next can did (Told port) more so t asks = told_goes port more so t asks action unbroken is next can did
  client_led action unbroken is next can did (Joined octets) more so t asks = joined_goes octets more so t action unbroken is can did
