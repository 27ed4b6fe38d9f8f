-- An action of a server where dials may fail, whether a world's client is ahead of the drive's or not.
use Rattle.std.proofs.Common.{◌≡◌, ℕ, Bool, true, false, true≢false, List, [], ◌∷◌, ◌++◌, Option, refl, sym, ap, subst, ◌∙◌}
use Rattle.ftp_ports.specs.Asking.{Connected, NotConnected, Reset}
use Rattle.ftp_ports.specs.Actions.{Action, Done, Other, Stand}
use Rattle.ftp_ports.specs.Machine.{Left, Opened, Refused}
use Rattle.ftp_direct.specs.Direct.{State}
use Rattle.ftp_endpoint.specs.declared.endpoint.Endpoint.{Endpoint}
use Rattle.ftp_ends.specs.declared.link.Wants.TheVariants as Want
use Rattle.ftp_client_driver.specs.Side.{client_side}
use Rattle.ftp_client_model.specs.Calls.{accepted, data_closed, hears, listening}
use Rattle.ftp_client_model.specs.View.{Doing, Flow, Idle, Job, Receiving, Sending, Told as HasTold, Transferring, View as Near, Waiting}
use Rattle.ftp_client_model.specs.declared.client.ClientLink.TheVariants as NearData
use Rattle.ftp_client_model.specs.declared.client.Replied.TheVariants as Replies
use Rattle.ftp_client_model.specs.declared.client.Step.TheVariants as Steps
use Rattle.ftp_operation.specs.Answer.{Said}
use Rattle.ftp_server_driver.specs.alone.Side.{Timed, server_side}
use Rattle.ftp_server_model.specs.Machine.{IsReading, Reading}
use Rattle.laws_world.specs.Agreement.{Order}
use Rattle.laws_world.specs.World.{Mark, Refused as WasRefused, World, marked_last, next_listen}
use Rattle.laws_dialogues.specs.Fetches.{busy}
use Rattle.laws_agreement.specs.Over.{OverRuns}
use Rattle.laws_drivers.specs.control.Alone.{ServerIsCalm}
use Rattle.laws_drivers.specs.control.Between.{Between, CanTurn, Far as TheServer, Has_lost, IsStanding, Server, Turn, with_hold}
use Rattle.laws_drivers.specs.control.Touches.{touch_in}
use Rattle.laws_drivers.proofs.control.Taken.{idle_of}
use Rattle.laws_drivers.specs.world.Unaborted.{is_unaborted}
use Rattle.laws_drivers.proofs.events.Holding.{is_called}
use Rattle.laws_drivers.proofs.events.Stands.{ClientFetches as ClientRests, ServerServes}
use Rattle.laws_transfers.specs.Ahead.{Ahead}
use Rattle.laws_transfers.specs.Actions as passive
use Rattle.laws_drivers.specs.events.Moments.{IsToldAt, begun_at, last_of, number_in}
use Rattle.laws_transfers.proofs.Beside.{Together}
use Rattle.laws_transfers.proofs.Known.{AreCarried}
use Rattle.laws_transfers.proofs.Lost.{with_lost}
use Rattle.laws_transfers.proofs.Reaching.{serving_near}
use Rattle.laws_transfers.proofs.Simulating.{ResetsNone}
use Rattle.laws_active.specs.Lead.{Even, Joined, Lead, Told, led_by}
use Rattle.laws_active.specs.Refusals.{Gain, Heard, Led, ServerTries, has_failed, is_heard, marked_by_turn}
use Rattle.laws_active.proofs.Accepting.{is_transfer, joined_link, joins}
use Rattle.laws_active.proofs.Gaining.{GainSo, GainsTo, gained_between, gained_client, gained_told, heard_between, heard_client, hearing_follows, idle_never, idles_on, hearing_still}
use Rattle.laws_active.proofs.Joining.{joins_form}
use Rattle.laws_active.proofs.Leading.{Comes, Stays, Waits, led_between, led_client}
use Rattle.laws_active.proofs.Leads.{LedSo}
use Rattle.laws_active.proofs.LedActions.{GoesLed}
use Rattle.laws_active.proofs.Ports.{is_ported}
use Rattle.laws_active.proofs.Refusing.{denied_serves, is_level, server_denies, waits_so}
use Rattle.laws_active.proofs.ServerGoes.{IsNext, reset_goes, server_goes, told_by}
use Rattle.laws_active.proofs.ServerLed.{resets_led, server_led, told_job}

-- it is at a transfer or not, whether its report was taken or not
taken_transfer : (job : Job) → is_transfer (idle_of job) ≡ is_transfer job
taken_transfer Idle = refl
taken_transfer (Waiting op) = refl
taken_transfer (Doing op step) = refl
taken_transfer (Transferring op transfer) = refl
taken_transfer (HasTold said) = refl

-- a client that has the link is at no port
joined_unported : (flow : Flow) → is_ported (joined_link flow) ≡ false
joined_unported (Sending [] mark) = refl
joined_unported (Sending (octet ∷ left) mark) = refl
joined_unported (Receiving decoder mark) = refl

stays_unported : (d : Near) (octets : List ℕ) → Stays d octets → is_ported (accepted true (hears d octets)).connection ≡ false
stays_unported d octets (Comes op flow few port octet more is o) =
    ap (λ (n : Near). is_ported n.connection) (ap (accepted true) o.whole ∙ joins op Replies.Begun flow few refl port (hears d octets))
    ∙ joined_unported flow
stays_unported d octets (Waits is a) =
    ap (λ (n : Near). is_ported n.connection) (ap (λ l. accepted true (hears d l)) is ∙ joins_form d a) ∙ joined_unported a.flow

module _ (read : Reading) (reads : IsReading read) (from : State) (moments : ℕ → ℕ) (actions : List (Action client_side))
    (puts : AreCarried (begun_at moments actions)) (old new : Stand server_side)
    (client : Stand client_side) (reports : List Said) (w : World) (serves : ServerServes old.owner)
    (runs : OverRuns read from (begun_at moments actions) w) (last : ℕ) (ahead : Ahead) (p q : Between) (told : ℕ)
    (before : List Turn) (called : is_called p.far ≡ true → is_unaborted client.owner.end.view.job ≡ true) where
  abbrev begun : List Order
  begun = begun_at moments actions

  abbrev v : Near
  v = client.owner.end.view

  -- a world is beside both, its client ahead so
  abbrev At : Gain → List ℕ → Type 0
  At gain more = Together read begun last ahead (gained_between gain more p) (gained_told gain told) old (gained_client gain client) reports w

  -- so it is again, with these marks
  abbrev Gained : Between → ℕ → List (List Mark) → Bool → Type 0
  Gained between count marks failed = GainsTo read [] begun between count new client reports marks failed w × ServerServes new.owner

  -- as where no dial fails
  as_led : (between : Between) (count : ℕ) (failed : Bool) → GoesLed read [] begun between count new client reports w × ServerServes new.owner
      → Gained between count w.marks failed
  as_led between count failed went = (
    record { gain = Led went.0.lead; left = went.0.left; so = went.0.so; heard = λ e. absurd (true≢false (sym e)); goes = went.0.goes },
    went.1,
  )

  -- ---- its dial fails

  module _ (endpoint : Endpoint) (calm : ServerIsCalm old.owner new.owner) (did : Done (Other (Refused (NotConnected endpoint ∷ []))) old new) where
    -- no world's client that has the link, or has just been told a port, is one that is to be dialled
    denied : (lead : Lead) (more : List ℕ) → LedSo lead more p told old client → At (Led lead) more → ClientRests (led_client lead client).owner
        → Gained p told (marked_last WasRefused w.marks) true
    denied Even more so t asks =
        let level = subst (λ a. Together read begun last a p told old client reports w)
        (is_level read reads from begun puts old new client reports w calm serves asks runs endpoint last p told did ahead t) t in (
          server_denies read reads from begun puts old new client reports w calm serves asks runs endpoint last p told did level so.0,
          denied_serves read reads from begun puts old new client reports w calm serves asks runs endpoint last p told did,
        )
    denied (Told port) more so t asks =
        let c : Stand client_side = led_client (Told port) client in
        let level = subst (λ a. Together read begun last a p (next_listen told) old c reports w)
        (is_level read reads from begun puts old new c reports w calm serves asks runs endpoint last p (next_listen told) did ahead t) t in
        let waits = waits_so read reads from begun puts old new c reports w calm serves asks runs endpoint last p (next_listen told) did level in
        let is : led_by (Told port) v ≡ listening port (busy (Doing so.0.op Steps.Listen) NearData.ListenWanted v) = ap (listening port) so.0.view in
        absurd (true≢false (sym waits.1 ∙ ap (λ (n : Near). is_transfer n.job) (level.beside.near) ∙ taken_transfer (led_by (Told port) v).job
        ∙ ap (λ (n : Near). is_transfer n.job) is ∙ told_job port so.0.op v))
    denied (Joined octets) more so t asks =
        let c : Stand client_side = led_client (Joined octets) client in
        let between : Between = led_between (Joined octets) more p in
        let level = subst (λ a. Together read begun last a between told old c reports w)
        (is_level read reads from begun puts old new c reports w calm serves asks runs endpoint last between told did ahead t) t in
        let waits = waits_so read reads from begun puts old new c reports w calm serves asks runs endpoint last between told did level in
        absurd (true≢false (sym waits.0 ∙ ap (λ (n : Near). is_ported n.connection) (level.beside.near)
        ∙ stays_unported (data_closed v) octets so.0.stays.0))

  -- ---- a world's client heard what is left of the 150

  module _ (octets more : List ℕ) (so : GainSo (Heard octets) more p told old client) (t : At (Heard octets) more)
      (asks : ClientRests (heard_client octets client).owner) (was : has_failed before ≡ true) where
    -- it sent no ABOR
    unaborted : is_unaborted (heard_client octets client).owner.end.view.job ≡ true
    unaborted = ap (λ (n : Near). is_unaborted n.job) so.0.opens.whole

    goes_hearing : (action : Action server_side) → ResetsNone action → passive.ServerTransfers action old.owner new.owner → ServerTries action old.owner new.owner
        → IsNext action told → CanTurn (Server action) p q → (did : Done action old new) → IsToldAt action old new did (last_of moments (number_in actions))
        → Gained q (told_by action told) w.marks (has_failed before)
    goes_hearing action kept is tries next can did at =
        let f = hearing_follows octets more p q (touch_in action) can in
        let g = server_goes read reads from moments actions puts old new (heard_client octets client) reports w serves asks runs last ahead
        (heard_between more p) (heard_between f.rest q) told (λ e. unaborted) t action kept is next f.can did at in (
          record {
            gain = Heard octets;
            left = f.rest;
            so = (
              hearing_still so.0 (f.queue client.unheard so.0.queue) (ap is_called (serving_near action old.owner is.0 p q can) ∙ so.0.called),
              idles_on read reads old new serves p q so.1 action tries can did,
            );
            heard = λ e. was;
            goes = g.0;
          },
          g.1,
        )

    -- it resets a data connection
    resets_hearing : (left written : Option (List ℕ)) → ServerIsCalm old.owner new.owner → Done (Other (Left (Reset left written))) old new → IsStanding p.far
        → Gained (with_lost old.owner.channel.unwritten (with_hold TheServer Has_lost p)) told w.marks (has_failed before)
    resets_hearing left written calm did stands =
        let g = reset_goes read reads from moments actions puts old new (heard_client octets client) reports w serves asks runs last ahead
        (heard_between more p) (heard_between more p) told (λ e. unaborted) t left written calm did stands in (
          record {
            gain = Heard octets;
            left = more;
            so = (
              hearing_still so.0 so.0.queue so.0.called,
              record {
                free = ap (λ (at : Timed). at.server.view.session.connection) did.0.0 ∙ so.1.free;
                none_comes = ap (λ (s : Stand server_side). s.unheard ++ p.control.to_server) did.1 ∙ so.1.none_comes;
              },
            );
            heard = λ e. was;
            goes = g.0;
          },
          g.1,
        )

  -- ---- all actions

  -- but a reset
  pub server_tries : (action : Action server_side) → ResetsNone action → ServerTries action old.owner new.owner → IsNext action told → CanTurn (Server action) p q
      → (did : Done action old new) → IsToldAt action old new did (last_of moments (number_in actions)) → (gain : Gain) (more : List ℕ)
      → GainSo gain more p told old client → At gain more → ClientRests (gained_client gain client).owner
      → (is_heard gain ≡ true → has_failed before ≡ true) → Gained q (told_by action told) (marked_by_turn (Server action) w.marks) (has_failed (Server action ∷ before))
  server_tries (Other (Refused (NotConnected endpoint ∷ []))) kept is next can did at (Led lead) more so t asks heard =
      subst (λ b. Gained b told (marked_last WasRefused w.marks) true) (sym can) (denied endpoint is.1 did lead more so t asks)
  server_tries (Other (Refused (NotConnected endpoint ∷ []))) kept is next can did at (Heard octets) more so t asks heard =
      idle_never read reads old new serves p q so.1 (Want.Connect endpoint) did.0.2.0 refl
  server_tries (Other (Refused asked)) kept is next can did at gain more so t asks heard = absurd is.0
  server_tries (Other (Opened host (Connected endpoint left written ∷ []) at_first so_far rest)) kept is next can did at (Heard octets) more so t asks heard =
      idle_never read reads old new serves p q so.1 (Want.Connect endpoint) did.0.2.0 refl
  server_tries action kept is next can did at (Led lead) more so t asks heard =
      as_led q (told_by action told) (has_failed before)
      (server_led read reads from moments actions puts old new client reports w serves runs last ahead p q told called action kept is next can did at lead more so t
      asks)
  server_tries action kept is next can did at (Heard octets) more so t asks heard =
      goes_hearing octets more so t asks (heard refl) action kept is is next can did at

  -- a reset
  pub resets_tried : (left written : Option (List ℕ)) → ServerIsCalm old.owner new.owner → Done (Other (Left (Reset left written))) old new → IsStanding p.far
      → (gain : Gain) (more : List ℕ) → GainSo gain more p told old client → At gain more → ClientRests (gained_client gain client).owner
      → (is_heard gain ≡ true → has_failed before ≡ true)
      → Gained (with_lost old.owner.channel.unwritten (with_hold TheServer Has_lost p)) told w.marks (has_failed before)
  resets_tried left written calm did stands (Led lead) more so t asks heard =
      as_led (with_lost old.owner.channel.unwritten (with_hold TheServer Has_lost p)) told (has_failed before)
      (resets_led read reads from moments actions puts old new client reports w serves runs last ahead p q told called left written calm did stands lead more so t
      asks)
  resets_tried left written calm did stands (Heard octets) more so t asks heard = resets_hearing octets more so t asks (heard refl) left written calm did stands
