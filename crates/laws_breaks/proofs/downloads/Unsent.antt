-- A client that asks for all sends no ABOR, whatever it does; and of all that was begun all is asked for.
use Rattle.std.proofs.Common.{◌≡◌, ℕ, Bool, true, false, true≢false, ◌&&◌, List, [], ◌∷◌, ◌++◌, take, Option, Some, None, refl, sym, ap, subst, ◌∙◌}
use Rattle.std.specs.Prelude.{if◌then◌else◌, ⊤}
use Rattle.ftp_ports.specs.Asking.{Connected, Ended as EndedBy, NotConnected, Reset, Shut}
use Rattle.ftp_ports.specs.Actions.{Calls, Action, Done, Heard, Other, Read, Said as Says, Stand}
use Rattle.ftp_ports.specs.Machine.{Aside, Break, Closed, End, Failed, Gave, Got, Left, LetGo, Opened, Received, Refused, Waited, Wrote}
use Rattle.ftp_ports.specs.declared.whole.Rest.{Rest}
use Rattle.ftp_client_driver.specs.Side.{Reporting, Starting, client_side}
use Rattle.ftp_client_model.specs.Calls as near
use Rattle.ftp_client_model.specs.Calls.{heard_flow, receives, receives_octet}
use Rattle.ftp_client_model.specs.Dialogue.{has_begun, is_to_abort, is_unsent, marked_flow, sends_abort}
use Rattle.ftp_client_model.specs.Octets.{has_enough, has_settled}
use Rattle.ftp_client_model.specs.Plan.{count_of}
use Rattle.ftp_client_model.specs.View.{Flow, Job, Receiving, Sending, Transfer, Transferring, View as Near}
use Rattle.ftp_client_model.specs.declared.client.Abort.{Abort}
use Rattle.ftp_client_model.specs.declared.client.Abort.TheVariants as Aborts
use Rattle.ftp_client_model.specs.declared.client.ClientLink.{ClientLink}
use Rattle.ftp_client_model.specs.declared.client.ClientLink.TheVariants as Data
use Rattle.ftp_direct.specs.Direct.{State}
use Rattle.ftp_endpoint.specs.declared.endpoint.Endpoint.{Endpoint}
use Rattle.ftp_operation.specs.declared.op.Op.{Op}
use Rattle.laws_world.specs.Agreement.{Order, Single, Tries}
use Rattle.laws_world.specs.World.{Mark, World}
use Rattle.laws_dialogues.specs.Fetches.{Ask}
use Rattle.laws_dialogues.specs.Peeks.{halting}
use Rattle.laws_agreement.specs.PeekStages.{AtHalt, halt_abort, halt_replied}
use Rattle.laws_drivers.specs.events.Moments.{begun_at, begun_by, number_in}
use Rattle.laws_drivers.specs.control.Between.{Between, Can, Near as TheClient}
use Rattle.laws_drivers.specs.control.Touches.{Resets}
use Rattle.laws_drivers.specs.world.Unaborted.{is_unaborted}
use Rattle.laws_drivers.proofs.world.Running.{halt_aborted}
use Rattle.laws_drivers.proofs.events.Fresh.{Fresh}
use Rattle.laws_drivers.proofs.events.Holding.{is_called}
use Rattle.laws_drivers.proofs.events.Plain.{IsKept, IsPlain, IsPlainBy, IsPlainJob, starts_plain}
use Rattle.laws_drivers.proofs.events.Plainly.{action_plain}
use Rattle.laws_transfers.specs.Actions.{IsCarried}
use Rattle.laws_transfers.proofs.Called.{BreaksNone, StaysFresh, transferred_plain}
use Rattle.laws_transfers.proofs.Known.{AreCarried}
use Rattle.ftp_wire.specs.Decoder.{decoder_of}
use Rattle.laws_breaks.specs.downloads.Actions.{AsksAll, ClientSuffers, IsPeeking, IsSuffering}
use Rattle.laws_breaks.proofs.downloads.Last.{FewOf, LastAll}

-- ---- actions

-- of one that asks for all
pub suffering_peeks : (action : Action client_side) (at : client_side.End) → IsSuffering action at → IsPeeking action at
suffering_peeks (Other (Aside (Starting op))) at is = is.0
suffering_peeks action at is = is

-- ---- orders

-- they can be carried, and all is asked for
abbrev pub AskAll : List Order → Type 0
AskAll [] = ⊤
AskAll (Single op moment ∷ orders) = (IsCarried op × (count_of op ≡ None)) × AskAll orders
AskAll (Tries upload moment ∷ orders) = ⊥

pub all_carried : (orders : List Order) → AskAll orders → AreCarried orders
all_carried [] all = tt
all_carried (Single op moment ∷ orders) all = (all.0.0, all_carried orders all.1)
all_carried (Tries upload moment ∷ orders) all = absurd all

-- orders after orders
pub both_all : (front given : List Order) → AskAll front → AskAll given → AskAll (front ++ given)
both_all [] given one other = other
both_all (Single op moment ∷ front) given one other = (one.0, both_all front given one.1 other)
both_all (Tries upload moment ∷ front) given one other = absurd one

-- the last of them
pub last_all : (done : List Order) (order : Order) (begun : List Order) → begun ≡ done ++ order ∷ [] → AskAll begun → AskAll (order ∷ [])
last_all done order begun is all = by done (subst AskAll is all)
  where
    by : (done : List Order) → AskAll (done ++ order ∷ []) → AskAll (order ∷ [])
    by [] w = w
    by (Single op moment ∷ done) w = by done w.1
    by (Tries upload moment ∷ done) w = absurd w

-- so does the one that was begun last
pub each_all : (begun : List Order) → AskAll begun → LastAll begun
each_all begun all op last = (last_all last.done (Single op last.moment) begun last.is all).0.1

-- and each of two rows
parted : (front given : List Order) → AskAll (front ++ given) → AskAll front × AskAll given
parted [] given all = (tt, all)
parted (Single op moment ∷ front) given all = let rest = parted front given all.1 in ((all.0, rest.0), rest.1)
parted (Tries upload moment ∷ front) given all = absurd all

-- of actions that begin them
pub asked_all : (moments : ℕ → ℕ) (actions : List (Action client_side)) → AskAll (begun_at moments actions) → AsksAll actions
asked_all moments [] all = tt
asked_all moments (action ∷ before) all =
    by action (parted (begun_at moments before) (begun_by (moments (number_in before)) action) all) (asked_all moments before)
  where
    by : (action : Action client_side) → AskAll (begun_at moments before) × AskAll (begun_by (moments (number_in before)) action)
        → (AskAll (begun_at moments before) → AsksAll before) → AsksAll (action ∷ before)
    by (Other (Aside (Starting op))) both_are still = both_are.1.0.1
    by action both_are still = still both_are.0

-- ---- no ABOR is sent

-- where less came than was asked for
abbrev pub Unsent : Op (List ℕ) → Transfer → Type 0
Unsent op transfer = has_enough op transfer.flow ≡ false → transfer.abort ≡ Aborts.Unsent

pub never_aborts : (link : ClientLink) (op : Op (List ℕ)) (transfer : Transfer) → has_enough op transfer.flow ≡ false → is_to_abort link op transfer ≡ false
never_aborts Data.Open op transfer few =
    ap (λ (enough : Bool). is_unsent transfer.abort && has_begun transfer.replied && enough) few
    ∙ three (is_unsent transfer.abort) (has_begun transfer.replied)
  where
    three : (one other : Bool) → one && other && false ≡ false
    three true true = refl
    three true false = refl
    three false other = refl
never_aborts link op transfer few = refl

-- a 110 settles nothing
noted_few : (asked : Option ℕ) (mark : Option ℕ) (flow : Flow) → has_settled asked (marked_flow mark flow) ≡ has_settled asked flow
noted_few None mark flow = refl
noted_few (Some count) None flow = refl
noted_few (Some count) (Some mark) (Sending left before) = refl
noted_few (Some count) (Some mark) (Receiving decoder before) = refl

pub unsent_kept : IsKept Unsent
unsent_kept = record {
  begins = λ op flow is few. refl;
  replies = λ replied op transfer unsent. unsent;
  notes = λ mark op transfer unsent few. unsent (sym (noted_few (count_of op) mark transfer.flow) ∙ few);
  aborts = λ link op transfer plain unsent is few. absurd (true≢false (sym is ∙ never_aborts link op transfer few));
  answers = λ op transfer unsent is few. absurd (true≢false (sym (ap is_unsent (unsent few)) ∙ ap is_unsent is));
}

-- as octets are taken
pub received_unsent : (octets : List ℕ) (n : Near) → IsPlainBy Unsent n → IsPlainBy Unsent (receives n octets)
received_unsent [] n p = p
received_unsent (octet ∷ octets) n p = received_unsent octets (receives_octet n octet) (by n.job p.job)
  where
    by_abort : (op : Op (List ℕ)) (transfer : Transfer) → IsPlain op → Unsent op transfer → (aborts : Bool)
        → is_to_abort n.connection op transfer ≡ aborts
        → IsPlainBy Unsent
        (if aborts then sends_abort op transfer (record n { job = Transferring op transfer }) else record n { job = Transferring op transfer })
    by_abort op transfer plain unsent true is =
        record { job = (plain, unsent_kept.aborts n.connection op transfer plain unsent is); port = p.port; run = p.run }
    by_abort op transfer plain unsent false is = record { job = (plain, unsent); port = p.port; run = p.run }

    -- after ABOR none is added
    heard : (op : Op (List ℕ)) (abort : Abort) (flow : Flow) → (has_enough op flow ≡ false → abort ≡ Aborts.Unsent)
        → has_enough op (heard_flow abort flow octet) ≡ false → abort ≡ Aborts.Unsent
    heard op Aborts.Unsent flow unsent few = refl
    heard op Aborts.Sent flow unsent few = unsent few
    heard op Aborts.Answered flow unsent few = unsent few

    by : (job : Job) → IsPlainJob Unsent job → IsPlainBy Unsent (near.heard_by job octet n)
    by (Transferring op transfer) plain =
        let then_is : Transfer = record transfer { flow = heard_flow transfer.abort transfer.flow octet } in
        by_abort op then_is plain.0 (heard op transfer.abort transfer.flow plain.1) (is_to_abort n.connection op then_is) refl
    by job plain = p

-- no world's Peek is at its ABOR then
pub not_halting : (now : State) (ask : Ask) (own : List Mark) (w : World) → FewOf ask.op w.near.job → AtHalt now ask own w → IsPlainJob Unsent w.near.job → ⊥
not_halting now ask own w few h unsent =
    let job : w.near.job ≡ halting ask.op (halt_replied h.halt) (halt_abort h.halt) ask.settings h.came =
    ap (λ (u : World). u.near.job) h.is ∙ ap (λ (n : Near). n.job) h.here.near in
    let kept : IsPlainJob Unsent (halting ask.op (halt_replied h.halt) (halt_abort h.halt) ask.settings h.came) = subst (IsPlainJob Unsent) job unsent in
    true≢false (sym (ap is_unaborted job ∙ ap is_unsent (kept.1 (few _ (decoder_of ask.settings h.came) _ job refl _))) ∙ halt_aborted now ask own w h)

-- ---- so it is after each action

module _ (old new : Stand client_side) where
  abbrev v : Near
  v = old.owner.end.view

  abbrev u : Near
  u = new.owner.end.view

  -- but giving, a dial that fails and a break, of which more is to be known
  pub near_unsent : (action : Action client_side) → BreaksNone action → ClientSuffers action old.owner new.owner → IsPlainBy Unsent v
      → ((count : ℕ) (octets : List ℕ) (rest : Rest) → Done (Other (Gave count octets rest)) old new → IsPlainBy Unsent u)
      → ((endpoint : Endpoint) → Done (Other (Refused (NotConnected endpoint ∷ []))) old new → IsPlainBy Unsent u)
      → Done action old new → IsPlainBy Unsent u
  near_unsent (Heard octets) unbroken is p gave refused did = action_plain Unsent unsent_kept old new (Heard octets) tt (tt, is.1) did p
  near_unsent (Says octets) unbroken is p gave refused did = action_plain Unsent unsent_kept old new (Says octets) tt (tt, is.1) did p
  near_unsent (Read octets) unbroken is p gave refused did = action_plain Unsent unsent_kept old new (Read octets) tt (tt, is.1) did p
  near_unsent (Other (Aside (Reporting said))) unbroken is p gave refused did =
      action_plain Unsent unsent_kept old new (Other (Aside (Reporting said))) tt (tt, is.1) did p
  near_unsent (Other (Aside (Starting op))) unbroken is p gave refused did =
      subst (IsPlainBy Unsent) (sym (did.0.0.1.0.0 is.1)) (starts_plain Unsent unsent_kept op v (transferred_plain op is.0.0) p)
  near_unsent (Other (Opened host (Connected endpoint left written ∷ []) at_first so_far rest)) unbroken is p gave refused did =
      action_plain Unsent unsent_kept old new (Other (Opened host (Connected endpoint left written ∷ []) at_first so_far rest)) tt (tt, is.1) did p
  near_unsent (Other (Refused (NotConnected endpoint ∷ []))) unbroken is p gave refused did = refused endpoint did
  near_unsent (Other (Gave count octets rest)) unbroken is p gave refused did = gave count octets rest did
  near_unsent (Other (Wrote octets)) unbroken is p gave refused did = subst (λ c. IsPlainBy Unsent c.view) (sym did.0.0) p
  near_unsent (Other (Got octets)) unbroken is p gave refused did = action_plain Unsent unsent_kept old new (Other (Got octets)) tt (tt, is.1) did p
  near_unsent (Other (Received octets count)) unbroken is p gave refused did =
      subst (IsPlainBy Unsent) (sym (did.0.0.0.0 is.1).0) (received_unsent (take count octets) v p)
  near_unsent (Other End) unbroken is p gave refused did = action_plain Unsent unsent_kept old new (Other End) tt (tt, is.1) did p
  near_unsent (Other (Waited lost)) unbroken is p gave refused did = action_plain Unsent unsent_kept old new (Other (Waited lost)) tt (tt, is.1) did p
  near_unsent (Other (LetGo octets)) unbroken is p gave refused did = action_plain Unsent unsent_kept old new (Other (LetGo octets)) tt (tt, is.1) did p
  near_unsent (Other (Left (EndedBy left written))) unbroken is p gave refused did =
      action_plain Unsent unsent_kept old new (Other (Left (EndedBy left written))) tt (tt, is.1) did p
  near_unsent (Other Failed) unbroken is p gave refused did = subst (λ c. IsPlainBy Unsent c.view) (sym did.0.0) p
  near_unsent (Other (Left (Reset left written))) unbroken is p gave refused did = subst (λ c. IsPlainBy Unsent c.view) (sym did.0.0) p
  near_unsent (Other Break) unbroken is p gave refused did = absurd unbroken
  near_unsent (Other (Left Shut)) unbroken is p gave refused did = action_plain Unsent unsent_kept old new (Other (Left Shut)) tt (tt, is.1) did p
  near_unsent (Other Closed) unbroken is p gave refused did = action_plain Unsent unsent_kept old new (Other Closed) tt (tt, is.1) did p
  near_unsent action unbroken is p gave refused did = absurd is.0

  -- ---- nothing comes to one while its server was only dialled

  -- as it resets what it has
  pub reset_fresh : (p q : Between) (left written : Option (List ℕ)) → StaysFresh p old → Calls {side = client_side} (Left (Reset left written)) old new
      → Can TheClient Resets p q → StaysFresh q new
  reset_fresh p q left written fresh did can = λ called.
      let f = fresh (ap is_called (sym (ap (λ (m : Between). m.far) can.1)) ∙ called) in
      record {
        plain = subst (λ c. IsPlainBy Fresh c.view) (sym did.0.0) f.plain;
        untold = did.0.1.untold;
        none = ap (λ (m : Between). m.data_ways.to_client) can.1 ∙ f.none;
      }
