-- A client over whose data connection no octet came yet sent no ABOR, since of a Peek one octet at least is asked for, whether it dials or has ports of its
-- own;
-- and while the server was dialled and did not accept yet, none came.
use Rattle.std.proofs.Common.{◌≡◌, ℕ, Bool, true, false, true≢false, ◌&&◌, List, [], ◌∷◌, length, take, refl, sym, ap, subst, ◌∙◌}
use Rattle.ftp_ports.specs.Asking.{Came, Connected, Ended as EndedBy, Reset, Shut}
use Rattle.ftp_ports.specs.Actions.{Action, Done, Heard, Other, Read, Said as Says, Stand}
use Rattle.ftp_ports.specs.Channel.{Channel}
use Rattle.ftp_ports.specs.Machine.{Aside, Break, Closed, End, Failed, Gave, Got, Left, LetGo, Listening, Opened, Received, Waited, Wrote}
use Rattle.ftp_endpoint.specs.declared.endpoint.Endpoint.{Endpoint}
use Rattle.ftp_ends.specs.declared.link.Wants.TheVariants as Want
use Rattle.ftp_client_driver.specs.Side.{Reporting, Starting, client_side}
use Rattle.ftp_client_model.specs.Calls as near
use Rattle.ftp_client_model.specs.Calls.{receives}
use Rattle.ftp_client_model.specs.Dialogue.{has_begun, is_to_abort, is_unsent}
use Rattle.ftp_client_model.specs.Octets.{settled_of}
use Rattle.ftp_client_model.specs.Plan.{count_of}
use Rattle.ftp_client_model.specs.View.{Flow, Job, Receiving, Sending, Transfer, Transferring, View as Near}
use Rattle.ftp_client_model.specs.declared.client.ClientLink.{ClientLink}
use Rattle.ftp_client_model.specs.declared.client.ClientLink.TheVariants as Data
use Rattle.ftp_operation.specs.declared.op.Op.{Op}
use Rattle.laws_agreement.proofs.Chunks.{both_empty}
use Rattle.laws_drivers.specs.control.Alone.{ClientIsCalm}
use Rattle.laws_drivers.specs.control.Between.{Between, Can, CanTurn, Client, Far as TheServer}
use Rattle.laws_drivers.specs.control.Touches.{Touch}
use Rattle.laws_drivers.proofs.control.Taken.{reports_is}
use Rattle.laws_drivers.specs.world.Unaborted.{is_unaborted}
use Rattle.laws_drivers.proofs.events.Fresh.{Fresh}
use Rattle.laws_drivers.proofs.events.Fresh as dialling
use Rattle.laws_drivers.proofs.events.Holding.{is_called}
use Rattle.laws_drivers.proofs.events.Plain.{IsSome, Whatever}
use Rattle.laws_transfers.proofs.Called.{BreaksNone, far_called}
use Rattle.laws_active.specs.Actions.{ClientTransfersEitherWay}
use Rattle.laws_active.proofs.Accepting.{few_unsettled}
use Rattle.laws_active.proofs.Calls.{carried_some}
use Rattle.laws_active.proofs.Keeping.{IsCarrying, IsKeeping, IsKeepingJob, IsKept, ended_kept, gives_kept, hears_kept, opened_kept, port_told_kept, received_kept, starts_kept, taken_kept, whatever_kept}

-- ---- no ABOR

-- none is sent
fresh_aborts : (link : ClientLink) (op : Op (List ℕ)) (transfer : Transfer) → IsSome (count_of op) → Fresh op transfer → is_to_abort link op transfer ≡ false
fresh_aborts Data.Open op transfer some fresh =
    ap (λ e. is_unsent transfer.abort && has_begun transfer.replied && e) (few_unsettled op transfer.flow (some, fresh.1))
    ∙ three (is_unsent transfer.abort) (has_begun transfer.replied)
  where
    three : (one other : Bool) → one && other && false ≡ false
    three true true = refl
    three true false = refl
    three false other = refl
fresh_aborts link op transfer some fresh = refl

pub fresh_kept : IsKept Fresh
fresh_kept = record {
  begins = dialling.fresh_kept.begins;
  replies = dialling.fresh_kept.replies;
  notes = dialling.fresh_kept.notes;
  aborts = λ link op transfer some fresh is. absurd (true≢false (sym is ∙ fresh_aborts link op transfer some fresh));
  answers = dialling.fresh_kept.answers;
}

-- such a client sent none
pub fresh_unaborted : (n : Near) → IsKeeping Fresh n → is_unaborted n.job ≡ true
fresh_unaborted n p = by n.job p.job
  where
    by : (job : Job) → IsKeepingJob Fresh job → is_unaborted job ≡ true
    by (Transferring op transfer) some = ap is_unsent some.1.0
    by job some = refl

-- octets that it gives are none that came
pub fresh_went : (count : ℕ) (op : Op (List ℕ)) (transfer : Transfer) → Fresh op transfer → Fresh op (record transfer { flow = near.went count transfer.flow })
fresh_went count op transfer fresh = (fresh.0, by transfer.flow ∙ fresh.1)
  where
    by : (flow : Flow) → settled_of (near.went count flow) ≡ settled_of flow
    by (Sending left mark) = refl
    by (Receiving decoder mark) = refl

-- ---- an action keeps what is so of its transfer

module _ (Kept : Op (List ℕ) → Transfer → Type 0) (keeps : IsKept Kept)
    (went : (count : ℕ) (op : Op (List ℕ)) (transfer : Transfer) → Kept op transfer → Kept op (record transfer { flow = near.went count transfer.flow }))
    (old new : Stand client_side) where
  -- it is this now
  is_now : (n : Near) → new.owner.end.view ≡ n → IsKeeping Kept n → IsKeeping Kept new.owner.end.view
  is_now n is p = subst (IsKeeping Kept) (sym is) p

  -- where octets that it takes do, and but a break that it is told of
  pub action_kept : ((octets : List ℕ) (count : ℕ) → ClientIsCalm old.owner new.owner → Done (Other (Received octets count)) old new
      → IsKeeping Kept old.owner.end.view → IsKeeping Kept new.owner.end.view)
      → (action : Action client_side) → BreaksNone action → ClientTransfersEitherWay action old.owner new.owner → Done action old new
      → IsKeeping Kept old.owner.end.view → IsKeeping Kept new.owner.end.view
  action_kept takes (Heard octets) unbroken is did p =
      is_now _ (did.hears.0.0.0 is.1).0 (hears_kept Kept keeps (take (length octets) old.unheard) old.owner.end.view p)
  action_kept takes (Says octets) unbroken is did p = is_now _ did.gives.gave.0 (record { job = p.job; run = p.run })
  action_kept takes (Read octets) unbroken is did p = is_now old.owner.end.view (ap (λ o. o.end.view) did.owner) p
  action_kept takes (Other (Aside (Reporting said))) unbroken is did p =
      is_now _ (did.0.0.1.0 ∙ reports_is old.owner.end.view) (taken_kept Kept keeps old.owner.end.view p)
  action_kept takes (Other (Aside (Starting op))) unbroken is did p =
      is_now _ (did.0.0.1.0.0 is.1) (starts_kept Kept keeps op old.owner.end.view (carried_some op is.0.0) p)
  action_kept takes (Other (Listening port)) unbroken is did p = is_now _ (did.0.0.0.0 is.1) (port_told_kept Kept keeps port old.owner.end.view p)
  action_kept takes (Other (Opened host (Came from left written ∷ []) at_first so_far rest)) unbroken is did p =
      is_now _ (did.0.0.0.0.0 is.1) (opened_kept Kept keeps host old.owner.end.view p)
  action_kept takes (Other (Opened host (Connected endpoint left written ∷ []) at_first so_far rest)) unbroken is did p =
      is_now _ (did.0.0.0.0.0 is.1) (opened_kept Kept keeps host old.owner.end.view p)
  action_kept takes (Other (Gave count octets rest)) unbroken is did p =
      is_now _ (did.0.0.1.0.0 is.1) (gives_kept Kept keeps count old.owner.end.view (went count) p)
  action_kept takes (Other (Wrote octets)) unbroken is did p = is_now old.owner.end.view (ap (λ c. c.view) did.0.0) p
  action_kept takes (Other (Got octets)) unbroken is did p = is_now old.owner.end.view (ap (λ c. c.view) did.0.0) p
  action_kept takes (Other End) unbroken is did p = is_now _ (did.0.0.0.0 is.1) (ended_kept Kept keeps old.owner.end.view p)
  action_kept takes (Other Failed) unbroken is did p = is_now old.owner.end.view (ap (λ c. c.view) did.0.0) p
  action_kept takes (Other (Waited lost)) unbroken is did p = is_now old.owner.end.view (ap (λ c. c.view) did.0.0) p
  action_kept takes (Other (LetGo octets)) unbroken is did p = is_now old.owner.end.view (ap (λ c. c.view) did.0.0.0) p
  action_kept takes (Other (Left (EndedBy left written))) unbroken is did p = is_now old.owner.end.view (ap (λ c. c.view) did.0.0) p
  action_kept takes (Other (Left (Reset left written))) unbroken is did p = is_now old.owner.end.view (ap (λ c. c.view) did.0.0) p
  action_kept takes (Other (Left Shut)) unbroken is did p = is_now old.owner.end.view (ap (λ c. c.view) did.0.0) p
  action_kept takes (Other Closed) unbroken is did p = is_now _ did.0.0.0 (record { job = p.job; run = p.run })
  action_kept takes (Other (Received octets count)) unbroken is did p = takes octets count is.1 did p
  action_kept takes (Other Break) unbroken is did p = absurd unbroken
  action_kept takes action unbroken is did p = absurd is.0

-- of each that is begun one octet at least is asked for, where a number of them is
pub action_carrying : (action : Action client_side) → BreaksNone action → (old new : Stand client_side) → ClientTransfersEitherWay action old.owner new.owner → Done action old new
    → IsCarrying old.owner.end.view → IsCarrying new.owner.end.view
action_carrying action unbroken old new is did p =
    action_kept Whatever whatever_kept (λ count op transfer kept. tt) old new
    (λ octets count calm took before. subst IsCarrying (sym (took.0.0.0.0 calm).0) (received_kept (take count octets) old.owner.end.view before))
    action unbroken is did p

-- ---- none came while the server was dialled

-- none came, and none is on its way
pub record IsFresh (between : Between) (client : Stand client_side) : Type 0 where
  pub keeping : IsKeeping Fresh client.owner.end.view
  pub untold : client.owner.channel.untold ≡ []
  pub none : between.data_ways.to_client ≡ []

-- so it is while the server was dialled
abbrev pub StaysFresh : Between → Stand client_side → Type 0
StaysFresh between client = is_called between.far ≡ true → IsFresh between client

-- then no ABOR was sent
pub called_unaborted : (between : Between) (client : Stand client_side) → StaysFresh between client → is_called between.far ≡ true
    → is_unaborted client.owner.end.view.job ≡ true
called_unaborted between client fresh called = fresh_unaborted client.owner.end.view (fresh called).keeping

-- an action of the server
pub far_fresh : (p q : Between) (client : Stand client_side) → StaysFresh p client → (touch : Touch) → Can TheServer touch p q → StaysFresh q client
far_fresh p q client fresh touch can called =
    let was = far_called p q touch can called in
    let f = fresh was.0 in
    record { keeping = f.keeping; untold = f.untold; none = was.1 ∙ f.none }

-- one of the client
module _ (p q : Between) (old new : Stand client_side) (fresh : StaysFresh p old) where
  abbrev v : Near
  v = old.owner.end.view

  abbrev u : Near
  u = new.owner.end.view

  -- it is fresh still
  keeps_on : (action : Action client_side) → BreaksNone action → ClientTransfersEitherWay action old.owner new.owner → Done action old new → IsFresh p old → IsKeeping Fresh u
  keeps_on action unbroken is did f =
      action_kept Fresh fresh_kept fresh_went old new
      (λ octets count calm took before.
      let none = both_empty (take count octets) new.owner.channel.untold (sym took.0.1.0 ∙ f.untold) in
      subst (IsKeeping Fresh) (sym ((took.0.0.0.0 calm).0 ∙ ap (receives v) none.0)) before) action unbroken is did f.keeping

  -- how the server stands, and what goes to the client, is the same
  takes_on : (IsFresh p old → IsKeeping Fresh u) → q.far ≡ p.far → q.data_ways.to_client ≡ p.data_ways.to_client
      → (old.owner.channel.untold ≡ [] → new.owner.channel.untold ≡ []) → StaysFresh q new
  takes_on keeping hold ways untold called =
      let f = fresh (ap is_called (sym hold) ∙ called) in record { keeping = keeping f; untold = untold f.untold; none = ways ∙ f.none }

  -- all between is
  all_on : (IsFresh p old → IsKeeping Fresh u) → q ≡ p → (old.owner.channel.untold ≡ [] → new.owner.channel.untold ≡ []) → StaysFresh q new
  all_on keeping same untold = takes_on keeping (ap (λ (m : Between). m.far) same) (ap (λ (m : Between). m.data_ways.to_client) same) untold

  pub near_fresh : (action : Action client_side) → BreaksNone action → ClientTransfersEitherWay action old.owner new.owner
      → ((endpoint : Endpoint) → near.wants v ≡ Want.Connect endpoint → IsKeeping Fresh v) → Done action old new → CanTurn (Client action) p q
      → StaysFresh q new
  near_fresh (Heard octets) unbroken is dials did can =
      all_on (keeps_on (Heard octets) unbroken is did) can (λ e. ap (λ (l : Channel). l.untold) did.hears.1 ∙ e)
  near_fresh (Says octets) unbroken is dials did can =
      takes_on (keeps_on (Says octets) unbroken is did) (ap (λ (m : Between). m.far) can) (ap (λ (m : Between). m.data_ways.to_client) can)
      (λ e. ap (λ (l : Channel). l.untold) did.gives.channel ∙ e)
  near_fresh (Read octets) unbroken is dials did can =
      takes_on (keeps_on (Read octets) unbroken is did) (ap (λ (m : Between). m.far) can.1) (ap (λ (m : Between). m.data_ways.to_client) can.1)
      (λ e. ap (λ o. o.channel.untold) did.owner ∙ e)
  near_fresh (Other (Aside (Reporting said))) unbroken is dials did can =
      all_on (keeps_on (Other (Aside (Reporting said))) unbroken is did) can (λ e. ap (λ (l : Channel). l.untold) did.0.1 ∙ e)
  near_fresh (Other (Aside (Starting op))) unbroken is dials did can =
      all_on (keeps_on (Other (Aside (Starting op))) unbroken is did) can (λ e. ap (λ (l : Channel). l.untold) did.0.1 ∙ e)
  near_fresh (Other (Listening port)) unbroken is dials did can =
      takes_on (keeps_on (Other (Listening port)) unbroken is did) (ap (λ (m : Between). m.far) can.1) (ap (λ (m : Between). m.data_ways.to_client) can.1)
      (λ e. ap (λ (l : Channel). l.untold) did.0.1.1 ∙ e)
  near_fresh (Other (Opened host (Came from left written ∷ []) at_first so_far rest)) unbroken is dials did can =
      takes_on (keeps_on (Other (Opened host (Came from left written ∷ []) at_first so_far rest)) unbroken is did) (ap (λ (m : Between). m.far) can.1)
      (ap (λ (m : Between). m.data_ways.to_client) can.1) (λ e. did.0.1.untold)
  near_fresh (Other (Opened host (Connected endpoint left written ∷ []) at_first so_far rest)) unbroken is dials did can = λ called. record {
    keeping = subst (IsKeeping Fresh) (sym (did.0.0.0.0.0 is.1)) (opened_kept Fresh fresh_kept host v (dials endpoint did.0.2.0));
    untold = did.0.1.untold;
    none = ap (λ (m : Between). m.data_ways.to_client) can.2;
  }
  near_fresh (Other (Gave count octets rest)) unbroken is dials did can =
      all_on (keeps_on (Other (Gave count octets rest)) unbroken is did) can (λ e. ap (λ (l : Channel). l.untold) did.0.1.0 ∙ e)
  near_fresh (Other (Wrote octets)) unbroken is dials did can =
      takes_on (keeps_on (Other (Wrote octets)) unbroken is did) (ap (λ (m : Between). m.far) can.1) (ap (λ (m : Between). m.data_ways.to_client) can.1)
      (λ e. did.0.1.untold ∙ e)
  near_fresh (Other (Got octets)) unbroken is dials did can = λ called.
      let f = fresh (ap is_called (sym (ap (λ (m : Between). m.far) can.2)) ∙ called) in
      let none = both_empty octets q.data_ways.to_client (sym can.1 ∙ f.none) in
      record { keeping = keeps_on (Other (Got octets)) unbroken is did f; untold = did.0.1.untold ∙ none.0; none = none.1 }
  near_fresh (Other (Received octets count)) unbroken is dials did can =
      all_on (keeps_on (Other (Received octets count)) unbroken is did) can
      (λ e. (both_empty (take count octets) new.owner.channel.untold (sym did.0.1.0 ∙ e)).1)
  near_fresh (Other End) unbroken is dials did can =
      all_on (keeps_on (Other End) unbroken is did) can.2 (λ e. ap (λ (l : Channel). l.untold) did.0.1.0 ∙ e)
  near_fresh (Other Failed) unbroken is dials did can =
      all_on (keeps_on (Other Failed) unbroken is did) can (λ e. ap (λ (l : Channel). l.untold) did.0.1.0 ∙ e)
  near_fresh (Other (Waited lost)) unbroken is dials did can =
      all_on (keeps_on (Other (Waited lost)) unbroken is did) can (λ e. did.0.1.holds.untold ∙ e)
  near_fresh (Other (LetGo octets)) unbroken is dials did can =
      all_on (keeps_on (Other (LetGo octets)) unbroken is did) can (λ e. (both_empty octets new.owner.channel.untold (sym did.0.1.0 ∙ e)).1)
  near_fresh (Other (Left (EndedBy left written))) unbroken is dials did can =
      takes_on (keeps_on (Other (Left (EndedBy left written))) unbroken is did) (ap (λ (m : Between). m.far) can.1)
      (ap (λ (m : Between). m.data_ways.to_client) can.1) (λ e. did.0.1.untold)
  near_fresh (Other (Left (Reset left written))) unbroken is dials did can =
      takes_on (keeps_on (Other (Left (Reset left written))) unbroken is did) (ap (λ (m : Between). m.far) can.1)
      (ap (λ (m : Between). m.data_ways.to_client) can.1) (λ e. did.0.1.untold)
  near_fresh (Other (Left Shut)) unbroken is dials did can =
      all_on (keeps_on (Other (Left Shut)) unbroken is did) can (λ e. did.0.1.untold)
  near_fresh (Other Closed) unbroken is dials did can =
      all_on (keeps_on (Other Closed) unbroken is did) can (λ e. ap (λ (l : Channel). l.untold) did.0.1.0 ∙ e)
  near_fresh (Other Break) unbroken is dials did can = absurd unbroken
  near_fresh action unbroken is dials did can = absurd is.0
