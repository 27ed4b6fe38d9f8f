-- While the server was dialled and did not accept yet, no octet of the data connection came to the client, which sent no ABOR.
use Rattle.std.proofs.Common.{◌≡◌, ℕ, true, false, true≢false, List, [], ◌∷◌, take, Some, None, refl, sym, ap, subst, ◌∙◌}
use Rattle.ftp_endpoint.specs.declared.endpoint.Endpoint.{Endpoint}
use Rattle.ftp_ends.specs.declared.link.Wants.TheVariants as Want
use Rattle.ftp_ports.specs.Asking.{Connected, Ended as EndedBy, NotConnected, Reset, Shut}
use Rattle.ftp_ports.specs.Actions.{Action, Done, Heard, Other, Read, Said as Says, Stand}
use Rattle.ftp_ports.specs.Channel.{Channel}
use Rattle.ftp_ports.specs.declared.whole.Rest.{Rest}
use Rattle.ftp_ports.specs.Machine.{Aside, Break, Closed, End, Failed, Gave, Got, Left, LetGo, Opened, Received, Refused, Waited, Wrote}
use Rattle.ftp_client_driver.specs.Side.{Reporting, Starting, client_side}
use Rattle.ftp_client_model.specs.Calls as near
use Rattle.ftp_client_model.specs.Calls.{receives}
use Rattle.ftp_client_model.specs.Plan.{count_of}
use Rattle.ftp_client_model.specs.View.{Doing, Idle, Job, Told, Transferring, View as Near, Waiting}
use Rattle.ftp_operation.specs.declared.op.Op.{Op}
use Rattle.ftp_operation.specs.declared.op.Op.TheVariants as Ops
use Rattle.laws_agreement.proofs.Chunks.{both_empty}
use Rattle.laws_drivers.specs.world.Unaborted.{is_unaborted}
use Rattle.laws_drivers.specs.control.Between.{Between, Can, CanTurn, Client, Far as TheServer, Has, Has_ended, Has_lost, Hold}
use Rattle.laws_drivers.specs.control.Touches.{Touch, None_of_it, Says as SaysOctets, Reads, Parts, Listens, Dials, Accepts, IsDenied, IsMissed, Writes, Takes, Ends, Resets, ToldEnd, ToldBreak}
use Rattle.laws_drivers.proofs.events.Fresh.{Fresh, fresh_kept, fresh_unaborted}
use Rattle.laws_drivers.proofs.events.Holding.{both, is_called}
use Rattle.laws_drivers.proofs.events.Plain.{IsPlain, IsPlainBy, IsPlainJob, IsPlainly, IsSome, Whatever, starts_plain}
use Rattle.laws_drivers.proofs.events.Plainly.{action_plain}
use Rattle.laws_transfers.specs.Actions.{IsCarried, IsTransferred}
use Rattle.laws_transfers.specs.Refusals.{ClientTries}
use Rattle.laws_drivers.proofs.world.Known.{is_doing}

-- none came, and none is on its way
pub record IsFresh (between : Between) (client : Stand client_side) : Type 0 where
  pub plain : IsPlainBy Fresh client.owner.end.view
  pub untold : client.owner.channel.untold ≡ []
  pub none : between.data_ways.to_client ≡ []

-- so it is while the server was dialled
abbrev pub StaysFresh : Between → Stand client_side → Type 0
StaysFresh between client = is_called between.far ≡ true → IsFresh between client

-- then no ABOR was sent
pub called_unaborted : (between : Between) (client : Stand client_side) → StaysFresh between client → is_called between.far ≡ true
    → is_unaborted client.owner.end.view.job ≡ true
called_unaborted between client fresh called = fresh_unaborted client.owner.end.view (fresh called).plain

-- an operation that is begun is plain
pub transferred_plain : (op : Op (List ℕ)) → IsTransferred op → IsPlain op
transferred_plain op is = record { dials = is.1; some = by op is.0 }
  where
    by : (op : Op (List ℕ)) → IsCarried op → IsSome (count_of op)
    by (Ops.Peek path count how) some = some
    by op carried = tt

-- ---- the server does an action

module _ (p q : Between) where
  -- where it is dialled behind one it was so before, and what goes to the client is the same
  abbrev pub WasCalled : Type 0
  WasCalled = is_called q.far ≡ true → (is_called p.far ≡ true) × (q.data_ways.to_client ≡ p.data_ways.to_client)

  -- how the server stands is the same
  goes_same : q.far ≡ p.far → q.data_ways.to_client ≡ p.data_ways.to_client → WasCalled
  goes_same hold ways called = (ap is_called (sym hold) ∙ called, ways)

  -- or it was not dialled
  goes_apart : (hold : Hold) → q.far ≡ hold → is_called hold ≡ false → WasCalled
  goes_apart hold is none called = absurd (both called (ap is_called is ∙ none))

  pub far_called : (touch : Touch) → Can TheServer touch p q → WasCalled
  far_called None_of_it can = goes_same (ap (λ (m : Between). m.far) can) (ap (λ (m : Between). m.data_ways.to_client) can)
  far_called Parts can = goes_same (ap (λ (m : Between). m.far) can) (ap (λ (m : Between). m.data_ways.to_client) can)
  far_called (Listens None) can = goes_same (ap (λ (m : Between). m.far) can) (ap (λ (m : Between). m.data_ways.to_client) can)
  far_called (IsDenied endpoint) can = goes_same (ap (λ (m : Between). m.far) can) (ap (λ (m : Between). m.data_ways.to_client) can)
  far_called IsMissed can = goes_same (ap (λ (m : Between). m.far) can) (ap (λ (m : Between). m.data_ways.to_client) can)
  far_called (SaysOctets octets) can = goes_same (ap (λ (m : Between). m.far) can) (ap (λ (m : Between). m.data_ways.to_client) can)
  far_called (Reads octets) can = goes_same (ap (λ (m : Between). m.far) can.1) (ap (λ (m : Between). m.data_ways.to_client) can.1)
  far_called (Listens (Some port)) can = goes_apart _ (ap (λ (m : Between). m.far) can.1) refl
  far_called (Dials endpoint) can = goes_apart Has (ap (λ (m : Between). m.far) can.2) refl
  far_called (Accepts host) can = goes_apart Has (ap (λ (m : Between). m.far) can.1) refl
  far_called (Writes octets) can = goes_apart Has (ap (λ (m : Between). m.far) can.1 ∙ can.0) refl
  far_called (Takes octets) can = goes_apart Has (ap (λ (m : Between). m.far) can.2 ∙ can.0) refl
  far_called Ends can = goes_apart Has_ended (ap (λ (m : Between). m.far) can.1) refl
  far_called Resets can = goes_apart Has_lost (ap (λ (m : Between). m.far) can.1) refl
  far_called ToldEnd can = goes_same (ap (λ (m : Between). m.far) can.2) (ap (λ (m : Between). m.data_ways.to_client) can.2)
  far_called ToldBreak can = goes_apart Has_lost (ap (λ (m : Between). m.far) can.1) refl

-- so none came behind it
pub far_fresh : (p q : Between) (client : Stand client_side) → StaysFresh p client → (touch : Touch) → Can TheServer touch p q → StaysFresh q client
far_fresh p q client fresh touch can called =
    let was = far_called p q touch can called in
    let f = fresh was.0 in
    record { plain = f.plain; untold = f.untold; none = was.1 ∙ f.none }

-- ---- the client does

-- an action but that it is told of a break
abbrev pub BreaksNone : Action client_side → Type 0
BreaksNone (Other Break) = ⊥
BreaksNone action = Unit {0}

module _ (p q : Between) (old new : Stand client_side) (fresh : StaysFresh p old) where
  abbrev v : Near
  v = old.owner.end.view

  abbrev u : Near
  u = new.owner.end.view

  -- what goes to it is the same, and what came to it
  takes_same : (IsPlainBy Fresh v → IsPlainBy Fresh u) → q.far ≡ p.far → q.data_ways.to_client ≡ p.data_ways.to_client
      → new.owner.channel.untold ≡ old.owner.channel.untold → StaysFresh q new
  takes_same plain hold ways untold called =
      let f = fresh (ap is_called (sym hold) ∙ called) in record { plain = plain f.plain; untold = untold ∙ f.untold; none = ways ∙ f.none }

  -- the action leaves all between
  takes_on : (IsPlainBy Fresh v → IsPlainBy Fresh u) → q ≡ p → new.owner.channel.untold ≡ old.owner.channel.untold → StaysFresh q new
  takes_on plain same untold = takes_same plain (ap (λ (m : Between). m.far) same) (ap (λ (m : Between). m.data_ways.to_client) same) untold

  -- one that dialled is fresh
  dialled_fresh : IsPlainly v → is_doing v.job ≡ true → IsPlainBy Fresh v
  dialled_fresh plain doing = record { job = by v.job plain.job doing; port = plain.port; run = plain.run }
    where
      by : (job : Job) → IsPlainJob Whatever job → is_doing job ≡ true → IsPlainJob Fresh job
      by (Doing op step) is e = is
      by Idle is e = absurd (true≢false (sym e))
      by (Waiting op) is e = absurd (true≢false (sym e))
      by (Told said) is e = absurd (true≢false (sym e))
      by (Transferring op transfer) is e = absurd (true≢false (sym e))

  pub near_fresh : (action : Action client_side) → BreaksNone action → ClientTries action old.owner new.owner → IsPlainly v
      → ((endpoint : Endpoint) → near.wants v ≡ Want.Connect endpoint → is_doing v.job ≡ true) → (IsPlainBy Fresh v → (count : ℕ) (octets : List ℕ)
      (rest : Rest) → Done (Other (Gave count octets rest)) old new → IsPlainBy Fresh u)
      → ((endpoint : Endpoint) → Done (Other (Refused (NotConnected endpoint ∷ []))) old new → IsPlainBy Fresh u)
      → Done action old new → CanTurn (Client action) p q → StaysFresh q new
  near_fresh (Heard octets) unbroken is plain doing gave refused did can =
      takes_on (action_plain Fresh fresh_kept old new (Heard octets) tt (tt, is.1) did) can (ap (λ (l : Channel). l.untold) did.hears.1)
  near_fresh (Says octets) unbroken is plain doing gave refused did can =
      takes_same (action_plain Fresh fresh_kept old new (Says octets) tt (tt, is.1) did) (ap (λ (m : Between). m.far) can)
      (ap (λ (m : Between). m.data_ways.to_client) can) (ap (λ (l : Channel). l.untold) did.gives.channel)
  near_fresh (Read octets) unbroken is plain doing gave refused did can =
      takes_same (action_plain Fresh fresh_kept old new (Read octets) tt (tt, is.1) did) (ap (λ (m : Between). m.far) can.1)
      (ap (λ (m : Between). m.data_ways.to_client) can.1) (ap (λ o. o.channel.untold) did.owner)
  near_fresh (Other (Aside (Reporting said))) unbroken is plain doing gave refused did can =
      takes_on (action_plain Fresh fresh_kept old new (Other (Aside (Reporting said))) tt (tt, is.1) did) can (ap (λ (l : Channel). l.untold) did.0.1)
  near_fresh (Other (Aside (Starting op))) unbroken is plain doing gave refused did can =
      takes_on (λ f. subst (IsPlainBy Fresh) (sym (did.0.0.1.0.0 is.1)) (starts_plain Fresh fresh_kept op v (transferred_plain op is.0.0) f)) can
      (ap (λ (l : Channel). l.untold) did.0.1)
  near_fresh (Other (Opened host (Connected endpoint left written ∷ []) at_first so_far rest)) unbroken is plain doing gave refused did can = λ called. record {
    plain = action_plain Fresh fresh_kept old new (Other (Opened host (Connected endpoint left written ∷ []) at_first so_far rest)) tt (tt, is.1) did
        (dialled_fresh plain (doing endpoint did.0.2.0));
    untold = did.0.1.untold;
    none = ap (λ (m : Between). m.data_ways.to_client) can.2;
  }
  near_fresh (Other (Refused (NotConnected endpoint ∷ []))) unbroken is plain doing gave refused did can =
      takes_on (λ f. refused endpoint did) can (ap (λ (l : Channel). l.untold) did.0.1.1)
  near_fresh (Other (Gave count octets rest)) unbroken is plain doing gave refused did can =
      takes_on (λ f. gave f count octets rest did) can (ap (λ (l : Channel). l.untold) did.0.1.0)
  near_fresh (Other (Wrote octets)) unbroken is plain doing gave refused did can =
      takes_same (subst (λ c. IsPlainBy Fresh c.view) (sym did.0.0)) (ap (λ (m : Between). m.far) can.1) (ap (λ (m : Between). m.data_ways.to_client) can.1)
      did.0.1.untold
  near_fresh (Other (Got octets)) unbroken is plain doing gave refused did can = λ called.
      let f = fresh (ap is_called (sym (ap (λ (m : Between). m.far) can.2)) ∙ called) in
      let none = both_empty octets q.data_ways.to_client (sym can.1 ∙ f.none) in
      record {
        plain = action_plain Fresh fresh_kept old new (Other (Got octets)) tt (tt, is.1) did f.plain;
        untold = did.0.1.untold ∙ none.0;
        none = none.1;
      }
  near_fresh (Other (Received octets count)) unbroken is plain doing gave refused did can = λ called.
      let f = fresh (ap is_called (sym (ap (λ (m : Between). m.far) can)) ∙ called) in
      let none = both_empty (take count octets) new.owner.channel.untold (sym did.0.1.0 ∙ f.untold) in
      let same : u ≡ v = (did.0.0.0.0 is.1).0 ∙ ap (receives v) none.0 in
      record {
        plain = subst (IsPlainBy Fresh) (sym same) f.plain;
        untold = none.1;
        none = ap (λ (m : Between). m.data_ways.to_client) can ∙ f.none;
      }
  near_fresh (Other End) unbroken is plain doing gave refused did can =
      takes_on (action_plain Fresh fresh_kept old new (Other End) tt (tt, is.1) did) can.2 (ap (λ (l : Channel). l.untold) did.0.1.0)
  near_fresh (Other (Waited lost)) unbroken is plain doing gave refused did can =
      takes_on (action_plain Fresh fresh_kept old new (Other (Waited lost)) tt (tt, is.1) did) can did.0.1.holds.untold
  near_fresh (Other (LetGo octets)) unbroken is plain doing gave refused did can = λ called.
      let f = fresh (ap is_called (sym (ap (λ (m : Between). m.far) can)) ∙ called) in
      record {
        plain = action_plain Fresh fresh_kept old new (Other (LetGo octets)) tt (tt, is.1) did f.plain;
        untold = (both_empty octets new.owner.channel.untold (sym did.0.1.0 ∙ f.untold)).1;
        none = ap (λ (m : Between). m.data_ways.to_client) can ∙ f.none;
      }
  near_fresh (Other (Left (EndedBy left written))) unbroken is plain doing gave refused did can = λ called.
      let f = fresh (ap is_called (sym (ap (λ (m : Between). m.far) can.1)) ∙ called) in
      record {
        plain = action_plain Fresh fresh_kept old new (Other (Left (EndedBy left written))) tt (tt, is.1) did f.plain;
        untold = did.0.1.untold;
        none = ap (λ (m : Between). m.data_ways.to_client) can.1 ∙ f.none;
      }
  near_fresh (Other Failed) unbroken is plain doing gave refused did can =
      takes_on (subst (λ c. IsPlainBy Fresh c.view) (sym did.0.0)) can (ap (λ (l : Channel). l.untold) did.0.1.0)
  near_fresh (Other (Left (Reset left written))) unbroken is plain doing gave refused did can = λ called.
      let f = fresh (ap is_called (sym (ap (λ (m : Between). m.far) can.1)) ∙ called) in
      record {
        plain = subst (λ c. IsPlainBy Fresh c.view) (sym did.0.0) f.plain;
        untold = did.0.1.untold;
        none = ap (λ (m : Between). m.data_ways.to_client) can.1 ∙ f.none;
      }
  near_fresh (Other Break) unbroken is plain doing gave refused did can = absurd unbroken
  near_fresh (Other (Left Shut)) unbroken is plain doing gave refused did can = λ called.
      let f = fresh (ap is_called (sym (ap (λ (m : Between). m.far) can)) ∙ called) in
      record {
        plain = action_plain Fresh fresh_kept old new (Other (Left Shut)) tt (tt, is.1) did f.plain;
        untold = did.0.1.untold;
        none = ap (λ (m : Between). m.data_ways.to_client) can ∙ f.none;
      }
  near_fresh (Other Closed) unbroken is plain doing gave refused did can =
      takes_on (action_plain Fresh fresh_kept old new (Other Closed) tt (tt, is.1) did) can (ap (λ (l : Channel). l.untold) did.0.1.0)
  near_fresh action unbroken is plain doing gave refused did can = absurd is.0
