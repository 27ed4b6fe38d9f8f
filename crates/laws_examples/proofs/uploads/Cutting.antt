-- Actions of two drives of which an upload breaks, as a kind of those that are played one after another: the server is told of a break right after the moment of
-- the operation.
use Rattle.std.proofs.Common.{◌≡◌, inl, ℕ, List, [], ◌∷◌, ◌++◌, refl, sym, ap, subst, ◌∙◌}
use Rattle.std.specs.Prelude.{⊤}
use Rattle.ftp_ports.specs.Asking.{Reset}
use Rattle.ftp_ports.specs.Actions.{Calls, Action, Done, Led, Other, Stand}
use Rattle.ftp_ports.specs.Machine.{Break, Held, Left}
use Rattle.ftp_client_driver.specs.Side.{Begun, client_side}
use Rattle.ftp_client_model.specs.Failing.{Client as NearEnd}
use Rattle.ftp_operation.specs.declared.op.Op.{Op}
use Rattle.ftp_server_driver.specs.alone.Side.{Timed, server_side}
use Rattle.ftp_server_model.specs.Calls as far
use Rattle.ftp_server_model.specs.Machine.{later}
use Rattle.ftp_server_model.specs.View.{View as Far}
use Rattle.laws_examples.proofs.downloads.Breaking.{AreAfter, suffers, yields}
use Rattle.laws_breaks.specs.uploads.Actions.{AreCutAt, ClientGives, IsGiving, IsLosing, LosesAlong, ServerLoses}
use Rattle.laws_drivers.specs.events.Actions.{Along, IsMidst}
use Rattle.laws_drivers.proofs.events.Along.{Went}
use Rattle.laws_drivers.specs.control.Alone.{ServerIsCalm}
use Rattle.laws_drivers.specs.control.Between.{Between, Client, Server, Turn, client_actions, server_actions}
use Rattle.laws_drivers.proofs.control.Calm.{first_is_calm}
use Rattle.laws_transfers.specs.Actions.{IsAsking, IsServing}
use Rattle.laws_drivers.specs.events.Moments.{last_of, number_in}
use Rattle.laws_examples.proofs.transfers.Playing.{IsUnbroken, Kind, PlayedBy, midst_numbers, played_as}

-- ---- the kind

-- a server for which nothing breaks does what one does for which an upload may
pub loses : (action : Action server_side) (at : Held Timed) → IsServing action at → IsLosing action at
loses (Other Break) at is = absurd is
loses action at is = yields action at is

-- so does a client in the midst of a drive
pub gives_so : (action : Action client_side) (at : Held NearEnd) → IsMidst action → IsUnbroken action → IsAsking action at → IsGiving action at
gives_so (Other Break) at midst unbroken is = absurd unbroken
gives_so (Other (Left (Reset left written))) at midst unbroken is = inl (suffers (Other (Left (Reset left written))) at midst unbroken is)
gives_so action at midst unbroken is = suffers action at midst unbroken is

-- a server that is told of a break holds this, and is told this moment
abbrev pub IsThen : Far → ℕ → Action server_side → (old new : Held Timed) → Type 0
IsThen v moment (Other Break) old new = (old.end.server.view ≡ v) × (new.end.server.view.context.moment ≡ moment)
IsThen v moment action old new = ⊤

pub then_served : (v : Far) (moment : ℕ) (action : Action server_side) (old new : Held Timed) → IsServing action old → IsThen v moment action old new
then_served v moment (Other Break) old new is = absurd is
then_served v moment action old new is = tt

-- it is told of the break of the first operation
abbrev pub AreOfFirst : List Turn → Type 0
AreOfFirst [] = ⊤
AreOfFirst (Server (Other Break) ∷ before) = AreOfFirst before × (number_in (client_actions before) ≡ 1)
AreOfFirst (Server action ∷ before) = AreOfFirst before
AreOfFirst (Client action ∷ before) = AreOfFirst before

pub served_first : (action : Action server_side) (at : Held Timed) → IsServing action at → (before : List Turn) → AreOfFirst before
    → AreOfFirst (Server action ∷ before)
served_first (Other Break) at is before first = absurd is
served_first action at is before first = first

-- turns are after these still, once there is one more
pub one_more : (turn : Turn) {first turns : List Turn} → AreAfter first turns → AreAfter first (turn ∷ turns)
one_more turn after = (turn ∷ after.0, ap (λ l. turn ∷ l) after.1)

-- an upload may break, and the turns are after these
abbrev pub cutting : List Turn → Far → ℕ → Kind
cutting first v moment = record {
  Gives = λ action old new. ServerLoses action old new × IsThen v moment action old new;
  Takes = ClientGives;
  gives = λ action old new is. ((loses action old is.0, is.1), then_served v moment action old new is.0);
  takes = λ action old new midst unbroken is. (gives_so action old midst unbroken is.0, is.1);
  Keeps = λ turns between happened. AreAfter first turns × AreOfFirst turns;
  far_keeps = λ action at next gives before old new happened can keeps.
      (one_more (Server action) keeps.0, served_first action at gives.0 before keeps.1);
  near_keeps = λ action unbroken before old new happened can keeps. (one_more (Client action) keeps.0, keeps.1);
}

module _ {first : List Turn} {v : Far} {moment : ℕ} {moments : ℕ → ℕ} {start : Stand server_side} {begun : Stand client_side} {op : Op (List ℕ)}
    {listened : ℕ} {between : Between} {server : Stand server_side} {client : Stand client_side} where
  -- from here on turns are after those so far
  pub from_here : (p : PlayedBy (cutting first v moment) moments start begun op listened between server client)
      → PlayedBy (cutting p.turns v moment) moments start begun op listened between server client
  from_here p = played_as (cutting p.turns v moment) p p.gives p.takes (([], refl), p.resets.1)

  -- one operation was begun
  pub began_one : (p : PlayedBy (cutting first v moment) moments start begun op listened between server client) → number_in (client_actions p.turns) ≡ 1
  began_one p = ap number_in p.client_is ∙ midst_numbers p.midst (Other (Begun op) ∷ []) p.are

-- a client did actions after it began an operation
pub went_on : (op : Op (List ℕ)) (midst : List (Action client_side)) (old begun now : Stand client_side) → Went ClientGives midst begun now
    → Done (Other (Begun op)) old begun → ClientGives (Other (Begun op)) old.owner begun.owner → Went ClientGives (midst ++ Other (Begun op) ∷ []) old now
went_on op [] old begun now went done is =
    subst (λ n. Went ClientGives (Other (Begun op) ∷ []) old n) (sym went.0) ((old, refl, done), (tt, is))
went_on op (action ∷ midst) old begun now went done is =
    let rest = went_on op midst old begun went.0.0 (went.0.1, went.1.0) done is in ((went.0.0, rest.0, went.0.2), (rest.1, went.1.1))

-- ---- the server's breaks

module _ (v : Far) (moment : ℕ) where
  abbrev Gives : Action server_side → (old new : Held Timed) → Type 0
  Gives action old new = ServerLoses action old new × IsThen v moment action old new

  -- it does what one does of whose client an upload may break
  pub loses_along : (actions : List (Action server_side)) (start now : Stand server_side) (led : Led actions start now) → Along Gives actions start now led
      → LosesAlong actions start now led
  loses_along [] start now led gives = tt
  loses_along (action ∷ before) start now led gives = (loses_along before start led.0 led.1 gives.0, gives.1.0)

  module _ (steps : (told : ℕ) → (later (far.break_step (later (far.clock_step told v)))).context.moment ≡ told) where
    -- the moment that it is told is the one that it holds then
    told_then : (old new : Stand server_side) → ServerIsCalm old.owner new.owner → old.owner.end.server.view ≡ v
        → (did : Calls {side = server_side} Break old new) → did.0.0.0 ≡ new.owner.end.server.view.context.moment
    told_then old new calm is did =
        let acts = did.0.0.3 in
        let calls = did.0.0.4 in
        let first : did.0.0.1.counts ≡ old.owner.end.server.counts =
        first_is_calm old.owner.end.server.counts did.0.0.1.counts new.owner.end.server.counts acts.counted calls.counted calm in
        let told : new.owner.end.server.view ≡ later (far.break_step (later (far.clock_step did.0.0.0 v))) =
        calls.done (calm ∙ sym first) ∙ ap (λ w. later (far.break_step w)) (acts.done first ∙ ap (λ w. later (far.clock_step did.0.0.0 w)) is) in
        sym (ap (λ (w : Far). w.context.moment) told ∙ steps did.0.0.0)

    -- that of the operation
    pub cut_along : (moments : ℕ → ℕ) → moment ≡ moments 0 → (turns : List Turn) → AreOfFirst turns → (start server : Stand server_side)
        (led : Led (server_actions turns) start server) → Along Gives (server_actions turns) start server led → AreCutAt moments turns start server led
    cut_along moments is [] first start server led gives = tt
    cut_along moments is (Server (Other Break) ∷ before) first start server led gives = (
      cut_along moments is before first.0 start led.0 led.1 gives.0,
      λ wants. told_then led.0 server gives.1.0.1 gives.1.1.0 led.2 ∙ gives.1.1.1 ∙ is ∙ sym (ap (last_of moments) first.1),
    )
    cut_along moments is (Server action ∷ before) first start server led gives = (cut_along moments is before first start led.0 led.1 gives.0, tt)
    cut_along moments is (Client action ∷ before) first start server led gives = cut_along moments is before first start server led gives
