-- Orders in which a client is told just of the breaks that the server's resets are: in them each action can happen.
use Rattle.std.proofs.Common.{◌≡◌, inl, inr, ℕ, List, [], ◌∷◌, ◌++◌, length, refl, sym, ap, subst, ◌∙◌}
use Rattle.std.specs.Prelude.{⊤}
use Rattle.ftp_ports.specs.Asking.{Asked, Came, Connected, Ended as EndedBy, NotCame, NotConnected, Reset}
use Rattle.ftp_ports.specs.Actions.{Action, Other}
use Rattle.ftp_ports.specs.Machine.{Break, Held, Left, Opened, Refused}
use Rattle.ftp_client_driver.specs.Side.{Begun, client_side}
use Rattle.ftp_client_model.specs.Failing.{Client as NearEnd}
use Rattle.ftp_operation.specs.Answer.{Said}
use Rattle.ftp_operation.specs.declared.op.Op.{Op}
use Rattle.laws_drivers.specs.control.Between.{Between, Can, Client, Far, Happened, Has, IsOver, Near, Server, Turn, nothing_yet}
use Rattle.laws_drivers.specs.control.Touches.{ToldBreak, had_by, touch_of_leaving, touch_in}
use Rattle.laws_transfers.specs.Actions.{AreResets}
use Rattle.ftp_server_driver.specs.alone.Side.{Timed}
use Rattle.ftp_pair_memory.specs.streams.Order.{CanGo, Went}
use Rattle.ftp_pair_memory.specs.steps.Taking.{Answered, Ends, by_client}
use Rattle.laws_sessions.specs.passive.Kinds.{AnsweredSo, AreAnsweredSo, BreaksAreResets, Kind}
use Rattle.laws_sessions.specs.passive.Laws.{IsUnbroken}
use Rattle.laws_sessions.specs.passive.Sessions.{AreAsked, actions_of, turns_of_both}
use Rattle.laws_sessions.proofs.passive.Gathering.{turns_with}
use Rattle.laws_sessions.proofs.passive.Happening.{can}

-- such an order
abbrev pub Resets : (turns : List Turn) (first now : Between) → Type 0
Resets turns first now = (went : Went turns first now) × BreaksAreResets turns first now went

-- one after another is one
pub resets_then : (later before : List Turn) (first mid now : Between) → Resets later mid now → Resets before first mid → Resets (later ++ before) first now
resets_then [] before first mid now second went = subst (λ n. Resets before first n) (sym second.0) went
resets_then (Client (Other Break) ∷ later) before first mid now second went =
    let rest = resets_then later before first mid second.0.0 (second.0.1, second.1.0) went in
    ((second.0.0, rest.0, second.0.2), (rest.1, second.1.1, second.1.2))
resets_then (turn ∷ later) before first mid now second went =
    let rest = resets_then later before first mid second.0.0 (second.0.1, second.1) went in ((second.0.0, rest.0, second.0.2), rest.1)

-- what can happen after an operation was begun is one
pub resets_of : (later : List Turn) (op : Op (List ℕ)) (now : Between) (happened : Happened (later ++ Client (Other (Begun op)) ∷ []) now)
    → AreResets (later ++ Client (Other (Begun op)) ∷ []) now happened → Resets later nothing_yet now
resets_of [] op now happened resets = (happened.2 ∙ happened.1, tt)
resets_of (Client (Other Break) ∷ rest) op now happened resets =
    let before = resets_of rest op happened.0 happened.1 resets.0 in
    ((happened.0, before.0, inl happened.2), (before.1, happened.2.0, resets.1))
resets_of (Server action ∷ rest) op now happened resets =
    let before = resets_of rest op happened.0 happened.1 resets in ((happened.0, before.0, inl happened.2), before.1)
resets_of (Client action ∷ rest) op now happened resets =
    let before = resets_of rest op happened.0 happened.1 resets in ((happened.0, before.0, inl happened.2), before.1)

-- ---- what is no break

-- having a data connection, or none, tells none
pub had_unbroken : (asked : List Asked) → IsUnbroken (had_by asked)
had_unbroken (Came host left written ∷ []) = tt
had_unbroken (Connected endpoint left written ∷ []) = tt
had_unbroken (NotCame ∷ []) = tt
had_unbroken (NotConnected endpoint ∷ []) = tt
had_unbroken asked = tt

-- nor does leaving one
pub left_unbroken : (asked : Asked) → IsUnbroken (touch_of_leaving asked)
left_unbroken (EndedBy left written) = tt
left_unbroken (Reset left written) = tt
left_unbroken asked = tt

-- nor does any other action
abbrev IsOther : Action client_side → Type 0
IsOther (Other Break) = ⊥
IsOther action = ⊤

other_unbroken : (action : Action client_side) → IsOther action → IsUnbroken (touch_in action)
other_unbroken (Other Break) is = absurd is
other_unbroken (Other (Opened host asked at_first so_far rest)) is = had_unbroken asked
other_unbroken (Other (Refused asked)) is = had_unbroken asked
other_unbroken (Other (Left asked)) is = left_unbroken asked
other_unbroken action is = tt

-- ---- it can happen

-- the server is told of no break
abbrev pub ServerIsUnbroken : List Turn → Type 0
ServerIsUnbroken [] = ⊤
ServerIsUnbroken (Server action ∷ before) = ServerIsUnbroken before × IsUnbroken (touch_in action)
ServerIsUnbroken (Client action ∷ before) = ServerIsUnbroken before

-- then each action can happen, and the client is told just of resets
abbrev pub HappenedByResets : (turns : List Turn) (now : Between) → Type 0
HappenedByResets turns now = (happened : Happened turns now) × AreResets turns now happened

-- who has a data connection is told of its break
breaks : (old new : Between) → CanGo Near ToldBreak old new → old.near ≡ Has → Can Near ToldBreak old new
breaks old new (inl is) has = is
breaks old new (inr none) has = absurd (subst IsOver has none.1)

pub resets_happen : (turns : List Turn) (now : Between) → Resets turns nothing_yet now → ServerIsUnbroken turns → HappenedByResets turns now
resets_happen [] now went unbroken = (went.0, tt)
resets_happen (Server action ∷ before) now went unbroken =
    let rest = resets_happen before went.0.0 (went.0.1, went.1) unbroken.0 in
    ((went.0.0, rest.0, can Far (touch_in action) went.0.0 now went.0.2 unbroken.1), rest.1)
resets_happen (Client (Other Break) ∷ before) now went unbroken =
    let rest = resets_happen before went.0.0 (went.0.1, went.1.0) unbroken in
    ((went.0.0, rest.0, breaks went.0.0 now went.0.2 went.1.1), (rest.1, went.1.2))
resets_happen (Client action ∷ before) now went unbroken =
    let rest = resets_happen before went.0.0 (went.0.1, went.1) unbroken in
    ((went.0.0, rest.0, can Near (touch_in action) went.0.0 now went.0.2 (other_unbroken action tt)), rest.1)

-- ---- sessions

module _ (kind : Kind) (KeepsServer : (old new : Held Timed) → Type 0) (KeepsClient : (old new : Held NearEnd) → Type 0) where
  module _ (moment : ℕ) (op : Op (List ℕ)) (answer : Said) (before : List Turn) (mid now : Ends) (a : Answered op answer mid now)
      (by : AnsweredSo kind KeepsServer KeepsClient moment a) where
    with_resets : (start : Between) → Resets before start mid.between → Resets (turns_with op answer before mid now a) start now.between
    with_resets start went =
        let took = a.settled.took in
        let answers = a.settled.answers in
        let first : List Turn = Client (Other (Begun op)) ∷ before in
        let begun : Resets first start mid.between = ((mid.between, went.0, inl refl), went.1) in
        resets_then (by_client (actions_of answers)) (took.turns ++ first) start a.settled.mid.between now.between (answers.went, by.last_resets)
        (resets_then took.turns first start mid.between a.settled.mid.between (took.went, by.resets) begun)

  -- so it is of a session
  pub session_resets : (moments : ℕ → ℕ) (asked : List (Op (List ℕ) × Said)) (start now : Ends) (are : AreAsked asked start now)
      → AreAnsweredSo kind KeepsServer KeepsClient moments asked start now are → Resets (turns_of_both asked start now are) start.between now.between
  session_resets moments [] start now are by = (ap (λ (e : Ends). e.between) are, tt)
  session_resets moments (asked ∷ before) start now are by =
      with_resets (moments (length before)) asked.0 asked.1 (turns_of_both before start are.0 are.1) are.0 now are.2 by.1 start.between
      (session_resets moments before start are.0 are.1 by.0)
