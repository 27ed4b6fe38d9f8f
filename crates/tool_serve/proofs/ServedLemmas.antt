-- The turns of a session that is served follow one another, from the one after its start on.
use Rattle.std.proofs.Common.{◌≡◌, ◌≢◌, ◌⊎◌, ◌∙◌, ◌<◌, inl, inr, ℕ, Bool, true, false, true≢false, eqb, List, [], ◌∷◌, Option, Some, None, refl, sym, ap, subst, slice_get, slice_set}
use Rattle.std.specs.Option.{unwrap_or}
use Rattle.std.specs.Prelude.{⊤}
use Rattle.std.specs.declared.result.Result.{Result}
use Rattle.std.specs.declared.result.Result.TheVariants.{Ok, Err}
use Rattle.std.proofs.lemmas.Bool.Decides.{eqb_tells}
use Rattle.ftp_driver.specs.declared.drive.Turned.{Turned as DriveTurned}
use Rattle.ftp_driver.specs.declared.drive.Turned.TheVariants as Turns
use Rattle.ftp_ports.specs.Actions.{Stand}
use Rattle.ftp_ports.specs.declared.cause.Cause.{Cause}
use Rattle.ftp_server_driver.specs.alone.Side.{server_side}
use Rattle.ftp_server_driver.specs.shared.Lending.{Holding}
use Rattle.ftp_server_driver.specs.shared.Turning.{AllGoOn, AreTurns, TakesTurn, Turn, goes_on, told_by}
use Rattle.ftp_server_driver.proofs.shared.Whole.{one_drive}
use Rattle.ftp_server_model.specs.declared.session.Standing.{Standing}
use Rattle.laws_server.proofs.several.SlotLemmas.{get-set_other, get-set_same}
use Rattle.tool_scheduler.specs.Sharing.{AreFree, Began, Happened, Happens, Occupant, Seated, SeatsIn, Shared, SharedEvent, Turned, TurnsIn, left_by}
use Rattle.tool_scheduler.specs.declared.slot.TurnResult.{TurnResult}
use Rattle.tool_scheduler.specs.declared.slot.TurnResult.TheVariants as Results
use Rattle.tool_serve.specs.Served.{EachServedIsOneDrive, IsTurnOfOneDrive, Starts, served_rules}
use Rattle.tool_serve.specs.Sharing.{ended_by}

-- whoever is left in its slot goes on
on_by : {A : Type 0} → (result : TurnResult) (was now : A) → left_by result was ≡ Some now → (result ≡ Results.Over → ⊥)
on_by Results.Over was now left over = absurd (cc)
on_by Results.Later was now left over = absurd (cc)
on_by Results.More was now left over = absurd (cc)

-- and so does its drive
goes_by : (result : TurnResult) (went : Result (DriveTurned ⊤) Cause) → result ≡ ended_by went → (result ≡ Results.Over → ⊥) → goes_on went ≡ true
goes_by result (Ok Turns.Later) ends on = refl
goes_by result (Ok Turns.More) ends on = refl
goes_by result (Ok (Turns.Over over)) ends on = absurd (on ends)
goes_by result (Err cause) ends on = absurd (on ends)

-- who is left is who was there
left_is : {A : Type 0} → (result : TurnResult) (was now : A) → left_by result was ≡ Some now → was ≡ now
left_is Results.Over was now left = absurd (cc)
left_is Results.Later was now left = ap (λ o. unwrap_or o was) left
left_is Results.More was now left = ap (λ o. unwrap_or o was) left

-- what sits in a slot is one thing
one_sits : {A : Type 0} → (slot : Option (Option A)) (a b : A) → slot ≡ Some (Some a) → slot ≡ Some (Some b) → a ≡ b
one_sits {A = A} slot a b first second = ap (λ (o : Option (Option A)). unwrap_or (unwrap_or o None) a) (sym first ∙ second)

module _ {T S : Type 0} (holds : T → Holding) (stood : S → Option Standing) (stand : S → Stand server_side) where
  -- a session sits in a slot, which started and had these turns
  record SitsSince (place : ℕ) (now : Shared T S) : Type 0 where
    first : S
    starts : Starts (stood first) (stand first)
    turns : List Turn
    last : S
    host : ℕ
    sits : slice_get now.slots place ≡ Some (Some (record { session = last; host = host }))
    had : AreTurns turns (stand first) (stand last)
    on : AllGoOn turns
    told : stood last ≡ told_by turns

  -- in a slot that stays so it sits still
  stays : (place : ℕ) (old new : Shared T S) → slice_get new.slots place ≡ slice_get old.slots place → SitsSince place old → SitsSince place new
  stays place old new same s = record {
    first = s.first;
    starts = s.starts;
    turns = s.turns;
    last = s.last;
    host = s.host;
    sits = same ∙ s.sits;
    had = s.had;
    on = s.on;
    told = s.told;
  }

  -- it has a turn, and is left in its slot
  turns_on : (place : ℕ) (result : TurnResult) (old new : Shared T S) (occupant : Occupant S) → SitsSince place old
      → TurnsIn (served_rules holds stood stand).takes place result old new
      → slice_get new.slots place ≡ Some (Some occupant) → SitsSince place new
  turns_on place result old new occupant s turned at =
      let after : Occupant S = record { session = turned.after; host = turned.host } in
      let set : slice_get new.slots place ≡ Some (left_by result after) =
      ap (λ slots. slice_get slots place) turned.left ∙ get-set_same old.slots place _ _ turned.sits in
      let left : left_by result after ≡ Some occupant = ap (λ o. unwrap_or o None) (sym set ∙ at) in
      let is : s.last ≡ turned.before = ap (λ (occupant : Occupant S). occupant.session) (one_sits _ _ _ s.sits turned.sits) in
      record {
        first = s.first;
        starts = s.starts;
        turns = turned.took.turn ∷ s.turns;
        last = turned.after;
        host = turned.host;
        sits = at ∙ ap (λ o. Some (Some o)) (sym (left_is result after occupant left));
        had = (
          stand s.last,
          s.had,
          subst (λ was. TakesTurn turned.took.turn (stand was) (stand turned.after)) (sym is) turned.took.takes,
          turned.took.was_told ∙ ap stood (sym is) ∙ s.told,
        );
        on = (s.on, goes_by result turned.took.turn.went turned.took.ends (on_by result after occupant left));
        told = sym turned.took.tells;
      }

  -- whoever sits in a slot started there, and had turns since
  sits_since : (events : List SharedEvent) (first now : Shared T S) (place : ℕ) (occupant : Occupant S) → AreFree first.slots
      → Happened (served_rules holds stood stand) events first now → slice_get now.slots place ≡ Some (Some occupant) → SitsSince place now
  sits_since [] first now place occupant free happened at = absurd (free place occupant (ap (λ s. slice_get s.slots place) (sym happened) ∙ at))
  sits_since (Began hosts ∷ before) first now place occupant free (between, earlier, begun) at =
      let same : slice_get now.slots place ≡ slice_get between.slots place = ap (λ slots. slice_get slots place) begun.2 in
      stays place between now same (sits_since before first between place occupant free earlier (sym same ∙ at))
  sits_since (Turned other result ∷ before) first now place occupant free (between, earlier, turned) at = elim (eqb_tells other place) [
    | inl is ↦
        let here : TurnsIn (served_rules holds stood stand).takes place result between now =
        subst (λ p. TurnsIn (served_rules holds stood stand).takes p result between now) is.1 turned in
        turns_on place result between now occupant (sits_since before first between place _ free earlier here.sits) here at
    | inr differ ↦
        let same : slice_get now.slots place ≡ slice_get between.slots place =
        ap (λ slots. slice_get slots place) turned.left ∙ get-set_other between.slots other place _ differ.1 in
        stays place between now same (sits_since before first between place occupant free earlier (sym same ∙ at))
  ]
  sits_since (Seated other ∷ before) first now place occupant free (between, earlier, seats) at = elim (eqb_tells other place) [
    | inl is ↦
        let here : SeatsIn (served_rules holds stood stand).starts place between now =
        subst (λ p. SeatsIn (served_rules holds stood stand).starts p between now) is.1 seats in
        record {
          first = here.occupant.session;
          starts = here.started;
          turns = [];
          last = here.occupant.session;
          host = here.occupant.host;
          sits = ap (λ s. slice_get s.slots place) here.seated ∙ get-set_same between.slots place _ _ here.free;
          had = refl;
          on = tt;
          told = here.started.told;
        }
    | inr differ ↦
        let same : slice_get now.slots place ≡ slice_get between.slots place =
        ap (λ s. slice_get s.slots place) seats.seated ∙ get-set_other between.slots other place _ differ.1 in
        stays place between now same (sits_since before first between place occupant free earlier (sym same ∙ at))
  ]

  -- so each turn is the last one of one drive
  pub each_served : EachServedIsOneDrive holds stood stand
  each_served events first old new place result free happened turned =
      let s = sits_since events first old place _ free happened turned.sits in
      let is : s.last ≡ turned.before = ap (λ (occupant : Occupant S). occupant.session) (one_sits _ _ _ s.sits turned.sits) in
      record {
        first = s.first;
        starts = s.starts;
        turn = turned.took.turn;
        before = s.turns;
        last = turned.after;
        host = turned.host;
        drives = one_drive turned.took.turn s.turns (stand s.first) (stand turned.after) s.starts.unwritten s.starts.untold s.on (
          stand s.last,
          s.had,
          subst (λ was. TakesTurn turned.took.turn (stand was) (stand turned.after)) (sym is) turned.took.takes,
          turned.took.was_told ∙ ap stood (sym is) ∙ s.told,
        );
        lent = turned.took.lends;
        left = turned.took.leaves;
        stays = turned.left;
      }
