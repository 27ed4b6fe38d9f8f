-- The turns of a session among others that leave the tree as they find it.
use Rattle.std.proofs.Common.{◌≡◌, ◌≢◌, ◌⊎◌, ◌∙◌, inl, inr, ℕ, Bool, true, false, eqb, List, [], ◌∷◌, Option, Some}
use Rattle.std.proofs.Common.{refl, sym, ap, subst, slice_get, slice_set}
use Rattle.std.specs.Prelude.{if◌then◌else◌}
use Rattle.std.specs.Option.{unwrap_or}
use Rattle.std.proofs.lemmas.Bool.Decides.{eqb_tells}
use Rattle.ftp_ports.specs.Actions.{Stand}
use Rattle.ftp_server_driver.specs.alone.Side.{server_side}
use Rattle.laws_server.proofs.several.SlotLemmas.{get-set_other, get-set_same}
use Rattle.ftp_server_driver.specs.shared.Lending.{Holding}
use Rattle.ftp_server_driver.specs.shared.Sharing.{SharingEvent, SharingHappened, Looks, Shared, Turns, TurnsIn, turns_in}
use Rattle.ftp_server_driver.specs.shared.Turning.{AreTurns, Turn, told_by}
use Rattle.laws_sessions.specs.served.Alone.{AreLeftAlone, EachIsLeftAlone, FindWhatWasLeft, LeavesIt, OthersLeaveIt, lent_first, part_at, whole_holding}

module _ {X : Type 0} (part : Holding → X) (slot : ℕ) where
  -- so far: who sits in the slot took these turns since, each of which finds what the one before it left; whoever finds what stands finds it, too
  record Sits (turns : List Turn) (first : Stand server_side) (start now : Shared) : Type 0 where
    last : Stand server_side
    sits : slice_get now.slots slot ≡ Some last
    are : AreTurns turns first last
    found : (turn : Turn) → part turn.lent ≡ part now.tree → FindWhatWasLeft part (turn ∷ turns) × (part (lent_first turn turns) ≡ part start.tree)

  -- it takes a turn more
  same_slot : (other : ℕ) (turn : Turn) (turns : List Turn) (first : Stand server_side) (start mid now : Shared) → other ≡ slot
      → turn.stood ≡ told_by turns → Sits turns first start mid → TurnsIn other turn mid now → Sits (turn ∷ turns) first start now
  same_slot other turn turns first start mid now same told so turned =
      let at : slice_get mid.slots slot ≡ Some turned.before = ap (slice_get mid.slots) (sym same) ∙ turned.sits in
      let is : so.last ≡ turned.before = ap (λ (found : Option (Stand server_side)). unwrap_or found so.last) (sym so.sits ∙ at) in
      let this = so.found turn (ap part turned.found) in
      record {
        last = turned.after;
        sits = ap (λ (slots : List (Stand server_side)). slice_get slots slot) turned.others
            ∙ ap (λ n. slice_get (slice_set mid.slots n turned.after) slot) same
            ∙ get-set_same mid.slots slot turned.before turned.after at;
        are = (turned.before, subst (λ (s : Stand server_side). AreTurns turns first s) is so.are, turned.takes, told);
        found = λ next lent. ((this.0, lent ∙ ap part turned.left), this.1);
      }

  -- another one does, and leaves the tree as it is
  other_slot : (other : ℕ) (turn : Turn) (turns : List Turn) (first : Stand server_side) (start mid now : Shared) → other ≢ slot
      → part turn.left ≡ part turn.lent → Sits turns first start mid → TurnsIn other turn mid now → Sits turns first start now
  other_slot other turn turns first start mid now differ leaves so turned = record {
    last = so.last;
    sits = ap (λ (slots : List (Stand server_side)). slice_get slots slot) turned.others ∙ get-set_other mid.slots other slot turned.after differ ∙ so.sits;
    are = so.are;
    found = λ next lent. so.found next (lent ∙ ap part turned.left ∙ leaves ∙ ap part turned.found);
  }

  -- one of both
  either_slot : (other : ℕ) (turn : Turn) (turns : List Turn) (first : Stand server_side) (start mid now : Shared) → LeavesIt part slot (Turns other turn) mid
      → (other ≡ slot → turn.stood ≡ told_by turns) → Sits turns first start mid → TurnsIn other turn mid now
      → ((eqb other slot ≡ true) × (other ≡ slot)) ⊎ ((eqb other slot ≡ false) × (other ≢ slot))
      → Sits (if eqb other slot then turn ∷ turns else turns) first start now
  either_slot other turn turns first start mid now leaves told so turned (inl same) =
      subst (λ (b : Bool). Sits (if b then turn ∷ turns else turns) first start now) (sym same.0)
      (same_slot other turn turns first start mid now same.1 (told same.1) so turned)
  either_slot other turn turns first start mid now leaves told so turned (inr differ) =
      subst (λ (b : Bool). Sits (if b then turn ∷ turns else turns) first start now) (sym differ.0)
      (other_slot other turn turns first start mid now differ.1 (leaves differ.0) so turned)

  -- all events
  all_sit : (events : List SharingEvent) (start now : Shared) (first : Stand server_side) → (happened : SharingHappened events start now)
      → OthersLeaveIt part slot events start now happened → slice_get start.slots slot ≡ Some first → Sits (turns_in slot events) first start now
  all_sit [] start now first happened leave at = record {
    last = first;
    sits = ap (λ (s : Shared). slice_get s.slots slot) happened ∙ at;
    are = refl;
    found = λ turn lent. (tt, lent ∙ ap (λ (s : Shared). part s.tree) happened);
  }
  all_sit (Looks tree ∷ before) start now first happened leave at =
      let so = all_sit before start happened.0 first happened.1 leave.0 at in
      record {
        last = so.last;
        sits = ap (λ (s : Shared). slice_get s.slots slot) happened.2 ∙ so.sits;
        are = so.are;
        found = λ turn lent. so.found turn (lent ∙ ap (λ (s : Shared). part s.tree) happened.2 ∙ leave.1);
      }
  all_sit (Turns other turn ∷ before) start now first happened leave at =
      let so = all_sit before start happened.0 first happened.1 leave.0 at in
      either_slot other turn (turns_in slot before) first start happened.0 now leave.1
      (λ (same : other ≡ slot). happened.3 ∙ ap (λ n. told_by (turns_in n before)) same) so happened.2 (eqb_tells other slot)

-- so its turns follow one another
are_left_alone : {X : Type 0} (part : Holding → X) → AreLeftAlone part
are_left_alone part events start now slot first turn before happened leave at is =
    let so : Sits part slot (turn ∷ before) first start now =
    subst (λ (turns : List Turn). Sits part slot turns first start now) is (all_sit part slot events start now first happened leave at) in
    let found = so.found (record turn { lent = now.tree }) refl in
    record { last = so.last; sits = so.sits; are = so.are; found = found.0.0; lent = found.1; left = found.0.1 }

pub each_is_left_alone : EachIsLeftAlone
each_is_left_alone = (are_left_alone whole_holding, λ root. are_left_alone (part_at root))
