-- The turns of each of several sessions follow one another.
use Rattle.std.proofs.Common.{◌≡◌, ◌≢◌, ◌⊎◌, ◌∙◌, inl, inr, ℕ, Bool, true, false, eqb, List, [], ◌∷◌, Option, Some}
use Rattle.std.proofs.Common.{refl, sym, ap, subst, slice_get, slice_set}
use Rattle.std.specs.Prelude.{if◌then◌else◌}
use Rattle.std.specs.Option.{unwrap_or}
use Rattle.std.proofs.lemmas.Bool.Decides.{eqb_tells}
use Rattle.ftp_ports.specs.Actions.{Stand}
use Rattle.ftp_server_driver.specs.alone.Side.{server_side}
use Rattle.laws_server.proofs.several.SlotLemmas.{get-set_other, get-set_same}
use Rattle.ftp_server_driver.proofs.shared.Whole.{one_drive}
use Rattle.ftp_server_driver.specs.shared.Sharing.{EachIsOneDrive, SharingEvent, SharingHappened, Looks, Shared, Turns, TurnsIn, turns_in}
use Rattle.ftp_server_driver.specs.shared.Turning.{AreTurns, Turn, told_by}

-- who sits in a slot, and took these turns since
Sits : ℕ → List Turn → Stand server_side → Shared → Type 0
Sits slot turns first now = (last : Stand server_side) × (slice_get now.slots slot ≡ Some last) × AreTurns turns first last

-- a turn more, of the same session
same_slot : (slot other : ℕ) (turn : Turn) (turns : List Turn) (first : Stand server_side) (mid now : Shared) → other ≡ slot
    → turn.stood ≡ told_by turns → Sits slot turns first mid → TurnsIn other turn mid now → Sits slot (turn ∷ turns) first now
unfolding Sits
same_slot slot other turn turns first mid now same told sits turned =
    let at : slice_get mid.slots slot ≡ Some turned.before = ap (slice_get mid.slots) (sym same) ∙ turned.sits in
    let is : sits.0 ≡ turned.before = ap (λ (found : Option (Stand server_side)). unwrap_or found sits.0) (sym sits.1 ∙ at) in (
      turned.after,
      ap (λ (slots : List (Stand server_side)). slice_get slots slot) turned.others
          ∙ ap (λ n. slice_get (slice_set mid.slots n turned.after) slot) same
          ∙ get-set_same mid.slots slot turned.before turned.after at,
      (turned.before, subst (λ (s : Stand server_side). AreTurns turns first s) is sits.2, turned.takes, told),
    )

-- or of another one
other_slot : (slot other : ℕ) (turn : Turn) (turns : List Turn) (first : Stand server_side) (mid now : Shared) → other ≢ slot → Sits slot turns first mid
    → TurnsIn other turn mid now → Sits slot turns first now
unfolding Sits
other_slot slot other turn turns first mid now differ sits turned = (
  sits.0,
  ap (λ (slots : List (Stand server_side)). slice_get slots slot) turned.others ∙ get-set_other mid.slots other slot turned.after differ ∙ sits.1,
  sits.2,
)

-- a turn more, whosever it is
either_slot : (slot other : ℕ) (turn : Turn) (turns : List Turn) (first : Stand server_side) (mid now : Shared) → (other ≡ slot → turn.stood ≡ told_by turns)
    → Sits slot turns first mid → TurnsIn other turn mid now → ((eqb other slot ≡ true) × (other ≡ slot)) ⊎ ((eqb other slot ≡ false) × (other ≢ slot))
    → Sits slot (if eqb other slot then turn ∷ turns else turns) first now
either_slot slot other turn turns first mid now told sits turned (inl same) =
    subst (λ (b : Bool). Sits slot (if b then turn ∷ turns else turns) first now) (sym same.0)
    (same_slot slot other turn turns first mid now same.1 (told same.1) sits turned)
either_slot slot other turn turns first mid now told sits turned (inr differ) =
    subst (λ (b : Bool). Sits slot (if b then turn ∷ turns else turns) first now) (sym differ.0)
    (other_slot slot other turn turns first mid now differ.1 sits turned)

-- each session took its turns one after another
sits : (events : List SharingEvent) (start now : Shared) (slot : ℕ) (first : Stand server_side) → SharingHappened events start now → slice_get start.slots slot ≡ Some first
    → Sits slot (turns_in slot events) first now
unfolding Sits
sits [] start now slot first happened at = (first, ap (λ (s : Shared). slice_get s.slots slot) happened ∙ at, refl)
sits (Looks tree ∷ before) start now slot first happened at =
    let one = sits before start happened.0 slot first happened.1 at in
    (one.0, ap (λ (s : Shared). slice_get s.slots slot) happened.2 ∙ one.1, one.2)
sits (Turns other turn ∷ before) start now slot first happened at =
    let one = sits before start happened.0 slot first happened.1 at in
    either_slot slot other turn (turns_in slot before) first happened.0 now
    (λ (same : other ≡ slot). happened.3 ∙ ap (λ n. told_by (turns_in n before)) same) one happened.2 (eqb_tells other slot)

-- so they are one drive
pub each_is_one_drive : EachIsOneDrive
unfolding Sits
each_is_one_drive events start now slot first turn before happened at unwritten untold are on =
    let all : Sits slot (turn ∷ before) first now =
    subst (λ (turns : List Turn). Sits slot turns first now) are (sits events start now slot first happened at) in
    (all.0, all.1, one_drive turn before first all.0 unwritten untold on all.2)
