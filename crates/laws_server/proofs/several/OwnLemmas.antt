-- Each session's part of a history is a play of its own.
use Rattle.std.proofs.Common.{◌≡◌, ◌≢◌, ◌⊎◌, inl, inr, ℕ, Bool, true, false, eqb, List, [], ◌∷◌, Option, Some, None, refl, sym, ap, subst, ◌∙◌, slice_get, slice_set}
use Rattle.std.specs.Prelude.{if◌then◌else◌}
use Rattle.std.proofs.lemmas.Bool.Decides.{eqb_tells}
use Rattle.ftp_tree.specs.Tree.{Table}
use Rattle.ftp_server_model.specs.Machine.{Reading}
use Rattle.ftp_server_model.specs.Play.{Cue, Gift, call}
use Rattle.ftp_server_model.specs.View.{View}
use Rattle.laws_server.specs.several.Several.{EachIsServer, MapsFollow, Slot, Several, Turn, called, called_as, calls_of, given_to, lent_to, played_on, in_slot_again}
use Rattle.laws_server.proofs.several.SlotLemmas.{get-set_same, get-set_other}

-- whoever sits elsewhere stays
pub stays_in_slot : (read : Reading) (turn : Turn) (s : Several) (slot : ℕ) → turn.slot ≢ slot → slice_get (called read turn s).1.slots slot ≡ slice_get s.slots slot
stays_in_slot read turn s slot other = by (slice_get s.slots turn.slot)
  where
    by : (found : Option Slot) → slice_get (called_as read turn.slot turn.cue found s).1.slots slot ≡ slice_get s.slots slot
    by None = refl
    by (Some v) = get-set_other s.slots turn.slot slot (in_slot_again v.view.session.table (call read turn.cue (lent_to s.table v)).1) other

-- a turn of its own
own_turn : (read : Reading) (turn : Turn) (turns : List Turn) (s : Several) (slot : ℕ) (v : Slot) → turn.slot ≡ slot → slice_get s.slots turn.slot ≡ Some v
    → ((s : Several) (v : Slot) → slice_get s.slots slot ≡ Some v → given_to read slot turns s ≡ played_on read (calls_of read slot turns s) v)
    → (called read turn s).0 ∷ given_to read slot turns (called read turn s).1
    ≡ played_on read ((s.table, turn.cue) ∷ calls_of read slot turns (called read turn s).1) v
unfolding played_on
own_turn read turn turns s slot v same at rest =
    subst (λ (found : Option Slot). P (called_as read turn.slot turn.cue found s)) (sym at)
    (ap (λ (gifts : List Gift). one.0 ∷ gifts) (rest next left sits))
  where
    P : Gift × Several → Type 0
    P r = r.0 ∷ given_to read slot turns r.1 ≡ played_on read ((s.table, turn.cue) ∷ calls_of read slot turns r.1) v

    one : Gift × View
    one = call read turn.cue (lent_to s.table v)

    left : Slot
    left = in_slot_again v.view.session.table one.1

    next : Several
    next = record { table = one.1.session.table; slots = slice_set s.slots turn.slot left }

    sits : slice_get next.slots slot ≡ Some left
    sits = ap (slice_get next.slots) (sym same) ∙ get-set_same s.slots turn.slot v left at

pub each_is_server : EachIsServer
unfolding given_to calls_of played_on
each_is_server read [] s slot v at = refl
each_is_server read (turn ∷ turns) s slot v at = by (eqb_tells turn.slot slot) (λ s v at. each_is_server read turns s slot v at)
  where
    P : Bool → Type 0
    P b =
        (if b then (called read turn s).0 ∷ given_to read slot turns (called read turn s).1 else given_to read slot turns (called read turn s).1)
        ≡ played_on read (if b then (s.table, turn.cue) ∷ calls_of read slot turns (called read turn s).1 else calls_of read slot turns (called read turn s).1) v

    by : ((eqb turn.slot slot ≡ true) × (turn.slot ≡ slot)) ⊎ ((eqb turn.slot slot ≡ false) × (turn.slot ≢ slot))
        → ((s : Several) (v : Slot) → slice_get s.slots slot ≡ Some v → given_to read slot turns s ≡ played_on read (calls_of read slot turns s) v) → P (eqb turn.slot slot)
    by (inl is) rest = subst P (sym is.0) (own_turn read turn turns s slot v is.1 (ap (slice_get s.slots) is.1 ∙ at) rest)
    by (inr is) rest = subst P (sym is.0) (rest (called read turn s).1 v (stays_in_slot read turn s slot is.1 ∙ at))

pub maps_follow : MapsFollow
maps_follow read turn s v at =
    ap (λ (found : Option Slot). (called_as read turn.slot turn.cue found s).1.table) at
