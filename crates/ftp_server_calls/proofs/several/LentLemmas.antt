-- One call with a tree that is lent, and what it is among several sessions.
use Rattle.std.proofs.Common.{◌≡◌, ℕ, zero, suc, List, [], ◌∷◌, Option, Some, refl, sym, ap, subst, ◌∙◌, map, slice_get, slice_set, option_map}
use Rattle.std.specs.Option.{unwrap_or}
use Rattle.std.specs.Prelude.{IfOk, OnErr, Result, Ok, Err}
use Rattle.std.proofs.lemmas.Option.{slice_get-map}
use Rattle.ftp_tree.specs.Change.{Failures}
use Rattle.ftp_tree.specs.Tree.{Table}
use Rattle.ftp_server_model.specs.Failing.{Counts}
use Rattle.ftp_server_model.specs.Far.{Server}
use Rattle.ftp_server_model.specs.Machine.{IsReading, Reading}
use Rattle.ftp_server_model.specs.Play.{Cue, Gift, call}
use Rattle.ftp_server_model.specs.Standing.{standing_of}
use Rattle.ftp_server_model.specs.View.{View}
use Rattle.ftp_server_calls.proofs.one.CallLemmas.{makes_gives}
use Rattle.ftp_server_calls.specs.one.Making.{MakesOnCourse}
use Rattle.laws_server.proofs.several.SlotLemmas.{get-set_same}
use Rattle.laws_server.specs.several.Several.{Slot, Several, Turn, called_as, lent_to, in_slot_again}
use Rattle.laws_server.specs.several.Swapping.{lent, swapped}
use Rattle.ftp_server_calls.specs.several.Lent.{Lent, InSlot}
use Rattle.ftp_server_calls.specs.several.Slots.{GivesIn, Slots, SlotTurned, slot_of, several_of}

-- what holds of an outcome, where more is known of each
pub ok_goes : {X E : Type 0} → (P Q : X → Type 0) (r : Result X E) → ((x : X) → P x → Q x) → IfOk r P → IfOk r Q
ok_goes P Q (Ok x) goes is = goes x is
ok_goes P Q (Err e) goes is = is

pub err_both : {X E : Type 0} → (P Q R : Type 0) (r : Result X E) → (P → Q → R) → OnErr r P → OnErr r Q → OnErr r R
err_both P Q R (Ok x) goes one other = one
err_both P Q R (Err e) goes one other = goes one other

-- its own tree again
given_back : (old mid new : Server) (back : Table) (kept : Failures) → back ≡ old.view.session.table → kept ≡ old.counts.failures → new ≡ swapped back kept mid
    → new ≡ swapped old.view.session.table old.counts.failures mid
given_back old mid new back kept is_back is_kept is_new =
    is_new ∙ ap (λ (t : Table). swapped t kept mid) is_back ∙ ap (λ (f : Failures). swapped old.view.session.table f mid) is_kept

-- both exchanges, and a call between them
pub lends : (cue : Cue) (gift : Gift) (old new : InSlot) (first mid : Server) (table back left : Table) (failures kept failed : Failures)
    → first ≡ lent old.stood table failures old.server → MakesOnCourse cue gift first mid → back ≡ old.server.view.session.table
    → kept ≡ old.server.counts.failures → new.server ≡ swapped back kept mid → new.stood ≡ standing_of mid.view.session
    → left ≡ mid.view.session.table → failed ≡ mid.counts.failures → Lent cue gift old table failures new left failed
lends cue gift old new first mid table back left failures kept failed is_first makes is_back is_kept is_new is_stood is_left is_failed = record {
  mid = mid;
  makes = subst (λ (s : Server). MakesOnCourse cue gift s mid) is_first makes;
  own = λ i. record { server = given_back old.server mid new.server back kept is_back is_kept is_new i; stood = is_stood i };
  leaves = is_left;
  fails = is_failed;
}

map-set : {X Y : Type 0} → (f : X → Y) (xs : List X) (i : ℕ) (x : X) → map f (slice_set xs i x) ≡ slice_set (map f xs) i (f x)
map-set f [] i x = refl
map-set f (y ∷ ys) zero x = refl
map-set f (y ∷ ys) (suc i) x = ap (λ zs. f y ∷ zs) (map-set f ys i x)

-- a slot of a list that is seen through a function
pub slot-at : {X Y : Type 0} → (f : X → Y) (xs : List X) (i : ℕ) (x : X) → slice_get xs i ≡ Some x → slice_get (map f xs) i ≡ Some (f x)
slot-at f xs i x at = slice_get-map f xs i ∙ ap (option_map f) at

pub slot-set : {X Y : Type 0} → (f : X → Y) (xs ys : List X) (i : ℕ) (x : X) → ys ≡ slice_set xs i x → map f ys ≡ slice_set (map f xs) i (f x)
slot-set f xs ys i x is = ap (map f) is ∙ map-set f xs i x

-- a slot in which all is as it was
pub slot-same : {X Y : Type 0} → (f : X → Y) (xs : List X) (i : ℕ) (x y : X) → slice_get xs i ≡ Some x → f y ≡ f x → map f (slice_set xs i y) ≡ map f xs
slot-same f [] i x y at same = refl
slot-same f (z ∷ zs) zero x y at same = ap (λ w. w ∷ map f zs) (same ∙ ap (λ found. f (unwrap_or found x)) (sym at))
slot-same f (z ∷ zs) (suc i) x y at same = ap (λ ws. f z ∷ ws) (slot-same f zs i x y at same)

-- a call with a tree that is lent, in which nothing failed, is that of the definitions
pub lent_gives : (cue : Cue) (gift : Gift) (old new : InSlot) (table left : Table) (failures failed : Failures) → Lent cue gift old table failures new left failed
    → failed ≡ failures → new.server.counts.refusals ≡ old.server.counts.refusals → (read : Reading) → IsReading read
    → (◌≡◌ {A = Gift × Table} (gift, left) ((call read cue (lent_to table (slot_of old))).0, (call read cue (lent_to table (slot_of old))).1.session.table))
    × (slot_of new ≡ in_slot_again old.server.view.session.table (call read cue (lent_to table (slot_of old))).1)
lent_gives cue gift old new table left failures failed made calm steady read reading =
    let mid : Server = made.mid in
    let first : Server = lent old.stood table failures old.server in
    let counts : mid.counts ≡ first.counts =
    λ i. record { refusals = (ap (λ (s : InSlot). s.server.counts.refusals) (sym made.own) ∙ steady) i; failures = (sym made.fails ∙ calm) i } in
    let course = ap (λ (c : Counts). c.failures.strays) counts in
    let gave : ◌≡◌ {A = Gift × View} (gift, mid.view) (call read cue (lent_to table (slot_of old))) =
    makes_gives cue gift first mid (made.makes course) counts read reading in (
      λ i. ((gave i).0, (made.leaves ∙ ap (λ (r : Gift × View). r.1.session.table) gave) i),
      ap slot_of made.own ∙ ap (λ (r : Gift × View). in_slot_again old.server.view.session.table r.1) gave,
    )

-- among several sessions
pub turned_gives : (turn : Turn) (gift : Gift) (old new : Slots) → SlotTurned turn gift old new → GivesIn turn gift old new
turned_gives turn gift old new t = λ calm steady read reading.
    let refusals : InSlot → ℕ = λ s. s.server.counts.refusals in
    let one : Gift × View = call read turn.cue (lent_to old.table (slot_of t.before)) in
    let still : refusals t.after ≡ refusals t.before =
    ap (λ (found : Option ℕ). unwrap_or found 0)
    (sym (ap (λ (items : List InSlot). option_map refusals (slice_get items turn.slot)) t.left ∙ ap (option_map refusals) (get-set_same old.slots turn.slot t.before t.after t.sits))
    ∙ steady ∙ ap (option_map refusals) t.sits) in
    let l = lent_gives turn.cue gift t.before t.after old.table new.table old.failures new.failures t.lent calm still read reading in
    let found : slice_get (map slot_of old.slots) turn.slot ≡ Some (slot_of t.before) = slot-at slot_of old.slots turn.slot t.before t.sits in
    let slots : map slot_of new.slots ≡ slice_set (map slot_of old.slots) turn.slot (in_slot_again t.before.server.view.session.table one.1) =
    slot-set slot_of old.slots new.slots turn.slot t.after t.left ∙ ap (slice_set (map slot_of old.slots) turn.slot) l.1 in
    let here : ◌≡◌ {A = Gift × Several} (gift, several_of new) (called_as read turn.slot turn.cue (Some (slot_of t.before)) (several_of old)) =
    λ i. ((l.0 i).0, record { table = (l.0 i).1; slots = slots i }) in
    here ∙ sym (ap (λ (who : Option Slot). called_as read turn.slot turn.cue who (several_of old)) found)
