-- One tree and the sessions in their slots: events follow one another, and a turn is one.
use Rattle.std.proofs.Common.{◌≡◌, ◌⊎◌, ◌∙◌, ℕ, zero, suc, ◌<◌, Option, Some, None, List, [], ◌∷◌, ◌++◌, map, length, slice_get, get_or, unwrap_or, arith, is_none, true, true≢false, position, refl, sym, ap, subst, inl, inr}
use Rattle.std.specs.Prelude.{slice_set}
use Rattle.std.proofs.lemmas.List.Quantifiers.{position-Some}
use Rattle.std.specs.Option.{option_map}
use Rattle.tool_scheduler.specs.declared.slot.TurnResult.{TurnResult}
use Rattle.tool_scheduler.specs.declared.slot.TurnResult.TheVariants as Results
use Rattle.tool_scheduler.specs.declared.table.TakenSlot.{TakenSlot}
use Rattle.tool_scheduler.specs.Sharing.{AreFree, AreHosts, Began, Frees, Happened, Happens, IsServed, Occupant, OnlyShared, Rules, Seated, Seats, Shared, SharedEvent, Turned, left_by, occupant_of, occupants_of, shared}

-- ---- lists

-- what stands at a place, set there again, changes nothing
pub set_again : {A : Type 0} → (xs : List A) (i : ℕ) (x : A) → slice_get xs i ≡ Some x → slice_set xs i x ≡ xs
set_again [] i x at = refl
set_again (y ∷ xs) zero x at = ap (λ z. z ∷ xs) (sym (ap (λ o. unwrap_or o y) at))
set_again (y ∷ xs) (suc i) x at = ap (λ zs. y ∷ zs) (set_again xs i x at)

-- of two settings of a place the second one stays
pub set_twice : {A : Type 0} → (xs : List A) (i : ℕ) (x y : A) → slice_set (slice_set xs i x) i y ≡ slice_set xs i y
set_twice [] i x y = refl
set_twice (z ∷ xs) zero x y = refl
set_twice (z ∷ xs) (suc i) x y = ap (λ zs. z ∷ zs) (set_twice xs i x y)

-- a place of the images is the image of that place
pub get_image : {A B : Type 0} → (f : A → B) (xs : List A) (i : ℕ) → slice_get (map f xs) i ≡ option_map f (slice_get xs i)
get_image f [] i = refl
get_image f (x ∷ xs) zero = refl
get_image f (x ∷ xs) (suc i) = get_image f xs i

-- the images after a place was set
pub set_image : {A B : Type 0} → (f : A → B) (xs : List A) (i : ℕ) (x : A) → map f (slice_set xs i x) ≡ slice_set (map f xs) i (f x)
set_image f [] i x = refl
set_image f (y ∷ xs) zero x = refl
set_image f (y ∷ xs) (suc i) x = ap (λ zs. f y ∷ zs) (set_image f xs i x)

-- a place within a list has what stands there
pub within_get : {A : Type 0} → (xs : List A) (i : ℕ) (d : A) → i < length xs → slice_get xs i ≡ Some (get_or xs i d)
within_get [] i d within = absurd (omega (arith, within))
within_get (x ∷ xs) zero d within = refl
within_get (x ∷ xs) (suc i) d within = within_get xs i d (omega (arith, within))

-- ---- a table of slots

-- a slot that had a session is freed
pub freed : {A : Type 0} → (place : ℕ) (was now : Option A) (old : List (Option A)) → slice_get old place ≡ Some was → now ≡ None
    → Frees place was old (slice_set old place now)
freed place (Some taken) now old at none = (at, ap (slice_set old place) none)
freed place None now old at none = ap (slice_set old place) none ∙ set_again old place None at

-- what is none is None
none_is : {A : Type 0} → (x : Option A) → is_none x ≡ true → x ≡ None
none_is None none = refl
none_is (Some x) none = absurd (true≢false (sym none))

-- a session takes the first free slot
pub seated : {S : Type 0} → (session : S) (taken : TakenSlot S) (old new : List (Option (TakenSlot S))) (place : ℕ) → position is_none old ≡ Some place
    → taken.session.value ≡ session → new ≡ slice_set old place (Some taken) → Seats session old new
seated session taken old new place first is set_so =
    let found = position-Some is_none old place None first in
    inr (place, taken, within_get old place None found.0 ∙ ap Some (none_is (get_or old place None) found.1), is, set_so)

-- a free slot more
pub free_more : {S : Type 0} → (slots : List (Option (TakenSlot S))) → AreFree (occupants_of slots) → AreFree (occupants_of (slots ++ None ∷ []))
free_more [] free zero session at = absurd (cc)
free_more [] free (suc place) session at = absurd (cc)
free_more (slot ∷ slots) free zero session at = free zero session at
free_more (slot ∷ slots) free (suc place) session at = free_more slots (λ place. free (suc place)) place session at

-- ---- events

-- nothing happened
pub shares_nothing : {T S : Type 0} → (rules : Rules T S) (at : Shared T S) → OnlyShared rules at at
shares_nothing rules at = record { events = []; happened = refl }

-- events, and then events
happened_then : {T S : Type 0} → (rules : Rules T S) (a b c : Shared T S) (first second : List SharedEvent)
    → Happened rules first a b → Happened rules second b c → Happened rules (second ++ first) a c
happened_then rules a b c first [] one two = subst (Happened rules first a) (sym two) one
happened_then rules a b c first (event ∷ second) one (between, earlier, last) =
    (between, happened_then rules a b between first second one earlier, last)

pub shares_then : {T S : Type 0} → (rules : Rules T S) (a b c : Shared T S)
    → OnlyShared rules a b → OnlyShared rules b c → OnlyShared rules a c
shares_then rules a b c one two =
    record { events = two.events ++ one.events; happened = happened_then rules a b c one.events two.events one.happened two.happened }

-- one event
shares_one : {T S : Type 0} → (rules : Rules T S) (event : SharedEvent) (a b : Shared T S)
    → Happens rules event a b → OnlyShared rules a b
shares_one rules event a b happens = record { events = event ∷ []; happened = (a, refl, happens) }

-- a round begins
pub shares_round : {T S : Type 0} → (rules : Rules T S) (old new : T) (hosts : List ℕ) (slots : List (Option (TakenSlot S)))
    → rules.begins hosts old new → AreHosts hosts (occupants_of slots) → OnlyShared rules (shared old slots) (shared new slots)
shares_round rules old new hosts slots began are = shares_one rules (Began hosts) (shared old slots) (shared new slots) (began, are, refl)

-- no slot is there, or it is free: nothing happened
pub shares_free : {T S : Type 0} → (rules : Rules T S) (tree : T) (place : ℕ)
    (result : Option (TakenSlot S)) (old new : List (Option (TakenSlot S))) → Frees place result old new → result ≡ None
    → OnlyShared rules (shared tree old) (shared tree new)
shares_free rules tree place (Some taken) old new frees none = absurd (cc)
shares_free rules tree place None old new frees none =
    record { events = []; happened = ap (shared tree) frees }

-- a turn after which the session is over
pub shares_over : {T S : Type 0} → (rules : Rules T S) (tree after : T) (place : ℕ) (taken : TakenSlot S) (result : TurnResult) (before session : S)
    (old new : List (Option (TakenSlot S))) → Frees place (Some taken) old new → before ≡ taken.session.value → rules.takes tree after result before session
    → result ≡ Results.Over → OnlyShared rules (shared tree old) (shared after new)
shares_over rules tree after place taken result before session old new frees was took over =
    shares_one rules (Turned place result) (shared tree old) (shared after new) (record {
      before = before;
      after = session;
      host = taken.host;
      sits = get_image (option_map occupant_of) old place ∙ ap (option_map (option_map occupant_of)) frees.0
          ∙ ap (λ s. Some (Some (record { session = s; host = taken.host }))) (sym was);
      took = took;
      left = ap occupants_of frees.1 ∙ set_image (option_map occupant_of) old place None
          ∙ ap (λ r. slice_set (occupants_of old) place (left_by r (record { session = session; host = taken.host }))) (sym over);
    })

-- what goes on stays in its slot
stays : {A : Type 0} → (result : TurnResult) (occupant : A) → (result ≡ Results.Later) ⊎ (result ≡ Results.More) → left_by result occupant ≡ Some occupant
stays result occupant (inl later) = ap (λ r. left_by r occupant) later
stays result occupant (inr more) = ap (λ r. left_by r occupant) more

-- a turn after which the session goes on
pub shares_on : {T S : Type 0} → (rules : Rules T S) (tree after : T) (place : ℕ) (taken now : TakenSlot S) (result : TurnResult) (before : S)
    (old freed new : List (Option (TakenSlot S))) → Frees place (Some taken) old freed → before ≡ taken.session.value
    → rules.takes tree after result before now.session.value → now.host ≡ taken.host → (result ≡ Results.Later) ⊎ (result ≡ Results.More)
    → new ≡ slice_set freed place (Some now) → OnlyShared rules (shared tree old) (shared after new)
shares_on {S = S} rules tree after place taken now result before old freed new frees was took same goes put =
    let occupant : Occupant S = record { session = now.session.value; host = taken.host } in
    shares_one rules (Turned place result) (shared tree old) (shared after new) (record {
      before = before;
      after = now.session.value;
      host = taken.host;
      sits = get_image (option_map occupant_of) old place ∙ ap (option_map (option_map occupant_of)) frees.0
          ∙ ap (λ s. Some (Some (record { session = s; host = taken.host }))) (sym was);
      took = took;
      left = ap occupants_of (put ∙ ap (λ xs. slice_set xs place (Some now)) frees.1 ∙ set_twice old place None (Some now))
          ∙ set_image (option_map occupant_of) old place (Some now)
          ∙ ap (λ host. slice_set (occupants_of old) place (Some (record { session = now.session.value; host = host }))) same
          ∙ ap (slice_set (occupants_of old) place) (sym (stays result occupant goes));
    })

-- a session that starts takes a free slot, or there is none
pub shares_seat : {T S : Type 0} → (rules : Rules T S) (tree : T) (session : S) (old new : List (Option (TakenSlot S))) → rules.starts session
    → Seats session old new → OnlyShared rules (shared tree old) (shared tree new)
shares_seat rules tree session old new starts (inl same) = record { events = []; happened = ap (shared tree) same }
shares_seat rules tree session old new starts (inr (place, taken, free, is, set_so)) =
    shares_one rules (Seated place) (shared tree old) (shared tree new) (record {
      occupant = occupant_of taken;
      started = subst rules.starts (sym is) starts;
      free = get_image (option_map occupant_of) old place ∙ ap (option_map (option_map occupant_of)) free;
      seated = ap (shared tree) set_so ∙ ap (λ slots. record { tree = tree; slots = slots }) (set_image (option_map occupant_of) old place (Some taken));
    })

-- from no session to those in a table
pub record IsServedSoFar {T S : Type 0} (rules : Rules T S) (old new : T) (slots : List (Option (TakenSlot S))) : Type 0 where
  pub first : List (Option (Occupant S))
  pub free : AreFree first
  pub only : OnlyShared rules (record { tree = old; slots = first }) (shared new slots)

-- before the first round
pub served_none : {T S : Type 0} → (rules : Rules T S) (tree : T) (slots : List (Option (TakenSlot S)))
    → AreFree (occupants_of slots) → IsServedSoFar rules tree tree slots
served_none rules tree slots free =
    record { first = occupants_of slots; free = free; only = shares_nothing rules (shared tree slots) }

-- one round more
pub served_more : {T S : Type 0} → (rules : Rules T S) (old mid new : T) (slots then : List (Option (TakenSlot S)))
    → IsServedSoFar rules old mid slots → OnlyShared rules (shared mid slots) (shared new then) → IsServedSoFar rules old new then
served_more rules old mid new slots then so_far more =
    record { first = so_far.first; free = so_far.free; only = shares_then rules _ _ _ so_far.only more }

-- after the last one
pub served_all : {T S : Type 0} → (rules : Rules T S) (old new : T) (slots : List (Option (TakenSlot S)))
    → IsServedSoFar rules old new slots → IsServed rules old new
served_all rules old new slots so_far =
    record { first = so_far.first; free = so_far.free; last = occupants_of slots; only = so_far.only }

-- nobody was served
pub served_nobody : {T S : Type 0} → (rules : Rules T S) (tree : T) → IsServed rules tree tree
served_nobody rules tree =
    record { first = []; free = λ place session at. absurd (cc); last = []; only = shares_nothing rules _ }
