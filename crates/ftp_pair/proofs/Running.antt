-- One event after the other.
use Rattle.std.proofs.Common.{◌≡◌, ◌∙◌, ◌+◌, ◌<◌, ℕ, zero, suc, Bool, false, List, [], ◌∷◌, ◌++◌, map, take, length, get_or, refl, sym, ap, subst, arith, Ok, Err}
use Rattle.std.specs.Prelude.{OnErr}
use Rattle.std.proofs.lemmas.List.{map-append, take_more}
use Rattle.std.specs.declared.result.Result.{Result}
use Rattle.std.specs.Iterator.{Yields}
use Rattle.std.specs.Vec.Iter.{into_iter_items, into_iter_steps}
use Rattle.std.specs.declared.vec.IntoIter.{IntoIter}
use Rattle.ftp_server_model.specs.Machine.{Reading}
use Rattle.laws_world.specs.Agreement.{Leads, Order, begun_by_event}
use Rattle.laws_world.specs.Events.{Event, Happens, can_happen}
use Rattle.laws_world.specs.World.{World}
use Rattle.ftp_pair_events.specs.events.Shown.{Steps}
use Rattle.ftp_pair.specs.Session.{AreIdle, Seen, LeadsCalmly, LeadsPartly}

-- one event more
pub leads_last : (read : Reading) (given : List Event) (event : Event) (begun : List Order) (possible : Bool) (old mid new : World) → Leads read old given begun mid → Happens read event mid possible new
    → (all : List Order) × Leads read old (given ++ event ∷ []) all new
leads_last read [] event begun possible old mid new leads happens =
    (begun_by_event event possible ++ [], (possible, new, [], subst (λ w. Happens read event w possible new) leads.1 happens, refl, (refl, refl)))
leads_last read (one ∷ given) event begun possible old mid new leads happens =
    let rest = leads_last read given event leads.2 possible leads.1 mid new leads.5 happens in
    (begun_by_event one leads.0 ++ rest.0, (leads.0, leads.1, rest.0, leads.3, refl, rest.1))

-- no event leads from a world to itself
pub nothing_yet : (old : Seen) → LeadsCalmly [] old old
nothing_yet old calm = (calm, λ read reads. ([], (refl, refl)))

-- one event more, where nothing failed
pub one_more : (given : List Event) (event : Event) (possible : Bool) (old mid new : Seen) → LeadsCalmly given old mid
    → Steps mid.calm new.calm (λ read. Happens read event mid.world possible new.world) → LeadsCalmly (given ++ event ∷ []) old new
one_more given event possible old mid new leads steps calm =
    let step = steps calm in
    let so = leads step.0 in
    (so.0, λ read reads. let before = so.1 read reads in leads_last read given event before.0 possible old.world mid.world new.world before.1 (step.1 read reads))

-- the same of events by their names
pub one_more_of : {S : Type 0} (f : S → Event) (given : List S) (event : S) (possible : Bool) (old mid new : Seen) → LeadsCalmly (map f given) old mid
    → Steps mid.calm new.calm (λ read. Happens read (f event) mid.world possible new.world) → LeadsCalmly (map f (given ++ event ∷ [])) old new
one_more_of f given event possible old mid new leads steps =
    subst (λ l. LeadsCalmly l old new) (sym (map-append f given (event ∷ []))) (one_more (map f given) (f event) possible old mid new leads steps)

-- what the iterator of a vector has given is a front of its items
pub taken_front : {X A : Type 0} (s : IntoIter X A) (xs : List X) (t : IntoIter X A) → Yields into_iter_steps s xs t → into_iter_items s ≡ xs ++ into_iter_items t
taken_front s [] t y = ap into_iter_items y
taken_front s (x ∷ xs) t y = y.1.0 ∙ ap (λ ys. x ∷ ys) (taken_front y.0 xs t y.2)

-- the first of a list, and the next
pub front_more : {S : Type 0} (list : List S) (i : ℕ) (d next own : S) → i < length list → next ≡ get_or list i d → own ≡ next → take i list ++ own ∷ [] ≡ take (i + 1) list
front_more list i d next own inside is same = ap (λ one. take i list ++ one ∷ []) (same ∙ is) ∙ sym (take_more list i d inside)

-- the first events, and the next, which happened as a copy of its own
pub led_on : {S : Type 0} (f : S → Event) (events : List S) (i : ℕ) (d next own : S) (possible : Bool) (old mid new : Seen) → i < length events → next ≡ get_or events i d → own ≡ next
    → LeadsCalmly (map f (take i events)) old mid → Steps mid.calm new.calm (λ read. Happens read (f own) mid.world possible new.world)
    → LeadsCalmly (map f (take (i + 1) events)) old new
led_on f events i d next own possible old mid new inside is same leads steps =
    subst (λ l. LeadsCalmly (map f l) old new) (front_more events i d next own inside is same) (one_more_of f (take i events) own possible old mid new leads steps)

-- where none of these events is possible, one of them is not
idle_at : {S : Type 0} (f : S → Event) (events : List S) (i : ℕ) (d : S) (w : World) → i < length events → AreIdle (map f events) w → can_happen (f (get_or events i d)) w ≡ false
idle_at f [] i d w inside idle = absurd (omega (arith, inside))
idle_at f (event ∷ events) zero d w inside idle = idle.0
idle_at f (event ∷ events) (suc i) d w inside idle = idle_at f events i d w (omega (arith, inside)) idle.1

-- so nothing has changed after the next, which was tried as a copy of its own
pub idle_on : {S : Type 0} (f : S → Event) (events : List S) (i : ℕ) (d next own : S) (possible : Bool) (old mid new : Seen) → i < length events → next ≡ get_or events i d → own ≡ next
    → (AreIdle (map f events) old.world → (mid.world ≡ old.world) × (mid.calm ≡ old.calm)) → possible ≡ can_happen (f own) mid.world
    → (possible ≡ false → (new.world ≡ mid.world) × (new.calm ≡ mid.calm)) → AreIdle (map f events) old.world → (new.world ≡ old.world) × (new.calm ≡ old.calm)
idle_on f events i d next own possible old mid new inside is same so told idle all =
    let before = so all in
    let none : can_happen (f own) mid.world ≡ false =
    ap (λ e. can_happen (f e) mid.world) (same ∙ is) ∙ ap (can_happen (f (get_or events i d))) before.0 ∙ idle_at f events i d old.world inside all in
    let after = idle (told ∙ none) in
    (after.0 ∙ before.0, after.1 ∙ before.1)

-- the names of a front are the front of the names
take_front : {S R : Type 0} (f : S → R) (front rest : List S) → take (length front) (map f (front ++ rest)) ≡ map f front
take_front f [] rest = refl
take_front f (one ∷ front) rest = ap (λ l. f one ∷ l) (take_front f front rest)

-- events that were a front of all
pub partly : {S : Type 0} (f : S → Event) (all front rest : List S) (old new : Seen) → all ≡ front ++ rest → LeadsCalmly (map f front) old new → LeadsPartly (map f all) old new
partly f all front rest old new is leads =
    (length front, subst (λ l. LeadsCalmly l old new) (sym (ap (λ l. take (length front) (map f l)) is ∙ take_front f front rest)) leads)

-- what holds anyway holds of an error
pub on_err : {T E P : Type 0} (r : Result T E) → P → OnErr r P
on_err (Ok x) p = tt
on_err (Err e) p = p
