-- An action beside the control connection and one of the other end that is not change places.
use Rattle.std.proofs.Common.{◌≡◌, ◌⊎◌, inl, inr, None, Some, sym, ap, subst, ◌∙◌}
use Rattle.std.specs.Prelude.{⊤}
use Rattle.laws_drivers.specs.control.Between.{Between, Can, Far, Near, Ways, Who, peer}
use Rattle.laws_drivers.specs.control.Swaps.{IsOfControl, ReadsWritten}
use Rattle.laws_drivers.specs.control.Touches.{Touch, None_of_it, Says, Reads, Parts, Listens, Dials, Accepts, IsDenied, IsMissed, Writes, Takes, Ends, Resets, ToldEnd, ToldBreak}
use Rattle.laws_drivers.proofs.control.Swapping.{actions_change_places}

-- one that leaves the control connection as it is
abbrev IsElse : Touch → Type 0
IsElse None_of_it = ⊥
IsElse (Says octets) = ⊥
IsElse (Reads octets) = ⊥
IsElse other = ⊤

-- with these octets on the control connection
abbrev with_control : Ways → Between → Between
with_control ways between = record between { control = ways }

-- so it does
stays : (who : Who) (touch : Touch) (old new : Between) → IsElse touch → Can who touch old new → new.control ≡ old.control
stays Near Parts old new is can = ap (λ (m : Between). m.control) can
stays Near (Listens None) old new is can = ap (λ (m : Between). m.control) can
stays Near (Listens (Some port)) old new is can = ap (λ (m : Between). m.control) can.1
stays Near (Dials endpoint) old new is can = ap (λ (m : Between). m.control) can.2
stays Near (Accepts host) old new is can = ap (λ (m : Between). m.control) can.1
stays Near (IsDenied endpoint) old new is can = ap (λ (m : Between). m.control) can
stays Near IsMissed old new is can = ap (λ (m : Between). m.control) can
stays Near (Writes octets) old new is can = ap (λ (m : Between). m.control) can.1
stays Near (Takes octets) old new is can = ap (λ (m : Between). m.control) can.2
stays Near Ends old new is can = ap (λ (m : Between). m.control) can.1
stays Near Resets old new is can = ap (λ (m : Between). m.control) can.1
stays Near ToldEnd old new is can = ap (λ (m : Between). m.control) can.2
stays Near ToldBreak old new is can = ap (λ (m : Between). m.control) can.1
stays Far Parts old new is can = ap (λ (m : Between). m.control) can
stays Far (Listens None) old new is can = ap (λ (m : Between). m.control) can
stays Far (Listens (Some port)) old new is can = ap (λ (m : Between). m.control) can.1
stays Far (Dials endpoint) old new is can = ap (λ (m : Between). m.control) can.2
stays Far (Accepts host) old new is can = ap (λ (m : Between). m.control) can.1
stays Far (IsDenied endpoint) old new is can = ap (λ (m : Between). m.control) can
stays Far IsMissed old new is can = ap (λ (m : Between). m.control) can
stays Far (Writes octets) old new is can = ap (λ (m : Between). m.control) can.1
stays Far (Takes octets) old new is can = ap (λ (m : Between). m.control) can.2
stays Far Ends old new is can = ap (λ (m : Between). m.control) can.1
stays Far Resets old new is can = ap (λ (m : Between). m.control) can.1
stays Far ToldEnd old new is can = ap (λ (m : Between). m.control) can.2
stays Far ToldBreak old new is can = ap (λ (m : Between). m.control) can.1
stays who touch old new is can = absurd is

-- and it can happen whatever lies there
moves_so : (who : Who) (touch : Touch) (ways : Ways) (old new : Between) → IsElse touch → Can who touch old new
    → Can who touch (with_control ways old) (with_control ways new)
moves_so Near Parts ways old new is can = ap (with_control ways) can
moves_so Near (Listens None) ways old new is can = ap (with_control ways) can
moves_so Near (Listens (Some port)) ways old new is can = (can.0, ap (with_control ways) can.1)
moves_so Near (Dials endpoint) ways old new is can = (can.0, can.1, ap (with_control ways) can.2)
moves_so Near (Accepts host) ways old new is can = (can.0, ap (with_control ways) can.1)
moves_so Near (IsDenied endpoint) ways old new is can = ap (with_control ways) can
moves_so Near IsMissed ways old new is can = ap (with_control ways) can
moves_so Near (Writes octets) ways old new is can = (can.0, ap (with_control ways) can.1)
moves_so Near (Takes octets) ways old new is can = (can.0, can.1, ap (with_control ways) can.2)
moves_so Near Ends ways old new is can = (can.0, ap (with_control ways) can.1)
moves_so Near Resets ways old new is can = (can.0, ap (with_control ways) can.1)
moves_so Near ToldEnd ways old new is can = (can.0, can.1, ap (with_control ways) can.2)
moves_so Near ToldBreak ways old new is can = (can.0, ap (with_control ways) can.1)
moves_so Far Parts ways old new is can = ap (with_control ways) can
moves_so Far (Listens None) ways old new is can = ap (with_control ways) can
moves_so Far (Listens (Some port)) ways old new is can = (can.0, ap (with_control ways) can.1)
moves_so Far (Dials endpoint) ways old new is can = (can.0, can.1, ap (with_control ways) can.2)
moves_so Far (Accepts host) ways old new is can = (can.0, ap (with_control ways) can.1)
moves_so Far (IsDenied endpoint) ways old new is can = ap (with_control ways) can
moves_so Far IsMissed ways old new is can = ap (with_control ways) can
moves_so Far (Writes octets) ways old new is can = (can.0, ap (with_control ways) can.1)
moves_so Far (Takes octets) ways old new is can = (can.0, can.1, ap (with_control ways) can.2)
moves_so Far Ends ways old new is can = (can.0, ap (with_control ways) can.1)
moves_so Far Resets ways old new is can = (can.0, ap (with_control ways) can.1)
moves_so Far ToldEnd ways old new is can = (can.0, can.1, ap (with_control ways) can.2)
moves_so Far ToldBreak ways old new is can = (can.0, ap (with_control ways) can.1)
moves_so who touch ways old new is can = absurd is

-- one beside the control connection can happen whatever else lies between
control_so : (who : Who) (touch : Touch) (old new base : Between) → IsOfControl touch → Can who touch old new
    → Can who touch (with_control old.control base) (with_control new.control base)
control_so who None_of_it old new base is can = ap (λ (m : Between). with_control m.control base) can
control_so who (Says octets) old new base is can = ap (λ (m : Between). with_control m.control base) can
control_so who (Reads octets) old new base is can = (can.0, ap (λ (m : Between). with_control m.control base) can.1)
control_so who touch old new base is can = absurd is

-- what is the same but for the control connection is that with its octets
alone : (ways : Ways) (old new : Between) → new ≡ with_control ways old → new ≡ with_control new.control old
alone ways old new is = is ∙ ap (λ (c : Ways). with_control c old) (sym (ap (λ (m : Between). m.control) is))

-- and it leaves all else as it is
control_alone : (who : Who) (touch : Touch) (old new : Between) → IsOfControl touch → Can who touch old new → new ≡ with_control new.control old
control_alone who None_of_it old new is can = alone _ old new can
control_alone who (Says octets) old new is can = alone _ old new can
control_alone who (Reads octets) old new is can = alone _ old new can.1
control_alone who touch old new is can = absurd is

-- the second in the place of the first
abbrev pub Changed : (who : Who) (first second : Touch) (old new : Between) → Type 0
Changed who first second old new = (other : Between) × Can (peer who) second old other × Can who first other new

-- the first is beside the control connection
control_then_else : (who : Who) (first second : Touch) (old mid new : Between) → IsOfControl first → IsElse second → Can who first old mid
    → Can (peer who) second mid new → Changed who first second old new
control_then_else who first second old mid new is other one two =
    let back : with_control old.control mid ≡ old = ap (with_control old.control) (control_alone who first old mid is one) in
    let there : with_control mid.control new ≡ new = ap (λ (c : Ways). with_control c new) (sym (stays (peer who) second mid new other two)) in (
      with_control old.control new,
      subst (λ (m : Between). Can (peer who) second m (with_control old.control new)) back (moves_so (peer who) second old.control mid new other two),
      subst (λ (m : Between). Can who first (with_control old.control new) m) there (control_so who first old mid new is one),
    )

-- the second is
else_then_control : (who : Who) (first second : Touch) (old mid new : Between) → IsElse first → IsOfControl second → Can who first old mid
    → Can (peer who) second mid new → Changed who first second old new
else_then_control who first second old mid new other is one two =
    let back : with_control mid.control old ≡ old = ap (λ (c : Ways). with_control c old) (stays who first old mid other one) in
    let there : with_control new.control mid ≡ new = sym (control_alone (peer who) second mid new is two) in (
      with_control new.control old,
      subst (λ (m : Between). Can (peer who) second m (with_control new.control old)) back (control_so (peer who) second mid new old is two),
      subst (λ (m : Between). Can who first (with_control new.control old) m) there (moves_so who first new.control old mid other one),
    )

-- each is one or the other
kind_of : (touch : Touch) → IsOfControl touch ⊎ IsElse touch
kind_of None_of_it = inl tt
kind_of (Says octets) = inl tt
kind_of (Reads octets) = inl tt
kind_of touch = inr tt

-- and not both
not_both : (touch : Touch) → IsOfControl touch → IsElse touch → ⊥
not_both None_of_it is other = other
not_both (Says octets) is other = other
not_both (Reads octets) is other = other
not_both touch is other = is

-- so it is where one of them is beside the control connection
pub change_places : (who : Who) (first second : Touch) → IsOfControl first ⊎ IsOfControl second → (old mid new : Between) → Can who first old mid
    → Can (peer who) second mid new → (IsOfControl second → ReadsWritten (peer who) second old) → Changed who first second old new
change_places who first second either old mid new one two written = by (kind_of first) (kind_of second)
  where
    none : IsOfControl first ⊎ IsOfControl second → IsElse first → IsElse second → ⊥
    none (inl is) a b = not_both first is a
    none (inr is) a b = not_both second is b

    by : IsOfControl first ⊎ IsElse first → IsOfControl second ⊎ IsElse second → Changed who first second old new
    by (inl a) (inl b) = actions_change_places who first second a b old mid new one two (written b)
    by (inl a) (inr b) = control_then_else who first second old mid new a b one two
    by (inr a) (inl b) = else_then_control who first second old mid new a b one two
    by (inr a) (inr b) = absurd (none either a b)
