-- Who comes to an end beside a data connection in memory is the host that it has at its other end.
use Rattle.std.proofs.Common.{◌≡◌, ◌∙◌, ℕ, true, List, [], ◌∷◌, Option, None, Some, refl, sym, ap, subst, inl, inr}
use Rattle.std.specs.Prelude.{map}
use Rattle.std.proofs.lemmas.Cmp.{nat_list_eq_equiv}
use Rattle.ftp_endpoint.specs.declared.host.Host.{Host}
use Rattle.ftp_endpoint.specs.declared.host.Host.TheVariants.{V4, V6}
use Rattle.ftp_ends.specs.Link.{same_host}
use Rattle.ftp_ends.specs.declared.link.Wants.{Wants}
use Rattle.ftp_ports.specs.Asking as asking
use Rattle.ftp_ports.specs.Asking.{Asked}
use Rattle.ftp_ports.specs.Courses.{asked_by, asked_in, move_in}
use Rattle.ftp_ports.specs.Actions.{Action, Done, Ended, Heard, Led, Other, Read, Said, Stand}
use Rattle.ftp_ports.specs.Channel.{IsHad, IsOpened, Channel}
use Rattle.ftp_ports.specs.Machine as machine
use Rattle.ftp_ports.specs.Machine.{Call, Called, Held, IsConnectionRefused, Machine, move_of, side_of}
use Rattle.ftp_ports.specs.declared.whole.Rest.{Rest}
use Rattle.laws_drivers.specs.control.Touches.{had_by, touch_of_leaving, touch_in, touch_of}
use Rattle.ftp_pair_memory.specs.streams.LinkState.{LinkState, LinkRan, Steps}
use Rattle.ftp_pair_memory.specs.streams.Order.{CameAlone, ComesFrom}
use Rattle.ftp_pair_memory.specs.streams.Plain.{plain}
use Rattle.ftp_pair_memory.proofs.streams.LinkStates.{ran_split}
use Rattle.ftp_pair_memory.proofs.streams.Plainly.{touch_plain}

-- a host is the same host as itself
same_as_itself : (host : Host) → same_host host host ≡ true
same_as_itself (V4 octets) = nat_list_eq_equiv.refl octets
same_as_itself (V6 octets) = nat_list_eq_equiv.refl octets

-- ---- the host at the other end stays

kept_host : (old new other : LinkState) → new ≡ other → other.host ≡ old.host → new.host ≡ old.host
kept_host old new other same kept = ap (λ (b : LinkState). b.host) same ∙ kept

step_host : (asked : Asked) (old new : LinkState) → Steps asked old new → new.host ≡ old.host
step_host (asking.Listened None) old new steps = kept_host old new old steps refl
step_host (asking.Listened (Some port)) old new steps = ap (λ (b : LinkState). b.host) steps.2
step_host (asking.Came host left written) old new steps = ap (λ (b : LinkState). b.host) steps.3
step_host asking.NotCame old new steps = kept_host old new old steps refl
step_host (asking.Connected endpoint left written) old new steps = ap (λ (b : LinkState). b.host) steps.4
step_host (asking.NotConnected endpoint) old new steps = kept_host old new old steps refl
step_host (asking.Ended left written) old new steps = ap (λ (b : LinkState). b.host) steps.5
step_host (asking.Reset left written) old new steps = ap (λ (b : LinkState). b.host) steps.5
step_host asking.Shut old new steps = kept_host old new old steps refl
step_host asking.Lost old new steps = kept_host old new old steps refl

-- whatever was asked
ran_host : (asked : List Asked) (first now : LinkState) → LinkRan first asked now → now.host ≡ first.host
ran_host [] first now ran = ap (λ (b : LinkState). b.host) ran
ran_host (asked ∷ before) first now ran = step_host asked ran.0 now ran.2 ∙ ran_host before first ran.0 ran.1

-- ---- who comes

opened : (host : Host) (asked : List Asked) (left written : Option (List ℕ)) (rest : Rest) (old new : Channel) (first now : LinkState)
    → IsOpened host asked left written rest old new → LinkRan first asked now → ComesFrom first.host (had_by asked)
opened host asked left written rest old new first now did ran = by did.is_had
  where
    one : LinkRan first (did.had ∷ []) now
    one = subst (λ a. LinkRan first a now) did.alone ran

    steps : Steps did.had first now
    steps = subst (λ b. Steps did.had b now) one.1 one.2

    by : IsHad host did.had left written → ComesFrom first.host (had_by asked)
    by (inl e) = subst (ComesFrom first.host) (sym (ap had_by did.alone ∙ ap (λ a. had_by (a ∷ [])) e))
        (subst (λ h. same_host host h ≡ true) (subst (λ a. Steps a first now) e steps).4 (same_as_itself host))
    by (inr at) = subst (ComesFrom first.host) (sym (ap had_by did.alone ∙ ap (λ a. had_by (a ∷ [])) at.1)) tt

refused : (want : Wants) (asked : List Asked) (other : Host) → IsConnectionRefused want asked → ComesFrom other (had_by asked)
refused want (asking.NotCame ∷ []) other is = tt
refused want (asking.NotConnected endpoint ∷ []) other is = tt
refused want asked other is = absurd is

leaving : (asked : Asked) (other : Host) → ComesFrom other (touch_of_leaving asked)
leaving (asking.Ended left written) other = tt
leaving (asking.Reset left written) other = tt
leaving asked other = tt

comes_call : (end : Machine) (call : Call end.Own) (old new : Held end.Here) (first now : LinkState) → Called end call old new
    → LinkRan first (asked_by (move_of call)) now → ComesFrom first.host (touch_of call)
comes_call end (machine.Opened host asked at_first so_far rest) old new first now did ran =
    opened host asked at_first so_far rest old.channel new.channel first now did.1 ran
comes_call end (machine.Refused asked) old new first now did ran = refused (end.wants old.end) asked first.host did.2.0
comes_call end (machine.Left asked) old new first now did ran = leaving asked first.host
comes_call end call old new first now did ran = tt

module _ {end : Machine} where
  comes_action : (action : Action (side_of end)) (old new : Stand (side_of end)) (first now : LinkState) → Done action old new
      → LinkRan first (asked_by (move_in move_of action)) now → ComesFrom first.host (touch_in action)
  comes_action (Heard octets) old new first now done ran = tt
  comes_action (Said octets) old new first now done ran = tt
  comes_action (Read octets) old new first now done ran = tt
  comes_action Ended old new first now done ran = tt
  comes_action (Other call) old new first now done ran = comes_call end call old.owner new.owner first now done.0 ran

  -- so it is of all that an end did
  pub came : (actions : List (Action (side_of end))) (old new : Stand (side_of end)) → Led actions old new → (first now : LinkState)
      → LinkRan first (asked_in move_of actions) now → CameAlone first.host (map plain actions) × (now.host ≡ first.host)
  came [] old new led first now ran = (tt, ran_host [] first now ran)
  came (action ∷ before) old new led first now ran =
      let move = move_in move_of action in
      let parts = ran_split (asked_by move) (asked_in move_of before) first now ran in
      let earlier = came before old led.0 led.1 first parts.0 parts.1 in
      let comes = subst (λ h. ComesFrom h (touch_in action)) earlier.1 (comes_action action led.0 new parts.0 now led.2 parts.2) in (
        (earlier.0, subst (ComesFrom first.host) {y = touch_in (plain action)} (sym {a = touch_in (plain action)} (touch_plain action)) comes),
        ran_host (asked_by move) parts.0 now parts.2 ∙ earlier.1,
      )
