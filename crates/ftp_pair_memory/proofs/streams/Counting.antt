-- Ports are told one after another, whatever an end did beside a data connection in memory.
use Rattle.std.proofs.Common.{◌≡◌, ◌∙◌, ℕ, Bool, true, false, List, [], ◌∷◌, Option, None, Some, sym, ap, subst, inl, inr}
use Rattle.std.specs.Prelude.{map}
use Rattle.ftp_endpoint.specs.declared.host.Host.{Host}
use Rattle.ftp_ends.specs.declared.link.Wants.{Wants}
use Rattle.ftp_ports.specs.Asking as asking
use Rattle.ftp_ports.specs.Asking.{Asked, told_lost}
use Rattle.ftp_ports.specs.Courses.{asked_by, asked_in, move_in}
use Rattle.ftp_ports.specs.Actions.{Action, Done, Ended, Heard, Led, Other, Read, Said, Stand}
use Rattle.ftp_ports.specs.Channel.{IsEnded, IsHad, IsLeft, IsOpened, Channel}
use Rattle.ftp_ports.specs.Machine as machine
use Rattle.ftp_ports.specs.Machine.{Call, Called, Held, IsConnectionRefused, Machine, move_of, side_of}
use Rattle.ftp_ports.specs.declared.whole.Rest.{Rest}
use Rattle.laws_drivers.specs.control.Touches.{had_by, touch_of_leaving, touch_in, touch_of}
use Rattle.ftp_pair_memory.specs.streams.LinkState.{LinkState, LinkRan, Steps}
use Rattle.ftp_pair_memory.specs.streams.Order.{CountedAlone, CountsPorts}
use Rattle.ftp_pair_memory.specs.streams.Plain.{plain}
use Rattle.ftp_pair_memory.proofs.streams.LinkStates.{ran_split}
use Rattle.ftp_pair_memory.proofs.streams.Plainly.{touch_plain}

-- one thing was asked
one : (asked : Asked) (first now : LinkState) → LinkRan first (asked ∷ []) now → Steps asked first now
one asked first now ran = subst (λ b. Steps asked b now) ran.1 ran.2

same_count : (first now : LinkState) → now ≡ first → now.listens ≡ first.listens
same_count first now same = ap (λ (b : LinkState). b.listens) same

-- one that is had is no port
opened : (host : Host) (asked : List Asked) (left written : Option (List ℕ)) (rest : Rest) (old new : Channel) (first now : LinkState)
    → IsOpened host asked left written rest old new → LinkRan first asked now → CountsPorts (had_by asked) first.listens now.listens
opened host asked left written rest old new first now did ran = by did.is_had
  where
    steps : Steps did.had first now
    steps = one did.had first now (subst (λ a. LinkRan first a now) did.alone ran)

    by : IsHad host did.had left written → CountsPorts (had_by asked) first.listens now.listens
    by (inl e) = subst (λ t. CountsPorts t first.listens now.listens) (sym (ap had_by did.alone ∙ ap (λ a. had_by (a ∷ [])) e))
        (ap (λ (b : LinkState). b.listens) (subst (λ a. Steps a first now) e steps).3)
    by (inr at) = subst (λ t. CountsPorts t first.listens now.listens) (sym (ap had_by did.alone ∙ ap (λ a. had_by (a ∷ [])) at.1))
        (ap (λ (b : LinkState). b.listens) (subst (λ a. Steps a first now) at.1 steps).4)

-- nor is none
refused : (want : Wants) (asked : List Asked) (first now : LinkState) → IsConnectionRefused want asked → LinkRan first asked now
    → CountsPorts (had_by asked) first.listens now.listens
refused want (asking.NotCame ∷ []) first now is ran = same_count first now (one asking.NotCame first now ran)
refused want (asking.NotConnected endpoint ∷ []) first now is ran = same_count first now (one (asking.NotConnected endpoint) first now ran)
refused want other first now is ran = absurd is

-- nor one that is left
left : (asked : Asked) (old new : Channel) (first now : LinkState) → IsLeft asked old new → LinkRan first (asked ∷ []) now
    → CountsPorts (touch_of_leaving asked) first.listens now.listens
left asked old new first now did ran = by old.stands did.ended
  where
    steps : Steps asked first now
    steps = one asked first now ran

    by : (stands : Bool) → IsEnded stands old.left old.written old.unwritten asked → CountsPorts (touch_of_leaving asked) first.listens now.listens
    by true (inl (none, e)) = subst (λ a. CountsPorts (touch_of_leaving a) first.listens now.listens) (sym e)
        (ap (λ (b : LinkState). b.listens) (subst (λ a. Steps a first now) e steps).5)
    by true (inr e) = subst (λ a. CountsPorts (touch_of_leaving a) first.listens now.listens) (sym e)
        (ap (λ (b : LinkState). b.listens) (subst (λ a. Steps a first now) e steps).5)
    by false e = subst (λ a. CountsPorts (touch_of_leaving a) first.listens now.listens) (sym e) (same_count first now (subst (λ a. Steps a first now) e steps))

waited : (lost : Bool) (first now : LinkState) → LinkRan first (told_lost lost) now → now.listens ≡ first.listens
waited true first now ran = same_count first now (one asking.Lost first now ran)
waited false first now ran = same_count first now ran

-- a port that is told is the next one, and nothing else is a port
counts_call : (end : Machine) (call : Call end.Own) (old new : Held end.Here) (first now : LinkState) → Called end call old new
    → LinkRan first (asked_by (move_of call)) now → CountsPorts (touch_of call) first.listens now.listens
counts_call end (machine.Aside own) old new first now did ran = same_count first now ran
counts_call end (machine.Listening port) old new first now did ran =
    let steps = one (asking.Listened (Some port)) first now ran in (steps.1, ap (λ (b : LinkState). b.listens) steps.2)
counts_call end (machine.Opened host asked at_first so_far rest) old new first now did ran =
    opened host asked at_first so_far rest old.channel new.channel first now did.1 ran
counts_call end (machine.Refused asked) old new first now did ran = refused (end.wants old.end) asked first now did.2.0 ran
counts_call end (machine.Received octets count) old new first now did ran = same_count first now ran
counts_call end (machine.Gave count octets rest) old new first now did ran = same_count first now ran
counts_call end machine.NoPort old new first now did ran = same_count first now (one (asking.Listened None) first now ran)
counts_call end machine.End old new first now did ran = same_count first now ran
counts_call end machine.Break old new first now did ran = same_count first now ran
counts_call end machine.Closed old new first now did ran = same_count first now ran
counts_call end (machine.Waited lost) old new first now did ran = waited lost first now ran
counts_call end (machine.Got octets) old new first now did ran = same_count first now ran
counts_call end (machine.Wrote octets) old new first now did ran = same_count first now ran
counts_call end (machine.LetGo octets) old new first now did ran = same_count first now ran
counts_call end machine.Failed old new first now did ran = same_count first now ran
counts_call end (machine.Left asked) old new first now did ran = left asked old.channel new.channel first now did.1 ran

module _ {end : Machine} where
  counts_action : (action : Action (side_of end)) (old new : Stand (side_of end)) (first now : LinkState) → Done action old new
      → LinkRan first (asked_by (move_in move_of action)) now → CountsPorts (touch_in action) first.listens now.listens
  counts_action (Heard octets) old new first now done ran = same_count first now ran
  counts_action (Said octets) old new first now done ran = same_count first now ran
  counts_action (Read octets) old new first now done ran = same_count first now ran
  counts_action Ended old new first now done ran = same_count first now ran
  counts_action (Other call) old new first now done ran = counts_call end call old.owner new.owner first now done.0 ran

  -- so it is of all that an end did
  pub counted : (actions : List (Action (side_of end))) (old new : Stand (side_of end)) → Led actions old new → (first now : LinkState)
      → LinkRan first (asked_in move_of actions) now → CountedAlone (map plain actions) first.listens now.listens
  counted [] old new led first now ran = same_count first now ran
  counted (action ∷ before) old new led first now ran =
      let parts = ran_split (asked_by (move_in move_of action)) (asked_in move_of before) first now ran in
      let one_more = counts_action action led.0 new parts.0 now led.2 parts.2 in (
        parts.0.listens,
        counted before old led.0 led.1 first parts.0 parts.1,
        subst (λ t. CountsPorts t parts.0.listens now.listens) {y = touch_in (plain action)} (sym {a = touch_in (plain action)} (touch_plain action)) one_more,
      )
