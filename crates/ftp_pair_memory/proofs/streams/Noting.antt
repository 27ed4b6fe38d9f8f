-- What ports note, one thing after another, and what follows of it.
use Rattle.std.proofs.Common.{◌≡◌, ℕ, Bool, true, false, true≢false, List, [], ◌∷◌, ◌++◌, Option, None, Some, is_some, refl, sym, ap, subst, ◌∙◌}
use Rattle.ftp_endpoint.specs.declared.endpoint.Endpoint.{Endpoint}
use Rattle.ftp_ports.specs.Asking.{Asked}
use Rattle.laws_drivers.specs.control.Between.{Awaits, Has, Has_ended, Has_lost, Has_not, Hold, IsOver, Is_called}
use Rattle.ftp_pair_memory.specs.streams.LinkState.{LinkState, LinkRan, Steps, dialling, listening, mark}
use Rattle.ftp_pair_memory.specs.streams.PortTableMoves.{Noted, link_found_at, header, is_back, is_dialled, is_ended, is_free_hold, is_reached, moved}
use Rattle.ftp_pair_memory.specs.streams.PortTableMoves.{moved_where_known, noted_first, noted_in, noted_next, noted_on, port_called, told, where_so}
use Rattle.ftp_pair_memory.specs.declared.streams.port_table.Event.{Event}
use Rattle.ftp_pair_memory.specs.declared.streams.port_table.Event.TheVariants as Events
use Rattle.ftp_pair_memory.specs.declared.streams.port_table.Found.{Found}
use Rattle.ftp_pair_memory.specs.declared.streams.wire.Wire.{Wire}

-- one thing more
pub noted_last : (noted : Noted) (log : List (Event × Wire)) (next : Event × Wire) → noted_on noted (log ++ next ∷ []) ≡ noted_next (noted_on noted log) next
noted_last noted [] next = refl
noted_last noted (first ∷ log) next = noted_last (noted_next noted first) log next

-- ---- each could be asked

none_is_some : (link_state : LinkState) → None ≡ Some link_state → ⊥
none_is_some link_state e = true≢false (sym (ap is_some e))

abbrev link_state_in : LinkState → Option LinkState → LinkState
link_state_in other None = other
link_state_in other (Some link_state) = link_state

the_same : (one other : LinkState) → Some one ≡ Some other → other ≡ one
the_same one other e = sym (ap (link_state_in one) e)

-- the end gave back one that was closed as the one that it was given
pub back_marked : (known ended : Bool) → is_back Has known ended ≡ true → ended ≡ known
back_marked true true is = refl
back_marked true false is = is
back_marked false true is = sym is
back_marked false false is = refl

pub back_has : (hold : Hold) (known ended : Bool) → is_back hold known ended ≡ true → hold ≡ Has
back_has Has known ended is = refl
back_has Has_not known ended is = absurd (true≢false (sym is))
back_has (Awaits port) known ended is = absurd (true≢false (sym is))
back_has Is_called known ended is = absurd (true≢false (sym is))
back_has Has_ended known ended is = absurd (true≢false (sym is))
back_has Has_lost known ended is = absurd (true≢false (sym is))

where_back : (is : Bool) (link_state now : LinkState) → where_so is link_state ≡ Some now → (is ≡ true) × (now ≡ link_state)
where_back true link_state now e = (refl, the_same link_state now e)
where_back false link_state now e = absurd (none_is_some now e)

free_over : (hold : Hold) (one now : LinkState) → where_so (is_free_hold hold) one ≡ Some now → IsOver hold × (now ≡ one)
free_over Has one now e = absurd (none_is_some now e)
free_over Has_not one now e = (tt, the_same one now e)
free_over (Awaits port) one now e = (tt, the_same one now e)
free_over Is_called one now e = (tt, the_same one now e)
free_over Has_ended one now e = (tt, the_same one now e)
free_over Has_lost one now e = (tt, the_same one now e)

called_only : (hold : Hold) (one now : LinkState) → where_so (is_dialled hold) one ≡ Some now → (hold ≡ Is_called) × (now ≡ one)
called_only Is_called one now e = (refl, the_same one now e)
called_only Has one now e = absurd (none_is_some now e)
called_only Has_not one now e = absurd (none_is_some now e)
called_only (Awaits port) one now e = absurd (none_is_some now e)
called_only Has_ended one now e = absurd (none_is_some now e)
called_only Has_lost one now e = absurd (none_is_some now e)

-- where the peer listens, that port is dialled
reached_there : (hold : Hold) (calls : Option ℕ) (endpoint : Endpoint) (one now : LinkState) → where_so (is_reached hold calls) one ≡ Some now
    → IsOver hold × (calls ≡ Some (port_called calls endpoint).port) × (now ≡ one)
reached_there Has calls endpoint one now e = absurd (none_is_some now e)
reached_there Has_not None endpoint one now e = absurd (none_is_some now e)
reached_there (Awaits port) None endpoint one now e = absurd (none_is_some now e)
reached_there Is_called None endpoint one now e = absurd (none_is_some now e)
reached_there Has_ended None endpoint one now e = absurd (none_is_some now e)
reached_there Has_lost None endpoint one now e = absurd (none_is_some now e)
reached_there Has_not (Some port) endpoint one now e = (tt, refl, the_same one now e)
reached_there (Awaits there) (Some port) endpoint one now e = (tt, refl, the_same one now e)
reached_there Is_called (Some port) endpoint one now e = (tt, refl, the_same one now e)
reached_there Has_ended (Some port) endpoint one now e = (tt, refl, the_same one now e)
reached_there Has_lost (Some port) endpoint one now e = (tt, refl, the_same one now e)

-- so the link state moves as what was asked wants it
moved_steps : (event : Event) (wire : Wire) (link_state now : LinkState) → moved event wire link_state ≡ Some now → Steps (told event wire (Some link_state)) link_state now
moved_steps (Events.Listened None) wire link_state now e = the_same link_state now e
moved_steps (Events.Listened (Some port)) wire link_state now e = let free = free_over link_state.hold (listening link_state) now e in (free.0, refl, free.1)
moved_steps (Events.Came host) wire link_state now e =
    let came = called_only link_state.hold (record link_state { hold = Has; came = []; went = [] }) now e in (came.0, refl, refl, came.1, refl)
moved_steps Events.NotCame wire link_state now e = the_same link_state now e
moved_steps (Events.Connected endpoint) wire link_state now e =
    let there = reached_there link_state.hold link_state.calls endpoint (dialling link_state) now e in
    (there.0, there.1, refl, refl, there.2)
moved_steps (Events.NotConnected endpoint) wire link_state now e = the_same link_state now e
moved_steps Events.Ended wire link_state now e =
    let back = where_back (is_back link_state.hold link_state.ended (is_ended wire.closed)) (record link_state { hold = Has_ended; came = wire.came.items; went = wire.went.items }) now e in
    let has = back_has link_state.hold link_state.ended (is_ended wire.closed) back.0 in
    let marked = back_marked link_state.ended (is_ended wire.closed) (subst (λ h. is_back h link_state.ended (is_ended wire.closed) ≡ true) has back.0) in
    (wire.came.items, wire.went.items, has, ap (λ m. Some (wire.came.items ++ mark m)) marked, refl, back.1)
moved_steps Events.Reset wire link_state now e =
    let back = where_back (is_back link_state.hold link_state.ended (is_ended wire.closed)) (record link_state { hold = Has_lost; came = wire.came.items; went = wire.went.items }) now e in
    let has = back_has link_state.hold link_state.ended (is_ended wire.closed) back.0 in
    let marked = back_marked link_state.ended (is_ended wire.closed) (subst (λ h. is_back h link_state.ended (is_ended wire.closed) ≡ true) has back.0) in
    (wire.came.items, wire.went.items, has, ap (λ m. Some (wire.came.items ++ mark m)) marked, refl, back.1)
moved_steps Events.Shut wire link_state now e = the_same link_state now e

-- ---- since a turn began

-- what was asked since it was found so
Since : LinkState → Noted → Type 0
Since first noted = (now : LinkState) → noted.link_state ≡ Some now → (asked : List Asked) × (noted.asked ≡ asked ++ header first) × LinkRan first asked now

since_next : (first : LinkState) (event : Event) (wire : Wire) (known : Option LinkState) (before : List Asked)
    → ((now : LinkState) → known ≡ Some now → (asked : List Asked) × (before ≡ asked ++ header first) × LinkRan first asked now)
    → (now : LinkState) → moved_where_known event wire known ≡ Some now
    → (asked : List Asked) × (told event wire known ∷ before ≡ asked ++ header first) × LinkRan first asked now
since_next first event wire None before since now e = absurd (none_is_some now e)
since_next first event wire (Some link_state) before since now e =
    let so_far = since link_state refl in
    (told event wire (Some link_state) ∷ so_far.0, ap (λ l. told event wire (Some link_state) ∷ l) so_far.1, (link_state, so_far.2, moved_steps event wire link_state now e))

since_on : (first : LinkState) (log : List (Event × Wire)) (noted : Noted) → Since first noted → Since first (noted_on noted log)
unfolding Since
since_on first [] noted since = since
since_on first (next ∷ log) noted since =
    since_on first log (noted_next noted next) (since_next first next.0 next.1 noted.link_state noted.asked since)

-- what is not known stays so
none_on : (log : List (Event × Wire)) (noted : Noted) → noted.link_state ≡ None → (noted_on noted log).link_state ≡ None
none_on [] noted none = none
none_on (next ∷ log) noted none = none_on log (noted_next noted next) (ap (moved_where_known next.0 next.1) none)

-- where the link state is known, a turn found one, which did not dial, and from there all was asked that was noted
pub ran_since : (found : List (Found × Wire)) (log : List (Event × Wire)) (now : LinkState) → (noted_in found log).link_state ≡ Some now
    → (first : LinkState) × (asked : List Asked) × (first.dialled ≡ false) × ((noted_in found log).asked ≡ asked ++ header first) × LinkRan first asked now
unfolding Since
ran_since [] log now e = absurd (none_is_some now (sym (none_on log (noted_first []) refl) ∙ e))
ran_since (found ∷ more) log now e =
    let since = since_on (link_found_at found) log (noted_first (found ∷ more)) (λ link_state is. ([], refl, the_same (link_found_at found) link_state is)) now e in
    (link_found_at found, since.0, refl, since.1, since.2)
