-- Whole events: a delivery, an opening and an end of the link, each with what is served behind it, lower the first number that they change.
use Rattle.std.proofs.Common.{◌≡◌, ℕ, ◌<◌, ◌≤◌, ◌⊎◌, inl, inr, List, [], ◌∷◌, length, take, Bool, true, false, ◌&&◌, ◌||◌, ◌==◌, refl, sym, ap, subst, arith}
use Rattle.std.specs.Prelude.{if◌then◌else◌, min, nat_lt, not}
use Rattle.std.proofs.lemmas.Bool.{and_parts, eqb-true}
use Rattle.ftp_endpoint.specs.declared.host.Host.{Host}
use Rattle.ftp_ends.specs.Link.{is_accepting, is_connecting, is_wanted, same_host}
use Rattle.ftp_ends.specs.declared.link.Wants.{Wants}
use Rattle.ftp_ends.specs.declared.link.Wants.TheVariants as Want
use Rattle.ftp_client_model.specs.Calls as near
use Rattle.ftp_client_model.specs.View.{View as Near}
use Rattle.ftp_server_model.specs.Bounds as far_left
use Rattle.ftp_server_model.specs.Calls as far
use Rattle.ftp_server_model.specs.Calls.{connection_of, is_done, opened_step, opens, wants_of}
use Rattle.ftp_server_model.specs.Machine.{Reading}
use Rattle.ftp_server_model.specs.View.{View as Far, Transfer as FarTransfer}
use Rattle.ftp_server_model.specs.declared.session.ServerLink.{ServerLink}
use Rattle.ftp_server_model.specs.declared.session.ServerLink.TheVariants as Data
use Rattle.ftp_server_model.specs.declared.session.Transfer.TheVariants as Transfers
use Rattle.ftp_server_model.specs.declared.session.Way.TheVariants as Ways
use Rattle.ftp_ends.specs.Octets.{has_octets}
use Rattle.laws_world.specs.Events.{Queue, ControlToServer, ControlToClient, DataToServer, DataToClient, Deliver, DeliversBy, Fills, Gives, MayTakeFrom, Takes, can_happen, due, filled, in_queue, is_asked_for, is_closed_by_far, is_closed_by_near, is_gone, link_opens, may_take, pulled, pushed, taking, told}
use Rattle.laws_world.specs.Settling.{left_in, ends_to_client, ends_to_server}
use Rattle.laws_world.specs.World.{World, Link, ClosedByNear, ClosedByFar}
use Rattle.laws_settling.specs.Steady.{AreApart, AsksNothing, NearIsApart}
use Rattle.laws_settling.proofs.Moving.{Less, Pushes, control_in, data_in, file_in, fill_apart, fill_asks, fill_less, gives_few, pull_apart, pull_less, replies_in, served_behind}
use Rattle.ftp_server_model.proofs.ServerBounds.{completed_lowers}
use Rattle.ftp_server_model.proofs.ServerBounds as fars
use Rattle.laws_settling.proofs.FarCallsApart.{data_opened_apart, hears_apart, receives_apart}
use Rattle.laws_settling.proofs.FarLow.{later_cases}
use Rattle.laws_settling.proofs.Possible.{taken_can}
use Rattle.laws_settling.proofs.NearApart as keeps
use Rattle.ftp_client_model.proofs.ClientBounds.{positive}
use Rattle.ftp_client_model.proofs.ClientCalls.{calls_lower}
use Rattle.laws_settling.proofs.Order.{falls_most, falls_then, le_then, not_less}

-- ---- a delivery

-- a client that hears stays apart
pub heard_keep : (octets : List ℕ) (v : Near) → NearIsApart v → NearIsApart (near.hears v octets)
heard_keep [] v a = a
heard_keep (octet ∷ octets) v a = heard_keep octets (near.hears_octet v octet) (keeps.hears_octet_keep v octet a)

-- so do both ends where octets are taken
pub push_apart : (read : Reading) (queue : Queue) (count : ℕ) (w : World) → AreApart w → AreApart (pushed read queue count w)
push_apart read ControlToServer count w a = record { near = a.near; far = hears_apart read (take count w.control_to_server) w.far a.far }
push_apart read ControlToClient count w a = record { near = heard_keep (take count w.control_to_client) w.near a.near; far = a.far }
push_apart read DataToServer count w a = record { near = a.near; far = receives_apart (take count w.data_to_server) w.far a.far }
push_apart read DataToClient count w a = record { near = (keeps.receives_keep (take count w.data_to_client) w.near w.near (keeps.same w.near)).apart a.near; far = a.far }

-- taking octets lowers a number, or none was taken
push_cases : (read : Reading) (queue : Queue) (count : ℕ) (w : World) → (queue ≡ ControlToClient → AsksNothing w) → MayTakeFrom read queue w count → count ≤ length (in_queue queue w)
    → Pushes count w (pushed read queue count w)
push_cases read ControlToServer count w asks may few = control_in read count w few
push_cases read ControlToClient count w asks may few = replies_in read count w (asks refl) may few
push_cases read DataToServer count w asks may few = data_in read count w few
push_cases read DataToClient count w asks may few = file_in read count w few

-- what is lent is of no matter
lent_cases : (read : Reading) (queue : Queue) (count : ℕ) (octets : List ℕ) (w : World) → Pushes count w (pushed read queue count w) → Pushes count w (pushed read queue count (record w { taken = octets }))
lent_cases read ControlToServer count octets w pushes = pushes
lent_cases read queue count octets w pushes = pushes

-- a queue that is filled asks nothing of the client
fill_asks_at : (queue : Queue) (w : World) (counts : List ℕ) → AsksNothing w → queue ≡ ControlToClient → AsksNothing (filled queue w counts)
fill_asks_at ControlToClient w counts asks is = fill_asks w counts asks
fill_asks_at queue w counts asks is = absurd (cc)

-- what was taken was there
in_few : (count taken long : ℕ) → taken ≤ min count long → taken ≤ long
in_few count taken long within = omega (arith, within)

-- a delivery lowers a number: by a call that gave, or by an octet that was taken
delivered : (read : Reading) (queue : Queue) (count : ℕ) (w : World) (counts : List ℕ) (taken : ℕ) → (count == 0) ≡ false
    → Fills queue count w counts → Takes read queue count (filled queue w counts) taken → can_happen (Deliver queue count) w ≡ true → AsksNothing w
    → Less (pushed read queue taken (taking queue taken (filled queue w counts))) w
delivered read queue count w [] taken some fills takes can asks =
    let both = taken_can (has_octets (due queue w)) (nat_lt (length (in_queue queue w)) count) (count == 0) (has_octets (in_queue queue w)) (may_take queue w) some fills can in
    let more = takes.some (positive count some) both.0 both.1 in
    elim (lent_cases read queue taken (take taken (in_queue queue w)) w
    (push_cases read queue taken w (λ is. asks) takes.may (in_few count taken (length (in_queue queue w)) takes.within))) [
      | inl less ↦ less
      | inr none ↦ not_less 0 taken (sym none.0) more
    ]
delivered read queue count w (gave ∷ counts) taken some fills takes can asks =
    let u : World = filled queue w (gave ∷ counts) in
    let less = fill_less queue count w gave counts fills in
    let new : World = pushed read queue taken (taking queue taken u) in
    elim (lent_cases read queue taken (take taken (in_queue queue u)) u
    (push_cases read queue taken u (fill_asks_at queue w (gave ∷ counts) asks) takes.may (in_few count taken (length (in_queue queue u)) takes.within))) [
      | inl more ↦ both_less w u new less more
      | inr none ↦ falls_most (left_in w) (left_in u) (left_in new) less none.1
    ]
  where
    both_less : (a b c : World) → Less b a → Less c b → Less c a
    both_less a b c x y = falls_then (left_in a) (left_in b) (left_in c) x y

-- one that moves what one call gives
moved_some : (queue : Queue) (w : World) (gave : ℕ) → Gives 4096 (due queue w) gave → can_happen (Deliver queue 0) w ≡ true → 0 < gave
moved_some queue w gave gives can = gives.some (omega arith) (has_due (has_octets (due queue w)) (nat_lt (length (in_queue queue w)) 0) (has_octets (in_queue queue w)) (may_take queue w) can)
  where
    has_due : (owing short there may : Bool) → ((owing && (true || short)) || (not true && there && may)) ≡ true → owing ≡ true
    has_due true short there may is = refl
    has_due false short there may is = is

-- what is lent leaves both ends apart
pub lent_apart : (queue : Queue) (taken : ℕ) (w : World) → AreApart w → AreApart (taking queue taken w)
lent_apart queue taken w a = record { near = a.near; far = a.far }

-- a test of zero
zero_is : (count : ℕ) → (count == 0) ≡ true → count ≡ 0
zero_is count is = eqb-true count 0 is

-- each delivery falls
pub delivery_falls : (read : Reading) (queue : Queue) (count : ℕ) (none : Bool) (w new : World) → (count == 0) ≡ none → AreApart w → AsksNothing w → can_happen (Deliver queue count) w ≡ true
    → DeliversBy none read queue count w new → Less new w
delivery_falls read queue count true w new is a asks can m =
    served_behind w (pulled queue w m.gave) new (pull_less queue m.gave w (moved_some queue w m.gave m.gives (subst (λ n. can_happen (Deliver queue n) w ≡ true) (zero_is count is) can)) (gives_few 4096 (due queue w) m.gave m.gives))
    (pull_apart queue m.gave w a) m.is
delivery_falls read queue count false w new is a asks can d =
    let u : World = filled queue w d.counts in
    served_behind w (pushed read queue d.taken (taking queue d.taken u)) new (delivered read queue count w d.counts d.taken is d.fills d.takes can asks)
    (push_apart read queue d.taken (taking queue d.taken u) (lent_apart queue d.taken u (fill_apart queue w d.counts a))) d.is

-- ---- an opening

-- an end that a link is wanted for
abbrev Links : Wants → Type 0
Links wants = (is_accepting wants ≡ true) ⊎ (is_connecting wants ≡ true)

-- a link is wanted of the server too
wanted_links : (a b c d : Bool) → ((a && d) || (b && c)) ≡ true → (d ≡ true) ⊎ (c ≡ true)
wanted_links a b c true is = inl refl
wanted_links a b true false is = inr refl
wanted_links true true false false is = absurd (cc)
wanted_links true false false false is = absurd (cc)
wanted_links false true false false is = absurd (cc)
wanted_links false false false false is = absurd (cc)

-- so it wants no close
link_or : (closing done : Bool) (wants : Wants) → Links (if closing then Want.CloseData else (if done then Want.CloseAll else wants)) → (closing ≡ false) × Links wants
link_or true done wants (inl is) = absurd (cc)
link_or true done wants (inr is) = absurd (cc)
link_or false true wants (inl is) = absurd (cc)
link_or false true wants (inr is) = absurd (cc)
link_or false false wants links = (refl, links)

-- nothing of the kind is wanted
no_link : {P : Type 0} → (false ≡ true) ⊎ (false ≡ true) → P
no_link (inl is) = absurd (cc)
no_link (inr is) = absurd (cc)

-- the server goes on, and less is to begin
opens_falls : (connection : ServerLink FarTransfer) (peer : Bool) (v : Far) → v.session.connection ≡ connection → Links (wants_of connection) → far_left.to_begin (opens connection peer v) < far_left.to_begin v
opens_falls Data.Passive true v is links = let two : far_left.stages_left v.session.connection ≡ 2 = ap far_left.stages_left is in omega (arith, two)
opens_falls Data.Passive false v is links = let two : far_left.stages_left v.session.connection ≡ 2 = ap far_left.stages_left is in omega (arith, two)
opens_falls (Data.Opening transfer Ways.Accept) true v is links = let two : far_left.stages_left v.session.connection ≡ 2 = ap far_left.stages_left is in omega (arith, two)
opens_falls (Data.Opening transfer Ways.Accept) false v is links = let two : far_left.stages_left v.session.connection ≡ 2 = ap far_left.stages_left is in omega (arith, two)
opens_falls (Data.Opening transfer (Ways.Connect endpoint)) peer v is links = let two : far_left.stages_left v.session.connection ≡ 2 = ap far_left.stages_left is in omega (arith, two)
opens_falls (Data.Transferring Transfers.OverLimit) peer v is links = no_link links
opens_falls connection peer v is links = no_link links

-- the same, of what a call finds
step_falls : (host : Host) (v : Far) → v.session.closing ≡ false → Links (wants_of v.session.connection) → far_left.to_begin (opened_step host v) < far_left.to_begin v
step_falls host v is links =
    let peer : Bool = same_host host v.context.peer in
    let found : connection_of v.session ≡ v.session.connection = ap (λ (b : Bool). if b then Data.Free else v.session.connection) is in
    let P : ServerLink FarTransfer → Type 0 = λ connection. far_left.to_begin (opens connection peer v) < far_left.to_begin v in
    let less = subst P (sym found) (opens_falls v.session.connection peer v refl links) in
    let low = completed_lowers 0 (opens (connection_of v.session) peer v) (opens (connection_of v.session) peer v) (fars.same (opens (connection_of v.session) peer v)) in
    omega (arith, less, low.begins)

-- the same, as a call
far_opened_falls : (host : Host) (v : Far) → v.session.closing ≡ false → Links (wants_of v.session.connection) → far_left.to_begin (far.data_opened host v) < far_left.to_begin v
unfolding far.data_opened
far_opened_falls host v is links =
    let less = step_falls host v is links in
    elim (later_cases (opened_step host v)) [
      | inl more ↦ omega (arith, less, more)
      | inr same ↦ subst (λ u. far_left.to_begin u < far_left.to_begin v) (sym same) less
    ]

-- an opening falls
pub opens_less : (w : World) → is_asked_for w ≡ true → Less (link_opens w) w
opens_less w is =
    let wanted = (and_parts (is_gone w.link) (is_wanted (near.wants w.near) (far.wants w.far)) is).1 in
    let links = wanted_links (is_connecting (near.wants w.near)) (is_accepting (near.wants w.near)) (is_connecting (far.wants w.far)) (is_accepting (far.wants w.far)) wanted in
    let found = link_or w.far.session.closing (is_done w.far.session.life w.far.owed) (wants_of w.far.session.connection) links in
    let low = (calls_lower w.near).opened_lowers w.far.context.here in
    le_then _ _ low.begins (λ e. elim low.gives [
      | inl less ↦ not_less _ _ e less
      | inr gives ↦ le_then _ _ (omega (arith, gives)) (λ f. inl (far_opened_falls w.near.here w.far found.0 found.1))
    ])

-- and leaves both ends apart
pub opens_apart : (w : World) → AreApart w → AreApart (link_opens w)
opens_apart w a = record { near = (keeps.data_opened_keep w.far.context.here w.near).apart a.near; far = data_opened_apart w.near.here w.far a.far }

-- ---- the end of the data connection

-- the server is told that the link is closed
pub end_to_server : (link : Link) (w : World) → w.link ≡ link → is_closed_by_near link ≡ true → Less (told DataToServer w) w
end_to_server ClosedByNear w is can = let one : ends_to_server w.link ≡ 1 = ap ends_to_server is in inr (refl, inl (omega (arith, one)))
end_to_server link w is can = absurd (cc)

-- the client is told
pub end_to_client : (link : Link) (w : World) → w.link ≡ link → is_closed_by_far link ≡ true → Less (told DataToClient w) w
end_to_client ClosedByFar w is can =
    let one : ends_to_client w.link ≡ 1 = ap ends_to_client is in
    let low = (calls_lower w.near).end_lowers in
    le_then _ _ low.begins (λ e. elim low.gives [
      | inl less ↦ not_less _ _ e less
      | inr gives ↦ le_then _ _ (omega (arith, gives)) (λ f. inr (refl, inl (omega (arith, one))))
    ])
end_to_client link w is can = absurd (cc)
