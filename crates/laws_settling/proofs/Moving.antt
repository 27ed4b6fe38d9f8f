-- Octets that move: each call of a sender that gives, each queue that is filled and each octet that is taken lowers the first number that it changes.
use Rattle.std.proofs.Common.{◌≡◌, ℕ, zero, suc, ◌+◌, ◌-◌, ◌<◌, ◌≤◌, ◌⊎◌, inl, inr, List, [], ◌∷◌, ◌++◌, length, take, drop, false, refl, sym, ap, subst, arith, length-append}
use Rattle.std.specs.Prelude.{if◌then◌else◌}
use Rattle.std.proofs.lemmas.Bool.{cond_both}
use Rattle.std.proofs.lemmas.List.{length-drop, length-take}
use Rattle.ftp_client_model.specs.Bounds.{AddsAtMost}
use Rattle.ftp_client_model.specs.Calls as near
use Rattle.ftp_client_model.specs.View.{View as Near}
use Rattle.ftp_server_model.specs.Bounds as far_left
use Rattle.ftp_server_model.specs.Calls as far
use Rattle.ftp_server_model.specs.Machine.{Reading, later}
use Rattle.ftp_server_model.specs.View.{View as Far}
use Rattle.laws_world.specs.Events.{Queue, ControlToServer, ControlToClient, DataToServer, DataToClient, due, filled, in_queue, pulled, pushed}
use Rattle.laws_world.specs.Serving.{after_event}
use Rattle.laws_world.specs.Settling.{Falls, left_in}
use Rattle.laws_world.specs.World.{World}
use Rattle.laws_settling.specs.Steady.{AreApart, AsksNothing}
use Rattle.laws_settling.proofs.Asking.{asked_front, hears_low}
use Rattle.laws_settling.proofs.FarLinesOwe.{out_asks}
use Rattle.laws_settling.proofs.FarCallsApart.{gives_control_apart, gives_data_apart}
use Rattle.ftp_server_model.proofs.ServerBounds.{given_step_lowers}
use Rattle.laws_settling.proofs.FarLow.{later_cases}
use Rattle.ftp_client_model.proofs.ClientBounds.{both}
use Rattle.ftp_client_model.proofs.ClientBounds as bounds
use Rattle.ftp_client_model.proofs.ClientCalls.{receiving_lowers}
use Rattle.ftp_client_model.proofs.ClientGiving.{giving_pays}
use Rattle.ftp_server_model.specs.Calls.{connection_of, given_by, takes_given}
use Rattle.ftp_server_model.specs.Machine.{completed, given_out}
use Rattle.ftp_server_model.specs.View.{Transfer as FarTransfer}
use Rattle.ftp_server_model.specs.declared.session.ServerLink.{ServerLink}
use Rattle.ftp_server_model.specs.declared.session.ServerLink.TheVariants as Data
use Rattle.ftp_server_model.specs.declared.session.Transfer.TheVariants as Transfers
use Rattle.laws_world.specs.Events.{Fills, Gives, MayTakeFrom}
use Rattle.laws_settling.proofs.NearApart as keeps
use Rattle.laws_settling.proofs.NearGives.{data_owes}
use Rattle.laws_settling.proofs.Order.{falls_most, le_then, most_most, most_same, not_less}
use Rattle.laws_settling.proofs.Served.{Most, after_served}

-- less is to do in one world than in another
abbrev pub Less : (new old : World) → Type 0
Less new old = Falls (left_in new) (left_in old)

-- what an event did, and what is served behind it
pub served_behind : (old mid new : World) → Less mid old → AreApart mid → new ≡ after_event mid → Less new old
served_behind old mid new less apart is =
    subst (λ w. Less w old) (sym is) (falls_most (left_in old) (left_in mid) (left_in (after_event mid)) less (after_served mid apart).most)

-- ---- octets are pulled

-- so many octets more are on their way
pub few_taken : (queue owed : List ℕ) (count : ℕ) → count ≤ length owed → length (queue ++ take count owed) ≡ length queue + count
few_taken queue owed count few = omega (arith, length-append queue (take count owed), length-take count owed, few)

-- control octets leave the client
pub control_out : (count : ℕ) (w : World) → 0 < count → count ≤ length w.near.owed → Less (pulled ControlToServer w count) w
control_out count w some few =
    let queue = few_taken w.control_to_server w.near.owed count few in
    inr (refl, inr (omega (arith, queue, length-drop count w.near.owed, few), inr (refl, inr (refl, omega (arith, length-drop count w.near.owed, few, some)))))

-- control octets leave the server: less is to begin, or they are less to give
far_out : (count : ℕ) (w : World) (f : Far) → 0 < count → count ≤ length w.far.owed → (far_left.to_begin f < far_left.to_begin w.far) ⊎ (f ≡ far.control_step count w.far)
    → Less (record w { control_to_client = w.control_to_client ++ take count w.far.owed; far = f }) w
far_out count w f some few (inl less) = inr (refl, inr (refl, inl less))
far_out count w f some few (inr is) =
    let queue = few_taken w.control_to_client w.far.owed count few in
    subst (λ f. Less (record w { control_to_client = w.control_to_client ++ take count w.far.owed; far = f }) w) (sym is)
    (inr (refl, inr (refl, inr (refl, inr (omega (arith, queue, length-drop count w.far.owed, few), omega (arith, length-drop count w.far.owed, few, some))))))

-- what the line that waits does then
far_steps : (count : ℕ) (v : Far) → (far_left.to_begin (far.gives_control count v) < far_left.to_begin v) ⊎ (far.gives_control count v ≡ far.control_step count v)
unfolding far.gives_control
far_steps count v = later_cases (far.control_step count v)

-- the same, as a call
pub replies_out : (count : ℕ) (w : World) → 0 < count → count ≤ length w.far.owed → Less (pulled ControlToClient w count) w
replies_out count w some few = far_out count w (far.gives_control count w.far) some few (far_steps count w.far)

-- octets of an upload leave the client
pub data_out : (count : ℕ) (w : World) → 0 < count → count ≤ length (near.to_give w.near) → Less (pulled DataToServer w count) w
data_out count w some few =
    let queue = few_taken w.data_to_server (near.to_give w.near) count few in
    let pays = (giving_pays w.near).data_pays count few in
    le_then _ _ pays.begins (λ same. elim pays.gives [
      | inl less ↦ not_less _ _ same less
      | inr gives ↦ le_then _ _ (omega (arith, queue, gives)) (λ e. inr (
        refl,
        inr (
          refl,
          elim (data_owes count w.near few) [
            | inl less ↦ not_less _ _ same less
            | inr owes ↦ omega (arith, owes, some)
          ],
        ),
      ))
    ])

-- a download or a listing whose last octet was given is over, or all is as it was
given_out_cases : (connection : ServerLink FarTransfer) (v : Far) → v.session.connection ≡ connection
    → (far_left.to_begin (given_out connection v) < far_left.to_begin v) ⊎ (given_out connection v ≡ v)
given_out_cases (Data.Transferring (Transfers.Download [])) v is = let one : far_left.stages_left v.session.connection ≡ 1 = ap far_left.stages_left is in inl (omega (arith, one))
given_out_cases (Data.Transferring (Transfers.Listing [])) v is = let one : far_left.stages_left v.session.connection ≡ 1 = ap far_left.stages_left is in inl (omega (arith, one))
given_out_cases connection v is = inr refl

-- the same, of what stands
completed_cases : (v : Far) → (far_left.to_begin (completed v) < far_left.to_begin v) ⊎ (completed v ≡ v)
completed_cases v = given_out_cases v.session.connection v refl

-- less is to begin, or so much less is to be given and owed
abbrev pub FarGives : ℕ → Far → Far → Type 0
FarGives count old new =
    (far_left.to_begin new < far_left.to_begin old)
    ⊎ ((far_left.to_begin new ≤ far_left.to_begin old) × (far_left.still_to_give new + count ≤ far_left.still_to_give old)
    × (length new.owed + length (far.to_give new) + count ≤ length old.owed + length (far.to_give old)))

-- and then less is to begin, or nothing changes
gives_or_same : (count : ℕ) (old mid new : Far) → FarGives count old mid → (far_left.to_begin new < far_left.to_begin mid) ⊎ (new ≡ mid) → FarGives count old new
gives_or_same count old mid new (inl less) (inl more) = inl (omega (arith, less, more))
gives_or_same count old mid new (inr gives) (inl more) = inl (omega (arith, gives.0, more))
gives_or_same count old mid new gives (inr same) = subst (FarGives count old) (sym same) gives

-- no octets are none less
none_left : (count : ℕ) (v : Far) → count ≤ 0 → length (far.to_give v) + count ≤ length (far.to_give v)
none_left count v none = omega (arith, none)

-- what was given is less to be given, where no close is wanted
drops : (count : ℕ) (rest : List ℕ) (v new : Far) (connection : ServerLink FarTransfer) → v.session.closing ≡ false → new.session.closing ≡ false
    → length (given_by v.session.connection) ≡ length rest → length (given_by new.session.connection) ≡ length (drop count rest) → count ≤ length rest
    → length (far.to_give new) + count ≤ length (far.to_give v)
drops count rest v new connection is also old given few =
    let a : length (far.to_give v) ≡ length (given_by v.session.connection) = ap (λ b. length (given_by (if b then Data.Free else v.session.connection))) is in
    let b : length (far.to_give new) ≡ length (given_by new.session.connection) = ap (λ b. length (given_by (if b then Data.Free else new.session.connection))) also in
    omega (arith, a, b, old, given, length-drop count rest, few)

-- what was given of what stands is less to give
open_given : (count : ℕ) (connection : ServerLink FarTransfer) (v : Far) → v.session.closing ≡ false → v.session.connection ≡ connection → count ≤ length (given_by connection)
    → length (far.to_give (takes_given connection count v)) + count ≤ length (far.to_give v)
open_given count (Data.Transferring (Transfers.Download rest)) v open_is is few =
    drops count rest v (takes_given (Data.Transferring (Transfers.Download rest)) count v) v.session.connection open_is open_is (ap (λ c. length (given_by c)) is) refl few
open_given count (Data.Transferring (Transfers.Listing rest)) v open_is is few =
    drops count rest v (takes_given (Data.Transferring (Transfers.Listing rest)) count v) v.session.connection open_is open_is (ap (λ c. length (given_by c)) is) refl few
open_given count connection v open_is is few = none_left count v few

-- and of what a call finds
all_given : (count : ℕ) (v : Far) → count ≤ length (far.to_give v) → length (far.to_give (takes_given (connection_of v.session) count v)) + count ≤ length (far.to_give v)
all_given count v few =
    let P : ServerLink FarTransfer → Type 0 = λ connection. count ≤ length (given_by connection) → length (far.to_give (takes_given connection count v)) + count ≤ length (far.to_give v) in
    cond_both v.session.closing Data.Free v.session.connection P (λ is none. none_left count v none) (λ is fewer. open_given count v.session.connection v is refl fewer) few

-- control octets are owed as before
given_owed : (count : ℕ) (connection : ServerLink FarTransfer) (v : Far) → (takes_given connection count v).owed ≡ v.owed
given_owed count (Data.Transferring (Transfers.Download rest)) v = refl
given_owed count connection v = refl

-- so many octets less are to give
takes_gives : (count : ℕ) (v : Far) → count ≤ length (far.to_give v) → FarGives count v (takes_given (connection_of v.session) count v)
takes_gives count v few =
    let low = given_step_lowers count v few in
    let same : length (takes_given (connection_of v.session) count v).owed ≡ length v.owed = ap length (given_owed count (connection_of v.session) v) in
    elim low.gives [
      | inl less ↦ inl less
      | inr gives ↦ inr (low.begins, gives, omega (arith, same, all_given count v few))
    ]

-- and behind the line that waits
far_gives : (count : ℕ) (v : Far) → count ≤ length (far.to_give v) → FarGives count v (far.gives_data count v)
unfolding far.gives_data
far_gives count v few =
    let given : Far = takes_given (connection_of v.session) count v in
    gives_or_same count v (completed given) (later (completed given)) (gives_or_same count v given (completed given) (takes_gives count v few) (completed_cases given)) (later_cases (completed given))

-- octets of a download leave the server
pub file_out : (count : ℕ) (w : World) → 0 < count → count ≤ length (far.to_give w.far) → Less (pulled DataToClient w count) w
file_out count w some few =
    let queue = few_taken w.data_to_client (far.to_give w.far) count few in
    elim (far_gives count w.far few) [
      | inl less ↦ inr (refl, inr (refl, inl less))
      | inr gives ↦ inr (refl, inr (refl, le_then _ _ gives.0 (λ e. le_then _ _ (omega (arith, queue, gives.1)) (λ f. omega (arith, gives.2, some)))))
    ]

-- so each call of a sender that gives lowers a number
pub pull_less : (queue : Queue) (count : ℕ) (w : World) → 0 < count → count ≤ length (due queue w) → Less (pulled queue w count) w
pull_less ControlToServer count w some few = control_out count w some few
pull_less ControlToClient count w some few = replies_out count w some few
pull_less DataToServer count w some few = data_out count w some few
pull_less DataToClient count w some few = file_out count w some few

-- and leaves both ends apart
pub pull_apart : (queue : Queue) (count : ℕ) (w : World) → AreApart w → AreApart (pulled queue w count)
pull_apart ControlToServer count w a = record { near = a.near; far = a.far }
pull_apart ControlToClient count w a = record { near = a.near; far = gives_control_apart count w.far a.far }
pull_apart DataToServer count w a = record { near = (keeps.gives_data_keep count w.near).apart a.near; far = a.far }
pull_apart DataToClient count w a = record { near = a.near; far = gives_data_apart count w.far a.far }

-- ---- a queue is filled

-- less is no more
pub less_most : (a b : World) → Less b a → Most b a
less_most a b (inl x) = inl x
less_most a b (inr (e, inl x)) = inr (e, inl x)
less_most a b (inr (e, inr (f, inl x))) = inr (e, inr (f, inl x))
less_most a b (inr (e, inr (f, inr (g, inl x)))) = inr (e, inr (f, inr (g, inl x)))
less_most a b (inr (e, inr (f, inr (g, inr (h, x))))) = inr (e, inr (f, inr (g, inr (h, omega (arith, x)))))

-- a call gives no more than is due
pub gives_few : (room : ℕ) (owed : List ℕ) (count : ℕ) → Gives room owed count → count ≤ length owed
gives_few room owed count g = omega (arith, g.within)

-- a queue that is filled makes no more to do
pub fill_most : (queue : Queue) (count : ℕ) (w : World) (counts : List ℕ) → Fills queue count w counts → Most (filled queue w counts) w
fill_most queue count w [] fills = most_same (left_in w)
fill_most queue count w (gave ∷ counts) fills =
    let u : World = pulled queue w gave in
    most_most (left_in w) (left_in u) (left_in (filled queue u counts)) (less_most w u (pull_less queue gave w fills.1 (gives_few (count - length (in_queue queue w)) (due queue w) gave fills.0))) (fill_most queue count u counts fills.2)

-- and less, where a call gave
pub fill_less : (queue : Queue) (count : ℕ) (w : World) (gave : ℕ) (counts : List ℕ) → Fills queue count w (gave ∷ counts) → Less (filled queue w (gave ∷ counts)) w
fill_less queue count w gave counts fills =
    let u : World = pulled queue w gave in
    falls_most (left_in w) (left_in u) (left_in (filled queue u counts)) (pull_less queue gave w fills.1 (gives_few (count - length (in_queue queue w)) (due queue w) gave fills.0)) (fill_most queue count u counts fills.2)

-- it leaves both ends apart
pub fill_apart : (queue : Queue) (w : World) (counts : List ℕ) → AreApart w → AreApart (filled queue w counts)
fill_apart queue w [] a = a
fill_apart queue w (gave ∷ counts) a = fill_apart queue (pulled queue w gave) counts (pull_apart queue gave w a)

-- replies on their way ask nothing
pub pull_asks : (count : ℕ) (w : World) → AsksNothing w → AsksNothing (pulled ControlToClient w count)
pull_asks count w asks sound = out_asks w.near.ear.place w.control_to_client count w.far (asks sound)

-- nor do those of several calls
pub fill_asks : (w : World) (counts : List ℕ) → AsksNothing w → AsksNothing (filled ControlToClient w counts)
fill_asks w [] asks = asks
fill_asks w (gave ∷ counts) asks = fill_asks (pulled ControlToClient w gave) counts (pull_asks gave w asks)

-- ---- octets are taken

-- some were taken and less is to do, or none
abbrev pub Pushes : ℕ → World → World → Type 0
Pushes count old new = Less new old ⊎ ((count ≡ 0) × Most new old)

-- the server hears
pub control_in : (read : Reading) (count : ℕ) (w : World) → count ≤ length w.control_to_server → Pushes count w (pushed read ControlToServer count w)
control_in read zero w few = inr (refl, most_same (left_in w))
control_in read (suc count) w few = inl (inr (refl, inl (omega (arith, length-drop (suc count) w.control_to_server, few))))

-- the server receives
pub data_in : (read : Reading) (count : ℕ) (w : World) → count ≤ length w.data_to_server → Pushes count w (pushed read DataToServer count w)
data_in read zero w few = inr (refl, most_same (left_in w))
data_in read (suc count) w few = inl (inr (refl, inl (omega (arith, length-drop (suc count) w.data_to_server, few))))

-- the client hears what asks nothing
pub replies_in : (read : Reading) (count : ℕ) (w : World) → AsksNothing w → MayTakeFrom read ControlToClient w count → count ≤ length w.control_to_client
    → Pushes count w (pushed read ControlToClient count w)
replies_in read zero w asks may few = inr (refl, most_same (left_in w))
replies_in read (suc count) w asks may few =
    let low = hears_low (suc count) w.control_to_client w.near may (λ sound. asked_front w.control_to_client w.far.owed w.near.ear.place (asks sound).none) in
    inl (le_then _ _ low.begins (λ e. elim low.gives [
      | inl less ↦ not_less _ _ e less
      | inr gives ↦ le_then _ _ (omega (arith, gives)) (λ f. inr (refl, inl (omega (arith, length-drop (suc count) w.control_to_client, few))))
    ]))

-- octets of the link make no more to do for the client
receives_low : (octets : List ℕ) (v : Near) → AddsAtMost 0 v (near.receives v octets)
receives_low [] v = bounds.same v
receives_low (octet ∷ octets) v = both 0 v (near.receives_octet v octet) (near.receives (near.receives_octet v octet) octets) (receiving_lowers v octet) (receives_low octets (near.receives_octet v octet))

-- the client receives
pub file_in : (read : Reading) (count : ℕ) (w : World) → count ≤ length w.data_to_client → Pushes count w (pushed read DataToClient count w)
file_in read zero w few = inr (refl, most_same (left_in w))
file_in read (suc count) w few =
    let low = receives_low (take (suc count) w.data_to_client) w.near in
    inl (le_then _ _ low.begins (λ e. elim low.gives [
      | inl less ↦ not_less _ _ e less
      | inr gives ↦ le_then _ _ (omega (arith, gives)) (λ f. inr (refl, inl (omega (arith, length-drop (suc count) w.data_to_client, few))))
    ]))
