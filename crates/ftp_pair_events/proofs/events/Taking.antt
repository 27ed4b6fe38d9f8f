-- The first octets of a queue are taken by its receiver.
use Rattle.std.proofs.Common.{◌≡◌, ℕ, zero, suc, ◌<◌, ◌≤◌, Bool, List, [], ◌∷◌, length, take, drop, refl, sym, ap, subst, ◌∙◌, arith}
use Rattle.std.specs.Prelude.{min, IsTrue}
use Rattle.std.proofs.lemmas.List.{length-take, take-take}
use Rattle.ftp_client_model.specs.Calls as near
use Rattle.ftp_server_model.specs.Machine as machine
use Rattle.ftp_server_model.specs.Machine.{Reading, hears_octet}
use Rattle.ftp_server_model.specs.View.{View as Far}
use Rattle.ftp_server_model.specs.Calls as far
use Rattle.laws_world.specs.Events.{Queue, ControlToServer, ControlToClient, DataToServer, DataToClient, Takes, in_queue, may_take, pushed, taking}
use Rattle.laws_world.specs.World.{World}
use Rattle.ftp_ends.specs.Octets.{has_octets}

-- an octet is there
pub above_none : (l : List ℕ) → IsTrue (has_octets l) → 0 < length l
above_none [] some = absurd (cc (some))
above_none (octet ∷ l) some = omega arith

-- no more is taken than was offered
few_of : (most taken : ℕ) (l : List ℕ) → taken ≤ length (take most l) → taken ≤ min most (length l)
few_of most taken l few = let is = length-take most l in omega (arith, few, is)

-- some octets were offered
some_of : (most : ℕ) (l : List ℕ) → 0 < most → 0 < length l → 0 < length (take most l)
some_of most l room some = let is = length-take most l in omega (arith, room, some, is)

-- what comes before the last that was taken was offered
below : (k taken most : ℕ) (l : List ℕ) → k < taken → taken ≤ length (take most l) → k ≤ most
below k taken most l less few = let is = length-take most l in omega (arith, less, few, is)

-- each of these octets could be heard when its turn came
heard_each : (read : Reading) (v : Far) (octets : List ℕ) → machine.MayHear read v octets → (k : ℕ) → k < length octets → IsTrue (machine.may_hear (machine.hears read v (take k octets)))
heard_each read v [] may k less = absurd (omega (arith, less))
heard_each read v (octet ∷ octets) may zero less = may.0
heard_each read v (octet ∷ octets) may (suc k) less = heard_each read (hears_octet read v octet) octets may.1 k (omega (arith, less))

-- the octets that were heard are the first of the queue
pub heard_front : (taken most : ℕ) (piece queue : List ℕ) → piece ≡ take most queue → taken ≤ length piece → take taken piece ≡ take taken queue
heard_front taken most piece queue e few =
    let less : taken ≤ length (take most queue) = subst (λ p. taken ≤ length p) e few in
    ap (take taken) e ∙ take-take taken most queue (let is = length-take most queue in omega (arith, less, is))

-- what a server heard leaves the queue, and is lent
pub pushed_server_of : (read : Reading) (taken most : ℕ) (piece : List ℕ) (w : World) (far : Far) (queue lent : List ℕ)
    → piece ≡ take most w.control_to_server → taken ≤ length piece → far ≡ machine.hears read w.far (take taken piece)
    → queue ≡ drop taken w.control_to_server → lent ≡ take taken w.control_to_server
    → record w { far = far; control_to_server = queue; taken = lent } ≡ pushed read ControlToServer taken (taking ControlToServer taken w)
pushed_server_of read taken most piece w far queue lent e few far_is queue_is lent_is =
    let heard = far_is ∙ ap (machine.hears read w.far) (heard_front taken most piece w.control_to_server e few) in
    λ i. record w { far = heard i; control_to_server = queue_is i; taken = lent_is i }

-- some octets of a queue are taken, by what is asked of its receiver
takes_by : (read : Reading) (queue : Queue) (most taken : ℕ) (piece : List ℕ) (w : World) (says : List ℕ → Bool) → piece ≡ take most (in_queue queue w)
    → taken ≤ length piece → ((k : ℕ) → says (take k (in_queue queue w)) ≡ may_take queue (pushed read queue k w)) → ((k : ℕ) → k < taken → IsTrue (says (take k piece)))
    → (IsTrue (may_take queue w) → 0 < length piece → 0 < taken) → Takes read queue most w taken
takes_by read queue most taken piece w says e few same may some =
    let whole : List ℕ = in_queue queue w in
    let less : taken ≤ length (take most whole) = subst (λ p. taken ≤ length p) e few in
    record {
      within = few_of most taken whole less;
      may = λ k below_taken. sym (same k) ∙ ap says (sym (ap (take k) e ∙ take-take k most whole (below k taken most whole below_taken less))) ∙ may k below_taken;
      some = λ room has can. some can (subst (λ p. 0 < length p) (sym e) (some_of most whole room (above_none whole has)));
    }

-- the client took so many octets of the link
pub near_data_takes : (read : Reading) (most taken : ℕ) (piece : List ℕ) (w : World) → piece ≡ take most w.data_to_client → taken ≤ length piece
    → near.MayReceiveFront w.near piece taken → (IsTrue (near.may_receive w.near) → 0 < length piece → 0 < taken) → Takes read DataToClient most w taken
near_data_takes read most taken piece w e few may some = takes_by read DataToClient most taken piece w (λ p. near.may_receive (near.receives w.near p)) e few (λ k. refl) may some

-- the client took so many of what was offered to it
pub near_takes : (read : Reading) (most taken : ℕ) (piece : List ℕ) (w : World) → piece ≡ take most w.control_to_client → taken ≤ length piece
    → near.MayHearFront w.near piece taken → (IsTrue (near.may_hear w.near) → 0 < length piece → 0 < taken) → Takes read ControlToClient most w taken
near_takes read most taken piece w e few may some = takes_by read ControlToClient most taken piece w (λ p. near.may_hear (near.hears w.near p)) e few (λ k. refl) may some

-- the server did
pub far_takes : (read : Reading) (most taken : ℕ) (piece : List ℕ) (w : World) → piece ≡ take most w.control_to_server → taken ≤ length piece
    → machine.MayHear read w.far (take taken piece) → (IsTrue (machine.may_hear w.far) → 0 < length piece → 0 < taken) → Takes read ControlToServer most w taken
far_takes read most taken piece w e few may some =
    takes_by read ControlToServer most taken piece w (λ p. machine.may_hear (machine.hears read w.far p)) e few (λ k. refl)
    (λ k less. subst (λ p. IsTrue (machine.may_hear (machine.hears read w.far p))) (take-take k taken piece (omega (arith, less)))
    (heard_each read w.far (take taken piece) may k (let t = length-take taken piece in omega (arith, less, few, t)))) some

-- each of these octets could be taken when its turn came
received_each : (v : Far) (octets : List ℕ) → far.MayReceive v octets → (k : ℕ) → k < length octets → IsTrue (far.may_receive (far.receives v (take k octets)))
received_each v [] may k less = absurd (omega (arith, less))
received_each v (octet ∷ octets) may zero less = may.0
received_each v (octet ∷ octets) may (suc k) less = received_each (far.receives_octet v octet) octets may.1 k (omega (arith, less))

-- the server did
pub far_data_takes : (read : Reading) (most taken : ℕ) (piece : List ℕ) (w : World) → piece ≡ take most w.data_to_server → taken ≤ length piece
    → far.MayReceive w.far (take taken piece) → (IsTrue (far.may_receive w.far) → 0 < length piece → 0 < taken) → Takes read DataToServer most w taken
far_data_takes read most taken piece w e few may some =
    takes_by read DataToServer most taken piece w (λ p. far.may_receive (far.receives w.far p)) e few (λ k. refl)
    (λ k less. subst (λ p. IsTrue (far.may_receive (far.receives w.far p))) (take-take k taken piece (omega (arith, less)))
    (received_each w.far (take taken piece) may k (let t = length-take taken piece in omega (arith, less, few, t)))) some

-- what is so of a queue is so of whatever is that queue
pub pushed_over : (read : Reading) (queue other : Queue) (taken : ℕ) (old new : World) → queue ≡ other → new ≡ pushed read queue taken (taking queue taken old)
    → new ≡ pushed read other taken (taking other taken old)
pushed_over read queue other taken old new is did = subst (λ q. new ≡ pushed read q taken (taking q taken old)) is did

pub takes_over : (read : Reading) (queue other : Queue) (most taken : ℕ) (w : World) → queue ≡ other → Takes read queue most w taken → Takes read other most w taken
takes_over read queue other most taken w is takes = subst (λ q. Takes read q most w taken) is takes
