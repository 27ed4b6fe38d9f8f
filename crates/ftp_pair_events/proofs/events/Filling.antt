-- A queue is filled by one call after the other.
use Rattle.std.proofs.Common.{◌≡◌, ℕ, suc, ◌-◌, ◌<◌, ◌≤◌, ◌&&◌, Bool, true, false, List, [], ◌∷◌, ◌++◌, length, refl, sym, ap, subst, ◌∙◌, append-nil, append_assoc, arith}
use Rattle.std.specs.Prelude.{◌==◌, nat_eq, nat_lt, not, min, vec_capacity, IsTrue}
use Rattle.std.proofs.lemmas.Bool.Decides.{nat_tests}
use Rattle.laws_world.specs.Events.{Queue, pulled, filled, Fills, Gives, Moves, due, in_queue, can_happen, Happens}
use Rattle.ftp_ends.specs.Octets.{has_octets}
use Rattle.laws_world.specs.World.{World}
use Rattle.ftp_server_model.specs.Machine.{Reading}
use Rattle.laws_world.specs.Events.{Takes, taking, pushed, Deliver, Delivers, DeliversBy, lends_none}
use Rattle.laws_world.specs.Serving.{after_event}
use Rattle.ftp_client_model.specs.Failing.{Client}
use Rattle.ftp_server_model.specs.Far.{Server}
use Rattle.ftp_pair_events.specs.declared.events.parts.Parts.{Parts}
use Rattle.ftp_pair_events.specs.declared.queues.between.Queue.{Queue as Channel}
use Rattle.ftp_pair_events.specs.declared.queues.between.Queue.TheVariants as Channels
use Rattle.ftp_pair_events.specs.events.Shown.{FillsTo, FillsSo, Offers, Carries, Steps, shown, queue_of, len_of, queue_room_of}

-- calls after calls
pub filled_more : (queue : Queue) (w : World) (counts more : List ℕ) → filled queue w (counts ++ more) ≡ filled queue (filled queue w counts) more
filled_more queue w [] more = refl
filled_more queue w (count ∷ counts) more = filled_more queue (pulled queue w count) counts more

-- nothing was given yet
pub none_so : (queue : Queue) (count : ℕ) (w : World) → FillsSo queue count w w
none_so queue count w = record { counts = []; before = λ more f. f; is = refl }

-- one call more
pub one_so : (queue : Queue) (count most gave : ℕ) (old mid new : World) → FillsSo queue count old mid → new ≡ pulled queue mid gave
    → Gives (count - length (in_queue queue mid)) (due queue mid) gave → 0 < gave → FillsSo queue count old new
one_so queue count most gave old mid new so is gives some = record {
  counts = so.counts ++ gave ∷ [];
  before = λ more f. subst (Fills queue count old) (sym (append_assoc so.counts (gave ∷ []) more))
      (so.before (gave ∷ more) (gives, some, subst (λ w. Fills queue count w more) is f));
  is = is ∙ ap (λ w. pulled queue w gave) so.is ∙ sym (filled_more queue old so.counts (gave ∷ []));
}

-- there is room for less, but for some
pub wider : (most room gave : ℕ) (l : List ℕ) → most ≤ room → 0 < most → Gives most l gave → Gives room l gave
wider most room gave l few some g = record { within = omega (arith, few, g.within); some = λ h k. g.some some k }

-- where no call is to follow, the queue is filled
pub none_more : (queue : Queue) (count : ℕ) (old new : World) → FillsSo queue count old new → (has_octets (due queue new) && nat_lt (length (in_queue queue new)) count) ≡ false
    → FillsTo queue count old new
none_more queue count old new so over = record {
  counts = so.counts;
  fills = subst (Fills queue count old) (append-nil so.counts) (so.before [] over);
  is = so.is;
}

-- a call while some octets are due, with room for as many as are still wanted or for less
pub goes_on : (queue : Queue) (count len most gave : ℕ) (old mid new : World) → FillsSo queue count old mid → new ≡ pulled queue mid gave
    → len ≡ length (in_queue queue mid) → len < count → most ≡ min (count - len) 4096 → Gives most (due queue mid) gave → true ≡ has_octets (due queue mid)
    → FillsSo queue count old new
goes_on queue count len most gave old mid new so is len_is few most_is gives some =
    let has : IsTrue (has_octets (due queue mid)) = sym some in
    let room : 0 < most = omega (arith, few, most_is) in
    let within : most ≤ count - length (in_queue queue mid) = subst (λ n. most ≤ count - n) len_is (omega (arith, most_is)) in
    one_so queue count most gave old mid new so is (wider most (count - length (in_queue queue mid)) gave (due queue mid) within room gives) (gives.some room has)

-- some octets were given
pub gave_some : (len count most gave : ℕ) (l : List ℕ) → len < count → most ≡ min (count - len) 4096 → Gives most l gave → true ≡ has_octets l → 0 < gave
gave_some len count most gave l few most_is gives some = gives.some (omega (arith, few, most_is)) (sym some)

-- nothing is due
pub none_due : (queue : Queue) (count : ℕ) (old new : World) → FillsSo queue count old new → false ≡ has_octets (due queue new) → FillsTo queue count old new
none_due queue count old new so none =
    none_more queue count old new so (ap (λ b. b && nat_lt (length (in_queue queue new)) count) (sym none))

-- so many octets are there
pub all_there : (queue : Queue) (count : ℕ) (old new : World) → FillsSo queue count old new → count ≤ length (in_queue queue new) → FillsTo queue count old new
all_there queue count old new so many =
    none_more queue count old new so
    (let e : nat_lt (length (in_queue queue new)) count ≡ false = grind (arith, nat_tests, many) in ap (λ b. has_octets (due queue new) && b) e ∙ and_false (has_octets (due queue new)))
  where
    and_false : (b : Bool) → (b && false) ≡ false
    and_false true = refl
    and_false false = refl

-- a queue that is filled, and octets of it that are taken, are a delivery
pub offers : (read : Reading) (queue : Queue) (count taken : ℕ) (old mid new : World) → FillsTo queue count old mid → Takes read queue count mid taken
    → new ≡ pushed read queue taken (taking queue taken mid) → Offers read queue count old new
offers read queue count taken old mid new f takes is = record {
  counts = f.counts;
  taken = taken;
  fills = f.fills;
  takes = subst (λ w. Takes read queue count w taken) f.is takes;
  is = is ∙ ap (λ w. pushed read queue taken (taking queue taken w)) f.is;
}

-- a delivery of some octets, whatever is served after it
pub offers_so : (read : Reading) (queue : Queue) (count : ℕ) (old mid : World) → 0 < count → Offers read queue count old mid → Carries read queue count old mid
offers_so read queue count old mid some o new is =
    let any : (count == 0) ≡ false = grind (arith, nat_tests, some) in
    let does : Delivers read queue count old new = record { counts = o.counts; taken = o.taken; fills = o.fills; takes = o.takes; is = is ∙ ap after_event o.is } in
    subst (λ b. DeliversBy b read queue count old new) (sym any) does

-- a delivery of none is one call
pub moves_so : (read : Reading) (queue : Queue) (gave : ℕ) (old mid : World) → Gives 4096 (due queue old) gave → mid ≡ pulled queue old gave → Carries read queue 0 old mid
moves_so read queue gave old mid gives moved new is =
    let does : Moves queue old new = record { gave = gave; gives = gives; is = is ∙ ap after_event moved } in does

-- the same where so many are none
pub moves_none : (read : Reading) (queue : Queue) (count gave : ℕ) (old mid : World) → count ≡ 0 → Gives 4096 (due queue old) gave → mid ≡ pulled queue old gave → Carries read queue count old mid
moves_none read queue count gave old mid none gives moved = subst (λ n. Carries read queue n old mid) (sym none) (moves_so read queue gave old mid gives moved)

-- a whole delivery
pub delivered : (read : Reading) (queue : Queue) (count : ℕ) (old ready mid new : World) → IsTrue (can_happen (Deliver queue count) old) → ready ≡ lends_none old
    → Carries read queue count ready mid → new ≡ after_event mid → Happens read (Deliver queue count) old true new
delivered read queue count old ready mid new can is carries served = (can, subst (λ w. Carries read queue count w mid) is carries new served)

-- a queue's length is that of its octets
pub len_is : {A T N F : Type 0} (near : N → Client) (far : F → Server) (queue : Channel) (parts : Parts A T N F) → len_of queue parts ≡ length (in_queue (queue_of queue) (shown near far parts))
len_is near far Channels.ControlToServer parts = omega (arith, parts.control_to_server.octets.ok.0)
len_is near far Channels.ControlToClient parts = omega (arith, parts.control_to_client.octets.ok.0)
len_is near far Channels.DataToServer parts = omega (arith, parts.data_to_server.octets.ok.0)
len_is near far Channels.DataToClient parts = omega (arith, parts.data_to_client.octets.ok.0)

-- a call that gave nothing can't be where there was room and something due
pub none_given : (queue : Queue) (count len most gave : ℕ) (old mid new : World) → len < count → most ≡ min (count - len) 4096 → Gives most (due queue mid) gave
    → true ≡ has_octets (due queue mid) → gave ≡ 0 → FillsTo queue count old new
none_given queue count len most gave old mid new few most_is gives some none =
    let gave_any = gave_some len count most gave (due queue mid) few most_is gives some in absurd (omega (arith, gave_any, none))

-- a queue has no octets just where its length is none
pub is_empty : (l : List ℕ) → nat_eq (length l) 0 ≡ not (has_octets l)
is_empty [] = refl
is_empty (octet ∷ l) = some (length l)
  where
    some : (n : ℕ) → nat_eq (suc n) 0 ≡ false
    some n = grind (arith, nat_tests)

-- what is lent is no queue
pub same_len : {A T N F : Type 0} (queue : Channel) (old new : Parts A T N F) → new ≡ record old { taken = new.taken } → len_of queue new ≡ len_of queue old
same_len Channels.ControlToServer old new is = ap (len_of Channels.ControlToServer) is
same_len Channels.ControlToClient old new is = ap (len_of Channels.ControlToClient) is
same_len Channels.DataToServer old new is = ap (len_of Channels.DataToServer) is
same_len Channels.DataToClient old new is = ap (len_of Channels.DataToClient) is

-- nor has it a queue's room
pub same_room : {A T N F : Type 0} (queue : Channel) (old new : Parts A T N F) → new ≡ record old { taken = new.taken } → queue_room_of queue new ≡ queue_room_of queue old
same_room Channels.ControlToServer old new is = ap (queue_room_of Channels.ControlToServer) is
same_room Channels.ControlToClient old new is = ap (queue_room_of Channels.ControlToClient) is
same_room Channels.DataToServer old new is = ap (queue_room_of Channels.DataToServer) is
same_room Channels.DataToClient old new is = ap (queue_room_of Channels.DataToClient) is

-- each queue has room for 4,096 octets
pub roomy : {A T N F : Type 0} (queue : Channel) (parts : Parts A T N F) → 4096 ≤ queue_room_of queue parts
roomy Channels.ControlToServer parts = parts.control_to_server.roomy
roomy Channels.ControlToClient parts = parts.control_to_client.roomy
roomy Channels.DataToServer parts = parts.data_to_server.roomy
roomy Channels.DataToClient parts = parts.data_to_client.roomy

-- so many may be lent
pub lends_some : {A T N F : Type 0} (parts : Parts A T N F) → 4096 ≤ vec_capacity parts.taken.octets
lends_some parts = parts.taken.roomy

-- what happened to a world happened to one that is the same
pub as_shown : (queue : Queue) (count : ℕ) (was calm same : Bool) (old mid new : World) → mid ≡ old → same ≡ was
    → Steps same calm (λ read. Happens read (Deliver queue count) mid true new) → Steps was calm (λ read. Happens read (Deliver queue count) old true new)
as_shown queue count was calm same old mid new is e did = subst (λ w. Steps was calm (λ read. Happens read (Deliver queue count) w true new)) is
    (subst (λ b. Steps b calm (λ read. Happens read (Deliver queue count) mid true new)) e did)
