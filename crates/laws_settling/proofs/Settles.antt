-- From every steady world deliveries, openings and ends lead to one in which nothing is in flight.
use Rattle.std.proofs.Common.{◌≡◌, ◌⊎◌, inl, inr, ℕ, zero, suc, ◌==◌, List, [], ◌∷◌, ◌++◌, length, Bool, true, false, ◌&&◌, refl, sym, ap, ◌∙◌, arith}
use Rattle.std.specs.Prelude.{min, nat_lt}
use Rattle.ftp_nvt.proofs.CutLemmas.{decided}
use Rattle.ftp_server_model.specs.Machine.{Reading}
use Rattle.laws_world.specs.Agreement.{begun_by_event}
use Rattle.laws_world.specs.Claims.{IsSettling, SettlesAlways, Settles, world_of}
use Rattle.ftp_ends.specs.Octets.{has_octets}
use Rattle.laws_world.specs.Events.{Queue, ControlToServer, ControlToClient, DataToServer, DataToClient, Event, Deliver, Open, End, Gives, Happens, IsQuiet, MayTakeFrom, can_happen, due, in_queue, lends_none, link_opens, may_take, pulled, pushed, taking, told}
use Rattle.laws_world.specs.Serving.{after_event}
use Rattle.laws_world.specs.World.{World}
use Rattle.laws_settling.specs.Turns.{Ends, ends}
use Rattle.laws_settling.proofs.Ending.{steady_ends}
use Rattle.laws_settling.proofs.Possible.{and_none, lent_due, lent_may, lent_queue, moves_can, some_octets, still, takes_can}
use Rattle.laws_settling.proofs.Steady.{leads_steady, starts_steady}

-- ---- a world is quiet, or something happens

-- a delivery, an opening or an end of it
pub record Progresses (read : Reading) (w : World) : Type 0 where
  pub event : Event
  pub next : World
  pub settles : IsSettling event
  pub nothing : begun_by_event event true ≡ []
  pub happens : Happens read event w true next

-- a call may give all that is due, up to its room
owes_all : (owed : List ℕ) → Gives 4096 owed (min 4096 (length owed))
owes_all owed = record { within = omega arith; some = λ room is. (let some = some_octets owed is in omega (arith, some)) }

-- one call with room gives what is due
moves : (read : Reading) (queue : Queue) (w : World) → has_octets (due queue w) ≡ true → Progresses read w
moves read queue w is =
    let gave : ℕ = min 4096 (length (due queue (lends_none w))) in
    record {
      event = Deliver queue 0;
      next = after_event (pulled queue (lends_none w) gave);
      settles = tt;
      nothing = refl;
      happens = (
        moves_can (has_octets (due queue w)) (nat_lt (length (in_queue queue w)) 0) true (has_octets (in_queue queue w)) (may_take queue w) is refl,
        record { gave = gave; gives = owes_all (due queue (lends_none w)); is = refl },
      );
    }

-- the first octet may be taken
first_may : (read : Reading) (queue : Queue) (w : World) → may_take queue w ≡ true → MayTakeFrom read queue w 1
first_may read ControlToServer w is zero less = is
first_may read ControlToClient w is zero less = is
first_may read DataToServer w is zero less = is
first_may read DataToClient w is zero less = is
first_may read queue w is (suc k) less = absurd (omega (arith, less))

-- one octet is taken, where nothing is due
takes : (read : Reading) (queue : Queue) (w : World) → has_octets (due queue w) ≡ false → has_octets (in_queue queue w) ≡ true → may_take queue w ≡ true → Progresses read w
takes read queue w none is may =
    let u : World = lends_none w in
    let some = some_octets (in_queue queue u) (ap has_octets (lent_queue queue w) ∙ is) in
    record {
      event = Deliver queue 1;
      next = after_event (pushed read queue 1 (taking queue 1 u));
      settles = tt;
      nothing = refl;
      happens = (
        takes_can (has_octets (due queue w)) (nat_lt (length (in_queue queue w)) 1) (has_octets (in_queue queue w)) (may_take queue w) is may,
        record {
          counts = [];
          taken = 1;
          fills = and_none (has_octets (due queue u)) (nat_lt (length (in_queue queue u)) 1) (ap has_octets (lent_due queue w) ∙ none);
          takes = record { within = omega (arith, some); may = first_may read queue u (lent_may queue w ∙ may); some = λ x y z. omega arith };
          is = refl;
        },
      );
    }

-- no octet of a queue moves, or something happens
queue_rests : (read : Reading) (queue : Queue) (w : World) → Progresses read w ⊎ ((count : ℕ) → can_happen (Deliver queue count) w ≡ false)
queue_rests read queue w = elim (decided (has_octets (due queue w))) [
  | inl is ↦ inl (moves read queue w is)
  | inr none ↦ elim (decided (has_octets (in_queue queue w))) [
    | inr empty ↦ inr (λ count. still (has_octets (due queue w)) (nat_lt (length (in_queue queue w)) count) (count == 0) (has_octets (in_queue queue w)) (may_take queue w) none (and_none (has_octets (in_queue queue w)) (may_take queue w) empty))
    | inl is ↦ elim (decided (may_take queue w)) [
      | inl may ↦ inl (takes read queue w none is may)
      | inr not_now ↦ inr (λ count. still (has_octets (due queue w)) (nat_lt (length (in_queue queue w)) count) (count == 0) (has_octets (in_queue queue w)) (may_take queue w) none (and_last (has_octets (in_queue queue w)) (may_take queue w) not_now))
    ]
  ]
]
  where
    and_last : (b c : Bool) → c ≡ false → (b && c) ≡ false
    and_last true c is = is
    and_last false c is = refl

-- an end can be told, or not
end_rests : (read : Reading) (queue : Queue) (w : World) → Progresses read w ⊎ (can_happen (End queue) w ≡ false)
end_rests read queue w = elim (decided (can_happen (End queue) w)) [
  | inl can ↦ inl (record { event = End queue; next = after_event (told queue (lends_none w)); settles = tt; nothing = refl; happens = (can, refl) })
  | inr none ↦ inr none
]

-- a link can be opened, or not
open_rests : (read : Reading) (w : World) → Progresses read w ⊎ (can_happen Open w ≡ false)
open_rests read w = elim (decided (can_happen Open w)) [
  | inl can ↦ inl (record { event = Open; next = after_event (link_opens (lends_none w)); settles = tt; nothing = refl; happens = (can, refl) })
  | inr none ↦ inr none
]

-- all of four queues
each_queue : (P : Queue → Type 0) (Q : Type 0) → ((queue : Queue) → Q ⊎ P queue) → Q ⊎ ((queue : Queue) → P queue)
each_queue P Q f = by_four (f ControlToServer) (f ControlToClient) (f DataToServer) (f DataToClient)
  where
    by_all : P ControlToServer → P ControlToClient → P DataToServer → P DataToClient → (queue : Queue) → P queue
    by_all a b c d ControlToServer = a
    by_all a b c d ControlToClient = b
    by_all a b c d DataToServer = c
    by_all a b c d DataToClient = d

    by_four : Q ⊎ P ControlToServer → Q ⊎ P ControlToClient → Q ⊎ P DataToServer → Q ⊎ P DataToClient → Q ⊎ ((queue : Queue) → P queue)
    by_four (inl q) b c d = inl q
    by_four (inr a) (inl q) c d = inl q
    by_four (inr a) (inr b) (inl q) d = inl q
    by_four (inr a) (inr b) (inr c) (inl q) = inl q
    by_four (inr a) (inr b) (inr c) (inr d) = inr (by_all a b c d)

-- a world is quiet, or one of them happens
rests_or_progresses : (read : Reading) (w : World) → Progresses read w ⊎ IsQuiet w
rests_or_progresses read w =
    by_three (each_queue (λ queue. (count : ℕ) → can_happen (Deliver queue count) w ≡ false) (Progresses read w) (λ queue. queue_rests read queue w)) (open_rests read w)
    (each_queue (λ queue. can_happen (End queue) w ≡ false) (Progresses read w) (λ queue. end_rests read queue w))
  where
    by_three : Progresses read w ⊎ ((queue : Queue) (count : ℕ) → can_happen (Deliver queue count) w ≡ false) → Progresses read w ⊎ (can_happen Open w ≡ false)
        → Progresses read w ⊎ ((queue : Queue) → can_happen (End queue) w ≡ false) → Progresses read w ⊎ IsQuiet w
    by_three (inl s) b c = inl s
    by_three (inr a) (inl s) c = inl s
    by_three (inr a) (inr b) (inl s) = inl s
    by_three (inr a) (inr b) (inr c) = inr (record { moved = a; opened = b; ended = c })

-- ---- so it settles

-- a world whose runs end comes to rest: it is quiet, or one of them leads to one that does
settles_from : (read : Reading) (w : World) → Ends read w → Settles read w
settles_from read w (ends f) = elim (rests_or_progresses read w) [
  | inr quiet ↦ ([], w, tt, (refl, refl), quiet)
  | inl progresses ↦ (let after = settles_from read progresses.next (f progresses.event progresses.next progresses.settles progresses.happens) in (
    progresses.event ∷ after.0,
    after.1,
    (progresses.settles, after.2),
    (true, progresses.next, [], progresses.happens, ap (λ orders. orders ++ []) (sym progresses.nothing), after.3),
    after.4,
  ))
]

-- so does every world that a fair beginning leads to
pub settles_always : SettlesAlways
settles_always read reads b fair events begun w timed leads =
    settles_from read w (steady_ends read w (leads_steady read events begun (world_of b) w (starts_steady b) leads))
