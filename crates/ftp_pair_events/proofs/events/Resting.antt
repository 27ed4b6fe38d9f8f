-- When nothing is in flight.
use Rattle.std.proofs.Common.{◌≡◌, ℕ, ◌&&◌, ◌||◌, not, Bool, true, false, length, refl}
use Rattle.std.specs.Prelude.{◌==◌, nat_lt}
use Rattle.ftp_ends.specs.Octets.{has_octets}
use Rattle.laws_world.specs.Events.{Queue, ControlToServer, ControlToClient, DataToServer, DataToClient, Open, Deliver, End, IsQuiet, can_happen, due, in_queue, is_asked_for, may_take}
use Rattle.laws_world.specs.Still.{IsQueueAtRest, IsStill}
use Rattle.laws_world.specs.World.{World}
use Rattle.laws_world.proofs.StillLemmas.{resting_is_still}
use Rattle.ftp_pair_events.specs.events.Shown.{NoneEnds, NoneFlows, all_rest, all_told, is_quiet, rests}

-- ---- tests

-- both of two
both : (a b : Bool) → (a && b) ≡ true → (a ≡ true) × (b ≡ true)
both true true is = (refl, refl)
both true false is = absurd (cc (is))
both false b is = absurd (cc (is))

-- neither of two
neither : (a b : Bool) → (a || b) ≡ false → (a ≡ false) × (b ≡ false)
neither true b is = absurd (cc (is))
neither false true is = absurd (cc (is))
neither false false is = (refl, refl)

-- what is not so
not_so : (a : Bool) → not a ≡ true → a ≡ false
not_so true is = absurd (cc (is))
not_so false is = refl

-- ---- a quiet world

-- of a queue at rest no delivery is possible
none_moves : (queue : Queue) (w : World) → rests queue w ≡ true → (count : ℕ) → can_happen (Deliver queue count) w ≡ false
none_moves queue w is count =
    by (has_octets (due queue w)) ((count == 0) || nat_lt (length (in_queue queue w)) count) (not (count == 0)) (has_octets (in_queue queue w)) (may_take queue w) is
  where
    by : (a b c d e : Bool) → (not a && not (d && e)) ≡ true → ((a && b) || (c && d && e)) ≡ false
    by true b c d e is = absurd (cc (is))
    by false b true true true is = absurd (cc (is))
    by false b true true false is = refl
    by false b true false e is = refl
    by false b false d e is = refl

-- where none is, it is at rest
at_rest : (queue : Queue) (w : World) → ((count : ℕ) → can_happen (Deliver queue count) w ≡ false) → rests queue w ≡ true
at_rest queue w none = by (has_octets (due queue w)) (has_octets (in_queue queue w)) (may_take queue w) (none 0) (none 1)
  where
    by : (a d e : Bool) → ((a && true) || (false && d && e)) ≡ false → ((a && nat_lt (length (in_queue queue w)) 1) || (true && d && e)) ≡ false → (not a && not (d && e)) ≡ true
    by true d e none one = absurd (cc (none))
    by false true true none one = absurd (cc (one))
    by false true false none one = refl
    by false false e none one = refl

-- four tests that are all passed
four : (a b c d : Bool) → (a && b && c && d) ≡ true → (a ≡ true) × (b ≡ true) × (c ≡ true) × (d ≡ true)
four a b c d is =
    let front = both (a && b && c) d is in
    let mid = both (a && b) c front.0 in
    let start = both a b mid.0 in
    (start.0, start.1, mid.1, front.1)

-- a world that passes the test is quiet
pub quiet_so : (w : World) → is_quiet w ≡ true → IsQuiet w
quiet_so w is =
    let behind = both (all_rest w && not (is_asked_for w)) (all_told w) is in
    let front = both (all_rest w) (not (is_asked_for w)) behind.0 in
    let rest = four (rests ControlToServer w) (rests ControlToClient w) (rests DataToServer w) (rests DataToClient w) front.0 in
    let told =
    four (not (can_happen (End ControlToServer) w)) (not (can_happen (End ControlToClient) w)) (not (can_happen (End DataToServer) w)) (not (can_happen (End DataToClient) w)) behind.1 in
    record {
      moved = moved rest.0 rest.1 rest.2 rest.3;
      opened = not_so (is_asked_for w) front.1;
      ended = ended told.0 told.1 told.2 told.3;
    }
  where
    moved : rests ControlToServer w ≡ true → rests ControlToClient w ≡ true → rests DataToServer w ≡ true → rests DataToClient w ≡ true
        → (queue : Queue) (count : ℕ) → can_happen (Deliver queue count) w ≡ false
    moved a b c d ControlToServer = none_moves ControlToServer w a
    moved a b c d ControlToClient = none_moves ControlToClient w b
    moved a b c d DataToServer = none_moves DataToServer w c
    moved a b c d DataToClient = none_moves DataToClient w d

    ended : not (can_happen (End ControlToServer) w) ≡ true → not (can_happen (End ControlToClient) w) ≡ true → not (can_happen (End DataToServer) w) ≡ true
        → not (can_happen (End DataToClient) w) ≡ true → (queue : Queue) → can_happen (End queue) w ≡ false
    ended a b c d ControlToServer = not_so (can_happen (End ControlToServer) w) a
    ended a b c d ControlToClient = not_so (can_happen (End ControlToClient) w) b
    ended a b c d DataToServer = not_so (can_happen (End DataToServer) w) c
    ended a b c d DataToClient = not_so (can_happen (End DataToClient) w) d

-- and a quiet world passes it
pub quiet_not : (w : World) → IsQuiet w → is_quiet w ≡ true
quiet_not w q =
    all (at_rest ControlToServer w (q.moved ControlToServer)) (at_rest ControlToClient w (q.moved ControlToClient)) (at_rest DataToServer w (q.moved DataToServer))
    (at_rest DataToClient w (q.moved DataToClient)) q.opened (q.ended ControlToServer) (q.ended ControlToClient) (q.ended DataToServer) (q.ended DataToClient)
  where
    all : {a b c d e f g h i : Bool} → a ≡ true → b ≡ true → c ≡ true → d ≡ true → e ≡ false → f ≡ false → g ≡ false → h ≡ false → i ≡ false
        → ((a && b && c && d) && not e && (not f && not g && not h && not i)) ≡ true
    all a b c d e f g h i = λ k. (a k && b k && c k && d k) && not (e k) && (not (f k) && not (g k) && not (h k) && not (i k))

-- ---- a still world

-- where no delivery of 4,096 octets is possible, a queue is at rest
resting : (queue : Queue) (w : World) → can_happen (Deliver queue 4096) w ≡ false → IsQueueAtRest queue w
resting queue w none =
    let so = neither (has_octets (due queue w) && nat_lt (length (in_queue queue w)) 4096) (has_octets (in_queue queue w) && may_take queue w) none in
    record { moved = so.0; taken = so.1 }

-- where nothing is possible that takes no memory, the world is still
pub still_so : (w : World) → NoneFlows w → can_happen Open w ≡ false → NoneEnds w → IsStill w
still_so w flows opened ends = resting_is_still w rest opened ended
  where
    rest : (queue : Queue) → IsQueueAtRest queue w
    rest ControlToServer = resting ControlToServer w flows.to_server
    rest ControlToClient = resting ControlToClient w flows.to_client
    rest DataToServer = resting DataToServer w flows.up
    rest DataToClient = resting DataToClient w flows.down

    ended : (queue : Queue) → can_happen (End queue) w ≡ false
    ended ControlToServer = ends.to_server
    ended ControlToClient = ends.to_client
    ended DataToServer = ends.up
    ended DataToClient = ends.down
