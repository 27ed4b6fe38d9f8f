-- Where no count moved in actions together, whatever they are, and they are not too many, none moved in any of them: the counts wrap.
use Rattle.std.proofs.Common.{◌≡◌, inl, inr, ℕ, ◌+◌, ◌*◌, ◌^◌, ◌<◌, ◌≤◌, Bool, true, false, List, [], ◌∷◌, length, sym, ap, ◌∙◌, arith}
use Rattle.ftp_ports.specs.Actions.{Action, Done, Ended, Heard, Led, Other, Read, Said as Says, Stand}
use Rattle.ftp_ports.specs.Machine.{Aside, Break, Closed, End, Failed, Gave, Got, Held, Left, LetGo, Listening, NoPort, Opened, Received, Refused, Waited, Wrote}
use Rattle.ftp_client_driver.specs.Side.{Reporting, Starting, Uploading, client_side}
use Rattle.ftp_client_model.specs.Counting.{MovesByOneAtMost as NearCounts}
use Rattle.ftp_client_model.specs.Failing.{Client}
use Rattle.ftp_direct.specs.Run.{moved_on}
use Rattle.ftp_server_driver.specs.alone.Side.{HearsBy, Timed, server_side}
use Rattle.ftp_server_model.specs.Counting.{CountsOn, MovesOn}
use Rattle.ftp_server_model.specs.Failing.{Counts}
use Rattle.ftp_server_model.proofs.LinesDecided.{reading_exists}
use Rattle.ftp_tree.proofs.CountLemmas.{stray-first}
use Rattle.laws_drivers.specs.events.Actions.{Along}
use Rattle.laws_drivers.specs.control.Alone.{ClientIsCalm, ServerIsCalm}
use Rattle.laws_drivers.proofs.control.Calm.{stays_put, twice}

-- one that moved, and then moved on
then_moves : (most more old mid new : ℕ) → MovesOn most old mid → MovesOn more mid new → MovesOn (most + more) old new
then_moves most more old mid new first second = (
  first.0 + second.0,
  omega (arith, first.1, second.1),
  second.2 ∙ ap (moved_on second.0) first.2 ∙ twice second.0 first.0 old,
)

-- one that is in the end what it was was so in between, where both moves are few
in_between : (most more old mid new : ℕ) → most + more < 2 ^ 64 → MovesOn most old mid → MovesOn more mid new → new ≡ old → mid ≡ old
in_between most more old mid new few first second same =
    let all : moved_on (first.0 + second.0) old ≡ old =
    sym (twice second.0 first.0 old) ∙ sym (ap (moved_on second.0) first.2) ∙ sym second.2 ∙ same in
    let none : first.0 + second.0 ≡ 0 = stays_put (first.0 + second.0) old (omega (arith, few, first.1, second.1)) all in
    let is : first.0 ≡ 0 = omega (arith, none) in
    first.2 ∙ ap (λ n. moved_on n old) is

stays_so : (most old new : ℕ) → new ≡ old → MovesOn most old new
stays_so most old new same = (0, omega arith, same)

-- ---- a client

-- a growth counts as refused once at most
near_moves : (old new : ℕ) → NearCounts old new → MovesOn 1 old new
near_moves old new (inl same) = (0, omega arith, same)
near_moves old new (inr more) = (1, omega arith, more)

near_same : (old new : Held Client) → new.end ≡ old.end → MovesOn 1 old.end.refusals new.end.refusals
near_same old new same = stays_so 1 _ _ (ap (λ (c : Client). c.refusals) same)

-- in any action
near_step : (action : Action client_side) (old new : Stand client_side) → Done action old new → MovesOn 1 old.owner.end.refusals new.owner.end.refusals
near_step (Heard octets) old new done = near_moves _ _ done.hears.0.1
near_step (Says octets) old new done = stays_so 1 _ _ done.gives.gave.1
near_step (Read octets) old new done = stays_so 1 _ _ (ap (λ (o : Held Client). o.end.refusals) done.owner)
near_step Ended old new done = stays_so 1 _ _ done.cut.0.1
near_step (Other (Aside (Reporting said))) old new done = stays_so 1 _ _ done.0.0.1.1
near_step (Other (Aside (Starting op))) old new done = near_moves _ _ done.0.0.1.1
near_step (Other (Aside (Uploading upload))) old new done = near_moves _ _ done.0.0.1.1
near_step (Other (Listening port)) old new done = near_moves _ _ done.0.0.1
near_step (Other (Opened host asked at_first so_far rest)) old new done = near_moves _ _ done.0.0.0.1
near_step (Other (Refused asked)) old new done = near_moves _ _ done.0.0.1
near_step (Other (Received octets count)) old new done = near_moves _ _ done.0.0.1
near_step (Other (Gave count octets rest)) old new done = near_moves _ _ done.0.0.1.1
near_step (Other NoPort) old new done = near_moves _ _ done.0.0.1
near_step (Other End) old new done = near_moves _ _ done.0.0.1
near_step (Other Break) old new done = near_moves _ _ done.0.0.1
near_step (Other Closed) old new done = stays_so 1 _ _ done.0.0.1
near_step (Other (Waited lost)) old new done = near_same old.owner new.owner done.0.0
near_step (Other (Got octets)) old new done = near_same old.owner new.owner done.0.0
near_step (Other (Wrote octets)) old new done = near_same old.owner new.owner done.0.0
near_step (Other Failed) old new done = near_same old.owner new.owner done.0.0
near_step (Other (LetGo octets)) old new done = near_same old.owner new.owner done.0.0.0
near_step (Other (Left asked)) old new done = near_same old.owner new.owner done.0.0

-- so many actions move it by so much
near_total : (actions : List (Action client_side)) (start now : Stand client_side) → Led actions start now
    → MovesOn (length actions) start.owner.end.refusals now.owner.end.refusals
near_total [] start now led = stays_so 0 _ _ (ap (λ (s : Stand client_side). s.owner.end.refusals) led)
near_total (action ∷ before) start now led =
    let step = near_step action led.0 now led.2 in
    let first = near_total before start led.0 led.1 in
    let both = then_moves (length before) 1 start.owner.end.refusals led.0.owner.end.refusals now.owner.end.refusals first step in
    (both.0, omega (arith, both.1), both.2)

-- a client that was refused no growth in all of them was so in none
pub near_calms : (actions : List (Action client_side)) (start now : Stand client_side) (led : Led actions start now)
    → now.owner.end.refusals ≡ start.owner.end.refusals → length actions < 2 ^ 60 → Along (λ action old new. ClientIsCalm old new) actions start now led
near_calms [] start now led same few = tt
near_calms (action ∷ before) start now led same few =
    let first = near_total before start led.0 led.1 in
    let step = near_step action led.0 now led.2 in
    let mid = in_between (length before) 1 start.owner.end.refusals led.0.owner.end.refusals now.owner.end.refusals (omega (arith, few)) first step same in
    (near_calms before start led.0 led.1 mid (omega (arith, few)), same ∙ sym mid)

-- ---- a server

-- so many growths were refused, and so many failures told, at most; strays never fall
record Moves (most : ℕ) (old new : Counts) : Type 0 where
  refusals : MovesOn most old.refusals new.refusals
  told : MovesOn most old.failures.told new.failures.told
  strays : old.failures.strays ≤ new.failures.strays

of_counts : (old new : Counts) → CountsOn old new → Moves 4 old new
of_counts old new counts = record {
  refusals = (counts.0.0, omega (arith, counts.0.1), counts.0.2);
  told = (counts.1.0.0, omega (arith, counts.1.0.1), counts.1.0.2);
  strays = counts.1.1;
}

none_moved : (most : ℕ) (old new : Counts) → new ≡ old → Moves most old new
none_moved most old new same = record {
  refusals = stays_so most _ _ (ap (λ (c : Counts). c.refusals) same);
  told = stays_so most _ _ (ap (λ (c : Counts). c.failures.told) same);
  strays = let is : new.failures.strays ≡ old.failures.strays = ap (λ (c : Counts). c.failures.strays) same in omega (arith, is);
}

far_same : (old new : Held Timed) → new.end ≡ old.end → Moves 4 old.end.server.counts new.end.server.counts
far_same old new same = none_moved 4 _ _ (ap (λ (t : Timed). t.server.counts) same)

-- two calls: the clock is told, and then a line ends, or a data connection
two_calls : (old mid new : Counts) → CountsOn old mid → CountsOn mid new → Moves 4 old new
two_calls old mid new first second =
    let refused = then_moves 1 1 old.refusals mid.refusals new.refusals first.0 second.0 in
    let told = then_moves 2 2 old.failures.told mid.failures.told new.failures.told first.1.0 second.1.0 in
    record {
      refusals = (refused.0, omega (arith, refused.1), refused.2);
      told = (told.0, omega (arith, told.1), told.2);
      strays = omega (arith, first.1.1, second.1.1);
    }

far_heard : (ends : Bool) (octets : List ℕ) (old new : Timed) → HearsBy ends octets old new → Moves 4 old.server.counts new.server.counts
far_heard true octets old new heard =
    two_calls old.server.counts heard.1.counts new.server.counts heard.3.counted (heard.4 reading_exists.0 reading_exists.1).counted
far_heard false octets old new heard = of_counts old.server.counts new.server.counts (heard.0 reading_exists.0 reading_exists.1).counted

-- in any action
far_step : (action : Action server_side) (old new : Stand server_side) → Done action old new → Moves 4 old.owner.end.server.counts new.owner.end.server.counts
far_step (Heard octets) old new done = far_heard _ octets old.owner.end new.owner.end done.hears.0.1
far_step (Says octets) old new done = of_counts _ _ done.gives.gave.0.counted
far_step (Read octets) old new done = none_moved 4 _ _ (ap (λ (o : Held Timed). o.end.server.counts) done.owner)
far_step Ended old new done = none_moved 4 _ _ (ap (λ (t : Timed). t.server.counts) done.cut.0)
far_step (Other (Aside asked)) old new done = far_same old.owner new.owner done.0.0.0
far_step (Other (Listening port)) old new done = of_counts _ _ done.0.0.0.counted
far_step (Other (Opened host asked at_first so_far rest)) old new done = of_counts _ _ done.0.0.0.0.counted
far_step (Other (Refused asked)) old new done = of_counts _ _ done.0.0.0.counted
far_step (Other (Received octets count)) old new done = of_counts _ _ done.0.0.0.counted
far_step (Other (Gave count octets rest)) old new done = of_counts _ _ done.0.0.1.0.counted
far_step (Other NoPort) old new done = of_counts _ _ done.0.0.0.counted
far_step (Other End) old new done = two_calls _ done.0.0.1.counts _ done.0.0.3.counted done.0.0.4.counted
far_step (Other Break) old new done = two_calls _ done.0.0.1.counts _ done.0.0.3.counted done.0.0.4.counted
far_step (Other Closed) old new done = of_counts _ _ done.0.0.0.counted
far_step (Other (Waited lost)) old new done = far_same old.owner new.owner done.0.0
far_step (Other (Got octets)) old new done = far_same old.owner new.owner done.0.0
far_step (Other (Wrote octets)) old new done = far_same old.owner new.owner done.0.0
far_step (Other Failed) old new done = far_same old.owner new.owner done.0.0
far_step (Other (LetGo octets)) old new done = far_same old.owner new.owner done.0.0.0
far_step (Other (Left asked)) old new done = far_same old.owner new.owner done.0.0

-- so many actions move them by so much
far_total : (actions : List (Action server_side)) (start now : Stand server_side) → Led actions start now
    → Moves (4 * length actions) start.owner.end.server.counts now.owner.end.server.counts
far_total [] start now led = none_moved 0 _ _ (ap (λ (s : Stand server_side). s.owner.end.server.counts) led)
far_total (action ∷ before) start now led =
    let first = far_total before start led.0 led.1 in
    let step = far_step action led.0 now led.2 in
    let most = 4 * length before in
    let old = start.owner.end.server.counts in
    let mid = led.0.owner.end.server.counts in
    let new = now.owner.end.server.counts in
    let refused = then_moves most 4 old.refusals mid.refusals new.refusals first.refusals step.refusals in
    let told = then_moves most 4 old.failures.told mid.failures.told new.failures.told first.told step.told in
    record {
      refusals = (refused.0, omega (arith, refused.1), refused.2);
      told = (told.0, omega (arith, told.1), told.2);
      strays = let a = first.strays in let b = step.strays in omega (arith, a, b);
    }

-- a server whose counts are what they were was refused nothing in any of them, and no device of it failed or strayed
pub far_calms : (actions : List (Action server_side)) (start now : Stand server_side) (led : Led actions start now)
    → now.owner.end.server.counts ≡ start.owner.end.server.counts → length actions < 2 ^ 60
    → Along (λ action old new. ServerIsCalm old new) actions start now led
far_calms [] start now led same few = tt
far_calms (action ∷ before) start now led same few =
    let first = far_total before start led.0 led.1 in
    let step = far_step action led.0 now led.2 in
    let most = 4 * length before in
    let old = start.owner.end.server.counts in
    let mid = led.0.owner.end.server.counts in
    let new = now.owner.end.server.counts in
    let refused : mid.refusals ≡ old.refusals =
    in_between most 4 old.refusals mid.refusals new.refusals (omega (arith, few)) first.refusals step.refusals (ap (λ (c : Counts). c.refusals) same) in
    let told : mid.failures.told ≡ old.failures.told =
    in_between most 4 old.failures.told mid.failures.told new.failures.told (omega (arith, few)) first.told step.told
    (ap (λ (c : Counts). c.failures.told) same) in
    let strays : mid.failures.strays ≡ old.failures.strays =
    stray-first old.failures mid.failures new.failures first.strays step.strays (ap (λ (c : Counts). c.failures.strays) same) in
    let is : mid ≡ old = λ i. record { refusals = refused i; failures = record { told = told i; strays = strays i } } in
    (far_calms before start led.0 led.1 is (omega (arith, few)), same ∙ sym is)
