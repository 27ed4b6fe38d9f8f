-- Turns of both, put together.
use Rattle.std.proofs.Common.{◌≡◌, ℕ, suc, length, true, false, List, [], ◌∷◌, ◌++◌, Option, Some, is_some, true≢false, refl, sym, ap, subst, ◌∙◌, None}
use Rattle.std.specs.Prelude.{Bool, not}
use Rattle.ftp_ports.specs.Actions.{Action, Led, Stand}
use Rattle.ftp_ports.specs.Channel.{Channel}
use Rattle.ftp_ports.specs.Machine.{Held, held}
use Rattle.ftp_ports.specs.Side.{Side}
use Rattle.ftp_client_driver.specs.Side.{client_side}
use Rattle.ftp_client_model.specs.Calls.{handed_back, is_busy, starts}
use Rattle.ftp_client_model.specs.Counting.{MovesByOneAtMost}
use Rattle.ftp_client_model.specs.Failing.{Client as NearEnd, HoldsIfRoom, starts_short}
use Rattle.ftp_operation.specs.declared.answer.Answer.{Answer}
use Rattle.ftp_operation.specs.declared.op.Op.{Op}
use Rattle.laws_drivers.specs.control.Between.{Between, Client, Far, Near, Server, Turn, client_actions, server_actions}
use Rattle.ftp_server_driver.specs.alone.Side.{Timed, server_side}
use Rattle.ftp_pair_memory.specs.streams.Order.{AllCame, CameAlone, Counted, CountedAlone, Hosts, Went, WentAlone}
use Rattle.ftp_pair_memory.specs.streams.Plain.{quiet}
use Rattle.ftp_pair_memory.specs.steps.Taking.{AsksAnswered, Begins, Ends, NearTurns, Rounds, SettlesAnswer, Took, by_client, both_ends}
use Rattle.ftp_pair_memory.specs.declared.steps.turn_ending.Course.{Course}
use Rattle.ftp_pair_memory.specs.declared.steps.turn_ending.Course.TheVariants as Courses

-- ---- one list of actions after another

led_then : {side : Side} (later before : List (Action side)) (start mid now : Stand side) → Led later mid now → Led before start mid → Led (later ++ before) start now
led_then [] before start mid now second first = subst (λ n. Led before start n) (sym second) first
led_then (action ∷ later) before start mid now second first = (second.0, led_then later before start mid second.0 second.1 first, second.2)

pub went_then : (later before : List Turn) (first mid now : Between) → Went later mid now → Went before first mid → Went (later ++ before) first now
went_then [] before first mid now second went = subst (λ n. Went before first n) (sym second) went
went_then (turn ∷ later) before first mid now second went = (second.0, went_then later before first mid second.0 second.1 went, second.2)

pub counted_then : (later before : List Turn) (first mid now : ℕ) → Counted later mid now → Counted before first mid → Counted (later ++ before) first now
counted_then [] before first mid now second counted = subst (λ n. Counted before first n) (sym second) counted
counted_then (turn ∷ later) before first mid now second counted =
    (second.0, counted_then later before first mid second.0 second.1 counted, second.2)

pub came_then : (hosts : Hosts) (later before : List Turn) → AllCame hosts later → AllCame hosts before → AllCame hosts (later ++ before)
came_then hosts [] before second came = came
came_then hosts (Server action ∷ later) before second came = (came_then hosts later before second.0 came, second.1)
came_then hosts (Client action ∷ later) before second came = (came_then hosts later before second.0 came, second.1)

pub servers_then : (later before : List Turn) → server_actions (later ++ before) ≡ server_actions later ++ server_actions before
servers_then [] before = refl
servers_then (Server action ∷ later) before = ap (λ l. action ∷ l) (servers_then later before)
servers_then (Client action ∷ later) before = servers_then later before

pub clients_then : (later before : List Turn) → client_actions (later ++ before) ≡ client_actions later ++ client_actions before
clients_then [] before = refl
clients_then (Server action ∷ later) before = clients_then later before
clients_then (Client action ∷ later) before = ap (λ l. action ∷ l) (clients_then later before)

pub took_none : (at : Ends) → Took at at
took_none at = record { turns = []; server_led = refl; client_led = refl; went = refl; counted = refl; came = tt; hosts = refl }

pub took_then : (old mid new : Ends) → Took mid new → Took old mid → Took old new
took_then old mid new second first = record {
  turns = second.turns ++ first.turns;
  server_led = subst (λ d. Led d (quiet {side = server_side} old.server) (quiet new.server)) (sym (servers_then second.turns first.turns))
      (led_then (server_actions second.turns) (server_actions first.turns) (quiet old.server) (quiet mid.server) (quiet new.server) second.server_led first.server_led);
  client_led = subst (λ d. Led d (quiet {side = client_side} old.client) (quiet new.client)) (sym (clients_then second.turns first.turns))
      (led_then (client_actions second.turns) (client_actions first.turns) (quiet old.client) (quiet mid.client) (quiet new.client) second.client_led first.client_led);
  went = went_then second.turns first.turns old.between mid.between new.between second.went first.went;
  counted = counted_then second.turns first.turns old.listens mid.listens new.listens second.counted first.counted;
  came = came_then old.hosts second.turns first.turns (subst (λ h. AllCame h second.turns) first.hosts second.came) first.came;
  hosts = second.hosts ∙ first.hosts;
}

-- ---- those of one end

abbrev by_server : List (Action server_side) → List Turn
by_server [] = []
by_server (action ∷ before) = Server action ∷ by_server before

pub its_own : (actions : List (Action client_side)) → client_actions (by_client actions) ≡ actions
its_own [] = refl
its_own (action ∷ before) = ap (λ l. action ∷ l) (its_own before)

pub as_many_own : (actions : List (Action client_side)) → length (by_client actions) ≡ length actions
as_many_own [] = refl
as_many_own (action ∷ before) = ap suc (as_many_own before)

pub no_others : (actions : List (Action client_side)) → server_actions (by_client actions) ≡ []
no_others [] = refl
no_others (action ∷ before) = no_others before

far_own : (actions : List (Action server_side)) → server_actions (by_server actions) ≡ actions
far_own [] = refl
far_own (action ∷ before) = ap (λ l. action ∷ l) (far_own before)

far_no_others : (actions : List (Action server_side)) → client_actions (by_server actions) ≡ []
far_no_others [] = refl
far_no_others (action ∷ before) = far_no_others before

-- the client's actions are those of both
pub near_went : (actions : List (Action client_side)) (first now : Between) → WentAlone Near actions first now → Went (by_client actions) first now
near_went [] first now went = went
near_went (action ∷ before) first now went = (went.0, near_went before first went.0 went.1, went.2)

-- and so are the server's
pub far_went : (actions : List (Action server_side)) (first now : Between) → WentAlone Far actions first now → Went (by_server actions) first now
far_went [] first now went = went
far_went (action ∷ before) first now went = (went.0, far_went before first went.0 went.1, went.2)

-- so are the ports that were told in them
pub near_counted : (actions : List (Action client_side)) (first now : ℕ) → CountedAlone actions first now → Counted (by_client actions) first now
near_counted [] first now counted = counted
near_counted (action ∷ before) first now counted = (counted.0, near_counted before first counted.0 counted.1, counted.2)

pub far_counted : (actions : List (Action server_side)) (first now : ℕ) → CountedAlone actions first now → Counted (by_server actions) first now
far_counted [] first now counted = counted
far_counted (action ∷ before) first now counted = (counted.0, far_counted before first counted.0 counted.1, counted.2)

-- and so is who came
pub near_came : (hosts : Hosts) (actions : List (Action client_side)) → CameAlone hosts.near actions → AllCame hosts (by_client actions)
near_came hosts [] came = tt
near_came hosts (action ∷ before) came = (near_came hosts before came.0, came.1)

pub far_came : (hosts : Hosts) (actions : List (Action server_side)) → CameAlone hosts.far actions → AllCame hosts (by_server actions)
far_came hosts [] came = tt
far_came hosts (action ∷ before) came = (far_came hosts before came.0, came.1)

-- what the client did alone
pub near_took : (old new : Ends) (actions : List (Action client_side)) → new.server ≡ old.server
    → Led actions (quiet {side = client_side} old.client) (quiet new.client)
    → WentAlone Near actions old.between new.between → CountedAlone actions old.listens new.listens → CameAlone old.hosts.near actions → new.hosts ≡ old.hosts
    → Took old new
near_took old new actions same led went counted came hosts = record {
  turns = by_client actions;
  server_led = subst (λ d. Led d (quiet {side = server_side} old.server) (quiet new.server)) (sym (no_others actions))
      (ap (λ h. quiet {side = server_side} h) same);
  client_led = subst (λ d. Led d (quiet {side = client_side} old.client) (quiet new.client)) (sym (its_own actions)) led;
  went = near_went actions old.between new.between went;
  counted = near_counted actions old.listens new.listens counted;
  came = near_came old.hosts actions came;
  hosts = hosts;
}

-- and the server
pub far_took : (old new : Ends) (actions : List (Action server_side)) → new.client ≡ old.client
    → Led actions (quiet {side = server_side} old.server) (quiet new.server)
    → WentAlone Far actions old.between new.between → CountedAlone actions old.listens new.listens → CameAlone old.hosts.far actions → new.hosts ≡ old.hosts
    → Took old new
far_took old new actions same led went counted came hosts = record {
  turns = by_server actions;
  server_led = subst (λ d. Led d (quiet {side = server_side} old.server) (quiet new.server)) (sym (far_own actions)) led;
  client_led = subst (λ d. Led d (quiet {side = client_side} old.client) (quiet new.client)) (sym (far_no_others actions))
      (ap (λ h. quiet {side = client_side} h) same);
  went = far_went actions old.between new.between went;
  counted = far_counted actions old.listens new.listens counted;
  came = far_came old.hosts actions came;
  hosts = hosts;
}

-- ---- turns of both

module _ {A : Type 0} where
  -- the client's after others
  pub rounds_then : (course : Course (Answer A)) (old mid new : Ends) → NearTurns course mid new → Took old mid → Rounds course old new
  rounds_then (Courses.Over answer) old mid new answers took = record { mid = mid; took = took; answers = answers }
  rounds_then Courses.On old mid new second took = took_then old mid new second took
  rounds_then (Courses.Off stop) old mid new second took = tt

  -- turns of both after others
  pub rounds_on : (course : Course (Answer A)) (old mid new : Ends) → Rounds course mid new → Took old mid → Rounds course old new
  rounds_on (Courses.Over answer) old mid new settled took =
      record { mid = settled.mid; took = took_then old mid settled.mid settled.took took; answers = settled.answers }
  rounds_on Courses.On old mid new second took = took_then old mid new second took
  rounds_on (Courses.Off stop) old mid new second took = tt

  -- an operation was begun before
  asks : (op : Op (List ℕ)) (given : Option (Answer A)) (server : Held Timed) (old begun : Held NearEnd) (first : Between) (told : ℕ) (hosts : Hosts)
      (new : Ends) → Begins op old begun → SettlesAnswer given (both_ends server begun first told hosts) new → AsksAnswered op given (both_ends server old first told hosts) new
  asks op (Some answer) server old begun first told hosts new begins settled = record { begun = begun; begins = begins; settled = settled }
  asks op None server old begun first told hosts new begins settled = tt

module _ {A M : Type 0} (lies : M → Between) (told : M → ℕ) (hosts : M → Hosts) where
  -- where the client was memory_ends as before, all lies between both then that lay there before
  pub asks_from : (op : Op (List ℕ)) (given : Option (Answer A)) (server : Held Timed) (old begun : Held NearEnd) (at there : M) (new : Ends) → there ≡ at
      → Begins op old begun → SettlesAnswer given (both_ends server begun (lies there) (told there) (hosts there)) new
      → AsksAnswered op given (both_ends server old (lies at) (told at) (hosts at)) new
  asks_from op given server old begun at there new same began settled =
      asks op given server old begun (lies at) (told at) (hosts at) new began
      (subst (λ m. SettlesAnswer given (both_ends server begun (lies m) (told m) (hosts m)) new) same settled)

-- ---- an operation is begun

-- by a client that was not busy
not_busy : (busy : Bool) (op : Op (List ℕ)) (left : Option (Op (List ℕ))) → left ≡ handed_back busy (Some op) → is_some left ≡ false → busy ≡ false
not_busy false op left e none = refl
not_busy true op left e none = absurd (true≢false (sym (ap is_some e) ∙ none))

pub begins : (op : Op (List ℕ)) (old begun : NearEnd) (channel : Channel) (left : Option (Op (List ℕ))) (found : Bool) → left ≡ handed_back (is_busy old.view) (Some op)
    → is_some left ≡ not found → found ≡ true → (is_busy old.view ≡ false → HoldsIfRoom old begun (starts op old.view) (starts_short op old.view))
    → MovesByOneAtMost old.refusals begun.refusals → Begins op (held old channel) (held begun channel)
begins op old begun channel left found is some none starts counts =
    let free = not_busy (is_busy old.view) op left is (some ∙ ap not none) in
    (((free, (starts free, counts)), refl, tt), refl)
