-- Each action of a server, as one of a server of whose map the same stands at and below a root.
use Rattle.std.proofs.Common.{◌≡◌, ◌≤◌, ℕ, Bool, true, false, List, [], ◌∷◌, length, take, None, refl, sym, ap, subst, ◌∙◌}
use Rattle.std.specs.Prelude.{⊤}
use Rattle.ftp_ports.specs.Actions.{Action, Done, Ended, Heard, Led, Other, Read, Said, Stand}
use Rattle.ftp_ports.specs.Channel.{Channel}
use Rattle.ftp_ports.specs.Machine.{Call, Does, Held, IsDue, held}
use Rattle.ftp_ports.specs.Machine.{Aside, Break, Closed, End, Failed, Gave, Got, Left, LetGo, Listening, NoPort, Opened, Received, Refused, Waited, Wrote}
use Rattle.ftp_path.specs.Path.{Names}
use Rattle.ftp_server_driver.specs.alone.Side.{Alone, HearsBy, Timed, Timely, ended, ends_line, server_machine, server_side}
use Rattle.laws_server.proofs.one.PartLemmas.{StepAt, break_at, close_at, control_at, control_end_at, end_at, given_at, listening_at, no_port_at, opened_at}
use Rattle.laws_server.proofs.one.PartLemmas.{refused_step_at}
use Rattle.laws_server.proofs.one.TurnLemmas.{IsHeld}
use Rattle.ftp_server_model.proofs.LinesDecided.{reading_exists}
use Rattle.ftp_server_model.specs.Calls.{break_step, clock_step, close_step, control_end, control_step, end_step, given_step, listening_step}
use Rattle.ftp_server_model.specs.Calls.{no_port_step, opened_step, refused_step}
use Rattle.ftp_server_model.specs.Failing.{Counts, EndFails, GiveFails}
use Rattle.ftp_server_model.specs.Far.{Acts, Server, Steps}
use Rattle.ftp_server_model.specs.Machine.{IsReading, Reading, hears, waited}
use Rattle.ftp_server_model.specs.Play.{IsAt, at_root, only_at}
use Rattle.ftp_server_model.specs.View.{View}
use Rattle.laws_server.specs.several.Company.{IsInSlot}
use Rattle.laws_server.specs.several.Several.{exchanged}
use Rattle.ftp_tree.specs.Tree.{Table}
use Rattle.laws_drivers.proofs.control.Calm.{first_is_calm}
use Rattle.laws_drivers.specs.events.Actions.{Along}
use Rattle.laws_sessions.specs.served.Rooted.{ActionLogsInAt, StaysAt, server_but, stand_but}
use Rattle.laws_sessions.proofs.served.Calling.{but_map, clock_but, hears_but, same_at, steps_but}
use Rattle.laws_sessions.proofs.served.Receiving.{receives_but}
use Rattle.laws_sessions.proofs.served.Waiting.{break_waits, end_waits, given_waits, no_port_waits, opened_waits, refused_waits}

-- an end with this map and these counts
abbrev end_but : Table → Counts → Held Timed → Held Timed
end_but map counts at = held (record at.end { server = server_but map counts at.end.server }) at.channel

-- where no line waits the clock alone moves
clock_is : (moment : ℕ) (old mid : Server) → old.view.waiting ≡ None → mid.counts ≡ old.counts → Acts (clock_step moment) old mid
    → mid.view ≡ clock_step moment old.view
clock_is moment old mid none calm acts = acts.done calm ∙ ap (λ waits. waited waits (clock_step moment old.view)) none

-- ---- calls that move no control octets

-- when each may be done looks at nothing of the map
due_but : (map : Table) (counts : Counts) (call : Call ⊤) (old : Held Timed) → IsDue server_machine call old
    → IsDue server_machine call (end_but map counts old)
due_but map counts (Aside own) old due = due
due_but map counts (Listening port) old due = due
due_but map counts (Opened host asked at_first so_far rest) old due = due
due_but map counts (Refused asked) old due = due
due_but map counts (Received octets count) old due = due
due_but map counts (Gave count octets rest) old due = due
due_but map counts NoPort old due = due
due_but map counts End old due = due
due_but map counts Break old due = due
due_but map counts Closed old due = due
due_but map counts (Waited lost) old due = due
due_but map counts (Got octets) old due = due
due_but map counts (Wrote octets) old due = due
due_but map counts (LetGo octets) old due = due
due_but map counts Failed old due = due
due_but map counts (Left asked) old due = due

-- a server and its clock
abbrev timed_but : Table → Counts → Timed → Timed
timed_but map counts at = record at { server = server_but map counts at.server }

module _ (root : Names) (counts : Counts) (table : Table) (old new : Timed) (alike : only_at root table ≡ only_at root old.server.view.session.table)
    (slot : IsInSlot root old.server.view) (none : old.server.view.waiting ≡ None) (calm : new.server.counts ≡ old.server.counts) where
  -- both do this
  record BothDo (Do : Timed → Timed → Type 0) : Type 0 where
    pub map : Table
    pub does : Do (timed_but table counts old) (timed_but map counts new)
    pub same : only_at root map ≡ only_at root new.server.view.session.table
    pub in_slot : IsInSlot root new.server.view

  -- nothing of it is called
  still_but : (Do : Timed → Timed → Type 0) → new ≡ old → Do (timed_but table counts old) (timed_but table counts new) → BothDo Do
  still_but Do is does = record {
    map = table;
    does = does;
    same = alike ∙ ap (λ (t : Timed). only_at root t.server.view.session.table) (sym is);
    in_slot = subst (λ (t : Timed). IsInSlot root t.server.view) (sym is) slot;
  }

  -- a step of it is called, and the clock is not asked
  alone_but : (Fails : View → View → Type 0) (step : View → View) → ((v : View) → IsHeld root v.session → StepAt root v (step v) (step (at_root root v)))
      → ((v : View) → (step v).waiting ≡ v.waiting) → Alone (Steps Fails step) old new → BothDo (Alone (Steps Fails step))
  alone_but Fails step at waits alone =
      let both = steps_but root counts Fails step at waits table old.server new.server alike slot none calm alone.0 in
      record { map = both.map; does = (both.calls, alone.1); same = both.same; in_slot = both.in_slot }

  -- the clock is asked, and then it is told an end or a break
  ends_but : (step : View → View) → ((v : View) → IsHeld root v.session → StepAt root v (step v) (step (at_root root v)))
      → ((v : View) → (step v).waiting ≡ v.waiting) → Timely (Steps EndFails step) old new → BothDo (Timely (Steps EndFails step))
  ends_but step at waits timely =
      let mid : Server = timely.1 in
      let acts = timely.3 in
      let calls = timely.4 in
      let first = first_is_calm old.server.counts mid.counts new.server.counts acts.counted calls.counted calm in
      let clock = clock_but root counts timely.0 table old.server mid alike slot none first acts in
      let none_then = ap (λ (v : View). v.waiting) (clock_is timely.0 old.server mid none first acts) ∙ none in
      let both = steps_but root counts EndFails step at waits clock.map mid new.server clock.same clock.in_slot none_then (calm ∙ sym first) calls in
      record {
        map = both.map;
        does = (timely.0, server_but clock.map counts mid, timely.2, clock.calls, both.calls);
        same = both.same;
        in_slot = both.in_slot;
      }

  -- each of them
  does_but : (call : Call ⊤) (channel : Channel) → ActionLogsInAt root (Other call) (held old channel) → Does server_machine call old new → BothDo (Does server_machine call)
  does_but (Aside own) channel logs does = still_but (Does server_machine (Aside own)) does.0 (ap (timed_but table counts) does.0, does.1)
  does_but (Listening port) channel logs does = alone_but (λ v w. ⊥) (listening_step port) (listening_at port root) (λ v. refl) does
  does_but (Opened host asked at_first so_far rest) channel logs does =
      let both = alone_but (λ v w. ⊥) (opened_step host) (opened_at host root) (opened_waits host) does.0 in
      record { map = both.map; does = (both.does, does.1); same = both.same; in_slot = both.in_slot }
  does_but (Refused asked) channel logs does = alone_but (λ v w. ⊥) refused_step (refused_step_at root) refused_waits does
  does_but (Received octets count) channel logs does =
      let both = receives_but root counts (take count octets) table old.server new.server alike slot none calm does.0 in
      record { map = both.map; does = (both.calls, does.1); same = both.same; in_slot = both.in_slot }
  does_but (Gave count octets rest) channel logs does =
      let both = alone_but (GiveFails count) (given_step count) (given_at count root) (given_waits count) does.1 in
      record {
        map = both.map;
        does = ((λ on. does.0 (ap (λ (c : Counts). c.failures.strays) calm)), both.does);
        same = both.same;
        in_slot = both.in_slot;
      }
  does_but NoPort channel logs does = alone_but (λ v w. ⊥) no_port_step (no_port_at root) no_port_waits does
  does_but End channel logs does = ends_but end_step (end_at root) end_waits does
  does_but Break channel logs does = ends_but break_step (break_at root) break_waits does
  does_but Closed channel logs does = alone_but (λ v w. ⊥) close_step (close_at root) (λ v. refl) does
  does_but (Waited lost) channel logs does = still_but (Does server_machine (Waited lost)) does (ap (timed_but table counts) does)
  does_but (Got octets) channel logs does = still_but (Does server_machine (Got octets)) does (ap (timed_but table counts) does)
  does_but (Wrote octets) channel logs does = still_but (Does server_machine (Wrote octets)) does (ap (timed_but table counts) does)
  does_but (LetGo octets) channel logs does = still_but (Does server_machine (LetGo octets)) does.0 (ap (timed_but table counts) does.0, does.1)
  does_but Failed channel logs does = still_but (Does server_machine Failed) does (ap (timed_but table counts) does)
  does_but (Left asked) channel logs does = still_but (Does server_machine (Left asked)) does (ap (timed_but table counts) does)

  -- ---- control octets

  -- they are heard, and where one ends a line the clock is asked before
  hears_by : (is_end : Bool) (octets : List ℕ) → length octets ≤ 1
      → ((read : Reading) → IsReading read → (t : Table) (moment : ℕ) → IsAt root (hears read (clock_step moment (exchanged t old.server.view)) octets))
      → HearsBy is_end octets old new → BothDo (HearsBy is_end octets)
  hears_by true octets few logs heard =
      let mid : Server = heard.1 in
      let acts = heard.3 in
      let calls = heard.4 in
      let first = first_is_calm old.server.counts mid.counts new.server.counts acts.counted (calls reading_exists.0 reading_exists.1).counted calm in
      let clock = clock_but root counts heard.0 table old.server mid alike slot none first acts in
      let is = clock_is heard.0 old.server mid none first acts in
      let both = hears_but root counts clock.map mid new.server clock.same clock.in_slot (calm ∙ sym first) octets few calls
      (λ read reads t. subst (λ (v : View). IsAt root (hears read (exchanged t v) octets)) (sym is) (logs read reads t heard.0)) in
      record {
        map = both.map;
        does = (heard.0, server_but clock.map counts mid, heard.2, clock.calls, both.calls);
        same = both.same;
        in_slot = both.in_slot;
      }
  hears_by false octets few logs heard =
      let both = hears_but root counts table old.server new.server alike slot calm octets few heard.0
      (λ read reads t. logs read reads t old.server.view.context.moment) in
      record { map = both.map; does = (both.calls, heard.1); same = both.same; in_slot = both.in_slot }

  -- it is told that the control connection ended
  cut_but : new ≡ ended old → BothDo (λ a b. b ≡ ended a)
  unfolding control_end
  cut_but is =
      let v : View = old.server.view in
      let w : View = exchanged table v in
      let one = control_end_at root v in
      let its = control_end_at root w in
      let eq : at_root root (control_end w) ≡ at_root root (control_end v) = sym its.same ∙ ap control_end (same_at root v table alike) ∙ one.same in
      let view : new.server.view ≡ control_end v = ap (λ (t : Timed). t.server.view) is in
      let map : Table = (control_end w).session.table in
      record {
        map = map;
        does = ap (timed_but map counts) is
            ∙ ap (λ (u : View). record old { server = record { view = u; counts = counts } }) (sym (but_map root (control_end w) (control_end v) eq));
        same = ap (λ (u : View). u.session.table) eq ∙ ap (λ (u : View). only_at root u.session.table) (sym view);
        in_slot = subst (IsInSlot root) (sym view) (record { known = slot.known; held = one.held });
      }

-- ---- actions

module _ (root : Names) (counts : Counts) where
  -- one of both, with this map before it
  record BothDid (action : Action server_side) (table : Table) (old new : Stand server_side) : Type 0 where
    pub map : Table
    pub done : Done action (stand_but table counts old) (stand_but map counts new)
    pub same : only_at root map ≡ only_at root new.owner.end.server.view.session.table
    pub in_slot : IsInSlot root new.owner.end.server.view

  done_but : (action : Action server_side) (table : Table) (old new : Stand server_side) → only_at root table ≡ only_at root old.owner.end.server.view.session.table
      → IsInSlot root old.owner.end.server.view → StaysAt root action old.owner new.owner → Done action old new → BothDid action table old new
  done_but (Heard octets) table old new same in_slot stays done =
      let both = hears_by root counts table old.owner.end new.owner.end same in_slot stays.none_waits stays.calm (ends_line old.unheard) octets
      done.hears.0.0 stays.logs_in done.hears.0.1 in
      record {
        map = both.map;
        done = record {
          hears = ((done.hears.0.0, both.does), done.hears.1, done.hears.2);
          next = done.next;
          left = done.left;
          written = done.written;
        };
        same = both.same;
        in_slot = both.in_slot;
      }
  done_but (Said octets) table old new same in_slot stays done =
      let gives = done.gives in
      let both = alone_but root counts table old.owner.end new.owner.end same in_slot stays.none_waits stays.calm (λ v w. ⊥) (control_step gives.count)
      (control_at gives.count root) (λ v. refl) gives.gave in
      record {
        map = both.map;
        done = record {
          gives = record { count = gives.count; owed = gives.owed; gave = both.does; channel = gives.channel };
          wrote = done.wrote;
          left = done.left;
          unheard = done.unheard;
        };
        same = both.same;
        in_slot = both.in_slot;
      }
  done_but (Read octets) table old new same in_slot stays done = record {
    map = table;
    done = record {
      due = done.due;
      owner = ap (end_but table counts) done.owner;
      heard = done.heard;
      read = done.read;
      ended = done.ended;
      unheard = done.unheard;
      written = done.written;
    };
    same = same ∙ ap (λ (at : Held Timed). only_at root at.end.server.view.session.table) (sym done.owner);
    in_slot = subst (λ (at : Held Timed). IsInSlot root at.end.server.view) (sym done.owner) in_slot;
  }
  done_but Ended table old new same in_slot stays done =
      let both = cut_but root counts table old.owner.end new.owner.end same in_slot stays.none_waits stays.calm done.cut.0 in
      record {
        map = both.map;
        done = record {
          due = done.due;
          heard = done.heard;
          read = done.read;
          last = done.last;
          ended = done.ended;
          cut = (both.does, done.cut.1);
          unheard = done.unheard;
          written = done.written;
        };
        same = both.same;
        in_slot = both.in_slot;
      }
  done_but (Other call) table old new same in_slot stays done =
      let called = done.0 in
      let both = does_but root counts table old.owner.end new.owner.end same in_slot stays.none_waits stays.calm call old.owner.channel stays.logs_in called.0 in
      record {
        map = both.map;
        done = ((both.does, called.1, due_but table counts call old.owner called.2), ap (stand_but both.map counts) done.1);
        same = both.same;
        in_slot = both.in_slot;
      }

  -- all of them
  pub record BothLed (actions : List (Action server_side)) (table : Table) (start now : Stand server_side) : Type 0 where
    pub map : Table
    pub led : Led actions (stand_but table counts start) (stand_but map counts now)
    pub same : only_at root map ≡ only_at root now.owner.end.server.view.session.table
    pub in_slot : IsInSlot root now.owner.end.server.view

  pub led_but : (actions : List (Action server_side)) (table : Table) (start now : Stand server_side)
      → only_at root table ≡ only_at root start.owner.end.server.view.session.table → IsInSlot root start.owner.end.server.view
      → (led : Led actions start now) → Along (StaysAt root) actions start now led → BothLed actions table start now
  led_but [] table start now same in_slot led along = record {
    map = table;
    led = ap (stand_but table counts) led;
    same = same ∙ ap (λ (s : Stand server_side). only_at root s.owner.end.server.view.session.table) (sym led);
    in_slot = subst (λ (s : Stand server_side). IsInSlot root s.owner.end.server.view) (sym led) in_slot;
  }
  led_but (action ∷ before) table start now same in_slot led along =
      let first = led_but before table start led.0 same in_slot led.1 along.0 in
      let one = done_but action first.map led.0 now first.same first.in_slot along.1 led.2 in
      record { map = one.map; led = (stand_but first.map counts led.0, first.led, one.done); same = one.same; in_slot = one.in_slot }
