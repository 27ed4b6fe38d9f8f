-- How a drive gets on, as the parts of it say that.
use Rattle.std.proofs.Common.{◌≡◌, ◌<◌, ◌≤◌, ℕ, [], ◌∷◌, length, refl, subst, sym, arith, Result, Ok, Err}
use Rattle.std.specs.Prelude.{IsErrAnd}
use Rattle.ftp_ports.specs.Actions.{Action, Done, Heard, Said, Read, Ended as ToldEnded, Other, Stand, step_by, steps_in}
use Rattle.ftp_ports.specs.Driving.{Fails, Goes, Leads}
use Rattle.ftp_ports.specs.Machine.{GetsOn, IsProgress, Machine, Progresses, side_of}
use Rattle.ftp_ports.specs.Machine.{Aside, Break, Closed, End, Failed, Gave, Got, Left, LetGo, Listening, NoPort, Opened, Received, Refused, Waited, Wrote}
use Rattle.ftp_ports.specs.declared.cause.Cause.{Cause}
use Rattle.ftp_ports.proofs.Leading.{fails_then, leads_nowhere, leads_on, leads_then, on_steps, then_steps}

module _ {machine : Machine} where
  -- by one action
  pub progresses_by : (action : Action (side_of machine)) (a b : Stand (side_of machine)) → IsProgress machine action → Done action a b → Progresses machine a b
  progresses_by action a b progress done =
      record { old = a; new = b; before = leads_nowhere a; action = action; progress = progress; done = done; after = leads_nowhere b }

  -- actions, and then that one
  pub progresses_on : (action : Action (side_of machine)) (a b c : Stand (side_of machine)) → IsProgress machine action → Leads a b → Done action b c → Progresses machine a c
  progresses_on action a b c progress leads done =
      record { old = b; new = c; before = leads; action = action; progress = progress; done = done; after = leads_nowhere c }

  -- actions, and then it gets on; and it gets on, and then actions
  pub then_progresses : (a b c : Stand (side_of machine)) → Leads a b → Progresses machine b c → Progresses machine a c
  then_progresses a b c first progresses = record {
    old = progresses.old;
    new = progresses.new;
    before = leads_then a b progresses.old first progresses.before;
    action = progresses.action;
    progress = progresses.progress;
    done = progresses.done;
    after = progresses.after;
  }

  pub progresses_then : (a b c : Stand (side_of machine)) → Progresses machine a b → Leads b c → Progresses machine a c
  progresses_then a b c progresses second = record {
    old = progresses.old;
    new = progresses.new;
    before = progresses.before;
    action = progresses.action;
    progress = progresses.progress;
    done = progresses.done;
    after = leads_then progresses.new b c progresses.after second;
  }

  -- that it got on is that actions led there
  pub progresses_lead : (a b : Stand (side_of machine)) → Progresses machine a b → Leads a b
  progresses_lead a b progresses =
      leads_then a progresses.new b (leads_on progresses.action a progresses.old progresses.new progresses.before progresses.done) progresses.after

  -- it got on by an action at least
  progress_some : (action : Action (side_of machine)) → IsProgress machine action → 1 ≤ step_by action
  progress_some (Heard []) progress = absurd (omega (arith, progress))
  progress_some (Heard (octet ∷ octets)) progress = omega arith
  progress_some (Said octets) progress = absurd progress
  progress_some (Read octets) progress = omega arith
  progress_some ToldEnded progress = omega arith
  progress_some (Other (Aside own)) progress = absurd progress
  progress_some (Other (Listening port)) progress = omega arith
  progress_some (Other (Opened host asked at_first so_far rest)) progress = omega arith
  progress_some (Other (Refused asked)) progress = omega arith
  progress_some (Other (Received octets count)) progress = omega arith
  progress_some (Other (Gave count octets rest)) progress = omega arith
  progress_some (Other NoPort) progress = omega arith
  progress_some (Other End) progress = omega arith
  progress_some (Other Break) progress = omega arith
  progress_some (Other Closed) progress = omega arith
  progress_some (Other (Waited lost)) progress = omega arith
  progress_some (Other (Got octets)) progress = omega arith
  progress_some (Other (Wrote octets)) progress = omega arith
  progress_some (Other (LetGo octets)) progress = omega arith
  progress_some (Other Failed) progress = omega arith
  progress_some (Other (Left asked)) progress = omega arith

  pub progresses_some : (a b : Stand (side_of machine)) → (progresses : Progresses machine a b) → 1 ≤ steps_in (progresses_lead a b progresses).actions
  unfolding progresses_lead
  progresses_some a b progresses =
      let some = progress_some progresses.action progresses.progress in
      let on = leads_on progresses.action a progresses.old progresses.new progresses.before progresses.done in
      omega (arith, some, on_steps progresses.action a progresses.old progresses.new progresses.before progresses.done, then_steps a progresses.new b on progresses.after)

  -- ---- results

  pub then_gets : {T : Type 0} (a b c : Stand (side_of machine)) (r : Result T Cause) → Leads a b → GetsOn machine b c r → GetsOn machine a c r
  then_gets a b c (Ok value) first gets = then_progresses a b c first gets
  then_gets a b c (Err e) first fails = fails_then e a b c first fails

  pub gets_then : {T : Type 0} (a b c : Stand (side_of machine)) (r : Result T Cause) → Progresses machine a b → Goes b c r → GetsOn machine a c r
  gets_then a b c (Ok value) first goes = progresses_then a b c first goes
  gets_then a b c (Err e) first fails = fails_then e a b c (progresses_lead a b first) fails

  pub gets_goes : {T : Type 0} (a b : Stand (side_of machine)) (r : Result T Cause) → GetsOn machine a b r → Goes a b r
  gets_goes a b (Ok value) gets = progresses_lead a b gets
  gets_goes a b (Err e) fails = fails

  pub gets_err : {T : Type 0} (cause : Cause) (a b : Stand (side_of machine)) (r : Result T Cause) → IsErrAnd r (λ e. e ≡ cause) → Fails cause a b → GetsOn machine a b r
  gets_err cause a b (Ok value) failed fails = absurd failed
  gets_err cause a b (Err e) failed fails = subst (λ e. Fails e a b) (sym failed) fails
