-- A server that serves does so after each action of its drive but hearing: it runs, and no line waits.
use Rattle.std.proofs.Common.{◌≡◌, ℕ, true, false, List, [], ◌∷◌, drop, Option, refl, sym, ap, ◌∙◌}
use Rattle.std.specs.Prelude.{⊤}
use Rattle.ftp_endpoint.specs.declared.host.Host.{Host}
use Rattle.ftp_ends.specs.Link.{is_accepting, same_host}
use Rattle.ftp_ends.specs.declared.link.Wants.TheVariants as Want
use Rattle.ftp_ports.specs.Asking.{Came, Ended as EndedBy, Reset, Shut}
use Rattle.ftp_ports.specs.Actions.{Calls, Action, Done, Heard, Other, Read, Said as Says, Stand}
use Rattle.ftp_ports.specs.Machine.{Aside, Closed, Gave, Held, Left, LetGo, Listening, Opened, Waited, Wrote}
use Rattle.ftp_ports.specs.declared.whole.Rest.{Rest}
use Rattle.ftp_server_driver.specs.alone.Side.{Timed, server_side}
use Rattle.ftp_server_model.specs.Calls.{close_step, control_step, given_step, listening_step, opened_step}
use Rattle.ftp_server_model.specs.Machine.{completed}
use Rattle.ftp_server_model.specs.View.{View as Far}
use Rattle.laws_drivers.specs.control.Alone.{ServerIsCalm}
use Rattle.laws_drivers.specs.world.Ahead.{Level, Listens, Opens, accepts, far_world_ahead, is_asked}
use Rattle.laws_drivers.proofs.world.Ahead.{far_is, keeps, opened_level}
use Rattle.laws_drivers.proofs.world.Served.{far_wants}
use Rattle.laws_drivers.specs.events.Actions.{IsPeer}
use Rattle.laws_drivers.proofs.events.FarForms.{GivenKeeps, Sending, accepts_accepts, asked_listens, given_is, given_keeps, giving, is_listen, is_send, no_close, none_later, sending_of}
use Rattle.laws_drivers.proofs.events.Stands.{ServerServes}

-- ---- actions of a server that takes no octet of a data connection

-- it hears and says; it listens at its ports, accepts its peer there, gives and writes octets, and leaves its data connections: nothing of one fails
abbrev pub IsGiving : Action server_side → Held Timed → Type 0
IsGiving (Heard octets) at = ⊤
IsGiving (Says octets) at = ⊤
IsGiving (Read octets) at = ⊤
IsGiving (Other (Aside asked)) at = ⊤
IsGiving (Other (Listening port)) at = ⊤
IsGiving (Other (Opened host (Came from left written ∷ []) at_first so_far rest)) at = IsPeer host at
IsGiving (Other (Gave count octets rest)) at = ⊤
IsGiving (Other (Wrote octets)) at = ⊤
IsGiving (Other (Waited lost)) at = ⊤
IsGiving (Other (LetGo octets)) at = ⊤
IsGiving (Other (Left (EndedBy left written))) at = ⊤
IsGiving (Other (Left (Reset left written))) at = ⊤
IsGiving (Other (Left Shut)) at = ⊤
IsGiving (Other Closed) at = ⊤
IsGiving action at = ⊥

-- so it does, and it was not refused memory, and no device of it failed or strayed
abbrev pub ServerGives : Action server_side → (old new : Held Timed) → Type 0
ServerGives action old new = IsGiving action old × ServerIsCalm old new

-- ---- each of them

module _ (old new : Stand server_side) (before : ServerServes old.owner) where
  abbrev v : Far
  v = old.owner.end.server.view

  abbrev u : Far
  u = new.owner.end.server.view

  -- it is this now, which runs so
  now_serves : (f : Far) → u ≡ f → f.session.life ≡ v.session.life → f.waiting ≡ v.waiting → ServerServes new.owner
  now_serves f is life waiting = record {
    running = ap (λ (x : Far). x.session.life) is ∙ life ∙ before.running;
    none_waits = ap (λ (x : Far). x.waiting) is ∙ waiting ∙ before.none_waits;
  }

  same_serves : u ≡ v → ServerServes new.owner
  same_serves is = now_serves v is refl refl

  -- a port is told
  listens_serves : (port : ℕ) → new.owner.end.server.counts ≡ old.owner.end.server.counts → Calls {side = server_side} (Listening port) old new
      → ServerServes new.owner
  listens_serves port calm did =
      let unclosed : v.session.closing ≡ false = no_close v Want.Listen did.0.2.0 refl in
      let asked : is_asked v.session.connection ≡ true =
      sym (asked_listens v.session.connection) ∙ ap is_listen (sym (far_wants v before.running unclosed)) ∙ ap is_listen did.0.2.0 in
      let kept = keeps (Listens port) v asked in
      let is : far_world_ahead (Listens port) v ≡ close_step (listening_step port v) = far_is (Listens port) v unclosed in
      let waiting : (listening_step port v).waiting ≡ v.waiting = ap (λ (x : Far). x.waiting) (sym is) ∙ kept.waiting in
      now_serves (listening_step port v) (did.0.0.0.done calm ∙ none_later (listening_step port v) (waiting ∙ before.none_waits))
      (ap (λ (x : Far). x.session.life) (sym is) ∙ kept.life) waiting

  -- who came is accepted
  accepts_serves : (host from : Host) (left written at_first so_far : Option (List ℕ)) (rest : Rest)
      → new.owner.end.server.counts ≡ old.owner.end.server.counts → same_host host v.context.peer ≡ true
      → Calls {side = server_side} (Opened host (Came from left written ∷ []) at_first so_far rest) old new → ServerServes new.owner
  accepts_serves host from left written at_first so_far rest calm same did =
      let unclosed : v.session.closing ≡ false = no_close v Want.Accept did.0.2.0 refl in
      let waits : accepts v.session.connection ≡ true =
      sym (accepts_accepts v.session.connection) ∙ ap is_accepting (sym (far_wants v before.running unclosed)) ∙ ap is_accepting did.0.2.0 in
      let kept = keeps Opens v waits in
      let level : far_world_ahead Level (opened_step host v) ≡ far_world_ahead Opens v = opened_level host v waits unclosed same in
      let waiting : (opened_step host v).waiting ≡ v.waiting = ap (λ (x : Far). x.waiting) level ∙ kept.waiting in
      now_serves (opened_step host v) (did.0.0.0.0.done calm ∙ none_later (opened_step host v) (waiting ∙ before.none_waits))
      (ap (λ (x : Far). x.session.life) level ∙ kept.life) waiting

  -- octets were given
  gave_serves : (count : ℕ) (octets : List ℕ) (rest : Rest) → new.owner.end.server.counts ≡ old.owner.end.server.counts
      → Calls {side = server_side} (Gave count octets rest) old new → ServerServes new.owner
  gave_serves count octets rest calm did =
      let unclosed : v.session.closing ≡ false = no_close v Want.Send did.0.2 refl in
      let s : Sending v.session.connection =
      sending_of v.session.connection (ap is_send (sym (far_wants v before.running unclosed)) ∙ ap is_send did.0.2) in
      let vg : v ≡ giving s.listed s.all v = λ i. record v { session = record v.session { connection = s.is i; closing = unclosed i } } in
      let step : given_step count v ≡ completed (giving s.listed (drop count s.all) v) = ap (given_step count) vg ∙ given_is s.listed count s.all v in
      let kept : GivenKeeps (completed (giving s.listed (drop count s.all) v)) v = given_keeps s.listed (drop count s.all) v in
      now_serves (completed (giving s.listed (drop count s.all) v))
      (did.0.0.1.0.done calm ∙ none_later (given_step count v) (ap (λ (x : Far). x.waiting) step ∙ kept.waiting ∙ before.none_waits) ∙ step)
      kept.life kept.waiting

-- an action but hearing
abbrev pub IsElse : Action server_side → Type 0
IsElse (Heard octets) = ⊥
IsElse action = Unit {0}

pub action_serves : (action : Action server_side) → IsElse action → (old new : Stand server_side) → ServerGives action old.owner new.owner → Done action old new
    → ServerServes old.owner → ServerServes new.owner
action_serves (Says octets) other old new is did before =
    let v : Far = old.owner.end.server.view in
    now_serves old new before (control_step did.gives.count v) (did.gives.gave.0.done is.1 ∙ none_later (control_step did.gives.count v) before.none_waits)
    refl refl
action_serves (Read octets) other old new is did before = same_serves old new before (ap (λ o. o.end.server.view) did.owner)
action_serves (Other (Aside tt)) other old new is did before = same_serves old new before (ap (λ at. at.server.view) did.0.0.0)
action_serves (Other (Listening port)) other old new is did before = listens_serves old new before port is.1 did
action_serves (Other (Opened host (Came from left written ∷ []) at_first so_far rest)) other old new is did before =
    accepts_serves old new before host from left written at_first so_far rest is.1 is.0 did
action_serves (Other (Gave count octets rest)) other old new is did before = gave_serves old new before count octets rest is.1 did
action_serves (Other (Wrote octets)) other old new is did before = same_serves old new before (ap (λ at. at.server.view) did.0.0)
action_serves (Other (Waited lost)) other old new is did before = same_serves old new before (ap (λ at. at.server.view) did.0.0)
action_serves (Other (LetGo octets)) other old new is did before = same_serves old new before (ap (λ at. at.server.view) did.0.0.0)
action_serves (Other (Left (EndedBy left written))) other old new is did before = same_serves old new before (ap (λ at. at.server.view) did.0.0)
action_serves (Other (Left (Reset left written))) other old new is did before = same_serves old new before (ap (λ at. at.server.view) did.0.0)
action_serves (Other (Left Shut)) other old new is did before = same_serves old new before (ap (λ at. at.server.view) did.0.0)
action_serves (Other Closed) other old new is did before =
    let v : Far = old.owner.end.server.view in
    now_serves old new before (close_step v) (did.0.0.0.done is.1 ∙ none_later (close_step v) before.none_waits) refl refl
action_serves (Heard octets) other old new is did before = absurd other
action_serves action other old new is did before = absurd is.0
