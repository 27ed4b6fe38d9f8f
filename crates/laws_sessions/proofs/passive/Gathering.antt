-- The turns of a session, put together.
use Rattle.std.proofs.Common.{◌≡◌, inl, ℕ, ◌≤◌, false, List, [], ◌∷◌, ◌++◌, length, refl, ap, subst, ◌∙◌, arith}
use Rattle.ftp_ports.specs.Actions.{Action, Other}
use Rattle.ftp_client_driver.specs.Side.{Begun, client_side}
use Rattle.ftp_client_model.specs.Calls.{is_busy}
use Rattle.ftp_operation.specs.Answer.{Said}
use Rattle.ftp_operation.specs.declared.op.Op.{Op}
use Rattle.laws_drivers.specs.control.Between.{Between, Client, Server, Turn, client_actions, server_actions}
use Rattle.laws_drivers.proofs.events.Answers.{reported_free}
use Rattle.ftp_pair_memory.specs.streams.Order.{AllCame, Counted, Went}
use Rattle.ftp_pair_memory.specs.steps.Taking.{Answered, Ends, by_client}
use Rattle.ftp_pair_memory.proofs.steps.Gathering.{came_then, clients_then, counted_then, its_own, no_others, servers_then, went_then}
use Rattle.laws_sessions.specs.passive.Sessions.{AreAsked, actions_of, turns_of_both}

-- either end did no more than both
pub far_fewer : (turns : List Turn) → length (server_actions turns) ≤ length turns
far_fewer [] = omega arith
far_fewer (Server action ∷ before) = let is = far_fewer before in omega (arith, is)
far_fewer (Client action ∷ before) = let is = far_fewer before in omega (arith, is)

pub near_fewer : (turns : List Turn) → length (client_actions turns) ≤ length turns
near_fewer [] = omega arith
near_fewer (Server action ∷ before) = let is = near_fewer before in omega (arith, is)
near_fewer (Client action ∷ before) = let is = near_fewer before in omega (arith, is)

module _ (op : Op (List ℕ)) (answer : Said) (before : List Turn) (mid now : Ends) (a : Answered op answer mid now) where
  -- all of them, one operation after those before
  abbrev pub turns_with : List Turn
  turns_with = by_client (actions_of a.settled.answers) ++ (a.settled.took.turns ++ (Client (Other (Begun op)) ∷ before))

  -- of which these are the client's
  abbrev pub clients_with : List (Action client_side)
  clients_with = actions_of a.settled.answers ++ (client_actions a.settled.took.turns ++ (Other (Begun op) ∷ client_actions before))

  pub clients : client_actions turns_with ≡ clients_with
  clients =
      let last = actions_of a.settled.answers in
      let rest : List Turn = a.settled.took.turns ++ (Client (Other (Begun op)) ∷ before) in
      clients_then (by_client last) rest ∙ ap (λ l. l ++ client_actions rest) (its_own last)
      ∙ ap (λ l. last ++ l) (clients_then a.settled.took.turns (Client (Other (Begun op)) ∷ before))

  -- and these the server's
  pub servers : server_actions turns_with ≡ server_actions a.settled.took.turns ++ server_actions before
  servers =
      let last = actions_of a.settled.answers in
      let rest : List Turn = a.settled.took.turns ++ (Client (Other (Begun op)) ∷ before) in
      servers_then (by_client last) rest ∙ ap (λ l. l ++ server_actions rest) (no_others last)
      ∙ servers_then a.settled.took.turns (Client (Other (Begun op)) ∷ before)

  -- in an order
  pub with_went : (start : Between) → Went before start mid.between → Went turns_with start now.between
  with_went start went =
      let took = a.settled.took in
      let answers = a.settled.answers in
      let begun : Went (Client (Other (Begun op)) ∷ before) start mid.between = (mid.between, went, inl refl) in
      went_then (by_client (actions_of answers)) (took.turns ++ (Client (Other (Begun op)) ∷ before)) start a.settled.mid.between now.between answers.went
      (went_then took.turns (Client (Other (Begun op)) ∷ before) start mid.between a.settled.mid.between took.went begun)

-- so it is of a session
pub session_went : (asked : List (Op (List ℕ) × Said)) (start now : Ends) (are : AreAsked asked start now)
    → Went (turns_of_both asked start now are) start.between now.between
session_went [] start now are = ap (λ (e : Ends). e.between) are
session_went (asked ∷ before) start now are =
    with_went asked.0 asked.1 (turns_of_both before start are.0 are.1) are.0 now are.2 start.between (session_went before start are.0 are.1)

-- and each port that was told in it was the next one
pub session_counted : (asked : List (Op (List ℕ) × Said)) (start now : Ends) (are : AreAsked asked start now)
    → Counted (turns_of_both asked start now are) start.listens now.listens
session_counted [] start now are = ap (λ (e : Ends). e.listens) are
session_counted (asked ∷ before) start now are =
    let a = are.2.settled in
    let turns = turns_of_both before start are.0 are.1 in
    let first : List Turn = Client (Other (Begun asked.0)) ∷ turns in
    let begun : Counted first start.listens are.0.listens = (are.0.listens, session_counted before start are.0 are.1, refl) in
    counted_then (by_client (actions_of a.answers)) (a.took.turns ++ first) start.listens a.mid.listens now.listens a.answers.counted
    (counted_then a.took.turns first start.listens are.0.listens a.mid.listens a.took.counted begun)

-- and who came was the host at the other end
pub session_came : (asked : List (Op (List ℕ) × Said)) (start now : Ends) (are : AreAsked asked start now)
    → AllCame start.hosts (turns_of_both asked start now are) × (now.hosts ≡ start.hosts)
session_came [] start now are = (tt, ap (λ (e : Ends). e.hosts) are)
session_came (asked ∷ before) start now are =
    let a = are.2.settled in
    let earlier = session_came before start are.0 are.1 in
    let first : List Turn = Client (Other (Begun asked.0)) ∷ turns_of_both before start are.0 are.1 in
    let took = subst (λ h. AllCame h a.took.turns) earlier.1 a.took.came in
    let hosts = a.took.hosts ∙ earlier.1 in
    let last = subst (λ h. AllCame h (by_client (actions_of a.answers))) hosts a.answers.came in (
      came_then start.hosts (by_client (actions_of a.answers)) (a.took.turns ++ first) last (came_then start.hosts a.took.turns first took (earlier.0, tt)),
      a.answers.hosts ∙ hosts,
    )

module _ (op : Op (List ℕ)) (answer : Said) (mid now : Ends) (a : Answered op answer mid now) where
  -- a client that has answered is not busy
  pub answered_free : is_busy now.client.end.view ≡ false
  answered_free =
      let led = a.settled.answers.led in
      let report = led.1.1.2 in
      ap is_busy led.2.0.0.0 ∙ ap (λ c. is_busy c.view) led.1.2.0.0 ∙ ap is_busy report.0.0.1.0 ∙ reported_free led.1.1.0.owner.end.view answer report.0.0.0

  -- and has nothing to close
  pub answered_closed : now.client.end.view.closing ≡ false
  answered_closed = ap (λ v. v.closing) a.settled.answers.led.2.0.0.0
