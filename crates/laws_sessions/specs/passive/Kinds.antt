-- Sessions of turns whose operations, and whose actions of either end, are of one kind, and what is claimed of them.
use Rattle.std.specs.Prelude.{◌≡◌, ⊤, ℕ, ◌^◌, ◌<◌, List, [], ◌∷◌, length}
use Rattle.ftp_ports.specs.Actions.{Action, Led, Other, Stand}
use Rattle.ftp_ports.specs.Machine.{Break, Held}
use Rattle.ftp_ports.specs.Side.{Side}
use Rattle.ftp_client_driver.specs.Side.{client_side}
use Rattle.ftp_client_model.specs.Failing.{Client as NearEnd}
use Rattle.ftp_operation.specs.Answer.{Said}
use Rattle.ftp_operation.specs.declared.op.Op.{Op}
use Rattle.laws_drivers.specs.events.Bare.{IsBare}
use Rattle.laws_drivers.specs.events.Actions.{Along, AreMidst}
use Rattle.laws_drivers.specs.control.Alone.{ClientIsCalm, ServerIsCalm}
use Rattle.laws_drivers.specs.control.Between.{Between, Client, Has, Has_lost, Turn, client_actions, nothing_yet, server_actions}
use Rattle.laws_drivers.specs.control.Claims.{Begins}
use Rattle.laws_drivers.specs.events.Answers.{answers_of, orders_at}
use Rattle.laws_drivers.specs.events.Moments.{AreMoments, IsToldAt}
use Rattle.laws_world.specs.Claims.{AreAnswers, Beginning, IsFair, state_of}
use Rattle.ftp_server_driver.specs.alone.Side.{Timed, server_side}
use Rattle.ftp_pair_memory.specs.streams.Order.{Went}
use Rattle.ftp_pair_memory.specs.streams.Plain.{quiet}
use Rattle.ftp_pair_memory.specs.steps.Taking.{Answered, Ends, by_client}
use Rattle.laws_sessions.specs.passive.Sessions.{AreAsked, actions_of, turns_of_both}

-- which operations are asked for, which actions either end does as it holds this, and whom the ends have at their other ends as a session begins
pub record Kind : Type 1 where
  pub Carries : Op (List ℕ) → Type 0
  pub Serves : Action server_side → Held Timed → Type 0
  pub Asks : Action client_side → Held NearEnd → Type 0
  pub Meets : Ends → Type 0

-- such an action, and the ends before it and after it keep this
module _ {side : Side} (Is : Action side → side.End → Type 0) (Keeps : (old new : side.End) → Type 0) where
  abbrev pub Does : Action side → (old new : side.End) → Type 0
  Does action old new = Is action old × Keeps old new

-- right before the end of each data connection the server is told this moment
abbrev pub AreAllToldAt : (moment : ℕ) (actions : List (Action server_side)) (start now : Stand server_side) → Led actions start now → Type 0
AreAllToldAt moment [] start now led = ⊤
AreAllToldAt moment (action ∷ before) start now led = AreAllToldAt moment before start led.0 led.1 × IsToldAt action led.0 now led.2 moment

-- the client is told of a break only of a data connection that it has, and that the server has reset
abbrev pub BreaksAreResets : (turns : List Turn) (first now : Between) → Went turns first now → Type 0
BreaksAreResets [] first now went = ⊤
BreaksAreResets (Client (Other Break) ∷ before) first now went =
    BreaksAreResets before first went.0 went.1 × (went.0.near ≡ Has) × (went.0.far ≡ Has_lost)
BreaksAreResets (turn ∷ before) first now went = BreaksAreResets before first went.0 went.1

-- An operation of that kind was answered by such actions, at this moment: before the client reported nothing was reported, and no other operation begun; it was
-- told of no break but the server's resets; and the ends before and after each action keep this
module _ (kind : Kind) (KeepsServer : (old new : Held Timed) → Type 0) (KeepsClient : (old new : Held NearEnd) → Type 0) where
  pub record AnsweredSo (moment : ℕ) {op : Op (List ℕ)} {answer : Said} {old new : Ends} (a : Answered op answer old new) : Type 0 where
    pub carried : kind.Carries op
    pub kept : KeepsClient old.client a.begun
    pub serves : Along (Does kind.Serves KeepsServer) (server_actions a.settled.took.turns) (quiet old.server) (quiet a.settled.mid.server)
        a.settled.took.server_led
    pub told : AreAllToldAt moment (server_actions a.settled.took.turns) (quiet old.server) (quiet a.settled.mid.server) a.settled.took.server_led
    pub asks : Along (Does kind.Asks KeepsClient) (client_actions a.settled.took.turns) (quiet a.begun) (quiet a.settled.mid.client) a.settled.took.client_led
    pub midst : AreMidst (client_actions a.settled.took.turns)
    pub last_asks : Along (Does kind.Asks KeepsClient) (actions_of a.settled.answers) (quiet a.settled.mid.client) (quiet new.client) a.settled.answers.led
    pub last_midst : AreMidst a.settled.answers.midst
    pub resets : BreaksAreResets a.settled.took.turns old.between a.settled.mid.between a.settled.took.went
    pub last_resets : BreaksAreResets (by_client (actions_of a.settled.answers)) a.settled.mid.between new.between a.settled.answers.went

  -- each of them, the n-th, from 0, at the n-th of these moments
  abbrev pub AreAnsweredSo : (moments : ℕ → ℕ) (asked : List (Op (List ℕ) × Said)) (start now : Ends) → AreAsked asked start now → Type 0
  AreAnsweredSo moments [] start now are = ⊤
  AreAnsweredSo moments (asked ∷ before) start now are = AreAnsweredSo moments before start are.0 are.1 × AnsweredSo (moments (length before)) are.2

  -- All that is asked of such a session: it began fairly, with nothing between both ends, no port told yet, and no octet of a data connection on its way or in
  -- hand; the ends have at their other ends whom this kind asks for; and its operations were answered so
  pub record SessionBy (b : Beginning) (moments : ℕ → ℕ) (asked : List (Op (List ℕ) × Said)) (start now : Ends) : Type 0 where
    pub begins : Begins b (quiet start.server) (quiet start.client)
    pub nothing : start.between ≡ nothing_yet
    pub listens : start.listens ≡ 0
    pub meets : kind.Meets start
    pub server_bare : IsBare start.server.channel
    pub client_bare : IsBare start.client.channel
    pub are : AreAsked asked start now
    pub by : AreAnsweredSo moments asked start now are

module _ (kind : Kind) where
  -- neither was refused memory, and no device failed or strayed
  abbrev pub IsSession : (b : Beginning) (moments : ℕ → ℕ) (asked : List (Op (List ℕ) × Said)) (start now : Ends) → Type 0
  IsSession b moments asked start now = SessionBy kind ServerIsCalm ClientIsCalm b moments asked start now

  -- the same, of which nothing is known of that
  abbrev pub IsBeside : (b : Beginning) (moments : ℕ → ℕ) (asked : List (Op (List ℕ) × Said)) (start now : Ends) → Type 0
  IsBeside b moments asked start now = SessionBy kind (λ old new. ⊤) (λ old new. ⊤) b moments asked start now

  -- the answers, and the map that the server holds, are those of the operations run directly; neither the order, nor the ports, nor who came is among the
  -- premises
  abbrev pub AreTheDirectRun : Type 0
  AreTheDirectRun =
      (b : Beginning) → IsFair b → (moments : ℕ → ℕ) → AreMoments moments → (asked : List (Op (List ℕ) × Said)) (start now : Ends)
      → IsSession b moments asked start now
      → AreAnswers (state_of b) (orders_at moments asked) (answers_of asked) now.server.end.server.view.session.table

  -- so it is where the counts of both ends are in the end what they were, and fewer than 2^60 actions were done: the counts wrap
  abbrev pub AreByCounts : Type 0
  AreByCounts =
      (b : Beginning) → IsFair b → (moments : ℕ → ℕ) → AreMoments moments → (asked : List (Op (List ℕ) × Said)) (start now : Ends)
      → (s : IsBeside b moments asked start now)
      → now.server.end.server.counts ≡ start.server.end.server.counts → now.client.end.refusals ≡ start.client.end.refusals
      → length (turns_of_both asked start now s.are) < 2 ^ 60
      → AreAnswers (state_of b) (orders_at moments asked) (answers_of asked) now.server.end.server.view.session.table
