-- What is claimed of sessions of turns over the control connection alone, and of any order of such turns.
use Rattle.std.specs.Prelude.{◌≡◌, ⊤, ℕ, ◌^◌, ◌<◌, ◌≤◌, List, [], ◌∷◌, length, Some}
use Rattle.ftp_ports.specs.Machine.{Held}
use Rattle.ftp_client_model.specs.Failing.{Client as NearEnd}
use Rattle.ftp_operation.specs.Answer.{Said}
use Rattle.ftp_operation.specs.declared.op.Op.{Op}
use Rattle.laws_drivers.specs.control.Alone.{ClientAttends, ClientIsCalm, IsAskingAlone, IsServingAlone, ServerAttends, ServerIsCalm, Throughout}
use Rattle.laws_drivers.specs.control.Between.{Between, Client, Happened, Server, Turn, client_actions, nothing_yet, server_actions}
use Rattle.laws_drivers.specs.control.Claims.{Begins}
use Rattle.laws_drivers.specs.control.Example.{example, example_asked}
use Rattle.laws_drivers.specs.control.Over.{AreMidst, orders_at_moment}
use Rattle.laws_drivers.specs.events.Answers.{answers_of}
use Rattle.laws_drivers.specs.control.Touches.{ToldBreak, Touch, touch_in}
use Rattle.laws_world.specs.Claims.{AreAnswers, Beginning, IsFair, state_of}
use Rattle.ftp_server_driver.specs.alone.Side.{Timed}
use Rattle.ftp_tree.specs.Map.{Dir}
use Rattle.ftp_tree.specs.Sound.{last_second}
use Rattle.ftp_tree.specs.Tree.{Table, node_at}
use Rattle.ftp_pair_memory.specs.streams.Order.{Went}
use Rattle.ftp_pair_memory.specs.streams.Plain.{quiet}
use Rattle.ftp_pair_memory.specs.steps.Taking.{Answered, Ends}
use Rattle.laws_sessions.specs.passive.Sessions.{AreAsked, actions_of, turns_of_both}

-- ---- an order of all actions

-- no break of a data connection is told
abbrev pub IsUnbroken : Touch → Type 0
IsUnbroken ToldBreak = ⊥
IsUnbroken touch = ⊤

-- in none of these actions
abbrev pub AreUnbroken : List Turn → Type 0
AreUnbroken [] = ⊤
AreUnbroken (Server action ∷ before) = AreUnbroken before × IsUnbroken (touch_in action)
AreUnbroken (Client action ∷ before) = AreUnbroken before × IsUnbroken (touch_in action)

-- where that is so, and nothing lay between, an order as connections in memory have it is one in which each action can happen
abbrev pub WentHappens : Type 0
WentHappens = (turns : List Turn) (now : Between) → Went turns nothing_yet now → AreUnbroken turns → Happened turns now

-- ---- sessions over control alone

-- one was answered over control alone: neither end wanted a data connection, and before the client reported nothing was reported, and no other operation
-- begun; and the ends before and after each action keep this
module _ (KeepsServer : (old new : Held Timed) → Type 0) (KeepsClient : (old new : Held NearEnd) → Type 0) where
  pub record AskedBy {op : Op (List ℕ)} {answer : Said} {old new : Ends} (a : Answered op answer old new) : Type 0 where
    pub kept : KeepsClient old.client a.begun
    pub serves : Throughout IsServingAlone KeepsServer ServerAttends (server_actions a.settled.took.turns) (quiet old.server) (quiet a.settled.mid.server)
        a.settled.took.server_led
    pub asks : Throughout IsAskingAlone KeepsClient ClientAttends (client_actions a.settled.took.turns) (quiet a.begun) (quiet a.settled.mid.client)
        a.settled.took.client_led
    pub midst : AreMidst (client_actions a.settled.took.turns)
    pub last_asks : Throughout IsAskingAlone KeepsClient ClientAttends (actions_of a.settled.answers) (quiet a.settled.mid.client) (quiet new.client)
        a.settled.answers.led
    pub last_midst : AreMidst a.settled.answers.midst

  abbrev pub AreAskedBy : (asked : List (Op (List ℕ) × Said)) (start now : Ends) → AreAsked asked start now → Type 0
  AreAskedBy [] start now are = ⊤
  AreAskedBy (asked ∷ before) start now are = AreAskedBy before start are.0 are.1 × AskedBy are.2

-- neither was refused memory, and no device failed or strayed
abbrev pub AreAskedAlone : (asked : List (Op (List ℕ) × Said)) (start now : Ends) → AreAsked asked start now → Type 0
AreAskedAlone asked start now are = AreAskedBy ServerIsCalm ClientIsCalm asked start now are

-- the same, of which nothing is known of that
abbrev pub AreAskedBeside : (asked : List (Op (List ℕ) × Said)) (start now : Ends) → AreAsked asked start now → Type 0
AreAskedBeside asked start now are = AreAskedBy (λ old new. ⊤) (λ old new. ⊤) asked start now are

-- then the answers, and the map that the server holds, are those of the operations run directly; the order is none of the premises
abbrev pub SessionsAreTheDirectRun : Type 0
SessionsAreTheDirectRun =
    (b : Beginning) → IsFair b → (moment : ℕ) → moment ≤ last_second → (asked : List (Op (List ℕ) × Said)) (start now : Ends)
    → Begins b (quiet start.server) (quiet start.client) → start.between ≡ nothing_yet → (are : AreAsked asked start now) → AreAskedAlone asked start now are
    → AreAnswers (state_of b) (orders_at_moment moment asked) (answers_of asked) now.server.end.server.view.session.table

-- so it is where the counts of both ends are in the end what they were, and fewer than 2^60 actions were done: the counts wrap
abbrev pub SessionsByCounts : Type 0
SessionsByCounts =
    (b : Beginning) → IsFair b → (moment : ℕ) → moment ≤ last_second → (asked : List (Op (List ℕ) × Said)) (start now : Ends)
    → Begins b (quiet start.server) (quiet start.client) → start.between ≡ nothing_yet → (are : AreAsked asked start now) → AreAskedBeside asked start now are
    → now.server.end.server.counts ≡ start.server.end.server.counts → now.client.end.refusals ≡ start.client.end.refusals
    → length (turns_of_both asked start now are) < 2 ^ 60
    → AreAnswers (state_of b) (orders_at_moment moment asked) (answers_of asked) now.server.end.server.view.session.table

-- ---- an example

-- such a session exists: somebody logs in to a map that has a root, and asks where he is
abbrev pub ExampleIsAsked : Type 0
ExampleIsAsked =
    (table : Table) → node_at table [] ≡ Some Dir → (start : Ends) × (now : Ends) × Begins (example table) (quiet start.server) (quiet start.client)
    × (start.between ≡ nothing_yet) × (are : AreAsked example_asked start now) × AreAskedAlone example_asked start now are
