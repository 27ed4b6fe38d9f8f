-- What both ends did in turns over connections in memory (RFC 959, section 2.3).
use Rattle.std.specs.Prelude.{◌≡◌, ⊤, ℕ, List, [], ◌∷◌, None, Option, Some}
use Rattle.ftp_ports.specs.Asking.{Asked}
use Rattle.ftp_ports.specs.Actions.{Action, Done, Led, Other}
use Rattle.ftp_ports.specs.Machine.{Closed, Held, Left}
use Rattle.ftp_client_driver.specs.Side.{Begun, Report, client_side}
use Rattle.ftp_client_model.specs.Failing.{Client as NearEnd}
use Rattle.ftp_operation.specs.Answer.{Said, said_of}
use Rattle.ftp_operation.specs.declared.answer.Answer.{Answer}
use Rattle.ftp_operation.specs.declared.op.Op.{Op}
use Rattle.laws_drivers.specs.control.Between.{Between, Client, Turn, client_actions, server_actions}
use Rattle.ftp_pair_memory.specs.streams.Order.{AllCame, Counted, Hosts, Went}
use Rattle.ftp_pair_memory.specs.streams.Plain.{quiet}
use Rattle.ftp_server_driver.specs.alone.Side.{Timed, server_side}
use Rattle.ftp_pair_memory.specs.declared.steps.turn_ending.Course.{Course}
use Rattle.ftp_pair_memory.specs.declared.steps.turn_ending.Course.TheVariants as Courses

-- two ends, what lies between them, how many ports were listened at by both, as a world counts them, and the host that each has at its other end
pub record Ends : Type 0 where
  pub server : Held Timed
  pub client : Held NearEnd
  pub between : Between
  pub listens : ℕ
  pub hosts : Hosts

-- these as one value
abbrev pub both_ends : Held Timed → Held NearEnd → Between → (listens : ℕ) → Hosts → Ends
both_ends server client between listens hosts =
    record { server = server; client = client; between = between; listens = listens; hosts = hosts }

-- actions of both led from here to there, in an order in which each could happen, and in which each port that was told was the next one; and who came was each
-- time the host at the other end
pub record Took (old new : Ends) : Type 0 where
  pub turns : List Turn
  pub server_led : Led (server_actions turns) (quiet {side = server_side} old.server) (quiet new.server)
  pub client_led : Led (client_actions turns) (quiet {side = client_side} old.client) (quiet new.client)
  pub went : Went turns old.between new.between
  pub counted : Counted turns old.listens new.listens
  pub came : AllCame old.hosts turns
  pub hosts : new.hosts ≡ old.hosts

-- the client's alone
abbrev pub by_client : List (Action client_side) → List Turn
by_client [] = []
by_client (action ∷ before) = Client action ∷ by_client before

-- a client's last actions, the last one first: it reported, its data connection was left, and it was told so
abbrev pub last_actions : Asked → Said → (midst : List (Action client_side)) → List (Action client_side)
last_actions asked answer midst = Other Closed ∷ Other (Left asked) ∷ Other (Report (Some answer)) ∷ midst

-- the client's drive was over with this answer, after actions of the client alone
pub record Answers (answer : Said) (old new : Ends) : Type 0 where
  pub asked : Asked
  pub midst : List (Action client_side)
  pub led : Led (last_actions asked answer midst) (quiet {side = client_side} old.client) (quiet new.client)
  pub went : Went (by_client (last_actions asked answer midst)) old.between new.between
  pub counted : Counted (by_client (last_actions asked answer midst)) old.listens new.listens
  pub came : AllCame old.hosts (by_client (last_actions asked answer midst))
  pub hosts : new.hosts ≡ old.hosts
  pub server : new.server ≡ old.server

-- both took turns to where the client had its last ones alone
pub record Settled (answer : Said) (old new : Ends) : Type 0 where
  pub mid : Ends
  pub took : Took old mid
  pub answers : Answers answer mid new

-- some turns of the client, or of the server; what is so where no turn comes after is in `Stopping`
abbrev pub NearTurns : {A : Type 0} → Course (Answer A) → (old new : Ends) → Type 0
NearTurns (Courses.Over answer) old new = Answers (said_of answer) old new
NearTurns Courses.On old new = Took old new
NearTurns (Courses.Off stop) old new = ⊤

-- the same of the server
abbrev pub FarTurns : Course ⊤ → (old new : Ends) → Type 0
FarTurns (Courses.Over over) old new = ⊤
FarTurns Courses.On old new = Took old new
FarTurns (Courses.Off stop) old new = ⊤

-- turns of both
abbrev pub Rounds : {A : Type 0} → Course (Answer A) → (old new : Ends) → Type 0
Rounds (Courses.Over answer) old new = Settled (said_of answer) old new
Rounds Courses.On old new = Took old new
Rounds (Courses.Off stop) old new = ⊤

-- the client began an operation
abbrev pub Begins : Op (List ℕ) → (old new : Held NearEnd) → Type 0
Begins op old new = Done {side = client_side} (Other (Begun op)) (quiet old) (quiet new)

-- and then they did so
pub record Answered (op : Op (List ℕ)) (answer : Said) (old new : Ends) : Type 0 where
  pub begun : Held NearEnd
  pub begins : Begins op old.client begun
  pub settled : Settled answer (both_ends old.server begun old.between old.listens old.hosts) new

-- so it is where an answer is given; else see `Stopping`
abbrev pub SettlesAnswer : {A : Type 0} → Option (Answer A) → (old new : Ends) → Type 0
SettlesAnswer (Some answer) old new = Settled (said_of answer) old new
SettlesAnswer None old new = ⊤

-- so it is of an operation
abbrev pub AsksAnswered : {A : Type 0} → Op (List ℕ) → Option (Answer A) → (old new : Ends) → Type 0
AsksAnswered op (Some answer) old new = Answered op (said_of answer) old new
AsksAnswered op None old new = ⊤
