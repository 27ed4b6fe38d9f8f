-- What is claimed of a session, in words that a reader can check, of every list of events: deliveries of any counts over each of the
-- four queues, openings, refusals, ends, breaks, ends of the control connection, all eighteen operations, and uploads over breaks. After
-- every event the reports and the map agree with what was begun; where nothing is in flight each has its report, and another can be
-- begun; and where no link was refused or broke, the control connection did not end and no upload over breaks was begun, that is the
-- direct run. Want of memory and failures of a device are no events here: the ends' clauses hold where neither count changed.
use Rattle.std.specs.Prelude.{◌≡◌, ◌⊎◌, ℕ, ◌<◌, ◌≤◌, true, List, [], ◌∷◌, length, Option, None, IsTrue}
use Rattle.ftp_endpoint.specs.declared.host.Host.{Host}
use Rattle.ftp_endpoint.specs.declared.host.Host.TheVariants.{V4, V6}
use Rattle.ftp_endpoint.specs.Written.{IsTypedHost}
use Rattle.ftp_operation.specs.Account.{accounts_refusal, login_account, is_user, is_password}
use Rattle.ftp_operation.specs.Answer.{Said, Done, Unopened, Lost}
use Rattle.ftp_direct.specs.Direct.{State, start as direct_start, answer, answers, changed, file_of, named, part}
use Rattle.std.specs.List.{list_all}
use Rattle.ftp_pieces.specs.Machine.{IsFront}
use Rattle.ftp_tree.specs.Sound.{IsSoundTable, last_second}
use Rattle.ftp_tree.specs.Tree.{Table, IsTree, installed}
use Rattle.ftp_operation.specs.declared.op.How.{How}
use Rattle.ftp_operation.specs.declared.op.Op.{Op}
use Rattle.ftp_operation.specs.declared.op.Op.TheVariants as Ops
use Rattle.ftp_client_model.specs.Plan.{settings_of}
use Rattle.ftp_client_model.specs.Tries.{OverBreaks, most_tries}
use Rattle.ftp_client_model.specs.View.{client}
use Rattle.ftp_server_model.specs.Calls.{start}
use Rattle.ftp_server_model.specs.Machine.{Reading, IsReading}
use Rattle.ftp_server_model.specs.Held.{HasShortFiles}
use Rattle.ftp_server_model.specs.Told.{is_path}
use Rattle.ftp_server_model.specs.View.{Accounts}
use Rattle.laws_world.specs.Agreement.{AttemptHolds, Order, Tries, tries_in, Item, IsItemOf, item_did, ItemHolds}
use Rattle.laws_world.specs.Agreement.{IsReported, AreSingle, operations, Agrees, WorldAgrees, IsDirect, Leads, AreHonest, HasBroken}
use Rattle.laws_world.specs.Events.{Event, Deliver, Open, End, Next, Upload, Happens, IsQuiet, can_begin}
use Rattle.laws_world.specs.Outcome.{Outcome, did, front, fetched, download_text}
use Rattle.laws_world.specs.Settling.{Falls, left_in}
use Rattle.laws_world.specs.World.{World, world, Mark}

-- ---- how a session begins

-- who logs in, the accounts, the map, and the hosts of the two ends
pub record Beginning : Type 0 where
  pub user : List ℕ
  pub pass : List ℕ
  pub accounts : Accounts
  pub table : Table
  pub near_host : Host
  pub far_host : Host

-- both hosts are of one family
abbrev pub AreRelated : Host → Host → Type 0
AreRelated (V4 one) (V4 other) = Unit {0}
AreRelated (V6 one) (V6 other) = Unit {0}
AreRelated one other = ⊥

-- where the direct run begins
abbrev pub state_of : Beginning → State
state_of b = direct_start b.table (login_account b.accounts b.user b.pass)

-- a login of the type; accounts of which no two have one user name and no root is below that of another that may change something; a map of
-- names and moments, each of its files within the limit of a file where the login sees it; hosts of one family
pub record IsFair (b : Beginning) : Type 0 where
  pub user : IsTrue (is_user b.user)
  pub pass : IsTrue (is_password b.pass)
  pub accounts : accounts_refusal b.accounts ≡ None
  pub roots : IsTrue (list_all (λ account. is_path account.root) b.accounts)
  pub tree : IsTree b.table
  pub files : HasShortFiles (part (state_of b))
  pub entries : IsSoundTable b.table
  pub near_typed : IsTypedHost b.near_host
  pub far_typed : IsTypedHost b.far_host
  pub hosts : AreRelated b.near_host b.far_host

-- the world of two ends as they begin, each the other's peer
abbrev pub world_of : Beginning → World
world_of b = world (client b.user b.pass b.near_host b.far_host) (start b.table b.accounts b.far_host b.near_host)

-- ---- the claims

-- each operation is begun at a moment
abbrev pub IsTimed : Event → Type 0
IsTimed (Next op moment) = moment ≤ last_second
IsTimed (Upload upload moment) = moment ≤ last_second
IsTimed event = Unit {0}

-- so is each of the events
abbrev pub AreTimed : List Event → Type 0
AreTimed [] = Unit {0}
AreTimed (event ∷ events) = IsTimed event × AreTimed events

-- something holds of every list of events, the operations that they began and the world that they lead to; `read` is how the
-- server reads its lines
abbrev pub Always : (Reading → Beginning → List Event → List Order → World → Type 0) → Type 0
Always Holds =
    (read : Reading) → IsReading read → (b : Beginning) → IsFair b
    → (events : List Event) (begun : List Order) (w : World) → AreTimed events → Leads read (world_of b) events begun w → Holds read b events begun w

-- any moment, any break: after every event of every list there is agreement
abbrev pub AgreesAlways : Type 0
AgreesAlways = Always (λ read b events begun w. WorldAgrees (state_of b) begun w)

-- where nothing is in flight each operation begun has its report, and another is possible
pub record IsAnswered (begun : List Order) (w : World) : Type 0 where
  pub reported : length w.reports ≡ length begun
  pub free : IsTrue (can_begin w)

-- after every list of events: if nothing is in flight, nothing is left open
abbrev pub QuietIsAnswered : Type 0
QuietIsAnswered = Always (λ read b events begun w. IsQuiet w → IsAnswered begun w)

-- nothing but deliveries, openings and ends
abbrev pub IsSettling : Event → Type 0
IsSettling (Deliver queue count) = Unit {0}
IsSettling Open = Unit {0}
IsSettling (End queue) = Unit {0}
IsSettling event = ⊥

-- so is each of the events
abbrev pub AreSettling : List Event → Type 0
AreSettling [] = Unit {0}
AreSettling (event ∷ events) = IsSettling event × AreSettling events

-- from a world such events lead to one in which nothing is in flight
abbrev pub Settles : Reading → World → Type 0
Settles read w = (events : List Event) × (new : World) × AreSettling events × Leads read w events [] new × IsQuiet new

-- so it is of every world that a session can come to
abbrev pub SettlesAlways : Type 0
SettlesAlways = Always (λ read b events begun w. Settles read w)

-- each step of settling lowers the first number that it changes of those that say what is left, which is why settling ends
abbrev pub SettlingFalls : Type 0
SettlingFalls =
    Always (λ read b events begun w. (event : Event) (new : World) → IsSettling event → Happens read event w true new → Falls (left_in new) (left_in w))

-- the headline: on honest connections, once nothing is in flight, the reports and the map are those of the operations begun, run directly.
-- Breaks, refusals and an end of the control connection are left out, since the direct run has no connection that could fail, and an
-- upload over breaks, since it is no operation of that run; of these there is agreement.
abbrev pub Headline : Type 0
Headline = Always (λ read b events begun w. AreHonest events → AreSingle begun → IsQuiet w → IsDirect (state_of b) begun w)

-- ---- an upload over breaks that is done

-- an item of an upload over breaks whose report is Done has put exactly its octets, and changed no other path, whatever broke
pub record HasPutAll (state : State) (upload : OverBreaks) (moment : ℕ) (item : Item) : Type 0 where
  pub table : (item_did state item).1.table ≡ (changed state (installed (part state) (named state upload.path) upload.octets moment)).table
  pub cwd : (item_did state item).1.cwd ≡ state.cwd

-- so it is of every item that agreement can have, and with agreement of every world
abbrev pub DoneIsWhole : Type 0
DoneIsWhole =
    (state : State) (upload : OverBreaks) (moment index : ℕ) (marks : List Mark) (cutoff : Option ℕ) (item : Item)
    → ItemHolds state (Tries upload moment) marks cutoff index item → IsReported state (Tries upload moment) item Done
    → HasPutAll state upload moment item

-- it never tries more often than it may
abbrev pub TriesAreFew : Type 0
TriesAreFew =
    (state : State) (upload : OverBreaks) (moment : ℕ) (item : Item) → IsItemOf state (Tries upload moment) item
    → tries_in (item.first ∷ item.more) ≤ most_tries

-- ---- a Peek

-- its link broke when a prefix of the file's wire had come, before the octets that it asked for were settled
pub record BrokeEarly (state : State) (text : List ℕ) (count : ℕ) (how : How) (marks : List Mark) : Type 0 where
  pub wire : List ℕ
  pub own : IsFront wire (download_text (fetched (settings_of how) 0 (file_of state text)))
  pub marked : HasBroken wire marks
  pub few : length (front (settings_of how) wire) < count

-- the direct answer, and the state that it leaves
abbrev pub IsDirectAnswer : State → Op (List ℕ) → ℕ → Said × State → Type 0
IsDirectAnswer state op moment done = done ≡ answer state op moment

-- a Peek that is neither Unopened nor Lost has the direct answer, unless its link broke early
abbrev pub PeekIsDirect : Type 0
PeekIsDirect =
    (state : State) (text : List ℕ) (count : ℕ) (how : How) (moment index : ℕ) (cutoff : Option ℕ) (outcome : Outcome) (marks : List Mark)
    → AttemptHolds state cutoff index (record { op = Ops.Peek text count how; outcome = outcome; marks = marks })
    → ((did outcome state (Ops.Peek text count how) moment).0 ≡ Unopened) ⊎ ((did outcome state (Ops.Peek text count how) moment).0 ≡ Lost)
    ⊎ IsDirectAnswer state (Ops.Peek text count how) moment (did outcome state (Ops.Peek text count how) moment)
    ⊎ BrokeEarly state text count how marks

-- ---- the headline is agreement without marks

-- no operation has a mark: no link was refused or broke
abbrev pub AreUnmarked : List (List Mark) → Type 0
AreUnmarked [] = Unit {0}
AreUnmarked (marks ∷ more) = (marks ≡ []) × AreUnmarked more

-- the answers and the map of the direct run
abbrev pub AreAnswers : State → List Order → List Said → Table → Type 0
AreAnswers from begun reports table = (reports ≡ (answers from (operations begun)).0) × (table ≡ (answers from (operations begun)).1.table)

-- then agreement is the direct run, where each operation has its report and the control connection has not ended
abbrev pub UnmarkedIsDirect : Type 0
UnmarkedIsDirect =
    (from : State) (begun : List Order) (marks : List (List Mark)) (reports : List Said) (table : Table)
    → AreSingle begun → AreUnmarked marks → length reports ≡ length begun → Agrees from begun marks None reports table → AreAnswers from begun reports table

-- so the headline follows from agreement at any moment, and from what holds where nothing is in flight
abbrev pub HeadlineFollows : Type 0
HeadlineFollows = AgreesAlways → QuietIsAnswered → Headline
