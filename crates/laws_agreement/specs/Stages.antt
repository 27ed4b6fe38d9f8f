-- A world while a download, a listing or an upload is under way, of a Peek until it sends ABOR: a stage says what both ends hold of it, how the link stands
-- and what is on its way (RFC 959, sections 3.2 to 3.5 and 4.1.2).
use Rattle.std.specs.Prelude.{◌≡◌, ◌≢◌, ◌⊎◌, ℕ, ◌<◌, ◌≤◌, Bool, true, false, not, List, [], ◌∷◌, ◌++◌, length, Some, None}
use mathlib.Core.Logic.{inl, inr}
use Rattle.ftp_command.specs.Line.{line_of}
use Rattle.ftp_command.specs.declared.command.Command.TheVariants as Commands
use Rattle.ftp_endpoint.specs.declared.endpoint.Endpoint.{Endpoint}
use Rattle.ftp_endpoint.specs.declared.host.Host.{Host}
use Rattle.ftp_ends.specs.Reply.{Reply}
use Rattle.ftp_pieces.specs.Machine.{IsFront}
use Rattle.ftp_operation.specs.Answer.{Said}
use Rattle.ftp_path.specs.Path.{Names}
use Rattle.ftp_direct.specs.declared.refusal.Refusal.{Refusal}
use Rattle.ftp_direct.specs.Direct.{State, offset_refusal, refusal}
use Rattle.ftp_client_model.specs.Plan.{is_extended, port_command}
use Rattle.ftp_client_model.specs.View.{View as Near, Doing}
use Rattle.ftp_client_model.specs.declared.client.ClientLink.{ClientLink as NearConnection}
use Rattle.ftp_client_model.specs.declared.client.ClientLink.TheVariants as NearData
use Rattle.ftp_client_model.specs.declared.client.Ending.{Ending}
use Rattle.ftp_client_model.specs.declared.client.Ending.TheVariants as Endings
use Rattle.ftp_client_model.specs.declared.client.Replied.{Replied}
use Rattle.ftp_client_model.specs.declared.client.Replied.TheVariants as Replies
use Rattle.ftp_client_model.specs.declared.client.Step.TheVariants as Steps
use Rattle.ftp_server_model.specs.Machine.{Reading}
use Rattle.ftp_server_model.specs.Replies.{fixed_reply}
use Rattle.ftp_server_model.specs.View.{Transfer, how_in_force}
use Rattle.ftp_server_model.specs.Walk.{refusal_text}
use Rattle.ftp_server_model.specs.declared.reply.FixedReply.TheVariants as Texts
use Rattle.ftp_server_model.specs.declared.session.ServerLink.{ServerLink as FarConnection}
use Rattle.ftp_server_model.specs.declared.session.ServerLink.TheVariants as FarData
use Rattle.ftp_server_model.specs.declared.session.Pending.{Pending}
use Rattle.ftp_server_model.specs.declared.session.Pending.TheVariants as Pendings
use Rattle.ftp_server_model.specs.declared.session.Way.TheVariants as Ways
use Rattle.ftp_settings.specs.declared.representation.Representation.{Representation}
use Rattle.laws_world.specs.Agreement.{Allows}
use Rattle.laws_world.specs.Outcome.{Outcome, CanBe, did}
use Rattle.laws_world.specs.World.{World, Link, Gone, Opened, ClosedByFar, Mark, Broken, Refused, counted}
use Rattle.laws_dialogues.specs.Dialogue.{IsSound, Passes, is_set_aside}
use Rattle.laws_dialogues.specs.Fetches.{Ask, HasAnswer, HasUpload, IsPlacedAt, IsTimely, Rise, Up, busy, carried, fetching, offering, leaving, linked, passive_verb_of, port_reply, rest_reply, giving_of, is_filled, offset_pending, kept, IsSteadySession, Opens}
use Rattle.laws_dialogues.specs.Login.{IsOnWay}
use Rattle.laws_dialogues.specs.Stage.{Way, Asking, Answering, rest}
use Rattle.laws_agreement.specs.Rising.{Lift, lift_passes, lift_near, lift_far, lift_closing, lift_link, lift_way, lift_queue, lift_state, LiftCame, LiftMarked, LiftFine, FaredTo}

-- ---- the link

-- open at both ends; the server is to close it; the server has closed it; or gone, as the client saw it end
pub data Tie : Type 0 where
  Joined Parting Left : Tie
  Over : (ending : Ending) → Tie

-- the link of the world
abbrev pub link_of : Tie → Link
link_of Joined = Opened
link_of Parting = Opened
link_of Left = ClosedByFar
link_of (Over ending) = Gone

-- what the client holds of it
abbrev pub near_link : Tie → NearConnection
near_link Joined = NearData.Open
near_link Parting = NearData.Open
near_link Left = NearData.Open
near_link (Over ending) = NearData.Over ending

-- what the server holds of it: this, while it is open at both ends
abbrev pub far_link : FarConnection Transfer → Tie → FarConnection Transfer
far_link connection Joined = connection
far_link connection tie = FarData.Free

-- the server is to close it
abbrev pub is_parting : Tie → Bool
is_parting Parting = true
is_parting tie = false

-- before the own command is acted on the link that the client dialled is open, or it broke
abbrev pub early_tie : Bool → Tie
early_tie true = Joined
early_tie false = Over Endings.Broken

-- the opening of a link, behind which commands follow: the client has dialled, and the link is open or it broke; or it listens at a port that
-- the server was told
pub data Early : Type 0 where
  Dialled : (joined : Bool) → Early
  Ported : (port : ℕ) → Early

-- the client's port, as it tells the server
abbrev pub at_port : Host → ℕ → Endpoint
at_port here port = record { host = here; port = port }

-- what the client holds of it
abbrev pub early_near : Early → NearConnection
early_near (Dialled joined) = near_link (early_tie joined)
early_near (Ported port) = NearData.Listening port

-- what the server holds of it, where the client's host is this
abbrev pub early_far : Host → Early → FarConnection Transfer
early_far here (Dialled joined) = far_link FarData.Ready (early_tie joined)
early_far here (Ported port) = FarData.Active (at_port here port)

-- the link of the world
abbrev pub early_link : Early → Link
early_link (Dialled joined) = link_of (early_tie joined)
early_link (Ported port) = Gone

-- the mark of a break, when so many octets had come
abbrev pub tie_marks : Tie → ℕ → List Mark
tie_marks (Over Endings.Broken) came = Broken came ∷ []
tie_marks tie came = []

-- the marks of an opening
abbrev pub early_marks : Early → List Mark
early_marks (Dialled joined) = tie_marks (early_tie joined) 0
early_marks (Ported port) = []

-- no octet has come, while one can
abbrev pub EarlyCame : Early → ℕ → Type 0
EarlyCame (Dialled joined) count = count ≡ 0
EarlyCame (Ported port) count = Unit {0}

-- ---- how far a transfer is

-- how far REST is: it is on its way, accepted, or refused
pub data Restart : Type 0 where
  Sent Granted : Restart
  Denied : (why : Refusal) → Restart

-- which replies to RETR the client has heard: none, the 150, or the 226 too
pub data Heard : Type 0 where
  NoReply OneReply BothReplies : Heard

-- as the client holds them
abbrev pub replied_of : Heard → Replied
replied_of NoReply = Replies.Nothing
replied_of OneReply = Replies.Begun
replied_of BothReplies = Replies.Final 226

-- none, or the 150
abbrev pub heard_by : Bool → Heard
heard_by false = NoReply
heard_by true = OneReply

-- how the link of a refused RETR stands: the server is to close it, has closed it, or it has ended, by that close or by a break
pub data Gap : Type 0 where
  Unclosed Closed : Gap
  Lost : (clean : Bool) → Gap

-- what comes of RETR. The server has these octets still to give, one at least, and the client has heard the 150 or not; all are given,
-- and the link is to be closed or is; all were given, and the link has ended, by that close or by a break; the link broke while the server gave;
-- RETR is refused; or the server had no link
pub data Course : Type 0 where
  Giving : (begun : Bool) → (octet : ℕ) → (more : List ℕ) → Course
  Given : (heard : Heard) → (left : Bool) → Course
  Ended : (begun : Bool) → (clean : Bool) → Course
  Severed : (begun : Bool) → Course
  Refusing : (why : Refusal) → (gap : Gap) → Course
  Unopened : Course

-- what the client has heard in each course
abbrev pub heard_of : Course → Heard
heard_of (Giving begun octet more) = heard_by begun
heard_of (Given heard left) = heard
heard_of (Ended begun clean) = heard_by begun
heard_of (Severed begun) = heard_by begun
heard_of (Refusing why gap) = NoReply
heard_of Unopened = NoReply

-- an end of the link at the client
abbrev pub ending_by : Bool → Ending
ending_by true = Endings.Clean
ending_by false = Endings.Broken

-- as a link
abbrev pub gap_tie : Gap → Tie
gap_tie Unclosed = Parting
gap_tie Closed = Left
gap_tie (Lost clean) = Over (ending_by clean)

-- the server is to close the link, or has closed it
abbrev pub left_tie : Bool → Tie
left_tie false = Parting
left_tie true = Left

-- how the link stands in each course
abbrev pub tie_of : Course → Tie
tie_of (Giving begun octet more) = Joined
tie_of (Given heard left) = left_tie left
tie_of (Ended begun clean) = Over (ending_by clean)
tie_of (Severed begun) = Over Endings.Broken
tie_of (Refusing why gap) = gap_tie gap
tie_of Unopened = Over Endings.Broken

-- a 150, where it was not heard, and then these
abbrev pub replies_behind_opening : Heard → List Reply → List Reply
replies_behind_opening NoReply more = fixed_reply Texts.Opens ∷ more
replies_behind_opening OneReply more = more
replies_behind_opening BothReplies more = []

-- the replies that are still to be heard
abbrev pub replies_in : Course → List Reply
replies_in (Giving begun octet more) = replies_behind_opening (heard_by begun) []
replies_in (Given heard left) = replies_behind_opening heard (fixed_reply Texts.Complete ∷ [])
replies_in (Ended begun clean) = replies_behind_opening (heard_by begun) (fixed_reply Texts.Complete ∷ [])
replies_in (Severed begun) = replies_behind_opening (heard_by begun) (fixed_reply Texts.Broken ∷ [])
replies_in (Refusing why gap) = fixed_reply (refusal_text why) ∷ []
replies_in Unopened = fixed_reply Texts.NoConnection ∷ []

-- what the server holds of the link while it is open at both ends, of a listing or of a file
abbrev pub gives_on : Bool → Course → FarConnection Transfer
gives_on listed (Giving begun octet more) = FarData.Transferring (giving_of listed (octet ∷ more))
gives_on listed course = FarData.Free

-- behind RETR: the octets that came, and those on their way
pub record Carry : Type 0 where
  pub course : Course
  pub came : List ℕ
  pub queue : List ℕ

-- how the client leaves its link, once it has told its answer: there is none, and it has a port to close or not, while the server stands so;
-- it is open; the server has closed it; or the server is to close it too
pub data Leaving : Type 0 where
  Aside : (closes : Bool) → (connection : FarConnection Transfer) → (pending : Pending Names) → Leaving
  LinkOpen LinkLeft LinkParting : Leaving

-- no link, and no port
abbrev pub no_link : Leaving
no_link = Aside false FarData.Free Pendings.Nothing

-- a port of the server that nobody opens
abbrev pub port_aside : Leaving
port_aside = Aside false FarData.Passive Pendings.Nothing

-- a port of the client, while the server stands so
abbrev pub port_left : FarConnection Transfer → Leaving
port_left connection = Aside true connection Pendings.Nothing

-- the client has something to close
abbrev pub is_to_close : Leaving → Bool
is_to_close (Aside closes connection pending) = closes
is_to_close leaves = true

-- what the server still holds of the link
abbrev pub far_leaves : Leaving → FarConnection Transfer
far_leaves (Aside closes connection pending) = connection
far_leaves LinkOpen = FarData.Ready
far_leaves leaves = FarData.Free

-- what is pending for its next line
abbrev pub pending_left : Leaving → Pending Names
pending_left (Aside closes connection pending) = pending
pending_left leaves = Pendings.Nothing

-- the server has something to close
abbrev pub far_parting : Leaving → Bool
far_parting LinkParting = true
far_parting leaves = false

-- the link of the world
abbrev pub link_left : Leaving → Link
link_left (Aside closes connection pending) = Gone
link_left LinkOpen = Opened
link_left LinkLeft = ClosedByFar
link_left LinkParting = Opened

-- ---- the stages

-- a passive opening: a port was asked for; it was told; the client dials it. An active one: the client wants a port, while the server stands so;
-- PORT is on its way; it was taken, and the server has an old port to close or not; it was refused, as nobody is logged in. Then REST is under
-- way, or the own command is on its way, over such an opening; the server was told to connect, and the client has heard the 150 or not; it
-- could not connect; the own command was refused before that; it was acted on over a link, and octets fall or rise; and the client has told its
-- answer, of an upload behind which the server has another state or of any other operation
pub data Stage : Type 0 where
  PortAsked : (closing : Bool) → Stage
  PortTold : (port : ℕ) → Stage
  Dials : (port : ℕ) → Stage
  PortWanted : (connection : FarConnection Transfer) → (pending : Pending Names) → Stage
  PortSaid : (port : ℕ) → (connection : FarConnection Transfer) → (pending : Pending Names) → Stage
  PortTaken : (port : ℕ) → (closing : Bool) → Stage
  PortDenied : (port : ℕ) → (connection : FarConnection Transfer) → Stage
  Restarts : (offset : ℕ) → (restart : Restart) → (early : Early) → Stage
  Retrieves : (early : Early) → Stage
  Awaits : (port : ℕ) → (begun : Bool) → Stage
  Unaccepted : (port : ℕ) → Stage
  Dismissed : (port : ℕ) → (why : Refusal) → Stage
  Carries : (carry : Carry) → Stage
  Rises : (rise : Rise) → (lift : Lift) → Stage
  Tells : (rise : Rise) → (said : Said) → (after : State) → Stage
  Answers : (said : Said) → (leaves : Leaving) → Stage

-- stages that do not outlast an event: closes, ports and reports are served behind it
abbrev pub is_passing : Stage → Bool
is_passing (PortAsked closing) = true
is_passing (PortWanted connection pending) = true
is_passing (PortTaken port closing) = closing
is_passing (Carries carry) = is_parting (tie_of carry.course)
is_passing (Rises rise lift) = lift_passes lift
is_passing (Tells rise said after) = true
is_passing (Answers said leaves) = true
is_passing stage = false

-- the server has nothing to close before the client is told more
abbrev pub is_served : Stage → Bool
is_served (PortTaken port closing) = not closing
is_served stage = true

-- the client's port, before the 150 and behind it
abbrev pub port_near : Bool → ℕ → NearConnection
port_near false port = NearData.Listening port
port_near true port = NearData.Accepting port

module _ (state : State) (ask : Ask) where
  -- the client
  abbrev pub near_at : Stage → Near → Near
  near_at (PortAsked closing) n = busy (Doing ask.op Steps.Passive) NearData.Free n
  near_at (PortTold port) n = busy (Doing ask.op Steps.Passive) NearData.Free n
  near_at (Dials port) n = busy (Doing ask.op Steps.Connect) (NearData.Connecting (record { host = n.peer; port = port })) n
  near_at (PortWanted connection pending) n = busy (Doing ask.op Steps.Listen) NearData.ListenWanted n
  near_at (PortSaid port connection pending) n = busy (Doing ask.op Steps.Port) (NearData.Listening port) n
  near_at (PortTaken port closing) n = busy (Doing ask.op Steps.Port) (NearData.Listening port) n
  near_at (PortDenied port connection) n = busy (Doing ask.op Steps.Port) (NearData.Listening port) n
  near_at (Restarts at restart early) n = busy (Doing ask.op Steps.Restart) (early_near early) n
  near_at (Retrieves early) n = busy (offering ask Replies.Nothing) (early_near early) n
  near_at (Awaits port begun) n = busy (offering ask (replied_of (heard_by begun))) (port_near begun port) n
  near_at (Unaccepted port) n = busy (offering ask Replies.Begun) (NearData.Accepting port) n
  near_at (Dismissed port why) n = busy (offering ask Replies.Nothing) (NearData.Listening port) n
  near_at (Carries c) n = busy (fetching ask.op (replied_of (heard_of c.course)) ask.settings c.came) (near_link (tie_of c.course)) n
  near_at (Rises rise lift) n = lift_near state ask rise lift n
  near_at (Tells rise said after) n = leaving said false n
  near_at (Answers said leaves) n = leaving said (is_to_close leaves) n

  -- the server's data connection, by what the client asked for and by its host
  abbrev pub far_at : Stage → Bool → Host → FarConnection Transfer
  far_at (PortAsked closing) extended here = FarData.Asked (passive_verb_of extended)
  far_at (PortTold port) extended here = FarData.Passive
  far_at (Dials port) extended here = FarData.Passive
  far_at (PortWanted connection pending) extended here = connection
  far_at (PortSaid port connection pending) extended here = connection
  far_at (PortTaken port closing) extended here = FarData.Active (at_port here port)
  far_at (PortDenied port connection) extended here = connection
  far_at (Restarts at restart early) extended here = early_far here early
  far_at (Retrieves early) extended here = early_far here early
  far_at (Awaits port begun) extended here = FarData.Opening (carried ask.sends ask state) (Ways.Connect (at_port here port))
  far_at (Unaccepted port) extended here = FarData.Free
  far_at (Dismissed port why) extended here = FarData.Free
  far_at (Carries c) extended here = far_link (gives_on ask.listed c.course) (tie_of c.course)
  far_at (Rises rise lift) extended here = lift_far state ask rise lift
  far_at (Tells rise said after) extended here = FarData.Free
  far_at (Answers said leaves) extended here = far_leaves leaves

  -- whether it is to be closed
  abbrev pub closing_at : Stage → Bool
  closing_at (PortAsked closing) = closing
  closing_at (PortTaken port closing) = closing
  closing_at (Carries c) = is_parting (tie_of c.course)
  closing_at (Rises rise lift) = lift_closing lift
  closing_at (Answers said leaves) = far_parting leaves
  closing_at stage = false

  -- what is pending for the server's next line
  abbrev pub pending_at : Stage → Pending Names
  pending_at (PortWanted connection pending) = pending
  pending_at (PortSaid port connection pending) = pending
  pending_at (Restarts at Granted early) = Pendings.Restart at
  pending_at (Retrieves early) = offset_pending ask.offset
  pending_at (Answers said leaves) = pending_left leaves
  pending_at stage = Pendings.Nothing

  -- the link of the world
  abbrev pub link_at : Stage → Link
  link_at (Restarts at restart early) = early_link early
  link_at (Retrieves early) = early_link early
  link_at (Carries c) = link_of (tie_of c.course)
  link_at (Rises rise lift) = lift_link lift
  link_at (Answers said leaves) = link_left leaves
  link_at stage = Gone

  -- REST
  abbrev pub rest_way : ℕ → Restart → Way
  rest_way at Sent = Asking (line_of (Commands.Rest at))
  rest_way at Granted = Answering (rest_reply at ∷ [])
  rest_way at (Denied why) = Answering (fixed_reply (refusal_text why) ∷ [])

  -- the 150 of a server that connects
  abbrev pub await_way : Bool → Way
  await_way false = Answering (fixed_reply Texts.Opens ∷ [])
  await_way true = rest

  -- what is on its way over the control connection: the line or the replies of each stage, by what the client asked for, and the hosts of both
  abbrev pub way_at : Stage → Bool → Host → Host → Way
  way_at (PortTold port) extended host here = Answering (port_reply extended host port ∷ [])
  way_at (PortSaid port connection pending) extended host here = Asking (line_of (port_command extended (at_port here port)))
  way_at (PortTaken port closing) extended host here = Answering (fixed_reply Texts.EndpointTaken ∷ [])
  way_at (PortDenied port connection) extended host here = Answering (fixed_reply Texts.NotLoggedIn ∷ [])
  way_at (Restarts at restart early) extended host here = rest_way at restart
  way_at (Retrieves early) extended host here = Asking (line_of ask.command)
  way_at (Awaits port begun) extended host here = await_way begun
  way_at (Unaccepted port) extended host here = Answering (fixed_reply Texts.NoConnection ∷ [])
  way_at (Dismissed port why) extended host here = Answering (fixed_reply (refusal_text why) ∷ [])
  way_at (Carries c) extended host here = Answering (replies_in c.course)
  way_at (Rises rise lift) extended host here = lift_way lift
  way_at stage extended host here = rest

  -- octets of the link, to the client and to the server
  abbrev pub queue_at : Stage → List ℕ
  queue_at (Carries c) = c.queue
  queue_at stage = []

  abbrev pub rising_at : Stage → List ℕ
  rising_at (Rises rise lift) = lift_queue lift
  rising_at stage = []

  -- the state that the server has
  abbrev pub state_at : Stage → State
  state_at (Rises rise lift) = lift_state state ask rise lift
  state_at (Tells rise said after) = after
  state_at stage = state

  -- how many have come, while they can come
  abbrev pub CameAt : Stage → ℕ → Type 0
  CameAt (Restarts at restart early) count = EarlyCame early count
  CameAt (Retrieves early) count = EarlyCame early count
  CameAt (Carries c) count = count ≡ counted (length c.came)
  CameAt (Rises rise lift) count = LiftCame lift count
  CameAt stage count = Unit {0}

  -- the marks of the operation
  abbrev pub MarkedAt : Stage → List Mark → Type 0
  MarkedAt (Restarts at restart early) own = own ≡ early_marks early
  MarkedAt (Retrieves early) own = own ≡ early_marks early
  MarkedAt (Unaccepted port) own = own ≡ Refused ∷ []
  MarkedAt (Carries c) own = own ≡ tie_marks (tie_of c.course) (counted (length c.came))
  MarkedAt (Rises rise lift) own = LiftMarked lift own
  MarkedAt (Tells rise said after) own = length own ≤ 1
  MarkedAt (Answers said LinkOpen) own = own ≡ []
  MarkedAt (Answers said leaves) own = length own ≤ 1
  MarkedAt stage own = own ≡ []

  -- ---- what is so of each

  -- the operation fared so that this is its answer
  pub record Fared (own : List Mark) (said : Said) : Type 0 where
    pub outcome : Outcome
    pub can_be : CanBe outcome state ask.op
    pub allowed : (index : ℕ) → Allows outcome own None index
    pub did_so : (moment : ℕ) → did outcome state ask.op moment ≡ (said, state)

  -- what falls is not refused, nor is the operation in the direct run
  abbrev pub IsTaken : Type 0
  IsTaken = (ask.why state ≡ None) × (refusal state ask.op ≡ None) × HasAnswer ask

  -- its text
  abbrev pub wire : List ℕ
  wire = ask.wire state

  -- while the link is open, a client that has heard the 150 has not enough: it has sent no ABOR
  abbrev pub IsShortAt : Heard → List ℕ → Type 0
  IsShortAt NoReply came = Unit {0}
  IsShortAt heard came = is_filled ask.op ask.settings came ≡ false

  -- a break leaves a front of the text
  abbrev pub IsCutAt : List ℕ → List ℕ → Type 0
  IsCutAt came queue = IsFront came wire × (queue ≡ [])

  -- nothing came
  abbrev pub IsEmpty : List ℕ → List ℕ → Type 0
  IsEmpty came queue = (came ≡ []) × (queue ≡ [])

  -- the octets that came and those on their way, with those still to be given, are the text; where the link broke, those that came are a front of it
  abbrev pub Flows : Course → (came queue : List ℕ) → Type 0
  Flows (Giving begun octet more) came queue = IsTaken × (came ++ (queue ++ octet ∷ more) ≡ wire) × IsShortAt (heard_by begun) came
  Flows (Given heard left) came queue = IsTaken × (came ++ queue ≡ wire) × IsShortAt heard came
  Flows (Ended begun true) came queue = IsTaken × (came ≡ wire) × (queue ≡ [])
  Flows (Ended begun false) came queue = IsTaken × IsCutAt came queue
  Flows (Severed begun) came queue = IsTaken × IsCutAt came queue
  Flows (Refusing why gap) came queue = (refusal state ask.op ≡ Some why) × IsEmpty came queue
  Flows Unopened came queue = IsEmpty came queue

  -- REST, as the direct run has it
  abbrev pub IsRestarted : ℕ → Restart → Type 0
  IsRestarted at Sent = Unit {0}
  IsRestarted at Granted = offset_refusal at (how_in_force ask.settings) ≡ None
  IsRestarted at (Denied why) = offset_refusal at (how_in_force ask.settings) ≡ Some why

  -- a port that can be told
  abbrev pub HasPort : ℕ → Type 0
  HasPort port = (1 ≤ port) × (port < 65536)

  -- a port of the client, which the server takes
  abbrev pub IsOwnPort : ℕ → Type 0
  IsOwnPort port = (1024 ≤ port) × (port < 65536)

  -- all of these, by stage
  abbrev pub FineAt : Stage → List Mark → Type 0
  FineAt (PortAsked closing) own = Unit {0}
  FineAt (PortTold port) own = HasPort port
  FineAt (Dials port) own = Unit {0}
  FineAt (PortWanted connection pending) own = is_set_aside connection ≡ true
  FineAt (PortSaid port connection pending) own = (is_set_aside connection ≡ true) × IsOwnPort port
  FineAt (PortTaken port closing) own = Unit {0}
  FineAt (PortDenied port connection) own = (is_set_aside connection ≡ true) × (state.known ≡ false)
  FineAt (Restarts at restart early) own = (ask.offset ≡ Some at) × IsRestarted at restart
  FineAt (Retrieves early) own = IsPlacedAt ask.settings ask.offset
  FineAt (Awaits port begun) own = (ask.why state ≡ None) × IsPlacedAt ask.settings ask.offset
  FineAt (Unaccepted port) own = Unit {0}
  FineAt (Dismissed port why) own = refusal state ask.op ≡ Some why
  FineAt (Carries c) own = Flows c.course c.came c.queue
  FineAt (Rises rise lift) own = LiftFine state ask rise lift own
  FineAt (Tells rise said after) own = FaredTo state ask own said after rise.moment × IsSound after × (ask.sends ≡ Up rise)
  FineAt (Answers said LinkOpen) own = (any : List Mark) → Fared any said
  FineAt (Answers said (Aside closes connection pending)) own = Fared own said × (is_set_aside connection ≡ true)
  FineAt (Answers said leaves) own = Fared own said

  -- the settings are made and somebody is logged in, where that was needed to come so far
  abbrev pub ReadyAt : Stage → Representation → Type 0
  ReadyAt (PortWanted connection pending) settings = state.known ≡ true → settings ≡ ask.settings
  ReadyAt (PortSaid port connection pending) settings = state.known ≡ true → settings ≡ ask.settings
  ReadyAt (PortDenied port connection) settings = Unit {0}
  ReadyAt (Rises rise lift) settings = (settings ≡ ask.settings) × (state.known ≡ true) × HasUpload ask rise
  ReadyAt (Tells rise said after) settings = Unit {0}
  ReadyAt (Answers said leaves) settings = Unit {0}
  ReadyAt stage settings = (settings ≡ ask.settings) × (state.known ≡ true)

  -- a base world at a stage, with marks of the operation and with this on its way
  pub record Holds (own : List Mark) (stage : Stage) (way : Way) (b : World) : Type 0 where
    pub near : b.near ≡ near_at stage b.near
    pub session : b.far.session ≡ linked (far_at stage (is_extended b.near ask.op) b.near.here) (closing_at stage) (pending_at stage) b.far.session
    pub steady : IsSteadySession (state_at stage) (kept b.near b.far)
    pub timed : IsTimely ask.sends b.far.context.moment
    pub ready : ReadyAt stage b.near.settings
    pub link : b.link ≡ link_at stage
    pub to_server : b.data_to_server ≡ rising_at stage
    pub to_client : b.data_to_client ≡ queue_at stage
    pub came : CameAt stage b.came
    pub marked : MarkedAt stage own
    pub way_is : way ≡ way_at stage (is_extended b.near ask.op) b.near.peer b.near.here
    pub fine : FineAt stage own

  -- the login, the settings and the command for a port are under way, where that is the server's
  pub record Leads (read : Reading) (own : List Mark) (way : Way) (b : World) : Type 0 where
    pub on : IsOnWay read state ask.op (Passes state.table state.table) (Opens state ask) way b.near b.far
    pub some : way ≢ rest
    pub timed : IsTimely ask.sends b.far.context.moment
    pub link : b.link ≡ Gone
    pub to_server : b.data_to_server ≡ []
    pub to_client : b.data_to_client ≡ []
    pub marked : own ≡ []

  -- how far what is asked for is
  abbrev pub AtFetch : Reading → List Mark → Way → World → Type 0
  AtFetch read own way b = Leads read own way b ⊎ ((stage : Stage) × Holds own stage way b)

  -- it outlasts an event
  abbrev pub IsLasting : (read : Reading) (own : List Mark) (way : Way) (b : World) → AtFetch read own way b → Type 0
  IsLasting read own way b (inl leads) = Unit {0}
  IsLasting read own way b (inr (stage, holds)) = is_passing stage ≡ false

  -- nothing is served before the client is told more
  abbrev pub IsServed : (read : Reading) (own : List Mark) (way : Way) (b : World) → AtFetch read own way b → Type 0
  IsServed read own way b (inl leads) = Unit {0}
  IsServed read own way b (inr (stage, holds)) = is_served stage ≡ true

  -- how far it is then
  abbrev pub AtServed : Reading → List Mark → Way → World → Type 0
  AtServed read own way b = (here : AtFetch read own way b) × IsServed read own way b here
