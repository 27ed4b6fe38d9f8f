-- An upload whose own command was acted on over a link: how far it is, and what both ends hold of it (RFC 959, sections 3.2 to 3.5 and 4.1.3).
use Rattle.std.specs.Prelude.{◌≡◌, ℕ, ◌+◌, ◌<◌, ◌≤◌, ◌^◌, Bool, true, false, not, List, [], ◌∷◌, ◌++◌, length, Option, None, Some}
use Rattle.std.specs.Option.{is_some}
use Rattle.ftp_wire.specs.Decoder.{Decoder, decoder_of, no_octets}
use Rattle.ftp_ends.specs.Reply.{Reply}
use Rattle.ftp_operation.specs.Answer.{Said, Done, Refused, Broken as BrokenOff}
use Rattle.ftp_operation.specs.declared.op.Op.{Op}
use Rattle.ftp_path.specs.Path.{Names}
use Rattle.ftp_direct.specs.declared.refusal.Refusal.{Refusal}
use Rattle.ftp_direct.specs.declared.refusal.Refusal.TheVariants as Refusals
use Rattle.ftp_direct.specs.Direct.{State, refusal}
use Rattle.ftp_direct.specs.Refusal.{code_of}
use Rattle.ftp_client_model.specs.View.{View as Near, Sending, Job, Transferring}
use Rattle.ftp_client_model.specs.declared.client.Abort.TheVariants as Aborts
use Rattle.ftp_client_model.specs.declared.client.ClientLink.{ClientLink as NearConnection}
use Rattle.ftp_client_model.specs.declared.client.ClientLink.TheVariants as NearData
use Rattle.ftp_client_model.specs.declared.client.Ending.{Ending}
use Rattle.ftp_client_model.specs.declared.client.Ending.TheVariants as Endings
use Rattle.ftp_client_model.specs.declared.client.Replied.{Replied}
use Rattle.ftp_client_model.specs.declared.client.Replied.TheVariants as Replies
use Rattle.ftp_server_model.specs.Keep.{kept_count}
use Rattle.ftp_server_model.specs.Replies.{fixed_reply}
use Rattle.ftp_server_model.specs.View.{Transfer}
use Rattle.ftp_server_model.specs.Walk.{refusal_text}
use Rattle.ftp_server_model.specs.declared.reply.FixedReply.{FixedReply}
use Rattle.ftp_server_model.specs.declared.reply.FixedReply.TheVariants as Texts
use Rattle.ftp_server_model.specs.declared.session.Keep.{Keep}
use Rattle.ftp_server_model.specs.declared.session.ServerLink.{ServerLink as FarConnection}
use Rattle.ftp_server_model.specs.declared.session.ServerLink.TheVariants as FarData
use Rattle.ftp_server_model.specs.declared.session.Transfer.TheVariants as Transfers
use Rattle.laws_world.specs.Agreement.{Allows}
use Rattle.laws_world.specs.Outcome.{Outcome, CanBe, did, mmmm_in}
use Rattle.laws_world.specs.World.{Link, Gone, Opened, ClosedByNear, ClosedByFar, Mark, Broken, counted}
use Rattle.laws_dialogues.specs.Dialogue.{IsSound}
use Rattle.laws_dialogues.specs.Fetches.{Ask, IsPlacedAt, Rise, busy, excess_of}
use Rattle.laws_dialogues.specs.Stage.{Way, Answering}
use Rattle.laws_dialogues.specs.Uploads.{AreNotes, Note, last_held, note_replies}

-- ---- how it ends at the server

-- the file is installed, behind the client's close; its octets were too many; or the link broke, and what came is installed. Of the latter two, the
-- client had closed the link before or not; and of the last these octets of the file were held at the last marker
pub data Fate : Type 0 where
  Installed : Fate
  Overfilled : (ours : Bool) → Fate
  CutOff : (ours : Bool) → (held : Option ℕ) → Fate

-- the server's last reply
abbrev pub fate_text : Fate → FixedReply
fate_text Installed = Texts.Complete
fate_text (Overfilled ours) = Texts.TooMuch
fate_text (CutOff ours held) = Texts.Broken

-- the client's answer
abbrev pub fate_said : Fate → Said
fate_said Installed = Done
fate_said (Overfilled ours) = Refused (code_of Refusals.TooMuch)
fate_said (CutOff ours held) = BrokenOff [] held

-- the link's end, as the client saw it
abbrev pub ours_or_broken : Bool → Ending
ours_or_broken true = Endings.Ours
ours_or_broken false = Endings.Broken

abbrev pub fate_ending : Fate → Ending
fate_ending Installed = Endings.Ours
fate_ending (Overfilled ours) = ours_or_broken ours
fate_ending (CutOff ours held) = ours_or_broken ours

-- ---- how far it is

-- how the link of a refused upload stands: the server is to close it, has closed it, or it has ended, by a break or by that close
pub data Door : Type 0 where
  Closing Shut : Door
  Vanished : (broken : Bool) → Door

-- the 150 is on its way; the client has octets to give, one at least; it has given all, and is to close the link or has closed it; the server is done
-- with it, the client has heard the 150 or not, has so many octets left, and the server has this state; it is refused; or the server had no link. The
-- server has passed a limit of octets or not; so many came, and so many are on their way; and the client has heard so many to be held, and these answers
-- to markers are on their way
pub data Lift : Type 0 where
  Offered : Lift
  Rising : (past : Bool) → (octet : ℕ) → (more : List ℕ) → (came : List ℕ) → (queue : List ℕ) → (mark : Option ℕ) → (notes : List Note) → Lift
  Risen : (past : Bool) → (closed : Bool) → (came : List ℕ) → (queue : List ℕ) → (mark : Option ℕ) → (notes : List Note) → Lift
  Settled : (begun : Bool) → (mark : Option ℕ) → (notes : List Note) → (fate : Fate) → (left : List ℕ) → (after : State) → Lift
  Declined : (why : Refusal) → (door : Door) → Lift
  Unjoined : Lift

-- the client's job, with so many octets to give, and so many that it has heard to be held
abbrev pub sending : Op (List ℕ) → Replied → List ℕ → Option ℕ → Job
sending op replied left mark = Transferring op (record { replied = replied; abort = Aborts.Unsent; flow = Sending left mark })

-- which replies it has heard
abbrev pub replied_by : Bool → Replied
replied_by false = Replies.Nothing
replied_by true = Replies.Begun

-- what the client holds of the link of a refused upload; the server's close is a break to it
abbrev pub door_near : Door → NearConnection
door_near Closing = NearData.Open
door_near Shut = NearData.Open
door_near (Vanished broken) = NearData.Over Endings.Broken

-- the link of the world
abbrev pub door_link : Door → Link
door_link Closing = Opened
door_link Shut = ClosedByFar
door_link (Vanished broken) = Gone

-- the server is to close it
abbrev pub is_closing : Door → Bool
is_closing Closing = true
is_closing door = false

-- what the server holds of an upload, past a limit or not
abbrev pub held : Bool → Names → Keep → Decoder → FarConnection Transfer
held false path keep d = FarData.Transferring (Transfers.Upload path keep d)
held true path keep d = FarData.Transferring Transfers.OverLimit

-- the client has closed the link
abbrev pub closed_link : Bool → Link
closed_link false = Opened
closed_link true = ClosedByNear

-- one end has something to close
abbrev pub lift_passes : Lift → Bool
lift_passes (Risen past closed came queue mark notes) = not closed
lift_passes (Declined why door) = is_closing door
lift_passes lift = false

-- octets are given or taken
abbrev pub lifts : Lift → Bool
lifts (Rising past octet more came queue mark notes) = true
lifts (Risen past closed came queue mark notes) = true
lifts lift = false

-- the link of the world
abbrev pub lift_link : Lift → Link
lift_link Offered = Opened
lift_link (Rising past octet more came queue mark notes) = Opened
lift_link (Risen past closed came queue mark notes) = closed_link closed
lift_link (Settled begun mark notes fate left after) = Gone
lift_link (Declined why door) = door_link door
lift_link Unjoined = Gone

-- the server has something to close
abbrev pub lift_closing : Lift → Bool
lift_closing (Declined why door) = is_closing door
lift_closing lift = false

-- octets on their way to the server
abbrev pub lift_queue : Lift → List ℕ
lift_queue (Rising past octet more came queue mark notes) = queue
lift_queue (Risen past closed came queue mark notes) = queue
lift_queue lift = []

-- a 150 where it was not heard, answers to markers, and the last reply
abbrev pub fate_rows : Bool → List Note → Fate → List Reply
fate_rows false notes fate = fixed_reply Texts.Opens ∷ (note_replies notes ++ fixed_reply (fate_text fate) ∷ [])
fate_rows true notes fate = note_replies notes ++ fixed_reply (fate_text fate) ∷ []

-- what is on its way over the control connection
abbrev pub lift_way : Lift → Way
lift_way Offered = Answering (fixed_reply Texts.Opens ∷ [])
lift_way (Rising past octet more came queue mark notes) = Answering (note_replies notes)
lift_way (Risen past closed came queue mark notes) = Answering (note_replies notes)
lift_way (Settled begun mark notes fate left after) = Answering (fate_rows begun notes fate)
lift_way (Declined why door) = Answering (fixed_reply (refusal_text why) ∷ [])
lift_way Unjoined = Answering (fixed_reply Texts.NoConnection ∷ [])

-- how many octets have come, while they can come
abbrev pub LiftCame : Lift → ℕ → Type 0
LiftCame Offered count = count ≡ 0
LiftCame (Rising past octet more came queue mark notes) count = count ≡ counted (length came)
LiftCame (Risen past closed came queue mark notes) count = count ≡ counted (length came)
LiftCame lift count = Unit {0}

-- the marks of the operation
abbrev pub LiftMarked : Lift → List Mark → Type 0
LiftMarked (Settled begun mark notes fate left after) own = length own ≤ 1
LiftMarked (Declined why (Vanished broken)) own = length own ≤ 1
LiftMarked Unjoined own = own ≡ Broken 0 ∷ []
LiftMarked lift own = own ≡ []

module _ (state : State) (ask : Ask) where
  -- the operation, begun at this moment, fared so that this is its answer and this the state behind it
  pub record FaredTo (own : List Mark) (said : Said) (after : State) (moment : ℕ) : Type 0 where
    pub outcome : Outcome
    pub can_be : CanBe outcome state ask.op
    pub allowed : (index : ℕ) → Allows outcome own None index
    pub did_so : did outcome state ask.op moment ≡ (said, after)

  module _ (rise : Rise) where
    -- the client
    abbrev pub lift_near : Lift → Near → Near
    lift_near Offered n = busy (sending ask.op Replies.Nothing rise.text None) NearData.Open n
    lift_near (Rising past octet more came queue mark notes) n = busy (sending ask.op Replies.Begun (octet ∷ more) mark) NearData.Open n
    lift_near (Risen past closed came queue mark notes) n = record (busy (sending ask.op Replies.Begun [] mark) (NearData.Over Endings.Ours) n) { closing = not closed }
    lift_near (Settled begun mark notes fate left after) n = busy (sending ask.op (replied_by begun) left mark) (NearData.Over (fate_ending fate)) n
    lift_near (Declined why door) n = busy (sending ask.op Replies.Nothing rise.text None) (door_near door) n
    lift_near Unjoined n = busy (sending ask.op Replies.Nothing rise.text None) (NearData.Over Endings.Broken) n

    -- the server's data connection
    abbrev pub lift_far : Lift → FarConnection Transfer
    lift_far Offered = held false (rise.path state) (rise.keep state) (no_octets ask.settings)
    lift_far (Rising past octet more came queue mark notes) = held past (rise.path state) (rise.keep state) (decoder_of ask.settings came)
    lift_far (Risen past closed came queue mark notes) = held past (rise.path state) (rise.keep state) (decoder_of ask.settings came)
    lift_far lift = FarData.Free

    -- the state that the server has
    abbrev pub lift_state : Lift → State
    lift_state (Settled begun mark notes fate left after) = after
    lift_state lift = state

    -- a limit was passed with what came
    abbrev pub IsPast : Bool → List ℕ → Type 0
    IsPast past came = past ≡ true → is_some (excess_of rise state (length (decoder_of ask.settings came).content)) ≡ true

    -- neither its own command is refused nor REST
    abbrev pub IsOpen : Type 0
    IsOpen = (ask.why state ≡ None) × IsPlacedAt ask.settings ask.offset

    -- the answers to markers can be said; and where no limit was passed the number of octets held is one that can be, and the last that is said is
    -- that of the last marker that came, with the octets that are kept of the file
    abbrev pub IsNoted : Bool → (came : List ℕ) → Option ℕ → List Note → Type 0
    IsNoted past came mark notes =
        AreNotes notes
        × (past ≡ false
        → (kept_count (rise.keep state) + length (decoder_of ask.settings came).content < 10 ^ 18)
        × (last_held mark notes ≡ mmmm_in (kept_count (rise.keep state)) (no_octets ask.settings) None came))

    -- the octets that came and those that are still to come are the text
    abbrev pub Climbs : Bool → (came coming : List ℕ) → Option ℕ → List Note → Type 0
    Climbs past came coming mark notes = IsOpen × (came ++ coming ≡ rise.text) × IsPast past came × IsNoted past came mark notes

    -- what is told of a break is what is still to be heard
    abbrev pub IsHeard : Fate → Option ℕ → List Note → Type 0
    IsHeard (CutOff ours held) mark notes = last_held mark notes ≡ held
    IsHeard fate mark notes = Unit {0}

    -- what is so of each
    abbrev pub LiftFine : Lift → List Mark → Type 0
    LiftFine Offered own = IsOpen
    LiftFine (Rising past octet more came queue mark notes) own = Climbs past came (queue ++ octet ∷ more) mark notes
    LiftFine (Risen past closed came queue mark notes) own = Climbs past came queue mark notes
    LiftFine (Settled begun mark notes fate left after) own = FaredTo own (fate_said fate) after rise.moment × IsSound after × AreNotes notes × IsHeard fate mark notes
    LiftFine (Declined why door) own = refusal state ask.op ≡ Some why
    LiftFine Unjoined own = Unit {0}
