-- A world while a Peek that has enough ends its download: ABOR was sent, and its own reply, the final one of the download and the end of the
-- link are to come (RFC 959, section 4.1.3).
use Rattle.std.specs.Prelude.{◌≡◌, ℕ, ◌≤◌, Bool, true, false, List, [], ◌∷◌, length, Some, if◌then◌else◌}
use Rattle.ftp_ends.specs.Reply.{Reply}
use Rattle.ftp_operation.specs.Answer.{Said}
use Rattle.ftp_wire.specs.Decoder.{decoder_of}
use Rattle.ftp_direct.specs.Direct.{State}
use Rattle.ftp_client_model.specs.Octets.{content_answer}
use Rattle.ftp_client_model.specs.View.{View as Near}
use Rattle.ftp_client_model.specs.declared.client.Abort.{Abort}
use Rattle.ftp_client_model.specs.declared.client.Abort.TheVariants as Aborts
use Rattle.ftp_client_model.specs.declared.client.Replied.{Replied}
use Rattle.ftp_client_model.specs.declared.client.Replied.TheVariants as Replies
use Rattle.ftp_server_model.specs.Replies.{fixed_reply}
use Rattle.ftp_server_model.specs.View.{Transfer}
use Rattle.ftp_server_model.specs.declared.reply.FixedReply.{FixedReply}
use Rattle.ftp_server_model.specs.declared.reply.FixedReply.TheVariants as Texts
use Rattle.ftp_server_model.specs.declared.session.ServerLink.{ServerLink as FarConnection}
use Rattle.ftp_server_model.specs.declared.session.ServerLink.TheVariants as FarData
use Rattle.ftp_server_model.specs.declared.session.Pending.TheVariants as Pendings
use Rattle.laws_world.specs.World.{World, Mark}
use Rattle.laws_dialogues.specs.Fetches.{Ask, IsTimely, busy, giving_of, linked, kept, IsSteadySession}
use Rattle.laws_dialogues.specs.Peeks.{abort_line, halting}
use Rattle.laws_agreement.specs.Crossing.{Cuts, AreCut, crossing_at}
use Rattle.laws_agreement.specs.Stages.{Fared, Gap, Lost, Tie, Joined, gap_tie, left_tie, is_parting, link_of, near_link}

-- how far it is: the server gives these octets, one at least, and ABOR is on its way; or the server gives no more, with 226 or 426, which was heard
-- or not, ABOR or its own reply is on its way, and the link is to be closed, closed or over; or both replies were heard, and the link is to be closed
-- or is
pub data Halt : Type 0 where
  Gives : (octet : ℕ) → (more : List ℕ) → Halt
  Gave : (whole heard asked : Bool) → (gap : Gap) → Halt
  Halted : (whole left : Bool) → Halt

-- the final reply of the download
abbrev pub final_text : Bool → FixedReply
final_text true = Texts.Complete
final_text false = Texts.Broken

-- its code
abbrev pub final_code : Bool → ℕ
final_code whole = if whole then 226 else 426

-- as far as the client has heard it
abbrev pub final_heard : (whole heard : Bool) → Replied
final_heard whole true = Replies.Final (final_code whole)
final_heard whole false = Replies.Begun

-- the replies to the own command that the client has heard
abbrev pub halt_replied : Halt → Replied
halt_replied (Gives octet more) = Replies.Begun
halt_replied (Gave whole heard asked gap) = final_heard whole heard
halt_replied (Halted whole left) = Replies.Final (final_code whole)

-- what became of its ABOR
abbrev pub halt_abort : Halt → Abort
halt_abort (Halted whole left) = Aborts.Answered
halt_abort halt = Aborts.Sent

-- how the link stands
abbrev pub halt_tie : Halt → Tie
halt_tie (Gives octet more) = Joined
halt_tie (Gave whole heard asked gap) = gap_tie gap
halt_tie (Halted whole left) = left_tie left

-- what the server holds of it, of a listing or of a file
abbrev pub halt_far : Bool → Halt → FarConnection Transfer
halt_far listed (Gives octet more) = FarData.Transferring (giving_of listed (octet ∷ more))
halt_far listed halt = FarData.Free

-- ABOR is on its way
abbrev pub halt_asked : Halt → Bool
halt_asked (Gives octet more) = true
halt_asked (Gave whole heard asked gap) = asked
halt_asked (Halted whole left) = false

-- the reply to ABOR, once the server has heard that
abbrev pub abort_rows : Bool → List Reply
abort_rows true = []
abort_rows false = fixed_reply Texts.AbortDone ∷ []

-- the final reply, where it was not heard, and then these
abbrev pub final_rows : (whole heard : Bool) → List Reply → List Reply
final_rows whole true more = more
final_rows whole false more = fixed_reply (final_text whole) ∷ more

-- the replies that are still to be heard
abbrev pub halt_rows : Halt → List Reply
halt_rows (Gives octet more) = []
halt_rows (Gave whole heard asked gap) = final_rows whole heard (abort_rows asked)
halt_rows (Halted whole left) = []

-- no octet is on its way over a link that is over
abbrev pub QueueFits : Halt → List ℕ → Type 0
QueueFits (Gave whole heard asked (Lost clean)) queue = queue ≡ []
QueueFits halt queue = Unit {0}

-- the marks of the operation: none while the link stands
abbrev pub MarksFit : Halt → List Mark → Type 0
MarksFit (Gave whole heard asked (Lost clean)) own = length own ≤ 1
MarksFit halt own = own ≡ []

module _ (state : State) (ask : Ask) where
  -- the client, whose octets before ABOR were these
  abbrev pub halt_near : Halt → List ℕ → Near → Near
  halt_near halt came n = busy (halting ask.op (halt_replied halt) (halt_abort halt) ask.settings came) (near_link (halt_tie halt)) n

  -- both ends and the link; the answer is settled, and an operation with any marks can have it
  pub record Halts (own : List Mark) (halt : Halt) (said : Said) (came queue : List ℕ) (b : World) : Type 0 where
    pub near : b.near ≡ halt_near halt came b.near
    pub session : b.far.session ≡ linked (halt_far ask.listed halt) (is_parting (halt_tie halt)) Pendings.Nothing b.far.session
    pub steady : IsSteadySession state (kept b.near b.far)
    pub timed : IsTimely ask.sends b.far.context.moment
    pub link : b.link ≡ link_of (halt_tie halt)
    pub to_server : b.data_to_server ≡ []
    pub to_client : b.data_to_client ≡ queue
    pub empty : QueueFits halt queue
    pub marked : MarksFit halt own
    pub settled : content_answer ask.op (decoder_of ask.settings came).content ≡ Some said
    pub fares : (any : List Mark) → Fared state ask any said

  -- a world of these, with what is on its way
  pub record AtHalt (own : List Mark) (w : World) : Type 0 where
    pub halt : Halt
    pub said : Said
    pub came : List ℕ
    pub queue : List ℕ
    pub base : World
    pub cuts : Cuts
    pub is : w ≡ crossing_at base cuts
    pub fits : AreCut (halt_asked halt) (halt_rows halt) cuts
    pub here : Halts own halt said came queue base

  -- ABOR is sent while these replies are on their way
  pub record IsHaltCross (own : List Mark) (text : List ℕ) (rows : List Reply) (b : World) : Type 0 where
    pub halt : Halt
    pub said : Said
    pub came : List ℕ
    pub queue : List ℕ
    pub text_is : text ≡ abort_line
    pub asked : halt_asked halt ≡ true
    pub rows_are : rows ≡ halt_rows halt
    pub here : Halts own halt said came queue b

-- it does not outlast an event: the link is to be closed
abbrev pub is_halt_passing : Halt → Bool
is_halt_passing halt = is_parting (halt_tie halt)
