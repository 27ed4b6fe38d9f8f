-- A job whose own command was sent, before an octet has moved: what the client makes of a refusal, of a 425 and of the 150 at its port, whichever
-- way its octets go.
use Rattle.std.proofs.Common.{◌≡◌, ℕ, Bool, true, false, ◌||◌, List, [], ◌∷◌, Option, None, refl, ap}
use Rattle.ftp_wire.specs.Decoder.{Decoder}
use Rattle.ftp_operation.specs.Answer.{Said, Refused, Unopened}
use Rattle.ftp_operation.specs.declared.op.Op.{Op}
use Rattle.ftp_reply.specs.Lines.{Text as ReplyText}
use Rattle.ftp_direct.specs.declared.refusal.Refusal.{Refusal}
use Rattle.ftp_direct.specs.declared.refusal.Refusal.TheVariants as Refusals
use Rattle.ftp_direct.specs.Refusal.{code_of}
use Rattle.ftp_client_model.specs.Dialogue.{answered}
use Rattle.ftp_client_model.specs.View.{View as Near, Flow, Sending, Receiving, Job, Transferring, stands}
use Rattle.ftp_client_model.specs.declared.client.Abort.TheVariants as Aborts
use Rattle.ftp_client_model.specs.declared.client.ClientLink.{ClientLink as NearConnection}
use Rattle.ftp_client_model.specs.declared.client.ClientLink.TheVariants as NearData
use Rattle.ftp_client_model.specs.declared.client.Replied.{Replied}
use Rattle.ftp_client_model.specs.declared.client.Replied.TheVariants as Replies
use Rattle.ftp_server_model.specs.Texts.{fixed_reply_code as reply_code}
use Rattle.ftp_server_model.specs.Walk.{refusal_text}
use Rattle.laws_dialogues.specs.Fetches.{Ask, Down, Up, Rise, busy, carrying, fetching, leaving, offering}
use Rattle.laws_dialogues.specs.Stage.{calm}

-- what holds of octets that come, of none that are still to go, and of some, holds of what goes over the link
pub by_flow : (P : Flow → Type 0) → ((d : Decoder) (mark : Option ℕ) → P (Receiving d mark)) → ((mark : Option ℕ) → P (Sending [] mark))
    → ((octet : ℕ) (left : List ℕ) (mark : Option ℕ) → P (Sending (octet ∷ left) mark)) → (flow : Flow) → P flow
by_flow P down none some (Receiving d mark) = down d mark
by_flow P down none some (Sending [] mark) = none mark
by_flow P down none some (Sending (octet ∷ left) mark) = some octet left mark

module _ (op : Op (List ℕ)) where
  -- the job with these replies and this flow
  abbrev pub with_flow : Replied → Flow → Job
  with_flow replied flow = Transferring op (record { replied = replied; abort = Aborts.Unsent; flow = flow })

  module _ (flow : Flow) (n : Near) where
    -- the link that it gave up is no other to close
    as_it_stood : (said : Said) (b : Bool) → record (calm (leaving said (b || false) n)) { owed = [] } ≡ record (calm (leaving said b n)) { owed = [] }
    as_it_stood said true = refl
    as_it_stood said false = refl

    abbrev Denied : Refusal → NearConnection → List ReplyText → Flow → Type 0
    Denied why connection texts flow =
        answered (reply_code (refusal_text why)) texts (calm (busy (with_flow Replies.Nothing flow) connection n))
        ≡ record (calm (leaving (Refused (code_of why)) (stands connection) n)) { owed = [] }

    -- a refusal of the own command finishes as refused, and the link or the port is to be closed if one stands
    pub offer_denied : (why : Refusal) (connection : NearConnection) (texts : List ReplyText) → Denied why connection texts flow
    unfolding answered
    offer_denied Refusals.LocalFault connection texts =
        let s = as_it_stood (Refused (code_of Refusals.LocalFault)) (stands connection) in
        by_flow (Denied Refusals.LocalFault connection texts) (λ d mark. s) (λ mark. s) (λ octet left mark. s) flow
    offer_denied Refusals.NoRoom connection texts =
        let s = as_it_stood (Refused (code_of Refusals.NoRoom)) (stands connection) in
        by_flow (Denied Refusals.NoRoom connection texts) (λ d mark. s) (λ mark. s) (λ octet left mark. s) flow
    offer_denied Refusals.BadArgument connection texts =
        let s = as_it_stood (Refused (code_of Refusals.BadArgument)) (stands connection) in
        by_flow (Denied Refusals.BadArgument connection texts) (λ d mark. s) (λ mark. s) (λ octet left mark. s) flow
    offer_denied Refusals.BadParameter connection texts =
        let s = as_it_stood (Refused (code_of Refusals.BadParameter)) (stands connection) in
        by_flow (Denied Refusals.BadParameter connection texts) (λ d mark. s) (λ mark. s) (λ octet left mark. s) flow
    offer_denied Refusals.NotLoggedIn connection texts =
        let s = as_it_stood (Refused (code_of Refusals.NotLoggedIn)) (stands connection) in
        by_flow (Denied Refusals.NotLoggedIn connection texts) (λ d mark. s) (λ mark. s) (λ octet left mark. s) flow
    offer_denied Refusals.Unavailable connection texts =
        let s = as_it_stood (Refused (code_of Refusals.Unavailable)) (stands connection) in
        by_flow (Denied Refusals.Unavailable connection texts) (λ d mark. s) (λ mark. s) (λ octet left mark. s) flow
    offer_denied Refusals.NotAllowed connection texts =
        let s = as_it_stood (Refused (code_of Refusals.NotAllowed)) (stands connection) in
        by_flow (Denied Refusals.NotAllowed connection texts) (λ d mark. s) (λ mark. s) (λ octet left mark. s) flow
    offer_denied Refusals.TooMuch connection texts =
        let s = as_it_stood (Refused (code_of Refusals.TooMuch)) (stands connection) in
        by_flow (Denied Refusals.TooMuch connection texts) (λ d mark. s) (λ mark. s) (λ octet left mark. s) flow
    offer_denied Refusals.BadName connection texts =
        let s = as_it_stood (Refused (code_of Refusals.BadName)) (stands connection) in
        by_flow (Denied Refusals.BadName connection texts) (λ d mark. s) (λ mark. s) (λ octet left mark. s) flow

    abbrev NotOpened : Replied → NearConnection → Bool → List ReplyText → Flow → Type 0
    NotOpened replied connection closes texts flow =
        answered 425 texts (calm (busy (with_flow replied flow) connection n)) ≡ record (calm (leaving Unopened closes n)) { owed = [] }

    -- a 425 to the own command finishes as not opened, and the link or the port is to be closed if one stands
    pub offer_unopened : (connection : NearConnection) (texts : List ReplyText) → NotOpened Replies.Nothing connection (stands connection) texts flow
    unfolding answered
    offer_unopened connection texts =
        let s = as_it_stood Unopened (stands connection) in
        by_flow (NotOpened Replies.Nothing connection (stands connection) texts) (λ d mark. s) (λ mark. s) (λ octet left mark. s) flow

    -- so does one while the server is awaited at the port
    pub offer_unaccepted : (port : ℕ) (texts : List ReplyText) → NotOpened Replies.Begun (NearData.Accepting port) true texts flow
    unfolding answered
    offer_unaccepted port texts = by_flow (NotOpened Replies.Begun (NearData.Accepting port) true texts) (λ d mark. refl) (λ mark. refl) (λ octet left mark. refl) flow

    abbrev Awaited : ℕ → List ReplyText → Flow → Type 0
    Awaited port texts flow =
        answered 150 texts (calm (busy (with_flow Replies.Nothing flow) (NearData.Listening port) n))
        ≡ record (calm (busy (with_flow Replies.Begun flow) (NearData.Accepting port) n)) { owed = [] }

    -- the server is awaited at the port behind the 150
    pub offer_awaited : (port : ℕ) (texts : List ReplyText) → Awaited port texts flow
    unfolding answered
    offer_awaited port texts = by_flow (Awaited port texts) (λ d mark. refl) (λ mark. refl) (λ octet left mark. refl) flow

-- ---- by the way that octets go

-- of what falls, it is a job to which no octet has come
pub down_job : (ask : Ask) → ask.sends ≡ Down → (replied : Replied) → offering ask replied ≡ fetching ask.op replied ask.settings []
down_job ask is replied = ap (λ d. with_flow ask.op replied (carrying d ask.settings)) is

-- of what rises, it is a job that has all its text to give
pub up_job : (ask : Ask) (rise : Rise) → ask.sends ≡ Up rise → (replied : Replied) → offering ask replied ≡ with_flow ask.op replied (Sending rise.text None)
up_job ask rise is replied = ap (λ d. with_flow ask.op replied (carrying d ask.settings)) is
