-- A client hears octets alike whether who came at its port was accepted before them or after them, while its transfer is not refused by them.
use Rattle.std.proofs.Common.{◌≡◌, ◌⊎◌, inl, inr, ℕ, ◌==◌, Bool, true, false, true≢false, List, [], ◌∷◌, ◌++◌, length, nat_le, Option, Some, None, refl, sym, ap, subst, ◌∙◌, eqb-true}
use Rattle.std.specs.Prelude.{if◌then◌else◌, ◌&&◌}
use Rattle.std.proofs.lemmas.Bool.{lt-leb}
use Rattle.ftp_ends.specs.Ear.{ear}
use Rattle.ftp_ends.specs.Reply.{reply_limit}
use Rattle.ftp_ends.proofs.EventLemmas.{out_one}
use Rattle.ftp_nvt.specs.Lines.{NvtEvent, line, too_long, owed}
use Rattle.ftp_operation.specs.Answer.{Said}
use Rattle.ftp_operation.specs.declared.op.Op.{Op}
use Rattle.ftp_reply.specs.Lines.{Text, joined}
use Rattle.ftp_reply.specs.Reader.{Between, Faulty, GoesOn, Heard, Says, line_heard}
use Rattle.ftp_reply.specs.Values.{mark_value}
use Rattle.ftp_client_model.specs.Calls.{accepted, event_taken, events_taken, hears_octet, is_down, is_sound, line_taken}
use Rattle.ftp_client_model.specs.Dialogue.{answered, answers_once_over, closes, finishes_read, judged, judged_reply, marked_flow, noted, sends_abort, transfer_answered, unless_open, with_reply}
use Rattle.ftp_client_model.specs.Octets.{has_settled, settled_of}
use Rattle.ftp_client_model.specs.Plan.{count_of}
use Rattle.ftp_client_model.specs.Replies.{Closing, Completion, Displaced, Intermediate, Negative, Preliminary, Verdict, verdict_of}
use Rattle.ftp_client_model.specs.View.{Flow, Job, Receiving, Sending, Transfer, Transferring, View as Near}
use Rattle.ftp_client_model.specs.declared.client.Abort.TheVariants as Aborts
use Rattle.ftp_client_model.specs.declared.client.ClientLink.{ClientLink}
use Rattle.ftp_client_model.specs.declared.client.ClientLink.TheVariants as Data
use Rattle.ftp_client_model.specs.declared.client.Ending.TheVariants as Endings
use Rattle.ftp_client_model.specs.declared.client.Replied.{Replied}
use Rattle.ftp_client_model.specs.declared.client.Replied.TheVariants as Replies
use Rattle.ftp_client_model.specs.declared.client.Standing.TheVariants as Stands
use Rattle.laws_drivers.proofs.events.Plain.{IsSome}

-- ---- a client that waits at its port, and one that has the link

-- at its port, with these replies of a transfer and this to give or come
abbrev pub awaiting : Op (List ℕ) → Replied → Flow → ℕ → Near → Near
awaiting op replied flow port n = record n {
  standing = Stands.Entered;
  job = Transferring op (record { replied = replied; abort = Aborts.Unsent; flow = flow });
  run = None;
  connection = Data.Accepting port;
  closing = false;
}

-- who came was accepted: the link is open, or an upload of no octets has closed it
abbrev pub joined_link : Flow → ClientLink
joined_link (Sending [] mark) = Data.Over Endings.Ours
joined_link flow = Data.Open

abbrev pub joined_closing : Flow → Bool
joined_closing (Sending [] mark) = true
joined_closing flow = false

abbrev pub joining : Op (List ℕ) → Replied → Flow → Near → Near
joining op replied flow n = record n {
  standing = Stands.Entered;
  job = Transferring op (record { replied = replied; abort = Aborts.Unsent; flow = flow });
  run = None;
  connection = joined_link flow;
  closing = joined_closing flow;
}

-- the 1yz came, and of a transfer that brings octets perhaps the final reply
abbrev pub has_come : Replied → Flow → Bool
has_come Replies.Begun flow = true
has_come (Replies.Final code) (Receiving decoder mark) = true
has_come replied flow = false

-- it asks for one octet at least, where it asks for a number of them, and none came
abbrev pub IsFew : Op (List ℕ) → Flow → Type 0
IsFew op flow = IsSome (count_of op) × (settled_of flow ≡ [])

-- so it has not enough
pub few_unsettled : (op : Op (List ℕ)) (flow : Flow) → IsFew op flow → has_settled (count_of op) flow ≡ false
few_unsettled op flow few = by (count_of op) few.0
  where
    by : (count : Option ℕ) → IsSome count → has_settled count flow ≡ false
    by None some = refl
    by (Some count) some = ap (λ (octets : List ℕ). nat_le count (length octets)) few.1 ∙ lt-leb count 0 some

-- then an open link is not given up
no_abort : (op : Op (List ℕ)) (replied : Replied) (flow : Flow) → IsFew op flow → (v : Near)
    → answers_once_over (if has_settled (count_of op) flow then sends_abort op (record { replied = replied; abort = Aborts.Unsent; flow = flow }) v else v)
    ≡ answers_once_over v
no_abort op replied flow few v =
    ap (λ enough. answers_once_over (if enough then sends_abort op
    (record { replied = replied; abort = Aborts.Unsent; flow = flow }) v else v)) (few_unsettled op flow few)

-- so it is accepted
pub joins : (op : Op (List ℕ)) (replied : Replied) (flow : Flow) → IsFew op flow → has_come replied flow ≡ true → (port : ℕ) (n : Near)
    → accepted true (awaiting op replied flow port n) ≡ joining op replied flow n
joins op Replies.Begun (Sending [] mark) few come port n = refl
joins op Replies.Begun (Sending (octet ∷ left) mark) few come port n =
    no_abort op Replies.Begun (Sending (octet ∷ left) mark) few (joining op Replies.Begun (Sending (octet ∷ left) mark) n)
joins op Replies.Begun (Receiving decoder mark) few come port n =
    no_abort op Replies.Begun (Receiving decoder mark) few (joining op Replies.Begun (Receiving decoder mark) n)
joins op (Replies.Final code) (Receiving decoder mark) few come port n =
    no_abort op (Replies.Final code) (Receiving decoder mark) few (joining op (Replies.Final code) (Receiving decoder mark) n)
joins op (Replies.Final code) (Sending left mark) few come port n = absurd (true≢false (sym come))
joins op Replies.Nothing flow few come port n = absurd (true≢false (sym come))

-- ---- what comes of octets

-- a client that waits so, with as many octets to come as it asks for
pub record Awaits (v : Near) : Type 0 where
  pub op : Op (List ℕ)
  pub replied : Replied
  pub flow : Flow
  pub few : IsFew op flow
  pub come : has_come replied flow ≡ true
  pub port : ℕ
  pub is : v ≡ awaiting op replied flow port v

-- a transfer is under way
abbrev pub is_transfer : Job → Bool
is_transfer (Transferring op transfer) = true
is_transfer job = false

-- over an open link it has another final reply than that of octets that came whole
pub record Refuses (v : Near) : Type 0 where
  pub op : Op (List ℕ)
  pub code : ℕ
  pub flow : Flow
  pub job : v.job ≡ Transferring op (record { replied = Replies.Final code; abort = Aborts.Unsent; flow = flow })
  pub connection : v.connection ≡ Data.Open
  pub other : is_down flow && (code == 226) ≡ false

-- so it is, or the transfer is answered, where the client has closed the link
abbrev pub IsRefused : (closed : Bool) → Near → Type 0
IsRefused closed v = ((is_transfer v.job ≡ false) × (closed ≡ true)) ⊎ Refuses v

-- of one that accepted before and one that waits still: the second waits on, and once it accepts it is the first; or the first failed, or was refused
pub data Meets (closed : Bool) (one other : Near) : Type 0 where
  Alike : (a : Awaits other) → joined_closing a.flow ≡ closed → one ≡ accepted true other → Meets closed one other
  Failed : is_sound one.standing ≡ false → Meets closed one other
  Refused : IsRefused closed one → Meets closed one other

-- the second waits on
abbrev Waiting : Op (List ℕ) → Replied → Flow → ℕ → Near → Near → Type 0
Waiting op replied flow port n one = Meets (joined_closing flow) one (awaiting op replied flow port n)

waits_on : (op : Op (List ℕ)) (replied : Replied) (flow : Flow) → IsFew op flow → has_come replied flow ≡ true → (port : ℕ) (n : Near)
    → Waiting op replied flow port n (joining op replied flow n)
waits_on op replied flow few come port n =
    Alike (record { op = op; few = few; replied = replied; flow = flow; come = come; port = port; is = refl }) refl
    (sym (joins op replied flow few come port n))

-- what is heard of a mark is of no matter to its link
marked_on : (op : Op (List ℕ)) (port : ℕ) (n : Near) (mark : Option ℕ) (flow : Flow) → IsFew op flow
    → Meets (joined_closing flow) (record (joining op Replies.Begun flow n)
    { job = Transferring op (record { replied = Replies.Begun; abort = Aborts.Unsent; flow = marked_flow mark flow }) })
    (awaiting op Replies.Begun (marked_flow mark flow) port n)
marked_on op port n (Some mark) (Sending [] before) few = waits_on op Replies.Begun (Sending [] (Some mark)) few refl port n
marked_on op port n (Some mark) (Sending (octet ∷ left) before) few = waits_on op Replies.Begun (Sending (octet ∷ left) (Some mark)) few refl port n
marked_on op port n (Some mark) (Receiving decoder before) few = waits_on op Replies.Begun (Receiving decoder before) few refl port n
marked_on op port n None (Sending [] before) few = waits_on op Replies.Begun (Sending [] before) few refl port n
marked_on op port n None (Sending (octet ∷ left) before) few = waits_on op Replies.Begun (Sending (octet ∷ left) before) few refl port n
marked_on op port n None (Receiving decoder before) few = waits_on op Replies.Begun (Receiving decoder before) few refl port n

-- a 1yz after the first
noted_on : (op : Op (List ℕ)) (flow : Flow) → IsFew op flow → (code : ℕ) (text : Text) (port : ℕ) (n : Near)
    → let transfer : Transfer = record { replied = Replies.Begun; abort = Aborts.Unsent; flow = flow } in
    Meets (joined_closing flow) (noted code text op transfer (joining op Replies.Begun flow n))
    (noted code text op transfer (awaiting op Replies.Begun flow port n))
noted_on op flow few code text port n = by (code == 110)
  where
    by : (is_mark : Bool)
        → let job : Job = Transferring op (record { replied = Replies.Begun; abort = Aborts.Unsent; flow = marked_flow (mark_value text) flow }) in
        Meets (joined_closing flow) (if is_mark then record (joining op Replies.Begun flow n) { job = job } else joining op Replies.Begun flow n)
        (if is_mark then record (awaiting op Replies.Begun flow port n) { job = job } else awaiting op Replies.Begun flow port n)
    by true = marked_on op port n (mark_value text) flow few
    by false = waits_on op Replies.Begun flow few refl port n

-- ---- a final reply

-- an upload of no octets, whose link the client has closed, is answered
over_answered : (op : Op (List ℕ)) (code : ℕ) (mark : Option ℕ) (port : ℕ) (n : Near)
    → let transfer : Transfer = record { replied = Replies.Begun; abort = Aborts.Unsent; flow = Sending [] mark } in
    (other : Near) → Meets true (with_reply (Replies.Final code) op transfer (joining op Replies.Begun (Sending [] mark) n)) other
over_answered op code mark port n other = by (judged Endings.Ours Aborts.Unsent code op (Sending [] mark))
  where
    final : Near
    final = record (joining op Replies.Begun (Sending [] mark) n) {
      job = Transferring op (record { replied = Replies.Final code; abort = Aborts.Unsent; flow = Sending [] mark });
    }

    by : (answer : Option Said) → Meets true (finishes_read answer final) other
    by None = Failed refl
    by (Some answer) = Refused (inl (refl, refl))

-- over an open link it is kept
open_kept : (op : Op (List ℕ)) (code octet : ℕ) (left : List ℕ) (mark : Option ℕ) → IsFew op (Sending (octet ∷ left) mark) → (n other : Near)
    → let transfer : Transfer = record { replied = Replies.Begun; abort = Aborts.Unsent; flow = Sending (octet ∷ left) mark } in
    Meets false (with_reply (Replies.Final code) op transfer (joining op Replies.Begun (Sending (octet ∷ left) mark) n)) other
open_kept op code octet left mark few n other =
    let flow : Flow = Sending (octet ∷ left) mark in
    let final : Near = record (joining op Replies.Begun flow n)
    { job = Transferring op (record { replied = Replies.Final code; abort = Aborts.Unsent; flow = flow }) } in
    subst (λ v. Meets false v other) (sym (no_abort op (Replies.Final code) flow few final))
    (Refused (inr (record { op = op; code = code; flow = flow; job = refl; connection = refl; other = refl })))

-- a 2yz
completed_on : (op : Op (List ℕ)) (flow : Flow) → IsFew op flow → (code port : ℕ) (n : Near)
    → let transfer : Transfer = record { replied = Replies.Begun; abort = Aborts.Unsent; flow = flow } in
    Meets (joined_closing flow) (with_reply (Replies.Final code) op transfer (joining op Replies.Begun flow n))
    (with_reply (Replies.Final code) op transfer (awaiting op Replies.Begun flow port n))
completed_on op (Sending [] mark) few code port n =
    over_answered op code mark port n
    (with_reply (Replies.Final code) op (record { replied = Replies.Begun; abort = Aborts.Unsent; flow = Sending [] mark })
    (awaiting op Replies.Begun (Sending [] mark) port n))
completed_on op (Sending (octet ∷ left) mark) few code port n =
    open_kept op code octet left mark few n
    (with_reply (Replies.Final code) op (record { replied = Replies.Begun; abort = Aborts.Unsent; flow = Sending (octet ∷ left) mark })
    (awaiting op Replies.Begun (Sending (octet ∷ left) mark) port n))
completed_on op (Receiving decoder mark) few code port n =
    let flow : Flow = Receiving decoder mark in
    subst (λ v. Meets false v (awaiting op (Replies.Final code) flow port n))
    (sym (no_abort op (Replies.Final code) flow few (joining op (Replies.Final code) flow n)))
    (waits_on op (Replies.Final code) flow few refl port n)

-- 4yz or 5yz
refused_on : (op : Op (List ℕ)) (flow : Flow) → IsFew op flow → (code port : ℕ) → code == 226 ≡ false → (n other : Near)
    → let transfer : Transfer = record { replied = Replies.Begun; abort = Aborts.Unsent; flow = flow } in
    Meets (joined_closing flow) (with_reply (Replies.Final code) op transfer (unless_open (joined_link flow) (joining op Replies.Begun flow n))) other
refused_on op (Sending [] mark) few code port apart n other = over_answered op code mark port n other
refused_on op (Sending (octet ∷ left) mark) few code port apart n other = open_kept op code octet left mark few n other
refused_on op (Receiving decoder mark) few code port apart n other =
    let flow : Flow = Receiving decoder mark in
    subst (λ v. Meets false v other) (sym (no_abort op (Replies.Final code) flow few (joining op (Replies.Final code) flow n)))
    (Refused (inr (record { op = op; code = code; flow = flow; job = refl; connection = refl; other = apart })))

-- ---- a reply

-- a refusal is no 226
abbrev is_negative : Verdict → Bool
is_negative Negative = true
is_negative verdict = false

negative_apart : (code : ℕ) → verdict_of code ≡ Negative → code == 226 ≡ false
negative_apart code is = by (code == 226) refl
  where
    by : (same : Bool) → code == 226 ≡ same → same ≡ false
    by false e = refl
    by true e = absurd (true≢false (sym (ap is_negative is) ∙ ap (λ c. is_negative (verdict_of c)) (eqb-true code 226 e)))

replied_on : (op : Op (List ℕ)) (replied : Replied) (flow : Flow) → IsFew op flow → has_come replied flow ≡ true
    → (port : ℕ) (n : Near) (verdict : Verdict)
    (code : ℕ) → verdict_of code ≡ verdict → (text : Text)
    → let transfer : Transfer = record { replied = replied; abort = Aborts.Unsent; flow = flow } in
    Meets (joined_closing flow) (transfer_answered replied verdict code text op transfer (joining op replied flow n))
    (transfer_answered replied verdict code text op transfer (awaiting op replied flow port n))
replied_on op Replies.Begun flow few come port n Preliminary code is text = noted_on op flow few code text port n
replied_on op Replies.Begun flow few come port n Completion code is text = completed_on op flow few code port n
replied_on op Replies.Begun flow few come port n Negative code is text =
    refused_on op flow few code port (negative_apart code is) n
    (with_reply (Replies.Final code) op (record { replied = Replies.Begun; abort = Aborts.Unsent; flow = flow })
    (closes (awaiting op Replies.Begun flow port n)))
replied_on op Replies.Begun flow few come port n Intermediate code is text = Failed refl
replied_on op Replies.Begun flow few come port n Closing code is text = Failed refl
replied_on op Replies.Begun flow few come port n Displaced code is text = Failed refl
replied_on op (Replies.Final before) (Receiving decoder mark) few come port n verdict code is text = Failed refl
replied_on op (Replies.Final before) (Sending left mark) few come port n verdict code is text = absurd (true≢false (sym come))
replied_on op Replies.Nothing flow few come port n verdict code is text = absurd (true≢false (sym come))

reply_meets : (op : Op (List ℕ)) (replied : Replied) (flow : Flow) → IsFew op flow → has_come replied flow ≡ true → (port : ℕ) (n : Near) (code : ℕ)
    (texts : List Text) → Meets (joined_closing flow) (answered code texts (joining op replied flow n)) (answered code texts (awaiting op replied flow port n))
unfolding answered
reply_meets op replied flow few come port n code texts = by (verdict_of code) refl
  where
    by : (verdict : Verdict) → verdict_of code ≡ verdict
        → Meets (joined_closing flow) (judged_reply verdict code texts (joining op replied flow n))
        (judged_reply verdict code texts (awaiting op replied flow port n))
    by Closing is = Failed refl
    by Displaced is = Failed refl
    by Preliminary is = replied_on op replied flow few come port n Preliminary code is (joined texts)
    by Completion is = replied_on op replied flow few come port n Completion code is (joined texts)
    by Intermediate is = replied_on op replied flow few come port n Intermediate code is (joined texts)
    by Negative is = replied_on op replied flow few come port n Negative code is (joined texts)

-- ---- octets of the control connection

module _ (op : Op (List ℕ)) (replied : Replied) (flow : Flow) (few : IsFew op flow) (come : has_come replied flow ≡ true) (port : ℕ) where
  event_meets : (event : NvtEvent) (n : Near) → Meets (joined_closing flow) (event_taken event (joining op replied flow n))
      (event_taken event (awaiting op replied flow port n))
  event_meets (line text) n = by (line_heard n.gathered text)
    where
      by : (heard : Heard) → Meets (joined_closing flow) (line_taken heard (joining op replied flow n)) (line_taken heard (awaiting op replied flow port n))
      by (GoesOn gathered) = waits_on op replied flow few come port (record n { gathered = gathered })
      by (Says code texts) = reply_meets op replied flow few come port (record n { gathered = Between }) code texts
      by (Faulty fault) = Failed refl
  event_meets too_long n = Failed refl
  event_meets (owed octets) n = waits_on op replied flow few come port (record n { owed = n.owed ++ octets })

  octet_meets : (octet : ℕ) (n : Near) → Meets (joined_closing flow) (hears_octet (joining op replied flow n) octet)
      (hears_octet (awaiting op replied flow port n) octet)
  octet_meets octet n =
      let m : Near = record n { ear = (ear reply_limit).step n.ear octet } in
      let P : List NvtEvent → Type 0 = λ events. Meets (joined_closing flow) (events_taken events (joining op replied flow m))
      (events_taken events (awaiting op replied flow port m)) in
      elim (out_one reply_limit n.ear octet) as (λ _. P ((ear reply_limit).out n.ear octet)) [
        | inl f ↦ subst P (sym f) (waits_on op replied flow few come port m)
        | inr f ↦ subst P (sym f.1) (event_meets f.0 m)
      ]

-- an octet that is heard by one that accepted before it, and by one that waits
pub octet_met : (v : Near) → (a : Awaits v) → (octet : ℕ) → Meets (joined_closing a.flow) (hears_octet (accepted true v) octet) (hears_octet v octet)
octet_met v a octet =
    subst (λ x. Meets (joined_closing a.flow) (hears_octet (accepted true x) octet) (hears_octet x octet)) (sym a.is)
    (subst (λ x. Meets (joined_closing a.flow) (hears_octet x octet) (hears_octet (awaiting a.op a.replied a.flow a.port v) octet))
    (sym (joins a.op a.replied a.flow a.few a.come a.port v)) (octet_meets a.op a.replied a.flow a.few a.come a.port octet v))
