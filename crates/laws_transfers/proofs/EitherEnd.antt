-- A client that sent ABOR and whose link is over hears alike whether that ended or broke, and tells the same answer (RFC 959, section 4.1.3).
use Rattle.std.proofs.Common.{◌≡◌, ◌⊎◌, inl, inr, ℕ, ◌==◌, ◌&&◌, Bool, true, false, true≢false, List, [], ◌∷◌, ◌++◌, Option, Some, None, refl, sym, ap, subst, ◌∙◌}
use Rattle.std.specs.Prelude.{if◌then◌else◌}
use Rattle.ftp_ends.specs.Ear.{ear}
use Rattle.ftp_ends.specs.Reply.{reply_limit}
use Rattle.ftp_ends.specs.declared.link.Wants.{Wants}
use Rattle.ftp_ends.specs.declared.link.Wants.TheVariants as Want
use Rattle.ftp_nvt.specs.Lines.{NvtEvent, line, too_long, owed}
use Rattle.ftp_operation.specs.Answer.{Said}
use Rattle.ftp_operation.specs.declared.op.Op.{Op}
use Rattle.ftp_reply.specs.Lines.{Text, joined}
use Rattle.ftp_reply.specs.Reader.{Between, Faulty, GoesOn, Heard, Says, line_heard}
use Rattle.ftp_reply.specs.Values.{mark_value}
use Rattle.ftp_reply.specs.declared.code.TheConstants.{MARK}
use Rattle.ftp_client_model.specs.Calls as near
use Rattle.ftp_client_model.specs.Calls.{event_taken, events_taken, hears, hears_octet, line_taken, may_hear, report_of}
use Rattle.ftp_client_model.specs.Dialogue.{aborts_once_enough, abort_answered, answered, answers_by, answers_once_over, carries_on, closes_once_given_by, finishes_by, finishes_read, has_begun, is_given, is_unsent, judged_reply, marked_flow, next_job, transfer_answered}
use Rattle.ftp_client_model.specs.Octets.{content_answer, settled_of}
use Rattle.ftp_client_model.specs.Replies.{Closing, Completion, Displaced, Intermediate, Negative, Preliminary, Verdict, verdict_of}
use Rattle.ftp_client_model.specs.View.{Flow, Transfer, Transferring, View}
use Rattle.ftp_client_model.specs.declared.client.Abort.{Abort}
use Rattle.ftp_client_model.specs.declared.client.Abort.TheVariants as Aborts
use Rattle.ftp_client_model.specs.declared.client.ClientLink.TheVariants as Data
use Rattle.ftp_client_model.specs.declared.client.Ending.{Ending}
use Rattle.ftp_client_model.specs.declared.client.Ending.TheVariants as Endings
use Rattle.ftp_client_model.specs.declared.client.Replied.{Replied}
use Rattle.ftp_client_model.specs.declared.client.Replied.TheVariants as Replies
use Rattle.ftp_client_model.specs.declared.client.Standing.TheVariants as Stands

-- ---- two clients

-- of which this transfer is under way, and the link of which is over so
abbrev pub ending_in : Ending → Op (List ℕ) → Transfer → View → View
ending_in ending op transfer v = record v { standing = Stands.Entered; job = Transferring op transfer; connection = Data.Over ending }

-- the one's broke, and the other's ended; both sent ABOR
pub record AreApart (one other : View) : Type 0 where
  pub op : Op (List ℕ)
  pub transfer : Transfer
  pub view : View
  pub sent : is_unsent transfer.abort ≡ false
  pub begun : has_begun transfer.replied ≡ true
  pub one_is : one ≡ ending_in Endings.Broken op transfer view
  pub other_is : other ≡ ending_in Endings.Clean op transfer view

-- or they are the same
abbrev pub AreAlike : (one other : View) → Type 0
AreAlike one other = (one ≡ other) ⊎ AreApart one other

-- ---- a reply

module _ (op : Op (List ℕ)) where
  -- they are told to be over
  apart : (transfer : Transfer) (v : View) → is_unsent transfer.abort ≡ false → has_begun transfer.replied ≡ true
      → AreAlike (ending_in Endings.Broken op transfer v) (ending_in Endings.Clean op transfer v)
  apart transfer v sent begun = inr (record { op = op; transfer = transfer; view = v; sent = sent; begun = begun; one_is = refl; other_is = refl })

  -- both give this answer
  read_alike : (transfer : Transfer) (v : View) (said : Option Said)
      → finishes_read said (ending_in Endings.Broken op transfer v) ≡ finishes_read said (ending_in Endings.Clean op transfer v)
  read_alike transfer v None = refl
  read_alike transfer v (Some answer) = by (next_job v.run (Transferring op transfer) answer)
    where
      by : (next : Option (Op (List ℕ)))
          → finishes_by next answer (ending_in Endings.Broken op transfer v) ≡ finishes_by next answer (ending_in Endings.Clean op transfer v)
      by None = refl
      by (Some next) = refl

  -- they go on
  pub carried_alike : (transfer : Transfer) (v : View) → is_unsent transfer.abort ≡ false → has_begun transfer.replied ≡ true
      → AreAlike (carries_on (ending_in Endings.Broken op transfer v)) (carries_on (ending_in Endings.Clean op transfer v))
  carried_alike transfer v sent begun = by (has_begun transfer.replied && is_given transfer.flow)
    where
      over : (replied : Replied) (abort : Abort) → is_unsent abort ≡ false
          → AreAlike (answers_by replied abort (Data.Over Endings.Broken) op transfer.flow (ending_in Endings.Broken op transfer v))
          (answers_by replied abort (Data.Over Endings.Clean) op transfer.flow (ending_in Endings.Clean op transfer v))
      over (Replies.Final code) Aborts.Answered e = inl (read_alike transfer v (content_answer op (settled_of transfer.flow)))
      over (Replies.Final code) Aborts.Sent e = apart transfer v sent begun
      over (Replies.Final code) Aborts.Unsent e = absurd (true≢false e)
      over Replies.Nothing abort e = apart transfer v sent begun
      over Replies.Begun abort e = apart transfer v sent begun

      after : (given : Bool) → Ending → View
      after given ending =
          let closed = closes_once_given_by given (Data.Over ending) (ending_in ending op transfer v) in
          answers_once_over (aborts_once_enough closed.job closed)

      by : (given : Bool) → AreAlike (after given Endings.Broken) (after given Endings.Clean)
      by true = over transfer.replied transfer.abort sent
      by false = over transfer.replied transfer.abort sent

  -- one to their transfer
  transfer_alike : (transfer : Transfer) (v : View) → is_unsent transfer.abort ≡ false → has_begun transfer.replied ≡ true
      → (verdict : Verdict) (code : ℕ) (text : Text) → AreAlike
      (transfer_answered transfer.replied verdict code text op transfer (ending_in Endings.Broken op transfer v))
      (transfer_answered transfer.replied verdict code text op transfer (ending_in Endings.Clean op transfer v))
  transfer_alike transfer v sent begun verdict code text = by transfer.replied begun verdict
    where
      so : Ending → View
      so ending = ending_in ending op transfer v

      noted : (is_mark : Bool) (flow : Flow) → AreAlike
          (if is_mark then ending_in Endings.Broken op (record transfer { flow = flow }) v else so Endings.Broken)
          (if is_mark then ending_in Endings.Clean op (record transfer { flow = flow }) v else so Endings.Clean)
      noted true flow = apart (record transfer { flow = flow }) v sent begun
      noted false flow = apart transfer v sent begun

      last : (abort : Abort) (verdict : Verdict)
          → AreAlike (abort_answered abort verdict op transfer (so Endings.Broken)) (abort_answered abort verdict op transfer (so Endings.Clean))
      last Aborts.Sent Completion = carried_alike (record transfer { abort = Aborts.Answered }) v refl begun
      last abort verdict = inl refl

      by : (replied : Replied) → has_begun replied ≡ true → (verdict : Verdict)
          → AreAlike (transfer_answered replied verdict code text op transfer (so Endings.Broken))
          (transfer_answered replied verdict code text op transfer (so Endings.Clean))
      by Replies.Nothing e verdict = absurd (true≢false (sym e))
      by Replies.Begun e Preliminary = noted (code == MARK) (marked_flow (mark_value text) transfer.flow)
      by Replies.Begun e Completion = carried_alike (record transfer { replied = Replies.Final code }) v sent refl
      by Replies.Begun e Negative = carried_alike (record transfer { replied = Replies.Final code }) v sent refl
      by Replies.Begun e verdict = inl refl
      by (Replies.Final before) e verdict = last transfer.abort verdict

  -- any
  reply_alike : (transfer : Transfer) (v : View) → is_unsent transfer.abort ≡ false → has_begun transfer.replied ≡ true → (code : ℕ) (texts : List Text)
      → AreAlike (answered code texts (ending_in Endings.Broken op transfer v)) (answered code texts (ending_in Endings.Clean op transfer v))
  unfolding answered
  reply_alike transfer v sent begun code texts = by (verdict_of code)
    where
      by : (verdict : Verdict) → AreAlike (judged_reply verdict code texts (ending_in Endings.Broken op transfer v))
          (judged_reply verdict code texts (ending_in Endings.Clean op transfer v))
      by Closing = inl refl
      by Displaced = inl refl
      by Preliminary = transfer_alike transfer v sent begun Preliminary code (joined texts)
      by Completion = transfer_alike transfer v sent begun Completion code (joined texts)
      by Intermediate = transfer_alike transfer v sent begun Intermediate code (joined texts)
      by Negative = transfer_alike transfer v sent begun Negative code (joined texts)

  -- ---- octets

  event_so : (transfer : Transfer) (v : View) → is_unsent transfer.abort ≡ false → has_begun transfer.replied ≡ true → (event : NvtEvent)
      → AreAlike (event_taken event (ending_in Endings.Broken op transfer v)) (event_taken event (ending_in Endings.Clean op transfer v))
  event_so transfer v sent begun (line text) = by (line_heard v.gathered text)
    where
      by : (heard : Heard) → AreAlike (line_taken heard (ending_in Endings.Broken op transfer v)) (line_taken heard (ending_in Endings.Clean op transfer v))
      by (GoesOn gathered) = apart transfer (record v { gathered = gathered }) sent begun
      by (Says code texts) = reply_alike transfer (record v { gathered = Between }) sent begun code texts
      by (Faulty fault) = inl refl
  event_so transfer v sent begun too_long = inl refl
  event_so transfer v sent begun (owed answer) = apart transfer (record v { owed = v.owed ++ answer }) sent begun

event_alike : (event : NvtEvent) (one other : View) → AreAlike one other → AreAlike (event_taken event one) (event_taken event other)
event_alike event one other (inl e) = inl (ap (event_taken event) e)
event_alike event one other (inr a) =
    subst (λ o. AreAlike (event_taken event o) (event_taken event other)) (sym a.one_is)
    (subst (λ o. AreAlike (event_taken event (ending_in Endings.Broken a.op a.transfer a.view)) (event_taken event o)) (sym a.other_is)
    (event_so a.op a.transfer a.view a.sent a.begun event))

events_alike : (events : List NvtEvent) (one other : View) → AreAlike one other → AreAlike (events_taken events one) (events_taken events other)
events_alike [] one other alike = alike
events_alike (event ∷ events) one other alike = events_alike events (event_taken event one) (event_taken event other) (event_alike event one other alike)

octet_alike : (octet : ℕ) (one other : View) → AreAlike one other → AreAlike (hears_octet one octet) (hears_octet other octet)
octet_alike octet one other (inl e) = inl (ap (λ v. hears_octet v octet) e)
octet_alike octet one other (inr a) =
    subst (λ o. AreAlike (hears_octet o octet) (hears_octet other octet)) (sym a.one_is)
    (subst (λ o. AreAlike (hears_octet (ending_in Endings.Broken a.op a.transfer a.view) octet) (hears_octet o octet)) (sym a.other_is)
    (events_alike ((ear reply_limit).out a.view.ear octet)
    (ending_in Endings.Broken a.op a.transfer (record a.view { ear = (ear reply_limit).step a.view.ear octet }))
    (ending_in Endings.Clean a.op a.transfer (record a.view { ear = (ear reply_limit).step a.view.ear octet }))
    (apart a.op a.transfer (record a.view { ear = (ear reply_limit).step a.view.ear octet }) a.sent a.begun)))

pub hears_either : (octets : List ℕ) (one other : View) → AreAlike one other → AreAlike (hears one octets) (hears other octets)
hears_either [] one other alike = alike
hears_either (octet ∷ octets) one other alike = hears_either octets (hears_octet one octet) (hears_octet other octet) (octet_alike octet one other alike)

-- ---- what both have in common

pub may_either : (one other : View) → AreAlike one other → may_hear other ≡ may_hear one
may_either one other (inl e) = ap may_hear (sym e)
may_either one other (inr a) = ap may_hear a.other_is ∙ sym (ap may_hear a.one_is)

-- they want nothing, or that their link is closed
abbrev pub is_wishing : Wants → Bool
is_wishing Want.Nothing = false
is_wishing Want.CloseData = false
is_wishing other = true

pub record Common (one other : View) : Type 0 where
  pub wants : near.wants other ≡ near.wants one
  pub wishes : is_wishing (near.wants one) ≡ false
  pub owed : other.owed ≡ one.owed
  pub job : other.job ≡ one.job
  pub busy : near.is_busy one ≡ true
  pub one_said : report_of one ≡ None
  pub other_said : report_of other ≡ None
  pub one_reports : near.reports one ≡ one
  pub other_reports : near.reports other ≡ other

pub common : (one other : View) → AreApart one other → Common one other
unfolding near.wants
common one other a = record {
  wants = ap near.wants a.other_is ∙ sym (ap near.wants a.one_is);
  wishes = ap (λ v. is_wishing (near.wants v)) a.one_is ∙ by a.view.closing;
  owed = ap (λ v. v.owed) a.other_is ∙ sym (ap (λ v. v.owed) a.one_is);
  job = ap (λ v. v.job) a.other_is ∙ sym (ap (λ v. v.job) a.one_is);
  busy = ap near.is_busy a.one_is;
  one_said = ap report_of a.one_is;
  other_said = ap report_of a.other_is;
  one_reports = ap near.reports a.one_is ∙ sym a.one_is;
  other_reports = ap near.reports a.other_is ∙ sym a.other_is;
}
  where
    by : (closing : Bool) → is_wishing (if closing then Want.CloseData else Want.Nothing) ≡ false
    by true = refl
    by false = refl

-- what is done with both alike that sees nothing of their link
pub both_give : (count : ℕ) (one other : View) → AreApart one other → AreApart (near.gives_control count one) (near.gives_control count other)
both_give count one other a = record {
  op = a.op;
  transfer = a.transfer;
  view = near.gives_control count a.view;
  sent = a.sent;
  begun = a.begun;
  one_is = ap (near.gives_control count) a.one_is;
  other_is = ap (near.gives_control count) a.other_is;
}

pub both_closed : (one other : View) → AreApart one other → AreApart (near.data_closed one) (near.data_closed other)
both_closed one other a = record {
  op = a.op;
  transfer = a.transfer;
  view = record a.view { closing = false };
  sent = a.sent;
  begun = a.begun;
  one_is = ap near.data_closed a.one_is;
  other_is = ap near.data_closed a.other_is;
}
