-- A client of an upload that heard its 150: what it hears before its final reply are numbers of octets that are held, and how its link stands is of no matter
-- to that.
use Rattle.std.proofs.Common.{◌≡◌, ◌⊎◌, inl, inr, ℕ, ◌==◌, ◌&&◌, Bool, true, false, true≢false, List, [], ◌∷◌, ◌++◌, Option, Some, None, refl, sym, ap, subst, ◌∙◌}
use Rattle.std.specs.Prelude.{if◌then◌else◌}
use Rattle.ftp_ends.specs.Ear.{ear_out, ear_step}
use Rattle.ftp_ends.proofs.EventLemmas.{out_one}
use Rattle.ftp_ends.specs.Reply.{reply_limit}
use Rattle.ftp_nvt.specs.Lines.{NvtEvent, line, owed, too_long}
use Rattle.ftp_operation.specs.Answer.{Said}
use Rattle.ftp_operation.specs.declared.op.Op.{Op}
use Rattle.ftp_reply.specs.Lines.{Text, joined}
use Rattle.ftp_reply.specs.Reader.{Between, Faulty, GoesOn, Heard, Says, line_heard}
use Rattle.ftp_reply.specs.Values.{mark_value}
use Rattle.ftp_reply.specs.declared.code.TheConstants.{MARK}
use Rattle.ftp_client_model.specs.Calls.{event_taken, events_taken, hears, hears_octet, line_taken}
use Rattle.ftp_client_model.specs.Dialogue.{aborts_once_enough, answered, answers_once_over, carries_on, closes_once_given_by, finishes_read, is_given, judged, judged_reply, marked_flow, sends_abort, unless_open, with_reply}
use Rattle.ftp_client_model.specs.Octets.{has_settled}
use Rattle.ftp_client_model.specs.Plan.{count_of}
use Rattle.ftp_client_model.specs.Replies.{Closing, Completion, Displaced, Intermediate, Negative, Preliminary, Verdict, verdict_of}
use Rattle.ftp_client_model.specs.View.{Doing, Flow, Idle, Job, Sending, Told, Transfer, Transferring, View, Waiting, fails}
use Rattle.ftp_client_model.specs.declared.client.Abort.{Abort}
use Rattle.ftp_client_model.specs.declared.client.Abort.TheVariants as Aborts
use Rattle.ftp_client_model.specs.declared.client.ClientLink.{ClientLink}
use Rattle.ftp_client_model.specs.declared.client.ClientLink.TheVariants as Data
use Rattle.ftp_client_model.specs.declared.client.Ending.TheVariants as Endings
use Rattle.ftp_client_model.specs.declared.client.Failure.{Failure}
use Rattle.ftp_client_model.specs.declared.client.Failure.TheVariants as Failures
use Rattle.ftp_client_model.specs.declared.client.Replied.{Replied}
use Rattle.ftp_client_model.specs.declared.client.Replied.TheVariants as Replies
use Rattle.ftp_client_model.specs.declared.client.Standing.{Standing}
use Rattle.ftp_client_model.specs.declared.client.Standing.TheVariants as Stands
use Rattle.laws_breaks.proofs.downloads.Late.{is_late}
use Rattle.laws_breaks.proofs.uploads.Late.{marked_next, next_mark}

-- ---- a client whose final reply is in, or its answer

abbrev pub is_past_by : Replied → Abort → Bool
is_past_by (Replies.Final code) Aborts.Unsent = true
is_past_by replied abort = false

abbrev pub is_past : Job → Bool
is_past (Told answer) = true
is_past (Transferring op transfer) = is_past_by transfer.replied transfer.abort
is_past job = false

-- it is logged in, or has failed
pub record Past (v : View) : Type 0 where
  pub past : is_past v.job ≡ true
  pub late : is_late v.standing ≡ true

-- so it stays
fails_past : (failure : Failure) (v : View) → Past v → Past (fails failure v)
fails_past failure v p = by v.standing v.job p.late p.past
  where
    by : (standing : Standing) (job : Job) → is_late standing ≡ true → is_past job ≡ true
        → Past (fails failure (record v { standing = standing; job = job }))
    by Stands.Entered (Told answer) late past = record { past = refl; late = refl }
    by Stands.Entered (Transferring op transfer) late past = record { past = refl; late = refl }
    by (Stands.Failed before) job late past = record { past = past; late = refl }
    by Stands.Greeting job late past = absurd (true≢false (sym late))
    by Stands.User job late past = absurd (true≢false (sym late))
    by Stands.Pass job late past = absurd (true≢false (sym late))
    by Stands.Entered Idle late past = absurd (true≢false (sym past))
    by Stands.Entered (Waiting op) late past = absurd (true≢false (sym past))
    by Stands.Entered (Doing op step) late past = absurd (true≢false (sym past))

judged_past : (verdict : Verdict) (code : ℕ) (texts : List Text) (v : View) → Past v → Past (judged_reply verdict code texts v)
judged_past verdict code texts v p = by verdict v.standing v.job p.late p.past
  where
    at : Standing → Job → View
    at standing job = record v { standing = standing; job = job }

    transfers : (verdict : Verdict) (op : Op (List ℕ)) (replied : Replied) (abort : Abort) (flow : Flow) → is_past_by replied abort ≡ true
        → Past (judged_reply verdict code texts
        (at Stands.Entered (Transferring op (record { replied = replied; abort = abort; flow = flow }))))
    transfers Closing op (Replies.Final before) Aborts.Unsent flow past = record { past = refl; late = refl }
    transfers Displaced op (Replies.Final before) Aborts.Unsent flow past = record { past = refl; late = refl }
    transfers Preliminary op (Replies.Final before) Aborts.Unsent flow past = record { past = refl; late = refl }
    transfers Completion op (Replies.Final before) Aborts.Unsent flow past = record { past = refl; late = refl }
    transfers Intermediate op (Replies.Final before) Aborts.Unsent flow past = record { past = refl; late = refl }
    transfers Negative op (Replies.Final before) Aborts.Unsent flow past = record { past = refl; late = refl }
    transfers verdict op (Replies.Final before) Aborts.Sent flow past = absurd (true≢false (sym past))
    transfers verdict op (Replies.Final before) Aborts.Answered flow past = absurd (true≢false (sym past))
    transfers verdict op Replies.Nothing abort flow past = absurd (true≢false (sym past))
    transfers verdict op Replies.Begun abort flow past = absurd (true≢false (sym past))

    by : (verdict : Verdict) (standing : Standing) (job : Job) → is_late standing ≡ true → is_past job ≡ true
        → Past (judged_reply verdict code texts (at standing job))
    by verdict Stands.Entered (Transferring op transfer) late past = transfers verdict op transfer.replied transfer.abort transfer.flow past
    by Closing Stands.Entered (Told answer) late past = record { past = refl; late = refl }
    by Displaced Stands.Entered (Told answer) late past = record { past = refl; late = refl }
    by Preliminary Stands.Entered (Told answer) late past = record { past = refl; late = refl }
    by Completion Stands.Entered (Told answer) late past = record { past = refl; late = refl }
    by Intermediate Stands.Entered (Told answer) late past = record { past = refl; late = refl }
    by Negative Stands.Entered (Told answer) late past = record { past = refl; late = refl }
    by Closing (Stands.Failed before) job late past = record { past = past; late = refl }
    by Displaced (Stands.Failed before) job late past = record { past = past; late = refl }
    by Preliminary (Stands.Failed before) job late past = record { past = past; late = refl }
    by Completion (Stands.Failed before) job late past = record { past = past; late = refl }
    by Intermediate (Stands.Failed before) job late past = record { past = past; late = refl }
    by Negative (Stands.Failed before) job late past = record { past = past; late = refl }
    by verdict Stands.Greeting job late past = absurd (true≢false (sym late))
    by verdict Stands.User job late past = absurd (true≢false (sym late))
    by verdict Stands.Pass job late past = absurd (true≢false (sym late))
    by verdict Stands.Entered Idle late past = absurd (true≢false (sym past))
    by verdict Stands.Entered (Waiting op) late past = absurd (true≢false (sym past))
    by verdict Stands.Entered (Doing op step) late past = absurd (true≢false (sym past))

line_past : (heard : Heard) (v : View) → Past v → Past (line_taken heard v)
unfolding answered
line_past (GoesOn gathered) v p = record { past = p.past; late = p.late }
line_past (Says code texts) v p = judged_past (verdict_of code) code texts (record v { gathered = Between }) (record { past = p.past; late = p.late })
line_past (Faulty fault) v p = fails_past Failures.Strange v p

event_past : (event : NvtEvent) (v : View) → Past v → Past (event_taken event v)
event_past (line text) v p = line_past (line_heard v.gathered text) v p
event_past too_long v p = fails_past Failures.Strange v p
event_past (owed answer) v p = record { past = p.past; late = p.late }

events_past : (events : List NvtEvent) (v : View) → Past v → Past (events_taken events v)
events_past [] v p = p
events_past (event ∷ events) v p = events_past events (event_taken event v) (event_past event v p)

pub hears_past : (octets : List ℕ) (v : View) → Past v → Past (hears v octets)
hears_past [] v p = p
hears_past (octet ∷ octets) v p =
    hears_past octets (hears_octet v octet)
    (events_past (ear_out reply_limit v.ear octet) (record v { ear = ear_step reply_limit v.ear octet }) (record { past = p.past; late = p.late }))

-- ---- one whose final reply is not in

module _ (op : Op (List ℕ)) (all : count_of op ≡ None) (left : List ℕ) where
  abbrev flow : Option ℕ → Flow
  flow mark = Sending left mark

  abbrev so_far : Replied → Option ℕ → Transfer
  so_far replied mark = record { replied = replied; abort = Aborts.Unsent; flow = flow mark }

  abbrev placed : Replied → ClientLink → Bool → Option ℕ → View → View
  placed replied link closing mark n = record n {
    standing = Stands.Entered;
    job = Transferring op (so_far replied mark);
    run = None;
    connection = link;
    closing = closing;
  }

  -- it heard its 150, and its link stands so
  abbrev pub begun : ClientLink → Bool → Option ℕ → View → View
  begun link closing mark n = placed Replies.Begun link closing mark n

  -- with its answer, whatever was read
  finished : (read : Option Said) (code : ℕ) (link : ClientLink) (closing : Bool) (mark : Option ℕ) (n : View)
      → Past (finishes_read read (placed (Replies.Final code) link closing mark n))
  finished None code link closing mark n = record { past = refl; late = refl }
  finished (Some answer) code link closing mark n = record { past = refl; late = refl }

  -- its final reply comes in
  past_final : (code : ℕ) (link : ClientLink) (closing : Bool) (mark : Option ℕ) (n : View)
      → Past (carries_on (placed (Replies.Final code) link closing mark n))
  past_final code link closing mark n = by (is_given (flow mark)) link
    where
      v : ClientLink → View
      v link = placed (Replies.Final code) link closing mark n

      after : Bool → ClientLink → View
      after given link = let closed = closes_once_given_by given link (v link) in answers_once_over (aborts_once_enough closed.job closed)

      by : (given : Bool) (link : ClientLink) → Past (after given link)
      by true Data.Open = finished (judged Endings.Ours Aborts.Unsent code op (flow mark)) code (Data.Over Endings.Ours) _ mark n
      by false Data.Open =
          subst (λ (k : Option ℕ). Past (answers_once_over
          (if true && true && has_settled k (flow mark) then sends_abort op (so_far (Replies.Final code) mark) (v Data.Open) else v Data.Open)))
          (sym all) (record { past = refl; late = refl })
      by true (Data.Over ending) = finished (judged ending Aborts.Unsent code op (flow mark)) code (Data.Over ending) closing mark n
      by false (Data.Over ending) = finished (judged ending Aborts.Unsent code op (flow mark)) code (Data.Over ending) closing mark n
      by true Data.Free = record { past = refl; late = refl }
      by false Data.Free = record { past = refl; late = refl }
      by true Data.ListenWanted = record { past = refl; late = refl }
      by false Data.ListenWanted = record { past = refl; late = refl }
      by true (Data.Listening port) = record { past = refl; late = refl }
      by false (Data.Listening port) = record { past = refl; late = refl }
      by true (Data.Connecting endpoint) = record { past = refl; late = refl }
      by false (Data.Connecting endpoint) = record { past = refl; late = refl }
      by true (Data.Accepting port) = record { past = refl; late = refl }
      by false (Data.Accepting port) = record { past = refl; late = refl }

  -- a refusal, which ends the wait for a link too
  past_refused : (code : ℕ) (link : ClientLink) (closing : Bool) (mark : Option ℕ) (n : View)
      → Past (with_reply (Replies.Final code) op (so_far Replies.Begun mark) (unless_open link (begun link closing mark n)))
  past_refused code Data.Open closing mark n = past_final code Data.Open closing mark n
  past_refused code (Data.Over ending) closing mark n = past_final code (Data.Over ending) closing mark n
  past_refused code Data.Free closing mark n = past_final code (Data.Over Endings.Ours) _ mark n
  past_refused code Data.ListenWanted closing mark n = past_final code (Data.Over Endings.Ours) _ mark n
  past_refused code (Data.Listening port) closing mark n = past_final code (Data.Over Endings.Ours) _ mark n
  past_refused code (Data.Connecting endpoint) closing mark n = past_final code (Data.Over Endings.Ours) _ mark n
  past_refused code (Data.Accepting port) closing mark n = past_final code (Data.Over Endings.Ours) _ mark n

  -- it goes on, however its link stands
  pub record Notes (does : View → View) (mark : Option ℕ) (n : View) : Type 0 where
    pub after : Option ℕ
    pub last : View
    pub stays : (link : ClientLink) (closing : Bool) → does (begun link closing mark n) ≡ begun link closing after last

  -- or its final reply is in, or its answer
  abbrev pub Turns : (View → View) → Option ℕ → View → Type 0
  Turns does mark n = ((link : ClientLink) (closing : Bool) → Past (does (begun link closing mark n))) ⊎ Notes does mark n

  reply_turns : (verdict : Verdict) (code : ℕ) (texts : List Text) (mark : Option ℕ) (n : View) → Turns (judged_reply verdict code texts) mark n
  reply_turns Closing code texts mark n = inl (λ link closing. record { past = refl; late = refl })
  reply_turns Displaced code texts mark n = inl (λ link closing. record { past = refl; late = refl })
  reply_turns Completion code texts mark n = inl (λ link closing. past_final code link closing mark n)
  reply_turns Negative code texts mark n = inl (λ link closing. past_refused code link closing mark n)
  reply_turns Intermediate code texts mark n = inl (λ link closing. record { past = refl; late = refl })
  reply_turns Preliminary code texts mark n = by (code == MARK) refl
    where
      marking : Flow → View → View
      marking flow v = record v { job = Transferring op (record { replied = Replies.Begun; abort = Aborts.Unsent; flow = flow }) }

      read : Option ℕ
      read = mark_value (joined texts)

      by : (marks : Bool) → (code == MARK) ≡ marks → Turns (judged_reply Preliminary code texts) mark n
      by true is = inr (record {
        after = next_mark read mark;
        last = n;
        stays = λ link closing.
            ap (λ b. if b then marking (marked_flow read (flow mark)) (begun link closing mark n) else begun link closing mark n) is
            ∙ ap (λ f. marking f (begun link closing mark n)) (marked_next read left mark);
      })
      by false is = inr (record {
        after = mark;
        last = n;
        stays = λ link closing. ap (λ b. if b then marking (marked_flow read (flow mark)) (begun link closing mark n) else begun link closing mark n) is;
      })

  -- a line
  line_turns : (heard : Heard) (mark : Option ℕ) (n : View) → Turns (line_taken heard) mark n
  unfolding answered
  line_turns (GoesOn gathered) mark n = inr (record { after = mark; last = record n { gathered = gathered }; stays = λ link closing. refl })
  line_turns (Faulty fault) mark n = inl (λ link closing. record { past = refl; late = refl })
  line_turns (Says code texts) mark n =
      elim (reply_turns (verdict_of code) code texts mark (record n { gathered = Between })) [
        | inl past ↦ inl (λ link closing. past link closing)
        | inr g ↦ inr (record { after = g.after; last = g.last; stays = λ link closing. g.stays link closing })
      ]

  event_turns : (event : NvtEvent) (mark : Option ℕ) (n : View) → Turns (event_taken event) mark n
  event_turns (line text) mark n =
      elim (line_turns (line_heard n.gathered text) mark n) [
        | inl past ↦ inl (λ link closing. past link closing)
        | inr g ↦ inr (record { after = g.after; last = g.last; stays = λ link closing. g.stays link closing })
      ]
  event_turns too_long mark n = inl (λ link closing. record { past = refl; late = refl })
  event_turns (owed answer) mark n = inr (record { after = mark; last = record n { owed = n.owed ++ answer }; stays = λ link closing. refl })

  -- an octet
  octet_turns : (octet : ℕ) (mark : Option ℕ) (n : View) → Turns (λ v. hears_octet v octet) mark n
  octet_turns octet mark n =
      elim (out_one reply_limit n.ear octet) [
        | inl f ↦ inr (record { after = mark; last = m; stays = λ link closing. ap (λ es. events_taken es (begun link closing mark m)) f })
        | inr f ↦ one f.0 f.1 (event_turns f.0 mark m)
      ]
    where
      m : View
      m = record n { ear = ear_step reply_limit n.ear octet }

      one : (event : NvtEvent) → ear_out reply_limit n.ear octet ≡ event ∷ [] → Turns (event_taken event) mark m → Turns (λ v. hears_octet v octet) mark n
      one event f (inl past) = inl (λ link closing. subst (λ es. Past (events_taken es (begun link closing mark m))) (sym f) (past link closing))
      one event f (inr g) = inr (record {
        after = g.after;
        last = g.last;
        stays = λ link closing. ap (λ es. events_taken es (begun link closing mark m)) f ∙ g.stays link closing;
      })

  pub hears_turns : (octets : List ℕ) (mark : Option ℕ) (n : View) → Turns (λ v. hears v octets) mark n
  hears_turns [] mark n = inr (record { after = mark; last = n; stays = λ link closing. refl })
  hears_turns (octet ∷ octets) mark n =
      elim (octet_turns octet mark n) [
        | inl past ↦ inl (λ link closing. hears_past octets (hears_octet (begun link closing mark n) octet) (past link closing))
        | inr g ↦ on g (hears_turns octets g.after g.last)
      ]
    where
      on : (g : Notes (λ v. hears_octet v octet) mark n) → Turns (λ v. hears v octets) g.after g.last → Turns (λ v. hears v (octet ∷ octets)) mark n
      on g (inl past) = inl (λ link closing. subst (λ v. Past (hears v octets)) (sym (g.stays link closing)) (past link closing))
      on g (inr h) = inr (record {
        after = h.after;
        last = h.last;
        stays = λ link closing. ap (λ v. hears v octets) (g.stays link closing) ∙ h.stays link closing;
      })
