-- A client of an upload that hears control octets: as long as it then still gives, what it gives then can come before these, and so can the close of its link
-- after the last octet.
use Rattle.std.proofs.Common.{◌≡◌, ◌⊎◌, inl, inr, ℕ, ◌==◌, Bool, true, false, true≢false, List, [], ◌∷◌, ◌++◌, drop, Option, Some, None, refl, sym, ap, subst, ◌∙◌}
use Rattle.std.specs.Prelude.{if◌then◌else◌}
use Rattle.ftp_ports.specs.Machine.{rest_by, rest_left}
use Rattle.ftp_ports.specs.declared.whole.Rest.TheVariants.{More, Nothing}
use Rattle.ftp_ends.specs.Ear.{Ear, ear_out, ear_step}
use Rattle.ftp_ends.proofs.EventLemmas.{out_one}
use Rattle.ftp_ends.specs.Reply.{reply_limit}
use Rattle.ftp_ends.specs.declared.link.Wants.{Wants}
use Rattle.ftp_ends.specs.declared.link.Wants.TheVariants as Want
use Rattle.ftp_nvt.specs.Lines.{NvtEvent, line, owed, too_long}
use Rattle.ftp_operation.specs.Answer.{Done, Refused, Said, Unopened}
use Rattle.ftp_operation.specs.declared.op.Op.{Op}
use Rattle.ftp_reply.specs.Lines.{Text, joined}
use Rattle.ftp_reply.specs.Reader.{Between, Faulty, Gathered, GoesOn, Heard, Says, line_heard}
use Rattle.ftp_reply.specs.Values.{mark_value}
use Rattle.ftp_reply.specs.declared.code.TheConstants.{BROKEN, MARK, NO_CONNECTION}
use Rattle.ftp_client_model.specs.Calls.{event_taken, events_taken, gives_data, hears, hears_octet, line_taken, wants}
use Rattle.ftp_client_model.specs.Dialogue.{answered, carries_on, finishes_read, has_begun, is_refusal_code, judged, judged_reply, marked_flow, with_reply}
use Rattle.ftp_client_model.specs.Octets.{broken_answer, content_answer, has_settled, settled_of}
use Rattle.ftp_client_model.specs.Plan.{count_of}
use Rattle.ftp_client_model.specs.Replies.{Closing, Completion, Displaced, Intermediate, Negative, Preliminary, Verdict, verdict_of}
use Rattle.ftp_client_model.specs.View.{Flow, Sending, Told, Transfer, Transferring, View}
use Rattle.ftp_client_model.specs.declared.client.Abort.TheVariants as Aborts
use Rattle.ftp_client_model.specs.declared.client.ClientLink.TheVariants as Data
use Rattle.ftp_client_model.specs.declared.client.Ending.TheVariants as Endings
use Rattle.ftp_client_model.specs.declared.client.Replied.{Replied}
use Rattle.ftp_client_model.specs.declared.client.Replied.TheVariants as Replies
use Rattle.ftp_client_model.specs.declared.client.Standing.TheVariants as Stands
use Rattle.laws_breaks.proofs.downloads.Late.{IsOver, hears_over, read_over}
use Rattle.laws_breaks.specs.uploads.Late.{UploadsGiveLate, uploading}
use Rattle.laws_breaks.proofs.uploads.Late.{goes_open, marked_next, next_mark, over_sends}

module _ (op : Op (List ℕ)) (all : count_of op ≡ None) where
  abbrev up : ℕ → List ℕ → Replied → Option ℕ → View → View
  up octet more replied mark n = uploading op replied (octet ∷ more) mark n

  abbrev so_far : List ℕ → Replied → Option ℕ → Transfer
  so_far left replied mark = record { replied = replied; abort = Aborts.Unsent; flow = Sending left mark }

  -- with nothing to give, and its link to be closed
  abbrev given : Replied → Option ℕ → View → View
  given replied mark n = record (uploading op replied [] mark n) { connection = Data.Over Endings.Ours; closing = true }

  -- so it goes on
  abbrev shut : Replied → Option ℕ → View → View
  shut replied mark n = carries_on (given replied mark n)

  -- the answer after a final reply
  judges : (code : ℕ) (mark : Option ℕ) → (answer : Said) × (judged Endings.Ours Aborts.Unsent code op (Sending [] mark) ≡ Some answer)
  judges code mark = by (is_refusal_code code) (code == NO_CONNECTION) (code == BROKEN)
    where
      flow : Flow
      flow = Sending [] mark

      cut : Option ℕ → Option Said
      cut count = if has_settled count flow then content_answer op (settled_of flow) else Some (broken_answer flow)

      by : (refusal none broke : Bool) → (answer : Said) ×
          ((if refusal then (if none then Some Unopened else (if broke then cut (count_of op) else Some (Refused code))) else Some Done) ≡ Some answer)
      by false none broke = (Done, refl)
      by true true broke = (Unopened, refl)
      by true false true = (broken_answer flow, ap cut all)
      by true false false = (Refused code, refl)

  abbrev told : Said → View → View
  told answer n = record n { standing = Stands.Entered; job = Told answer; run = None; connection = Data.Free; closing = true }

  final_shut : (code : ℕ) (mark : Option ℕ) (n : View) → shut (Replies.Final code) mark n ≡ told (judges code mark).0 n
  final_shut code mark n = ap (λ j. finishes_read j (given (Replies.Final code) mark n)) (judges code mark).1

  -- what stands aside of it
  shut_gathered : (replied : Replied) (mark : Option ℕ) (n : View) → (shut replied mark n).gathered ≡ n.gathered
  shut_gathered Replies.Nothing mark n = refl
  shut_gathered Replies.Begun mark n = refl
  shut_gathered (Replies.Final code) mark n = ap (λ (v : View). v.gathered) (final_shut code mark n)

  shut_ear : (replied : Replied) (mark : Option ℕ) (n : View) → (shut replied mark n).ear ≡ n.ear
  shut_ear Replies.Nothing mark n = refl
  shut_ear Replies.Begun mark n = refl
  shut_ear (Replies.Final code) mark n = ap (λ (v : View). v.ear) (final_shut code mark n)

  gathers_shut : (gathered : Gathered) (replied : Replied) (mark : Option ℕ) (n : View)
      → record (shut replied mark n) { gathered = gathered } ≡ shut replied mark (record n { gathered = gathered })
  gathers_shut gathered Replies.Nothing mark n = refl
  gathers_shut gathered Replies.Begun mark n = refl
  gathers_shut gathered (Replies.Final code) mark n =
      ap (λ (v : View). record v { gathered = gathered }) (final_shut code mark n) ∙ sym (final_shut code mark (record n { gathered = gathered }))

  listens_shut : (now : Ear) (replied : Replied) (mark : Option ℕ) (n : View)
      → record (shut replied mark n) { ear = now } ≡ shut replied mark (record n { ear = now })
  listens_shut now Replies.Nothing mark n = refl
  listens_shut now Replies.Begun mark n = refl
  listens_shut now (Replies.Final code) mark n =
      ap (λ (v : View). record v { ear = now }) (final_shut code mark n) ∙ sym (final_shut code mark (record n { ear = now }))

  owes_shut : (answer : List ℕ) (replied : Replied) (mark : Option ℕ) (n : View)
      → event_taken (owed answer) (shut replied mark n) ≡ shut replied mark (record n { owed = n.owed ++ answer })
  owes_shut answer Replies.Nothing mark n = refl
  owes_shut answer Replies.Begun mark n = refl
  owes_shut answer (Replies.Final code) mark n =
      ap (event_taken (owed answer)) (final_shut code mark n) ∙ sym (final_shut code mark (record n { owed = n.owed ++ answer }))

  -- ---- what is heard

  -- it goes on, whatever it has to give, and so it does once it gave all
  record Goes (does : View → View) (replied : Replied) (mark : Option ℕ) (n : View) : Type 0 where
    next : Replied
    after : Option ℕ
    last : View
    stays : (octet : ℕ) (more : List ℕ) → does (up octet more replied mark n) ≡ up octet more next after last
    shuts : does (shut replied mark n) ≡ shut next after last

  -- or it has its answer
  abbrev Turns : (View → View) → Replied → Option ℕ → View → Type 0
  Turns does replied mark n = ((octet : ℕ) (more : List ℕ) → IsOver (does (up octet more replied mark n))) ⊎ Goes does replied mark n

  reply_turns : (verdict : Verdict) (code : ℕ) (texts : List Text) (replied : Replied) (mark : Option ℕ) (n : View)
      → Turns (judged_reply verdict code texts) replied mark n
  reply_turns Closing code texts replied mark n = inl (λ octet more. record { told = refl; late = refl })
  reply_turns Displaced code texts replied mark n = inl (λ octet more. record { told = refl; late = refl })
  reply_turns Preliminary code texts Replies.Nothing mark n = by (code == MARK) refl
    where
      by : (marks : Bool) → (code == MARK) ≡ marks → Turns (judged_reply Preliminary code texts) Replies.Nothing mark n
      by true is = inr (record {
        next = Replies.Nothing;
        after = mark;
        last = n;
        stays = λ octet more. ap (λ b. if b then up octet more Replies.Nothing mark n
            else with_reply Replies.Begun op (so_far (octet ∷ more) Replies.Nothing mark) (up octet more Replies.Nothing mark n)) is;
        shuts = ap (λ b. if b then shut Replies.Nothing mark n
            else with_reply Replies.Begun op (so_far [] Replies.Nothing mark) (shut Replies.Nothing mark n)) is;
      })
      by false is = inr (record {
        next = Replies.Begun;
        after = mark;
        last = n;
        stays = λ octet more. ap (λ b. if b then up octet more Replies.Nothing mark n
            else with_reply Replies.Begun op (so_far (octet ∷ more) Replies.Nothing mark) (up octet more Replies.Nothing mark n)) is
            ∙ goes_open op all octet more Replies.Begun mark n;
        shuts = ap (λ b. if b then shut Replies.Nothing mark n
            else with_reply Replies.Begun op (so_far [] Replies.Nothing mark) (shut Replies.Nothing mark n)) is;
      })
  reply_turns Completion code texts Replies.Nothing mark n = inl (λ octet more. record { told = refl; late = refl })
  reply_turns Intermediate code texts Replies.Nothing mark n = inl (λ octet more. record { told = refl; late = refl })
  reply_turns Negative code texts Replies.Nothing mark n =
      inl (λ octet more. read_over op (judged Endings.Ours Aborts.Unsent code op (Sending (octet ∷ more) mark))
      (record (up octet more (Replies.Final code) mark n) { connection = Data.Over Endings.Ours; closing = true }) refl refl
      (so_far (octet ∷ more) (Replies.Final code) mark) refl)
  reply_turns Preliminary code texts Replies.Begun mark n = by (code == MARK) refl
    where
      marking : Flow → View → View
      marking flow v = record v { job = Transferring op (record { replied = Replies.Begun; abort = Aborts.Unsent; flow = flow }) }

      read : Option ℕ
      read = mark_value (joined texts)

      marks_on : (left : List ℕ) (v : View) → (code == MARK) ≡ true
          → (if code == MARK then marking (marked_flow read (Sending left mark)) v else v) ≡ marking (Sending left (next_mark read mark)) v
      marks_on left v is =
          ap (λ b. if b then marking (marked_flow read (Sending left mark)) v else v) is ∙ ap (λ f. marking f v) (marked_next read left mark)

      by : (marks : Bool) → (code == MARK) ≡ marks → Turns (judged_reply Preliminary code texts) Replies.Begun mark n
      by true is = inr (record {
        next = Replies.Begun;
        after = next_mark read mark;
        last = n;
        stays = λ octet more. marks_on (octet ∷ more) (up octet more Replies.Begun mark n) is;
        shuts = marks_on [] (shut Replies.Begun mark n) is;
      })
      by false is = inr (record {
        next = Replies.Begun;
        after = mark;
        last = n;
        stays = λ octet more. ap (λ b. if b then marking (marked_flow read (Sending (octet ∷ more) mark)) (up octet more Replies.Begun mark n)
            else up octet more Replies.Begun mark n) is;
        shuts = ap (λ b. if b then marking (marked_flow read (Sending [] mark)) (shut Replies.Begun mark n) else shut Replies.Begun mark n) is;
      })
  reply_turns Completion code texts Replies.Begun mark n = inr (record {
    next = Replies.Final code;
    after = mark;
    last = n;
    stays = λ octet more. goes_open op all octet more (Replies.Final code) mark n;
    shuts = refl;
  })
  reply_turns Negative code texts Replies.Begun mark n = inr (record {
    next = Replies.Final code;
    after = mark;
    last = n;
    stays = λ octet more. goes_open op all octet more (Replies.Final code) mark n;
    shuts = refl;
  })
  reply_turns Intermediate code texts Replies.Begun mark n = inl (λ octet more. record { told = refl; late = refl })
  reply_turns Preliminary code texts (Replies.Final before) mark n = inl (λ octet more. record { told = refl; late = refl })
  reply_turns Completion code texts (Replies.Final before) mark n = inl (λ octet more. record { told = refl; late = refl })
  reply_turns Intermediate code texts (Replies.Final before) mark n = inl (λ octet more. record { told = refl; late = refl })
  reply_turns Negative code texts (Replies.Final before) mark n = inl (λ octet more. record { told = refl; late = refl })

  -- a line
  line_turns : (heard : Heard) (replied : Replied) (mark : Option ℕ) (n : View) → Turns (line_taken heard) replied mark n
  unfolding answered
  line_turns (GoesOn gathered) replied mark n = inr (record {
    next = replied;
    after = mark;
    last = record n { gathered = gathered };
    stays = λ octet more. refl;
    shuts = gathers_shut gathered replied mark n;
  })
  line_turns (Faulty fault) replied mark n = inl (λ octet more. record { told = refl; late = refl })
  line_turns (Says code texts) replied mark n =
      let m : View = record n { gathered = Between } in
      elim (reply_turns (verdict_of code) code texts replied mark m) [
        | inl stops ↦ inl (λ octet more. stops octet more)
        | inr g ↦ inr (record {
          next = g.next;
          after = g.after;
          last = g.last;
          stays = λ octet more. g.stays octet more;
          shuts = ap (judged_reply (verdict_of code) code texts) (gathers_shut Between replied mark n) ∙ g.shuts;
        })
      ]

  event_turns : (event : NvtEvent) (replied : Replied) (mark : Option ℕ) (n : View) → Turns (event_taken event) replied mark n
  event_turns (line text) replied mark n =
      elim (line_turns (line_heard n.gathered text) replied mark n) [
        | inl stops ↦ inl (λ octet more. stops octet more)
        | inr g ↦ inr (record {
          next = g.next;
          after = g.after;
          last = g.last;
          stays = λ octet more. g.stays octet more;
          shuts = ap (λ before. line_taken (line_heard before text) (shut replied mark n)) (shut_gathered replied mark n) ∙ g.shuts;
        })
      ]
  event_turns too_long replied mark n = inl (λ octet more. record { told = refl; late = refl })
  event_turns (owed answer) replied mark n = inr (record {
    next = replied;
    after = mark;
    last = record n { owed = n.owed ++ answer };
    stays = λ octet more. refl;
    shuts = owes_shut answer replied mark n;
  })

  -- an octet
  octet_turns : (came : ℕ) (replied : Replied) (mark : Option ℕ) (n : View) → Turns (λ v. hears_octet v came) replied mark n
  octet_turns came replied mark n =
      elim (out_one reply_limit n.ear came) [
        | inl f ↦ inr (record {
          next = replied;
          after = mark;
          last = m;
          stays = λ octet more. ap (λ es. events_taken es (up octet more replied mark m)) f;
          shuts = ear_shut ∙ ap (λ es. events_taken es (shut replied mark m)) f;
        })
        | inr f ↦ one f.0 f.1 (event_turns f.0 replied mark m)
      ]
    where
      m : View
      m = record n { ear = ear_step reply_limit n.ear came }

      ear_shut : hears_octet (shut replied mark n) came ≡ events_taken (ear_out reply_limit n.ear came) (shut replied mark m)
      ear_shut =
          ap (λ e. events_taken (ear_out reply_limit e came) (record (shut replied mark n) { ear = ear_step reply_limit e came })) (shut_ear replied mark n)
          ∙ ap (events_taken (ear_out reply_limit n.ear came)) (listens_shut (ear_step reply_limit n.ear came) replied mark n)

      one : (event : NvtEvent) → ear_out reply_limit n.ear came ≡ event ∷ [] → Turns (event_taken event) replied mark m
          → Turns (λ v. hears_octet v came) replied mark n
      one event f (inl stops) = inl (λ octet more. subst (λ es. IsOver (events_taken es (up octet more replied mark m))) (sym f) (stops octet more))
      one event f (inr g) = inr (record {
        next = g.next;
        after = g.after;
        last = g.last;
        stays = λ octet more. ap (λ es. events_taken es (up octet more replied mark m)) f ∙ g.stays octet more;
        shuts = ear_shut ∙ ap (λ es. events_taken es (shut replied mark m)) f ∙ g.shuts;
      })

  hears_turns : (octets : List ℕ) (replied : Replied) (mark : Option ℕ) (n : View) → Turns (λ v. hears v octets) replied mark n
  hears_turns [] replied mark n = inr (record { next = replied; after = mark; last = n; stays = λ octet more. refl; shuts = refl })
  hears_turns (came ∷ octets) replied mark n =
      elim (octet_turns came replied mark n) [
        | inl stops ↦ inl (λ octet more. hears_over octets (hears_octet (up octet more replied mark n) came) (stops octet more))
        | inr g ↦ on g (hears_turns octets g.next g.after g.last)
      ]
    where
      on : (g : Goes (λ v. hears_octet v came) replied mark n) → Turns (λ v. hears v octets) g.next g.after g.last
          → Turns (λ v. hears v (came ∷ octets)) replied mark n
      on g (inl stops) = inl (λ octet more. subst (λ v. IsOver (hears v octets)) (sym (g.stays octet more)) (stops octet more))
      on g (inr h) = inr (record {
        next = h.next;
        after = h.after;
        last = h.last;
        stays = λ octet more. ap (λ v. hears v octets) (g.stays octet more) ∙ h.stays octet more;
        shuts = ap (λ v. hears v octets) g.shuts ∙ h.shuts;
      })

  -- ---- what is given

  -- so many are left
  abbrev leaving : List ℕ → Replied → Option ℕ → View → View
  leaving left replied mark n = carries_on (uploading op replied left mark n)

  gives_some : (count octet : ℕ) (more : List ℕ) (replied : Replied) (mark : Option ℕ) (n : View)
      → gives_data count (up octet more replied mark n) ≡ leaving (drop count (octet ∷ more)) replied mark n
  unfolding gives_data
  gives_some count octet more replied mark n = refl

  -- it gives octets whose replies have begun
  before_none : (octet : ℕ) (more : List ℕ) (mark : Option ℕ) (n : View) → wants (up octet more Replies.Nothing mark n) ≡ Want.Send → ⊥
  unfolding wants
  before_none octet more mark n e = true≢false (sym (ap is_send e))
    where
      is_send : Wants → Bool
      is_send Want.Send = true
      is_send other = false

  -- all of them
  gives_all : (replied : Replied) (mark : Option ℕ) (n : View) (octet : ℕ) (more : List ℕ) → wants (up octet more replied mark n) ≡ Want.Send
      → leaving [] replied mark n ≡ shut replied mark n
  gives_all Replies.Nothing mark n octet more e = absurd (before_none octet more mark n e)
  gives_all Replies.Begun mark n octet more e = refl
  gives_all (Replies.Final code) mark n octet more e = refl

  -- both orders
  leaves_late : (left heard : List ℕ) (mark : Option ℕ) (n : View) (g : Goes (λ v. hears v heard) Replies.Begun mark n) (octet : ℕ) (more : List ℕ)
      → wants (up octet more g.next g.after g.last) ≡ Want.Send
      → leaving left g.next g.after g.last ≡ hears (leaving left Replies.Begun mark n) heard
  leaves_late [] heard mark n g octet more e = gives_all g.next g.after g.last octet more e ∙ sym g.shuts
  leaves_late (first ∷ left) heard mark n g octet more e =
      goes_open op all first left g.next g.after g.last ∙ sym (g.stays first left)
      ∙ ap (λ v. hears v heard) (sym (goes_open op all first left Replies.Begun mark n))

  -- what it has to give then
  module _ (count octet : ℕ) (more : List ℕ) (mark : Option ℕ) (n : View) where
    is_more : (first : ℕ) (left : List ℕ) (replied : Replied) → has_begun replied ≡ true → rest_by (wants (up first left replied mark n)) ≡ More
    unfolding wants
    is_more first left Replies.Nothing begun = absurd (true≢false (sym begun))
    is_more first left Replies.Begun begun = refl
    is_more first left (Replies.Final code) begun = refl

    is_none : (replied : Replied) → has_begun replied ≡ true → rest_by (wants (leaving [] replied mark n)) ≡ Nothing
    unfolding wants
    is_none Replies.Nothing begun = absurd (true≢false (sym begun))
    is_none Replies.Begun begun = refl
    is_none (Replies.Final code) begun = ap (λ v. rest_by (wants v)) (final_shut code mark n)

    -- it is seen by what is left
    pub gives_rest : (replied : Replied) → has_begun replied ≡ true
        → rest_by (wants (gives_data count (up octet more replied mark n))) ≡ rest_left (drop count (octet ∷ more))
    gives_rest replied begun =
        ap (λ v. rest_by (wants v)) (gives_some count octet more replied mark n) ∙ by (drop count (octet ∷ more))
      where
        by : (left : List ℕ) → rest_by (wants (leaving left replied mark n)) ≡ rest_left left
        by [] = is_none replied begun
        by (first ∷ left) = ap (λ v. rest_by (wants v)) (goes_open op all first left replied mark n) ∙ is_more first left replied begun

    -- whatever is so of one that gave all, or has octets to give
    pub gives_is : (P : View → Type 0) → P (shut Replies.Begun mark n) → ((first : ℕ) (left : List ℕ) → P (up first left Replies.Begun mark n))
        → P (gives_data count (up octet more Replies.Begun mark n))
    gives_is P all_given some = subst P (sym (gives_some count octet more Replies.Begun mark n)) (by (drop count (octet ∷ more)))
      where
        by : (left : List ℕ) → P (leaving left Replies.Begun mark n)
        by [] = all_given
        by (first ∷ left) = subst P (sym (goes_open op all first left Replies.Begun mark n)) (some first left)

pub uploads_give_late : UploadsGiveLate
uploads_give_late op all octet more mark n heard count sends =
    elim (hears_turns op all heard Replies.Begun mark n) [
      | inl stops ↦ absurd (over_sends (hears (uploading op Replies.Begun (octet ∷ more) mark n) heard) (stops octet more) sends)
      | inr g ↦
          ap (gives_data count) (g.stays octet more) ∙ gives_some op all count octet more g.next g.after g.last
          ∙ leaves_late op all (drop count (octet ∷ more)) heard mark n g octet more (ap wants (sym (g.stays octet more)) ∙ sends)
          ∙ ap (λ v. hears v heard) (sym (gives_some op all count octet more Replies.Begun mark n))
    ]
