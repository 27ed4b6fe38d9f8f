-- A client of a download that hears control octets: as long as it then still takes octets, these and the break of its link can come before or after.
use Rattle.std.proofs.Common.{◌≡◌, ◌⊎◌, inl, inr, ℕ, ◌==◌, ◌&&◌, Bool, true, false, true≢false, List, [], ◌∷◌, ◌++◌, Option, Some, None, refl, sym, ap, subst, ◌∙◌}
use Rattle.std.specs.Prelude.{if◌then◌else◌}
use Rattle.ftp_ends.specs.Ear.{Ear, ear_out, ear_step}
use Rattle.ftp_ends.proofs.EventLemmas.{out_one}
use Rattle.ftp_ends.specs.Reply.{reply_limit}
use Rattle.ftp_ends.specs.declared.link.Wants.{Wants}
use Rattle.ftp_ends.specs.declared.link.Wants.TheVariants as Want
use Rattle.ftp_nvt.specs.Lines.{NvtEvent, line, owed, too_long}
use Rattle.ftp_operation.specs.Answer.{Refused, Said, Unopened}
use Rattle.ftp_operation.specs.declared.op.Op.{Op}
use Rattle.ftp_reply.specs.Lines.{Text, joined}
use Rattle.ftp_reply.specs.Reader.{Between, Faulty, Gathered, GoesOn, Heard, Says, line_heard}
use Rattle.ftp_reply.specs.Values.{mark_value}
use Rattle.ftp_reply.specs.declared.code.TheConstants.{BROKEN, MARK, NO_CONNECTION}
use Rattle.ftp_wire.specs.Decoder.{Decoder, decoded_octet, octet_says}
use Rattle.ftp_client_model.specs.Calls as near
use Rattle.ftp_client_model.specs.Calls.{data_fault, event_taken, events_taken, hears, hears_octet, is_sound, line_taken, link_wants, receives, wants}
use Rattle.ftp_client_model.specs.Dialogue.{answered, answers_once_over, carries_on, finishes_read, is_refusal_code, judged, judged_reply, marked_flow, sends_abort, with_reply}
use Rattle.ftp_client_model.specs.Octets.{broken_answer, content_answer, has_settled, last_mark, settled_of}
use Rattle.ftp_client_model.specs.Plan.{count_of}
use Rattle.ftp_client_model.specs.Replies.{Closing, Completion, Displaced, Intermediate, Negative, Preliminary, Verdict, verdict_of}
use Rattle.ftp_client_model.specs.View.{Doing, Flow, Idle, Job, Receiving, Told, Transfer, Transferring, View, Waiting, fails}
use Rattle.ftp_client_model.specs.declared.client.Abort.TheVariants as Aborts
use Rattle.ftp_client_model.specs.declared.client.ClientLink.{ClientLink}
use Rattle.ftp_client_model.specs.declared.client.ClientLink.TheVariants as Data
use Rattle.ftp_client_model.specs.declared.client.Ending.TheVariants as Endings
use Rattle.ftp_client_model.specs.declared.client.Failure.{Failure}
use Rattle.ftp_client_model.specs.declared.client.Failure.TheVariants as Failures
use Rattle.ftp_client_model.specs.declared.client.Replied.{Replied}
use Rattle.ftp_client_model.specs.declared.client.Replied.TheVariants as Replies
use Rattle.ftp_client_model.specs.declared.client.Standing.{Standing}
use Rattle.ftp_client_model.specs.declared.client.Standing.TheVariants as Stands
use Rattle.laws_breaks.specs.downloads.Late.{BreaksLate, HearsLate, downloading}

-- ---- a client that has its answer

abbrev pub is_told : Job → Bool
is_told (Told answer) = true
is_told job = false

-- it is logged in, or has failed
abbrev pub is_late : Standing → Bool
is_late Stands.Entered = true
is_late (Stands.Failed failure) = true
is_late standing = false

pub record IsOver (v : View) : Type 0 where
  pub told : is_told v.job ≡ true
  pub late : is_late v.standing ≡ true

-- so it stays
fails_over : (failure : Failure) (v : View) → IsOver v → IsOver (fails failure v)
fails_over failure v o = by v.standing v.job o.late o.told
  where
    by : (standing : Standing) (job : Job) → is_late standing ≡ true → is_told job ≡ true
        → IsOver (fails failure (record v { standing = standing; job = job }))
    by Stands.Entered (Told answer) late told = record { told = refl; late = refl }
    by (Stands.Failed before) (Told answer) late told = record { told = refl; late = refl }
    by Stands.Greeting job late told = absurd (true≢false (sym late))
    by Stands.User job late told = absurd (true≢false (sym late))
    by Stands.Pass job late told = absurd (true≢false (sym late))
    by standing Idle late told = absurd (true≢false (sym told))
    by standing (Waiting op) late told = absurd (true≢false (sym told))
    by standing (Doing op step) late told = absurd (true≢false (sym told))
    by standing (Transferring op transfer) late told = absurd (true≢false (sym told))

judged_over : (verdict : Verdict) (code : ℕ) (texts : List Text) (v : View) → IsOver v → IsOver (judged_reply verdict code texts v)
judged_over verdict code texts v o = by verdict v.standing v.job o.late o.told
  where
    at : Standing → Job → View
    at standing job = record v { standing = standing; job = job }

    by : (verdict : Verdict) (standing : Standing) (job : Job) → is_late standing ≡ true → is_told job ≡ true
        → IsOver (judged_reply verdict code texts (at standing job))
    by Closing standing job late told = fails_over Failures.Lost (at standing job) (record { told = told; late = late })
    by Displaced standing job late told = fails_over Failures.Strange (at standing job) (record { told = told; late = late })
    by Preliminary Stands.Entered (Told answer) late told = record { told = refl; late = refl }
    by Completion Stands.Entered (Told answer) late told = record { told = refl; late = refl }
    by Intermediate Stands.Entered (Told answer) late told = record { told = refl; late = refl }
    by Negative Stands.Entered (Told answer) late told = record { told = refl; late = refl }
    by Preliminary (Stands.Failed before) job late told = record { told = told; late = late }
    by Completion (Stands.Failed before) job late told = record { told = told; late = late }
    by Intermediate (Stands.Failed before) job late told = record { told = told; late = late }
    by Negative (Stands.Failed before) job late told = record { told = told; late = late }
    by verdict Stands.Greeting job late told = absurd (true≢false (sym late))
    by verdict Stands.User job late told = absurd (true≢false (sym late))
    by verdict Stands.Pass job late told = absurd (true≢false (sym late))
    by verdict Stands.Entered Idle late told = absurd (true≢false (sym told))
    by verdict Stands.Entered (Waiting op) late told = absurd (true≢false (sym told))
    by verdict Stands.Entered (Doing op step) late told = absurd (true≢false (sym told))
    by verdict Stands.Entered (Transferring op transfer) late told = absurd (true≢false (sym told))

line_over : (heard : Heard) (v : View) → IsOver v → IsOver (line_taken heard v)
unfolding answered
line_over (GoesOn gathered) v o = record { told = o.told; late = o.late }
line_over (Says code texts) v o = judged_over (verdict_of code) code texts (record v { gathered = Between }) (record { told = o.told; late = o.late })
line_over (Faulty fault) v o = fails_over Failures.Strange v o

event_over : (event : NvtEvent) (v : View) → IsOver v → IsOver (event_taken event v)
event_over (line text) v o = line_over (line_heard v.gathered text) v o
event_over too_long v o = fails_over Failures.Strange v o
event_over (owed answer) v o = record { told = o.told; late = o.late }

events_over : (events : List NvtEvent) (v : View) → IsOver v → IsOver (events_taken events v)
events_over [] v o = o
events_over (event ∷ events) v o = events_over events (event_taken event v) (event_over event v o)

pub hears_over : (octets : List ℕ) (v : View) → IsOver v → IsOver (hears v octets)
hears_over [] v o = o
hears_over (octet ∷ octets) v o =
    hears_over octets (hears_octet v octet)
    (events_over (ear_out reply_limit v.ear octet) (record v { ear = ear_step reply_limit v.ear octet }) (record { told = o.told; late = o.late }))

-- it takes no octets, and gives none
abbrev pub is_moving : Wants → Bool
is_moving Want.Receive = true
is_moving Want.Send = true
is_moving other = false

pub over_moves : (v : View) → IsOver v → is_moving (wants v) ≡ true → ⊥
unfolding wants
over_moves v o e = by v.closing (is_sound v.standing) v.connection v.job o.told e
  where
    by : (closing sound : Bool) (connection : ClientLink) (job : Job) → is_told job ≡ true
        → is_moving (if closing then Want.CloseData
        else (if sound then link_wants connection (record v { closing = closing; connection = connection; job = job }) else Want.CloseAll)) ≡ true → ⊥
    by true sound connection job told e = true≢false (sym e)
    by false false connection job told e = true≢false (sym e)
    by false true Data.Free job told e = true≢false (sym e)
    by false true Data.ListenWanted job told e = true≢false (sym e)
    by false true (Data.Listening port) job told e = true≢false (sym e)
    by false true (Data.Connecting endpoint) job told e = true≢false (sym e)
    by false true (Data.Accepting port) job told e = true≢false (sym e)
    by false true (Data.Over ending) job told e = true≢false (sym e)
    by false true Data.Open (Told answer) told e = true≢false (sym e)
    by false true Data.Open Idle told e = true≢false (sym told)
    by false true Data.Open (Waiting op) told e = true≢false (sym told)
    by false true Data.Open (Doing op step) told e = true≢false (sym told)
    by false true Data.Open (Transferring op transfer) told e = true≢false (sym told)

over_takes : (v : View) → IsOver v → wants v ≡ Want.Receive → ⊥
over_takes v o e = over_moves v o (ap is_moving e)

-- ---- under a download

-- as many octets as were asked for, where a number was, are not settled
abbrev pub IsFew : Op (List ℕ) → Decoder → Type 0
IsFew op d = (mark : Option ℕ) → has_settled (count_of op) (Receiving d mark) ≡ false

-- so it is of each operation that asks for all
pub all_few : (op : Op (List ℕ)) → count_of op ≡ None → (d : Decoder) → IsFew op d
all_few op all d mark = ap (λ c. has_settled c (Receiving d mark)) all

-- one that has its answer, whatever was read
pub read_over : (op : Op (List ℕ)) (read : Option Said) (v : View) → v.standing ≡ Stands.Entered → v.run ≡ None → (transfer : Transfer)
    → v.job ≡ Transferring op transfer → IsOver (finishes_read read v)
read_over op read v standing run transfer job =
    subst (λ w. IsOver (finishes_read read w)) (λ i. record v { standing = sym standing i; run = sym run i; job = sym job i }) (by read)
  where
    at : View
    at = record v { standing = Stands.Entered; run = None; job = Transferring op transfer }

    by : (read : Option Said) → IsOver (finishes_read read at)
    by None = record { told = refl; late = refl }
    by (Some answer) = record { told = refl; late = refl }

module _ (op : Op (List ℕ)) where
  abbrev pub down : Replied → Decoder → Option ℕ → View → View
  down replied d mark n = downloading op replied d mark n

  -- once it was told of the break
  abbrev pub lost : Replied → Decoder → Option ℕ → View → View
  lost replied d mark n = carries_on (record (down replied d mark n) { connection = Data.Over Endings.Broken })

  abbrev so_far : Replied → Decoder → Option ℕ → Transfer
  so_far replied d mark = record { replied = replied; abort = Aborts.Unsent; flow = Receiving d mark }

  -- no ABOR is due
  abbrev aborting : Bool → Replied → Decoder → Option ℕ → View → View
  aborting enough replied d mark n =
      if true && true && enough then sends_abort op (so_far replied d mark) (down replied d mark n) else down replied d mark n

  pub goes_open : (replied : Replied) (d : Decoder) → IsFew op d → (mark : Option ℕ) (n : View) → carries_on (down replied d mark n) ≡ down replied d mark n
  goes_open Replies.Nothing d few mark n = refl
  goes_open Replies.Begun d few mark n = ap (λ k. answers_once_over (aborting k Replies.Begun d mark n)) (few mark)
  goes_open (Replies.Final code) d few mark n = ap (λ k. answers_once_over (aborting k (Replies.Final code) d mark n)) (few mark)

  -- octets that come
  abbrev decoder_after : Decoder → List ℕ → Decoder
  decoder_after d [] = d
  decoder_after d (octet ∷ octets) = decoder_after (decoded_octet d octet) octets

  abbrev mark_after : Decoder → Option ℕ → List ℕ → Option ℕ
  mark_after d mark [] = mark
  mark_after d mark (octet ∷ octets) = mark_after (decoded_octet d octet) (last_mark mark (octet_says d octet)) octets

  -- ---- a break after the final reply is its answer

  pub judges : (code : ℕ) (flow : Flow) → has_settled (count_of op) flow ≡ false
      → (answer : Said) × (judged Endings.Broken Aborts.Unsent code op flow ≡ Some answer)
  judges code flow few = by (is_refusal_code code) (code == NO_CONNECTION) (code == BROKEN)
    where
      cut : Bool → Option Said
      cut enough = if enough then content_answer op (settled_of flow) else Some (broken_answer flow)

      by : (refusal none broke : Bool) → (answer : Said) ×
          ((if refusal then (if none then Some Unopened else (if broke then cut (has_settled (count_of op) flow) else Some (Refused code)))
          else cut (has_settled (count_of op) flow)) ≡ Some answer)
      by false none broke = (broken_answer flow, ap cut few)
      by true true broke = (Unopened, refl)
      by true false true = (broken_answer flow, ap cut few)
      by true false false = (Refused code, refl)

  abbrev pub over : Said → View → View
  over answer n = record n { standing = Stands.Entered; job = Told answer; run = None; connection = Data.Free; closing = false }

  pub final_lost : (code : ℕ) (d : Decoder) (few : IsFew op d) (mark : Option ℕ) (n : View)
      → lost (Replies.Final code) d mark n ≡ over (judges code (Receiving d mark) (few mark)).0 n
  final_lost code d few mark n =
      ap (λ j. finishes_read j (record (down (Replies.Final code) d mark n) { connection = Data.Over Endings.Broken }))
      (judges code (Receiving d mark) (few mark)).1

  -- what stands aside of it
  lost_gathered : (replied : Replied) (d : Decoder) → IsFew op d → (mark : Option ℕ) (n : View) → (lost replied d mark n).gathered ≡ n.gathered
  lost_gathered Replies.Nothing d few mark n = refl
  lost_gathered Replies.Begun d few mark n = refl
  lost_gathered (Replies.Final code) d few mark n = ap (λ (v : View). v.gathered) (final_lost code d few mark n)

  lost_ear : (replied : Replied) (d : Decoder) → IsFew op d → (mark : Option ℕ) (n : View) → (lost replied d mark n).ear ≡ n.ear
  lost_ear Replies.Nothing d few mark n = refl
  lost_ear Replies.Begun d few mark n = refl
  lost_ear (Replies.Final code) d few mark n = ap (λ (v : View). v.ear) (final_lost code d few mark n)

  gathers_lost : (gathered : Gathered) (replied : Replied) (d : Decoder) → IsFew op d → (mark : Option ℕ) (n : View)
      → record (lost replied d mark n) { gathered = gathered } ≡ lost replied d mark (record n { gathered = gathered })
  gathers_lost gathered Replies.Nothing d few mark n = refl
  gathers_lost gathered Replies.Begun d few mark n = refl
  gathers_lost gathered (Replies.Final code) d few mark n =
      ap (λ (v : View). record v { gathered = gathered }) (final_lost code d few mark n) ∙ sym (final_lost code d few mark (record n { gathered = gathered }))

  listens_lost : (now : Ear) (replied : Replied) (d : Decoder) → IsFew op d → (mark : Option ℕ) (n : View)
      → record (lost replied d mark n) { ear = now } ≡ lost replied d mark (record n { ear = now })
  listens_lost now Replies.Nothing d few mark n = refl
  listens_lost now Replies.Begun d few mark n = refl
  listens_lost now (Replies.Final code) d few mark n =
      ap (λ (v : View). record v { ear = now }) (final_lost code d few mark n) ∙ sym (final_lost code d few mark (record n { ear = now }))

  owes_lost : (answer : List ℕ) (replied : Replied) (d : Decoder) → IsFew op d → (mark : Option ℕ) (n : View)
      → event_taken (owed answer) (lost replied d mark n) ≡ lost replied d mark (record n { owed = n.owed ++ answer })
  owes_lost answer Replies.Nothing d few mark n = refl
  owes_lost answer Replies.Begun d few mark n = refl
  owes_lost answer (Replies.Final code) d few mark n =
      ap (event_taken (owed answer)) (final_lost code d few mark n) ∙ sym (final_lost code d few mark (record n { owed = n.owed ++ answer }))

  -- ---- what is heard

  -- by what came it goes on alike, and so it does once it was told of the break
  pub record Goes (does : View → View) (replied : Replied) (n : View) : Type 0 where
    pub next : Replied
    pub last : View
    pub stays : (d : Decoder) → IsFew op d → (mark : Option ℕ) → does (down replied d mark n) ≡ down next d mark last
    pub breaks : (d : Decoder) → IsFew op d → (mark : Option ℕ) → does (lost replied d mark n) ≡ lost next d mark last

  -- or it has its answer
  abbrev pub Turns : (View → View) → Replied → View → Type 0
  Turns does replied n = ((d : Decoder) → IsFew op d → (mark : Option ℕ) → IsOver (does (down replied d mark n))) ⊎ Goes does replied n

  -- a 110 is of no matter to a download
  marked_none : (read : Option ℕ) (d : Decoder) (mark : Option ℕ) → marked_flow read (Receiving d mark) ≡ Receiving d mark
  marked_none None d mark = refl
  marked_none (Some count) d mark = refl

  reply_turns : (verdict : Verdict) (code : ℕ) (texts : List Text) (replied : Replied) (n : View) → Turns (judged_reply verdict code texts) replied n
  reply_turns Closing code texts replied n = inl (λ d few mark. record { told = refl; late = refl })
  reply_turns Displaced code texts replied n = inl (λ d few mark. record { told = refl; late = refl })
  reply_turns Preliminary code texts Replies.Nothing n = by (code == MARK) refl
    where
      by : (marks : Bool) → (code == MARK) ≡ marks → Turns (judged_reply Preliminary code texts) Replies.Nothing n
      by true is = inr (record {
        next = Replies.Nothing;
        last = n;
        stays = λ d few mark. ap (λ b. if b then down Replies.Nothing d mark n
            else with_reply Replies.Begun op (so_far Replies.Nothing d mark) (down Replies.Nothing d mark n)) is;
        breaks = λ d few mark. ap (λ b. if b then lost Replies.Nothing d mark n
            else with_reply Replies.Begun op (so_far Replies.Nothing d mark) (lost Replies.Nothing d mark n)) is;
      })
      by false is = inr (record {
        next = Replies.Begun;
        last = n;
        stays = λ d few mark. ap (λ b. if b then down Replies.Nothing d mark n
            else with_reply Replies.Begun op (so_far Replies.Nothing d mark) (down Replies.Nothing d mark n)) is ∙ goes_open Replies.Begun d few mark n;
        breaks = λ d few mark. ap (λ b. if b then lost Replies.Nothing d mark n
            else with_reply Replies.Begun op (so_far Replies.Nothing d mark) (lost Replies.Nothing d mark n)) is;
      })
  reply_turns Completion code texts Replies.Nothing n = inl (λ d few mark. record { told = refl; late = refl })
  reply_turns Intermediate code texts Replies.Nothing n = inl (λ d few mark. record { told = refl; late = refl })
  reply_turns Negative code texts Replies.Nothing n =
      inl (λ d few mark. read_over op (judged Endings.Ours Aborts.Unsent code op (Receiving d mark))
      (record (down (Replies.Final code) d mark n) { connection = Data.Over Endings.Ours; closing = true }) refl refl (so_far (Replies.Final code) d mark) refl)
  reply_turns Preliminary code texts Replies.Begun n = by (code == MARK) refl
    where
      marking : Flow → View → View
      marking flow v = record v { job = Transferring op (record { replied = Replies.Begun; abort = Aborts.Unsent; flow = flow }) }

      flows : Decoder → Option ℕ → Flow
      flows d mark = marked_flow (mark_value (joined texts)) (Receiving d mark)

      by : (marks : Bool) → (code == MARK) ≡ marks → Turns (judged_reply Preliminary code texts) Replies.Begun n
      by true is = inr (record {
        next = Replies.Begun;
        last = n;
        stays = λ d few mark. ap (λ b. if b then marking (flows d mark) (down Replies.Begun d mark n) else down Replies.Begun d mark n) is
            ∙ ap (λ f. marking f (down Replies.Begun d mark n)) (marked_none (mark_value (joined texts)) d mark);
        breaks = λ d few mark. ap (λ b. if b then marking (flows d mark) (lost Replies.Begun d mark n) else lost Replies.Begun d mark n) is
            ∙ ap (λ f. marking f (lost Replies.Begun d mark n)) (marked_none (mark_value (joined texts)) d mark);
      })
      by false is = inr (record {
        next = Replies.Begun;
        last = n;
        stays = λ d few mark. ap (λ b. if b then marking (flows d mark) (down Replies.Begun d mark n) else down Replies.Begun d mark n) is;
        breaks = λ d few mark. ap (λ b. if b then marking (flows d mark) (lost Replies.Begun d mark n) else lost Replies.Begun d mark n) is;
      })
  reply_turns Completion code texts Replies.Begun n =
      inr (record { next = Replies.Final code; last = n; stays = λ d few mark. goes_open (Replies.Final code) d few mark n; breaks = λ d few mark. refl })
  reply_turns Negative code texts Replies.Begun n =
      inr (record { next = Replies.Final code; last = n; stays = λ d few mark. goes_open (Replies.Final code) d few mark n; breaks = λ d few mark. refl })
  reply_turns Intermediate code texts Replies.Begun n = inl (λ d few mark. record { told = refl; late = refl })
  reply_turns Preliminary code texts (Replies.Final before) n = inl (λ d few mark. record { told = refl; late = refl })
  reply_turns Completion code texts (Replies.Final before) n = inl (λ d few mark. record { told = refl; late = refl })
  reply_turns Intermediate code texts (Replies.Final before) n = inl (λ d few mark. record { told = refl; late = refl })
  reply_turns Negative code texts (Replies.Final before) n = inl (λ d few mark. record { told = refl; late = refl })

  -- a line
  line_turns : (heard : Heard) (replied : Replied) (n : View) → Turns (line_taken heard) replied n
  unfolding answered
  line_turns (GoesOn gathered) replied n = inr (record {
    next = replied;
    last = record n { gathered = gathered };
    stays = λ d few mark. refl;
    breaks = λ d few mark. gathers_lost gathered replied d few mark n;
  })
  line_turns (Faulty fault) replied n = inl (λ d few mark. record { told = refl; late = refl })
  line_turns (Says code texts) replied n =
      let m : View = record n { gathered = Between } in
      elim (reply_turns (verdict_of code) code texts replied m) [
        | inl stops ↦ inl stops
        | inr g ↦ inr (record {
          next = g.next;
          last = g.last;
          stays = g.stays;
          breaks = λ d few mark. ap (judged_reply (verdict_of code) code texts) (gathers_lost Between replied d few mark n) ∙ g.breaks d few mark;
        })
      ]

  event_turns : (event : NvtEvent) (replied : Replied) (n : View) → Turns (event_taken event) replied n
  event_turns (line text) replied n =
      elim (line_turns (line_heard n.gathered text) replied n) [
        | inl stops ↦ inl stops
        | inr g ↦ inr (record {
          next = g.next;
          last = g.last;
          stays = g.stays;
          breaks = λ d few mark. ap (λ before. line_taken (line_heard before text) (lost replied d mark n)) (lost_gathered replied d few mark n)
              ∙ g.breaks d few mark;
        })
      ]
  event_turns too_long replied n = inl (λ d few mark. record { told = refl; late = refl })
  event_turns (owed answer) replied n = inr (record {
    next = replied;
    last = record n { owed = n.owed ++ answer };
    stays = λ d few mark. refl;
    breaks = λ d few mark. owes_lost answer replied d few mark n;
  })

  -- an octet
  octet_turns : (octet : ℕ) (replied : Replied) (n : View) → Turns (λ v. hears_octet v octet) replied n
  octet_turns octet replied n =
      elim (out_one reply_limit n.ear octet) [
        | inl f ↦ inr (record {
          next = replied;
          last = m;
          stays = λ d few mark. ap (λ es. events_taken es (down replied d mark m)) f;
          breaks = λ d few mark. ear_lost d few mark ∙ ap (λ es. events_taken es (lost replied d mark m)) f;
        })
        | inr f ↦ one f.0 f.1 (event_turns f.0 replied m)
      ]
    where
      m : View
      m = record n { ear = ear_step reply_limit n.ear octet }

      ear_lost : (d : Decoder) → IsFew op d → (mark : Option ℕ)
          → hears_octet (lost replied d mark n) octet ≡ events_taken (ear_out reply_limit n.ear octet) (lost replied d mark m)
      ear_lost d few mark =
          ap (λ e. events_taken (ear_out reply_limit e octet) (record (lost replied d mark n) { ear = ear_step reply_limit e octet }))
          (lost_ear replied d few mark n)
          ∙ ap (events_taken (ear_out reply_limit n.ear octet)) (listens_lost (ear_step reply_limit n.ear octet) replied d few mark n)

      one : (event : NvtEvent) → ear_out reply_limit n.ear octet ≡ event ∷ [] → Turns (event_taken event) replied m → Turns (λ v. hears_octet v octet) replied n
      one event f (inl stops) = inl (λ d few mark. subst (λ es. IsOver (events_taken es (down replied d mark m))) (sym f) (stops d few mark))
      one event f (inr g) = inr (record {
        next = g.next;
        last = g.last;
        stays = λ d few mark. ap (λ es. events_taken es (down replied d mark m)) f ∙ g.stays d few mark;
        breaks = λ d few mark. ear_lost d few mark ∙ ap (λ es. events_taken es (lost replied d mark m)) f ∙ g.breaks d few mark;
      })

  pub hears_turns : (octets : List ℕ) (replied : Replied) (n : View) → Turns (λ v. hears v octets) replied n
  hears_turns [] replied n = inr (record { next = replied; last = n; stays = λ d few mark. refl; breaks = λ d few mark. refl })
  hears_turns (octet ∷ octets) replied n =
      elim (octet_turns octet replied n) [
        | inl stops ↦ inl (λ d few mark. hears_over octets (hears_octet (down replied d mark n) octet) (stops d few mark))
        | inr g ↦ on g (hears_turns octets g.next g.last)
      ]
    where
      on : (g : Goes (λ v. hears_octet v octet) replied n) → Turns (λ v. hears v octets) g.next g.last
          → Turns (λ v. hears v (octet ∷ octets)) replied n
      on g (inl stops) = inl (λ d few mark. subst (λ v. IsOver (hears v octets)) (sym (g.stays d few mark)) (stops d few mark))
      on g (inr h) = inr (record {
        next = h.next;
        last = h.last;
        stays = λ d few mark. ap (λ v. hears v octets) (g.stays d few mark) ∙ h.stays d few mark;
        breaks = λ d few mark. ap (λ v. hears v octets) (g.breaks d few mark) ∙ h.breaks d few mark;
      })

-- one that asks for all
module _ (op : Op (List ℕ)) (all : count_of op ≡ None) where
  -- takes octets
  takes_one : (replied : Replied) (d : Decoder) (mark : Option ℕ) (n : View) (octet : ℕ)
      → near.receives_octet (down op replied d mark n) octet ≡ down op replied (decoded_octet d octet) (last_mark mark (octet_says d octet)) n
  takes_one Replies.Nothing d mark n octet = refl
  takes_one Replies.Begun d mark n octet =
      let next = decoded_octet d octet in
      let said = last_mark mark (octet_says d octet) in
      ap (λ enough. aborting op enough Replies.Begun next said n) (all_few op all next said)
  takes_one (Replies.Final code) d mark n octet =
      let next = decoded_octet d octet in
      let said = last_mark mark (octet_says d octet) in
      ap (λ enough. aborting op enough (Replies.Final code) next said n) (all_few op all next said)

  pub takes : (came : List ℕ) (replied : Replied) (d : Decoder) (mark : Option ℕ) (n : View)
      → receives (down op replied d mark n) came ≡ down op replied (decoder_after op d came) (mark_after op d mark came) n
  takes [] replied d mark n = refl
  takes (octet ∷ octets) replied d mark n =
      ap (λ v. receives v octets) (takes_one replied d mark n octet)
      ∙ takes octets replied (decoded_octet d octet) (last_mark mark (octet_says d octet)) n

-- ---- both orders

pub hears_late : HearsLate
hears_late op all replied d mark n heard came takes_on =
    let few = all_few op all d in
    elim (hears_turns op heard replied n) [
      | inl stops ↦ absurd (over_takes (hears (downloading op replied d mark n) heard) (stops d few mark) takes_on)
      | inr g ↦ ap (λ v. receives v came) (g.stays d few mark) ∙ takes op all came g.next d mark g.last
          ∙ sym (g.stays (decoder_after op d came) (all_few op all (decoder_after op d came)) (mark_after op d mark came))
          ∙ ap (λ v. hears v heard) (sym (takes op all came replied d mark n))
    ]

pub breaks_late : BreaksLate
unfolding data_fault
breaks_late op all replied d mark n heard came takes_on =
    let few = all_few op all d in
    elim (hears_turns op heard replied n) [
      | inl stops ↦ absurd (over_takes (hears (downloading op replied d mark n) heard) (stops d few mark) takes_on)
      | inr g ↦ ap (λ v. data_fault (receives v came)) (g.stays d few mark) ∙ ap data_fault (takes op all came g.next d mark g.last)
          ∙ sym (g.breaks (decoder_after op d came) (all_few op all (decoder_after op d came)) (mark_after op d mark came))
          ∙ ap (λ v. hears (data_fault v) heard) (sym (takes op all came replied d mark n))
    ]
