-- A client of an upload that hears control octets: as long as it then still gives octets, these and the break of its link can come before or after.
use Rattle.std.proofs.Common.{◌≡◌, ◌⊎◌, inl, inr, ℕ, ◌==◌, ◌&&◌, Bool, true, false, List, [], ◌∷◌, ◌++◌, Option, Some, None, refl, sym, ap, subst, ◌∙◌}
use Rattle.std.specs.Prelude.{if◌then◌else◌}
use Rattle.ftp_ends.specs.Ear.{Ear, ear_out, ear_step}
use Rattle.ftp_ends.proofs.EventLemmas.{out_one}
use Rattle.ftp_ends.specs.Reply.{reply_limit}
use Rattle.ftp_ends.specs.declared.link.Wants.TheVariants as Want
use Rattle.ftp_nvt.specs.Lines.{NvtEvent, line, owed, too_long}
use Rattle.ftp_operation.specs.declared.op.Op.{Op}
use Rattle.ftp_reply.specs.Lines.{Text, joined}
use Rattle.ftp_reply.specs.Reader.{Between, Faulty, Gathered, GoesOn, Heard, Says, line_heard}
use Rattle.ftp_reply.specs.Values.{mark_value}
use Rattle.ftp_reply.specs.declared.code.TheConstants.{MARK}
use Rattle.ftp_client_model.specs.Calls.{data_fault, event_taken, events_taken, hears, hears_octet, line_taken, wants}
use Rattle.ftp_client_model.specs.Dialogue.{answered, answers_once_over, carries_on, finishes_read, judged, judged_reply, marked_flow, sends_abort, with_reply}
use Rattle.ftp_client_model.specs.Octets.{has_settled}
use Rattle.ftp_client_model.specs.Plan.{count_of}
use Rattle.ftp_client_model.specs.Replies.{Closing, Completion, Displaced, Intermediate, Negative, Preliminary, Verdict, verdict_of}
use Rattle.ftp_client_model.specs.View.{Flow, Sending, Transfer, Transferring, View}
use Rattle.ftp_client_model.specs.declared.client.Abort.TheVariants as Aborts
use Rattle.ftp_client_model.specs.declared.client.ClientLink.TheVariants as Data
use Rattle.ftp_client_model.specs.declared.client.Ending.TheVariants as Endings
use Rattle.ftp_client_model.specs.declared.client.Replied.{Replied}
use Rattle.ftp_client_model.specs.declared.client.Replied.TheVariants as Replies
use Rattle.laws_breaks.proofs.downloads.Late.{IsOver, hears_over, is_moving, judges, over, over_moves, read_over}
use Rattle.laws_breaks.specs.uploads.Late.{UploadsBreakLate, uploading}

-- ---- one that has its answer gives no octets

pub over_sends : (v : View) → IsOver v → wants v ≡ Want.Send → ⊥
over_sends v o e = over_moves v o (ap is_moving e)

-- ---- under an upload with octets to give

-- the number that a 110 told, or else the one before
abbrev pub next_mark : Option ℕ → Option ℕ → Option ℕ
next_mark (Some mark) before = Some mark
next_mark None before = before

pub marked_next : (read : Option ℕ) (left : List ℕ) (before : Option ℕ) → marked_flow read (Sending left before) ≡ Sending left (next_mark read before)
marked_next None left before = refl
marked_next (Some mark) left before = refl

module _ (op : Op (List ℕ)) (all : count_of op ≡ None) (first : ℕ) (more : List ℕ) where
  abbrev flow : Option ℕ → Flow
  flow mark = Sending (first ∷ more) mark

  abbrev up : Replied → Option ℕ → View → View
  up replied mark n = uploading op replied (first ∷ more) mark n

  -- once it was told of the break
  abbrev lost : Replied → Option ℕ → View → View
  lost replied mark n = carries_on (record (up replied mark n) { connection = Data.Over Endings.Broken })

  abbrev so_far : Replied → Option ℕ → Transfer
  so_far replied mark = record { replied = replied; abort = Aborts.Unsent; flow = flow mark }

  -- no ABOR is due
  abbrev aborting : Option ℕ → Replied → Option ℕ → View → View
  aborting count replied mark n =
      if true && true && has_settled count (flow mark) then sends_abort op (so_far replied mark) (up replied mark n) else up replied mark n

  pub goes_open : (replied : Replied) (mark : Option ℕ) (n : View) → carries_on (up replied mark n) ≡ up replied mark n
  goes_open Replies.Nothing mark n = refl
  goes_open Replies.Begun mark n = ap (λ k. answers_once_over (aborting k Replies.Begun mark n)) all
  goes_open (Replies.Final code) mark n = ap (λ k. answers_once_over (aborting k (Replies.Final code) mark n)) all

  -- it never has enough, so that a break after the final reply is its answer
  few : (mark : Option ℕ) → has_settled (count_of op) (flow mark) ≡ false
  few mark = ap (λ k. has_settled k (flow mark)) all

  final_lost : (code : ℕ) (mark : Option ℕ) (n : View) → lost (Replies.Final code) mark n ≡ over op (judges op code (flow mark) (few mark)).0 n
  final_lost code mark n =
      ap (λ j. finishes_read j (record (up (Replies.Final code) mark n) { connection = Data.Over Endings.Broken })) (judges op code (flow mark) (few mark)).1

  -- what stands aside of it
  lost_gathered : (replied : Replied) (mark : Option ℕ) (n : View) → (lost replied mark n).gathered ≡ n.gathered
  lost_gathered Replies.Nothing mark n = refl
  lost_gathered Replies.Begun mark n = refl
  lost_gathered (Replies.Final code) mark n = ap (λ (v : View). v.gathered) (final_lost code mark n)

  lost_ear : (replied : Replied) (mark : Option ℕ) (n : View) → (lost replied mark n).ear ≡ n.ear
  lost_ear Replies.Nothing mark n = refl
  lost_ear Replies.Begun mark n = refl
  lost_ear (Replies.Final code) mark n = ap (λ (v : View). v.ear) (final_lost code mark n)

  gathers_lost : (gathered : Gathered) (replied : Replied) (mark : Option ℕ) (n : View)
      → record (lost replied mark n) { gathered = gathered } ≡ lost replied mark (record n { gathered = gathered })
  gathers_lost gathered Replies.Nothing mark n = refl
  gathers_lost gathered Replies.Begun mark n = refl
  gathers_lost gathered (Replies.Final code) mark n =
      ap (λ (v : View). record v { gathered = gathered }) (final_lost code mark n) ∙ sym (final_lost code mark (record n { gathered = gathered }))

  listens_lost : (now : Ear) (replied : Replied) (mark : Option ℕ) (n : View)
      → record (lost replied mark n) { ear = now } ≡ lost replied mark (record n { ear = now })
  listens_lost now Replies.Nothing mark n = refl
  listens_lost now Replies.Begun mark n = refl
  listens_lost now (Replies.Final code) mark n =
      ap (λ (v : View). record v { ear = now }) (final_lost code mark n) ∙ sym (final_lost code mark (record n { ear = now }))

  owes_lost : (answer : List ℕ) (replied : Replied) (mark : Option ℕ) (n : View)
      → event_taken (owed answer) (lost replied mark n) ≡ lost replied mark (record n { owed = n.owed ++ answer })
  owes_lost answer Replies.Nothing mark n = refl
  owes_lost answer Replies.Begun mark n = refl
  owes_lost answer (Replies.Final code) mark n =
      ap (event_taken (owed answer)) (final_lost code mark n) ∙ sym (final_lost code mark (record n { owed = n.owed ++ answer }))

  -- ---- what is heard

  -- it goes on, and so it does once it was told of the break
  record Goes (does : View → View) (replied : Replied) (mark : Option ℕ) (n : View) : Type 0 where
    next : Replied
    after : Option ℕ
    last : View
    stays : does (up replied mark n) ≡ up next after last
    breaks : does (lost replied mark n) ≡ lost next after last

  -- or it has its answer
  abbrev Turns : (View → View) → Replied → Option ℕ → View → Type 0
  Turns does replied mark n = IsOver (does (up replied mark n)) ⊎ Goes does replied mark n

  reply_turns : (verdict : Verdict) (code : ℕ) (texts : List Text) (replied : Replied) (mark : Option ℕ) (n : View)
      → Turns (judged_reply verdict code texts) replied mark n
  reply_turns Closing code texts replied mark n = inl (record { told = refl; late = refl })
  reply_turns Displaced code texts replied mark n = inl (record { told = refl; late = refl })
  reply_turns Preliminary code texts Replies.Nothing mark n = by (code == MARK) refl
    where
      by : (marks : Bool) → (code == MARK) ≡ marks → Turns (judged_reply Preliminary code texts) Replies.Nothing mark n
      by true is = inr (record {
        next = Replies.Nothing;
        after = mark;
        last = n;
        stays = ap (λ b. if b then up Replies.Nothing mark n
            else with_reply Replies.Begun op (so_far Replies.Nothing mark) (up Replies.Nothing mark n)) is;
        breaks = ap (λ b. if b then lost Replies.Nothing mark n
            else with_reply Replies.Begun op (so_far Replies.Nothing mark) (lost Replies.Nothing mark n)) is;
      })
      by false is = inr (record {
        next = Replies.Begun;
        after = mark;
        last = n;
        stays = ap (λ b. if b then up Replies.Nothing mark n
            else with_reply Replies.Begun op (so_far Replies.Nothing mark) (up Replies.Nothing mark n)) is ∙ goes_open Replies.Begun mark n;
        breaks = ap (λ b. if b then lost Replies.Nothing mark n
            else with_reply Replies.Begun op (so_far Replies.Nothing mark) (lost Replies.Nothing mark n)) is;
      })
  reply_turns Completion code texts Replies.Nothing mark n = inl (record { told = refl; late = refl })
  reply_turns Intermediate code texts Replies.Nothing mark n = inl (record { told = refl; late = refl })
  reply_turns Negative code texts Replies.Nothing mark n =
      inl (read_over op (judged Endings.Ours Aborts.Unsent code op (flow mark))
      (record (up (Replies.Final code) mark n) { connection = Data.Over Endings.Ours; closing = true }) refl refl (so_far (Replies.Final code) mark) refl)
  reply_turns Preliminary code texts Replies.Begun mark n = by (code == MARK) refl
    where
      marking : Flow → View → View
      marking flow v = record v { job = Transferring op (record { replied = Replies.Begun; abort = Aborts.Unsent; flow = flow }) }

      read : Option ℕ
      read = mark_value (joined texts)

      by : (marks : Bool) → (code == MARK) ≡ marks → Turns (judged_reply Preliminary code texts) Replies.Begun mark n
      by true is = inr (record {
        next = Replies.Begun;
        after = next_mark read mark;
        last = n;
        stays = ap (λ b. if b then marking (marked_flow read (flow mark)) (up Replies.Begun mark n) else up Replies.Begun mark n) is
            ∙ ap (λ f. marking f (up Replies.Begun mark n)) (marked_next read (first ∷ more) mark);
        breaks = ap (λ b. if b then marking (marked_flow read (flow mark)) (lost Replies.Begun mark n) else lost Replies.Begun mark n) is
            ∙ ap (λ f. marking f (lost Replies.Begun mark n)) (marked_next read (first ∷ more) mark);
      })
      by false is = inr (record {
        next = Replies.Begun;
        after = mark;
        last = n;
        stays = ap (λ b. if b then marking (marked_flow read (flow mark)) (up Replies.Begun mark n) else up Replies.Begun mark n) is;
        breaks = ap (λ b. if b then marking (marked_flow read (flow mark)) (lost Replies.Begun mark n) else lost Replies.Begun mark n) is;
      })
  reply_turns Completion code texts Replies.Begun mark n =
      inr (record { next = Replies.Final code; after = mark; last = n; stays = goes_open (Replies.Final code) mark n; breaks = refl })
  reply_turns Negative code texts Replies.Begun mark n =
      inr (record { next = Replies.Final code; after = mark; last = n; stays = goes_open (Replies.Final code) mark n; breaks = refl })
  reply_turns Intermediate code texts Replies.Begun mark n = inl (record { told = refl; late = refl })
  reply_turns Preliminary code texts (Replies.Final before) mark n = inl (record { told = refl; late = refl })
  reply_turns Completion code texts (Replies.Final before) mark n = inl (record { told = refl; late = refl })
  reply_turns Intermediate code texts (Replies.Final before) mark n = inl (record { told = refl; late = refl })
  reply_turns Negative code texts (Replies.Final before) mark n = inl (record { told = refl; late = refl })

  -- a line
  line_turns : (heard : Heard) (replied : Replied) (mark : Option ℕ) (n : View) → Turns (line_taken heard) replied mark n
  unfolding answered
  line_turns (GoesOn gathered) replied mark n = inr (record {
    next = replied;
    after = mark;
    last = record n { gathered = gathered };
    stays = refl;
    breaks = gathers_lost gathered replied mark n;
  })
  line_turns (Faulty fault) replied mark n = inl (record { told = refl; late = refl })
  line_turns (Says code texts) replied mark n =
      let m : View = record n { gathered = Between } in
      elim (reply_turns (verdict_of code) code texts replied mark m) [
        | inl stops ↦ inl stops
        | inr g ↦ inr (record {
          next = g.next;
          after = g.after;
          last = g.last;
          stays = g.stays;
          breaks = ap (judged_reply (verdict_of code) code texts) (gathers_lost Between replied mark n) ∙ g.breaks;
        })
      ]

  event_turns : (event : NvtEvent) (replied : Replied) (mark : Option ℕ) (n : View) → Turns (event_taken event) replied mark n
  event_turns (line text) replied mark n =
      elim (line_turns (line_heard n.gathered text) replied mark n) [
        | inl stops ↦ inl stops
        | inr g ↦ inr (record {
          next = g.next;
          after = g.after;
          last = g.last;
          stays = g.stays;
          breaks = ap (λ before. line_taken (line_heard before text) (lost replied mark n)) (lost_gathered replied mark n) ∙ g.breaks;
        })
      ]
  event_turns too_long replied mark n = inl (record { told = refl; late = refl })
  event_turns (owed answer) replied mark n = inr (record {
    next = replied;
    after = mark;
    last = record n { owed = n.owed ++ answer };
    stays = refl;
    breaks = owes_lost answer replied mark n;
  })

  -- an octet
  octet_turns : (octet : ℕ) (replied : Replied) (mark : Option ℕ) (n : View) → Turns (λ v. hears_octet v octet) replied mark n
  octet_turns octet replied mark n =
      elim (out_one reply_limit n.ear octet) [
        | inl f ↦ inr (record {
          next = replied;
          after = mark;
          last = m;
          stays = ap (λ es. events_taken es (up replied mark m)) f;
          breaks = ear_lost ∙ ap (λ es. events_taken es (lost replied mark m)) f;
        })
        | inr f ↦ one f.0 f.1 (event_turns f.0 replied mark m)
      ]
    where
      m : View
      m = record n { ear = ear_step reply_limit n.ear octet }

      ear_lost : hears_octet (lost replied mark n) octet ≡ events_taken (ear_out reply_limit n.ear octet) (lost replied mark m)
      ear_lost =
          ap (λ e. events_taken (ear_out reply_limit e octet) (record (lost replied mark n) { ear = ear_step reply_limit e octet }))
          (lost_ear replied mark n)
          ∙ ap (events_taken (ear_out reply_limit n.ear octet)) (listens_lost (ear_step reply_limit n.ear octet) replied mark n)

      one : (event : NvtEvent) → ear_out reply_limit n.ear octet ≡ event ∷ [] → Turns (event_taken event) replied mark m
          → Turns (λ v. hears_octet v octet) replied mark n
      one event f (inl stops) = inl (subst (λ es. IsOver (events_taken es (up replied mark m))) (sym f) stops)
      one event f (inr g) = inr (record {
        next = g.next;
        after = g.after;
        last = g.last;
        stays = ap (λ es. events_taken es (up replied mark m)) f ∙ g.stays;
        breaks = ear_lost ∙ ap (λ es. events_taken es (lost replied mark m)) f ∙ g.breaks;
      })

  hears_turns : (octets : List ℕ) (replied : Replied) (mark : Option ℕ) (n : View) → Turns (λ v. hears v octets) replied mark n
  hears_turns [] replied mark n = inr (record { next = replied; after = mark; last = n; stays = refl; breaks = refl })
  hears_turns (octet ∷ octets) replied mark n =
      elim (octet_turns octet replied mark n) [
        | inl stops ↦ inl (hears_over octets (hears_octet (up replied mark n) octet) stops)
        | inr g ↦ on g (hears_turns octets g.next g.after g.last)
      ]
    where
      on : (g : Goes (λ v. hears_octet v octet) replied mark n) → Turns (λ v. hears v octets) g.next g.after g.last
          → Turns (λ v. hears v (octet ∷ octets)) replied mark n
      on g (inl stops) = inl (subst (λ v. IsOver (hears v octets)) (sym g.stays) stops)
      on g (inr h) = inr (record {
        next = h.next;
        after = h.after;
        last = h.last;
        stays = ap (λ v. hears v octets) g.stays ∙ h.stays;
        breaks = ap (λ v. hears v octets) g.breaks ∙ h.breaks;
      })

-- ---- both orders

pub uploads_break_late : UploadsBreakLate
unfolding data_fault
uploads_break_late op all replied octet more mark n heard sends =
    elim (hears_turns op all octet more heard replied mark n) [
      | inl stops ↦ absurd (over_sends (hears (uploading op replied (octet ∷ more) mark n) heard) stops sends)
      | inr g ↦ ap data_fault g.stays ∙ sym g.breaks
    ]
