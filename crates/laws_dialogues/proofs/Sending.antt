-- The client of an upload: what it makes of each reply, and of the octets that it gives.
use Rattle.std.proofs.Common.{◌≡◌, ℕ, Bool, true, false, List, [], ◌∷◌, drop, Option, Some, None, refl, sym, ap, ◌∙◌}
use Rattle.std.specs.Prelude.{if◌then◌else◌}
use Rattle.std.proofs.Math.Seq.{drop-nil}
use Rattle.ftp_ends.specs.Ear.{Ear}
use Rattle.ftp_operation.specs.Answer.{Done, Refused, Broken as BrokenOff}
use Rattle.ftp_operation.specs.declared.op.Op.{Op}
use Rattle.ftp_reply.specs.Lines.{Text as ReplyText, joined}
use Rattle.ftp_reply.specs.Reader.{Gathered}
use Rattle.ftp_reply.specs.Values.{mark_value}
use Rattle.ftp_direct.specs.declared.refusal.Refusal.TheVariants as Refusals
use Rattle.ftp_direct.specs.Refusal.{code_of}
use Rattle.ftp_client_model.specs.Calls as near
use Rattle.ftp_client_model.specs.Dialogue.{answered, answers_once_over, carries_on, finishes_read, marked_flow, sends_abort}
use Rattle.ftp_client_model.specs.Octets.{broken_answer, content_answer, has_settled, settled_of}
use Rattle.ftp_client_model.specs.Plan.{count_of}
use Rattle.ftp_client_model.specs.View.{View as Near, Flow, Sending}
use Rattle.ftp_client_model.specs.declared.client.Abort.TheVariants as Aborts
use Rattle.ftp_client_model.specs.declared.client.ClientLink.{ClientLink as NearConnection}
use Rattle.ftp_client_model.specs.declared.client.ClientLink.TheVariants as NearData
use Rattle.ftp_client_model.specs.declared.client.Ending.{Ending}
use Rattle.ftp_client_model.specs.declared.client.Ending.TheVariants as Endings
use Rattle.ftp_client_model.specs.declared.client.Replied.{Replied}
use Rattle.ftp_client_model.specs.declared.client.Replied.TheVariants as Replies
use Rattle.laws_dialogues.specs.Fetches.{busy, leaving}
use Rattle.laws_dialogues.specs.Stage.{calm}
use Rattle.laws_dialogues.proofs.Offering.{with_flow}

module _ (op : Op (List ℕ)) (all : count_of op ≡ None) (n : Near) where
  -- with these octets to give, over an open link, and with this as the octets that the server holds
  abbrev pub giving_at : Replied → List ℕ → Option ℕ → Near
  giving_at replied left mark = busy (with_flow op replied (Sending left mark)) NearData.Open n

  -- it has given all, and is to close the link
  abbrev pub gave_at : Option ℕ → Near
  gave_at mark = record (busy (with_flow op Replies.Begun (Sending [] mark)) (NearData.Over Endings.Ours) n) { closing = true }

  -- with these octets to give, where the link is over
  abbrev pub over_at : Ending → Replied → List ℕ → Option ℕ → Near
  over_at ending replied left mark = busy (with_flow op replied (Sending left mark)) (NearData.Over ending) n

  -- an upload that has octets to give sends no ABOR
  no_abort : (octet : ℕ) (left : List ℕ) (mark : Option ℕ) (v : Near)
      → answers_once_over (if has_settled (count_of op) (Sending (octet ∷ left) mark) then sends_abort op (record { replied = Replies.Begun; abort = Aborts.Unsent; flow = Sending (octet ∷ left) mark }) v else v)
      ≡ answers_once_over v
  no_abort octet left mark v =
      ap (λ count. answers_once_over (if has_settled count (Sending (octet ∷ left) mark) then sends_abort op (record { replied = Replies.Begun; abort = Aborts.Unsent; flow = Sending (octet ∷ left) mark }) v else v)) all

  -- behind the 150 it gives, where it has octets
  pub opens_some : (octet : ℕ) (left : List ℕ) (texts : List ReplyText)
      → answered 150 texts (calm (giving_at Replies.Nothing (octet ∷ left) None)) ≡ record (calm (giving_at Replies.Begun (octet ∷ left) None)) { owed = [] }
  unfolding answered
  opens_some octet left texts = no_abort octet left None (calm (giving_at Replies.Begun (octet ∷ left) None))

  -- and closes the link, where it has none
  pub opens_none : (texts : List ReplyText) → answered 150 texts (calm (giving_at Replies.Nothing [] None)) ≡ record (calm (gave_at None)) { owed = [] }
  unfolding answered
  opens_none texts = refl

  -- a 150 behind the end of the link
  pub opens_over : (ending : Ending) (left : List ℕ) (mark : Option ℕ) (texts : List ReplyText)
      → answered 150 texts (calm (over_at ending Replies.Nothing left mark)) ≡ record (calm (over_at ending Replies.Begun left mark)) { owed = [] }
  unfolding answered
  opens_over ending [] mark texts = refl
  opens_over ending (octet ∷ left) mark texts = refl

  -- ---- the octets that the server holds

  -- with this flow, over whatever link, which is to be closed or not
  abbrev pub begun_at : NearConnection → Bool → List ℕ → Option ℕ → Near
  begun_at connection closing left mark = record (busy (with_flow op Replies.Begun (Sending left mark)) connection n) { closing = closing }

  -- a 110 behind the 150 tells them, and nothing else comes of it
  pub marked_at : (connection : NearConnection) (closing : Bool) (left : List ℕ) (mark : Option ℕ) (held : ℕ) (texts : List ReplyText) → mark_value (joined texts) ≡ Some held
      → answered 110 texts (calm (begun_at connection closing left mark)) ≡ record (calm (begun_at connection closing left (Some held))) { owed = [] }
  unfolding answered
  marked_at connection closing left mark held texts is =
      ap (λ read. record (calm (begun_at connection closing left mark)) { job = with_flow op Replies.Begun (marked_flow read (Sending left mark)) }) is

  -- ---- the last reply

  -- a 226 behind its own close: it is done
  pub done_over : (left : List ℕ) (mark : Option ℕ) (texts : List ReplyText)
      → answered 226 texts (calm (over_at Endings.Ours Replies.Begun left mark)) ≡ record (calm (leaving Done false n)) { owed = [] }
  unfolding answered
  done_over [] mark texts = refl
  done_over (octet ∷ left) mark texts = refl

  -- a 552: it was too much
  pub filled_over : (ours : Bool) (left : List ℕ) (mark : Option ℕ) (texts : List ReplyText)
      → answered 552 texts (calm (over_at (if ours then Endings.Ours else Endings.Broken) Replies.Begun left mark)) ≡ record (calm (leaving (Refused (code_of Refusals.TooMuch)) false n)) { owed = [] }
  unfolding answered
  filled_over true [] mark texts = refl
  filled_over true (octet ∷ left) mark texts = refl
  filled_over false [] mark texts = refl
  filled_over false (octet ∷ left) mark texts = refl

  -- a 426: it broke off, and these were held
  pub cut_over : (ours : Bool) (left : List ℕ) (mark : Option ℕ) (texts : List ReplyText)
      → answered 426 texts (calm (over_at (if ours then Endings.Ours else Endings.Broken) Replies.Begun left mark)) ≡ record (calm (leaving (BrokenOff [] mark) false n)) { owed = [] }
  unfolding answered
  cut_over ours left mark texts = by_left ours left
    where
      -- by how many octets it asks for
      by_count : Ending → List ℕ → Option ℕ → Near
      by_count ending left count =
          let flow : Flow = Sending left mark in
          finishes_read (if has_settled count flow then content_answer op (settled_of flow) else Some (broken_answer flow)) (calm (over_at ending (Replies.Final 426) left mark))

      by_left : (ours : Bool) (left : List ℕ)
          → answered 426 texts (calm (over_at (if ours then Endings.Ours else Endings.Broken) Replies.Begun left mark)) ≡ record (calm (leaving (BrokenOff [] mark) false n)) { owed = [] }
      by_left true [] = ap (by_count Endings.Ours []) all
      by_left true (octet ∷ left) = ap (by_count Endings.Ours (octet ∷ left)) all
      by_left false [] = ap (by_count Endings.Broken []) all
      by_left false (octet ∷ left) = ap (by_count Endings.Broken (octet ∷ left)) all

  -- ---- octets that it gives, whatever it has heard

  -- amid replies
  abbrev hearing : Ear → Gathered → List ℕ → Near → Near
  hearing ear gathered owed v = record v { ear = ear; gathered = gathered; owed = owed }

  -- octets are left behind those that went
  pub gives_some : (count octet : ℕ) (more : List ℕ) (next : ℕ) (left : List ℕ) (mark : Option ℕ) → drop count (octet ∷ more) ≡ next ∷ left → (ear : Ear) (gathered : Gathered) (owed : List ℕ)
      → near.gives_data count (hearing ear gathered owed (giving_at Replies.Begun (octet ∷ more) mark)) ≡ hearing ear gathered owed (giving_at Replies.Begun (next ∷ left) mark)
  unfolding near.gives_data
  gives_some count octet more next left mark is ear gathered owed =
      ap (λ l. carries_on (hearing ear gathered owed (giving_at Replies.Begun l mark))) is ∙ no_abort next left mark (hearing ear gathered owed (giving_at Replies.Begun (next ∷ left) mark))

  -- all went
  pub gives_all : (count octet : ℕ) (more : List ℕ) (mark : Option ℕ) → drop count (octet ∷ more) ≡ [] → (ear : Ear) (gathered : Gathered) (owed : List ℕ)
      → near.gives_data count (hearing ear gathered owed (giving_at Replies.Begun (octet ∷ more) mark)) ≡ hearing ear gathered owed (gave_at mark)
  unfolding near.gives_data
  gives_all count octet more mark is ear gathered owed = ap (λ l. carries_on (hearing ear gathered owed (giving_at Replies.Begun l mark))) is

  -- none is left, and none goes
  pub gives_none : (count : ℕ) (closing : Bool) (mark : Option ℕ) (v : Near) → v ≡ record (busy (with_flow op Replies.Begun (Sending [] mark)) (NearData.Over Endings.Ours) v) { closing = closing }
      → near.gives_data count v ≡ v
  unfolding near.gives_data
  gives_none count closing mark v is =
      ap (near.gives_data count) is
      ∙ ap (λ l. carries_on (record (busy (with_flow op Replies.Begun (Sending l mark)) (NearData.Over Endings.Ours) v) { closing = closing })) (drop-nil count) ∙ sym is
