-- A server that gives octets of a file or a listing hears a line while it does: ABOR ends the transfer, and any other waits; so it is whatever moment it was
-- told last.
use Rattle.std.proofs.Common.{◌≡◌, inl, inr, ℕ, Bool, true, false, true≢false, List, Some, None, refl, sym, ap, subst, ◌∙◌}
use Rattle.std.specs.Prelude.{if◌then◌else◌}
use Rattle.ftp_ends.specs.Ear.{ear_out, ear_step}
use Rattle.ftp_ends.proofs.EventLemmas.{out_one}
use Rattle.ftp_nvt.specs.Lines.{NvtEvent, line, too_long, owed}
use Rattle.ftp_server_model.specs.Calls.{clock_step, is_upload}
use Rattle.ftp_server_model.specs.Endpoint.{forgotten}
use Rattle.ftp_server_model.specs.Machine.{Reading, abort_said, aborted, heard_event, heard_events, heard_line, hears_octet, is_abort, later, replied}
use Rattle.ftp_server_model.specs.View.{Transfer, View as Far, line_limit}
use Rattle.ftp_server_model.specs.declared.heard.HeardLine.{HeardLine}
use Rattle.ftp_server_model.specs.declared.heard.HeardLine.TheVariants.{TooLong}
use Rattle.ftp_server_model.specs.declared.reply.FixedReply.TheVariants as Texts
use Rattle.ftp_server_model.specs.declared.session.ServerLink.{ServerLink}
use Rattle.ftp_server_model.specs.declared.session.ServerLink.TheVariants as Data
use Rattle.ftp_server_model.specs.declared.session.Transfer.TheVariants as Transfers
use Rattle.laws_dialogues.specs.Fetches.{giving_of}
use Rattle.laws_drivers.proofs.world.Hearing.{Turns}
use Rattle.laws_drivers.proofs.events.FarForms.{giving, none_later}
use Rattle.laws_transfers.proofs.Known.{is_giving}

-- it gives these octets of a listing or of a file
pub giving_is : (link : ServerLink Transfer) → is_giving link ≡ true → (listed : Bool) × (rest : List ℕ) × (link ≡ Data.Transferring (giving_of listed rest))
giving_is (Data.Transferring (Transfers.Download rest)) e = (false, rest, refl)
giving_is (Data.Transferring (Transfers.Listing rest)) e = (true, rest, refl)
giving_is (Data.Transferring (Transfers.Upload path keep d)) e = absurd (true≢false (sym e))
giving_is (Data.Transferring Transfers.OverLimit) e = absurd (true≢false (sym e))
giving_is Data.Free e = absurd (true≢false (sym e))
giving_is (Data.Asked verb) e = absurd (true≢false (sym e))
giving_is (Data.Active endpoint) e = absurd (true≢false (sym e))
giving_is Data.Passive e = absurd (true≢false (sym e))
giving_is Data.Ready e = absurd (true≢false (sym e))
giving_is (Data.Opening transfer way) e = absurd (true≢false (sym e))

-- and takes none
pub given_untaken : (link : ServerLink Transfer) → is_giving link ≡ true → is_upload link ≡ false
given_untaken Data.Free e = refl
given_untaken (Data.Asked verb) e = refl
given_untaken (Data.Active endpoint) e = refl
given_untaken Data.Passive e = refl
given_untaken Data.Ready e = refl
given_untaken (Data.Opening transfer way) e = refl
given_untaken (Data.Transferring (Transfers.Upload path keep d)) e = absurd (true≢false (sym e))
given_untaken (Data.Transferring Transfers.OverLimit) e = absurd (true≢false (sym e))
given_untaken (Data.Transferring (Transfers.Download rest)) e = refl
given_untaken (Data.Transferring (Transfers.Listing rest)) e = refl

-- ---- ABOR

-- what it is then: 426, and the reply to ABOR
abbrev aborted_so : Far → Far
aborted_so v = abort_said (replied Texts.Broken (forgotten v.session) v)

abort_is : (listed : Bool) (rest : List ℕ) (v : Far) → v.waiting ≡ None → aborted (giving listed rest v) ≡ aborted_so (giving listed rest v)
abort_is true rest v none = none_later (aborted_so (giving true rest v)) none
abort_is false rest v none = none_later (aborted_so (giving false rest v)) none

-- ---- a line

module _ (listed : Bool) (rest : List ℕ) (v : Far) (none : v.waiting ≡ None) where
  abbrev g : Far
  g = giving listed rest v

  abbrev link : ServerLink Transfer
  link = Data.Transferring (giving_of listed rest)

  line_moment : (heard : HeardLine (List ℕ)) (moment : ℕ) → heard_line heard (clock_step moment g) ≡ clock_step moment (heard_line heard g)
  line_moment heard moment = by (is_abort heard g)
    where
      by : (abort : Bool) → (if abort then aborted (clock_step moment g) else later (clock_step moment (record g { waiting = Some heard })))
          ≡ clock_step moment (if abort then aborted g else later (record g { waiting = Some heard }))
      by true = abort_is listed rest (clock_step moment v) none ∙ ap (clock_step moment) (sym (abort_is listed rest v none))
      by false = refl

  line_turns : (heard : HeardLine (List ℕ)) → Turns link (heard_line heard g)
  line_turns heard = by (is_abort heard g)
    where
      by : (abort : Bool) → Turns link (if abort then aborted g else later (record g { waiting = Some heard }))
      by true = subst (Turns link) (sym (abort_is listed rest v none)) (record {
        opened = λ e. absurd (true≢false (sym e));
        accepted = λ e. absurd (true≢false (sym e));
        dialled = λ e. absurd (true≢false (sym e));
      })
      by false = record { opened = λ e. (refl, refl); accepted = λ e. absurd (true≢false (sym e)); dialled = λ e. absurd (true≢false (sym e)) }

  -- ---- what an octet says

  event_moment : (read : Reading) (event : NvtEvent) (moment : ℕ) → heard_event read event (clock_step moment g) ≡ clock_step moment (heard_event read event g)
  event_moment read (line text) moment = line_moment (read text) moment
  event_moment read too_long moment = line_moment TooLong moment
  event_moment read (owed answer) moment = refl

  event_turns : (read : Reading) (event : NvtEvent) → Turns link (heard_event read event g)
  event_turns read (line text) = line_turns (read text)
  event_turns read too_long = line_turns TooLong
  event_turns read (owed answer) =
      record { opened = λ e. (refl, refl); accepted = λ e. absurd (true≢false (sym e)); dialled = λ e. absurd (true≢false (sym e)) }

-- ---- an octet

module _ (read : Reading) (octet : ℕ) (listed : Bool) (rest : List ℕ) (v : Far) (none : v.waiting ≡ None) where
  abbrev w : Far
  w = record v { ear = ear_step line_limit v.ear octet }

  -- it is heard alike at every moment
  pub giving_moment : (moment : ℕ) → hears_octet read (clock_step moment (giving listed rest v)) octet
      ≡ clock_step moment (hears_octet read (giving listed rest v) octet)
  unfolding hears_octet
  giving_moment moment =
      let P : List NvtEvent → Type 0 = λ events. heard_events read events (clock_step moment (giving listed rest w))
      ≡ clock_step moment (heard_events read events (giving listed rest w)) in
      elim (out_one line_limit v.ear octet) as (λ _. P (ear_out line_limit v.ear octet)) [
        | inl f ↦ subst P (sym f) refl
        | inr f ↦ subst P (sym f.1) (event_moment listed rest w none read f.0 moment)
      ]

  -- and the data connection turns as by any line
  pub giving_turns : Turns (Data.Transferring (giving_of listed rest)) (hears_octet read (giving listed rest v) octet)
  unfolding hears_octet
  giving_turns =
      let P : List NvtEvent → Type 0 = λ events. Turns (Data.Transferring (giving_of listed rest)) (heard_events read events (giving listed rest w)) in
      elim (out_one line_limit v.ear octet) as (λ _. P (ear_out line_limit v.ear octet)) [
        | inl f ↦ subst P (sym f)
            (record { opened = λ e. (refl, refl); accepted = λ e. absurd (true≢false (sym e)); dialled = λ e. absurd (true≢false (sym e)) })
        | inr f ↦ subst P (sym f.1) (event_turns listed rest w none read f.0)
      ]
