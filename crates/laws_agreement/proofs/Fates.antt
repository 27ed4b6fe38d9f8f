-- How what was asked for fares: refused, whole, cut or not opened, as its client tells it.
use Rattle.std.proofs.Common.{◌≡◌, ◌⊎◌, inl, inr, ℕ, ◌<◌, Bool, true, false, List, [], ◌∷◌, length, Option, Some, None, refl, sym, ap, subst, ◌∙◌, arith, leb-false}
use Rattle.std.specs.Prelude.{if◌then◌else◌}
use Rattle.std.specs.List.{Contains}
use Rattle.std.specs.Option.{is_some}
use Rattle.ftp_wire.specs.Decoder.{decoder_of, no_octets}
use Rattle.ftp_wire.proofs.DecoderLemmas.{what_is_settled}
use Rattle.ftp_pieces.specs.Machine.{IsFront}
use Rattle.ftp_mode.specs.Laws.{settled_content}
use Rattle.ftp_operation.specs.Answer.{Said, Refused, Unopened as NotOpened, Broken as BrokenOff}
use Rattle.ftp_operation.specs.declared.op.Op.{Op}
use Rattle.ftp_settings.specs.Representation.{form_of}
use Rattle.ftp_settings.specs.declared.representation.Representation.{Representation}
use Rattle.ftp_direct.specs.declared.refusal.Refusal.{Refusal}
use Rattle.ftp_direct.specs.declared.refusal.Refusal.TheVariants as Refusals
use Rattle.ftp_direct.specs.Direct.{State, answer, first_refusal, refusal}
use Rattle.ftp_direct.specs.Refusal.{code_of}
use Rattle.ftp_client_model.specs.Dialogue.{judged}
use Rattle.ftp_client_model.specs.Plan.{count_of}
use Rattle.ftp_client_model.specs.Octets.{content_answer, has_settled}
use Rattle.ftp_client_model.specs.View.{Receiving}
use Rattle.ftp_client_model.specs.declared.client.Abort.TheVariants as Aborts
use Rattle.ftp_client_model.specs.declared.client.Ending.TheVariants as Endings
use Rattle.laws_world.specs.Outcome.{Whole, Cut, Unopened, CanBeCut, IsCutOf, IsShort, cut_by, did, download_of, fetched, mark_in}
use Rattle.laws_world.specs.World.{Mark, Broken, Refused as RefusedLink, counted}
use Rattle.laws_dialogues.specs.Dialogue.{IsSound}
use Rattle.laws_dialogues.specs.Fetches.{Ask, HasAnswer, IsAsk, flow_after, is_filled}
use Rattle.laws_dialogues.proofs.Rows.{answer_known, answer_unknown}
use Rattle.laws_agreement.specs.Stages.{Fared}

-- what the client tells of a text that was cut
abbrev pub cut_said : Ask → List ℕ → Said
cut_said ask came = BrokenOff (decoder_of ask.settings came).content (mark_in (no_octets ask.settings) None came)

module _ (state : State) (ask : Ask) (good : IsAsk ask) where
  abbrev op : Op (List ℕ)
  op = ask.op

  -- ---- refused or whole

  -- an answer of the direct run that changes nothing
  pub whole_fares : (own : List Mark) (said : Said) → ((moment : ℕ) → answer state op moment ≡ (said, state)) → Fared state ask own said
  whole_fares own said is = record { outcome = Whole; can_be = tt; allowed = λ index. tt; did_so = is }

  -- an operation that the direct run refuses fares as refused, with the code of that refusal
  pub refused_fares : (own : List Mark) (why : Refusal) → state.known ≡ true → refusal state op ≡ Some why → Fared state ask own (Refused (code_of why))
  refused_fares own why known is = whole_fares own (Refused (code_of why)) (λ moment. sym (answer_known state op moment (Some why) good.refuses.can known is))

  -- nobody is logged in
  pub unknown_fares : (own : List Mark) → state.known ≡ false → Fared state ask own (Refused 530)
  unknown_fares own unknown = whole_fares own (Refused 530) (λ moment. sym (answer_unknown state op moment good.refuses.can unknown))

  -- an operation that the direct run does not refuse fares with what is said of it whole
  pub said_fares : HasAnswer ask → (own : List Mark) → state.known ≡ true → refusal state op ≡ None → Fared state ask own (ask.said state)
  said_fares answers own known none =
      whole_fares own (ask.said state) (λ moment. sym (answer_known state op moment None good.refuses.can known none) ∙ answers.done_so state moment)

  -- when all octets came, the end was clean and the reply is 226, it is judged as what is said of it whole
  pub judged_whole : HasAnswer ask → (came : List ℕ) (mark : Option ℕ) → IsSound state → state.known ≡ true → ask.why state ≡ None → came ≡ ask.wire state
      → judged Endings.Clean Aborts.Unsent 226 op (Receiving (decoder_of ask.settings came) mark) ≡ Some (ask.said state)
  judged_whole answers came mark sound known none is =
      ap (λ w. judged Endings.Clean Aborts.Unsent 226 op (Receiving (decoder_of ask.settings w) mark)) is ∙ answers.whole state mark sound known none

  -- ---- cut

  -- of a Peek that has not enough fewer octets are settled than it asks for
  short_of : (count : Option ℕ) (octets : List ℕ) (settings : Representation) (came : List ℕ) → has_settled count (flow_after settings came) ≡ false
      → (decoder_of settings came).content ≡ octets → IsShort count octets
  short_of None octets settings came short is = tt
  short_of (Some count) octets settings came short is = subst (λ l. length l < count) is (leb-false count (length (decoder_of settings came).content) short)

  -- an operation that is not refused can be cut at each front of its octets
  can_be_cut : HasAnswer ask → (came : List ℕ) → state.known ≡ true → refusal state op ≡ None → ask.why state ≡ None → IsFront came (ask.wire state)
      → is_filled op ask.settings came ≡ false → CanBeCut state op came
  can_be_cut answers came known none taken front short =
      let t = answers.sent_so state taken in
      let first : first_refusal state op ≡ None = ap (λ (b : Bool). if b then refusal state op else Some Refusals.NotLoggedIn) known ∙ none in
      let whole : IsCutOf None (Some (record (fetched ask.settings t.start t.octets) { asked = count_of op })) state came =
      (subst (IsFront came) (sym t.text) front, short_of (count_of op) _ ask.settings came short (what_is_settled ask.settings came)) in (
        (good.refuses.can, inl first),
        subst (λ up. IsCutOf up (download_of state op) state came) (sym (answers.no_upload state))
            (subst (λ down. IsCutOf None down state came) (sym t.down) whole),
      )

  -- what the client tells of a text that was cut; a Peek that has enough has its answer all the same
  abbrev pub cut_told : List ℕ → Said
  cut_told came = if is_filled op ask.settings came then ask.said state else cut_said ask came

  -- behind a break, a 226 and a 426 alike are judged so
  pub judged_cut : HasAnswer ask → (code : ℕ) (came : List ℕ) → (code ≡ 226) ⊎ (code ≡ 426) → IsSound state → ask.why state ≡ None → IsFront came (ask.wire state)
      → judged Endings.Broken Aborts.Unsent code op (flow_after ask.settings came) ≡ Some (cut_told came)
  judged_cut answers code came either sound taken front = elim either [
    | inl is ↦ ap (λ code. judged Endings.Broken Aborts.Unsent code op (flow_after ask.settings came)) is ∙ by_enough (is_filled op ask.settings came) refl
    | inr is ↦ ap (λ code. judged Endings.Broken Aborts.Unsent code op (flow_after ask.settings came)) is ∙ by_enough (is_filled op ask.settings came) refl
  ]
    where
      by_enough : (b : Bool) → is_filled op ask.settings came ≡ b
          → (if b then content_answer op (decoder_of ask.settings came).content else Some (cut_said ask came)) ≡ Some (if b then ask.said state else cut_said ask came)
      by_enough true enough = answers.filled state came sound taken front enough
      by_enough false short = refl

  -- a list of one mark contains it
  pub among_one : (own : List Mark) (mark : Mark) → own ≡ mark ∷ [] → Contains own mark
  among_one own mark is = subst (λ l. Contains l mark) (sym is) (0, omega arith, refl)

  -- an operation cut behind what came says that it broke off there, and leaves the state as it was
  cut_is : HasAnswer ask → (came : List ℕ) (moment : ℕ) → ask.why state ≡ None → did (Cut came) state op moment ≡ (cut_said ask came, state)
  cut_is answers came moment taken =
      let t = answers.sent_so state taken in
      ap (λ up. cut_by up (download_of state op) state moment came) (answers.no_upload state) ∙ ap (λ down. cut_by None down state moment came) t.down
      ∙ ap (λ octets. (BrokenOff octets (mark_in (no_octets ask.settings) None came), state)) settled
    where
      settled : settled_content ask.settings.mode (form_of ask.settings) came ≡ (decoder_of ask.settings came).content
      settled = sym (what_is_settled ask.settings came)

  -- an operation cut at a front of its octets, with the mark of a break there and no other, fares as broken off, or as whole where a Peek has enough
  pub cut_fares : HasAnswer ask → (own : List Mark) (came : List ℕ) → state.known ≡ true → refusal state op ≡ None → ask.why state ≡ None → IsFront came (ask.wire state)
      → own ≡ Broken (counted (length came)) ∷ [] → Fared state ask own (cut_told came)
  cut_fares answers own came known none taken front marked = by_enough (is_filled op ask.settings came) refl
    where
      by_enough : (b : Bool) → is_filled op ask.settings came ≡ b → Fared state ask own (if b then ask.said state else cut_said ask came)
      by_enough true enough = said_fares answers own known none
      by_enough false short = record {
        outcome = Cut came;
        can_be = can_be_cut answers came known none taken front short;
        allowed = λ index. (tt, among_one own (Broken (counted (length came))) marked);
        did_so = λ moment. cut_is answers came moment taken;
      }

  -- ---- not opened

  -- an operation whose one mark is a refused link fares as not opened
  pub refused_link_fares : (own : List Mark) → own ≡ RefusedLink ∷ [] → Fared state ask own NotOpened
  refused_link_fares own marked =
      record { outcome = Unopened; can_be = ap is_some good.plan.how_is; allowed = λ index. (tt, inl (among_one own RefusedLink marked)); did_so = λ moment. refl }

  -- an operation whose one mark is a break before any octet fares as not opened
  pub broken_link_fares : (own : List Mark) → own ≡ Broken 0 ∷ [] → Fared state ask own NotOpened
  broken_link_fares own marked =
      record { outcome = Unopened; can_be = ap is_some good.plan.how_is; allowed = λ index. (tt, inr (among_one own (Broken 0) marked)); did_so = λ moment. refl }
