-- The server hears ABOR, the link of a Peek that has sent it breaks, or the client is told of its end.
use Rattle.std.proofs.Common.{◌≡◌, inl, inr, ℕ, ◌≤◌, Bool, true, false, List, [], ◌∷◌, ◌++◌, length, Some, refl, sym, ap, subst, ◌∙◌, arith}
use Rattle.std.specs.Prelude.{nat_le}
use Rattle.std.proofs.lemmas.Bool.{le-leb}
use Rattle.ftp_ends.specs.Reply.{reply_octets}
use Rattle.ftp_operation.specs.Answer.{Said}
use Rattle.ftp_operation.specs.declared.op.Op.{Op}
use Rattle.ftp_settings.specs.declared.representation.Representation.{Representation}
use Rattle.ftp_direct.specs.Direct.{State}
use Rattle.ftp_wire.specs.Decoder.{decoder_of}
use Rattle.ftp_client_model.specs.Calls as near
use Rattle.ftp_client_model.specs.Dialogue.{finishes_read}
use Rattle.ftp_client_model.specs.Octets.{content_answer}
use Rattle.ftp_client_model.specs.View.{View as Near}
use Rattle.ftp_client_model.specs.declared.client.Abort.TheVariants as Aborts
use Rattle.ftp_client_model.specs.declared.client.ClientLink.TheVariants as NearData
use Rattle.ftp_client_model.specs.declared.client.Ending.TheVariants as Endings
use Rattle.ftp_client_model.specs.declared.client.Replied.TheVariants as Replies
use Rattle.ftp_server_model.specs.Machine.{Reading, IsReading}
use Rattle.ftp_server_model.specs.Replies.{fixed_reply}
use Rattle.ftp_server_model.specs.View.{View as Far}
use Rattle.ftp_server_model.specs.declared.reply.FixedReply.TheVariants as Texts
use Rattle.ftp_server_model.specs.declared.session.ServerLink.TheVariants as FarData
use Rattle.ftp_server_model.specs.declared.session.Pending.TheVariants as Pendings
use Rattle.laws_world.specs.Events.{ControlToServer, DataToClient, broken_by, is_closed_by_far, is_gone, link_breaks, pushed, told}
use Rattle.laws_world.specs.World.{World, Gone, ClosedByFar, Mark, Broken, gone, marked_last, with_mark}
use Rattle.laws_dialogues.specs.Fetches.{Ask, busy, leaving, linked}
use Rattle.laws_dialogues.specs.Peeks.{halting}
use Rattle.laws_dialogues.proofs.PeekTurns.{aborts_free, aborts_giving}
use Rattle.laws_agreement.specs.Crossing.{AreCut, Cuts, crossing_at}
use Rattle.laws_agreement.specs.Cut.{Flows, FlowsRow, coming}
use Rattle.laws_agreement.specs.PeekStages.{AtHalt, Gave, Gives, Halt, Halted, Halts, abort_rows, final_code, final_heard, final_rows, halt_asked, halt_near, halt_rows, is_halt_passing}
use Rattle.laws_agreement.specs.Stages.{Closed, Gap, Lost, Unclosed, gap_tie, is_parting}
use Rattle.laws_agreement.proofs.Chunks.{both_empty}
use Rattle.laws_agreement.proofs.CrossKeeps.{owed_within, HearsAbort, HearsPart, pushes_up}
use Rattle.laws_agreement.proofs.FetchEvents.{no_link_stands, not_left}
use Rattle.laws_agreement.proofs.FetchReplies.{none_more}
use Rattle.laws_agreement.proofs.PeekBegins.{halt_at}
use Rattle.laws_agreement.proofs.FetchLink.{Leads, far_linked, giving_breaks, hearing}
use Rattle.laws_agreement.proofs.Keeps.{no_push_to_server}
use Rattle.laws_agreement.proofs.PeekHears.{OnOrTold, told_at}
use Rattle.laws_agreement.proofs.PeekLink.{abort_over, fixed, one_more}
use Rattle.laws_agreement.proofs.Placing.{at_halt, at_stage}
use Rattle.laws_agreement.proofs.Still.{no_octets}

-- ---- the client's calls

module _ (op : Op (List ℕ)) (settings : Representation) (came : List ℕ) (n : Near) where
  -- the link breaks behind ABOR
  breaks_so : (whole heard : Bool)
      → Leads near.data_fault (busy (halting op (final_heard whole heard) Aborts.Sent settings came) NearData.Open n)
      (busy (halting op (final_heard whole heard) Aborts.Sent settings came) (NearData.Over Endings.Broken) n)
  unfolding near.data_fault
  breaks_so whole true ear gathered owed = refl
  breaks_so whole false ear gathered owed = refl

  -- or ends
  ends_so : (whole heard : Bool)
      → Leads near.data_end (busy (halting op (final_heard whole heard) Aborts.Sent settings came) NearData.Open n)
      (busy (halting op (final_heard whole heard) Aborts.Sent settings came) (NearData.Over Endings.Clean) n)
  unfolding near.data_end
  ends_so whole true ear gathered owed = refl
  ends_so whole false ear gathered owed = refl

  -- behind both replies the answer is told
  told_breaks : (code : ℕ) (said : Said) → content_answer op (decoder_of settings came).content ≡ Some said
      → Leads near.data_fault (busy (halting op (Replies.Final code) Aborts.Answered settings came) NearData.Open n) (leaving said false n)
  unfolding near.data_fault
  told_breaks code said is ear gathered owed =
      ap (λ o. finishes_read o (hearing ear gathered owed
      (busy (halting op (Replies.Final code) Aborts.Answered settings came) (NearData.Over Endings.Broken) n))) is

  told_ends : (code : ℕ) (said : Said) → content_answer op (decoder_of settings came).content ≡ Some said
      → Leads near.data_end (busy (halting op (Replies.Final code) Aborts.Answered settings came) NearData.Open n) (leaving said false n)
  unfolding near.data_end
  told_ends code said is ear gathered owed =
      ap (λ o. finishes_read o (hearing ear gathered owed
      (busy (halting op (Replies.Final code) Aborts.Answered settings came) (NearData.Over Endings.Clean) n))) is

module _ (read : Reading) (reads : IsReading read) (state : State) (ask : Ask) (own : List Mark) where
  abbrev Stands : List Mark → Halt → Said → (came queue : List ℕ) → World → Type 0
  Stands own halt said came queue b = Halts state ask own halt said came queue b

  abbrev OnWay : World → Type 0
  OnWay w = AtHalt state ask own w

  -- ---- the server hears ABOR

  -- it gives no more, and owes 426 and the reply to ABOR
  gives_aborted : (octet : ℕ) (more : List ℕ) (said : Said) (came queue : List ℕ) (b w : World) (c : Cuts) → AreCut true [] c
      → Stands own (Gives octet more) said came queue b
      → (n : ℕ) → w ≡ pushed read ControlToServer n (crossing_at b c) → HearsAbort read n b c → OnWay w
  gives_aborted octet more said came queue b w c fits h n is heard =
      let f : Far = far_linked (linked FarData.Free true Pendings.Nothing b.far.session) b.far in
      let owed : List ℕ = (c.down.owed ++ reply_octets (fixed_reply Texts.Broken)) ++ reply_octets (fixed_reply Texts.AbortDone) in
      let one = one_more true [] (fixed_reply Texts.Broken) c (fixed read state ask own b.far Texts.Broken) fits in
      let two = one_more true (fixed_reply Texts.Broken ∷ []) (fixed_reply Texts.AbortDone) _ (fixed read state ask own b.far Texts.AbortDone) one in
      halt_at state ask own w (Gave false false false Unclosed) said came queue (record b { far = f })
      (record c { up = no_octets; down = record c.down { owed = owed } })
      (is ∙ heard ∙ ap (λ v. record b {
        near = record b.near { ear = c.ear; gathered = c.gathered; owed = [] };
        far = v;
        control_to_server = [];
        control_to_client = c.down.moving;
      }) (aborts_giving read reads b.far c.down.owed ask.listed octet more h.session))
      (abort_over (fixed_reply Texts.Broken ∷ fixed_reply Texts.AbortDone ∷ []) _ two)
      (at_halt h.near refl h.steady h.timed h.link h.to_server h.to_client tt h.marked h.settled h.fares)

  -- what it owes of the final reply leaves room for the reply to ABOR
  has_room : (whole heard : Bool) (c : Cuts) → FlowsRow (final_rows whole heard []) c.down.held (coming c.down) → nat_le (length c.down.owed) 4096 ≡ true
  has_room whole heard c flow = le-leb (length c.down.owed) 4096 (by_heard whole heard flow)
    where
      of_reply : (octets : List ℕ) → length octets ≤ 4096 → Flows octets c.down.held (coming c.down) [] → length c.down.owed ≤ 4096
      of_reply octets few flow = let within = owed_within octets c.down flow in omega (arith, few, within)

      by_heard : (whole heard : Bool) → FlowsRow (final_rows whole heard []) c.down.held (coming c.down) → length c.down.owed ≤ 4096
      by_heard whole true flow = let none : length c.down.owed ≡ 0 = ap length (both_empty c.down.moving c.down.owed flow.1).1 in omega (arith, none)
      by_heard true false flow = of_reply (reply_octets (fixed_reply Texts.Complete)) (omega arith) flow
      by_heard false false flow = of_reply (reply_octets (fixed_reply Texts.Broken)) (omega arith) flow

  -- where it gave all, it owes the reply to ABOR alone
  gave_aborted : (whole heard : Bool) (gap : Gap) (said : Said) (came queue : List ℕ) (b w : World) (c : Cuts) → AreCut true (final_rows whole heard []) c
      → Stands own (Gave whole heard true gap) said came queue b → (n : ℕ) → w ≡ pushed read ControlToServer n (crossing_at b c) → HearsAbort read n b c
      → OnWay w
  gave_aborted whole heard gap said came queue b w c fits h n is hears =
      let owed : List ℕ = c.down.owed ++ reply_octets (fixed_reply Texts.AbortDone) in
      let f : Far = far_linked (linked FarData.Free (is_parting (gap_tie gap)) Pendings.Nothing b.far.session) b.far in
      let one = one_more true (final_rows whole heard []) (fixed_reply Texts.AbortDone) c (fixed read state ask own b.far Texts.AbortDone) fits in
      halt_at state ask own w (Gave whole heard false gap) said came queue (record b { far = f })
      (record c { up = no_octets; down = record c.down { owed = owed } })
      (is ∙ hears ∙ ap (λ v. record b {
        near = record b.near { ear = c.ear; gathered = c.gathered; owed = [] };
        far = v;
        control_to_server = [];
        control_to_client = c.down.moving;
      }) (aborts_free read reads b.far c.down.owed (is_parting (gap_tie gap)) h.session (has_room whole heard c fits.down)))
      (subst (λ rows. AreCut false rows (record c { up = no_octets; down = record c.down { owed = owed } })) (rows_are heard)
      (abort_over (final_rows whole heard [] ++ fixed_reply Texts.AbortDone ∷ []) _ one))
      (on gap h)
    where
      rows_are : (heard : Bool) → final_rows whole heard [] ++ fixed_reply Texts.AbortDone ∷ [] ≡ final_rows whole heard (abort_rows false)
      rows_are true = refl
      rows_are false = refl

      on : (gap : Gap) → Stands own (Gave whole heard true gap) said came queue b
          → Stands own (Gave whole heard false gap) said came queue
          (record b { far = far_linked (linked FarData.Free (is_parting (gap_tie gap)) Pendings.Nothing b.far.session) b.far })
      on Unclosed h = at_halt h.near refl h.steady h.timed h.link h.to_server h.to_client tt h.marked h.settled h.fares
      on Closed h = at_halt h.near refl h.steady h.timed h.link h.to_server h.to_client tt h.marked h.settled h.fares
      on (Lost clean) h = at_halt h.near refl h.steady h.timed h.link h.to_server h.to_client h.empty h.marked h.settled h.fares

  -- the server takes octets of ABOR
  pub halt_pushes_up : (n : ℕ) (w : World) → OnWay w → OnWay (pushed read ControlToServer n w)
  halt_pushes_up n w a = by_halt a.halt a.fits a.here
    where
      is : pushed read ControlToServer n w ≡ pushed read ControlToServer n (crossing_at a.base a.cuts)
      is = ap (λ u. pushed read ControlToServer n u) a.is

      -- ABOR is not on its way
      none : (halt : Halt) → AreCut false (halt_rows halt) a.cuts → halt_asked halt ≡ false → Stands own halt a.said a.came a.queue a.base
          → OnWay (pushed read ControlToServer n w)
      none halt fits asked h =
          halt_at state ask own _ halt a.said a.came a.queue a.base a.cuts (is ∙ no_push_to_server read n (crossing_at a.base a.cuts) fits.up.1)
          (subst (λ asked. AreCut asked (halt_rows halt) a.cuts) (sym asked) fits) h

      -- or some of it is still to come
      part : (halt : Halt) → AreCut true (halt_rows halt) a.cuts → halt_asked halt ≡ true → Stands own halt a.said a.came a.queue a.base
          → HearsPart read n a.base a.cuts
          → OnWay (pushed read ControlToServer n w)
      part halt fits asked h p =
          halt_at state ask own _ halt a.said a.came a.queue a.base (record a.cuts { up = p.up }) (is ∙ p.is)
          (subst (λ asked. AreCut asked (halt_rows halt) (record a.cuts { up = p.up })) (sym asked)
          (record { up = p.flows; written = fits.written; down = fits.down; heard = fits.heard })) h

      by_halt : (halt : Halt) → AreCut (halt_asked halt) (halt_rows halt) a.cuts → Stands own halt a.said a.came a.queue a.base
          → OnWay (pushed read ControlToServer n w)
      by_halt (Gives octet more) fits h = elim (pushes_up read n a.base a.cuts fits.up) [
        | inl p ↦ part (Gives octet more) fits refl h p
        | inr all ↦ gives_aborted octet more a.said a.came a.queue a.base _ a.cuts fits h n is all
      ]
      by_halt (Gave whole heard true gap) fits h = elim (pushes_up read n a.base a.cuts fits.up) [
        | inl p ↦ part (Gave whole heard true gap) fits refl h p
        | inr all ↦ gave_aborted whole heard gap a.said a.came a.queue a.base _ a.cuts fits h n is all
      ]
      by_halt (Gave whole heard false gap) fits h = none (Gave whole heard false gap) fits refl h
      by_halt (Halted whole left) fits h = none (Halted whole left) fits refl h

  -- ---- a break

  -- behind no marks one more is one
  one_mark : (mark : Mark) → own ≡ [] → length (own ++ mark ∷ []) ≤ 1
  one_mark mark is = subst (λ l. length (l ++ mark ∷ []) ≤ 1) (sym is) (omega arith)

  abbrev Marked : World → List Mark
  Marked b = own ++ Broken b.came ∷ []

  -- the base behind a break
  abbrev behind_break : Near → Far → World → World
  behind_break n f b =
      record b { near = n; far = f; link = Gone; data_to_server = []; data_to_client = []; marks = marked_last (Broken b.came) b.marks }

  -- the server was giving: it owes a 426
  gives_broken : (octet : ℕ) (more : List ℕ) (said : Said) (came queue : List ℕ) (b : World) (c : Cuts) → AreCut true [] c
      → Stands own (Gives octet more) said came queue b
      → AtHalt state ask (Marked b) (link_breaks (crossing_at b c))
  gives_broken octet more said came queue b c fits h =
      let n : Near = halt_near state ask (Gave false false true (Lost false)) came b.near in
      let f : Far = far_linked (linked FarData.Free false Pendings.Nothing b.far.session) b.far in
      let leads = subst (λ v. Leads near.data_fault v n) (sym h.near) (breaks_so ask.op ask.settings came b.near false false) in
      halt_at state ask (Marked b) _ (Gave false false true (Lost false)) said came [] (behind_break n f b)
      (record c { down = record c.down { owed = c.down.owed ++ reply_octets (fixed_reply Texts.Broken) } })
      (ap (λ link. with_mark (Broken b.came) (gone (broken_by link (crossing_at b c)))) h.link
      ∙ (λ i. record (crossing_at (behind_break n f b) c) {
        near = leads c.ear c.gathered c.up.owed i;
        far = giving_breaks ask.listed b.far Pendings.Nothing octet more h.session (crossing_at b c).far.ear c.down.owed i;
      }))
      (one_more true [] (fixed_reply Texts.Broken) c (fixed read state ask own b.far Texts.Broken) fits)
      (at_halt refl refl h.steady h.timed refl refl refl refl (one_mark (Broken b.came) h.marked) h.settled h.fares)

  -- the server had closed the link
  closed_breaks : (b : World) (c : Cuts) (n : Near) → b.link ≡ ClosedByFar → Leads near.data_fault b.near n
      → link_breaks (crossing_at b c) ≡ crossing_at (behind_break n b.far b) c
  closed_breaks b c n link leads =
      ap (λ link. with_mark (Broken b.came) (gone (broken_by link (crossing_at b c)))) link
      ∙ ap (λ v. record (crossing_at (behind_break n b.far b) c) { near = v }) (leads c.ear c.gathered c.up.owed)

  -- a break where nothing is to be closed
  pub halt_breaks : (w : World) → (a : OnWay w) → is_halt_passing a.halt ≡ false → is_gone w.link ≡ false
      → OnOrTold read state ask (Marked a.base) (link_breaks w)
  halt_breaks w a lasts some =
      subst (λ u. OnOrTold read state ask (Marked a.base) (link_breaks u)) (sym a.is)
      (by_halt a.halt a.fits a.here lasts (subst (λ u. is_gone u.link ≡ false) a.is some))
    where
      by_halt : (halt : Halt) → AreCut (halt_asked halt) (halt_rows halt) a.cuts → Stands own halt a.said a.came a.queue a.base
          → is_halt_passing halt ≡ false → is_gone a.base.link ≡ false
          → OnOrTold read state ask (Marked a.base) (link_breaks (crossing_at a.base a.cuts))
      by_halt (Gives octet more) fits h lasts some = inl (gives_broken octet more a.said a.came a.queue a.base a.cuts fits h)
      by_halt (Gave whole heard asked Unclosed) fits h lasts some = absurd (cc)
      by_halt (Gave whole heard asked Closed) fits h lasts some =
          let n : Near = halt_near state ask (Gave whole heard asked (Lost false)) a.came a.base.near in
          inl (halt_at state ask (Marked a.base) _ (Gave whole heard asked (Lost false)) a.said a.came [] (behind_break n a.base.far a.base) a.cuts
          (closed_breaks a.base a.cuts n h.link (subst (λ v. Leads near.data_fault v n) (sym h.near)
          (breaks_so ask.op ask.settings a.came a.base.near whole heard))) fits
          (at_halt refl h.session h.steady h.timed refl refl refl refl (one_mark (Broken a.base.came) h.marked) h.settled h.fares))
      by_halt (Gave whole heard asked (Lost clean)) fits h lasts some = absurd (no_link_stands a.base.link h.link some)
      by_halt (Halted whole false) fits h lasts some = absurd (cc)
      by_halt (Halted whole true) fits h lasts some =
          let n : Near = leaving a.said false a.base.near in
          inr (told_at read state ask (Marked a.base) _ (behind_break n a.base.far a.base) a.cuts a.said
          (closed_breaks a.base a.cuts n h.link (subst (λ v. Leads near.data_fault v n) (sym h.near)
          (told_breaks ask.op ask.settings a.came a.base.near (final_code whole) a.said h.settled))) fits
          (at_stage refl h.session h.steady h.timed tt refl refl refl tt (one_mark (Broken a.base.came) h.marked) refl (h.fares (Marked a.base), refl)))

  -- ---- the end

  -- the base behind it
  abbrev behind_end : Near → World → World
  behind_end n b = record b { near = n; link = Gone; data_to_server = []; data_to_client = [] }

  -- the client is told
  closed_ends : (b : World) (c : Cuts) (n : Near) → Leads near.data_end b.near n → told DataToClient (crossing_at b c) ≡ crossing_at (behind_end n b) c
  closed_ends b c n leads = ap (λ v. record (crossing_at (behind_end n b) c) { near = v }) (leads c.ear c.gathered c.up.owed)

  -- the client is told that the server has closed the link
  pub halt_ends : (w : World) → (a : OnWay w) → is_halt_passing a.halt ≡ false → is_closed_by_far w.link ≡ true
      → OnOrTold read state ask own (told DataToClient w)
  halt_ends w a lasts left =
      subst (λ u. OnOrTold read state ask own (told DataToClient u)) (sym a.is)
      (by_halt a.halt a.fits a.here lasts (subst (λ u. is_closed_by_far u.link ≡ true) a.is left))
    where
      by_halt : (halt : Halt) → AreCut (halt_asked halt) (halt_rows halt) a.cuts → Stands own halt a.said a.came a.queue a.base
          → is_halt_passing halt ≡ false → is_closed_by_far a.base.link ≡ true
          → OnOrTold read state ask own (told DataToClient (crossing_at a.base a.cuts))
      by_halt (Gives octet more) fits h lasts left = absurd (not_left a.base.link _ h.link refl left)
      by_halt (Gave whole heard asked Unclosed) fits h lasts left = absurd (cc)
      by_halt (Gave whole heard asked Closed) fits h lasts left =
          let n : Near = halt_near state ask (Gave whole heard asked (Lost true)) a.came a.base.near in
          inl (halt_at state ask own _ (Gave whole heard asked (Lost true)) a.said a.came [] (behind_end n a.base) a.cuts
          (closed_ends a.base a.cuts n (subst (λ v. Leads near.data_end v n) (sym h.near) (ends_so ask.op ask.settings a.came a.base.near whole heard))) fits
          (at_halt refl h.session h.steady h.timed refl refl refl refl (none_more own h.marked) h.settled h.fares))
      by_halt (Gave whole heard asked (Lost clean)) fits h lasts left = absurd (not_left a.base.link _ h.link refl left)
      by_halt (Halted whole false) fits h lasts left = absurd (cc)
      by_halt (Halted whole true) fits h lasts left =
          let n : Near = leaving a.said false a.base.near in
          inr (told_at read state ask own _ (behind_end n a.base) a.cuts a.said
          (closed_ends a.base a.cuts n (subst (λ v. Leads near.data_end v n) (sym h.near)
          (told_ends ask.op ask.settings a.came a.base.near (final_code whole) a.said h.settled))) fits
          (at_stage refl h.session h.steady h.timed tt refl refl refl tt (none_more own h.marked) refl (h.fares own, refl)))
