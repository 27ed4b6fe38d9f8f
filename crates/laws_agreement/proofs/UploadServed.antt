-- The client closes the link of an upload behind its last octet, and the server that of one that it refused.
use Rattle.std.proofs.Common.{◌≡◌, inr, ℕ, Bool, true, false, List, [], ◌∷◌, Option, None, refl, sym, ap, subst, ◌∙◌}
use Rattle.std.specs.Prelude.{if◌then◌else◌}
use Rattle.ftp_ends.specs.declared.link.Wants.TheVariants as Want
use Rattle.ftp_direct.specs.declared.refusal.Refusal.{Refusal}
use Rattle.ftp_direct.specs.Direct.{State}
use Rattle.ftp_client_model.specs.Calls as near
use Rattle.ftp_client_model.specs.Calls.{is_sound, link_wants, report_of, report_of_job}
use Rattle.ftp_client_model.specs.declared.client.ClientLink.TheVariants as NearData
use Rattle.ftp_client_model.specs.declared.client.Ending.TheVariants as Endings
use Rattle.ftp_client_model.specs.declared.client.Replied.TheVariants as Replies
use Rattle.ftp_server_model.specs.Machine.{Reading}
use Rattle.ftp_server_model.specs.Replies.{fixed_reply}
use Rattle.ftp_server_model.specs.Walk.{refusal_text}
use Rattle.laws_world.specs.Serving.{after_event, collected, far_served, link_closed_by_near, near_served, near_served_by}
use Rattle.laws_world.specs.World.{World, Opened, ClosedByNear, Mark}
use Rattle.laws_dialogues.specs.Fetches.{Ask, HasPlan, Rise, busy}
use Rattle.laws_dialogues.specs.Stage.{Way, Answering}
use Rattle.laws_dialogues.specs.Uploads.{Note, note_replies}
use Rattle.laws_agreement.specs.Cut.{Cut, world_at, Fits, PlacedAt}
use Rattle.laws_agreement.specs.Rising.{Lift, Risen, Declined, Closing, Shut, sending}
use Rattle.laws_agreement.specs.Stages.{Rises, Holds, AtFetch}
use Rattle.laws_agreement.proofs.FetchLink.{Leads, near_acts}
use Rattle.laws_agreement.proofs.FetchServed.{Served, closed_base, link_closes}
use Rattle.laws_agreement.proofs.Placing.{at_stage}
use Rattle.laws_agreement.proofs.Rests.{after_rests, near_form, near_rests}
use Rattle.laws_agreement.proofs.Still.{seen_at, seen_placed}
use Rattle.laws_agreement.proofs.UploadRests.{lift_rests}

module _ (read : Reading) (state : State) (ask : Ask) (plan : HasPlan ask) (own : List Mark) (rise : Rise) where
  abbrev At : Way → World → Type 0
  At way b = AtFetch state ask read own way b

  abbrev Stands : Lift → Way → World → Type 0
  Stands lift way b = Holds state ask own (Rises rise lift) way b

  -- both ends where the client has closed the link
  abbrev gone_base : Option ℕ → World → World
  gone_base mark b = record b { near = busy (sending ask.op Replies.Begun [] mark) (NearData.Over Endings.Ours) b.near; link = ClosedByNear }

  -- it closes the link, whatever it has heard of answers to markers
  gave_closes : (mark : Option ℕ) (notes : List Note) (b : World) (c : Cut) → Fits (Answering (note_replies notes)) c
      → b.near ≡ record (busy (sending ask.op Replies.Begun [] mark) (NearData.Over Endings.Ours) b.near) { closing = true } → b.link ≡ Opened
      → near_served (world_at b (Answering (note_replies notes)) c) ≡ world_at (gone_base mark b) (Answering (note_replies notes)) c
  unfolding near.wants
  gave_closes mark notes b c fits near_is link =
      let way : Way = Answering (note_replies notes) in
      let w : World = world_at b way c in
      let to : World = gone_base mark b in
      let seen = seen_at b way c fits in
      let closing : w.near.closing ≡ true = seen.closing ∙ ap (λ v. v.closing) near_is in
      let leads : Leads near.data_closed b.near to.near = subst (λ v. Leads near.data_closed v to.near) (sym near_is) (λ ear gathered owed. refl) in
      ap (λ (closes : Bool). near_served_by (if closes then Want.CloseData else (if is_sound w.near.standing then link_wants w.near.connection w.near else Want.CloseAll)) w) closing
      ∙ ap (λ l. link_closed_by_near l (record w { near = near.data_closed w.near })) link
      ∙ (λ i. record w { near = near_acts near.data_closed b to way c fits leads i; link = ClosedByNear })

  -- where the client is to close the link it does, and that lift lasts
  pub risen_closes : (past : Bool) (came queue : List ℕ) (mark : Option ℕ) (notes : List Note) (w : World) → (s : PlacedAt At w) → Stands (Risen past false came queue mark notes) s.way s.base
      → Served read state ask plan own w (after_event w)
  risen_closes past came queue mark notes w s h =
      let way : Way = Answering (note_replies notes) in
      let fits : Fits way s.cut = subst (λ way. Fits way s.cut) h.way_is s.fits in
      let is : w ≡ world_at s.base way s.cut = s.is ∙ ap (λ way. world_at s.base way s.cut) h.way_is in
      let to : World = gone_base mark s.base in
      let new : World = world_at to way s.cut in
      let closes : near_served w ≡ new = ap near_served is ∙ gave_closes mark notes s.base s.cut fits h.near h.link in
      let stands : Stands (Risen past true came queue mark notes) way to = at_stage refl h.session h.steady h.timed h.ready refl h.to_server h.to_client
      h.came h.marked refl h.fine in
      let rests = lift_rests state ask own rise (Risen past true came queue mark notes) to new way (seen_at to way s.cut fits) stands refl in
      let behind : World → World = λ u. collected (far_served (far_served (far_served (near_served (near_served u))))) in
      let new_is : after_event w ≡ new = ap behind closes ∙ ap behind (sym rests.near) ∙ after_rests new rests in
      record {
        placed = record { base = to; way = way; cut = s.cut; is = new_is; fits = fits; here = inr (Rises rise (Risen past true came queue mark notes), stands) };
        lasts = refl;
        marks = ap (λ u. u.marks) new_is ∙ sym (ap (λ u. u.marks) is);
        reports = ap (λ u. u.reports) new_is ∙ sym (ap (λ u. u.reports) is);
        control = ap (λ u. u.control) new_is ∙ sym (ap (λ u. u.control) is);
        cutoff = ap (λ u. u.cutoff) new_is ∙ sym (ap (λ u. u.cutoff) is);
      }

  -- where the server has refused and is to close the link it does, and that lift lasts
  pub declined_closes : (why : Refusal) (w : World) → (s : PlacedAt At w) → Stands (Declined why Closing) s.way s.base → Served read state ask plan own w (after_event w)
  unfolding near.wants
  declined_closes why w s h =
      let seen = seen_placed At w s in
      let rows = fixed_reply (refusal_text why) ∷ [] in
      let is : w ≡ world_at s.base (Answering rows) s.cut = s.is ∙ ap (λ way. world_at s.base way s.cut) h.way_is in
      let near : near_served w ≡ w = near_rests w _ _ (near_form s.base w seen _ _ h.near) refl in
      let none : report_of w.near ≡ None = ap report_of_job (seen.job ∙ ap (λ v. v.job) h.near) in
      let new_is : after_event w ≡ world_at (closed_base read state ask plan own s.base) (Answering rows) s.cut = link_closes read state ask plan own w s.base rows s.cut is near none h.session h.link in
      record {
        placed = record {
          base = closed_base read state ask plan own s.base;
          way = Answering rows;
          cut = s.cut;
          is = new_is;
          fits = subst (λ way. Fits way s.cut) h.way_is s.fits;
          here = inr (
            Rises rise (Declined why Shut),
            at_stage h.near refl h.steady h.timed h.ready refl h.to_server h.to_client tt h.marked refl h.fine,
          );
        };
        lasts = refl;
        marks = ap (λ u. u.marks) new_is ∙ sym (ap (λ u. u.marks) is);
        reports = ap (λ u. u.reports) new_is ∙ sym (ap (λ u. u.reports) is);
        control = ap (λ u. u.control) new_is ∙ sym (ap (λ u. u.control) is);
        cutoff = ap (λ u. u.cutoff) new_is ∙ sym (ap (λ u. u.cutoff) is);
      }
