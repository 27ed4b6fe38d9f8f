-- Ends and breaks of the link lead what was asked for from a stage to a stage.
use Rattle.std.proofs.Common.{◌≡◌, inl, inr, ℕ, ◌≤◌, Bool, true, false, List, [], ◌∷◌, ◌++◌, length, None, refl, sym, ap, subst, ◌∙◌, append-nil, arith}
use Rattle.ftp_wire.specs.Decoder.{no_octets}
use Rattle.ftp_ends.specs.Ear.{quiet}
use Rattle.ftp_ends.specs.Reply.{reply_octets}
use Rattle.ftp_direct.specs.declared.refusal.Refusal.{Refusal}
use Rattle.ftp_operation.specs.Answer.{Said}
use Rattle.ftp_operation.specs.declared.op.Op.{Op}
use Rattle.ftp_direct.specs.Direct.{State}
use Rattle.ftp_client_model.specs.Calls as near
use Rattle.ftp_client_model.specs.View.{View as Near}
use Rattle.ftp_server_model.specs.Machine.{Reading}
use Rattle.ftp_server_model.specs.Replies.{fixed_reply}
use Rattle.ftp_server_model.specs.View.{View as Far}
use Rattle.ftp_server_model.specs.declared.reply.ReplyKind.TheVariants as Kinds
use Rattle.ftp_server_model.specs.declared.reply.FixedReply.TheVariants as Texts
use Rattle.ftp_server_model.specs.declared.session.ServerLink.TheVariants as FarData
use Rattle.ftp_server_model.specs.declared.session.Pending.TheVariants as Pendings
use Rattle.ftp_server_model.proofs.RepliesWritten.{replies_are_written}
use Rattle.laws_world.specs.Events.{DataToClient, is_gone, is_closed_by_far, link_breaks, told}
use Rattle.laws_world.specs.Outcome.{mark_in}
use Rattle.laws_world.specs.World.{World, Link, Gone, Mark, Broken, counted}
use Rattle.laws_dialogues.specs.Dialogue.{IsSound}
use Rattle.laws_dialogues.specs.Fetches.{Ask, IsAsk, carrying, linked, offset_pending}
use Rattle.laws_dialogues.specs.Stage.{Way, Answering}
use Rattle.laws_agreement.specs.Cut.{Cut, Fits, world_at, PlacedAt}
use Rattle.laws_agreement.specs.Stages as Stages
use Rattle.laws_agreement.specs.Stages.{Sent, Granted, Denied, NoReply, OneReply, BothReplies, heard_by, Unclosed, Closed, Lost, Course, Giving, Given, Ended, Severed, Refusing, Unopened, replies_in, Restart, no_link, Stage, PortAsked, PortTold, Dials, Restarts, Retrieves, Carries, Rises, Tells, Answers, is_passing, Holds, AtFetch, Dialled, Ported, PortWanted, PortSaid, PortTaken, PortDenied, Awaits, Unaccepted, Dismissed}
use Rattle.laws_agreement.proofs.Breaks.{behind_break, giving_break, left_breaks, left_ends, opened_breaks}
use Rattle.laws_agreement.proofs.Fates.{said_fares, judged_whole, judged_cut, cut_told, cut_fares}
use Rattle.laws_agreement.proofs.FetchLink.{Leads, fits_more, offer_breaks, rest_breaks, near_ends, near_breaks, near_ends_all, near_breaks_all, far_linked, ready_breaks, giving_breaks}
use Rattle.laws_agreement.proofs.Placing.{at_stage}
use Rattle.laws_agreement.proofs.UploadEvents.{lift_breaks, lift_ends}

-- ---- how the link can't stand

-- a link that stands breaks
pub no_link_stands : (link : Link) → link ≡ Gone → is_gone link ≡ false → ⊥
no_link_stands link is some = let e : true ≡ false = sym (ap is_gone is) ∙ some in cc

-- a link equal to one that the server has not closed is not closed by the server
pub not_left : (link : Link) (other : Link) → link ≡ other → is_closed_by_far other ≡ false → is_closed_by_far link ≡ true → ⊥
not_left link other is none some = let e : true ≡ false = sym some ∙ ap is_closed_by_far is ∙ none in cc

module _ (read : Reading) (state : State) (ask : Ask)
    (good : IsAsk ask) (sound : IsSound state) (own : List Mark) where
  abbrev At : List Mark → Way → World → Type 0
  At own way b = AtFetch state ask read own way b

  abbrev Stands : List Mark → Stage → Way → World → Type 0
  Stands own stage way b = Holds state ask own stage way b

  abbrev op : Op (List ℕ)
  op = ask.op

  abbrev near_at : Stage → Near → Near
  near_at stage n = Stages.near_at state ask stage n

  -- a world placed at a stage
  placed : (own : List Mark) (w b : World) (way : Way) (c : Cut) (stage : Stage) → w ≡ world_at b way c → Fits way c → Stands own stage way b → PlacedAt (At own) w
  placed own w b way c stage is fits h = record { base = b; way = way; cut = c; is = is; fits = fits; here = inr (stage, h) }

  -- behind no marks one more is the only one
  marked_so : (mark : Mark) → own ≡ [] → own ++ mark ∷ [] ≡ mark ∷ []
  marked_so mark is = ap (λ l. l ++ mark ∷ []) is

  -- behind no marks that of a break is the only one, and it counts the octets that came
  broken_so : (b : World) (came : List ℕ) → own ≡ [] → b.came ≡ counted (length came) → own ++ Broken b.came ∷ [] ≡ Broken (counted (length came)) ∷ []
  broken_so b came is count = marked_so (Broken b.came) is ∙ ap (λ n. Broken n ∷ []) count

  abbrev Breaks : Way → World → Cut → Type 0
  Breaks way b c = PlacedAt (At (own ++ Broken b.came ∷ [])) (link_breaks (world_at b way c))

  -- a break of the dialled link while REST is sent or answered leads to the same stage with the link broken
  rest_broken : (at : ℕ) (restart : Restart) (way : Way) (b : World) (c : Cut) → Fits way c → Stands own (Restarts at restart (Dialled true)) way b → Breaks way b c
  rest_broken at restart way b c fits h =
      let n : Near = near_at (Restarts at restart (Dialled false)) b.near in
      let f : Far = far_linked (linked FarData.Free false (Stages.pending_at state ask (Restarts at restart (Dialled true))) b.far.session) b.far in
      placed (own ++ Broken b.came ∷ []) _ (behind_break n f b) way c (Restarts at restart (Dialled false))
      (opened_breaks b way c n f fits h.link (subst (λ v. Leads near.data_fault v n) (sym h.near) (rest_breaks ask.op b.near))
      (ready_breaks b.far (Stages.pending_at state ask (Restarts at restart (Dialled true))) h.session)) fits
      (at_stage refl (by_restart restart) h.steady h.timed h.ready refl refl refl h.came (marked_so (Broken b.came) h.marked ∙ ap (λ k. Broken k ∷ []) h.came)
      h.way_is h.fine)
    where
      by_restart : (restart : Restart)
          → linked FarData.Free false (Stages.pending_at state ask (Restarts at restart (Dialled true))) b.far.session
          ≡ linked FarData.Free false (Stages.pending_at state ask (Restarts at restart (Dialled false))) b.far.session
      by_restart Sent = refl
      by_restart Granted = refl
      by_restart (Denied why) = refl

  -- a break of the dialled link while the own command is on its way leads to the same stage with the link broken
  retr_broken : (way : Way) (b : World) (c : Cut) → Fits way c → Stands own (Retrieves (Dialled true)) way b → Breaks way b c
  retr_broken way b c fits h =
      let n : Near = near_at (Retrieves (Dialled false)) b.near in
      let f : Far = far_linked (linked FarData.Free false (offset_pending ask.offset) b.far.session) b.far in
      placed (own ++ Broken b.came ∷ []) _ (behind_break n f b) way c (Retrieves (Dialled false))
      (opened_breaks b way c n f fits h.link (subst (λ v. Leads near.data_fault v n) (sym h.near) (offer_breaks ask.op (carrying ask.sends ask.settings) b.near))
      (ready_breaks b.far (offset_pending ask.offset) h.session)) fits
      (at_stage refl refl h.steady h.timed h.ready refl refl refl h.came (marked_so (Broken b.came) h.marked ∙ ap (λ k. Broken k ∷ []) h.came) h.way_is h.fine)

  abbrev carry : Course → (came queue : List ℕ) → Stage
  carry course came queue = Carries (record { course = course; came = came; queue = queue })

  -- a break while the server gives octets leads to the stage of a severed link, where it owes a 426 more
  giving_broken : (begun : Bool) (octet : ℕ) (more came queue : List ℕ) (b : World) (c : Cut) → Fits (Answering (replies_in (Giving begun octet more))) c
      → Stands own (carry (Giving begun octet more) came queue) (Answering (replies_in (Giving begun octet more))) b → Breaks (Answering (replies_in (Giving begun octet more))) b c
  giving_broken begun octet more came queue b c fits h =
      let n : Near = near_at (carry (Severed begun) came []) b.near in
      let f : Far = far_linked (linked FarData.Free false Pendings.Nothing b.far.session) b.far in
      placed (own ++ Broken b.came ∷ []) _ (behind_break n f b) (Answering (replies_in (Severed begun))) (record c { owed = c.owed ++ reply_octets (fixed_reply Texts.Broken) })
      (carry (Severed begun) came [])
      (giving_break Texts.Broken b (replies_in (Giving begun octet more)) (replies_in (Severed begun)) c n f fits h.link
      (subst (λ v. Leads near.data_fault v n) (sym h.near) (near_breaks ask.op ask.settings came b.near begun))
      (giving_breaks ask.listed b.far Pendings.Nothing octet more h.session quiet c.owed)) (by_begun begun fits)
      (at_stage refl refl h.steady h.timed h.ready refl refl refl h.came (broken_so b came h.marked h.came) refl
      (h.fine.0, ((queue ++ octet ∷ more, h.fine.1), refl)))
    where
      by_begun : (begun : Bool) → Fits (Answering (replies_in (Giving begun octet more))) c
          → Fits (Answering (replies_in (Severed begun))) (record c { owed = c.owed ++ reply_octets (fixed_reply Texts.Broken) })
      by_begun false fits = fits_more (fixed_reply Texts.Opens ∷ []) (fixed_reply Texts.Broken) c (replies_are_written b.far.session (Kinds.Fixed Texts.Broken) (fixed_reply Texts.Broken) tt refl) fits
      by_begun true fits = fits_more [] (fixed_reply Texts.Broken) c (replies_are_written b.far.session (Kinds.Fixed Texts.Broken) (fixed_reply Texts.Broken) tt refl) fits

  -- the server had closed the link
  given_broken : (begun : Bool) (came queue : List ℕ) (way : Way) (b : World) (c : Cut) → Fits way c
      → Stands own (carry (Given (heard_by begun) true) came queue) way b → way ≡ Answering (replies_in (Ended begun false)) → Breaks way b c
  given_broken begun came queue way b c fits h same =
      let n : Near = near_at (carry (Ended begun false) came []) b.near in
      placed (own ++ Broken b.came ∷ []) _ (behind_break n b.far b) way c (carry (Ended begun false) came [])
      (left_breaks b way c n fits h.link (subst (λ v. Leads near.data_fault v n) (sym h.near) (near_breaks ask.op ask.settings came b.near begun))) fits
      (at_stage refl h.session h.steady h.timed h.ready refl refl refl h.came (broken_so b came h.marked h.came) same (h.fine.0, ((queue, h.fine.1), refl)))

  -- a break behind both replies leads to the stage of the answer that tells what was cut
  given_all_broken : (came queue : List ℕ) (way : Way) (b : World) (c : Cut) → Fits way c → Stands own (carry (Given BothReplies true) came queue) way b → Breaks way b c
  given_all_broken came queue way b c fits h =
      let n : Near = near_at (Answers (cut_told state ask good came) no_link) b.near in
      let marked : own ++ Broken b.came ∷ [] ≡ Broken (counted (length came)) ∷ [] = broken_so b came h.marked h.came in
      placed (own ++ Broken b.came ∷ []) _ (behind_break n b.far b) way c (Answers (cut_told state ask good came) no_link)
      (left_breaks b way c n fits h.link (subst (λ v. Leads near.data_fault v n) (sym h.near)
      (near_breaks_all ask.op ask.settings came b.near (cut_told state ask good came) (judged_cut state ask good h.fine.0.2 226 came (inl refl) sound h.fine.0.0 (queue, h.fine.1))))) fits
      (at_stage refl h.session h.steady h.timed tt refl refl refl tt (subst (λ l. length l ≤ 1) (sym marked) (omega arith)) h.way_is
      (cut_fares state ask good h.fine.0.2 (own ++ Broken b.came ∷ []) came h.ready.1 h.fine.0.1 h.fine.0.0 (queue, h.fine.1) marked, refl))

  -- a break of the closed link under a refusal leads to the refusal with the link lost by a break
  refusing_broken : (why : Refusal) (came queue : List ℕ) (way : Way) (b : World) (c : Cut) → Fits way c → Stands own (carry (Refusing why Closed) came queue) way b → Breaks way b c
  refusing_broken why came queue way b c fits h =
      let n : Near = near_at (carry (Refusing why (Lost false)) came []) b.near in
      placed (own ++ Broken b.came ∷ []) _ (behind_break n b.far b) way c (carry (Refusing why (Lost false)) came [])
      (left_breaks b way c n fits h.link (subst (λ v. Leads near.data_fault v n) (sym h.near) (near_breaks ask.op ask.settings came b.near false))) fits
      (at_stage refl h.session h.steady h.timed h.ready refl refl refl h.came (broken_so b came h.marked h.came) h.way_is (h.fine.0, (h.fine.1.0, refl)))

  -- a break at any course of the octets leads to a stage, if the course does not pass and a link stands
  carry_breaks : (course : Course) (came queue : List ℕ) (way : Way) (b : World) (c : Cut) → Fits way c → Stands own (carry course came queue) way b
      → is_passing (carry course came queue) ≡ false → is_gone b.link ≡ false → Breaks way b c
  carry_breaks (Giving begun octet more) came queue way b c fits h stays some =
      let T : Way → Type 0 = λ way. Fits way c → Stands own (carry (Giving begun octet more) came queue) way b → Breaks way b c in
      subst T (sym h.way_is) (giving_broken begun octet more came queue b c) fits h
  carry_breaks (Given heard false) came queue way b c fits h stays some = absurd (cc)
  carry_breaks (Given NoReply true) came queue way b c fits h stays some = given_broken false came queue way b c fits h h.way_is
  carry_breaks (Given OneReply true) came queue way b c fits h stays some = given_broken true came queue way b c fits h h.way_is
  carry_breaks (Given BothReplies true) came queue way b c fits h stays some = given_all_broken came queue way b c fits h
  carry_breaks (Ended begun clean) came queue way b c fits h stays some = absurd (no_link_stands b.link h.link some)
  carry_breaks (Severed begun) came queue way b c fits h stays some = absurd (no_link_stands b.link h.link some)
  carry_breaks (Refusing why Unclosed) came queue way b c fits h stays some = absurd (cc)
  carry_breaks (Refusing why Closed) came queue way b c fits h stays some = refusing_broken why came queue way b c fits h
  carry_breaks (Refusing why (Lost clean)) came queue way b c fits h stays some = absurd (no_link_stands b.link h.link some)
  carry_breaks Unopened came queue way b c fits h stays some = absurd (no_link_stands b.link h.link some)

  -- a break at any stage leads to a stage with its mark, if the stage does not pass and a link stands
  pub stage_breaks : (stage : Stage) (way : Way) (b : World) (c : Cut) → Fits way c → Stands own stage way b → is_passing stage ≡ false → is_gone b.link ≡ false → Breaks way b c
  stage_breaks (PortAsked closing) way b c fits h stays some = absurd (cc)
  stage_breaks (PortTold port) way b c fits h stays some = absurd (no_link_stands b.link h.link some)
  stage_breaks (Dials port) way b c fits h stays some = absurd (no_link_stands b.link h.link some)
  stage_breaks (PortWanted connection pending) way b c fits h stays some = absurd (no_link_stands b.link h.link some)
  stage_breaks (PortSaid port connection pending) way b c fits h stays some = absurd (no_link_stands b.link h.link some)
  stage_breaks (PortTaken port closing) way b c fits h stays some = absurd (no_link_stands b.link h.link some)
  stage_breaks (PortDenied port connection) way b c fits h stays some = absurd (no_link_stands b.link h.link some)
  stage_breaks (Restarts at restart (Dialled true)) way b c fits h stays some = rest_broken at restart way b c fits h
  stage_breaks (Restarts at restart (Dialled false)) way b c fits h stays some = absurd (no_link_stands b.link h.link some)
  stage_breaks (Restarts at restart (Ported port)) way b c fits h stays some = absurd (no_link_stands b.link h.link some)
  stage_breaks (Retrieves (Dialled true)) way b c fits h stays some = retr_broken way b c fits h
  stage_breaks (Retrieves (Dialled false)) way b c fits h stays some = absurd (no_link_stands b.link h.link some)
  stage_breaks (Retrieves (Ported port)) way b c fits h stays some = absurd (no_link_stands b.link h.link some)
  stage_breaks (Awaits port begun) way b c fits h stays some = absurd (no_link_stands b.link h.link some)
  stage_breaks (Unaccepted port) way b c fits h stays some = absurd (no_link_stands b.link h.link some)
  stage_breaks (Dismissed port why) way b c fits h stays some = absurd (no_link_stands b.link h.link some)
  stage_breaks (Carries y) way b c fits h stays some = carry_breaks y.course y.came y.queue way b c fits h stays some
  stage_breaks (Rises rise lift) way b c fits h stays some = lift_breaks read state ask good sound own rise lift way b c fits h stays some
  stage_breaks (Tells rise said after) way b c fits h stays some = absurd (cc)
  stage_breaks (Answers said leaves) way b c fits h stays some = absurd (cc)

  -- ---- the client is told that the server has closed the link

  abbrev EndsAt : Way → World → Cut → Type 0
  EndsAt way b c = PlacedAt (At own) (told DataToClient (world_at b way c))

  -- with an empty queue what came is the whole text
  all_came : (came queue wire : List ℕ) → queue ≡ [] → came ++ queue ≡ wire → came ≡ wire
  all_came came queue wire empty is = sym (append-nil came) ∙ ap (λ q. came ++ q) (sym empty) ∙ is

  -- the end behind the last octet, with a reply still to come, leads to the stage of a link that ended clean
  given_ended : (begun : Bool) (came queue : List ℕ) (way : Way) (b : World) (c : Cut) → Fits way c
      → Stands own (carry (Given (heard_by begun) true) came queue) way b → way ≡ Answering (replies_in (Ended begun true)) → queue ≡ [] → EndsAt way b c
  given_ended begun came queue way b c fits h same empty =
      let n : Near = near_at (carry (Ended begun true) came []) b.near in
      placed own _ (record b { near = n; link = Gone; data_to_server = []; data_to_client = [] }) way c (carry (Ended begun true) came [])
      (left_ends b way c n fits (subst (λ v. Leads near.data_end v n) (sym h.near) (near_ends ask.op ask.settings came b.near begun))) fits
      (at_stage refl h.session h.steady h.timed h.ready refl refl refl h.came h.marked same (h.fine.0, all_came came queue _ empty h.fine.1, refl))

  -- the end behind the last octet and both replies leads to the stage of the answer
  given_all_ended : (came queue : List ℕ) (way : Way) (b : World) (c : Cut) → Fits way c → Stands own (carry (Given BothReplies true) came queue) way b → queue ≡ [] → EndsAt way b c
  given_all_ended came queue way b c fits h empty =
      let said : Said = ask.said state in
      let n : Near = near_at (Answers said no_link) b.near in
      placed own _ (record b { near = n; link = Gone; data_to_server = []; data_to_client = [] }) way c (Answers said no_link)
      (left_ends b way c n fits (subst (λ v. Leads near.data_end v n) (sym h.near)
      (near_ends_all ask.op ask.settings came b.near said
      (judged_whole state ask good h.fine.0.2 came (mark_in (no_octets ask.settings) None came) sound h.ready.1 h.fine.0.0 (all_came came queue _ empty h.fine.1))))) fits
      (at_stage refl h.session h.steady h.timed tt refl refl refl tt (subst (λ l. length l ≤ 1) (sym h.marked) (omega arith)) h.way_is
      (said_fares state ask good h.fine.0.2 own h.ready.1 h.fine.0.1, refl))

  -- the end of the closed link under a refusal leads to the refusal with the link lost by a clean end
  refusing_ended : (why : Refusal) (came queue : List ℕ) (way : Way) (b : World) (c : Cut) → Fits way c → Stands own (carry (Refusing why Closed) came queue) way b → EndsAt way b c
  refusing_ended why came queue way b c fits h =
      let n : Near = near_at (carry (Refusing why (Lost true)) came []) b.near in
      placed own _ (record b { near = n; link = Gone; data_to_server = []; data_to_client = [] }) way c (carry (Refusing why (Lost true)) came [])
      (left_ends b way c n fits (subst (λ v. Leads near.data_end v n) (sym h.near) (near_ends ask.op ask.settings came b.near false))) fits
      (at_stage refl h.session h.steady h.timed h.ready refl refl refl h.came h.marked h.way_is (h.fine.0, (h.fine.1.0, refl)))

  -- the end of the link that the server has closed leads each stage that does not pass to a stage, if no octets are left
  pub stage_ends : (stage : Stage) (way : Way) (b : World) (c : Cut) → Fits way c → Stands own stage way b → is_closed_by_far b.link ≡ true → is_passing stage ≡ false → b.data_to_client ≡ []
      → EndsAt way b c
  stage_ends (PortAsked closing) way b c fits h left stays empty = absurd (cc)
  stage_ends (PortTold port) way b c fits h left stays empty = absurd (not_left b.link _ h.link refl left)
  stage_ends (Dials port) way b c fits h left stays empty = absurd (not_left b.link _ h.link refl left)
  stage_ends (PortWanted connection pending) way b c fits h left stays empty = absurd (not_left b.link _ h.link refl left)
  stage_ends (PortSaid port connection pending) way b c fits h left stays empty = absurd (not_left b.link _ h.link refl left)
  stage_ends (PortTaken port closing) way b c fits h left stays empty = absurd (not_left b.link _ h.link refl left)
  stage_ends (PortDenied port connection) way b c fits h left stays empty = absurd (not_left b.link _ h.link refl left)
  stage_ends (Restarts at restart (Dialled true)) way b c fits h left stays empty = absurd (not_left b.link _ h.link refl left)
  stage_ends (Restarts at restart (Dialled false)) way b c fits h left stays empty = absurd (not_left b.link _ h.link refl left)
  stage_ends (Restarts at restart (Ported port)) way b c fits h left stays empty = absurd (not_left b.link _ h.link refl left)
  stage_ends (Retrieves (Dialled true)) way b c fits h left stays empty = absurd (not_left b.link _ h.link refl left)
  stage_ends (Retrieves (Dialled false)) way b c fits h left stays empty = absurd (not_left b.link _ h.link refl left)
  stage_ends (Retrieves (Ported port)) way b c fits h left stays empty = absurd (not_left b.link _ h.link refl left)
  stage_ends (Awaits port begun) way b c fits h left stays empty = absurd (not_left b.link _ h.link refl left)
  stage_ends (Unaccepted port) way b c fits h left stays empty = absurd (not_left b.link _ h.link refl left)
  stage_ends (Dismissed port why) way b c fits h left stays empty = absurd (not_left b.link _ h.link refl left)
  stage_ends (Carries y) way b c fits h left stays empty = by_course y.course y.came y.queue h stays
    where
      by_course : (course : Course) (came queue : List ℕ) → Stands own (carry course came queue) way b → is_passing (carry course came queue) ≡ false → EndsAt way b c
      by_course (Giving begun octet more) came queue h stays = absurd (not_left b.link _ h.link refl left)
      by_course (Given heard false) came queue h stays = absurd (cc)
      by_course (Given NoReply true) came queue h stays = given_ended false came queue way b c fits h h.way_is (sym h.to_client ∙ empty)
      by_course (Given OneReply true) came queue h stays = given_ended true came queue way b c fits h h.way_is (sym h.to_client ∙ empty)
      by_course (Given BothReplies true) came queue h stays = given_all_ended came queue way b c fits h (sym h.to_client ∙ empty)
      by_course (Ended begun clean) came queue h stays = absurd (not_left b.link _ h.link refl left)
      by_course (Severed begun) came queue h stays = absurd (not_left b.link _ h.link refl left)
      by_course (Refusing why Unclosed) came queue h stays = absurd (cc)
      by_course (Refusing why Closed) came queue h stays = refusing_ended why came queue way b c fits h
      by_course (Refusing why (Lost clean)) came queue h stays = absurd (not_left b.link _ h.link refl left)
      by_course Unopened came queue h stays = absurd (not_left b.link _ h.link refl left)
  stage_ends (Rises rise lift) way b c fits h left stays empty = lift_ends read state ask good sound own rise lift way b c fits h left stays
  stage_ends (Tells rise said after) way b c fits h left stays empty = absurd (cc)
  stage_ends (Answers said leaves) way b c fits h left stays empty = absurd (cc)
