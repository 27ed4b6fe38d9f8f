-- Each reply that is heard leads an upload from a stage to a stage.
use Rattle.std.proofs.Common.{◌≡◌, inr, ℕ, ◌+◌, ◌<◌, ◌^◌, Bool, true, false, not, List, [], ◌∷◌, Option, Some, None, refl, sym, ap, subst, ◌∙◌, arith}
use Rattle.ftp_ends.specs.Reply.{Reply}
use Rattle.ftp_operation.specs.Answer.{Said, Refused, Broken as BrokenOff, Unopened as NotOpened}
use Rattle.ftp_operation.specs.declared.op.Op.{Op}
use Rattle.ftp_direct.specs.declared.refusal.Refusal.{Refusal}
use Rattle.ftp_direct.specs.Direct.{State}
use Rattle.ftp_direct.specs.Refusal.{code_of}
use Rattle.ftp_client_model.specs.Dialogue.{answered}
use Rattle.ftp_client_model.specs.View.{Sending}
use Rattle.ftp_client_model.specs.declared.client.ClientLink.{ClientLink as NearConnection}
use Rattle.ftp_client_model.specs.declared.client.ClientLink.TheVariants as NearData
use Rattle.ftp_client_model.specs.declared.client.Ending.TheVariants as Endings
use Rattle.ftp_client_model.specs.declared.client.Replied.TheVariants as Replies
use Rattle.ftp_server_model.specs.Keep.{kept_count}
use Rattle.ftp_server_model.specs.Machine.{Reading}
use Rattle.ftp_server_model.specs.Replies.{fixed_reply}
use Rattle.ftp_server_model.specs.Walk.{refusal_text}
use Rattle.ftp_server_model.specs.declared.reply.FixedReply.TheVariants as Texts
use Rattle.laws_world.specs.World.{World, Mark, Broken}
use Rattle.laws_dialogues.specs.Dialogue.{IsSound}
use Rattle.laws_dialogues.specs.Fetches.{Ask, HasUpload, IsAsk, IsPlacedAt, IsSteadySession, Rise, kept, leaving, linked}
use Rattle.laws_dialogues.specs.Stage.{calm, Way, Answering, NearTurn, behind}
use Rattle.laws_dialogues.specs.Uploads.{IsNote, Note, note_replies, note_reply}
use Rattle.laws_dialogues.proofs.LoginTurns.{no_reply}
use Rattle.laws_dialogues.proofs.Notes.{note_read}
use Rattle.laws_dialogues.proofs.Offering.{offer_denied, offer_unopened}
use Rattle.laws_dialogues.proofs.Sending.{begun_at, cut_over, done_over, filled_over, gave_at, giving_at, marked_at, opens_none, opens_over, opens_some, over_at}
use Rattle.laws_agreement.specs.Rising.{Fate, Installed, Overfilled, CutOff, IsHeard, fate_ending, fate_rows, fate_said, fate_text, Door, Closing, Shut, Vanished, Lift, Offered, Rising, Risen, Settled, Declined, Unjoined, lift_near, lift_way}
use Rattle.laws_agreement.specs.Stages as Stages
use Rattle.laws_agreement.specs.Stages.{Leaving, LinkLeft, LinkParting, Stage, Rises, Tells, Answers, Holds, no_link, is_to_close, far_leaves, far_parting, link_left, pending_left, AtServed}
use Rattle.laws_agreement.proofs.Fates.{refused_fares, broken_link_fares}
use Rattle.laws_agreement.proofs.FetchReplies.{at_first, none_more, one_more}
use Rattle.laws_agreement.proofs.Placing.{at_stage}
use Rattle.laws_agreement.proofs.UploadFates.{keep_few}

module _ (read : Reading) (state : State) (ask : Ask) (good : IsAsk ask) (sound : IsSound state) (own : List Mark) (rise : Rise) where
  abbrev Served : Way → World → Type 0
  Served way b = AtServed state ask read own way b

  abbrev Stands : Stage → Way → World → Type 0
  Stands stage way b = Holds state ask own stage way b

  abbrev op : Op (List ℕ)
  op = ask.op

  -- a reply is heard, and nothing is sent
  abbrev Hears : World → Reply → List Reply → Type 0
  Hears b reply more = (t : NearTurn b.near reply more) × Served (behind t.line more) (record b { near = t.near })

  -- before an octet came what is kept of the file can be said
  none_came : (upload : HasUpload ask rise) → (ask.why state ≡ None) × IsPlacedAt ask.settings ask.offset → state.known ≡ true → kept_count (rise.keep state) + 0 < 10 ^ 18
  none_came upload taken known = omega (arith, keep_few state ask good rise upload known taken sound)

  -- the 150 is heard
  offered_heard : (way : Way) (b : World) → Stands (Rises rise Offered) way b → Hears b (fixed_reply Texts.Opens) []
  offered_heard way b h = by_text rise.text refl
    where
      by_text : (text : List ℕ) → rise.text ≡ text → Hears b (fixed_reply Texts.Opens) []
      by_text [] is = (
        record {
          near = gave_at op h.ready.2.all b.near None;
          line = None;
          is = ap (λ v. answered 150 (fixed_reply Texts.Opens).lines (calm v)) (h.near ∙ ap (λ text. giving_at op h.ready.2.all b.near Replies.Nothing text None) is)
              ∙ opens_none op h.ready.2.all b.near (fixed_reply Texts.Opens).lines;
          fine = tt;
        },
        (
          inr (
            Rises rise (Risen false false [] [] None []),
            at_stage refl h.session h.steady h.timed h.ready h.link h.to_server h.to_client h.came h.marked refl
                (h.fine, sym is, λ e. absurd (cc), (tt, λ e. (none_came h.ready.2 h.fine h.ready.1, refl))),
          ),
          refl,
        ),
      )
      by_text (octet ∷ more) is = (
        record {
          near = giving_at op h.ready.2.all b.near Replies.Begun (octet ∷ more) None;
          line = None;
          is = ap (λ v. answered 150 (fixed_reply Texts.Opens).lines (calm v)) (h.near ∙ ap (λ text. giving_at op h.ready.2.all b.near Replies.Nothing text None) is)
              ∙ opens_some op h.ready.2.all b.near octet more (fixed_reply Texts.Opens).lines;
          fine = tt;
        },
        (
          inr (
            Rises rise (Rising false octet more [] [] None []),
            at_stage refl h.session h.steady h.timed h.ready h.link h.to_server h.to_client h.came h.marked refl
                (h.fine, sym is, λ e. absurd (cc), (tt, λ e. (none_came h.ready.2 h.fine h.ready.1, refl))),
          ),
          refl,
        ),
      )

  -- the 150 is heard where the server is done with the upload
  settled_begins : (mark : Option ℕ) (notes : List Note) (fate : Fate) (left : List ℕ) (after : State) (way : Way) (b : World) → Stands (Rises rise (Settled false mark notes fate left after)) way b
      → Hears b (fixed_reply Texts.Opens) (fate_rows true notes fate)
  settled_begins mark notes fate left after way b h = (
    record {
      near = over_at op h.ready.2.all b.near (fate_ending fate) Replies.Begun left mark;
      line = None;
      is = ap (λ v. answered 150 (fixed_reply Texts.Opens).lines (calm v)) h.near ∙ opens_over op h.ready.2.all b.near (fate_ending fate) left mark (fixed_reply Texts.Opens).lines;
      fine = tt;
    },
    (
      inr (
        Rises rise (Settled true mark notes fate left after),
        at_stage refl h.session h.steady h.timed h.ready h.link h.to_server h.to_client tt h.marked refl h.fine,
      ),
      refl,
    ),
  )

  -- what the client makes of the last reply
  fate_heard : (mark : Option ℕ) (fate : Fate) (left : List ℕ) (after : State) (way : Way) (b : World) → (h : Stands (Rises rise (Settled true mark [] fate left after)) way b)
      → answered (fixed_reply (fate_text fate)).code (fixed_reply (fate_text fate)).lines (calm (over_at op h.ready.2.all b.near (fate_ending fate) Replies.Begun left mark))
      ≡ record (calm (leaving (fate_said fate) false b.near)) { owed = [] }
  fate_heard mark Installed left after way b h = done_over op h.ready.2.all b.near left mark (fixed_reply Texts.Complete).lines
  fate_heard mark (Overfilled true) left after way b h = filled_over op h.ready.2.all b.near true left mark (fixed_reply Texts.TooMuch).lines
  fate_heard mark (Overfilled false) left after way b h = filled_over op h.ready.2.all b.near false left mark (fixed_reply Texts.TooMuch).lines
  fate_heard mark (CutOff true held) left after way b h =
      cut_over op h.ready.2.all b.near true left mark (fixed_reply Texts.Broken).lines ∙ ap (λ m. record (calm (leaving (BrokenOff [] m) false b.near)) { owed = [] }) h.fine.3
  fate_heard mark (CutOff false held) left after way b h =
      cut_over op h.ready.2.all b.near false left mark (fixed_reply Texts.Broken).lines ∙ ap (λ m. record (calm (leaving (BrokenOff [] m) false b.near)) { owed = [] }) h.fine.3

  -- the last reply is heard, and the answer is told
  settled_heard : (mark : Option ℕ) (fate : Fate) (left : List ℕ) (after : State) (way : Way) (b : World) → Stands (Rises rise (Settled true mark [] fate left after)) way b
      → Hears b (fixed_reply (fate_text fate)) []
  settled_heard mark fate left after way b h = (
    record {
      near = leaving (fate_said fate) false b.near;
      line = None;
      is = ap (λ v. answered (fixed_reply (fate_text fate)).code (fixed_reply (fate_text fate)).lines (calm v)) h.near ∙ fate_heard mark fate left after way b h;
      fine = tt;
    },
    (
      inr (
        Tells rise (fate_said fate) after,
        at_stage refl h.session h.steady h.timed tt h.link h.to_server h.to_client tt h.marked refl (h.fine.0, h.fine.1, h.ready.2.sends_is),
      ),
      refl,
    ),
  )

  -- ---- answers to markers

  -- the client hears one, over whatever link
  abbrev note_turn : (b : World) (upload : HasUpload ask rise) (connection : NearConnection) (closing : Bool) (left : List ℕ) (mark : Option ℕ) (note : Note) (more : List Reply) → IsNote note
      → b.near ≡ begun_at op upload.all b.near connection closing left mark → NearTurn b.near (note_reply note) more
  note_turn b upload connection closing left mark note more fine is = record {
    near = begun_at op upload.all b.near connection closing left (Some note.held);
    line = None;
    is = ap (λ v. answered 110 (note_reply note).lines (calm v)) is
        ∙ marked_at op upload.all b.near connection closing left mark note.held (note_reply note).lines (note_read note fine);
    fine = tt;
  }

  -- while octets are given
  rising_noted : (past : Bool) (octet : ℕ) (left came queue : List ℕ) (mark : Option ℕ) (note : Note) (notes : List Note) (way : Way) (b : World)
      → Stands (Rises rise (Rising past octet left came queue mark (note ∷ notes))) way b → Hears b (note_reply note) (note_replies notes)
  rising_noted past octet left came queue mark note notes way b h = (
    note_turn b h.ready.2 NearData.Open false (octet ∷ left) mark note (note_replies notes) h.fine.3.0.0 h.near,
    (
      inr (
        Rises rise (Rising past octet left came queue (Some note.held) notes),
        at_stage refl h.session h.steady h.timed h.ready h.link h.to_server h.to_client h.came h.marked refl
            (h.fine.0, h.fine.1, h.fine.2, (h.fine.3.0.1, h.fine.3.1)),
      ),
      refl,
    ),
  )

  -- behind the last octet
  risen_noted : (past closed : Bool) (came queue : List ℕ) (mark : Option ℕ) (note : Note) (notes : List Note) (way : Way) (b : World)
      → Stands (Rises rise (Risen past closed came queue mark (note ∷ notes))) way b → Hears b (note_reply note) (note_replies notes)
  risen_noted past closed came queue mark note notes way b h = (
    note_turn b h.ready.2 (NearData.Over Endings.Ours) (not closed) [] mark note (note_replies notes) h.fine.3.0.0 h.near,
    (
      inr (
        Rises rise (Risen past closed came queue (Some note.held) notes),
        at_stage refl h.session h.steady h.timed h.ready h.link h.to_server h.to_client h.came h.marked refl
            (h.fine.0, h.fine.1, h.fine.2, (h.fine.3.0.1, h.fine.3.1)),
      ),
      refl,
    ),
  )

  -- what is still to be heard of a fate is what was before
  still_heard : (fate : Fate) (mark : Option ℕ) (note : Note) (notes : List Note) → IsHeard state ask rise fate mark (note ∷ notes) → IsHeard state ask rise fate (Some note.held) notes
  still_heard Installed mark note notes is = is
  still_heard (Overfilled ours) mark note notes is = is
  still_heard (CutOff ours held) mark note notes is = is

  -- behind the end of the link
  settled_noted : (mark : Option ℕ) (note : Note) (notes : List Note) (fate : Fate) (left : List ℕ) (after : State) (way : Way) (b : World)
      → Stands (Rises rise (Settled true mark (note ∷ notes) fate left after)) way b → Hears b (note_reply note) (fate_rows true notes fate)
  settled_noted mark note notes fate left after way b h = (
    note_turn b h.ready.2 (NearData.Over (fate_ending fate)) false left mark note (fate_rows true notes fate) h.fine.2.0 h.near,
    (
      inr (
        Rises rise (Settled true (Some note.held) notes fate left after),
        at_stage refl h.session h.steady h.timed h.ready h.link h.to_server h.to_client tt h.marked refl
            (h.fine.0, h.fine.1, h.fine.2.1, still_heard fate mark note notes h.fine.3),
      ),
      refl,
    ),
  )

  -- ---- refusals

  -- a reply behind which the client tells its answer, and the server has what it had
  tells_so : (lift : Lift) (way : Way) (b : World) (reply : Reply) (said : Said) (leaves : Leaving) → Stands (Rises rise lift) way b
      → answered reply.code reply.lines (calm (lift_near state ask rise lift b.near)) ≡ record (calm (leaving said (is_to_close leaves) b.near)) { owed = [] }
      → b.far.session ≡ linked (far_leaves leaves) (far_parting leaves) (pending_left leaves) b.far.session → b.link ≡ link_left leaves → b.data_to_server ≡ [] → b.data_to_client ≡ []
      → Stages.state_at state ask (Rises rise lift) ≡ state → Stages.MarkedAt state ask (Answers said leaves) own → Stages.FineAt state ask (Answers said leaves) own → Hears b reply []
  tells_so lift way b reply said leaves h is session link to_server to_client same marked fares = (
    record {
      near = leaving said (is_to_close leaves) b.near;
      line = None;
      is = ap (λ v. answered reply.code reply.lines (calm v)) h.near ∙ is;
      fine = tt;
    },
    (
      inr (
        Answers said leaves,
        at_stage refl session (subst (λ s. IsSteadySession s (kept b.near b.far)) same h.steady) h.timed tt link to_server to_client tt marked refl fares,
      ),
      refl,
    ),
  )

  -- a refusal is heard
  declined_heard : (why : Refusal) (door : Door) (way : Way) (b : World) → Stands (Rises rise (Declined why door)) way b → Hears b (fixed_reply (refusal_text why)) []
  declined_heard why Closing way b h =
      tells_so (Declined why Closing) way b (fixed_reply (refusal_text why)) (Refused (code_of why)) LinkParting h
      (offer_denied op (Sending rise.text None) b.near why NearData.Open (fixed_reply (refusal_text why)).lines)
      h.session h.link h.to_server h.to_client refl (none_more own h.marked) (refused_fares state ask good own why h.ready.1 h.fine)
  declined_heard why Shut way b h =
      tells_so (Declined why Shut) way b (fixed_reply (refusal_text why)) (Refused (code_of why)) LinkLeft h
      (offer_denied op (Sending rise.text None) b.near why NearData.Open (fixed_reply (refusal_text why)).lines)
      h.session h.link h.to_server h.to_client refl (none_more own h.marked) (refused_fares state ask good own why h.ready.1 h.fine)
  declined_heard why (Vanished broken) way b h =
      tells_so (Declined why (Vanished broken)) way b (fixed_reply (refusal_text why)) (Refused (code_of why)) no_link h
      (offer_denied op (Sending rise.text None) b.near why (NearData.Over Endings.Broken) (fixed_reply (refusal_text why)).lines)
      h.session h.link h.to_server h.to_client refl h.marked (refused_fares state ask good own why h.ready.1 h.fine, refl)

  -- a 425 is heard
  unjoined_heard : (way : Way) (b : World) → Stands (Rises rise Unjoined) way b → Hears b (fixed_reply Texts.NoConnection) []
  unjoined_heard way b h =
      tells_so Unjoined way b (fixed_reply Texts.NoConnection) NotOpened no_link h
      (offer_unopened op (Sending rise.text None) b.near (NearData.Over Endings.Broken) (fixed_reply Texts.NoConnection).lines)
      h.session h.link h.to_server h.to_client refl (one_more own (Broken 0) h.marked) (broken_link_fares state ask good own h.marked, refl)

  -- the first reply is heard, and the upload goes on or is told
  pub lift_heard : (lift : Lift) (way : Way) (b : World) (reply : Reply) (more : List Reply) → Stands (Rises rise lift) way b → Answering (reply ∷ more) ≡ lift_way lift → Hears b reply more
  lift_heard Offered way b reply more h e = at_first (Hears b) reply (fixed_reply Texts.Opens) more [] e (offered_heard way b h)
  lift_heard (Rising past octet left came queue mark []) way b reply more h e = absurd (no_reply reply more e)
  lift_heard (Rising past octet left came queue mark (note ∷ notes)) way b reply more h e =
      at_first (Hears b) reply (note_reply note) more (note_replies notes) e (rising_noted past octet left came queue mark note notes way b h)
  lift_heard (Risen past closed came queue mark []) way b reply more h e = absurd (no_reply reply more e)
  lift_heard (Risen past closed came queue mark (note ∷ notes)) way b reply more h e =
      at_first (Hears b) reply (note_reply note) more (note_replies notes) e (risen_noted past closed came queue mark note notes way b h)
  lift_heard (Settled false mark notes fate left after) way b reply more h e =
      at_first (Hears b) reply (fixed_reply Texts.Opens) more (fate_rows true notes fate) e (settled_begins mark notes fate left after way b h)
  lift_heard (Settled true mark [] fate left after) way b reply more h e =
      at_first (Hears b) reply (fixed_reply (fate_text fate)) more [] e (settled_heard mark fate left after way b h)
  lift_heard (Settled true mark (note ∷ notes) fate left after) way b reply more h e =
      at_first (Hears b) reply (note_reply note) more (fate_rows true notes fate) e (settled_noted mark note notes fate left after way b h)
  lift_heard (Declined why door) way b reply more h e = at_first (Hears b) reply (fixed_reply (refusal_text why)) more [] e (declined_heard why door way b h)
  lift_heard Unjoined way b reply more h e = at_first (Hears b) reply (fixed_reply Texts.NoConnection) more [] e (unjoined_heard way b h)
