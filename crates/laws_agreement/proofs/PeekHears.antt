-- A Peek that has sent ABOR hears the final reply of its download, and then that to ABOR.
use Rattle.std.proofs.Common.{◌≡◌, ◌⊎◌, inl, inr, ℕ, Bool, true, false, List, [], ◌++◌, take, drop, refl, sym, ap, subst, ◌∙◌}
use Rattle.ftp_nvt.specs.Lines.{written_line}
use Rattle.ftp_ends.specs.Ear.{Ear, quiet}
use Rattle.ftp_ends.specs.Reply.{Reply}
use Rattle.ftp_operation.specs.Answer.{Said}
use Rattle.ftp_reply.specs.Reader.{Between, Gathered}
use Rattle.ftp_direct.specs.Direct.{State}
use Rattle.ftp_client_model.specs.Calls as near
use Rattle.ftp_client_model.specs.Dialogue.{answered}
use Rattle.ftp_client_model.specs.View.{View as Near}
use Rattle.ftp_server_model.specs.Machine.{Reading}
use Rattle.ftp_server_model.specs.Replies.{fixed_reply}
use Rattle.ftp_server_model.specs.declared.reply.FixedReply.TheVariants as Texts
use Rattle.laws_world.specs.Events.{ControlToClient, pulled, pushed}
use Rattle.laws_world.specs.World.{World, Mark}
use Rattle.laws_dialogues.specs.Fetches.{Ask, leaving}
use Rattle.laws_dialogues.specs.Peeks.{abort_line}
use Rattle.laws_dialogues.specs.Stage.{calm, still, AreWritten, rest}
use Rattle.laws_dialogues.proofs.PeekTurns.{abort_open, abort_over, final_open, final_over, owing}
use Rattle.laws_agreement.specs.Crossing.{AreCut, AreHeardBetween, Cuts, FlowsAbort, crossing_at}
use Rattle.laws_agreement.specs.Cut.{Cut, Crossed, FlowsRow, PlacedAt}
use Rattle.laws_agreement.specs.PeekStages.{AtHalt, Gave, Gives, Halt, Halted, Halts, IsHaltCross, abort_rows, final_text, halt_asked, halt_near, halt_rows}
use Rattle.laws_agreement.specs.Stages.{Answers, AtFetch, Closed, Gap, Holds, Lost, Unclosed, no_link}
use Rattle.laws_agreement.proofs.PeekBegins.{halt_at}
use Rattle.laws_agreement.proofs.CrossKeeps.{RowGoes, RowStays, abort_anew, as_rest, heard_at, none_heard, pulled_down, pulls_down, pushed_coming, pushed_down, row_none, row_step}
use Rattle.laws_agreement.proofs.Placing.{at_halt, at_stage}
use Rattle.laws_agreement.proofs.Still.{no_octets}

module _ (read : Reading) (state : State) (ask : Ask) (own : List Mark) where
  -- it goes on, or its answer is told
  abbrev pub OnOrTold : World → Type 0
  OnOrTold w = AtHalt state ask own w ⊎ PlacedAt (λ way b. AtFetch state ask read own way b) w

  abbrev Stands : Halt → Said → (came queue : List ℕ) → World → Type 0
  Stands halt said came queue b = Halts state ask own halt said came queue b

  -- ---- the answer is told

  -- where nothing is on its way and the link is over, the client has told its answer
  pub told_at : (w b : World) (c : Cuts) (said : Said) → w ≡ crossing_at b c → AreCut false [] c → Holds state ask own (Answers said no_link) rest b
      → PlacedAt (λ way b. AtFetch state ask read own way b) w
  told_at w b c said is fits h =
      record { base = b; way = rest; cut = no_octets; is = is ∙ as_rest b c fits; fits = (tt, (refl, refl)); here = inr (Answers said no_link, h) }

  -- it stands so behind an end of the link
  pub answers_at : (whole heard asked clean : Bool) (said : Said) (came queue : List ℕ) (b : World)
      → Stands (Gave whole heard asked (Lost clean)) said came queue b
      → Holds state ask own (Answers said no_link) rest (record b { near = leaving said false b.near })
  answers_at whole heard asked clean said came queue b h =
      at_stage refl h.session h.steady h.timed tt h.link h.to_server (h.to_client ∙ h.empty) tt h.marked refl (h.fares own, refl)

  -- ---- replies are heard

  module _ (said : Said) (came queue : List ℕ) (up : Cut) (ys owed : List ℕ) where
    -- the client has heard these octets behind a front
    abbrev Hears : Halt → World → Ear → Gathered → List ℕ → Type 0
    Hears halt b ear gathered xs = OnOrTold (heard_at b up ear gathered xs ys owed)

    -- what a row that stays leaves
    stays : (halt : Halt) (b w : World) → Stands halt said came queue b → RowStays (halt_asked halt) (halt_rows halt) b up w → AtHalt state ask own w
    stays halt b w h row = halt_at state ask own w halt said came queue b row.cuts row.is row.fits h

    -- no reply is to come
    none_heard_at : (halt : Halt) (b : World) (held xs : List ℕ) (ear : Ear) (gathered : Gathered) → halt_rows halt ≡ [] → Stands halt said came queue b
        → FlowsAbort (halt_asked halt) up
        → AreHeardBetween held ear gathered → FlowsRow [] held (xs ++ (ys ++ owed)) → Hears halt b ear gathered xs
    none_heard_at halt b held xs ear gathered none h above heard flow =
        inl (stays halt b (heard_at b up ear gathered xs ys owed) h
        (subst (λ rows. RowStays (halt_asked halt) rows b up (heard_at b up ear gathered xs ys owed)) (sym none)
        (row_none (halt_asked halt) b up above held xs ys owed ear gathered heard flow)))

    -- a reply is heard, behind which the client stands so
    heard_to : (b : World) (next : Near) (reply : Reply) (more : List Reply) (xs : List ℕ) (ear : Ear) (gathered : Gathered)
        → (row : RowGoes reply more b up xs ys owed ear gathered)
        → answered reply.code reply.lines (owing up.owed b.near) ≡ owing up.owed next
        → heard_at b up ear gathered xs ys owed ≡ heard_at (record b { near = next }) up quiet Between row.heard ys owed
    heard_to b next reply more xs ear gathered row is =
        ap (λ v. record (heard_at b up ear gathered xs ys owed) { near = v }) (row.is ∙ ap (λ v. near.hears v row.heard) is)

    -- the reply to ABOR, which is no more on its way
    abort_heard : (whole : Bool) (gap : Gap) (b : World) (held xs : List ℕ) (ear : Ear) (gathered : Gathered)
        → Stands (Gave whole true false gap) said came queue b → FlowsAbort false up
        → AreHeardBetween held ear gathered → AreWritten (abort_rows false) → FlowsRow (abort_rows false) held (xs ++ (ys ++ owed))
        → Hears (Gave whole true false gap) b ear gathered xs
    abort_heard whole gap b held xs ear gathered h above heard fine flow =
        elim (row_step false b up above held xs ys owed ear gathered heard (fixed_reply Texts.AbortDone) [] fine flow) [
          | inl row ↦ inl (stays (Gave whole true false gap) b (heard_at b up ear gathered xs ys owed) h row)
          | inr row ↦ by_gap gap h row
        ]
      where
        open_link : (left : Bool) (next : Near) → Stands (Halted whole left) said came queue (record b { near = next })
            → answered 226 (fixed_reply Texts.AbortDone).lines (owing up.owed b.near) ≡ owing up.owed next
            → RowGoes (fixed_reply Texts.AbortDone) [] b up xs ys owed ear gathered → OnOrTold (heard_at b up ear gathered xs ys owed)
        open_link left next h is row =
            subst OnOrTold (sym (heard_to b next (fixed_reply Texts.AbortDone) [] xs ear gathered row is))
            (none_heard_at (Halted whole left) (record b { near = next }) [] row.heard quiet Between refl h above none_heard row.flows)

        by_gap : (gap : Gap) → Stands (Gave whole true false gap) said came queue b → RowGoes (fixed_reply Texts.AbortDone) [] b up xs ys owed ear gathered
            → OnOrTold (heard_at b up ear gathered xs ys owed)
        by_gap Unclosed h row =
            open_link false (halt_near state ask (Halted whole false) came b.near)
            (at_halt refl h.session h.steady h.timed h.link h.to_server h.to_client tt h.marked h.settled h.fares)
            (ap (λ v. answered 226 (fixed_reply Texts.AbortDone).lines (owing up.owed v)) h.near
            ∙ abort_open ask.op ask.settings came b.near _ up.owed (fixed_reply Texts.AbortDone).lines) row
        by_gap Closed h row =
            open_link true (halt_near state ask (Halted whole true) came b.near)
            (at_halt refl h.session h.steady h.timed h.link h.to_server h.to_client tt h.marked h.settled h.fares)
            (ap (λ v. answered 226 (fixed_reply Texts.AbortDone).lines (owing up.owed v)) h.near
            ∙ abort_open ask.op ask.settings came b.near _ up.owed (fixed_reply Texts.AbortDone).lines) row
        by_gap (Lost clean) h row =
            let next : Near = leaving said false b.near in
            let is = ap (λ v. answered 226 (fixed_reply Texts.AbortDone).lines (owing up.owed v)) h.near ∙ over clean in
            let all = row_none false (record b { near = next }) up above [] row.heard ys owed quiet Between none_heard row.flows in
            inr (subst (PlacedAt (λ way b. AtFetch state ask read own way b)) (sym (heard_to b next (fixed_reply Texts.AbortDone) [] xs ear gathered row is))
            (told_at _ (record b { near = next }) all.cuts said all.is all.fits (answers_at whole true false clean said came queue b h)))
          where
            over : (clean : Bool) → answered 226 (fixed_reply Texts.AbortDone).lines
                (owing up.owed (halt_near state ask (Gave whole true false (Lost clean)) came b.near)) ≡ owing up.owed (leaving said false b.near)
            over true = abort_over ask.op ask.settings came b.near _ true up.owed said (fixed_reply Texts.AbortDone).lines h.settled
            over false = abort_over ask.op ask.settings came b.near _ false up.owed said (fixed_reply Texts.AbortDone).lines h.settled

    -- the client behind the final reply
    abbrev heard_next : Bool → Bool → Gap → World → Near
    heard_next whole asked gap b = halt_near state ask (Gave whole true asked gap) came b.near

    -- the final reply
    final_heard : (whole asked : Bool) (gap : Gap) (b : World) (held xs : List ℕ) (ear : Ear) (gathered : Gathered)
        → Stands (Gave whole false asked gap) said came queue b → FlowsAbort asked up
        → AreHeardBetween held ear gathered → AreWritten (halt_rows (Gave whole false asked gap))
        → FlowsRow (halt_rows (Gave whole false asked gap)) held (xs ++ (ys ++ owed))
        → Hears (Gave whole false asked gap) b ear gathered xs
    final_heard whole asked gap b held xs ear gathered h above heard fine flow =
        elim (row_step asked b up above held xs ys owed ear gathered heard (fixed_reply (final_text whole)) (abort_rows asked) fine flow) [
          | inl row ↦ inl (stays (Gave whole false asked gap) b (heard_at b up ear gathered xs ys owed) h row)
          | inr row ↦ subst OnOrTold (sym (heard_to b (heard_next whole asked gap b) (fixed_reply (final_text whole))
              (abort_rows asked) xs ear gathered row is)) (behind asked above row.heard row.flows fine.1 (on gap h))
        ]
      where
        by_whole : (whole : Bool) (gap : Gap)
            → answered (fixed_reply (final_text whole)).code (fixed_reply (final_text whole)).lines
            (owing up.owed (halt_near state ask (Gave whole false asked gap) came b.near))
            ≡ owing up.owed (halt_near state ask (Gave whole true asked gap) came b.near)
        by_whole true Unclosed = final_open ask.op ask.settings came b.near true up.owed (fixed_reply Texts.Complete).lines
        by_whole true Closed = final_open ask.op ask.settings came b.near true up.owed (fixed_reply Texts.Complete).lines
        by_whole true (Lost true) = final_over ask.op ask.settings came b.near true true up.owed (fixed_reply Texts.Complete).lines
        by_whole true (Lost false) = final_over ask.op ask.settings came b.near true false up.owed (fixed_reply Texts.Complete).lines
        by_whole false Unclosed = final_open ask.op ask.settings came b.near false up.owed (fixed_reply Texts.Broken).lines
        by_whole false Closed = final_open ask.op ask.settings came b.near false up.owed (fixed_reply Texts.Broken).lines
        by_whole false (Lost true) = final_over ask.op ask.settings came b.near false true up.owed (fixed_reply Texts.Broken).lines
        by_whole false (Lost false) = final_over ask.op ask.settings came b.near false false up.owed (fixed_reply Texts.Broken).lines

        is : answered (fixed_reply (final_text whole)).code (fixed_reply (final_text whole)).lines (owing up.owed b.near) ≡ owing up.owed
            (heard_next whole asked gap b)
        is = ap (λ v. answered (fixed_reply (final_text whole)).code (fixed_reply (final_text whole)).lines (owing up.owed v)) h.near ∙ by_whole whole gap

        on : (gap : Gap) → Stands (Gave whole false asked gap) said came queue b
            → Stands (Gave whole true asked gap) said came queue (record b { near = heard_next whole asked gap b })
        on Unclosed h = at_halt refl h.session h.steady h.timed h.link h.to_server h.to_client tt h.marked h.settled h.fares
        on Closed h = at_halt refl h.session h.steady h.timed h.link h.to_server h.to_client tt h.marked h.settled h.fares
        on (Lost clean) h =
            at_halt refl h.session h.steady h.timed h.link h.to_server h.to_client h.empty h.marked h.settled h.fares

        behind : (asked : Bool) → FlowsAbort asked up → (heard : List ℕ) → FlowsRow (abort_rows asked) [] (heard ++ (ys ++ owed))
            → AreWritten (abort_rows asked)
            → Stands (Gave whole true asked gap) said came queue (record b { near = heard_next whole asked gap b })
            → OnOrTold (heard_at (record b { near = heard_next whole asked gap b }) up quiet Between heard ys owed)
        behind true above heard flows fine h =
            none_heard_at (Gave whole true true gap) (record b { near = heard_next whole asked gap b }) [] heard quiet Between refl h above none_heard flows
        behind false above heard flows fine h =
            abort_heard whole gap (record b { near = heard_next whole asked gap b }) [] heard quiet Between h above none_heard fine flows

    -- all of these
    pub replies_heard : (halt : Halt) (b : World) (held xs : List ℕ) (ear : Ear) (gathered : Gathered) → Stands halt said came queue b
        → FlowsAbort (halt_asked halt) up
        → AreHeardBetween held ear gathered → AreWritten (halt_rows halt) → FlowsRow (halt_rows halt) held (xs ++ (ys ++ owed)) → Hears halt b ear gathered xs
    replies_heard (Gives octet more) b held xs ear gathered h above heard fine flow =
        none_heard_at (Gives octet more) b held xs ear gathered refl h above heard flow
    replies_heard (Gave whole true true gap) b held xs ear gathered h above heard fine flow =
        none_heard_at (Gave whole true true gap) b held xs ear gathered refl h above heard flow
    replies_heard (Gave whole true false gap) b held xs ear gathered h above heard fine flow =
        abort_heard whole gap b held xs ear gathered h above heard fine flow
    replies_heard (Gave whole false asked gap) b held xs ear gathered h above heard fine flow =
        final_heard whole asked gap b held xs ear gathered h above heard fine flow
    replies_heard (Halted whole left) b held xs ear gathered h above heard fine flow =
        none_heard_at (Halted whole left) b held xs ear gathered refl h above heard flow

  -- ---- in a world

  -- the server gives octets of its replies
  pub halt_pulls_down : (n : ℕ) (w : World) → AtHalt state ask own w → AtHalt state ask own (pulled ControlToClient w n)
  halt_pulls_down n w a =
      halt_at state ask own (pulled ControlToClient w n) a.halt a.said a.came a.queue a.base _
      (ap (λ u. pulled ControlToClient u n) a.is ∙ pulled_down n a.base a.cuts)
      (pulls_down n (halt_asked a.halt) (halt_rows a.halt) a.cuts a.fits) a.here

  -- the client takes some of them
  pub halt_pushes_down : (n : ℕ) (w : World) → AtHalt state ask own w → OnOrTold (pushed read ControlToClient n w)
  halt_pushes_down n w a =
      subst OnOrTold (sym (ap (λ u. pushed read ControlToClient n u) a.is ∙ pushed_down read n a.base a.cuts))
      (replies_heard a.said a.came a.queue a.cuts.up (drop n a.cuts.down.moving) a.cuts.down.owed a.halt a.base a.cuts.down.held
      (take n a.cuts.down.moving) a.cuts.ear a.cuts.gathered
      a.here a.fits.up a.fits.heard a.fits.written (subst (FlowsRow (halt_rows a.halt) a.cuts.down.held) (pushed_coming n a.cuts.down) a.fits.down))

  -- ABOR was sent as a reply was heard, and others are heard behind it
  pub crossed_halts : (w : World) → Crossed (λ text rows b. IsHaltCross state ask own text rows b) w → OnOrTold w
  crossed_halts w c =
      let x = c.here in
      let up : Cut = record { held = []; moving = []; owed = written_line abort_line } in
      let sent : List ℕ → World = λ text. record c.base {
        near = near.hears (record (calm c.base.near) { owed = written_line text }) c.heard;
        far = record (still c.base.far) { owed = c.owed };
        control_to_server = [];
        control_to_client = c.moving;
      } in
      subst OnOrTold (sym (c.is ∙ ap sent x.text_is))
      (replies_heard x.said x.came x.queue up c.moving c.owed x.halt c.base [] c.heard quiet Between x.here
      (subst (λ asked. FlowsAbort asked up) (sym x.asked) abort_anew) none_heard
      (subst AreWritten x.rows_are c.written) (subst (λ rows. FlowsRow rows [] (c.heard ++ (c.moving ++ c.owed))) x.rows_are c.flows))
