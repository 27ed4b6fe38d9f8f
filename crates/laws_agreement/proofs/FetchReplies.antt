-- Each reply to the own command leads what was asked for from a course to a course, or is told.
use Rattle.std.proofs.Common.{◌≡◌, ◌⊎◌, inl, inr, ℕ, ◌≤◌, Bool, true, false, List, [], ◌∷◌, ◌++◌, length, None, refl, sym, ap, subst, ◌∙◌, arith}
use Rattle.ftp_command.specs.declared.command.Command.TheVariants as Commands
use Rattle.ftp_command.proofs.CarriedLemmas.{carried}
use Rattle.ftp_wire.specs.Decoder.{no_octets}
use Rattle.ftp_ends.specs.Reply.{Reply}
use Rattle.ftp_operation.specs.Answer.{Said, Refused, Unopened as NotOpened}
use Rattle.ftp_operation.specs.declared.op.Op.{Op}
use Rattle.ftp_direct.specs.Direct.{State}
use Rattle.ftp_direct.specs.Refusal.{code_of}
use Rattle.ftp_client_model.specs.Dialogue.{answered}
use Rattle.ftp_client_model.specs.View.{View as Near}
use Rattle.ftp_client_model.specs.declared.client.Abort.TheVariants as Aborts
use Rattle.ftp_client_model.specs.declared.client.Replied.TheVariants as Replies
use Rattle.ftp_client_model.specs.declared.client.ClientLink.TheVariants as NearData
use Rattle.ftp_client_model.specs.declared.client.Ending.TheVariants as Endings
use Rattle.ftp_server_model.specs.Machine.{Reading}
use Rattle.ftp_server_model.specs.Replies.{fixed_reply}
use Rattle.ftp_server_model.specs.Walk.{refusal_text}
use Rattle.ftp_server_model.specs.declared.reply.FixedReply.TheVariants as Texts
use Rattle.ftp_server_model.specs.declared.session.Pending.TheVariants as Pendings
use Rattle.ftp_server_model.specs.declared.session.ServerLink.TheVariants as FarData
use Rattle.laws_world.specs.Outcome.{mark_in}
use Rattle.laws_world.specs.World.{World, Mark, Broken, counted}
use Rattle.laws_dialogues.specs.Dialogue.{IsSound}
use Rattle.laws_dialogues.specs.Fetches.{Ask, IsAsk, busy, fetching, is_filled, leaving, linked}
use Rattle.laws_dialogues.specs.Peeks.{abort_line, halting}
use Rattle.laws_dialogues.specs.Stage.{calm, Way, Asking, Answering, NearTurn, behind}
use Rattle.laws_dialogues.proofs.Fetching.{begins_open, begins_over, ends_open, ends_over, breaks_over, denied, unopened}
use Rattle.laws_dialogues.proofs.LoginTurns.{no_reply}
use Rattle.laws_dialogues.proofs.PeekTurns.{begins_filled}
use Rattle.laws_agreement.specs.Cut.{Crosses}
use Rattle.laws_agreement.specs.PeekStages.{Gives, Gave, IsHaltCross, MarksFit, QueueFits}
use Rattle.laws_agreement.specs.Stages as Stages
use Rattle.laws_agreement.specs.Stages.{Over, NoReply, OneReply, BothReplies, replied_of, Gap, gap_tie, left_tie, Unclosed, Closed, Lost, Course, Giving, Given, Ended, Severed, Refusing, Unopened, heard_of, tie_of, gives_on, is_parting, link_of, is_to_close, far_leaves, far_parting, link_left, replies_in, Leaving, LinkLeft, LinkParting, Stage, Carries, Answers, near_link, far_link, tie_marks, Flows, Holds, no_link, pending_left, AtServed}
use Rattle.laws_agreement.proofs.PeekBegins.{halts_at}
use Rattle.laws_agreement.proofs.Fates.{refused_fares, said_fares, judged_whole, judged_cut, cut_told, cut_fares, broken_link_fares}
use Rattle.laws_agreement.proofs.Placing.{at_stage}

-- ---- what is on the way

abbrev pub rows_in : Way → List Reply
rows_in (Asking text) = []
rows_in (Answering replies) = replies

-- equal ways of replies have the same replies
same_rows : {rows others : List Reply} → Answering rows ≡ Answering others → rows ≡ others
same_rows e = ap rows_in e

-- a reply before others is the first of a row
pub at_first : (P : Reply → List Reply → Type 0) (reply first : Reply) (more others : List Reply) → Answering (reply ∷ more) ≡ Answering (first ∷ others) → P first others → P reply more
at_first P reply first more others e holds =
    let same : reply ∷ more ≡ first ∷ others = same_rows e in
    let one : reply ≡ first = cc in
    let two : more ≡ others = cc in
    subst (λ r. P r more) (sym one) (subst (λ l. P first l) (sym two) holds)

-- a list without marks has at most one
pub none_more : (own : List Mark) → own ≡ [] → length own ≤ 1
none_more own is = subst (λ l. length l ≤ 1) (sym is) (omega arith)

-- a list of one mark has at most one
pub one_more : (own : List Mark) (mark : Mark) → own ≡ mark ∷ [] → length own ≤ 1
one_more own mark is = subst (λ l. length l ≤ 1) (sym is) (omega arith)

module _ (read : Reading) (state : State) (ask : Ask) (good : IsAsk ask) (sound : IsSound state) (own : List Mark) where
  abbrev Served : Way → World → Type 0
  Served way b = AtServed state ask read own way b

  abbrev Stands : Stage → Way → World → Type 0
  Stands stage way b = Holds state ask own stage way b

  abbrev op : Op (List ℕ)
  op = ask.op

  -- a reply is heard, and nothing is sent, or ABOR is, while the other replies are on their way
  abbrev pub Hears : World → Reply → List Reply → Type 0
  Hears b reply more =
      ((t : NearTurn b.near reply more) × Served (behind t.line more) (record b { near = t.near })) ⊎ Crosses (λ text rows b. IsHaltCross state ask own text rows b) b reply more

  -- ---- the client, behind the own command

  abbrev carry : Course → (came queue : List ℕ) → Stage
  carry course came queue = Carries (record { course = course; came = came; queue = queue })

  abbrev near_with : Course → List ℕ → Near → Near
  near_with course came n = busy (fetching op (replied_of (heard_of course)) ask.settings came) (near_link (tie_of course)) n

  -- a reply that leads on to another course
  leads_on : (course next : Course) (came queue : List ℕ) (way : Way) (b : World) (reply : Reply) (more : List Reply) → Stands (carry course came queue) way b
      → answered reply.code reply.lines (calm (near_with course came b.near)) ≡ record (calm (near_with next came b.near)) { owed = [] }
      → far_link (gives_on ask.listed next) (tie_of next) ≡ far_link (gives_on ask.listed course) (tie_of course) → tie_of next ≡ tie_of course → Flows state ask next came queue
      → more ≡ replies_in next → Hears b reply more
  leads_on course next came queue way b reply more h is link tie flows rows = inl (
    record {
      near = near_with next came b.near;
      line = None;
      is = ap (λ v. answered reply.code reply.lines (calm v)) h.near ∙ is;
      fine = tt;
    },
    (
      inr (
        carry next came queue,
        at_stage refl (h.session ∙ (λ i. linked (sym link i) (is_parting (sym tie i)) Pendings.Nothing b.far.session)) h.steady h.timed h.ready
            (h.link ∙ ap link_of (sym tie)) h.to_server h.to_client h.came (h.marked ∙ ap (λ t. tie_marks t (counted (length came))) (sym tie))
            (ap Answering rows) flows,
      ),
      refl,
    ),
  )

  -- the last reply, behind which the client tells its answer
  tells_so : (course : Course) (came queue : List ℕ) (way : Way) (b : World) (reply : Reply) (said : Said) (leaves : Leaving) → Stands (carry course came queue) way b
      → answered reply.code reply.lines (calm (near_with course came b.near)) ≡ record (calm (leaving said (is_to_close leaves) b.near)) { owed = [] }
      → far_leaves leaves ≡ far_link (gives_on ask.listed course) (tie_of course) → far_parting leaves ≡ is_parting (tie_of course) → link_left leaves ≡ link_of (tie_of course)
      → pending_left leaves ≡ Pendings.Nothing → queue ≡ [] → Stages.MarkedAt state ask (Answers said leaves) own → Stages.FineAt state ask (Answers said leaves) own → Hears b reply []
  tells_so course came queue way b reply said leaves h is link parting left pends empty marked fares = inl (
    record {
      near = leaving said (is_to_close leaves) b.near;
      line = None;
      is = ap (λ v. answered reply.code reply.lines (calm v)) h.near ∙ is;
      fine = tt;
    },
    (
      inr (
        Answers said leaves,
        at_stage refl (h.session ∙ (λ i. linked (sym link i) (sym parting i) (sym pends i) b.far.session)) h.steady h.timed tt (h.link ∙ sym left) h.to_server
            (h.to_client ∙ empty) tt marked refl fares,
      ),
      refl,
    ),
  )

  -- a 150 while the link is open leads on to another course, or a Peek that has enough sends its ABOR
  begins_so : (course next : Course) (came queue : List ℕ) (way : Way) (b : World) (more : List Reply) → Stands (carry course came queue) way b
      → near_with course came b.near ≡ busy (fetching op Replies.Nothing ask.settings came) NearData.Open b.near
      → near_with next came b.near ≡ busy (fetching op Replies.Begun ask.settings came) NearData.Open b.near
      → far_link (gives_on ask.listed next) (tie_of next) ≡ far_link (gives_on ask.listed course) (tie_of course) → tie_of next ≡ tie_of course → more ≡ replies_in next
      → (is_filled op ask.settings came ≡ false → Flows state ask next came queue)
      → (is_filled op ask.settings came ≡ true
      → IsHaltCross state ask own abort_line more (record b { near = busy (halting op Replies.Begun Aborts.Sent ask.settings came) NearData.Open b.near }))
      → Hears b (fixed_reply Texts.Opens) more
  begins_so course next came queue way b more h before after link tie rows flows crosses = by_enough (is_filled op ask.settings came) refl
    where
      by_enough : (enough : Bool) → is_filled op ask.settings came ≡ enough → Hears b (fixed_reply Texts.Opens) more
      by_enough false short =
          leads_on course next came queue way b (fixed_reply Texts.Opens) more h
          (ap (λ v. answered 150 (fixed_reply Texts.Opens).lines (calm v)) before ∙ begins_open op ask.settings came short b.near (fixed_reply Texts.Opens).lines
          ∙ ap (λ v. record (calm v) { owed = [] }) (sym after))
          link tie (flows short) rows
      by_enough true enough = inr (record {
        near = busy (halting op Replies.Begun Aborts.Sent ask.settings came) NearData.Open b.near;
        text = abort_line;
        is = ap (λ v. answered 150 (fixed_reply Texts.Opens).lines (calm v)) (h.near ∙ before) ∙ begins_filled op ask.settings came b.near enough (fixed_reply Texts.Opens).lines;
        fine = carried Commands.Abor tt tt;
        here = crosses enough;
      })

  -- and so it crosses a 226 that is on its way
  given_crosses : (gap : Gap) (left : Bool) (came queue : List ℕ) (way : Way) (b : World) (more : List Reply) → Stands (carry (Given NoReply left) came queue) way b
      → gap_tie gap ≡ left_tie left → QueueFits (Gave true false true gap) queue → MarksFit (Gave true false true gap) own → more ≡ fixed_reply Texts.Complete ∷ []
      → is_filled op ask.settings came ≡ true
      → IsHaltCross state ask own abort_line more (record b { near = busy (halting op Replies.Begun Aborts.Sent ask.settings came) (near_link (gap_tie gap)) b.near })
  given_crosses gap left came queue way b more h tie empty marked rows enough = record {
    halt = Gave true false true gap;
    said = ask.said state;
    came = came;
    queue = queue;
    text_is = refl;
    asked = refl;
    rows_are = rows;
    here = halts_at state ask good sound own (Gave true false true gap) came queue
        (record b { near = busy (halting op Replies.Begun Aborts.Sent ask.settings came) (near_link (gap_tie gap)) b.near }) refl
        (h.session ∙ (λ i. linked (far_is left i) (is_parting (sym tie i)) Pendings.Nothing b.far.session)) h.steady h.timed h.ready.1 (h.link ∙ ap link_of (sym tie)) h.to_server h.to_client empty
        marked h.fine.0 (queue, h.fine.1) enough;
  }
    where
      far_is : (left : Bool) → far_link (gives_on ask.listed (Given NoReply left)) (left_tie left) ≡ FarData.Free
      far_is true = refl
      far_is false = refl

  -- the first reply of a course is heard, and what was asked for goes on along another course or is told
  pub carry_heard : (course : Course) (came queue : List ℕ) (way : Way) (b : World) (reply : Reply) (more : List Reply) → Stands (carry course came queue) way b
      → Answering (reply ∷ more) ≡ Answering (replies_in course) → Hears b reply more
  carry_heard (Giving false octet later) came queue way b reply more h e =
      at_first (Hears b) reply (fixed_reply Texts.Opens) more [] e
      (begins_so (Giving false octet later) (Giving true octet later) came queue way b [] h refl refl refl refl refl (λ short. (h.fine.0, h.fine.1, short))
      (λ enough. record {
        halt = Gives octet later;
        said = ask.said state;
        came = came;
        queue = queue;
        text_is = refl;
        asked = refl;
        rows_are = refl;
        here = halts_at state ask good sound own (Gives octet later) came queue
            (record b { near = busy (halting op Replies.Begun Aborts.Sent ask.settings came) NearData.Open b.near }) refl h.session h.steady h.timed h.ready.1 h.link h.to_server h.to_client tt
            h.marked h.fine.0 (queue ++ octet ∷ later, h.fine.1) enough;
      }))
  carry_heard (Giving true octet later) came queue way b reply more h e = absurd (no_reply reply more e)
  carry_heard (Given NoReply false) came queue way b reply more h e =
      at_first (Hears b) reply (fixed_reply Texts.Opens) more (fixed_reply Texts.Complete ∷ []) e
      (begins_so (Given NoReply false) (Given OneReply false) came queue way b (fixed_reply Texts.Complete ∷ []) h refl refl refl refl refl
      (λ short. (h.fine.0, h.fine.1, short)) (λ enough. given_crosses Unclosed false came queue way b (fixed_reply Texts.Complete ∷ []) h refl tt h.marked refl enough))
  carry_heard (Given NoReply true) came queue way b reply more h e =
      at_first (Hears b) reply (fixed_reply Texts.Opens) more (fixed_reply Texts.Complete ∷ []) e
      (begins_so (Given NoReply true) (Given OneReply true) came queue way b (fixed_reply Texts.Complete ∷ []) h refl refl refl refl refl
      (λ short. (h.fine.0, h.fine.1, short)) (λ enough. given_crosses Closed true came queue way b (fixed_reply Texts.Complete ∷ []) h refl tt h.marked refl enough))
  carry_heard (Given OneReply false) came queue way b reply more h e =
      at_first (Hears b) reply (fixed_reply Texts.Complete) more [] e
      (leads_on (Given OneReply false) (Given BothReplies false) came queue way b (fixed_reply Texts.Complete) [] h
      (ends_open op ask.settings came h.fine.2 b.near (fixed_reply Texts.Complete).lines) refl refl h.fine refl)
  carry_heard (Given OneReply true) came queue way b reply more h e =
      at_first (Hears b) reply (fixed_reply Texts.Complete) more [] e
      (leads_on (Given OneReply true) (Given BothReplies true) came queue way b (fixed_reply Texts.Complete) [] h
      (ends_open op ask.settings came h.fine.2 b.near (fixed_reply Texts.Complete).lines) refl refl h.fine refl)
  carry_heard (Given BothReplies left) came queue way b reply more h e = absurd (no_reply reply more e)
  carry_heard (Ended false true) came queue way b reply more h e =
      at_first (Hears b) reply (fixed_reply Texts.Opens) more (fixed_reply Texts.Complete ∷ []) e
      (leads_on (Ended false true) (Ended true true) came queue way b (fixed_reply Texts.Opens) (fixed_reply Texts.Complete ∷ []) h
      (begins_over op ask.settings came b.near Endings.Clean (fixed_reply Texts.Opens).lines) refl refl h.fine refl)
  carry_heard (Ended false false) came queue way b reply more h e =
      at_first (Hears b) reply (fixed_reply Texts.Opens) more (fixed_reply Texts.Complete ∷ []) e
      (leads_on (Ended false false) (Ended true false) came queue way b (fixed_reply Texts.Opens) (fixed_reply Texts.Complete ∷ []) h
      (begins_over op ask.settings came b.near Endings.Broken (fixed_reply Texts.Opens).lines) refl refl h.fine refl)
  carry_heard (Ended true true) came queue way b reply more h e =
      at_first (Hears b) reply (fixed_reply Texts.Complete) more [] e
      (tells_so (Ended true true) came queue way b (fixed_reply Texts.Complete) (ask.said state) no_link h
      (ends_over op ask.settings came b.near Endings.Clean 226 (ask.said state) (fixed_reply Texts.Complete).lines
      (judged_whole state ask good h.fine.0.2 came (mark_in (no_octets ask.settings) None came) sound h.ready.1 h.fine.0.0 h.fine.1))
      refl refl refl refl h.fine.2 (none_more own h.marked)
      (said_fares state ask good h.fine.0.2 own h.ready.1 h.fine.0.1, refl))
  carry_heard (Ended true false) came queue way b reply more h e =
      at_first (Hears b) reply (fixed_reply Texts.Complete) more [] e
      (tells_so (Ended true false) came queue way b (fixed_reply Texts.Complete) (cut_told state ask good came) no_link h
      (ends_over op ask.settings came b.near Endings.Broken 226 (cut_told state ask good came) (fixed_reply Texts.Complete).lines
      (judged_cut state ask good h.fine.0.2 226 came (inl refl) sound h.fine.0.0 h.fine.1.0))
      refl refl refl refl h.fine.1.1 (one_more own (Broken (counted (length came))) h.marked)
      (cut_fares state ask good h.fine.0.2 own came h.ready.1 h.fine.0.1 h.fine.0.0 h.fine.1.0 h.marked, refl))
  carry_heard (Severed false) came queue way b reply more h e =
      at_first (Hears b) reply (fixed_reply Texts.Opens) more (fixed_reply Texts.Broken ∷ []) e
      (leads_on (Severed false) (Severed true) came queue way b (fixed_reply Texts.Opens) (fixed_reply Texts.Broken ∷ []) h
      (begins_over op ask.settings came b.near Endings.Broken (fixed_reply Texts.Opens).lines) refl refl h.fine refl)
  carry_heard (Severed true) came queue way b reply more h e =
      at_first (Hears b) reply (fixed_reply Texts.Broken) more [] e
      (tells_so (Severed true) came queue way b (fixed_reply Texts.Broken) (cut_told state ask good came) no_link h
      (breaks_over op ask.settings came b.near (cut_told state ask good came) (fixed_reply Texts.Broken).lines
      (judged_cut state ask good h.fine.0.2 426 came (inr refl) sound h.fine.0.0 h.fine.1.0))
      refl refl refl refl h.fine.1.1 (one_more own (Broken (counted (length came))) h.marked)
      (cut_fares state ask good h.fine.0.2 own came h.ready.1 h.fine.0.1 h.fine.0.0 h.fine.1.0 h.marked, refl))
  carry_heard (Refusing why Unclosed) came queue way b reply more h e =
      at_first (Hears b) reply (fixed_reply (refusal_text why)) more [] e
      (tells_so (Refusing why Unclosed) came queue way b (fixed_reply (refusal_text why)) (Refused (code_of why)) LinkParting h
      (denied op ask.settings came b.near why NearData.Open (fixed_reply (refusal_text why)).lines)
      refl refl refl refl h.fine.1.1 (none_more own h.marked) (refused_fares state ask good own why h.ready.1 h.fine.0))
  carry_heard (Refusing why Closed) came queue way b reply more h e =
      at_first (Hears b) reply (fixed_reply (refusal_text why)) more [] e
      (tells_so (Refusing why Closed) came queue way b (fixed_reply (refusal_text why)) (Refused (code_of why)) LinkLeft h
      (denied op ask.settings came b.near why NearData.Open (fixed_reply (refusal_text why)).lines)
      refl refl refl refl h.fine.1.1 (none_more own h.marked) (refused_fares state ask good own why h.ready.1 h.fine.0))
  carry_heard (Refusing why (Lost true)) came queue way b reply more h e =
      at_first (Hears b) reply (fixed_reply (refusal_text why)) more [] e
      (tells_so (Refusing why (Lost true)) came queue way b (fixed_reply (refusal_text why)) (Refused (code_of why)) no_link h
      (denied op ask.settings came b.near why (NearData.Over Endings.Clean) (fixed_reply (refusal_text why)).lines)
      refl refl refl refl h.fine.1.1 (none_more own h.marked) (refused_fares state ask good own why h.ready.1 h.fine.0, refl))
  carry_heard (Refusing why (Lost false)) came queue way b reply more h e =
      at_first (Hears b) reply (fixed_reply (refusal_text why)) more [] e
      (tells_so (Refusing why (Lost false)) came queue way b (fixed_reply (refusal_text why)) (Refused (code_of why)) no_link h
      (denied op ask.settings came b.near why (NearData.Over Endings.Broken) (fixed_reply (refusal_text why)).lines)
      refl refl refl refl h.fine.1.1 (one_more own (Broken (counted (length came))) h.marked) (refused_fares state ask good own why h.ready.1 h.fine.0, refl))
  carry_heard Unopened came queue way b reply more h e =
      at_first (Hears b) reply (fixed_reply Texts.NoConnection) more [] e
      (tells_so Unopened came queue way b (fixed_reply Texts.NoConnection) NotOpened no_link h
      (unopened op ask.settings came b.near (NearData.Over Endings.Broken) (fixed_reply Texts.NoConnection).lines)
      refl refl refl refl h.fine.1 (one_more own (Broken (counted (length came))) h.marked)
      (broken_link_fares state ask good own (h.marked ∙ ap (λ l. Broken (counted (length l)) ∷ []) h.fine.0), refl))
