-- Each turn of the client leads what is asked for from a stage to a stage, and so does each turn of either end.
use Rattle.std.proofs.Common.{◌≡◌, ◌⊎◌, inl, inr, ℕ, zero, suc, ◌≤◌, true, false, List, [], ◌∷◌, length, Option, Some, None, refl, sym, ap, subst, ◌∙◌}
use Rattle.ftp_command.specs.Line.{IsLine, line_of}
use Rattle.ftp_command.specs.declared.command.Command.TheVariants as Commands
use Rattle.ftp_command.proofs.CarriedLemmas.{carried}
use Rattle.ftp_endpoint.specs.Written.{IsTypedHost}
use Rattle.ftp_ends.specs.Reply.{Reply}
use Rattle.ftp_operation.specs.Answer.{Said, Refused, Unopened as NotOpened}
use Rattle.ftp_operation.specs.declared.op.Op.{Op}
use Rattle.ftp_direct.specs.declared.refusal.Refusal.{Refusal}
use Rattle.ftp_direct.specs.Direct.{State}
use Rattle.ftp_direct.specs.Refusal.{code_of}
use Rattle.ftp_client_model.specs.Dialogue.{answered}
use Rattle.ftp_client_model.specs.Plan.{is_extended}
use Rattle.ftp_client_model.specs.View.{View as Near}
use Rattle.ftp_client_model.specs.declared.client.ClientLink.TheVariants as NearData
use Rattle.ftp_client_model.specs.declared.client.Ending.TheVariants as Endings
use Rattle.ftp_server_model.specs.Machine.{Reading, IsReading}
use Rattle.ftp_server_model.specs.Replies.{fixed_reply}
use Rattle.ftp_server_model.specs.View.{View as Far, Transfer}
use Rattle.ftp_server_model.specs.Walk.{refusal_text}
use Rattle.ftp_server_model.specs.declared.reply.FixedReply.TheVariants as Texts
use Rattle.ftp_server_model.specs.declared.session.ServerLink.{ServerLink as FarConnection}
use Rattle.ftp_server_model.specs.declared.session.ServerLink.TheVariants as FarData
use Rattle.ftp_server_model.specs.declared.session.Pending.TheVariants as Pendings
use Rattle.laws_world.specs.World.{World, Gone, Mark, Broken, Refused as RefusedLink}
use Rattle.laws_dialogues.specs.Dialogue.{IsSound, Passes, is_set_aside}
use Rattle.laws_dialogues.specs.Fetches.{Ask, IsAsk, IsPlacedAt, IsTimely, busy, carrying, leaving, linked, opened_command, opened_job, port_reply, rest_reply, offset_pending, kept, IsSteadySession, Opens}
use Rattle.laws_dialogues.specs.Login.{IsOnWay}
use Rattle.laws_dialogues.specs.Stage.{calm, Way, Asking, Answering, FarTurn, NearTurn, Turns, behind}
use Rattle.laws_dialogues.proofs.Fetching.{port_denied, port_taken, steady_at, port_is_told, rest_granted, rest_denied}
use Rattle.laws_dialogues.proofs.LoginTurns.{no_asking, no_reply, operation_turns}
use Rattle.laws_dialogues.proofs.Context.{turn_context}
use Rattle.laws_dialogues.proofs.Offering.{offer_awaited, offer_denied, offer_unaccepted}
use Rattle.laws_dialogues.proofs.Refusing.{ask_leads}
use Rattle.laws_agreement.specs.Cut.{Crosses, Goes}
use Rattle.laws_agreement.specs.PeekStages.{IsHaltCross}
use Rattle.laws_agreement.specs.Stages as Stages
use Rattle.laws_agreement.specs.Stages.{Over, Sent, Granted, Denied, LinkOpen, Stage, PortAsked, PortTold, Dials, Restarts, Retrieves, Carries, Rises, Tells, Answers, Holds, AtFetch, Early, Dialled, Ported, at_port, early_near, early_far, Aside, no_link, port_left, PortWanted, PortSaid, PortTaken, PortDenied, Awaits, Unaccepted, Dismissed, is_served, AtServed, Fared}
use Rattle.laws_agreement.proofs.Fates.{refused_fares, unknown_fares, refused_link_fares}
use Rattle.laws_agreement.proofs.FetchAsked.{asked_at}
use Rattle.laws_agreement.proofs.FetchReplies.{at_first, carry_heard, none_more, one_more}
use Rattle.laws_agreement.proofs.Placing.{at_stage}
use Rattle.laws_agreement.proofs.Still.{way_some}
use Rattle.laws_agreement.proofs.UploadReplies.{lift_heard}

module _ (read : Reading) (reads : IsReading read) (state : State) (ask : Ask) (good : IsAsk ask) (sound : IsSound state) (own : List Mark) where
  abbrev At : Way → World → Type 0
  At way b = AtFetch state ask read own way b

  abbrev Served : Way → World → Type 0
  Served way b = AtServed state ask read own way b

  abbrev Stands : Stage → Way → World → Type 0
  Stands stage way b = Holds state ask own stage way b

  abbrev op : Op (List ℕ)
  op = ask.op

  -- ---- the login, the settings and the command for a port

  abbrev Goal : Near → Far → Type 0
  Goal n f = Opens state ask n f

  abbrev Along : Near → Far → Type 0
  Along n f = Passes state.table state.table n f

  -- at the goal of the opening, with no link, empty queues and no marks, the world is served at a stage
  opens : (b : World) → b.link ≡ Gone → b.data_to_server ≡ [] → b.data_to_client ≡ [] → own ≡ [] → IsTimely ask.sends b.far.context.moment → Goal b.near b.far → Served (Answering []) b
  opens b link to_server to_client none timed (inl goal) = (
    inr (
      PortAsked goal.closing,
      at_stage goal.near goal.session goal.steady timed (goal.set, goal.known) link to_server to_client tt none refl tt,
    ),
    refl,
  )
  opens b link to_server to_client none timed (inr (inl goal)) = (
    inr (
      PortWanted goal.connection goal.pending,
      at_stage goal.near goal.session goal.steady timed goal.set link to_server to_client tt none refl goal.aside,
    ),
    refl,
  )
  opens b link to_server to_client none timed (inr (inr (unknown, goal))) = (
    inr (
      Answers (Refused 530) (Aside false b.far.session.connection b.far.session.pending),
      at_stage goal.near (λ i. record b.far.session { closing = goal.stands.far.closing i; life = goal.stands.far.life i })
          (steady_at state b.near b.far goal.stands) timed tt link to_server to_client tt (none_more own none) refl
          (unknown_fares state ask good own unknown, goal.stands.far.aside),
    ),
    refl,
  )

  -- on the way to the opening and at its goal, with no link, empty queues and no marks, the world is served
  pub arrives : (way : Way) (b : World) → b.link ≡ Gone → b.data_to_server ≡ [] → b.data_to_client ≡ [] → own ≡ []
      → IsTimely ask.sends b.far.context.moment → IsOnWay read state op Along Goal way b.near b.far → Served way b
  arrives way b link to_server to_client none timed (inl (logging, waiting)) = (
    inl (record { on = inl (logging, waiting); some = way_some logging.place b.near way logging.way_is; timed = timed; link = link; to_server = to_server; to_client = to_client; marked = none }),
    tt,
  )
  arrives (Answering []) b link to_server to_client none timed (inr (zero, goal)) = opens b link to_server to_client none timed goal
  arrives (Answering (reply ∷ more)) b link to_server to_client none timed (inr (zero, leads)) = absurd leads
  arrives (Asking line) b link to_server to_client none timed (inr (zero, leads)) = absurd leads
  arrives (Answering []) b link to_server to_client none timed (inr (suc left, leads)) = absurd leads
  arrives (Answering (reply ∷ more)) b link to_server to_client none timed (inr (suc left, leads)) = (
    inl (record { on = inr (suc left, leads); some = λ e. no_reply reply more e; timed = timed; link = link; to_server = to_server; to_client = to_client; marked = none }),
    tt,
  )
  arrives (Asking line) b link to_server to_client none timed (inr (suc left, leads)) = (
    inl (record { on = inr (suc left, leads); some = λ e. no_asking line [] e; timed = timed; link = link; to_server = to_server; to_client = to_client; marked = none }),
    tt,
  )

  -- ---- the client

  -- a reply is heard, and nothing is sent
  abbrev Hears : World → Reply → List Reply → Type 0
  Hears b reply more = (t : NearTurn b.near reply more) × Served (behind t.line more) (record b { near = t.near })

  -- or ABOR is sent, while the other replies are on their way
  abbrev pub Cross : List ℕ → List Reply → World → Type 0
  Cross text rows b = IsHaltCross state ask own text rows b

  abbrev HearsOrCrosses : World → Reply → List Reply → Type 0
  HearsOrCrosses b reply more = Hears b reply more ⊎ Crosses Cross b reply more

  -- the client's peer in a steady session is a typed host
  typed_peer : (b : World) → IsSteadySession state (kept b.near b.far) → IsTypedHost b.near.peer
  typed_peer b steady = subst IsTypedHost (sym steady.peer) steady.typed

  -- the reply that tells the port is heard, and the client dials that port
  port_heard : (port : ℕ) (way : Way) (b : World) → Stands (PortTold port) way b → Hears b (port_reply (is_extended b.near op) b.near.peer port) []
  port_heard port way b h = (
    record {
      near = Stages.near_at state ask (Dials port) b.near;
      line = None;
      is = ap (λ v. answered (port_reply (is_extended b.near op) b.near.peer port).code (port_reply (is_extended b.near op) b.near.peer port).lines (calm v)) h.near
          ∙ port_is_told op port b.near (is_extended b.near op) refl (typed_peer b h.steady) h.fine.0 h.fine.1;
      fine = tt;
    },
    (
      inr (
        Dials port,
        at_stage refl h.session h.steady h.timed h.ready h.link h.to_server h.to_client tt h.marked refl tt,
      ),
      refl,
    ),
  )

  -- the reply that grants REST is heard, and the client sends the own command
  rest_heard : (at : ℕ) (early : Early) (way : Way) (b : World) → Stands (Restarts at Granted early) way b → Hears b (rest_reply at) []
  rest_heard at early way b h = (
    record {
      near = Stages.near_at state ask (Retrieves early) b.near;
      line = Some (line_of ask.command);
      is = ap (λ v. answered (rest_reply at).code (rest_reply at).lines (calm v)) h.near
          ∙ rest_granted ask good.plan (early_near early) (rest_reply at).lines b.near;
      fine = (carried ask.command good.row.typed good.row.stated, refl);
    },
    (
      inr (
        Retrieves early,
        at_stage refl (h.session ∙ ap (λ o. linked (early_far b.near.here early) false (offset_pending o) b.far.session) (sym h.fine.0)) h.steady h.timed
            h.ready h.link h.to_server h.to_client h.came h.marked refl (subst (IsPlacedAt ask.settings) (sym h.fine.0) h.fine.1),
      ),
      refl,
    ),
  )

  -- the reply that denies REST is heard, and the client has its answer, the refusal
  rest_refused : (at : ℕ) (why : Refusal) (early : Early) (way : Way) (b : World) → Stands (Restarts at (Denied why) early) way b → Hears b (fixed_reply (refusal_text why)) []
  rest_refused at why (Dialled true) way b h = (
    record {
      near = leaving (Refused (code_of why)) true b.near;
      line = None;
      is = ap (λ v. answered (fixed_reply (refusal_text why)).code (fixed_reply (refusal_text why)).lines (calm v)) h.near
          ∙ rest_denied op why NearData.Open (fixed_reply (refusal_text why)).lines b.near;
      fine = tt;
    },
    (
      inr (
        Answers (Refused (code_of why)) LinkOpen,
        at_stage refl h.session h.steady h.timed tt h.link h.to_server h.to_client tt h.marked refl
            (λ any. refused_fares state ask good any why h.ready.1 (good.refuses.unplaced state at why h.fine.0 h.fine.1)),
      ),
      refl,
    ),
  )
  rest_refused at why (Dialled false) way b h = (
    record {
      near = leaving (Refused (code_of why)) false b.near;
      line = None;
      is = ap (λ v. answered (fixed_reply (refusal_text why)).code (fixed_reply (refusal_text why)).lines (calm v)) h.near
          ∙ rest_denied op why (NearData.Over Endings.Broken) (fixed_reply (refusal_text why)).lines b.near;
      fine = tt;
    },
    (
      inr (
        Answers (Refused (code_of why)) no_link,
        at_stage refl h.session h.steady h.timed tt h.link h.to_server h.to_client tt (one_more own (Broken 0) h.marked) refl
            (refused_fares state ask good own why h.ready.1 (good.refuses.unplaced state at why h.fine.0 h.fine.1), refl),
      ),
      refl,
    ),
  )
  rest_refused at why (Ported port) way b h = (
    record {
      near = leaving (Refused (code_of why)) true b.near;
      line = None;
      is = ap (λ v. answered (fixed_reply (refusal_text why)).code (fixed_reply (refusal_text why)).lines (calm v)) h.near
          ∙ rest_denied op why (NearData.Listening port) (fixed_reply (refusal_text why)).lines b.near;
      fine = tt;
    },
    (
      inr (
        Answers (Refused (code_of why)) (port_left (FarData.Active (at_port b.near.here port))),
        at_stage refl h.session h.steady h.timed tt h.link h.to_server h.to_client tt (none_more own h.marked) refl
            (refused_fares state ask good own why h.ready.1 (good.refuses.unplaced state at why h.fine.0 h.fine.1), refl),
      ),
      refl,
    ),
  )

  -- ---- the client at its port

  -- the first line behind the opening
  opened_line : IsLine (line_of (opened_command ask.offset ask))
  opened_line = by_offset ask.offset refl
    where
      by_offset : (o : Option ℕ) → ask.offset ≡ o → IsLine (line_of (opened_command o ask))
      by_offset None e = carried ask.command good.row.typed good.row.stated
      by_offset (Some at) e = carried (Commands.Rest at) tt (good.row.few at e)

  -- PORT was taken
  port_goes : (port : ℕ) (way : Way) (b : World) → Stands (PortTaken port false) way b → Hears b (fixed_reply Texts.EndpointTaken) []
  port_goes port way b h = (
    record {
      near = busy (opened_job ask.offset ask) (NearData.Listening port) b.near;
      line = Some (line_of (opened_command ask.offset ask));
      is = ap (λ v. answered (fixed_reply Texts.EndpointTaken).code (fixed_reply Texts.EndpointTaken).lines (calm v)) h.near
          ∙ port_taken ask good.plan port (fixed_reply Texts.EndpointTaken).lines b.near;
      fine = (opened_line, refl);
    },
    by_offset ask.offset refl,
  )
    where
      by_offset : (o : Option ℕ) → ask.offset ≡ o
          → Served (Asking (line_of (opened_command ask.offset ask))) (record b { near = busy (opened_job ask.offset ask) (NearData.Listening port) b.near })
      by_offset None e = (
        inr (
          Retrieves (Ported port),
          at_stage (ap (λ o. busy (opened_job o ask) (NearData.Listening port) b.near) e)
              (h.session ∙ ap (λ o. linked (FarData.Active (at_port b.near.here port)) false o b.far.session) (sym (ap offset_pending e))) h.steady h.timed
              h.ready h.link h.to_server h.to_client tt h.marked (ap (λ o. Asking (line_of (opened_command o ask))) e)
              (subst (IsPlacedAt ask.settings) (sym e) tt),
        ),
        refl,
      )
      by_offset (Some at) e = (
        inr (
          Restarts at Sent (Ported port),
          at_stage (ap (λ o. busy (opened_job o ask) (NearData.Listening port) b.near) e) h.session h.steady h.timed h.ready h.link h.to_server h.to_client tt
              h.marked (ap (λ o. Asking (line_of (opened_command o ask))) e) (e, tt),
        ),
        refl,
      )

  -- a reply with which the client is done, whose port is to be closed, while the server stands so
  leaves_port : (stage : Stage) (connection : FarConnection Transfer) (way : Way) (b : World) (reply : Reply) (said : Said) → Stands stage way b
      → IsSteadySession state (kept b.near b.far) → b.data_to_server ≡ [] → answered reply.code reply.lines (calm (Stages.near_at state ask stage b.near)) ≡ record (calm (leaving said true b.near)) { owed = [] }
      → b.far.session ≡ linked connection false Pendings.Nothing b.far.session → b.link ≡ Gone → b.data_to_client ≡ [] → length own ≤ 1 → Fared state ask own said → is_set_aside connection ≡ true
      → Hears b reply []
  leaves_port stage connection way b reply said h steady to_server is session link to_client marked fares aside = (
    record {
      near = leaving said true b.near;
      line = None;
      is = ap (λ v. answered reply.code reply.lines (calm v)) h.near ∙ is;
      fine = tt;
    },
    (
      inr (
        Answers said (port_left connection),
        at_stage refl session steady h.timed tt link to_server to_client tt marked refl (fares, aside),
      ),
      refl,
    ),
  )

  -- the 150 of a server that connects
  awaits_heard : (port : ℕ) (way : Way) (b : World) → Stands (Awaits port false) way b → Hears b (fixed_reply Texts.Opens) []
  awaits_heard port way b h = (
    record {
      near = Stages.near_at state ask (Awaits port true) b.near;
      line = None;
      is = ap (λ v. answered (fixed_reply Texts.Opens).code (fixed_reply Texts.Opens).lines (calm v)) h.near
          ∙ offer_awaited op (carrying ask.sends ask.settings) b.near port (fixed_reply Texts.Opens).lines;
      fine = tt;
    },
    (
      inr (
        Awaits port true,
        at_stage refl h.session h.steady h.timed h.ready h.link h.to_server h.to_client tt h.marked refl h.fine,
      ),
      refl,
    ),
  )

  -- ---- every reply

  -- at each stage that is served the first reply is heard, and the world is served behind it, or ABOR crosses the others
  told_at : (stage : Stage) (reply : Reply) (more : List Reply) (b : World) → Stands stage (Answering (reply ∷ more)) b → is_served stage ≡ true → HearsOrCrosses b reply more
  told_at (PortAsked closing) reply more b h served = absurd (no_reply reply more h.way_is)
  told_at (PortTold port) reply more b h served =
      inl (at_first (Hears b) reply (port_reply (is_extended b.near op) b.near.peer port) more [] h.way_is (port_heard port (Answering (reply ∷ more)) b h))
  told_at (Dials port) reply more b h served = absurd (no_reply reply more h.way_is)
  told_at (PortWanted connection pending) reply more b h served = absurd (no_reply reply more h.way_is)
  told_at (PortSaid port connection pending) reply more b h served = absurd (no_asking _ (reply ∷ more) (sym h.way_is))
  told_at (PortTaken port true) reply more b h served = absurd (cc)
  told_at (PortTaken port false) reply more b h served =
      inl (at_first (Hears b) reply (fixed_reply Texts.EndpointTaken) more [] h.way_is (port_goes port (Answering (reply ∷ more)) b h))
  told_at (PortDenied port connection) reply more b h served =
      inl (at_first (Hears b) reply (fixed_reply Texts.NotLoggedIn) more [] h.way_is
      (leaves_port (PortDenied port connection) connection (Answering (reply ∷ more)) b (fixed_reply Texts.NotLoggedIn) (Refused 530) h h.steady h.to_server
      (port_denied op port (fixed_reply Texts.NotLoggedIn).lines b.near) h.session h.link h.to_client (none_more own h.marked)
      (unknown_fares state ask good own h.fine.1) h.fine.0))
  told_at (Restarts at Sent early) reply more b h served = absurd (no_asking (line_of (Commands.Rest at)) (reply ∷ more) (sym h.way_is))
  told_at (Restarts at Granted early) reply more b h served = inl (at_first (Hears b) reply (rest_reply at) more [] h.way_is (rest_heard at early (Answering (reply ∷ more)) b h))
  told_at (Restarts at (Denied why) early) reply more b h served =
      inl (at_first (Hears b) reply (fixed_reply (refusal_text why)) more [] h.way_is (rest_refused at why early (Answering (reply ∷ more)) b h))
  told_at (Retrieves early) reply more b h served = absurd (no_asking (line_of ask.command) (reply ∷ more) (sym h.way_is))
  told_at (Awaits port false) reply more b h served =
      inl (at_first (Hears b) reply (fixed_reply Texts.Opens) more [] h.way_is (awaits_heard port (Answering (reply ∷ more)) b h))
  told_at (Awaits port true) reply more b h served = absurd (no_reply reply more h.way_is)
  told_at (Unaccepted port) reply more b h served =
      inl (at_first (Hears b) reply (fixed_reply Texts.NoConnection) more [] h.way_is
      (leaves_port (Unaccepted port) FarData.Free (Answering (reply ∷ more)) b (fixed_reply Texts.NoConnection) NotOpened h h.steady h.to_server
      (offer_unaccepted op (carrying ask.sends ask.settings) b.near port (fixed_reply Texts.NoConnection).lines) h.session h.link h.to_client (one_more own RefusedLink h.marked)
      (refused_link_fares state ask good own h.marked) refl))
  told_at (Dismissed port why) reply more b h served =
      inl (at_first (Hears b) reply (fixed_reply (refusal_text why)) more [] h.way_is
      (leaves_port (Dismissed port why) FarData.Free (Answering (reply ∷ more)) b (fixed_reply (refusal_text why)) (Refused (code_of why)) h h.steady h.to_server
      (offer_denied op (carrying ask.sends ask.settings) b.near why (NearData.Listening port) (fixed_reply (refusal_text why)).lines) h.session h.link h.to_client (none_more own h.marked)
      (refused_fares state ask good own why h.ready.1 h.fine) refl))
  told_at (Carries c) reply more b h served = carry_heard read state ask good sound own c.course c.came c.queue (Answering (reply ∷ more)) b reply more h h.way_is
  told_at (Rises rise lift) reply more b h served = inl (lift_heard read state ask good sound own rise lift (Answering (reply ∷ more)) b reply more h h.way_is)
  told_at (Tells rise said after) reply more b h served = absurd (no_reply reply more h.way_is)
  told_at (Answers said leaves) reply more b h served = absurd (no_reply reply more h.way_is)

  -- ---- all turns

  -- each turn of either end leads what is asked for on, and behind a reply the world is served
  pub fetch_goes : Goes read Served At Cross
  fetch_goes = record { held = λ way b here. here.0; asked = asked; told = told }
    where
      turns : Turns read (IsOnWay read state op Along Goal)
      turns = operation_turns read state op Along Goal reads (λ n f stands. ask_leads read state ask reads good.plan n f stands)

      asked : (line : List ℕ) (b : World) → Served (Asking line) b → (t : FarTurn read b.far line) × At (Answering t.replies) (record b { far = t.far })
      asked line b (inl l, served) =
          let next = turns.asked line b.near b.far l.on in (
            next.0,
            (arrives (Answering next.0.replies) (record b { far = next.0.far }) l.link l.to_server l.to_client l.marked
                (subst (λ context. IsTimely ask.sends context.moment) (sym (turn_context read b.far line next.0)) l.timed) next.1).0,
          )
      asked line b (inr (stage, h), served) = asked_at read reads state ask good own stage line b h

      told : (reply : Reply) (more : List Reply) (b : World) → Served (Answering (reply ∷ more)) b → HearsOrCrosses b reply more
      told reply more b (inl l, served) =
          let next = turns.told reply more b.near b.far l.on in
          inl (next.0, arrives (behind next.0.line more) (record b { near = next.0.near }) l.link l.to_server l.to_client l.marked l.timed next.1)
      told reply more b (inr (stage, h), served) = told_at stage reply more b h served
