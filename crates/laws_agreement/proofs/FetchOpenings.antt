-- Openings and refusals of the link lead what was asked for from a stage to a stage.
use Rattle.std.proofs.Common.{◌≡◌, ◌⊎◌, inl, inr, ℕ, ◌≤◌, Bool, true, false, List, [], ◌∷◌, ◌++◌, length, Option, Some, None, refl, sym, ap, subst, ◌∙◌, append-nil, arith}
use Rattle.std.specs.Prelude.{if◌then◌else◌}
use Rattle.ftp_nvt.specs.Lines.{written_line}
use Rattle.ftp_command.specs.Line.{IsLine, line_of}
use Rattle.ftp_command.specs.declared.command.Command.TheVariants as Commands
use Rattle.ftp_command.proofs.CarriedLemmas.{carried}
use Rattle.ftp_ends.specs.Ear.{quiet}
use Rattle.ftp_ends.specs.Link.{same_host, is_connecting}
use Rattle.ftp_ends.specs.Reply.{reply_octets}
use Rattle.ftp_operation.specs.Answer.{Unopened as NotOpened}
use Rattle.ftp_operation.specs.declared.op.Op.{Op}
use Rattle.ftp_reply.specs.Reader.{Between}
use Rattle.ftp_direct.specs.Direct.{State}
use Rattle.ftp_client_model.specs.Calls as near
use Rattle.ftp_client_model.specs.Dialogue.{answers_once_over, sends_abort}
use Rattle.ftp_client_model.specs.View.{View as Near, Transfer}
use Rattle.ftp_client_model.specs.declared.client.Abort.TheVariants as Aborts
use Rattle.ftp_client_model.specs.declared.client.Replied.TheVariants as Replies
use Rattle.ftp_client_model.specs.declared.client.ClientLink.TheVariants as NearData
use Rattle.ftp_client_model.specs.declared.client.Step.TheVariants as Steps
use Rattle.ftp_server_model.specs.Calls as far
use Rattle.ftp_server_model.specs.Machine.{Reading, completed, given_out, later}
use Rattle.ftp_server_model.specs.Replies.{fixed_reply}
use Rattle.ftp_server_model.specs.View.{View as Far}
use Rattle.ftp_server_model.specs.declared.reply.ReplyKind.TheVariants as Kinds
use Rattle.ftp_server_model.specs.declared.reply.FixedReply.TheVariants as Texts
use Rattle.ftp_server_model.specs.declared.session.ServerLink.TheVariants as FarData
use Rattle.ftp_server_model.specs.declared.session.Pending.TheVariants as Pendings
use Rattle.ftp_server_model.proofs.RepliesWritten.{replies_are_written}
use Rattle.laws_world.specs.Events.{link_opens, link_refused, refused_by}
use Rattle.laws_world.specs.World.{World, Opened, Mark, Refused, marked_last, with_mark}
use Rattle.laws_dialogues.specs.Dialogue.{IsSound}
use Rattle.laws_dialogues.specs.Fetches.{Ask, Direction, Down, Up, HasAnswer, IsAsk, IsOf, IsPlacedAt, carried as offered, fetching, flow_after, giving_of, is_filled, leaving, linked, opened_job, opened_command, offset_pending, busy}
use Rattle.laws_dialogues.specs.Peeks.{abort_line, halting}
use Rattle.laws_dialogues.specs.Stage.{calm, still, Way, Asking, Answering, rest}
use Rattle.laws_dialogues.proofs.Fetching.{given_all, giving_on, opening_sent, own_host}
use Rattle.laws_dialogues.proofs.Offering.{down_job}
use Rattle.laws_agreement.specs.Cut.{Cut, Flows as FlowsOf, Fits, world_at, PlacedAt}
use Rattle.laws_agreement.specs.PeekStages.{AtHalt, Gives, Gave}
use Rattle.laws_agreement.specs.Stages.{Sent, Unclosed, OneReply, IsTaken, Course, Giving, Given, port_aside, Stage, Dials, Restarts, Retrieves, Carries, Answers, Holds, AtFetch, Dialled, Awaits, Unaccepted}
use Rattle.laws_agreement.proofs.CrossKeeps.{abort_crosses, none_heard}
use Rattle.laws_agreement.proofs.Fates.{refused_link_fares}
use Rattle.laws_agreement.proofs.FetchLink.{fits_more, far_linked}
use Rattle.laws_agreement.proofs.Keeps.{line_is_some, anew}
use Rattle.laws_agreement.proofs.PeekBegins.{halts_at}
use Rattle.laws_agreement.proofs.Placing.{at_stage}
use Rattle.laws_agreement.proofs.Still.{no_octets as no_cut}
use Rattle.laws_agreement.proofs.UploadOpenings.{upload_accepted}

module _ (read : Reading) (state : State) (ask : Ask) (good : IsAsk ask) (sound : IsSound state) (own : List Mark) where
  abbrev At : List Mark → Way → World → Type 0
  At own way b = AtFetch state ask read own way b

  abbrev Stands : List Mark → Stage → Way → World → Type 0
  Stands own stage way b = Holds state ask own stage way b

  abbrev op : Op (List ℕ)
  op = ask.op

  -- a world placed at a stage
  placed : (own : List Mark) (w b : World) (way : Way) (c : Cut) (stage : Stage) → w ≡ world_at b way c → Fits way c → Stands own stage way b → PlacedAt (At own) w
  placed own w b way c stage is fits h = record { base = b; way = way; cut = c; is = is; fits = fits; here = inr (stage, h) }

  -- a mark is the only one where there was none before it
  marked_so : (mark : Mark) → own ≡ [] → own ++ mark ∷ [] ≡ mark ∷ []
  marked_so mark is = ap (λ l. l ++ mark ∷ []) is

  abbrev carry : Course → (came queue : List ℕ) → Stage
  carry course came queue = Carries (record { course = course; came = came; queue = queue })

  -- ---- the link opens, or is refused

  module _ (port : ℕ) (w b : World) (way : Way) (c : Cut) (is : w ≡ world_at b rest no_cut) (h : Stands own (Dials port) way b) where
    -- the client behind the opening, and the line that it sends
    opened_near : Near
    opened_near = busy (opened_job ask.offset ask) NearData.Open b.near

    -- the client, told that the link is open, owes the command that follows the opening
    opens_near : near.data_opened b.far.context.here (calm b.near) ≡ record (calm opened_near) { owed = written_line (line_of (opened_command ask.offset ask)) }
    unfolding near.data_opened opened_near
    opens_near = ap (λ v. near.data_opened b.far.context.here (calm v)) h.near ∙ opening_sent ask good.plan Steps.Connect NearData.Open b.near

    -- the server once the link is open
    opened_far : Far
    opened_far = far_linked (linked FarData.Ready false Pendings.Nothing b.far.session) b.far

    -- the client's host is the server's peer
    peer_is : same_host b.near.here b.far.context.peer ≡ true
    peer_is = ap (λ host. same_host host b.far.context.peer) h.steady.here ∙ own_host b.far.context.peer

    -- the server, told who opened its port, has the link
    opens_far : far.data_opened b.near.here (still b.far) ≡ still opened_far
    unfolding far.data_opened opened_far
    opens_far =
        ap (λ s. far.data_opened b.near.here (still (far_linked s b.far))) h.session
        ∙ ap (λ mine. later (completed (far.opens FarData.Passive mine (still (far_linked (linked FarData.Passive false Pendings.Nothing b.far.session) b.far))))) peer_is

    -- both ends once the link is open
    opened_base : World
    opened_base = record b { near = opened_near; far = opened_far; link = Opened; came = 0 }

    -- the opened link leaves a world with that command on its way
    opened_is : link_opens w ≡ world_at opened_base (Asking (line_of (opened_command ask.offset ask))) (record { held = []; moving = []; owed = written_line (line_of (opened_command ask.offset ask)) })
    unfolding opened_base
    opened_is =
        ap link_opens is
        ∙ (λ i. record opened_base { near = opens_near i; far = opens_far i; control_to_server = []; control_to_client = [] })

    -- the client, told that its link was refused, reports it as not opened
    refused_near : near.data_refused (calm b.near) ≡ calm (leaving NotOpened false b.near)
    unfolding near.data_refused
    refused_near = ap (λ v. near.data_refused (calm v)) h.near

    -- the client wants to connect
    connects : is_connecting (near.wants (calm b.near)) ≡ true
    unfolding near.wants
    connects = ap (λ v. is_connecting (near.wants (calm v))) h.near

    -- both ends once the link was refused to the client
    refused_base : World
    refused_base = record b { near = leaving NotOpened false b.near; marks = marked_last Refused b.marks }

    -- a refused link leaves a world that reports it, with nothing on its way
    refused_is : link_refused w ≡ world_at refused_base rest no_cut
    unfolding refused_base
    refused_is =
        ap link_refused is
        ∙ ap (λ (q : Bool). with_mark Refused (refused_by q (world_at b rest no_cut))) connects
        ∙ ap (λ v. record (world_at b rest no_cut) { near = v; marks = marked_last Refused b.marks }) refused_near

    -- a refused link is placed, with the mark of a refusal
    pub refused_placed : PlacedAt (At (own ++ Refused ∷ [])) (link_refused w)
    unfolding refused_base
    refused_placed =
        placed (own ++ Refused ∷ []) (link_refused w) refused_base rest no_cut (Answers NotOpened port_aside) refused_is (tt, (refl, refl))
        (at_stage refl h.session h.steady h.timed tt h.link h.to_server h.to_client tt
        (subst (λ l. length l ≤ 1) (sym (marked_so Refused h.marked)) (omega arith)) refl
        (refused_link_fares state ask good (own ++ Refused ∷ []) (marked_so Refused h.marked), refl))

    -- the command that follows the opening is a line
    opened_line : IsLine (line_of (opened_command ask.offset ask))
    opened_line = by_offset ask.offset refl
      where
        by_offset : (o : Option ℕ) → ask.offset ≡ o → IsLine (line_of (opened_command o ask))
        by_offset None e = carried ask.command good.row.typed good.row.stated
        by_offset (Some at) e = carried (Commands.Rest at) tt (good.row.few at e)

    -- at a stage that stands with that command on its way the opened link is placed
    opened_at : (stage : Stage) → Stands own stage (Asking (line_of (opened_command ask.offset ask))) opened_base → PlacedAt (At own) (link_opens w)
    opened_at stage holds =
        let line : List ℕ = written_line (line_of (opened_command ask.offset ask)) in
        placed own (link_opens w) opened_base (Asking (line_of (opened_command ask.offset ask))) (record { held = []; moving = []; owed = line }) stage opened_is
        (opened_line, subst (λ l. FlowsOf line [] l []) (append-nil line) (anew line [] (line_is_some (line_of (opened_command ask.offset ask))))) holds

    -- an opened link is placed at the stage of its next command
    pub opened_placed : PlacedAt (At own) (link_opens w)
    unfolding opened_base opened_near opened_far
    opened_placed = by_offset ask.offset refl
      where
        by_offset : (o : Option ℕ) → ask.offset ≡ o → PlacedAt (At own) (link_opens w)
        by_offset None e =
            opened_at (Retrieves (Dialled true))
            (at_stage (ap (λ o. busy (opened_job o ask) NearData.Open b.near) e)
            (ap (λ o. linked FarData.Ready false o b.far.session) (sym (ap offset_pending e))) h.steady h.timed h.ready refl h.to_server h.to_client refl
            h.marked (ap (λ o. Asking (line_of (opened_command o ask))) e) (subst (IsPlacedAt ask.settings) (sym e) tt))
        by_offset (Some at) e =
            opened_at (Restarts at Sent (Dialled true))
            (at_stage (ap (λ o. busy (opened_job o ask) NearData.Open b.near) e) refl h.steady h.timed h.ready refl h.to_server h.to_client refl h.marked
            (ap (λ o. Asking (line_of (opened_command o ask))) e) (e, tt))

  -- ---- the server has connected to the client's port, or could not

  module _ (port : ℕ) (w b : World) (way : Way) (c : Cut) (is : w ≡ world_at b rest no_cut) (h : Stands own (Awaits port true) way b) where
    -- what falls is taken
    taken : HasAnswer ask → IsTaken state ask
    taken answers = (h.fine.0, answers.refused state h.fine.1 ∙ h.fine.0, answers)

    -- the client behind it: a Peek that asks for no octet has sent its ABOR
    abbrev accepted_near : Bool → Near
    accepted_near true = record (calm (busy (halting op Replies.Begun Aborts.Sent ask.settings []) NearData.Open b.near)) { owed = written_line abort_line }
    accepted_near false = calm (busy (fetching op Replies.Begun ask.settings []) NearData.Open b.near)

    -- the client behind it, by whether a Peek has enough
    accepts_near : ask.sends ≡ Down → (enough : Bool) → is_filled op ask.settings [] ≡ enough → near.data_opened b.far.context.here (calm b.near) ≡ accepted_near enough
    unfolding near.data_opened
    accepts_near down enough is =
        let v : Near = calm (busy (fetching op Replies.Begun ask.settings []) NearData.Open b.near) in
        let transfer : Transfer = record { replied = Replies.Begun; abort = Aborts.Unsent; flow = flow_after ask.settings [] } in
        let peer : same_host b.far.context.here b.near.peer ≡ true = ap (same_host b.far.context.here) h.steady.peer ∙ own_host b.far.context.here in
        ap (λ n. near.data_opened b.far.context.here (calm n)) (h.near ∙ ap (λ job. busy job (NearData.Accepting port) b.near) (down_job ask down Replies.Begun))
        ∙ ap (λ same. near.accepted same (calm (busy (fetching op Replies.Begun ask.settings []) (NearData.Accepting port) b.near))) peer
        ∙ ap (λ (b : Bool). answers_once_over (if b then sends_abort op transfer v else v)) is ∙ by_enough enough
      where
        by_enough : (enough : Bool)
            → answers_once_over (if enough then sends_abort op (record { replied = Replies.Begun; abort = Aborts.Unsent; flow = flow_after ask.settings [] })
            (calm (busy (fetching op Replies.Begun ask.settings []) NearData.Open b.near)) else calm (busy (fetching op Replies.Begun ask.settings []) NearData.Open b.near))
            ≡ accepted_near enough
        by_enough true = refl
        by_enough false = refl

    -- the server behind it, whatever it has to give
    giving_so : List ℕ → Far
    giving_so octets = far_linked (linked (FarData.Transferring (giving_of ask.listed octets)) false Pendings.Nothing b.far.session) b.far

    -- the server, told that its connection came, begins to give octets after its 150
    accepts_far : ask.sends ≡ Down → (octets : List ℕ) → ask.wire state ≡ octets
        → far.data_opened b.near.here (still b.far) ≡ later (given_out (FarData.Transferring (giving_of ask.listed octets)) (still (giving_so octets)))
    unfolding far.data_opened giving_so
    accepts_far down octets wire =
        ap (λ s. far.data_opened b.near.here (still (far_linked s b.far))) h.session
        ∙ ap (λ t. later (given_out (FarData.Transferring t) (still (far_linked (linked (FarData.Transferring t) false Pendings.Nothing b.far.session) b.far)))) (ap (λ d. offered d ask state) down)
        ∙ ap (λ l. later (given_out (FarData.Transferring (giving_of ask.listed l)) (still (giving_so l)))) wire

    -- both ends once the connection of the server came, with this server
    accepted_base : Far → World
    accepted_base f = record b { near = busy (fetching op Replies.Begun ask.settings []) NearData.Open b.near; far = f; link = Opened; came = 0 }

    -- where an octet is to be given, the link that came is placed at the stage of giving
    accepts_some : ask.sends ≡ Down → HasAnswer ask → is_filled op ask.settings [] ≡ false → (octet : ℕ) (more : List ℕ) → ask.wire state ≡ octet ∷ more → PlacedAt (At own) (link_opens w)
    unfolding accepted_base giving_so
    accepts_some down answers short octet more wire =
        let f : Far = giving_so (octet ∷ more) in
        let far : far.data_opened b.near.here (still b.far) ≡ still f = accepts_far down (octet ∷ more) wire ∙ ap later (giving_on ask.listed octet more (still f)) in
        let opened : link_opens w ≡ world_at (accepted_base f) rest no_cut =
        ap link_opens is ∙ (λ i. record (accepted_base f) { near = accepts_near down false short i; far = far i; control_to_server = []; control_to_client = [] }) in
        placed own (link_opens w) (accepted_base f) rest no_cut (carry (Giving true octet more) [] []) opened (tt, (refl, refl)) (at_stage refl refl h.steady
        h.timed h.ready refl h.to_server h.to_client refl h.marked refl (taken answers, sym wire, short))

    -- where none is to be given, the link that came is placed at the stage after the close
    accepts_none : ask.sends ≡ Down → HasAnswer ask → is_filled op ask.settings [] ≡ false → ask.wire state ≡ [] → PlacedAt (At own) (link_opens w)
    unfolding accepted_base giving_so
    accepts_none down answers short wire =
        let f : Far = far_linked (linked FarData.Free true Pendings.Nothing b.far.session) b.far in
        let owed : List ℕ = reply_octets (fixed_reply Texts.Complete) in
        let far : far.data_opened b.near.here (still b.far) ≡ record (still f) { owed = owed } = accepts_far down [] wire ∙ ap later (given_all ask.listed (still (giving_so []))) in
        let opened : link_opens w ≡ world_at (accepted_base f) (Answering (fixed_reply Texts.Complete ∷ [])) (record { held = []; moving = []; owed = owed }) =
        ap link_opens is ∙ (λ i. record (accepted_base f) { near = accepts_near down false short i; far = far i; control_to_server = []; control_to_client = [] }) in
        placed own (link_opens w) (accepted_base f) (Answering (fixed_reply Texts.Complete ∷ [])) (record { held = []; moving = []; owed = owed })
        (carry (Given OneReply false) [] []) opened
        (fits_more [] (fixed_reply Texts.Complete) no_cut (replies_are_written b.far.session (Kinds.Fixed Texts.Complete) (fixed_reply Texts.Complete) tt refl) (tt, (refl, refl)))
        (at_stage refl refl h.steady h.timed h.ready refl h.to_server h.to_client refl h.marked refl (taken answers, sym wire, short))

    -- the same of a Peek that asks for no octet
    halt_base : Far → World
    halt_base f = record b { near = busy (halting op Replies.Begun Aborts.Sent ask.settings []) NearData.Open b.near; far = f; link = Opened; came = 0 }

    -- where an octet is to be given, ABOR is sent while the server gives
    halts_some : ask.sends ≡ Down → HasAnswer ask → is_filled op ask.settings [] ≡ true → (octet : ℕ) (more : List ℕ) → ask.wire state ≡ octet ∷ more → AtHalt state ask own (link_opens w)
    unfolding halt_base giving_so
    halts_some down answers enough octet more wire =
        let f : Far = giving_so (octet ∷ more) in
        let far : far.data_opened b.near.here (still b.far) ≡ still f = accepts_far down (octet ∷ more) wire ∙ ap later (giving_on ask.listed octet more (still f)) in
        abort_crosses state ask own [] (halt_base f) (link_opens w) no_cut (record { ear = quiet; gathered = Between; heard = none_heard }) tt (refl, refl)
        (ap link_opens is ∙ (λ i. record (halt_base f) { near = accepts_near down true enough i; far = far i; control_to_server = []; control_to_client = [] }))
        (record {
          halt = Gives octet more;
          said = ask.said state;
          came = [];
          queue = [];
          text_is = refl;
          asked = refl;
          rows_are = refl;
          here = halts_at state ask good sound own (Gives octet more) [] [] (halt_base f) refl refl h.steady h.timed h.ready.1 refl h.to_server h.to_client tt h.marked (taken answers) (ask.wire state, refl)
              enough;
        })

    -- where none is to be given, ABOR crosses the 226
    halts_none : ask.sends ≡ Down → HasAnswer ask → is_filled op ask.settings [] ≡ true → ask.wire state ≡ [] → AtHalt state ask own (link_opens w)
    unfolding halt_base giving_so
    halts_none down answers enough wire =
        let f : Far = far_linked (linked FarData.Free true Pendings.Nothing b.far.session) b.far in
        let owed : List ℕ = reply_octets (fixed_reply Texts.Complete) in
        let far : far.data_opened b.near.here (still b.far) ≡ record (still f) { owed = owed } = accepts_far down [] wire ∙ ap later (given_all ask.listed (still (giving_so []))) in
        let fits = fits_more [] (fixed_reply Texts.Complete) no_cut (replies_are_written b.far.session (Kinds.Fixed Texts.Complete) (fixed_reply Texts.Complete) tt refl) (tt, (refl, refl)) in
        abort_crosses state ask own (fixed_reply Texts.Complete ∷ []) (halt_base f) (link_opens w) (record { held = []; moving = []; owed = owed })
        (record { ear = quiet; gathered = Between; heard = none_heard }) fits.0 fits.1
        (ap link_opens is ∙ (λ i. record (halt_base f) { near = accepts_near down true enough i; far = far i; control_to_server = []; control_to_client = [] }))
        (record {
          halt = Gave true false true Unclosed;
          said = ask.said state;
          came = [];
          queue = [];
          text_is = refl;
          asked = refl;
          rows_are = refl;
          here = halts_at state ask good sound own (Gave true false true Unclosed) [] [] (halt_base f) refl refl h.steady h.timed h.ready.1 refl h.to_server h.to_client tt h.marked (taken answers)
              (ask.wire state, refl) enough;
        })

    -- a link that came after the 150 is placed, or ABOR was sent
    pub accepted_placed : PlacedAt (At own) (link_opens w) ⊎ AtHalt state ask own (link_opens w)
    accepted_placed = by_way ask.sends refl good.way
      where
        by_enough : ask.sends ≡ Down → HasAnswer ask → (enough : Bool) → is_filled op ask.settings [] ≡ enough → (octets : List ℕ) → ask.wire state ≡ octets
            → PlacedAt (At own) (link_opens w) ⊎ AtHalt state ask own (link_opens w)
        by_enough down answers false short [] wire = inl (accepts_none down answers short wire)
        by_enough down answers false short (octet ∷ more) wire = inl (accepts_some down answers short octet more wire)
        by_enough down answers true enough [] wire = inr (halts_none down answers enough wire)
        by_enough down answers true enough (octet ∷ more) wire = inr (halts_some down answers enough octet more wire)

        by_way : (d : Direction) → ask.sends ≡ d → IsOf ask d → PlacedAt (At own) (link_opens w) ⊎ AtHalt state ask own (link_opens w)
        by_way Down down answers = by_enough down answers (is_filled op ask.settings []) refl (ask.wire state) refl
        by_way (Up rise) up upload = inl (upload_accepted read state ask good sound own rise upload port w b way is h)

    -- the client does not want to connect: it waits at its port
    accepting : is_connecting (near.wants (calm b.near)) ≡ false
    unfolding near.wants
    accepting = ap (λ v. is_connecting (near.wants (calm v))) h.near

    -- the server once its connection was refused
    unaccepted_far : Far
    unaccepted_far = far_linked (linked FarData.Free false Pendings.Nothing b.far.session) b.far

    -- the server, told that its connection was refused, owes 425
    refused_far : far.data_refused (still b.far) ≡ record (still unaccepted_far) { owed = reply_octets (fixed_reply Texts.NoConnection) }
    unfolding far.data_refused unaccepted_far
    refused_far = ap (λ s. far.data_refused (still (far_linked s b.far))) h.session

    -- both ends once the connection of the server was refused
    unaccepted_base : World
    unaccepted_base = record b { far = unaccepted_far; marks = marked_last Refused b.marks }

    -- a connection that was refused after the 150 is placed, with the mark of a refusal
    pub unaccepted_placed : PlacedAt (At (own ++ Refused ∷ [])) (link_refused w)
    unfolding unaccepted_base unaccepted_far
    unaccepted_placed =
        let owed : List ℕ = reply_octets (fixed_reply Texts.NoConnection) in
        let refused : link_refused w ≡ world_at unaccepted_base (Answering (fixed_reply Texts.NoConnection ∷ [])) (record { held = []; moving = []; owed = owed }) =
        ap link_refused is
        ∙ ap (λ (q : Bool). with_mark Refused (refused_by q (world_at b rest no_cut))) accepting
        ∙ ap (λ f. record (world_at b rest no_cut) { far = f; marks = marked_last Refused b.marks }) refused_far in
        placed (own ++ Refused ∷ []) (link_refused w) unaccepted_base (Answering (fixed_reply Texts.NoConnection ∷ [])) (record { held = []; moving = []; owed = owed })
        (Unaccepted port) refused
        (fits_more [] (fixed_reply Texts.NoConnection) no_cut (replies_are_written b.far.session (Kinds.Fixed Texts.NoConnection) (fixed_reply Texts.NoConnection) tt refl) (tt, (refl, refl)))
        (at_stage h.near refl h.steady h.timed h.ready h.link h.to_server h.to_client tt (marked_so Refused h.marked) refl tt)
