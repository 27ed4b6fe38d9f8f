-- Each turn of the server leads what is asked for from a stage to a stage.
use Rattle.std.proofs.Common.{◌≡◌, inr, ℕ, ◌<◌, ◌^◌, Bool, true, false, ◌||◌, List, [], ◌∷◌, Option, Some, None, refl, sym, ap, subst, ◌∙◌}
use Rattle.ftp_command.specs.Line.{line_of}
use Rattle.ftp_command.specs.declared.command.Command.TheVariants as Commands
use Rattle.ftp_operation.specs.declared.op.Op.{Op}
use Rattle.ftp_path.specs.Path.{Names}
use Rattle.ftp_direct.specs.declared.refusal.Refusal.{Refusal}
use Rattle.ftp_direct.specs.Direct.{State, offset_refusal}
use Rattle.ftp_client_model.specs.Plan.{is_extended, port_command}
use Rattle.ftp_client_model.specs.View.{View as Near}
use Rattle.ftp_client_model.specs.declared.client.ClientLink.TheVariants as NearData
use Rattle.ftp_client_model.specs.declared.client.Ending.TheVariants as Endings
use Rattle.ftp_client_model.specs.declared.client.Replied.TheVariants as Replies
use Rattle.ftp_server_model.specs.Endpoint.{forgotten, is_standing}
use Rattle.ftp_server_model.specs.Machine.{Reading, IsReading, is_connection_busy}
use Rattle.ftp_server_model.specs.Replies.{fixed_reply}
use Rattle.ftp_server_model.specs.View.{Transfer, how_in_force}
use Rattle.ftp_server_model.specs.Walk.{refusal_text}
use Rattle.ftp_server_model.specs.declared.reply.ReplyKind.TheVariants as Kinds
use Rattle.ftp_server_model.specs.declared.reply.FixedReply.TheVariants as Texts
use Rattle.ftp_server_model.specs.declared.session.ServerLink.{ServerLink as FarConnection}
use Rattle.ftp_server_model.specs.declared.session.ServerLink.TheVariants as FarData
use Rattle.ftp_server_model.specs.declared.session.Pending.{Pending}
use Rattle.ftp_server_model.specs.declared.session.Pending.TheVariants as Pendings
use Rattle.ftp_server_model.proofs.RepliesWritten.{replies_are_written}
use Rattle.laws_world.specs.World.{World, Mark}
use Rattle.laws_dialogues.specs.Dialogue.{is_set_aside}
use Rattle.laws_dialogues.specs.Fetches.{Ask, Direction, Down, Up, HasAnswer, IsAsk, IsOf, busy, carried, giving_of, rest_reply, offset_pending}
use Rattle.laws_dialogues.specs.Stage.{Way, Asking, Answering, FarTurn}
use Rattle.laws_dialogues.proofs.Exchanges.{with_session}
use Rattle.laws_dialogues.proofs.Fetching.{at_endpoint, awaits_turn, connecting, refused_turn, taken_turn, granted_turn, denied_turn, refuses_turn, unopens_turn, gives_turn, gave_turn, giving}
use Rattle.laws_dialogues.proofs.LoginTurns.{no_asking, asked_text}
use Rattle.laws_dialogues.proofs.Offering.{down_job}
use Rattle.laws_dialogues.proofs.ServerTurns.{aside_idle, cleared}
use Rattle.laws_agreement.specs.Stages.{Sent, Granted, Denied, NoReply, Unclosed, Lost, Giving, Given, Refusing, Unopened, Stage, PortAsked, PortTold, Dials, Restarts, Retrieves, Carries, Rises, Tells, Answers, Holds, AtFetch, Early, Dialled, Ported, at_port, early_far, PortWanted, PortSaid, PortTaken, PortDenied, Awaits, Unaccepted, Dismissed}
use Rattle.laws_agreement.proofs.Placing.{at_stage}
use Rattle.laws_agreement.proofs.Sessions.{fixed, forgotten_on, idle_at, linked_on}
use Rattle.laws_agreement.proofs.UploadAsked.{no_line, stor_broken, stor_open}

module _ (read : Reading) (reads : IsReading read) (state : State) (ask : Ask) (good : IsAsk ask) (own : List Mark) where
  abbrev At : Way → World → Type 0
  At way b = AtFetch state ask read own way b

  abbrev Stands : Stage → Way → World → Type 0
  Stands stage way b = Holds state ask own stage way b

  abbrev op : Op (List ℕ)
  op = ask.op

  -- an offset that is asked for has no more than 18 digits
  few : (at : ℕ) → ask.offset ≡ Some at → at < 10 ^ 18
  few at is = good.row.few at is

  -- ---- the server

  -- REST: the server grants the offset or denies it
  rest_turn : (at : ℕ) (early : Early) (b : World) → Stands (Restarts at Sent early) (Asking (line_of (Commands.Rest at))) b
      → (t : FarTurn read b.far (line_of (Commands.Rest at))) × At (Answering t.replies) (record b { far = t.far })
  rest_turn at early b h = by_why (offset_refusal at (how_in_force ask.settings)) refl
    where
      idle : is_connection_busy b.far.session.connection ≡ false
      idle = idle_at early b.near.here b.far (ap (λ s. s.connection) h.session)

      by_why : (why : Option Refusal) → offset_refusal at (how_in_force ask.settings) ≡ why
          → (t : FarTurn read b.far (line_of (Commands.Rest at))) × At (Answering t.replies) (record b { far = t.far })
      by_why None none = (
        record {
          far = with_session (record (cleared b.far) { pending = Pendings.Restart at }) b.far;
          replies = rest_reply at ∷ [];
          is = granted_turn read reads state ask good.row b.near b.far h.steady h.ready.0 h.ready.1 idle at (few at h.fine.0) none;
          fine = (replies_are_written b.far.session (Kinds.Restarting at) (rest_reply at) (few at h.fine.0) refl, tt);
        },
        inr (
          Restarts at Granted early,
          at_stage h.near (linked_on b.far.session (early_far b.near.here early) false Pendings.Nothing (Pendings.Restart at) h.session) h.steady h.timed
              h.ready h.link h.to_server h.to_client h.came h.marked refl (h.fine.0, none),
        ),
      )
      by_why (Some why) some = (
        record {
          far = with_session (cleared b.far) b.far;
          replies = fixed_reply (refusal_text why) ∷ [];
          is = denied_turn read reads state ask good.row b.near b.far h.steady h.ready.0 h.ready.1 idle at why (few at h.fine.0) some;
          fine = (fixed b.far.session (refusal_text why), tt);
        },
        inr (
          Restarts at (Denied why) early,
          at_stage h.near (linked_on b.far.session (early_far b.near.here early) false Pendings.Nothing Pendings.Nothing h.session) h.steady h.timed h.ready
              h.link h.to_server h.to_client h.came h.marked refl (h.fine.0, some),
        ),
      )

  -- RETR, MLSD or NLST over a link that broke
  retr_broken : ask.sends ≡ Down → (b : World) → Stands (Retrieves (Dialled false)) (Asking (line_of ask.command)) b
      → (t : FarTurn read b.far (line_of ask.command)) × At (Answering t.replies) (record b { far = t.far })
  retr_broken down b h = by_why (ask.why state) refl
    where
      idle : is_connection_busy b.far.session.connection ≡ false
      idle = idle_at (Dialled false) b.near.here b.far (ap (λ s. s.connection) h.session)

      by_why : (why : Option Refusal) → ask.why state ≡ why
          → (t : FarTurn read b.far (line_of ask.command)) × At (Answering t.replies) (record b { far = t.far })
      by_why None none = (
        record {
          far = with_session (cleared b.far) b.far;
          replies = fixed_reply Texts.NoConnection ∷ [];
          is = unopens_turn read reads state ask good.row b.near b.far h.steady h.ready.0 h.ready.1 idle (ap (λ s. s.pending) h.session) none (ap (λ s. s.connection) h.session);
          fine = (fixed b.far.session Texts.NoConnection, tt);
        },
        inr (
          Carries (record { course = Unopened; came = []; queue = [] }),
          at_stage (h.near ∙ ap (λ job. busy job (NearData.Over Endings.Broken) b.near) (down_job ask down Replies.Nothing))
              (linked_on b.far.session FarData.Free false (offset_pending ask.offset) Pendings.Nothing h.session) h.steady h.timed h.ready h.link h.to_server
              h.to_client h.came h.marked refl (refl, refl),
        ),
      )
      by_why (Some why) some = (
        record {
          far = with_session (forgotten (cleared b.far)) b.far;
          replies = fixed_reply (refusal_text why) ∷ [];
          is = refuses_turn read reads state ask good.row b.near b.far h.steady h.ready.0 h.ready.1 idle (ap (λ s. s.pending) h.session) why some;
          fine = (fixed b.far.session (refusal_text why), tt);
        },
        inr (
          Carries (record { course = Refusing why (Lost false); came = []; queue = [] }),
          at_stage (h.near ∙ ap (λ job. busy job (NearData.Over Endings.Broken) b.near) (down_job ask down Replies.Nothing))
              (forgotten_on b.far.session FarData.Free (offset_pending ask.offset) h.session) h.steady h.timed h.ready h.link h.to_server h.to_client h.came
              h.marked refl (good.refuses.refused state why h.fine some, (refl, refl)),
        ),
      )

  -- RETR, MLSD or NLST over an open link
  retr_open : ask.sends ≡ Down → HasAnswer ask → (b : World) → Stands (Retrieves (Dialled true)) (Asking (line_of ask.command)) b
      → (t : FarTurn read b.far (line_of ask.command)) × At (Answering t.replies) (record b { far = t.far })
  retr_open down answers b h = by_why (ask.why state) refl (ask.wire state) refl
    where
      idle : is_connection_busy b.far.session.connection ≡ false
      idle = idle_at (Dialled true) b.near.here b.far (ap (λ s. s.connection) h.session)

      ready : b.far.session.connection ≡ FarData.Ready
      ready = ap (λ s. s.connection) h.session

      pending : b.far.session.pending ≡ offset_pending ask.offset
      pending = ap (λ s. s.pending) h.session

      by_why : (why : Option Refusal) → ask.why state ≡ why → (octets : List ℕ) → ask.wire state ≡ octets
          → (t : FarTurn read b.far (line_of ask.command)) × At (Answering t.replies) (record b { far = t.far })
      by_why None none [] empty = (
        record {
          far = with_session (forgotten (giving ask.listed [] b.far)) b.far;
          replies = fixed_reply Texts.Opens ∷ fixed_reply Texts.Complete ∷ [];
          is = gave_turn read reads state ask good.row b.near b.far h.steady h.ready.0 h.ready.1 idle pending (ap (λ d. carried d ask state) down ∙ ap (giving_of ask.listed) empty) none ready;
          fine = (fixed b.far.session Texts.Opens, (fixed b.far.session Texts.Complete, tt));
        },
        inr (
          Carries (record { course = Given NoReply false; came = []; queue = [] }),
          at_stage (h.near ∙ ap (λ job. busy job NearData.Open b.near) (down_job ask down Replies.Nothing))
              (λ i. record (forgotten (giving ask.listed [] b.far)) { closing = (h.session i).closing || true; life = (h.session i).life }) h.steady h.timed
              h.ready h.link h.to_server h.to_client h.came h.marked refl ((none, answers.refused state h.fine ∙ none, answers), sym empty, tt),
        ),
      )
      by_why None none (octet ∷ more) some = (
        record {
          far = with_session (giving ask.listed (octet ∷ more) b.far) b.far;
          replies = fixed_reply Texts.Opens ∷ [];
          is = gives_turn read reads state ask good.row b.near b.far h.steady h.ready.0 h.ready.1 idle pending octet more (ap (λ d. carried d ask state) down ∙ ap (giving_of ask.listed) some) none ready;
          fine = (fixed b.far.session Texts.Opens, tt);
        },
        inr (
          Carries (record { course = Giving false octet more; came = []; queue = [] }),
          at_stage (h.near ∙ ap (λ job. busy job NearData.Open b.near) (down_job ask down Replies.Nothing))
              (λ i. record (giving ask.listed (octet ∷ more) b.far) { closing = (h.session i).closing; life = (h.session i).life }) h.steady h.timed h.ready
              h.link h.to_server h.to_client h.came h.marked refl ((none, answers.refused state h.fine ∙ none, answers), sym some, tt),
        ),
      )
      by_why (Some why) some octets is = (
        record {
          far = with_session (forgotten (cleared b.far)) b.far;
          replies = fixed_reply (refusal_text why) ∷ [];
          is = refuses_turn read reads state ask good.row b.near b.far h.steady h.ready.0 h.ready.1 idle pending why some;
          fine = (fixed b.far.session (refusal_text why), tt);
        },
        inr (
          Carries (record { course = Refusing why Unclosed; came = []; queue = [] }),
          at_stage (h.near ∙ ap (λ job. busy job NearData.Open b.near) (down_job ask down Replies.Nothing))
              (forgotten_on b.far.session FarData.Ready (offset_pending ask.offset) h.session) h.steady h.timed h.ready h.link h.to_server h.to_client h.came
              h.marked refl (good.refuses.refused state why h.fine some, (refl, refl)),
        ),
      )

  -- the own command where the client listens at a port
  retr_ported : (port : ℕ) (b : World) → Stands (Retrieves (Ported port)) (Asking (line_of ask.command)) b
      → (t : FarTurn read b.far (line_of ask.command)) × At (Answering t.replies) (record b { far = t.far })
  retr_ported port b h = by_why (ask.why state) refl
    where
      idle : is_connection_busy b.far.session.connection ≡ false
      idle = idle_at (Ported port) b.near.here b.far (ap (λ s. s.connection) h.session)

      by_why : (why : Option Refusal) → ask.why state ≡ why → (t : FarTurn read b.far (line_of ask.command)) × At (Answering t.replies) (record b { far = t.far })
      by_why None none = (
        record {
          far = with_session (connecting (carried ask.sends ask state) (at_port b.near.here port) b.far) b.far;
          replies = fixed_reply Texts.Opens ∷ [];
          is = awaits_turn read reads state ask good.row b.near b.far h.steady h.ready.0 h.ready.1 idle (ap (λ s. s.pending) h.session) (at_port b.near.here port) none
              (ap (λ s. s.connection) h.session);
          fine = (fixed b.far.session Texts.Opens, tt);
        },
        inr (
          Awaits port false,
          at_stage h.near
              (λ i. record (connecting (carried ask.sends ask state) (at_port b.near.here port) b.far) { closing = (h.session i).closing; life = (h.session i).life })
              h.steady h.timed h.ready h.link h.to_server h.to_client tt h.marked refl (none, h.fine),
        ),
      )
      by_why (Some why) some = (
        record {
          far = with_session (forgotten (cleared b.far)) b.far;
          replies = fixed_reply (refusal_text why) ∷ [];
          is = refuses_turn read reads state ask good.row b.near b.far h.steady h.ready.0 h.ready.1 idle (ap (λ s. s.pending) h.session) why some;
          fine = (fixed b.far.session (refusal_text why), tt);
        },
        inr (
          Dismissed port why,
          at_stage h.near (forgotten_on b.far.session (FarData.Active (at_port b.near.here port)) (offset_pending ask.offset) h.session) h.steady h.timed
              h.ready h.link h.to_server h.to_client tt h.marked refl (good.refuses.refused state why h.fine some),
        ),
      )

  -- the own command over a link, whichever way octets go
  own_open : (b : World) → Stands (Retrieves (Dialled true)) (Asking (line_of ask.command)) b
      → (t : FarTurn read b.far (line_of ask.command)) × At (Answering t.replies) (record b { far = t.far })
  own_open b = by_way ask.sends refl good.way
    where
      by_way : (d : Direction) → ask.sends ≡ d → IsOf ask d → Stands (Retrieves (Dialled true)) (Asking (line_of ask.command)) b
          → (t : FarTurn read b.far (line_of ask.command)) × At (Answering t.replies) (record b { far = t.far })
      by_way Down down answers h = retr_open down answers b h
      by_way (Up rise) up upload h = stor_open read reads state ask good own rise upload b h

  own_broken : (b : World) → Stands (Retrieves (Dialled false)) (Asking (line_of ask.command)) b
      → (t : FarTurn read b.far (line_of ask.command)) × At (Answering t.replies) (record b { far = t.far })
  own_broken b = by_way ask.sends refl good.way
    where
      by_way : (d : Direction) → ask.sends ≡ d → IsOf ask d → Stands (Retrieves (Dialled false)) (Asking (line_of ask.command)) b
          → (t : FarTurn read b.far (line_of ask.command)) × At (Answering t.replies) (record b { far = t.far })
      by_way Down down answers h = retr_broken down b h
      by_way (Up rise) up upload h = stor_broken read reads state ask good own rise upload b h

  -- PORT
  abbrev port_line : Near → ℕ → List ℕ
  port_line n port = line_of (port_command (is_extended n op) (at_port n.here port))

  -- PORT: the server takes the port where the account is logged in, and denies it where it is not
  port_turn : (port : ℕ) (connection : FarConnection Transfer) (pending : Pending Names) (b : World) → Stands (PortSaid port connection pending) (Asking (port_line b.near port)) b
      → (t : FarTurn read b.far (port_line b.near port)) × At (Answering t.replies) (record b { far = t.far })
  port_turn port connection pending b h = by_known state.known refl
    where
      idle : is_connection_busy b.far.session.connection ≡ false
      idle = aside_idle b.far.session.connection (ap (λ s. is_set_aside s.connection) h.session ∙ h.fine.0)

      by_known : (known : Bool) → state.known ≡ known → (t : FarTurn read b.far (port_line b.near port)) × At (Answering t.replies) (record b { far = t.far })
      by_known true known = (
        record {
          far = with_session (at_endpoint (at_port b.near.here port) b.far) b.far;
          replies = fixed_reply Texts.EndpointTaken ∷ [];
          is = taken_turn read reads state op port b.near b.far h.steady h.fine.1.0 h.fine.1.1 idle known;
          fine = (fixed b.far.session Texts.EndpointTaken, tt);
        },
        inr (
          PortTaken port (is_standing connection),
          at_stage h.near
              (λ i. record (at_endpoint (at_port b.near.here port) b.far) { closing = (h.session i).closing || is_standing (h.session i).connection; life = (h.session i).life })
              h.steady h.timed (h.ready known, known) h.link h.to_server h.to_client tt h.marked refl tt,
        ),
      )
      by_known false unknown = (
        record {
          far = with_session (cleared b.far) b.far;
          replies = fixed_reply Texts.NotLoggedIn ∷ [];
          is = refused_turn read reads state op port b.near b.far h.steady h.fine.1.0 h.fine.1.1 idle unknown;
          fine = (fixed b.far.session Texts.NotLoggedIn, tt);
        },
        inr (
          PortDenied port connection,
          at_stage h.near (linked_on b.far.session connection false pending Pendings.Nothing h.session) h.steady h.timed tt h.link h.to_server h.to_client tt
              h.marked refl (h.fine.0, unknown),
        ),
      )

  -- every line
  pub asked_at : (stage : Stage) (line : List ℕ) (b : World) → Stands stage (Asking line) b → (t : FarTurn read b.far line) × At (Answering t.replies) (record b { far = t.far })
  asked_at (PortAsked closing) line b h = absurd (no_asking line _ h.way_is)
  asked_at (PortTold port) line b h = absurd (no_asking line _ h.way_is)
  asked_at (Dials port) line b h = absurd (no_asking line _ h.way_is)
  asked_at (PortWanted connection pending) line b h = absurd (no_asking line _ h.way_is)
  asked_at (PortSaid port connection pending) line b h =
      let T : List ℕ → Type 0 = λ l. Stands (PortSaid port connection pending) (Asking l) b → (t : FarTurn read b.far l) × At (Answering t.replies) (record b { far = t.far }) in
      subst T (sym (asked_text h.way_is)) (port_turn port connection pending b) h
  asked_at (PortTaken port closing) line b h = absurd (no_asking line _ h.way_is)
  asked_at (PortDenied port connection) line b h = absurd (no_asking line _ h.way_is)
  asked_at (Restarts at Sent early) line b h =
      let T : List ℕ → Type 0 = λ l. Stands (Restarts at Sent early) (Asking l) b → (t : FarTurn read b.far l) × At (Answering t.replies) (record b { far = t.far }) in
      subst T (sym (asked_text h.way_is)) (rest_turn at early b) h
  asked_at (Restarts at Granted early) line b h = absurd (no_asking line _ h.way_is)
  asked_at (Restarts at (Denied why) early) line b h = absurd (no_asking line _ h.way_is)
  asked_at (Retrieves (Dialled true)) line b h =
      let T : List ℕ → Type 0 = λ l. Stands (Retrieves (Dialled true)) (Asking l) b → (t : FarTurn read b.far l) × At (Answering t.replies) (record b { far = t.far }) in
      subst T (sym (asked_text h.way_is)) (own_open b) h
  asked_at (Retrieves (Dialled false)) line b h =
      let T : List ℕ → Type 0 = λ l. Stands (Retrieves (Dialled false)) (Asking l) b → (t : FarTurn read b.far l) × At (Answering t.replies) (record b { far = t.far }) in
      subst T (sym (asked_text h.way_is)) (own_broken b) h
  asked_at (Retrieves (Ported port)) line b h =
      let T : List ℕ → Type 0 = λ l. Stands (Retrieves (Ported port)) (Asking l) b → (t : FarTurn read b.far l) × At (Answering t.replies) (record b { far = t.far }) in
      subst T (sym (asked_text h.way_is)) (retr_ported port b) h
  asked_at (Awaits port false) line b h = absurd (no_asking line _ h.way_is)
  asked_at (Awaits port true) line b h = absurd (no_asking line _ h.way_is)
  asked_at (Unaccepted port) line b h = absurd (no_asking line _ h.way_is)
  asked_at (Dismissed port why) line b h = absurd (no_asking line _ h.way_is)
  asked_at (Carries c) line b h = absurd (no_asking line _ h.way_is)
  asked_at (Rises rise lift) line b h = absurd (no_line lift line h.way_is)
  asked_at (Tells rise said after) line b h = absurd (no_asking line _ h.way_is)
  asked_at (Answers said leaves) line b h = absurd (no_asking line _ h.way_is)
