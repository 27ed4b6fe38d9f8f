-- The server acts on STOR or APPE, and each line that is on its way leads an upload from a stage to a stage.
use Rattle.std.proofs.Common.{◌≡◌, inr, ℕ, true, false, List, [], ◌∷◌, Option, Some, None, refl, ap, ◌∙◌}
use Rattle.ftp_command.specs.Line.{line_of}
use Rattle.ftp_direct.specs.declared.refusal.Refusal.{Refusal}
use Rattle.ftp_direct.specs.Direct.{State}
use Rattle.ftp_client_model.specs.declared.client.ClientLink.TheVariants as NearData
use Rattle.ftp_client_model.specs.declared.client.Ending.TheVariants as Endings
use Rattle.ftp_client_model.specs.declared.client.Replied.TheVariants as Replies
use Rattle.ftp_server_model.specs.Endpoint.{forgotten}
use Rattle.ftp_server_model.specs.Machine.{Reading, IsReading, is_connection_busy}
use Rattle.ftp_server_model.specs.Replies.{fixed_reply}
use Rattle.ftp_server_model.specs.Walk.{refusal_text}
use Rattle.ftp_server_model.specs.declared.reply.FixedReply.TheVariants as Texts
use Rattle.ftp_server_model.specs.declared.session.ServerLink.TheVariants as FarData
use Rattle.ftp_server_model.specs.declared.session.Pending.TheVariants as Pendings
use Rattle.ftp_server_model.specs.declared.session.Transfer.TheVariants as Transfers
use Rattle.ftp_wire.specs.Decoder.{no_octets}
use Rattle.laws_world.specs.World.{World, Mark, Broken}
use Rattle.laws_dialogues.specs.Fetches.{Ask, HasUpload, IsAsk, Rise, busy, carried, offset_pending}
use Rattle.laws_dialogues.specs.Stage.{Way, Asking, Answering, FarTurn}
use Rattle.laws_dialogues.proofs.Exchanges.{with_session}
use Rattle.laws_dialogues.proofs.Fetching.{refuses_turn, takes_turn, transferring, unopens_turn}
use Rattle.laws_dialogues.proofs.LoginTurns.{no_asking}
use Rattle.laws_dialogues.proofs.Offering.{up_job}
use Rattle.laws_dialogues.proofs.ServerTurns.{cleared}
use Rattle.laws_agreement.specs.Rising.{Lift, Offered, Rising, Risen, Settled, Declined, Unjoined, Closing, Vanished, lift_way}
use Rattle.laws_agreement.specs.Stages.{Stage, Retrieves, Rises, Holds, AtFetch, Dialled}
use Rattle.laws_agreement.proofs.FetchReplies.{one_more}
use Rattle.laws_agreement.proofs.Placing.{at_stage}
use Rattle.laws_agreement.proofs.Sessions.{fixed, forgotten_on, idle_at, linked_on}

-- no line is on its way
pub no_line : (lift : Lift) (line : List ℕ) → Asking line ≡ lift_way lift → ⊥
no_line Offered line is = no_asking line _ is
no_line (Rising past octet more came queue mark notes) line is = no_asking line _ is
no_line (Risen past closed came queue mark notes) line is = no_asking line _ is
no_line (Settled false mark notes fate left after) line is = no_asking line _ is
no_line (Settled true mark notes fate left after) line is = no_asking line _ is
no_line (Declined why door) line is = no_asking line _ is
no_line Unjoined line is = no_asking line _ is

module _ (read : Reading) (reads : IsReading read) (state : State) (ask : Ask) (good : IsAsk ask) (own : List Mark) (rise : Rise) (upload : HasUpload ask rise) where
  abbrev At : Way → World → Type 0
  At way b = AtFetch state ask read own way b

  abbrev Stands : Stage → Way → World → Type 0
  Stands stage way b = Holds state ask own stage way b

  abbrev Acts : World → Type 0
  Acts b = (t : FarTurn read b.far (line_of ask.command)) × At (Answering t.replies) (record b { far = t.far })

  abbrev line : List ℕ
  line = line_of ask.command

  -- over a link that broke
  pub stor_broken : (b : World) → Stands (Retrieves (Dialled false)) (Asking line) b → Acts b
  stor_broken b h = by_why (ask.why state) refl
    where
      idle : is_connection_busy b.far.session.connection ≡ false
      idle = idle_at (Dialled false) b.near.here b.far (ap (λ s. s.connection) h.session)

      by_why : (why : Option Refusal) → ask.why state ≡ why → Acts b
      by_why None none = (
        record {
          far = with_session (cleared b.far) b.far;
          replies = fixed_reply Texts.NoConnection ∷ [];
          is = unopens_turn read reads state ask good.row b.near b.far h.steady h.ready.0 h.ready.1 idle (ap (λ s. s.pending) h.session) none (ap (λ s. s.connection) h.session);
          fine = (fixed b.far.session Texts.NoConnection, tt);
        },
        inr (
          Rises rise Unjoined,
          at_stage (h.near ∙ ap (λ job. busy job (NearData.Over Endings.Broken) b.near) (up_job ask rise upload.sends_is Replies.Nothing))
              (linked_on b.far.session FarData.Free false (offset_pending ask.offset) Pendings.Nothing h.session) h.steady h.timed (h.ready.0, h.ready.1, upload)
              h.link h.to_server h.to_client tt h.marked refl tt,
        ),
      )
      by_why (Some why) some = (
        record {
          far = with_session (forgotten (cleared b.far)) b.far;
          replies = fixed_reply (refusal_text why) ∷ [];
          is = refuses_turn read reads state ask good.row b.near b.far h.steady h.ready.0 h.ready.1 idle (ap (λ s. s.pending) h.session) why some;
          fine = (fixed b.far.session (refusal_text why), tt);
        },
        inr (
          Rises rise (Declined why (Vanished true)),
          at_stage (h.near ∙ ap (λ job. busy job (NearData.Over Endings.Broken) b.near) (up_job ask rise upload.sends_is Replies.Nothing))
              (forgotten_on b.far.session FarData.Free (offset_pending ask.offset) h.session) h.steady h.timed (h.ready.0, h.ready.1, upload) h.link h.to_server
              h.to_client tt (one_more own (Broken 0) h.marked) refl (good.refuses.refused state why h.fine some),
        ),
      )

  -- over an open link
  pub stor_open : (b : World) → Stands (Retrieves (Dialled true)) (Asking line) b → Acts b
  stor_open b h = by_why (ask.why state) refl
    where
      idle : is_connection_busy b.far.session.connection ≡ false
      idle = idle_at (Dialled true) b.near.here b.far (ap (λ s. s.connection) h.session)

      by_why : (why : Option Refusal) → ask.why state ≡ why → Acts b
      by_why None none = (
        record {
          far = with_session (transferring (Transfers.Upload (rise.path state) (rise.keep state) (no_octets ask.settings)) b.far) b.far;
          replies = fixed_reply Texts.Opens ∷ [];
          is = takes_turn read reads state ask good.row b.near b.far h.steady h.ready.0 h.ready.1 idle (ap (λ s. s.pending) h.session) (rise.path state) (rise.keep state)
              (no_octets ask.settings) (ap (λ d. carried d ask state) upload.sends_is) none (ap (λ s. s.connection) h.session);
          fine = (fixed b.far.session Texts.Opens, tt);
        },
        inr (
          Rises rise Offered,
          at_stage (h.near ∙ ap (λ job. busy job NearData.Open b.near) (up_job ask rise upload.sends_is Replies.Nothing))
              (λ i. record (transferring (Transfers.Upload (rise.path state) (rise.keep state) (no_octets ask.settings)) b.far) { closing = (h.session i).closing; life = (h.session i).life })
              h.steady h.timed (h.ready.0, h.ready.1, upload) h.link h.to_server h.to_client h.came h.marked refl (none, h.fine),
        ),
      )
      by_why (Some why) some = (
        record {
          far = with_session (forgotten (cleared b.far)) b.far;
          replies = fixed_reply (refusal_text why) ∷ [];
          is = refuses_turn read reads state ask good.row b.near b.far h.steady h.ready.0 h.ready.1 idle (ap (λ s. s.pending) h.session) why some;
          fine = (fixed b.far.session (refusal_text why), tt);
        },
        inr (
          Rises rise (Declined why Closing),
          at_stage (h.near ∙ ap (λ job. busy job NearData.Open b.near) (up_job ask rise upload.sends_is Replies.Nothing))
              (forgotten_on b.far.session FarData.Ready (offset_pending ask.offset) h.session) h.steady h.timed (h.ready.0, h.ready.1, upload) h.link h.to_server
              h.to_client tt h.marked refl (good.refuses.refused state why h.fine some),
        ),
      )
