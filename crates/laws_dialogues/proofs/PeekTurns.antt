-- A Peek: what each end makes of ABOR, and of the replies that come behind it.
use Rattle.std.proofs.Common.{◌≡◌, ℕ, Bool, true, false, List, ◌∷◌, ◌++◌, length, Some, refl, ap, ◌∙◌}
use Rattle.std.specs.Prelude.{nat_le, if◌then◌else◌}
use Rattle.ftp_nvt.specs.Lines.{written_line}
use Rattle.ftp_command.specs.declared.command.Command.TheVariants as Commands
use Rattle.ftp_wire.specs.Decoder.{decoder_of}
use Rattle.ftp_ends.specs.Reply.{reply_octets}
use Rattle.ftp_operation.specs.Answer.{Said}
use Rattle.ftp_operation.specs.declared.op.Op.{Op}
use Rattle.ftp_reply.specs.Lines.{Text as ReplyText}
use Rattle.ftp_settings.specs.declared.representation.Representation.{Representation}
use Rattle.ftp_client_model.specs.Dialogue.{answered, answers_once_over, finishes_read, sends_abort}
use Rattle.ftp_client_model.specs.Octets.{content_answer}
use Rattle.ftp_client_model.specs.View.{View as Near, Transfer as ClientTransfer}
use Rattle.ftp_client_model.specs.declared.client.Abort.TheVariants as Aborts
use Rattle.ftp_client_model.specs.declared.client.ClientLink.TheVariants as NearData
use Rattle.ftp_client_model.specs.declared.client.Ending.TheVariants as Endings
use Rattle.ftp_client_model.specs.declared.client.Replied.TheVariants as Replies
use Rattle.ftp_server_model.specs.Machine.{Reading, IsReading, completed, heard_line, obeyed, turned}
use Rattle.ftp_server_model.specs.Replies.{Turn, fixed_reply}
use Rattle.ftp_server_model.specs.View.{View as Far}
use Rattle.ftp_server_model.specs.declared.heard.HeardLine.TheVariants.{Asks}
use Rattle.ftp_server_model.specs.declared.reply.FixedReply.TheVariants as Texts
use Rattle.ftp_server_model.specs.declared.session.ServerLink.TheVariants as FarData
use Rattle.ftp_server_model.specs.declared.session.Pending.TheVariants as Pendings
use Rattle.ftp_server_model.proofs.ReadingLemmas.{reads_stated}
use Rattle.laws_dialogues.specs.Fetches.{busy, fetching, flow_after, giving_of, is_filled, leaving, linked}
use Rattle.laws_dialogues.specs.Peeks.{abort_line, halting}
use Rattle.laws_dialogues.specs.Stage.{calm, still}
use Rattle.laws_dialogues.proofs.Exchanges.{with_session}
use Rattle.laws_dialogues.proofs.ServerTurns.{decides_free}

-- ---- the client

-- it owes these octets
abbrev pub owing : List ℕ → Near → Near
owing owed n = record (calm n) { owed = owed }

module _ (op : Op (List ℕ)) (settings : Representation) (came : List ℕ) (n : Near) where
  -- a 150 while the link is open, where a Peek has enough: ABOR is sent
  pub begins_filled : is_filled op settings came ≡ true → (texts : List ReplyText)
      → answered 150 texts (calm (busy (fetching op Replies.Nothing settings came) NearData.Open n))
      ≡ owing (written_line abort_line) (busy (halting op Replies.Begun Aborts.Sent settings came) NearData.Open n)
  unfolding answered
  begins_filled enough texts =
      let transfer : ClientTransfer = record { replied = Replies.Begun; abort = Aborts.Unsent; flow = flow_after settings came } in
      let v : Near = calm (busy (fetching op Replies.Begun settings came) NearData.Open n) in
      ap (λ (b : Bool). answers_once_over (if b then sends_abort op transfer v else v)) enough

  -- the final reply behind ABOR, while the link is open
  pub final_open : (whole : Bool) (owed : List ℕ) (texts : List ReplyText)
      → answered (if whole then 226 else 426) texts (owing owed (busy (halting op Replies.Begun Aborts.Sent settings came) NearData.Open n))
      ≡ owing owed (busy (halting op (Replies.Final (if whole then 226 else 426)) Aborts.Sent settings came) NearData.Open n)
  unfolding answered
  final_open true owed texts = refl
  final_open false owed texts = refl

  -- and behind its end
  pub final_over : (whole clean : Bool) (owed : List ℕ) (texts : List ReplyText)
      → answered (if whole then 226 else 426) texts (owing owed
      (busy (halting op Replies.Begun Aborts.Sent settings came) (NearData.Over (if clean then Endings.Clean else Endings.Broken)) n))
      ≡ owing owed (busy (halting op (Replies.Final (if whole then 226 else 426)) Aborts.Sent settings came)
      (NearData.Over (if clean then Endings.Clean else Endings.Broken)) n)
  unfolding answered
  final_over true clean owed texts = refl
  final_over false clean owed texts = refl

  -- the reply to ABOR while the link is open
  pub abort_open : (code : ℕ) (owed : List ℕ) (texts : List ReplyText)
      → answered 226 texts (owing owed (busy (halting op (Replies.Final code) Aborts.Sent settings came) NearData.Open n))
      ≡ owing owed (busy (halting op (Replies.Final code) Aborts.Answered settings came) NearData.Open n)
  unfolding answered
  abort_open code owed texts = refl

  -- and behind its end: the answer is told
  pub abort_over : (code : ℕ) (clean : Bool) (owed : List ℕ) (said : Said) (texts : List ReplyText)
      → content_answer op (decoder_of settings came).content ≡ Some said
      → answered 226 texts (owing owed (busy (halting op (Replies.Final code) Aborts.Sent settings came)
      (NearData.Over (if clean then Endings.Clean else Endings.Broken)) n))
      ≡ owing owed (leaving said false n)
  unfolding answered
  abort_over code true owed said texts is =
      ap (λ o. finishes_read o (owing owed (busy (halting op (Replies.Final code) Aborts.Answered settings came) (NearData.Over Endings.Clean) n))) is
  abort_over code false owed said texts is =
      ap (λ o. finishes_read o (owing owed (busy (halting op (Replies.Final code) Aborts.Answered settings came) (NearData.Over Endings.Broken) n))) is

-- ---- the server

module _ (read : Reading) (reads : IsReading read) (f : Far) (owed : List ℕ) where
  -- it owes these octets
  abbrev pub far_owing : Far → Far
  far_owing f = record (still f) { owed = owed }

  -- ABOR while octets are given: 426, and then ABOR's own reply; the link is to be closed
  pub aborts_giving : (listed : Bool) (octet : ℕ) (more : List ℕ)
      → f.session ≡ linked (FarData.Transferring (giving_of listed (octet ∷ more))) false Pendings.Nothing f.session
      → heard_line (read abort_line) (far_owing f)
      ≡ record (still (with_session (linked FarData.Free true Pendings.Nothing f.session) f)) {
        owed =
            (owed ++ reply_octets (fixed_reply Texts.Broken)) ++ reply_octets (fixed_reply Texts.AbortDone);
      }
  aborts_giving listed octet more is =
      ap (λ heard. heard_line heard (far_owing f)) (reads_stated read Commands.Abor reads tt tt)
      ∙ ap (λ s. heard_line (Asks Commands.Abor) (far_owing (with_session s f))) is ∙ by_kind listed
    where
      by_kind : (listed : Bool)
          → heard_line (Asks Commands.Abor) (far_owing (with_session
          (linked (FarData.Transferring (giving_of listed (octet ∷ more))) false Pendings.Nothing f.session) f))
          ≡ record (still (with_session (linked FarData.Free true Pendings.Nothing f.session) f)) {
            owed =
                (owed ++ reply_octets (fixed_reply Texts.Broken)) ++ reply_octets (fixed_reply Texts.AbortDone);
          }
      by_kind false = refl
      by_kind true = refl

  -- ABOR behind that: its own reply alone
  pub aborts_free : (closing : Bool) → f.session ≡ linked FarData.Free closing Pendings.Nothing f.session → nat_le (length owed) 4096 ≡ true
      → heard_line (read abort_line) (far_owing f)
      ≡ record (still (with_session (linked FarData.Free closing Pendings.Nothing f.session) f)) { owed = owed ++ reply_octets (fixed_reply Texts.AbortDone) }
  unfolding obeyed
  aborts_free closing is room =
      let g : Far = with_session (linked FarData.Free closing Pendings.Nothing f.session) f in
      let v : Far = record (far_owing g) { waiting = Some (Asks Commands.Abor) } in
      ap (λ heard. heard_line heard (far_owing f)) (reads_stated read Commands.Abor reads tt tt)
      ∙ ap (λ s. heard_line (Asks Commands.Abor) (far_owing (with_session s f))) is
      ∙ ap (λ (b : Bool). if b then obeyed (Asks Commands.Abor) (far_owing g) else v) room
      ∙ ap (λ (t : Turn). completed (turned t (far_owing g))) (decides_free Commands.Abor g refl)
