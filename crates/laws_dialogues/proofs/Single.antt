-- An operation of one command: whatever the server decides of it leads to the answer of the direct run.
use Rattle.std.proofs.Common.{◌≡◌, ℕ, Bool, true, false, List, [], Option, Some, None, refl, ap, subst, ◌∙◌}
use Rattle.ftp_nvt.specs.Lines.{written_line}
use Rattle.ftp_command.specs.Line.{line_of, IsLine}
use Rattle.ftp_ends.specs.Reply.{Reply}
use Rattle.ftp_operation.specs.Answer.{Said}
use Rattle.ftp_operation.specs.Operation.{can_be_sent}
use Rattle.ftp_operation.specs.declared.op.Op.{Op}
use Rattle.ftp_path.specs.Path.{Names}
use Rattle.ftp_direct.specs.Direct.{State, answer, chosen, done, refusal}
use Rattle.ftp_direct.specs.declared.refusal.Refusal.{Refusal}
use Rattle.ftp_direct.specs.declared.refusal.Refusal.TheVariants as Refusals
use Rattle.ftp_client_model.specs.Dialogue.{answered, begins}
use Rattle.ftp_client_model.specs.Plan.{own_command}
use Rattle.ftp_client_model.specs.View.{View as Near, Job}
use Rattle.ftp_client_model.specs.declared.client.Step.TheVariants as Steps
use Rattle.ftp_server_model.specs.Act.{act, is_free, is_transfer}
use Rattle.ftp_server_model.specs.Machine.{Reading}
use Rattle.ftp_server_model.specs.Replies.{Turn, IsTold, reply_said}
use Rattle.ftp_server_model.specs.View.{Context, Session, View as Far, direct_of}
use Rattle.ftp_server_model.specs.Walk.{unless, refusal_text}
use Rattle.ftp_server_model.specs.declared.reply.ReplyKind.TheVariants as Replies
use Rattle.ftp_server_model.specs.declared.session.Pending.{Pending}
use Rattle.laws_dialogues.specs.Stage.{calm}
use Rattle.laws_dialogues.specs.Dialogue.{Sees, Stands, IsSound, resting, doing, told}
use Rattle.laws_dialogues.specs.Operations.{LeadsToAnswer}
use Rattle.laws_dialogues.proofs.ServerTurns.{cleared, decides, decides_known, decides_unknown}
use Rattle.laws_dialogues.proofs.Exchanges.{IsSent, Exchange}
use Rattle.laws_dialogues.proofs.Rows.{Keeps, keeps_cleared, sees_cleared, direct_is, last_exchange, refused_exchange, answer_known, answer_unknown}

-- what the server does and says of an operation that is not refused, and the client's answer
pub record Accepts (op : Op (List ℕ)) (result : Said × State) (n : Near) (f : Far) (turn : Turn) : Type 0 where
  pub keeps : Keeps f.session turn.0
  pub sees : Sees result.1 turn.0
  pub reply : Reply
  pub within : IsTold turn.0 turn.1
  pub said : reply_said turn.0 turn.1 ≡ Some reply
  pub heard : answered reply.code reply.lines (calm (doing op Steps.Last n)) ≡ record (calm (told result.0 n)) { owed = [] }

-- the row of an operation: its command, as the server decides it
pub record IsSingle (read : Reading) (op : Op (List ℕ)) (accepted : Session → Turn) : Type 0 where
  pub sent : IsSent read (own_command op)
  pub line : IsLine (line_of (own_command op))
  pub begins_so : (job : Job) (n : Near) → begins op (record (calm (resting n)) { job = job }) ≡ record (calm (doing op Steps.Last n)) { owed = written_line (line_of (own_command op)) }
  pub row : (context : Context) (pending : Pending Names) (s : Session) → act context (own_command op) pending s ≡ unless (refusal (direct_of s) op) s (accepted s)
  pub guarded : is_free (own_command op) ≡ false
  pub no_transfer : is_transfer (own_command op) ≡ false
  pub accepts : (state : State) (moment : ℕ) (n : Near) (f : Far) → IsSound state → Stands state n f → state.known ≡ true → refusal state op ≡ None
      → Accepts op (done state op moment) n f (accepted (cleared f))

module _ (read : Reading) (op : Op (List ℕ)) (accepted : Session → Turn) (single : IsSingle read op accepted) (state : State) (n : Near) (f : Far) (stands : Stands state n f) where
  -- with a login, the server refuses the command by the reason of the direct run or accepts it
  decided_known : state.known ≡ true → (why : Option Refusal) → refusal state op ≡ why
      → decides (own_command op) f ≡ unless why (cleared f) (accepted (cleared f))
  decided_known known why is =
      decides_known (own_command op) f (stands.sees.known ∙ known) ∙ single.row f.context f.session.pending (cleared f)
      ∙ ap (λ s. unless (refusal s op) (cleared f) (accepted (cleared f))) (direct_is state (cleared f) (sees_cleared state f stands.sees) known)
      ∙ ap (λ w. unless w (cleared f) (accepted (cleared f))) is

  -- without a login, the server refuses the command as not logged in
  decided_unknown : state.known ≡ false → decides (own_command op) f ≡ (cleared f, Replies.Fixed (refusal_text Refusals.NotLoggedIn))
  decided_unknown unknown = decides_unknown (own_command op) f (stands.sees.known ∙ unknown) single.guarded single.no_transfer

  -- the exchange of the one command that tells a result makes the operation lead to it
  by_exchange : (result : Said × State) (after : Session) → Keeps f.session after → Sees result.1 after
      → Exchange (own_command op) (doing op Steps.Last n) (told result.0 n) None f after → LeadsToAnswer read state op result n f
  by_exchange result after keeps sees x = record {
    near = doing op Steps.Last n;
    line = Some (line_of (own_command op));
    left = 2;
    begins_so = λ job. single.begins_so job n;
    fine = (single.line, refl);
    leads = last_exchange read state.table op Steps.Last (own_command op) result n f after single.sent stands.far stands.sees.table stands.settings stands.facts stands.meets keeps sees x;
  }

  -- a refused command leads to the answer of its refusal
  refused_leads : (why : Refusal) → decides (own_command op) f ≡ (cleared f, Replies.Fixed (refusal_text why)) → LeadsToAnswer read state op (chosen (Some why) state (done state op 0)) n f
  refused_leads why decided =
      by_exchange (chosen (Some why) state (done state op 0)) (cleared f) (keeps_cleared f) (sees_cleared state f stands.sees)
      (refused_exchange op Steps.Last (own_command op) why n f refl decided)

  -- a command that is accepted leads to the result that the server does and says
  accepted_leads : (result : Said × State) → decides (own_command op) f ≡ accepted (cleared f) → Accepts op result n f (accepted (cleared f)) → LeadsToAnswer read state op result n f
  accepted_leads result decided a =
      by_exchange result (accepted (cleared f)).0 a.keeps a.sees
      (record { kind = (accepted (cleared f)).1; reply = a.reply; decided = decided; within = a.within; said = a.said; heard = a.heard })

  -- an operation of one command that can be sent leads, from a sound state, to the answer of the direct run
  pub single_leads : (moment : ℕ) → can_be_sent op ≡ true → IsSound state → LeadsToAnswer read state op (answer state op moment) n f
  single_leads moment can sound = by_known state.known refl (refusal state op) refl
    where
      To : Said × State → Type 0
      To result = LeadsToAnswer read state op result n f

      by_known : (known : Bool) → state.known ≡ known → (why : Option Refusal) → refusal state op ≡ why → To (answer state op moment)
      by_known true known None is =
          subst To (answer_known state op moment None can known is)
          (accepted_leads (done state op moment) (decided_known known None is) (single.accepts state moment n f sound stands known is))
      by_known true known (Some why) is =
          subst To (answer_known state op moment (Some why) can known is) (refused_leads why (decided_known known (Some why) is))
      by_known false unknown why is = subst To (answer_unknown state op moment can unknown) (refused_leads Refusals.NotLoggedIn (decided_unknown unknown))
