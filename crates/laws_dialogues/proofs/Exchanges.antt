-- One exchange: a command is on its way, the server acts on it, and the client hears the reply.
use Rattle.std.proofs.Common.{◌≡◌, ℕ, suc, true, false, List, [], ◌∷◌, Option, Some, ap, ◌∙◌}
use Rattle.ftp_command.specs.Line.{line_of, IsStated, IsTyped}
use Rattle.ftp_command.specs.declared.command.Command.{Command}
use Rattle.ftp_ends.specs.Reply.{Reply}
use Rattle.ftp_operation.specs.Answer.{Said, Refused}
use Rattle.ftp_operation.specs.declared.op.Op.{Op}
use Rattle.ftp_path.specs.Path.{Names}
use Rattle.ftp_reply.specs.Lines.{Text}
use Rattle.ftp_client_model.specs.Dialogue.{answered, answer_in, judged_reply, finishes_read, awaits_reply}
use Rattle.ftp_client_model.specs.Replies.{Completion, Negative, verdict_of}
use Rattle.ftp_client_model.specs.View.{View as Near}
use Rattle.ftp_client_model.specs.declared.client.Step.{Step}
use Rattle.ftp_client_model.specs.declared.client.Step.TheVariants as Steps
use Rattle.ftp_server_model.specs.Machine.{Reading, IsReading, is_abor}
use Rattle.ftp_server_model.specs.Replies.{IsTold, reply_said}
use Rattle.ftp_server_model.specs.View.{Session, View as Far}
use Rattle.ftp_server_model.specs.declared.heard.HeardLine.TheVariants.{Asks}
use Rattle.ftp_server_model.specs.declared.reply.ReplyKind.{ReplyKind}
use Rattle.ftp_server_model.proofs.RepliesWritten.{replies_are_written}
use Rattle.laws_dialogues.specs.Stage.{calm, Asking, line_octets, IsAlone, behind, Leads}
use Rattle.laws_dialogues.specs.Dialogue.{FarWaits, doing, told}
use Rattle.laws_dialogues.proofs.ServerTurns.{aside_idle, decides, far_turn_is}

-- a command that can be sent, at a server that acts on it at once
pub record IsSent (read : Reading) (command : Command (List ℕ)) : Type 0 where
  pub reads : IsReading read
  pub typed : IsTyped command
  pub stated : IsStated command
  pub other : is_abor (Asks command) ≡ false

-- the session of a server is another
abbrev pub with_session : Session → Far → Far
with_session s f = record f { session = s }

-- what the server decides and says, and what the client makes of it
pub record Exchange (command : Command (List ℕ)) (n next : Near) (line : Option (List ℕ)) (f : Far) (after : Session) : Type 0 where
  pub kind : ReplyKind Names
  pub reply : Reply
  pub decided : decides command f ≡ (after, kind)
  pub within : IsTold after kind
  pub said : reply_said after kind ≡ Some reply
  pub heard : answered reply.code reply.lines (calm n) ≡ record (calm next) { owed = line_octets line }

-- a command that is asked, acted on and answered takes two turns more than what leads on behind its reply
pub exchange : (read : Reading) (Along Goal : Near → Far → Type 0) (k : ℕ) (command : Command (List ℕ)) (n next : Near) (line : Option (List ℕ)) (f : Far) (after : Session)
    → IsSent read command → FarWaits f → FarWaits (with_session after f) → Exchange command n next line f after
    → Along n f → Along n (with_session after f) → IsAlone line [] → Leads read Along Goal k (behind line []) next (with_session after f)
    → Leads read Along Goal (suc (suc k)) (Asking (line_of command)) n f
exchange read Along Goal k command n next line f after sent before later x here there alone onward = (
  here,
  record {
    far = with_session after f;
    replies = x.reply ∷ [];
    is = far_turn_is read command f after x.kind x.reply sent.reads sent.typed sent.stated sent.other (aside_idle f.session.connection before.aside)
        x.decided (aside_idle after.connection later.aside) x.said;
    fine = (replies_are_written after x.kind x.reply x.within x.said, tt);
  },
  (there, record { near = next; line = line; is = x.heard; fine = alone }, onward),
)

-- ---- the client

-- at a completion the client reports what the reply says of the operation and owes nothing
pub near_told_is : (op : Op (List ℕ)) (n : Near) (code : ℕ) (texts : List Text) (said : Said) → verdict_of code ≡ Completion → answer_in op texts ≡ Some said
    → answered code texts (calm (doing op Steps.Last n)) ≡ record (calm (told said n)) { owed = [] }
unfolding answered
near_told_is op n code texts said verdict answer =
    ap (λ v. judged_reply v code texts (calm (doing op Steps.Last n))) verdict ∙ ap (λ o. finishes_read o (calm (doing op Steps.Last n))) answer

-- at a negative reply that a step awaits the client reports a refusal with its code and owes nothing
pub near_refused_is : (op : Op (List ℕ)) (step : Step) (n : Near) (code : ℕ) (texts : List Text) → verdict_of code ≡ Negative → awaits_reply step ≡ true
    → answered code texts (calm (doing op step n)) ≡ record (calm (told (Refused code) n)) { owed = [] }
unfolding answered
near_refused_is op Steps.Kind n code texts verdict awaits = ap (λ v. judged_reply v code texts (calm (doing op Steps.Kind n))) verdict
near_refused_is op Steps.Structure n code texts verdict awaits = ap (λ v. judged_reply v code texts (calm (doing op Steps.Structure n))) verdict
near_refused_is op Steps.Mode n code texts verdict awaits = ap (λ v. judged_reply v code texts (calm (doing op Steps.Mode n))) verdict
near_refused_is op Steps.Listen n code texts verdict awaits = absurd (cc)
near_refused_is op Steps.Port n code texts verdict awaits = ap (λ v. judged_reply v code texts (calm (doing op Steps.Port n))) verdict
near_refused_is op Steps.Passive n code texts verdict awaits = ap (λ v. judged_reply v code texts (calm (doing op Steps.Passive n))) verdict
near_refused_is op Steps.Connect n code texts verdict awaits = absurd (cc)
near_refused_is op Steps.Restart n code texts verdict awaits = ap (λ v. judged_reply v code texts (calm (doing op Steps.Restart n))) verdict
near_refused_is op Steps.Source n code texts verdict awaits = ap (λ v. judged_reply v code texts (calm (doing op Steps.Source n))) verdict
near_refused_is op Steps.Last n code texts verdict awaits = ap (λ v. judged_reply v code texts (calm (doing op Steps.Last n))) verdict
