-- When a file was installed, as MDTM answers it.
use Rattle.std.proofs.Common.{◌≡◌, ◌∙◌, ℕ, true, not, List, Some, None, is_some, ap, sym}
use Rattle.std.specs.Option.{unwrap_or}
use Rattle.ftp_path.specs.Path.{Names, fits, resolved}
use Rattle.ftp_tree.specs.Tree.{stamp_at}
use Rattle.ftp_facts.specs.Moment.{moment_digits}
use Rattle.ftp_direct.proofs.NodeLemmas.{file_stamp}
use Rattle.ftp_direct.proofs.RefusalLemmas.{there_none, there_some}
use Rattle.ftp_server_model.specs.Ask.{mdtm, stamp_of}
use Rattle.ftp_server_model.specs.Walk.{unless}
use Rattle.ftp_server_model.specs.View.{Session, seen}
use Rattle.ftp_server_model.specs.declared.reply.ReplyKind.TheVariants as Replies
use Rattle.ftp_server_model.specs.declared.reply.FixedReply.TheVariants as Texts

pub stamp_said : (s : Session) (text : List ℕ) (path : Names) (seconds : ℕ) → path ≡ resolved s.cwd text → fits path ≡ true → Some seconds ≡ stamp_at (seen s) path
    → (s, Replies.Stamp (moment_digits seconds)) ≡ mdtm text s
stamp_said s text path seconds is fit some =
    let there : stamp_at (seen s) (resolved s.cwd text) ≡ Some seconds = ap (stamp_at (seen s)) (sym is) ∙ sym some in
    let free = there_none _ _ (ap fits (sym is) ∙ fit) (file_stamp (seen s) (resolved s.cwd text) ∙ ap (λ stamp. not (is_some stamp)) there) in
    sym (ap (λ refusal. unless refusal s (s, Replies.Stamp (moment_digits (stamp_of s text)))) free ∙ ap (λ stamp. (s, Replies.Stamp (moment_digits (unwrap_or stamp 0)))) there)

pub stamp_none : (s : Session) (text : List ℕ) (path : Names) → path ≡ resolved s.cwd text → fits path ≡ true → None ≡ stamp_at (seen s) path
    → (s, Replies.Fixed Texts.Refused) ≡ mdtm text s
stamp_none s text path is fit none =
    let absent : stamp_at (seen s) (resolved s.cwd text) ≡ None = ap (stamp_at (seen s)) (sym is) ∙ sym none in
    let refused = there_some _ _ (ap fits (sym is) ∙ fit) (file_stamp (seen s) (resolved s.cwd text) ∙ ap (λ stamp. not (is_some stamp)) absent) in
    sym (ap (λ refusal. unless refusal s (s, Replies.Stamp (moment_digits (stamp_of s text)))) refused)
