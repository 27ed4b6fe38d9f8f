-- How an upload ends, as the definitions of the server say it.
use Rattle.std.proofs.Common.{◌≡◌, ℕ, Bool, true, false, sym, subst}
use Rattle.std.specs.Prelude.{if◌then◌else◌, Result}
use Rattle.ftp_path.specs.Path.{Names}
use Rattle.ftp_tree.specs.Change.{Failures}
use Rattle.ftp_tree.specs.Tree.{Table}
use Rattle.ftp_wire.specs.Decoder.{Decoder, broken, is_whole, ended}
use Rattle.ftp_server_model.specs.Keep.{is_overtaken}
use Rattle.ftp_server_model.specs.View.{Session}
use Rattle.ftp_server_model.specs.Machine.{at_end, at_break, breaks_off, installs}
use Rattle.ftp_server_model.specs.declared.session.Keep.{Keep}
use Rattle.ftp_server_model.specs.declared.reply.FixedReply.{FixedReply}
use Rattle.ftp_server_model.specs.declared.reply.FixedReply.TheVariants as Texts
use Rattle.ftp_server_model.specs.declared.session.Transfer.TheVariants as Transfers
use Rattle.ftp_server_replies.specs.ServerTransfer.{Ends}
use Rattle.ftp_server_replies.specs.declared.fault.Fault.{Fault}

-- a whole file and one that is not
pub at_whole : (moment : ℕ) (path : Names) (keep : Keep) (d e : Decoder) (s : Session) (new : Table) (result : Result FixedReply Fault) (before after : Failures) → is_whole d ≡ true
    → e ≡ ended d → Ends (installs moment path keep e Texts.Complete s) s new result before after
    → Ends (at_end moment (Transfers.Upload path keep d) s) s new result before after
at_whole moment path keep d e s new result before after whole end ends =
    let Q : Decoder → Type 0 = λ x. Ends (installs moment path keep x Texts.Complete s) s new result before after in
    let P : Bool → Type 0 = λ x. Ends (if x then installs moment path keep (ended d) Texts.Complete s else at_break moment (Transfers.Upload path keep d) s) s new result before after in
    subst P (sym whole) (subst Q end ends)

pub at_part : (moment : ℕ) (path : Names) (keep : Keep) (d : Decoder) (s : Session) (new : Table) (result : Result FixedReply Fault) (before after : Failures) → is_whole d ≡ false
    → Ends (at_break moment (Transfers.Upload path keep d) s) s new result before after
    → Ends (at_end moment (Transfers.Upload path keep d) s) s new result before after
at_part moment path keep d s new result before after part ends =
    let P : Bool → Type 0 = λ x. Ends (if x then installs moment path keep (ended d) Texts.Complete s else at_break moment (Transfers.Upload path keep d) s) s new result before after in
    subst P (sym part) ends

-- nobody else changed what stands there, and what was settled is put
pub own_ends : (moment : ℕ) (path : Names) (keep : Keep) (d : Decoder) (s : Session) (new : Table) (result : Result FixedReply Fault) (before after : Failures) → is_overtaken keep ≡ false
    → Ends (installs moment path keep (broken d) Texts.Broken s) s new result before after → Ends (at_break moment (Transfers.Upload path keep d) s) s new result before after
own_ends moment path keep d s new result before after own ends =
    subst (λ (b : Bool). Ends (breaks_off b moment path keep d s) s new result before after) (sym own) ends
