-- How a transfer ends that was taken out of its session: the map of the tree then, and the reply that is owed.
use Rattle.std.proofs.Common.{◌≡◌, ◌∙◌, ◌++◌, ℕ, List, Bool, false, ap, subst, sym}
use Rattle.std.specs.Prelude.{if◌then◌else◌}
use Rattle.ftp_tree.specs.Tree.{Table}
use Rattle.ftp_server_model.specs.Calls.{connection_of}
use Rattle.ftp_server_model.specs.Failing.{install_lost}
use Rattle.ftp_server_model.specs.Machine.{Ending, concluded, with_session}
use Rattle.ftp_server_model.specs.Replies.{fixed_reply, reply_octets}
use Rattle.ftp_server_model.specs.View.{Session, Transfer, View}
use Rattle.ftp_server_model.specs.declared.reply.FixedReply.{FixedReply}
use Rattle.ftp_server_model.specs.declared.reply.FixedReply.TheVariants as Texts
use Rattle.ftp_server_model.specs.declared.session.ServerLink.{ServerLink}
use Rattle.ftp_server_model.specs.declared.session.ServerLink.TheVariants as Data
use Rattle.ftp_server_model.specs.declared.session.Transfer.TheVariants as Transfers
use Rattle.ftp_server_replies.specs.ServerTransfer.{IsUpload}
use Rattle.ftp_server.specs.Breaking.{InstallIsLost}

-- where no close is wanted, events find the connection that stands
pub stands_here : (s : Session) (c : ServerLink Transfer) → s.closing ≡ false → s.connection ≡ c → connection_of s ≡ c
stands_here s c going carried = ap (λ b. if b then Data.Free else s.connection) going ∙ carried

-- a view with another map, and with these octets owed
abbrev pub put_in : Table → List ℕ → View → View
put_in table owed v = record v { session = record v.session { table = table }; owed = owed }

-- the reply of a transfer that ended so, in a session that was left for that
pub concludes : (at : ℕ → Transfer → Session → Ending) (transfer : Transfer) (s : Session) (v m : View) (table : Table) (text : FixedReply) (owed : List ℕ)
    → m ≡ with_session s v → (record m.session { table = table }, text) ≡ at m.context.moment transfer m.session
    → owed ≡ m.owed ++ reply_octets (fixed_reply text) → put_in table owed m ≡ concluded (at v.context.moment transfer s) v
concludes at transfer s v m table text owed left =
    subst (λ (x : View). (record x.session { table = table }, text) ≡ at x.context.moment transfer x.session → owed ≡ x.owed ++ reply_octets (fixed_reply text)
    → put_in table owed x ≡ concluded (at v.context.moment transfer s) v) (sym left)
    (λ ended said. ap (λ o. put_in table o (with_session s v)) said ∙ ap (λ e. concluded e v) ended)

-- and that of an upload that could not be put
pub loses_upload : (transfer : Transfer) (s : Session) (v m : View) (table : Table) (owed : List ℕ) → IsUpload transfer → m ≡ with_session s v
    → table ≡ m.session.table → owed ≡ m.owed ++ reply_octets (fixed_reply Texts.LocalFault) → InstallIsLost (Data.Transferring transfer) s v (put_in table owed m)
loses_upload (Transfers.Upload path keep d) s v m table owed is left =
    subst (λ (x : View). table ≡ x.session.table → owed ≡ x.owed ++ reply_octets (fixed_reply Texts.LocalFault) → put_in table owed x ≡ install_lost s v) (sym left)
    (λ same said. ap (λ t. put_in t owed (with_session s v)) same ∙ ap (λ o. put_in s.table o (with_session s v)) said)
loses_upload Transfers.OverLimit s v m table owed is left = absurd is
loses_upload (Transfers.Download rest) s v m table owed is left = absurd is
loses_upload (Transfers.Listing rest) s v m table owed is left = absurd is
