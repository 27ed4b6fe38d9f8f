-- Sessions of the server between two turns of what is asked for.
use Rattle.std.proofs.Common.{◌≡◌, Bool, true, false, ◌||◌, refl, ap}
use Rattle.ftp_endpoint.specs.declared.host.Host.{Host}
use Rattle.ftp_ends.specs.Reply.{IsWritten}
use Rattle.ftp_path.specs.Path.{Names}
use Rattle.ftp_server_model.specs.Endpoint.{forgotten, is_standing}
use Rattle.ftp_server_model.specs.Machine.{is_connection_busy}
use Rattle.ftp_server_model.specs.Replies.{fixed_reply}
use Rattle.ftp_server_model.specs.View.{View as Far, Session, Transfer}
use Rattle.ftp_server_model.specs.declared.reply.FixedReply.{FixedReply}
use Rattle.ftp_server_model.specs.declared.reply.ReplyKind.TheVariants as Kinds
use Rattle.ftp_server_model.specs.declared.session.ServerLink.{ServerLink as FarConnection}
use Rattle.ftp_server_model.specs.declared.session.ServerLink.TheVariants as FarData
use Rattle.ftp_server_model.specs.declared.session.Pending.{Pending}
use Rattle.ftp_server_model.specs.declared.session.Pending.TheVariants as Pendings
use Rattle.ftp_server_model.proofs.RepliesWritten.{replies_are_written}
use Rattle.laws_dialogues.specs.Fetches.{linked}
use Rattle.laws_agreement.specs.Stages.{Early, Dialled, Ported, early_far}

-- a session that is linked so, with something else pending
pub linked_on : (s : Session) (connection : FarConnection Transfer) (closing : Bool) (pending next : Pending Names) → s ≡ linked connection closing pending s
    → record s { pending = next } ≡ linked connection closing next (record s { pending = next })
linked_on s connection closing pending next e = λ i. record s { connection = (e i).connection; closing = (e i).closing; life = (e i).life; pending = next }

-- the link of it is given up
pub forgotten_on : (s : Session) (connection : FarConnection Transfer) (pending : Pending Names) → s ≡ linked connection false pending s
    → forgotten (record s { pending = Pendings.Nothing }) ≡ linked FarData.Free (is_standing connection) Pendings.Nothing (forgotten (record s { pending = Pendings.Nothing }))
forgotten_on s connection pending e =
    λ i. record (forgotten (record s { pending = Pendings.Nothing })) { closing = (e i).closing || is_standing (e i).connection; life = (e i).life }

-- each reply with a set text is a written one
pub fixed : (s : Session) (text : FixedReply) → IsWritten (fixed_reply text).code (fixed_reply text).lines
fixed s text = replies_are_written s (Kinds.Fixed text) (fixed_reply text) tt refl

-- before the transfer the data connection of the server is not busy
pub idle_at : (early : Early) (here : Host) (f : Far) → f.session.connection ≡ early_far here early → is_connection_busy f.session.connection ≡ false
idle_at (Dialled true) here f is = ap is_connection_busy is
idle_at (Dialled false) here f is = ap is_connection_busy is
idle_at (Ported port) here f is = ap is_connection_busy is
