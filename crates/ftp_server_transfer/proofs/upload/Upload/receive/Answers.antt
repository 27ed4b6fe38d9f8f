use Rattle.std.proofs.Common.{◌+◌, ℕ, Bool, Option, length, take, sym, subst, arith, rules}
use Rattle.std.specs.Prelude.{if◌then◌else◌}
use Rattle.ftp_tree.specs.Tree.{under}
use Rattle.ftp_wire.specs.Hearing.{Hears}
use Rattle.ftp_server_model.specs.declared.session.Transfer.TheVariants as Transfers
use Rattle.ftp_server_replies.specs.ServerTransfer.{Comes}
use Rattle.ftp_server_transfer.proofs.MarkLemmas.{mark_fits}
use Rattle.ftp_server_transfer.proofs.ReceiveLemmas.{comes, refused}
use Rattle.ftp_server_transfer.proofs.upload.Upload.receive.Goals as goal

pub returns-in_default-clause-comes : goal.returns-in_default-clause-comes
returns-in_default-clause-comes g c =
    let part = under (g.T.Tree.table c.args.tree.now) c.args.root.now in
    let u = c.args.self.now in
    let came = c.of-in_default in
    refused part u.path u.keep u.decoder.decoder c.args.piece.now came.result.received.count came.result.received.told _ (search rules) came.ensures.0 came.ensures.1

pub told-requires : goal.told-requires
told-requires g c = λ held is.
    let d = c.args.self.now.decoder.decoder in
    let taken = c.hear-taken in
    let most = length d.content + c.in-Some.room in
    let octets = take taken.result.count c.args.piece.now in
    let P : Option ℕ → Type 0 = λ mark. Hears most d octets mark taken.new.self.marker taken.result.heard taken.new.self.decoder in
    let fits = mark_fits most d octets held taken.new.self.marker taken.result.heard taken.new.self.decoder (omega arith) (subst P is taken.ensures.hears) in
    (omega (arith, fits.0, c.in-Some.ensures.room.short), fits.1)

pub returns-clause-comes : goal.returns-clause-comes
returns-clause-comes g c =
    let part = under (g.T.Tree.table c.args.tree.now) c.args.root.now in
    let u = c.args.self.now in
    let d = u.decoder.decoder in
    let taken = c.hear-taken in
    let new = taken.new.self in
    let octets = take taken.result.count c.args.piece.now in
    let P : Bool → Type 0 = λ over. Comes part (Transfers.Upload u.path u.keep d) octets c.told.result
    (if over then Transfers.OverLimit else Transfers.Upload u.path u.keep new.decoder) in
    subst P (sym c.is_over.ensures)
    (comes part u.path u.keep (length d.content + c.in-Some.room) d octets taken.result.mark new.marker taken.result.heard new.decoder c.told.result
    c.in-Some.ensures.room (omega arith) taken.ensures.hears c.told.ensures)
