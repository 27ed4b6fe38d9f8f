use Rattle.std.proofs.Common.{◌≡◌, ◌↔◌, Option, [], drop, IsTrue, nat_le, subst, sym}
use Rattle.ftp_wire.specs.declared.encoder.Encoder.{Encoder}
use Rattle.ftp_server_transfer.specs.Download.{wire_given_by}
use Rattle.ftp_server_transfer.proofs.DownloadLemmas.{at_end}
use Rattle.ftp_server_transfer.proofs.download.Download.is_given_out.Goals as goal

pub returns-in-Some : goal.returns-in-Some
returns-in-Some g c =
    let d = c.args.self.now in
    let file = g.T.Tree.opened d.file in
    let P : Option Encoder → Type 0 = λ e. IsTrue c.is_out.result ↔ (wire_given_by e (drop d.at file) ≡ []) in
    subst P (sym c.in-Some.is) (c.is_out.ensures (drop d.at file) (at_end file c.open_len.result d.at c.open_len.ensures))

pub returns-in-None : goal.returns-in-None
returns-in-None g c =
    let d = c.args.self.now in
    let file = g.T.Tree.opened d.file in
    let P : Option Encoder → Type 0 = λ e. IsTrue (nat_le c.open_len.result d.at) ↔ (wire_given_by e (drop d.at file) ≡ []) in
    subst P (sym c.in-None.is) (at_end file c.open_len.result d.at c.open_len.ensures)
