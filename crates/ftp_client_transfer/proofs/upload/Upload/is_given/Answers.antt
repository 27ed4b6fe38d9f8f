use Rattle.std.proofs.Common.{◌≡◌, drop, subst}
use Rattle.ftp_client_model.specs.Dialogue.{is_given}
use Rattle.ftp_client_model.specs.View.{Sending}
use Rattle.ftp_client_transfer.specs.Flow.{left_in}
use Rattle.ftp_client_transfer.proofs.UploadLemmas.{at_end, given_of}
use Rattle.ftp_client_transfer.proofs.upload.Upload.is_given.Goals as goal

pub returns : goal.returns
returns g c =
    let u = c.args.self.now in
    let octets = c.octets_of.result.now in
    subst (λ l. c.is_out.result ≡ is_given (Sending (left_in l u) u.mark)) c.octets_of.ensures
    (given_of c.is_out.result (left_in octets u) u.mark (c.is_out.ensures (drop u.at octets) (at_end octets u.at)))
