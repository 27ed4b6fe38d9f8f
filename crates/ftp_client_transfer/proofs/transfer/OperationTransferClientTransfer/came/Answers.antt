use Rattle.std.proofs.Common.{◌∙◌, sym, ap}
use Rattle.ftp_client_model.specs.Telling.{came_in}
use Rattle.ftp_client_transfer.specs.Flow.{flow_in}
use Rattle.ftp_client_transfer.specs.Octets.{cut_octets}
use Rattle.ftp_client_transfer.proofs.CameLemmas.{cut_came}
use Rattle.ftp_client_transfer.proofs.transfer.OperationTransferClientTransfer.came.Goals as goal

pub returns-in-Download : goal.returns-in-Download
returns-in-Download g c =
    let op = c.args.op.now in
    let download = c.in-Download.download in
    c.came_in.ensures
    ∙ ap (cut_octets op) c.into_sink.ensures
    ∙ cut_came op download.decoder.decoder download.mark
    ∙ ap (λ transfer. came_in op (flow_in op transfer)) (sym c.in-Download.is)
