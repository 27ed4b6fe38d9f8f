use Rattle.std.proofs.Common.{ap, ◌∙◌, sym}
use Rattle.ftp_wire.specs.Decoder.{decoded}
use Rattle.ftp_client_stream.proofs.SinkTransferLemmas.{heard_front}
use Rattle.ftp_client_stream.proofs.sink_transfer.SinkTransfer.hear.Goals as goal

pub loop-rest-preserved : goal.loop-rest-preserved
loop-rest-preserved g c =
    ap (decoded c.hear-taken.new.self.decoder) c.split_at.ensures.back
    ∙ heard_front _ c.loop-rest.self.decoder.decoder c.loop-rest.rest.now c.hear-taken.result.count c.hear-taken.result.mark c.hear-taken.new.self.marker
    c.hear-taken.result.heard c.hear-taken.new.self.decoder (sym c.goes_on.ensures ∙ c.if-not-goes_on.false) c.hear-taken.ensures.hears
    ∙ c.loop-rest.invariant
