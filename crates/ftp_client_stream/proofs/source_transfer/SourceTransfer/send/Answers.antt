use Rattle.std.proofs.Common.{ap, drop, take, refl, sym, ◌++◌, ◌+◌, ◌∙◌}
use Rattle.ftp_wire.specs.Encoding.{still_to_give}
use Rattle.ftp_client_stream.proofs.SourceTransferLemmas.{goes}
use Rattle.ftp_client_stream.proofs.source_transfer.SourceTransfer.send.Goals as goal

pub returns-clause-ok : goal.returns-clause-ok
returns-clause-ok g c =
    let d = c.args.self.now in
    let count = c.in_ok-count.count in
    record {
      went = take count c.unsent.result.now;
      written = c.in_ok-count.ensures.bytes;
      source = refl;
      last = refl;
      text = λ more.
          let rest = still_to_give d.encoder (drop d.at (take d.end d.piece.items) ++ more) in
          goes count d.sent d.made d.wire.items rest
          ∙ ap (λ u. take count u ++ (drop (d.sent + count) (take d.made d.wire.items) ++ rest)) (sym c.unsent.ensures);
    }
