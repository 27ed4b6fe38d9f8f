use Rattle.std.proofs.Common.{◌≡◌, ◌≤◌, length, take, sym, subst, arith}
use Rattle.std.proofs.lemmas.List.{length-take}
use Rattle.std.proofs.lemmas.Result.{IfOk-weaker}
use Rattle.ftp_client_steps.specs.Hearing.{heard_all}
use Rattle.ftp_client_transfer.specs.Octets.{octets_of}
use Rattle.ftp_client_transfer.specs.Flow.{flow_in, left_in}
use Rattle.ftp_client_transfer.proofs.DownloadLemmas.{heard_sending, not_yet}
use Rattle.ftp_client_transfer.proofs.transfer.OperationTransferClientTransfer.hear.Goals as goal

pub returns-in-Upload-clause-heard : goal.returns-in-Upload-clause-heard
returns-in-Upload-clause-heard g c =
    let op = c.args.op.now in
    let w = take (length c.split_at.result.0.now) c.args.piece.now in
    let u = c.in-Upload.field-0 in
    subst (λ s. flow_in op s ≡ heard_all (flow_in op s) w) (sym c.in-Upload.is) (sym (heard_sending (left_in (octets_of op) u) u.mark w))

pub returns-in-Upload-clause-within : goal.returns-in-Upload-clause-within
returns-in-Upload-clause-within g c =
    let op = c.args.op.now in
    let piece = c.args.piece.now in
    let most = c.most_at_once.result in
    let front : length c.split_at.result.0.now ≡ most = omega (arith, c.split_at.ensures.front_len, c.most_at_once.ensures.within) in
    let w = take (length c.split_at.result.0.now) piece in
    let short : length w ≤ most = omega (arith, length-take (length c.split_at.result.0.now) piece, front) in
    (omega (arith, front, c.most_at_once.ensures.within), not_yet op (flow_in op c.args.self.now) w most short c.most_at_once.ensures.one)

pub returns-in-Download-clause-within : goal.returns-in-Download-clause-within
returns-in-Download-clause-within g c =
    let op = c.args.op.now in
    let piece = c.args.piece.now in
    let most = c.most_at_once.result in
    let front : length c.split_at.result.0.now ≡ most = omega (arith, c.split_at.ensures.front_len, c.most_at_once.ensures.within) in
    IfOk-weaker c.hear.result _ _ (λ count within.
    let few : count ≤ length piece = omega (arith, within, front, c.most_at_once.ensures.within) in
    let short : length (take count piece) ≤ most = omega (arith, length-take count piece, within, front) in
    (few, not_yet op (flow_in op c.args.self.now) (take count piece) most short c.most_at_once.ensures.one))
    c.hear.ensures.within
