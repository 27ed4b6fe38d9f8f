use Rattle.std.proofs.Common.{◌≡◌, ◌∙◌, ◌+◌, length, take, sym, ap}
use Rattle.ftp_client_model.specs.View.{Receiving}
use Rattle.ftp_client_transfer.proofs.DownloadLemmas.{hears_all, noted_none, noted_some}
use Rattle.ftp_client_transfer.proofs.download.Download.hear.Goals as goal

pub returns-then-is_some-clause-heard : goal.returns-then-is_some-clause-heard
returns-then-is_some-clause-heard g c =
    let old = c.args.self.now in
    let taken = c.hear-taken.result in
    let new = c.hear-taken.new.self in
    let all = hears_all _ old.decoder.decoder (take taken.count c.args.piece.now) taken.mark new.marker taken.heard new.decoder old.mark
    (sym c.goes_on.ensures ∙ c.if-not-goes_on.false) c.hear-taken.ensures.hears in
    ap (λ d. Receiving d.decoder c.note.new.self.mark) c.note.ensures.decoder
    ∙ ap (Receiving new.decoder) (c.note.ensures.mark ∙ sym (noted_some taken.mark new.marker old.mark (sym c.is_some.ensures ∙ c.if-is_some.true)))
    ∙ sym all

pub returns-else-is_some-clause-heard : goal.returns-else-is_some-clause-heard
returns-else-is_some-clause-heard g c =
    let old = c.args.self.now in
    let taken = c.hear-taken.result in
    let new = c.hear-taken.new.self in
    let all = hears_all _ old.decoder.decoder (take taken.count c.args.piece.now) taken.mark new.marker taken.heard new.decoder old.mark
    (sym c.goes_on.ensures ∙ c.if-not-goes_on.false) c.hear-taken.ensures.hears in
    ap (Receiving new.decoder) (sym (noted_none taken.mark new.marker old.mark (sym c.is_some.ensures ∙ c.if-is_some.false)))
    ∙ sym all
