use Rattle.std.proofs.Common.{◌+◌, ap, ◌∙◌}
use Rattle.std.specs.List.{slice_get}
use Rattle.ftp_server_replies.specs.Codes.{digit_in, of_three}
use Rattle.ftp_server_replies.proofs.CodeLemmas.{code_at}
use Rattle.ftp_server_replies.proofs.output.Output.code_at.Goals as goal

pub returns : goal.returns
returns g c =
    c.of_three.ensures
    ∙ ap (λ digit. of_three digit c.digit_at-2.result c.digit_at-3.result) c.digit_at.ensures.is
    ∙ ap (λ digit. of_three (digit_in (slice_get c.args.self.now c.args.place)) digit c.digit_at-3.result) c.digit_at-2.ensures.is
    ∙ ap (λ digit. of_three (digit_in (slice_get c.args.self.now c.args.place)) (digit_in (slice_get c.args.self.now (c.args.place + 1))) digit) c.digit_at-3.ensures.is
    ∙ code_at c.args.place c.args.self.now
