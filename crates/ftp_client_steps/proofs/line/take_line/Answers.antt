use Rattle.std.proofs.Common.{◌∙◌, ap}
use Rattle.std.specs.declared.result.Result.TheVariants.{Ok}
use Rattle.ftp_client_steps.specs.Reader.{with_line}
use Rattle.ftp_client_steps.proofs.CountLemmas.{goes_on}
use Rattle.ftp_client_steps.proofs.line.take_line.Goals as goal

pub returns-in-Ok-None-clause-counted : goal.returns-in-Ok-None-clause-counted
returns-in-Ok-None-clause-counted g c =
    goes_on _ c.args.gathered.now c.args.reader.now c.replace-taken.result c.line.new.self c.args.line.now c.with_line.result c.line.result
    c.requires.reading c.requires.counted c.replace-taken.ensures.value
    (c.with_line.ensures ∙ ap (λ b. with_line b c.args.line.now) c.take-before.ensures.value) (c.in-Ok-None.is ∙ ap Ok c.in-Ok-None.field-0-is) c.line.ensures
