use Rattle.std.proofs.Common.{Some, ap, ◌∙◌}
use Rattle.std.specs.Option.{option_copied, option_map}
use Rattle.ftp_facts.specs.Listed.{fact_value}
use Rattle.ftp_facts.specs.Value.{number_value}
use Rattle.ftp_facts.proofs.NumberLemmas.{no_number, says_number}
use Rattle.ftp_facts.proofs.reading.read_size.Goals as goal

pub returns-in-Some-number-clause-says : goal.returns-in-Some-number-clause-says
returns-in-Some-number-clause-says c =
    let digits = c.in-Some.digits.now in
    let read = says_number digits c.in-Some-number.size c.in-Some-number.ensures.says in
    ap (λ text. fact_value number_value (option_copied text)) c.in-Some.is ∙ ap (option_map Some) read

pub returns-in-None-number-clause-silent : goal.returns-in-None-number-clause-silent
returns-in-None-number-clause-silent c =
    let silent = no_number c.in-Some.digits.now c.in-None-number.ensures.says in
    ap (λ text. fact_value number_value (option_copied text)) c.in-Some.is ∙ ap (option_map Some) silent
