use Rattle.tool_script.proofs.FieldLemmas.{too_few}
use Rattle.tool_script.proofs.field.by_digits.Goals as goal

pub returns-in_default-clause-says : goal.returns-in_default-clause-says
returns-in_default-clause-says c = too_few c.args.text.now c.in_default.len_below
