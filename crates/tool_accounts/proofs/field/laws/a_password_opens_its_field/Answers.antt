use Rattle.tool_accounts.proofs.field.Opening.{field_is}
use Rattle.tool_accounts.proofs.field.laws.a_password_opens_its_field.Goals as goal

pub returns : goal.returns
returns c rounds salt input text made = let is = field_is rounds salt input text made in (is.password, is.says, is.opens)
