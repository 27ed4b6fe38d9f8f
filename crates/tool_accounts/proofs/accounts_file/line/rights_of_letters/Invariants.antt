use Rattle.std.proofs.Common.{◌≡◌, drop}
use Rattle.ftp_operation.specs.Rights.{no_rights}
use Rattle.tool_accounts.specs.accounts_file.Line.{rights_with_letters}
use Rattle.tool_accounts.proofs.accounts_file.line.rights_of_letters.Given as goal

abbrev pub invariant-loop-at : goal.invariant-loop-at
invariant-loop-at l = rights_with_letters no_rights l.letters ≡ rights_with_letters l.rights (drop l.at l.letters)
