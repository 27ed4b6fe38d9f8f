use Rattle.std.proofs.Common.{◌≡◌, drop}
use Rattle.tool_accounts.specs.accounts_file.Reach.{rights_of, rights_with}
use Rattle.tool_accounts.proofs.accounts_file.reach.rights_of.Given as goal

abbrev pub invariant-loop-account : goal.invariant-loop-account
invariant-loop-account g l = rights_with l.rights (drop l.account-index l.list) ≡ rights_of l.list
