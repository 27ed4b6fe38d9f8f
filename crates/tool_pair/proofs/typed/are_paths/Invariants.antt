use Rattle.std.proofs.Common.{◌≡◌, true, take}
use Rattle.std.specs.List.{list_all}
use Rattle.ftp_server_model.specs.Told.{is_path}
use Rattle.tool_pair.proofs.typed.are_paths.Given as goal

-- the roots so far are paths
abbrev pub invariant-loop-account : goal.invariant-loop-account
invariant-loop-account g l = list_all (λ account. is_path account.root) (take l.account-index l.list) ≡ true
