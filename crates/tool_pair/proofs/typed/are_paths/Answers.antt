use Rattle.ftp_server_model.specs.Told.{is_path}
use Rattle.tool_pair.proofs.Paths.{one_more_passes}
use Rattle.tool_pair.proofs.typed.are_paths.Goals as goal

pub loop-account-preserved : goal.loop-account-preserved
loop-account-preserved g c =
    one_more_passes (λ account. is_path account.root) c.args.list.now c.loop-account.account-index c.account-item.result c.account-item.result
    c.loop-account-test.true c.account-item.is c.loop-account.invariant c.is_path.ensures
