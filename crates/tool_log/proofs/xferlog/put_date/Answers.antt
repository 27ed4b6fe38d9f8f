use Rattle.std.proofs.Common.{◌≡◌, ◌++◌, OnOk, subst}
use Rattle.tool_log.specs.Xferlog.{dated, spaced}
use Rattle.tool_log.proofs.xferlog.put_date.Goals as goal

pub returns : goal.returns
returns c =
    subst (λ digits. OnOk c.put_dated.result (c.put_dated.new.out.items ≡ c.args.out.now.items ++ spaced (dated digits)))
    c.moment_text.ensures.digits c.put_dated.ensures
