use Rattle.std.proofs.Common.{◌≡◌, ◌++◌, OnOk, subst}
use Rattle.tool_log.specs.Json.{front_json}
use Rattle.tool_log.proofs.json.put_head.Goals as goal

pub returns : goal.returns
returns c =
    subst (λ stamp. OnOk c.put_front.result (c.put_front.new.out.items ≡ c.args.out.now.items ++ front_json stamp c.args.head.lost c.args.event.now))
    c.stamp_of.ensures c.put_front.ensures
