use Rattle.std.proofs.Common.{◌≡◌, ◌∙◌, Some, None, ap, arith, if◌then◌else◌}
use Rattle.std.specs.Str.{bytes_eq}
use Rattle.std.proofs.lemmas.Map.Text.{btree_map_updates_str}
use Rattle.tool_mirror_plan.specs.Index.{earlier, found}
use Rattle.tool_mirror_plan.proofs.IndexLemmas.{put_one}
use Rattle.tool_mirror_plan.proofs.index.put_first.Goals as goal

pub returns-in_ok-insert : goal.returns-in_ok-insert
returns-in_ok-insert c = λ name.
    let bs = c.as_slice-name.result.now in
    let kind = c.args.item.now.kind in
    let free : found c.args.kinds.now bs ≡ None = grind arith in
    btree_map_updates_str c.as_slice-name.result.now c.args.kinds.now c.insert.new.self _ c.in_ok-insert.ensures.updates name
    ∙ put_one (found c.args.kinds.now) bs name kind free
    ∙ ap (λ b. earlier (found c.args.kinds.now name) (if bytes_eq b name then Some kind else None)) c.as_slice-name.ensures
