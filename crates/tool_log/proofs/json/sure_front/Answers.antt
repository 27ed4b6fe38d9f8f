use Rattle.std.proofs.Common.{◌∙◌, ap, take}
use Rattle.std.proofs.lemmas.List.{take_min}
use Rattle.tool_log.proofs.json.sure_front.Goals as goal

pub returns : goal.returns
returns c = c.split_at.ensures.front ∙ ap (λ count. take count c.args.text.now) c.min.ensures ∙ take_min 640 c.args.text.now
