use Rattle.std.proofs.Common.{◌∙◌, sym}
use Rattle.tool_script.specs.Field.{Between}
use Rattle.tool_script.proofs.FieldLemmas.{puts}
use Rattle.tool_script.proofs.PlainLemmas.{plain_front}
use Rattle.tool_script.proofs.field.put_next.Goals as goal

pub returns-then-are_plain_in_lanes-clause-says : goal.returns-then-are_plain_in_lanes-clause-says
returns-then-are_plain_in_lanes-clause-says g c =
    let parts = c.split_at.result in
    puts (λ left. left.now) c.args.text.now parts.0.now parts.1.now Between c.args.out.now.items c.put_before.new.out.items c.put_before.result
    (plain_front c.args.text.now parts.0.now parts.1.now c.split_at.ensures.front c.split_at.ensures.back (sym c.are_plain_in_lanes.ensures ∙ c.if-are_plain_in_lanes.true))
    c.put_before.ensures.ok c.put_before.ensures.memory
