use Rattle.std.proofs.Common.{◌∷◌, []}
use Rattle.tool_script.specs.Field.{field_text}
use Rattle.tool_script.proofs.ReportLemmas.{line_put}
use Rattle.tool_script.proofs.report.put_text.Goals as goal

pub returns : goal.returns
returns g c =
    line_put c.extend_from_slice-2.result c.args.out.now.items c.args.word.now (field_text c.args.octets.now) (10 ∷ [])
    c.extend_from_slice.new.self.items c.put_field.new.out.items c.extend_from_slice-2.new.self.items
    c.in_ok-extend_from_slice.ensures.items c.in_ok-put_field.ensures c.extend_from_slice-2.ensures.items
