use Rattle.std.proofs.Common.{◌∷◌, []}
use Rattle.tool_script.proofs.ReportLemmas.{line_put}
use Rattle.tool_script.proofs.report.put_line.Goals as goal

pub returns : goal.returns
returns g c =
    line_put c.extend_from_slice-3.result c.args.out.now.items c.args.word.now c.args.text.now (10 ∷ [])
    c.extend_from_slice.new.self.items c.extend_from_slice-2.new.self.items c.extend_from_slice-3.new.self.items
    c.in_ok-extend_from_slice.ensures.items c.in_ok-extend_from_slice-2.ensures.items c.extend_from_slice-3.ensures.items
