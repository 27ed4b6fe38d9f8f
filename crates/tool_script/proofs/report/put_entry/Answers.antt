use Rattle.std.proofs.Common.{◌≡◌, ◌∷◌, [], ◌++◌, ◌∙◌, sym}
use Rattle.ftp_facts.specs.Entry.{entry_line}
use Rattle.tool_script.proofs.ReportLemmas.{given, line_put}
use Rattle.tool_script.proofs.report.put_entry.Goals as goal

pub returns : goal.returns
returns g c =
    let front = c.extend_from_slice.new.self.items in
    let both = c.write_entry.new.out.items in
    line_put c.extend_from_slice-2.result c.args.out.now.items c.args.word.now (entry_line c.args.entry.now) (10 ∷ []) front both
    c.extend_from_slice-2.new.self.items c.in_ok-extend_from_slice.ensures.items
    (given c.write_entry.result (both ≡ front ++ entry_line c.args.entry.now) (sym c.is_err.ensures.value ∙ c.if-is_err.false) c.write_entry.ensures.line)
    c.extend_from_slice-2.ensures.items
