use Rattle.std.proofs.Common.{◌≡◌, ◌++◌, codes, ap, ◌∙◌}
use Rattle.ftp_facts.specs.Moment.{moment_digits}
use Rattle.tool_script.proofs.ReportLemmas.{on_ok}
use Rattle.tool_script.specs.Report.{said_line}
use Rattle.tool_script.proofs.report.put_moment.Goals as goal

pub returns : goal.returns
returns g c =
    let old = c.args.out.now.items in
    let new = c.put_line.new.out.items in
    on_ok c.put_line.result (new ≡ old ++ said_line (codes "moment ") c.moment_text.result) (new ≡ old ++ said_line (codes "moment ") (moment_digits c.args.moment.seconds)) (λ e. e ∙ ap (λ digits. old ++ said_line (codes "moment ") digits) c.moment_text.ensures.digits) c.put_line.ensures
