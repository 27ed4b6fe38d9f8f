use Rattle.std.proofs.Common.{◌≡◌, ◌++◌, ap, ◌∙◌}
use Rattle.ftp_facts.specs.Entry.{SaysEntry, entry_line}
use Rattle.ftp_facts.proofs.ComesBackLemmas.{entry_line-says}
use Rattle.ftp_facts.proofs.Theorems.{read_is}
use Rattle.ftp_facts.proofs.laws.entry_comes_back.Goals as goal

pub returns : goal.returns
returns g c =
    let entry = c.args.entry.now in
    let line = c.as_slice.result.now in
    let same : line ≡ entry_line entry = c.as_slice.ensures.value ∙ c.in_ok-write_entry.ensures.line ∙ ap (λ front. front ++ entry_line entry) c.new-line.ensures.items in
    let says : SaysEntry line entry = rw same (entry_line-says entry) in
    let is = read_is line entry c.read_entry.result says c.read_entry.ensures.says c.read_entry.ensures.refuses in
    record { back = is.0; fault = is.1 }
