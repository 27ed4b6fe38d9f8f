use Rattle.std.proofs.Common.{Some, sym, ap, ◌∙◌}
use Rattle.ftp_facts.specs.Entry.{listed_in}
use Rattle.ftp_facts.proofs.ListedLemmas.{says_entry}
use Rattle.ftp_facts.proofs.reading.read_entry.Goals as goal

pub returns-in-Ok-clause-says : goal.returns-in-Ok-clause-says
returns-in-Ok-clause-says g c =
    let seen = c.in_ok-seen.seen in
    says_entry c.args.line.now (listed_in seen) c.in_ok-seen.ensures.says ∙ ap Some (sym c.in-Ok.ensures)

pub returns-in-Err-clause-refuses : goal.returns-in-Err-clause-refuses
returns-in-Err-clause-refuses g c =
    let seen = c.in_ok-seen.seen in
    (listed_in seen, says_entry c.args.line.now (listed_in seen) c.in_ok-seen.ensures.says)
