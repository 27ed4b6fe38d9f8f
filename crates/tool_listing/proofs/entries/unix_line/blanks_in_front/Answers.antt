use Rattle.std.proofs.Common.{rules, tests, sym}
use Rattle.std.proofs.lemmas.List.Sums.{prefix_len_is}
use Rattle.tool_listing.specs.entries.UnixLine.{is_blank}
use Rattle.tool_listing.proofs.entries.unix_line.blanks_in_front.Goals as goal

pub returns-clause-count : goal.returns-clause-count
returns-clause-count c =
    sym (prefix_len_is is_blank c.args.text.now c.unwrap_or.result 0 (search rules) (λ k lt. search (rules, tests)) (λ lt. search (rules, tests)))
