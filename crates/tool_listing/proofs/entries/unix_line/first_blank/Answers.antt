use Rattle.std.proofs.Common.{rules, not, sym}
use Rattle.std.proofs.lemmas.List.Sums.{prefix_len_is}
use Rattle.tool_listing.specs.entries.UnixLine.{is_blank}
use Rattle.tool_listing.proofs.entries.unix_line.first_blank.Goals as goal

pub returns-clause-place : goal.returns-clause-place
returns-clause-place c =
    sym (prefix_len_is (λ octet. not (is_blank octet)) c.args.text.now c.unwrap_or.result 0 (search rules) (λ k lt. search rules) (λ lt. search rules))
