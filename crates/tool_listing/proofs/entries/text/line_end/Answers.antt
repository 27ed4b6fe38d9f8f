use Rattle.std.proofs.Common.{rules, ◌==◌, not, sym}
use Rattle.std.proofs.lemmas.List.Sums.{prefix_len_is}
use Rattle.ftp_facts.specs.Listing.{line_feed}
use Rattle.tool_listing.proofs.entries.text.line_end.Goals as goal

pub returns-clause-place : goal.returns-clause-place
returns-clause-place c =
    sym (prefix_len_is (λ octet. not (octet == line_feed)) c.args.octets.now c.unwrap_or.result 0 (search rules) (λ k lt. search rules) (λ lt. search rules))
