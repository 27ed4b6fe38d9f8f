use Rattle.std.proofs.Common.{◌∙◌, take, drop, ap, arith}
use Rattle.tool_listing.proofs.entries.TextLemmas.{line_ended, line_last}
use Rattle.tool_listing.proofs.entries.text.cut_line.Goals as goal

pub returns-in-empty-clause-lines : goal.returns-in-empty-clause-lines
returns-in-empty-clause-lines c =
    let octets = c.args.octets.now in
    line_last octets c.split_at.result.0.now c.split_at.result.1.now
    (c.split_at.ensures.front ∙ ap (λ k. take k octets) c.line_end.ensures.place)
    (c.split_at.ensures.back ∙ ap (λ k. drop k octets) c.line_end.ensures.place)
    (omega (arith, c.in-empty.len_below))
    (omega (arith, c.requires, c.split_at.ensures.front_len, c.split_at.ensures.back_len, c.in-empty.len_below))

pub returns-in-len1-up-clause-lines : goal.returns-in-len1-up-clause-lines
returns-in-len1-up-clause-lines c =
    let octets = c.args.octets.now in
    line_ended octets c.split_at.result.0.now c.split_at.result.1.now
    (c.split_at.ensures.front ∙ ap (λ k. take k octets) c.line_end.ensures.place)
    (c.split_at.ensures.back ∙ ap (λ k. drop k octets) c.line_end.ensures.place)
    (omega (arith, c.in-len1-up.len_at_least))
