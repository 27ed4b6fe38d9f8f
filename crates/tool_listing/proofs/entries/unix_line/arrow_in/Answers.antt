use Rattle.std.proofs.Common.{◌∙◌, ap, sym}
use Rattle.std.specs.List.{starts_with}
use Rattle.std.specs.Prelude.{codes, nat_eq}
use Rattle.tool_listing.proofs.entries.UnixLemmas.{arrow_next}
use Rattle.tool_listing.proofs.entries.unix_line.arrow_in.Goals as goal

pub loop-place-preserved : goal.loop-place-preserved
loop-place-preserved c =
    let back = ap (λ rest. starts_with nat_eq rest (codes " -> ")) c.split_at.ensures.back in
    arrow_next c.args.name.now c.loop-place.place c.loop-place-test.true (sym back ∙ sym c.starts_with.ensures.value ∙ c.if-starts_with.false)
    c.loop-place.invariant
