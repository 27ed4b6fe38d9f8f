use Rattle.std.proofs.Common.{◌≡◌, ◌<◌, ◌∙◌, take, subst, sym, arith}
use Rattle.std.proofs.lemmas.List.{length-take}
use Rattle.std.specs.Str.{IsUtf8}
use Rattle.tool_terminal.proofs.escaped.WritingLemmas.{shown_front}
use Rattle.tool_terminal.specs.escaped.Shown.{shown_len}
use Rattle.tool_terminal.proofs.escaped.shown.front_of.Goals as goal

pub slice_bounds-from_utf8-end : goal.slice_bounds-from_utf8-end
slice_bounds-from_utf8-end c =
    let some : 0 < shown_len c.args.octets.now = omega (arith, c.requires.is_len, c.requires.is_shown) in
    let there = (shown_front c.args.octets.now some).0 in
    omega (arith, c.from.ensures, c.requires.is_len, there, length-take c.from.result c.args.octets.now)

pub unreachable-requires : goal.unreachable-requires
unreachable-requires c =
    let some : 0 < shown_len c.args.octets.now = omega (arith, c.requires.is_len, c.requires.is_shown) in
    let same : shown_len c.args.octets.now ≡ c.from.result = sym (c.from.ensures ∙ c.requires.is_len) in
    c.in_default.ensures.cases.0 (subst (λ n. IsUtf8 (take n c.args.octets.now)) same (shown_front c.args.octets.now some).1)
