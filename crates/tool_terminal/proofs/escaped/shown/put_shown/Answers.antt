use Rattle.std.proofs.Common.{◌≤◌, ◌∙◌, length, arith}
use Rattle.tool_terminal.proofs.escaped.ShownLemmas.{all_put, one_more, tail_is}
use Rattle.tool_terminal.proofs.escaped.shown.put_shown.Goals as goal

pub loop-place-preserved : goal.loop-place-preserved
loop-place-preserved c =
    one_more c.args.octets.now _ c.loop-place.place c.loop-place.kept c.in_ok-kept.kept c.loop-place.out.items c.put_next.new.out.items
    c.loop-place-test.true (tail_is c.args.octets.now c.loop-place.place) c.in_ok-kept.ensures.kept c.in_ok-kept.ensures.shown
    ∙ c.loop-place.invariant

pub returns : goal.returns
returns c =
    let past : length c.args.octets.now ≤ c.loop-place.place = omega arith in
    all_put c.args.octets.now c.loop-place.place c.loop-place.kept c.loop-place.out.items _ past c.loop-place.invariant
