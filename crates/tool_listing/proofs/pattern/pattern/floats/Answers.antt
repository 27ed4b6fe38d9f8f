use Rattle.std.proofs.Common.{◌≡◌, ◌∙◌, ap, arith, drop, sym}
use Rattle.tool_listing.specs.pattern.Pattern.{matches, some_rest}
use Rattle.tool_listing.proofs.pattern.PatternLemmas.{floated, met_apart, met_fits, met_whole, onward, settled, some_here}
use Rattle.tool_listing.proofs.pattern.pattern.floats.Goals as goal

pub returns-in-Whole : goal.returns-in-Whole
returns-in-Whole c =
    let p = c.loop-count.wanted.now in
    let t = c.loop-count.left.now in
    sym (some_here (matches p) t (met_whole p t 0 (sym c.met.ensures ∙ c.in-Whole.is))) ∙ c.loop-count.invariant

pub loop-count-preserved-in-Star : goal.loop-count-preserved-in-Star
loop-count-preserved-in-Star c =
    let p = c.loop-count.wanted.now in
    let t = c.loop-count.left.now in
    let n = c.in-Star.count in
    let pattern : c.past-wanted.result.now ≡ drop 1 (drop n p) = c.past-wanted.ensures ∙ ap (drop 1) c.past.ensures in
    ap (λ q. some_rest (matches q) c.past-left.result.now) pattern
    ∙ ap (some_rest (matches (drop 1 (drop n p)))) c.past-left.ensures
    ∙ sym (onward n p t (met_fits p t 0 n n (omega arith) (sym c.met.ensures ∙ c.in-Star.is))) ∙ c.loop-count.invariant

pub loop-count-preserved : goal.loop-count-preserved
loop-count-preserved c =
    let p = c.loop-count.wanted.now in
    let t = c.loop-count.left.now in
    ap (some_rest (matches p)) c.past-left-in-Apart.ensures
    ∙ floated p t (met_apart p t 0 (sym c.met.ensures ∙ c.in-Apart.is)) (sym c.is_floating.ensures ∙ c.if-is_floating.true) ∙ c.loop-count.invariant

pub returns-in-Apart-2 : goal.returns-in-Apart-2
returns-in-Apart-2 c =
    let p = c.loop-count.wanted.now in
    let t = c.loop-count.left.now in
    settled p t (met_apart p t 0 (sym c.met.ensures ∙ c.in-Apart-2.is)) (sym c.is_floating.ensures ∙ c.if-is_floating.false) ∙ c.loop-count.invariant
