use Rattle.std.proofs.Common.{◌≤◌, ◌++◌, ◌-◌, ◌∙◌, ℕ, List, length, take, drop, ap, rules, arith}
use Rattle.std.proofs.Output.{has_written_append, has_written_of_eq}
use Rattle.tool_terminal.specs.escaped.Shown.{front_shown}
use Rattle.tool_terminal.proofs.escaped.ShownLemmas.{tail_is}
use Rattle.tool_terminal.proofs.escaped.WritingLemmas.{all_written, one_more_written}
use Rattle.tool_terminal.proofs.escaped.shown.ShownDisplay.fmt.Goals as goal

pub loop-place-preserved : goal.loop-place-preserved
loop-place-preserved g c = λ plain.
    let now = c.loop-place.invariant plain in
    let octets = c.args.self.now.0.now in
    let at = c.loop-place.place in
    let rest : List ℕ = take (length octets - at) (drop at octets) in
    let later = c.saturating_sub-written.ensures ∙ ap (λ n. n - 1) c.kept_of.ensures in (
      now.0 ++ front_shown c.loop-place.written rest,
      has_written_append _ _ _ _ _ _ now.1 (search rules),
      one_more_written octets rest now.0 _ at c.loop-place.written _ c.loop-place-test.true (tail_is octets at) later now.2,
    )

pub returns-clause-writes : goal.returns-clause-writes
returns-clause-writes g c = λ plain _.
    let now = c.loop-place.invariant plain in
    let past : length c.args.self.now.0.now ≤ c.loop-place.place = omega arith in
    has_written_of_eq _ _ _ _ _ (all_written c.args.self.now.0.now _ _ c.loop-place.place c.loop-place.written past now.2) now.1
