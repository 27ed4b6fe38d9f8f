use Rattle.std.proofs.Common.{◌≡◌, ◌==◌, ◌∙◌, ltb, length, take, take_all, ap, arith}
use Rattle.std.proofs.lemmas.List.{length-take-le}
use Rattle.std.specs.List.{list_all}
use Rattle.tool_script.specs.Field.{is_plain}
use Rattle.tool_script.proofs.LaneLemmas.{left_lanes, plain_lanes, right_lanes}
use Rattle.tool_script.proofs.plain.are_plain_in_lanes.Goals as goal

pub returns : goal.returns
returns c =
    let octets = c.args.octets.now in
    let v = take 32 octets in
    let long : length v ≡ 32 = length-take-le 32 octets (omega (arith, c.requires)) in
    c.are_unmarked.ensures ∙ plain_lanes v _ _ _ (right_lanes ltb 33 v long) (left_lanes ltb 126 v long) (right_lanes (λ a b. a == b) 92 v long)
    ∙ ap (list_all is_plain) (take_all 32 octets (omega (arith, c.requires)))
