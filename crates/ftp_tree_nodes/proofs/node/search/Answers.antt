use Rattle.std.proofs.Common.{◌+◌, ◌-◌, ◌/◌, ◌<◌, ◌≤◌, ◌∙◌, ap, length, arith}
use Rattle.ftp_tree_nodes.specs.Branch.{parts}
use Rattle.ftp_tree_nodes.proofs.NameLemmas.{parts-length, more-before, more-behind, stands-here, gap-from, compared}
use Rattle.ftp_tree_nodes.proofs.node.search.Goals as goal

pub loop-low-preserved-in-Less : goal.loop-low-preserved-in-Less
loop-low-preserved-in-Less g c =
    let es = c.args.children.now in
    let middle = c.loop-low.low + (c.loop-low.high - c.loop-low.low) / 2 in
    let long = parts-length es in
    let within : middle < length es = omega arith in
    let inside : middle < length (parts es) = omega arith in
    record {
      upright = omega arith;
      inside = c.loop-low.invariant.inside;
      before = more-before (parts es) c.args.name.now c.requires middle inside
          (compared es middle c.index-children-middle.result _ _ _ _ within c.index-children-middle.is (c.as_slice.ensures ∙ ap (λ x. x.name) c.deref.ensures) c.name_order.ensures c.in-Less.is);
      behind = c.loop-low.invariant.behind;
    }

pub returns-in-Equal-clause-there : goal.returns-in-Equal-clause-there
returns-in-Equal-clause-there g c =
    let es = c.args.children.now in
    let middle = c.loop-low.low + (c.loop-low.high - c.loop-low.low) / 2 in
    let long = parts-length es in
    let within : middle < length es = omega arith in
    let inside : middle < length (parts es) = omega arith in
    stands-here (parts es) c.args.name.now c.requires middle inside
    (compared es middle c.index-children-middle.result _ _ _ _ within c.index-children-middle.is (c.as_slice.ensures ∙ ap (λ x. x.name) c.deref.ensures) c.name_order.ensures c.in-Equal.is)

pub loop-low-preserved : goal.loop-low-preserved
loop-low-preserved g c =
    let es = c.args.children.now in
    let middle = c.loop-low.low + (c.loop-low.high - c.loop-low.low) / 2 in
    let long = parts-length es in
    let within : middle < length es = omega arith in
    let inside : middle < length (parts es) = omega arith in
    record {
      upright = omega arith;
      inside = omega arith;
      before = c.loop-low.invariant.before;
      behind = more-behind (parts es) c.args.name.now c.requires middle inside
          (compared es middle c.index-children-middle.result _ _ _ _ within c.index-children-middle.is (c.as_slice.ensures ∙ ap (λ x. x.name) c.deref.ensures) c.name_order.ensures c.in-Greater.is);
    }

pub returns-clause-gap : goal.returns-clause-gap
returns-clause-gap g c =
    let es = c.args.children.now in
    let long = parts-length es in
    let inside : c.loop-low.low ≤ length (parts es) = omega arith in
    gap-from (parts es) c.args.name.now c.loop-low.low c.loop-low.invariant.before inside
    (λ k le lt. c.loop-low.invariant.behind k (omega arith) lt)
