use Rattle.std.proofs.Common.{take, arith, length-take}
use Rattle.ftp_endpoint.proofs.HostLemmas.{all_at, group_lt, one_more}
use Rattle.ftp_endpoint.proofs.host.group_value.Goals as goal

pub returns-in_default : goal.returns-in_default
returns-in_default c = λ all. c.in_default.ensures (all_at c.args.text.now c.loop-c.c-index all (omega arith))

pub overflow_mul-value : goal.overflow_mul-value
overflow_mul-value c =
    let small = group_lt (take c.loop-c.c-index c.args.text.now) c.loop-c.invariant.0 (omega (arith, length-take c.loop-c.c-index c.args.text.now)) in
    omega (arith, small, c.loop-c.invariant.1)

pub overflow_cast-result : goal.overflow_cast-result
overflow_cast-result c =
    let small = group_lt (take c.loop-c.c-index c.args.text.now) c.loop-c.invariant.0 (omega (arith, length-take c.loop-c.c-index c.args.text.now)) in
    omega (arith, small, c.loop-c.invariant.1)

pub overflow_add-value : goal.overflow_add-value
overflow_add-value c =
    let next = one_more c.args.text.now c.loop-c.c-index c.loop-c.value c.in-Some.digit (omega arith) c.requires c.loop-c.invariant.0 c.loop-c.invariant.1 c.in-Some.ensures.0 c.in-Some.ensures.1 in
    omega (arith, next.bound)

pub loop-c-preserved : goal.loop-c-preserved
loop-c-preserved c =
    let next = one_more c.args.text.now c.loop-c.c-index c.loop-c.value c.in-Some.digit (omega arith) c.requires c.loop-c.invariant.0 c.loop-c.invariant.1 c.in-Some.ensures.0 c.in-Some.ensures.1 in
    (next.all, next.value)
