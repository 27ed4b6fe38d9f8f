use Rattle.std.proofs.Common.{◌≡◌, true, false, get_or, take, arith, rules, length-take}
use Rattle.std.specs.Char.{is_ascii_digit}
use Rattle.ftp_endpoint.proofs.NumberLemmas.{digit_bounds, not_all, one_more, value_lt}
use Rattle.ftp_endpoint.proofs.decimal.value.Goals as goal

pub returns-then-not-is_ascii_digit-clause-says : goal.returns-then-not-is_ascii_digit-clause-says
returns-then-not-is_ascii_digit-clause-says c =
    let none : is_ascii_digit (get_or c.args.text.now c.loop-c.c-index 0) ≡ false = search rules in
    not_all c.args.text.now c.loop-c.c-index (omega arith) none

pub overflow_mul-value : goal.overflow_mul-value
overflow_mul-value c =
    let small = value_lt (take c.loop-c.c-index c.args.text.now) c.loop-c.invariant.0 (omega (arith, length-take c.loop-c.c-index c.args.text.now)) in
    omega (arith, small, c.loop-c.invariant.1)

pub overflow_add-value : goal.overflow_add-value
overflow_add-value c =
    let small = value_lt (take c.loop-c.c-index c.args.text.now) c.loop-c.invariant.0 (omega (arith, length-take c.loop-c.c-index c.args.text.now)) in
    omega (arith, small, c.loop-c.invariant.1)

pub loop-c-preserved : goal.loop-c-preserved
loop-c-preserved c =
    let text = c.args.text.now in
    let digit : is_ascii_digit (get_or c.args.text.now c.loop-c.c-index 0) ≡ true = search rules in
    let range = digit_bounds (get_or c.args.text.now c.loop-c.c-index 0) digit in
    let next = one_more text c.loop-c.c-index c.loop-c.value (get_or c.args.text.now c.loop-c.c-index 0) (omega arith) (omega arith) c.loop-c.invariant.0 c.loop-c.invariant.1 (search rules) (omega arith) (omega arith) in
    (next.all, omega (arith, next.value))

pub returns-clause-bound : goal.returns-clause-bound
returns-clause-bound c =
    let small = value_lt (take c.loop-c.c-index c.args.text.now) c.loop-c.invariant.0 (omega (arith, length-take c.loop-c.c-index c.args.text.now)) in
    omega (arith, small, c.loop-c.invariant.1)
