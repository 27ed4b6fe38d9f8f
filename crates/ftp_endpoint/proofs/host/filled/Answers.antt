use Rattle.std.proofs.Common.{[], ◌++◌, ◌-◌, ◌∙◌, length, replicate, ap, arith}
use Rattle.ftp_endpoint.specs.Host.{ReadsSome}
use Rattle.ftp_endpoint.proofs.HostLemmas.{from_new, is_filled, none_filled_by}
use Rattle.ftp_endpoint.proofs.OutcomeLemmas.{empty_is, not_empty}
use Rattle.ftp_endpoint.proofs.host.filled.Goals as goal

pub returns-then-not-is_empty-clause-none : goal.returns-then-not-is_empty-clause-none
returns-then-not-is_empty-clause-none c =
    let reads : ReadsSome c.args.behind.now [] c.some_groups.new.out.items c.in_ok-rest.rest.now = from_new _ _ _ _ c.new-back.ensures c.in_ok-rest.ensures.some in
    none_filled_by c.args.front.items c.args.behind.now c.some_groups.new.out.items c.in_ok-rest.rest.now reads (λ e _. not_empty c.in_ok-rest.rest.now _ c.is_empty.ensures c.if-not-is_empty.true e)

pub returns-then-len-ge8-clause-none : goal.returns-then-len-ge8-clause-none
returns-then-len-ge8-clause-none c =
    let reads : ReadsSome c.args.behind.now [] c.some_groups.new.out.items c.in_ok-rest.rest.now = from_new _ _ _ _ c.new-back.ensures c.in_ok-rest.ensures.some in
    none_filled_by c.args.front.items c.args.behind.now c.some_groups.new.out.items c.in_ok-rest.rest.now reads (λ _ short. omega (arith, short, c.len.ensures.value, c.len-2.ensures.value, c.if-len-ge8.true))

pub returns-clause-some : goal.returns-clause-some
returns-clause-some c =
    let reads : ReadsSome c.args.behind.now [] c.some_groups.new.out.items c.in_ok-rest.rest.now = from_new _ _ _ _ c.new-back.ensures c.in_ok-rest.ensures.some in
    let end = empty_is c.in_ok-rest.rest.now _ c.is_empty.ensures c.if-not-is_empty.false in
    is_filled c.args.front.items c.args.behind.now c.some_groups.new.out.items c.in_ok-rest.rest.now c.fill.result.items reads end (omega (arith, c.len.ensures.value, c.len-2.ensures.value, c.if-len-ge8.false)) (c.fill.ensures ∙ ap (λ x. c.args.front.items ++ (replicate (8 - length c.args.front.items - length x) 0 ++ x)) c.as_slice.ensures.value)
