use Rattle.std.proofs.Common.{◌≡◌, [], ◌∷◌, ◌∙◌, ap}
use Rattle.ftp_endpoint.specs.Host.{NoneFilled, NoneWritten, ReadsSome}
use Rattle.ftp_endpoint.proofs.HostLemmas.{from_new, none_short, none_whole}
use Rattle.ftp_endpoint.proofs.OutcomeLemmas.{empty_is, none_weaker}
use Rattle.ftp_endpoint.proofs.host.eight_groups.Goals as goal

pub returns-else-len-eq8-clause-none : goal.returns-else-len-eq8-clause-none
returns-else-len-eq8-clause-none c =
    let reads : ReadsSome c.args.text.now [] c.some_groups.new.out.items c.in_ok-rest.rest.now = from_new _ _ _ _ c.new-front.ensures c.in_ok-rest.ensures.some in
    let end = empty_is c.in_ok-rest.rest.now _ c.is_empty.ensures c.if-is_empty.true in
    none_whole c.args.text.now c.some_groups.new.out.items c.in_ok-rest.rest.now reads end (λ e. c.if-len-eq8.false (c.len.ensures.value ∙ e))

pub returns-clause-none : goal.returns-clause-none
returns-clause-none c =
    let reads : ReadsSome c.args.text.now [] c.some_groups.new.out.items c.in_ok-rest.rest.now = from_new _ _ _ _ c.new-front.ensures c.in_ok-rest.ensures.some in
    let end : c.in_ok-rest.rest.now ≡ 58 ∷ 58 ∷ c.in_ok-behind-2.behind.now =
    c.in_ok-behind.ensures.some ∙ ap (λ x. 58 ∷ x) c.in_ok-behind-2.ensures.some in
    let none : NoneFilled c.some_groups.new.out.items c.in_ok-behind-2.behind.now → NoneWritten c.args.text.now = λ inner.
    none_short c.args.text.now c.some_groups.new.out.items c.in_ok-rest.rest.now c.in_ok-behind-2.behind.now reads end inner in
    none_weaker _ _ _ c.filled.ensures.none none
