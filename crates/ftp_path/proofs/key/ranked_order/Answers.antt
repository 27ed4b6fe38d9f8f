use Rattle.std.proofs.Common.{◌≡◌, refl, rules}
use Rattle.std.specs.Ordering.{nat_cmp}
use Rattle.std.proofs.lemmas.Iterator.{YieldsList-from_slice, YieldsList-from_map}
use Rattle.std.proofs.lemmas.Iterator.Consumers.{YieldsList-at}
use Rattle.std.proofs.lemmas.Iterator.Search.{cmp_from_yields_List}
use Rattle.ftp_path.specs.Kept.{rank}
use Rattle.ftp_path.proofs.key.ranked_order.Goals as goal

pub returns : goal.returns
returns c =
    cmp_from_yields_List (λ x y. y ≡ x) _ nat_cmp _ c.cmp.ensures.ran
    (YieldsList-from_map _ rank (YieldsList-at c.map.ensures.source (YieldsList-from_slice c.args.key.now c.iter.ensures.rest)) c.map.ensures.closure (λ x r q k. search rules))
    (λ it e. YieldsList-at e (YieldsList-from_map _ rank (YieldsList-at c.map-2.ensures.source (YieldsList-from_slice c.args.other.now c.iter-2.ensures.rest)) c.map-2.ensures.closure (λ x r q k. search rules)))
    (λ x y. refl)
