use Rattle.std.proofs.Common.{◌≤◌, ◌-◌, ◌++◌, take, drop, length, ap, ◌∙◌, arith}
use Rattle.std.proofs.lemmas.List.{take_rest}
use Rattle.ftp_path.proofs.KeyLemmas.{moved-shorter, moved-kept}
use Rattle.ftp_path.proofs.path.Path.moved.Goals as goal

pub slice_bounds-extend_from_slice-count : goal.slice_bounds-extend_from_slice-count
slice_bounds-extend_from_slice-count g c =
    moved-shorter _ _ _ c.key-from.ensures.kept c.key-to.ensures.kept c.key-path.ensures.kept _ _ _ c.key-from.ensures.names c.key-to.ensures.names c.key-path.ensures.names c.requires.within

pub slice_bounds-extend_from_slice-start : goal.slice_bounds-extend_from_slice-start
slice_bounds-extend_from_slice-start g c =
    let shorter : length c.key-from.result.now ≤ length c.key-path.result.now =
    moved-shorter _ _ _ c.key-from.ensures.kept c.key-to.ensures.kept c.key-path.ensures.kept _ _ _ c.key-from.ensures.names c.key-to.ensures.names c.key-path.ensures.names c.requires.within in
    omega arith

pub invariant_of-result : goal.invariant_of-result
invariant_of-result g c =
    (moved-kept _ _ _ c.key-from.ensures.kept c.key-to.ensures.kept c.key-path.ensures.kept _ _ _ c.key-from.ensures.names c.key-to.ensures.names c.key-path.ensures.names c.requires.within
    c.requires.fits _ (c.in_ok-extend_from_slice.ensures.items ∙ ap (λ t. t ++ take (length c.key-path.result.now - length c.key-from.result.now) (drop (length c.key-from.result.now) c.key-path.result.now)) c.in_ok-octets.ensures.items ∙ ap (λ t. c.key-to.result.now ++ t) (take_rest c.key-path.result.now (length c.key-from.result.now)))).0

pub returns : goal.returns
returns g c =
    (moved-kept _ _ _ c.key-from.ensures.kept c.key-to.ensures.kept c.key-path.ensures.kept _ _ _ c.key-from.ensures.names c.key-to.ensures.names c.key-path.ensures.names c.requires.within
    c.requires.fits _ (c.in_ok-extend_from_slice.ensures.items ∙ ap (λ t. t ++ take (length c.key-path.result.now - length c.key-from.result.now) (drop (length c.key-from.result.now) c.key-path.result.now)) c.in_ok-octets.ensures.items ∙ ap (λ t. c.key-to.result.now ++ t) (take_rest c.key-path.result.now (length c.key-from.result.now)))).1
