use Rattle.std.proofs.Common.{◌≡◌, ◌-◌, ◌*◌, ◌∙◌, ap, codes, drop, take}
use Rattle.std.proofs.lemmas.List.{drop_min, take_min}
use Rattle.ftp_direct.proofs.list_line.month_word.Goals as goal

pub returns : goal.returns
returns c =
    let months = codes "JanFebMarAprMayJunJulAugSepOctNovDec" in
    let rest : c.split_at.result.1.now ≡ drop (3 * (c.args.month - 1)) months = rw (c.split_at.ensures.back, c.min.ensures, c.from-start.ensures, c.saturating_sub.ensures) (drop_min (3 * (c.args.month - 1)) months) in
    c.split_at-2.ensures.front ∙ ap (λ n. take n c.split_at.result.1.now) c.min-2.ensures ∙ take_min 3 c.split_at.result.1.now ∙ ap (take 3) rest
