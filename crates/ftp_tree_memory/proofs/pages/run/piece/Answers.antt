use Rattle.std.proofs.Common.{◌≡◌, ◌<◌, ◌≤◌, ◌+◌, ◌*◌, ◌-◌, ◌/◌, ◌%◌, ◌∙◌, sym, ap, take, drop, length, arith}
use Rattle.std.specs.List.{concat}
use Rattle.std.proofs.lemmas.List.{take_rest, length-take}
use Rattle.ftp_tree_memory.specs.pages.Pages.{page_octets}
use Rattle.ftp_tree_memory.proofs.pages.PageLemmas.{paged-le, past-page, piece-front}
use Rattle.ftp_tree_memory.proofs.pages.run.piece.Goals as goal

pub returns-then-number-pages-clause-some : goal.returns-then-number-pages-clause-some
returns-then-number-pages-clause-some g c some before = absurd (omega (arith, paged-le c.args.pages.now c.requires, c.if-number-pages.true, before))

pub returns-then-place-page-clause-some : goal.returns-then-place-page-clause-some
returns-then-place-page-clause-some g c some before =
    let page = c.index-pages-number.result in
    let place = c.args.at % 4096 in
    let low : place < 4096 = omega arith in
    let long : length page.items ≤ place = omega (arith, ap length c.as_slice-page.ensures.value, c.if-place-page.true) in
    let all = past-page c.args.pages.now (c.args.at / 4096) place page c.if-number-pages.false c.index-pages-number.is c.requires long low in
    absurd (omega (arith, all, before))

pub returns-clause-octets : goal.returns-clause-octets
returns-clause-octets g c =
    let page = c.index-pages-number.result in
    let place = c.args.at % 4096 in
    let n = c.min.result in
    let lent = take (length c.as_slice-page.result.now - place) (drop place c.as_slice-page.result.now) in
    let rest : lent ≡ drop place page.items = take_rest c.as_slice-page.result.now place ∙ ap (drop place) c.as_slice-page.ensures.value in
    let few : n ≤ length (drop place page.items) = omega (arith, c.min.ensures, ap length rest) in
    let count : length (take n lent) ≡ n = omega (arith, length-take n lent, ap length rest, few) in
    let within : place ≤ length page.items = omega (arith, ap length c.as_slice-page.ensures.value, c.if-place-page.false) in
    let whole : 4096 * (c.args.at / 4096) + place ≡ c.args.at = omega arith in
    ap (take n) rest
    ∙ sym (piece-front c.args.pages.now (c.args.at / 4096) place n page c.if-number-pages.false c.index-pages-number.is c.requires within few)
    ∙ ap (λ k. take n (drop k (concat (page_octets c.args.pages.now)))) whole
    ∙ ap (λ k. take k (drop c.args.at (concat (page_octets c.args.pages.now)))) (sym count)
