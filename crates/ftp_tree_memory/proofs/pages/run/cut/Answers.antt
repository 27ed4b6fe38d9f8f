use Rattle.std.proofs.Common.{◌≡◌, ◌<◌, ◌≤◌, ◌+◌, ◌*◌, ◌/◌, ◌%◌, ◌∙◌, suc, sym, ap, subst, set, take, get_or, length, arith, min, Vec, ℕ, List}
use Rattle.std.specs.List.{concat}
use Rattle.std.proofs.lemmas.List.{take_all, length-take, get_or-take}
use Rattle.ftp_tree_memory.specs.pages.Pages.{IsPaged, page_octets}
use Rattle.ftp_tree_memory.proofs.pages.PageLemmas.{IsCut, cut-at, cut-behind}
use Rattle.ftp_tree_memory.proofs.pages.run.cut.Goals as goal

-- a cut in a page that is there
cut-there : {A : Type 0} (xs front : List (Vec ℕ A)) (count : ℕ) (page new : Vec ℕ A) → front ≡ take (count / 4096 + 1) xs → count / 4096 < length front → page ≡ get_or front (count / 4096) page
    → IsPaged (page_octets xs) → new.items ≡ take (count % 4096) page.items → count ≤ length (concat (page_octets xs)) → IsCut (set front (count / 4096) new) (take count (concat (page_octets xs)))
cut-there xs front count page new front_is within there paged cut most =
    let k = count / 4096 in
    let r = count % 4096 in
    let one_more : k + 1 ≡ suc k = omega arith in
    let front_suc : front ≡ take (suc k) xs = front_is ∙ ap (λ n. take n xs) one_more in
    let counted : length front ≡ min (suc k) (length xs) = ap length front_suc ∙ length-take (suc k) xs in
    let place : page ≡ get_or xs k page = there ∙ ap (λ l. get_or l k page) front_suc ∙ get_or-take (suc k) xs k page (omega arith) in
    let whole : 4096 * k + r ≡ count = omega arith in
    let done = cut-at xs k r page new (omega arith) place paged cut (omega arith) (omega arith) in
    record {
      paged = subst (λ l. IsPaged (page_octets (set l k new))) (sym front_suc) done.paged;
      is = ap (λ l. concat (page_octets (set l k new))) front_suc ∙ done.is ∙ ap (λ n. take n (concat (page_octets xs))) whole;
    }

pub returns-then-last-len-clause-paged : goal.returns-then-last-len-clause-paged
returns-then-last-len-clause-paged g c =
    (cut-there c.args.pages.now.items c.truncate.new.self.items c.args.count c.index_mut.result.now c.truncate-then-last-len.new.self c.truncate.ensures.items
    (omega (arith, c.truncate.new.self.ok.0, c.len.ensures, c.if-last-len.true)) c.index_mut.ensures.value c.requires.paged c.truncate-then-last-len.ensures.items c.requires.most).paged

pub returns-then-last-len-clause-front : goal.returns-then-last-len-clause-front
returns-then-last-len-clause-front g c =
    (cut-there c.args.pages.now.items c.truncate.new.self.items c.args.count c.index_mut.result.now c.truncate-then-last-len.new.self c.truncate.ensures.items
    (omega (arith, c.truncate.new.self.ok.0, c.len.ensures, c.if-last-len.true)) c.index_mut.ensures.value c.requires.paged c.truncate-then-last-len.ensures.items c.requires.most).is

pub returns-else-last-len-clause-front : goal.returns-else-last-len-clause-front
returns-else-last-len-clause-front g c =
    let xs = c.args.pages.now.items in
    let count = c.args.count in
    let kept : length c.truncate.new.self.items ≡ min (count / 4096 + 1) (length xs) = ap length c.truncate.ensures.items ∙ length-take (count / 4096 + 1) xs in
    let behind : length xs ≤ count / 4096 = omega (arith, c.truncate.new.self.ok.0, c.len.ensures, c.if-last-len.false) in
    let whole : 4096 * (count / 4096) + count % 4096 ≡ count = omega arith in
    let most : 4096 * (count / 4096) + count % 4096 ≤ length (concat (page_octets xs)) = omega (arith, c.requires.most) in
    ap (λ l. concat (page_octets l)) (c.truncate.ensures.items ∙ take_all (count / 4096 + 1) xs (omega (arith, behind)))
    ∙ cut-behind xs (count / 4096) (count % 4096) behind c.requires.paged most
    ∙ ap (λ n. take n (concat (page_octets xs))) whole
