use Rattle.std.proofs.Common.{◌≡◌, ◌<◌, ◌≤◌, ◌+◌, ◌-◌, ◌∙◌, [], ◌++◌, sym, take, get_or, length, arith, Vec, ℕ, List}
use Rattle.std.proofs.lemmas.List.{append-nil, length-take}
use Rattle.ftp_tree_memory.specs.pages.Pages.{IsPaged, HasRoom, page_octets}
use Rattle.ftp_tree_memory.proofs.pages.PageLemmas.{IsFilled, room-at, some-room, filled}
use Rattle.ftp_tree_memory.proofs.pages.run.fill_page.Goals as goal
use Rattle.std.proofs.Common.{set}

short-page : {A : Type 0} (pages : Vec (Vec ℕ A) A) (page : Vec ℕ A) (last : ℕ) → last ≡ pages.len → HasRoom (page_octets pages.items) → page ≡ get_or pages.items (last - 1) page → length page.items < 4096
short-page pages page last count room there =
    let some = some-room pages.items room in
    room-at pages.items (last - 1) page (omega (arith, pages.ok.0)) there room

-- some octets behind those of the last page
put-last : {A : Type 0} (pages : Vec (Vec ℕ A) A) (page new : Vec ℕ A) (last : ℕ) (more : List ℕ) → last ≡ pages.len → HasRoom (page_octets pages.items) → page ≡ get_or pages.items (last - 1) page
    → IsPaged (page_octets pages.items) → new.items ≡ page.items ++ more → length page.items + length more ≤ 4096 → IsFilled pages.items (set pages.items (last - 1) new) more
put-last pages page new last more count room there paged put fits =
    let some = some-room pages.items room in
    filled pages.items (last - 1) page new more (omega (arith, pages.ok.0)) there paged put fits

pub overflow_sub-len : goal.overflow_sub-len
overflow_sub-len g c =
    let short = short-page c.args.pages.now c.index_mut-page.result.now c.len-last.result c.len-last.ensures c.requires.room c.index_mut-page.ensures.value in
    omega (arith, short, c.index_mut-page.result.now.ok.0, c.len.ensures)

pub returns-in-Ok-clause-paged : goal.returns-in-Ok-clause-paged
returns-in-Ok-clause-paged g c =
    let short = short-page c.args.pages.now c.index_mut-page.result.now c.len-last.result c.len-last.ensures c.requires.room c.index_mut-page.ensures.value in
    let few = length-take c.min-count.result c.args.octets.now in
    (put-last c.args.pages.now c.index_mut-page.result.now c.extend_from_slice.new.self c.len-last.result (take c.min-count.result c.args.octets.now) c.len-last.ensures c.requires.room
    c.index_mut-page.ensures.value c.requires.paged c.in-Ok.ensures.items (omega (arith, short, few, c.min-count.ensures, c.len.ensures, c.index_mut-page.result.now.ok.0))).paged

pub returns-in-Ok-clause-ok : goal.returns-in-Ok-clause-ok
returns-in-Ok-clause-ok g c =
    let short = short-page c.args.pages.now c.index_mut-page.result.now c.len-last.result c.len-last.ensures c.requires.room c.index_mut-page.ensures.value in
    let few = length-take c.min-count.result c.args.octets.now in
    (put-last c.args.pages.now c.index_mut-page.result.now c.extend_from_slice.new.self c.len-last.result (take c.min-count.result c.args.octets.now) c.len-last.ensures c.requires.room
    c.index_mut-page.ensures.value c.requires.paged c.in-Ok.ensures.items (omega (arith, short, few, c.min-count.ensures, c.len.ensures, c.index_mut-page.result.now.ok.0))).octets

pub returns-in-Ok-clause-some : goal.returns-in-Ok-clause-some
returns-in-Ok-clause-some g c =
    let short = short-page c.args.pages.now c.index_mut-page.result.now c.len-last.result c.len-last.ensures c.requires.room c.index_mut-page.ensures.value in
    (omega (arith, short, c.min-count.ensures, c.len.ensures, c.requires.some, c.index_mut-page.result.now.ok.0), omega (arith, c.min-count.ensures))

pub returns-in-Err-clause-paged : goal.returns-in-Err-clause-paged
returns-in-Err-clause-paged g c =
    let short = short-page c.args.pages.now c.index_mut-page.result.now c.len-last.result c.len-last.ensures c.requires.room c.index_mut-page.ensures.value in
    (put-last c.args.pages.now c.index_mut-page.result.now c.extend_from_slice.new.self c.len-last.result [] c.len-last.ensures c.requires.room
    c.index_mut-page.ensures.value c.requires.paged (c.in-Err.ensures.items ∙ sym (append-nil _)) (omega (arith, short))).paged

pub returns-in-Err-clause-err : goal.returns-in-Err-clause-err
returns-in-Err-clause-err g c =
    let short = short-page c.args.pages.now c.index_mut-page.result.now c.len-last.result c.len-last.ensures c.requires.room c.index_mut-page.ensures.value in
    (put-last c.args.pages.now c.index_mut-page.result.now c.extend_from_slice.new.self c.len-last.result [] c.len-last.ensures c.requires.room
    c.index_mut-page.ensures.value c.requires.paged (c.in-Err.ensures.items ∙ sym (append-nil _)) (omega (arith, short))).octets
    ∙ append-nil _
