use Rattle.std.proofs.Common.{◌≡◌, ◌-◌, suc, length, arith}
use Rattle.std.proofs.lemmas.Bool.{ltb-true, lt-ltb}
use Rattle.ftp_tree_memory.proofs.pages.PageLemmas.{room-at, at-room}
use Rattle.ftp_tree_memory.proofs.pages.run.has_room.Goals as goal

pub returns-then-count-ne0 : goal.returns-then-count-ne0
returns-then-count-ne0 g c =
    let page = c.index-pages-count.result in
    let last : length c.args.pages.now ≡ suc (length c.args.pages.now - 1) = omega (arith, c.if-count-ne0.true) in
    let long : c.len.result ≡ length page.items = omega (arith, page.ok.0, c.len.ensures) in (
      λ short. at-room c.args.pages.now _ page last c.index-pages-count.is (omega (arith, ltb-true c.len.result 4096 short, long)),
      λ room. let short = room-at c.args.pages.now _ page last c.index-pages-count.is room in lt-ltb c.len.result 4096 (omega (arith, short, long)),
    )
