use Rattle.std.proofs.Common.{◌≡◌, ◌≤◌, length, [], ap, sym, ◌∙◌, arith, length-append, inl, inr}
use Rattle.ftp_mode.specs.Framing.{owed_block}
use Rattle.ftp_mode.proofs.FramingLemmas.{open_block, moved_len}
use Rattle.ftp_mode.proofs.framer.Framer.pour_some.Goals as goal

pub returns-clause-some : goal.returns-clause-some
returns-clause-some c = λ room some.
    let old = c.args.self.now in
    let mid = c.pour_block-made.new.self in
    let new = c.pour_owed.new.self in
    let none : owed_block mid.stage mid.block.items ≡ [] = open_block mid.stage mid.block.items (sym c.is_open.ensures ∙ c.if-not-is_open.false) in
    let mid_fits : c.pour_block-made.result ≤ length c.pour_block-made.new.room = omega (arith, c.pour_block-made.ensures.within.1, c.pour_block-made.auto.room) in
    let new_fits : c.pour_owed.result ≤ length c.pour_owed.new.room = omega (arith, c.pour_owed.ensures.within.1, c.pour_owed.auto.room) in
    let first = moved_len c.args.at c.pour_block-made.result c.args.room.now c.pour_block-made.new.room (owed_block mid.stage mid.block.items) (owed_block old.stage old.block.items)
    (omega arith) mid_fits c.pour_block-made.ensures.text in
    let second = moved_len c.pour_block-made.result c.pour_owed.result c.pour_block-made.new.room c.pour_owed.new.room new.owed.items mid.owed.items
    mid_fits new_fits c.pour_owed.ensures.text in
    let all = length-append (owed_block old.stage old.block.items) old.owed.items in
    elim c.pour_owed.ensures.all [
      | inl empty ↦ omega (arith, first, second, all, ap length none, ap length empty, ap length c.pour_block-made.ensures.owes, some)
      | inr full ↦ omega (arith, full, room)
    ]
