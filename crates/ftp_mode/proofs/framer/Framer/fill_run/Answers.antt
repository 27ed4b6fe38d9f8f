use Rattle.std.proofs.Common.{◌≡◌, ◌++◌, ◌∙◌}
use Rattle.std.specs.Result.{IsOk}
use Rattle.std.specs.Prelude.{OnOk, Result, Ok, Err}
use Rattle.ftp_mode.proofs.RunLemmas.{fill_takes}
use Rattle.ftp_mode.proofs.framer.Framer.fill_run.Goals as goal

is_ok : {A E : Type 0} {P : Type 0} (r : Result A E) → OnOk r P → IsOk r → P
is_ok (Ok a) h o = h
is_ok (Err e) h o = absurd (cc)

pub returns : goal.returns
returns c =
    let f = c.args.self.now in
    let g = c.count.new.self in
    let xs = c.args.piece.now in
    let room = c.requires.fills.room in
    let block : g.block.items ≡ f.block.items ++ xs = c.count.ensures.block ∙ is_ok c.try_extend_from_slice.result c.try_extend_from_slice.ensures.ok (c.try_extend_from_slice.ensures.variant.1 room) in
    fill_takes f g xs c.requires.clear c.requires.fills c.count.ensures.fits c.count.ensures.stage block c.count.ensures.marks c.count.ensures.owes
