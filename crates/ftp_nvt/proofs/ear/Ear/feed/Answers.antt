use Rattle.std.proofs.Common.{arith, length, [], ◌+◌, ◌≤◌, ◌∙◌, ap, sym}
use Rattle.ftp_nvt.specs.Ear.{event_list, lent_line}
use Rattle.ftp_nvt.proofs.EarLemmas.{Hears-rest, Hears-as}
use Rattle.ftp_nvt.proofs.ear.Ear.feed.Goals as goal

pub loop-taken-preserved : goal.loop-taken-preserved
loop-taken-preserved g c =
    let loop = c.loop-taken in
    let bite = c.bite-heard in
    let quiet = Hears-as loop.self bite.new.self _ (event_list bite.result.event (lent_line bite.new.self)) [] (sym (ap (λ e. event_list e (lent_line bite.new.self)) c.in-More.is)) bite.ensures.hears in
    let within : loop.taken + bite.result.taken ≤ length c.args.piece.now = omega (arith, bite.ensures.within, c.split_at.ensures.back_len, loop.invariant.0) in
    (within, Hears-rest c.args.self.now loop.self bite.new.self c.args.piece.now c.split_at.result.1.now loop.taken bite.result.taken [] [] c.split_at.ensures.back loop.invariant.1 quiet)

pub returns-in_default : goal.returns-in_default
returns-in_default g c =
    let loop = c.loop-taken in
    let bite = c.bite-heard in
    let added = event_list bite.result.event (lent_line bite.new.self) in
    record {
      within = omega (arith, bite.ensures.within, c.split_at.ensures.back_len, loop.invariant.0);
      hears = Hears-rest c.args.self.now loop.self bite.new.self c.args.piece.now c.split_at.result.1.now loop.taken bite.result.taken [] added c.split_at.ensures.back loop.invariant.1 bite.ensures.hears;
      some = λ some. omega (arith, bite.ensures.some);
      all = λ more. absurd (c.in_default.not-More more);
      room = bite.new.self.line.room ∙ bite.ensures.hears.limit ∙ loop.invariant.1.limit ∙ sym c.args.self.now.line.room;
    }
