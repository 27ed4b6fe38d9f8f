use Rattle.std.proofs.Common.{arith}
use Rattle.ftp_ports.specs.Machine.{Progressing}
use Rattle.ftp_driver.proofs.Words.{[], fills, held, idles_same, channel_at, refl, side_of, progresses_lead, subst, sym}
use Rattle.ftp_driver.proofs.data.Data.fill.Goals as goal

pub returns-then-has_unwritten-clause-quiet : goal.returns-then-has_unwritten-clause-quiet
returns-then-has_unwritten-clause-quiet g c asked = idles_same g.K.EndCalls.machine _ _ refl (g.K.EndCalls.here c.args.end.now)

pub returns-then-has_unwritten-clause-progresses : goal.returns-then-has_unwritten-clause-progresses
returns-then-has_unwritten-clause-progresses g c all asked = absurd (let some = c.has_unwritten.ensures.some c.if-has_unwritten.true in omega (arith, some, all))

pub returns-clause-progresses : goal.returns-clause-progresses
returns-clause-progresses g c all asked =
    let old = c.args.self.now in
    let channel = channel_at g.S.Read.remaining g.S.Write.contents asked old [] in
    let front = c.fill_front-given in
    subst (λ l. Progressing g.K.EndCalls.machine (held (g.K.EndCalls.here c.args.end.now) channel) (held (g.K.EndCalls.here front.new.end) l))
    (sym (fills g.S.Read.remaining g.S.Write.contents old.connection c.took.new.self asked old.room front.new.room front.result.count front.result.rest c.took.ensures.stream
    all c.took.ensures.at c.took.ensures.end c.took.ensures.rest c.took.ensures.fate)) (front.ensures.progresses channel c.requires.ready)

pub returns-clause-quiet : goal.returns-clause-quiet
returns-clause-quiet g c asked left unheard written = progresses_lead _ _ (returns-clause-progresses g c (c.has_unwritten.ensures.none c.if-has_unwritten.false) asked left unheard written)
