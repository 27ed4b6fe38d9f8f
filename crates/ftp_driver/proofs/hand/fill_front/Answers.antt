use Rattle.ftp_ports.specs.Machine.{Progressing}
use Rattle.ftp_driver.proofs.Words.{held, subst, sym, take-append-le, with_given}
use Rattle.ftp_driver.proofs.hand.fill_front.Goals as goal

pub returns-clause-progresses : goal.returns-clause-progresses
returns-clause-progresses g c channel is_open =
    let here = g.K.EndCalls.here in
    let fill = c.fill in
    subst (λ l. Progressing g.K.EndCalls.machine (held (here c.args.end.now) channel) (held (here fill.new.end) (with_given l fill.result.rest channel)))
    (sym (take-append-le fill.result.count fill.new.room c.split_at_mut-front.result.1.now fill.ensures.within)) (fill.ensures.progresses channel is_open)
