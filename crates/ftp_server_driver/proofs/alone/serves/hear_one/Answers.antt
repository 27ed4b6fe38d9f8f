use Rattle.std.proofs.Common.{ap, subst, take, ◌∙◌, arith}
use Rattle.std.proofs.lemmas.List.{take-take}
use Rattle.ftp_server_model.specs.Far.{HearsByReading}
use Rattle.ftp_server_driver.proofs.alone.serves.hear_one.Goals as goal

pub returns-clause-took : goal.returns-clause-took
returns-clause-took g c = λ read is_read.
    subst (λ octets. HearsByReading read octets (g.F.Far.server c.args.server.now) (g.F.Far.server c.hear.new.self))
    (ap (take c.hear.result) c.split_at.ensures.front
    ∙ take-take c.hear.result c.min.result c.args.unheard.now (omega (arith, c.hear.ensures.within, c.split_at.ensures.front_len)))
    (c.hear.ensures.took read is_read)
