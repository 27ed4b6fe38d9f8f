use Rattle.std.proofs.Common.{◌∙◌, subst, sym, take}
use Rattle.ftp_server_driver.specs.alone.Side.{HearsBy, timed}
use Rattle.ftp_server_driver.proofs.alone.serves.ServesEndCallsClocked.hear.Goals as goal

pub returns-then-ends_line-clause-took : goal.returns-then-ends_line-clause-took
returns-then-ends_line-clause-took g c =
    let at = timed g.F.Far.server g.C.Watch.told in
    let heard = c.hear_end in (
      heard.ensures.within.1,
      subst (λ end. HearsBy end (take heard.result c.args.unheard.now) (at c.args.end.now) (at heard.new.end))
          (sym (sym c.ends_line.ensures ∙ c.if-ends_line.true)) heard.ensures.took,
    )
