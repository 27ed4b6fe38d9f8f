use Rattle.std.proofs.Common.{◌<◌, length, refl, subst, sym, take}
use Rattle.std.proofs.lemmas.List.{length-take-le}
use Rattle.ftp_driver.proofs.Words.{hears_first}
use Rattle.ftp_driver.proofs.drive.Drive.hear.Goals as goal

pub returns-clause-progresses : goal.returns-clause-progresses
returns-clause-progresses g c =
    let taken = c.hear-taken.result in
    let here = g.K.EndCalls.here in
    let some = subst (λ l. 0 < length l) (sym c.unheard.ensures) c.requires.some in
    let took = c.hear-taken.ensures.some c.requires.may some in
    hears_first g.K.EndCalls.machine _ _ taken
    (subst (λ l. g.K.EndCalls.machine.Hears (take taken l) l (here c.args.self.now.end.now) (here c.hear-taken.new.end)) c.unheard.ensures c.hear-taken.ensures.took)
    (c.see.ensures (g.P.Ports.history c.args.self.now.ports.now)) c.requires.listening c.heard.ensures.unheard c.heard.ensures.left c.heard.ensures.written
    (subst (λ l. 0 < length (take taken l)) c.unheard.ensures (subst (λ n. 0 < n) (sym (length-take-le taken c.unheard.result.now c.hear-taken.ensures.within)) took))
