use Rattle.std.proofs.Common.{[], ◌∷◌, inr, refl, subst}
use Rattle.ftp_driver.proofs.Words.{Connected, Connects, NotConnected, has_none}
use Rattle.ftp_driver.proofs.drive.Drive.connect.Goals as goal

pub returns-in-Some-clause-progresses : goal.returns-in-Some-clause-progresses
returns-in-Some-clause-progresses g c =
    c.opened.ensures.progresses (g.P.Ports.history c.args.self.now.ports.now) (Connected c.args.endpoint (g.S.Read.remaining c.in-Some.stream) (g.S.Write.contents c.in-Some.stream))
    (subst (λ r. Connects g.S.Read.remaining g.S.Write.contents c.args.endpoint r (g.P.Ports.history c.args.self.now.ports.now) (g.P.Ports.history c.connect.new.self)) c.in-Some.is c.connect.ensures)
    (inr (c.args.endpoint, refl, refl)) c.requires.wants

pub returns-in-None-clause-progresses : goal.returns-in-None-clause-progresses
returns-in-None-clause-progresses g c =
    has_none g.K.EndCalls.machine _ _ _ (NotConnected c.args.endpoint ∷ [])
    (subst (λ r. Connects g.S.Read.remaining g.S.Write.contents c.args.endpoint r (g.P.Ports.history c.args.self.now.ports.now) (g.P.Ports.history c.connect.new.self)) c.in-None.is c.connect.ensures)
    c.data_refused.ensures c.requires.wants c.requires.flushed
