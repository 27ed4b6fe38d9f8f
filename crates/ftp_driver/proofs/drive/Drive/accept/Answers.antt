use Rattle.std.proofs.Common.{[], ◌∷◌, ap, inl, refl}
use Rattle.ftp_ports.specs.Machine.{awaits}
use Rattle.std.specs.Prelude.{not}
use Rattle.ftp_driver.proofs.Words.{Came, NotCame, asks, then_gets, has_none, none_answered, none_came, one_came}
use Rattle.ftp_driver.proofs.drive.Drive.accept.Goals as goal

pub returns-in-Came-clause-gets : goal.returns-in-Came-clause-gets
returns-in-Came-clause-gets g c =
    let came = c.in-Came in
    c.opened.ensures.progresses (g.P.Ports.history c.args.self.now.ports.now) (Came came.host (g.S.Read.remaining came.stream) (g.S.Write.contents came.stream))
    (one_came g.S.Read.remaining g.S.Write.contents _ _ _ c.accept.result came.stream came.host came.is c.accept.ensures) (inl refl) c.requires.wants

pub returns-in-Spoken-clause-gets : goal.returns-in-Spoken-clause-gets
returns-in-Spoken-clause-gets g c =
    then_gets _ _ _ c.heed.result (asks g.K.EndCalls.machine (not (not c.has_unheard-hears.result)) _ _ (ap awaits c.requires.wants)
    (none_answered g.S.Read.remaining g.S.Write.contents _ _ _ c.accept.result c.in-Spoken.is c.accept.ensures)) c.heed.ensures.gets

pub returns-in-Refused-clause-gets : goal.returns-in-Refused-clause-gets
returns-in-Refused-clause-gets g c =
    has_none g.K.EndCalls.machine _ _ _ (NotCame ∷ [])
    (none_came g.S.Read.remaining g.S.Write.contents _ _ _ c.accept.result c.in-Refused.is c.accept.ensures) c.data_refused.ensures c.requires.wants c.requires.flushed
