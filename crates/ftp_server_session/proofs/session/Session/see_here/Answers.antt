use Rattle.std.proofs.Common.{subst, IfOk, MatchOption, false, true, ◌≡◌, sym, ap, ◌∙◌}
use Rattle.ftp_path.specs.Path.{Names, fits}
use Rattle.ftp_path.proofs.TextLemmas.{dot-text}
use Rattle.ftp_direct.specs.Direct.{place}
use Rattle.ftp_direct.proofs.ResolveLemmas.{dot_here}
use Rattle.ftp_server_model.specs.Ask.{or_empty}
use Rattle.ftp_server_session.proofs.session.Session.see_here.Goals as goal

pub see-requires-in-None : goal.see-requires-in-None
see-requires-in-None g c = dot-text

pub returns-in-None-clause-found : goal.returns-in-None-clause-found
returns-in-None-clause-found g c =
    let P : Names → Type 0 = λ path. IfOk c.see-in-None.result (λ found. MatchOption found (fits path ≡ false) (λ is. (is ≡ path) × (fits is ≡ true))) in
    let cwd = c.see-in-None.new.self.cwd in
    subst P (dot_here cwd ∙ ap (λ text. place cwd (or_empty text)) (sym c.in-None.is)) c.see-in-None.ensures.found
