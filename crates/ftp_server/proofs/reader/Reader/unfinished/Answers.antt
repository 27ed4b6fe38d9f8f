use Rattle.std.proofs.Common.{subst, sym, ◌≤◌}
use Rattle.ftp_command.specs.Line.{line_limit}
use Rattle.ftp_server.proofs.ShortLemmas.{unfinished_short}
use Rattle.ftp_server.proofs.reader.Reader.unfinished.Goals as goal

pub returns-clause-short : goal.returns-clause-short
returns-clause-short g c =
    subst (λ n. n ≤ line_limit) (sym c.unfinished.ensures) (unfinished_short c.args.self.now.ear c.args.self.now.limit c.args.self.now.heard)
