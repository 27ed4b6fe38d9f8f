use Rattle.std.proofs.Common.{arith}
use Rattle.ftp_server.proofs.NameLemmas.{holds_little, waiting_short}
use Rattle.ftp_server.proofs.server.Server.held.Goals as goal

pub returns-clause-little : goal.returns-clause-little
returns-clause-little g c =
    let s = c.args.self.now in
    holds_little s.session.connection s.output c.len.result c.unfinished.result c.waiting_len-waiting.result c.session_len.result c.heard_len.result c.heard_len.ensures.short c.len.ensures.len
    c.len.ensures.within s.room c.unfinished.ensures.short (omega (arith, c.waiting_len-waiting.ensures, waiting_short s.waiting s.paths))
    c.session_len.ensures.short c.session_len.ensures.free
