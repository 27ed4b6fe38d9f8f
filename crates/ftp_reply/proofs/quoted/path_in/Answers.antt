use Rattle.ftp_reply.proofs.QuotedLemmas.{reads_more, reads_end}
use Rattle.std.proofs.Common.{◌≡◌, ◌++◌, ◌∷◌, []}
use Rattle.ftp_reply.proofs.quoted.path_in.Goals as goal

pub loop-octet-preserved : goal.loop-octet-preserved
loop-octet-preserved c =
    let pushed : c.push.new.self.items ≡ c.loop-octet.path.items ++ c.in-Octet.octet ∷ [] = c.push.ensures.items in
    rw pushed (reads_more c.args.text.now c.loop-octet.path.items c.loop-octet.rest.now c.in-Octet.octet c.in-Octet.behind.now c.in-Octet.ensures c.loop-octet.invariant)

pub returns-in-End-clause-some : goal.returns-in-End-clause-some
returns-in-End-clause-some c =
    let end = c.in-End.ensures in
    (end.0, reads_end c.args.text.now c.loop-octet.path.items c.loop-octet.rest.now end.0 c.loop-octet.invariant end.1)
