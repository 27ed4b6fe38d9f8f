use Rattle.std.proofs.Common.{sym, subst, drop, take, ◌+◌}
use Rattle.ftp_ports.specs.Carrying.{Sends, told_by}
use Rattle.ftp_ports.proofs.Sending.{sends_some}
use Rattle.ftp_ports.proofs.data.DataConnection.write.Goals as goal

pub returns-clause-sends : goal.returns-clause-sends
returns-clause-sends g c =
    let way = take c.args.self.now.end c.args.room.now in
    let contents = g.S.Write.contents in
    subst (λ s. Sends (told_by contents s) (contents c.write_some.new.stream) (drop c.args.self.now.at way) (drop (c.args.self.now.at + c.in-Ok.count) way)) (sym c.in-Some.is)
    (sends_some _ _ c.args.self.now.at c.args.self.now.end c.in-Ok.count c.args.room.now _
    c.unwritten-unwritten.ensures (rw c.in-Ok.is at c.write_some.ensures.ok))
