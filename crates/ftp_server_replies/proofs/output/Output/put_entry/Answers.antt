use Rattle.std.proofs.Common.{arith}
use Rattle.ftp_server_replies.proofs.ReplyLemmas.{always}
use Rattle.ftp_server_replies.proofs.output.Output.put_entry.Goals as goal

pub returns-clause-octets : goal.returns-clause-octets
returns-clause-octets g c =
    (always c.write_entry_line.result _ _ c.write_entry_line.ensures.ok c.write_entry_line.ensures.err (λ broken. omega (arith, broken.full, c.requires.room, c.requires.few))).octets

pub returns-clause-room : goal.returns-clause-room
returns-clause-room g c =
    let wrote = always c.write_entry_line.result _ _ c.write_entry_line.ensures.ok c.write_entry_line.ensures.err (λ broken. omega (arith, broken.full, c.requires.room, c.requires.few)) in
    omega (arith, wrote.room, c.requires.room, c.requires.few)
