use Rattle.ftp_server_calls.specs.one.Cues.{cue_of, gift_of}
use Rattle.ftp_server_calls.proofs.several.LentLemmas.{lends}
use Rattle.ftp_server_calls.specs.several.Lent.{InSlot}
use Rattle.ftp_server_calls.specs.several.Slots.{in_slot_of}
use Rattle.ftp_server_calls.proofs.several.sessions.lent.Goals as goal

pub returns-clause-lent : goal.returns-clause-lent
returns-clause-lent g c =
    let server = g.F.Far.server in let table = g.T.Tree.table in let failures = g.T.Tree.failures in
    let old : InSlot = in_slot_of server c.args.in_slot.now in
    let new : InSlot = record { server = server c.give_back-in_slot.new.self; stood = c.give_back-in_slot.result } in
    lends (cue_of c.args.cue.now) (gift_of c.make_into-gift.result) old new (server c.lend.new.self) (server c.make_into-gift.new.server)
    (table c.args.tree.now) (table c.lend.new.tree) (table c.give_back-in_slot.new.tree)
    (failures c.args.tree.now) (failures c.lend.new.tree) (failures c.give_back-in_slot.new.tree)
    c.lend.ensures.taken c.make_into-gift.ensures c.lend.ensures.left c.lend.ensures.failures c.give_back-in_slot.ensures.taken c.give_back-in_slot.ensures.stands
    c.give_back-in_slot.ensures.left c.give_back-in_slot.ensures.failures
