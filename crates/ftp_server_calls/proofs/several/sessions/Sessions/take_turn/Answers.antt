use Rattle.std.proofs.Common.{◌≡◌, ◌≤◌, ◌∙◌, ap, length, option_map, vec_len, arith, rules}
use Rattle.std.proofs.lemmas.Option.{slice_get-map, slice_get_past}
use Rattle.ftp_server_calls.proofs.one.PlayLemmas.{kept_on}
use Rattle.ftp_server_calls.specs.one.Cues.{gift_of, gifts_of}
use Rattle.ftp_server_calls.specs.declared.one.cue.Gift.TheVariants as Gifts
use Rattle.ftp_server_calls.proofs.several.PlayLemmas.{nobody_takes, somebody_takes}
use Rattle.ftp_server_calls.specs.several.Playing.{turn_of}
use Rattle.ftp_server_calls.specs.several.Slots.{in_slot_of, slots_seen}
use Rattle.ftp_server_calls.proofs.several.sessions.Sessions.take_turn.Goals as goal

pub returns-then-turn-len-clause-next : goal.returns-then-turn-len-clause-next
returns-then-turn-len-clause-next g c =
    let server = g.F.Far.server in let table = g.T.Tree.table in let failures = g.T.Tree.failures in
    let old = c.args.self.now in
    let long : length old.slots.items ≡ vec_len old.slots = search rules in
    let past : length old.slots.items ≤ c.args.turn.now.slot = omega (arith, long, c.len.ensures, c.if-turn-len.true) in
    nobody_takes (turn_of c.args.turn.now) (slots_seen table failures server old) (gifts_of c.args.gifts.now.items) (gifts_of c.keep.new.gifts.items)
    (slice_get-map (in_slot_of server) old.slots.items c.args.turn.now.slot ∙ ap (option_map (in_slot_of server)) (slice_get_past old.slots.items c.args.turn.now.slot past))
    (kept_on c.args.gifts.now.items c.reserve.new.self.items c.keep.new.gifts.items Gifts.Nothing c.reserve.ensures.items c.keep.ensures)

pub returns-clause-next : goal.returns-clause-next
returns-clause-next g c =
    let server = g.F.Far.server in let table = g.T.Tree.table in let failures = g.T.Tree.failures in
    somebody_takes (turn_of c.args.turn.now) (gift_of c.in_ok-gift.gift) (slots_seen table failures server c.args.self.now) (slots_seen table failures server c.call.new.self)
    (gifts_of c.args.gifts.now.items) (gifts_of c.keep-2.new.gifts.items) c.told-before.result c.told.result c.is_same.result c.in_ok-gift.ensures.turned
    (kept_on c.args.gifts.now.items c.reserve.new.self.items c.keep-2.new.gifts.items c.in_ok-gift.gift c.reserve.ensures.items c.keep-2.ensures)
    c.told-before.ensures c.told.ensures (g.met.T.SureTree.never c.args.self.now.tree) (g.met.T.SureTree.never c.call.new.self.tree) c.is_same.ensures.same c.is_same.ensures.moved
