use Rattle.std.proofs.Common.{◌≡◌, ◌<◌, Some, refl, sym, ap, ◌∙◌, slice_get, length, map, vec_len, arith, rules}
use Rattle.std.proofs.lemmas.Option.{slice_get-get_or}
use Rattle.std.specs.Vec.{with_item}
use Rattle.ftp_server_calls.specs.one.Cues.{cue_of, gift_of}
use Rattle.ftp_server_calls.proofs.several.LentLemmas.{err_both, ok_goes, slot-at, slot-same, slot-set, turned_gives}
use Rattle.ftp_server_calls.specs.several.Lent.{Lent}
use Rattle.ftp_server_calls.specs.several.Slots.{GivesIn, Slots, SlotTurned, in_slot_of, slots_seen}
use Rattle.ftp_server_calls.proofs.several.sessions.Sessions.call.Goals as goal

-- the call is made with the tree of all, and all else stays
turned : goal.returns-clause-turned
turned g c =
    let server = g.F.Far.server in let table = g.T.Tree.table in let failures = g.T.Tree.failures in
    let old = c.args.self.now in
    let sat = c.index_mut-in_slot.result.now in
    let long : length old.slots.items ≡ vec_len old.slots = search rules in
    let within : c.args.slot < length old.slots.items = omega (arith, c.requires, long) in
    let at : slice_get old.slots.items c.args.slot ≡ Some sat =
    slice_get-get_or old.slots.items c.args.slot sat within ∙ ap Some (sym c.index_mut-in_slot.ensures.value) in
    let items = (with_item old.slots c.args.slot c.lent.new.in_slot).items in
    let now : Slots = record { table = table c.lent.new.tree; failures = failures c.lent.new.tree; slots = map (in_slot_of server) items } in
    ok_goes (λ gift. Lent (cue_of c.args.cue.now) (gift_of gift) (in_slot_of server sat) (table old.tree) (failures old.tree) (in_slot_of server c.lent.new.in_slot) (table c.lent.new.tree) (failures c.lent.new.tree))
    (λ gift. SlotTurned (record { slot = c.args.slot; cue = cue_of c.args.cue.now }) (gift_of gift) (slots_seen table failures server old) now) c.lent.result
    (λ gift lent. record {
      before = in_slot_of server sat;
      after = in_slot_of server c.lent.new.in_slot;
      sits = slot-at (in_slot_of server) old.slots.items c.args.slot sat at;
      lent = lent;
      left = slot-set (in_slot_of server) old.slots.items items c.args.slot c.lent.new.in_slot refl;
    })
    c.lent.ensures.lent

pub returns-clause-turned : goal.returns-clause-turned
returns-clause-turned g c = turned g c

pub returns-clause-gives : goal.returns-clause-gives
returns-clause-gives g c =
    let server = g.F.Far.server in let table = g.T.Tree.table in let failures = g.T.Tree.failures in
    let old = c.args.self.now in
    let items = (with_item old.slots c.args.slot c.lent.new.in_slot).items in
    let now : Slots = record { table = table c.lent.new.tree; failures = failures c.lent.new.tree; slots = map (in_slot_of server) items } in
    ok_goes (λ gift. SlotTurned (record { slot = c.args.slot; cue = cue_of c.args.cue.now }) (gift_of gift) (slots_seen table failures server old) now)
    (λ gift. GivesIn (record { slot = c.args.slot; cue = cue_of c.args.cue.now }) (gift_of gift) (slots_seen table failures server old) now) c.lent.result
    (λ gift t. turned_gives (record { slot = c.args.slot; cue = cue_of c.args.cue.now }) (gift_of gift) (slots_seen table failures server old) now t)
    (turned g c)

pub returns-clause-back : goal.returns-clause-back
returns-clause-back g c =
    let server = g.F.Far.server in let table = g.T.Tree.table in let failures = g.T.Tree.failures in
    let old = c.args.self.now in
    let sat = c.index_mut-in_slot.result.now in
    let long : length old.slots.items ≡ vec_len old.slots = search rules in
    let within : c.args.slot < length old.slots.items = omega (arith, c.requires, long) in
    let at : slice_get old.slots.items c.args.slot ≡ Some sat =
    slice_get-get_or old.slots.items c.args.slot sat within ∙ ap Some (sym c.index_mut-in_slot.ensures.value) in
    err_both _ _ _ c.lent.result
    (λ same trees i. record {
      table = trees.0 i;
      failures = trees.1 i;
      slots = slot-same (in_slot_of server) old.slots.items c.args.slot sat c.lent.new.in_slot at same i;
    })
    c.lent.ensures.in_slot c.lent.ensures.tree
