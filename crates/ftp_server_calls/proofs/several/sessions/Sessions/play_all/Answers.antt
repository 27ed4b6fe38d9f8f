use Rattle.std.proofs.Common.{◌≡◌, ◌∙◌, [], ap, arith, length, refl, rules, sym}
use Rattle.ftp_server_calls.proofs.one.OrderLemmas.{one_more}
use Rattle.ftp_server_calls.proofs.one.PlayLemmas.{long_more}
use Rattle.ftp_server_calls.specs.one.Cues.{gifts_of}
use Rattle.ftp_server_calls.proofs.several.PlayLemmas.{none_taken, some_taken}
use Rattle.ftp_server_calls.specs.several.Playing.{IsCalm, Takes, turn_of}
use Rattle.ftp_server_calls.specs.several.Slots.{slots_seen}
use Rattle.ftp_server_calls.proofs.several.sessions.Sessions.play_all.Goals as goal

pub loop-turn-init : goal.loop-turn-init
loop-turn-init g c =
    let none : c.new-gifts.result.items ≡ [] = search rules in
    let none_yet : length c.new-gifts.result.items ≡ 0 = ap length none in
    let slots = slots_seen g.T.Tree.table g.T.Tree.failures g.F.Far.server in
    record { made = none_taken (gifts_of c.new-gifts.result.items) (slots c.args.self.now) (slots c.args.self.now) (ap gifts_of none) refl; long = none_yet }

pub loop-turn-preserved : goal.loop-turn-preserved
loop-turn-preserved g c =
    let whole : length c.loop-turn.gifts.items ≡ c.loop-turn.gifts.len = search rules in
    let slots = slots_seen g.T.Tree.table g.T.Tree.failures g.F.Far.server in
    let next = c.in-Ok.ensures.next in
    let made : c.len-made.result ≡ c.loop-turn.turn-index = c.len-made.ensures ∙ sym whole ∙ c.loop-turn.invariant.long in
    record {
      made = one_more Takes IsCalm turn_of c.args.turns.now c.loop-turn.turn-index c.turn-item.result c.turn-item.result c.in-Ok.is_calm c.loop-turn.calm c.calm_after-calm.result
          (gifts_of c.loop-turn.gifts.items) (gifts_of c.take_turn.new.gifts.items) (slots c.args.self.now) (slots c.loop-turn.self) (slots c.take_turn.new.self)
          c.loop-turn-test.true c.turn-item.is c.loop-turn.invariant.made next
          (λ calmly all. c.calm_after-calm.ensures.on calmly (all ∙ sym made)) c.calm_after-calm.ensures.off (λ less. c.calm_after-calm.ensures.past (omega (arith, less, made)));
      long = long_more c.loop-turn.gifts.items c.take_turn.new.gifts.items next.gift c.loop-turn.turn-index next.kept c.loop-turn.invariant.long;
    }

pub returns-in_default-clause-begun : goal.returns-in_default-clause-begun
returns-in_default-clause-begun g c =
    let slots = slots_seen g.T.Tree.table g.T.Tree.failures g.F.Far.server in
    some_taken c.args.turns.now c.loop-turn.turn-index c.loop-turn.calm (gifts_of c.loop-turn.gifts.items) (slots c.args.self.now) (slots c.loop-turn.self)
    (slots c.take_turn.new.self) (omega (arith, c.loop-turn-test.true)) c.loop-turn.invariant.made c.in_default.ensures.back
