use Rattle.std.proofs.Common.{◌≡◌, ◌∙◌, [], arith, length, refl, rules, sym, take}
use Rattle.ftp_server_calls.proofs.one.OrderLemmas.{one_more}
use Rattle.ftp_server_calls.proofs.one.PlayLemmas.{keeps_the_map, long_more, none_made, some_keep, some_made}
use Rattle.ftp_server_calls.specs.one.Cues.{cue_of, cues_of, gifts_of}
use Rattle.ftp_server_calls.specs.one.Making.{IsCalm, Makes}
use Rattle.ftp_server_calls.proofs.one.playing.play_all.Goals as goal

pub loop-cue-init : goal.loop-cue-init
loop-cue-init g c =
    let none : c.new-gifts.result.items ≡ [] = search rules in
    record { made = none_made c.new-gifts.result.items (g.S.Far.server c.args.server.now) (g.S.Far.server c.args.server.now) none refl; long = search rules }

pub loop-cue-preserved : goal.loop-cue-preserved
loop-cue-preserved g c =
    let server = g.S.Far.server in
    let next = c.in-Ok.ensures.next in
    let whole : length c.loop-cue.gifts.items ≡ c.loop-cue.gifts.len = search rules in
    let made : c.len-made.result ≡ c.loop-cue.cue-index = c.len-made.ensures ∙ sym whole ∙ c.loop-cue.invariant.long in
    record {
      made = one_more Makes IsCalm cue_of c.args.cues.now c.loop-cue.cue-index c.cue-item.result c.cue-item.result c.in-Ok.is_calm c.loop-cue.calm c.calm_after-calm.result
          (gifts_of c.loop-cue.gifts.items) (gifts_of c.play_one.new.gifts.items) (server c.args.server.now) (server c.loop-cue.server) (server c.play_one.new.server)
          c.loop-cue-test.true c.cue-item.is c.loop-cue.invariant.made next
          (λ calmly all. c.calm_after-calm.ensures.on calmly (all ∙ sym made)) c.calm_after-calm.ensures.off (λ less. c.calm_after-calm.ensures.past (omega (arith, less, made)));
      long = long_more c.loop-cue.gifts.items c.play_one.new.gifts.items next.gift c.loop-cue.cue-index next.kept c.loop-cue.invariant.long;
    }

pub returns-in_default-clause-begun : goal.returns-in_default-clause-begun
returns-in_default-clause-begun g c =
    let server = g.S.Far.server in
    some_made c.args.cues.now c.loop-cue.cue-index c.loop-cue.calm (gifts_of c.loop-cue.gifts.items) (server c.args.server.now) (server c.loop-cue.server)
    (server c.play_one.new.server) (omega (arith, c.loop-cue-test.true)) c.loop-cue.invariant.made c.in_default.ensures.back

pub returns-in_default-clause-looks : goal.returns-in_default-clause-looks
returns-in_default-clause-looks g c =
    let server = g.S.Far.server in
    some_keep (cues_of c.args.cues.now) (server c.args.server.now) (server c.play_one.new.server) (g.met.S.SureFar.never c.play_one.new.server)
    (some_made c.args.cues.now c.loop-cue.cue-index c.loop-cue.calm (gifts_of c.loop-cue.gifts.items) (server c.args.server.now) (server c.loop-cue.server)
    (server c.play_one.new.server) (omega (arith, c.loop-cue-test.true)) c.loop-cue.invariant.made c.in_default.ensures.back)

pub returns-clause-looks : goal.returns-clause-looks
returns-clause-looks g c =
    let server = g.S.Far.server in
    keeps_the_map c.loop-cue.calm (cues_of (take c.loop-cue.cue-index c.args.cues.now)) (gifts_of c.loop-cue.gifts.items) (server c.args.server.now)
    (server c.loop-cue.server) (g.met.S.SureFar.never c.loop-cue.server) c.loop-cue.invariant.made
