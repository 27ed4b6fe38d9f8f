use Rattle.std.proofs.Common.{◌∙◌, ap, sym}
use Rattle.ftp_server_model.proofs.CountLemmas.{told_counts}
use Rattle.ftp_server_model.specs.Far.{counts_told}
use Rattle.ftp_server_calls.proofs.one.PlayLemmas.{kept_on, told_apart}
use Rattle.ftp_server_calls.specs.one.Cues.{gift_of}
use Rattle.ftp_server_calls.proofs.one.playing.play_one.Goals as goal

pub returns-clause-next : goal.returns-clause-next
returns-clause-next g c =
    let never = g.met.S.SureFar.never in
    let before = told_counts c.counts-counts.result (g.S.Far.server c.args.server.now).counts c.counts-counts.ensures (never c.args.server.now) in
    let after = told_counts c.counts.result (g.S.Far.server c.call.new.server).counts c.counts.ensures (never c.call.new.server) in
    record {
      gift = gift_of c.in_ok-gift.gift;
      kept = kept_on c.args.gifts.now.items c.reserve.new.self.items c.keep.new.gifts.items c.in_ok-gift.gift c.reserve.ensures.items c.keep.ensures;
      makes = c.in_ok-gift.ensures.makes;
      calm = λ is. sym after ∙ ap counts_told (c.is_same.ensures.same is) ∙ before;
      moved = λ is same. c.is_same.ensures.moved is (told_apart c.counts.result c.counts-counts.result (after ∙ same ∙ sym before));
    }
