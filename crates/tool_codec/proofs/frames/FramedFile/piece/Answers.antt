use Rattle.std.proofs.Common.{◌+◌, drop, ap, refl, [], arith}
use Rattle.ftp_repr.specs.Items.{signs, given_signs}
use Rattle.tool_codec.proofs.Framing.{sent_front, gives_more, puts_none}
use Rattle.tool_codec.proofs.frames.FramedFile.piece.Goals as goal

pub loop-at-preserved-in-Continue-1 : goal.loop-at-preserved-in-Continue-1
loop-at-preserved-in-Continue-1 g c =
    let piece = c.args.piece.now in
    let at = c.loop-at.at in
    let taken = c.next-taken.result.0 in
    let mid = c.loop-at.self in
    let sent = record mid { sender = c.next-taken.new.self } in
    let ss = signs c.in-Some.item in
    let step = sent_front piece c.split_at.result.1.now at taken mid.sender sent.sender (given_signs c.next-taken.result.1) ss c.split_at.ensures.back c.next-taken.ensures.gives (ap given_signs c.in-Some.is) in
    record {
      within = omega (arith, c.next-taken.ensures.within, c.loop-at-test.true, c.split_at.ensures.back_len);
      gives = gives_more c.args.self.now mid c.put.new.self piece (drop at piece) (drop (at + taken) piece) ss sent
          c.loop-at.invariant.gives refl refl c.in_ok-put.ensures.sender step c.in_ok-put.ensures.ok;
    }

pub loop-at-preserved : goal.loop-at-preserved
loop-at-preserved g c =
    let piece = c.args.piece.now in
    let at = c.loop-at.at in
    let taken = c.next-taken.result.0 in
    let mid = c.loop-at.self in
    let sent = record mid { sender = c.next-taken.new.self } in
    let step = sent_front piece c.split_at.result.1.now at taken mid.sender sent.sender (given_signs c.next-taken.result.1) [] c.split_at.ensures.back c.next-taken.ensures.gives (ap given_signs c.in_default.is) in
    let given = gives_more c.args.self.now mid sent piece (drop at piece) (drop (at + taken) piece) [] sent
    c.loop-at.invariant.gives refl refl refl step (puts_none sent []) in
    record {
      within = omega (arith, c.next-taken.ensures.within, c.loop-at-test.true, c.split_at.ensures.back_len);
      gives = record { octets = given.octets; made = given.made; text = given.text; goes_on = given.goes_on };
    }
