use Rattle.std.proofs.Common.{◌≡◌, ◌+◌, ◌<◌, ◌≤◌, ◌++◌, [], length, take, sym, ap, ◌∙◌, arith, length-append}
use Rattle.ftp_repr.specs.Items.{signs}
use Rattle.ftp_mode.specs.Said.{file_signs}
use Rattle.ftp_mode.specs.Reading.{Reading}
use Rattle.ftp_mode.specs.Deframing.{owed, reading, last_marker, part_said}
use Rattle.ftp_wire.specs.Decoder.{Decoder}
use Rattle.ftp_wire.proofs.DecoderLemmas.{file_signs-append}
use Rattle.ftp_wire.specs.Taking.{decoder_at, settled}
use Rattle.ftp_wire.proofs.SettleLemmas.{settled-append, settled_front, settled_more, ends_stop}
use Rattle.ftp_wire.proofs.intake.Intake.settle_ends.Goals as goal

pub returns-in-Err-clause-ends : goal.returns-in-Err-clause-ends
returns-in-Err-clause-ends g c =
    let octets = g.S.Sink.octets in
    let mid = c.owed_part.new.self in
    let now = decoder_at octets c.loop-part.self in
    let said = part_said c.in-Some.part [] in
    let ss = signs c.item_of.result in
    let is : ss ≡ file_signs said = c.item_of.ensures [] in
    let whole : ss ++ file_signs (owed mid) ≡ file_signs (owed c.loop-part.self.deframer) =
    ap (λ l. l ++ file_signs (owed mid)) is ∙ sym (file_signs-append said (owed mid)) ∙ ap file_signs (c.in-Some.ensures.some []) in
    let n = c.in-Err.stopped.at + 1 in
    let stops = c.in-Err.ensures.err in
    let most : length (octets c.loop-part.self.sink) + c.loop-part.room ≡ length (octets c.args.self.now.sink) + c.args.room.now = c.loop-part.invariant.room in
    let bound : length (settled (record now { reading = reading mid }) (take n ss)).content ≤ length (settled (decoder_at octets c.args.self.now) (file_signs (owed c.args.self.now.deframer))).content =
    omega (
      arith,
      settled_front now ss n,
      settled_more now ss (file_signs (owed mid)),
      ap (λ l. length (settled now l).content) whole,
      ap (λ x. length x.content) c.loop-part.invariant.decoder,
    ) in
    ends_stop octets c.args.self.now c.settle.new.self c.args.room.now c.settle.new.room (length (octets c.loop-part.self.sink) + c.loop-part.room) c.in-Err.stopped.heard
    (record now { reading = reading mid }) (take n ss) most stops.by bound

pub loop-part-smaller : goal.loop-part-smaller
loop-part-smaller g c =
    let mid = c.owed_part.new.self in
    let said = part_said c.in-Some.part [] in
    let less : length (owed c.settle.new.self.deframer) < length (owed c.loop-part.self.deframer) =
    omega (arith, ap (λ x. length (owed x)) c.settle.ensures.deframer, c.in-Some.ensures.one [], ap length (c.in-Some.ensures.some []), length-append said (owed mid)) in
    less

pub loop-part-preserved : goal.loop-part-preserved
loop-part-preserved g c =
    let octets = g.S.Sink.octets in
    let mid = c.owed_part.new.self in
    let now = decoder_at octets c.loop-part.self in
    let there : Reading → Decoder = λ r. record now { reading = r } in
    let said = part_said c.in-Some.part [] in
    let ss = signs c.item_of.result in
    let is : ss ≡ file_signs said = c.item_of.ensures [] in
    let whole : ss ++ file_signs (owed mid) ≡ file_signs (owed c.loop-part.self.deframer) =
    ap (λ l. l ++ file_signs (owed mid)) is ∙ sym (file_signs-append said (owed mid)) ∙ ap file_signs (c.in-Some.ensures.some []) in
    record {
      reading = ap reading c.settle.ensures.deframer ∙ c.owed_part.ensures.state ∙ c.loop-part.invariant.reading;
      marker = ap last_marker c.settle.ensures.deframer ∙ c.owed_part.ensures.marker ∙ c.loop-part.invariant.marker;
      decoder = ap (λ x. settled x (file_signs (owed c.settle.new.self.deframer))) c.in_default-settle.ensures.ok
          ∙ ap (λ x. settled (settled (there (reading mid)) ss) (file_signs (owed x))) c.settle.ensures.deframer
          ∙ sym (settled-append (there (reading mid)) ss (file_signs (owed mid)))
          ∙ ap (settled (there (reading mid))) whole
          ∙ ap (λ r. settled (there r) (file_signs (owed c.loop-part.self.deframer))) c.owed_part.ensures.state
          ∙ c.loop-part.invariant.decoder;
      room = c.in_default-settle.ensures.room ∙ c.loop-part.invariant.room;
    }
