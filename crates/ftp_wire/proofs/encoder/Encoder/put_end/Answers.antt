use Rattle.std.proofs.Common.{◌≡◌, ◌≢◌, take, refl, arith, rules}
use Rattle.ftp_mode.specs.Framing.{writing}
use Rattle.ftp_mode.specs.Writing.{manner}
use Rattle.ftp_mode.specs.declared.framer.Manner.TheVariants.{Closed}
use Rattle.ftp_wire.proofs.EncodingLemmas.{ends_alike, end_put, end_waits, owed_falls, end_falls}
use Rattle.ftp_wire.proofs.encoder.Encoder.put_end.Goals as goal

pub returns-then-eq-clause-text : goal.returns-then-eq-clause-text
returns-then-eq-clause-text c = λ file same.
    let e = c.args.self.now in
    let put = c.put-written in
    let is : manner (writing put.new.self) ≡ Closed = search rules in
    end_put e.framer put.new.self e.half c.args.over file _ (take put.result.made put.new.room) put.result.taken put.ensures.text is
    (ends_alike e file c.requires.none same)

pub returns-then-eq-clause-some : goal.returns-then-eq-clause-some
returns-then-eq-clause-some c = λ room owes.
    let e = c.args.self.now in
    let put = c.put-written in
    let is : manner (writing put.new.self) ≡ Closed = search rules in
    end_falls e c.args.over put.result.made c.requires.over.0
    (λ over. owed_falls e.framer put.new.self put.new.room put.result.made put.result.taken put.ensures.text (e.over over).1 is put.ensures.within.0 (put.ensures.out refl)
    (put.ensures.some room (omega arith)) (owes over))

pub returns-else-eq-clause-text : goal.returns-else-eq-clause-text
returns-else-eq-clause-text c = λ file same.
    let e = c.args.self.now in
    let put = c.put-written in
    let still : manner (writing put.new.self) ≢ Closed = search rules in
    end_waits e put.new.self file (take put.result.made put.new.room) put.result.taken put.ensures.text put.ensures.within.0 (put.ensures.closed refl)
    put.ensures.closes still c.requires.none same
