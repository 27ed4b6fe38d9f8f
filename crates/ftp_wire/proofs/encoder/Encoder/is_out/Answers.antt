use Rattle.std.proofs.Common.{◌≡◌, ◌≢◌, ◌<◌, length, ap, arith, rules}
use Rattle.ftp_mode.specs.Framing.{owed_octets, writing}
use Rattle.ftp_mode.specs.Writing.{manner}
use Rattle.ftp_mode.specs.declared.framer.Manner.TheVariants.{Copies, Closed}
use Rattle.ftp_wire.proofs.EncodingLemmas.{framed_left, copied_empty, owed_before}
use Rattle.ftp_wire.proofs.encoder.Encoder.is_out.Goals as goal

pub returns-then-owed_len-gt0 : goal.returns-then-owed_len-gt0
returns-then-owed_len-gt0 c = λ file empty.
    let some : 0 < length (owed_octets c.args.self.now.framer) = search rules in
    (λ is. absurd (cc), λ none. absurd (omega (arith, owed_before c.args.self.now file some, ap length none)))

pub returns-else-at_end : goal.returns-else-at_end
returns-else-at_end c = λ file empty.
    let copies : manner (writing c.args.self.now.framer) ≡ Copies = search rules in
    (λ is. absurd (cc), λ none. empty.1 (copied_empty c.args.self.now file copies none))

pub returns-in-Escapes : goal.returns-in-Escapes
returns-in-Escapes c = λ file empty.
    let copies : manner (writing c.args.self.now.framer) ≢ Copies = search rules in
    let over : manner (writing c.args.self.now.framer) ≢ Closed = search rules in
    (λ is. absurd (cc), λ none. absurd (omega (arith, framed_left c.args.self.now file copies over, ap length none)))
