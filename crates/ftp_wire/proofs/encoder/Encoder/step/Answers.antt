use Rattle.std.proofs.Common.{◌≡◌, ◌≤◌, ◌++◌, [], ◌∷◌, length, take, drop, map, false, true, ap, sym, ◌∙◌, rules}
use Rattle.ftp_repr.specs.Runs.{IsRun, is_changed}
use Rattle.ftp_repr.specs.Signs.{octet, end_record, end_file}
use Rattle.ftp_repr.specs.Sending.{has_sent_end, still_to_send}
use Rattle.ftp_wire.proofs.EncodingLemmas.{Puts, put_front, run_rest, record_rest, sends, sends_none, over_text}
use Rattle.ftp_wire.proofs.encoder.Encoder.step.Goals as goal

pub returns-else-octets-count-clause-text : goal.returns-else-octets-count-clause-text
returns-else-octets-count-clause-text c = λ more last.
    let old = c.args.self.now in
    let s = old.sender in
    let piece = c.args.piece.now in
    let octets = c.in_default-Some-Octets.octets.now in
    let n = c.next.result.0 in
    let put = c.put-written in
    let going : has_sent_end s ≡ false = search rules in
    let run : IsRun (is_changed s.kind s.structure) piece n × (octets ≡ take n piece) = search rules in
    let whole : still_to_send s (piece ++ more) ≡ map octet octets ++ still_to_send s (drop n piece ++ more) = search rules in
    let puts : Puts old.framer (map octet octets) put.result.taken (take put.result.made put.new.room) put.new.self = search rules in
    let some : put.result.taken ≤ length (map octet octets) = search rules in
    put_front old.framer put.new.self old.half (map octet octets) (still_to_send s (piece ++ more)) (still_to_send s (drop put.result.taken piece ++ more))
    (still_to_send s (drop n piece ++ more)) put.result.taken (take put.result.made put.new.room) c.in_default.is puts whole
    (run_rest s piece more octets n put.result.taken going c.next.ensures.within some run.0 run.1)

pub returns-in_default-Some-EndRecord-clause-text : goal.returns-in_default-Some-EndRecord-clause-text
returns-in_default-Some-EndRecord-clause-text c = λ more last.
    let old = c.args.self.now in
    let s = old.sender in
    let piece = c.args.piece.now in
    let put = c.put-written-in_default-Some-EndRecord in
    let whole : still_to_send s (piece ++ more) ≡ end_record ∷ still_to_send s (drop 1 piece ++ more) = search rules in
    put_front old.framer put.new.self old.half (end_record ∷ []) (still_to_send s (piece ++ more)) (still_to_send s (drop put.result.taken piece ++ more))
    (still_to_send s (drop 1 piece ++ more)) put.result.taken (take put.result.made put.new.room) c.in_default.is put.ensures.text whole
    (record_rest s piece more put.result.taken put.ensures.within.0 whole)

pub returns-then-is_over-clause-text : goal.returns-then-is_over-clause-text
returns-then-is_over-clause-text c = λ more last.
    let s = c.args.self.now.sender in
    let piece = c.args.piece.now in
    let over : has_sent_end s ≡ true = search rules in
    over_text c.args.self.now c.put_end.new.self (piece ++ more) (drop (length piece) piece ++ more) (take c.put_end.result c.put_end.new.room)
    over c.put_end.ensures.text

pub returns-in_default-Some-EndFile-clause-text : goal.returns-in_default-Some-EndFile-clause-text
returns-in_default-Some-EndFile-clause-text c = λ more last.
    let s = c.args.self.now.sender in
    let t = c.next.new.self in
    let piece = c.args.piece.now in
    let over : has_sent_end t ≡ true = search rules in
    let going : has_sent_end s ≡ false = search rules in
    let whole : still_to_send s (piece ++ more) ≡ end_file ∷ still_to_send t (drop c.next.result.0 piece ++ more) = search rules in
    c.put_end-in_default-Some-EndFile.ensures.text (piece ++ more)
    (whole ∙ ap (λ l. end_file ∷ l) (sends_none t (drop c.next.result.0 piece ++ more) over) ∙ sym (sends s [] going))
