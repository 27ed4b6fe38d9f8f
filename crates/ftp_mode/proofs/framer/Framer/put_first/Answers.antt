use Rattle.std.proofs.Common.{◌<◌, ◌++◌, length, take, drop, map, get_or, ap, sym, ◌∙◌, rules}
use Rattle.ftp_repr.specs.Signs.{octet}
use Rattle.ftp_mode.proofs.FramingLemmas.{next_octet, rest_octets, takes_text, waits_text, poured_text}
use Rattle.ftp_mode.proofs.framer.Framer.put_first.Goals as goal

pub returns-then-octet-clause-text : goal.returns-then-octet-clause-text
returns-then-octet-clause-text c = λ more.
    let f = c.args.self.now in
    let g = c.octet.new.self in
    let h = c.pour-made.new.self in
    let piece = c.args.piece.now in
    let some : 0 < length piece = search rules in
    let rest = map octet (drop 1 piece) ++ more in
    ap (λ l. take c.args.at c.args.room.now ++ l) (next_octet f piece 0 more some ∙ takes_text f g (octet (get_or piece 0 0)) rest c.requires.clear (c.octet.ensures.yes c.if-octet.true))
    ∙ poured_text g h c.args.room.now c.pour-made.new.room c.args.at c.pour-made.result rest c.pour-made.ensures.text c.pour-made.ensures.state
    ∙ ap (λ l. take c.pour-made.result c.pour-made.new.room ++ l) (rest_octets h piece 1 more)

pub returns-clause-text : goal.returns-clause-text
returns-clause-text c = λ more.
    let f = c.args.self.now in
    let g = c.octet.new.self in
    let h = c.pour-made-2.new.self in
    let piece = c.args.piece.now in
    let some : 0 < length piece = search rules in
    let rest = map octet (drop 1 piece) ++ more in
    ap (λ l. take c.args.at c.args.room.now ++ l) (next_octet f piece 0 more some ∙ waits_text f g (octet (get_or piece 0 0)) rest c.requires.clear (c.octet.ensures.no c.if-octet.false)
    ∙ sym (next_octet g piece 0 more some))
    ∙ poured_text g h c.args.room.now c.pour-made-2.new.room c.args.at c.pour-made-2.result (map octet piece ++ more) c.pour-made-2.ensures.text c.pour-made-2.ensures.state
