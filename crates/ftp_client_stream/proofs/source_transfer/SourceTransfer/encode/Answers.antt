use Rattle.std.proofs.Common.{ap, drop, take, ◌+◌, ◌++◌, ◌∙◌, ℕ, List, rules}
use Rattle.std.proofs.lemmas.List.{places, with_items_is}
use Rattle.ftp_wire.specs.Encoding.{still_to_give}
use Rattle.ftp_client_stream.proofs.SourceTransferLemmas.{encodes}
use Rattle.ftp_client_stream.proofs.source_transfer.SourceTransfer.encode.Goals as goal

pub returns-clause-text : goal.returns-clause-text
returns-clause-text g c more last =
    let d = c.args.self.now in
    let room = c.put-encoded.new.room in
    let count = c.put-encoded.result.taken in
    let behind = still_to_give c.put-encoded.new.self (drop (d.at + count) (take d.end d.piece.items) ++ more) in
    ap (λ (wire : List ℕ). take c.put-encoded.result.made wire ++ behind) (with_items_is d.wire room (search (rules, places)))
    ∙ encodes
    (still_to_give d.encoder) (still_to_give c.put-encoded.new.self) d.sent d.made d.wire.items (take d.end d.piece.items) c.between-rest.result.now
    (take c.put-encoded.result.made room) d.at count more c.requires.sent
    (c.between-rest.ensures.octets ∙ ap (λ (l : List ℕ). drop d.at (take d.end l)) c.as_slice.ensures.value)
    (c.put-encoded.ensures.text more last)
