use Rattle.std.proofs.Common.{◌≤◌, ◌-◌, length, take, drop, nat_le, ap, arith, rules, ◌∙◌}
use Rattle.ftp_wire.specs.Encoding.{still_to_give}
use Rattle.ftp_server_transfer.proofs.DownloadLemmas.{last_ends, piece_len, piece_of, piece_put, some_moves}
use Rattle.ftp_server_transfer.proofs.download.Download.encode.Goals as goal

pub returns-clause-text : goal.returns-clause-text
returns-clause-text g c = λ stays.
    let file = g.T.Tree.opened c.args.file.now in
    let piece = c.split_at.result.0.now in
    let few : c.in_ok-count.count ≤ length c.read.new.room = search rules in
    let cut = piece_of c.read.new.room (drop c.args.at file) piece c.in_ok-count.count c.split_at.ensures.front few (c.in_ok-count.ensures.octets stays) in
    piece_put (still_to_give c.args.encoder.now) (still_to_give c.put.new.self) file piece (take c.put.result.made c.put.new.room) c.args.at c.put.result.taken
    (nat_le c.saturating_sub-left.result (length piece)) cut c.put.ensures.within.0
    (λ last. last_ends file c.args.at c.saturating_sub-left.result c.args.len (length piece) c.saturating_sub-left.ensures c.requires.len last) c.put.ensures.text

pub returns-clause-some : goal.returns-clause-some
returns-clause-some g c =
    let file = g.T.Tree.opened c.args.file.now in
    let piece = c.split_at.result.0.now in
    let few : c.in_ok-count.count ≤ length c.read.new.room = search rules in
    let long = piece_len c.read.new.room piece c.in_ok-count.count c.split_at.ensures.front few in
    some_moves (still_to_give c.args.encoder.now) file piece c.args.at (length c.args.room.now) c.put.result.made c.put.result.taken c.saturating_sub-left.result
    (c.saturating_sub-left.ensures ∙ ap (λ n. n - c.args.at) c.requires.len) (λ here. omega (arith, long, c.in_ok-count.ensures.some (omega arith) here))
    c.requires.some c.requires.left c.put.ensures.all c.put.ensures.some

pub returns-clause-within : goal.returns-clause-within
returns-clause-within g c =
    let piece = c.split_at.result.0.now in
    let few : c.in_ok-count.count ≤ length c.read.new.room = search rules in
    let long = piece_len c.read.new.room piece c.in_ok-count.count c.split_at.ensures.front few in
    (c.put.ensures.within.1, omega (arith, c.put.ensures.within.0, long, c.in_ok-count.ensures.most.1))
