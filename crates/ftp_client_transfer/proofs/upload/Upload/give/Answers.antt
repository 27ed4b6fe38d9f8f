use Rattle.std.proofs.Common.{◌∙◌, ◌+◌, length, take, drop, ap, arith}
use Rattle.ftp_wire.specs.Encoding.{still_to_give}
use Rattle.ftp_client_transfer.specs.Octets.{octets_of}
use Rattle.ftp_client_transfer.specs.Flow.{left_in}
use Rattle.ftp_client_transfer.proofs.UploadLemmas.{all_out, gives, made_behind, made_front, made_most, made_within}
use Rattle.ftp_client_transfer.proofs.upload.Upload.give.Goals as goal

pub returns-clause-within : goal.returns-clause-within
returns-clause-within g c =
    let u = c.args.self.now in
    let octets = octets_of c.args.op.now in
    let e = c.put-encoded.new.self in
    let room = c.put-encoded.new.room in
    let made = c.put-encoded.result.made in
    let behind = still_to_give e (drop (u.at + c.put-encoded.result.taken) octets) in
    let is = gives (still_to_give u.encoder) (still_to_give e) octets c.behind-rest.result.now (take made room) u.at c.put-encoded.result.taken
    (c.behind-rest.ensures ∙ ap (drop u.at) c.octets_of.ensures) c.put-encoded.ensures.text in
    (c.put-encoded.ensures.within.1, made_within (left_in octets u) behind room made (omega (arith, c.put-encoded.ensures.within.1, c.put-encoded.auto.room)) is)

pub returns-clause-gave : goal.returns-clause-gave
returns-clause-gave g c =
    let u = c.args.self.now in
    let octets = octets_of c.args.op.now in
    let e = c.put-encoded.new.self in
    let room = c.put-encoded.new.room in
    let made = c.put-encoded.result.made in
    let behind = still_to_give e (drop (u.at + c.put-encoded.result.taken) octets) in
    let is = gives (still_to_give u.encoder) (still_to_give e) octets c.behind-rest.result.now (take made room) u.at c.put-encoded.result.taken
    (c.behind-rest.ensures ∙ ap (drop u.at) c.octets_of.ensures) c.put-encoded.ensures.text in
    made_front (left_in octets u) behind room made (omega (arith, c.put-encoded.ensures.within.1, c.put-encoded.auto.room)) is

pub returns-clause-now : goal.returns-clause-now
returns-clause-now g c =
    let u = c.args.self.now in
    let octets = octets_of c.args.op.now in
    let e = c.put-encoded.new.self in
    let room = c.put-encoded.new.room in
    let made = c.put-encoded.result.made in
    let behind = still_to_give e (drop (u.at + c.put-encoded.result.taken) octets) in
    let is = gives (still_to_give u.encoder) (still_to_give e) octets c.behind-rest.result.now (take made room) u.at c.put-encoded.result.taken
    (c.behind-rest.ensures ∙ ap (drop u.at) c.octets_of.ensures) c.put-encoded.ensures.text in
    made_behind (left_in octets u) behind room made (omega (arith, c.put-encoded.ensures.within.1, c.put-encoded.auto.room)) is

pub returns-clause-most : goal.returns-clause-most
returns-clause-most g c =
    let u = c.args.self.now in
    let octets = octets_of c.args.op.now in
    let e = c.put-encoded.new.self in
    let room = c.put-encoded.new.room in
    let made = c.put-encoded.result.made in
    let rest = drop (u.at + c.put-encoded.result.taken) octets in
    let is = gives (still_to_give u.encoder) (still_to_give e) octets c.behind-rest.result.now (take made room) u.at c.put-encoded.result.taken
    (c.behind-rest.ensures ∙ ap (drop u.at) c.octets_of.ensures) c.put-encoded.ensures.text in
    made_most (left_in octets u) (still_to_give e rest) room made (length c.args.room.now) c.put-encoded.auto.room c.put-encoded.ensures.within.1 is
    (all_out e rest made (length c.args.room.now) c.put-encoded.result.taken (length c.behind-rest.result.now) c.put-encoded.ensures.all)
