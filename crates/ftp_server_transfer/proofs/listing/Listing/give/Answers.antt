use Rattle.std.proofs.Common.{◌∙◌, sym, rules}
use Rattle.ftp_server_transfer.specs.Rest.{rest_of, text_left}
use Rattle.ftp_server_transfer.proofs.ListingLemmas.{rest_same, gives_on}
use Rattle.ftp_server_transfer.proofs.listing.Listing.give.Goals as goal

pub loop-made-preserved : goal.loop-made-preserved
loop-made-preserved g c =
    let mid = c.loop-made.self in
    let ready = c.advance.new.self in
    record {
      made = search rules;
      room = search rules;
      gives = gives_on (rest_of c.args.self.now) (rest_of mid) (rest_of c.give_lines-made.new.self) c.loop-made.room c.split_at_mut-free.result.0.now c.give_lines-made.new.room
          c.loop-made.made c.give_lines-made.result c.loop-made.invariant.made c.split_at_mut-free.ensures.front c.loop-made.invariant.gives
          (rest_same mid.encoder ready.encoder (text_left mid) (text_left ready) (sym c.advance.ensures.rest.1) (sym c.advance.ensures.rest.0) ∙ c.give_lines-made.ensures.gives);
    }
