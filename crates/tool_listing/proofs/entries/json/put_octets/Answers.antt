use Rattle.std.proofs.Common.{get_or, refl}
use Rattle.tool_listing.specs.entries.Json.{octet_json}
use Rattle.tool_listing.proofs.entries.LinesLemmas.{one_written}
use Rattle.tool_listing.proofs.entries.json.put_octets.Goals as goal

pub loop-octet-preserved : goal.loop-octet-preserved
loop-octet-preserved c =
    let at = c.loop-octet.octet-index in
    one_written octet_json c.args.octets.now at 0 (get_or c.args.octets.now at 0) c.args.out.now.items c.loop-octet.out.items
    c.put_octet.new.out.items c.loop-octet-test.true refl c.loop-octet.invariant c.in_ok-put_octet.ensures
