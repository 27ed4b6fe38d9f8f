use Rattle.std.proofs.Common.{rules, ◌∙◌, map, option_map, sym, ap}
use Rattle.ftp_facts.specs.Entry.{listed_of}
use Rattle.ftp_facts.specs.Listing.{entries_value}
use Rattle.ftp_client_transfer.proofs.ListingLemmas.{all_entries, entry_kept, with_rest}
use Rattle.ftp_client_transfer.proofs.listing.entries_in.Goals as goal

pub loop-rest-preserved : goal.loop-rest-preserved
loop-rest-preserved g c =
    let behind = c.cut_line.result.1.now in
    ap (λ seen. with_rest seen (entries_value behind)) c.in_ok-keep.ensures
    ∙ entry_kept (map listed_of c.loop-rest.entries.items) c.loop-rest.rest.now c.cut_line.result.0.now behind (listed_of c.in-Some.entry) c.cut_line.ensures.lines
    (ap (option_map listed_of) (sym c.in-Some.is) ∙ c.in_ok-entry.ensures)
    ∙ c.loop-rest.invariant

pub returns : goal.returns
returns g c =
    all_entries (map listed_of c.loop-rest.entries.items) c.loop-rest.rest.now c.args.octets.now c.loop-rest.invariant (search rules)
