use Rattle.std.proofs.Common.{◌≡◌, length, map}
use Rattle.ftp_facts.specs.Entry.{listed_of}
use Rattle.ftp_facts.specs.Listing.{entries_value}
use Rattle.ftp_client_transfer.proofs.ListingLemmas.{with_rest}
use Rattle.ftp_client_transfer.proofs.listing.entries_in.Given as goal

-- what was read and what the rest says
abbrev pub invariant-loop-rest : goal.invariant-loop-rest
invariant-loop-rest g l = with_rest (map listed_of l.entries.items) (entries_value l.rest) ≡ entries_value l.octets

abbrev pub decreases-loop-rest : goal.decreases-loop-rest
decreases-loop-rest g l = length l.rest
