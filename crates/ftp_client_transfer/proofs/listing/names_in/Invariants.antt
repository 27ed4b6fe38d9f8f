use Rattle.std.proofs.Common.{◌≡◌, length}
use Rattle.ftp_facts.specs.Listing.{names_value}
use Rattle.ftp_client_transfer.proofs.ListingLemmas.{with_rest}
use Rattle.ftp_client_transfer.proofs.listing.names_in.Given as goal

-- what was read and what the rest says
abbrev pub invariant-loop-rest : goal.invariant-loop-rest
invariant-loop-rest g l = with_rest l.names.items (names_value l.rest) ≡ names_value l.octets

abbrev pub decreases-loop-rest : goal.decreases-loop-rest
decreases-loop-rest g l = length l.rest
