use Rattle.ftp_server_transfer.proofs.StoredLemmas.{whole_listing}
use Rattle.ftp_server_transfer.proofs.listing.Listing.stored.Goals as goal

pub returns-clause-whole : goal.returns-clause-whole
returns-clause-whole g c = whole_listing c.args.self.now
