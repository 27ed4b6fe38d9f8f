use Rattle.ftp_client.proofs.TypeLemmas.{all_octets}
use Rattle.ftp_client.proofs.client.are_octets.Goals as goal

pub returns : goal.returns
returns c = all_octets c.args.octets.now c.type_inv.octets
