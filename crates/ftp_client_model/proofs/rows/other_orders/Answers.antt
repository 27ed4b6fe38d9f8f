use Rattle.ftp_client_model.proofs.ClientRows.{other_orders}
use Rattle.ftp_client_model.proofs.rows.other_orders.Goals as goal

pub returns : goal.returns
returns c = other_orders
