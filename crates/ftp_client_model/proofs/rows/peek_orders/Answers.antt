use Rattle.ftp_client_model.proofs.ClientRows.{peek_orders}
use Rattle.ftp_client_model.proofs.rows.peek_orders.Goals as goal

pub returns : goal.returns
returns c = peek_orders
