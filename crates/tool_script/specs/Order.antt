-- What a line behind the login asks, of its parts (own choice).
use Rattle.std.specs.Prelude.{Result, Ok, Err}
use Rattle.ftp_operation.specs.declared.op.How.{How}
use Rattle.ftp_operation.specs.declared.op.Op.{Op}
use Rattle.tool_script.specs.declared.order.Order.{Order}
use Rattle.tool_script.specs.declared.order.Order.TheVariants.{Once, Tries}

-- the order of an operation, or of a path, octets and how they go
abbrev pub order_from : {T : Type 0} → Result (Op T) (T × T × How) → Order T
order_from (Ok op) = Once op
order_from (Err t) = Tries t.0 t.1 t.2
