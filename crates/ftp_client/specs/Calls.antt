-- How a client is seen by its calls.
use Rattle.std.specs.Prelude.{ℕ, List, [], unwrap_or}
use Rattle.ftp_operation.specs.declared.op.Op.{Op}
use Rattle.ftp_client_model.specs.Failing.{Client as Seen}
use Rattle.ftp_client_model.specs.Telling.{Told}
use Rattle.ftp_client_model.specs.View.{Flow}
use Rattle.ftp_client.specs.Counted.{counted_of}
use Rattle.ftp_client.specs.declared.client.Client.{Client}

-- what it holds, and how many growths were refused to it
abbrev pub client_of : {A F : Type 0} → (Op (List ℕ) → F → Flow) → Client A F → Seen
client_of flow client = counted_of flow client.counted

-- what it tells beside its reports
abbrev pub told_of : {A F : Type 0} → Client A F → Told
told_of client = record { line = client.line; came = unwrap_or client.came [] }
