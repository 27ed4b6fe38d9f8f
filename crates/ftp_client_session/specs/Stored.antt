-- How many octets a client stores of its transfer.
use Rattle.std.specs.Prelude.{ℕ}
use Rattle.ftp_client_session.specs.declared.task.Task.{Task}
use Rattle.ftp_client_session.specs.declared.task.Task.TheVariants as Places

-- what is stored of the transfer under way; nothing where there is none
abbrev pub stored_in : {A F : Type 0} → (F → ℕ) → Task A F → ℕ
stored_in stored Places.Idle = 0
stored_in stored Places.Waiting = 0
stored_in stored (Places.Doing step) = 0
stored_in stored (Places.Transferring transfer) = stored transfer.flow
stored_in stored (Places.Told answer) = 0
