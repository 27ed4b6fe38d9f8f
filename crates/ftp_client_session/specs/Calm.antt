-- What a client that has failed has no more.
use Rattle.std.specs.Prelude.{Bool, true, false}
use Rattle.ftp_client_session.specs.declared.task.Task.{Task}
use Rattle.ftp_client_session.specs.declared.task.Task.TheVariants as Places

-- an operation is under way
abbrev pub is_under_way : {A F : Type 0} → Task A F → Bool
is_under_way Places.Idle = false
is_under_way Places.Waiting = true
is_under_way (Places.Doing step) = true
is_under_way (Places.Transferring transfer) = true
is_under_way (Places.Told answer) = false
