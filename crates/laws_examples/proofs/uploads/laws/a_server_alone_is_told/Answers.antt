use Rattle.laws_examples.proofs.uploads.Agreeing.{server_alone_agrees}
use Rattle.laws_examples.proofs.uploads.Sending.{server_alone_is_over}
use Rattle.laws_examples.proofs.uploads.laws.a_server_alone_is_told.Goals as goal

pub returns : goal.returns
returns c = record { over = server_alone_is_over; agrees = server_alone_agrees }
