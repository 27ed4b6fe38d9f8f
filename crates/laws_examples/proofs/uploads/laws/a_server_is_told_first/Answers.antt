use Rattle.laws_examples.proofs.uploads.Agreeing.{server_first_agrees}
use Rattle.laws_examples.proofs.uploads.Keeping.{server_first_is_over}
use Rattle.laws_examples.proofs.uploads.laws.a_server_is_told_first.Goals as goal

pub returns : goal.returns
returns c = record { over = server_first_is_over; agrees = server_first_agrees }
