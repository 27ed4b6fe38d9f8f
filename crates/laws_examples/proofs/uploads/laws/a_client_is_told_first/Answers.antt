use Rattle.laws_examples.proofs.uploads.Agreeing.{client_first_agrees}
use Rattle.laws_examples.proofs.uploads.Sending.{client_first_is_over}
use Rattle.laws_examples.proofs.uploads.laws.a_client_is_told_first.Goals as goal

pub returns : goal.returns
returns c = record { over = client_first_is_over; agrees = client_first_agrees }
