use Rattle.laws_examples.proofs.transfers.Fair.{file_alone_is_there}
use Rattle.laws_examples.proofs.transfers.PutPlayed.{put_is_over}
use Rattle.laws_examples.proofs.transfers.laws.an_example_is_put.Goals as goal

pub returns : goal.returns
returns c = record { over = put_is_over; there = file_alone_is_there }
