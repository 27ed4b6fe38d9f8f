-- Their answers agree, by the law of drives that are over.
use Rattle.std.proofs.Common.{ℕ, List}
use Rattle.ftp_operation.specs.Answer.{Said}
use Rattle.ftp_operation.specs.declared.op.Op.{Op}
use Rattle.laws_breaks.proofs.downloads.Ending.{over_drives_agree}
use Rattle.laws_examples.specs.transfers.Example.{example_file_alone}
use Rattle.laws_examples.proofs.transfers.Fair.{file_alone_is_there}
use Rattle.laws_drivers.specs.events.Moments.{AreMoments}
use Rattle.laws_world.specs.Claims.{Beginning, IsFair}
use Rattle.laws_examples.specs.downloads.Example.{ClientFirstAgrees, HasAgreed, Moment, PassesAt, ServerFirstAgrees}
use Rattle.laws_examples.proofs.downloads.ClientFirst.{client_first_is_over}
use Rattle.laws_examples.proofs.downloads.ServerFirst.{server_first_is_over}

-- of a session that is fair
has_agreed : (b : Beginning) → IsFair b → (moments : ℕ → ℕ) → AreMoments moments → (asked : List (Op (List ℕ) × Said)) (At : Moment)
    → (p : PassesAt b moments asked At) → HasAgreed p
has_agreed b fair moments timed asked At p = over_drives_agree b fair moments timed asked p.server p.over

pub server_first_agrees : ServerFirstAgrees
server_first_agrees moments timed =
    let p = server_first_is_over example_file_alone 0 moments file_alone_is_there.has in (p, has_agreed _ file_alone_is_there.fair moments timed _ _ p)

pub client_first_agrees : ClientFirstAgrees
client_first_agrees moments timed =
    let p = client_first_is_over example_file_alone 0 moments file_alone_is_there.has in (p, has_agreed _ file_alone_is_there.fair moments timed _ _ p)
