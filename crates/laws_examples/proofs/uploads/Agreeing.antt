-- Their answers agree, by the law of drives that are over.
use Rattle.std.proofs.Common.{ℕ}
use Rattle.laws_breaks.proofs.uploads.Ending.{cut_drives_agree}
use Rattle.laws_examples.specs.transfers.Example.{example_file_alone}
use Rattle.laws_examples.proofs.transfers.Fair.{file_alone_is_there}
use Rattle.laws_drivers.specs.events.Moments.{AreMoments}
use Rattle.laws_world.specs.Claims.{Beginning, IsFair}
use Rattle.laws_examples.specs.uploads.Example.{ClientFirstAgrees, HasAgreed, Moment, PassesAt, ServerAloneAgrees, ServerFirstAgrees, cut_asked}
use Rattle.laws_examples.proofs.uploads.Keeping.{server_first_is_over}
use Rattle.laws_examples.proofs.uploads.Sending.{client_first_is_over, server_alone_is_over}

-- of a session that is fair
has_agreed : (b : Beginning) → IsFair b → (moments : ℕ → ℕ) → AreMoments moments → (At : Moment) → (p : PassesAt b moments At) → HasAgreed p
has_agreed b fair moments timed At p = cut_drives_agree b fair moments timed cut_asked p.server p.over

pub client_first_agrees : ClientFirstAgrees
client_first_agrees moments timed =
    let there = file_alone_is_there in
    let p = client_first_is_over example_file_alone 0 moments there.has there.room in (p, has_agreed _ there.fair moments timed _ p)

pub server_alone_agrees : ServerAloneAgrees
server_alone_agrees moments timed =
    let there = file_alone_is_there in
    let p = server_alone_is_over example_file_alone 0 moments there.has there.room in (p, has_agreed _ there.fair moments timed _ p)

pub server_first_agrees : ServerFirstAgrees
server_first_agrees moments timed =
    let there = file_alone_is_there in
    let p = server_first_is_over example_file_alone 0 moments there.has there.room in (p, has_agreed _ there.fair moments timed _ p)
