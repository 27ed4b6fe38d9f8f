-- Where a receiver stands.
use Rattle.std.proofs.Common.{◌≡◌, ◌≢◌, Bool, false, refl}
use Rattle.ftp_repr.specs.Received.{taking_at}
use Rattle.ftp_repr.specs.declared.receiver.Stage.{Stage}
use Rattle.ftp_repr.specs.declared.receiver.Stage.TheVariants.{Settled, Held, Over}

-- STAGES

abbrev pub held_at : Stage → Bool
held_at s = (taking_at s).held

abbrev pub ended_at : Stage → Bool
ended_at s = (taking_at s).ended

pub goes : (s : Stage) → s ≢ Over → ended_at s ≡ false
goes Settled going = refl
goes Held going = refl
goes Over going = absurd (going refl)
