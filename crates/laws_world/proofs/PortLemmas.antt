-- The ports of a world are above 0, so the client may be told each.
use Rattle.std.proofs.Common.{◌≡◌, ℕ, ◌==◌, false, inl, inr, ap, arith}
use Rattle.std.specs.Prelude.{if◌then◌else◌}
use Rattle.std.proofs.lemmas.Bool.Decides.{eqb_tells}
use Rattle.ftp_client_model.specs.Calls.{listen_refused, listening, port_told}
use Rattle.ftp_client_model.specs.Failing.{listen_refused_short, listening_short, port_told_short}
use Rattle.ftp_client_model.specs.View.{View as Near}
use Rattle.laws_world.specs.World.{port_at}

-- a port of a world is not port 0
above_0 : (k : ℕ) → (port_at k == 0) ≡ false
above_0 k = elim (eqb_tells (port_at k) 0) [ inl is ↦ absurd (omega (arith, is.1)) | inr isnt ↦ isnt.0 ]

-- a client that is told a port of a world is told that it is there
pub told_port_at : (k : ℕ) (n : Near) → port_told (port_at k) n ≡ listening (port_at k) n
told_port_at k n = ap (λ b. if b then listen_refused n else listening (port_at k) n) (above_0 k)

-- so it is where it is short of memory
pub short_port_at : (k : ℕ) (n : Near) → port_told_short (port_at k) n ≡ listening_short (port_at k) n
short_port_at k n = ap (λ b. if b then listen_refused_short n else listening_short (port_at k) n) (above_0 k)
