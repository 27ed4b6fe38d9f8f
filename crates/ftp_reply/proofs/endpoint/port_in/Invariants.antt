use Rattle.std.proofs.Common.{ℕ, ◌<◌}
use Rattle.ftp_reply.specs.Values.{HasPortAt}
use Rattle.ftp_reply.proofs.endpoint.port_in.Given as goal

-- nothing stands at a place so far
abbrev pub invariant-loop-place : goal.invariant-loop-place
invariant-loop-place l = (earlier : ℕ) → earlier < l.place → (other : ℕ) → ¬ HasPortAt l.text earlier other
