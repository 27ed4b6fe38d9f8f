use Rattle.std.proofs.Common.{ℕ, ◌<◌}
use Rattle.ftp_endpoint.specs.declared.endpoint.Endpoint.{Endpoint}
use Rattle.ftp_reply.specs.Values.{HasSixAt}
use Rattle.ftp_reply.proofs.endpoint.six_in.Given as goal

-- nothing stands at a place so far
abbrev pub invariant-loop-place : goal.invariant-loop-place
invariant-loop-place l = (earlier : ℕ) → earlier < l.place → (other : Endpoint) → ¬ HasSixAt l.text earlier other
