use Rattle.std.proofs.Common.{◌≡◌, ℕ, ◌<◌, true, get_or}
use Rattle.ftp_endpoint.specs.Host.{is_hex}
use Rattle.ftp_endpoint.proofs.host.hex_in_front.Given as goal

abbrev pub invariant-loop-i : goal.invariant-loop-i
invariant-loop-i l = (k : ℕ) → k < l.i → is_hex (get_or l.text k 0) ≡ true
