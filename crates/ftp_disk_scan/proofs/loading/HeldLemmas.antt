-- A file has as many octets as it looked to have, whatever is held of it.
use Rattle.std.proofs.Common.{◌≡◌, ℕ, List, ◌++◌, length, replicate, arith}
use Rattle.std.proofs.lemmas.List.{length-append, length-take, length-replicate}
use Rattle.ftp_disk_scan.specs.loading.Held.{fit}

pub length_fit : (len : ℕ) (octets : List ℕ) → length (fit len octets) ≡ len
unfolding fit
length_fit len octets = omega (arith, length-take len (octets ++ replicate len 0), length-append octets (replicate len 0), length-replicate {A = ℕ} len 0)
