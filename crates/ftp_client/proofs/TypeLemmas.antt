-- Octets have eight bits.
use Rattle.std.proofs.Common.{ℕ, suc, ◌<◌, List, [], ◌∷◌, Fits, w8, get_or}
use Rattle.std.specs.List.{AllByRecursion}

pub all_octets : (octets : List ℕ) → ((i : ℕ) → Fits w8 (get_or octets i 0)) → AllByRecursion (λ octet. octet < 256) octets
all_octets [] fits = tt
all_octets (octet ∷ octets) fits = ((fits 0).fits, all_octets octets (λ i. fits (suc i)))
