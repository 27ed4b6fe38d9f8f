-- What a reader gave, read by read.
use Rattle.std.proofs.Common.{◌≡◌, ℕ, List, ◌++◌, take, Option, Some, None, sym, ap, subst, ◌∙◌, append-nil}
use Rattle.std.proofs.KnownBytes.{Consumes-trans}
use Rattle.std.specs.Io.KnownBytes.{Consumes, Keeps}

pub kept_then : (a b c : Option (List ℕ)) (octets : List ℕ) → Keeps a b → Consumes b c octets → Consumes a c octets
kept_then None b c octets kept read = tt
kept_then (Some l) None c octets kept read = absurd kept
kept_then (Some l) (Some m) None octets kept read = absurd read
kept_then (Some l) (Some m) (Some n) octets kept read = sym kept ∙ read

-- more was read
pub more_read : (a b c : Option (List ℕ)) (text front new : List ℕ) → Consumes a b text → Consumes b c front → new ≡ text ++ front → Consumes a c new
more_read a b c text front new before read is = subst (λ l. Consumes a c l) (sym is) (Consumes-trans a b c text front before read)

-- nothing was read
pub none_read : (a b c : Option (List ℕ)) (text room : List ℕ) (count : ℕ) → Consumes a b text → Consumes b c (take count room) → count ≡ 0 → Consumes a c text
none_read a b c text room count before read none =
    more_read a b c text (take count room) text before read (sym (ap (λ n. text ++ take n room) none ∙ append-nil text))
