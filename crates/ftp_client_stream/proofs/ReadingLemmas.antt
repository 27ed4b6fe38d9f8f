-- Reads that were made again.
use Rattle.std.proofs.Common.{◌≡◌, ◌∙◌, ℕ, ◌<◌, List, length, take, Option, Some, None, Result, Ok, Err, refl, sym, ap}
use Rattle.std.specs.Io.KnownBytes.{Consumes, IsAtEnd, Keeps, ReadConsumes}

keeps_first : (a b c : Option (List ℕ)) (octets : List ℕ) → Keeps a b → Consumes b c octets → Consumes a c octets
keeps_first None b c octets keeps takes = tt
keeps_first (Some x) None c octets keeps takes = absurd keeps
keeps_first (Some x) (Some y) None octets keeps takes = absurd takes
keeps_first (Some x) (Some y) (Some z) octets keeps takes = sym keeps ∙ takes

keeps_both : (a b c : Option (List ℕ)) → Keeps a b → Keeps b c → Keeps a c
keeps_both None b c first then = tt
keeps_both (Some x) None c first then = absurd first
keeps_both (Some x) (Some y) None first then = absurd then
keeps_both (Some x) (Some y) (Some z) first then = then ∙ first

-- a read behind reads that took nothing is one read
pub reads_again : {E : Type 0} (a b c : Option (List ℕ)) (result : Result ℕ E) (room : List ℕ)
    → Keeps a b → ReadConsumes b c result room → ReadConsumes a c result room
reads_again a b c (Ok count) room keeps reads = (keeps_first a b c (take count room) keeps reads.0, reads.1)
reads_again a b c (Err error) room keeps reads = keeps_both a b c keeps reads

-- and so is one that took nothing either
pub keeps_again : {E : Type 0} (a b c : Option (List ℕ)) (error : E) (room : List ℕ)
    → Keeps a b → ReadConsumes b c (Err error) room → Keeps a c
keeps_again a b c error room keeps reads = keeps_both a b c keeps reads
