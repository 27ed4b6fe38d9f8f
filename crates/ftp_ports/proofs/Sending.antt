-- What a write takes off the octets that are on their way over a data connection.
use Rattle.std.proofs.Common.{◌≡◌, ◌∙◌, ◌≤◌, ℕ, ◌+◌, List, [], ◌++◌, length, take, drop, Option, Some, None, sym, ap, append_assoc, arith}
use Rattle.std.proofs.KnownBytes.{Appends-trans}
use Rattle.std.proofs.lemmas.List.{append-nil, drop-drop, drop_all, length-take-le, take-append-drop}
use Rattle.std.specs.Io.KnownBytes.{Appends, Keeps}
use Rattle.ftp_ports.specs.Carrying.{Sends}

-- so many were written, and the others still are on their way
pub sends_some : (old new : Option (List ℕ)) (at end n : ℕ) (room back : List ℕ) → back ≡ drop at (take end room) → Appends old new (take n back)
    → Sends old new (drop at (take end room)) (drop (at + n) (take end room))
sends_some old new at end n room back is wrote = (
  take n back,
  sym is ∙ sym (take-append-drop n back) ∙ ap (λ l. take n back ++ l) (ap (drop n) is ∙ drop-drop n at (take end room)),
  wrote,
)

-- all were written
pub sends_all : (old new : Option (List ℕ)) (at end : ℕ) (room back : List ℕ) → end ≤ length room → back ≡ drop at (take end room) → Appends old new back
    → Sends old new (drop at (take end room)) (drop end (take end room))
sends_all old new at end room back fits is wrote = (
  back,
  sym is ∙ sym (append-nil back) ∙ ap (λ l. back ++ l) (sym (drop_all end (take end room) (let e = length-take-le end room fits in omega (arith, e)))),
  wrote,
)

-- kept octets grew by none
pub keeps_appends : (old new : Option (List ℕ)) → Keeps old new → Appends old new []
keeps_appends None new kept = tt
keeps_appends (Some xs) None kept = absurd kept
keeps_appends (Some xs) (Some ys) kept = kept ∙ sym (append-nil xs)

-- none was written
pub sends_none : (old new : Option (List ℕ)) (before after : List ℕ) → Keeps old new → after ≡ before → Sends old new before after
sends_none old new before after kept same = ([], sym same, keeps_appends old new kept)

-- some were written, and then others
pub sends_then : (a b c : Option (List ℕ)) (xs ys zs : List ℕ) → Sends a b xs ys → Sends b c ys zs → Sends a c xs zs
sends_then a b c xs ys zs first second = (
  first.0 ++ second.0,
  first.1 ∙ ap (λ l. first.0 ++ l) second.1 ∙ sym (append_assoc first.0 second.0 zs),
  Appends-trans a b c first.0 second.0 first.2 second.2,
)
