-- What a reader gives and a writer takes, piece by piece, where that is known.
use Rattle.std.proofs.Common.{◌≡◌, ℕ, ◌+◌, List, [], ◌++◌, Option, length, refl, ◌∙◌, ap}
use Rattle.std.proofs.KnownBytes.{Appends-nil, Appends-trans, Consumes-nil, Consumes-trans}
use Rattle.std.proofs.lemmas.List.{length-append}
use Rattle.std.specs.Io.KnownBytes.{Appends, Consumes}
use Rattle.ftp_disk_host.specs.Copied.{Copies}

-- nothing is copied
pub Copies-none : (from to : Option (List ℕ)) → Copies 0 from from to to
Copies-none from to = ([], refl, Consumes-nil from, Appends-nil to)

-- one more piece is
pub Copies-more : (n m : ℕ) (a b c x y z : Option (List ℕ)) (piece : List ℕ) → Copies n a b x y → length piece ≡ m → Consumes b c piece → Appends y z piece
    → Copies (n + m) a c x z
Copies-more n m a b c x y z piece so_far long read written = (
  so_far.0 ++ piece,
  length-append so_far.0 piece ∙ ap (λ k. k + length piece) so_far.1 ∙ ap (λ k. n + k) long,
  Consumes-trans a b c so_far.0 piece so_far.2 read,
  Appends-trans x y z so_far.0 piece so_far.3 written,
)
