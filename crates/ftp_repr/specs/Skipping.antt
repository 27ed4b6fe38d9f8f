-- Where a count of octets of a wire leads to in the file, in file structure and stream mode (RFC 959, section 3.5; RFC 3659,
-- section 5). In type A it counts octets as they go over the wire.
use Rattle.std.specs.Prelude.{◌≡◌, ℕ, ◌+◌, ◌<◌, ◌≤◌, List, length, take}
use Rattle.ftp_repr.specs.Signs.{wire_row}
use Rattle.ftp_settings.specs.declared.representation.Kind.{Kind}
use Rattle.ftp_repr.specs.declared.skipping.Skipped.{Skipped}
use Rattle.ftp_repr.specs.declared.skipping.Skipped.TheVariants.{Within, Left, Inside}

-- the first `place` octets of the file go as n octets
pub record IsPlaceOfOffset (k : Kind) (b : List ℕ) (n place : ℕ) : Type 0 where
  pub within : place ≤ length b
  pub goes : length (wire_row k (take place b)) ≡ n

-- where n octets lead to in a piece: to a place of it; past it, with so many left; or to none, since an octet that goes as
-- two is cut by them
abbrev pub Skips : Kind → List ℕ → ℕ → Skipped → Type 0
Skips k b n (Within place) = IsPlaceOfOffset k b n place
Skips k b n (Left more) = (0 < more) × (length (wire_row k b) + more ≡ n)
Skips k b n Inside = (n < length (wire_row k b)) × ((place : ℕ) → IsPlaceOfOffset k b n place → ⊥)

-- the same place, with so many octets of the file before the piece
abbrev pub further : ℕ → Skipped → Skipped
further len (Within place) = Within (len + place)
further len (Left more) = Left more
further len Inside = Inside
