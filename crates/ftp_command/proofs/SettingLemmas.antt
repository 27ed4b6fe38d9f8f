-- Where no case of a parameter fits.
use Rattle.std.proofs.Common.{◌≡◌, inl, inr, ℕ, List, [], Option, None, Some, codes}
use Rattle.ftp_command.specs.Argument.{IsOtherKind, IsOtherName, SaysKind, SaysLocal, SaysLongest, SaysSizes}
use Rattle.ftp_endpoint.specs.Number.{behind_digits}
use Rattle.ftp_command.specs.Verb.{SameLetters}
use Rattle.ftp_settings.specs.declared.representation.Kind.{Kind}
use Rattle.ftp_settings.specs.declared.representation.Kind.TheVariants.{Ascii, Image}

-- no type: none of the names, and no local size
pub no_kind : (text : List ℕ) → (SaysKind text Ascii → ⊥) → (SameLetters text (codes "I") → ⊥) → ((bits : ℕ) → SaysLocal text bits → ⊥) → (value : Kind) → SaysKind text value → ⊥
no_kind text a i l Ascii h = a h
no_kind text a i l Image (inl k) = i k
no_kind text a i l Image (inr k) = l 8 k

pub no_other : (text : List ℕ) → (IsOtherName text → ⊥) → ((bits : ℕ) → SaysLocal text bits → ⊥) → IsOtherKind text → ⊥
no_other text n l (inl k) = n k
no_other text n l (inr k) = l k.0 k.1

pub no_sizes : (text : List ℕ) → (behind_digits text ≡ [] → ⊥) → ((n : ℕ) → SaysLongest (behind_digits text) n → ⊥) → (octets : ℕ) (longest : Option ℕ) → SaysSizes text octets longest → ⊥
no_sizes text some none octets None h = some h.1
no_sizes text some none octets (Some n) h = none n h.1
