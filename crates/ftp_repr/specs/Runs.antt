-- A run of octets in front of the first that stops it.
use Rattle.std.specs.Prelude.{◌≡◌, ℕ, ◌<◌, ◌≤◌, List, length, take, get_or, Bool, true, false, ◌||◌, ◌==◌}
use Rattle.std.specs.List.{AllByRecursion}
use Rattle.ftp_settings.specs.declared.representation.Kind.{Kind}
use Rattle.ftp_settings.specs.declared.representation.Kind.TheVariants.{Ascii, Image}
use Rattle.ftp_settings.specs.declared.representation.Structure.{Structure}
use Rattle.ftp_settings.specs.declared.representation.Structure.TheVariants.{File, Record}

-- the octets that are not sent as themselves (RFC 959, sections 3.1.1.1 and 3.1.2.2)
abbrev pub is_changed : Kind → Structure → ℕ → Bool
is_changed Ascii s c = (c == 10) || (c == 13)
is_changed Image Record c = c == 10
is_changed Image File c = false

-- the first n octets do not stop, and the next does
pub record IsRun (stops : ℕ → Bool) (w : List ℕ) (n : ℕ) : Type 0 where
  pub within : n ≤ length w
  pub others : AllByRecursion (λ c. stops c ≡ false) (take n w)
  pub next : n < length w → stops (get_or w n 0) ≡ true
