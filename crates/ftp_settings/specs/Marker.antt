-- The text of a restart marker (RFC 959, sections 3.4.2 and 3.5).
use Rattle.std.specs.Prelude.{ℕ, ◌<◌, ◌≤◌, List, length, Bool, true, ◌≡◌, ◌&&◌, nat_le}
use Rattle.std.specs.List.{AllByRecursion}
use Rattle.ftp_settings.specs.declared.marker.TheConstants.{MARKER_LIMIT}

-- a printable octet other than space
abbrev pub is_marker_octet : ℕ → Bool
is_marker_octet c = nat_le 33 c && nat_le c 126

-- the text of a marker: 1 to 255 octets 33 to 126 (own choice: the limit)
pub record IsMarker (text : List ℕ) : Type 0 where
  pub some : 0 < length text
  pub short : length text ≤ MARKER_LIMIT
  pub each : AllByRecursion (λ c. is_marker_octet c ≡ true) text
