-- Pathnames as RFC 959 has them, section 5.3.2: strings of printable ASCII.
use Rattle.std.specs.Prelude.{ℕ, ◌≤◌, Bool, not, ◌&&◌, nat_le, List, length, IsTrue}
use Rattle.std.specs.List.{list_all}
use Rattle.ftp_path.specs.Path.{is_slash, is_here, is_above, name_limit, text_limit}

-- printable ASCII or a space, 32 to 126
abbrev pub is_printable : ℕ → Bool
is_printable octet = nat_le 32 octet && nat_le octet 126

-- such a pathname, not empty and within the limit
pub record IsPrintableText (text : List ℕ) : Type 0 where
  pub some : 1 ≤ length text
  pub short : length text ≤ text_limit
  pub printable : IsTrue (list_all is_printable text)

-- such a name within the limit: not empty, not `.`, not `..`
pub record IsPrintableName (name : List ℕ) : Type 0 where
  pub printable : IsTrue (list_all (λ octet. is_printable octet && not (is_slash octet)) name)
  pub not_here : IsTrue (not (is_here name))
  pub not_above : IsTrue (not (is_above name))
  pub short : length name ≤ name_limit
