-- How a path is kept: its names joined, each with a `/` before it.
use Rattle.std.specs.Prelude.{◌≡◌, ℕ, Bool, true, false, not, ◌&&◌, ◌==◌, if◌then◌else◌, List, [], ◌∷◌, drop, IsTrue}
use Rattle.std.specs.List.{list_all, slice_split}
use Rattle.ftp_path.specs.Path.{is_slash, is_component, joined, fits}

-- an octet other than `/`
abbrev pub is_no_slash : ℕ → Bool
is_no_slash octet = not (is_slash octet)

-- the names of a joined text
unfoldable pub names_of : List ℕ → List (List ℕ)
names_of text = drop 1 (slice_split is_slash text)

-- the text is some names joined, each a component that names something
pub record IsJoined (text : List ℕ) : Type 0 where
  pub whole : joined (names_of text) ≡ text
  pub components : IsTrue (list_all is_component (names_of text))

-- a path's text, within the limits
pub record IsKept (text : List ℕ) : Type 0 where
  pub joins : IsJoined text
  pub within : IsTrue (fits (names_of text))

-- a `/` ranks before each octet of a name, so that texts by the ranks of their octets compare as the names that they join
abbrev pub rank : ℕ → ℕ
rank octet = if is_slash octet then 0 else octet

-- the second text starts with the first, and ends there or goes on with a `/`
abbrev pub goes_on : List ℕ → List ℕ → Bool
goes_on [] [] = true
goes_on [] (octet ∷ octets) = is_slash octet
goes_on (x ∷ front) [] = false
goes_on (x ∷ front) (octet ∷ octets) = (x == octet) && goes_on front octets
