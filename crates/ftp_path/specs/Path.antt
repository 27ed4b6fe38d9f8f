-- Pathnames (RFC 959, section 5.3.2, a string of printable ASCII; RFC 2640, section 3.1, which has UTF-8 in its place). That `/`
-- stands between names, and what `.`, `..` and an empty component name, are own choices, as the standards leave them to the server.
use Rattle.std.specs.Prelude.{ℕ, ◌-◌, Bool, not, ◌&&◌, ◌||◌, ◌==◌, nat_le, List, [], ◌∷◌, ◌++◌, length, take, drop, fold, Option, Some, None, if◌then◌else◌, IsTrue, nat_eq}
use Rattle.std.specs.Cmp.Lexicographic.{slice_cmp, pointwise}
use Rattle.std.specs.List.{list_all, slice_split, starts_with}
use Rattle.std.specs.Ordering.{nat_cmp}
use Rattle.std.specs.Str.{is_utf8}
use Rattle.std.specs.declared.cmp.Ordering.{Ordering}
use Rattle.ftp_path.specs.declared.limits.TheConstants.{NAME_LIMIT, TEXT_LIMIT}

-- the octet between two names, `/`
abbrev pub slash : ℕ
slash = 47

abbrev pub is_slash : ℕ → Bool
is_slash octet = octet == slash

-- an octet of a pathname: no control, which 0 to 31 and 127 are
abbrev pub is_path_octet : ℕ → Bool
is_path_octet octet = nat_le 32 octet && not (octet == 127)

-- octets that a pathname may have: UTF-8 with no control (own choice)
abbrev pub is_text : List ℕ → Bool
is_text octets = is_utf8 octets && list_all is_path_octet octets

-- the most octets of a pathname, and of a name (own choices)
abbrev pub text_limit : ℕ
text_limit = TEXT_LIMIT

abbrev pub name_limit : ℕ
name_limit = NAME_LIMIT

-- a pathname as it comes in a command: such a text, not empty and within the limit
abbrev pub is_path_text : List ℕ → Bool
is_path_text text = nat_le 1 (length text) && nat_le (length text) text_limit && is_text text

-- a pathname as a server lists it: such a text, not empty, of any length (own choice), since a directory's pathname of the most octets
-- stands before the names of its files
abbrev pub is_listed_text : List ℕ → Bool
is_listed_text text = nat_le 1 (length text) && is_text text

abbrev pub IsPathText : List ℕ → Type 0
IsPathText text = IsTrue (is_path_text text)

-- an octet of a name: one of a pathname that is no `/`
abbrev pub is_name_octet : ℕ → Bool
is_name_octet octet = is_path_octet octet && not (is_slash octet)

-- what may stand between two `/` of a pathname: UTF-8 of such octets
abbrev pub is_part : List ℕ → Bool
is_part octets = is_utf8 octets && list_all is_name_octet octets

-- the octet `.`
abbrev pub dot : ℕ
dot = 46

-- a component that stays where it is: an empty one, or `.`
abbrev pub is_here : List ℕ → Bool
is_here component = (length component == 0) || pointwise nat_eq component (dot ∷ [])

-- a component that goes up to the parent: `..`
abbrev pub is_above : List ℕ → Bool
is_above component = pointwise nat_eq component (dot ∷ dot ∷ [])

-- a component that names something: not empty, not `.`, not `..`, else any text without a `/`
abbrev pub is_component : List ℕ → Bool
is_component component = not (is_here component) && not (is_above component) && is_part component

-- a name: such a component, within the limit
abbrev pub is_name : List ℕ → Bool
is_name name = is_component name && nat_le (length name) name_limit

-- the directory that a path stands in; the root's is the root
unfoldable pub parent : List (List ℕ) → List (List ℕ)
parent path = take (length path - 1) path

-- where one component leads from a path
abbrev pub followed : List (List ℕ) → List ℕ → List (List ℕ)
followed path component = if is_here component then path else (if is_above component then parent path else path ++ component ∷ [])

-- a text that starts at the root: one that begins with `/`
abbrev pub is_rooted : List ℕ → Bool
is_rooted text = starts_with nat_eq text (slash ∷ [])

-- the path that a text names, read from a path: its components, followed in turn from there or from the root; no tree is looked at
unfoldable pub resolved : List (List ℕ) → List ℕ → List (List ℕ)
resolved here text = fold followed (if is_rooted text then [] else here) (slice_split is_slash text)

-- each name with a `/` before it
abbrev pub joined : List (List ℕ) → List ℕ
joined [] = []
joined (name ∷ names) = slash ∷ (name ++ joined names)

-- the canonical text of a path: `/` for the root, else each name with a `/` before it
unfoldable pub text_of : List (List ℕ) → List ℕ
text_of [] = slash ∷ []
text_of (name ∷ names) = joined (name ∷ names)

-- a path within the limits: each name, and the canonical text
unfoldable pub fits : List (List ℕ) → Bool
fits path = list_all (λ name. nat_le (length name) name_limit) path && nat_le (length (text_of path)) text_limit

-- ---- paths beside each other

-- a path: the names on the way from the root
abbrev pub Names : Type 0
Names = List (List ℕ)

-- paths in the order of their names, and names in the order of their octets
abbrev pub path_cmp : Names → Names → Ordering
path_cmp = slice_cmp (slice_cmp nat_cmp)

-- the second path is the first or below it
unfoldable pub is_within : Names → Names → Bool
is_within above path = starts_with (pointwise nat_eq) path above

-- the name by which a directory calls a node that stands directly in it
abbrev pub only_name : Names → Option (List ℕ)
only_name [] = None
only_name (name ∷ []) = Some name
only_name (name ∷ next ∷ names) = None

unfoldable pub name_in : Names → Names → Option (List ℕ)
name_in above path = if is_within above path then only_name (drop (length above) path) else None

-- where a path leads once what stands at `from` is called `to`: below it the rest of the path is kept
unfoldable pub moved_path : Names → Names → Names → Names
moved_path from to path = if is_within from path then to ++ drop (length from) path else path
