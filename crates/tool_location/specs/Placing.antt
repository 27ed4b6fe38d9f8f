-- Where something goes whose name is known (own choice; RFC 959, section 5.3.2, leaves pathnames to the server).
use Rattle.std.specs.Prelude.{ℕ, ◌==◌, ◌||◌, ◌++◌, List, [], ◌∷◌, length, nat_eq, Bool, if◌then◌else◌}
use Rattle.std.specs.List.{after_last, ends_with}
use Rattle.tool_location.specs.Location.{slash}

-- nothing stands between both: one is empty, or the first ends in a slash
abbrev pub are_joined : List ℕ → List ℕ → Bool
are_joined root below = (length root == 0) || (length below == 0) || ends_with nat_eq root (slash ∷ [])

-- both, with a slash between them where there has to be one
abbrev pub joined : List ℕ → List ℕ → List ℕ
joined root below = root ++ (if are_joined root below then below else slash ∷ below)

-- a text that says no file but a directory: it is empty, or ends in a slash
abbrev pub says_directory : List ℕ → Bool
says_directory text = (length text == 0) || ends_with nat_eq text (slash ∷ [])

-- what a path ends in: all behind its last slash, or all where it has none
abbrev pub last_part : List ℕ → List ℕ
last_part path = after_last (λ octet. octet == slash) path

-- where a file goes of which a text says the place: into a directory by the last part of its own path, and else to the place itself
abbrev pub place_for : Bool → (target file : List ℕ) → List ℕ
place_for into target file = if into then joined target (last_part file) else target
