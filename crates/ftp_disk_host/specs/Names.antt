-- The names in a directory, as a system lists them.
use Rattle.std.specs.Prelude.{ℕ, Bool, ◌==◌, ◌||◌, List, [], ◌∷◌, ◌++◌, length, codes, nat_eq, if◌then◌else◌}
use Rattle.std.specs.Cmp.Lexicographic.{pointwise}

-- no name, and those of the directory itself, `.`, and of the one that it is in, `..`
abbrev pub is_dots : List ℕ → Bool
is_dots name = (length name == 0) || pointwise nat_eq name (codes ".") || pointwise nat_eq name (codes "..")

-- a name of something that stands in it, and a NUL after it; else nothing
abbrev pub listed_name : List ℕ → List ℕ
listed_name name = if is_dots name then [] else name ++ 0 ∷ []
