-- Which texts are names of single files (own choice).
use Rattle.std.specs.Prelude.{ℕ, ◌==◌, ◌&&◌, Bool, false, not, List, [], ◌∷◌, length}
use Rattle.std.specs.List.{list_all}

-- `.` and `..`, which name a directory and the one above
abbrev pub is_dots : List ℕ → Bool
is_dots [] = false
is_dots (first ∷ []) = first == 46
is_dots (first ∷ second ∷ []) = first == 46 && second == 46
is_dots (first ∷ second ∷ third ∷ rest) = false

-- an octet that is no slash
abbrev pub is_no_slash : ℕ → Bool
is_no_slash octet = not (octet == 47)

-- a text that is the name of one file in a directory: not empty, neither `.` nor `..`, and without a slash
abbrev pub is_name : List ℕ → Bool
is_name name = not (length name == 0) && not (is_dots name) && list_all is_no_slash name
