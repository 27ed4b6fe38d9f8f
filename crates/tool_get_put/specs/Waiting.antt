-- What files are called that wait until they are taken up (own choice).
use Rattle.std.specs.Prelude.{ℕ, List, ◌++◌, map, string_bytes}
use Rattle.tool_get_put.specs.declared.each.FilePair.{FilePair}

-- a download and a removal by the path at the server, an upload by the file here
abbrev pub path_in : FilePair → List ℕ
path_in pair = string_bytes pair.path

abbrev pub file_in : FilePair → List ℕ
file_in pair = string_bytes pair.file

-- names of a directory by their paths
abbrev pub paths_below : (dir : List ℕ) → (names : List (List ℕ)) → List (List ℕ)
paths_below dir names = map (λ name. dir ++ name) names
