-- Where the folder of a tree is on a system.
use Rattle.std.specs.Prelude.{◌==◌, ℕ, List, codes, length, if◌then◌else◌}

-- the text of the folder that a text asks for: the current one, `.`, for an empty text
abbrev pub folder_text : List ℕ → List ℕ
folder_text dir = if length dir == 0 then codes "." else dir
