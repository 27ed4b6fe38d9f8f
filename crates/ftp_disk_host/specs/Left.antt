-- How a file is called while it is written, and what an interrupted write left (own choice): by an octet that no name of a tree has.
use Rattle.std.specs.Prelude.{ℕ, Bool, ◌&&◌, ◌||◌, List, [], ◌∷◌, ◌++◌, codes, decimal, nat_eq}
use Rattle.std.specs.List.{starts_with, ends_with}

-- the last octet of each of these names
abbrev pub delete : ℕ
delete = 127

-- a name that ends in a number and that octet: `.ftp-writing-7` of the part of this number, `ftp-left-7` of one that was kept
abbrev pub numbered : List ℕ → ℕ → List ℕ
numbered name number = name ++ decimal number ++ delete ∷ []

-- a name of either form; a part had no number before
abbrev pub is_left_name : List ℕ → Bool
is_left_name name =
    ends_with nat_eq name (delete ∷ []) && (starts_with nat_eq name (codes ".ftp-writing") || starts_with nat_eq name (codes "ftp-left-"))
