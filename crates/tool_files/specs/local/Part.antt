-- What a file is called while it is written beside its name (own choice).
use Rattle.std.specs.Prelude.{ℕ, ◌++◌, ◌==◌, List, [], codes, decimal, if◌then◌else◌}

-- behind the name of the file stands `.ftp-part`, and for the second and those after it a number
abbrev pub numbered : ℕ → List ℕ
numbered number = if number == 0 then [] else codes "-" ++ decimal number

abbrev pub part_name : List ℕ → ℕ → List ℕ
part_name file number = file ++ codes ".ftp-part" ++ numbered number
