-- An entry of a directory, as it is kept and as it is lent.
use Rattle.std.specs.Prelude.{ℕ, List, Option}
use Rattle.std.specs.Option.{option_map}
use Rattle.ftp_tree.specs.declared.entries.Row.{Row}
use Rattle.ftp_tree.specs.declared.tree.DirEntry.{DirEntry}
use Rattle.ftp_tree.specs.declared.tree.FileFacts.{FileFacts}

-- of a file, its octets counted and its moment
abbrev pub shown_file : Option FileFacts → Option (ℕ × ℕ)
shown_file file = option_map (λ file. (file.size, file.moment.seconds)) file

-- its name, and that
abbrev pub shown_entry : DirEntry → List ℕ × Option (ℕ × ℕ)
shown_entry entry = (entry.name.octets.now, shown_file entry.file)

abbrev pub shown_row : {A : Type 0} → Row A → List ℕ × Option (ℕ × ℕ)
shown_row row = (row.name, shown_file row.file)
