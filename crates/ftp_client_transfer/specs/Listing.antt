-- The entries of a listing that count.
use Rattle.std.specs.Prelude.{List, [], ◌∷◌, ◌++◌, if◌then◌else◌}
use Rattle.ftp_facts.specs.Listed.{Listed}
use Rattle.ftp_facts.specs.Listing.{is_entry_shown}

-- these, and one more if it counts
abbrev pub kept : List Listed → Listed → List Listed
kept seen entry = if is_entry_shown entry then seen ++ entry ∷ [] else seen
