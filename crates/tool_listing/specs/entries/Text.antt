-- A listing as text, line by line: entries, and lines that are none (own choice; RFC 3659, section 7).
use Rattle.std.specs.Prelude.{ℕ, ◌==◌, Bool, false, not, nat_eq, List, filter, is_none, Option, Some, None, codes}
use Rattle.std.specs.List.{after_first, filter_map, starts_with}
use Rattle.ftp_facts.specs.Fact.{space}
use Rattle.ftp_facts.specs.Listed.{Listed, entry_value}
use Rattle.ftp_facts.specs.Listing.{is_entry_shown}

-- the entries that lines of MLSD say, but those of the directory itself and of its parent
abbrev pub entries_of : List (List ℕ) → List Listed
entries_of lines = filter is_entry_shown (filter_map entry_value lines)

-- a line that says none
abbrev pub says_no_entry : List ℕ → Bool
says_no_entry line = is_none (entry_value line)

-- those, as they came
abbrev pub lines_without_entry : List (List ℕ) → List (List ℕ)
lines_without_entry lines = filter says_no_entry lines

-- an entry that is left out
abbrev pub is_left_out : Option Listed → Bool
is_left_out None = false
is_left_out (Some entry) = not (is_entry_shown entry)

-- a line that says one
abbrev pub is_aside : List ℕ → Bool
is_aside line = is_left_out (entry_value line)

-- the name in a line of MLSD that says no entry: what stands behind its first space (RFC 3659, section 7.2)
abbrev pub odd_name : List ℕ → List ℕ
odd_name line = after_first (λ octet. octet == space) line

-- a line of LIST that counts blocks, as `ls -l` begins
abbrev pub is_total : List ℕ → Bool
is_total line = starts_with nat_eq line (codes "total ")
