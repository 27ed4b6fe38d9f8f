-- The note beside a part of a download (own choice): three numbers of 18 digits, each with LF behind it, and the place of the file at its server.
use Rattle.std.specs.Prelude.{ℕ, ◌++◌, ◌&&◌, ◌||◌, Bool, nat_le, List, [], ◌∷◌, codes, decimal, length, take, drop, nat_eq, Option, Some, None, if◌then◌else◌}
use Rattle.std.specs.Cmp.Lexicographic.{pointwise}
use Rattle.ftp_facts.specs.Value.{and_then, number_value}
use Rattle.tool_files.specs.declared.local.note.Note.{Note}

-- the 18 digits from one octet on
abbrev pub field : ℕ → List ℕ → Option ℕ
field at text = number_value (take 18 (drop at text))

-- the size of the file at the server, the moment of its last change in seconds from 1970, and how many octets of it the part has
abbrev pub numbers_of : List ℕ → Option Note
numbers_of text =
    and_then (field 0 text) (λ size. and_then (field 19 text) (λ moment. and_then (field 38 text) (λ count.
    Some (record { size = size; moment = moment; count = count }))))

-- what a note says of the file at a place; none where it is a note of another one
abbrev pub note_value : List ℕ → List ℕ → Option Note
note_value text place = if pointwise nat_eq (drop 57 text) place then numbers_of text else None

-- digits with zeros before them, as many as these where there are not more digits, and LF
abbrev pub zeros_padded : (zeros digits : List ℕ) → List ℕ
zeros_padded zeros digits = drop (length digits) zeros ++ digits ++ 10 ∷ []

-- a number in 18 digits, or in more, and LF
abbrev pub number_line : ℕ → List ℕ
number_line number = zeros_padded (codes "000000000000000000") (decimal number)

-- the text of a note of the file at a place
abbrev pub note_text : Note → List ℕ → List ℕ
note_text note place = number_line note.size ++ number_line note.moment ++ number_line note.count ++ place

-- what stands for the count where the part grows still: it has as many octets as it has
abbrev pub growing : ℕ
growing = 999999999999999999

-- a part of so many octets is what its note says: it has just so many, or grows still, and has no more than the file
abbrev pub is_part_of : Note → ℕ → Bool
is_part_of note count = nat_eq note.count count || (nat_eq note.count growing && nat_le count note.size)
