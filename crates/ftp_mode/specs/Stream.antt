-- Stream mode: octets as they are in file structure, the escape octet 255 and its codes with records (RFC 959,
-- section 3.4.1).
use Rattle.std.specs.Prelude.{ℕ, List, [], ◌∷◌, ◌++◌, Bool, ◌||◌, if◌then◌else◌, ◌==◌}
use Rattle.ftp_repr.specs.Signs.{Sign, octet, end_record, end_file}
use Rattle.ftp_mode.specs.Said.{Said, says}
use Rattle.ftp_mode.specs.declared.escape.TheConstants.{ESCAPE, RECORD_CODE, FILE_CODE, BOTH_CODE}

-- the octets that may follow an escape octet
abbrev pub is_code : ℕ → Bool
is_code c = (c == ESCAPE) || ((c == RECORD_CODE) || ((c == FILE_CODE) || (c == BOTH_CODE)))

-- 255 is an octet 255, 1 an end of record, 2 the end of file, 3 both
abbrev pub code_said : ℕ → List Said
code_said c =
    if c == ESCAPE then says (octet ESCAPE) ∷ []
    else (if c == RECORD_CODE then says end_record ∷ []
    else (if c == FILE_CODE then says end_file ∷ [] else (if c == BOTH_CODE then says end_record ∷ says end_file ∷ [] else [])))

-- the codes that end the file
abbrev pub code_ends : ℕ → Bool
code_ends c = (c == FILE_CODE) || (c == BOTH_CODE)

-- a data octet: 255 is doubled
abbrev pub escaped_octet : ℕ → List ℕ
escaped_octet c = if c == ESCAPE then ESCAPE ∷ ESCAPE ∷ [] else c ∷ []

-- the text of a file in file structure: its octets
abbrev pub plain_text : List Sign → List ℕ
plain_text [] = []
plain_text (octet c ∷ ss) = c ∷ plain_text ss
plain_text (end_record ∷ ss) = plain_text ss
plain_text (end_file ∷ ss) = []

-- the text of a file with records: an end of record right before the end of file goes as one escape, and one that
-- nothing follows is not written yet
abbrev pub record_text : List Sign → List ℕ
record_text [] = []
record_text (octet c ∷ ss) = escaped_octet c ++ record_text ss
record_text (end_record ∷ []) = []
record_text (end_record ∷ octet c ∷ ss) = ESCAPE ∷ RECORD_CODE ∷ record_text (octet c ∷ ss)
record_text (end_record ∷ end_record ∷ ss) = ESCAPE ∷ RECORD_CODE ∷ record_text (end_record ∷ ss)
record_text (end_record ∷ end_file ∷ ss) = ESCAPE ∷ BOTH_CODE ∷ []
record_text (end_file ∷ ss) = ESCAPE ∷ FILE_CODE ∷ []
