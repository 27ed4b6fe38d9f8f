-- What a row of signs says of a file, over whole rows.
use Rattle.std.specs.Prelude.{ℕ, List, [], ◌∷◌, ◌++◌}
use Rattle.ftp_repr.specs.Ascii.{plain, settled}
use Rattle.ftp_repr.specs.Signs.{Sign, octet, end_record, end_file}
use Rattle.ftp_settings.specs.Representation.{Form}
use Rattle.ftp_settings.specs.declared.representation.Kind.{Kind}
use Rattle.ftp_settings.specs.declared.representation.Kind.TheVariants.{Ascii, Image}
use Rattle.ftp_settings.specs.declared.representation.Structure.{Structure}
use Rattle.ftp_settings.specs.declared.representation.Structure.TheVariants.{File, Record}

-- octets of the wire up to an end that came, read
abbrev pub read_record : Kind → List ℕ → List ℕ
read_record Ascii w = plain w
read_record Image w = w

-- octets of the wire that were cut, read
abbrev pub read_cut : Kind → List ℕ → List ℕ
read_cut Ascii w = settled w
read_cut Image w = w

-- the file that a row of signs says, where these octets came since the last end of record that counts. Each record
-- and the tail is read by itself, with an LF for its end; in file structure ends of records are dropped and all
-- octets are read as one; nothing behind the end of file counts; and a row without one was cut
abbrev pub content_by : Kind → Structure → List ℕ → List Sign → List ℕ
content_by k s before [] = read_cut k before
content_by k s before (octet c ∷ ss) = content_by k s (before ++ c ∷ []) ss
content_by k File before (end_record ∷ ss) = content_by k File before ss
content_by k Record before (end_record ∷ ss) = read_record k before ++ 10 ∷ content_by k Record [] ss
content_by k s before (end_file ∷ ss) = read_record k before

abbrev pub content : Form → List Sign → List ℕ
content f ss = content_by f.kind f.structure [] ss

-- no end of file stands in a row
abbrev pub HasNoEnd : List Sign → Type 0
HasNoEnd [] = Unit {0}
HasNoEnd (octet c ∷ ss) = HasNoEnd ss
HasNoEnd (end_record ∷ ss) = HasNoEnd ss
HasNoEnd (end_file ∷ ss) = ⊥

-- the octets of a row up to its end of file, ends of records left out
abbrev pub data_of : List Sign → List ℕ
data_of [] = []
data_of (octet c ∷ ss) = c ∷ data_of ss
data_of (end_record ∷ ss) = data_of ss
data_of (end_file ∷ ss) = []
