-- A file as records (RFC 959, section 3.1.2.2).
use Rattle.std.specs.Prelude.{◌≡◌, ℕ, List, [], ◌∷◌, ◌++◌, map, false, ◌==◌}
use Rattle.std.specs.List.{flat_map, AllByRecursion}
use Rattle.ftp_repr.specs.Signs.{Sign, octet, end_record, end_file, wire_row}
use Rattle.ftp_repr.specs.Content.{read_record}
use Rattle.ftp_settings.specs.declared.representation.Kind.{Kind}

-- no octet is an LF
abbrev pub HasNoLine : List ℕ → Type 0
HasNoLine r = AllByRecursion (λ c. (c == 10) ≡ false) r

-- a record and the LF that ends it
abbrev pub record_line : List ℕ → List ℕ
record_line r = r ++ 10 ∷ []

-- the file is its records, an LF behind each, and then a tail; none of them has an LF
pub record IsRecords (b : List ℕ) (records : List (List ℕ)) (tail : List ℕ) : Type 0 where
  pub is : b ≡ flat_map record_line records ++ tail
  pub each : AllByRecursion HasNoLine records
  pub rest : HasNoLine tail

-- octets of the wire and an end of record
abbrev pub ended_record : List ℕ → List Sign
ended_record w = map octet w ++ end_record ∷ []

-- the signs of records and a tail: the octets of each as they go in this type, and the ends
abbrev pub signs_of_records : Kind → List (List ℕ) → List ℕ → List Sign
signs_of_records k records tail =
    flat_map (λ r. ended_record (wire_row k r)) records ++ (map octet (wire_row k tail) ++ end_file ∷ [])

-- records of the wire, each read by itself, and an LF for each end
abbrev pub read_records : Kind → List (List ℕ) → List ℕ
read_records k ws = flat_map (λ w. record_line (read_record k w)) ws
