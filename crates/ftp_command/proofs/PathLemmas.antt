-- What is used of a path text: how many octets it has, and that none is a control.
use Rattle.std.proofs.Common.{◌≡◌, ◌≤◌, ◌&&◌, true, ℕ, List, length}
use Rattle.std.specs.Prelude.{nat_le}
use Rattle.std.specs.List.{list_all}
use Rattle.std.specs.Str.{is_utf8}
use Rattle.std.proofs.lemmas.Bool.{and_parts, leb-true}
use Rattle.ftp_path.specs.Path.{IsPathText, is_path_octet, is_text, text_limit}

-- 1 to 900 octets
lengths : (text : List ℕ) → IsPathText text → (nat_le 1 (length text) ≡ true) × (nat_le (length text) text_limit ≡ true)
lengths text is = and_parts (nat_le 1 (length text)) (nat_le (length text) text_limit) (and_parts (nat_le 1 (length text) && nat_le (length text) text_limit) (is_text text) is).0

pub path_some : (text : List ℕ) → IsPathText text → 1 ≤ length text
path_some text is = leb-true 1 (length text) (lengths text is).0

pub path_short : (text : List ℕ) → IsPathText text → length text ≤ text_limit
path_short text is = leb-true (length text) text_limit (lengths text is).1

pub path_plain : (text : List ℕ) → IsPathText text → list_all is_path_octet text ≡ true
path_plain text is =
    (and_parts (is_utf8 text) (list_all is_path_octet text) (and_parts (nat_le 1 (length text) && nat_le (length text) text_limit) (is_text text) is).1).1
