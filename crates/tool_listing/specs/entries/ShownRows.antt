-- Worked rows: which texts are names, the columns of a listing for people, and JSON. Each is a theorem that computes.
use Rattle.std.specs.Prelude.{◌≡◌, true, false, codes, [], ◌∷◌, Some, None}
use Rattle.tool_listing.specs.entries.Json.{action_json, name_json, perm_member, size_member, stamped, string}
use Rattle.tool_listing.specs.entries.Lines.{is_listed, is_shown}
use Rattle.tool_listing.specs.entries.Long.{column, dated, size_text}
use Rattle.tool_listing.specs.entries.Name.{is_name}

-- names of single files, and others
abbrev pub NamesListed : Type 0
NamesListed =
    (is_name (codes "a") ≡ true)
    × (is_name (codes "..a") ≡ true)
    × (is_name [] ≡ false)
    × (is_name (codes ".") ≡ false)
    × (is_name (codes "..") ≡ false)
    × (is_name (codes "a/b") ≡ false)
    × (is_name (codes "/") ≡ false)
    × (is_listed (codes "pub") (codes "pub/a") ≡ true)
    × (is_listed (codes "pub") (codes "pub") ≡ true)
    × (is_listed (codes "pub") (codes "pub/..") ≡ false)
    × (is_listed (codes "pub") (codes "pub/a/b") ≡ false)
    × (is_listed [] (codes "/a") ≡ false)
    × (is_shown (codes "pub/a") (codes "pub/a") ≡ true)
    × (is_shown (codes "pub/a") (codes "pub/a/b/c") ≡ false)
    × (is_shown (codes "pub/a") (codes "../a") ≡ false)

-- the columns of a listing for people
abbrev pub ColumnsShown : Type 0
ColumnsShown =
    (column (codes "      ") (codes "1234") ≡ codes "  1234")
    × (column (codes "      ") (codes "1234567") ≡ codes "1234567")
    × (column (codes "   ") (size_text None) ≡ codes "  -")
    × (dated (codes "20000229235959") ≡ codes "2000-02-29 23:59:59")

-- lines for programs
abbrev pub JsonWritten : Type 0
JsonWritten =
    (string (codes "a \"b\" \\c") ≡ codes "\"a \\\"b\\\" \\\\c\"")
    × (string (9 ∷ 10 ∷ 27 ∷ []) ≡ codes "\"\\u0009\\u000a\\u001b\"")
    × (string (0xC3 ∷ 0xA9 ∷ 0x7F ∷ []) ≡ 34 ∷ 0xC3 ∷ 0xA9 ∷ 0x7F ∷ 34 ∷ [])
    × (stamped (codes "20000229235959") ≡ codes "2000-02-29T23:59:59Z")
    × (size_member None ≡ [])
    × (perm_member (Some (codes "elr")) ≡ codes ",\"perm\":\"elr\"")
    × (name_json (codes "pub") (codes "pub/a") ≡ codes "{\"name\":\"pub/a\"}\n")
    × (name_json [] (codes "..") ≡ [])
    × (action_json (codes "copy") (codes "d/a") ≡ codes "{\"deed\":\"copy\",\"path\":\"d/a\"}\n")
