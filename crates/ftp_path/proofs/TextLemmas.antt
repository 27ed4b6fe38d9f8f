-- Texts in UTF-8: ASCII is, and what is cut at ASCII or joined is again.
use Rattle.std.proofs.Common.{ℕ, zero, suc, ◌+◌, ◌<◌, ◌≤◌, ◌≡◌, true, not, ◌&&◌, List, [], ◌∷◌, ◌++◌, length, take, drop, get_or, refl, arith, nat_le}
use mathlib.Core.Bool.{false≢true}
use Rattle.std.specs.Prelude.{⊤}
use Rattle.std.specs.Char.{encode_utf8}
use Rattle.std.specs.List.{list_all}
use Rattle.std.specs.Str.{IsAscii, chars, is_utf8}
use Rattle.std.proofs.lemmas.Bool.{and_parts, and_from, leb-true, le-leb}
use Rattle.std.proofs.lemmas.Bool.Decides.{nat_tests}
use Rattle.std.proofs.lemmas.Str.{IsUtf8-from_is_utf8, is_utf8-from_IsUtf8, IsUtf8-nil, IsUtf8-from_ascii, IsUtf8-append, IsUtf8-take, IsUtf8-drop, IsCharBoundary-before_ascii, IsCharBoundary-after_ascii}
use Rattle.ftp_path.specs.Path.{slash, dot, is_slash, is_path_octet, is_path_text, IsPathText, is_name_octet, is_part, is_here, is_above, is_component, is_name, text_limit}
use Rattle.ftp_path.specs.Printable.{is_printable, IsPrintableText, IsPrintableName}

-- ---- cut and joined

pub is_utf8-nil : is_utf8 [] ≡ true
is_utf8-nil = is_utf8-from_IsUtf8 [] IsUtf8-nil

pub is_utf8-append : (front back : List ℕ) → is_utf8 front ≡ true → is_utf8 back ≡ true → is_utf8 (front ++ back) ≡ true
is_utf8-append front back one two =
    is_utf8-from_IsUtf8 (front ++ back) (IsUtf8-append front back (IsUtf8-from_is_utf8 front one) (IsUtf8-from_is_utf8 back two))

-- what stands before an octet of ASCII is UTF-8, and so is what stands behind it
pub cut_before : (text : List ℕ) (end : ℕ) → is_utf8 text ≡ true → end < length text → get_or text end 0 < 128 → is_utf8 (take end text) ≡ true
cut_before text end valid inside ascii =
    is_utf8-from_IsUtf8 (take end text) (IsUtf8-take text end (IsUtf8-from_is_utf8 text valid) (IsCharBoundary-before_ascii text end inside ascii))

pub cut_behind : (text : List ℕ) (end : ℕ) → is_utf8 text ≡ true → end < length text → get_or text end 0 < 128 → is_utf8 (drop (end + 1) text) ≡ true
cut_behind text end valid inside ascii =
    let whole = IsUtf8-from_is_utf8 text valid in
    is_utf8-from_IsUtf8 (drop (end + 1) text) (IsUtf8-drop text (end + 1) whole (IsCharBoundary-after_ascii text end whole inside ascii))

-- ---- printable ASCII

printable-below : (octet : ℕ) → is_printable octet ≡ true → octet < 128
printable-below octet is =
    let most = leb-true octet 126 (and_parts (nat_le 32 octet) (nat_le octet 126) is).1 in
    omega arith

printable-octet : (octet : ℕ) → is_printable octet ≡ true → is_path_octet octet ≡ true
printable-octet octet is = grind (arith, nat_tests)

printable-ascii : (octets : List ℕ) → list_all is_printable octets ≡ true → IsAscii octets
printable-ascii [] all k = omega arith
printable-ascii (x ∷ xs) all zero = printable-below x (and_parts (is_printable x) (list_all is_printable xs) all).0
printable-ascii (x ∷ xs) all (suc k) = printable-ascii xs (and_parts (is_printable x) (list_all is_printable xs) all).1 k

printable-utf8 : (octets : List ℕ) → list_all is_printable octets ≡ true → is_utf8 octets ≡ true
printable-utf8 octets all = is_utf8-from_IsUtf8 octets (IsUtf8-from_ascii octets (printable-ascii octets all))

printable-octets : (octets : List ℕ) → list_all is_printable octets ≡ true → list_all is_path_octet octets ≡ true
printable-octets [] all = refl
printable-octets (x ∷ xs) all =
    let both = and_parts (is_printable x) (list_all is_printable xs) all in
    and_from _ _ (printable-octet x both.0) (printable-octets xs both.1)

pub printable-text : (text : List ℕ) → IsPrintableText text → IsPathText text
printable-text text is =
    and_from _ _ (and_from _ _ (le-leb 1 (length text) is.some) (le-leb (length text) text_limit is.short))
    (and_from _ _ (printable-utf8 text is.printable) (printable-octets text is.printable))

-- the text of the root
pub root-text : is_path_text (slash ∷ []) ≡ true
root-text = printable-text (slash ∷ []) (record { some = omega arith; short = omega arith; printable = refl })

-- `.` is a path text, though no name
pub dot-text : is_path_text (dot ∷ []) ≡ true
dot-text = printable-text (dot ∷ []) (record { some = omega arith; short = omega arith; printable = refl })

pub slash-utf8 : is_utf8 (slash ∷ []) ≡ true
slash-utf8 = printable-utf8 (slash ∷ []) refl

unslashed : (octets : List ℕ) → list_all (λ octet. is_printable octet && not (is_slash octet)) octets ≡ true
    → (list_all is_printable octets ≡ true) × (list_all is_name_octet octets ≡ true)
unslashed [] all = (refl, refl)
unslashed (x ∷ xs) all =
    let both = and_parts (is_printable x && not (is_slash x)) (list_all (λ octet. is_printable octet && not (is_slash octet)) xs) all in
    let here = and_parts (is_printable x) (not (is_slash x)) both.0 in
    let below = unslashed xs both.1 in
    (and_from _ _ here.0 below.0, and_from _ _ (and_from _ _ (printable-octet x here.0) here.1) below.1)

pub printable-name : (name : List ℕ) → IsPrintableName name → is_name name ≡ true
printable-name name is =
    let octets = unslashed name is.printable in
    let part : is_part name ≡ true = and_from _ _ (printable-utf8 name octets.0) octets.1 in
    and_from (is_component name) _ (and_from _ (is_part name) (and_from (not (is_here name)) _ is.not_here is.not_above) part) (le-leb (length name) 255 is.short)

-- ---- names

pub name_octets-path : (octets : List ℕ) → list_all is_name_octet octets ≡ true → list_all is_path_octet octets ≡ true
name_octets-path [] all = refl
name_octets-path (x ∷ xs) all =
    let both = and_parts (is_name_octet x) (list_all is_name_octet xs) all in
    and_from _ _ (and_parts (is_path_octet x) (not (is_slash x)) both.0).0 (name_octets-path xs both.1)

pub component-part : (name : List ℕ) → is_component name ≡ true → is_part name ≡ true
component-part name named = (and_parts (not (is_here name) && not (is_above name)) (is_part name) named).1

component-some : (name : List ℕ) → is_component name ≡ true → 1 ≤ length name
component-some [] named = absurd (false≢true named)
component-some (x ∷ xs) named = omega arith

pub name-text : (name : List ℕ) → is_name name ≡ true → IsPathText name
name-text name named =
    let both = and_parts (is_component name) (nat_le (length name) 255) named in
    let part = component-part name both.0 in
    let parts = and_parts (is_utf8 name) (list_all is_name_octet name) part in
    let short = leb-true (length name) 255 both.1 in
    and_from _ _ (and_from _ _ (le-leb 1 (length name) (component-some name both.0)) (le-leb (length name) text_limit (omega arith)))
    (and_from _ _ parts.0 (name_octets-path name parts.1))

-- what an answer unfolds to compute whether a text that is written out is one of a path
unfoldable pub path_on_literals : ⊤
unfolding chars encode_utf8 is_utf8
path_on_literals = tt
