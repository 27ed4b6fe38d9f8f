-- What a marker that was heard is: short, and within the limit of the upload.
use Rattle.std.proofs.Common.{◌≡◌, ℕ, ◌<◌, ◌≤◌, Bool, true, false, List, [], ◌∷◌, ◌++◌, length, Some, refl, ap, arith, length-append}
use Rattle.std.specs.Prelude.{if◌then◌else◌, ◌==◌, ◌&&◌, nat_lt}
use Rattle.std.proofs.lemmas.Bool.{ltb-true}
use Rattle.ftp_repr.specs.Signs.{Sign, end_record, end_file}
use Rattle.ftp_settings.specs.Marker.{is_marker_octet}
use Rattle.ftp_settings.specs.declared.marker.TheConstants.{MARKER_LIMIT}
use Rattle.ftp_mode.specs.Said.{Said, says, marker}
use Rattle.ftp_mode.specs.Block.{has, block_count, ends_of}
use Rattle.ftp_mode.specs.declared.descriptor.TheConstants.{END_OF_FILE, END_OF_RECORD, RESTART_MARKER}
use Rattle.ftp_mode.specs.declared.escape.TheConstants.{ESCAPE, RECORD_CODE, FILE_CODE, BOTH_CODE}
use Rattle.ftp_mode.specs.Reading.{Reading, going, failed, plain, outside, escaped, at_head, at_high, at_low, inside, marking, ended, read_out}
use Rattle.ftp_wire.specs.Decoder.{Decoder, decoded_octet}
use Rattle.ftp_wire.specs.Hearing.{Hears}
use Rattle.ftp_wire.specs.declared.decoded.Decoded.{Decoded}

-- the text of a marker that stands in front
first_text : List Said → List ℕ
first_text [] = []
first_text (says sign ∷ more) = []
first_text (marker text ∷ more) = text

-- it is short
abbrev IsShort : List Said → Type 0
IsShort said = length (first_text said) ≤ MARKER_LIMIT

none : IsShort []
unfolding first_text
none = omega arith

either : (b : Bool) (x y : List Said) → IsShort x → IsShort y → IsShort (if b then x else y)
either true x y p q = p
either false x y p q = q

sign_first : (sign : Sign) (more : List Said) → IsShort (says sign ∷ more)
unfolding first_text
sign_first sign more = omega arith

ends_short : (a b : Bool) → IsShort ((if a then says end_record ∷ [] else []) ++ (if b then says end_file ∷ [] else []))
ends_short true b = sign_first end_record (if b then says end_file ∷ [] else [])
ends_short false b = either b (says end_file ∷ []) [] (sign_first end_file []) none

mark_first : (text : List ℕ) (c : ℕ) (more : List Said) → length text < MARKER_LIMIT → IsShort (marker (text ++ c ∷ []) ∷ more)
unfolding first_text
mark_first text c more few = omega (arith, length-append text (c ∷ []), few)

last_of : (a b left : Bool) (text : List ℕ) (c : ℕ) (more : List Said) → nat_lt (length text) MARKER_LIMIT ≡ b
    → IsShort (if a && b then (if left then marker (text ++ c ∷ []) ∷ more else []) else [])
last_of false b left text c more few = none
last_of true false left text c more few = none
last_of true true left text c more few = either left (marker (text ++ c ∷ []) ∷ more) [] (mark_first text c more (ltb-true (length text) MARKER_LIMIT few)) none

short_said : (r : Reading) (c : ℕ) → IsShort (read_out r c)
short_said (failed fault) c = none
short_said (going n plain) c = sign_first _ []
short_said (going n outside) c = either (c == ESCAPE) [] _ none (sign_first _ [])
short_said (going n escaped) c =
    either (c == ESCAPE) _ _ (sign_first _ []) (either (c == RECORD_CODE) _ _ (sign_first end_record [])
    (either (c == FILE_CODE) _ _ (sign_first end_file []) (either (c == BOTH_CODE) _ _ (sign_first end_record (says end_file ∷ [])) none)))
short_said (going n at_head) c = none
short_said (going n (at_high d)) c = none
short_said (going n (at_low d high)) c =
    either (has d RESTART_MARKER) [] _ none (either (block_count high c == 0) (ends_of d) [] (ends_short (has d END_OF_RECORD) (has d END_OF_FILE)) none)
short_said (going n (inside d left)) c = sign_first _ (if left == 1 then ends_of d else [])
short_said (going n (marking d left text)) c = last_of (is_marker_octet c) (nat_lt (length text) MARKER_LIMIT) (left == 1) text c (ends_of d) refl
short_said (going n ended) c = none

short_text : (r : Reading) (c : ℕ) (text : List ℕ) (more : List Said) → read_out r c ≡ marker text ∷ more → length text ≤ MARKER_LIMIT
unfolding first_text
short_text r c text more is = omega (arith, short_said r c, ap (λ l. length (first_text l)) is)

-- a marker is short, and came within the limit
pub mark_fits : (most : ℕ) (d : Decoder) (octets : List ℕ) (held : ℕ) (text : List ℕ) (heard : Decoded) (new : Decoder) → length d.content ≤ most
    → Hears most d octets (Some held) text heard new → (held ≤ most) × (length text ≤ MARKER_LIMIT)
mark_fits most d [] held text heard new within h = absurd (cc)
mark_fits most d (octet ∷ []) held text heard new within h = (omega (arith, h.0.3, within), short_text d.reading octet text h.0.0 h.0.1)
mark_fits most d (octet ∷ next ∷ octets) held text heard new within h = mark_fits most (decoded_octet d octet) (next ∷ octets) held text heard new h.0.within h.1
