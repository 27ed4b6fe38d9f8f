-- The answers to markers: each can be written, and its number is read back.
use Rattle.std.proofs.Common.{◌≡◌, ℕ, ◌+◌, ◌≤◌, List, [], ◌∷◌, ◌++◌, length, Bool, true, false, not, ◌&&◌, ◌==◌, nat_le, Option, Some, refl, arith, le-leb}
use Rattle.std.specs.Prelude.{codes, decimal, sum_by}
use Rattle.std.specs.List.{AllByRecursion, list_all}
use Rattle.std.proofs.lemmas.Bool.{and_parts, leb-true}
use Rattle.std.proofs.lemmas.Bool.Decides.{nat_tests}
use Rattle.std.proofs.lemmas.List.{map-append}
use Rattle.std.proofs.lemmas.List.Elements.{All-nil}
use Rattle.std.proofs.lemmas.List.Sums.{count_by-le-length}
use Rattle.ftp_nvt.specs.Lines.{IsNoneOf}
use Rattle.ftp_command.proofs.CarriedLemmas.{Fits, is_plain, all_plain, decimal_fits, fits_both, fits_with}
use Rattle.ftp_endpoint.proofs.WrittenLemmas.{says_number}
use Rattle.ftp_ends.specs.Reply.{CanBeCarried, IsWritten}
use Rattle.ftp_reply.specs.Lines.{AreWithin, joined}
use Rattle.ftp_reply.specs.Reply.{begins_with_digits, code_text, last_line}
use Rattle.ftp_reply.specs.Values.{is_marker, mark_value}
use Rattle.ftp_reply.proofs.MarkValueLemmas.{says_mark}
use Rattle.ftp_settings.specs.Marker.{is_marker_octet}
use Rattle.laws_dialogues.specs.Stage.{AreWritten}
use Rattle.laws_dialogues.specs.Uploads.{AreNotes, IsNote, Note, last_held, note_replies, note_reply}

-- the text of an answer
abbrev note_text : Note → List ℕ
note_text note = codes "MARK " ++ (note.theirs ++ (codes " = " ++ decimal note.held))

-- ---- it can be written

-- a text of octets that are no ends of lines has none
lacks : (text : List ℕ) → AllByRecursion (λ c. is_plain c ≡ true) text → IsNoneOf 10 text
lacks [] all = tt
lacks (c ∷ text) all = (no_feed (c == 10) (c == 13) all.0, lacks text all.1)
  where
    no_feed : (a b : Bool) → (not a && not b) ≡ true → a ≡ false
    no_feed false b is = refl
    no_feed true b is = absurd (let e : false ≡ true = is in cc)

-- such a text, not too long, is carried
carried : (most : ℕ) (text : List ℕ) → most ≤ 2000 → Fits most text → CanBeCarried text
carried most text small fits = (lacks text fits.plain, omega (arith, count_by-le-length (λ c. c == 13) text, fits.short, small))

-- a closed text
closed : (most : ℕ) (text : List ℕ) → list_all is_plain text ≡ true → length text ≤ most → Fits most text
closed most text plain short = record { plain = all_plain is_plain (λ c here. here) text plain; short = short }

-- a visible octet ends no line
octet_plain : (c : ℕ) → is_marker_octet c ≡ true → is_plain c ≡ true
octet_plain c is = plain_from (leb-true 33 c (and_parts (nat_le 33 c) (nat_le c 126) is).0)
  where
    plain_from : 33 ≤ c → is_plain c ≡ true
    plain_from low = grind (arith, nat_tests)

-- a marker is a text without ends of lines
marker_fits : (text : List ℕ) → is_marker text ≡ true → Fits 255 text
marker_fits text is =
    let parts = and_parts (nat_le 1 (length text) && nat_le (length text) 255) (list_all is_marker_octet text) is in
    record {
      plain = all_plain is_marker_octet octet_plain text parts.1;
      short = leb-true (length text) 255 (and_parts (nat_le 1 (length text)) (nat_le (length text) 255) parts.0).1;
    }

-- so is the whole text
note_fits : (note : Note) → IsNote note → Fits (5 + (255 + (3 + 18))) (note_text note)
note_fits note is =
    fits_both 5 (255 + (3 + 18)) (codes "MARK ") (note.theirs ++ (codes " = " ++ decimal note.held)) (closed 5 (codes "MARK ") refl (omega arith))
    (fits_both 255 (3 + 18) note.theirs (codes " = " ++ decimal note.held) (marker_fits note.theirs is.0)
    (fits_both 3 18 (codes " = ") (decimal note.held) (closed 3 (codes " = ") refl (omega arith)) (decimal_fits note.held is.1)))

-- an answer can be written
pub note_written : (note : Note) → IsNote note → IsWritten 110 (note_text note ∷ [])
note_written note is =
    let fits = note_fits note is in
    let line : Fits 285 (last_line 110 (note_text note)) = fits_both 3 282 (code_text 110) (32 ∷ note_text note) (closed 3 (code_text 110) refl (omega arith)) (fits_with 281 32 (note_text note) refl (wider fits)) in
    record {
      code_is = record { low = omega arith; high = omega arith };
      some = omega arith;
      within = within (omega (arith, fits.short));
      plain = All-nil (λ line. begins_with_digits line ≡ false);
      carried = (carried 285 (last_line 110 (note_text note)) (omega arith) line, tt);
    }
  where
    wider : Fits (5 + (255 + (3 + 18))) (note_text note) → Fits 281 (note_text note)
    wider fits = record { plain = fits.plain; short = omega (arith, fits.short) }

    both : (a b : Bool) → a ≡ true → b ≡ true → (a && b) ≡ true
    both a b one other = rw (one, other) refl

    within : length (note_text note) ≤ 281 → AreWithin (note_text note ∷ [])
    within short = both (nat_le 1 64) (nat_le (sum_by length (note_text note ∷ [])) 8192) refl (le-leb (sum_by length (note_text note ∷ [])) 8192 (omega (arith, short)))

-- so can answers
pub notes_written : (notes : List Note) → AreNotes notes → AreWritten (note_replies notes)
notes_written [] are = tt
notes_written (note ∷ more) are = (note_written note are.0, notes_written more are.1)

-- ---- its number is read back

-- the client reads the octets held
pub note_read : (note : Note) → IsNote note → mark_value (joined (note_text note ∷ [])) ≡ Some note.held
note_read note is =
    says_mark (note_text note) note.held (record { theirs = note.theirs; digits = decimal note.held; marker = is.0; number = says_number note.held is.1; text_is = refl })

-- ---- rows of answers

-- those of two rows
pub replies-append : (xs ys : List Note) → note_replies (xs ++ ys) ≡ note_replies xs ++ note_replies ys
replies-append xs ys = map-append note_reply xs ys

-- each of two rows
pub notes_both : (xs ys : List Note) → AreNotes xs → AreNotes ys → AreNotes (xs ++ ys)
notes_both [] ys are other = other
notes_both (x ∷ xs) ys are other = (are.0, notes_both xs ys are.1 other)

-- the last of two rows
pub last_held-append : (mark : Option ℕ) (xs ys : List Note) → last_held mark (xs ++ ys) ≡ last_held (last_held mark xs) ys
last_held-append mark [] ys = refl
last_held-append mark (x ∷ xs) ys = last_held-append (Some x.held) xs ys
