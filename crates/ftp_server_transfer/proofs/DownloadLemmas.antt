-- What of a file is given, piece by piece.
use Rattle.std.proofs.Common.{ℕ, ◌+◌, ◌-◌, ◌^◌, ◌≤◌, ◌<◌, ◌≡◌, ◌⊎◌, ◌↔◌, inl, inr, nat_le, true, false, Bool, List, [], ◌∷◌, ◌++◌, length, take, drop, IsTrue, refl, sym, subst, ap, ◌∙◌, arith, append_assoc}
use Rattle.std.specs.Prelude.{◌&&◌}
use Rattle.std.proofs.Math.Seq.{take-append-add, take-append_seam, drop-append_seam}
use Rattle.std.proofs.lemmas.Bool.{leb-true, leb-false, le-leb, false≢true}
use Rattle.std.proofs.lemmas.List.{take-append-drop, drop-drop, drop-append-le, drop_all, length-drop, length-take-le}
use Rattle.ftp_repr.specs.Signs.{signs_of}
use Rattle.ftp_repr.proofs.SignLemmas.{signs_of-cons}
use Rattle.ftp_settings.specs.Representation.{same_kind, same_structure, same_mode}
use Rattle.ftp_settings.specs.declared.representation.Kind.{Kind}
use Rattle.ftp_settings.specs.declared.representation.Kind.TheVariants.{Ascii, Image}
use Rattle.ftp_settings.specs.declared.representation.Structure.{Structure}
use Rattle.ftp_settings.specs.declared.representation.Structure.TheVariants.{File, Record}
use Rattle.ftp_settings.specs.declared.representation.Mode.{Mode}
use Rattle.ftp_settings.specs.declared.representation.Mode.TheVariants.{Stream, Block}
use Rattle.ftp_settings.specs.declared.representation.Representation.{Representation}
use Rattle.ftp_mode.specs.Stream.{plain_text}
use Rattle.ftp_mode.specs.Wire.{image_file}
use Rattle.ftp_server_model.specs.Counting.{TellsSome}
use Rattle.ftp_server_model.specs.Transfer.{file_wire}
use Rattle.ftp_server_transfer.specs.Download.{is_plain}
use Rattle.ftp_tree.specs.Change.{Failures, IsSteady, TellsOne}

-- ---- octets that go as they are

plain_is : (file : List ℕ) → plain_text (signs_of image_file file) ≡ file
plain_is [] = refl
plain_is (c ∷ file) = ap plain_text (signs_of-cons image_file c file) ∙ ap (λ l. c ∷ l) (plain_is file)

plain_by : (k : Kind) (s : Structure) (m : Mode) (at : ℕ) (file : List ℕ)
    → (same_kind k Image && same_structure s File && same_mode m Stream) ≡ true → file ≡ file_wire (record { kind = k; structure = s; mode = m }) at file
plain_by Image File Stream at file plain = sym (plain_is file)
plain_by Image File Block at file plain = absurd (false≢true plain)
plain_by Image Record m at file plain = absurd (false≢true plain)
plain_by Ascii s m at file plain = absurd (false≢true plain)

pub plain_wire : (r : Representation) (at : ℕ) (file : List ℕ) → is_plain r ≡ true → file ≡ file_wire r at file
plain_wire r at file plain = plain_by r.kind r.structure r.mode at file plain

-- a place in a file, and what is left behind it, can be counted
pub counts : (file : List ℕ) (at len : ℕ) → len ≡ length file → at < 2 ^ 64 → len < 2 ^ 64 → at + length (drop at file) < 2 ^ 64
counts file at len is place few = omega (arith, is, place, few, length-drop at file)

-- ---- a piece of the file

-- a piece of the file was put, of which so many octets were taken
pub piece_put : (old new : List ℕ → List ℕ) (file piece made : List ℕ) (at taken : ℕ) (last : Bool)
    → piece ≡ take (length piece) (drop at file) → taken ≤ length piece → (IsTrue last → length file ≤ at + length piece)
    → ((more : List ℕ) → (IsTrue last → more ≡ []) → old (piece ++ more) ≡ made ++ new (drop taken piece ++ more))
    → old (drop at file) ≡ made ++ new (drop (at + taken) file)
piece_put old new file piece made at taken last is few ends puts =
    let more = drop (length piece) (drop at file) in
    let whole : piece ++ more ≡ drop at file = ap (λ l. l ++ more) is ∙ take-append-drop (length piece) (drop at file) in
    let none : IsTrue last → more ≡ [] = λ end. drop-drop (length piece) at file ∙ drop_all (at + length piece) file (ends end) in
    let left : drop taken piece ++ more ≡ drop (at + taken) file =
    sym (drop-append-le taken piece more few) ∙ ap (drop taken) whole ∙ drop-drop taken at file in
    sym (ap old whole) ∙ puts more none ∙ ap (λ l. made ++ new l) left

-- octets that were read are in front of those that are left
pub read_as_is : (file room : List ℕ) (at count : ℕ) → take count room ≡ take count (drop at file) → drop at file ≡ take count room ++ drop (at + count) file
read_as_is file room at count is =
    sym (take-append-drop count (drop at file)) ∙ ap (λ l. l ++ drop count (drop at file)) (sym is) ∙ ap (λ l. take count room ++ l) (drop-drop count at file)

-- a piece that was read: how long it is, and whose octets it has
pub piece_len : (window piece : List ℕ) (count : ℕ) → piece ≡ take count window → count ≤ length window → length piece ≡ count
piece_len window piece count cut few = ap length cut ∙ length-take-le count window few

pub piece_of : (window octets piece : List ℕ) (count : ℕ) → piece ≡ take count window → count ≤ length window → take count window ≡ take count octets
    → piece ≡ take (length piece) octets
piece_of window octets piece count cut few is = cut ∙ is ∙ ap (λ n. take n octets) (sym (piece_len window piece count cut few))

-- something was made or taken of a piece: of one with octets, and of none at the end of the file while something is left
pub some_moves : {Done : Type 0} (old : List ℕ → List ℕ) (file piece : List ℕ) (at room made taken left : ℕ) → left ≡ length file - at
    → (at < length file → 0 < length piece) → 0 < room → 0 < length (old (drop at file))
    → (made ≡ room) ⊎ ((taken ≡ length piece) × (IsTrue (nat_le left (length piece)) → Done))
    → (IsTrue (nat_le left (length piece)) → 0 < room → 0 < length (old piece) → 0 < made) → 0 < taken + made
some_moves old file (octet ∷ piece) at room made taken left is some space more (inl full) ends = omega (arith, full, space)
some_moves old file (octet ∷ piece) at room made taken left is some space more (inr whole) ends = let same = whole.0 in omega (arith, same)
some_moves old file [] at room made taken left is some space more all ends = of (nat_le (length file) at) refl
  where
    of : (past : Bool) → nat_le (length file) at ≡ past → 0 < taken + made
    of true past =
        let end : length file ≤ at = leb-true (length file) at past in
        let none : drop at file ≡ [] = drop_all at file end in
        let last : IsTrue (nat_le left 0) = le-leb left 0 (omega (arith, is, end)) in
        let given : 0 < made = ends last space (subst (λ l. 0 < length (old l)) none more) in
        omega (arith, given)
    of false before = let here : 0 < 0 = some (leb-false (length file) at before) in omega (arith, here)

-- where the last piece ends
pub last_ends : (file : List ℕ) (at left len : ℕ) (size : ℕ) → left ≡ len - at → len ≡ length file → IsTrue (nat_le left size) → length file ≤ at + size
last_ends file at left len size is whole last = omega (arith, leb-true left size last, is, whole)

-- ---- what is given

-- more of it was made, behind what was made before
pub more_made : (all rest next : List ℕ) (room front behind : List ℕ) (made more : ℕ) → made ≤ length room → front ≡ take made room
    → all ≡ take made room ++ rest → rest ≡ take more behind ++ next → all ≡ take (made + more) (front ++ behind) ++ next
more_made all rest next room front behind made more within is before now =
    let long : length front ≡ made = ap length is ∙ length-take-le made room within in
    before ∙ ap (λ l. take made room ++ l) now ∙ sym (append_assoc (take made room) (take more behind) next)
    ∙ ap (λ l. l ++ next) (ap (λ l. l ++ take more behind) (sym is) ∙ sym (take-append-add front behind more) ∙ ap (λ n. take (n + more) (front ++ behind)) long)

-- so it is the front of all, and what is left is behind it
pub given_front : (all rest room : List ℕ) (made : ℕ) → made ≤ length room → all ≡ take made room ++ rest → (take made room ≡ take made all) × (rest ≡ drop made all)
given_front all rest room made few is =
    let long : length (take made room) ≡ made = length-take-le made room few in (
      sym (ap (take made) is ∙ ap (λ n. take n (take made room ++ rest)) (sym long) ∙ take-append_seam (take made room) rest),
      sym (ap (drop made) is ∙ ap (λ n. drop n (take made room ++ rest)) (sym long) ∙ drop-append_seam (take made room) rest),
    )

-- nothing is left behind the last octet
pub at_end : (file : List ℕ) (count at : ℕ) → count ≡ length file → IsTrue (nat_le count at) ↔ (drop at file ≡ [])
at_end file count at is = (
  (λ past. drop_all at file (omega (arith, leb-true count at past, is))),
  (λ none. le-leb count at (omega (arith, is, sym (length-drop at file) ∙ ap length none))),
)

-- the device did not fail
pub tells_none : (before after : Failures) → IsSteady before after → TellsSome 1 before after
tells_none before after is = ((0, omega arith, is.0), is.1)

-- the device failed once at most
pub tells_few : (lost : Bool) (before after : Failures) → (lost ≡ false → IsSteady before after) → (lost ≡ true → TellsOne before after) → TellsSome 1 before after
tells_few true before after steady failed = ((1, omega arith, (failed refl).0), (failed refl).1)
tells_few false before after steady failed = tells_none before after (steady refl)
