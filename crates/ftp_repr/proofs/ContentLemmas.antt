-- The reader of signs gives what whole rows say, and the signs of a file say the file.
use Rattle.std.proofs.Common.{◌≡◌, ℕ, List, [], ◌∷◌, ◌++◌, map, Bool, false, ◌==◌, inl, inr, refl, ap, sym, subst, ◌∙◌, append_assoc, append-nil}
use Rattle.std.specs.List.{flat_map}
use Rattle.std.proofs.lemmas.Bool.{eqb-true}
use Rattle.std.proofs.lemmas.List.Concat.{flat_map-append}
use Rattle.ftp_pieces.specs.Machine.{gives, IsFront}
use Rattle.ftp_repr.specs.Ascii.{asc, plain}
use Rattle.ftp_repr.specs.Signs.{Sign, octet, end_record, end_file, wire_octets, wire_row, octet_signs, signs_of}
use Rattle.ftp_settings.specs.Representation.{Form}
use Rattle.ftp_repr.specs.Receiving.{Taking, receiving, ascii_gives, held_octets, fresh, over}
use Rattle.ftp_repr.specs.Content.{read_record, content_by, content}
use Rattle.ftp_settings.specs.declared.representation.Kind.{Kind}
use Rattle.ftp_settings.specs.declared.representation.Kind.TheVariants.{Ascii, Image}
use Rattle.ftp_settings.specs.declared.representation.Structure.{Structure}
use Rattle.ftp_settings.specs.declared.representation.Structure.TheVariants.{File, Record}
use Rattle.ftp_repr.proofs.AsciiLemmas.{decided, plain-nil, plain-asc}
use Rattle.ftp_pieces.proofs.MachineLemmas.{gives-front}
use Rattle.ftp_repr.proofs.SignLemmas.{signs_of-cons}
use Rattle.ftp_repr.proofs.TakingLemmas.{ascii_row, held_after, row_free, whole_free, row_more, held_more}

abbrev pub form : Kind → Structure → Form
form k s = record { kind = k; structure = s }

abbrev pub state : Bool → Taking
state h = record { held = h; ended = false }

-- behind the end nothing is given
pub gives-over : (f : Form) (ss : List Sign) → gives (receiving f) over ss ≡ []
gives-over f [] = refl
gives-over f (x ∷ ss) = gives-over f ss

ascii_content : (s : Structure) (before : List ℕ) (ss : List Sign)
    → ascii_row false before ++ gives (receiving (form Ascii s)) (state (held_after false before)) ss ≡ content_by Ascii s before ss
ascii_content s before [] = append-nil (ascii_row false before) ∙ row_free before
ascii_content s before (octet c ∷ ss) =
    sym (append_assoc (ascii_row false before) (ascii_gives (held_after false before) c) (gives (receiving (form Ascii s)) (state (c == 13)) ss))
    ∙ ap (λ l. l ++ gives (receiving (form Ascii s)) (state (c == 13)) ss) (sym (row_more false before c))
    ∙ ap (λ h. ascii_row false (before ++ c ∷ []) ++ gives (receiving (form Ascii s)) (state h) ss) (sym (held_more false before c))
    ∙ ascii_content s (before ++ c ∷ []) ss
ascii_content Record before (end_record ∷ ss) =
    let rest = gives (receiving (form Ascii Record)) (state false) ss in
    let held = held_octets (held_after false before) in
    ap (λ l. ascii_row false before ++ l) (append_assoc held (10 ∷ []) rest)
    ∙ sym (append_assoc (ascii_row false before) held (10 ∷ rest))
    ∙ ap (λ l. l ++ 10 ∷ rest) (whole_free before)
    ∙ ap (λ l. plain before ++ 10 ∷ l) (ascii_content Record [] ss)
ascii_content File before (end_record ∷ ss) = ascii_content File before ss
ascii_content s before (end_file ∷ ss) =
    ap (λ l. ascii_row false before ++ (held_octets (held_after false before) ++ l)) (gives-over (form Ascii s) ss)
    ∙ ap (λ l. ascii_row false before ++ l) (append-nil (held_octets (held_after false before)))
    ∙ whole_free before

image_content : (s : Structure) (before : List ℕ) (ss : List Sign)
    → before ++ gives (receiving (form Image s)) (state false) ss ≡ content_by Image s before ss
image_content s before [] = append-nil before
image_content s before (octet c ∷ ss) =
    sym (append_assoc before (c ∷ []) (gives (receiving (form Image s)) (state false) ss)) ∙ image_content s (before ++ c ∷ []) ss
image_content Record before (end_record ∷ ss) = ap (λ l. before ++ 10 ∷ l) (image_content Record [] ss)
image_content File before (end_record ∷ ss) = image_content File before ss
image_content s before (end_file ∷ ss) = ap (λ l. before ++ l) (gives-over (form Image s) ss) ∙ append-nil before

gives_by : (k : Kind) (s : Structure) (ss : List Sign) → gives (receiving (form k s)) fresh ss ≡ content (form k s) ss
gives_by Ascii s ss = ascii_content s [] ss
gives_by Image s ss = image_content s [] ss

-- the reader of signs gives what the whole row says
pub gives-receiving : (f : Form) (ss : List Sign) → gives (receiving f) fresh ss ≡ content f ss
gives-receiving f ss = gives_by f.kind f.structure ss

-- a front of a row says a front of the file
pub content_front : (f : Form) (ss ts : List Sign) → IsFront ss ts → IsFront (content f ss) (content f ts)
content_front f ss ts front =
    let cut = gives-front (receiving f) fresh ss ts front in
    (cut.0, ap (λ l. l ++ cut.0) (sym (gives-receiving f ss)) ∙ cut.1 ∙ gives-receiving f ts)

pub content_octets : (k : Kind) (s : Structure) (before w : List ℕ) (ss : List Sign) → content_by k s before (map octet w ++ ss) ≡ content_by k s (before ++ w) ss
content_octets k s before [] ss = ap (λ l. content_by k s l ss) (sym (append-nil before))
content_octets k s before (c ∷ w) ss =
    content_octets k s (before ++ c ∷ []) w ss ∙ ap (λ l. content_by k s l ss) (append_assoc before (c ∷ []) w)

pub image_row : (p : List ℕ) → flat_map (λ c. c ∷ []) p ≡ p
image_row [] = refl
image_row (c ∷ p) = ap (λ l. c ∷ l) (image_row p)

-- what octets went as is read again
pub record_again : (k : Kind) (p : List ℕ) → read_record k (wire_row k p) ≡ p
record_again Ascii p = ap plain (sym (append-nil (asc p))) ∙ plain-asc p [] ∙ ap (λ l. p ++ l) plain-nil ∙ append-nil p
record_again Image p = image_row p

wire_row_more : (k : Kind) (p : List ℕ) (c : ℕ) → wire_row k p ++ wire_octets k c ≡ wire_row k (p ++ c ∷ [])
wire_row_more k p c =
    ap (λ l. wire_row k p ++ l) (sym (append-nil (wire_octets k c))) ∙ sym (flat_map-append (wire_octets k) p (c ∷ []))

-- an octet that goes as octets
content_unit : (k : Kind) (s : Structure) (p : List ℕ) (c : ℕ) (ss : List Sign)
    → content_by k s (wire_row k p) (map octet (wire_octets k c) ++ ss) ≡ content_by k s (wire_row k (p ++ c ∷ [])) ss
content_unit k s p c ss = content_octets k s (wire_row k p) (wire_octets k c) ss ∙ ap (λ l. content_by k s l ss) (wire_row_more k p c)

abbrev pub Again : Kind → Structure → List ℕ → List ℕ → Type 0
Again k s b p = content_by k s (wire_row k p) (signs_of (form k s) b) ≡ p ++ b

content_step : (k : Kind) (s : Structure) (p : List ℕ) (c : ℕ) (b : List ℕ) → ((q : List ℕ) → Again k s b q)
    → content_by k s (wire_row k p) (octet_signs k s c ++ signs_of (form k s) b) ≡ p ++ c ∷ b
content_step k File p c b again = content_unit k File p c (signs_of (form k File) b) ∙ again (p ++ c ∷ []) ∙ append_assoc p (c ∷ []) b
content_step k Record p c b again =
    let rest = signs_of (form k Record) b in
    elim (decided (c == 10)) [
      | inl e ↦ (let P : ℕ → Type 0 = λ n. content_by k Record (wire_row k p) (octet_signs k Record n ++ rest) ≡ p ++ n ∷ b in
          subst P (sym (eqb-true c 10 e)) (ap (λ l. l ++ 10 ∷ content_by k Record [] rest) (record_again k p) ∙ ap (λ l. p ++ 10 ∷ l) (again [])))
      | inr e ↦ ap (λ s. content_by k Record (wire_row k p) (s ++ rest)) (let other : octet_signs k Record c ≡ map octet (wire_octets k c) = rw e refl in other)
          ∙ content_unit k Record p c rest ∙ again (p ++ c ∷ []) ∙ append_assoc p (c ∷ []) b
    ]

content_again : (k : Kind) (s : Structure) (b p : List ℕ) → Again k s b p
content_again k s [] p = record_again k p ∙ sym (append-nil p)
content_again k s (c ∷ b) p =
    ap (content_by k s (wire_row k p)) (signs_of-cons (form k s) c b) ∙ content_step k s p c b (content_again k s b)

-- the signs of a file say the file, in each type and structure
pub content-signs_of : (f : Form) (b : List ℕ) → content f (signs_of f b) ≡ b
content-signs_of f b = content_again f.kind f.structure b []
