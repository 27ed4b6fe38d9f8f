-- The laws of the reader over whole files, for each mode, type and structure.
use Rattle.std.proofs.Common.{◌≡◌, ℕ, ◌+◌, ◌<◌, ◌^◌, List, [], ◌∷◌, ◌++◌, map, length, refl, ap, sym, subst, ◌∙◌, append_assoc, append-nil}
use Rattle.ftp_pieces.specs.Machine.{gives, IsFront}
use Rattle.ftp_repr.specs.Signs.{Sign, octet, wire_octets, signs_of}
use Rattle.ftp_settings.specs.Representation.{Form}
use Rattle.ftp_repr.specs.Content.{content}
use Rattle.ftp_settings.specs.declared.representation.Kind.{Kind}
use Rattle.ftp_settings.specs.declared.representation.Structure.{Structure}
use Rattle.ftp_settings.specs.declared.representation.Structure.TheVariants.{File, Record}
use Rattle.ftp_pieces.proofs.MachineLemmas.{gives-front}
use Rattle.ftp_repr.proofs.SignLemmas.{whole-signs_of, signs_of-cons}
use Rattle.ftp_repr.proofs.ContentLemmas.{content-signs_of, content_front}
use Rattle.ftp_settings.specs.declared.representation.Mode.{Mode}
use Rattle.ftp_settings.specs.declared.representation.Mode.TheVariants.{Stream, Block as Blocks}
use Rattle.ftp_mode.specs.Said.{Said, says, marker, file_signs}
use Rattle.ftp_mode.specs.Block.{marked_text}
use Rattle.ftp_mode.specs.Units.{Reads}
use Rattle.ftp_mode.specs.Reading.{start, reader}
use Rattle.ftp_mode.specs.Wire.{wire, image_file}
use Rattle.ftp_mode.specs.Laws.{unsaid_end, settled_content, ended_content, EndsItself}
use Rattle.ftp_mode.proofs.ExactLemmas.{reads_to}
use Rattle.ftp_mode.proofs.TextLemmas.{row_said, file-row_said, record_is_text, IsPlainRow, plain_says, rows_are_text, text_is}
use Rattle.ftp_mode.proofs.WrittenLemmas.{image_signs}
use Rattle.ftp_mode.proofs.MarkedText.{marked_says}

-- in file structure a file is octets and the end of file
plain_octets : (w : List ℕ) (ss : List Sign) → IsPlainRow ss → IsPlainRow (map octet w ++ ss)
plain_octets [] ss h = h
plain_octets (c ∷ w) ss h = plain_octets w ss h

plain_file : (k : Kind) (b : List ℕ) → IsPlainRow (signs_of (record { kind = k; structure = File }) b)
plain_file k [] = refl
plain_file k (c ∷ b) =
    let P : List Sign → Type 0 = λ ss. IsPlainRow ss in
    subst P (sym (signs_of-cons (record { kind = k; structure = File }) c b)) (plain_octets (wire_octets k c) (signs_of (record { kind = k; structure = File }) b) (plain_file k b))

-- what is written reads as its signs
reads_by : (m : Mode) (k : Kind) (s : Structure) (b : List ℕ) → Reads m s (wire m (record { kind = k; structure = s }) b) (row_said (signs_of (record { kind = k; structure = s }) b))
reads_by Stream k File b = plain_says (signs_of (record { kind = k; structure = File }) b) (plain_file k b)
reads_by Stream k Record b =
    let f : Form = record { kind = k; structure = Record } in
    text_is Stream Record (wire Stream f b ++ []) (wire Stream f b) (row_said (signs_of f b)) (row_said (signs_of f b)) (append-nil (wire Stream f b)) refl
    (record_is_text (signs_of f b) [] (whole-signs_of f b))
reads_by Blocks k s b =
    let f : Form = record { kind = k; structure = s } in
    text_is Blocks s (wire Blocks f b ++ []) (wire Blocks f b) (row_said (signs_of f b)) (row_said (signs_of f b)) (append-nil (wire Blocks f b)) refl
    (rows_are_text s [] (signs_of f b) [] (whole-signs_of f b))

pub reads_wire : (m : Mode) (f : Form) (b : List ℕ) → Reads m f.structure (wire m f b) (map (λ x. says x) (signs_of f b))
reads_wire m f b = reads_by m f.kind f.structure b

behind_by : (m : Mode) (k : Kind) (s : Structure) (b more : List ℕ) → EndsItself m s
    → Reads m s (wire m (record { kind = k; structure = s }) b ++ more) (row_said (signs_of (record { kind = k; structure = s }) b))
behind_by Stream k File b more h = absurd h
behind_by Stream k Record b more h = let f : Form = record { kind = k; structure = Record } in record_is_text (signs_of f b) more (whole-signs_of f b)
behind_by Blocks k s b more h = let f : Form = record { kind = k; structure = s } in rows_are_text s [] (signs_of f b) more (whole-signs_of f b)

pub reads_behind : (m : Mode) (f : Form) (b more : List ℕ) → EndsItself m f.structure → Reads m f.structure (wire m f b ++ more) (map (λ x. says x) (signs_of f b))
reads_behind m f b more h = behind_by m f.kind f.structure b more h

-- the content of what reads as a file
content_of : (m : Mode) (f : Form) (b w : List ℕ) (said : List Said) → Reads m f.structure w said → file_signs said ≡ signs_of f b → ended_content m f w ≡ b
content_of m f b w said r e =
    ap (λ l. content f (file_signs l)) (sym (reads_to m f.structure w said r).says) ∙ ap (content f) e ∙ content-signs_of f b

pub again : (m : Mode) (f : Form) (b : List ℕ) → ended_content m f (wire m f b) ≡ b
again m f b = content_of m f b (wire m f b) (row_said (signs_of f b)) (reads_wire m f b) (file-row_said (signs_of f b))

pub again_behind : (m : Mode) (f : Form) (b more : List ℕ) → EndsItself m f.structure → ended_content m f (wire m f b ++ more) ≡ b
again_behind m f b more h = content_of m f b (wire m f b ++ more) (row_said (signs_of f b)) (reads_behind m f b more h) (file-row_said (signs_of f b))

pub marked_reads : (from : ℕ) (b more : List ℕ) → from + length b < 2 ^ 64
    → (said : List Said) × Reads Blocks File (marked_text from b ++ more) said × (file_signs said ≡ signs_of image_file b)
marked_reads from b more fits =
    let row = marked_says File from b more fits in (row.said, row.is, row.signs ∙ sym (image_signs b))

pub again_marked : (from : ℕ) (b more : List ℕ) → from + length b < 2 ^ 64 → ended_content Blocks image_file (marked_text from b ++ more) ≡ b
again_marked from b more fits =
    let r = marked_reads from b more fits in content_of Blocks image_file b (marked_text from b ++ more) r.0 r.1 r.2

-- a front of a wire settles a front of the file
file-append : (a b : List Said) → file_signs (a ++ b) ≡ file_signs a ++ file_signs b
file-append [] b = refl
file-append (says x ∷ a) b = ap (λ l. x ∷ l) (file-append a b)
file-append (marker text ∷ a) b = file-append a b

signs_front : (a b : List Said) → IsFront a b → IsFront (file_signs a) (file_signs b)
signs_front a b front = (file_signs front.0, sym (file-append a front.0) ∙ ap file_signs front.1)

front_end : (a b more : List Said) → IsFront a b → IsFront a (b ++ more)
front_end a b more front = (front.0 ++ more, sym (append_assoc a front.0 more) ∙ ap (λ l. l ++ more) front.1)

front_of : (m : Mode) (f : Form) (b w v : List ℕ) → IsFront w v → ended_content m f v ≡ b → IsFront (settled_content m f w) b
front_of m f b w v front is =
    let said = front_end (gives reader (start m f.structure) w) (gives reader (start m f.structure) v) (unsaid_end m f.structure) (gives-front reader (start m f.structure) w v front) in
    let P : List ℕ → Type 0 = λ l. IsFront (settled_content m f w) l in
    subst P is (content_front f (file_signs (gives reader (start m f.structure) w)) (file_signs (gives reader (start m f.structure) v ++ unsaid_end m f.structure))
    (signs_front (gives reader (start m f.structure) w) (gives reader (start m f.structure) v ++ unsaid_end m f.structure) said))

pub front_again : (m : Mode) (f : Form) (b w : List ℕ) → IsFront w (wire m f b) → IsFront (settled_content m f w) b
front_again m f b w front = front_of m f b w (wire m f b) front (again m f b)

pub front_marked : (from : ℕ) (b w : List ℕ) → from + length b < 2 ^ 64 → IsFront w (marked_text from b) → IsFront (settled_content Blocks image_file w) b
front_marked from b w fits front =
    front_of Blocks image_file b w (marked_text from b ++ []) (let P : List ℕ → Type 0 = λ l. IsFront w l in subst P (sym (append-nil (marked_text from b))) front) (again_marked from b [] fits)
