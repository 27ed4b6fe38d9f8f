-- The one text of a file, with markers or without: no octet of it meets a fault, and each says signs of the file, or one marker before them.
use Rattle.std.proofs.Common.{◌≡◌, ◌⊎◌, inl, inr, ℕ, ◌+◌, ◌<◌, ◌≤◌, ◌^◌, List, [], ◌∷◌, ◌++◌, length, Bool, true, false, ◌&&◌, nat_le, Option, None, refl, sym, ap, subst, ◌∙◌, map, arith, le-leb, length-append, append-nil}
use Rattle.std.specs.Prelude.{if◌then◌else◌, ◌==◌, nat_lt}
use Rattle.std.specs.List.{AllByRecursion, list_all}
use Rattle.ftp_pieces.specs.Machine.{after, gives}
use Rattle.ftp_mode.specs.Block.{Block, IsBlock, block_said, block_count, ends_of, has, marked_text, octets_of}
use Rattle.ftp_mode.specs.Laws.{unsaid_end}
use Rattle.ftp_mode.specs.Reading.{Place, plain, outside, escaped, at_head, at_high, at_low, inside, marking, ended as passed, Reading, going, failed, place_out, read_out, reader, start}
use Rattle.ftp_mode.specs.Said.{Said, says, marker, octets_said}
use Rattle.ftp_mode.specs.Units.{GoesOn, IsText, IsUnit, WireUnit, one as an_octet, escape as an_escape, whole as a_block, unit_said, units_said}
use Rattle.ftp_mode.specs.Wire.{wire}
use Rattle.ftp_mode.specs.declared.descriptor.TheConstants.{END_OF_RECORD, END_OF_FILE, RESTART_MARKER}
use Rattle.ftp_mode.proofs.ExactLemmas.{reads_to}
use Rattle.ftp_mode.proofs.LawLemmas.{marked_reads, reads_wire}
use Rattle.ftp_mode.proofs.ReaderRuns.{failed_after}
use Rattle.ftp_reply.specs.Values.{is_marker}
use Rattle.ftp_repr.specs.Receiving.{receiving}
use Rattle.ftp_repr.specs.Signs.{Sign, end_record, end_file, signs_of}
use Rattle.ftp_settings.specs.Marker.{IsMarker, is_marker_octet}
use Rattle.ftp_settings.specs.Representation.{form_of}
use Rattle.ftp_settings.specs.declared.representation.Mode.TheVariants as Modes
use Rattle.ftp_settings.specs.declared.representation.Representation.{Representation}
use Rattle.ftp_settings.specs.declared.representation.Structure.TheVariants as Structures
use Rattle.ftp_wire.specs.Decoder.{Decoder, image_blocks, no_octets, with_sign, with_all, read_on, octet_says, decoded_octet, decoded, fault_in, fault_of, is_ended_in, is_whole}
use Rattle.ftp_wire.proofs.DecoderLemmas.{decodes}
use Rattle.ftp_wire.proofs.WireLemmas.{marked_wire_gives_file, wire_gives_file}
use Rattle.laws_world.specs.Outcome.{mmmm_in, reached}
use Rattle.laws_dialogues.proofs.Sound.{by_bool}

-- signs alone
abbrev pub IsSigns : List Said → Type 0
IsSigns [] = Unit {0}
IsSigns (says sign ∷ more) = IsSigns more
IsSigns (marker text ∷ more) = ⊥

-- each marker is the text of one
abbrev AreMarkers : List Said → Type 0
AreMarkers [] = Unit {0}
AreMarkers (says sign ∷ more) = AreMarkers more
AreMarkers (marker text ∷ more) = IsMarker text × AreMarkers more

-- a marker, and then signs
pub record IsMarked (said : List Said) : Type 0 where
  pub text : List ℕ
  pub more : List Said
  pub is : said ≡ marker text ∷ more
  pub fine : is_marker text ≡ true
  pub signs : IsSigns more

-- octets that a decoder takes without a fault, each of which says signs alone, or a marker and then signs
abbrev pub ReadsWell : Decoder → List ℕ → Type 0
ReadsWell d [] = Unit {0}
ReadsWell d (octet ∷ octets) = (fault_of (read_on d octet) ≡ None) × (IsSigns (octet_says d octet) ⊎ IsMarked (octet_says d octet)) × ReadsWell (decoded_octet d octet) octets

-- ---- what an octet says

-- signs alone, or a marker before them, of whatever text
abbrev SaysOne : List Said → Type 0
SaysOne said = IsSigns said ⊎ ((text : List ℕ) × (more : List Said) × (said ≡ marker text ∷ more) × IsSigns more)

-- the ends of a block are signs
ends_signs : (d : ℕ) → IsSigns (ends_of d)
ends_signs d = by_ends (has d END_OF_RECORD) (has d END_OF_FILE)
  where
    by_ends : (a b : Bool) → IsSigns ((if a then says end_record ∷ [] else []) ++ (if b then says end_file ∷ [] else []))
    by_ends true true = tt
    by_ends true false = tt
    by_ends false true = tt
    by_ends false false = tt

-- of two rows of signs either
signs_if : (b : Bool) (one other : List Said) → IsSigns one → IsSigns other → IsSigns (if b then one else other)
signs_if true one other a c = a
signs_if false one other a c = c

-- of two such rows either
one_if : (b : Bool) (one other : List Said) → SaysOne one → SaysOne other → SaysOne (if b then one else other)
one_if true one other a c = a
one_if false one other a c = c

-- an octet says signs, or one marker before them, wherever it stands
place_one : (place : Place) (c : ℕ) → SaysOne (place_out place c)
place_one plain c = inl tt
place_one outside c = inl (signs_if (c == 255) _ _ tt tt)
place_one escaped c = inl (signs_if (c == 255) _ _ tt (signs_if (c == 1) _ _ tt (signs_if (c == 2) _ _ tt (signs_if (c == 3) _ _ tt tt))))
place_one at_head c = inl tt
place_one (at_high d) c = inl tt
place_one (at_low d high) c = inl (signs_if (has d RESTART_MARKER) _ _ tt (signs_if (block_count high c == 0) _ _ (ends_signs d) tt))
place_one (inside d left) c = inl (signs_if (left == 1) _ _ (ends_signs d) tt)
place_one (marking d left text) c =
    one_if (is_marker_octet c && nat_lt (length text) 255) _ _ (one_if (left == 1) _ _ (inr (text ++ c ∷ [], ends_of d, refl, ends_signs d)) (inl tt)) (inl tt)
place_one passed c = inl tt

-- so does any octet
read_one : (reading : Reading) (c : ℕ) → SaysOne (read_out reading c)
read_one (going n place) c = place_one place c
read_one (failed fault) c = inl tt

-- both of two tests
both_true : (a b : Bool) → a ≡ true → b ≡ true → (a && b) ≡ true
both_true a b one other = λ i. one i && other i

-- octets of a marker are so by the test
each_octet : (text : List ℕ) → AllByRecursion (λ c. is_marker_octet c ≡ true) text → list_all is_marker_octet text ≡ true
each_octet [] all = refl
each_octet (c ∷ text) all = both_true (is_marker_octet c) (list_all is_marker_octet text) all.0 (each_octet text all.1)

-- a marker is one by the test
marker_is : (text : List ℕ) → IsMarker text → is_marker text ≡ true
marker_is text m =
    both_true _ _ (both_true (nat_le 1 (length text)) (nat_le (length text) 255) (le-leb 1 (length text) (omega (arith, m.some))) (le-leb (length text) 255 m.short)) (each_octet text m.each)

-- where its markers are texts of markers, it is as it is to be
says_well : (said : List Said) → SaysOne said → AreMarkers said → IsSigns said ⊎ IsMarked said
says_well said (inl signs) are = inl signs
says_well said (inr (text, more, is, signs)) are = inr (record { text = text; more = more; is = is; fine = marker_is text (subst AreMarkers is are).0; signs = signs })

-- ---- rows

-- rows one behind the other
markers_of_both : (one other : List Said) → AreMarkers (one ++ other) → AreMarkers one × AreMarkers other
markers_of_both [] other is = (tt, is)
markers_of_both (says sign ∷ one) other is = markers_of_both one other is
markers_of_both (marker text ∷ one) other is = let both = markers_of_both one other is.1 in ((is.0, both.0), both.1)

-- and back
markers_and : (one other : List Said) → AreMarkers one → AreMarkers other → AreMarkers (one ++ other)
markers_and [] other is are = are
markers_and (says sign ∷ one) other is are = markers_and one other is are
markers_and (marker text ∷ one) other is are = (is.0, markers_and one other is.1 are)

-- signs have no marker
markers_signs : (said : List Said) → IsSigns said → AreMarkers said
markers_signs [] signs = tt
markers_signs (says sign ∷ more) signs = markers_signs more signs
markers_signs (marker text ∷ more) signs = absurd signs

-- signs that are said are signs alone
signs_said : (signs : List Sign) → IsSigns (map (λ x. says x) signs)
signs_said [] = tt
signs_said (sign ∷ signs) = signs_said signs

-- octets that are said are
octets_signs : (octets : List ℕ) → IsSigns (octets_said octets)
octets_signs [] = tt
octets_signs (octet ∷ octets) = octets_signs octets

-- a block says its marker, where it is of one
block_markers : (b : Block) → IsBlock b → AreMarkers (block_said b)
block_markers b fine =
    markers_and (octets_of b.descriptor b.octets) (ends_of b.descriptor)
    (by_bool (has b.descriptor RESTART_MARKER)
    (λ e. subst (λ (m : Bool). AreMarkers (if m then marker b.octets ∷ [] else octets_said b.octets)) (sym e) (fine.marked e, tt))
    (λ e. subst (λ (m : Bool). AreMarkers (if m then marker b.octets ∷ [] else octets_said b.octets)) (sym e) (markers_signs (octets_said b.octets) (octets_signs b.octets))))
    (markers_signs (ends_of b.descriptor) (ends_signs b.descriptor))

-- so does a unit of blocks
unit_markers : (u : WireUnit) → IsUnit Modes.Block Structures.File u → AreMarkers (unit_said u)
unit_markers (an_octet c) is = absurd is
unit_markers (an_escape code) is = absurd is
unit_markers (a_block b) is = block_markers b is

-- and so do units
units_markers : (us : List WireUnit) → AllByRecursion (GoesOn Modes.Block Structures.File) us → AreMarkers (units_said us)
units_markers [] all = tt
units_markers (u ∷ us) all = markers_and (unit_said u) (units_said us) (unit_markers u all.0.0) (units_markers us all.1)

-- the markers of a text in blocks are texts of markers
text_markers : (w : List ℕ) (said : List Said) → IsText Modes.Block Structures.File w said → AreMarkers said
text_markers w said t = subst AreMarkers (sym t.says) (markers_and (units_said t.units) (unit_said t.last) (units_markers t.units t.each) (unit_markers t.last t.fits))

-- ---- rows of octets

-- what is decoded of two rows
pub decoded-append : (d : Decoder) (xs ys : List ℕ) → decoded d (xs ++ ys) ≡ decoded (decoded d xs) ys
decoded-append d [] ys = refl
decoded-append d (x ∷ xs) ys = decoded-append (decoded_octet d x) xs ys

-- a front of such octets, and what follows it
pub reads_both : (d : Decoder) (xs ys : List ℕ) → ReadsWell d (xs ++ ys) → ReadsWell d xs × ReadsWell (decoded d xs) ys
reads_both d [] ys is = (tt, is)
reads_both d (x ∷ xs) ys is = let both = reads_both (decoded_octet d x) xs ys is.2 in ((is.0, is.1, both.0), both.1)

-- what is said settles no fewer octets of the file
pub grows : (d : Decoder) (said : List Said) → length d.content ≤ length (with_all d said).content
grows d [] = omega arith
grows d (says sign ∷ more) = omega (arith, grows (with_sign d sign) more, length-append d.content ((receiving d.form).out d.taking sign))
grows d (marker text ∷ more) = grows d more

-- a reader behind which the file can end is not at a fault
goes_on : (reading : Reading) (more : List ℕ) (ends : Reading) → ends ≡ after reader reading more → is_ended_in ends ≡ true → fault_in reading ≡ None
goes_on (going count at) more ends is whole = refl
goes_on (failed fault) more ends is whole = absurd (let e : false ≡ true = sym (ap is_ended_in (is ∙ failed_after fault more)) ∙ whole in cc)

-- octets that leave a whole file, and whose markers are texts of markers, are such
reads_from : (d : Decoder) (octets : List ℕ) → is_whole (decoded d octets) ≡ true → AreMarkers (gives reader d.reading octets) → ReadsWell d octets
reads_from d [] whole markers = tt
reads_from d (octet ∷ octets) whole markers =
    let both = markers_of_both (octet_says d octet) _ markers in
    let next : Reading = (read_on d octet).reading in
    let same : (decoded_octet d octet).reading ≡ next = (decodes d (octet ∷ [])).reading in (
      goes_on next octets (decoded d (octet ∷ octets)).reading (decodes d (octet ∷ octets)).reading whole,
      says_well (octet_says d octet) (read_one d.reading octet) both.0,
      reads_from (decoded_octet d octet) octets whole (subst (λ r. AreMarkers (gives reader r octets)) (sym same) both.1),
    )

-- ---- the one text of octets

-- plain it is such
pub wire_reads : (settings : Representation) (octets : List ℕ) → ReadsWell (no_octets settings) (wire settings.mode (form_of settings) octets)
wire_reads settings octets =
    let m = settings.mode in
    let f = form_of settings in
    let reads = reads_to m settings.structure (wire m f octets) (map (λ x. says x) (signs_of f octets)) (reads_wire m f octets) in
    reads_from (no_octets settings) (wire m f octets) (wire_gives_file settings octets).whole
    (markers_of_both (gives reader (start m settings.structure) (wire m f octets)) (unsaid_end m settings.structure) (subst AreMarkers reads.says (markers_signs (map (λ x. says x) (signs_of f octets)) (signs_said (signs_of f octets))))).0

-- with markers too
pub marked_reads_well : (from : ℕ) (octets : List ℕ) → from + length octets < 2 ^ 64 → ReadsWell (no_octets image_blocks) (marked_text from octets)
marked_reads_well from octets few =
    let row = marked_reads from octets [] few in
    let text = append-nil (marked_text from octets) in
    let reads = reads_to Modes.Block Structures.File (marked_text from octets ++ []) row.0 row.1 in
    reads_from (no_octets image_blocks) (marked_text from octets) (marked_wire_gives_file from octets few).whole
    (markers_of_both (gives reader (start Modes.Block Structures.File) (marked_text from octets)) []
    (subst (λ w. AreMarkers (gives reader (start Modes.Block Structures.File) w ++ [])) text
    (subst AreMarkers reads.says (text_markers (marked_text from octets ++ []) row.0 row.1)))).0

-- ---- markers

-- signs reach no marker
pub reached_none : (count : ℕ) (mark : Option ℕ) (said : List Said) → IsSigns said → reached count mark said ≡ mark
reached_none count mark [] is = refl
reached_none count mark (says sign ∷ more) is = reached_none count mark more is
reached_none count mark (marker text ∷ more) is = absurd is

-- the last mmmm in two rows
pub mmmm-append : (kept : ℕ) (d : Decoder) (mark : Option ℕ) (xs ys : List ℕ) → mmmm_in kept d mark (xs ++ ys) ≡ mmmm_in kept (decoded d xs) (mmmm_in kept d mark xs) ys
mmmm-append kept d mark [] ys = refl
mmmm-append kept d mark (x ∷ xs) ys = mmmm-append kept (decoded_octet d x) (reached (kept + length d.content) mark (octet_says d x)) xs ys
