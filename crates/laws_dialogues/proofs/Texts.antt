-- The one text of octets, with markers or without: it is read well until more is settled than any limit lets be, and where it is not so long it gives the
-- octets.
use Rattle.std.proofs.Common.{◌≡◌, ◌⊎◌, inl, inr, ℕ, ◌+◌, ◌<◌, ◌≤◌, ◌^◌, List, [], ◌∷◌, ◌++◌, length, Bool, true, false, None, refl, sym, ap, subst, ◌∙◌, arith, length-append}
use Rattle.std.proofs.lemmas.Bool.{cases_lt}
use Rattle.ftp_pieces.specs.Machine.{IsFront}
use Rattle.ftp_mode.specs.Block.{marked_text}
use Rattle.ftp_settings.specs.Representation.{has_markers}
use Rattle.ftp_settings.specs.declared.representation.Kind.{Kind}
use Rattle.ftp_settings.specs.declared.representation.Kind.TheVariants as Kinds
use Rattle.ftp_settings.specs.declared.representation.Mode.{Mode}
use Rattle.ftp_settings.specs.declared.representation.Mode.TheVariants as Modes
use Rattle.ftp_settings.specs.declared.representation.Representation.{Representation}
use Rattle.ftp_settings.specs.declared.representation.Structure.{Structure}
use Rattle.ftp_settings.specs.declared.representation.Structure.TheVariants as Structures
use Rattle.ftp_wire.specs.Decoder.{Decoder, GivesFile, decoded, decoded_octet, decoder_of, fault_of, image_blocks, no_octets, octet_says, read_on}
use Rattle.ftp_wire.proofs.DecoderLemmas.{front_gives, marked_front_gives}
use Rattle.ftp_wire.proofs.WireLemmas.{marked_wire_gives_file, wire_gives_file}
use Rattle.ftp_client_model.specs.Octets.{written}
use Rattle.laws_dialogues.specs.Fetches.{IsTextOf}
use Rattle.laws_dialogues.proofs.LongTexts.{long_front}
use Rattle.laws_dialogues.proofs.Wires.{IsMarked, IsSigns, ReadsWell, decoded-append, grows, marked_reads_well, wire_reads}

-- octets that a decoder takes without a fault, each of which says signs alone, or a marker and then signs, until more is settled than any limit lets be
abbrev pub ReadsFar : Decoder → List ℕ → Type 0
ReadsFar d [] = Unit {0}
ReadsFar d (octet ∷ octets) =
    (fault_of (read_on d octet) ≡ None) × (IsSigns (octet_says d octet) ⊎ IsMarked (octet_says d octet))
    × ((10 ^ 18 ≤ length (decoded_octet d octet).content) ⊎ ReadsFar (decoded_octet d octet) octets)

-- octets settle no fewer
pub decoded_grows : (d : Decoder) (octets : List ℕ) → length d.content ≤ length (decoded d octets).content
decoded_grows d [] = omega arith
decoded_grows d (octet ∷ octets) = omega (arith, grows (read_on d octet) (octet_says d octet), decoded_grows (decoded_octet d octet) octets)

-- octets that are read well are so
far_well : (d : Decoder) (octets : List ℕ) → ReadsWell d octets → ReadsFar d octets
far_well d [] reads = tt
far_well d (octet ∷ octets) reads = (reads.0, reads.1, inr (far_well (decoded_octet d octet) octets reads.2))

-- so are those with a front that is read well, and settles so much
far_front : (d : Decoder) (front rest : List ℕ) → ReadsWell d front → length d.content < 10 ^ 18 → 10 ^ 18 ≤ length (decoded d front).content → ReadsFar d (front ++ rest)
far_front d [] rest reads small big = absurd (omega (arith, small, big))
far_front d (octet ∷ front) rest reads small big = (
  reads.0,
  reads.1,
  elim (cases_lt (length (decoded_octet d octet).content) (10 ^ 18)) [
    | inl few ↦ inr (far_front (decoded_octet d octet) front rest reads.2 few big)
    | inr many ↦ inl many
  ],
)

-- a front of such octets is so, and what follows it where not so much is settled
pub far_both : (d : Decoder) (xs ys : List ℕ) → ReadsFar d (xs ++ ys) → ReadsFar d xs × (length (decoded d xs).content < 10 ^ 18 → ReadsFar (decoded d xs) ys)
far_both d [] ys reads = (tt, λ small. reads)
far_both d (octet ∷ xs) ys reads = elim reads.2 [
  | inl many ↦ ((reads.0, reads.1, inl many), λ small. absurd (omega (arith, many, small, decoded_grows (decoded_octet d octet) xs)))
  | inr more ↦ (let both = far_both (decoded_octet d octet) xs ys more in ((reads.0, reads.1, inr both.0), both.1))
]

-- the text of octets is so
pub text_reads : (settings : Representation) (octets text : List ℕ) → IsTextOf settings octets text → ReadsFar (no_octets settings) text
text_reads settings octets text (inl is) = subst (ReadsFar (no_octets settings)) (sym is) (far_well (no_octets settings) _ (wire_reads settings octets))
text_reads settings octets text (inr (start, set, low, is)) =
    subst (λ r. ReadsFar (no_octets r) text) (sym set) (subst (ReadsFar (no_octets image_blocks)) (sym is) (by_length (cases_lt (start + length octets) (2 ^ 64))))
  where
    by_length : ((start + length octets < 2 ^ 64) ⊎ (2 ^ 64 ≤ start + length octets)) → ReadsFar (no_octets image_blocks) (marked_text start octets)
    by_length (inl few) = far_well (no_octets image_blocks) (marked_text start octets) (marked_reads_well start octets few)
    by_length (inr many) =
        let f = long_front start octets low many in
        subst (ReadsFar (no_octets image_blocks)) (sym f.is) (far_front (no_octets image_blocks) f.front f.rest f.reads (omega arith) f.long)

-- a front of it settles no more octets than there are, or they are very many
pub text_shorter : (settings : Representation) (octets text came : List ℕ) → IsTextOf settings octets text → IsFront came text
    → (length (decoder_of settings came).content ≤ length octets) ⊎ (10 ^ 18 ≤ length octets)
text_shorter settings octets text came (inl is) front = inl (shorter _ (front_gives settings octets came (subst (IsFront came) is front)))
  where
    shorter : (content : List ℕ) → IsFront content octets → length content ≤ length octets
    shorter content f = omega (arith, length-append content f.0, ap length f.1)
text_shorter settings octets text came (inr (start, set, low, is)) front =
    subst (λ r. (length (decoder_of r came).content ≤ length octets) ⊎ (10 ^ 18 ≤ length octets)) (sym set) (by_length (cases_lt (start + length octets) (2 ^ 64)))
  where
    shorter : (content : List ℕ) → IsFront content octets → length content ≤ length octets
    shorter content f = omega (arith, length-append content f.0, ap length f.1)

    by_length : ((start + length octets < 2 ^ 64) ⊎ (2 ^ 64 ≤ start + length octets)) → (length (decoder_of image_blocks came).content ≤ length octets) ⊎ (10 ^ 18 ≤ length octets)
    by_length (inl few) = inl (shorter _ (marked_front_gives start octets came few (subst (IsFront came) is front)))
    by_length (inr many) = inr (omega (arith, low, many))

-- it gives the octets, or more is settled by it than any limit lets be
pub text_gives : (settings : Representation) (octets text : List ℕ) → IsTextOf settings octets text → GivesFile settings text octets ⊎ (10 ^ 18 ≤ length (decoder_of settings text).content)
text_gives settings octets text (inl is) = inl (subst (λ w. GivesFile settings w octets) (sym is) (wire_gives_file settings octets))
text_gives settings octets text (inr (start, set, low, is)) =
    subst (λ r. GivesFile r text octets ⊎ (10 ^ 18 ≤ length (decoder_of r text).content)) (sym set)
    (subst (λ w. GivesFile image_blocks w octets ⊎ (10 ^ 18 ≤ length (decoder_of image_blocks w).content)) (sym is) (by_length (cases_lt (start + length octets) (2 ^ 64))))
  where
    by_length : ((start + length octets < 2 ^ 64) ⊎ (2 ^ 64 ≤ start + length octets))
        → GivesFile image_blocks (marked_text start octets) octets ⊎ (10 ^ 18 ≤ length (decoder_of image_blocks (marked_text start octets)).content)
    by_length (inl few) = inl (marked_wire_gives_file start octets few)
    by_length (inr many) =
        let f = long_front start octets low many in
        let parts = ap (λ d. length d.content) (ap (decoder_of image_blocks) f.is ∙ decoded-append (no_octets image_blocks) f.front f.rest) in
        inr (omega (arith, parts, f.long, decoded_grows (decoder_of image_blocks f.front) f.rest))

-- of all kinds, structures and modes only image files in blocks have markers
only_marked : (kind : Kind) (structure : Structure) (mode : Mode) → has_markers (record { kind = kind; structure = structure; mode = mode }) ≡ true
    → record { kind = kind; structure = structure; mode = mode } ≡ image_blocks
only_marked Kinds.Image Structures.File Modes.Block is = refl
only_marked Kinds.Image Structures.File Modes.Stream is = absurd (cc)
only_marked Kinds.Image Structures.Record mode is = absurd (cc)
only_marked Kinds.Ascii structure mode is = absurd (cc)

-- what is written is the one text of its octets, with markers or without
pub written_text : (settings : Representation) (start : ℕ) (octets : List ℕ) (b : Bool) → (b ≡ true → has_markers settings ≡ true) → start < 10 ^ 18
    → IsTextOf settings octets (written b settings start octets)
written_text settings start octets false marked low = inl refl
written_text settings start octets true marked low = inr (start, only_marked settings.kind settings.structure settings.mode (marked refl), low, refl)
