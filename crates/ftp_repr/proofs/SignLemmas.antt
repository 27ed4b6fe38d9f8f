-- The signs of a file in pieces.
use Rattle.std.proofs.Common.{◌≡◌, ℕ, List, [], ◌∷◌, ◌++◌, Bool, true, false, ◌||◌, ◌==◌, cond, map, take, drop, refl, ap, sym, subst, ◌∙◌, append_assoc}
use Rattle.std.specs.List.{flat_map, AllByRecursion}
use Rattle.std.proofs.lemmas.List.{take-append-drop}
use Rattle.std.proofs.lemmas.List.Concat.{flat_map-append}
use Rattle.ftp_repr.specs.Signs.{Sign, octet, end_record, end_file, wire_octets, octet_signs, signs_of_octet, signs_of}
use Rattle.ftp_settings.specs.Representation.{Form}
use Rattle.ftp_repr.specs.Runs.{IsRun, is_changed}
use Rattle.ftp_settings.specs.declared.representation.Kind.{Kind}
use Rattle.ftp_settings.specs.declared.representation.Kind.TheVariants.{Ascii, Image}
use Rattle.ftp_settings.specs.declared.representation.Structure.{Structure}
use Rattle.ftp_settings.specs.declared.representation.Structure.TheVariants.{File, Record}

pub signs_of-append : (f : Form) (xs ys : List ℕ) → signs_of f (xs ++ ys) ≡ flat_map (signs_of_octet f) xs ++ signs_of f ys
signs_of-append f xs ys =
    ap (λ l. l ++ end_file ∷ []) (flat_map-append (signs_of_octet f) xs ys)
    ∙ append_assoc (flat_map (signs_of_octet f) xs) (flat_map (signs_of_octet f) ys) (end_file ∷ [])

-- one octet
pub signs_of-cons : (f : Form) (c : ℕ) (b : List ℕ) → signs_of f (c ∷ b) ≡ signs_of_octet f c ++ signs_of f b
signs_of-cons f c b = append_assoc (signs_of_octet f c) (flat_map (signs_of_octet f) b) (end_file ∷ [])

-- octets that go as themselves
pub neither : (a b : Bool) → (a || b) ≡ false → (a ≡ false) × (b ≡ false)
neither true b h = cc
neither false true h = cc
neither false false h = (refl, refl)

octet_same : (k : Kind) (s : Structure) (c : ℕ) → is_changed k s c ≡ false → octet_signs k s c ≡ octet c ∷ []
octet_same Ascii File c h = let e = neither (c == 10) (c == 13) h in rw (e.0, e.1) refl
octet_same Ascii Record c h = let e = neither (c == 10) (c == 13) h in rw (e.0, e.1) refl
octet_same Image File c h = refl
octet_same Image Record c h = rw h refl

pub signs_same : (k : Kind) (s : Structure) (w : List ℕ) → AllByRecursion (λ c. is_changed k s c ≡ false) w
    → flat_map (octet_signs k s) w ≡ map octet w
signs_same k s [] all = refl
signs_same k s (c ∷ w) all = ap (λ l. l ++ flat_map (octet_signs k s) w) (octet_same k s c all.0) ∙ ap (λ l. octet c ∷ l) (signs_same k s w all.1)

-- a run of octets that go as themselves, and what follows it
pub signs_of_run : (f : Form) (piece more : List ℕ) (n : ℕ) → IsRun (is_changed f.kind f.structure) piece n
    → signs_of f (piece ++ more) ≡ map octet (take n piece) ++ signs_of f (drop n piece ++ more)
signs_of_run f piece more n run =
    let cut : piece ++ more ≡ take n piece ++ (drop n piece ++ more) =
    ap (λ l. l ++ more) (sym (take-append-drop n piece)) ∙ append_assoc (take n piece) (drop n piece) more in
    ap (signs_of f) cut
    ∙ signs_of-append f (take n piece) (drop n piece ++ more)
    ∙ ap (λ l. l ++ signs_of f (drop n piece ++ more)) (signs_same f.kind f.structure (take n piece) run.others)

-- a row of signs with one end of file, at its end
abbrev pub IsWhole : List Sign → Type 0
IsWhole [] = ⊥
IsWhole (octet c ∷ ss) = IsWhole ss
IsWhole (end_record ∷ ss) = IsWhole ss
IsWhole (end_file ∷ ss) = ss ≡ []

pub whole_octets : (w : List ℕ) (ss : List Sign) → IsWhole ss → IsWhole (map octet w ++ ss)
whole_octets [] ss h = h
whole_octets (c ∷ w) ss h = whole_octets w ss h

whole_line : (w : List ℕ) (ss : List Sign) (lf : Bool) → IsWhole ss → IsWhole (cond lf (end_record ∷ []) (map octet w) ++ ss)
whole_line w ss true h = h
whole_line w ss false h = whole_octets w ss h

whole_octet : (k : Kind) (s : Structure) (c : ℕ) (ss : List Sign) → IsWhole ss → IsWhole (octet_signs k s c ++ ss)
whole_octet k File c ss h = whole_octets (wire_octets k c) ss h
whole_octet k Record c ss h = whole_line (wire_octets k c) ss (c == 10) h

-- the signs of a file are whole
pub whole-signs_of : (f : Form) (b : List ℕ) → IsWhole (signs_of f b)
whole-signs_of f [] = refl
whole-signs_of f (c ∷ b) =
    let P : List Sign → Type 0 = λ ss. IsWhole ss in
    subst P (sym (signs_of-cons f c b)) (whole_octet f.kind f.structure c (signs_of f b) (whole-signs_of f b))
