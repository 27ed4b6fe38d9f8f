-- Every wire is open, a text or faulty.
use Rattle.std.proofs.Common.{◌≡◌, ℕ, zero, suc, ◌+◌, ◌<◌, ◌≤◌, ◌⊎◌, inl, inr, List, [], ◌∷◌, ◌++◌, length, take, drop, true, false, ◌==◌, refl, ap, sym, subst, ◌∙◌, arith, append_assoc, length-append, length-drop}
use Rattle.std.specs.List.{AllByRecursion}
use Rattle.std.proofs.lemmas.Bool.{eqb-true, cases_lt, false≢true}
use Rattle.std.proofs.lemmas.List.{length-take-le, take_all, take-append-drop, length-take}
use Rattle.ftp_settings.specs.declared.representation.Structure.{Structure}
use Rattle.ftp_settings.specs.declared.representation.Structure.TheVariants.{File, Record}
use Rattle.ftp_repr.proofs.AsciiLemmas.{decided}
use Rattle.ftp_settings.specs.declared.representation.Mode.{Mode}
use Rattle.ftp_settings.specs.declared.representation.Mode.TheVariants.{Stream, Block as Blocks}
use Rattle.ftp_mode.specs.declared.fault.FrameFault.{FrameFault}
use Rattle.ftp_mode.specs.declared.fault.FrameFault.TheVariants.{BadEscape, Suspect, BadMarker}
use Rattle.ftp_mode.specs.Said.{Said, octets_said}
use Rattle.ftp_mode.specs.Stream.{is_code}
use Rattle.ftp_settings.specs.Marker.{is_marker_octet, IsMarker}
use Rattle.ftp_mode.specs.Block.{Block, IsBlock, has, block_count}
use Rattle.ftp_mode.specs.Units.{WireUnit, one, escape, whole, unit_octets, unit_said, unit_ends, IsUnit, GoesOn, units_octets, units_said, IsText}
use Rattle.ftp_mode.specs.Fault.{is_no_length, Begins}
use Rattle.ftp_mode.specs.Front.{IsCutUnit, IsOpenWire}
use Rattle.ftp_mode.proofs.CutLemmas.{length_fits}

-- what begins stands in no text, wherever it begins
abbrev pub Stops : Mode → Structure → List ℕ → Type 0
Stops m s w = (place : ℕ) → (fault : FrameFault) × Begins m s place w fault

pub record IsBad (m : Mode) (s : Structure) (w : List ℕ) : Type 0 where
  pub units : List WireUnit
  pub each : AllByRecursion (GoesOn m s) units
  pub rest : List ℕ
  pub is : w ≡ units_octets units ++ rest
  pub stops : Stops m s rest

pub data Shape (m : Mode) (s : Structure) (w : List ℕ) : Type 0 where
  is_open : (said : List Said) → IsOpenWire m s w said → Shape m s w
  is_text : (said : List Said) → IsText m s w said → Shape m s w
  is_bad : IsBad m s w → Shape m s w

-- one more unit in front
shape_more : (m : Mode) (s : Structure) (u : WireUnit) (w : List ℕ) → GoesOn m s u → Shape m s w → Shape m s (unit_octets u ++ w)
shape_more m s u w h (is_open said o) = is_open (unit_said u ++ said) (record {
  units = u ∷ o.units;
  each = (h, o.each);
  rest = o.rest;
  cut = o.cut;
  is = ap (λ l. unit_octets u ++ l) o.is ∙ sym (append_assoc (unit_octets u) (units_octets o.units) o.rest);
  says = ap (λ l. unit_said u ++ l) o.says ∙ sym (append_assoc (unit_said u) (units_said o.units) o.cut);
  kind = o.kind;
})
shape_more m s u w h (is_text said t) = is_text (unit_said u ++ said) (record {
  units = u ∷ t.units;
  each = (h, t.each);
  last = t.last;
  fits = t.fits;
  ends = t.ends;
  rest = t.rest;
  is = ap (λ l. unit_octets u ++ l) t.is ∙ sym (append_assoc (unit_octets u) (units_octets t.units) (unit_octets t.last ++ t.rest));
  says = ap (λ l. unit_said u ++ l) t.says ∙ sym (append_assoc (unit_said u) (units_said t.units) (unit_said t.last));
})
shape_more m s u w h (is_bad b) = is_bad (record {
  units = u ∷ b.units;
  each = (h, b.each);
  rest = b.rest;
  is = ap (λ l. unit_octets u ++ l) b.is ∙ sym (append_assoc (unit_octets u) (units_octets b.units) b.rest);
  stops = b.stops;
})

-- the last unit, and anything
shape_last : (m : Mode) (s : Structure) (u : WireUnit) (rest : List ℕ) → IsUnit m s u → unit_ends u ≡ true → Shape m s (unit_octets u ++ rest)
shape_last m s u rest h e = is_text (unit_said u) (record { units = []; each = tt; last = u; fits = h; ends = e; rest = rest; is = refl; says = refl })

-- a unit, the last or not
shape_unit : (m : Mode) (s : Structure) (u : WireUnit) (w : List ℕ) → IsUnit m s u → Shape m s w → Shape m s (unit_octets u ++ w)
shape_unit m s u w h rest =
    elim (decided (unit_ends u)) [
      | inl e ↦ shape_last m s u w h e
      | inr e ↦ shape_more m s u w (h, e) rest
    ]

shape_none : (m : Mode) (s : Structure) → Shape m s []
shape_none m s = is_open [] (record { units = []; each = tt; rest = []; cut = []; is = refl; says = refl; kind = inl (refl, refl) })

shape_cut : (m : Mode) (s : Structure) (w : List ℕ) (said : List Said) → IsCutUnit m s w said → Shape m s w
shape_cut m s w said c = is_open said (record { units = []; each = tt; rest = w; cut = said; is = refl; says = refl; kind = inr c })

shape_stops : (m : Mode) (s : Structure) (w : List ℕ) → Stops m s w → Shape m s w
shape_stops m s w stops = is_bad (record { units = []; each = tt; rest = w; is = refl; stops = stops })

plain_shape : (w : List ℕ) → Shape Stream File w
plain_shape [] = shape_none Stream File
plain_shape (c ∷ w) = shape_more Stream File (one c) w (tt, refl) (plain_shape w)

code_shape : (code : ℕ) (w : List ℕ) → Shape Stream Record w → Shape Stream Record (255 ∷ code ∷ w)
code_shape code w rest =
    elim (decided (is_code code)) [
      | inl e ↦ shape_unit Stream Record (escape code) w e rest
      | inr e ↦ shape_stops Stream Record (255 ∷ code ∷ w) (λ place. (BadEscape (place + 1), record { code = code; rest = w; is = refl; wrong = e; named = refl }))
    ]

record_first : (c : ℕ) (w : List ℕ) → Shape Stream Record w → Shape Stream Record (255 ∷ w) → Shape Stream Record (c ∷ w)
record_first c w rest escaped =
    elim (decided (c == 255)) [
      | inl e ↦ (let P : ℕ → Type 0 = λ k. Shape Stream Record (k ∷ w) in subst P (sym (eqb-true c 255 e)) escaped)
      | inr e ↦ shape_more Stream Record (one c) w (e, refl) rest
    ]

record_shape : (w : List ℕ) → Shape Stream Record w
record_shape [] = shape_none Stream Record
record_shape (c ∷ []) = record_first c [] (shape_none Stream Record) (shape_cut Stream Record (255 ∷ []) [] (refl, refl))
record_shape (c ∷ d ∷ w) = record_first c (d ∷ w) (record_shape (d ∷ w)) (code_shape d w (record_shape w))

-- the first octet of a list that no marker has
record FirstBad (xs : List ℕ) : Type 0 where
  good : List ℕ
  bad : ℕ
  rest : List ℕ
  is : xs ≡ good ++ bad ∷ rest
  each : AllByRecursion (λ c. is_marker_octet c ≡ true) good
  wrong : is_marker_octet bad ≡ false

scan : (xs : List ℕ) → AllByRecursion (λ c. is_marker_octet c ≡ true) xs ⊎ FirstBad xs
scan [] = inl tt
scan (c ∷ xs) =
    elim (decided (is_marker_octet c)) [
      | inl e ↦ elim (scan xs) [
        | inl all ↦ inl (e, all)
        | inr b ↦ inr (record { good = c ∷ b.good; bad = b.bad; rest = b.rest; is = ap (λ l. c ∷ l) b.is; each = (e, b.each); wrong = b.wrong })
      ]
      | inr e ↦ inr (record { good = []; bad = c; rest = xs; is = refl; each = tt; wrong = e })
    ]

-- the header of a block and what follows
abbrev pub headed : ℕ → ℕ → ℕ → List ℕ → List ℕ
headed d h l w = d ∷ h ∷ l ∷ w

-- a block with all of its octets
block_shape : (s : Structure) (d h l : ℕ) (w : List ℕ) → has d 32 ≡ false → block_count h l ≤ length w
    → (has d 16 ≡ true → IsMarker (take (block_count h l) w)) → Shape Blocks s (drop (block_count h l) w) → Shape Blocks s (headed d h l w)
block_shape s d h l w sound full marked rest =
    let n = block_count h l in
    let b : Block = record { descriptor = d; high = h; low = l; octets = take n w } in
    let is : IsBlock b = record { sound = sound; counted = sym (length-take-le n w full); marked = marked } in
    let P : List ℕ → Type 0 = λ v. Shape Blocks s (headed d h l v) in
    subst P (take-append-drop n w) (shape_unit Blocks s (whole b) (drop n w) is rest)

data_shape : (s : Structure) (d h l : ℕ) (w : List ℕ) → has d 32 ≡ false → has d 16 ≡ false
    → Shape Blocks s (drop (block_count h l) w) → Shape Blocks s (headed d h l w)
data_shape s d h l w sound plain rest =
    elim (cases_lt (length w) (block_count h l)) [
      | inl less ↦ shape_cut Blocks s (headed d h l w) (octets_said w)
          (inr (inl (record { descriptor = d; high = h; low = l; octets = w; is = refl; sound = sound; plain = plain; short = less; says = refl })))
      | inr full ↦ block_shape s d h l w sound full (λ e. absurd (false≢true (sym plain ∙ e))) rest
    ]

wrong_octet : (s : Structure) (d h l : ℕ) (w : List ℕ) → has d 32 ≡ false → has d 16 ≡ true → is_no_length (block_count h l) ≡ false
    → FirstBad (take (block_count h l) w) → Shape Blocks s (headed d h l w)
wrong_octet s d h l w sound kind fits b =
    let n = block_count h l in
    let cut : w ≡ b.good ++ b.bad ∷ (b.rest ++ drop n w) =
    sym (take-append-drop n w) ∙ ap (λ v. v ++ drop n w) b.is ∙ append_assoc b.good (b.bad ∷ b.rest) (drop n w) in
    let less : length b.good < n = omega (arith, ap length b.is, length-append b.good (b.bad ∷ b.rest), length-take n w) in
    shape_stops Blocks s (headed d h l w) (λ place. (
      BadMarker (place + 3 + length b.good),
      inr (inr (record {
        descriptor = d;
        high = h;
        low = l;
        good = b.good;
        bad = b.bad;
        rest = b.rest ++ drop n w;
        is = ap (headed d h l) cut;
        sound = sound;
        marker = kind;
        fits = fits;
        within = less;
        each = b.each;
        wrong = b.wrong;
        named = refl;
      })),
    ))

marker_shape : (s : Structure) (d h l : ℕ) (w : List ℕ) → has d 32 ≡ false → has d 16 ≡ true → is_no_length (block_count h l) ≡ false
    → Shape Blocks s (drop (block_count h l) w) → Shape Blocks s (headed d h l w)
marker_shape s d h l w sound kind fits rest =
    let n = block_count h l in
    elim (scan (take n w)) [
      | inl all ↦ elim (cases_lt (length w) n) [
        | inl less ↦ (let P : List ℕ → Type 0 = λ v. AllByRecursion (λ c. is_marker_octet c ≡ true) v in
            shape_cut Blocks s (headed d h l w) []
            (inr (inr (
              record {
                descriptor = d;
                high = h;
                low = l;
                octets = w;
                is = refl;
                sound = sound;
                marker = kind;
                fits = fits;
                short = less;
                each = subst P (take_all n w (omega arith)) all;
              },
              refl,
            ))))
        | inr full ↦ (let size = length_fits n fits in let len = length-take-le n w full in
            block_shape s d h l w sound full (λ e. record { some = omega (arith, size.0, len); short = omega (arith, size.1, len); each = all }) rest)
      ]
      | inr b ↦ wrong_octet s d h l w sound kind fits b
    ]

head_shape : (s : Structure) (d h l : ℕ) (w : List ℕ) → has d 32 ≡ false → Shape Blocks s (drop (block_count h l) w) → Shape Blocks s (headed d h l w)
head_shape s d h l w sound rest =
    elim (decided (has d 16)) [
      | inl kind ↦ elim (decided (is_no_length (block_count h l))) [
        | inl wrong ↦ shape_stops Blocks s (headed d h l w) (λ place. (
          BadMarker place,
          inr (inl (record {
            descriptor = d;
            high = h;
            low = l;
            rest = w;
            is = refl;
            sound = sound;
            marker = kind;
            wrong = wrong;
            named = refl;
          })),
        ))
        | inr fits ↦ marker_shape s d h l w sound kind fits rest
      ]
      | inr plain ↦ data_shape s d h l w sound plain rest
    ]

suspect_shape : (s : Structure) (d : ℕ) (w : List ℕ) → has d 32 ≡ true → Shape Blocks s (d ∷ w)
suspect_shape s d w wrong = shape_stops Blocks s (d ∷ w) (λ place. (Suspect place, inl (record { descriptor = d; rest = w; is = refl; wrong = wrong; named = refl })))

blocks_shape : (s : Structure) (k : ℕ) (w : List ℕ) → length w < k → Shape Blocks s w
blocks_shape s zero w less = absurd (omega arith)
blocks_shape s (suc k) [] less = shape_none Blocks s
blocks_shape s (suc k) (d ∷ []) less =
    elim (decided (has d 32)) [
      | inl e ↦ suspect_shape s d [] e
      | inr e ↦ shape_cut Blocks s (d ∷ []) [] (inl (inl (d, e, refl), refl))
    ]
blocks_shape s (suc k) (d ∷ h ∷ []) less =
    elim (decided (has d 32)) [
      | inl e ↦ suspect_shape s d (h ∷ []) e
      | inr e ↦ shape_cut Blocks s (d ∷ h ∷ []) [] (inl (inr (d, h, e, refl), refl))
    ]
blocks_shape s (suc k) (d ∷ h ∷ l ∷ w) less =
    elim (decided (has d 32)) [
      | inl e ↦ suspect_shape s d (h ∷ l ∷ w) e
      | inr e ↦ head_shape s d h l w e (blocks_shape s k (drop (block_count h l) w) (omega (arith, length-drop (block_count h l) w)))
    ]

-- every wire is one of the three
pub shape_of : (m : Mode) (s : Structure) (w : List ℕ) → Shape m s w
shape_of Stream File w = plain_shape w
shape_of Stream Record w = record_shape w
shape_of Blocks s w = blocks_shape s (suc (length w)) w (omega arith)
