-- The reader fails, ends and settles exactly where whole wires say so.
use Rattle.std.proofs.Common.{◌≡◌, ℕ, ◌+◌, ◌<◌, ◌^◌, ◌⊎◌, inl, inr, List, [], ◌∷◌, ◌++◌, length, false, refl, ap, sym, subst, ◌∙◌, arith, append-nil}
use Rattle.std.proofs.lemmas.Bool.{false≢true}
use Rattle.ftp_pieces.specs.Machine.{after, gives}
use Rattle.ftp_repr.specs.Signs.{end_file}
use Rattle.ftp_settings.specs.declared.representation.Structure.{Structure}
use Rattle.ftp_settings.specs.declared.representation.Structure.TheVariants.{File, Record}
use Rattle.ftp_settings.specs.declared.representation.Mode.{Mode}
use Rattle.ftp_settings.specs.declared.representation.Mode.TheVariants.{Stream, Block as Blocks}
use Rattle.ftp_mode.specs.declared.fault.FrameFault.{FrameFault}
use Rattle.ftp_mode.specs.declared.fault.FrameFault.TheVariants.{BadEscape, Suspect, BadMarker, EndedEarly}
use Rattle.ftp_mode.specs.Said.{Said, says, octets_said}
use Rattle.ftp_mode.specs.Units.{units_octets, units_said, IsText, Reads}
use Rattle.ftp_mode.specs.Fault.{Begins, IsFault}
use Rattle.ftp_mode.specs.Front.{IsCutUnit, IsOpenWire, Front}
use Rattle.ftp_mode.specs.Count.{count_on, next}
use Rattle.ftp_mode.specs.Reading.{Reading, going, failed, Place, plain, ended, is_complete_at, is_complete, first_place, start, at_wire_end, reader}
use Rattle.ftp_mode.specs.Deframing.{MovesReading}
use Rattle.ftp_mode.specs.Laws.{ReadsTo}
use Rattle.ftp_mode.proofs.ReaderRuns.{run_gives, plain_runs}
use Rattle.ftp_mode.proofs.MoveLemmas.{moves_append}
use Rattle.ftp_mode.proofs.UnitLemmas.{units_moves, text_moves}
use Rattle.ftp_mode.proofs.CutLemmas.{cut_moves, fault_moves}
use Rattle.ftp_mode.proofs.ShapeLemmas.{Shape, is_open, is_text, is_bad, IsBad, shape_of}

-- where a reader stands behind an open wire, and what it said
pub record Stands (m : Mode) (s : Structure) (w : List ℕ) (said : List Said) : Type 0 where
  pub count : ℕ
  pub at : Place
  pub early : is_complete_at at ≡ is_complete_at (first_place m s)
  pub moves : MovesReading (start m s) (going count at) w said

stands_cut : (m : Mode) (s : Structure) (n : ℕ) (w : List ℕ) (said : List Said) → IsCutUnit m s w said → (k : ℕ) × (p : Place) × (is_complete_at p ≡ is_complete_at (first_place m s)) × MovesReading (going n (first_place m s)) (going k p) w said
stands_cut Stream File n w said c = absurd c
stands_cut Stream Record n w said c = let o = cut_moves Stream Record n w said c in (o.count, o.at, o.early, o.moves)
stands_cut Blocks s n w said c = let o = cut_moves Blocks s n w said c in (o.count, o.at, o.early, o.moves)

stands_kind : (m : Mode) (s : Structure) (n : ℕ) (w : List ℕ) (said : List Said) → ((w ≡ []) × (said ≡ [])) ⊎ IsCutUnit m s w said
    → (k : ℕ) × (p : Place) × (is_complete_at p ≡ is_complete_at (first_place m s)) × MovesReading (going n (first_place m s)) (going k p) w said
stands_kind m s n w said kind = elim kind [
  | inl e ↦ (n, first_place m s, refl, record { state = sym (ap (after reader (going n (first_place m s))) e.0); says = e.1 ∙ sym (ap (gives reader (going n (first_place m s))) e.0) })
  | inr c ↦ stands_cut m s n w said c
]

pub open_stands : (m : Mode) (s : Structure) (w : List ℕ) (said : List Said) → IsOpenWire m s w said → Stands m s w said
open_stands m s w said o =
    let n = count_on 0 (length (units_octets o.units)) in
    let cut = stands_kind m s n o.rest o.cut o.kind in
    let all = moves_append (start m s) (going n (first_place m s)) (going cut.0 cut.1) (units_octets o.units) o.rest (units_said o.units) o.cut
    (units_moves m s 0 o.units (omega arith) o.each) cut.3 in
    record {
      count = cut.0;
      at = cut.1;
      early = cut.2;
      moves = record { state = all.state ∙ ap (after reader (start m s)) (sym o.is); says = o.says ∙ all.says ∙ ap (gives reader (start m s)) (sym o.is) };
    }

-- a bad wire has a fault
pub bad_fault : (m : Mode) (s : Structure) (w : List ℕ) → IsBad m s w → (fault : FrameFault) × IsFault m s w fault
bad_fault m s w b =
    let f = b.stops (length (units_octets b.units)) in
    (f.0, record { units = b.units; each = b.each; rest = b.rest; is = b.is; begins = f.1 })

not_failed : (n : ℕ) (p : Place) (f : FrameFault) (r : Reading) → going n p ≡ r → r ≡ failed f → ⊥
not_failed n p f r a b = absurd (let e : going n p ≡ failed f = a ∙ b in cc)

same_fault : (f g : FrameFault) → failed f ≡ failed g → f ≡ g
same_fault f g e = cc

-- the reader fails exactly at the first fault
pub fault_fails : (m : Mode) (s : Structure) (w : List ℕ) (fault : FrameFault) → length w < 2 ^ 64 → IsFault m s w fault → after reader (start m s) w ≡ failed fault
fault_fails m s w fault fits f = sym (fault_moves m s w fault fits f).state

fails_by : (m : Mode) (s : Structure) (w : List ℕ) (fault : FrameFault) → length w < 2 ^ 64 → Shape m s w → after reader (start m s) w ≡ failed fault → IsFault m s w fault
fails_by m s w fault fits (is_open said o) e = absurd (let x = open_stands m s w said o in not_failed x.count x.at fault _ x.moves.state e)
fails_by m s w fault fits (is_text said t) e = absurd (let x = text_moves m s w said t in not_failed x.count ended fault _ x.moves.state e)
fails_by m s w fault fits (is_bad b) e =
    let f = bad_fault m s w b in
    let P : FrameFault → Type 0 = λ g. IsFault m s w g in
    subst P (same_fault f.0 fault (sym (fault_fails m s w f.0 fits f.1) ∙ e)) f.1

pub fails_fault : (m : Mode) (s : Structure) (w : List ℕ) (fault : FrameFault) → length w < 2 ^ 64 → after reader (start m s) w ≡ failed fault → IsFault m s w fault
fails_fault m s w fault fits e = fails_by m s w fault fits (shape_of m s w) e

-- what a wire settles is what the reader says
pub front_says : (m : Mode) (s : Structure) (w : List ℕ) (said : List Said) → length w < 2 ^ 64 → Front m s w said → said ≡ gives reader (start m s) w
front_says m s w said fits f = elim f [
  | inl o ↦ (open_stands m s w said o).moves.says
  | inr e ↦ elim e [
    | inl t ↦ (text_moves m s w said t).moves.says
    | inr b ↦ b.says ∙ (fault_moves m s w b.fault fits b.is).says
  ]
]

front_by : (m : Mode) (s : Structure) (w : List ℕ) → length w < 2 ^ 64 → Shape m s w → Front m s w (gives reader (start m s) w)
front_by m s w fits (is_open said o) =
    let P : List Said → Type 0 = λ l. Front m s w l in subst P (open_stands m s w said o).moves.says (inl o)
front_by m s w fits (is_text said t) =
    let P : List Said → Type 0 = λ l. Front m s w l in subst P (text_moves m s w said t).moves.says (inr (inl t))
front_by m s w fits (is_bad b) =
    let f = bad_fault m s w b in
    let P : List Said → Type 0 = λ l. Front m s w l in
    subst P (fault_moves m s w f.0 fits f.1).says (inr (inr (record { fault = f.0; is = f.1; says = refl })))

pub says_front : (m : Mode) (s : Structure) (w : List ℕ) (said : List Said) → length w < 2 ^ 64 → said ≡ gives reader (start m s) w → Front m s w said
says_front m s w said fits e = let P : List Said → Type 0 = λ l. Front m s w l in subst P (sym e) (front_by m s w fits (shape_of m s w))

-- the octets of a plain stream
plain_complete : (n : ℕ) (w : List ℕ) → is_complete (after reader (going n plain) w)
plain_complete n [] = refl
plain_complete n (c ∷ w) = plain_complete (next n) w

text_complete : (m : Mode) (s : Structure) (w : List ℕ) (said : List Said) → IsText m s w said → is_complete (after reader (start m s) w)
text_complete m s w said t =
    let x = text_moves m s w said t in let P : Reading → Type 0 = λ r. is_complete r in subst P x.moves.state refl

pub reads_to : (m : Mode) (s : Structure) (w : List ℕ) (said : List Said) → Reads m s w said → ReadsTo m s w said
reads_to Stream File w said r = record {
  complete = plain_complete 0 w;
  says = r ∙ ap (λ l. l ++ says end_file ∷ []) (sym (run_gives plain 0 w (plain_runs w)));
}
reads_to Stream Record w said r = record {
  complete = text_complete Stream Record w said r;
  says = (text_moves Stream Record w said r).moves.says ∙ sym (append-nil (gives reader (start Stream Record) w));
}
reads_to Blocks s w said r = record {
  complete = text_complete Blocks s w said r;
  says = (text_moves Blocks s w said r).moves.says ∙ sym (append-nil (gives reader (start Blocks s) w));
}

-- a complete reader stands behind a text
not_complete : (n : ℕ) (p : Place) (r : Reading) → going n p ≡ r → is_complete_at p ≡ false → is_complete r → ⊥
not_complete n p r e early done = absurd (false≢true (sym early ∙ (let P : Reading → Type 0 = λ x. is_complete x in subst P (sym e) done)))

failed_incomplete : (f : FrameFault) (r : Reading) → failed f ≡ r → is_complete r → ⊥
failed_incomplete f r e done = let P : Reading → Type 0 = λ x. is_complete x in subst P (sym e) done

bad_incomplete : (m : Mode) (s : Structure) (w : List ℕ) → length w < 2 ^ 64 → IsBad m s w → is_complete (after reader (start m s) w) → ⊥
bad_incomplete m s w fits b done = let f = bad_fault m s w b in failed_incomplete f.0 _ (fault_moves m s w f.0 fits f.1).state done

text_by : (m : Mode) (s : Structure) (w : List ℕ) → length w < 2 ^ 64 → is_complete_at (first_place m s) ≡ false → Shape m s w → is_complete (after reader (start m s) w) → IsText m s w (gives reader (start m s) w)
text_by m s w fits early (is_open said o) done = absurd (let x = open_stands m s w said o in not_complete x.count x.at _ x.moves.state (x.early ∙ early) done)
text_by m s w fits early (is_text said t) done = let P : List Said → Type 0 = λ l. IsText m s w l in subst P (text_moves m s w said t).moves.says t
text_by m s w fits early (is_bad b) done = absurd (bad_incomplete m s w fits b done)

pub to_reads : (m : Mode) (s : Structure) (w : List ℕ) (said : List Said) → length w < 2 ^ 64 → ReadsTo m s w said → Reads m s w said
to_reads Stream File w said fits r = r.says ∙ ap (λ l. l ++ says end_file ∷ []) (run_gives plain 0 w (plain_runs w))
to_reads Stream Record w said fits r =
    let P : List Said → Type 0 = λ l. IsText Stream Record w l in
    subst P (sym (r.says ∙ append-nil (gives reader (start Stream Record) w))) (text_by Stream Record w fits refl (shape_of Stream Record w) r.complete)
to_reads Blocks s w said fits r =
    let P : List Said → Type 0 = λ l. IsText Blocks s w l in
    subst P (sym (r.says ∙ append-nil (gives reader (start Blocks s) w))) (text_by Blocks s w fits refl (shape_of Blocks s w) r.complete)

-- a connection ended early exactly where the wire reads as nothing and has no fault
no_early : (m : Mode) (s : Structure) (place : ℕ) (w : List ℕ) → Begins m s place w EndedEarly → ⊥
no_early Stream File place w b = absurd b
no_early Stream Record place w b = absurd (let e : EndedEarly ≡ BadEscape (place + 1) = b.named in cc)
no_early Blocks s place w b = elim b [
  | inl f ↦ absurd (let e : EndedEarly ≡ Suspect place = f.named in cc)
  | inr g ↦ elim g [
    | inl f ↦ absurd (let e : EndedEarly ≡ BadMarker place = f.named in cc)
    | inr f ↦ absurd (let e : EndedEarly ≡ BadMarker (place + 3 + length f.good) = f.named in cc)
  ]
]

complete_end : (r : Reading) → is_complete r → at_wire_end r ≡ failed EndedEarly → ⊥
complete_end (going n p) done e = absurd (let x : going n p ≡ failed EndedEarly = sym (rw done refl) ∙ e in cc)
complete_end (failed f) done e = absurd done

pub early_reads : (m : Mode) (s : Structure) (w : List ℕ) (said : List Said) → at_wire_end (after reader (start m s) w) ≡ failed EndedEarly → Reads m s w said → ⊥
early_reads m s w said e r = complete_end (after reader (start m s) w) (reads_to m s w said r).complete e

pub early_faults : (m : Mode) (s : Structure) (w : List ℕ) (fault : FrameFault) → length w < 2 ^ 64 → at_wire_end (after reader (start m s) w) ≡ failed EndedEarly → IsFault m s w fault → ⊥
early_faults m s w fault fits e f =
    let same : fault ≡ EndedEarly = same_fault fault EndedEarly (sym (ap at_wire_end (fault_fails m s w fault fits f)) ∙ e) in
    let P : FrameFault → Type 0 = λ g. Begins m s (length (units_octets f.units)) f.rest g in
    no_early m s (length (units_octets f.units)) f.rest (subst P same f.begins)

early_stands : (m : Mode) (s : Structure) (w : List ℕ) (said : List Said) → is_complete_at (first_place m s) ≡ false → IsOpenWire m s w said → at_wire_end (after reader (start m s) w) ≡ failed EndedEarly
early_stands m s w said early o =
    let x = open_stands m s w said o in
    let none : is_complete_at x.at ≡ false = x.early ∙ early in
    ap at_wire_end (sym x.moves.state) ∙ rw none refl

early_by : (m : Mode) (s : Structure) (w : List ℕ) → is_complete_at (first_place m s) ≡ false → Shape m s w
    → ((said : List Said) → IsText m s w said → ⊥) → ((fault : FrameFault) → IsFault m s w fault → ⊥) → at_wire_end (after reader (start m s) w) ≡ failed EndedEarly
early_by m s w early (is_open said o) no_text no_fault = early_stands m s w said early o
early_by m s w early (is_text said t) no_text no_fault = absurd (no_text said t)
early_by m s w early (is_bad b) no_text no_fault = absurd (let f = bad_fault m s w b in no_fault f.0 f.1)

pub neither_early : (m : Mode) (s : Structure) (w : List ℕ) → ((said : List Said) → Reads m s w said → ⊥) → ((fault : FrameFault) → IsFault m s w fault → ⊥)
    → at_wire_end (after reader (start m s) w) ≡ failed EndedEarly
neither_early Stream File w no_text no_fault = absurd (no_text (octets_said w ++ says end_file ∷ []) refl)
neither_early Stream Record w no_text no_fault = early_by Stream Record w refl (shape_of Stream Record w) no_text no_fault
neither_early Blocks s w no_text no_fault = early_by Blocks s w refl (shape_of Blocks s w) no_text no_fault
