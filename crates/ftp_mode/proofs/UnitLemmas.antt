-- The reader over the units of a wire.
use Rattle.std.proofs.Common.{◌≡◌, ℕ, ◌-◌, ◌≤◌, ◌^◌, List, [], ◌∷◌, ◌++◌, length, true, if◌then◌else◌, refl, ap, sym, subst, ◌∙◌, arith, append-nil, length-append}
use Rattle.std.specs.List.{AllByRecursion}
use Rattle.ftp_pieces.specs.Machine.{after, gives}
use Rattle.ftp_settings.specs.declared.representation.Structure.{Structure}
use Rattle.ftp_settings.specs.declared.representation.Structure.TheVariants.{File, Record}
use Rattle.ftp_settings.specs.declared.representation.Mode.{Mode}
use Rattle.ftp_settings.specs.declared.representation.Mode.TheVariants.{Stream, Block as Blocks}
use Rattle.ftp_mode.specs.Said.{Said}
use Rattle.ftp_mode.specs.Stream.{is_code, code_said, code_ends}
use Rattle.ftp_mode.specs.Units.{WireUnit, one, escape, whole, unit_octets, unit_said, unit_ends, IsUnit, GoesOn, units_octets, units_said, IsText}
use Rattle.ftp_mode.specs.Count.{count_on, next}
use Rattle.ftp_mode.specs.Reading.{going, Place, outside, ended, first_place, start, reader}
use Rattle.ftp_mode.specs.Deframing.{MovesReading}
use Rattle.ftp_mode.proofs.MoveLemmas.{moves_append, counted, block_moves}

-- where the reader is behind a unit
abbrev pub unit_next : Mode → Structure → WireUnit → Place
unit_next m s u = if unit_ends u then ended else first_place m s

code_moves : (n code : ℕ) → is_code code ≡ true
    → MovesReading (going n outside) (going (count_on n 2) (if code_ends code then ended else outside)) (255 ∷ code ∷ []) (code_said code)
code_moves n code is = record {
  state = rw is (ap (λ k. going k (if code_ends code then ended else outside)) (omega arith));
  says = sym (append-nil (code_said code));
}

pub unit_moves : (m : Mode) (s : Structure) (n : ℕ) (u : WireUnit) → IsUnit m s u
    → MovesReading (going n (first_place m s)) (going (count_on n (length (unit_octets u))) (unit_next m s u)) (unit_octets u) (unit_said u)
unit_moves Stream File n (one c) h = record { state = refl; says = refl }
unit_moves Stream File n (escape code) h = absurd h
unit_moves Stream File n (whole b) h = absurd h
unit_moves Stream Record n (one c) h = record { state = rw h refl; says = rw h refl }
unit_moves Stream Record n (escape code) h = code_moves n code h
unit_moves Stream Record n (whole b) h = absurd h
unit_moves Blocks s n (one c) h = absurd h
unit_moves Blocks s n (escape code) h = absurd h
unit_moves Blocks s n (whole b) h = block_moves n b h

-- a unit that something follows
going_on : (m : Mode) (s : Structure) (n : ℕ) (u : WireUnit) → GoesOn m s u
    → MovesReading (going n (first_place m s)) (going (count_on n (length (unit_octets u))) (first_place m s)) (unit_octets u) (unit_said u)
going_on m s n u h =
    let P : Place → Type 0 = λ p. MovesReading (going n (first_place m s)) (going (count_on n (length (unit_octets u))) p) (unit_octets u) (unit_said u) in
    subst P (ap (λ b. if b then ended else first_place m s) h.1) (unit_moves m s n u h.0)

-- the last unit
ending : (m : Mode) (s : Structure) (n : ℕ) (u : WireUnit) → IsUnit m s u → unit_ends u ≡ true
    → MovesReading (going n (first_place m s)) (going (count_on n (length (unit_octets u))) ended) (unit_octets u) (unit_said u)
ending m s n u h e =
    let P : Place → Type 0 = λ p. MovesReading (going n (first_place m s)) (going (count_on n (length (unit_octets u))) p) (unit_octets u) (unit_said u) in
    subst P (ap (λ b. if b then ended else first_place m s) e) (unit_moves m s n u h)

pub units_moves : (m : Mode) (s : Structure) (n : ℕ) (us : List WireUnit) → n ≤ 2 ^ 64 - 1 → AllByRecursion (GoesOn m s) us
    → MovesReading (going n (first_place m s)) (going (count_on n (length (units_octets us))) (first_place m s)) (units_octets us) (units_said us)
units_moves m s n [] fits each = record { state = ap (λ k. going k (first_place m s)) (omega arith); says = refl }
units_moves m s n (u ∷ us) fits each =
    let k = count_on n (length (unit_octets u)) in
    let all = moves_append (going n (first_place m s)) (going k (first_place m s)) (going (count_on k (length (units_octets us))) (first_place m s))
    (unit_octets u) (units_octets us) (unit_said u) (units_said us) (going_on m s n u each.0) (units_moves m s k us (omega arith) each.1) in
    record {
      state = ap (λ i. going i (first_place m s)) (omega (arith, length-append (unit_octets u) (units_octets us))) ∙ all.state;
      says = all.says;
    }

ended_counts : (n : ℕ) (w : List ℕ) → MovesReading (going n ended) (going (counted n w) ended) w []
ended_counts n [] = record { state = refl; says = refl }
ended_counts n (c ∷ w) = let rest = ended_counts (next n) w in record { state = rest.state; says = rest.says }

-- behind a text the reader is at its end
pub record Ends (m : Mode) (s : Structure) (w : List ℕ) (said : List Said) : Type 0 where
  pub count : ℕ
  pub moves : MovesReading (start m s) (going count ended) w said

pub text_moves : (m : Mode) (s : Structure) (w : List ℕ) (said : List Said) → IsText m s w said → Ends m s w said
text_moves m s w said t =
    let n = count_on 0 (length (units_octets t.units)) in
    let k = count_on n (length (unit_octets t.last)) in
    let last = moves_append (going n (first_place m s)) (going k ended) (going (counted k t.rest) ended) (unit_octets t.last) t.rest (unit_said t.last) []
    (ending m s n t.last t.fits t.ends) (ended_counts k t.rest) in
    let all = moves_append (start m s) (going n (first_place m s)) (going (counted k t.rest) ended) (units_octets t.units) (unit_octets t.last ++ t.rest)
    (units_said t.units) (unit_said t.last ++ []) (units_moves m s 0 t.units (omega arith) t.each) last in
    record {
      count = counted k t.rest;
      moves = record {
        state = all.state ∙ ap (after reader (start m s)) (sym t.is);
        says = t.says ∙ ap (λ l. units_said t.units ++ l) (sym (append-nil (unit_said t.last))) ∙ all.says ∙ ap (gives reader (start m s)) (sym t.is);
      };
    }
