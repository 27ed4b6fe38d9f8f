-- The fold over all octets.
use Rattle.std.proofs.Common.{◌≡◌, ℕ, ◌+◌, ◌-◌, ◌<◌, ◌≤◌, ◌⊎◌, inl, inr, List, [], ◌∷◌, ◌++◌, Bool, true, false, ◌==◌, ◌&&◌, refl, sym, ap, subst, ◌∙◌, append-nil, arith, length, length-append, map, take, eq-eqb, ne_eqb, eqb-true, lt_irrefl, le-leb, ◌≢◌}
use Rattle.std.specs.Prelude.{nat_le, if◌then◌else◌}
use Rattle.std.specs.List.{flat_map}
use Rattle.ftp_nvt.specs.Lines.{NvtEvent, line, owed, cut, last_octet, text_behind, text_of, without_return, lines_added, events_behind, events, settled}
use Rattle.ftp_nvt.specs.Telnet.{TelnetUnit, data_octet, option, subnegotiation, command, place_behind, unit_ended, units_from, units, is_verb, bare_of, owed_of}
use Rattle.ftp_nvt.specs.declared.line.Stage.{Stage}
use Rattle.ftp_nvt.specs.declared.line.Stage.TheVariants.{Inside, AfterReturn}
use Rattle.ftp_nvt.specs.declared.telnet.TelnetState.{TelnetState}
use Rattle.ftp_nvt.specs.declared.telnet.TelnetState.TheVariants as At
use Rattle.ftp_nvt.proofs.CutLemmas.{decided, no_leb, lines-append-octet, text_behind-append, last_octet-append, rest-append-octet, text_of-return, rest-nil}
use Rattle.ftp_nvt.proofs.LineLemmas.{lines_added-is, lines_added-nil, events_behind-append}
use Rattle.ftp_pieces.specs.Machine.{after, gives}
use Rattle.ftp_nvt.specs.Fold.{Unfinished, no_line, past_limit, skipping, text_with, longer, ended_text, within_step, within_out, line_step, line_out, liner, unit_says, ear, EarGivesEvents}

-- ---- the unfinished line

-- a line that keeps the limit so far, by its octets
abbrev pub standing : List ℕ → Unfinished
standing rest = record { stage = if last_octet 10 rest == 13 then AfterReturn else Inside; count = length rest; text = text_of rest }

-- the reader stands behind these octets of an unfinished line
abbrev pub Stands : ℕ → Unfinished → List ℕ → Type 0
Stands limit u rest = ((length rest ≤ limit) × (u ≡ standing rest)) ⊎ ((limit < length rest) × (u ≡ past_limit))

-- the octets of the line behind one more
abbrev pub rest_behind : List ℕ → ℕ → List ℕ
rest_behind rest c = if c == 10 then [] else rest ++ c ∷ []

-- one octet, and what it settles
pub record Steps (limit : ℕ) (u : Unfinished) (rest : List ℕ) (c : ℕ) : Type 0 where
  pub stands : Stands limit (line_step limit u.stage u c) (rest_behind rest c)
  pub says : line_out limit u.stage u c ≡ settled limit rest c

pub standing-nil : standing [] ≡ no_line
unfolding text_behind
standing-nil = refl

pub stands_nil : (limit : ℕ) → Stands limit no_line []
stands_nil limit = inl (omega arith, sym standing-nil)

pub same_line : (s t : Stage) (m n : ℕ) (x y : List ℕ) → s ≡ t → m ≡ n → x ≡ y
    → (let a : Unfinished = record { stage = s; count = m; text = x } in let b : Unfinished = record { stage = t; count = n; text = y } in a ≡ b)
same_line s t m n x y p q r i = record { stage = p i; count = q i; text = r i }

text_grows : (b : Bool) (text : List ℕ) (c : ℕ) → text_with (if b then AfterReturn else Inside) text c ≡ text ++ (if b && (c == 0) then [] else c ∷ [])
text_grows false text c = refl
text_grows true text c =
    elim (decided (c == 0)) [
      | inl e ↦ rw e (sym (append-nil text))
      | inr e ↦ rw e refl
    ]

grows : (rest : List ℕ) (c : ℕ) → longer (standing rest) c ≡ standing (rest ++ c ∷ [])
grows rest c =
    same_line (if c == 13 then AfterReturn else Inside) (if last_octet 10 (rest ++ c ∷ []) == 13 then AfterReturn else Inside) (length rest + 1) (length (rest ++ c ∷ []))
    (text_with (if last_octet 10 rest == 13 then AfterReturn else Inside) (text_of rest) c) (text_of (rest ++ c ∷ []))
    (ap (λ o. if o == 13 then AfterReturn else Inside) (sym (last_octet-append 10 rest c)))
    (sym (length-append rest (c ∷ [])))
    (text_grows (last_octet 10 rest == 13) (text_of rest) c ∙ sym (text_behind-append 10 rest c))

ends_line : (rest : List ℕ) → ended_text (if last_octet 10 rest == 13 then AfterReturn else Inside) (text_of rest) ≡ text_of (without_return rest)
ends_line rest =
    elim (decided (last_octet 10 rest == 13)) [
      | inl e ↦ rw e (text_of-return rest e ∙ ap text_of (fits e))
      | inr e ↦ rw e refl
    ]
  where
    fits : (last_octet 10 rest == 13) ≡ true → without_return rest ≡ take (length rest - 1) rest
    fits e = rw e refl

-- at each stage but the last it is a line that keeps the limit
step_within : (b : Bool) (limit : ℕ) (u : Unfinished) (c : ℕ) → line_step limit (if b then AfterReturn else Inside) u c ≡ within_step limit u c
step_within true limit u c = refl
step_within false limit u c = refl

out_within : (b : Bool) (limit : ℕ) (u : Unfinished) (c : ℕ) → line_out limit (if b then AfterReturn else Inside) u c ≡ within_out limit u c
out_within true limit u c = refl
out_within false limit u c = refl

skips : (limit : ℕ) (rest : List ℕ) (c : ℕ) → limit ≤ length rest → Stands limit (skipping c) (rest_behind rest c)
skips limit rest c full =
    elim (decided (c == 10)) [
      | inl e ↦ rw e (stands_nil limit)
      | inr e ↦ rw e (inr (omega (arith, length-append rest (c ∷ [])), refl))
    ]

stands_within : (limit : ℕ) (rest : List ℕ) (c : ℕ) → length rest ≤ limit → Stands limit (within_step limit (standing rest) c) (rest_behind rest c)
stands_within limit rest c keeps =
    elim (decided (length rest == limit)) [
      | inl e ↦ let same : length rest ≡ limit = eqb-true (length rest) limit e in rw e (skips limit rest c (omega arith))
      | inr e ↦
          rw e (elim (decided (c == 10)) [
            | inl f ↦ rw f (stands_nil limit)
            | inr f ↦
                let less : length rest ≢ limit = λ same. not_both (length rest == limit) (eq-eqb (length rest) limit same) e in
                rw f (inl (omega (arith, length-append rest (c ∷ []), less), grows rest c))
          ])
    ]
  where
    not_both : (b : Bool) → b ≡ true → b ≡ false → ⊥
    not_both true p q = absurd (cc)
    not_both false p q = absurd (cc)

says_within : (limit : ℕ) (rest : List ℕ) (c : ℕ) → length rest ≤ limit → within_out limit (standing rest) c ≡ settled limit rest c
says_within limit rest c keeps =
    elim (decided (length rest == limit)) [
      | inl e ↦ rw e refl
      | inr e ↦
          let less : length rest ≢ limit = λ same. not_both (length rest == limit) (eq-eqb (length rest) limit same) e in
          let below : nat_le limit (length rest) ≡ false = no_leb limit (length rest) (omega (arith, less)) in
          rw (e, below) (elim (decided (c == 10)) [
            | inl f ↦ rw f (ap (λ l. line l ∷ []) (ends_line rest))
            | inr f ↦ rw f refl
          ])
    ]
  where
    not_both : (b : Bool) → b ≡ true → b ≡ false → ⊥
    not_both true p q = absurd (cc)
    not_both false p q = absurd (cc)

says_past : (limit : ℕ) (rest : List ℕ) (c : ℕ) → limit < length rest → [] ≡ settled limit rest c
says_past limit rest c over =
    let other : (length rest == limit) ≡ false = ne_eqb (length rest) limit (λ e. lt_irrefl limit (omega arith)) in
    let passed : nat_le limit (length rest) ≡ true = passes limit (length rest) (omega arith) in
    rw (other, passed) refl
  where
    passes : (a b : ℕ) → a ≤ b → nat_le a b ≡ true
    passes a b h = le-leb a b h

pub steps : (limit : ℕ) (u : Unfinished) (rest : List ℕ) (c : ℕ) → Stands limit u rest → Steps limit u rest c
steps limit u rest c (inl (keeps, is)) =
    let P : Unfinished → Type 0 = λ v. Steps limit v rest c in
    let b : Bool = last_octet 10 rest == 13 in
    let Q : Unfinished → Type 0 = λ v. Stands limit v (rest_behind rest c) in
    subst P (sym is) (record {
      stands = subst Q (sym (step_within b limit (standing rest) c)) (stands_within limit rest c keeps);
      says = out_within b limit (standing rest) c ∙ says_within limit rest c keeps;
    })
steps limit u rest c (inr (over, is)) =
    let P : Unfinished → Type 0 = λ v. Steps limit v rest c in
    subst P (sym is) (record { stands = skips limit rest c (omega arith); says = says_past limit rest c over })

-- ---- units

-- the reader stands behind these bare octets
abbrev pub StandsBehind : ℕ → Unfinished → List ℕ → Type 0
StandsBehind limit u before = Stands limit u (cut before).rest

octet_stands : (limit : ℕ) (u : Unfinished) (before : List ℕ) (c : ℕ) → StandsBehind limit u before → StandsBehind limit (line_step limit u.stage u c) (before ++ c ∷ [])
octet_stands limit u before c h =
    let P : List ℕ → Type 0 = λ r. Stands limit (line_step limit u.stage u c) r in
    subst P (sym (rest-append-octet before c)) (steps limit u (cut before).rest c h).stands

octet_says : (limit : ℕ) (u : Unfinished) (before : List ℕ) (c : ℕ) → StandsBehind limit u before → line_out limit u.stage u c ≡ lines_added limit before (c ∷ [])
octet_says limit u before c h =
    (steps limit u (cut before).rest c h).says
    ∙ sym (lines_added-is limit before (c ∷ []) (settled limit (cut before).rest c) (lines-append-octet limit before c))

-- a unit, behind bare octets
pub record Says (limit : ℕ) (u : Unfinished) (before : List ℕ) (unit : TelnetUnit) : Type 0 where
  pub stands : StandsBehind limit (after (liner limit) u (bare_of unit)) (before ++ bare_of unit)
  pub says : unit_says limit u unit ≡ lines_added limit before (bare_of unit) ++ map owed (owed_of unit)

none_said : (limit : ℕ) (u : Unfinished) (before : List ℕ) (xs : List NvtEvent) → StandsBehind limit u before
    → StandsBehind limit u (before ++ []) × ([] ++ xs ≡ lines_added limit before [] ++ xs)
none_said limit u before xs h =
    let P : List ℕ → Type 0 = λ l. StandsBehind limit u l in
    (subst P (sym (append-nil before)) h, ap (λ l. l ++ xs) (sym (lines_added-nil limit before)))

unit_said : (limit : ℕ) (u : Unfinished) (before : List ℕ) (unit : TelnetUnit) → StandsBehind limit u before → Says limit u before unit
unit_said limit u before (data_octet c) h = record {
  stands = octet_stands limit u before c h;
  says = ap (λ l. l ++ []) (append-nil (line_out limit u.stage u c) ∙ octet_says limit u before c h);
}
unit_said limit u before (option verb c) h = let n = none_said limit u before (map owed (owed_of (option verb c))) h in record { stands = n.0; says = n.1 }
unit_said limit u before subnegotiation h = let n = none_said limit u before [] h in record { stands = n.0; says = n.1 }
unit_said limit u before (command c) h = let n = none_said limit u before [] h in record { stands = n.0; says = n.1 }

-- ---- octets

-- an octet ends no unit, or one
pub ends : (place : TelnetState) (c : ℕ) → (unit_ended place c ≡ []) ⊎ ((unit : TelnetUnit) × (unit_ended place c ≡ unit ∷ []))
ends At.Between c =
    elim (decided (c == 255)) [
      | inl e ↦ inl (rw e refl)
      | inr e ↦ inr (data_octet c, rw e refl)
    ]
ends At.Command c =
    elim (decided (c == 255)) [
      | inl e ↦ inr (data_octet 255, rw e refl)
      | inr e ↦
          elim (decided (c == 250)) [
            | inl f ↦ inl (rw (e, f) refl)
            | inr f ↦
                elim (decided (is_verb c)) [
                  | inl g ↦ inl (rw (e, f, g) refl)
                  | inr g ↦ inr (command c, rw (e, f, g) refl)
                ]
          ]
    ]
ends (At.Option verb) c = inr (option verb c, refl)
ends At.Inside c = inl refl
ends At.InsideCommand c =
    elim (decided (c == 240)) [
      | inl e ↦ inr (subnegotiation, rw e refl)
      | inr e ↦ inl (rw e refl)
    ]

-- at most one unit, behind bare octets
pub record SayAll (limit : ℕ) (u : Unfinished) (before : List ℕ) (us : List TelnetUnit) : Type 0 where
  pub stands : StandsBehind limit (after (liner limit) u (flat_map bare_of us)) (before ++ flat_map bare_of us)
  pub says : flat_map (unit_says limit u) us ≡ events_behind limit before us

say_none : (limit : ℕ) (u : Unfinished) (before : List ℕ) → StandsBehind limit u before → SayAll limit u before []
say_none limit u before h =
    let P : List ℕ → Type 0 = λ l. StandsBehind limit u l in record { stands = subst P (sym (append-nil before)) h; says = refl }

say_one : (limit : ℕ) (u : Unfinished) (before : List ℕ) (unit : TelnetUnit) → StandsBehind limit u before → SayAll limit u before (unit ∷ [])
say_one limit u before unit h =
    let s = unit_said limit u before unit h in
    let P : List ℕ → Type 0 = λ l. StandsBehind limit (after (liner limit) u l) (before ++ l) in
    record { stands = subst P (sym (append-nil (bare_of unit))) s.stands; says = ap (λ l. l ++ []) s.says }

pub say_all : (limit : ℕ) (u : Unfinished) (before : List ℕ) (place : TelnetState) (c : ℕ) → StandsBehind limit u before → SayAll limit u before (unit_ended place c)
say_all limit u before place c h =
    let P : List TelnetUnit → Type 0 = λ us. SayAll limit u before us in
    elim (ends place c) [
      | inl e ↦ subst P (sym e) (say_none limit u before h)
      | inr e ↦ subst P (sym e.1) (say_one limit u before e.0 h)
    ]

ear_gives : (limit : ℕ) (place : TelnetState) (u : Unfinished) (before octets : List ℕ) → StandsBehind limit u before
    → gives (ear limit) (record { place = place; line = u }) octets ≡ events_behind limit before (units_from place octets)
ear_gives limit place u before [] h = refl
ear_gives limit place u before (c ∷ cs) h =
    let s = say_all limit u before place c h in
    let us : List TelnetUnit = unit_ended place c in
    ap (λ l. l ++ gives (ear limit) (record { place = place_behind place c; line = after (liner limit) u (flat_map bare_of us) }) cs) s.says
    ∙ ap (λ l. events_behind limit before us ++ l)
    (ear_gives limit (place_behind place c) (after (liner limit) u (flat_map bare_of us)) (before ++ flat_map bare_of us) cs s.stands)
    ∙ sym (events_behind-append limit before us (units_from (place_behind place c) cs))

-- nothing was heard
pub first_stands : (limit : ℕ) → StandsBehind limit no_line []
first_stands limit = let P : List ℕ → Type 0 = λ r. Stands limit no_line r in subst P (sym rest-nil) (stands_nil limit)

pub ear_gives_events : EarGivesEvents
unfolding events units
ear_gives_events limit octets = ear_gives limit At.Between no_line [] octets (first_stands limit)
